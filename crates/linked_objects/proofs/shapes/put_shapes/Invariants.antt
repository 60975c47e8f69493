use Rattle.std.proofs.Common.{◌≡◌, take}
use Rattle.link_tables.specs.Parts.{shapes_of}
use Rattle.linked_objects.proofs.shapes.put_shapes.Given as goal

abbrev pub invariant-loop-object : goal.invariant-loop-object
invariant-loop-object l = l.shapes ≡ shapes_of (take l.object-index l.objects)
