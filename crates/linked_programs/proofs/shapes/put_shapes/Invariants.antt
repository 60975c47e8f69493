use Rattle.std.proofs.Common.{◌≡◌, map, take}
use Rattle.linked_programs.specs.Modules.{shape_in}
use Rattle.linked_programs.proofs.shapes.put_shapes.Given as goal

abbrev pub invariant-loop-typed : goal.invariant-loop-typed
invariant-loop-typed l = l.shapes ≡ map shape_in (take l.typed-index l.modules)
