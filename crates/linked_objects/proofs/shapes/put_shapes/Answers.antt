use Rattle.std.proofs.Common.{take_all, ap, ◌∙◌}
use Rattle.link_tables.specs.Parts.{shapes_of}
use Rattle.linked_objects.proofs.Copies.{one_more}
use Rattle.linked_objects.proofs.shapes.put_shapes.Goals as goal

pub loop-object-preserved : goal.loop-object-preserved
loop-object-preserved c =
    one_more c.args.objects.now c.loop-object.object-index c.object-item.result c.in_ok-shape.shape c.loop-object.shapes c.put_shape.new.shapes c.loop-object-test.true
    c.object-item.is c.in_ok-shape.ensures c.in_ok-put_shape.ensures c.loop-object.invariant

pub returns : goal.returns
returns c = c.loop-object.invariant ∙ ap shapes_of (take_all c.loop-object.object-index c.args.objects.now c.loop-object-test.false)
