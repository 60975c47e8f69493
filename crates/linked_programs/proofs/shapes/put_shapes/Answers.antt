use Rattle.std.proofs.Common.{map, ap, sym, ◌∙◌}
use Rattle.std.proofs.lemmas.List.{take_all}
use Rattle.linked_programs.specs.Modules.{shape_in}
use Rattle.linked_programs.proofs.Copying.{shapes_more}
use Rattle.linked_programs.proofs.shapes.put_shapes.Goals as goal

pub loop-typed-preserved : goal.loop-typed-preserved
loop-typed-preserved c =
    shapes_more c.args.modules.now c.loop-typed.typed-index c.typed-item.result c.in_ok-shape.shape c.loop-typed.shapes c.put_shape.new.shapes c.loop-typed-test.true
    (sym c.typed-item.is) c.in_ok-shape.ensures c.in_ok-put_shape.ensures c.loop-typed.invariant

pub returns : goal.returns
returns c = c.loop-typed.invariant ∙ ap (map shape_in) (take_all c.loop-typed.typed-index c.args.modules.now c.loop-typed-test.false)
