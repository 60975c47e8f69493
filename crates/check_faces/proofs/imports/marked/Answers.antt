use Rattle.std.proofs.Common.{rules, sym, ◌∙◌}
use Rattle.check_faces.proofs.ImportLaws.{items_end, marked_next, marks_end}
use Rattle.check_faces.proofs.imports.marked.Goals as goal

pub loop-item-preserved : goal.loop-item-preserved
loop-item-preserved c =
    rw c.loop-item.invariant
    (rw (marked_next c.loop-item.numbers c.loop-item.number c.args.items.now c.loop-item._item-index c._item-item.result c.loop-item.rest.now c.in-Some.others.now
    c.in-Some.mark.now (search rules) (search rules) (search rules)) (search rules))

pub returns : goal.returns
returns c =
    sym (c.loop-item.invariant
    ∙ items_end c.loop-item.numbers c.loop-item.number c.args.items.now c.loop-item._item-index c.loop-item.rest.now (search rules))

pub returns-in_default : goal.returns-in_default
returns-in_default c =
    sym (c.loop-item.invariant
    ∙ marks_end c.loop-item.numbers c.loop-item.number c.args.items.now c.loop-item._item-index c.loop-item.rest.now (search rules))
