-- A row that is copied is one row more.
use Rattle.std.proofs.Common.{ap, ◌∙◌, take_all, rules}
use Rattle.check_scopes.proofs.Marking.{lists, row_more}
use Rattle.check_scopes.proofs.marks.Marks.copy.Goals as goal

pub loop-row-init : goal.loop-row-init
loop-row-init c = ap lists c.new-rows.ensures.items

pub loop-row-preserved : goal.loop-row-preserved
loop-row-preserved c =
    ap lists c.in_ok-push.ensures.items
    ∙ row_more c.as_slice-row-items.result.now c.loop-row.rows.items c.loop-row.row-index c.row-item.result c.in_ok-from_slice.field-0
    (search rules) (search rules) (search rules) c.loop-row.invariant

pub returns : goal.returns
returns c = c.loop-row.invariant ∙ ap lists (take_all c.loop-row.row-index c.as_slice-row-items.result.now c.loop-row-test.false ∙ c.as_slice-row-items.ensures.value) ∙ c.self.view_is
