use Rattle.std.proofs.Common.{arith}
use Rattle.signal_survey.proofs.Shaped.{row_none, row_more, row_all}
use Rattle.signal_survey.proofs.shapes.empty_row.Goals as goal

pub loop-cell-init : goal.loop-cell-init
loop-cell-init c = row_none c.new-row.result.items c.new-row.ensures.items

pub loop-cell-preserved : goal.loop-cell-preserved
loop-cell-preserved c =
    row_more c.loop-cell.cell c.loop-cell.row.items c.push.new.self.items _ c.in_ok-push.ensures.items c.new.ensures c.loop-cell.invariant

pub returns : goal.returns
returns c =
    row_all c.loop-cell.cell c.args.count c.loop-cell.row.items (let l = c.loop-cell-test.false in let e = c.loop-cell.auto.cell-end in omega (arith, l, e)) c.loop-cell.invariant
