use Rattle.survey_code.proofs.Placing.{start_over, all_innermost, keeps_so}
use Rattle.survey_code.proofs.positions.positions_of.Goals as goal

pub open_from-innermost-requires-clause-over : goal.open_from-innermost-requires-clause-over
open_from-innermost-requires-clause-over c =
    start_over c.args.procedure.now c.as_slice-table.result.now c.as_slice-table.ensures c.as_slice-entry-items.result.now c.as_slice-entry-items.ensures c.loop-entry.entry-index _
    c.loop-entry-test.true c.loop-entry.count c.begun_upto-begun.result c.loop-entry.innermost c.start_of-start.result c.loop-entry.invariant.2 c.start_of-start.ensures

pub outward_of-position-requires-clause-innermost : goal.outward_of-position-requires-clause-innermost
outward_of-position-requires-clause-innermost c =
    all_innermost c.as_slice-table.result.now _ c.begun_upto-begun.result c.begun_upto-begun.ensures.bound c.begun_upto-begun.ensures.rest c.open_from-innermost.result c.open_from-innermost.ensures

pub loop-entry-preserved : goal.loop-entry-preserved
loop-entry-preserved c =
    let w = c.loop-entry.invariant in
    let b = c.begun_upto-begun.ensures in
    keeps_so c.args.procedure.now c.as_slice-table.result.now c.as_slice-table.ensures c.as_slice-entry-items.result.now c.as_slice-entry-items.ensures c.loop-entry.entry-index _
    c.requires.order c.requires.fills c.loop-entry.positions.items c.push.new.self.items c.open_from-innermost.result c.outward_of-position.result c.begun_upto-begun.result
    c.loop-entry-test.true w.0 w.1 b.bound b.begun c.open_from-innermost.ensures c.outward_of-position.ensures c.in_ok-push.ensures.items
