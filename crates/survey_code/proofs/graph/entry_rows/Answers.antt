use Rattle.survey_code.proofs.Building.{entry_step}
use Rattle.survey_code.proofs.graph.entry_rows.Goals as goal

pub loop-number-preserved : goal.loop-number-preserved
loop-number-preserved c =
    entry_step c.args.code.now c.args.procedure.now c.as_slice-entries.result.now c.loop-number.rows c.push.new.self c.in_ok-row.row c.loop-number.number _ c.as_slice-entries.ensures
    c.loop-number.invariant.0 c.loop-number-test.true c.loop-number.invariant.1 c.in_ok-row.ensures c.in_ok-push.ensures.ok
