use Rattle.include_checker.proofs.Rows.{rows_begin, rows_more, rows_end}
use Rattle.include_checker.proofs.naming.rows_of.Goals as goal

pub loop-text-init : goal.loop-text-init
loop-text-init c = rows_begin c.args.bases.now c.new-names.result c.new-names.ensures

pub loop-text-preserved : goal.loop-text-preserved
loop-text-preserved c =
    rows_more c.args.bases.now c.loop-text.names c.push.new.self c.args.texts.now c.loop-text.text-index c.text-item.result c.text-item.result c.in_ok-row.row c.as_slice.result.now
    c.loop-text-test.true c.text-item.is c.as_slice.ensures c.in_ok-push.ensures.ok c.in_ok-row.ensures c.loop-text.invariant

pub returns : goal.returns
returns c = rows_end c.args.bases.now c.loop-text.names c.args.texts.now c.loop-text.text-index c.loop-text-test.false c.loop-text.invariant
