use Rattle.std.proofs.Common.{map, rules, arith}
use Rattle.mesa_types.specs.Plain.{target}
use Rattle.check_state.specs.Views as words
use Rattle.check_simple_statements.specs.Views as view
use Rattle.check_simple_statements.proofs.Chains.{onto_none}
use Rattle.check_simple_statements.proofs.TargetLaws.{in_order_at, in_order_end, targets_more}
use Rattle.check_simple_statements.proofs.storing.in_order.Goals as goal

pub loop-i-init : goal.loop-i-init
loop-i-init g c = rw c.new-done.ensures (onto_none _)

pub loop-i-preserved : goal.loop-i-preserved
loop-i-preserved g c =
    rw c.loop-i.invariant
    (rw (in_order_at (words.around c.args.around.now) c.args.start (map target c.loop-i.done) c.loop-i.offset c.args.all.now c.args.fields.now c.loop-i.i c.index-all-i.result c.index-fields-i.result (words.state c.loop-i.state)
    (omega (arith, c.min-i-end.ensures, c.loop-i-test.true)) c.index-all-i.is (omega (arith, c.min-i-end.ensures, c.loop-i-test.true)) c.index-fields-i.is)
    (search (rules, targets_more)))

pub returns-in_err-held : goal.returns-in_err-held
returns-in_err-held g c =
    rw c.loop-i.invariant
    (rw (in_order_at (words.around c.args.around.now) c.args.start (map target c.loop-i.done) c.loop-i.offset c.args.all.now c.args.fields.now c.loop-i.i c.index-all-i.result c.index-fields-i.result (words.state c.loop-i.state)
    (omega (arith, c.min-i-end.ensures, c.loop-i-test.true)) c.index-all-i.is (omega (arith, c.min-i-end.ensures, c.loop-i-test.true)) c.index-fields-i.is)
    (search rules))

pub returns : goal.returns
unfolding view.targets
returns g c =
    rw c.loop-i.invariant
    (rw (in_order_end (words.around c.args.around.now) c.args.start (map target c.loop-i.done) c.loop-i.offset c.args.all.now c.args.fields.now c.loop-i.i (words.state c.loop-i.state)
    (omega (arith, c.min-i-end.ensures, c.loop-i-test.false)))
    (search rules))
