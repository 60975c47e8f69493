use Rattle.std.proofs.Common.{sym, arith}
use Rattle.signal_survey.proofs.Ordering.{few_signals, own_signal, no_signal, one_preceding, instance_preceding}
use Rattle.signal_survey.proofs.signals.add_own.Goals as goal

pub returns-in_default : goal.returns-in_default
returns-in_default c =
    instance_preceding c.args.image.now c.args.instance 0 c.args.signals.now (λ b h. absurd (no_signal c.args.image.now c.args.instance b (sym c.in_default.ensures) h)) c.requires

pub overflow_cast-number : goal.overflow_cast-number
overflow_cast-number c =
    let few = few_signals c.in-Some.code.now in let l = c.loop-number-test.true in let e = c.len-number-end.ensures in omega (arith, few, l, e)

pub loop-number-preserved : goal.loop-number-preserved
loop-number-preserved c =
    one_preceding c.args.image.now c.args.instance c.loop-number.number c.loop-number.signals c.push.new.self c.in_ok-push.ensures.ok c.loop-number.invariant

pub returns : goal.returns
returns c =
    instance_preceding c.args.image.now c.args.instance c.loop-number.number c.loop-number.signals
    (λ b h.
    let l = own_signal c.args.image.now c.args.instance b c.in-Some.code.now (sym c.in-Some.ensures) h in
    let t = c.loop-number-test.false in let e = c.len-number-end.ensures in omega (arith, l, t, e)) c.loop-number.invariant
