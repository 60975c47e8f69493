use Rattle.std.proofs.Common.{◌∷◌, [], ◌++◌, Option, ap, ◌∙◌, arith}
use Rattle.signaller.specs.declared.signal_id.SignalId.{SignalId}
use Rattle.machine_ready.proofs.Linked.{bound_none, bound_more, bound_all}
use Rattle.machine_ready.proofs.links.signals_bound.Goals as goal

pub loop-number-init : goal.loop-number-init
loop-number-init c = bound_none c.args.links.now c.args.table.now c.new-signals.result c.new-signals.ensures

pub loop-number-preserved : goal.loop-number-preserved
loop-number-preserved c =
    bound_more c.args.links.now c.args.table.now c.loop-number.number _ _ c.loop-number.signals c.push.new.self
    c.loop-number-test.true (let t = c.loop-number-test.true in let r = c.requires in omega (arith, t, r))
    (c.in_ok-push.ensures.ok ∙ ap (λ (s : Option SignalId). c.loop-number.signals ++ s ∷ []) c.signal_bound.ensures) c.loop-number.invariant

pub returns : goal.returns
returns c = bound_all c.args.links.now c.args.table.now c.loop-number.number c.loop-number.signals c.loop-number-test.false c.loop-number.invariant
