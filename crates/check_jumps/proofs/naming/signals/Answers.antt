use Rattle.std.proofs.Common.{rules, ◌∙◌}
use Rattle.check_state.specs.Views.{arm_label, around}
use Rattle.check_jumps.specs.Arms.{signal}
use Rattle.check_jumps.proofs.Gathering.{gathered_at, gathered_turn, gathered_end}
use Rattle.check_jumps.proofs.Signals.{signals_begin}
use Rattle.check_jumps.proofs.naming.signals.Goals as goal

pub loop-name-init : goal.loop-name-init
loop-name-init c = rw c.new-labels.ensures (signals_begin _ _ _)

pub returns-in_err-signal : goal.returns-in_err-signal
returns-in_err-signal c = rw c.loop-name.invariant (rw (gathered_at (signal (around c.args.around.now)) _ c.args.names.now c.loop-name.name-index c.name-item.result _ (search rules) (search rules)) (search rules))

pub loop-name-preserved : goal.loop-name-preserved
loop-name-preserved c =
    c.loop-name.invariant
    ∙ gathered_turn arm_label (signal (around c.args.around.now)) _ _ _ c.args.names.now c.loop-name.name-index c.name-item.result _ _ (search rules) (search rules) c.in_ok-signal.ensures c.in_ok-push.ensures.ok

pub returns : goal.returns
returns c = rw c.loop-name.invariant (gathered_end (signal (around c.args.around.now)) _ c.args.names.now c.loop-name.name-index _ (search rules))
