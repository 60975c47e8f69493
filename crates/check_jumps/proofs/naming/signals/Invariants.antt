use Rattle.std.proofs.Common.{◌≡◌, drop, map}
use Rattle.check_rules.specs.Names.{signals}
use Rattle.check_state.specs.Views.{arm_label, around, state}
use Rattle.check_jumps.specs.Arms.{signal}
use Rattle.check_jumps.proofs.Gathering.{gathered, behind}
use Rattle.check_jumps.proofs.naming.signals.Given as goal

abbrev pub invariant-loop-name : goal.invariant-loop-name
invariant-loop-name l =
    signals (around l.around) l.names (state l.fn.state) ≡ behind (map arm_label l.labels) (gathered (signal (around l.around)) (drop l.name-index l.names) (state l.state))
