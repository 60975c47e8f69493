use Rattle.std.proofs.Common.{◌≡◌}
use Rattle.check_state.specs.Views.{state}
use Rattle.check_programs.proofs.SignalLoops.{to_mean}
use Rattle.check_programs.proofs.signals.settle_signals.Given as goal

abbrev pub invariant-loop-i : goal.invariant-loop-i
invariant-loop-i l = to_mean l.names l.items 0 l.first (state l.fn.state) ≡ to_mean l.names l.items l.i l.number (state l.state)
