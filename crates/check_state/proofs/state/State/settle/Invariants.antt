use Rattle.std.proofs.Common.{◌≡◌, drop}
use Rattle.check_state.specs.Views.{state, meaning}
use Rattle.check_state.proofs.DeclaringLoops.{all_mean}
use Rattle.check_state.proofs.state.State.settle.Given as goal

abbrev pub invariant-loop-name : goal.invariant-loop-name
invariant-loop-name l = all_mean (meaning l.meaning) l.names (state l.fn.self) ≡ all_mean (meaning l.meaning) (drop l.name-index l.names) (state l.self)
