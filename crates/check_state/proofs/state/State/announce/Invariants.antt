use Rattle.std.proofs.Common.{◌≡◌, drop}
use Rattle.check_rules.specs.Names.{announce}
use Rattle.check_state.specs.Views.{state}
use Rattle.check_state.proofs.state.State.announce.Given as goal

abbrev pub invariant-loop-name : goal.invariant-loop-name
invariant-loop-name l = announce l.names (state l.fn.self) ≡ announce (drop l.name-index l.names) (state l.self)
