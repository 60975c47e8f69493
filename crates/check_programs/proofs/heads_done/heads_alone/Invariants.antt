-- The names that are still to come, over those that are there by now, are those that are to be there in the end.
use Rattle.std.proofs.Common.{◌≡◌}
use Rattle.check_scopes.specs.Counts.{how_many}
use Rattle.check_scopes.specs.Shows.{valued}
use Rattle.check_rules.specs.Programs.{heads_alone}
use Rattle.check_state.specs.Views.{names}
use Rattle.check_programs.proofs.HeadScopes.{still}
use Rattle.check_programs.proofs.heads_done.heads_alone.Given as goal

abbrev pub invariant-loop-name : goal.invariant-loop-name
invariant-loop-name l = still (valued l.rest) (names l.alone) ≡ heads_alone (names l.fn.names)

abbrev pub decreases-loop-name : goal.decreases-loop-name
decreases-loop-name l = how_many l.rest
