use Rattle.std.proofs.Common.{◌≡◌}
use Rattle.check_scopes.specs.Counts.{how_many}
use Rattle.check_state.specs.Views.{names}
use Rattle.check_heads.specs.Again.{heads_among}
use Rattle.check_heads.proofs.TakenHeads.{heads_over}
use Rattle.check_heads.proofs.scopes.heads_alone.Given as goal

abbrev pub invariant-loop-name : goal.invariant-loop-name
invariant-loop-name l = heads_over l.rest (names l.heads) ≡ heads_among (names l.fn.names)

abbrev pub decreases-loop-name : goal.decreases-loop-name
decreases-loop-name l = how_many l.rest
