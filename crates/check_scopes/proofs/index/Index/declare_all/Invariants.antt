-- The names that are still to come, over those that the scope has by now, mean what they are to mean in the end.
use Rattle.std.proofs.Common.{◌≡◌}
use Rattle.std.specs.BTreeMap.{btree_map_len}
use Rattle.check_scopes.specs.Scopes.{over}
use Rattle.check_scopes.specs.Shows.{indexed}
use Rattle.check_scopes.proofs.index.Index.declare_all.Given as goal

abbrev pub invariant-loop-name : goal.invariant-loop-name
invariant-loop-name g l = over (indexed l.rest) (indexed l.self.index) ≡ over (indexed l.fn.names.index) (indexed l.fn.self.index)

abbrev pub decreases-loop-name : goal.decreases-loop-name
decreases-loop-name g l = btree_map_len l.rest
