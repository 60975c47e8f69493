use Rattle.std.proofs.Common.{◌≡◌, ◌++◌, drop}
use Rattle.config_tree.specs.Outward.{exported, shown}
use Rattle.config_tree.proofs.Pairs.{lists}
use Rattle.config_tree.proofs.outward.export_records.Given as goal

-- the indexes so far, and what the scopes that are left show
abbrev pub invariant-loop-scope : goal.invariant-loop-scope
invariant-loop-scope l = shown l.records ++ lists exported (drop l.scope-index l.scope-items) ≡ lists exported l.scope-items
