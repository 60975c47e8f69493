use Rattle.std.proofs.Common.{◌≡◌, ◌++◌, drop}
use Rattle.config_tree.specs.Outward.{imported, shown}
use Rattle.config_tree.proofs.Pairs.{lists}
use Rattle.config_tree.proofs.outward.import_records.Given as goal

-- the indexes so far, and what the scopes that are left show
abbrev pub invariant-loop-scope : goal.invariant-loop-scope
invariant-loop-scope l = shown l.records ++ lists imported (drop l.scope-index l.scope-items) ≡ lists imported l.scope-items
