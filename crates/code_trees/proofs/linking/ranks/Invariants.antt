use Rattle.std.proofs.Common.{◌≡◌, drop}
use Rattle.code_trees.specs.LinkTables.{ranks_from}
use Rattle.code_trees.proofs.linking.ranks.Given as goal

abbrev pub invariant-loop-at : goal.invariant-loop-at
invariant-loop-at l = l.ranks ≡ ranks_from l.at 0 l.items (drop l.at l.used)
