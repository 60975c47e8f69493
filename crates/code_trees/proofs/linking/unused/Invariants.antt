use Rattle.std.proofs.Common.{◌≡◌, []}
use Rattle.code_trees.specs.LinkTables.{ranks_from}
use Rattle.code_trees.proofs.linking.unused.Given as goal

abbrev pub invariant-loop-item : goal.invariant-loop-item
invariant-loop-item l = l.ranks ≡ ranks_from l.used 0 l.item []
