use Rattle.std.proofs.Common.{◌≡◌, ◌+◌, drop}
use Rattle.code_rules.specs.Links.{rank}
use Rattle.code_trees.proofs.linking.rank_of.Given as goal

abbrev pub invariant-loop-number : goal.invariant-loop-number
invariant-loop-number l = l.before + rank l.item (drop l.number-index l.used) ≡ rank l.item l.used
