use Rattle.std.proofs.Common.{◌≡◌, ◌+◌, drop}
use Rattle.code_rules.specs.OwnCode.{total}
use Rattle.code_trees.proofs.sums.total.Given as goal

abbrev pub invariant-loop-size : goal.invariant-loop-size
invariant-loop-size l = l.words + total (drop l.size-index l.sizes) ≡ total l.sizes
