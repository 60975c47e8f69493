use Rattle.std.proofs.Common.{◌≡◌}
use Rattle.signaller.specs.Search.{arms_before}
use Rattle.signaller.proofs.search.arms_before.Given as goal

abbrev pub invariant-loop-before : goal.invariant-loop-before
invariant-loop-before l = l.count ≡ arms_before l.table l.before
