use Rattle.std.proofs.Common.{◌≡◌}
use Rattle.signaller_examples.specs.Apart.{apart}
use Rattle.signaller_examples.proofs.tests.ranges.Given as goal

abbrev pub invariant-loop-k : goal.invariant-loop-k
invariant-loop-k l = l.table ≡ apart l.k
