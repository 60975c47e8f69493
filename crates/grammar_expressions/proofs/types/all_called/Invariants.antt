use Rattle.std.proofs.Common.{◌≡◌, ◌++◌, length}
use Rattle.grammar_rules.specs.ReadExpressions.{called}
use Rattle.grammar_expressions.proofs.types.all_called.Given as goal

abbrev pub invariant-names : goal.invariant-names
invariant-names l = called l.fn.names ≡ l.all ++ called l.rest

abbrev pub decreases-names : goal.decreases-names
decreases-names l = length l.rest
