use Rattle.std.proofs.Common.{◌≡◌, drop}
use Rattle.syntax_trees.specs.PlainSyntax.{lefts}
use Rattle.check_rules.specs.Phrases.{in_lefts}
use Rattle.check_simple_statements.proofs.holding.lefts_hold.Given as goal

abbrev pub invariant-loop-left : goal.invariant-loop-left
invariant-loop-left l = in_lefts (lefts l.all) ≡ in_lefts (lefts (drop l.left-index l.all))
