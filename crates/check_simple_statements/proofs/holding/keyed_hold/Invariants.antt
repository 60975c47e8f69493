use Rattle.std.proofs.Common.{◌≡◌, drop}
use Rattle.syntax_trees.specs.PlainSyntax.{keyed_lefts}
use Rattle.check_rules.specs.Phrases.{in_keyed_lefts}
use Rattle.check_simple_statements.proofs.holding.keyed_hold.Given as goal

abbrev pub invariant-loop-one : goal.invariant-loop-one
invariant-loop-one l = in_keyed_lefts (keyed_lefts l.all) ≡ in_keyed_lefts (keyed_lefts (drop l.one-index l.all))
