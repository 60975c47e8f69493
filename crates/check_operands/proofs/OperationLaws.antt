-- The level of a run.
use Rattle.std.proofs.Common.{◌≡◌, ◌≤◌, List, [], ◌∷◌, length, get_or, sym, ap, ◌∙◌, arith}
use Rattle.syntax_trees.specs.PlainSyntax as plain
use Rattle.syntax_trees.specs.declared.syntax.Operation.{Operation, out-Operation}
use Rattle.syntax_trees.proofs.PlainForms.{parts_of_operation}
use Rattle.check_rules.specs.Values.{level, level_of}

pub level_first : (os : List Operation) (o : Operation) → 1 ≤ length os → o ≡ get_or os 0 o → level_of (plain.operations os) ≡ level (out-Operation o).operator
level_first [] o some here = absurd (omega (arith, some))
level_first (x ∷ os) o some here = ap (λ f. level_of (f (plain.operations os))) (parts_of_operation x) ∙ ap (λ (y : Operation). level (out-Operation y).operator) (sym here)
