-- An operand with its steps, by whether there are steps.
use Rattle.std.proofs.Common.{◌≡◌, List, [], ◌∷◌, refl, ap}
use Rattle.syntax_trees.specs.declared.syntax.Expr.{Expr}
use Rattle.syntax_trees.specs.declared.syntax.Expr.TheVariants as e
use Rattle.syntax_trees.specs.declared.syntax.Operation.{Operation}
use Rattle.grammar_rules.specs.Grammar.{run}

pub run_none : (x : Expr) (ss : List Operation) → ss ≡ [] → run x ss ≡ x
run_none x ss e = ap (run x) e

pub run_some : (x : Expr) (ss : List Operation) → (ss ≡ [] → ⊥) → run x ss ≡ e.Run x ss
run_some x [] h = absurd (h refl)
run_some x (s ∷ ss) h = refl
