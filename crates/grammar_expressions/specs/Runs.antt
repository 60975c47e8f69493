-- A run of operators of one rank, whichever rank it is.
use Rattle.std.specs.Prelude.{List, [], ◌∷◌, ◌++◌, Option}
use Rattle.mesa_base.specs.declared.place.Place.{Place}
use Rattle.mesa_lexer.specs.declared.token.Kind.{Kind}
use Rattle.token_cursor.specs.Parsing.{Parser, ◌>>=◌, pure, many}
use Rattle.syntax_trees.specs.declared.syntax.Operator.{Operator}
use Rattle.syntax_trees.specs.declared.syntax.Expr.{Expr}
use Rattle.syntax_trees.specs.declared.syntax.Operation.{Operation}
use Rattle.grammar_rules.specs.Grammar.{run, step}

-- one operand more, behind its operator
abbrev pub operations : Parser Expr → List Operation → Operator → Place → Parser (List Operation)
operations operand ss o p = do
  y ← operand
  pure (ss ++ step o p y ∷ [])

-- behind the first operand
abbrev pub run_behind : (Kind → Option Operator) → Parser Expr → Expr → Parser Expr
run_behind operators operand x = do
  ss ← many operators (operations operand) []
  pure (run x ss)
