-- One turn of a run of operators.
use Rattle.std.proofs.Common.{◌≡◌, List, [], ◌∷◌, ◌++◌, Option, Some, Result, Ok, sym, ap, subst, ◌∙◌}
use Rattle.mesa_base.specs.declared.place.Place.{Place}
use Rattle.mesa_lexer.specs.declared.token.Token.{Token}
use Rattle.mesa_lexer.specs.declared.token.Kind.{Kind}
use Rattle.syntax_trees.specs.declared.syntax.Operator.{Operator}
use Rattle.syntax_trees.specs.declared.syntax.Operation.{Operation}
use Rattle.syntax_trees.specs.declared.syntax.Expr.{Expr}
use Rattle.token_cursor.specs.declared.fault.Stopped.{Stopped}
use Rattle.token_cursor.specs.Parsing.{Out, Got, Parser, and_then, pure, many_turn, many}
use Rattle.token_cursor.specs.Running.{Reads, taken, behind}
use Rattle.token_cursor.proofs.Loops.{Eats}
use Rattle.token_cursor.proofs.Taking.{chosen, many_by}
use Rattle.grammar_rules.specs.Grammar.{step}
use Rattle.grammar_expressions.specs.Runs.{operations}

reads_ok : {A : Type 0} (out : Out A) (r : Result A Stopped) (vs : List Token) (y : A) → Reads out r vs → r ≡ Ok y → out ≡ Got y vs
reads_ok {A = A} out r vs y h e = let P : Result A Stopped → Type 0 = λ r. Reads out r vs in subst P e h

module _ (f : Kind → Option Operator) (operand : Parser Expr) (eats : Eats (many_turn f (operations operand))) where
  abbrev loop : List Operation → Parser (List Operation)
  loop = many f (operations operand)

  pub run_turn : (all held more : List Operation) (ts us vs : List Token) (o : Operator) (p : Place) (y : Expr) (r : Result Expr Stopped)
      → taken f ts ≡ Some (o, p) → us ≡ behind f ts → Reads (operand us) r vs → r ≡ Ok y → held ≡ all → more ≡ held ++ step o p y ∷ []
      → many f (operations operand) all ts ≡ many f (operations operand) more vs
  run_turn all held more ts us vs o p y r e h reads ok same longer = many_by f (operations operand) eats all ts
      ∙ (ap (λ v. chosen v (λ o p us. and_then (operations operand all o p us) loop) (pure all) (behind f ts)) e
      ∙ (ap (λ ws. and_then (operations operand all o p ws) loop) (sym h)
      ∙ (ap (λ out. and_then (and_then out (λ y. pure (all ++ step o p y ∷ []))) loop) (reads_ok (operand us) r vs y reads ok)
      ∙ (ap (λ ss. loop (ss ++ step o p y ∷ []) vs) (sym same)
      ∙ ap (λ ss. loop ss vs) (sym longer)))))
