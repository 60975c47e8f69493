-- Parts of parser functions that are functions of the code.
use Rattle.std.specs.Prelude.{Bool, true, false, List, None}
use Rattle.mesa_base.specs.declared.place.Place.{Place}
use Rattle.mesa_lexer.specs.declared.token.Kind.TheVariants as k
use Rattle.mesa_lexer.specs.declared.mark.Mark.TheVariants.{Colon, LeftBrace, LeftBracket, LeftParenthesis}
use Rattle.mesa_lexer.specs.declared.word.Word.TheVariants.{ArrayWord, BooleanWord, FalseWord, RecordWord, StringWord, TrueWord}
use Rattle.mesa_lexer.specs.declared.word.Word.TheVariants as w
use Rattle.token_cursor.specs.Parsing.{Parser, ◌>>=◌, pure, a_name, choose, option}
use Rattle.mesa_base.specs.declared.identifier.Identifier.{Identifier}
use Rattle.syntax_trees.specs.declared.syntax.TypeBase.TheVariants.{Unsaid}
use Rattle.syntax_trees.specs.declared.syntax.TypeBase.TheVariants as b
use Rattle.syntax_trees.specs.declared.syntax.TypeExp.{TypeExp}
use Rattle.syntax_trees.specs.declared.syntax.TypeExp.TheVariants as t
use Rattle.syntax_trees.specs.declared.syntax.FieldList.{FieldList}
use Rattle.mesa_base.specs.declared.relation.Relation.{Relation}
use Rattle.syntax_trees.specs.declared.syntax.Sign.{Sign}
use Rattle.syntax_trees.specs.declared.syntax.Suffix.{Suffix}
use Rattle.syntax_trees.specs.declared.syntax.Statement.{Statement}
use Rattle.syntax_trees.specs.declared.syntax.Statement.TheVariants as s
use Rattle.syntax_trees.specs.declared.syntax.Expr.{Expr}
use Rattle.syntax_trees.specs.declared.syntax.Expr.TheVariants as e
use Rattle.grammar_rules.specs.ReadNested.{Nested, identifier}
use Rattle.grammar_rules.specs.declared.begun.Begun.TheVariants.{Fresh}
use Rattle.grammar_rules.specs.Grammar.{left, qualified}
use Rattle.grammar_rules.specs.ReadExpressions as ex
use Rattle.grammar_rules.specs.ReadExpressions.{Undecided, all_names, with_names, types_from, enumeration, array, a_record}
use Rattle.grammar_rules.specs.ReadExpressions.{reference, parens, list, raise, primary, sum, interval}

-- a name, taken for a type
abbrev pub called : Identifier → TypeExp
called i = t.Called (qualified i None)

module _ (q : Nested) where
  -- names with no comma behind them
  unfoldable pub decided : Undecided → Parser FieldList
  decided u = option (k.Mark Colon) (λ _. with_names q (all_names u)) (types_from q u)

  -- a type that begins with no name and is no base of an interval
  unfoldable pub other_type : Parser TypeExp
  other_type =
      option (k.Word BooleanWord) (λ p. pure (t.Boolean p))
      (option (k.Word StringWord) (λ p. pure (t.String p))
      (option (k.Mark LeftBrace) (enumeration q)
      (option (k.Word ArrayWord) (array q)
      (option (k.Word RecordWord) (a_record q)
      (do i ← interval q; pure (t.Subrange Unsaid i))))))

  -- a type that begins with no word of a simple type
  unfoldable pub built_type : Parser TypeExp
  built_type =
      option (k.Mark LeftBrace) (enumeration q)
      (option (k.Word ArrayWord) (array q)
      (option (k.Word RecordWord) (a_record q)
      (do i ← interval q; pure (t.Subrange Unsaid i))))

  -- a type that begins with no name
  unfoldable pub nameless_type : Parser TypeExp
  nameless_type =
      option (k.Word w.IntegerWord) (λ p. ex.after_base q (b.OfInteger p) (t.Integer p))
      (option (k.Word w.CardinalWord) (λ p. ex.after_base q (b.OfCardinal p) (t.Cardinal p))
      (option (k.Word w.LongWord) (ex.long_type q)
      (option (k.Word w.CharacterWord) (λ p. ex.after_base q (b.OfCharacter p) (t.Character p))
      other_type)))

  -- a primary that is no literal
  unfoldable pub unit : Parser Expr
  unit =
      choose a_name (λ n p. reference q (identifier n p))
      (option (k.Mark LeftParenthesis) (parens q)
      (option (k.Mark LeftBracket) (λ p. do x ← list q p; pure (e.Constructor x))
      (do x ← raise q; pure (e.Raised x))))

  -- a primary that is no number, character or text
  unfoldable pub truth : Parser Expr
  truth = option (k.Word TrueWord) (λ p. pure (e.Truth p true)) (option (k.Word FalseWord) (λ p. pure (e.Truth p false)) unit)

  -- behind the sign
  unfoldable pub signed : Sign → Place → Parser Expr
  signed sign p = do
    x ← primary q None
    pure (e.Signed sign p x)

  -- behind the mark of a comparison
  unfoldable pub compared : Expr → Bool → Relation → Place → Parser Expr
  compared x b r p = do
    y ← sum q None
    pure (e.Compare x b r p y)

  -- behind IN
  unfoldable pub within : Expr → Bool → Place → Parser Expr
  within x b p = do
    i ← interval q
    pure (e.Within x b p i)

  -- behind the arrow of an assignment
  unfoldable pub assignment : Identifier → List Suffix → Parser Statement
  assignment i ss = do
    x ← q.expr Fresh
    pure (s.Assign (left i ss) x)
