-- Parts of the parser functions of statements that are functions of the code, and with what a block ends.
use Rattle.std.specs.Prelude.{Some, None}
use Rattle.mesa_base.specs.declared.place.Place.{Place}
use Rattle.mesa_lexer.specs.declared.token.Kind.{Kind}
use Rattle.mesa_lexer.specs.declared.token.Kind.TheVariants as k
use Rattle.mesa_lexer.specs.declared.word.Word.TheVariants.{EndWord}
use Rattle.mesa_lexer.specs.declared.mark.Mark.TheVariants.{RightBrace}
use Rattle.token_cursor.specs.Parsing.{Parser, ◌>>=◌, pure}
use Rattle.syntax_trees.specs.declared.syntax.Expr.{Expr}
use Rattle.syntax_trees.specs.declared.syntax.PlainItem.{PlainItem}
use Rattle.syntax_trees.specs.declared.syntax.PlainItem.TheVariants.{Initial, Constant}
use Rattle.syntax_trees.specs.declared.syntax.Statement.{Statement}
use Rattle.syntax_trees.specs.declared.syntax.Statement.TheVariants as s
use Rattle.syntax_trees.specs.declared.syntax.TypeExp.{TypeExp}
use Rattle.grammar_statements.specs.declared.blocks.BlockEnd.{BlockEnd}
use Rattle.grammar_statements.specs.declared.blocks.BlockEnd.TheVariants.{ByWord, ByBrace}
use Rattle.grammar_rules.specs.declared.begun.Begun.TheVariants.{Fresh}
use Rattle.grammar_rules.specs.ReadNested.{Nested}

abbrev pub last_of : BlockEnd → Kind
last_of ByWord = k.Word EndWord
last_of ByBrace = k.Mark RightBrace

module _ (q : Nested) where
  -- the value behind a type and an arrow
  unfoldable pub initial : TypeExp → Parser PlainItem
  initial x = do
    y ← q.expr Fresh
    pure (Initial x y)

  -- the value behind a type and an equals sign
  unfoldable pub fixed : TypeExp → Parser PlainItem
  fixed x = do
    y ← q.expr Fresh
    pure (Constant x y)

  -- the statement behind ELSE
  unfoldable pub alternative : Place → Expr → Statement → Parser Statement
  alternative p c x = do
    y ← q.stmt None
    pure (s.If p c x (Some y))
