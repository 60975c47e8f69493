-- The part of the parser function of an interface's items that is a function of the code.
use Rattle.std.specs.Prelude.{List}
use Rattle.mesa_base.specs.declared.identifier.Identifier.{Identifier}
use Rattle.mesa_lexer.specs.declared.token.Kind.TheVariants as k
use Rattle.mesa_lexer.specs.declared.mark.Mark.TheVariants.{Colon}
use Rattle.syntax_trees.specs.declared.syntax.Labeled.{Labeled}
use Rattle.syntax_trees.specs.declared.syntax.Defined.{Defined}
use Rattle.token_cursor.specs.Parsing.{Parser, ◌>>=◌, ◌>>◌, pure, need}
use Rattle.token_cursor.specs.ReadNames.{names_from}
use Rattle.grammar_rules.specs.Grammar.{labeled}
use Rattle.grammar_rules.specs.ReadNested.{Nested}
use Rattle.grammar_rules.specs.ReadStatements.{semicolon}
use Rattle.grammar_rules.specs.ReadModules as r

-- an item with its names, of which the first was taken
unfoldable pub definition : Nested → Identifier → Parser (Labeled (List Identifier) Defined)
definition q i = do
  ns ← names_from i
  need (k.Mark Colon)
  x ← r.defined q
  need semicolon
  pure (labeled ns x)
