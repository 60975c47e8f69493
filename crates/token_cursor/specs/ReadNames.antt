-- The parser functions of names.
use Rattle.std.specs.Prelude.{ℕ, List, [], ◌∷◌, ◌++◌, Option}
use Rattle.mesa_base.specs.declared.place.Place.{Place}
use Rattle.mesa_base.specs.declared.identifier.Identifier.{Identifier}
use Rattle.mesa_lexer.specs.declared.token.Kind.{Kind}
use Rattle.mesa_lexer.specs.declared.token.Kind.TheVariants as k
use Rattle.mesa_lexer.specs.declared.mark.Mark.TheVariants.{Comma}
use Rattle.token_cursor.specs.Parsing.{Parser, ◌>>=◌, pure, refuse, exactly, a_name, choose, many}

abbrev pub identifier : List ℕ → Place → Identifier
identifier n p = record { name = n; place = p }

abbrev pub comma : Kind → Option (Unit {0})
comma = exactly (k.Mark Comma)

unfoldable pub named : Parser Identifier
named = choose a_name (λ n p. pure (identifier n p)) refuse

abbrev pub names_step : List Identifier → Unit {0} → Place → Parser (List Identifier)
names_step all _ _ = do
  i ← named
  pure (all ++ i ∷ [])

-- names, of which the first was taken
unfoldable pub names_from : Identifier → Parser (List Identifier)
names_from i = many comma names_step (i ∷ [])

unfoldable pub names : Parser (List Identifier)
names = do
  i ← named
  names_from i
