-- The grammar of lists of names, which modules and configurations share.
use Rattle.std.specs.Prelude.{List, [], ◌∷◌, ◌++◌}
use Rattle.mesa_base.specs.declared.place.Place.{Place}
use Rattle.mesa_base.specs.declared.identifier.Identifier.{Identifier}
use Rattle.mesa_lexer.specs.declared.token.Token.{Token}
use Rattle.mesa_lexer.specs.declared.mark.Mark.TheVariants.{Comma}
use Rattle.token_cursor.specs.Grammars.{mark, spelled}

-- Names = Name {"," Name}
pub data IsNames : List Token → List Identifier → List Token → Type 0 where
  name : {rest : List Token} {i : Identifier} → IsNames (spelled i ∷ rest) (i ∷ []) rest
  names : {ts rest : List Token} {all : List Identifier} {i : Identifier} {p : Place}
      → IsNames ts all (mark Comma p ∷ spelled i ∷ rest) → IsNames ts (all ++ i ∷ []) rest
