-- What the grammars on tokens share.
use Rattle.std.specs.Prelude.{List, Option, Some, None}
use Rattle.mesa_base.specs.declared.place.Place.{Place}
use Rattle.mesa_base.specs.declared.identifier.Identifier.{Identifier}
use Rattle.mesa_lexer.specs.declared.token.Token.{Token}
use Rattle.mesa_lexer.specs.declared.token.Kind.{Kind}
use Rattle.mesa_lexer.specs.declared.token.Kind.TheVariants as k
use Rattle.mesa_lexer.specs.declared.word.Word.{Word}
use Rattle.mesa_lexer.specs.declared.mark.Mark.{Mark}

-- a token of this kind, which stands there
abbrev pub token : Kind → Place → Token
token kind place = record { kind = kind; place = place }

abbrev pub word : Word → Place → Token
word w place = token (k.Word w) place

abbrev pub mark : Mark → Place → Token
mark m place = token (k.Mark m) place

-- the token of a name
abbrev pub spelled : Identifier → Token
spelled i = token (k.Name i.name) i.place

-- why tokens are no text: no text goes on with this token, or here begins what stands inside too many others
pub data Why : Type 0 where
  Unexpected : Why
  TooDeep : Why

-- the first of two places
abbrev pub first : Option (List Token) → Option (List Token) → Option (List Token)
first (Some at) o = Some at
first None o = o
