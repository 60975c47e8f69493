-- What a fault shows: its place, where it has one, and its name (rule of this project).
use Rattle.std.specs.Prelude.{ℕ, List, Option, Some, None, codes}
use Rattle.mesa_base.specs.declared.place.Place.{Place}
use Rattle.mesa_lexer.specs.declared.fault.LexFault.{LexFault}
use Rattle.mesa_lexer.specs.declared.fault.LexFault.TheVariants as lex
use Rattle.mesa_lexer.specs.declared.fault.SyntaxFault.{SyntaxFault}
use Rattle.mesa_lexer.specs.declared.fault.SyntaxFault.TheVariants as syntax

abbrev pub lexical_name : LexFault → List ℕ
lexical_name (lex.BadByte place) = codes "BadByte"
lexical_name (lex.OpenString place) = codes "OpenString"
lexical_name (lex.NumberTooLarge place) = codes "NumberTooLarge"
lexical_name (lex.TokenTooLong place) = codes "TokenTooLong"
lexical_name lex.TextTooLong = codes "TextTooLong"
lexical_name lex.Memory = codes "Memory"

abbrev pub lexical_place : LexFault → Option Place
lexical_place (lex.BadByte place) = Some place
lexical_place (lex.OpenString place) = Some place
lexical_place (lex.NumberTooLarge place) = Some place
lexical_place (lex.TokenTooLong place) = Some place
lexical_place lex.TextTooLong = None
lexical_place lex.Memory = None

abbrev pub syntax_name : SyntaxFault → List ℕ
syntax_name (syntax.Unexpected place) = codes "Unexpected"
syntax_name (syntax.TooDeep place) = codes "TooDeep"
syntax_name syntax.Memory = codes "Memory"

abbrev pub syntax_place : SyntaxFault → Option Place
syntax_place (syntax.Unexpected place) = Some place
syntax_place (syntax.TooDeep place) = Some place
syntax_place syntax.Memory = None
