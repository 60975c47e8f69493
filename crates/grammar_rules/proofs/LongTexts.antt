-- LONG INTEGER and LONG CARDINAL as tokens: LONG is followed by one of the two words, and the type stands at LONG.
use Rattle.std.proofs.Common.{◌≡◌, List, [], ◌∷◌, None, refl}
use Rattle.std.specs.Prelude.{false}
use Rattle.mesa_base.specs.declared.place.Place.{Place}
use Rattle.mesa_lexer.specs.declared.token.Token.{Token}
use Rattle.mesa_lexer.specs.declared.word.Word.TheVariants.{BooleanWord, CardinalWord, IntegerWord, LongWord}
use Rattle.mesa_lexer.specs.declared.mark.Mark.TheVariants.{LeftBracket}
use Rattle.token_cursor.specs.Parsing.{word, mark, Out, Got, Stop, Unexpected, refuse, choose, need}
use Rattle.syntax_trees.specs.declared.syntax.TypeExp.{TypeExp}
use Rattle.syntax_trees.specs.declared.syntax.TypeExp.TheVariants as t
use Rattle.grammar_rules.specs.ReadNested.{Nested}
use Rattle.grammar_rules.specs.ReadExpressions as ex
use Rattle.grammar_rules.specs.Grammar as g
use Rattle.grammar_rules.specs.Grammar.{IsType}

abbrev at : Place
at = record { token = 3; line = 1; column = 7 }

abbrev behind : Place
behind = record { token = 4; line = 1; column = 12 }

-- nothing nested stands in such a type
abbrev none : Nested
none = record { can = false; stmt = λ i. refuse; expr = λ b. refuse; type = λ i. refuse }

unfoldable type : List Token → Out TypeExp
unfolding ex.type_exp ex.long_type choose need
type ts = ex.type_exp none None ts

long_integer : type (word LongWord at ∷ word IntegerWord behind ∷ []) ≡ Got (t.LongInteger at) []
unfolding type
long_integer = refl

long_cardinal : type (word LongWord at ∷ word CardinalWord behind ∷ []) ≡ Got (t.LongCardinal at) []
unfolding type
long_cardinal = refl

-- no interval is of such a type: what follows is left
no_interval : type (word LongWord at ∷ word IntegerWord behind ∷ mark LeftBracket behind ∷ []) ≡ Got (t.LongInteger at) (mark LeftBracket behind ∷ [])
unfolding type
no_interval = refl

-- another word, or the text's end, is refused where it stands
no_other : type (word LongWord at ∷ word BooleanWord behind ∷ []) ≡ Stop Unexpected (word BooleanWord behind ∷ [])
unfolding type
no_other = refl

no_end : type (word LongWord at ∷ []) ≡ Stop Unexpected []
unfolding type
no_end = refl

derived : (rest : List Token) → IsType (word LongWord at ∷ word IntegerWord behind ∷ rest) (t.LongInteger at) rest
derived rest = g.long_integer
