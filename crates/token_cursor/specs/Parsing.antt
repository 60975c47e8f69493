-- Parsers as functions on lists of tokens, from which those of both grammars are made. One token of lookahead decides.
use Rattle.std.specs.Prelude.{ℕ, zero, suc, Bool, true, false, ◌||◌, cond, List, [], ◌∷◌, length, Option, Some, None}
use denote.Enum.Bare.{sameb}
use Rattle.mesa_base.specs.declared.place.Place.{Place}
use Rattle.mesa_lexer.specs.declared.token.Token.{Token}
use Rattle.mesa_lexer.specs.declared.token.Kind.{Kind}
use Rattle.mesa_lexer.specs.declared.token.Kind.TheVariants as k
use Rattle.mesa_lexer.specs.declared.word.Word.{Word}
use Rattle.mesa_lexer.specs.declared.mark.Mark.{Mark}
pub use Rattle.token_cursor.specs.Grammars.{token, word, mark, spelled, first, Why, Unexpected, TooDeep}
use Rattle.mesa_lexer.specs.contracts.word.Word as w
use Rattle.mesa_lexer.specs.contracts.mark.Mark as m

-- what was read, or why not, with the tokens from there on
pub data Out (A : Type 0) : Type 0 where
  Got : A → List Token → Out A
  Stop : Why → List Token → Out A

abbrev pub Parser : Type 0 → Type 0
Parser A = List Token → Out A

abbrev pub and_then : {A B : Type 0} → Out A → (A → Parser B) → Out B
and_then (Got a rest) f = f a rest
and_then (Stop why rest) f = Stop why rest

infixl 10 ◌>>=◌
abbrev pub ◌>>=◌ : {A B : Type 0} → Parser A → (A → Parser B) → Parser B
p >>= f = λ ts. and_then (p ts) f

infixl 10 ◌>>◌
abbrev pub ◌>>◌ : {A B : Type 0} → Parser A → Parser B → Parser B
p >> q = p >>= (λ _. q)

abbrev pub pure : {A : Type 0} → A → Parser A
pure a = λ ts. Got a ts

abbrev pub refuse : {A : Type 0} → Parser A
refuse = λ ts. Stop Unexpected ts

-- is this word or mark of that kind?
abbrev pub only : Kind → Kind → Bool
only (k.Word a) (k.Word b) = sameb w.the_type b a
only (k.Mark a) (k.Mark b) = sameb m.the_type b a
only _ _ = false

-- a test of kinds that says what it found
abbrev pub exactly : Kind → Kind → Option (Unit {0})
exactly kind other = cond (only kind other) (Some tt) None

abbrev pub found : {O : Type 0} → Option O → Bool
found (Some o) = true
found None = false

-- the kinds in which a test finds something
abbrev pub finds : {O : Type 0} → (Kind → Option O) → Kind → Bool
finds f kind = found (f kind)

-- one of these words and marks
abbrev pub among : List Kind → Kind → Bool
among [] other = false
among (kind ∷ kinds) other = only kind other || among kinds other

-- the name of a kind that has one
abbrev pub a_name : Kind → Option (List ℕ)
a_name (k.Name name) = Some name
a_name _ = None

abbrev pub a_number : Kind → Option ℕ
a_number (k.Number n) = Some n
a_number _ = None

abbrev pub a_char : Kind → Option ℕ
a_char (k.Char n) = Some n
a_char _ = None

abbrev pub a_text : Kind → Option (List ℕ)
a_text (k.Text bytes) = Some bytes
a_text _ = None

abbrev pub picked : {O A : Type 0} → Option O → (O → Place → Parser A) → Parser A → Token → List Token → Out A
picked (Some o) p q t ts = p o t.place ts
picked None p q t ts = q (t ∷ ts)

-- takes the next token where the test finds something, and goes on with that; else it goes the other way
unfoldable pub choose : {O A : Type 0} → (Kind → Option O) → (O → Place → Parser A) → Parser A → Parser A
choose f p q [] = q []
choose f p q (t ∷ ts) = picked (f t.kind) p q t ts

-- the same where the next token is this word or mark
abbrev pub option : {A : Type 0} → Kind → (Place → Parser A) → Parser A → Parser A
option kind p q = choose (exactly kind) (λ _. p) q

-- takes this word or mark, which must come
unfoldable pub need : Kind → Parser Place
need kind = option kind pure refuse

-- by the next token, which is not taken
unfoldable pub when : {A : Type 0} → (Kind → Bool) → Parser A → Parser A → Parser A
when f p q [] = q []
when f p q (t ∷ ts) = cond (f t.kind) p q (t ∷ ts)

-- a loop's step gives the state to go on with, or what was read
pub data Turned (A B : Type 0) : Type 0 where
  Again : A → Turned A B
  Done : B → Turned A B

abbrev pub go_on : {A B : Type 0} → (A → Parser B) → Turned A B → Parser B
go_on f (Again a) = f a
go_on f (Done b) = pure b

unfoldable pub turns : {A B : Type 0} → (A → Parser (Turned A B)) → ℕ → A → Parser B
turns body zero a = body a >>= go_on (λ _. refuse)
turns body (suc n) a = body a >>= go_on (turns body n)

-- each step that goes on takes a token, so that the tokens bound the steps
unfoldable pub repeat : {A B : Type 0} → (A → Parser (Turned A B)) → A → Parser B
repeat body a = λ ts. turns body (length ts) a ts

abbrev pub and_again : {A B : Type 0} → Parser A → Parser (Turned A B)
and_again p = p >>= (λ a. pure (Again a))

-- as long as the test finds something
unfoldable pub many_turn : {O A : Type 0} → (Kind → Option O) → (A → O → Place → Parser A) → A → Parser (Turned A A)
many_turn f step a = choose f (λ o place. and_again (step a o place)) (pure (Done a))

abbrev pub many : {O A : Type 0} → (Kind → Option O) → (A → O → Place → Parser A) → A → Parser A
many f step a = repeat (many_turn f step) a

-- further items, each after a separator; one more separator may stand at the end
unfoldable pub ended_turn : {A : Type 0} → Kind → (Kind → Bool) → (A → Parser A) → A → Parser (Turned A A)
ended_turn separator begins step a = option separator (λ _. when begins (and_again (step a)) (pure (Done a))) (pure (Done a))

abbrev pub ended : {A : Type 0} → Kind → (Kind → Bool) → (A → Parser A) → A → Parser A
ended separator begins step a = repeat (ended_turn separator begins step) a

-- a parser at the level where nothing more may nest
unfoldable pub too_deep : {A : Type 0} → (Kind → Bool) → Parser A
too_deep begins = when begins (λ ts. Stop TooDeep ts) refuse
