-- What a text's tokens come to, in terms of the grammar alone: a tree, or a fault at its place.
use Rattle.std.specs.Prelude.{◌≡◌, ℕ, suc, ◌<◌, ◌≤◌, List, [], ◌∷◌, ◌++◌, length, take, drop, Some}
use Rattle.mesa_base.specs.declared.place.Place.{Place}
use Rattle.mesa_lexer.specs.declared.token.Token.{Token}
use Rattle.mesa_lexer.specs.declared.fault.SyntaxFault.{SyntaxFault}
use Rattle.mesa_lexer.specs.declared.fault.SyntaxFault.TheVariants as f
use Rattle.token_cursor.specs.Grammars.{Why, Unexpected, TooDeep}
use Rattle.cmesa_grammar.specs.declared.syntax.Config.{Config}
use Rattle.cmesa_grammar.specs.Grammar.{IsConfig, deep_config, limit}

-- Some text starts with these tokens.
abbrev pub Starts : List Token → Type 0
Starts ts = (ws : List Token) × (x : Config) × IsConfig (ts ++ ws) x []

-- Some text starts with the tokens up to the one at i, and in a tree of it that is the word CONFIGURATION of the first configuration that stands
-- inside `limit` others.
abbrev pub TooDeepAt : List Token → ℕ → Type 0
TooDeepAt ts i = (ws : List Token) × (x : Config) × (d : IsConfig (take (suc i) ts ++ ws) x []) × (deep_config limit d ≡ Some (drop i (take (suc i) ts ++ ws)))

-- At none of the tokens before n is something too deep.
abbrev pub IsShallow : List Token → ℕ → Type 0
IsShallow ts n = (i : ℕ) → i < n → TooDeepAt ts i → ⊥

-- The tokens are a text with this tree, and nothing is too deep.
abbrev pub ParsesConfiguration : List Token → Config → Type 0
ParsesConfiguration ts x = IsConfig ts x [] × IsShallow ts (length ts)

-- Some text starts with the tokens before i, and none with the one at i too, or, where i is the end, they are no text. Nothing is too deep.
pub record UnexpectedAt (ts : List Token) (i : ℕ) : Type 0 where
  pub within : i ≤ length ts
  pub before : Starts (take i ts)
  pub there : i < length ts → Starts (take (suc i) ts) → ⊥
  pub at_end : i ≡ length ts → (x : Config) → IsConfig ts x [] → ⊥
  pub shallow : IsShallow ts (length ts)

-- The fault stands at the token i; i is the number of tokens where it stands at the text's end. Where the cause is TooDeep, something is
-- too deep at i, and nothing before.
abbrev pub FaultAt : List Token → Why → ℕ → Type 0
FaultAt ts Unexpected i = UnexpectedAt ts i
FaultAt ts TooDeep i = (i < length ts) × TooDeepAt ts i × IsShallow ts i

abbrev pub place_at : List Token → Place → Place
place_at [] end = end
place_at (t ∷ us) end = t.place

-- the place of the token i, or of the text's end
abbrev pub place_of : List Token → Place → ℕ → Place
place_of ts end i = place_at (drop i ts) end

-- the place of the fault
pub record IsFault (ts : List Token) (end : Place) (why : Why) (place : Place) : Type 0 where
  pub at : ℕ
  pub fault : FaultAt ts why at
  pub here : place ≡ place_of ts end at

-- why the tokens of a text that ends there are no configuration
pub data HasSyntaxFault (ts : List Token) (end : Place) : SyntaxFault → Type 0 where
  unexpected : {p : Place} → IsFault ts end Unexpected p → HasSyntaxFault ts end (f.Unexpected p)
  too_deep : {p : Place} → IsFault ts end TooDeep p → HasSyntaxFault ts end (f.TooDeep p)

-- a tree, or why not and the fault's token
pub data Answer : Type 0 where
  Tree : Config → Answer
  Fault : Why → ℕ → Answer

abbrev pub Answers : List Token → Answer → Type 0
Answers ts (Tree x) = ParsesConfiguration ts x
Answers ts (Fault why i) = FaultAt ts why i

-- The tokens have exactly one answer.
pub record OneAnswer (ts : List Token) : Type 0 where
  pub answer : Answer
  pub holds : Answers ts answer
  pub only : (other : Answer) → Answers ts other → other ≡ answer
