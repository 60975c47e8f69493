-- Which words show which values (rule of this project). A string has no words of its own, since two literals may have the same bytes; so
-- a value is read out of words, and what else is said of words is said by that.
use Rattle.std.specs.Prelude.{◌≡◌, ℕ, zero, suc, ◌+◌, ◌*◌, ◌<◌, List, length, slice_index}
use Rattle.mesa_types.specs.Longs.{long_of}
use Rattle.mesa_types.specs.Typed.{Kind, Ordinal, Longs, Texts, Array, Record, Kinds, NoKinds, AndKind}
use Rattle.mesa_types.specs.Shapes.{words_in, words_in_all}
use Rattle.source_meaning.specs.Value.{Value, Word, Long, Text, Many, Values, NoValues, AndValue}

-- the words of a frame, or of the globals of an instance, by slot
abbrev pub Slots : Type 0
Slots = ℕ → ℕ

-- the bytes of a string, by its two words
abbrev pub Strings : Type 0
Strings = ℕ → ℕ → List ℕ

-- words as slots from 0 on; past the last one they are zeros
unfoldable pub slots_of : List ℕ → Slots
slots_of ws n = slice_index ws n

-- so many values, by their number
unfoldable pub each : (count : ℕ) → (ℕ → Value) → Values
each zero f = NoValues
each (suc n) f = AndValue (f 0) (each n (λ i. f (suc i)))

-- the value of a kind whose words begin at a slot
unfoldable mutual
  pub value_at : Strings → Slots → ℕ → Kind → Value
  value_at texts m s Ordinal = Word (m s)
  -- the more significant word is the first
  value_at texts m s Longs = Long (long_of (m s) (m (s + 1)))
  value_at texts m s Texts = Text (texts (m s) (m (s + 1)))
  value_at texts m s (Array n k) = Many (each n (λ i. value_at texts m (s + i * words_in k) k))
  value_at texts m s (Record ks) = Many (values_at texts m s ks)

  -- one after the other
  pub values_at : Strings → Slots → ℕ → Kinds → Values
  values_at texts m s NoKinds = NoValues
  values_at texts m s (AndKind k ks) = AndValue (value_at texts m s k) (values_at texts m (s + words_in k) ks)

-- each is a word of 16 bits
abbrev pub Small : Slots → Type 0
Small m = (n : ℕ) → m n < 65536

-- these words are those of values of these kinds
pub record Show (texts : Strings) (ks : Kinds) (vs : Values) (ws : List ℕ) : Type 0 where
  pub size : length ws ≡ words_in_all ks
  pub worth : vs ≡ values_at texts (slots_of ws) 0 ks
  pub small : Small (slots_of ws)
