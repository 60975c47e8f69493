-- What own code gives are words, where its operands' are. Of literals, variables and fields `Show` says so; a number and the length of a
-- string are words where the module and the image are valid.
use Rattle.std.specs.Prelude.{ℕ, ◌<◌, List, [], ◌∷◌, Bool, All}
use Rattle.mesa_types.specs.declared.typed_parts.Conversion.{Conversion}
use Rattle.mesa_types.specs.declared.typed_parts.Operator.{Operator}
use Rattle.mesa_types.specs.declared.typed_parts.Range.{Range}
use Rattle.mesa_types.specs.Operators.{opposite, truth, checked, tried, indexed, byte_at}
use Rattle.mesa_types.specs.Longs.{two_words, opposite_long, tried_long, converted}
use Rattle.agreement_rules.specs.Own.{Outcome, Given, Raised, outcome, long_outcome}
use Rattle.agreement_rules.specs.Operators.{offset_of, outcome_by, IsTakenBy}

-- each that is given is a word of 16 bits
unfoldable pub AreWords : Outcome → Type 0
AreWords (Given ws) = All (λ w. w < 65536) ws
AreWords (Raised fault) = Unit {0}

pub record ResultsAreWords : Type 0 where
  pub byte_of : (text : List ℕ) (n : ℕ) → All (λ b. b < 256) text → AreWords (outcome (byte_at text n))
  pub check : (r : Range) (x : ℕ) → x < 65536 → AreWords (outcome (checked r x))
  pub conversion : (c : Conversion) (x : ℕ) → IsTakenBy c x → AreWords (outcome_by c (converted c x))
  pub index : (r : Range) (first n words o x : ℕ) → AreWords (offset_of o words (indexed r first n x))
  pub operator : (o : Operator) (x y : ℕ) → x < 65536 → y < 65536 → AreWords (outcome (tried o x y))
  pub long_operator : (o : Operator) (x y : ℕ) → x < 4294967296 → y < 4294967296 → AreWords (long_outcome (tried_long o x y))
  pub negation : (x : ℕ) → AreWords (Given (opposite x ∷ []))
  pub long_leaf : (n : ℕ) → n < 4294967296 → AreWords (Given (two_words n))
  pub long_negation : (x : ℕ) → AreWords (Given (two_words (opposite_long x)))
  pub test : (b : Bool) → AreWords (Given (truth b ∷ []))
