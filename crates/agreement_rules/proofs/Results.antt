-- Results are words.
use Rattle.std.proofs.Common.{◌≡◌, ℕ, zero, suc, ◌+◌, ◌-◌, ◌%◌, ◌/◌, ◌*◌, ◌<◌, ◌≤◌, List, [], ◌∷◌, Bool, true, false, refl, arith}
use Rattle.std.specs.Prelude.{All, ◌&&◌, nat_lt, nat_le}
use Rattle.std.proofs.Math.Nat.{div-le_self, mod-le}
use Rattle.std.proofs.lemmas.Bool.Decides.{nat_tests}
use Rattle.mesa_types.specs.declared.typed_parts.Base.{Base}
use Rattle.mesa_types.specs.declared.typed_parts.Base.TheVariants.{Signed, Unsigned}
use Rattle.mesa_types.specs.declared.typed_parts.Conversion.{Conversion}
use Rattle.mesa_types.specs.declared.typed_parts.Conversion.TheVariants as conversion
use Rattle.mesa_types.specs.declared.typed_parts.Operator.{Operator}
use Rattle.mesa_types.specs.declared.typed_parts.Operator.TheVariants as operator
use Rattle.mesa_types.specs.declared.typed_parts.Range.{Range}
use Rattle.mesa_types.specs.Operators.{Tried, Fine, Faulty, wrap, opposite, is_negative, magnitude_if, magnitude, with_sign, differ, shifted, quotient, remainder, truth, fits, fine_if, fine_or, checked, by_divisor, character, tried, indexed, byte_at}
use Rattle.mesa_types.specs.Longs.{less_of, two_words, opposite_long, tried_long, extended_if, extended, is_in_common, widened, narrowed, is_word_of, shifted_long, on_fine, converted}
use Rattle.mesa_types.proofs.LongLaws.{more_small, less_small, wrap_long_small, FineBelow, tried_long_small}
use Rattle.agreement_rules.specs.Own.{Given, outcome, long_outcome}
use Rattle.agreement_rules.specs.Operators.{offset_of, outcome_by, IsTakenBy}
use Rattle.agreement_rules.specs.Results.{AreWords, ResultsAreWords}

one_word : (x : ℕ) → x < 65536 → AreWords (Given (x ∷ []))
unfolding AreWords
one_word x lt zero d le = lt
one_word x lt (suc k) d le = absurd (omega arith)

wrap_small : (n : ℕ) → wrap n < 65536
unfolding wrap
wrap_small n = omega arith

with_sign_small : (b : Bool) (n : ℕ) → n < 65536 → with_sign b n < 65536
unfolding with_sign opposite
with_sign_small true n lt = wrap_small (65536 - n)
with_sign_small false n lt = lt

magnitude_small : (x : ℕ) → x < 65536 → magnitude x < 65536
unfolding magnitude magnitude_if is_negative
magnitude_small x lt = by_sign (nat_le 32768 x) refl
  where
    by_sign : (b : Bool) → nat_le 32768 x ≡ b → magnitude_if b x < 65536
    by_sign true e = let l : 32768 ≤ x = grind (arith, nat_tests) in omega (arith, l)
    by_sign false e = lt

quotient_small : (b : Base) (x y : ℕ) → x < 65536 → quotient b x y < 65536
unfolding quotient
quotient_small Unsigned x y lt = let e = div-le_self x y in omega (arith, e, lt)
quotient_small Signed x y lt =
    let e = div-le_self (magnitude x) (magnitude y) in
    let d = magnitude_small x lt in
    with_sign_small (differ (is_negative x) (is_negative y)) (magnitude x / magnitude y) (omega (arith, e, d))

remainder_small : (b : Base) (x y : ℕ) → x < 65536 → remainder b x y < 65536
unfolding remainder
remainder_small Unsigned x y lt = let e = mod-le x y in omega (arith, e, lt)
remainder_small Signed x y lt =
    let e = mod-le (magnitude x) (magnitude y) in
    let d = magnitude_small x lt in with_sign_small (is_negative x) (magnitude x % magnitude y) (omega (arith, e, d))

divided : (y n : ℕ) → n < 65536 → AreWords (outcome (by_divisor y n))
unfolding by_divisor outcome AreWords
divided zero n lt = tt
divided (suc y) n lt = one_word n lt

where_fine : (b : Bool) (n : ℕ) → (b ≡ true → n < 65536) → AreWords (outcome (fine_if b n))
unfolding fine_if outcome AreWords
where_fine true n h = one_word n (h refl)
where_fine false n h = tt

character_small : (p : ℕ) → AreWords (outcome (character p))
unfolding character
character_small p = where_fine (nat_le 32768 p && nat_lt p 33024) (p - 32768) (λ e. let l : p < 33024 = grind (arith, nat_tests) in omega (arith, l))

tried_small : (o : Operator) (x y : ℕ) → x < 65536 → y < 65536 → AreWords (outcome (tried o x y))
unfolding tried outcome
tried_small operator.Add x y lx ly = one_word (wrap (x + y)) (wrap_small (x + y))
tried_small operator.Subtract x y lx ly = one_word (wrap (x + (65536 - y))) (wrap_small (x + (65536 - y)))
tried_small operator.Multiply x y lx ly = one_word (wrap (x * y)) (wrap_small (x * y))
tried_small (operator.Divide b) x y lx ly = divided y (quotient b x y) (quotient_small b x y lx)
tried_small (operator.Modulo b) x y lx ly = divided y (remainder b x y) (remainder_small b x y lx)
tried_small (operator.AddToCharacter b) x y lx ly = character_small (x + shifted b y)
tried_small (operator.SubtractFromCharacter b) x y lx ly = character_small (x + 65536 - shifted b y)

byte_small : (text : List ℕ) (n : ℕ) → All (λ b. b < 256) text → AreWords (outcome (byte_at text n))
unfolding byte_at fine_or outcome AreWords
byte_small [] n h = tt
byte_small (b ∷ text) zero h = one_word b (let x = h 0 0 (omega arith) in omega (arith, x))
byte_small (b ∷ text) (suc n) h = byte_small text n (λ k d lt. h (suc k) d (omega (arith, lt)))

index_small : (o words : ℕ) (t : Tried) → AreWords (offset_of o words t)
unfolding offset_of AreWords
index_small o words (Fine e) = one_word (wrap (o + e * words)) (wrap_small (o + e * words))
index_small o words (Faulty fault) = tt

truth_small : (b : Bool) → truth b < 65536
unfolding truth
truth_small true = omega arith
truth_small false = omega arith

-- LONG numbers

two_small : (x : ℕ) → x < 4294967296 → AreWords (Given (two_words x))
unfolding AreWords two_words
two_small x lt zero d le = more_small x lt
two_small x lt (suc zero) d le = less_small x
two_small x lt (suc (suc k)) d le = absurd (omega arith)

below : (n : ℕ) → n < 4294967296 → FineBelow 4294967296 (Fine n)
unfolding FineBelow
below n lt = lt

fine_small : (t : Tried) → FineBelow 4294967296 t → AreWords (long_outcome t)
unfolding long_outcome FineBelow AreWords
fine_small (Fine n) h = two_small n h
fine_small (Faulty fault) h = tt

extended_by_sign : (b : Bool) (w : ℕ) → w < 65536 → extended_if b w < 4294967296
unfolding extended_if
extended_by_sign true w lt = omega (arith, lt)
extended_by_sign false w lt = omega (arith, lt)

extended_small : (b : Base) (w : ℕ) → w < 65536 → extended b w < 4294967296
unfolding extended
extended_small Signed w lt = extended_by_sign (is_negative w) w lt
extended_small Unsigned w lt = omega (arith, lt)

long_where_fine : (b : Bool) (n : ℕ) → n < 4294967296 → AreWords (long_outcome (fine_if b n))
unfolding fine_if long_outcome AreWords
long_where_fine true n lt = two_small n lt
long_where_fine false n lt = tt

widened_small : (from to : Base) (w : ℕ) → w < 65536 → AreWords (long_outcome (widened from to w))
unfolding widened
widened_small Signed Signed w lt = fine_small (Fine (extended Signed w)) (below (extended Signed w) (extended_small Signed w lt))
widened_small Signed Unsigned w lt = long_where_fine (is_in_common (extended Signed w)) (extended Signed w) (extended_small Signed w lt)
widened_small Unsigned Signed w lt = fine_small (Fine (extended Unsigned w)) (below (extended Unsigned w) (extended_small Unsigned w lt))
widened_small Unsigned Unsigned w lt = fine_small (Fine (extended Unsigned w)) (below (extended Unsigned w) (extended_small Unsigned w lt))

narrowed_small : (b : Bool) (m : ℕ) (r : Range) → m < 65536 → AreWords (outcome (on_fine (fine_if b m) (checked r)))
unfolding fine_if on_fine checked outcome AreWords
narrowed_small true m r lt = where_fine (fits r m) m (λ e. lt)
narrowed_small false m r lt = tt

conversion_small : (c : Conversion) (x : ℕ) → IsTakenBy c x → AreWords (outcome_by c (converted c x))
unfolding IsTakenBy outcome_by converted narrowed
conversion_small conversion.Kept x lt = fine_small (Fine x) (below x lt)
conversion_small (conversion.Widened from to) x lt = widened_small from to x lt
conversion_small (conversion.Narrowed from to r) x lt = narrowed_small (is_word_of to (shifted_long from x)) (less_of x) r (less_small x)
conversion_small conversion.InCommon x lt = long_where_fine (is_in_common x) x lt

pub results_are_words : ResultsAreWords
unfolding checked opposite opposite_long
results_are_words = record {
  byte_of = byte_small;
  check = λ r x lt. where_fine (fits r x) x (λ e. lt);
  conversion = conversion_small;
  index = λ r first n words o x. index_small o words (indexed r first n x);
  operator = tried_small;
  long_operator = λ o x y lx ly. fine_small (tried_long o x y) (tried_long_small o x y lx);
  negation = λ x. one_word (opposite x) (wrap_small (65536 - x));
  long_leaf = two_small;
  long_negation = λ x. two_small (opposite_long x) (wrap_long_small (4294967296 - x));
  test = λ b. one_word (truth b) (truth_small b);
}
