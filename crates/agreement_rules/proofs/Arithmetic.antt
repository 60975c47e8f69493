-- What checks and tests of words tell, in numbers.
use Rattle.std.proofs.Common.{◌≡◌, ℕ, zero, suc, ◌+◌, ◌-◌, ◌<◌, ◌≤◌, ◌⊎◌, [], ◌∷◌, Bool, true, false, not, refl, sym, ap, ◌∙◌, inl, inr, ⊎_elim, arith}
use Rattle.std.specs.Prelude.{◌&&◌, nat_eq, nat_lt, nat_le}
use Rattle.std.proofs.lemmas.Bool.{cases_lt}
use Rattle.std.proofs.lemmas.Bool.Decides.{nat_tests}
use Rattle.mesa_types.specs.declared.typed_parts.Base.{Base}
use Rattle.mesa_types.specs.declared.typed_parts.Range.TheVariants.{From}
use Rattle.mesa_types.specs.Operators.{OutOfBounds, shifted, truth, is_true, fits, fine_if, character}
use Rattle.agreement_rules.specs.Own.{Given, Raised, outcome}

pub fits_true : (b : Base) (first last x : ℕ) → fits (From b first last) x ≡ true → (shifted b first ≤ shifted b x) × (shifted b x ≤ shifted b last)
unfolding fits
fits_true b first last x e = grind (arith, nat_tests)

pub fits_false : (b : Base) (first last x : ℕ) → fits (From b first last) x ≡ false → (shifted b x < shifted b first) ⊎ (shifted b last < shifted b x)
unfolding fits
fits_false b first last x e = grind (arith, nat_tests)

pub in_character : (p z : ℕ) → 32768 ≤ p → p < 33024 → p - 32768 ≡ z → outcome (character p) ≡ Given (z ∷ [])
unfolding character fine_if outcome
in_character p z a b d = let e : (nat_le 32768 p && nat_lt p 33024) ≡ true = grind (arith, nat_tests) in rw e (ap (λ w. Given (w ∷ [])) d)

pub no_character : (p : ℕ) → (p < 32768) ⊎ (33024 ≤ p) → outcome (character p) ≡ Raised OutOfBounds
unfolding character fine_if outcome
no_character p d = let e : (nat_le 32768 p && nat_lt p 33024) ≡ false = grind (arith, nat_tests) in rw e refl

pub no_character_by : (p : ℕ) → (32768 ≤ p → 33024 ≤ p) → outcome (character p) ≡ Raised OutOfBounds
no_character_by p h = no_character p (⊎_elim (λ l. inl l) (λ r. inr (h r)) (cases_lt p 32768))

pub truth_not : (b : Bool) → truth (nat_eq (truth b) 0) ≡ truth (not b)
unfolding truth
truth_not true = refl
truth_not false = refl

pub zero_is_false : (x : ℕ) → truth (nat_eq x 0) ≡ truth (not (is_true x))
unfolding truth is_true
zero_is_false zero = refl
zero_is_false (suc x) = let e : nat_eq (suc x) 0 ≡ false = grind (arith, nat_tests) in ap truth e

at_least : (a b : ℕ) → nat_le a b ≡ not (nat_lt b a)
at_least a b = grind (arith, nat_tests)

pub at_most : (a b : ℕ) → truth (nat_le a b) ≡ truth (nat_eq (truth (nat_lt b a)) 0)
at_most a b = ap truth (at_least a b) ∙ sym (truth_not (nat_lt b a))

pub false_is_zero : (b : Bool) → truth b + 32768 ≤ 0 + 32768 → b ≡ false
unfolding truth
false_is_zero true h = absurd (omega arith)
false_is_zero false h = refl

pub true_is_more : (b : Bool) → (truth b + 32768 < 0 + 32768) ⊎ (0 + 32768 < truth b + 32768) → b ≡ true
unfolding truth
true_is_more true h = refl
true_is_more false (inl h) = absurd (omega arith)
true_is_more false (inr h) = absurd (omega arith)

pub less_no : (x y : ℕ) → nat_lt (x + 32768) (y + 32768) ≡ false → y ≤ x
less_no x y h = grind (arith, nat_tests)

pub less_yes : (x y : ℕ) → nat_lt (x + 32768) (y + 32768) ≡ true → x < y
less_yes x y h = grind (arith, nat_tests)
