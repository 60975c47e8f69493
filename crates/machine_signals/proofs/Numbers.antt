-- Arms by their numbers over a table.
use Rattle.std.proofs.Common.{◌≡◌, ℕ, zero, suc, ◌+◌, ◌-◌, ◌<◌, ◌≤◌, List, [], ◌∷◌, ◌++◌, length, drop, get_or, Some, refl, sym, ap, ◌∙◌, arith}
use Rattle.std.specs.Prelude.{slice_get}
use Rattle.std.proofs.lemmas.List.{drop_more, drop_all}
use Rattle.std.proofs.lemmas.Option.{slice_get-get_or}
use Rattle.code_forms.specs.declared.module_code.Arm.{Arm}
use Rattle.code_forms.specs.declared.module_code.Phrase.{Phrase}
use Rattle.machine_signals.specs.declared.arms.Span.{Span}
use Rattle.machine_ready.specs.Openings.{arms_in}
use Rattle.machine_signals.specs.Arms.{span_of, span_in}

get_left : (xs ys : List Arm) (k : ℕ) → k < length xs → slice_get (xs ++ ys) k ≡ slice_get xs k
get_left [] ys k less = absurd (omega (arith, less))
get_left (x ∷ xs) ys zero less = refl
get_left (x ∷ xs) ys (suc k) less = get_left xs ys k (omega (arith, less))

get_right : (xs ys : List Arm) (k : ℕ) → length xs ≤ k → slice_get (xs ++ ys) k ≡ slice_get ys (k - length xs)
get_right [] ys k low = let e : k ≡ k - 0 = omega arith in ap (λ j. slice_get ys j) e
get_right (x ∷ xs) ys zero low = absurd (omega (arith, low))
get_right (x ∷ xs) ys (suc k) low =
    let e : k - length xs ≡ suc k - length (x ∷ xs) = omega arith in get_right xs ys k (omega (arith, low)) ∙ ap (λ j. slice_get ys j) e

module _ (table : List Phrase) (i : ℕ) (p : Phrase) (less : i < length table) (is : p ≡ get_or table i p) (arms : List Arm) (own : arms ≡ p.arms) where
  first : arms_in (drop i table) ≡ arms ++ arms_in (drop (i + 1) table)
  first = ap arms_in (drop_more table i p less) ∙ ap (λ (q : Phrase). q.arms ++ arms_in (drop (i + 1) table)) (sym is) ∙ ap (λ l. l ++ arms_in (drop (i + 1) table)) (sym own)

  -- the number is one of this phrase's arms
  pub arm_here : (left number : ℕ) (a : Arm) (span : Span) → left < length arms → a ≡ get_or arms left a → span ≡ span_of a
      → slice_get (arms_in (drop i table)) left ≡ slice_get (arms_in table) number → span ≡ span_in (slice_get (arms_in table) number)
  arm_here left number a span small read made same =
      let here = slice_get-get_or arms left a small in
      made ∙ sym (ap span_in (sym same ∙ ap (λ l. slice_get l left) first ∙ get_left arms (arms_in (drop (i + 1) table)) left small ∙ here ∙ ap Some (sym read)))

  -- or one of a later phrase's
  pub arm_later : (left number : ℕ) → length arms ≤ left → slice_get (arms_in (drop i table)) left ≡ slice_get (arms_in table) number
      → slice_get (arms_in (drop (i + 1) table)) (left - length arms) ≡ slice_get (arms_in table) number
  arm_later left number large same = sym (get_right arms (arms_in (drop (i + 1) table)) left large) ∙ ap (λ l. slice_get l left) (sym first) ∙ same

pub arm_none : (table : List Phrase) (i left number : ℕ) (span : Span) → length table ≤ i → span ≡ record { start = 0; end = 0 }
    → slice_get (arms_in (drop i table)) left ≡ slice_get (arms_in table) number → span ≡ span_in (slice_get (arms_in table) number)
arm_none table i left number span all none same = none ∙ ap span_in (ap (λ l. slice_get (arms_in l) left) (sym (drop_all i table all)) ∙ same)
