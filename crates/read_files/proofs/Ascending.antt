-- Numbers in files, each above the one before it, are those that ascend.
use Rattle.std.proofs.Common.{◌≡◌, ℕ, zero, suc, ◌-◌, ◌<◌, ◌≤◌, true, List, [], ◌∷◌, ◌++◌, length, map, Option, Some, None, refl, sym, ap, subst, ◌∙◌, arith}
use Rattle.std.specs.Prelude.{All, nat_lt, slice_get}
use Rattle.std.proofs.lemmas.Bool.{and_parts, and_from, ltb-true, lt-ltb}
use Rattle.std.proofs.lemmas.List.{length-append}
use Rattle.std.proofs.lemmas.List.Elements.{All-nil, All-cons}
use Rattle.mesa_types.specs.Sound.{IsAscending}
use Rattle.interface_records.specs.Lists.{Ascend}
use Rattle.file_forms.specs.Forms.{Form, FitEach}
use Rattle.object_rules.specs.ModuleForms.{is_next}
use Rattle.object_rules.specs.Numbers.{last_of, rises_from}

-- the least number that may come next
abbrev pub least : Option ℕ → ℕ
least None = 0
least (Some m) = suc m

put_rise : (o : Option ℕ) (n : ℕ) → least o ≤ n → rises_from o n ≡ true
put_rise None n h = refl
put_rise (Some m) n h = lt-ltb m n h

got_rise : (o : Option ℕ) (n : ℕ) → rises_from o n ≡ true → least o ≤ n
got_rise None n e = omega arith
got_rise (Some m) n e = ltb-true m n e

pub put_next : (count : ℕ) (o : Option ℕ) (n : ℕ) → least o ≤ n → n < count → is_next count o n ≡ true
put_next count o n h less = and_from (nat_lt n count) (rises_from o n) (lt-ltb n count less) (put_rise o n h)

pub got_next : (count : ℕ) (o : Option ℕ) (n : ℕ) → is_next count o n ≡ true → (least o ≤ n) × (n < count)
got_next count o n e = let p = and_parts (nat_lt n count) (rises_from o n) e in (got_rise o n p.1, ltb-true n count p.0)

at_end : {A : Type 0} (before : List A) (a : A) → slice_get (before ++ a ∷ []) (length before) ≡ Some a
at_end [] a = refl
at_end (b ∷ before) a = at_end before a

pub last_grows : {A : Type 0} (before : List A) (a : A) → last_of (before ++ a ∷ []) ≡ Some a
last_grows before a =
    let long : length (before ++ a ∷ []) - 1 ≡ length before = omega (arith, length-append before (a ∷ [])) in
    ap (λ n. slice_get (before ++ a ∷ []) n) long ∙ at_end before a

-- elements with numbers, in a form that asks for numbers above that of the last one before
module _ {A : Type 0} (each : List A → Form A) (number : A → ℕ) (last : List A → Option ℕ) (grows : (before : List A) (a : A) → last (before ++ a ∷ []) ≡ Some (number a))
    (count : ℕ) where
  pub each_ascends : ((before : List A) (a : A) → (each before).fits a → is_next count (last before) (number a) ≡ true) → (before all : List A) → FitEach each before all
      → Ascend (least (last before)) count (map number all)
  unfolding FitEach Ascend
  each_ascends got before [] h = tt
  each_ascends got before (a ∷ all) h =
      let n = got_next count (last before) (number a) (got before a h.0) in
      (n.0, n.1, subst (λ o. Ascend (least o) count (map number all)) (grows before a) (each_ascends got (before ++ a ∷ []) all h.1))

  -- what else each has
  pub ascend_each : (Fine : A → Type 0) → ((before : List A) (a : A) → Fine a → is_next count (last before) (number a) ≡ true → (each before).fits a)
      → (before all : List A) → All Fine all → Ascend (least (last before)) count (map number all) → FitEach each before all
  unfolding FitEach Ascend
  ascend_each Fine put before [] f h = tt
  ascend_each Fine put before (a ∷ all) f h = (
    put before a (f zero a (omega arith)) (put_next count (last before) (number a) h.0 h.1),
    ascend_each Fine put (before ++ a ∷ []) all (λ k d less. f (suc k) d (omega (arith, less))) (subst (λ o. Ascend (least o) count (map number all)) (sym (grows before a)) h.2),
  )

pub ascending : (low high : ℕ) (ns : List ℕ) → Ascend low high ns → IsAscending ns
unfolding Ascend IsAscending
ascending low high [] h = tt
ascending low high (n ∷ []) h = tt
ascending low high (n ∷ m ∷ ms) h = (h.2.0, ascending (suc n) high (m ∷ ms) h.2)

pub all_below : (low high : ℕ) (ns : List ℕ) → Ascend low high ns → All (λ n. n < high) ns
unfolding Ascend
all_below low high [] h = All-nil (λ n. n < high)
all_below low high (n ∷ ns) h = All-cons (λ n. n < high) n ns h.1 (all_below (suc n) high ns h.2)
