-- From a phrase outward to the innermost one that is open.
use Rattle.std.proofs.Common.{◌≡◌, inl, inr, ⊎_elim, ℕ, zero, suc, ◌+◌, ◌<◌, ◌≤◌, List, [], ◌∷◌, ◌++◌, length, get_or, Bool, true, false, Option, Some, None, refl, sym, ap, subst, ◌∙◌, arith}
use Rattle.std.specs.Prelude.{slice_get, if◌then◌else◌}
use Rattle.std.specs.List.Sorted.{IsNonDecreasingBy}
use Rattle.std.proofs.lemmas.Bool.{cases_lt}
use Rattle.std.proofs.lemmas.Option.{slice_get-get_or}
use Rattle.std.proofs.lemmas.List.{get_or_append_left, length-append}
use Rattle.std.proofs.Math.Seq.{get_or-append_seam}
use Rattle.code_forms.specs.declared.module_code.Phrase.{Phrase}
use Rattle.signaller.specs.Search.{covers_in, first_of, enabled_before}
use Rattle.signaller.proofs.Enabled.{enabled_more}
use Rattle.signaller.proofs.Sweeping.{no_phrase, same_default, covers_not, covers_it}
use Rattle.survey_code.specs.Around.{from_at, to_at, AreOver, GoesOn, AreParents, number_before}

-- how far outward of a phrase
abbrev pub height : Option ℕ → ℕ
height None = 0
height (Some phrase) = phrase + 1

module _ (table : List Phrase) where
  abbrev phrase : ℕ → Phrase
  phrase k = get_or table k no_phrase

  open_more : (count at : ℕ) (b : Bool) → covers_in (slice_get table count) at ≡ b
      → first_of (enabled_before table (suc count) at) ≡ (if b then Some count else first_of (enabled_before table count at))
  open_more count at true e = ap first_of (enabled_more table count at ∙ ap (λ c. if c then count ∷ enabled_before table count at else enabled_before table count at) e)
  open_more count at false e = ap first_of (enabled_more table count at ∙ ap (λ c. if c then count ∷ enabled_before table count at else enabled_before table count at) e)

  is_covered : (count at : ℕ) → count < length table → from_at table count ≤ at → at < to_at table count → covers_in (slice_get table count) at ≡ true
  is_covered count at l low high = ap (λ x. covers_in x at) (slice_get-get_or table count no_phrase l) ∙ covers_it (phrase count) at low high

  not_covered : (count at : ℕ) → count < length table → to_at table count ≤ at → covers_in (slice_get table count) at ≡ false
  not_covered count at l over = ap (λ x. covers_in x at) (slice_get-get_or table count no_phrase l) ∙ covers_not (phrase count) at (inr over)

  -- the one that goes on, where those behind it are over, is the first
  first_open : (count at : ℕ) → count ≤ length table → ((k : ℕ) → k < count → from_at table k ≤ at) → (o : Option ℕ) → AreOver table count at o → GoesOn table at o
      → o ≡ first_of (enabled_before table count at)
  first_open zero at l begun None over goes = refl
  first_open zero at l begun (Some q) over goes = absurd (let z = over.0 in omega (arith, z))
  first_open (suc count) at l begun None over goes =
      first_open count at (omega (arith, l)) (λ k m. begun k (omega (arith, m))) None (λ k m. over k (omega (arith, m))) goes
      ∙ sym (open_more count at false (not_covered count at (omega (arith, l)) (over count (omega arith))))
  first_open (suc count) at l begun (Some q) over goes = ⊎_elim
      (λ (less : q < count).
      first_open count at (omega (arith, l)) (λ k m. begun k (omega (arith, m))) (Some q) (less, λ k m n. over.1 k m (omega (arith, n))) goes
      ∙ sym (open_more count at false (not_covered count at (omega (arith, l)) (over.1 count less (omega arith)))))
      (λ (most : count ≤ q).
      let q0 = over.0 in
      let same : q ≡ count = omega (arith, q0, most) in
      let on : at < to_at table count = subst (λ k. at < to_at table k) same goes in
      ap Some same ∙ sym (open_more count at true (is_covered count at (omega (arith, l)) (begun count (omega arith)) on)))
      (cases_lt q count)

  -- whatever is first is so
  pub open_is : (count at : ℕ) → count ≤ length table → ((k : ℕ) → k < count → from_at table k ≤ at) → AreOver table count at (first_of (enabled_before table count at))
  open_is zero at l begun = λ k m. absurd (omega (arith, m))
  open_is (suc count) at l begun = ⊎_elim
      (λ (on : at < to_at table count).
      subst (λ o. AreOver table (suc count) at o) (sym (open_more count at true (is_covered count at (omega (arith, l)) (begun count (omega arith)) on)))
      (omega arith, λ k m n. absurd (omega (arith, m, n))))
      (λ (over : to_at table count ≤ at).
      subst (λ o. AreOver table (suc count) at o) (sym (open_more count at false (not_covered count at (omega (arith, l)) over)))
      (one_over count at over (first_of (enabled_before table count at)) (open_is count at (omega (arith, l)) (λ k m. begun k (omega (arith, m))))))
      (cases_lt at (to_at table count))
    where
      one_over : (count at : ℕ) → to_at table count ≤ at → (o : Option ℕ) → AreOver table count at o → AreOver table (suc count) at o
      one_over count at over None all = λ k m. ⊎_elim (λ (less : k < count). all k less)
          (λ (most : count ≤ k). let same : count ≡ k = omega (arith, m, most) in subst (λ x. to_at table x ≤ at) same over) (cases_lt k count)
      one_over count at over (Some q) all = (
        (let z = all.0 in omega (arith, z)),
        λ k m n. ⊎_elim (λ (less : k < count). all.1 k m less)
            (λ (most : count ≤ k). let same : count ≡ k = omega (arith, n, most) in subst (λ x. to_at table x ≤ at) same over) (cases_lt k count),
      )

  -- One step outward.

  ended_too : (count at q : ℕ) → from_at table q ≤ at → to_at table q ≤ at → ((k : ℕ) → q < k → k < count → to_at table k ≤ at) → q < count → (o : Option ℕ)
      → AreOver table q (from_at table q) o → AreOver table count at o
  ended_too count at q begun over behind below None all = λ k m. ⊎_elim
      (λ (less : k < q). let a = all k less in omega (arith, a, begun))
      (λ (most : q ≤ k). ⊎_elim (λ (more : q < k). behind k more m) (λ (least : k ≤ q). let same : q ≡ k = omega (arith, most, least) in subst (λ x. to_at table x ≤ at) same over) (cases_lt q k))
      (cases_lt k q)
  ended_too count at q begun over behind below (Some r) all = (
    (let z = all.0 in omega (arith, z, below)),
    λ k n m. ⊎_elim
        (λ (less : k < q). let a = all.1 k n less in omega (arith, a, begun))
        (λ (most : q ≤ k). ⊎_elim (λ (more : q < k). behind k more m) (λ (least : k ≤ q). let same : q ≡ k = omega (arith, most, least) in subst (λ x. to_at table x ≤ at) same over) (cases_lt q k))
        (cases_lt k q),
  )

  sorted_from : IsNonDecreasingBy (λ (p : Phrase). p.from) table → (i j : ℕ) → i ≤ j → j < length table → from_at table i ≤ from_at table j
  sorted_from sorted i j l m = sorted i j no_phrase l m

  parent_over : (parents : List (Option ℕ)) → length parents ≤ length table → IsNonDecreasingBy (λ (p : Phrase). p.from) table → AreParents table parents → (q : ℕ) → q < length parents
      → AreOver table q (from_at table q) (get_or parents q None)
  parent_over parents few sorted are q l = subst (λ o. AreOver table q (from_at table q) o) (sym (are q l))
      (open_is q (from_at table q) (omega (arith, few, l)) (λ k m. sorted_from sorted k q (omega (arith, m)) (omega (arith, few, l))))

  goes_outward : (parents : List (Option ℕ)) → length parents ≤ length table → IsNonDecreasingBy (λ (p : Phrase). p.from) table → AreParents table parents → (count at : ℕ) → count ≤ length parents
      → ((k : ℕ) → k < count → from_at table k ≤ at) → (q : ℕ) → AreOver table count at (Some q) → to_at table q ≤ at → AreOver table count at (get_or parents q None)
  goes_outward parents few sorted are count at l begun q all over =
      let below = all.0 in
      ended_too count at q (begun q below) over all.1 below (get_or parents q None) (parent_over parents few sorted are q (omega (arith, below, l)))

  height_over : (count at : ℕ) (o : Option ℕ) → AreOver table count at o → height o ≤ count
  height_over count at None all = omega arith
  height_over count at (Some q) all = let z = all.0 in omega (arith, z)

  lower : (parents : List (Option ℕ)) → length parents ≤ length table → IsNonDecreasingBy (λ (p : Phrase). p.from) table → AreParents table parents → (q : ℕ) → q < length parents
      → height (get_or parents q None) < q + 1
  lower parents few sorted are q l =
      let h = height_over q (from_at table q) (get_or parents q None) (parent_over parents few sorted are q l) in omega (arith, h)

  -- The walk.

  module _ (parents : List (Option ℕ)) (few : length parents ≤ length table) (sorted : IsNonDecreasingBy (λ (p : Phrase). p.from) table) (are : AreParents table parents)
      (count at : ℕ) (some : count ≤ length parents) (begun : (k : ℕ) → k < count → from_at table k ≤ at) (o : Option ℕ) (over : AreOver table count at o) where
    at_phrase : (q : ℕ) → o ≡ Some q → AreOver table count at (Some q)
    at_phrase q is = subst (λ x. AreOver table count at x) is over

    to_is : (q : ℕ) → o ≡ Some q → (d : Phrase) → (get_or table q d).to ≡ to_at table q
    to_is q is d = let z = (at_phrase q is).0 in ap (λ (p : Phrase). p.to) (same_default table q d no_phrase (omega (arith, z, some, few)))

    pub is_first : (q : ℕ) → o ≡ Some q → (d : Phrase) → at < (get_or table q d).to → Some q ≡ first_of (enabled_before table count at)
    is_first q is d l =
        first_open count at (omega (arith, some, few)) begun (Some q) (at_phrase q is) (let e = to_is q is d in omega (arith, e, l))

    pub still_over : (q : ℕ) → o ≡ Some q → (d : Phrase) → (get_or table q d).to ≤ at → AreOver table count at (get_or parents q None)
    still_over q is d l = goes_outward parents few sorted are count at some begun q (at_phrase q is) (let e = to_is q is d in omega (arith, e, l))

    pub shorter : (q : ℕ) → o ≡ Some q → height (get_or parents q None) < height o
    shorter q is =
        let z = (at_phrase q is).0 in
        subst (λ x. height (get_or parents q None) < height x) (sym is) (lower parents few sorted are q (omega (arith, z, some)))

    pub none_first : ((q : ℕ) → o ≡ Some q → ⊥) → None ≡ first_of (enabled_before table count at)
    none_first not = from_none o refl not over
      where
        from_none : (x : Option ℕ) → o ≡ x → ((q : ℕ) → o ≡ Some q → ⊥) → AreOver table count at o → None ≡ first_of (enabled_before table count at)
        from_none None e not over = first_open count at (omega (arith, some, few)) begun None (subst (λ x. AreOver table count at x) e over) tt
        from_none (Some q) e not over = absurd (not q e)

  -- One parent more.

  pub no_parents : AreParents table []
  no_parents = λ k l. absurd (omega (arith, l))

  pub one_parent : (parents parents' : List (Option ℕ)) (o : Option ℕ) → AreParents table parents → o ≡ first_of (enabled_before table (length parents) (from_at table (length parents)))
      → parents' ≡ parents ++ o ∷ [] → AreParents table parents'
  one_parent parents parents' o are is more k l =
      let long = ap length more ∙ length-append parents (o ∷ []) in ⊎_elim
      (λ (less : k < length parents). ap (λ xs. get_or xs k None) more ∙ get_or_append_left parents (o ∷ []) None k less ∙ are k less)
      (λ (most : length parents ≤ k).
      let same : k ≡ length parents = omega (arith, l, long, most) in
      ap (λ xs. get_or xs k None) more ∙ ap (λ i. get_or (parents ++ o ∷ []) i None) same ∙ get_or-append_seam parents o [] None ∙ is
      ∙ sym (ap (λ i. first_of (enabled_before table i (from_at table i))) same))
      (cases_lt k (length parents))

  pub begun_before : IsNonDecreasingBy (λ (p : Phrase). p.from) table → (number : ℕ) → number < length table → (d : Phrase) → (k : ℕ) → k < number
      → from_at table k ≤ (get_or table number d).from
  begun_before sorted number l d k m =
      let e = ap (λ (p : Phrase). p.from) (same_default table number d no_phrase l) in
      let low = sorted_from sorted k number (omega (arith, m)) l in
      omega (arith, e, low)

  pub over_before : (number at : ℕ) → AreOver table number at (number_before number)
  over_before zero at = λ k l. absurd (omega (arith, l))
  over_before (suc number) at = (omega arith, λ k l m. absurd (omega (arith, l, m)))

  -- those that begin later are not enabled
  pub fewer_enabled : (at count n : ℕ) → n ≤ length table → count ≤ n → ((k : ℕ) → count ≤ k → k < n → at < from_at table k)
      → first_of (enabled_before table n at) ≡ first_of (enabled_before table count at)
  fewer_enabled at count zero l m later = let same : zero ≡ count = omega (arith, m) in ap (λ k. first_of (enabled_before table k at)) same
  fewer_enabled at count (suc n) l m later = ⊎_elim
      (λ (less : count < suc n).
      open_more n at false (ap (λ x. covers_in x at) (slice_get-get_or table n no_phrase (omega (arith, l))) ∙ covers_not (phrase n) at (inl (later n (omega (arith, less)) (omega arith))))
      ∙ fewer_enabled at count n (omega (arith, l)) (omega (arith, less)) (λ k x y. later k x (omega (arith, y))))
      (λ (most : suc n ≤ count). let same : suc n ≡ count = omega (arith, m, most) in ap (λ k. first_of (enabled_before table k at)) same)
      (cases_lt count (suc n))
