-- The phrase that holds the arm in whose region an offset is.
use Rattle.std.proofs.Common.{◌≡◌, ⊎_elim, ℕ, zero, suc, ◌<◌, ◌≤◌, List, [], ◌∷◌, ◌++◌, length, get_or, true, false, Option, Some, None, refl, sym, ap, subst, ◌∙◌, arith}
use Rattle.std.specs.List.{AllWithin}
use Rattle.std.specs.Option.{is_some}
use Rattle.std.proofs.lemmas.Bool.{cases_lt, false≢true}
use Rattle.std.proofs.lemmas.List.{get_or_append_left, length-append}
use Rattle.std.proofs.lemmas.Option.{none-some, slice_get-get_or}
use Rattle.std.proofs.Math.Seq.{get_or-append_seam}
use Rattle.code_forms.specs.declared.module_code.Phrase.{Phrase}
use Rattle.code_forms.specs.declared.region.Region.TheVariants.{Body}
use Rattle.code_forms.specs.Phrases.{first_start, PhrasesFill}
use Rattle.code_forms.specs.Regions.{region_at}
use Rattle.code_forms.specs.Routine.{Spot}
use Rattle.signaller.specs.Laws.{outer}
use Rattle.signaller.specs.Search.{first_of, enabled_before, beyond}
use Rattle.signaller.proofs.Lying.{stand, armed, arm_behind, in_order}
use Rattle.signaller.proofs.Regions.{InSome, in_arm, somewhere}
use Rattle.signaller.proofs.Surrounding.{goes_outward}
use Rattle.signaller.proofs.Sweeping.{no_phrase, same_default}
use Rattle.survey_code.specs.Around.{from_at, arms_at, Fills, IsHolder, AreBeyond, number_before}

pub holder_before : (table : List Phrase) (at count : ℕ) → count ≤ length table → AllWithin (λ (p : Phrase). first_start p.arms ≤ at) table 0 count
    → AllWithin (λ (p : Phrase). at < first_start p.arms) table count (length table) → IsHolder table at (number_before count)
holder_before table at zero l begun rest = λ k m. rest k no_phrase (omega arith) m
holder_before table at (suc count) l begun rest =
    (omega (arith, l), begun count no_phrase (omega arith) (omega arith), λ k m n. rest k no_phrase (omega (arith, m)) n)

-- those that are asked around the region of an offset
abbrev pub held_outer : List Phrase → Option ℕ → List ℕ
held_outer table None = []
held_outer table (Some q) = beyond true table q

module _ (code : List Spot) (table : List Phrase) (f : PhrasesFill code table) where
  arm_holds : (at q k : ℕ) → (i : InSome table at) → i.q ≡ q → arms_at table q ≤ at
  arm_holds at q k i e =
      let l = i.is.phrase_there in
      let b = arm_behind code (get_or table i.q no_phrase).arms (stand code table f i.q l).arms (armed code table f i.q l) i.k i.is.arm_there in
      let begun = i.is.begun in
      subst (λ x. arms_at table x ≤ at) e (omega (arith, b, begun))

  in_some : (at : ℕ) (o : Option ℕ) → IsHolder table at o → (i : InSome table at) → o ≡ Some i.q
  in_some at None h i = absurd (let low = arm_holds at i.q 0 i refl in let high = h i.q i.is.phrase_there in omega (arith, low, high))
  in_some at (Some q) h i = ap Some (⊎_elim
      (λ (l : q < i.q). absurd (let low = arm_holds at i.q 0 i refl in let high = h.2 i.q l i.is.phrase_there in omega (arith, low, high)))
      (λ (l : i.q ≤ q). ⊎_elim
      (λ (m : i.q < q). absurd (let high = i.is.later q m h.0 in let low = h.1 in omega (arith, low, high)))
      (λ (m : q ≤ i.q). let same : q ≡ i.q = omega (arith, l, m) in same)
      (cases_lt i.q q))
      (cases_lt q i.q))

  in_body : (at : ℕ) (o : Option ℕ) → IsHolder table at o → ((k : ℕ) → k < length table → at < arms_at table k) → o ≡ None
  in_body at None h none = refl
  in_body at (Some q) h none = absurd (let high = none q h.0 in let low = h.1 in omega (arith, low, high))

  outer_held : (at : ℕ) (o : Option ℕ) → IsHolder table at o → outer true table (region_at table at) ≡ held_outer table o
  outer_held at o h = ⊎_elim
      (λ (b : (region_at table at ≡ Body) × ((k : ℕ) → k < length table → at < arms_at table k)).
      ap (λ r. outer true table r) b.0 ∙ sym (ap (λ x. held_outer table x) (in_body at o h b.1)))
      (λ (i : InSome table at).
      ap (λ r. outer true table r) (in_arm code table at i.q i.k f i.is) ∙ sym (ap (λ x. held_outer table x) (in_some at o h i)))
      (somewhere code table at f)

  -- the phrase that holds the arm in which another begins stands before it
  holder_earlier : (n d_from : ℕ) → n < length table → from_at table n ≡ d_from → (q : ℕ) → IsHolder table d_from (Some q) → q < n
  holder_earlier n d_from l e q h = ⊎_elim
      (λ (less : q < n). less)
      (λ (most : n ≤ q). absurd (
      let sorted = in_order code table f n q no_phrase most h.0 in
      let s = stand code table f q h.0 in
      let a = s.filled in
      let b = s.earlier in
      let low = h.1 in
      omega (arith, sorted, a, b, low, e)))
      (cases_lt q n)

  beyond_is : (n : ℕ) → n < length table → beyond true table n ≡ enabled_before table n (from_at table n) ++ outer true table (region_at table (from_at table n))
  beyond_is n l = goes_outward code table f true n (get_or table n no_phrase) (slice_get-get_or table n no_phrase l)

first_some : (xs ys : List ℕ) (n : ℕ) → first_of xs ≡ Some n → first_of (xs ++ ys) ≡ Some n
first_some [] ys n e = absurd (none-some n e)
first_some (x ∷ xs) ys n e = e

first_none : (xs ys : List ℕ) → first_of xs ≡ None → first_of (xs ++ ys) ≡ first_of ys
first_none [] ys e = refl
first_none (x ∷ xs) ys e = absurd (none-some x (sym e))

inner_first : (xs ys : List ℕ) (o : Option ℕ) (n : ℕ) → o ≡ first_of xs → o ≡ Some n → o ≡ first_of (xs ++ ys)
inner_first xs ys o n is some = some ∙ sym (first_some xs ys n (sym is ∙ some))

pub inner_some : (xs ys : List ℕ) (o : Option ℕ) → o ≡ first_of xs → is_some o ≡ true → o ≡ first_of (xs ++ ys)
inner_some xs ys None is e = absurd (false≢true e)
inner_some xs ys (Some n) is e = inner_first xs ys (Some n) n is refl

none_of : (o : Option ℕ) → is_some o ≡ false → o ≡ None
none_of None e = refl
none_of (Some n) e = absurd (false≢true (sym e))

module _ (table : List Phrase) (fills : Fills table) (xs : List ℕ) (at : ℕ) (o : Option ℕ) (is : o ≡ first_of xs) (none : is_some o ≡ false) where
  past : (held : Option ℕ) → IsHolder table at held → first_of (xs ++ outer true table (region_at table at)) ≡ first_of (held_outer table held)
  past held h = first_none xs (outer true table (region_at table at)) (sym is ∙ none_of o none) ∙ ap first_of (outer_held fills.0 table fills.1 at held h)

  pub outer_some : (beyonds : List (Option ℕ)) → AreBeyond table beyonds → (q : ℕ) → IsHolder table at (Some q) → q < length beyonds
      → get_or beyonds q None ≡ first_of (xs ++ outer true table (region_at table at))
  outer_some beyonds are q h l = are q l ∙ sym (past (Some q) h)

  pub outer_none : IsHolder table at None → None ≡ first_of (xs ++ outer true table (region_at table at))
  outer_none h = sym (past None h)

pub held_earlier : (table : List Phrase) → Fills table → (n : ℕ) (d : Phrase) → n < length table → (q : ℕ) → IsHolder table (get_or table n d).from (Some q) → q < n
held_earlier table fills n d l q h =
    holder_earlier fills.0 table fills.1 n (get_or table n d).from l (ap (λ (p : Phrase). p.from) (same_default table n no_phrase d l)) q h

pub one_beyond : (table : List Phrase) → Fills table → (beyonds beyonds' : List (Option ℕ)) (o : Option ℕ) (n : ℕ) (d : Phrase) → length beyonds ≡ n → n < length table → AreBeyond table beyonds
    → o ≡ first_of (enabled_before table n (get_or table n d).from ++ outer true table (region_at table (get_or table n d).from)) → beyonds' ≡ beyonds ++ o ∷ []
    → AreBeyond table beyonds'
one_beyond table fills beyonds beyonds' o n d count l are is more k m =
    let e : from_at table n ≡ (get_or table n d).from = ap (λ (p : Phrase). p.from) (same_default table n no_phrase d l) in
    let long = ap length more ∙ length-append beyonds (o ∷ []) in ⊎_elim
    (λ (less : k < length beyonds). ap (λ xs. get_or xs k None) more ∙ get_or_append_left beyonds (o ∷ []) None k less ∙ are k less)
    (λ (most : length beyonds ≤ k).
    let same : k ≡ length beyonds = omega (arith, m, long, most) in
    let at_n : k ≡ n = same ∙ count in
    ap (λ xs. get_or xs k None) more ∙ ap (λ i. get_or (beyonds ++ o ∷ []) i None) same ∙ get_or-append_seam beyonds o [] None ∙ is
    ∙ ap (λ x. first_of (enabled_before table n x ++ outer true table (region_at table x))) (sym e)
    ∙ sym (ap first_of (beyond_is fills.0 table fills.1 n l)) ∙ sym (ap (λ i. first_of (beyond true table i)) at_n))
    (cases_lt k (length beyonds))
