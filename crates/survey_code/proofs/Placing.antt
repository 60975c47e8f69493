-- The innermost phrase around each instruction, one after the other.
use Rattle.std.proofs.Common.{◌≡◌, ⊎_elim, ℕ, ◌+◌, ◌<◌, ◌≤◌, List, [], ◌∷◌, ◌++◌, length, get_or, true, Option, Some, None, sym, ap, subst, ◌∙◌, arith}
use Rattle.std.specs.Prelude.{slice_get}
use Rattle.std.specs.List.{AllWithin}
use Rattle.std.proofs.lemmas.Bool.{cases_lt}
use Rattle.std.proofs.lemmas.List.{get_or_append_left, length-append}
use Rattle.std.proofs.lemmas.Option.{same_Some, slice_get-get_or}
use Rattle.std.proofs.Math.Seq.{get_or-append_seam}
use Rattle.code_forms.specs.declared.module_code.CodeEntry.{CodeEntry}
use Rattle.code_forms.specs.declared.module_code.CodeProcedure.{CodeProcedure}
use Rattle.code_forms.specs.declared.module_code.Phrase.{Phrase}
use Rattle.code_forms.specs.Phrases.{PhrasesFill}
use Rattle.code_forms.specs.Ranges.{InOrder}
use Rattle.code_forms.specs.Regions.{region_at}
use Rattle.code_forms.specs.Routine.{spots}
use Rattle.code_forms.proofs.Leading.{begins_there}
use Rattle.code_forms.proofs.Ordered.{at_rise}
use Rattle.machine_rules.proofs.Located.{start_below}
use Rattle.signaller.specs.Laws.{outer}
use Rattle.signaller.specs.Search.{first_of, enabled_before}
use Rattle.signaller.proofs.Surrounding.{asks_enabled}
use Rattle.signaller.proofs.Sweeping.{no_phrase}
use Rattle.survey_rules.specs.Escapes.{position_of}
use Rattle.survey_code.specs.Around.{from_at, AreOver, ArePositions}
use Rattle.survey_code.proofs.Outward.{open_is, fewer_enabled}

-- at each later instruction
abbrev pub OverLater : CodeProcedure → (number count : ℕ) → Option ℕ → Type 0
OverLater p number count o = (k : ℕ) (d : CodeEntry) → number ≤ k → k < length p.code → AreOver p.phrases count (get_or p.code k d).at o

over_later : (table : List Phrase) (count at later : ℕ) → at ≤ later → (o : Option ℕ) → AreOver table count at o → AreOver table count later o
over_later table count at later l None h = λ k m. let a = h k m in omega (arith, a, l)
over_later table count at later l (Some q) h = (h.0, λ k m n. let a = h.1 k m n in omega (arith, a, l))

begun_all : (table : List Phrase) (count at : ℕ) → AllWithin (λ (x : Phrase). x.from ≤ at) table 0 count → (k : ℕ) → k < count → from_at table k ≤ at
begun_all table count at h k l = h k no_phrase (omega arith) l

module _ (p : CodeProcedure) (order : InOrder p.code) (fills : PhrasesFill (spots p.code) p.phrases) where
  position_is : (number : ℕ) (e : CodeEntry) → slice_get p.code number ≡ Some e → (position : Option ℕ)
      → position ≡ first_of (enabled_before p.phrases (length p.phrases) e.at ++ outer true p.phrases (region_at p.phrases e.at)) → position ≡ position_of p e.at
  position_is number e there position is =
      is ∙ sym (ap first_of (asks_enabled (spots p.code) p.phrases fills true e.at
      (start_below p.code order e.at (record { number = number; begins = begins_there p.code number e there }))))

  one_position : (positions positions' : List (Option ℕ)) (position : Option ℕ) (number : ℕ) (d : CodeEntry) → length positions ≡ number → number < length p.code → ArePositions p positions
      → position ≡ first_of (enabled_before p.phrases (length p.phrases) (get_or p.code number d).at ++ outer true p.phrases (region_at p.phrases (get_or p.code number d).at))
      → positions' ≡ positions ++ position ∷ [] → ArePositions p positions'
  one_position positions positions' position number d count l are is more k e m there =
      let long = ap length more ∙ length-append positions (position ∷ []) in ⊎_elim
      (λ (less : k < length positions). ap (λ xs. get_or xs k None) more ∙ get_or_append_left positions (position ∷ []) None k less ∙ are k e less there)
      (λ (most : length positions ≤ k).
      let same : k ≡ length positions = omega (arith, m, long, most) in
      let one : e ≡ get_or p.code number d = same_Some e (get_or p.code number d) (sym there ∙ ap (λ i. slice_get p.code i) (same ∙ count) ∙ slice_get-get_or p.code number d l) in
      ap (λ xs. get_or xs k None) more ∙ ap (λ i. get_or (positions ++ position ∷ []) i None) same ∙ get_or-append_seam positions position [] None
      ∙ position_is number (get_or p.code number d) (slice_get-get_or p.code number d l) position is ∙ ap (λ (x : CodeEntry). position_of p x.at) (sym one))
      (cases_lt k (length positions))

  -- where a walk ended, those behind are over from then on
  over_on : (number count : ℕ) (d : CodeEntry) → number < length p.code → count ≤ length p.phrases → ((k : ℕ) → k < count → from_at p.phrases k ≤ (get_or p.code number d).at)
      → (o : Option ℕ) → o ≡ first_of (enabled_before p.phrases count (get_or p.code number d).at) → OverLater p (number + 1) count o
  over_on number count d l bound begun o is k e m n =
      let at = (get_or p.code number d).at in
      let rise = at_rise p.code order number k d (omega (arith, m)) n in
      let same = ap (λ (x : CodeEntry). x.at) (same_Some (get_or p.code k d) (get_or p.code k e) (sym (slice_get-get_or p.code k d n) ∙ slice_get-get_or p.code k e n)) in
      over_later p.phrases count at (get_or p.code k e).at (omega (arith, rise, same)) o
      (subst (λ x. AreOver p.phrases count at x) (sym is) (open_is p.phrases count at bound begun))

-- The loop over the code.

abbrev pub Keeps : CodeProcedure → List Phrase → List CodeEntry → (number : ℕ) → CodeEntry → Type 0
Keeps p table code number d =
    (positions positions' : List (Option ℕ)) (o position : Option ℕ) (count : ℕ) → number < length code → length positions ≡ number → ArePositions p positions → count ≤ length table
    → AllWithin (λ (x : Phrase). x.from ≤ (get_or code number d).at) table 0 count → o ≡ first_of (enabled_before table count (get_or code number d).at)
    → position ≡ first_of (enabled_before table (length table) (get_or code number d).at ++ outer true table (region_at table (get_or code number d).at))
    → positions' ≡ positions ++ position ∷ [] → (length positions' ≡ number + 1) × ArePositions p positions' × OverLater p (number + 1) count o

keeps : (p : CodeProcedure) → InOrder p.code → PhrasesFill (spots p.code) p.phrases → (number : ℕ) (d : CodeEntry) → Keeps p p.phrases p.code number d
keeps p order fills number d positions positions' o position count l long are bound begun is placed more =
    let longer = ap length more ∙ length-append positions (position ∷ []) in (
      omega (arith, long, longer),
      one_position p order fills positions positions' position number d long l are placed more,
      over_on p order fills number count d l bound (begun_all p.phrases count (get_or p.code number d).at begun) o is,
    )

module _ (p : CodeProcedure) (table : List Phrase) (same_table : table ≡ p.phrases) (code : List CodeEntry) (same_code : code ≡ p.code) (number : ℕ) (d : CodeEntry) where
  pub keeps_so : InOrder p.code → PhrasesFill (spots p.code) p.phrases → Keeps p table code number d
  keeps_so order fills =
      subst (λ (t : List Phrase). Keeps p t code number d) (sym same_table) (subst (λ (c : List CodeEntry). Keeps p p.phrases c number d) (sym same_code) (keeps p order fills number d))

  pub start_over : number < length code → (count begun : ℕ) (o start : Option ℕ) → OverLater p number count o
      → ((t : List Phrase) (at : ℕ) → AreOver t count at o → AreOver t begun at start) → AreOver table begun (get_or code number d).at start
  start_over l count begun o start over goes =
      goes table (get_or code number d).at
      (subst (λ (t : List Phrase). AreOver t count (get_or code number d).at o) (sym same_table)
      (subst (λ (c : List CodeEntry). AreOver p.phrases count (get_or c number d).at o) (sym same_code)
      (over number d (omega arith) (let e = ap length same_code in omega (arith, l, e)))))

pub all_innermost : (table : List Phrase) (at count : ℕ) → count ≤ length table → AllWithin (λ (x : Phrase). at < x.from) table count (length table) → (o : Option ℕ)
    → o ≡ first_of (enabled_before table count at) → o ≡ first_of (enabled_before table (length table) at)
all_innermost table at count l rest o is = is ∙ sym (fewer_enabled table at count (length table) (omega arith) l (λ k m n. rest k no_phrase m n))
