-- What the code of a sound body names is there: variables and their parts, procedures, signals and links.
use Rattle.std.proofs.Common.{◌≡◌, refl, sym, ap, ◌∙◌, subst, ℕ, zero, suc, ◌+◌, ◌*◌, ◌<◌, ◌≤◌, ◌⊎◌, inl, inr, ⊎_elim, List, [], ◌∷◌, length, map, All, Some, false, arith}
use Rattle.std.proofs.lemmas.List.{length-map}
use Rattle.std.proofs.lemmas.List.Elements.{All-map}
use Rattle.std.proofs.lemmas.Option.{slice_get_within, slice_get-map}
use Rattle.std.specs.Prelude.{slice_get, option_map}
use Rattle.mesa_types.specs.declared.faces.Import.{Import}
use Rattle.mesa_types.specs.declared.faces.Item.{Item}
use Rattle.mesa_types.specs.declared.faces.ItemKind.{ItemKind}
use Rattle.mesa_types.specs.declared.faces.ItemKind.TheVariants as item
use Rattle.mesa_types.specs.declared.types.FieldType.{FieldType}
use Rattle.mesa_types.specs.declared.typed_parts.Callee.{Callee}
use Rattle.mesa_types.specs.declared.typed_parts.Callee.TheVariants.{OwnProcedure, LinkedProcedure}
use Rattle.mesa_types.specs.declared.typed_parts.Home.{Home}
use Rattle.mesa_types.specs.declared.typed_parts.Home.TheVariants.{Global, Local}
use Rattle.mesa_types.specs.declared.typed_parts.Label as t
use Rattle.mesa_types.specs.declared.typed_parts.Label.TheVariants.{OnAny, OnUnwind, OnOwn, OnLinked, OnBounds, OnZero}
use Rattle.mesa_types.specs.declared.typed_parts.Raised.{Raised}
use Rattle.mesa_types.specs.declared.typed_parts.Raised.TheVariants.{OwnSignal, LinkedSignal, TheBoundsFault, TheZeroDivisor, TheUnnamed}
use Rattle.mesa_types.specs.Links.{links_of}
use Rattle.mesa_types.specs.Shapes.{words_in, words_in_all, words_before, count_in, HasWords, AllHaveWords, KindAt}
use Rattle.mesa_types.specs.Sound.{Scope, VariableIn, SuffixesIn, UsedItem, CalleeIs, IsSignal, RaisedIs, NamesSignal, AreLabels, AreGiven, LocalsFrom, HeadIn, ImportIn}
use Rattle.mesa_types.specs.Sound as sound
use Rattle.mesa_types.specs.Typed.{Kind, Array, Kinds, NoKinds, AndKind, Suffixes, NoSuffix, Field, Index}
use Rattle.code_forms.specs.Operands.{IsCalled, IsRaised, CalledLink, RaisedLink, LabelTakes, SignalTakes, LinkTakes}
use Rattle.code_forms.specs.Ranges.{LabelInRange, IsSignalLink, IsSignalWith}
use Rattle.code_forms.specs.Routine.{Routine}
use Rattle.code_rules.specs.Links.{link_number, call_code, raise_code, label_code}
use Rattle.code_rules.specs.Modules.{kind_code, words_of_fields, signal_code, link_code}
use Rattle.code_rules.specs.Reading.{Coded, scratch}
use Rattle.code_rules.specs.Slots.{words_at, words_from, local_slot, global_slot, load, store, load_within, store_within, clear, fields_of}
use Rattle.code_blocks.specs.Translation.{has_index}
use Rattle.code_blocks.proofs.ExtractRows.{kind_has, fields_have}
use Rattle.code_blocks.proofs.Fits.{FitsIn, ArmFine}
use Rattle.code_blocks.proofs.Linking.{linked_there, head_there}
use Rattle.code_blocks.proofs.Parts.{before_next, before_all}

-- the procedure, with what its module has
pub record NamesOf (P : Coded) (r : Routine) (globals locals : Kinds) (takes : ℕ) (gives : Kinds) (procedures signals : List Item) (imports : List Import)
    (strings : ℕ) : Type 0 where
  pub same_imports : P.imports ≡ imports
  pub same_globals : P.globals ≡ globals
  pub same_locals : P.locals ≡ locals
  pub have_words : AllHaveWords globals × AllHaveWords locals
  pub each_import : All ImportIn imports
  pub all_globals : words_in_all globals ≤ r.globals
  pub all_strings : strings ≤ r.strings
  pub all_signals : r.signals ≡ map signal_code signals
  pub all_links : r.links ≡ map link_code (links_of imports)
  pub all_procedures : suc (length procedures) ≤ length r.procedures
  -- the scratch words lie behind the variables
  pub room : words_in_all locals + 16 ≤ r.frame
  pub results : words_before locals takes + words_in_all gives ≤ words_in_all locals

abbrev pub Names : Coded → Routine → Scope → Type 0
Names P r Γ = NamesOf P r Γ.globals Γ.locals Γ.takes Γ.gives Γ.procedures Γ.signals Γ.imports Γ.strings

-- Variables.

pub kind_lies : (ks : Kinds) (n : ℕ) (k : Kind) → KindAt ks n k → (words_in k ≡ words_at ks n) × (words_before ks n + words_in k ≤ words_in_all ks)
unfolding KindAt words_before words_in_all
kind_lies NoKinds n k h = absurd h
kind_lies (AndKind j ks) zero k h = (sym (ap words_in h), omega (arith, ap words_in h))
kind_lies (AndKind j ks) (suc n) k h = let r = kind_lies ks n k h in (r.0, omega (arith, r.1))

-- an array has room for each of its elements
element_within : (n : ℕ) (w : ℕ) → 0 < n → w ≤ n * w
element_within zero w some = absurd (omega (arith, some))
element_within (suc n) w some = let e : suc n * w ≡ w + n * w = grind arith in omega (arith, e)

-- a part has no more words than the whole
pub part_within : (Γ : Scope) (s : Suffixes) (j k : Kind) → HasWords j → SuffixesIn Γ s j k → words_in k ≤ words_in j
unfolding SuffixesIn HasWords words_in
part_within Γ NoSuffix j k has h = omega (arith, ap words_in h)
part_within Γ (Field n offset s) j k has h =
    let inner = part_within Γ s h.1 k (kind_has h.0 n h.1 (fields_have h.0 (subst HasWords h.2 has)) (h.3).is_there) h.4 in
    omega (arith, inner, ap words_in h.2, (kind_lies h.0 n h.1 (h.3).is_there).1)
part_within Γ (Index range first n words e s) j k has h =
    let array : HasWords (Array n h.0) = subst HasWords h.1 has in
    omega (arith, part_within Γ s h.0 k array.1 h.7, ap words_in h.1, element_within n (words_in h.0) array.0)

-- without an index the part lies behind its fields
pub fields_within : (Γ : Scope) (s : Suffixes) (j k : Kind) → has_index s ≡ false → SuffixesIn Γ s j k → fields_of s + words_in k ≤ words_in j
unfolding SuffixesIn words_in
fields_within Γ NoSuffix j k none h = omega (arith, ap words_in h)
fields_within Γ (Field n offset s) j k none h =
    omega (arith, fields_within Γ s h.1 k none h.4, ap words_in h.2, (h.3).lies, (kind_lies h.0 n h.1 (h.3).is_there).1)
fields_within Γ (Index range first n words e s) j k none h = cc

module _ (P : Coded) (r : Routine) (Γ : Scope) (names : Names P r Γ) (depth : ℕ) where
  local_there : (n : ℕ) (k : Kind) → KindAt Γ.locals n k → (words_in k ≡ words_at P.locals n) × (local_slot P n + words_in k ≤ r.frame)
  local_there n k at =
      let x = kind_lies Γ.locals n k at in
      let slot : local_slot P n ≡ words_before Γ.locals n = ap (λ ks. words_before ks n) names.same_locals in
      (x.0 ∙ sym (ap (λ ks. words_at ks n) names.same_locals), omega (arith, x.1, names.room, slot))

  global_there : (n : ℕ) (k : Kind) → KindAt Γ.globals n k
      → (words_in k ≡ words_at P.globals n) × (global_slot P n + words_in k ≤ r.globals)
  global_there n k at =
      let x = kind_lies Γ.globals n k at in
      let slot : global_slot P n ≡ words_before Γ.globals n = ap (λ ks. words_before ks n) names.same_globals in
      (x.0 ∙ sym (ap (λ ks. words_at ks n) names.same_globals), omega (arith, x.1, names.all_globals, slot))

  pub scratch_there : scratch P + 16 ≤ r.frame
  scratch_there = omega (arith, names.room, ap words_in_all names.same_locals)

  pub load_fits : (h : Home) (k : Kind) (offset words : ℕ) → VariableIn Γ h k → offset + words ≤ words_in k → FitsIn r depth (load P h offset words)
  unfolding VariableIn
  load_fits (Local n) k offset words at le = λ g some. omega (arith, le, (local_there n k at).1)
  load_fits (Global n) k offset words at le = λ g some. omega (arith, le, (global_there n k at).1)

  pub store_fits : (h : Home) (k : Kind) (offset words : ℕ) → VariableIn Γ h k → offset + words ≤ words_in k → FitsIn r depth (store P h offset words)
  unfolding VariableIn
  store_fits (Local n) k offset words at le = λ g some. omega (arith, le, (local_there n k at).1)
  store_fits (Global n) k offset words at le = λ g some. omega (arith, le, (global_there n k at).1)

  pub clear_fits : (h : Home) (k : Kind) (words : ℕ) → VariableIn Γ h k → words ≤ words_in k → FitsIn r depth (clear P h words)
  unfolding VariableIn
  clear_fits (Local n) k words at le = λ g some. omega (arith, le, (local_there n k at).1)
  clear_fits (Global n) k words at le = λ g some. omega (arith, le, (global_there n k at).1)

  pub load_within_fits : (h : Home) (k : Kind) (words : ℕ) → VariableIn Γ h k → words ≤ words_in k → FitsIn r depth (load_within P h words)
  unfolding VariableIn
  load_within_fits (Local n) k words at le = λ g some. let x = local_there n k at in (omega (arith, x.0, x.1), omega (arith, le, x.0))
  load_within_fits (Global n) k words at le = λ g some. let x = global_there n k at in (omega (arith, x.0, x.1), omega (arith, le, x.0))

  pub store_within_fits : (h : Home) (k : Kind) (words : ℕ) → VariableIn Γ h k → words ≤ words_in k → FitsIn r depth (store_within P h words)
  unfolding VariableIn
  store_within_fits (Local n) k words at le = λ g some. let x = local_there n k at in (omega (arith, x.0, x.1), omega (arith, le, x.0))
  store_within_fits (Global n) k words at le = λ g some. let x = global_there n k at in (omega (arith, x.0, x.1), omega (arith, le, x.0))

-- Calls and raises.

own_there : (signals : List Item) (n : ℕ) (i : Item) → slice_get signals n ≡ Some i → slice_get (map signal_code signals) n ≡ Some (signal_code i)
own_there signals n i e = slice_get-map signal_code signals n ∙ ap (option_map signal_code) e

called_kind : (k : ItemKind) → k ≡ item.Procedure → IsCalled (kind_code k)
called_kind item.Procedure e = tt
called_kind item.Signal e = cc
called_kind item.Error e = cc

pub no_fields : (gives : List FieldType) → gives ≡ [] → words_of_fields gives ≡ 0
unfolding words_in_all
no_fields gives e = ap words_of_fields e

pub error_gives_none : (i : Item) → HeadIn i → IsSignal i → IsSignalWith (kind_code i.kind) (words_of_fields i.gives)
unfolding HeadIn IsSignal
error_gives_none i head is =
    ⊎_elim (λ e. subst (λ kind. IsSignalWith (kind_code kind) (words_of_fields i.gives)) (sym e) tt)
    (λ e. subst (λ kind. IsSignalWith (kind_code kind) (words_of_fields i.gives)) (sym e) (no_fields i.gives (head.2 e))) is

module _ (P : Coded) (r : Routine) (Γ : Scope) (names : Names P r Γ) where
  signal_there : (n : ℕ) (i : Item) → slice_get Γ.signals n ≡ Some i → slice_get r.signals n ≡ Some (signal_code i)
  signal_there n i e = ap (λ l. slice_get l n) names.all_signals ∙ own_there Γ.signals n i e

  link_there : (k n : ℕ) (i : Item) → UsedItem Γ k n i → slice_get r.links (link_number P.imports k n) ≡ Some (link_code i)
  unfolding UsedItem
  link_there k n i u =
      let x = link_number Γ.imports k n in
      ap (λ imports. slice_get r.links (link_number imports k n)) names.same_imports
      ∙ (ap (λ l. slice_get l x) names.all_links
      ∙ (slice_get-map link_code (links_of Γ.imports) x
      ∙ ap (option_map link_code) (linked_there Γ.imports names.each_import k n i u.0 u.1)))

  pub call_fits : (depth : ℕ) (callee : Callee) (i : Item) → CalleeIs Γ callee i → FitsIn r depth (call_code P.imports callee)
  unfolding CalleeIs
  call_fits depth (OwnProcedure q) i h = λ g some. (omega (arith, h.1), omega (arith, h.1, names.all_procedures, slice_get_within Γ.procedures h.0 i h.2))
  call_fits depth (LinkedProcedure k n) i h = λ g some. subst CalledLink (sym (link_there k n i h.0)) (called_kind i.kind h.1)

  pub raise_fits : (depth : ℕ) (raised : Raised) (ks js : Kinds) → RaisedIs Γ raised ks js → FitsIn r depth (raise_code P.imports raised)
  unfolding RaisedIs IsSignal
  raise_fits depth (OwnSignal n) ks js h =
      λ g some. omega (arith, slice_get_within Γ.signals n h.0 h.1, ap length names.all_signals, length-map Γ.signals signal_code)
  raise_fits depth (LinkedSignal k n) ks js h = λ g some. subst RaisedLink (sym (link_there k n h.0 h.1))
      (⊎_elim (λ e. subst (λ kind. IsRaised (kind_code kind)) (sym e) tt)
      (λ e. subst (λ kind. IsRaised (kind_code kind)) (sym e) tt) h.2)
  raise_fits depth TheBoundsFault ks js h = λ g some. omega arith
  raise_fits depth TheZeroDivisor ks js h = λ g some. omega arith
  raise_fits depth TheUnnamed ks js h = λ g some. omega arith

  -- Arms.

  head_of : (k n : ℕ) (i : Item) → UsedItem Γ k n i → HeadIn i
  unfolding UsedItem
  head_of k n i u = head_there Γ.imports names.each_import k n i u.0

  label_named : (l : t.Label) → NamesSignal Γ l → LabelInRange r.signals r.links (label_code P.imports l)
  unfolding NamesSignal
  label_named OnAny h = tt
  label_named OnUnwind h = tt
  label_named (OnOwn n) h = omega (arith, h, ap length names.all_signals, length-map Γ.signals signal_code)
  label_named (OnLinked k n) h =
      subst IsSignalLink (sym (link_there k n h.0 h.1)) (error_gives_none h.0 (head_of k n h.0 h.1) h.2)
  label_named OnBounds h = tt
  label_named OnZero h = tt

  abbrev InRange : t.Label → Type 0
  InRange l = LabelInRange r.signals r.links (label_code P.imports l)

  labels_in_range : (ls : List t.Label) → AreLabels Γ ls → All (LabelInRange r.signals r.links) (map (label_code P.imports) ls)
  unfolding AreLabels
  labels_in_range ls h =
      All-map (LabelInRange r.signals r.links) (label_code P.imports) ls
      (⊎_elim (λ e. subst (λ (xs : List t.Label). All InRange xs) (sym e) one_any)
      (⊎_elim (λ e. subst (λ (xs : List t.Label). All InRange xs) (sym e) one_unwind) (λ x k d lt. label_named _ (x.1 k d lt))) h)
    where
      one_any : All InRange (OnAny ∷ [])
      one_any zero d lt = tt
      one_any (suc k) d lt = absurd (omega (arith, lt))

      one_unwind : All InRange (OnUnwind ∷ [])
      one_unwind zero d lt = tt
      one_unwind (suc k) d lt = absurd (omega (arith, lt))

  some_label : (ls : List t.Label) → AreLabels Γ ls → 0 < length (map (label_code P.imports) ls)
  unfolding AreLabels
  some_label [] h = absurd (⊎_elim (λ e. cc) (⊎_elim (λ e. cc) (λ x. x.0 refl)) h)
  some_label (l ∷ ls) h = omega arith

  locals_from : (ks : Kinds) (first : ℕ) → LocalsFrom Γ first ks
      → (words_from P.locals first (count_in ks) ≡ words_in_all ks) × (words_before Γ.locals first + words_in_all ks ≤ words_in_all Γ.locals)
  unfolding LocalsFrom count_in words_in_all
  locals_from NoKinds first h = (refl, omega (arith, before_all Γ.locals first))
  locals_from (AndKind k ks) first h =
      let x = kind_lies Γ.locals first k h.0 in
      let y = locals_from ks (suc first) h.1 in
      let here : words_at P.locals first ≡ words_at Γ.locals first = ap (λ l. words_at l first) names.same_locals in
      let next = before_next Γ.locals first in
      let more : words_from P.locals first (1 + count_in ks) ≡ words_at P.locals first + words_from P.locals (suc first) (count_in ks) =
      ap (words_from P.locals first) {x = 1 + count_in ks} {y = suc (count_in ks)} (omega arith) in
      (omega (arith, x.0, y.0, here, more), omega (arith, x.0, y.1, next))

  label_takes : (l : t.Label) (k : Kind) (ks : Kinds) (words : ℕ) → words ≡ words_in_all (AndKind k ks) → sound.LabelTakes Γ l (AndKind k ks)
      → LabelTakes r words (label_code P.imports l)
  unfolding sound.LabelTakes RaisedIs
  label_takes OnAny k ks words e h = cc
  label_takes OnUnwind k ks words e h = cc
  label_takes (OnOwn n) k ks words e h = subst (SignalTakes words) (sym (signal_there n (h.1).0 (h.1).1)) (sym (ap words_in_all (h.1).2) ∙ sym e)
  label_takes (OnLinked j n) k ks words e h = subst (LinkTakes words) (sym (link_there j n (h.1).0 (h.1).1)) (sym (ap words_in_all (h.1).3) ∙ sym e)
  label_takes OnBounds k ks words e h = cc
  label_takes OnZero k ks words e h = cc

  arm_takes : (ls : List t.Label) (first : ℕ) (ks : Kinds) (words : ℕ) → words ≡ words_in_all ks → AreGiven Γ ls first ks
      → (words ≡ 0) ⊎ All (LabelTakes r words) (map (label_code P.imports) ls)
  unfolding AreGiven words_in_all
  arm_takes ls first NoKinds words e h = inl e
  arm_takes ls first (AndKind k ks) words e h =
      inr (All-map (LabelTakes r words) (label_code P.imports) ls (λ n d lt. label_takes _ k ks words e (h n d lt)))

  pub arm_fine : (ls : List t.Label) (first count : ℕ) (ks : Kinds) → AreLabels Γ ls → count ≡ count_in ks → LocalsFrom Γ first ks → AreGiven Γ ls first ks
      → ArmFine r (map (label_code P.imports) ls) (local_slot P first) (words_from P.locals first count)
  arm_fine ls first count ks labels many locals given =
      let x = locals_from ks first locals in
      let words : words_from P.locals first count ≡ words_in_all ks = ap (λ n. words_from P.locals first n) many ∙ x.0 in
      let slot : local_slot P first ≡ words_before Γ.locals first = ap (λ l. words_before l first) names.same_locals in
      record {
        labelled = some_label ls labels;
        labels = labels_in_range ls labels;
        slots = omega (arith, words, slot, x.1, names.room);
        takes = arm_takes ls first ks (words_from P.locals first count) words given;
      }
