-- The code of a module that fits the form of files keeps the ranges that its type sets.
use Rattle.std.proofs.Common.{◌≡◌, ℕ, zero, suc, ◌+◌, ◌<◌, ◌≤◌, ◌^◌, List, [], ◌∷◌, length, get_or, map, Option, Some, None, refl, sym, ap, subst, arith}
use Rattle.std.specs.Prelude.{All, IsTrue, slice_get, nat_le, nat_lt}
use Rattle.std.specs.List.{AllAdjacentBelow}
use Rattle.std.proofs.lemmas.Bool.Decides.{nat_tests}
use Rattle.std.proofs.lemmas.List.{length-map}
use Rattle.std.proofs.lemmas.List.Elements.{All-append, All-nil}
use Rattle.mesa_base.specs.declared.limits.TheConstants.{GLOBAL_WORDS, DISTINCT_STRINGS, STRING_BYTES}
use Rattle.mesa_types.specs.Types.{words_of_fields}
use Rattle.mesa_types.specs.Links.{items_used, links_of}
use Rattle.mesa_types.specs.declared.faces.Face.{Face}
use Rattle.mesa_types.specs.declared.faces.Import.{Import}
use Rattle.mesa_types.specs.declared.faces.Item.{Item}
use Rattle.mesa_types.specs.declared.faces.ItemKind.{ItemKind}
use Rattle.mesa_types.specs.declared.faces.ItemKind.TheVariants as item
use Rattle.mesa_types.specs.declared.types.FieldType.{FieldType}
use Rattle.code_forms.specs.declared.instruction.Instruction.{Instruction}
use Rattle.code_forms.specs.declared.limits.TheConstants.{FRAME_WORDS, STACK_WORDS}
use Rattle.code_forms.specs.declared.module_code.Arm.{Arm}
use Rattle.code_forms.specs.declared.module_code.CodeEntry.{CodeEntry}
use Rattle.code_forms.specs.declared.module_code.CodeKind.{CodeKind}
use Rattle.code_forms.specs.declared.module_code.CodeKind.TheVariants.{Procedure, Signal, Error}
use Rattle.code_forms.specs.declared.module_code.CodeLink.{CodeLink}
use Rattle.code_forms.specs.declared.module_code.CodeSignal.{CodeSignal}
use Rattle.code_forms.specs.declared.module_code.Label.{Label}
use Rattle.code_forms.specs.declared.module_code.Label.TheVariants as l
use Rattle.code_forms.specs.declared.module_code.Phrase.{Phrase}
use Rattle.code_forms.specs.Instructions.{bytes_of}
use Rattle.code_forms.specs.Ranges.{IsSignalWith, SignalInRange, IsLinkWith, LinkInRange, IsSignalLink, LabelInRange, AreFew, ArmInRange, PhraseInRange, InOrder, ProcedureInRange, IsBody, KeepsRanges}
use Rattle.file_forms.specs.Forms.{Form, FitEach, list, at_least, between}
use Rattle.file_forms.specs.Names.{fresh_name}
use Rattle.face_rules.specs.FaceForms.{gives, item_named, item_names, items, face}
use Rattle.object_rules.specs.CatchForms.{is_signal_kind, is_signal_link, own_label, link_label, label_at, label, arm, phrase}
use Rattle.object_rules.specs.Filling.{size_of_all}
use Rattle.object_rules.specs.ModuleForms.{import_form, signal_kind, may_give, signal, text, may_have, code, procedure, module_form}
use Rattle.object_rules.specs.Parts.{ProcedurePart, ModulePart, entries_from, procedure_code, procedures_of, kind_code, link_code, link_codes}
use Rattle.object_rules.proofs.AllFit.{all_fit, all_mapped, there}

at_most : (n limit : ℕ) → IsTrue (nat_le n limit) → n ≤ limit
at_most n limit h = grind (arith, nat_tests)

-- ---- signals

kind_in_range : (k : CodeKind) (results : ℕ) → signal_kind.fits k → IsTrue (may_give k results) → IsSignalWith k results
unfolding signal_kind
kind_in_range Procedure results fits gives = let no = fits.1 in absurd cc
kind_in_range Signal results fits gives = tt
kind_in_range Error results fits gives = grind (arith, nat_tests)

pub signal_in_range : (s : CodeSignal) → signal.fits s → SignalInRange s
unfolding signal
signal_in_range s fits = kind_in_range s.kind s.results fits.0 fits.1.1.1.1

-- ---- links

gives_in_range : (version : ℕ) (k : ItemKind) (all : List FieldType) → (gives version k).fits all → IsLinkWith (kind_code k) (words_of_fields all)
unfolding gives
gives_in_range version item.Procedure all fits = tt
gives_in_range version item.Signal all fits = tt
gives_in_range version item.Error all fits = ap words_of_fields fits

abbrev ItemInRange : Item → Type 0
ItemInRange i = LinkInRange (link_code i)

item_in_range : (called : Form (List ℕ)) (version : ℕ) (i : Item) → (item_named called version).fits i → ItemInRange i
unfolding item_named
item_in_range called version i fits = gives_in_range version i.kind i.gives fits.1.1.1

face_in_range : (version : ℕ) (f : Face) → (face version).fits f → All ItemInRange f.items
unfolding face items
face_in_range version f fits =
    all_fit ItemInRange (λ before. item_named (fresh_name (item_names before)) version) (λ before i. item_in_range (fresh_name (item_names before)) version i) [] f.items fits.1.1.1.1

one_in_range : (i : Item) → ItemInRange i → All ItemInRange (i ∷ [])
one_in_range i h zero d less = h
one_in_range i h (suc k) d less = absurd (omega (arith, less))

used_in_range : (all : List Item) (n : ℕ) (ns : List ℕ) (o : Option Item) → slice_get all n ≡ o → All ItemInRange all → All ItemInRange (items_used all ns) → All ItemInRange (items_used all (n ∷ ns))
unfolding items_used
used_in_range all n ns None e h more = rw e more
used_in_range all n ns (Some i) e h more = rw e (All-append ItemInRange (i ∷ []) (items_used all ns) (one_in_range i (there ItemInRange all n i h e)) more)

items_in_range : (all : List Item) (ns : List ℕ) → All ItemInRange all → All ItemInRange (items_used all ns)
unfolding items_used
items_in_range all [] h = All-nil ItemInRange
items_in_range all (n ∷ ns) h = used_in_range all n ns (slice_get all n) refl h (items_in_range all ns h)

import_in_range : (version : ℕ) (i : Import) → (import_form version).fits i → All ItemInRange i.face.items
unfolding import_form
import_in_range version i fits = face_in_range version i.face fits.0

links_in_range : (imports : List Import) → All (λ (i : Import). All ItemInRange i.face.items) imports → All ItemInRange (links_of imports)
unfolding links_of
links_in_range [] h = All-nil ItemInRange
links_in_range (i ∷ imports) h =
    All-append ItemInRange (items_used i.face.items i.used) (links_of imports) (items_in_range i.face.items i.used (h zero i (omega arith)))
    (links_in_range imports (λ k d few. h (suc k) d (omega (arith, few))))

-- the links of imports that fit
pub link_codes_in_range : (version : ℕ) (imports : List Import) → (list (at_least 0) (λ _. import_form version)).fits imports → All LinkInRange (link_codes imports)
link_codes_in_range version imports fits =
    all_mapped LinkInRange link_code (links_of imports)
    (links_in_range imports (all_fit (λ (i : Import). All ItemInRange i.face.items) (λ _. import_form version) (λ _ i. import_in_range version i) [] imports fits.1.1))

-- ---- labels, arms and phrases

module _ (signals : List CodeSignal) (links : List CodeLink) (in_range : All LinkInRange links) where
  signal_link : (k : CodeKind) (results : ℕ) → IsTrue (is_signal_kind k) → IsLinkWith k results → IsSignalWith k results
  signal_link Procedure results is h = absurd cc
  signal_link Signal results is h = tt
  signal_link Error results is h = h

  is_link : (o : Option CodeLink) (n : ℕ) → slice_get links n ≡ o → IsTrue (is_signal_link o) → IsSignalLink o
  is_link None n e is = absurd cc
  is_link (Some link) n e is = signal_link link.kind link.results is (there LinkInRange links n link in_range e)

  label_in_range : (x : Label) → (label signals links).fits x → LabelInRange signals links x
  unfolding label label_at own_label link_label
  label_in_range l.Any fits = tt
  label_in_range l.Unwind fits = tt
  label_in_range (l.Own k) fits = let less : IsTrue (nat_lt k (length signals)) = fits.1.1 in grind (arith, nat_tests)
  label_in_range (l.Link k) fits = is_link (slice_get links k) k refl fits.1.1
  label_in_range l.BoundsFault fits = tt
  label_in_range l.ZeroDivisor fits = tt

  arm_in_range : (a : Arm) → (arm signals links).fits a → ArmInRange signals links a
  unfolding arm
  arm_in_range a fits = record {
    labelled = at_most 1 (length a.labels) fits.0.0.1;
    few = fits.0.0.0;
    labels = all_fit (LabelInRange signals links) (λ _. label signals links) (λ _ x. label_in_range x) [] a.labels fits.0.1.1;
  }

  phrase_in_range : (p : Phrase) → (phrase signals links).fits p → PhraseInRange signals links p
  unfolding phrase
  phrase_in_range p fits = record {
    armed = at_most 1 (length p.arms) fits.1.1.0.1;
    few = fits.1.1.0.0;
    arms = all_fit (ArmInRange signals links) (λ _. arm signals links) (λ _ a. arm_in_range a) [] p.arms fits.1.1.1.1;
  }

-- ---- code

next_joins : (at : ℕ) (all : List Instruction) (k : ℕ) (d : CodeEntry) → suc k < length (entries_from at all)
    → (get_or (entries_from at all) k d).at + bytes_of (get_or (entries_from at all) k d).instruction ≡ (get_or (entries_from at all) (suc k) d).at
unfolding entries_from
next_joins at [] k d less = absurd (omega (arith, less))
next_joins at (i ∷ []) k d less = absurd (omega (arith, less))
next_joins at (i ∷ j ∷ all) zero d less = refl
next_joins at (i ∷ j ∷ all) (suc k) d less = next_joins (at + bytes_of i) (j ∷ all) k d (omega (arith, less))

joined : (at : ℕ) (all : List Instruction) → AllAdjacentBelow (λ (e f : CodeEntry). e.at + bytes_of e.instruction ≡ f.at) (entries_from at all) (length (entries_from at all))
joined at all k d less =
    subst (λ n. (get_or (entries_from at all) k d).at + bytes_of (get_or (entries_from at all) k d).instruction ≡ (get_or (entries_from at all) n d).at) (omega arith)
    (next_joins at all k d (omega (arith, less)))

ends_within : (at : ℕ) (all : List Instruction) → at + size_of_all bytes_of all < 2 ^ 32 → All (λ (e : CodeEntry). e.at + bytes_of e.instruction < 2 ^ 32) (entries_from at all)
unfolding entries_from size_of_all
ends_within at [] small k d less = absurd (omega (arith, less))
ends_within at (i ∷ all) small zero d less = omega (arith, small)
ends_within at (i ∷ all) small (suc k) d less = ends_within (at + bytes_of i) all (omega (arith, small)) k d (omega (arith, less))

from_nothing : (n : ℕ) → n < 2 ^ 32 → 0 + n < 2 ^ 32
from_nothing n small = omega (arith, small)

in_order : (all : List Instruction) → code.fits all → InOrder (entries_from 0 all)
unfolding code entries_from size_of_all
in_order all fits = record {
  some = some all (at_most 1 (size_of_all bytes_of all) fits.0.1);
  first = first all (at_most 1 (size_of_all bytes_of all) fits.0.1);
  joined = joined 0 all;
  short = ends_within 0 all (from_nothing (size_of_all bytes_of all) fits.0.0);
}
  where
    some : (all : List Instruction) → 1 ≤ size_of_all bytes_of all → 0 < length (entries_from 0 all)
    some [] h = absurd (omega (arith, h))
    some (i ∷ all) h = omega arith

    first : (all : List Instruction) → 1 ≤ size_of_all bytes_of all → (d : CodeEntry) → (get_or (entries_from 0 all) 0 d).at ≡ 0
    first [] h d = absurd (omega (arith, h))
    first (i ∷ all) h d = refl

-- ---- procedures

module _ (signals : List CodeSignal) (links : List CodeLink) (in_range : All LinkInRange links) where
  procedure_in_range : (before : List ProcedurePart) (p : ProcedurePart) → (procedure signals links before).fits p → ProcedureInRange signals links (procedure_code p)
  unfolding procedure
  procedure_in_range before p fits = record {
    frame = frame;
    words = words;
    depth = at_most p.depth STACK_WORDS fits.1.1.1.1.0.1;
    code = in_order p.code fits.1.1.1.1.1.0;
    few = fits.1.1.1.1.1.1.0.0;
    phrases = all_fit (PhraseInRange signals links) (λ _. phrase signals links) (λ _ q. phrase_in_range signals links in_range q) [] p.phrases fits.1.1.1.1.1.1.1.1;
  }
    where
      fitting : IsTrue (between (p.args + p.results) FRAME_WORDS p.frame)
      fitting = fits.1.1.1.0.1

      frame : p.frame ≤ FRAME_WORDS
      frame = let h = fitting in grind (arith, nat_tests, h)

      words : p.args + p.results ≤ p.frame
      words = let h = fitting in grind (arith, nat_tests, h)

  is_body : (all : List ProcedurePart) → 1 ≤ length all → FitEach (procedure signals links) [] all → IsBody (slice_get (map procedure_code all) 0)
  unfolding FitEach procedure
  is_body [] some fits = absurd (omega (arith, some))
  is_body (p ∷ all) some fits = (none p.args fits.0.1.0.1, none p.results fits.0.1.1.0.1)
    where
      none : (n : ℕ) → IsTrue (may_have [] n) → n ≡ 0
      none n h = grind (arith, nat_tests)

  pub procedures_in_range : (all : List ProcedurePart) → (list (at_least 1) (procedure signals links)).fits all
      → IsBody (slice_get (map procedure_code all) 0) × AreFew (map procedure_code all) × All (ProcedureInRange signals links) (map procedure_code all)
  procedures_in_range all fits = (
    is_body all (at_most 1 (length all) fits.0.1) fits.1.1,
    subst (λ n. n < 2 ^ 32) (sym (length-map all procedure_code)) fits.0.0,
    all_mapped (ProcedureInRange signals links) procedure_code all (all_fit (λ p. ProcedureInRange signals links (procedure_code p)) (procedure signals links) procedure_in_range [] all fits.1.1),
  )

-- ---- modules

text_in_range : (s : List ℕ) → text.fits s → length s ≤ STRING_BYTES
unfolding text
text_in_range s fits = at_most (length s) STRING_BYTES fits.0.1

pub keeps_ranges : (version : ℕ) (m : ModulePart) → (module_form version).fits m → KeepsRanges m.global_words m.signals m.strings (link_codes m.imports) (procedures_of m)
unfolding module_form
keeps_ranges version m fits =
    let each_link = link_codes_in_range version m.imports fits.1.0 in
    let procedures = procedures_in_range m.signals (link_codes m.imports) each_link m.procedures fits.1.1.1.1.1.0 in
    record {
      few_globals = at_most m.global_words GLOBAL_WORDS fits.1.1.0.1;
      few_signals = fits.1.1.1.0.0.0;
      each_signal = all_fit SignalInRange (λ _. signal) (λ _. signal_in_range) [] m.signals fits.1.1.1.0.1.1;
      few_strings = at_most (length m.strings) DISTINCT_STRINGS fits.1.1.1.1.0.0.1;
      each_string = all_fit (λ s. length s ≤ STRING_BYTES) (λ _. text) (λ _. text_in_range) [] m.strings fits.1.1.1.1.0.1.1;
      each_link = each_link;
      body = procedures.0;
      few_procedures = procedures.1;
      each_procedure = procedures.2;
    }
