use Rattle.std.proofs.Common.{List, map, sym, subst, ap, ◌∙◌}
use Rattle.mesa_types.specs.declared.faces.Import.{Import}
use Rattle.mesa_types.specs.declared.faces.Item.{Item}
use Rattle.mesa_types.specs.declared.types.FieldType.{FieldType}
use Rattle.mesa_types.specs.Links.{links_of}
use Rattle.mesa_types.specs.Plain.{plain}
use Rattle.code_rules.specs.Modules.{words_of_fields, signal_code, link_code}
use Rattle.frame_code.specs.Code.{IsCodeOf}
use Rattle.frame_code.proofs.Whole.{parts_stand}
use Rattle.frame_code.proofs.translation.assembled.Goals as goal

pub invariant_of-new : goal.invariant_of-new
invariant_of-new c =
    let m = c.args.«module».now in
    let whole =
    parts_stand (plain m) c.requires.sound c.requires.few c.in_ok-name.name c.few_words-global_words.result c.in_ok-signals.signals c.in_ok-strings.strings
    c.in_ok-links.links c.args.procedures c.in_ok-name.ensures
    (c.few_words-global_words.ensures ∙ ap (λ (l : List FieldType). words_of_fields l) c.as_slice.ensures)
    (c.in_ok-signals.ensures ∙ ap (λ (l : List Item). map signal_code l) c.as_slice-2.ensures)
    (c.in_ok-strings.ensures.same ∙ c.as_slice-3.ensures)
    (c.in_ok-links.ensures ∙ ap (λ (l : List Import). map link_code (links_of l)) c.as_slice-4.ensures) c.requires.procedures in
    record { ranges = ∣ (whole.1).ranges ∣₁ }

pub new-requires-clause-valid : goal.new-requires-clause-valid
new-requires-clause-valid c =
    let m = c.args.«module».now in
    let whole =
    parts_stand (plain m) c.requires.sound c.requires.few c.in_ok-name.name c.few_words-global_words.result c.in_ok-signals.signals c.in_ok-strings.strings
    c.in_ok-links.links c.args.procedures c.in_ok-name.ensures
    (c.few_words-global_words.ensures ∙ ap (λ (l : List FieldType). words_of_fields l) c.as_slice.ensures)
    (c.in_ok-signals.ensures ∙ ap (λ (l : List Item). map signal_code l) c.as_slice-2.ensures)
    (c.in_ok-strings.ensures.same ∙ c.as_slice-3.ensures)
    (c.in_ok-links.ensures ∙ ap (λ (l : List Import). map link_code (links_of l)) c.as_slice-4.ensures) c.requires.procedures in
    (whole.1).valid

pub new-requires-clause-depths : goal.new-requires-clause-depths
new-requires-clause-depths c =
    let m = c.args.«module».now in
    let whole =
    parts_stand (plain m) c.requires.sound c.requires.few c.in_ok-name.name c.few_words-global_words.result c.in_ok-signals.signals c.in_ok-strings.strings
    c.in_ok-links.links c.args.procedures c.in_ok-name.ensures
    (c.few_words-global_words.ensures ∙ ap (λ (l : List FieldType). words_of_fields l) c.as_slice.ensures)
    (c.in_ok-signals.ensures ∙ ap (λ (l : List Item). map signal_code l) c.as_slice-2.ensures)
    (c.in_ok-strings.ensures.same ∙ c.as_slice-3.ensures)
    (c.in_ok-links.ensures ∙ ap (λ (l : List Import). map link_code (links_of l)) c.as_slice-4.ensures) c.requires.procedures in
    (whole.1).depths

pub returns : goal.returns
returns c =
    let m = c.args.«module».now in
    let whole =
    parts_stand (plain m) c.requires.sound c.requires.few c.in_ok-name.name c.few_words-global_words.result c.in_ok-signals.signals c.in_ok-strings.strings
    c.in_ok-links.links c.args.procedures c.in_ok-name.ensures
    (c.few_words-global_words.ensures ∙ ap (λ (l : List FieldType). words_of_fields l) c.as_slice.ensures)
    (c.in_ok-signals.ensures ∙ ap (λ (l : List Item). map signal_code l) c.as_slice-2.ensures)
    (c.in_ok-strings.ensures.same ∙ c.as_slice-3.ensures)
    (c.in_ok-links.ensures ∙ ap (λ (l : List Import). map link_code (links_of l)) c.as_slice-4.ensures) c.requires.procedures in
    subst (IsCodeOf (plain m)) (sym c.new.ensures) (record { chosen = whole.0; stands = whole.1; bytes = c.in_ok-strings.ensures.bytes })
