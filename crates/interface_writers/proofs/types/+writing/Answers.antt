use Rattle.std.proofs.Common.{◌≡◌, ℕ, List, [], None, take, subst, sym, ap, ◌∙◌, rules}
use Rattle.file_forms.specs.Written.{Written, appended}
use Rattle.file_forms.proofs.WrittenLaws.{appended_nothing}
use Rattle.face_rules.specs.Layers.{tag_of}
use Rattle.face_rules.specs.TypeForms.{any, field_form, type_form, tagged}
use Rattle.face_rules.proofs.WriteLaws.{array_fits, array_spells, subrange_fits, subrange_spells, record_fits, record_spells, enumeration_fits, enumeration_spells, integer_spells, long_cardinal_spelled, long_integer_spelled, cardinal_spells, boolean_spells, character_spells, string_spells}
use Rattle.interface_writers.proofs.Loops.{none_yet, full_already}
use Rattle.interface_writers.proofs.ElementLaws.{field_fits, field_written}
use Rattle.interface_writers.proofs.types.+writing.Goals as goal

nothing : (out : Written) (text : List ℕ) → text ≡ [] → out ≡ appended out text
nothing out text none = appended_nothing out ∙ ap (λ (t : List ℕ). appended out t) (sym none)

pub put_parts-returns-in-Integer : goal.put_parts-returns-in-Integer
put_parts-returns-in-Integer t c = rw c.in-Integer.is (nothing c.args.out.now _ (integer_spells (type_form 2 c.args.levels)))

pub put_parts-returns-in-Cardinal : goal.put_parts-returns-in-Cardinal
put_parts-returns-in-Cardinal t c = rw c.in-Cardinal.is (nothing c.args.out.now _ (cardinal_spells (type_form 2 c.args.levels)))

pub put_parts-returns-in-LongInteger : goal.put_parts-returns-in-LongInteger
put_parts-returns-in-LongInteger t c = rw c.in-LongInteger.is (nothing c.args.out.now _ (long_integer_spelled (type_form 2 c.args.levels)))

pub put_parts-returns-in-LongCardinal : goal.put_parts-returns-in-LongCardinal
put_parts-returns-in-LongCardinal t c = rw c.in-LongCardinal.is (nothing c.args.out.now _ (long_cardinal_spelled (type_form 2 c.args.levels)))

pub put_parts-returns-in-Boolean : goal.put_parts-returns-in-Boolean
put_parts-returns-in-Boolean t c = rw c.in-Boolean.is (nothing c.args.out.now _ (boolean_spells (type_form 2 c.args.levels)))

pub put_parts-returns-in-Character : goal.put_parts-returns-in-Character
put_parts-returns-in-Character t c = rw c.in-Character.is (nothing c.args.out.now _ (character_spells (type_form 2 c.args.levels)))

pub put_parts-returns-in-String : goal.put_parts-returns-in-String
put_parts-returns-in-String t c = rw c.in-String.is (nothing c.args.out.now _ (string_spells (type_form 2 c.args.levels)))

pub put_parts-put_array-requires : goal.put_parts-put_array-requires
put_parts-put_array-requires t c = let h = array_fits (type_form 2 c.args.levels) c.in-Array.index c.in-Array.element (subst (λ x. (tagged (type_form 2 c.args.levels) (tag_of x)).fits x) c.in-Array.is c.requires) in search rules

pub put_parts-returns-in-Array : goal.put_parts-returns-in-Array
put_parts-returns-in-Array t c = rw (c.in-Array.is, array_spells (type_form 2 c.args.levels) c.in-Array.index c.in-Array.element) (search rules)

pub put_parts-put_record-requires : goal.put_parts-put_record-requires
put_parts-put_record-requires t c = let h = record_fits (type_form 2 c.args.levels) c.in-Record.origin c.in-Record.fields (subst (λ x. (tagged (type_form 2 c.args.levels) (tag_of x)).fits x) c.in-Record.is c.requires) in search rules

pub put_parts-returns-in-Record : goal.put_parts-returns-in-Record
put_parts-returns-in-Record t c = rw (c.in-Record.is, record_spells (type_form 2 c.args.levels) c.in-Record.origin c.in-Record.fields) (search rules)

pub put_parts-put_subrange-requires : goal.put_parts-put_subrange-requires
put_parts-put_subrange-requires t c = let h = subrange_fits (type_form 2 c.args.levels) c.in-Subrange.base c.in-Subrange.first c.in-Subrange.last (subst (λ x. (tagged (type_form 2 c.args.levels) (tag_of x)).fits x) c.in-Subrange.is c.requires) in search rules

pub put_parts-returns-in-Subrange : goal.put_parts-returns-in-Subrange
put_parts-returns-in-Subrange t c = rw (c.in-Subrange.is, subrange_spells (type_form 2 c.args.levels) c.in-Subrange.base c.in-Subrange.first c.in-Subrange.last) (search rules)

pub put_parts-put_enumeration-requires-clause-origin : goal.put_parts-put_enumeration-requires-clause-origin
put_parts-put_enumeration-requires-clause-origin t c = let h = enumeration_fits (type_form 2 c.args.levels) c.in-Enumeration.origin c.in-Enumeration.names (subst (λ x. (tagged (type_form 2 c.args.levels) (tag_of x)).fits x) c.in-Enumeration.is c.requires) in search rules

pub put_parts-put_enumeration-requires-clause-names : goal.put_parts-put_enumeration-requires-clause-names
put_parts-put_enumeration-requires-clause-names t c = let h = enumeration_fits (type_form 2 c.args.levels) c.in-Enumeration.origin c.in-Enumeration.names (subst (λ x. (tagged (type_form 2 c.args.levels) (tag_of x)).fits x) c.in-Enumeration.is c.requires) in search rules

pub put_parts-returns-in-Enumeration : goal.put_parts-returns-in-Enumeration
put_parts-returns-in-Enumeration t c = rw (c.in-Enumeration.is, enumeration_spells (type_form 2 c.args.levels) c.in-Enumeration.origin c.in-Enumeration.names) (search rules)

pub put_each_field-fields-init : goal.put_each_field-fields-init
put_each_field-fields-init t c = none_yet (field_form (type_form 2 c.args.levels any)) c.args.out.now c.args.fields.now

pub put_each_field-returns-then-is_full : goal.put_each_field-returns-then-is_full
put_each_field-returns-then-is_full t c =
    let full : c.fields.out ≡ None = c.is_full.ensures.0 c.if-is_full.true in
    full_already (field_form (type_form 2 c.args.levels any)) c.args.out.now c.fields.out c.args.fields.now c.fields.field-index c.fields.invariant full

pub put_each_field-put_label-requires : goal.put_each_field-put_label-requires
put_each_field-put_label-requires t c = (take c.fields.field-index c.args.fields.now, (field_fits (type_form 2 c.args.levels any) c.args.fields.now c.fields.field-index c.field-item.result c.requires c.fields-test.true c.field-item.is).0)

pub put_each_field-put_within-requires : goal.put_each_field-put_within-requires
put_each_field-put_within-requires t c = let h = field_fits (type_form 2 c.args.levels any) c.args.fields.now c.fields.field-index c.field-item.result c.requires c.fields-test.true c.field-item.is in search rules

pub put_each_field-fields-preserved : goal.put_each_field-fields-preserved
put_each_field-fields-preserved t c = field_written (type_form 2 c.args.levels any) c.args.out.now c.fields.out c.put_label.new.out c.put_within.new.out c.args.fields.now c.fields.field-index c.field-item.result c.fields-test.true c.field-item.is c.fields.invariant c.in_ok-put_label.ensures c.in_ok-put_within.ensures
