use Rattle.std.proofs.Common.{List, ◌++◌, map, sym, ap, ◌∙◌, arith}
use Rattle.std.proofs.lemmas.List.{take_all}
use Rattle.std.specs.Prelude.{codes}
use Rattle.mesa_types.specs.declared.types.FieldType.{FieldType, out-FieldType}
use Rattle.listing_rules.specs.Lines.{between}
use Rattle.listing_rules.specs.Types.{label_text, type_text, field_text}
use Rattle.listing_rules.proofs.TypeLaws.{field_printed}
use Rattle.listing_writers.proofs.Chains.{same_text, then_two, then_three}
use Rattle.listing_writers.proofs.Turns.{first_yet, between_more}
use Rattle.listing_writers.proofs.types.+printing.Goals as goal

pub put_fields-fields-init : goal.put_fields-fields-init
put_fields-fields-init t c = first_yet field_text (codes ", ") c.put_text.new.out c.args.fields.now

pub put_fields-fields-preserved : goal.put_fields-fields-preserved
put_fields-fields-preserved t c =
    between_more field_text (codes ", ") c.put_text.new.out c.fields.out c.put_mark.new.out c.put_field.new.out c.args.fields.now c.fields.i c.index-fields-i.result (omega arith) c.index-fields-i.is
    c.fields.invariant c.in_ok-put_mark.ensures c.in_ok-put_field.ensures

pub put_fields-returns : goal.put_fields-returns
put_fields-returns t c =
    then_three c.put_text-2.result c.args.out.now c.put_text.new.out c.fields.out c.put_text-2.new.out (codes "[") (between (codes ", ") (map field_text c.args.fields.now)) (codes "]")
    c.in_ok-put_text.ensures
    (c.fields.invariant ∙ ap (λ (xs : List FieldType). c.put_text.new.out ++ between (codes ", ") (map field_text xs)) (take_all c.fields.i c.args.fields.now (omega arith)))
    c.put_text-2.ensures

pub put_field-returns : goal.put_field-returns
put_field-returns t c =
    let field = c.args.field.now in
    same_text c.put_type.result c.args.out.now c.put_type.new.out _ _ (sym (field_printed field))
    (then_two c.put_type.result c.args.out.now c.put_label.new.out c.put_type.new.out (label_text (out-FieldType field).name) (type_text (out-FieldType field).kind) c.in_ok-put_label.ensures c.put_type.ensures)
