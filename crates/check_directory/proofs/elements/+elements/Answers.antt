use Rattle.std.proofs.Common.{rules}
use Rattle.interface_records.specs.PlainTypes.{plain_interface}
use Rattle.check_state.specs.Views.{names}
use Rattle.check_directory.proofs.ElementLaws as forms
use Rattle.check_directory.proofs.EntryLaws as laws
use Rattle.check_directory.proofs.elements.+elements.Goals as goal

pub in_fields-loop-field-preserved : goal.in_fields-loop-field-preserved
in_fields-loop-field-preserved t c = rw c.loop-field.invariant (rw (laws.flat_at (laws.in_field (plain_interface c.args.interface.now)) (names c.loop-field.names) c.loop-field.field-index c.args.fields.now c.loop-field.field-index c.field-item.result (search rules) (search rules)) (search rules))

pub in_fields-returns : goal.in_fields-returns
in_fields-returns t c = rw (laws.fields_flat (plain_interface c.args.interface.now) 0 c.args.fields.now) (rw c.loop-field.invariant (rw (laws.flat_out (laws.in_field (plain_interface c.args.interface.now)) (names c.loop-field.names) c.loop-field.field-index c.args.fields.now c.loop-field.field-index (search rules)) (search rules)))

pub in_type-returns-in-Integer : goal.in_type-returns-in-Integer
in_type-returns-in-Integer t c = forms.in_integer (plain_interface c.args.interface.now) (names c.args.names.now) c.args.kind.now (search rules)

pub in_type-returns-in-Integer-2 : goal.in_type-returns-in-Integer-2
in_type-returns-in-Integer-2 t c = forms.in_cardinal (plain_interface c.args.interface.now) (names c.args.names.now) c.args.kind.now (search rules)

pub in_type-returns-in-Integer-3 : goal.in_type-returns-in-Integer-3
in_type-returns-in-Integer-3 t c = forms.in_long_integer (plain_interface c.args.interface.now) (names c.args.names.now) c.args.kind.now (search rules)

pub in_type-returns-in-Integer-4 : goal.in_type-returns-in-Integer-4
in_type-returns-in-Integer-4 t c = forms.in_long_cardinal (plain_interface c.args.interface.now) (names c.args.names.now) c.args.kind.now (search rules)

pub in_type-returns-in-Integer-5 : goal.in_type-returns-in-Integer-5
in_type-returns-in-Integer-5 t c = forms.in_boolean (plain_interface c.args.interface.now) (names c.args.names.now) c.args.kind.now (search rules)

pub in_type-returns-in-Integer-6 : goal.in_type-returns-in-Integer-6
in_type-returns-in-Integer-6 t c = forms.in_character (plain_interface c.args.interface.now) (names c.args.names.now) c.args.kind.now (search rules)

pub in_type-returns-in-Integer-7 : goal.in_type-returns-in-Integer-7
in_type-returns-in-Integer-7 t c = forms.in_string (plain_interface c.args.interface.now) (names c.args.names.now) c.args.kind.now (search rules)

pub in_type-returns-else-is_own : goal.in_type-returns-else-is_own
in_type-returns-else-is_own t c =
    forms.in_other (plain_interface c.args.interface.now) (names c.args.names.now) c.args.kind.now c.in-Enumeration.origin c.in-Enumeration.found (search rules) (search rules)

pub in_type-returns-in_ok-in_type-in-Array : goal.in_type-returns-in_ok-in_type-in-Array
in_type-returns-in_ok-in_type-in-Array t c =
    forms.then_ok c.in_type-in-Array-2.result c.in_type-in-Array-2.ensures (λ h.
    forms.in_array (plain_interface c.args.interface.now) (names c.args.names.now) c.args.kind.now c.in-Array.index c.in-Array.element (search rules)
    (names c.in_type-in-Array.new.names) (names c.in_type-in-Array-2.new.names) (search rules) (search (rules, h)))
