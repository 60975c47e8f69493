use Rattle.std.proofs.Common.{rules}
use Rattle.check_state.specs.Views.{names}
use Rattle.check_directory.proofs.ElementLaws.{then_ok}
use Rattle.check_faces.proofs.AheadLaws as laws
use Rattle.check_faces.proofs.FormLaws as forms
use Rattle.check_faces.proofs.declared_names.+elements.Goals as goal

pub also_in_named-loop-field-preserved : goal.also_in_named-loop-field-preserved
also_in_named-loop-field-preserved t c = rw c.loop-field.invariant (rw (laws.named_at (names c.loop-field.scope) c.loop-field.field-index c.args.fields.now c.field-item.result (search rules) (search rules)) (search rules))

pub also_in_named-returns : goal.also_in_named-returns
also_in_named-returns t c = rw c.loop-field.invariant (rw (laws.named_out (names c.loop-field.scope) c.loop-field.field-index c.args.fields.now (search rules)) (search rules))

pub also_in_types-loop-kind-preserved : goal.also_in_types-loop-kind-preserved
also_in_types-loop-kind-preserved t c = rw c.loop-kind.invariant (rw (laws.types_at (names c.loop-kind.scope) c.loop-kind.kind-index c.args.types.now c.kind-item.result (search rules) (search rules)) (search rules))

pub also_in_types-returns : goal.also_in_types-returns
also_in_types-returns t c = rw c.loop-kind.invariant (rw (laws.types_out (names c.loop-kind.scope) c.loop-kind.kind-index c.args.types.now (search rules)) (search rules))

pub also_elements-returns-in-Integer : goal.also_elements-returns-in-Integer
also_elements-returns-in-Integer t c = forms.in_leaf (names c.args.scope.now) c.args.e.now c.in-Integer.is

pub also_elements-returns-in-Integer-2 : goal.also_elements-returns-in-Integer-2
also_elements-returns-in-Integer-2 t c = forms.in_leaf (names c.args.scope.now) c.args.e.now c.in-Integer.is

pub also_elements-returns-in-Integer-3 : goal.also_elements-returns-in-Integer-3
also_elements-returns-in-Integer-3 t c = forms.in_leaf (names c.args.scope.now) c.args.e.now c.in-Integer.is

pub also_elements-returns-in-Integer-4 : goal.also_elements-returns-in-Integer-4
also_elements-returns-in-Integer-4 t c = forms.in_leaf (names c.args.scope.now) c.args.e.now c.in-Integer.is

pub also_elements-returns-in-Integer-5 : goal.also_elements-returns-in-Integer-5
also_elements-returns-in-Integer-5 t c = forms.in_leaf (names c.args.scope.now) c.args.e.now c.in-Integer.is

pub also_elements-returns-in-Integer-6 : goal.also_elements-returns-in-Integer-6
also_elements-returns-in-Integer-6 t c = forms.in_leaf (names c.args.scope.now) c.args.e.now c.in-Integer.is

pub also_elements-returns-in-Integer-7 : goal.also_elements-returns-in-Integer-7
also_elements-returns-in-Integer-7 t c = forms.in_leaf (names c.args.scope.now) c.args.e.now c.in-Integer.is

pub also_elements-returns-in-Integer-8 : goal.also_elements-returns-in-Integer-8
also_elements-returns-in-Integer-8 t c = forms.in_leaf (names c.args.scope.now) c.args.e.now c.in-Integer.is

pub also_elements-returns-in-Integer-9 : goal.also_elements-returns-in-Integer-9
also_elements-returns-in-Integer-9 t c = forms.in_leaf (names c.args.scope.now) c.args.e.now c.in-Integer.is

pub also_elements-returns-in_ok-also_elements-in-Array : goal.also_elements-returns-in_ok-also_elements-in-Array
also_elements-returns-in_ok-also_elements-in-Array t c =
    then_ok c.also_elements-in-Array.result c.also_elements-in-Array.ensures (λ h.
    forms.in_array (names c.args.scope.now) c.in-Array.field-0 c.args.e.now c.in-Array.index c.in-Array.element c.in-Array.is
    (names c.also_elements.new.scope) (names c.also_elements-in-Array.new.scope) (search rules) (search (rules, h)))

pub also_in_fields-returns-in-WithNames : goal.also_in_fields-returns-in-WithNames
also_in_fields-returns-in-WithNames t c =
    then_ok c.also_in_named.result c.also_in_named.ensures (λ h.
    forms.in_names (names c.args.scope.now) c.args.fields.now c.in-WithNames.all c.in-WithNames.is (names c.also_in_named.new.scope) (search (rules, h)))
