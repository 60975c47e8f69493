use Rattle.std.proofs.Common.{rules}
use Rattle.check_jumps.proofs.ArmVariables.{fields_from_at, fields_from_out, names_nothing}
use Rattle.check_jumps.proofs.entering.scope_of.Goals as goal

pub loop-field-init : goal.loop-field-init
loop-field-init c = rw (names_nothing c.new-scope.result c.new-scope.ensures) (search rules)

pub loop-field-preserved : goal.loop-field-preserved
loop-field-preserved c = rw c.loop-field.invariant (rw (fields_from_at c.loop-field.number c.args.fields.now c.loop-field.field-index c.field-item.result _ (search rules) (search rules)) (search rules))

pub returns : goal.returns
returns c = rw c.loop-field.invariant (rw (fields_from_out c.loop-field.number c.args.fields.now c.loop-field.field-index _ (search rules)) (search rules))
