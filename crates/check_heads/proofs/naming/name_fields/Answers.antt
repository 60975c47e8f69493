use Rattle.std.proofs.Common.{rules, arith}
use Rattle.std.proofs.lemmas.List.{length-map}
use Rattle.interface_records.specs.PlainTypes.{plain_field}
use Rattle.check_jumps.proofs.ArmVariables.{fields_from_at, fields_from_out}
use Rattle.check_heads.proofs.naming.name_fields.Goals as goal

pub loop-field-preserved : goal.loop-field-preserved
loop-field-preserved c = record {
  number = omega (arith, c.loop-field.invariant.number);
  scope = rw c.loop-field.invariant.scope (rw (fields_from_at c.loop-field.number c.args.fields.now c.loop-field.field-index c.field-item.result _ (search rules) (search rules)) (search rules));
}

pub returns-clause-number : goal.returns-clause-number
returns-clause-number c = omega (arith, c.loop-field.invariant.number, length-map c.args.fields.now plain_field)

pub returns-clause-scope : goal.returns-clause-scope
returns-clause-scope c = rw c.loop-field.invariant.scope (rw (fields_from_out c.loop-field.number c.args.fields.now c.loop-field.field-index _ (search rules)) (search rules))
