use Rattle.std.proofs.Common.{rules}
use Rattle.check_jumps.proofs.ArmVariables.{kinds_at, kinds_out}
use Rattle.check_jumps.proofs.entering.add_all.Goals as goal

pub loop-field-preserved : goal.loop-field-preserved
loop-field-preserved c = rw c.loop-field.invariant (rw (kinds_at _ c.args.fields.now c.loop-field.field-index c.field-item.result (search rules) (search rules)) (search rules))

pub returns : goal.returns
returns c = rw c.loop-field.invariant (rw (kinds_out _ c.args.fields.now c.loop-field.field-index (search rules)) (search rules))
