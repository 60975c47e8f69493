use Rattle.std.proofs.Common.{rules}
use Rattle.check_selectors.proofs.FieldLoop.{found_here, found_further, found_none}
use Rattle.check_selectors.proofs.fields.field_named.Goals as goal

pub returns-then-has_name : goal.returns-then-has_name
returns-then-has_name c = rw c.loop-field.invariant (rw (found_here c.args.fields.now c.loop-field.field-index c.field-item.result c.args.name.now.name c.loop-field.number c.loop-field.offset (search rules) (search rules) (search rules)) (search rules))

pub loop-field-preserved : goal.loop-field-preserved
loop-field-preserved c = rw c.loop-field.invariant (rw (found_further c.args.fields.now c.loop-field.field-index c.field-item.result c.args.name.now.name c.loop-field.number c.loop-field.offset (search rules) (search rules) (search rules)) (search rules))

pub returns : goal.returns
returns c = rw c.loop-field.invariant (rw (found_none c.args.fields.now c.loop-field.field-index c.args.name.now.name c.loop-field.number c.loop-field.offset (search rules)) (search rules))
