use Rattle.std.proofs.Common.{rules}
use Rattle.check_scopes.specs.Shows.{means}
use Rattle.check_selectors.proofs.KeyLaws.{numbered_at, numbered_end}
use Rattle.check_selectors.proofs.keys.numbers.Goals as goal

pub loop-field-preserved : goal.loop-field-preserved
loop-field-preserved c = rw c.loop-field.invariant (rw (numbered_at c.args.fields.now c.loop-field.field-index c.loop-field.number c.field-item.result (means c.loop-field.names) (search rules) (search rules)) (search rules))

pub returns : goal.returns
returns c = rw c.loop-field.invariant (rw (numbered_end c.args.fields.now c.loop-field.field-index c.loop-field.number (means c.loop-field.names) (search rules)) (search rules))
