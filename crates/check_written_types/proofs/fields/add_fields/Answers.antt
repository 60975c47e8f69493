use Rattle.std.proofs.Common.{rules}
use Rattle.interface_records.specs.PlainTypes.{plain}
use Rattle.check_state.specs.Views.{fields}
use Rattle.check_written_types.proofs.FieldLoops.{each_at, each_out, field_more}
use Rattle.check_written_types.proofs.fields.add_fields.Goals as goal

pub loop-name-preserved : goal.loop-name-preserved
loop-name-preserved c = rw c.loop-name.invariant (rw (each_at (fields c.loop-name.fields) (plain c.args.kind.now) c.args.names.now c.loop-name.name-index c.name-item.result (search rules) (search rules)) (search (rules, field_more)))

pub returns : goal.returns
returns c = rw c.loop-name.invariant (rw (each_out (fields c.loop-name.fields) (plain c.args.kind.now) c.args.names.now c.loop-name.name-index (search rules)) (search rules))
