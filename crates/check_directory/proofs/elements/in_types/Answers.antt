use Rattle.std.proofs.Common.{rules}
use Rattle.interface_records.specs.PlainTypes.{plain_interface}
use Rattle.check_state.specs.Views.{names}
use Rattle.check_directory.proofs.EntryLaws as laws
use Rattle.check_directory.proofs.elements.in_types.Goals as goal

pub loop-named-preserved : goal.loop-named-preserved
loop-named-preserved c = rw c.loop-named.invariant (rw (laws.flat_at (laws.in_named (plain_interface c.args.interface.now)) (names c.loop-named.names) c.loop-named.named-index c.args.types.now c.loop-named.named-index c.named-item.result (search rules) (search rules)) (search rules))

pub returns : goal.returns
returns c = rw (laws.in_types_flat (plain_interface c.args.interface.now) 0 c.args.types.now) (rw c.loop-named.invariant (rw (laws.flat_out (laws.in_named (plain_interface c.args.interface.now)) (names c.loop-named.names) c.loop-named.named-index c.args.types.now c.loop-named.named-index (search rules)) (search rules)))
