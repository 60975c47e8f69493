use Rattle.std.proofs.Common.{rules}
use Rattle.interface_records.specs.PlainTypes.{plain_interface}
use Rattle.check_state.specs.Views.{names}
use Rattle.check_directory.proofs.EntryLaws as laws
use Rattle.check_directory.proofs.elements.in_constants.Goals as goal

pub loop-constant-preserved : goal.loop-constant-preserved
loop-constant-preserved c = rw c.loop-constant.invariant (rw (laws.flat_at (laws.in_constant (plain_interface c.args.interface.now)) (names c.loop-constant.names) c.loop-constant.constant-index c.args.constants.now c.loop-constant.constant-index c.constant-item.result (search rules) (search rules)) (search rules))

pub returns : goal.returns
returns c = rw (laws.in_constants_flat (plain_interface c.args.interface.now) 0 c.args.constants.now) (rw c.loop-constant.invariant (rw (laws.flat_out (laws.in_constant (plain_interface c.args.interface.now)) (names c.loop-constant.names) c.loop-constant.constant-index c.args.constants.now c.loop-constant.constant-index (search rules)) (search rules)))
