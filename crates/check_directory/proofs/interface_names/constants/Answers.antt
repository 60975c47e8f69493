use Rattle.std.proofs.Common.{rules}
use Rattle.check_state.specs.Views.{names}
use Rattle.check_directory.proofs.EntryLaws as laws
use Rattle.check_directory.proofs.interface_names.constants.Goals as goal

pub loop-constant-preserved : goal.loop-constant-preserved
loop-constant-preserved c = rw c.loop-constant.invariant (rw (laws.flat_at laws.constant_at (names c.loop-constant.names) c.loop-constant.constant-index c.args.constants.now c.loop-constant.constant-index c.constant-item.result (search rules) (search rules)) (search rules))

pub returns : goal.returns
returns c = rw (laws.constants_flat 0 c.args.constants.now) (rw c.loop-constant.invariant (rw (laws.flat_out laws.constant_at (names c.loop-constant.names) c.loop-constant.constant-index c.args.constants.now c.loop-constant.constant-index (search rules)) (search rules)))
