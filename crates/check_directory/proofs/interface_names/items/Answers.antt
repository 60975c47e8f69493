use Rattle.std.proofs.Common.{rules}
use Rattle.check_state.specs.Views.{names}
use Rattle.check_directory.proofs.EntryLaws as laws
use Rattle.check_directory.proofs.interface_names.items.Goals as goal

pub loop-item-preserved : goal.loop-item-preserved
loop-item-preserved c = rw c.loop-item.invariant.1 (rw (laws.flat_at (laws.item_at c.args.import) (names c.loop-item.names) c.loop-item.item-index c.args.items.now c.loop-item.item-index c.item-item.result (search rules) (search rules)) (search rules))

pub returns : goal.returns
returns c = rw (laws.items_flat c.args.import 0 c.args.items.now) (rw c.loop-item.invariant.1 (rw (laws.flat_out (laws.item_at c.args.import) (names c.loop-item.names) c.loop-item.item-index c.args.items.now c.loop-item.item-index (search rules)) (search rules)))
