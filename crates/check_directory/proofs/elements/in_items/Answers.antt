use Rattle.std.proofs.Common.{rules, map}
use Rattle.check_rules.specs.Directory.{in_fields}
use Rattle.interface_records.specs.PlainTypes.{plain_field, plain_interface}
use Rattle.check_state.specs.Views.{names}
use Rattle.check_directory.proofs.EntryLaws as laws
use Rattle.check_directory.proofs.elements.in_items.Goals as goal

pub loop-item-preserved : goal.loop-item-preserved
loop-item-preserved c =
    let face = plain_interface c.args.interface.now in
    rw c.loop-item.invariant
    (rw (laws.flat_at (laws.in_item face) (names c.loop-item.names) c.loop-item.item-index c.args.items.now c.loop-item.item-index c.item-item.result (search rules) (search rules))
    (rw (laws.over_entries (names c.loop-item.names) (in_fields face (map plain_field c.item-item.result.takes)) (in_fields face (map plain_field c.item-item.result.gives))) (search rules)))

pub returns : goal.returns
returns c = rw (laws.in_items_flat (plain_interface c.args.interface.now) 0 c.args.items.now) (rw c.loop-item.invariant (rw (laws.flat_out (laws.in_item (plain_interface c.args.interface.now)) (names c.loop-item.names) c.loop-item.item-index c.args.items.now c.loop-item.item-index (search rules)) (search rules)))
