use Rattle.std.proofs.Common.{◌≡◌, drop}
use Rattle.check_scopes.specs.Scopes.{over}
use Rattle.check_rules.specs.Directory.{first_entry}
use Rattle.interface_records.specs.PlainTypes.{plain_interface}
use Rattle.check_state.specs.Views.{names}
use Rattle.check_directory.proofs.EntryLaws as laws
use Rattle.check_directory.proofs.elements.in_items.Given as goal

abbrev pub invariant-loop-item : goal.invariant-loop-item
invariant-loop-item l = over (names l.fn.names) (first_entry (laws.flat_from (laws.in_item (plain_interface l.interface)) 0 l.items)) ≡ over (names l.names) (first_entry (laws.flat_from (laws.in_item (plain_interface l.interface)) l.item-index (drop l.item-index l.items)))
