use Rattle.std.proofs.Common.{◌≡◌, drop}
use Rattle.check_scopes.specs.Scopes.{over}
use Rattle.check_rules.specs.Directory.{first_entry}
use Rattle.check_state.specs.Views.{names}
use Rattle.check_directory.proofs.EntryLaws as laws
use Rattle.check_directory.proofs.ItemLaws.{number_at}
use Rattle.check_directory.proofs.directories.directory_scope.Given as goal

abbrev pub invariant-loop-item : goal.invariant-loop-item
invariant-loop-item l = (l.number ≡ l.item-index)
    × (first_entry (laws.flat_from number_at 0 l.directory) ≡ over (names l.names) (first_entry (laws.flat_from number_at l.item-index (drop l.item-index l.directory))))
