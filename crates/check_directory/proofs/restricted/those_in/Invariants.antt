use Rattle.std.proofs.Common.{◌≡◌, drop}
use Rattle.check_scopes.specs.Scopes.{over}
use Rattle.check_rules.specs.Directory.{first_entry}
use Rattle.check_state.specs.Views.{names}
use Rattle.check_directory.proofs.EntryLaws as laws
use Rattle.check_directory.proofs.KeptLaws.{name_at}
use Rattle.check_directory.proofs.restricted.those_in.Given as goal

abbrev pub invariant-loop-name : goal.invariant-loop-name
invariant-loop-name l =
    first_entry (laws.flat_from (name_at (names l.scope)) 0 l.names)
    ≡ over (names l.kept) (first_entry (laws.flat_from (name_at (names l.scope)) l.name-index (drop l.name-index l.names)))
