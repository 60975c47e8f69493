use Rattle.std.proofs.Common.{◌≡◌, drop}
use Rattle.check_scopes.specs.Scopes.{over}
use Rattle.check_rules.specs.Directory.{first_entry}
use Rattle.check_state.specs.Views.{names}
use Rattle.check_directory.proofs.EntryLaws as laws
use Rattle.check_directory.proofs.interface_names.types.Given as goal

abbrev pub invariant-loop-named : goal.invariant-loop-named
invariant-loop-named l = over (names l.fn.names) (first_entry (laws.flat_from laws.type_at 0 l.types)) ≡ over (names l.names) (first_entry (laws.flat_from laws.type_at l.named-index (drop l.named-index l.types)))
