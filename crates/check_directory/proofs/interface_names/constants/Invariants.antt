use Rattle.std.proofs.Common.{◌≡◌, drop}
use Rattle.check_scopes.specs.Scopes.{over}
use Rattle.check_rules.specs.Directory.{first_entry}
use Rattle.check_state.specs.Views.{names}
use Rattle.check_directory.proofs.EntryLaws as laws
use Rattle.check_directory.proofs.interface_names.constants.Given as goal

abbrev pub invariant-loop-constant : goal.invariant-loop-constant
invariant-loop-constant l = over (names l.fn.names) (first_entry (laws.flat_from laws.constant_at 0 l.constants)) ≡ over (names l.names) (first_entry (laws.flat_from laws.constant_at l.constant-index (drop l.constant-index l.constants)))
