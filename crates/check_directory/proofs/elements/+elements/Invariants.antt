use Rattle.std.proofs.Common.{◌≡◌, drop}
use Rattle.check_scopes.specs.Scopes.{over}
use Rattle.check_rules.specs.Directory.{first_entry}
use Rattle.interface_records.specs.PlainTypes.{plain_interface}
use Rattle.check_state.specs.Views.{names}
use Rattle.check_directory.proofs.EntryLaws as laws
use Rattle.check_directory.proofs.elements.+elements.Given as goal

abbrev pub invariant-in_fields-loop-field : goal.invariant-in_fields-loop-field
invariant-in_fields-loop-field l =
    over (names l.fn.names) (first_entry (laws.flat_from (laws.in_field (plain_interface l.interface)) 0 l.fields))
    ≡ over (names l.names) (first_entry (laws.flat_from (laws.in_field (plain_interface l.interface)) l.field-index (drop l.field-index l.fields)))
