use Rattle.std.proofs.Common.{◌≡◌, length, map}
use Rattle.check_rules.specs.Directory.{offered, opened}
use Rattle.interface_records.specs.PlainTypes.{plain_interface}
use Rattle.check_state.specs.Views.{names}
use Rattle.check_directory.proofs.OfferLaws.{opened_over}
use Rattle.check_directory.proofs.openings.opened.Given as goal

abbrev pub invariant-opens : goal.invariant-opens
invariant-opens l =
    opened l.directory (offered l.imports l.directory (map plain_interface l.interfaces)) l.opens
    ≡ opened_over l.directory (offered l.imports l.directory (map plain_interface l.interfaces)) l.rest (names l.names)

abbrev pub decreases-opens : goal.decreases-opens
decreases-opens l = length l.rest
