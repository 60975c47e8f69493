use Rattle.std.proofs.Common.{◌≡◌, ◌++◌, length, map}
use Rattle.check_rules.specs.Directory.{offered}
use Rattle.interface_records.specs.PlainTypes.{plain_interface}
use Rattle.check_state.specs.Views.{names}
use Rattle.check_directory.proofs.openings.offered.Given as goal

abbrev pub invariant-items : goal.invariant-items
invariant-items l =
    offered l.imports l.directory (map plain_interface l.interfaces) ≡ map names l.all.items ++ offered l.imports l.items (map plain_interface l.given)

abbrev pub decreases-items : goal.decreases-items
decreases-items l = length l.items
