use Rattle.std.proofs.Common.{◌≡◌, ℕ, List, [], length, map}
use Rattle.check_rules.specs.Directory.{directory}
use Rattle.interface_records.specs.PlainTypes.{plain_interface}
use Rattle.check_directory.specs.Lists.{HasNames}
use Rattle.check_directory.proofs.directories.directory.Given as goal

-- the names so far
abbrev pub invariant-items : goal.invariant-items
invariant-items l = (so_far : List (List ℕ)) × HasNames l.before so_far
    × (directory [] l.directory (map plain_interface l.interfaces) ≡ directory so_far l.items (map plain_interface l.given))

abbrev pub decreases-items : goal.decreases-items
decreases-items l = length l.items
