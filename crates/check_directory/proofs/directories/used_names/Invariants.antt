use Rattle.std.proofs.Common.{◌≡◌, ℕ, List, [], drop}
use Rattle.check_rules.specs.Directory.{used_names}
use Rattle.check_state.specs.Views.{names}
use Rattle.check_directory.specs.Lists.{HasNames}
use Rattle.check_directory.proofs.directories.used_names.Given as goal

-- the names so far
abbrev pub invariant-loop-name : goal.invariant-loop-name
invariant-loop-name l = (so_far : List (List ℕ)) × HasNames l.before so_far
    × (used_names (names l.scope) [] l.names ≡ used_names (names l.scope) so_far (drop l.name-index l.names))
