use Rattle.std.proofs.Common.{◌≡◌, ℕ, List, [], drop}
use Rattle.check_rules.specs.Directory.{listed}
use Rattle.check_directory.specs.Lists.{HasNames}
use Rattle.check_directory.proofs.lists.named_in.Given as goal

-- the names so far
abbrev pub invariant-loop-name : goal.invariant-loop-name
invariant-loop-name l = (so_far : List (List ℕ)) × HasNames l.before so_far
    × ((all : List (List ℕ)) → HasNames l.known all → listed all [] l.names ≡ listed all so_far (drop l.name-index l.names))
