-- What is sought outward of the scopes that have been asked is what was sought.
use Rattle.std.proofs.Common.{◌≡◌, length, map, reverse}
use Rattle.check_scopes.specs.Scopes.{find}
use Rattle.check_scopes.specs.Shows.{means}
use Rattle.check_scopes.proofs.scopes.search.Given as goal

abbrev pub invariant-loop-names : goal.invariant-loop-names
invariant-loop-names g l = find l.name (map means (reverse l.fn.scopes)) ≡ find l.name (map means (reverse l.scopes))

abbrev pub decreases-loop-names : goal.decreases-loop-names
decreases-loop-names g l = length l.scopes
