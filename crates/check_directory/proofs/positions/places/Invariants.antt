use Rattle.std.proofs.Common.{◌≡◌, drop}
use Rattle.check_scopes.specs.Scopes.{over}
use Rattle.check_scopes.specs.Shows.{means}
use Rattle.check_rules.specs.Directory.{place_in}
use Rattle.check_directory.proofs.positions.places.Given as goal

abbrev pub invariant-loop-name : goal.invariant-loop-name
invariant-loop-name l = place_in 0 l.names ≡ over (means l.index) (place_in l.place (drop l.name-index l.names))
