use Rattle.std.proofs.Common.{◌≡◌, drop}
use Rattle.check_scopes.specs.Scopes.{over}
use Rattle.check_scopes.specs.Shows.{means}
use Rattle.check_rules.specs.Directory.{place_in, names_in}
use Rattle.check_directory.proofs.positions.directory_places.Given as goal

abbrev pub invariant-loop-item : goal.invariant-loop-item
invariant-loop-item l = place_in 0 (names_in l.directory) ≡ over (means l.index) (place_in l.place (names_in (drop l.item-index l.directory)))
