use Rattle.std.proofs.Common.{◌≡◌, drop}
use Rattle.check_scopes.specs.Scopes.{over}
use Rattle.check_scopes.specs.Shows.{listed}
use Rattle.config_templates.specs.Places.{place_in, names_of_components}
use Rattle.config_templates.proofs.PlaceLaws.{from}
use Rattle.config_templates.proofs.modules.component_places.Given as goal

abbrev pub invariant-loop-at : goal.invariant-loop-at
invariant-loop-at l = over (listed l.places) (from l.at (place_in (names_of_components (drop l.at l.components)))) ≡ place_in (names_of_components l.components)
