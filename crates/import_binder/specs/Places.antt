-- Records of scopes, as the code has them.
use Rattle.std.specs.Prelude.{ℕ, List, Option, Some, None}
use Rattle.config_rules.specs.Exporters.{Spot}
use Rattle.import_binder.specs.declared.finder.Place.{Place}

abbrev pub spot_at : ℕ → List ℕ → Spot
spot_at s r = record { scope = s; record_name = r }

unfoldable pub place_shown : Option Place → Option Spot
place_shown None = None
place_shown (Some p) = Some (spot_at p.scope p.record_name.now)
