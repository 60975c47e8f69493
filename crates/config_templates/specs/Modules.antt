-- An index of modules, and what is found of one.
use Rattle.std.specs.Prelude.{◌≡◌, ℕ}
use Rattle.mesa_types.specs.declared.faces.Shape.{Shape}
use Rattle.check_scopes.specs.Shows.{listed}
use Rattle.config_rules.specs.Through as spec
use Rattle.config_templates.specs.Places.{place_in, names_of_components}
use Rattle.config_templates.specs.declared.modules.Modules.{Modules}

-- the index has the place of each component
abbrev pub IsIndexed : Modules → Type 0
IsIndexed m = listed m.places ≡ place_in (names_of_components m.components.now)

abbrev pub of_shape : ℕ → Shape → spec.Found
of_shape n s = record { thing = spec.AModule n; imports = spec.interfaces_imported s; exports = spec.interfaces_exported s }
