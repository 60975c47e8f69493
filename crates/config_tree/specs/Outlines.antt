-- What the tree of a module has beside its shape.
use Rattle.std.specs.Prelude.{◌≡◌, [], ◌∷◌, None}
use Rattle.mesa_types.specs.declared.faces.Shape.{Shape}
use Rattle.interface_records.specs.Faces.{iodefs}
use Rattle.config_rules.specs.Through.{interfaces_imported, interfaces_exported}
use Rattle.config_tree.specs.declared.alone.Outline.{Outline}

pub record IsOutline (s : Shape) (o : Outline) : Type 0 where
  pub scopes : o.scopes ≡ record { around = None; imports = record { inside = iodefs.face.name; outside = iodefs.face.name } ∷ []; exports = [] } ∷ []
  pub path : o.path ≡ s.name ∷ []
  pub imports : o.imports ≡ interfaces_imported s
  pub exports : o.exports ≡ interfaces_exported s
  pub control : o.control ≡ 0 ∷ []
