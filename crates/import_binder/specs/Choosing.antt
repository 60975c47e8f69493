-- What the code sees of exporters when it chooses among them.
use Rattle.std.specs.Prelude.{◌≡◌, Bool, false, ◌&&◌, List, [], ◌∷◌, nat_eq, bytes_eq, Option, Some, None, if◌then◌else◌}
use Rattle.mesa_types.specs.declared.faces.Export.{Export}
use Rattle.mesa_types.specs.declared.faces.Face.{Face}
use Rattle.config_rules.specs.declared.tree.Exporter.{Exporter}
use Rattle.config_rules.specs.declared.tree.Tree.{Tree}
use Rattle.config_rules.specs.Exporters.{Outlet}
use Rattle.config_rules.specs.Outgoing.{export_of}
use Rattle.config_rules.specs.Resolves as rules
use Rattle.import_binder.specs.declared.choosing.Cause.{Cause}
use Rattle.import_binder.specs.declared.choosing.Cause.TheVariants.{NoExporter, Twice, OtherInterface, OtherStamp}
use Rattle.import_binder.specs.declared.choosing.Resolution.{Resolution}
use Rattle.import_binder.specs.declared.choosing.Resolution.TheVariants.{StandsFor, IsBad}
use Rattle.import_binder.specs.Bindings.{meant}

unfoldable pub cause_shown : Cause → rules.Resolution
cause_shown NoExporter = rules.NoExporter
cause_shown (Twice j k) = rules.Twice j k
cause_shown (OtherInterface j) = rules.OtherInterface j
cause_shown (OtherStamp s) = rules.OtherStamp s

unfoldable pub shown : Resolution → rules.Resolution
shown (StandsFor b) = meant b
shown (IsBad c) = cause_shown c

unfoldable pub under_by : Face → Option Export → Bool
under_by face None = false
under_by face (Some x) = bytes_eq x.face.name face.name && nat_eq x.face.stamp face.stamp

-- by the first exporter, where nobody exports under it
unfoldable pub unlike_by : Face → Exporter → Export → rules.Resolution
unlike_by face e x = if bytes_eq x.face.name face.name then rules.OtherStamp x.face.stamp else rules.OtherInterface e.instance

-- whether an exporter exports under the interface's name and stamp
abbrev pub is_under : Tree → Face → Exporter → Bool
is_under t face e = under_by face (export_of t e)

-- these are the exports of these exporters
abbrev pub AreOf : Tree → List Exporter → List Outlet → Type 0
AreOf t [] [] = Unit {0}
AreOf t [] (o ∷ os) = ⊥
AreOf t (e ∷ es) [] = ⊥
AreOf t (e ∷ es) (o ∷ os) = (o.exporter ≡ e) × (export_of t e ≡ Some o.gives) × AreOf t es os
