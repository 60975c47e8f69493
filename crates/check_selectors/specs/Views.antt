-- What the code's values stand for.
use Rattle.std.specs.Prelude.{List, [], ◌∷◌, map, Option, Some, None}
use Rattle.mesa_base.specs.Chain.{chain}
use Rattle.mesa_types.specs.Plain.{expr, suffix}
use Rattle.mesa_types.specs.Typed as t
use Rattle.mesa_types.specs.declared.faces.Item.{Item}
use Rattle.mesa_types.specs.declared.typed_tree.Suffix.{Suffix}
use Rattle.interface_records.specs.PlainTypes.{PlainField, PlainType, plain}
use Rattle.check_rules.specs.Parts as parts
use Rattle.check_rules.specs.Reached as spec
use Rattle.check_state.specs.Views.{fields, meaning}
use Rattle.check_selectors.specs.declared.reached.Reached.{Reached}
use Rattle.check_selectors.specs.declared.reached.Reached.TheVariants.{Variable, Value, Results, Named}
use Rattle.check_selectors.specs.declared.reached.Target.{Target}
use Rattle.check_selectors.specs.declared.reached.Use.{Use}
use Rattle.check_selectors.specs.declared.reached.Use.TheVariants.{Read, Store, Perform}
use Rattle.check_selectors.specs.declared.reached.Shape.{Shape}
use Rattle.check_selectors.specs.declared.reached.Shape.TheVariants.{OfFields, OfElements, NoShape}
use Rattle.check_selectors.specs.declared.fields.Found.{Found}
use Rattle.check_selectors.specs.declared.fields.Component.{Component}
use Rattle.check_selectors.specs.declared.fields.Component.TheVariants.{OfField, Length}
use Rattle.check_selectors.specs.Components as steps
use Rattle.check_selectors.specs.declared.brackets.Bracketed.{Bracketed}
use Rattle.check_selectors.specs.declared.brackets.Bracketed.TheVariants.{InArray, InText}

unfoldable pub suffixes : List Suffix → t.Suffixes
suffixes ss = chain (map suffix ss) t.NoSuffix

-- the results of a head, if there is one
abbrev pub results : Option Item → List PlainField
results None = []
results (Some i) = fields i.gives

abbrev pub reached : Reached → spec.Reached
reached (Variable h ss k) = spec.Variable h (suffixes ss) (plain k)
reached (Value n e k) = spec.Value n (expr e) (plain k)
reached (Results e i) = spec.Results (expr e) (results i)
reached (Named m) = spec.Named (meaning m)

abbrev pub found : Found → parts.Found
found f = record { number = f.number; offset = f.offset; kind = plain f.kind }

abbrev pub bracketed : Bracketed → spec.Bracketed
bracketed (InArray h ss i e) = spec.InArray h (suffixes ss) (plain i) (plain e)
bracketed (InText n e) = spec.InText n (expr e)

abbrev pub component : Component → steps.Component
component (OfField f) = steps.OfField (found f)
component Length = steps.Length

abbrev pub target : Target → spec.Target
target x = record { home = x.home; suffixes = suffixes x.suffixes; kind = plain x.kind }

abbrev pub way : Use → spec.Use
way Read = spec.Read
way Store = spec.Store
way Perform = spec.Perform

abbrev pub shape : Shape → spec.Shape
shape (OfFields fs) = spec.OfFields (fields fs.now)
shape (OfElements n k) = spec.OfElements n (plain k.now)
shape NoShape = spec.NoShape

-- the type of what is one alone
abbrev pub alone : List PlainField → Option PlainType
alone (f ∷ []) = Some f.kind
alone _ = None
