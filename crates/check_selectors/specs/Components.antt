-- What a name behind a dot is of a value.
use Rattle.std.specs.Prelude.{ℕ, Bool, true, false, List, Option, Some, None, Ok}
use Rattle.mesa_base.specs.declared.place.Place.{Place}
use Rattle.mesa_base.specs.declared.identifier.Identifier.{Identifier}
use Rattle.mesa_types.specs.Typed as t
use Rattle.interface_records.specs.PlainTypes as v
use Rattle.interface_records.specs.PlainTypes.{PlainField, PlainType, fields, is_text}
use Rattle.check_rules.specs.Parts.{Found, field_named}
use Rattle.check_rules.specs.Reached.{Reached, Value, is_length}
use Rattle.check_rules.specs.Steps.{Checked, and_then, refuse, or_refuse}
use Rattle.check_rules.specs.declared.fault.Cause.TheVariants.{UnknownName, TypeMismatch}

-- a field, or the length of a STRING
pub data Component : Type 0 where
  OfField : Found → Component
  Length : Component

abbrev pub length_by : Identifier → Bool → Checked Component
length_by x true = Ok Length
length_by x false = refuse UnknownName x.place

abbrev pub component_by : Place → Identifier → Option (List PlainField) → Bool → Checked Component
component_by last x (Some fs) text = and_then (or_refuse (field_named fs x) UnknownName x.place) (λ f. Ok (OfField f))
component_by last x None true = length_by x (is_length x)
component_by last x None false = refuse TypeMismatch last

abbrev pub component : Place → PlainType → Identifier → Checked Component
component last k x = component_by last x (fields k) (is_text k)

abbrev pub length : ℕ → t.Expr → Reached
length n e = Value n (t.LengthOf e) v.Cardinal

abbrev pub component_of : (Found → Reached) → ℕ → t.Expr → Component → Reached
component_of make n e (OfField f) = make f
component_of make n e Length = length n e
