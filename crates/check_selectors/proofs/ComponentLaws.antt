-- A component of a value, by what it is.
use Rattle.std.proofs.Common.{◌≡◌, ℕ, Bool, true, false, List, Option, Some, None, Ok, refl}
use Rattle.std.specs.Prelude.{if◌then◌else◌}
use Rattle.mesa_base.specs.declared.place.Place.{Place}
use Rattle.mesa_base.specs.declared.identifier.Identifier.{Identifier}
use Rattle.mesa_types.specs.Typed as t
use Rattle.interface_records.specs.PlainTypes as v
use Rattle.interface_records.specs.PlainTypes.{PlainField, PlainType, fields, is_text}
use Rattle.check_rules.specs.Parts.{Found, field_named}
use Rattle.check_rules.specs.Reached.{Reached, Value, is_length, length_of, field_of_fields, field_in}
use Rattle.check_rules.specs.Steps.{and_then, refuse, or_refuse}
use Rattle.check_rules.specs.declared.fault.Cause.TheVariants.{UnknownName, TypeMismatch}
use Rattle.check_selectors.specs.Components.{OfField, component, component_by, component_of, length_by}

of_length : (make : Found → Reached) (n : ℕ) (e : t.Expr) (x : Identifier) (b : Bool)
    → (if b then Ok (Value n (t.LengthOf e) v.Cardinal) else refuse UnknownName x.place) ≡ and_then (length_by x b) (λ c. Ok (component_of make n e c))
of_length make n e x true = refl
of_length make n e x false = refl

of_field : (make : Found → Reached) (n : ℕ) (e : t.Expr) (x : Identifier) (f : Option Found)
    → and_then (or_refuse f UnknownName x.place) (λ f. Ok (make f)) ≡ and_then (and_then (or_refuse f UnknownName x.place) (λ f. Ok (OfField f))) (λ c. Ok (component_of make n e c))
of_field make n e x (Some f) = refl
of_field make n e x None = refl

by_parts : (last : Place) (make : Found → Reached) (n : ℕ) (e : t.Expr) (x : Identifier) (fs : Option (List PlainField)) (text : Bool)
    → field_of_fields make x fs (if text then length_of x n e else refuse TypeMismatch last) ≡ and_then (component_by last x fs text) (λ c. Ok (component_of make n e c))
by_parts last make n e x (Some fs) text = of_field make n e x (field_named fs x)
by_parts last make n e x None true = of_length make n e x (is_length x)
by_parts last make n e x None false = refl

pub field_in_steps : (last : Place) (make : Found → Reached) (n : ℕ) (e : t.Expr) (k : PlainType) (x : Identifier)
    → field_in last make n e k x ≡ and_then (component last k x) (λ c. Ok (component_of make n e c))
unfolding field_in
field_in_steps last make n e k x = by_parts last make n e x (fields k) (is_text k)
