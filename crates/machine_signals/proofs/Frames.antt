-- The frame at a place, and what its row tells.
use Rattle.std.proofs.Common.{◌≡◌, ℕ, List, [], ◌∷◌, length, Bool, true, false, Some, None, Option, refl, sym, ap, ◌∙◌, nat_eq}
use Rattle.std.specs.Prelude.{if◌then◌else◌}
use Rattle.std.proofs.lemmas.Option.{none-some, same_Some}
use Rattle.machine_rules.specs.State.{Role, Frame, InArm, Active, Activations}
use Rattle.machine_rules.specs.Activations.{activation_at}
use Rattle.machine_activations.specs.Below.{Home, home_of, frame_at}

home_in : Option Active → Option Home
home_in None = None
home_in (Some a) = home_of a.role a.instance a.procedure

frame_if : (b : Bool) (a : Active) (S : Activations) (q : ℕ) → frame_at S q ≡ home_in (activation_at S q)
    → (if b then home_of a.role a.instance a.procedure else frame_at S q) ≡ home_in (if b then Some a else activation_at S q)
unfolding home_in
frame_if true a S q e = refl
frame_if false a S q e = e

frame_there : (S : Activations) (q : ℕ) → frame_at S q ≡ home_in (activation_at S q)
unfolding frame_at activation_at home_in
frame_there [] q = refl
frame_there (a ∷ S) q = frame_if (nat_eq q (length S)) a S q (frame_there S q)

home_by : (role : Role (List ℕ)) (j n : ℕ) (h : Home) → home_of role j n ≡ Some h → (j ≡ h.instance) × (n ≡ h.procedure)
unfolding home_of
home_by (Frame variables) j n h e =
    let same = same_Some (record { instance = j; procedure = n }) h e in
    (ap (λ (x : Home). x.instance) same, ap (λ (x : Home). x.procedure) same)
home_by (InArm own arm why) j n h e = absurd (none-some h e)

-- the activation there is of its instance and procedure
pub frame_is : (S : Activations) (q : ℕ) (h : Home) (a : Active) → frame_at S q ≡ Some h → activation_at S q ≡ Some a → (a.instance ≡ h.instance) × (a.procedure ≡ h.procedure)
unfolding home_in
frame_is S q h a home is = home_by a.role a.instance a.procedure h (sym (ap home_in is) ∙ sym (frame_there S q) ∙ home)
