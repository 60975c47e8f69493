-- The frames to which arms belong, and what setting the variables of a frame leaves as it was.
use Rattle.std.proofs.Common.{◌≡◌, ℕ, suc, ◌<◌, List, [], ◌∷◌, length, Bool, true, false, Some, refl, ap, ◌∙◌, arith}
use Rattle.std.specs.Prelude.{nat_eq, if◌then◌else◌}
use Rattle.std.proofs.lemmas.Bool.{eqb-true, eq-eqb, ne_eqb}
use Rattle.std.proofs.lemmas.Option.{none-some}
use Rattle.machine_rules.specs.State.{ForRaise, ForJump, Role, Frame, InArm, Active, Activations}
use Rattle.machine_rules.specs.Activations.{activation_at, with_variables, set_variables}
use Rattle.machine_activations.specs.declared.row.Kind.{Kind}
use Rattle.machine_activations.specs.declared.row.Kind.TheVariants.{Frame as FrameRow, Arm as ArmRow}
use Rattle.machine_activations.specs.Rows.{IsKind}
use Rattle.machine_activations.specs.Below.{over_by, Home, home_of, frame_at, OwnedBy}

pub same_home : (role : Role (List ℕ)) (new : List ℕ) (j n : ℕ) → home_of (with_variables role new) j n ≡ home_of role j n
unfolding home_of with_variables
same_home (Frame old) new j n = refl
same_home (InArm own arm why) new j n = refl

pub same_over : (role : Role (List ℕ)) (new : List ℕ) (j n : ℕ) → over_by j n (with_variables role new) ≡ over_by j n role
unfolding over_by with_variables
same_over (Frame old) new j n = refl
same_over (InArm own arm (ForRaise signal args beyond)) new j n = refl
same_over (InArm own arm (ForJump target beyond)) new j n = refl

pub same_kind : (kind : Kind) (role : Role (List ℕ)) (new : List ℕ) → IsKind kind role → IsKind kind (with_variables role new)
unfolding IsKind with_variables
same_kind FrameRow (Frame old) new h = tt
same_kind (ArmRow own arm reason) (Frame old) new h = h
same_kind kind (InArm own arm why) new h = h

-- lists of one length, whose frames are the same
set_long_if : (b : Bool) (a c : Active) (S T : Activations) → length T ≡ length S → length (if b then c ∷ S else a ∷ T) ≡ suc (length S)
set_long_if true a c S T e = refl
set_long_if false a c S T e = ap suc e

pub set_long : (S : Activations) (q : ℕ) (new : List ℕ) → length (set_variables S q new) ≡ length S
unfolding set_variables
set_long [] q new = refl
set_long (a ∷ S) q new = set_long_if (nat_eq q (length S)) a (record a { role = with_variables a.role new }) S (set_variables S q new) (set_long S q new)

set_frames_if : (b : Bool) (a : Active) (S T : Activations) (new : List ℕ) (k : ℕ) → length T ≡ length S → frame_at T k ≡ frame_at S k
    → frame_at (if b then record a { role = with_variables a.role new } ∷ S else a ∷ T) k ≡ frame_at (a ∷ S) k
unfolding frame_at
set_frames_if true a S T new k long same = ap (λ h. if nat_eq k (length S) then h else frame_at S k) (same_home a.role new a.instance a.procedure)
set_frames_if false a S T new k long same =
    ap (λ n. if nat_eq k n then home_of a.role a.instance a.procedure else frame_at T k) long
    ∙ ap (λ h. if nat_eq k (length S) then home_of a.role a.instance a.procedure else h) same

pub set_frames : (S : Activations) (q : ℕ) (new : List ℕ) (k : ℕ) → frame_at (set_variables S q new) k ≡ frame_at S k
unfolding set_variables
set_frames [] q new k = refl
set_frames (a ∷ S) q new k = set_frames_if (nat_eq q (length S)) a S (set_variables S q new) new k (set_long S q new) (set_frames S q new k)

-- an arm belongs to the same frame
pub owned_set : (role : Role (List ℕ)) (j n : ℕ) (S : Activations) (q : ℕ) (new : List ℕ) → OwnedBy role j n S → OwnedBy role j n (set_variables S q new)
unfolding OwnedBy
owned_set (Frame variables) j n S q new h = tt
owned_set (InArm own arm why) j n S q new h = set_frames S q new own ∙ h

pub owned_role : (role : Role (List ℕ)) (new : List ℕ) (j n : ℕ) (S : Activations) → OwnedBy role j n S → OwnedBy (with_variables role new) j n S
unfolding OwnedBy with_variables
owned_role (Frame old) new j n S h = tt
owned_role (InArm own arm why) new j n S h = h

within_if : (b : Bool) (a : Active) (S : Activations) (q : ℕ) (h : Home) → nat_eq q (length S) ≡ b → (frame_at S q ≡ Some h → q < length S)
    → (if b then home_of a.role a.instance a.procedure else frame_at S q) ≡ Some h → q < suc (length S)
within_if true a S q h e lower is = let l = eqb-true q (length S) e in omega (arith, l)
within_if false a S q h e lower is = let l = lower is in omega (arith, l)

-- it is below
pub frame_within : (S : Activations) (q : ℕ) (h : Home) → frame_at S q ≡ Some h → q < length S
unfolding frame_at
frame_within [] q h is = absurd (none-some h is)
frame_within (a ∷ S) q h is = within_if (nat_eq q (length S)) a S q h refl (frame_within S q h) is

-- at the top, and below it

pub set_top : (a : Active) (S : Activations) (new : List ℕ) → set_variables (a ∷ S) (length S) new ≡ record a { role = with_variables a.role new } ∷ S
unfolding set_variables
set_top a S new = ap (λ b. if b then record a { role = with_variables a.role new } ∷ S else a ∷ set_variables S (length S) new) (eq-eqb (length S) (length S) refl)

pub set_lower : (a : Active) (S : Activations) (q : ℕ) (new : List ℕ) → q < length S → set_variables (a ∷ S) q new ≡ a ∷ set_variables S q new
unfolding set_variables
set_lower a S q new less = ap (λ b. if b then record a { role = with_variables a.role new } ∷ S else a ∷ set_variables S q new) (ne_eqb q (length S) (λ e. omega (arith, e, less)))

pub at_top : (a : Active) (S : Activations) → activation_at (a ∷ S) (length S) ≡ Some a
unfolding activation_at
at_top a S = ap (λ b. if b then Some a else activation_at S (length S)) (eq-eqb (length S) (length S) refl)

pub at_lower : (a : Active) (S : Activations) (q : ℕ) → q < length S → activation_at (a ∷ S) q ≡ activation_at S q
unfolding activation_at
at_lower a S q less = ap (λ b. if b then Some a else activation_at S q) (ne_eqb q (length S) (λ e. omega (arith, e, less)))
