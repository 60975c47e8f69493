-- The list of activations: the one at a place, whose it is, and the variables that it sees (rule of this project).
use Rattle.std.specs.Prelude.{ℕ, List, [], ◌∷◌, length, Option, Some, None, nat_eq, if◌then◌else◌}
use Rattle.machine_rules.specs.State.{Role, Frame, InArm, Activation, Active, Activations}

unfoldable pub activation_at : {X : Type 0} → List (Activation X) → (place : ℕ) → Option (Activation X)
activation_at [] q = None
activation_at (a ∷ S) q = if nat_eq q (length S) then Some a else activation_at S q

-- the place of the frame of an activation that stands at a place
unfoldable pub owner : {X : Type 0} → Role X → (place : ℕ) → ℕ
owner (Frame variables) q = q
owner (InArm own arm why) q = own

-- the place of the frame of the topmost one
unfoldable pub own_frame : {X : Type 0} → Activation X → List (Activation X) → ℕ
own_frame a S = owner a.role (length S)

unfoldable pub variables_in : Role (List ℕ) → List ℕ
variables_in (Frame variables) = variables
variables_in (InArm own arm why) = []

unfoldable pub variables_of : Option Active → List ℕ
variables_of None = []
variables_of (Some a) = variables_in a.role

-- the variables that the topmost activation sees are those of its frame
unfoldable pub variables : Active → Activations → List ℕ
variables a S = variables_of (activation_at (a ∷ S) (own_frame a S))

unfoldable pub with_variables : {X : Type 0} → Role X → X → Role X
with_variables (Frame old) new = Frame new
with_variables (InArm own arm why) new = InArm own arm why

-- the frame at a place has these variables
unfoldable pub set_variables : {X : Type 0} → List (Activation X) → (place : ℕ) → X → List (Activation X)
set_variables [] q new = []
set_variables (a ∷ S) q new =
    if nat_eq q (length S) then record a { role = with_variables a.role new } ∷ S else a ∷ set_variables S q new
