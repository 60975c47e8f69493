-- Jumps out of arms (rule of this project on unwinding).
use Rattle.std.specs.Prelude.{ℕ, List, [], ◌∷◌, length, Bool, false, ◌&&◌, Option, Some, None, nat_eq, if◌then◌else◌}
use Rattle.code_forms.specs.declared.module_code.Arm.{Arm}
use Rattle.object_files.specs.declared.image.Image.{Image}
use Rattle.signaller.specs.declared.search.Found.{Found}
use Rattle.signaller.specs.declared.search.Found.TheVariants.{Arm as FoundArm, Beyond}
use Rattle.signaller.specs.declared.search.Search.{Search}
use Rattle.signaller.specs.Search.{has, search_at, unwind_next}
use Rattle.machine_rules.specs.State.{Target, ForRaise, ForJump, Role, Frame, InArm, Activation, Active, Activations, Store, Leaves, Stuck, Stepped, Goes, Stops}
use Rattle.machine_rules.specs.LookUps.{phrases_under, arm_under}
use Rattle.machine_rules.specs.Activations.{own_frame}
use Rattle.machine_rules.specs.Moves.{go_to}
use Rattle.machine_rules.specs.Signals.{enter_arm}
use Rattle.machine_rules.specs.Calls.{return_from}

-- The target's activation: the running arm of the frame in whose region the offset lies; else the frame itself.

unfoldable pub has_offset : Option Arm → ℕ → Bool
has_offset None offset = false
has_offset (Some arm) offset = has arm offset

unfoldable pub is_arm_at : {X : Type 0} → Image → Activation X → Role X → (owner offset : ℕ) → Bool
is_arm_at image a (Frame variables) frame offset = false
is_arm_at image a (InArm own arm why) frame offset = nat_eq own frame && has_offset (arm_under image a arm) offset

unfoldable pub place_for : {X : Type 0} → Image → List (Activation X) → (owner offset : ℕ) → ℕ
place_for image [] frame offset = frame
place_for image (a ∷ S) frame offset = if is_arm_at image a a.role frame offset then length S else place_for image S frame offset

unfoldable pub target_for : {X : Type 0} → Image → List (Activation X) → (owner : ℕ) → Option ℕ → Target
target_for image S frame None = record { place = frame; owner = frame; goal = None }
target_for image S frame (Some offset) = record { place = place_for image S frame offset; owner = frame; goal = Some offset }

-- The topmost activation is dropped. The one under it is asked next: all the phrases around its offset in its region, or, where the one
-- dropped was an UNWIND arm, those beyond that arm's phrase.

unfoldable pub left_to_ask : Image → Role (List ℕ) → Active → Search
left_to_ask image (Frame variables) b = search_at false (phrases_under image b) b.offset
left_to_ask image (InArm own arm (ForRaise signal args beyond)) b = search_at false (phrases_under image b) b.offset
left_to_ask image (InArm own arm (ForJump target beyond)) b = beyond

unfoldable pub dropped : Image → Target → Role (List ℕ) → Activations → Store → Stepped
dropped image t role [] m = Stops Stuck m
dropped image t role (b ∷ S) m = Goes (Leaves t (left_to_ask image role b) (b ∷ S) m)

-- A jump first drops the arm in which it stands.
unfoldable pub leave : Image → Option ℕ → Role (List ℕ) → Activations → Store → Stepped
leave image goal (Frame variables) S m = Stops Stuck m
leave image goal (InArm own arm why) S m = dropped image (target_for image S own goal) (InArm own arm why) S m

-- It has come to its target's activation: that one goes on at the offset without operands, or returns.
unfoldable pub arrived : Image → Option ℕ → Active → Activations → Store → Stepped
arrived image None a S m = return_from image a S m
arrived image (Some offset) a S m = go_to offset [] a S m

-- Or the next UNWIND arm of the topmost activation is run; where none is left, that one is dropped.
unfoldable pub unwound : Image → Target → Active → Found → Activations → Store → Stepped
unwound image t a Beyond S m = dropped image t a.role S m
unwound image t a (FoundArm arm beyond) S m = enter_arm image arm a (length S) (ForJump t beyond) [] (a ∷ S) m

-- One step: it has arrived; or the topmost activation is of the target's frame, and is dropped without being asked; or it is asked.
unfoldable pub leave_step : Image → Target → Search → Activations → Store → Stepped
leave_step image t search [] m = Stops Stuck m
leave_step image t search (a ∷ S) m =
    if nat_eq (length S) t.place then arrived image t.goal a S m
    else (if nat_eq (own_frame a S) t.owner then dropped image t a.role S m
    else unwound image t a (unwind_next (phrases_under image a) search) S m)
