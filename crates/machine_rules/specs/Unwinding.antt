-- Which UNWIND arms a jump out of arms has to run, and that it runs them (rule of this project on unwinding).
use Rattle.std.specs.Prelude.{◌≡◌, ℕ, ◌+◌, ◌<◌, List, [], ◌∷◌, ◌++◌, length, map, position, Bool, false, Option, Some, None, nat_eq, slice_get, if◌then◌else◌}
use Rattle.code_forms.specs.declared.instruction.Instruction.{Instruction}
use Rattle.code_forms.specs.declared.instruction.Instruction.TheVariants.{ArmEnd, Resume, Leave, LeaveReturn}
use Rattle.code_forms.specs.declared.module_code.Phrase.{Phrase}
use Rattle.object_files.specs.declared.image.Image.{Image}
use Rattle.signaller.specs.declared.search.Search.{Search}
use Rattle.signaller.specs.Search.{arms_of, arms_before, around, asked, fits_jump}
use Rattle.machine_rules.specs.State.{Target, Why, ForRaise, ForJump, Role, Frame, InArm, Activation, Active, Activations, Store, State, Runs, Seeks, Leaves, Ending, Stepped, Goes, Stops}
use Rattle.machine_rules.specs.LookUps.{phrases_under, instruction_under}
use Rattle.machine_rules.specs.Activations.{own_frame}
use Rattle.machine_rules.specs.Signals.{enter_arm}
use Rattle.machine_rules.specs.Leaving.{target_for, leave}
use Rattle.machine_rules.specs.Steps.{step, Ends, begins}
use Rattle.machine_rules.specs.Laws.{HasValidCode}

-- Which they are.

-- the first UNWIND arm of the phrase of a number, where it has one, and then others; arms are numbered over the table
abbrev pub with_first : List Phrase → (number : ℕ) → Option ℕ → List ℕ → List ℕ
with_first table n None others = others
with_first table n (Some k) others = (arms_before table n + k) ∷ others

-- the first UNWIND arm of each of these phrases that has one
unfoldable pub unwind_arms : List Phrase → (numbers : List ℕ) → List ℕ
unwind_arms table [] = []
unwind_arms table (n ∷ numbers) = with_first table n (position fits_jump (arms_of (slice_get table n))) (unwind_arms table numbers)

-- The phrases that a jump has to ask of an activation, where it has given up the one over it: those around its offset within its region,
-- innermost first. Where the one given up was an UNWIND arm, they are those beyond that arm's phrase: the others were asked by the jump
-- for which it ran
unfoldable pub to_ask : {X : Type 0} → Image → (given_up : Role X) → Activation X → List ℕ
to_ask image (Frame variables) b = around false (phrases_under image b) (length (phrases_under image b)) b.offset
to_ask image (InArm own arm (ForRaise signal args beyond)) b = around false (phrases_under image b) (length (phrases_under image b)) b.offset
to_ask image (InArm own arm (ForJump target beyond)) b = asked false (phrases_under image b) beyond.phrase

unfoldable pub to_ask_under : {X : Type 0} → Image → (given_up : Role X) → List (Activation X) → List ℕ
to_ask_under image role [] = []
to_ask_under image role (b ∷ S) = to_ask image role b

-- an UNWIND arm that has to be run: the place of the activation whose phrase has it, and its number
pub record Due : Type 0 where
  pub place : ℕ
  pub arm : ℕ

-- From the topmost activation, of which these phrases are still to be asked, down to the target's, which stays: the first UNWIND arms of
-- the phrases of each activation that is given up; those of the target's own frame are left out.
unfoldable pub due : {X : Type 0} → Image → Target → (numbers : List ℕ) → List (Activation X) → List Due
due image t numbers [] = []
due image t numbers (a ∷ S) =
    if nat_eq (length S) t.place then []
    else (if nat_eq (own_frame a S) t.owner then [] else map (λ n. record { place = length S; arm = n }) (unwind_arms (phrases_under image a) numbers))
    ++ due image t (to_ask_under image a.role S) S

-- That they are run.

abbrev pub standing : State → Activations
standing (Runs S m) = S
standing (Seeks signal args q search S m) = S
standing (Leaves t search S m) = S

-- an UNWIND arm comes to its end at ArmEnd, and at Resume, since no signal takes its words back
abbrev pub IsEndOfArm : Instruction → Type 0
IsEndOfArm ArmEnd = Unit {0}
IsEndOfArm (Resume n) = Unit {0}
IsEndOfArm _ = ⊥

abbrev pub IsJump : Instruction → Type 0
IsJump (Leave arms target) = Unit {0}
IsJump (LeaveReturn arms) = Unit {0}
IsJump _ = ⊥

-- the jump gives up activations, and these arms are due; or it has begun one, at the place above that of the phrase's activation, and these
-- are due behind it
pub data Phase : Type 0 where
  Giving : List Due → Phase
  Within : Due → List Due → Phase

-- From here the machine begins the arms that are due one after the other, each of them once, and then comes to the target's activation. Or
-- else one of them does not come to its end: the run stops in it, or another jump takes the place of this one.
pub data Unwinds (image : Image) (t : Target) : Phase → Stepped → Type 0 where
  -- the jump has come to the target's activation, and no arm is due
  arrives : (search : Search) (a : Active) (S : Activations) (m : Store) → length S ≡ t.place → Unwinds image t (Giving []) (Goes (Leaves t search (a ∷ S) m))
  -- it gives up the topmost activation
  gives_up : (ds : List Due) (search next : Search) (a : Active) (S : Activations) (m : Store) → step image (Leaves t search (a ∷ S) m) ≡ Goes (Leaves t next S m)
      → Unwinds image t (Giving ds) (step image (Leaves t search (a ∷ S) m)) → Unwinds image t (Giving ds) (Goes (Leaves t search (a ∷ S) m))
  -- it begins the first arm that is due, for itself
  begins_arm : (d : Due) (ds : List Due) (search beyond : Search) (a : Active) (S : Activations) (m : Store) → length S ≡ d.place
      → step image (Leaves t search (a ∷ S) m) ≡ enter_arm image d.arm a d.place (ForJump t beyond) [] (a ∷ S) m
      → Unwinds image t (Within d ds) (step image (Leaves t search (a ∷ S) m)) → Unwinds image t (Giving (d ∷ ds)) (Goes (Leaves t search (a ∷ S) m))
  -- the arm still stands
  arm_stands : (d : Due) (ds : List Due) (s : State) → d.place + 1 < length (standing s) → Unwinds image t (Within d ds) (step image s)
      → Unwinds image t (Within d ds) (Goes s)
  -- it comes to its end, and the jump goes on
  arm_ends : (d : Due) (ds : List Due) (beyond : Search) (i : Instruction) (a : Active) (S : Activations) (m m' : Store) → length S ≡ d.place + 1
      → instruction_under image a ≡ Some i → IsEndOfArm i → step image (Runs (a ∷ S) m) ≡ Goes (Leaves t beyond S m')
      → Unwinds image t (Giving ds) (step image (Runs (a ∷ S) m)) → Unwinds image t (Within d ds) (Goes (Runs (a ∷ S) m))
  -- the run stops in it
  arm_stops : (d : Due) (ds : List Due) (end : Ending) (m : Store) → Unwinds image t (Within d ds) (Stops end m)
  -- it jumps out itself
  arm_jumps : (d : Due) (ds : List Due) (i : Instruction) (a : Active) (S : Activations) (m : Store) → length S ≡ d.place + 1
      → instruction_under image a ≡ Some i → IsJump i → Unwinds image t (Within d ds) (Goes (Runs (a ∷ S) m))
  -- a jump that began above gives it up
  arm_given_up : (d : Due) (ds : List Due) (other : Target) (search next : Search) (a : Active) (S : Activations) (m : Store) → length S ≡ d.place + 1
      → step image (Leaves other search (a ∷ S) m) ≡ Goes (Leaves other next S m) → Unwinds image t (Within d ds) (Goes (Leaves other search (a ∷ S) m))

-- where a running arm of a frame jumps out of arms, whatever the image and however the run ends, the UNWIND arms that are due for the jump are
-- run so
abbrev pub JumpsUnwind : Type 0
JumpsUnwind = (image : Image) (goal : Option ℕ) (own n : ℕ) (why : Why) (S : Activations) (m : Store) → own < length S
    → (end : Ending) (last : Store) → Ends image (leave image goal (InArm own n why) S m) end last
    → Unwinds image (target_for image S own goal) (Giving (due image (target_for image S own goal) (to_ask_under image (InArm own n why) S) S))
    (leave image goal (InArm own n why) S m)

-- the run comes from here to this state
pub data Comes (image : Image) : Stepped → State → Type 0 where
  here : (s : State) → Comes image (Goes s) s
  later : (s t : State) → Comes image (step image s) t → Comes image (Goes s) t

-- a jump out of arms, to an offset or to return
abbrev pub JumpsTo : Instruction → Option ℕ → Type 0
JumpsTo (Leave arms target) goal = goal ≡ Some target
JumpsTo (LeaveReturn arms) goal = goal ≡ None
JumpsTo _ goal = ⊥

-- so wherever a run of an image whose code is valid comes to a jump out of arms
abbrev pub JumpsOfRunsUnwind : Type 0
JumpsOfRunsUnwind = (image : Image) → HasValidCode image → (input : List ℕ) (faulty : Bool) (turns : ℕ) (i : Instruction) (goal : Option ℕ) (own n : ℕ) (why : Why)
    (a : Active) (S : Activations) (m : Store) → Comes image (begins image input faulty turns) (Runs (a ∷ S) m)
    → a.role ≡ InArm own n why → instruction_under image a ≡ Some i → JumpsTo i goal
    → Unwinds image (target_for image S own goal) (Giving (due image (target_for image S own goal) (to_ask_under image a.role S) S)) (step image (Runs (a ∷ S) m))
