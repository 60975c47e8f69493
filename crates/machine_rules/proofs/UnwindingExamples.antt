-- Which UNWIND arms are due where the jumps of LeavingExamples begin.
use Rattle.std.specs.Prelude.{◌≡◌, refl, ℕ, List, [], ◌∷◌, Option, Some, None}
use Rattle.object_files.specs.declared.image.Image.{Image}
use Rattle.signaller.specs.declared.search.Search.{Search}
use Rattle.signaller.specs.declared.signal_id.SignalId.TheVariants.{Own}
use Rattle.signaller.specs.Search as search
use Rattle.machine_rules.specs.State.{Why, ForRaise, ForJump, Frame, InArm, Active, Activations}
use Rattle.machine_rules.specs.LookUps as look
use Rattle.machine_rules.specs.Activations as list
use Rattle.machine_rules.specs.Leaving as leaving
use Rattle.machine_rules.specs.Leaving.{target_for}
use Rattle.machine_rules.specs.Unwinding.{unwind_arms, to_ask, to_ask_under, Due, due}
use Rattle.machine_rules.proofs.Written.{alone}
use Rattle.machine_rules.proofs.LeavingExamples.{unwinds, unwinds_own, replaces}

-- a frame, and an arm with the place of its frame, by the number of its procedure and its offset
abbrev frame : (procedure offset : ℕ) → Active
frame p offset = record { instance = 0; procedure = p; offset = offset; operands = []; role = Frame [] }

abbrev running : (owner procedure arm offset : ℕ) → Why → Active
running own p n offset why = record { instance = 0; procedure = p; offset = offset; operands = []; role = InArm own n why }

abbrev nowhere : Search
nowhere = record { phrase = None }

abbrev raised : Why
raised = ForRaise (Own 0 0) [] nowhere

abbrev one : (place arm : ℕ) → Due
one place arm = record { place = place; arm = arm }

-- the arms that are due where the topmost activation of a list, an arm, jumps
unfoldable due_for : Image → (own arm : ℕ) → Why → Option ℕ → Activations → List Due
unfolding target_for due to_ask_under to_ask unwind_arms search.around_at search.around leaving.place_for leaving.is_arm_at leaving.has_offset list.own_frame list.owner look.arm_under look.phrases_under look.procedure_under look.procedure_of look.code_of look.code_in look.module_number look.phrases_in
due_for image own n why goal S = due image (target_for image S own goal) (to_ask_under image (InArm own n why) S) S

-- C is given up, and then B; A, whose arm jumps to A, stays
unwinds_both : due_for (alone unwinds refl) 1 0 raised (Some 5) (frame 3 0 ∷ frame 2 0 ∷ frame 1 0 ∷ frame 0 0 ∷ []) ≡ one 3 0 ∷ one 2 0 ∷ []
unfolding due_for
unwinds_both = refl

-- the UNWIND arm of A, which is of the target's own frame, is not due
owns_none : due_for (alone unwinds_own refl) 1 0 raised (Some 5) (frame 3 0 ∷ frame 2 0 ∷ frame 1 0 ∷ frame 0 0 ∷ []) ≡ one 3 0 ∷ one 2 0 ∷ []
unfolding due_for
owns_none = refl

-- the jump of B's arm gives up D, the UNWIND arm of C, which it does not run again, and C
replaces_none : due_for (alone replaces refl) 2 0 raised (Some 5)
    (frame 4 0 ∷ running 3 3 0 6 (ForJump (record { place = 1; owner = 1; goal = Some 5 }) nowhere) ∷ frame 3 0 ∷ frame 2 0 ∷ frame 1 0 ∷ frame 0 0 ∷ []) ≡ []
unfolding due_for
replaces_none = refl

-- where C's arm was not begun, it is due
replaces_one : due_for (alone replaces refl) 2 0 raised (Some 5) (frame 4 0 ∷ frame 3 0 ∷ frame 2 0 ∷ frame 1 0 ∷ frame 0 0 ∷ []) ≡ one 3 0 ∷ []
unfolding due_for
replaces_one = refl
