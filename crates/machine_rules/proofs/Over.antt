-- While an UNWIND arm stands, what lies under it stays as it is, but for variables: no step reaches below it.
use Rattle.std.proofs.Common.{◌≡◌, ◌⊎◌, inl, inr, ℕ, zero, suc, List, [], ◌∷◌, length, Bool, true, false, Option, Some, None, refl, sym, ap, subst, ◌∙◌}
use Rattle.std.specs.Prelude.{take, nat_eq, nat_lt, if◌then◌else◌}
use Rattle.code_forms.specs.declared.instruction.Instruction.{Instruction}
use Rattle.code_forms.specs.declared.instruction.Instruction.TheVariants.{Jump, JumpIf, JumpIfNot, JumpBack, Call, CallLink, Return, Raise, RaiseLink, RaiseHost, ArmEnd, Resume, Leave, LeaveReturn}
use Rattle.code_forms.specs.declared.module_code.Arm.{Arm}
use Rattle.code_forms.specs.declared.module_code.CodeProcedure.{CodeProcedure}
use Rattle.object_files.specs.declared.image.Image.{Image}
use Rattle.object_files.specs.declared.image.Link.{Link}
use Rattle.object_files.specs.declared.image.Link.TheVariants.{Wanted, To}
use Rattle.signaller.specs.declared.search.Found.{Found}
use Rattle.signaller.specs.declared.search.Found.TheVariants.{Arm as FoundArm, Beyond}
use Rattle.signaller.specs.declared.search.Search.{Search}
use Rattle.signaller.specs.declared.signal_id.SignalId.{SignalId}
use Rattle.signaller.specs.declared.signal_id.SignalId.TheVariants.{NoInput}
use Rattle.signaller.specs.Search.{unwind_next}
use Rattle.machine_rules.specs.declared.end.End.TheVariants.{FrameLimit}
use Rattle.machine_rules.specs.Words.{on_top, popped}
use Rattle.machine_rules.specs.Working.{Worked, Works, Faults, Touches, works}
use Rattle.machine_rules.specs.State.{Target, Why, ForRaise, ForJump, Role, Frame, InArm, Active, Activations, Store, State, Runs, Seeks, Leaves, Ended, Stepped, Goes, Stops}
use Rattle.machine_rules.specs.LookUps.{called, bound_to, Host, WriteChar, WriteString, WriteDecimal, ReadChar, EndOfInput, host_of, procedure_of, procedure_under, instruction_under, phrases_under, arm_under}
use Rattle.machine_rules.specs.Activations.{activation_at, owner, own_frame, with_variables, set_variables}
use Rattle.machine_rules.specs.Moves.{with, spend_of, spend, limit, enter, onward, go_to, give}
use Rattle.machine_rules.specs.Signals.{put_at, enter_arm, raise, outward, asked, seek, reject, can_resume, resumed, resume}
use Rattle.machine_rules.specs.Calls.{enter_frame, start, call, host_write, read_char, end_of_input, host, call_in, call_bound, pending, returned, return_of, return_from}
use Rattle.machine_rules.specs.Leaving.{left_to_ask, dropped, leave, arrived, unwound, leave_step}
use Rattle.machine_rules.specs.Steps.{raise_with, host_signal, perform, fault_signal, worked, works_in, begin, run, step}
use Rattle.machine_rules.specs.Unwinding.{standing, IsEndOfArm, IsJump}
use Rattle.machine_rules.proofs.Standing.{Bare, bares, set_bares}

-- the UNWIND arm stands somewhere in the list, over these activations
abbrev pub Over : Role (List ℕ) → List Bare → Activations → Type 0
Over r U [] = ⊥
Over r U (a ∷ S) = ((a.role ≡ r) × (bares S ≡ U)) ⊎ Over r U S

abbrev pub Kept : Role (List ℕ) → List Bare → Stepped → Type 0
Kept r U (Goes s) = Over r U (standing s)
Kept r U (Stops end m) = Unit {0}

-- what an arm of a jump is
abbrev pub for_jump : (own n : ℕ) → Target → Search → Role (List ℕ)
for_jump own n t beyond = InArm own n (ForJump t beyond)

-- instructions that leave an arm
abbrev Departs : Instruction → Type 0
Departs ArmEnd = Unit {0}
Departs (Resume k) = Unit {0}
Departs (Leave arms target) = Unit {0}
Departs (LeaveReturn arms) = Unit {0}
Departs _ = ⊥

module _ (image : Image) (own n : ℕ) (t : Target) (beyond : Search) (U : List Bare) where
  abbrev R : Role (List ℕ)
  R = for_jump own n t beyond

  abbrev O : Activations → Type 0
  O = Over R U

  abbrev K : Stepped → Type 0
  K = Kept R U

  kept_with : {A : Type 0} (o : Option A) (m : Store) (k : A → Stepped) → ((x : A) → K (k x)) → K (with o m k)
  unfolding with
  kept_with None m k h = tt
  kept_with (Some x) m k h = h x

  kept_spent : (turns : ℕ) (m : Store) (k : Store → Stepped) → ((m1 : Store) → K (k m1)) → K (spend_of turns m k)
  unfolding spend_of
  kept_spent zero m k h = tt
  kept_spent (suc turns) m k h = h _

  kept_spend : (m : Store) (k : Store → Stepped) → ((m1 : Store) → K (k m1)) → K (spend m k)
  unfolding spend
  kept_spend m k h = kept_spent m.turns m k h

  kept_if : (b : Bool) (x y : Stepped) → K x → K y → K (if b then x else y)
  kept_if true x y p q = p
  kept_if false x y p q = q

  kept_top : (operands : List ℕ) (k : ℕ → List ℕ → Stepped) → ((x : ℕ) (rest : List ℕ) → K (k x rest)) → K (on_top operands k)
  kept_top [] k h = h 0 []
  kept_top (x ∷ rest) k h = h x rest

  kept_enter : (a : Active) (S : Activations) (m : Store) → O S → K (enter a S m)
  unfolding enter
  kept_enter a S m o = kept_if (nat_lt (length S) limit) _ _ (inr o) tt

  kept_give : (k : ℕ) (words : List ℕ) (S : Activations) (m : Store) → O S → K (give image k words S m)
  unfolding give onward
  kept_give k words [] m o = tt
  kept_give k words (a ∷ S) m o = kept_with (instruction_under image a) m _ (λ i. o)

  -- Variables.

  set_at : (b : Bool) (a : Active) (S S' : Activations) (new : List ℕ) → bares S' ≡ bares S → (O S → O S') → O (a ∷ S)
      → O (if b then record a { role = with_variables a.role new } ∷ S else a ∷ S')
  unfolding with_variables
  set_at true a S S' new same h (inl x) = inl (ap (λ r. with_variables r new) x.0, x.1)
  set_at true a S S' new same h (inr o) = inr o
  set_at false a S S' new same h (inl x) = inl (x.0, same ∙ x.1)
  set_at false a S S' new same h (inr o) = inr (h o)

  over_set : (S : Activations) (q : ℕ) (new : List ℕ) → O S → O (set_variables S q new)
  unfolding set_variables
  over_set [] q new o = o
  over_set (a ∷ S) q new o = set_at (nat_eq q (length S)) a S (set_variables S q new) new (set_bares S q new) (over_set S q new) o

  kept_arm : (k : ℕ) (b : Active) (q : ℕ) (why : Why) (words : List ℕ) (S : Activations) (m : Store) → O S → K (enter_arm image k b q why words S m)
  unfolding enter_arm put_at
  kept_arm k b q why words S m o = kept_with (arm_under image b k) m _ (λ arm. kept_spend m _ (λ m1. kept_enter _ _ m1 (over_set S _ _ o)))

  kept_raise : (signal : SignalId) (args : List ℕ) (a : Active) (S : Activations) (m : Store) → O (a ∷ S) → K (raise image signal args a S m)
  unfolding raise
  kept_raise signal args a S m o = kept_spend m _ (λ m1. o)

  -- Calls.

  kept_frame : (j number : ℕ) (p : CodeProcedure) (args : List ℕ) (S : Activations) (m : Store) → O S → K (enter_frame j number p args S m)
  unfolding enter_frame
  kept_frame j number p args S m o = kept_enter _ S m o

  kept_start : (j : ℕ) (S : Activations) (m : Store) → O S → K (start image j S m)
  unfolding start
  kept_start j S m o = kept_with (procedure_of image j 0) m _ (λ p. kept_spend _ _ (λ m1. kept_frame j 0 p [] S m1 o))

  kept_call : (j number : ℕ) (p : CodeProcedure) (a : Active) (S : Activations) (m : Store) → O (a ∷ S) → K (call j number p a S m)
  unfolding call
  kept_call j number p a S m o = kept_frame j number p _ _ m o

  kept_write : (k : ℕ) (text : List ℕ) (S : Activations) (m : Store) → O S → K (host_write image k text S m)
  unfolding host_write
  kept_write k text S m o = kept_give k [] S _ o

  kept_read : (input : List ℕ) (a : Active) (S : Activations) (m : Store) → O (a ∷ S) → K (read_char image input a S m)
  unfolding read_char
  kept_read (byte ∷ rest) a S m o = kept_give 0 _ (a ∷ S) _ o
  kept_read [] a S m o = kept_if m.faulty _ _ tt (kept_raise NoInput [] a S m o)

  kept_peek : (input : List ℕ) (a : Active) (S : Activations) (m : Store) → O (a ∷ S) → K (end_of_input image input a S m)
  unfolding end_of_input
  kept_peek (byte ∷ rest) a S m o = kept_give 0 _ (a ∷ S) m o
  kept_peek [] a S m o = kept_if m.faulty _ _ tt (kept_give 0 _ (a ∷ S) m o)

  kept_host : (h : Host) (a : Active) (S : Activations) (m : Store) → O (a ∷ S) → K (host image h a S m)
  unfolding host
  kept_host WriteChar a S m o = kept_top a.operands _ (λ c rest. kept_write 1 _ (a ∷ S) m o)
  kept_host WriteString a S m o = kept_top a.operands _ (λ k rest. kept_top rest _ (λ x more. kept_write 2 _ (a ∷ S) m o))
  kept_host WriteDecimal a S m o = kept_top a.operands _ (λ x rest. kept_write 1 _ (a ∷ S) m o)
  kept_host ReadChar a S m o = kept_read m.input a S m o
  kept_host EndOfInput a S m o = kept_peek m.input a S m o

  kept_call_in : (j number : ℕ) (p : CodeProcedure) (a : Active) (S : Activations) (m : Store) → O (a ∷ S) → K (call_in image j number p a S m)
  unfolding call_in
  kept_call_in j number p a S m o = kept_if _ _ _ (kept_call j number p a S m o) (kept_start j (a ∷ S) m o)

  kept_bound : (l : Link) (a : Active) (S : Activations) (m : Store) → O (a ∷ S) → K (call_bound image l a S m)
  unfolding call_bound
  kept_bound (Wanted k) a S m o = kept_with (host_of image k) m _ (λ h. kept_host h a S m o)
  kept_bound (To j number) a S m o = kept_with (called image j number) m _ (λ p. kept_call_in j number p a S m o)

  -- Returns.

  kept_pending : (i : Instruction) (a : Active) (S : Activations) (m : Store) → O (a ∷ S) → K (pending image i a S m)
  unfolding pending
  kept_pending (CallLink k) a S m o = kept_with (bound_to image a.instance k) m _ (λ l. kept_bound l a S m o)
  kept_pending _ a S m o = tt

  kept_returned : (number : ℕ) (results : List ℕ) (S : Activations) (m : Store) → O S → K (returned image number results S m)
  unfolding returned
  kept_returned number results [] m o = absurd o
  kept_returned zero results (a ∷ S) m o = kept_with (instruction_under image a) m _ (λ i. kept_pending i a S m o)
  kept_returned (suc number) results (a ∷ S) m o = kept_give 0 results (a ∷ S) m o

  kept_return_of : (p : CodeProcedure) (a : Active) (role : Role (List ℕ)) (S : Activations) (m : Store) → (role ≡ R) ⊎ O S → K (return_of image p a role S m)
  unfolding return_of
  kept_return_of p a (Frame variables) S m (inl e) = absurd (let z : ⊥ = cc in z)
  kept_return_of p a (Frame variables) S m (inr o) = kept_returned a.procedure _ S m o
  kept_return_of p a (InArm k j why) S m o = tt

  role_or : (a : Active) (S : Activations) → O (a ∷ S) → (a.role ≡ R) ⊎ O S
  role_or a S (inl x) = inl x.0
  role_or a S (inr o) = inr o

  kept_return : (a : Active) (S : Activations) (m : Store) → O (a ∷ S) → K (return_from image a S m)
  unfolding return_from
  kept_return a S m o = kept_with (procedure_under image a) m _ (λ p. kept_return_of p a a.role S m (role_or a S o))

  -- What comes of another arm, above.

  kept_reject : (role : Role (List ℕ)) (S : Activations) (m : Store) → O S → K (reject role S m)
  unfolding reject
  kept_reject (Frame variables) S m o = tt
  kept_reject (InArm k j (ForRaise signal args after)) S m o = o
  kept_reject (InArm k j (ForJump target after)) S m o = o

  kept_resumed : (b : Bool) (words : List ℕ) (role : Role (List ℕ)) (S : Activations) (m : Store) → O S → K (resumed b image words role S m)
  unfolding resumed
  kept_resumed true words role S m o = kept_give 0 words S m o
  kept_resumed false words role S m o = kept_reject role S m o

  kept_dropped : (target : Target) (role : Role (List ℕ)) (S : Activations) (m : Store) → O S → K (dropped image target role S m)
  unfolding dropped
  kept_dropped target role [] m o = tt
  kept_dropped target role (b ∷ S) m o = o

  kept_leave : (goal : Option ℕ) (role : Role (List ℕ)) (S : Activations) (m : Store) → O S → K (leave image goal role S m)
  unfolding leave
  kept_leave goal (Frame variables) S m o = tt
  kept_leave goal (InArm k j why) S m o = kept_dropped _ (InArm k j why) S m o

  -- Instructions.

  kept_performed : (i : Instruction) (a : Active) (S : Activations) (m : Store) → (Departs i → ⊥) → O (a ∷ S) → K (perform image i a S m)
  unfolding perform go_to onward raise_with
  kept_performed (Jump target) a S m never o = o
  kept_performed (JumpIf target) a S m never o = kept_top a.operands _ (λ x rest. kept_if (nat_eq x 0) _ _ o o)
  kept_performed (JumpIfNot target) a S m never o = kept_top a.operands _ (λ x rest. kept_if (nat_eq x 0) _ _ o o)
  kept_performed (JumpBack target) a S m never o = kept_spend m _ (λ m1. o)
  kept_performed (Call number) a S m never o = kept_with (called image a.instance number) m _ (λ p. kept_spend m _ (λ m1. kept_call a.instance number p a S m1 o))
  kept_performed (CallLink k) a S m never o = kept_with (bound_to image a.instance k) m _ (λ l. kept_spend m _ (λ m1. kept_bound l a S m1 o))
  kept_performed Return a S m never o = kept_return a S m o
  kept_performed (Raise k) a S m never o = kept_with _ m _ (λ s. kept_raise _ _ _ S m o)
  kept_performed (RaiseLink k) a S m never o =
      kept_with _ m _ (λ l. kept_with (bound_to image a.instance k) m _ (λ b. kept_with _ m _ (λ signal. kept_raise signal _ _ S m o)))
  kept_performed (RaiseHost fault) a S m never o = kept_with (host_signal fault) m _ (λ signal. kept_raise signal [] a S m o)
  kept_performed ArmEnd a S m never o = absurd (never tt)
  kept_performed (Resume k) a S m never o = absurd (never tt)
  kept_performed (Leave arms target) a S m never o = absurd (never tt)
  kept_performed (LeaveReturn arms) a S m never o = absurd (never tt)
  kept_performed _ a S m never o = tt

  kept_worked : (i : Instruction) (w : Worked) (a : Active) (S : Activations) (m : Store) → K (perform image i a S m) → O (a ∷ S) → K (worked image i w a S m)
  unfolding worked
  kept_worked i (Works w) a S m p o = over_set _ (own_frame a S) w.variables o
  kept_worked i (Faults fault) a S m p o = kept_raise (fault_signal fault) [] a S m o
  kept_worked i Touches a S m p o = p

  -- of an activation above the arm
  kept_above : (i : Instruction) (a : Active) (S : Activations) (m : Store) → O S → K (perform image i a S m)
  unfolding perform resume
  kept_above ArmEnd a S m o = kept_reject a.role S m o
  kept_above (Resume k) a S m o = kept_resumed (can_resume image a.role k) _ a.role S m o
  kept_above (Leave arms target) a S m o = kept_leave (Some target) a.role S m o
  kept_above (LeaveReturn arms) a S m o = kept_leave None a.role S m o
  kept_above i a S m o = kept_performed i a S m (λ x. x) (inr o)

  -- Searches and jumps.

  kept_outward : (signal : SignalId) (args : List ℕ) (q : ℕ) (S : Activations) (m : Store) → O S → K (outward image signal args q S m)
  unfolding outward
  kept_outward signal args zero S m o = tt
  kept_outward signal args (suc q) S m o = kept_with (activation_at S q) m _ (λ b. o)

  kept_asked : (signal : SignalId) (args : List ℕ) (b : Active) (q : ℕ) (found : Found) (S : Activations) (m : Store) → O S → K (asked image signal args b q found S m)
  unfolding asked
  kept_asked signal args b q Beyond S m o = kept_outward signal args _ S m o
  kept_asked signal args b q (FoundArm k after) S m o = kept_arm k b q _ args S m o

  kept_seek : (signal : SignalId) (args : List ℕ) (q : ℕ) (search : Search) (S : Activations) (m : Store) → O S → K (seek image signal args q search S m)
  unfolding seek
  kept_seek signal args q search S m o = kept_with (activation_at S q) m _ (λ b. kept_asked signal args b q _ S m o)

  kept_arrived : (goal : Option ℕ) (a : Active) (S : Activations) (m : Store) → O (a ∷ S) → K (arrived image goal a S m)
  unfolding arrived go_to
  kept_arrived None a S m o = kept_return a S m o
  kept_arrived (Some offset) a S m o = o

  at_arm : (a : Active) (S : Activations) → a.role ≡ R → bares S ≡ U → O (a ∷ S)
  at_arm a S e same = inl (e, same)

  kept_entered : (a : Active) (S : Activations) (m : Store) → a.role ≡ R → bares S ≡ U → K (enter a S m)
  unfolding enter
  kept_entered a S m e same = kept_if (nat_lt (length S) limit) (Goes (Runs (a ∷ S) m)) (Stops (Ended FrameLimit) m) (at_arm a S e same) tt

  -- the arm itself is begun
  pub kept_begun : (b : Active) (q : ℕ) (words : List ℕ) (S : Activations) (m : Store) → owner b.role q ≡ own → bares S ≡ U
      → K (enter_arm image n b q (ForJump t beyond) words S m)
  unfolding enter_arm put_at
  kept_begun b q words S m mine same =
      kept_with (arm_under image b n) m _ (λ (arm : Arm). kept_spend m _ (λ m1.
      kept_entered (record {
        instance = b.instance;
        procedure = b.procedure;
        offset = arm.start;
        operands = [];
        role = InArm (owner b.role q) n (ForJump t beyond);
      }) (put_at S (owner b.role q) arm.slot (take arm.words words)) m1
      (ap (λ k. for_jump k n t beyond) mine) (set_bares S (owner b.role q) _ ∙ same)))

-- A step while the arm stands: it stands still; or it comes to its end, or jumps out, or a jump gives it up.
pub data Turn (image : Image) (own n : ℕ) (t : Target) (beyond : Search) (U : List Bare) : State → Type 0 where
  kept : (s : State) → Kept (for_jump own n t beyond) U (step image s) → Turn image own n t beyond U s
  ended : (i : Instruction) (a : Active) (S : Activations) (m m' : Store) → bares S ≡ U → instruction_under image a ≡ Some i → IsEndOfArm i
      → step image (Runs (a ∷ S) m) ≡ Goes (Leaves t beyond S m') → Turn image own n t beyond U (Runs (a ∷ S) m)
  jumped : (i : Instruction) (a : Active) (S : Activations) (m : Store) → bares S ≡ U → instruction_under image a ≡ Some i → IsJump i
      → Turn image own n t beyond U (Runs (a ∷ S) m)
  passed : (other : Target) (search next : Search) (a : Active) (S : Activations) (m : Store) → bares S ≡ U
      → step image (Leaves other search (a ∷ S) m) ≡ Goes (Leaves other next S m) → Turn image own n t beyond U (Leaves other search (a ∷ S) m)

module _ (image : Image) (own n : ℕ) (t : Target) (beyond : Search) (U : List Bare) where
  abbrev T : State → Type 0
  T = Turn image own n t beyond U

  abbrev C : Stepped → Type 0
  C = Kept (for_jump own n t beyond) U

  -- the arm is the topmost activation, at an instruction
  module _ (a : Active) (S : Activations) (m : Store) (role : a.role ≡ for_jump own n t beyond) (same : bares S ≡ U) where
    abbrev m1 : Store
    m1 = record m { begun = suc m.begun }

    here : Over (for_jump own n t beyond) U (a ∷ S)
    here = inl (role, same)

    stays_at : (i : Instruction) → (Departs i → ⊥) → instruction_under image a ≡ Some i → C (step image (Runs (a ∷ S) m))
    unfolding step run with begin
    stays_at i never is =
        subst (λ o. C (with o m (λ j. begin image j a S m))) (sym is)
        (kept_worked image own n t beyond U i (works_in image i a S m) a S m1 (kept_performed image own n t beyond U i a S m1 never here) here)

    turn_at : (i : Instruction) → instruction_under image a ≡ Some i → T (Runs (a ∷ S) m)
    unfolding step run with begin worked works_in works perform reject resume resumed can_resume
    turn_at ArmEnd is = ended ArmEnd a S m m1 same is tt (ap (λ o. with o m (λ i. begin image i a S m)) is ∙ ap (λ r. reject r S m1) role)
    turn_at (Resume k) is =
        ended (Resume k) a S m m1 same is tt
        (ap (λ o. with o m (λ i. begin image i a S m)) is ∙ ap (λ r. resume image k (popped k a.operands) r S m1) role)
    turn_at (Leave arms target) is = jumped (Leave arms target) a S m same is tt
    turn_at (LeaveReturn arms) is = jumped (LeaveReturn arms) a S m same is tt
    turn_at i is = kept (Runs (a ∷ S) m) (stays_at i (λ x. x) is)

    turn_by : (o : Option Instruction) → instruction_under image a ≡ o → T (Runs (a ∷ S) m)
    unfolding step run with
    turn_by None is = kept (Runs (a ∷ S) m) (subst (λ o. C (with o m (λ j. begin image j a S m))) (sym is) tt)
    turn_by (Some i) is = turn_at i is

  runs_above : (a : Active) (S : Activations) (m : Store) → Over (for_jump own n t beyond) U S → C (step image (Runs (a ∷ S) m))
  unfolding step run begin
  runs_above a S m o =
      kept_with image own n t beyond U (instruction_under image a) m _
      (λ i. kept_worked image own n t beyond U i (works_in image i a S m) a S _ (kept_above image own n t beyond U i a S _ o) (inr o))

  -- A jump from above.

  module _ (other : Target) (search : Search) (a : Active) (m : Store) where
    drops : (S : Activations) → step image (Leaves other search (a ∷ S) m) ≡ dropped image other a.role S m → Over (for_jump own n t beyond) U (a ∷ S)
        → T (Leaves other search (a ∷ S) m)
    unfolding dropped
    drops S e (inr o) = kept _ (subst C (sym e) (kept_dropped image own n t beyond U other a.role S m o))
    drops [] e (inl x) = kept _ (subst C (sym e) tt)
    drops (b ∷ S) e (inl x) = passed other search (left_to_ask image a.role b) a (b ∷ S) m x.1 e

    asks : (S : Activations) (found : Found) → step image (Leaves other search (a ∷ S) m) ≡ unwound image other a found S m
        → Over (for_jump own n t beyond) U (a ∷ S) → T (Leaves other search (a ∷ S) m)
    unfolding unwound
    asks S Beyond e o = drops S e o
    asks S (FoundArm k after) e o = kept _ (subst C (sym e) (kept_arm image own n t beyond U k a (length S) _ [] (a ∷ S) m o))

    leaves_by : (S : Activations) (p q : Bool) → nat_eq (length S) other.place ≡ p → nat_eq (own_frame a S) other.owner ≡ q
        → Over (for_jump own n t beyond) U (a ∷ S) → T (Leaves other search (a ∷ S) m)
    unfolding step leave_step
    leaves_by S true q e f o = kept _ (rw e (kept_arrived image own n t beyond U other.goal a S m o))
    leaves_by S false true e f o = drops S (rw (e, f) refl) o
    leaves_by S false false e f o = asks S (unwind_next (phrases_under image a) search) (rw (e, f) refl) o

  pub turn : (s : State) → Over (for_jump own n t beyond) U (standing s) → T s
  unfolding step
  turn (Runs [] m) o = absurd o
  turn (Runs (a ∷ S) m) (inl x) = turn_by a S m x.0 x.1 (instruction_under image a) refl
  turn (Runs (a ∷ S) m) (inr o) = kept _ (runs_above a S m o)
  turn (Seeks signal args q search S m) o = kept _ (kept_seek image own n t beyond U signal args q search S m o)
  turn (Leaves other search [] m) o = absurd o
  turn (Leaves other search (a ∷ S) m) o = leaves_by other search a m S (nat_eq (length S) other.place) (nat_eq (own_frame a S) other.owner) refl refl o
