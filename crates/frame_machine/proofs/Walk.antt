-- What each step of the machine keeps: how many activations stand, how much lies ahead, that signals are there; and that output is added
-- and input taken.
use Rattle.std.proofs.Common.{◌≡◌, ℕ, zero, suc, ◌<◌, ◌≤◌, List, [], ◌∷◌, ◌++◌, length, Bool, true, false, Option, Some, None, refl, sym, ap, subst, ◌∙◌, arith, append_assoc, append-nil}
use Rattle.std.specs.Prelude.{nat_eq, nat_lt, if◌then◌else◌}
use Rattle.std.proofs.lemmas.Bool.{ltb-true}
use Rattle.std.proofs.lemmas.Option.{none-some, same_Some}
use Rattle.code_forms.specs.declared.instruction.Instruction.{Instruction}
use Rattle.code_forms.specs.declared.instruction.Instruction.TheVariants.{Jump, JumpIf, JumpIfNot, JumpBack, Call, CallLink, Return, Raise, RaiseLink, RaiseHost, ArmEnd, Resume, Leave, LeaveReturn}
use Rattle.code_forms.specs.declared.module_code.CodeLink.{CodeLink}
use Rattle.code_forms.specs.declared.module_code.CodeProcedure.{CodeProcedure}
use Rattle.code_forms.specs.declared.module_code.CodeSignal.{CodeSignal}
use Rattle.object_files.specs.declared.image.Image.{Image}
use Rattle.object_files.specs.declared.image.Link.{Link}
use Rattle.object_files.specs.declared.image.Link.TheVariants.{Wanted, To}
use Rattle.signaller.specs.declared.search.Found.{Found}
use Rattle.signaller.specs.declared.search.Found.TheVariants.{Arm as FoundArm, Beyond}
use Rattle.signaller.specs.declared.search.Search.{Search}
use Rattle.signaller.specs.declared.signal_id.SignalId.{SignalId}
use Rattle.signaller.specs.declared.signal_id.SignalId.TheVariants.{Own, BoundsFault, ZeroDivisor, NoInput, Unnamed}
use Rattle.mesa_types.specs.Operators.{WordFault, OutOfBounds, DividedByZero}
use Rattle.machine_rules.specs.declared.end.End.{End}
use Rattle.machine_rules.specs.declared.end.End.TheVariants.{Done, Spent, FrameLimit, Uncaught}
use Rattle.machine_rules.specs.Words.{on_top}
use Rattle.machine_rules.specs.Working.{Worked, Works, Faults, Touches}
use Rattle.machine_rules.specs.State.{Target, Why, ForRaise, ForJump, Role, Frame, InArm, Active, Activations, Store, State, Runs, Seeks, Leaves, Ending, Ended, Broken, Stuck, Stepped, Goes, Stops}
use Rattle.machine_rules.specs.LookUps.{procedure_of, called, signal_of, link_of, bound_to, signal_bound, Host, WriteChar, WriteString, WriteDecimal, ReadChar, EndOfInput, host_of, procedure_under, instruction_under, arm_under}
use Rattle.machine_rules.specs.Activations.{activation_at, owner, own_frame, with_variables, set_variables}
use Rattle.machine_rules.specs.Moves.{with, spend_of, spend, limit, enter, onward, go_to, give}
use Rattle.machine_rules.specs.Signals.{put_at, enter_arm, raise, outward, asked, seek, reject, resumed, resume}
use Rattle.machine_rules.specs.Calls.{enter_frame, start, call, host_write, read_char, end_of_input, host, call_in, call_bound, pending, returned, return_of, return_from, start_next}
use Rattle.machine_rules.specs.Leaving.{dropped, leave, arrived, unwound, leave_step}
use Rattle.machine_rules.specs.Steps.{raise_with, host_signal, perform, fault_signal, worked}
use Rattle.machine_rules.proofs.Measure.{OwnedRole, Owned, stands, set_alike, ahead_most}
use Rattle.machine_rules.proofs.Below.{acts_of}
use Rattle.machine_rules.proofs.Nearer.{code_in, code_under, ahead_of}

abbrev pub store_of : State → Store
store_of (Runs S m) = m
store_of (Seeks signal args q search S m) = m
store_of (Leaves t search S m) = m

-- output is added, input is taken, and no instance is put before those that are still to be started
pub record Continues (m n : Store) : Type 0 where
  pub written : List ℕ
  pub output : n.output ≡ m.output ++ written
  pub taken : List ℕ
  pub input : m.input ≡ taken ++ n.input
  pub begun : n.begun ≡ m.begun
  pub control : length n.control ≤ length m.control

pub nothing : (m n : Store) → n.output ≡ m.output → n.input ≡ m.input → n.begun ≡ m.begun → length n.control ≤ length m.control → Continues m n
nothing m n o i b c = record { written = []; output = o ∙ sym (append-nil m.output); taken = []; input = sym i; begun = b; control = c }

pub itself : (m : Store) → Continues m m
itself m = nothing m m refl refl refl (omega arith)

-- the signal of a running arm
abbrev pub RightRole : (SignalId → Type 0) → Role (List ℕ) → Type 0
RightRole R (Frame variables) = Unit {0}
RightRole R (InArm own arm (ForRaise signal args beyond)) = R signal
RightRole R (InArm own arm (ForJump target beyond)) = Unit {0}

abbrev pub AllRight : (SignalId → Type 0) → Activations → Type 0
AllRight R [] = Unit {0}
AllRight R (a ∷ S) = RightRole R a.role × AllRight R S

abbrev pub SignalIsRight : (SignalId → Type 0) → State → Type 0
SignalIsRight R (Runs S m) = Unit {0}
SignalIsRight R (Seeks signal args q search S m) = R signal
SignalIsRight R (Leaves t search S m) = Unit {0}

abbrev pub EndIsRight : (SignalId → Type 0) → End → Type 0
EndIsRight R Done = Unit {0}
EndIsRight R (Uncaught signal) = R signal
EndIsRight R Spent = Unit {0}
EndIsRight R FrameLimit = Unit {0}

abbrev pub EndingIsRight : (SignalId → Type 0) → Ending → Type 0
EndingIsRight R (Ended end) = EndIsRight R end
EndingIsRight R Broken = Unit {0}
EndingIsRight R Stuck = Unit {0}

pub record IsFit (image : Image) (R : SignalId → Type 0) (A : ℕ) (t : State) : Type 0 where
  pub long : length (acts_of t) ≤ limit
  pub right : AllRight R (acts_of t)
  pub ahead : ahead_of image t ≤ A
  pub control : length (store_of t).control ≤ A
  pub signal : SignalIsRight R t

abbrev pub Kept : Image → (SignalId → Type 0) → ℕ → Store → Stepped → Type 0
Kept image R A m (Goes t) = IsFit image R A t × Continues m (store_of t)
Kept image R A m (Stops end n) = EndingIsRight R end × Continues m n

-- so much code lies in each procedure, and so many activations may stand
pub record IsWide (image : Image) (A : ℕ) : Type 0 where
  pub places : limit ≤ A
  pub code : (j n : ℕ) (p : CodeProcedure) → procedure_of image j n ≡ Some p → length p.code < A

-- each signal that an instruction raises is right
pub record RaisesRight (image : Image) (R : SignalId → Type 0) : Type 0 where
  pub own : (j k : ℕ) (s : CodeSignal) → signal_of image j k ≡ Some s → R (Own j k)
  pub link : (j k : ℕ) (l : CodeLink) (b : Link) (signal : SignalId) → link_of image j k ≡ Some l → bound_to image j k ≡ Some b
      → signal_bound l.kind b ≡ Some signal → R signal
  pub bounds : R BoundsFault
  pub divisor : R ZeroDivisor
  pub input : R NoInput
  pub unnamed : R Unnamed

-- Setting variables.

role_right : (R : SignalId → Type 0) (role : Role (List ℕ)) (new : List ℕ) → RightRole R role → RightRole R (with_variables role new)
unfolding with_variables
role_right R (Frame old) new r = tt
role_right R (InArm own arm (ForRaise signal args beyond)) new r = r
role_right R (InArm own arm (ForJump target beyond)) new r = tt

right_if : (R : SignalId → Type 0) (b : Bool) (a : Active) (S S' : Activations) (new : List ℕ) → AllRight R (a ∷ S) → AllRight R S'
    → AllRight R (if b then record a { role = with_variables a.role new } ∷ S else a ∷ S')
right_if R true a S S' new r r' = (role_right R a.role new r.0, r.1)
right_if R false a S S' new r r' = (r.0, r')

set_right : (R : SignalId → Type 0) (S : Activations) (q : ℕ) (new : List ℕ) → AllRight R S → AllRight R (set_variables S q new)
unfolding set_variables
set_right R [] q new r = tt
set_right R (a ∷ S) q new r = right_if R (nat_eq q (length S)) a S (set_variables S q new) new r (set_right R S q new r.1)

small_in : (A : ℕ) (o : Option CodeProcedure) → ((p : CodeProcedure) → o ≡ Some p → length p.code < A) → limit ≤ A → length (code_in o) < A
small_in A None h l = omega (arith, l)
small_in A (Some p) h l = h p refl

module _ (image : Image) (R : SignalId → Type 0) (A : ℕ) (wide : IsWide image A) (raises : RaisesRight image R) (m : Store) (short : length m.control ≤ A) where
  small : (a : Active) → length (code_under image a) < A
  unfolding procedure_under
  small a = small_in A (procedure_under image a) (wide.code a.instance a.procedure) wide.places

  controlled : (n : Store) → Continues m n → length n.control ≤ A
  controlled n c = let k = c.control in omega (arith, k, short)

  -- States.

  pub runs : (S : Activations) (n : Store) → Continues m n → length S ≤ limit → AllRight R S → Kept image R A m (Goes (Runs S n))
  runs [] n c l r = (record { long = l; right = r; ahead = controlled n c; control = controlled n c; signal = tt }, c)
  runs (a ∷ S) n c l r = (
    record {
      long = l;
      right = r;
      ahead = let s = small a in let h = ahead_most (code_under image a) a.offset in omega (arith, s, h);
      control = controlled n c;
      signal = tt;
    },
    c,
  )

  seeks : (signal : SignalId) (args : List ℕ) (q : ℕ) (search : Search) (S : Activations) (n : Store) → Continues m n → length S ≤ limit → AllRight R S
      → q ≤ A → R signal → Kept image R A m (Goes (Seeks signal args q search S n))
  seeks signal args q search S n c l r h s = (record { long = l; right = r; ahead = h; control = controlled n c; signal = s }, c)

  leaves : (t : Target) (search : Search) (S : Activations) (n : Store) → Continues m n → length S ≤ limit → AllRight R S → Kept image R A m (Goes (Leaves t search S n))
  leaves t search [] n c l r = (record { long = l; right = r; ahead = omega arith; control = controlled n c; signal = tt }, c)
  leaves t search (a ∷ S) n c l r = (record { long = l; right = r; ahead = small a; control = controlled n c; signal = tt }, c)

  -- Ways of going on.

  kept_with : {X : Type 0} (o : Option X) (n : Store) (k : X → Stepped) → Continues m n → ((x : X) → o ≡ Some x → Kept image R A m (k x)) → Kept image R A m (with o n k)
  unfolding with
  kept_with None n k c h = (tt, c)
  kept_with (Some x) n k c h = h x refl

  kept_if : (b : Bool) (x y : Stepped) → Kept image R A m x → Kept image R A m y → Kept image R A m (if b then x else y)
  kept_if true x y p q = p
  kept_if false x y p q = q

  kept_top : (operands : List ℕ) (k : ℕ → List ℕ → Stepped) → ((x : ℕ) (rest : List ℕ) → Kept image R A m (k x rest)) → Kept image R A m (on_top operands k)
  kept_top [] k h = h 0 []
  kept_top (x ∷ rest) k h = h x rest

  spent_of : (turns : ℕ) (n : Store) (k : Store → Stepped) → Continues m n → ((o : Store) → Continues m o → Kept image R A m (k o)) → Kept image R A m (spend_of turns n k)
  unfolding spend_of
  spent_of zero n k c h = (tt, c)
  spent_of (suc turns) n k c h =
      h (record n { turns = turns }) (record { written = c.written; output = c.output; taken = c.taken; input = c.input; begun = c.begun; control = c.control })

  kept_spend : (n : Store) (k : Store → Stepped) → Continues m n → ((o : Store) → Continues m o → Kept image R A m (k o)) → Kept image R A m (spend n k)
  unfolding spend
  kept_spend n k c h = spent_of n.turns n k c h

  enter_if : (b : Bool) (a : Active) (S : Activations) (n : Store) → nat_lt (length S) limit ≡ b → Continues m n → RightRole R a.role → AllRight R S
      → Kept image R A m (if b then Goes (Runs (a ∷ S) n) else Stops (Ended FrameLimit) n)
  enter_if true a S n e c r rs = runs (a ∷ S) n c (ltb-true (length S) limit e) (r, rs)
  enter_if false a S n e c r rs = (tt, c)

  kept_enter : (a : Active) (S : Activations) (n : Store) → Continues m n → RightRole R a.role → AllRight R S → Kept image R A m (enter a S n)
  unfolding enter
  kept_enter a S n c r rs = enter_if (nat_lt (length S) limit) a S n refl c r rs

  kept_give : (count : ℕ) (words : List ℕ) (S : Activations) (n : Store) → Continues m n → length S ≤ limit → AllRight R S → Kept image R A m (give image count words S n)
  unfolding give onward
  kept_give count words [] n c l r = (tt, c)
  kept_give count words (a ∷ S) n c l r = kept_with (instruction_under image a) n _ c (λ i e. runs _ n c l r)

  -- Calls.

  kept_frame : (j number : ℕ) (p : CodeProcedure) (args : List ℕ) (S : Activations) (n : Store) → Continues m n → AllRight R S → Kept image R A m (enter_frame j number p args S n)
  unfolding enter_frame
  kept_frame j number p args S n c r = kept_enter _ S n c tt r

  kept_start : (j : ℕ) (S : Activations) (n : Store) → Continues m n → AllRight R S → Kept image R A m (start image j S n)
  unfolding start
  kept_start j S n c r = kept_with (procedure_of image j 0) n _ c (λ p e.
      kept_spend _ _ (record { written = c.written; output = c.output; taken = c.taken; input = c.input; begun = c.begun; control = c.control }) (λ o d. kept_frame j 0 p [] S o d r))

  kept_call : (j number : ℕ) (p : CodeProcedure) (a : Active) (S : Activations) (n : Store) → Continues m n → AllRight R (a ∷ S) → Kept image R A m (call j number p a S n)
  unfolding call
  kept_call j number p a S n c r = kept_frame j number p _ _ n c r

  kept_raise : (signal : SignalId) (args : List ℕ) (a : Active) (S : Activations) (n : Store) → Continues m n → length (a ∷ S) ≤ limit → AllRight R (a ∷ S)
      → R signal → Kept image R A m (raise image signal args a S n)
  unfolding raise
  kept_raise signal args a S n c l r s = kept_spend n _ c (λ o d. seeks signal args (length S) _ (a ∷ S) o d l r (let w = wide.places in omega (arith, w, l)) s)

  kept_write : (count : ℕ) (text : List ℕ) (S : Activations) (n : Store) → Continues m n → length S ≤ limit → AllRight R S → Kept image R A m (host_write image count text S n)
  unfolding host_write
  kept_write count text S n c l r = kept_give count [] S _ (record {
    written = c.written ++ text;
    output = ap (λ o. o ++ text) c.output ∙ append_assoc m.output c.written text;
    taken = c.taken;
    input = c.input;
    begun = c.begun;
    control = c.control;
  }) l r

  kept_read : (input : List ℕ) (a : Active) (S : Activations) (n : Store) → n.input ≡ input → Continues m n → length (a ∷ S) ≤ limit → AllRight R (a ∷ S)
      → Kept image R A m (read_char image input a S n)
  unfolding read_char
  kept_read (byte ∷ rest) a S n e c l r = kept_give 0 _ (a ∷ S) _ (record {
    written = c.written;
    output = c.output;
    taken = c.taken ++ byte ∷ [];
    input = c.input ∙ ap (λ i. c.taken ++ i) e ∙ sym (append_assoc c.taken (byte ∷ []) rest);
    begun = c.begun;
    control = c.control;
  }) l r
  kept_read [] a S n e c l r = kept_if n.faulty _ _ (tt, c) (kept_raise NoInput [] a S n c l r raises.input)

  kept_peek : (input : List ℕ) (a : Active) (S : Activations) (n : Store) → Continues m n → length (a ∷ S) ≤ limit → AllRight R (a ∷ S)
      → Kept image R A m (end_of_input image input a S n)
  unfolding end_of_input
  kept_peek (byte ∷ rest) a S n c l r = kept_give 0 _ (a ∷ S) n c l r
  kept_peek [] a S n c l r = kept_if n.faulty _ _ (tt, c) (kept_give 0 _ (a ∷ S) n c l r)

  kept_host : (h : Host) (a : Active) (S : Activations) (n : Store) → Continues m n → length (a ∷ S) ≤ limit → AllRight R (a ∷ S) → Kept image R A m (host image h a S n)
  unfolding host
  kept_host WriteChar a S n c l r = kept_top a.operands _ (λ x rest. kept_write 1 _ (a ∷ S) n c l r)
  kept_host WriteString a S n c l r = kept_top a.operands _ (λ x rest. kept_top rest _ (λ y more. kept_write 2 _ (a ∷ S) n c l r))
  kept_host WriteDecimal a S n c l r = kept_top a.operands _ (λ x rest. kept_write 1 _ (a ∷ S) n c l r)
  kept_host ReadChar a S n c l r = kept_read n.input a S n refl c l r
  kept_host EndOfInput a S n c l r = kept_peek n.input a S n c l r

  kept_bound : (b : Link) (a : Active) (S : Activations) (n : Store) → Continues m n → length (a ∷ S) ≤ limit → AllRight R (a ∷ S) → Kept image R A m (call_bound image b a S n)
  unfolding call_bound call_in
  kept_bound (Wanted k) a S n c l r = kept_with (host_of image k) n _ c (λ h e. kept_host h a S n c l r)
  kept_bound (To j number) a S n c l r = kept_with (called image j number) n _ c (λ p e.
      kept_if _ _ _ (kept_call j number p a S n c r) (kept_start j (a ∷ S) n c r))

  -- Returns.

  kept_pending : (i : Instruction) (a : Active) (S : Activations) (n : Store) → Continues m n → length (a ∷ S) ≤ limit → AllRight R (a ∷ S) → Kept image R A m (pending image i a S n)
  unfolding pending
  kept_pending (CallLink k) a S n c l r = kept_with (bound_to image a.instance k) n _ c (λ b e. kept_bound b a S n c l r)
  kept_pending _ a S n c l r = (tt, c)

  kept_returned : (number : ℕ) (results : List ℕ) (S : Activations) (n : Store) → Continues m n → length S ≤ limit → AllRight R S → Kept image R A m (returned image number results S n)
  unfolding returned
  kept_returned zero results [] n c l r = runs [] n c l r
  kept_returned (suc number) results [] n c l r = runs [] n c l r
  kept_returned zero results (a ∷ S) n c l r = kept_with (instruction_under image a) n _ c (λ i e. kept_pending i a S n c l r)
  kept_returned (suc number) results (a ∷ S) n c l r = kept_give 0 results (a ∷ S) n c l r

  kept_return_of : (p : CodeProcedure) (a : Active) (role : Role (List ℕ)) (S : Activations) (n : Store) → Continues m n → length S ≤ limit → AllRight R S
      → Kept image R A m (return_of image p a role S n)
  unfolding return_of
  kept_return_of p a (Frame variables) S n c l r = kept_returned a.procedure _ S n c l r
  kept_return_of p a (InArm own arm why) S n c l r = (tt, c)

  kept_return : (a : Active) (S : Activations) (n : Store) → Continues m n → length (a ∷ S) ≤ limit → AllRight R S → Kept image R A m (return_from image a S n)
  unfolding return_from
  kept_return a S n c l r = kept_with (procedure_under image a) n _ c (λ p e. kept_return_of p a a.role S n c (omega (arith, l)) r)

  -- Arms.

  kept_arm : (k : ℕ) (b : Active) (q : ℕ) (why : Why) (words : List ℕ) (S : Activations) (n : Store) → Continues m n → AllRight R S
      → RightRole R (InArm (owner b.role q) k why) → Kept image R A m (enter_arm image k b q why words S n)
  unfolding enter_arm put_at
  kept_arm k b q why words S n c r s = kept_with (arm_under image b k) n _ c (λ arm e. kept_spend n _ c (λ o d. kept_enter _ _ o d s (set_right R S _ _ r)))

  kept_reject : (role : Role (List ℕ)) (S : Activations) (n : Store) → Continues m n → length S ≤ limit → AllRight R S → RightRole R role → OwnedRole role (length S)
      → Kept image R A m (reject role S n)
  unfolding reject
  kept_reject (Frame variables) S n c l r s o = (tt, c)
  kept_reject (InArm own arm (ForRaise signal args beyond)) S n c l r s o = seeks signal args own beyond S n c l r (let w = wide.places in omega (arith, w, l, o)) s
  kept_reject (InArm own arm (ForJump target beyond)) S n c l r s o = leaves target beyond S n c l r

  kept_resumed : (b : Bool) (words : List ℕ) (role : Role (List ℕ)) (S : Activations) (n : Store) → Continues m n → length S ≤ limit → AllRight R S → RightRole R role
      → OwnedRole role (length S) → Kept image R A m (resumed b image words role S n)
  unfolding resumed
  kept_resumed true words role S n c l r s o = kept_give 0 words S n c l r
  kept_resumed false words role S n c l r s o = kept_reject role S n c l r s o

  -- Jumps.

  kept_dropped : (t : Target) (role : Role (List ℕ)) (S : Activations) (n : Store) → Continues m n → length S ≤ limit → AllRight R S → Kept image R A m (dropped image t role S n)
  unfolding dropped
  kept_dropped t role [] n c l r = (tt, c)
  kept_dropped t role (b ∷ S) n c l r = leaves t _ (b ∷ S) n c l r

  kept_leave : (goal : Option ℕ) (role : Role (List ℕ)) (S : Activations) (n : Store) → Continues m n → length S ≤ limit → AllRight R S → Kept image R A m (leave image goal role S n)
  unfolding leave
  kept_leave goal (Frame variables) S n c l r = (tt, c)
  kept_leave goal (InArm own arm why) S n c l r = kept_dropped _ (InArm own arm why) S n c l r

  -- Instructions.

  fault_right : (fault : WordFault) → R (fault_signal fault)
  unfolding fault_signal
  fault_right OutOfBounds = raises.bounds
  fault_right DividedByZero = raises.divisor

  host_right : (fault : ℕ) (signal : SignalId) → host_signal fault ≡ Some signal → R signal
  unfolding host_signal
  host_right zero signal e = subst R (same_Some BoundsFault signal e) raises.bounds
  host_right (suc zero) signal e = subst R (same_Some ZeroDivisor signal e) raises.divisor
  host_right (suc (suc zero)) signal e = subst R (same_Some Unnamed signal e) raises.unnamed
  host_right (suc (suc (suc n))) signal e = absurd (none-some signal e)

  kept_perform : (i : Instruction) (a : Active) (S : Activations) (n : Store) → Continues m n → length (a ∷ S) ≤ limit → AllRight R (a ∷ S) → Owned (a ∷ S)
      → Kept image R A m (perform image i a S n)
  unfolding perform onward go_to raise_with resume
  kept_perform (Jump target) a S n c l r o = runs _ n c l r
  kept_perform (JumpIf target) a S n c l r o = kept_top a.operands _ (λ x rest. kept_if (nat_eq x 0) _ _ (runs _ n c l r) (runs _ n c l r))
  kept_perform (JumpIfNot target) a S n c l r o = kept_top a.operands _ (λ x rest. kept_if (nat_eq x 0) _ _ (runs _ n c l r) (runs _ n c l r))
  kept_perform (JumpBack target) a S n c l r o = kept_spend n _ c (λ k d. runs _ k d l r)
  kept_perform (Call number) a S n c l r o = kept_with (called image a.instance number) n _ c (λ p e. kept_spend n _ c (λ k d. kept_call a.instance number p a S k d r))
  kept_perform (CallLink k) a S n c l r o = kept_with (bound_to image a.instance k) n _ c (λ b e. kept_spend n _ c (λ x d. kept_bound b a S x d l r))
  kept_perform Return a S n c l r o = kept_return a S n c l r.1
  kept_perform (Raise k) a S n c l r o = kept_with (signal_of image a.instance k) n _ c (λ s e. kept_raise _ _ _ S n c l r (raises.own a.instance k s e))
  kept_perform (RaiseLink k) a S n c l r o = kept_with (link_of image a.instance k) n _ c (λ f e.
      kept_with (bound_to image a.instance k) n _ c (λ b bound. kept_with (signal_bound f.kind b) n _ c (λ signal is. kept_raise signal _ _ S n c l r (raises.link a.instance k f b signal e bound is))))
  kept_perform (RaiseHost fault) a S n c l r o = kept_with (host_signal fault) n _ c (λ signal e. kept_raise signal [] a S n c l r (host_right fault signal e))
  kept_perform ArmEnd a S n c l r o = kept_reject a.role S n c (omega (arith, l)) r.1 r.0 o.0
  kept_perform (Resume k) a S n c l r o = kept_resumed _ _ a.role S n c (omega (arith, l)) r.1 r.0 o.0
  kept_perform (Leave arms target) a S n c l r o = kept_leave (Some target) a.role S n c (omega (arith, l)) r.1
  kept_perform (LeaveReturn arms) a S n c l r o = kept_leave None a.role S n c (omega (arith, l)) r.1
  kept_perform _ a S n c l r o = (tt, c)

  kept_worked : (i : Instruction) (w : Worked) (a : Active) (S : Activations) (n : Store) → Continues m n → length (a ∷ S) ≤ limit → AllRight R (a ∷ S) → Owned (a ∷ S)
      → Kept image R A m (worked image i w a S n)
  unfolding worked
  kept_worked i (Works w) a S n c l r o =
      let b : Active = record a { offset = a.offset; operands = w.operands } in
      let same = set_alike (b ∷ S) (own_frame a S) w.variables in
      runs _ _ (record { written = c.written; output = c.output; taken = c.taken; input = c.input; begun = c.begun; control = c.control })
      (subst (λ k. k ≤ limit) (sym (set_alike (record a { offset = _; operands = w.operands } ∷ S) (own_frame a S) w.variables).long) l) (set_right R _ _ _ r)
  kept_worked i (Faults fault) a S n c l r o = kept_raise (fault_signal fault) [] a S n c l r (fault_right fault)
  kept_worked i Touches a S n c l r o = kept_perform i a S n c l r o

  kept_next : (list : List ℕ) (n : Store) → n.control ≡ list → Continues m n → Kept image R A m (start_next image list n)
  unfolding start_next
  kept_next [] n e c = (tt, c)
  kept_next (j ∷ rest) n e c =
      let d : Continues m (record n { control = rest }) = record {
        written = c.written;
        output = c.output;
        taken = c.taken;
        input = c.input;
        begun = c.begun;
        control = let k = c.control in let h = ap (λ (x : List ℕ). length x) e in omega (arith, k, h);
      } in kept_if (n.started j) _ _ (runs [] _ d (omega arith) tt) (kept_start j [] _ d tt)

  -- Searching.

  kept_outward : (signal : SignalId) (args : List ℕ) (own : ℕ) (S : Activations) (n : Store) → Continues m n → length S ≤ limit → AllRight R S → R signal
      → own ≤ A → Kept image R A m (outward image signal args own S n)
  unfolding outward
  kept_outward signal args zero S n c l r s h = (s, c)
  kept_outward signal args (suc own) S n c l r s h = kept_with (activation_at S own) n _ c (λ b e. seeks signal args own _ S n c l r (omega (arith, h)) s)

  kept_asked : (signal : SignalId) (args : List ℕ) (q : ℕ) (b : Active) (found : Found) (S : Activations) (n : Store) → Continues m n → length S ≤ limit → AllRight R S
      → R signal → q ≤ A → owner b.role q ≤ q → Kept image R A m (asked image signal args b q found S n)
  unfolding asked
  kept_asked signal args q b Beyond S n c l r s h low = kept_outward signal args (owner b.role q) S n c l r s (omega (arith, h, low))
  kept_asked signal args q b (FoundArm arm beyond) S n c l r s h low = kept_arm arm b q _ args S n c r s

  pub kept_seek : (signal : SignalId) (args : List ℕ) (q : ℕ) (search : Search) (S : Activations) (n : Store) → Continues m n → length S ≤ limit → AllRight R S → Owned S
      → R signal → q ≤ A → Kept image R A m (seek image signal args q search S n)
  unfolding seek
  kept_seek signal args q search S n c l r o s h = kept_with (activation_at S q) n _ c (λ b e.
      let st = stands S q b o e in kept_asked signal args q b _ S n c l r s h st.owned)

  -- Leaving.

  kept_arrived : (goal : Option ℕ) (a : Active) (S : Activations) (n : Store) → Continues m n → length (a ∷ S) ≤ limit → AllRight R (a ∷ S) → Kept image R A m (arrived image goal a S n)
  unfolding arrived go_to
  kept_arrived None a S n c l r = kept_return a S n c l r.1
  kept_arrived (Some offset) a S n c l r = runs _ n c l r

  kept_unwound : (t : Target) (a : Active) (found : Found) (S : Activations) (n : Store) → Continues m n → length (a ∷ S) ≤ limit → AllRight R (a ∷ S)
      → Kept image R A m (unwound image t a found S n)
  unfolding unwound
  kept_unwound t a Beyond S n c l r = kept_dropped t a.role S n c (omega (arith, l)) r.1
  kept_unwound t a (FoundArm arm beyond) S n c l r = kept_arm arm a (length S) _ [] (a ∷ S) n c r tt

  pub kept_leaving : (t : Target) (search : Search) (S : Activations) (n : Store) → Continues m n → length S ≤ limit → AllRight R S → Kept image R A m (leave_step image t search S n)
  unfolding leave_step
  kept_leaving t search [] n c l r = (tt, c)
  kept_leaving t search (a ∷ S) n c l r =
      kept_if (nat_eq (length S) t.place) _ _ (kept_arrived t.goal a S n c l r)
      (kept_if (nat_eq (own_frame a S) t.owner) _ _ (kept_dropped t a.role S n c (omega (arith, l)) r.1) (kept_unwound t a _ S n c l r))

  -- A step.

  pub kept_run : (a : Active) (S : Activations) (i : Instruction) (w : Worked) → length (a ∷ S) ≤ limit → AllRight R (a ∷ S) → Owned (a ∷ S) → Kept image R A m (worked image i w a S m)
  kept_run a S i w l r o = kept_worked i w a S m (itself m) l r o

  pub kept_start_next : Kept image R A m (start_next image m.control m)
  kept_start_next = kept_next m.control m refl (itself m)
