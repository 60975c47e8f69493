-- As the machine runs on, its output grows, and what is left of its input shrinks.
use Rattle.std.proofs.Common.{◌≡◌, ℕ, zero, suc, List, [], ◌∷◌, ◌++◌, length, Bool, true, false, Option, Some, None, refl, sym, ◌∙◌, ap, append_assoc, append-nil}
use Rattle.std.specs.Prelude.{◌||◌, nat_eq, nat_lt, if◌then◌else◌}
use Rattle.code_forms.specs.declared.instruction.Instruction.{Instruction}
use Rattle.code_forms.specs.declared.instruction.Instruction.TheVariants.{Jump, JumpIf, JumpIfNot, JumpBack, Call, CallLink, Return, Raise, RaiseLink, RaiseHost, ArmEnd, Resume, Leave, LeaveReturn}
use Rattle.code_forms.specs.declared.module_code.CodeProcedure.{CodeProcedure}
use Rattle.object_files.specs.declared.image.Image.{Image}
use Rattle.object_files.specs.declared.image.Link.{Link}
use Rattle.object_files.specs.declared.image.Link.TheVariants.{Wanted, To}
use Rattle.signaller.specs.declared.search.Found.{Found}
use Rattle.signaller.specs.declared.search.Found.TheVariants.{Arm as FoundArm, Beyond}
use Rattle.signaller.specs.declared.search.Search.{Search}
use Rattle.signaller.specs.declared.signal_id.SignalId.{SignalId}
use Rattle.signaller.specs.declared.signal_id.SignalId.TheVariants.{NoInput}
use Rattle.machine_rules.specs.Words.{on_top}
use Rattle.machine_rules.specs.State.{Target, Why, ForRaise, ForJump, Role, Frame, InArm, Active, Activations, Store, State, Runs, Seeks, Leaves, Ending, Stepped, Goes, Stops}
use Rattle.machine_rules.specs.Activations.{owner, own_frame}
use Rattle.machine_rules.specs.LookUps.{Host, WriteChar, WriteString, WriteDecimal, ReadChar, EndOfInput}
use Rattle.machine_rules.specs.Moves.{with, spend_of, spend, enter, onward, go_to, give, limit}
use Rattle.machine_rules.specs.Signals.{enter_arm, raise, outward, asked, seek, reject, can_resume, resumed, resume}
use Rattle.machine_rules.specs.Calls.{set_of, enter_frame, start, call, host_write, read_char, end_of_input, host, call_in, call_bound, pending, returned, return_of, return_from, start_next}
use Rattle.machine_rules.specs.Leaving.{dropped, leave, arrived, unwound, leave_step}
use Rattle.machine_rules.specs.Working.{Worked, Works, Faults, Touches}
use Rattle.machine_rules.specs.Steps.{raise_with, perform, fault_signal, worked, works_in, begin, run, step, Ends, stops, goes}

unfoldable pub store_in : Stepped → Store
store_in (Goes (Runs S m)) = m
store_in (Goes (Seeks signal args q search S m)) = m
store_in (Goes (Leaves t search S m)) = m
store_in (Stops end m) = m

-- the output has more behind it, and the input has less before it
pub record Grows (before rest : List ℕ) (n : Store) : Type 0 where
  pub written : List ℕ
  pub output : n.output ≡ before ++ written
  pub taken : List ℕ
  pub input : rest ≡ taken ++ n.input

abbrev pub GrowsTo : Store → Stepped → Type 0
GrowsTo m x = Grows m.output m.input (store_in x)

still : (n : Store) → Grows n.output n.input n
still n = record { written = []; output = sym (append-nil n.output); taken = []; input = refl }

both : (before rest : List ℕ) (m n : Store) → Grows before rest m → Grows m.output m.input n → Grows before rest n
both before rest m n g h = record {
  written = g.written ++ h.written;
  output = h.output ∙ ap (λ o. o ++ h.written) g.output ∙ append_assoc before g.written h.written;
  taken = g.taken ++ h.taken;
  input = g.input ∙ ap (λ i. g.taken ++ i) h.input ∙ sym (append_assoc g.taken h.taken n.input);
}

either : (m : Store) (here : Bool) (x y : Stepped) → GrowsTo m x → GrowsTo m y → GrowsTo m (if here then x else y)
either m true x y g h = g
either m false x y g h = h

with_grows : {A : Type 0} (o : Option A) (m : Store) (k : A → Stepped) → ((x : A) → GrowsTo m (k x)) → GrowsTo m (with o m k)
unfolding with store_in
with_grows None m k h = still m
with_grows (Some x) m k h = h x

spent_grows : (turns : ℕ) (m : Store) (k : Store → Stepped) → ((t : ℕ) → GrowsTo m (k (record m { turns = t }))) → GrowsTo m (spend_of turns m k)
unfolding spend_of store_in
spent_grows zero m k h = still m
spent_grows (suc turns) m k h = h turns

spend_grows : (m : Store) (k : Store → Stepped) → ((t : ℕ) → GrowsTo m (k (record m { turns = t }))) → GrowsTo m (spend m k)
unfolding spend
spend_grows m k h = spent_grows m.turns m k h

top_grows : (operands : List ℕ) (m : Store) (k : ℕ → List ℕ → Stepped) → ((x : ℕ) (rest : List ℕ) → GrowsTo m (k x rest)) → GrowsTo m (on_top operands k)
top_grows [] m k h = h 0 []
top_grows (x ∷ rest) m k h = h x rest

enter_grows : (a : Active) (S : Activations) (m : Store) → GrowsTo m (enter a S m)
unfolding enter store_in
enter_grows a S m = either m (nat_lt (length S) limit) _ _ (still m) (still m)

runs_grow : (S : Activations) (m : Store) → GrowsTo m (Goes (Runs S m))
unfolding store_in
runs_grow S m = still m

seeks_grow : (signal : SignalId) (args : List ℕ) (q : ℕ) (search : Search) (S : Activations) (m : Store) → GrowsTo m (Goes (Seeks signal args q search S m))
unfolding store_in
seeks_grow signal args q search S m = still m

leaves_grow : (t : Target) (search : Search) (S : Activations) (m : Store) → GrowsTo m (Goes (Leaves t search S m))
unfolding store_in
leaves_grow t search S m = still m

stops_grow : (end : Ending) (m : Store) → GrowsTo m (Stops end m)
unfolding store_in
stops_grow end m = still m

onward_grows : (i : Instruction) (operands : List ℕ) (a : Active) (S : Activations) (m : Store) → GrowsTo m (onward i operands a S m)
unfolding onward store_in
onward_grows i operands a S m = still m

go_grows : (target : ℕ) (operands : List ℕ) (a : Active) (S : Activations) (m : Store) → GrowsTo m (go_to target operands a S m)
unfolding go_to store_in
go_grows target operands a S m = still m

reject_grows : (role : Role (List ℕ)) (S : Activations) (m : Store) → GrowsTo m (reject role S m)
unfolding reject store_in
reject_grows (Frame variables) S m = still m
reject_grows (InArm own arm (ForRaise signal args beyond)) S m = still m
reject_grows (InArm own arm (ForJump target beyond)) S m = still m

frame_grows : (j number : ℕ) (p : CodeProcedure) (args : List ℕ) (S : Activations) (m : Store) → GrowsTo m (enter_frame j number p args S m)
unfolding enter_frame
frame_grows j number p args S m = enter_grows _ S m

call_grows : (j number : ℕ) (p : CodeProcedure) (a : Active) (S : Activations) (m : Store) → GrowsTo m (call j number p a S m)
unfolding call
call_grows j number p a S m = frame_grows j number p _ _ m

module _ (image : Image) where
  give_grows : (n : ℕ) (words : List ℕ) (S : Activations) (m : Store) → GrowsTo m (give image n words S m)
  unfolding give
  give_grows n words [] m = stops_grow _ m
  give_grows n words (a ∷ S) m = with_grows _ m _ (λ i. onward_grows i _ a S m)

  arm_grows : (n : ℕ) (b : Active) (q : ℕ) (why : Why) (words : List ℕ) (S : Activations) (m : Store) → GrowsTo m (enter_arm image n b q why words S m)
  unfolding enter_arm
  arm_grows n b q why words S m = with_grows _ m _ (λ arm. spend_grows m _ (λ t. enter_grows _ _ (record m { turns = t })))

  raise_grows : (signal : SignalId) (args : List ℕ) (a : Active) (S : Activations) (m : Store) → GrowsTo m (raise image signal args a S m)
  unfolding raise
  raise_grows signal args a S m = spend_grows m _ (λ t. seeks_grow signal args _ _ _ (record m { turns = t }))

  outward_grows : (signal : SignalId) (args : List ℕ) (q : ℕ) (S : Activations) (m : Store) → GrowsTo m (outward image signal args q S m)
  unfolding outward
  outward_grows signal args zero S m = stops_grow _ m
  outward_grows signal args (suc q) S m = with_grows _ m _ (λ b. seeks_grow signal args q _ S m)

  asked_grows : (signal : SignalId) (args : List ℕ) (b : Active) (q : ℕ) (found : Found) (S : Activations) (m : Store) → GrowsTo m (asked image signal args b q found S m)
  unfolding asked
  asked_grows signal args b q Beyond S m = outward_grows signal args (owner b.role q) S m
  asked_grows signal args b q (FoundArm arm beyond) S m = arm_grows arm b q (ForRaise signal args beyond) args S m

  seek_grows : (signal : SignalId) (args : List ℕ) (q : ℕ) (search : Search) (S : Activations) (m : Store) → GrowsTo m (seek image signal args q search S m)
  unfolding seek
  seek_grows signal args q search S m = with_grows _ m _ (λ b. asked_grows signal args b q _ S m)

  resumed_grows : (takes : Bool) (words : List ℕ) (role : Role (List ℕ)) (S : Activations) (m : Store) → GrowsTo m (resumed takes image words role S m)
  unfolding resumed
  resumed_grows true words role S m = give_grows 0 words S m
  resumed_grows false words role S m = reject_grows role S m

  resume_grows : (n : ℕ) (words : List ℕ) (role : Role (List ℕ)) (S : Activations) (m : Store) → GrowsTo m (resume image n words role S m)
  unfolding resume
  resume_grows n words role S m = resumed_grows (can_resume image role n) words role S m

  start_grows : (j : ℕ) (S : Activations) (m : Store) → GrowsTo m (start image j S m)
  unfolding start
  start_grows j S m = with_grows _ m _ (λ body.
      spend_grows (record m { started = set_of m.started j true }) _ (λ t. frame_grows j 0 body [] S (record m { started = set_of m.started j true; turns = t })))

  write_grows : (n : ℕ) (text : List ℕ) (S : Activations) (m : Store) → GrowsTo m (host_write image n text S m)
  unfolding host_write
  write_grows n text S m =
      both m.output m.input (record m { output = m.output ++ text }) _ (record { written = text; output = refl; taken = []; input = refl }) (give_grows n [] S (record m { output = m.output ++ text }))

  read_grows : (input : List ℕ) (a : Active) (S : Activations) (m : Store) → m.input ≡ input → GrowsTo m (read_char image input a S m)
  unfolding read_char
  read_grows (byte ∷ rest) a S m e =
      both m.output m.input (record m { input = rest }) _ (record { written = []; output = sym (append-nil m.output); taken = byte ∷ []; input = e })
      (give_grows 0 (byte ∷ []) (a ∷ S) (record m { input = rest }))
  read_grows [] a S m e = either m m.faulty _ _ (stops_grow _ m) (raise_grows NoInput [] a S m)

  end_grows : (input : List ℕ) (a : Active) (S : Activations) (m : Store) → GrowsTo m (end_of_input image input a S m)
  unfolding end_of_input
  end_grows (byte ∷ rest) a S m = give_grows 0 _ (a ∷ S) m
  end_grows [] a S m = either m m.faulty _ _ (stops_grow _ m) (give_grows 0 _ (a ∷ S) m)

  host_grows : (h : Host) (a : Active) (S : Activations) (m : Store) → GrowsTo m (host image h a S m)
  unfolding host
  host_grows WriteChar a S m = top_grows a.operands m _ (λ c rest. write_grows 1 _ (a ∷ S) m)
  host_grows WriteString a S m = top_grows a.operands m _ (λ y rest. top_grows rest m _ (λ x more. write_grows 2 _ (a ∷ S) m))
  host_grows WriteDecimal a S m = top_grows a.operands m _ (λ n rest. write_grows 1 _ (a ∷ S) m)
  host_grows ReadChar a S m = read_grows m.input a S m refl
  host_grows EndOfInput a S m = end_grows m.input a S m

  call_in_grows : (j number : ℕ) (p : CodeProcedure) (a : Active) (S : Activations) (m : Store) → GrowsTo m (call_in image j number p a S m)
  unfolding call_in
  call_in_grows j number p a S m = either m (nat_eq a.instance j || m.started j) _ _ (call_grows j number p a S m) (start_grows j (a ∷ S) m)

  bound_grows : (l : Link) (a : Active) (S : Activations) (m : Store) → GrowsTo m (call_bound image l a S m)
  unfolding call_bound
  bound_grows (Wanted n) a S m = with_grows _ m _ (λ h. host_grows h a S m)
  bound_grows (To j number) a S m = with_grows _ m _ (λ p. call_in_grows j number p a S m)

  pending_grows : (i : Instruction) (a : Active) (S : Activations) (m : Store) → GrowsTo m (pending image i a S m)
  unfolding pending
  pending_grows (CallLink k) a S m = with_grows _ m _ (λ l. bound_grows l a S m)
  pending_grows _ a S m = stops_grow _ m

  returned_grows : (number : ℕ) (results : List ℕ) (S : Activations) (m : Store) → GrowsTo m (returned image number results S m)
  unfolding returned
  returned_grows zero results [] m = runs_grow [] m
  returned_grows (suc number) results [] m = runs_grow [] m
  returned_grows zero results (a ∷ S) m = with_grows _ m _ (λ i. pending_grows i a S m)
  returned_grows (suc number) results (a ∷ S) m = give_grows 0 results (a ∷ S) m

  return_of_grows : (p : CodeProcedure) (a : Active) (role : Role (List ℕ)) (S : Activations) (m : Store) → GrowsTo m (return_of image p a role S m)
  unfolding return_of
  return_of_grows p a (Frame variables) S m = returned_grows a.procedure _ S m
  return_of_grows p a (InArm own arm why) S m = stops_grow _ m

  return_grows : (a : Active) (S : Activations) (m : Store) → GrowsTo m (return_from image a S m)
  unfolding return_from
  return_grows a S m = with_grows _ m _ (λ p. return_of_grows p a a.role S m)

  next_grows : (control : List ℕ) (m : Store) → GrowsTo m (start_next image control m)
  unfolding start_next
  next_grows [] m = stops_grow _ m
  next_grows (j ∷ rest) m = either m (m.started j) _ _ (runs_grow [] (record m { control = rest })) (start_grows j [] (record m { control = rest }))

  dropped_grows : (t : Target) (role : Role (List ℕ)) (S : Activations) (m : Store) → GrowsTo m (dropped image t role S m)
  unfolding dropped
  dropped_grows t role [] m = stops_grow _ m
  dropped_grows t role (b ∷ S) m = leaves_grow t _ (b ∷ S) m

  leave_grows : (goal : Option ℕ) (role : Role (List ℕ)) (S : Activations) (m : Store) → GrowsTo m (leave image goal role S m)
  unfolding leave
  leave_grows goal (Frame variables) S m = stops_grow _ m
  leave_grows goal (InArm own arm why) S m = dropped_grows _ (InArm own arm why) S m

  arrived_grows : (goal : Option ℕ) (a : Active) (S : Activations) (m : Store) → GrowsTo m (arrived image goal a S m)
  unfolding arrived
  arrived_grows None a S m = return_grows a S m
  arrived_grows (Some offset) a S m = go_grows offset [] a S m

  unwound_grows : (t : Target) (a : Active) (found : Found) (S : Activations) (m : Store) → GrowsTo m (unwound image t a found S m)
  unfolding unwound
  unwound_grows t a Beyond S m = dropped_grows t a.role S m
  unwound_grows t a (FoundArm arm beyond) S m = arm_grows arm a (length S) (ForJump t beyond) [] (a ∷ S) m

  leaving_grows : (t : Target) (search : Search) (S : Activations) (m : Store) → GrowsTo m (leave_step image t search S m)
  unfolding leave_step
  leaving_grows t search [] m = stops_grow _ m
  leaving_grows t search (a ∷ S) m =
      either m (nat_eq (length S) t.place) _ _ (arrived_grows t.goal a S m)
      (either m (nat_eq (own_frame a S) t.owner) _ _ (dropped_grows t a.role S m) (unwound_grows t a _ S m))

  raise_with_grows : (signal : SignalId) (n : ℕ) (a : Active) (S : Activations) (m : Store) → GrowsTo m (raise_with image signal n a S m)
  unfolding raise_with
  raise_with_grows signal n a S m = raise_grows signal _ _ S m

  perform_grows : (i : Instruction) (a : Active) (S : Activations) (m : Store) → GrowsTo m (perform image i a S m)
  unfolding perform
  perform_grows (Jump target) a S m = go_grows target _ a S m
  perform_grows (JumpIf target) a S m = top_grows a.operands m _ (λ x rest. either m (nat_eq x 0) _ _ (onward_grows _ rest a S m) (go_grows target rest a S m))
  perform_grows (JumpIfNot target) a S m = top_grows a.operands m _ (λ x rest. either m (nat_eq x 0) _ _ (go_grows target rest a S m) (onward_grows _ rest a S m))
  perform_grows (JumpBack target) a S m = spend_grows m _ (λ t. go_grows target a.operands a S (record m { turns = t }))
  perform_grows (Call number) a S m = with_grows _ m _ (λ p. spend_grows m _ (λ t. call_grows a.instance number p a S (record m { turns = t })))
  perform_grows (CallLink k) a S m = with_grows _ m _ (λ l. spend_grows m _ (λ t. bound_grows l a S (record m { turns = t })))
  perform_grows Return a S m = return_grows a S m
  perform_grows (Raise k) a S m = with_grows _ m _ (λ s. raise_with_grows _ _ a S m)
  perform_grows (RaiseLink k) a S m = with_grows _ m _ (λ l. with_grows _ m _ (λ b. with_grows _ m _ (λ signal. raise_with_grows signal _ a S m)))
  perform_grows (RaiseHost fault) a S m = with_grows _ m _ (λ signal. raise_grows signal [] a S m)
  perform_grows ArmEnd a S m = reject_grows a.role S m
  perform_grows (Resume n) a S m = resume_grows n _ a.role S m
  perform_grows (Leave arms target) a S m = leave_grows (Some target) a.role S m
  perform_grows (LeaveReturn arms) a S m = leave_grows None a.role S m
  perform_grows _ a S m = stops_grow _ m

  worked_grows : (i : Instruction) (w : Worked) (a : Active) (S : Activations) (m : Store) → GrowsTo m (worked image i w a S m)
  unfolding worked
  worked_grows i (Works w) a S m = runs_grow _ _
  worked_grows i (Faults fault) a S m = raise_grows (fault_signal fault) [] a S m
  worked_grows i Touches a S m = perform_grows i a S m

  begin_grows : (i : Instruction) (a : Active) (S : Activations) (m : Store) → GrowsTo m (begin image i a S m)
  unfolding begin
  begin_grows i a S m = worked_grows i (works_in image i a S m) a S (record m { begun = suc m.begun })

  run_grows : (S : Activations) (m : Store) → GrowsTo m (run image S m)
  unfolding run
  run_grows [] m = next_grows m.control m
  run_grows (a ∷ S) m = with_grows _ m _ (λ i. begin_grows i a S m)

  step_grows : (s : State) → Grows (store_in (Goes s)).output (store_in (Goes s)).input (store_in (step image s))
  unfolding step store_in
  step_grows (Runs S m) = run_grows S m
  step_grows (Seeks signal args q search S m) = seek_grows signal args q search S m
  step_grows (Leaves t search S m) = leaving_grows t search S m

  -- so a run that ends
  pub ends_grow : (x : Stepped) (end : Ending) (last : Store) → Ends image x end last → Grows (store_in x).output (store_in x).input last
  unfolding store_in
  ends_grow _ _ _ (stops end m) = still m
  ends_grow _ _ _ (goes s end m e) =
      both (store_in (Goes s)).output (store_in (Goes s)).input (store_in (step image s)) m (step_grows s) (ends_grow (step image s) end m e)
