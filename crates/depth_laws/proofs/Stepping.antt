-- A step is alike in images that differ in depths alone.
use Rattle.std.proofs.Common.{◌≡◌, ℕ, zero, suc, ◌%◌, List, [], ◌∷◌, length, true, false, Option, Some, None, refl, ◌∙◌}
use Rattle.std.specs.Prelude.{◌||◌, nat_eq, if◌then◌else◌, unwrap_or}
use Rattle.mesa_base.specs.Decimal.{signed_word}
use Rattle.mesa_types.specs.Operators.{truth}
use Rattle.code_forms.specs.Same.{bare_procedure}
use Rattle.code_forms.specs.declared.instruction.Instruction.{Instruction}
use Rattle.code_forms.specs.declared.instruction.Instruction.TheVariants.{Call, CallLink, Return, Raise, RaiseLink, RaiseHost, Resume, Leave, LeaveReturn}
use Rattle.code_forms.specs.declared.module_code.CodeProcedure.{CodeProcedure}
use Rattle.object_files.specs.declared.image.Image.{Image}
use Rattle.object_files.specs.declared.image.Link.{Link}
use Rattle.object_files.specs.declared.image.Link.TheVariants.{Wanted, To}
use Rattle.object_rules.specs.Exact.{IsSameImage}
use Rattle.signaller.specs.Search.{unwind_next}
use Rattle.signaller.specs.declared.search.Search.{Search}
use Rattle.signaller.specs.declared.signal_id.SignalId.{SignalId}
use Rattle.signaller.specs.declared.signal_id.SignalId.TheVariants.{Own, NoInput}
use Rattle.machine_rules.specs.Words.{on_top, on_two, popped}
use Rattle.machine_rules.specs.State.{Target, Role, Frame, InArm, Active, Activations, Store, State, Runs, Seeks, Leaves, Broken, Stepped, Goes, Stops}
use Rattle.machine_rules.specs.Activations.{own_frame}
use Rattle.machine_rules.specs.LookUps.{called, procedure_of, procedure_under, phrases_under, Host, WriteChar, WriteString, WriteDecimal, ReadChar, EndOfInput, signal_bound}
use Rattle.machine_rules.specs.Working.{Worked, Works, Faults, Touches, works}
use Rattle.machine_rules.specs.Calls.{enter_frame, start, call, host_write, read_char, end_of_input, host, call_in, call_bound, pending, returned, return_of, return_from, start_next}
use Rattle.machine_rules.specs.Leaving.{arrived, unwound, leave_step}
use Rattle.machine_rules.specs.Steps.{raise_with, host_signal, perform, fault_signal, work_of, worked, works_in, begin, run, step}
use Rattle.depth_laws.proofs.Views.{number_alike, signal_alike, text_alike, link_alike, bound_alike, host_alike, procedure_alike, called_alike, under_alike, instruction_alike, phrases_alike}
use Rattle.depth_laws.proofs.Raising.{with_each, with_same, with_procedure, spend_same, give_same, raise_same, seek_same, resume_same, dropped_same, leave_same, unwound_same}

top_same : (operands : List ℕ) (k l : ℕ → List ℕ → Stepped) → ((x : ℕ) (rest : List ℕ) → k x rest ≡ l x rest) → on_top operands k ≡ on_top operands l
top_same [] k l h = h 0 []
top_same (x ∷ rest) k l h = h x rest

two_same : (operands : List ℕ) (k l : ℕ → ℕ → List ℕ → Stepped) → ((x y : ℕ) (rest : List ℕ) → k x y rest ≡ l x y rest) → on_two operands k ≡ on_two operands l
two_same operands k l h = top_same operands _ _ (λ y rest. top_same rest _ _ (λ x more. h x y more))

module _ (a b : Image) (same : IsSameImage a b) where
  -- ---- calls

  start_same : (j : ℕ) (S : Activations) (m : Store) → start a j S m ≡ start b j S m
  unfolding start enter_frame
  start_same j S m =
      with_procedure (procedure_of a j 0) (procedure_of b j 0) m _ _ (procedure_alike a b same j 0) (λ p. refl) (λ p. refl) (λ p. refl)

  host_write_same : (n : ℕ) (text : List ℕ) (S : Activations) (m : Store) → host_write a n text S m ≡ host_write b n text S m
  unfolding host_write
  host_write_same n text S m = give_same a b same n [] S _

  read_same : (input : List ℕ) (x : Active) (S : Activations) (m : Store) → read_char a input x S m ≡ read_char b input x S m
  unfolding read_char
  read_same (byte ∷ rest) x S m = give_same a b same 0 (byte ∷ []) (x ∷ S) _
  read_same [] x S m = λ i. if m.faulty then Stops Broken m else raise_same a b same NoInput [] x S m i

  end_same : (input : List ℕ) (x : Active) (S : Activations) (m : Store) → end_of_input a input x S m ≡ end_of_input b input x S m
  unfolding end_of_input
  end_same (byte ∷ rest) x S m = give_same a b same 0 (truth false ∷ []) (x ∷ S) m
  end_same [] x S m = λ i. if m.faulty then Stops Broken m else give_same a b same 0 (truth true ∷ []) (x ∷ S) m i

  host_same : (h : Host) (x : Active) (S : Activations) (m : Store) → host a h x S m ≡ host b h x S m
  unfolding host
  host_same WriteChar x S m = top_same x.operands _ _ (λ c rest. host_write_same 1 (c % 256 ∷ []) (x ∷ S) m)
  host_same WriteString x S m = two_same x.operands _ _ (λ n k rest.
      (λ i. host_write a 2 (text_alike a b same n k i) (x ∷ S) m) ∙ host_write_same 2 _ (x ∷ S) m)
  host_same WriteDecimal x S m = top_same x.operands _ _ (λ n rest. host_write_same 1 (signed_word n) (x ∷ S) m)
  host_same ReadChar x S m = read_same m.input x S m
  host_same EndOfInput x S m = end_same m.input x S m

  call_in_same : (j number : ℕ) (p : CodeProcedure) (x : Active) (S : Activations) (m : Store) → call_in a j number p x S m ≡ call_in b j number p x S m
  unfolding call_in
  call_in_same j number p x S m = λ i. if nat_eq x.instance j || m.started j then call j number p x S m else start_same j (x ∷ S) m i

  call_in_bare : (image : Image) (j number : ℕ) (p : CodeProcedure) (x : Active) (S : Activations) (m : Store)
      → call_in image j number p x S m ≡ call_in image j number (bare_procedure p) x S m
  unfolding call_in call enter_frame
  call_in_bare image j number p x S m = refl

  call_bound_same : (link : Link) (x : Active) (S : Activations) (m : Store) → call_bound a link x S m ≡ call_bound b link x S m
  unfolding call_bound
  call_bound_same (Wanted n) x S m = with_same _ _ m _ _ (host_alike a b same n) (λ h. host_same h x S m)
  call_bound_same (To j number) x S m =
      with_procedure (called a j number) (called b j number) m _ _ (called_alike a b same j number)
      (λ p. call_in_bare a j number p x S m) (λ p. call_in_bare b j number p x S m) (λ p. call_in_same j number p x S m)

  call_same : (number : ℕ) (x : Active) (S : Activations) (m : Store) → perform a (Call number) x S m ≡ perform b (Call number) x S m
  unfolding perform call enter_frame
  call_same number x S m =
      with_procedure (called a x.instance number) (called b x.instance number) m _ _ (called_alike a b same x.instance number) (λ p. refl) (λ p. refl) (λ p. refl)

  -- ---- returns

  pending_same : (instruction : Instruction) (x : Active) (S : Activations) (m : Store) → pending a instruction x S m ≡ pending b instruction x S m
  unfolding pending
  pending_same (CallLink k) x S m = with_same _ _ m _ _ (bound_alike a b same x.instance k) (λ l. call_bound_same l x S m)
  pending_same _ x S m = refl

  returned_same : (number : ℕ) (results : List ℕ) (S : Activations) (m : Store) → returned a number results S m ≡ returned b number results S m
  unfolding returned
  returned_same zero results [] m = refl
  returned_same (suc number) results [] m = refl
  returned_same zero results (x ∷ S) m = with_same _ _ m _ _ (instruction_alike a b same x) (λ i. pending_same i x S m)
  returned_same (suc number) results (x ∷ S) m = give_same a b same 0 results (x ∷ S) m

  return_of_same : (p : CodeProcedure) (x : Active) (role : Role (List ℕ)) (S : Activations) (m : Store) → return_of a p x role S m ≡ return_of b p x role S m
  unfolding return_of
  return_of_same p x (Frame variables) S m = returned_same x.procedure _ S m
  return_of_same p x (InArm own arm why) S m = refl

  return_of_bare : (image : Image) (p : CodeProcedure) (x : Active) (role : Role (List ℕ)) (S : Activations) (m : Store)
      → return_of image p x role S m ≡ return_of image (bare_procedure p) x role S m
  unfolding return_of
  return_of_bare image p x (Frame variables) S m = refl
  return_of_bare image p x (InArm own arm why) S m = refl

  return_same : (x : Active) (S : Activations) (m : Store) → return_from a x S m ≡ return_from b x S m
  unfolding return_from
  return_same x S m =
      with_procedure (procedure_under a x) (procedure_under b x) m _ _ (under_alike a b same x)
      (λ p. return_of_bare a p x x.role S m) (λ p. return_of_bare b p x x.role S m) (λ p. return_of_same p x x.role S m)

  start_next_same : (control : List ℕ) (m : Store) → start_next a control m ≡ start_next b control m
  unfolding start_next
  start_next_same [] m = refl
  start_next_same (j ∷ rest) m = λ i. if m.started j then Goes (Runs [] (record m { control = rest })) else start_same j [] (record m { control = rest }) i

  -- ---- jumps out of arms

  arrived_same : (goal : Option ℕ) (x : Active) (S : Activations) (m : Store) → arrived a goal x S m ≡ arrived b goal x S m
  unfolding arrived
  arrived_same None x S m = return_same x S m
  arrived_same (Some offset) x S m = refl

  asked_same : (t : Target) (search : Search) (x : Active) (S : Activations) (m : Store)
      → unwound a t x (unwind_next (phrases_under a x) search) S m ≡ unwound b t x (unwind_next (phrases_under b x) search) S m
  asked_same t search x S m =
      (λ i. unwound a t x (unwind_next (phrases_alike a b same x i) search) S m) ∙ unwound_same a b same t x _ S m

  leave_step_same : (t : Target) (search : Search) (S : Activations) (m : Store) → leave_step a t search S m ≡ leave_step b t search S m
  unfolding leave_step
  leave_step_same t search [] m = refl
  leave_step_same t search (x ∷ S) m = λ i.
      if nat_eq (length S) t.place then arrived_same t.goal x S m i
      else (if nat_eq (own_frame x S) t.owner then dropped_same a b same t x.role S m i else asked_same t search x S m i)

  -- ---- instructions

  raise_with_same : (signal : SignalId) (n : ℕ) (x : Active) (S : Activations) (m : Store) → raise_with a signal n x S m ≡ raise_with b signal n x S m
  unfolding raise_with
  raise_with_same signal n x S m = raise_same a b same signal (popped n x.operands) _ S m

  perform_same : (i : Instruction) (x : Active) (S : Activations) (m : Store) → perform a i x S m ≡ perform b i x S m
  unfolding perform
  perform_same (Call number) x S m = call_same number x S m
  perform_same (CallLink k) x S m = with_same _ _ m _ _ (bound_alike a b same x.instance k) (λ l. spend_same m _ _ (λ n. call_bound_same l x S n))
  perform_same Return x S m = return_same x S m
  perform_same (Raise k) x S m = with_same _ _ m _ _ (signal_alike a b same x.instance k) (λ s. raise_with_same (Own x.instance k) s.args x S m)
  perform_same (RaiseLink k) x S m =
      with_same _ _ m _ _ (link_alike a b same x.instance k) (λ l.
      with_same _ _ m _ _ (bound_alike a b same x.instance k) (λ t.
      with_each (signal_bound l.kind t) m _ _ (λ signal. raise_with_same signal l.args x S m)))
  perform_same (RaiseHost fault) x S m = with_each (host_signal fault) m _ _ (λ signal. raise_same a b same signal [] x S m)
  perform_same (Resume n) x S m = resume_same a b same n (popped n x.operands) x.role S m
  perform_same (Leave arms target) x S m = leave_same a b same (Some target) x.role S m
  perform_same (LeaveReturn arms) x S m = leave_same a b same None x.role S m
  perform_same _ x S m = refl

  worked_same : (i : Instruction) (w : Worked) (x : Active) (S : Activations) (m : Store) → worked a i w x S m ≡ worked b i w x S m
  unfolding worked
  worked_same i (Works w) x S m = refl
  worked_same i (Faults fault) x S m = raise_same a b same (fault_signal fault) [] x S m
  worked_same i Touches x S m = perform_same i x S m

  works_same : (i : Instruction) (x : Active) (S : Activations) (m : Store) → works_in a i x S m ≡ works_in b i x S m
  unfolding works_in
  works_same i x S m = λ j. works (λ n k. text_alike a b same n k j) (unwrap_or (number_alike a b same x.instance j) 0) i (work_of x S m)

  begin_same : (i : Instruction) (x : Active) (S : Activations) (m : Store) → begin a i x S m ≡ begin b i x S m
  unfolding begin
  begin_same i x S m = (λ j. worked a i (works_same i x S m j) x S (record m { begun = suc m.begun })) ∙ worked_same i _ x S _

  run_same : (S : Activations) (m : Store) → run a S m ≡ run b S m
  unfolding run
  run_same [] m = start_next_same m.control m
  run_same (x ∷ S) m = with_same _ _ m _ _ (instruction_alike a b same x) (λ i. begin_same i x S m)

  pub step_same : (s : State) → step a s ≡ step b s
  unfolding step
  step_same (Runs S m) = run_same S m
  step_same (Seeks signal args q search S m) = seek_same a b same signal args q search S m
  step_same (Leaves t search S m) = leave_step_same t search S m
