-- A step of a state that is traced leads to such a state: the ways in which an activation goes on, calls and returns.
use Rattle.std.proofs.Common.{◌≡◌, inl, inr, ℕ, zero, suc, ◌+◌, List, [], ◌∷◌, length, Bool, true, false, Option, Some, None, refl, sym, ap, subst, ◌∙◌}
use Rattle.std.specs.Prelude.{◌≢◌, nat_eq, nat_lt, ◌||◌, if◌then◌else◌}
use Rattle.std.proofs.lemmas.Bool.{false≢true, eq-eqb}
use Rattle.std.proofs.lemmas.Option.{same_Some}
use Rattle.code_forms.specs.declared.instruction.Instruction.{Instruction}
use Rattle.code_forms.specs.declared.instruction.Instruction.TheVariants.{CallLink}
use Rattle.code_forms.specs.declared.module_code.CodeProcedure.{CodeProcedure}
use Rattle.code_forms.specs.declared.module_code.Phrase.{Phrase}
use Rattle.code_forms.specs.Instructions.{bytes_of}
use Rattle.code_forms.specs.Routine.{routine, goes_on}
use Rattle.object_files.specs.declared.image.Image.{Image}
use Rattle.object_files.specs.declared.image.Link.{Link}
use Rattle.object_files.specs.declared.image.Link.TheVariants.{Wanted, To}
use Rattle.signaller.specs.declared.signal_id.SignalId.{SignalId}
use Rattle.signaller.specs.declared.signal_id.SignalId.TheVariants.{NoInput}
use Rattle.signaller.specs.Search.{search_at}
use Rattle.machine_rules.specs.Words.{on_top, push, under as operands_under}
use Rattle.machine_rules.specs.State.{Role, Frame, InArm, Active, Activations, Store, Stepped}
use Rattle.machine_rules.specs.LookUps.{called as procedure_called, bound_to, instruction_at, procedure_under, instruction_under, phrases_under, Host, WriteChar, WriteString, WriteDecimal, ReadChar, EndOfInput, host_of}
use Rattle.machine_rules.specs.Activations.{activation_at}
use Rattle.machine_rules.specs.Moves.{with, spend_of, spend, limit, enter, onward as goes_behind, give}
use Rattle.machine_rules.specs.Signals.{around, raise}
use Rattle.machine_rules.specs.Calls.{enter_frame, start, call, host_write, read_char, end_of_input, host, call_in, call_bound, pending, returned, return_of, return_from}
use Rattle.machine_rules.proofs.Arming.{phrases_are}
use Rattle.machine_rules.proofs.Calling.{calls_go}
use Rattle.machine_rules.proofs.Located.{World, Has, has as has_procedure}
use Rattle.machine_rules.proofs.Standing.{Bare, bare, bare_role, bares, bares_long, at_top, GoesOn, FrameOver, RoleFits, Stand}
use Rattle.survey_rules.specs.Escapes.{MayRaise, reads, linked, Comes, raised, position_of}
use Rattle.survey_rules.specs.Reached.{first, onward}
use Rattle.survey_rules.proofs.Codes.{has_code, code_there, under_at}
use Rattle.survey_rules.proofs.Tracing.{Reaches, RunsBy, Started, From, Trace, Named, Follows}

pub follows_with : {A : Type 0} (image : Image) (o : Option A) (m : Store) (k : A → Stepped) → ((x : A) → o ≡ Some x → Follows image (k x)) → Follows image (with o m k)
unfolding with
follows_with image None m k h = tt
follows_with image (Some x) m k h = h x refl

spent_follows : (image : Image) (n : ℕ) (m : Store) (k : Store → Stepped) → ((m1 : Store) → m1.control ≡ m.control → Follows image (k m1)) → Follows image (spend_of n m k)
unfolding spend_of
spent_follows image zero m k h = tt
spent_follows image (suc n) m k h = h _ refl

pub follows_spend : (image : Image) (m : Store) (k : Store → Stepped) → ((m1 : Store) → m1.control ≡ m.control → Follows image (k m1)) → Follows image (spend m k)
unfolding spend
follows_spend image m k h = spent_follows image m.turns m k h

pub follows_if : (image : Image) (b : Bool) (x y : Stepped) → (b ≡ true → Follows image x) → (b ≡ false → Follows image y) → Follows image (if b then x else y)
follows_if image true x y p q = p refl
follows_if image false x y p q = q refl

pub follows_top : (image : Image) (operands : List ℕ) (k : ℕ → List ℕ → Stepped) → ((x : ℕ) (rest : List ℕ) → Follows image (k x rest)) → Follows image (on_top operands k)
follows_top image [] k h = h 0 []
follows_top image (x ∷ rest) k h = h x rest

pub follows_enter : (image : Image) (a : Active) (S : Activations) (m : Store) → Trace image (bare a ∷ bares S) → Named image m.control → Follows image (enter a S m)
unfolding enter
follows_enter image a S m t c = follows_if image (nat_lt (length S) limit) _ _ (λ e. (t, c)) (λ e. tt)

-- The topmost activation.

pub bare_under : (image : Image) (a : Active) (i : Instruction) → instruction_under image a ≡ Some i → instruction_under image (bare a) ≡ Some i
unfolding instruction_under procedure_under
bare_under image a i e = e

pub still_under : (image : Image) (a : Bare) (operands : List ℕ) (i : Instruction) → instruction_under image a ≡ Some i → instruction_under image (record a { operands = operands }) ≡ Some i
unfolding instruction_under procedure_under
still_under image a operands i e = e

-- behind an instruction that goes on
pub onward_reached : (image : Image) → World image → (a : Bare) (i : Instruction) → GoesOn image a → instruction_under image a ≡ Some i → (operands : List ℕ) → Reaches image a
    → Reaches image (record a { offset = a.offset + bytes_of i; operands = operands })
onward_reached image w a i g is operands r = λ m p c.
    let at : instruction_at p.code a.offset ≡ Some i = under_at image a p i c.is_procedure is in
    let same : g.p ≡ p = same_Some g.p p (sym g.is ∙ c.is_procedure) in
    let there : instruction_at p.code a.offset ≡ Some g.i = subst (λ (q : CodeProcedure). instruction_at q.code a.offset ≡ Some g.i) same g.there in
    let goes : (h : Has image a.instance p) → goes_on (routine h.code p) g.i ≡ true =
    subst (λ (q : CodeProcedure). (h : Has image a.instance q) → goes_on (routine h.code q) g.i ≡ true) same g.goes in
    onward a.offset i (r m p c) at (subst (λ x. goes_on (routine m p) x ≡ true) (same_Some g.i i (sym there ∙ at)) (goes (has_code image w a.instance a.procedure m p c)))

pub follows_give : (image : Image) → World image → (n : ℕ) (words : List ℕ) (a : Active) (S : Activations) (m : Store) → GoesOn image (bare a) → Trace image (bares (a ∷ S))
    → Named image m.control → Follows image (give image n words (a ∷ S) m)
unfolding give goes_behind
follows_give image w n words a S m g t c = follows_with image _ m _ (λ i is. (
  (record { reaches = onward_reached image w (bare a) i g (bare_under image a i is) (push words (operands_under n a.operands)) (t.0).reaches; role = (t.0).role }, t.1),
  c,
))

pub still_from : (image : Image) (a : Bare) (B : List Bare) (operands : List ℕ) → From image a B → From image (record a { operands = operands }) B
still_from image a B operands f = record { reaches = f.reaches; role = f.role }

-- a raise seeks about the offset of an instruction that may raise it
pub follows_raise : (image : Image) → World image → (signal : SignalId) (args : List ℕ) (a : Active) (S : Activations) (m : Store) (i : Instruction)
    → instruction_under image (bare a) ≡ Some i → MayRaise image a.instance i signal → Stand image (bares (a ∷ S)) → Trace image (bares (a ∷ S)) → Named image m.control
    → Follows image (raise image signal args a S m)
unfolding raise around
follows_raise image w signal args a S m i is may s t c =
    let p = ((s.0).at).p in let of = ((s.0).at).is in
    let h = has_procedure image w a.instance a.procedure p of in
    let code = code_there image a.instance a.procedure p of h in
    let comes : Comes image signal a.instance a.procedure (position_of p a.offset) =
    raised a.instance a.procedure a.offset h.code p i code (record { reached = (t.0).reaches h.code p code; is = under_at image (bare a) p i of is }) may in
    let top : activation_at (bares (a ∷ S)) (length S) ≡ Some (bare a) =
    subst (λ n. activation_at (bares (a ∷ S)) n ≡ Some (bare a)) (bares_long S) (at_top (bare a) (bares S)) in
    follows_spend image m _ (λ m1 same. (
      t,
      subst (λ k. Named image k) (sym same) c,
      λ b at. subst (λ (x : Bare). Comes image signal x.instance x.procedure (search_at true (phrases_under image a) a.offset).phrase) (same_Some (bare a) b (sym top ∙ at))
          (subst (λ (x : List Phrase). Comes image signal a.instance a.procedure (search_at true x a.offset).phrase) (sym (phrases_are image a p of)) comes),
    ))

-- Calls.

follows_frame : (image : Image) (j number : ℕ) (p : CodeProcedure) (args : List ℕ) (S : Activations) (m : Store) → Started image j number (bares S) → Trace image (bares S)
    → Named image m.control → Follows image (enter_frame j number p args S m)
unfolding enter_frame
follows_frame image j number p args S m r t c = follows_enter image _ S m (record { reaches = λ k q x. first; role = r }, t) c

pub follows_start : (image : Image) (j : ℕ) (S : Activations) (m : Store) → Started image j 0 (bares S) → Trace image (bares S) → Named image m.control
    → Follows image (start image j S m)
unfolding start
follows_start image j S m r t c =
    follows_with image _ m _ (λ body e. follows_spend image _ _ (λ m1 same. follows_frame image j 0 body [] S m1 r t (subst (λ k. Named image k) (sym same) c)))

pub follows_call : (image : Image) (j number : ℕ) (p : CodeProcedure) (a : Active) (S : Activations) (m : Store) → RunsBy image (bare a) j number → Trace image (bares (a ∷ S))
    → Named image m.control → Follows image (call j number p a S m)
unfolding call
follows_call image j number p a S m r t c =
    follows_frame image j number p _ _ m (record { i = r.i; is = still_under image (bare a) _ r.i r.is; called = r.called; calls = r.calls; run = r.run })
    (still_from image (bare a) (bares S) _ t.0, t.1) c

not_same : (i j : ℕ) (b : Bool) → (nat_eq i j || b) ≡ false → j ≢ i
not_same i j b e same = false≢true (sym e ∙ ap (λ x. x || b) (eq-eqb i j (sym same)))

module _ (image : Image) (w : World image) where
  follows_call_in : (j number k : ℕ) (p : CodeProcedure) (a : Active) (S : Activations) (m : Store) → instruction_under image (bare a) ≡ Some (CallLink k)
      → bound_to image a.instance k ≡ Some (To j number) → Trace image (bares (a ∷ S)) → Named image m.control → Follows image (call_in image j number p a S m)
  unfolding call_in
  follows_call_in j number k p a S m is bound t c = follows_if image _ _ _
      (λ e. follows_call image j number p a S m (record { i = CallLink k; is = is; called = number; calls = linked k j number bound; run = inl refl }) t c)
      (λ e. follows_start image j (a ∷ S) m (record {
        i = CallLink k;
        is = is;
        called = number;
        calls = linked k j number bound;
        run = inr (not_same a.instance j (m.started j) e, refl);
      }) t c)

  goes_call : (a : Active) (S : Activations) (k : ℕ) → Stand image (bares (a ∷ S)) → instruction_under image (bare a) ≡ Some (CallLink k) → GoesOn image (bare a)
  goes_call a S k s is =
      let f = (s.0).at in
      calls_go image (bare a) (record { p = f.p; is = f.is; link = k; there = under_at image (bare a) f.p (CallLink k) f.is is })

  follows_write : (n : ℕ) (text : List ℕ) (a : Active) (S : Activations) (m : Store) → GoesOn image (bare a) → Trace image (bares (a ∷ S)) → Named image m.control
      → Follows image (host_write image n text (a ∷ S) m)
  unfolding host_write
  follows_write n text a S m g t c = follows_give image w n [] a S _ g t c

  follows_read : (input : List ℕ) (a : Active) (S : Activations) (m : Store) (k n : ℕ) → instruction_under image (bare a) ≡ Some (CallLink k)
      → bound_to image a.instance k ≡ Some (Wanted n) → host_of image n ≡ Some ReadChar → Stand image (bares (a ∷ S)) → Trace image (bares (a ∷ S)) → Named image m.control
      → Follows image (read_char image input a S m)
  unfolding read_char
  follows_read (byte ∷ rest) a S m k n is bound of s t c = follows_give image w 0 _ a S _ (goes_call a S k s is) t c
  follows_read [] a S m k n is bound of s t c =
      follows_if image m.faulty _ _ (λ e. tt) (λ e. follows_raise image w NoInput [] a S m (CallLink k) is (reads k n bound of) s t c)

  follows_peek : (input : List ℕ) (a : Active) (S : Activations) (m : Store) → GoesOn image (bare a) → Trace image (bares (a ∷ S)) → Named image m.control
      → Follows image (end_of_input image input a S m)
  unfolding end_of_input
  follows_peek (byte ∷ rest) a S m g t c = follows_give image w 0 _ a S m g t c
  follows_peek [] a S m g t c = follows_if image m.faulty _ _ (λ e. tt) (λ e. follows_give image w 0 _ a S m g t c)

  follows_host : (h : Host) (a : Active) (S : Activations) (m : Store) (k n : ℕ) → instruction_under image (bare a) ≡ Some (CallLink k)
      → bound_to image a.instance k ≡ Some (Wanted n) → host_of image n ≡ Some h → Stand image (bares (a ∷ S)) → Trace image (bares (a ∷ S)) → Named image m.control
      → Follows image (host image h a S m)
  unfolding host
  follows_host WriteChar a S m k n is bound of s t c = follows_top image a.operands _ (λ x rest. follows_write 1 _ a S m (goes_call a S k s is) t c)
  follows_host WriteString a S m k n is bound of s t c =
      follows_top image a.operands _ (λ x rest. follows_top image rest _ (λ y more. follows_write 2 _ a S m (goes_call a S k s is) t c))
  follows_host WriteDecimal a S m k n is bound of s t c = follows_top image a.operands _ (λ x rest. follows_write 1 _ a S m (goes_call a S k s is) t c)
  follows_host ReadChar a S m k n is bound of s t c = follows_read m.input a S m k n is bound of s t c
  follows_host EndOfInput a S m k n is bound of s t c = follows_peek m.input a S m (goes_call a S k s is) t c

  pub follows_bound : (l : Link) (k : ℕ) (a : Active) (S : Activations) (m : Store) → instruction_under image (bare a) ≡ Some (CallLink k) → bound_to image a.instance k ≡ Some l
      → Stand image (bares (a ∷ S)) → Trace image (bares (a ∷ S)) → Named image m.control → Follows image (call_bound image l a S m)
  unfolding call_bound
  follows_bound (Wanted n) k a S m is bound s t c = follows_with image (host_of image n) m _ (λ h of. follows_host h a S m k n is bound of s t c)
  follows_bound (To j number) k a S m is bound s t c = follows_with image (procedure_called image j number) m _ (λ p e. follows_call_in j number k p a S m is bound t c)

  -- Returns.

  follows_pending : (i : Instruction) (a : Active) (S : Activations) (m : Store) → instruction_under image (bare a) ≡ Some i → Stand image (bares (a ∷ S))
      → Trace image (bares (a ∷ S)) → Named image m.control → Follows image (pending image i a S m)
  unfolding pending
  follows_pending (CallLink k) a S m is s t c = follows_with image (bound_to image a.instance k) m _ (λ l e. follows_bound l k a S m is e s t c)
  follows_pending _ a S m is s t c = tt

  follows_returned : (number : ℕ) (results : List ℕ) (S : Activations) (m : Store) → FrameOver image number (bares S) → Stand image (bares S) → Trace image (bares S)
      → Named image m.control → Follows image (returned image number results S m)
  unfolding returned
  follows_returned zero results [] m over s t c = (tt, c)
  follows_returned (suc number) results [] m over s t c = (tt, c)
  follows_returned zero results (a ∷ S) m over s t c =
      follows_with image (instruction_under image a) m _ (λ i is. follows_pending i a S m (bare_under image a i is) s t c)
  follows_returned (suc number) results (a ∷ S) m over s t c = follows_give image w 0 results a S m over t c

  return_role : (p q : CodeProcedure) (a : Active) (role : Role (List ℕ)) (S : Activations) (m : Store) → RoleFits image a.instance a.procedure q (bare_role role) (bares S)
      → Stand image (bares S) → Trace image (bares S) → Named image m.control → Follows image (return_of image p a role S m)
  unfolding return_of
  return_role p q a (Frame variables) S m over s t c = follows_returned a.procedure _ S m over s t c
  return_role p q a (InArm own n why) S m over s t c = tt

  pub follows_return : (a : Active) (S : Activations) (m : Store) → Stand image (bares (a ∷ S)) → Trace image (bares (a ∷ S)) → Named image m.control
      → Follows image (return_from image a S m)
  unfolding return_from
  follows_return a S m s t c = follows_with image (procedure_under image a) m _ (λ p e. return_role p ((s.0).at).p a a.role S m (s.0).over s.1 t.1 c)
