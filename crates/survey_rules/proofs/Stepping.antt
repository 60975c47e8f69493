-- A step of a state that is traced leads to such a state, or ends with a signal that may escape.
use Rattle.std.proofs.Common.{◌≡◌, ⊎_elim, inl, ℕ, List, [], ◌∷◌, true, Some, None, refl, sym, ap, subst, ◌∙◌}
use Rattle.std.specs.Prelude.{nat_eq}
use Rattle.std.proofs.lemmas.Bool.{false≢true}
use Rattle.std.proofs.lemmas.Option.{none-some, same_Some}
use Rattle.code_forms.specs.declared.instruction.Instruction.{Instruction}
use Rattle.code_forms.specs.declared.instruction.Instruction.TheVariants.{Jump, JumpIf, JumpIfNot, JumpBack, Call, CallLink, Return, Raise, RaiseLink, RaiseHost, ArmEnd, Resume, Leave, LeaveReturn}
use Rattle.code_forms.specs.declared.module_code.CodeKind.{CodeKind}
use Rattle.code_forms.specs.declared.module_code.CodeKind.TheVariants as kind
use Rattle.code_forms.specs.Routine.{routine, goes_on}
use Rattle.object_files.specs.declared.image.Image.{Image}
use Rattle.object_files.specs.declared.image.Link.{Link}
use Rattle.object_files.specs.declared.image.Link.TheVariants.{Wanted, To}
use Rattle.signaller.specs.declared.signal_id.SignalId.{SignalId}
use Rattle.signaller.specs.declared.signal_id.SignalId.TheVariants.{Own, NoInput}
use Rattle.machine_rules.specs.Working.{Work, Worked, Works, Faults, Touches, works}
use Rattle.machine_rules.specs.State.{ForRaise, ForJump, Role, Frame, InArm, Active, Activations, Store, State, Runs, Seeks, Leaves}
use Rattle.machine_rules.specs.LookUps.{called as procedure_called, bound_to, signal_bound, instruction_under}
use Rattle.machine_rules.specs.Activations.{own_frame}
use Rattle.machine_rules.specs.Moves.{onward as goes_behind, go_to}
use Rattle.machine_rules.specs.Calls.{start_next}
use Rattle.machine_rules.specs.Steps.{raise_with, host_signal, perform, fault_signal, worked, works_in, begin, run, step}
use Rattle.machine_rules.proofs.Going.{Good, held_still}
use Rattle.machine_rules.proofs.Located.{World, Has}
use Rattle.machine_rules.proofs.Onward.{works_or_touches, is_touch}
use Rattle.machine_rules.proofs.Standing.{Bare, bare, bares, set_bares, GoesOn, Stand}
use Rattle.survey_rules.specs.Escapes as rule
use Rattle.survey_rules.specs.Escapes.{MayRaise}
use Rattle.survey_rules.specs.Reached.{LeadsTo, jumped}
use Rattle.survey_rules.proofs.Arms.{follows_seek, Rejects, follows_reject, follows_resume}
use Rattle.survey_rules.proofs.Codes.{under_at}
use Rattle.survey_rules.proofs.Faults.{fault_raised}
use Rattle.survey_rules.proofs.Following.{follows_with, follows_spend, follows_if, follows_top, bare_under, still_under, onward_reached, still_from, follows_raise, follows_start, follows_call, follows_bound, follows_return}
use Rattle.survey_rules.proofs.Jumps.{follows_go, follows_leave, follows_leave_step}
use Rattle.survey_rules.proofs.Tracing.{Reaches, Trace, Named, Traced, Follows}

jump_reached : (image : Image) (a : Bare) (i : Instruction) (target : ℕ) → instruction_under image a ≡ Some i → LeadsTo i target → Reaches image a
    → Reaches image (record a { offset = target })
jump_reached image a i target is leads r = λ m p c. jumped a.offset target i (r m p c) (under_at image a p i c.is_procedure is) leads

link_raised : (image : Image) (j k : ℕ) (kind' : CodeKind) (b : Link) → bound_to image j k ≡ Some b → (signal : SignalId) → signal_bound kind' b ≡ Some signal
    → MayRaise image j (RaiseLink k) signal
unfolding signal_bound
link_raised image j k kind.Procedure b e signal means = absurd (none-some signal means)
link_raised image j k kind.Signal (Wanted n) e signal means = subst (λ s. MayRaise image j (RaiseLink k) s) (same_Some NoInput signal means) (rule.wanted k n e)
link_raised image j k kind.Error (Wanted n) e signal means = subst (λ s. MayRaise image j (RaiseLink k) s) (same_Some NoInput signal means) (rule.wanted k n e)
link_raised image j k kind.Signal (To i n) e signal means = subst (λ s. MayRaise image j (RaiseLink k) s) (same_Some (Own i n) signal means) (rule.linked k i n e)
link_raised image j k kind.Error (To i n) e signal means = subst (λ s. MayRaise image j (RaiseLink k) s) (same_Some (Own i n) signal means) (rule.linked k i n e)

module _ (image : Image) (w : World image) where
  goes_plain : (a : Active) (S : Activations) (i : Instruction) → (s : Stand image (bares (a ∷ S))) → instruction_under image (bare a) ≡ Some i
      → ((h : Has image a.instance ((s.0).at).p) → goes_on (routine h.code ((s.0).at).p) i ≡ true) → GoesOn image (bare a)
  goes_plain a S i s is g =
      let f = (s.0).at in record { p = f.p; is = f.is; i = i; there = under_at image (bare a) f.p i f.is is; goes = g }

  follows_onward : (i : Instruction) (operands : List ℕ) (a : Active) (S : Activations) (m : Store) → GoesOn image (bare a) → instruction_under image (bare a) ≡ Some i
      → Trace image (bares (a ∷ S)) → Named image m.control → Follows image (goes_behind i operands a S m)
  unfolding goes_behind
  follows_onward i operands a S m g is t c =
      ((record { reaches = onward_reached image w (bare a) i g is operands (t.0).reaches; role = (t.0).role }, t.1), c)

  follows_target : (i : Instruction) (target : ℕ) (operands : List ℕ) (a : Active) (S : Activations) (m : Store) → LeadsTo i target → instruction_under image (bare a) ≡ Some i
      → Trace image (bares (a ∷ S)) → Named image m.control → Follows image (go_to target operands a S m)
  follows_target i target operands a S m leads is t c = follows_go image w target operands a S m (jump_reached image (bare a) i target is leads (t.0).reaches) t c

  follows_raise_with : (signal : SignalId) (n : ℕ) (i : Instruction) (a : Active) (S : Activations) (m : Store) → instruction_under image (bare a) ≡ Some i
      → MayRaise image a.instance i signal → Stand image (bares (a ∷ S)) → Trace image (bares (a ∷ S)) → Named image m.control → Follows image (raise_with image signal n a S m)
  unfolding raise_with
  follows_raise_with signal n i a S m is may s t c =
      follows_raise image w signal _ _ S m i (still_under image (bare a) _ i is) may (held_still image (bare a) (bares S) _ s.0, s.1) (still_from image (bare a) (bares S) _ t.0, t.1) c

  end_rejects : (role : Role (List ℕ)) → Rejects image w ArmEnd role
  end_rejects (Frame variables) = tt
  end_rejects (InArm own n (ForRaise signal args after)) = inl refl
  end_rejects (InArm own n (ForJump target after)) = tt

  same_named : (m m1 : Store) → m1.control ≡ m.control → Named image m.control → Named image m1.control
  same_named m m1 e c = subst (λ k. Named image k) (sym e) c

  follows_perform : (i : Instruction) (a : Active) (S : Activations) (m : Store) → instruction_under image (bare a) ≡ Some i → Stand image (bares (a ∷ S))
      → Trace image (bares (a ∷ S)) → Named image m.control → Follows image (perform image i a S m)
  unfolding perform
  follows_perform (Jump target) a S m is s t c = follows_target (Jump target) target _ a S m refl is t c
  follows_perform (JumpIf target) a S m is s t c = follows_top image a.operands _ (λ x rest. follows_if image (nat_eq x 0) _ _
      (λ e. follows_onward (JumpIf target) rest a S m (goes_plain a S (JumpIf target) s is (λ h. refl)) is t c)
      (λ e. follows_target (JumpIf target) target rest a S m refl is t c))
  follows_perform (JumpIfNot target) a S m is s t c = follows_top image a.operands _ (λ x rest. follows_if image (nat_eq x 0) _ _
      (λ e. follows_target (JumpIfNot target) target rest a S m refl is t c)
      (λ e. follows_onward (JumpIfNot target) rest a S m (goes_plain a S (JumpIfNot target) s is (λ h. refl)) is t c))
  follows_perform (JumpBack target) a S m is s t c =
      follows_spend image m _ (λ m1 same. follows_target (JumpBack target) target _ a S m1 refl is t (same_named m m1 same c))
  follows_perform (Call number) a S m is s t c = follows_with image (procedure_called image a.instance number) m _ (λ p e. follows_spend image m _ (λ m1 same.
      follows_call image a.instance number p a S m1 (record { i = Call number; is = is; called = number; calls = rule.own number; run = inl refl }) t (same_named m m1 same c)))
  follows_perform (CallLink k) a S m is s t c = follows_with image (bound_to image a.instance k) m _ (λ l e. follows_spend image m _ (λ m1 same.
      follows_bound image w l k a S m1 is e s t (same_named m m1 same c)))
  follows_perform Return a S m is s t c = follows_return image w a S m s t c
  follows_perform (Raise k) a S m is s t c = follows_with image _ m _ (λ x e. follows_raise_with (Own a.instance k) x.args (Raise k) a S m is (rule.own k) s t c)
  follows_perform (RaiseLink k) a S m is s t c = follows_with image _ m _ (λ l e. follows_with image (bound_to image a.instance k) m _ (λ b bound.
      follows_with image (signal_bound l.kind b) m _ (λ signal means.
      follows_raise_with signal l.args (RaiseLink k) a S m is (link_raised image a.instance k l.kind b bound signal means) s t c)))
  follows_perform (RaiseHost fault) a S m is s t c =
      follows_with image (host_signal fault) m _ (λ signal e. follows_raise image w signal [] a S m (RaiseHost fault) is (rule.hosts fault signal e) s t c)
  follows_perform ArmEnd a S m is s t c = follows_reject image w a S m ArmEnd is (end_rejects a.role) s t c
  follows_perform (Resume n) a S m is s t c = follows_resume image w a S m n _ is s t c
  follows_perform (Leave arms target) a S m is s t c = follows_leave image w (Some target) a S m
      (λ offset e. jump_reached image (bare a) (Leave arms target) offset is (same_Some target offset e) (t.0).reaches) s t c
  follows_perform (LeaveReturn arms) a S m is s t c = follows_leave image w None a S m (λ offset e. absurd (none-some offset e)) s t c
  follows_perform _ a S m is s t c = tt

  follows_worked : (i : Instruction) (a : Active) (S : Activations) (m : Store) → instruction_under image (bare a) ≡ Some i → Stand image (bares (a ∷ S))
      → Trace image (bares (a ∷ S)) → Named image m.control → (texts : ℕ → ℕ → List ℕ) (number : ℕ) (x : Work) (y : Worked) → works texts number i x ≡ y
      → Follows image (worked image i y a S m)
  unfolding worked
  follows_worked i a S m is s t c texts number x (Works y) e =
      let f = (s.0).at in
      let goes : GoesOn image (bare a) = record {
        p = f.p;
        is = f.is;
        i = i;
        there = under_at image (bare a) f.p i f.is is;
        goes = λ h. ⊎_elim (λ (g : goes_on (routine h.code f.p) i ≡ true). g)
            (λ (g : works texts number i x ≡ Touches). absurd (false≢true (ap is_touch (sym e ∙ g)))) (works_or_touches texts number (routine h.code f.p) i x);
      } in (
        subst (λ B. Trace image B) (sym (set_bares _ (own_frame a S) y.variables))
            (record { reaches = onward_reached image w (bare a) i goes is y.operands (t.0).reaches; role = (t.0).role }, t.1),
        c,
      )
  follows_worked i a S m is s t c texts number x (Faults fault) e =
      follows_raise image w (fault_signal fault) [] a S m i is (fault_raised texts number i x fault e image a.instance) s t c
  follows_worked i a S m is s t c texts number x Touches e = follows_perform i a S m is s t c

  follows_control : (control : List ℕ) (m : Store) → Named image control → Follows image (start_next image control m)
  unfolding start_next
  follows_control [] m c = tt
  follows_control (j ∷ rest) m c = follows_if image (m.started j) _ _ (λ e. (tt, c.1)) (λ e. follows_start image j [] _ (refl, c.0) tt c.1)

  follows_run : (S : Activations) (m : Store) → Stand image (bares S) → Trace image (bares S) → Named image m.control → Follows image (run image S m)
  unfolding run begin works_in
  follows_run [] m s t c = follows_control m.control m c
  follows_run (a ∷ S) m s t c =
      follows_with image (instruction_under image a) m _ (λ i is. follows_worked i a S _ (bare_under image a i is) s t c _ _ _ _ refl)

  pub follows_step : (x : State) → Good image x → Traced image x → Follows image (step image x)
  unfolding step
  follows_step (Runs S m) g t = follows_run S m g.0 t.0 t.1
  follows_step (Seeks signal args q search S m) g t = follows_seek image w signal args q search S m g.0 t.0 t.1 t.2
  follows_step (Leaves target search S m) g t = follows_leave_step image w target search S m t.2 t.3 g.0 t.0 t.1
