-- A procedure's body runs in a new frame, to its return, or out of it.
use Rattle.std.proofs.Common.{◌≡◌, ⊎_elim, ℕ, ◌-◌, List, [], ◌∷◌, ◌++◌, length, Bool, true, false, Some, refl, sym, ap, ◌∙◌, subst, arith}
use Rattle.std.specs.Prelude.{nat_eq, if◌then◌else◌}
use Rattle.std.proofs.lemmas.Bool.{eq-eqb, eqb-true, false≢true}
use Rattle.std.proofs.lemmas.Option.{none-some}
use Rattle.mesa_types.specs.Typed.{Point, Start, After, At, Leave}
use Rattle.mesa_types.specs.Counts.{hidden}
use Rattle.mesa_types.specs.Plain.{kinds_of}
use Rattle.mesa_types.specs.Sound.{IsForRaises, scope_of}
use Rattle.code_forms.specs.declared.instruction.Instruction.TheVariants.{Return}
use Rattle.source_meaning.specs.Value.{Values}
use Rattle.source_meaning.specs.State.{State, Answer, Normal, Gives, Go, Resumed, Rejected, Retried, Continued, Uncaught, Spent, FrameLimit, Broken, Result, Run, give, after, carry, look, change, leave, branch, body_end, body_end_of}
use Rattle.source_meaning.specs.Variables.{Enabled, in_frame, add_frame}
use Rattle.source_meaning.specs.Calls.{run_procedure}
use Rattle.source_meaning.specs.State.{ProcedureId}
use Rattle.source_meaning.proofs.Standing.{nothing_is_left_standing}
use Rattle.machine_rules.specs.State.{Target, Frame, Active, Store, Runs, Leaves, Stepped, Goes}
use Rattle.machine_rules.specs.Words.{zeros, words_at}
use Rattle.machine_rules.specs.LookUps.{procedure_under, phrases_under}
use Rattle.machine_rules.specs.Activations.{own_frame}
use Rattle.signaller.specs.Search.{unwind_next}
use Rattle.machine_rules.specs.Moves.{with}
use Rattle.machine_rules.specs.Calls.{enter_frame, returned, return_of, return_from}
use Rattle.machine_rules.specs.Leaving.{arrived, dropped, unwound, leave_step}
use Rattle.machine_rules.specs.Steps.{step, perform}
use Rattle.machine_rules.specs.Working.{works}
use Rattle.code_rules.specs.Reading.{Coded, at_body}
use Rattle.agreement_rules.specs.Layout.{Show}
use Rattle.agreement_rules.specs.Reaches.{Reaches}
use Rattle.agreement_rules.proofs.Lifted.{reaches_on}
use Rattle.agreement_laws.specs.World.{World, CodeOf, texts_of, meant_procedure}
use Rattle.agreement_laws.specs.Standing.{Standing, at, bare, Frames, filled, fill}
use Rattle.agreement_laws.specs.Relation.{Hold, Ground, Agreed, standing}
use Rattle.agreement_laws.specs.Chains.{Dictionary, Floor}
use Rattle.agreement_laws.specs.Answers.{OnItsWay, has_arrived, passes, Jumps, Ended, Done}
use Rattle.agreement_laws.specs.Promises.{next, NextFollows}
use Rattle.agreement_laws.proofs.Arms.{own_stands}
use Rattle.agreement_laws.proofs.Control.{IsControl, begun_more, agreed_begun}
use Rattle.agreement_laws.proofs.Going.{reaches_step, done_later}
use Rattle.agreement_laws.proofs.Opening.{back, frame_here, Over, E, none_yet, leave_cases, none_held, frame_ground, frame_site, frame_context, body_code, body_inside, frame_agrees}
use Rattle.agreement_laws.proofs.Raising.{performed, ended_left}
use Rattle.agreement_laws.proofs.Spending.{enter_on}
use Rattle.agreement_laws.proofs.Stacks.{fill_long, fill_other, with_words, words_here}

return_is : IsControl Return
unfolding works
return_is texts number v = refl

-- the answers that end the run
abbrev pub IsEnd : Answer → Type 0
IsEnd Normal = ⊥
IsEnd (Gives vs) = ⊥
IsEnd (Go f p) = ⊥
IsEnd (Resumed vs) = ⊥
IsEnd Rejected = ⊥
IsEnd (Retried n) = ⊥
IsEnd (Continued n) = ⊥
IsEnd (Uncaught s) = Unit {0}
IsEnd Spent = Unit {0}
IsEnd FrameLimit = Unit {0}
IsEnd Broken = Unit {0}

-- What is wanted: Q, of the results, of ends of the run, and of jumps out of the frame. The results are the words that the machine
-- returns to what stands below.
pub record Wanted (W : World) (n : ℕ) (S : Standing) (H : Hold) (control : List ℕ) (D : Dictionary) (p : ProcedureId) (C : Coded) (c : CodeOf W p C)
    (end : (frame : ℕ) → Run) (started : ℕ → Bool) (Q : Stepped → Result → Type 0) : Type 0 where
  pub ends : (f : ℕ) (s : Stepped) (μ : Frames) (m : Store) (σ : State) → ((i : ℕ) → started i ≡ true → σ.store.started i ≡ true)
      → Agreed W n control H (frame_here p f ∷ bare S) μ m σ
      → Reaches W.image s (returned W.image p.number (words_at (μ f) c.procedure.args c.procedure.results) (fill μ S) m) → Q s (leave (end f σ))
  pub out : (s : Stepped) (a : Answer) (σ : State) → IsEnd a → Ended W a s σ → Q s (record { answer = a; state = σ })
  pub jumped : (f : ℕ) (s : Stepped) (g : ℕ) (l : Point) (σ : State) (t : Target) → D g l ≡ Some t → (μ : Frames) (m : Store)
      → Agreed W n control H (frame_here p f ∷ bare S) μ m σ → (y : Stepped)
      → OnItsWay W (record { here = frame_here p f; below = S; hold = H; control = control }) [] t μ m y
      → Reaches W.image s y → Q s (record { answer = Go g l; state = record σ { standing = σ.standing - 1 } })

module _ (W : World) (n : ℕ) (ih : NextFollows W n) (S : Standing) (H : Hold) (control : List ℕ) (D : Dictionary) (F : Floor) (chain : List Enabled)
    (p : ProcedureId) (C : Coded) (c : CodeOf W p C) (end : (frame : ℕ) → Run) (started : ℕ → Bool) (Q : Stepped → Result → Type 0)
    (wanted : Wanted W n S H control D p C c end started Q) where
  -- what was started stays so
  abbrev Stays : State → Type 0
  Stays σ = (i : ℕ) → started i ≡ true → σ.store.started i ≡ true

  module _ (f : ℕ) (over : Over W S H D F f chain p) where
    abbrev G : Ground
    G = frame_ground W S H D F f chain p over control C c

    abbrev dictionary : Dictionary
    dictionary = E W S H D F f chain p over

    returns_results : (μ : Frames) (o : ℕ) (operands : List ℕ) (m : Store)
        → return_from W.image (filled μ (at (frame_here p f) o operands)) (fill μ S) m
        ≡ returned W.image p.number (words_at (μ f) c.procedure.args c.procedure.results) (fill μ S) m
    unfolding return_from return_of with procedure_under
    returns_results μ o operands m =
        ap (λ x. with x m λ y. return_of W.image y (filled μ (at (frame_here p f) o operands)) (Frame (μ f)) (fill μ S) m) c.is_there

    ended : (s : Stepped) (μ : Frames) (o : ℕ) (operands : List ℕ) (m : Store) (σ : State) → Stays σ
        → Agreed W n control H (frame_here p f ∷ bare S) μ m σ
        → Reaches W.image s (return_from W.image (filled μ (at (frame_here p f) o operands)) (fill μ S) m) → Q s (leave (end f σ))
    ended s μ o operands m σ stays h r = wanted.ends f s μ m σ stays h (subst (λ x. Reaches W.image s x) (returns_results μ o operands m) r)

    -- a jump has come to the return
    leaves_by : (s : Stepped) (t : Target) (μ : Frames) (m : Store) (σ : State) → Stays σ
        → Agreed W n control H (frame_here p f ∷ bare S) μ m σ
        → t ≡ back (length (bare S)) → (y : Stepped) → OnItsWay W G [] t μ m y → Reaches W.image s y → Q s (leave (end f σ))
    unfolding arrived step leave_step
    leaves_by s t μ m σ stays h is y (has_arrived o operands e) r =
        ended s μ o operands m σ stays h
        (subst (λ (x : Target). Reaches W.image s (arrived W.image x.goal (filled μ (at (frame_here p f) o operands)) (fill μ S) m)) is r)
    leaves_by s t μ m σ stays h is y (passes search o operands e) r =
        let a = filled μ (at (frame_here p f) o operands) in
        let there : nat_eq (length (fill μ S)) t.place ≡ true =
        eq-eqb (length (fill μ S)) t.place (fill_long μ S ∙ ap (λ (x : Target). x.place) (sym is)) in
        ended s μ o operands m σ stays h
        (subst (λ (x : Target). Reaches W.image s (arrived W.image x.goal a (fill μ S) m)) is
        (reaches_on W.image s _ _ r (reaches_step W.image (Leaves t search (a ∷ fill μ S) m) _
        (ap (λ b. if b then arrived W.image t.goal a (fill μ S) m else (if nat_eq (own_frame a (fill μ S)) t.owner then dropped W.image t a.role (fill μ S) m
        else unwound W.image t a (unwind_next (phrases_under W.image a) search) (fill μ S) m)) there))))

    went_out : (s : Stepped) (g : ℕ) (l : Point) (σ : State) (j : Jumps W n G dictionary [] s g l σ) → D g l ≡ Some j.target
        → Q s (record { answer = Go g l; state = record σ { standing = σ.standing - 1 } })
    went_out s g l σ j e = wanted.jumped f s g l σ j.target e j.frames j.store j.agrees j.on_way j.is_on_way j.reaches

    went : (s : Stepped) (g : ℕ) (l : Point) (σ : State) → Stays σ → Jumps W n G dictionary [] s g l σ → Q s (leave (body_end_of f (end f) (Go g l) σ))
    unfolding leave body_end_of give branch
    went s g (Start k) σ stays j = ⊎_elim (λ x. absurd (let y = x.1 in let z : ⊥ = cc in z)) (λ x. went_out s g (Start k) σ j x)
        (leave_cases W S H D F f chain p over g (Start k) j.target j.found)
    went s g (After k) σ stays j = ⊎_elim (λ x. absurd (let y = x.1 in let z : ⊥ = cc in z)) (λ x. went_out s g (After k) σ j x)
        (leave_cases W S H D F f chain p over g (After k) j.target j.found)
    went s g (At k) σ stays j = ⊎_elim (λ x. absurd (let y = x.1 in let z : ⊥ = cc in z)) (λ x. went_out s g (At k) σ j x)
        (leave_cases W S H D F f chain p over g (At k) j.target j.found)
    went s g Leave σ stays j = by (nat_eq f g) refl
      where
        by : (b : Bool) → nat_eq f g ≡ b → Q s (leave (branch b (end f) (give (Go g Leave)) σ))
        by true b = ⊎_elim
            (λ x. leaves_by s j.target j.frames j.store σ stays j.agrees x.2 j.on_way j.is_on_way j.reaches)
            (λ x. absurd (none-some j.target (sym (none_yet W S H D F f chain p over Leave) ∙ ap (λ k. D k Leave) (eqb-true f g b) ∙ x)))
            (leave_cases W S H D F f chain p over g Leave j.target j.found)
        by false b = ⊎_elim
            (λ x. absurd (false≢true (sym b ∙ eq-eqb f g (sym x.0))))
            (λ x. went_out s g Leave σ j x)
            (leave_cases W S H D F f chain p over g Leave j.target j.found)

    -- the body has run
    body_done : (s : Stepped) (a : Answer) (σ : State) → Stays σ → Done W n (frame_site W S H D F f chain p over control C c) [] (body_code W p C c).end s a σ
        → Q s (leave (body_end_of f (end f) a σ))
    unfolding leave body_end_of give IsForRaises scope_of perform
    body_done s Normal σ stays h =
        let o = (body_code W p C c).end in
        ended s h.frames o [] (begun_more h.store) σ stays (agreed_begun W n G h.frames h.store σ h.agrees)
        (reaches_on W.image s _ _ h.reaches
        (performed W G C c h.frames h.store o [] Return (own_stands (body_code W p C c).returns) return_is))
    body_done s (Gives vs) σ stays h = absurd h
    body_done s (Go g l) σ stays h = went s g l σ stays h.1
    body_done s (Resumed vs) σ stays h = absurd h.in_arm
    body_done s Rejected σ stays h = absurd (let x = h.in_arm in omega (arith, x))
    body_done s (Retried k) σ stays h = absurd h.in_arm
    body_done s (Continued k) σ stays h = absurd h.in_arm
    body_done s (Uncaught x) σ stays h = wanted.out s (Uncaught x) (record σ { standing = σ.standing - 1 }) tt (ended_left W (Uncaught x) s σ (σ.standing - 1) h)
    body_done s Spent σ stays h = wanted.out s Spent (record σ { standing = σ.standing - 1 }) tt (ended_left W Spent s σ (σ.standing - 1) h)
    body_done s FrameLimit σ stays h = wanted.out s FrameLimit (record σ { standing = σ.standing - 1 }) tt (ended_left W FrameLimit s σ (σ.standing - 1) h)
    body_done s Broken σ stays h = wanted.out s Broken (record σ { standing = σ.standing - 1 }) tt (ended_left W Broken s σ (σ.standing - 1) h)

  abbrev entering : List ℕ → Active
  entering words = record { instance = p.instance; procedure = p.number; offset = 0; operands = []; role = Frame words }

  -- a frame is made, with these arguments
  pub procedure_runs : (s : Stepped) (μ : Frames) (m : Store) (σ : State) (vs : Values) (words : List ℕ)
      → Show (texts_of W) (kinds_of (meant_procedure W p).head.takes) vs words → Over W S H D F σ.store.fresh chain p → Stays σ
      → Agreed W n control H (bare S) μ m σ → Reaches W.image s (enter_frame p.instance p.number c.procedure words (fill μ S) m)
      → Q s (run_procedure W.program (next W n) p.instance p.number chain vs end σ)
  unfolding run_procedure enter_frame in_frame look change body_end after carry give add_frame
  procedure_runs s μ m σ vs words shown over stays h r =
      let f = σ.store.fresh in
      let k = c.procedure.frame - length words in
      let new = words ++ zeros k in
      let ν = with_words μ f new in
      enter_on W n control H (bare S) Q s (entering new) (fill μ S) m σ _ (h.count ∙ sym (fill_long μ S)) r h.beside
      (λ x. wanted.out s FrameLimit σ tt x)
      (λ r2.
      let agrees = frame_agrees W n control H S p vs words k μ m σ shown (none_held W S H D F f chain p over) h in
      let there : Goes (Runs (entering new ∷ fill μ S) m) ≡ standing (G f over) 0 [] ν m =
      ap (λ T. Goes (Runs (entering new ∷ T) m)) (sym (fill_other μ f f new S over.falling (omega arith)))
      ∙ ap (λ ws. Goes (Runs (entering ws ∷ fill ν S) m)) (sym (words_here μ f new)) in
      let site = frame_site W S H D F f chain p over control C c in
      let body = (meant_procedure W p).body.does in
      let done = ih.statement body site (at_body C) 0 (body_code W p C c).end ν m _ (body_code W p C c).does c.body.does
      (frame_context W S H D F f chain p over control C c (hidden body)) (body_inside W p C c S H control f) agrees in
      body_done f over s _ _ (λ i e. ((nothing_is_left_standing W.program n site.meant _).by_statement body).store.started i (stays i e))
      (done_later W n site [] (body_code W p C c).end s (standing (G f over) 0 [] ν m) _ _
      (subst (λ x. Reaches W.image s x) there r2) done))
