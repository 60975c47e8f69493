-- The induction over the fuel; and a whole run, which starts the CONTROL instances in order.
use Rattle.std.proofs.Common.{◌≡◌, ⊎_elim, ℕ, zero, suc, ◌-◌, ◌<◌, List, [], ◌∷◌, length, Bool, true, false, Some, None, All, refl, ap, subst, arith}
use Rattle.std.specs.Prelude.{slice_get, if◌then◌else◌}
use Rattle.std.proofs.lemmas.Option.{none-some, slice_get_cases}
use Rattle.source_meaning.specs.Program as source
use Rattle.source_meaning.specs.State.{State, Ending, Answer, Normal, Gives, Go, Resumed, Rejected, Retried, Continued, Uncaught, Spent, FrameLimit, Broken, Result, give, look, branch, after, carry, leave, on_normal, normal_then}
use Rattle.source_meaning.specs.Calls.{start}
use Rattle.source_meaning.specs.Meaning.{meaning}
use Rattle.source_meaning.specs.Means.{control, first_state, outcome}
use Rattle.source_meaning.specs.Variables.{put_at}
use Rattle.machine_rules.specs.declared.end.End.TheVariants as end
use Rattle.machine_rules.specs.State as machine
use Rattle.machine_rules.specs.State.{Store, Runs, Stepped, Goes}
use Rattle.machine_rules.specs.LookUps.{code_of}
use Rattle.machine_rules.specs.Calls as calls
use Rattle.machine_rules.specs.Calls.{returned, start_next}
use Rattle.machine_rules.specs.Steps.{step, run, fresh, globals_in, begins}
use Rattle.agreement_rules.specs.Agreement.{is_faulty, EndsAs}
use Rattle.agreement_rules.specs.Reaches.{Reaches}
use Rattle.agreement_rules.proofs.Lifted.{reaches_itself, reaches_on}
use Rattle.agreement_laws.specs.World.{World, Ready, globals_of}
use Rattle.agreement_laws.specs.Standing.{Here, Frames}
use Rattle.agreement_laws.specs.Relation.{Hold, Agreed}
use Rattle.agreement_laws.specs.Chains.{Dictionary, Floor, asks_end}
use Rattle.agreement_laws.specs.Answers.{Ended}
use Rattle.agreement_laws.specs.Promises.{next, NextFollows}
use Rattle.agreement_laws.proofs.AllStatements.{statements_follow}
use Rattle.agreement_laws.proofs.Called.{call_follows}
use Rattle.agreement_laws.proofs.Expressions.{expressions_follow}
use Rattle.agreement_laws.proofs.Frames.{zeros_lie}
use Rattle.agreement_laws.proofs.Going.{reaches_step}
use Rattle.agreement_laws.proofs.Opening.{frame_here, Over, no_text, agreed_back}
use Rattle.agreement_laws.proofs.Procedures.{procedure_stands}
use Rattle.agreement_laws.proofs.Returning.{IsEnd, Wanted}
use Rattle.agreement_laws.proofs.Signals.{signals_follow}
use Rattle.agreement_laws.proofs.Spending.{ended_there}
use Rattle.agreement_laws.proofs.Stacks.{here_top}
use Rattle.agreement_laws.proofs.Starting.{body_of, start_runs}

pub next_follows : (W : World) → Ready W → (n : ℕ) → NextFollows W n
unfolding meaning
next_follows W ready zero = record {
  statement = λ s K w a b μ m σ code sound ctx inside h. absurd (let lt = h.enough in omega (arith, lt));
  loop = λ c l K w k a b μ m σ code sound lies ctx inside left h. absurd (let lt = h.enough in omega (arith, lt));
}
next_follows W ready (suc n) =
    let ih = next_follows W ready n in
    let signals = signals_follow W ready n ih in
    statements_follow W n ih signals (expressions_follow W ready n signals (call_follows W ready n ih signals))

-- Under the lowest frame is nothing.

abbrev no_hold : Hold
no_hold f z = None

abbrev no_points : Dictionary
no_points f p = None

abbrev no_floor : Floor
no_floor f = 0

over_nothing : (W : World) (f j : ℕ) → Over W [] no_hold no_points no_floor f [] (body_of j)
over_nothing W f j = record {
  falling = tt;
  nested = tt;
  targets = λ g p t e. absurd (none-some t e);
  holds = λ g z v e. absurd (none-some v e);
  floors = λ g v e. absurd (omega (arith, e));
  asks = asks_end (frame_here (body_of j) f) f (here_top (frame_here (body_of j) f) []) refl;
}

agreed_control : (W : World) (n : ℕ) (old new : List ℕ) (H : Hold) (B : List Here) (μ : Frames) (m : Store) (σ : State) → Agreed W n old H B μ m σ
    → Agreed W n new H B μ (record m { control = new }) σ
agreed_control W n old new H B μ m σ h = record {
  laid = h.laid;
  beside = record {
    same_control = refl;
    started = h.beside.started;
    globals = h.beside.globals;
    turns = h.beside.turns;
    input = h.beside.input;
    bytes = h.beside.bytes;
    faulty = h.beside.faulty;
    output = h.beside.output;
  };
  count = h.count;
  falling = h.falling;
  named = h.named;
  enough = h.enough;
}

module _ (W : World) (ready : Ready W) (n : ℕ) (ih : NextFollows W n) where
  abbrev Good : Stepped → Result → Type 0
  Good s r = Ended W r.answer s r.state

  out_so : (js : List ℕ) (s : Stepped) (a : Answer) (σ : State) → IsEnd a → Ended W a s σ → Good s (normal_then (control W.program (next W n) js) a σ)
  unfolding normal_then give
  out_so js s Normal σ e h = absurd e
  out_so js s (Gives vs) σ e h = absurd e
  out_so js s (Go f p) σ e h = absurd e
  out_so js s (Resumed vs) σ e h = absurd e
  out_so js s Rejected σ e h = absurd e
  out_so js s (Retried k) σ e h = absurd e
  out_so js s (Continued k) σ e h = absurd e
  out_so js s (Uncaught x) σ e h = h
  out_so js s Spent σ e h = h
  out_so js s FrameLimit σ e h = h
  out_so js s Broken σ e h = h

  -- what is left of the CONTROL list runs
  abbrev Left : List ℕ → Type 0
  Left js = (s : Stepped) (μ : Frames) (m : Store) (σ : State) → Agreed W (suc n) js no_hold [] μ m σ → Reaches W.image s (Goes (Runs [] m))
      → Good s (control W.program (next W n) js σ)

  instance_there : (j : ℕ) → j < length W.program.instances → (m : source.Instance) × (slice_get W.program.instances j ≡ Some m)
  instance_there j lt = ⊎_elim
      (λ x. (x.0, x.2))
      (λ x. let g = x.0 in absurd (omega (arith, lt, g)))
      (slice_get_cases W.program.instances j).1

  started_by : (j : ℕ) (js : List ℕ) → j < length W.program.instances → Left js → (s : Stepped) (μ : Frames) (m : Store) (σ : State)
      → Agreed W (suc n) js no_hold [] μ m σ → Reaches W.image s (calls.start W.image j [] m)
      → Good s (on_normal (start W.program (next W n) j []) (control W.program (next W n) js) σ)
  unfolding on_normal after carry leave give normal_then returned
  started_by j js lt left s μ m σ h r =
      let x = instance_there j lt in
      let c = procedure_stands W ready (body_of j) x.0 x.1 tt in
      let wanted : Wanted W n [] no_hold js no_points (body_of j) c.code c.code_of (λ f. give Normal) (put_at σ.store.started j true)
      (λ s r. Good s (normal_then (control W.program (next W n) js) r.answer r.state)) = record {
        ends = λ f s μ m τ stays h r. left s μ m (record τ { standing = τ.standing - 1 }) (agreed_back W n js no_hold [] (body_of j) f μ m τ h) r;
        out = out_so js;
        jumped = λ f s g l τ t e μ m h y way r. absurd (none-some t e);
      } in
      start_runs W n ih [] no_hold js no_points no_floor [] j c.code c.code_of (λ s r. Good s (normal_then (control W.program (next W n) js) r.answer r.state))
      s μ m σ wanted (over_nothing W σ.store.fresh j) h r

  next_by : (b : Bool) (j : ℕ) (js : List ℕ) → j < length W.program.instances → Left js → (s : Stepped) (μ : Frames) (m : Store) (σ : State)
      → Agreed W (suc n) js no_hold [] μ m σ → Reaches W.image s (if b then Goes (Runs [] m) else calls.start W.image j [] m)
      → Good s (branch b (control W.program (next W n) js) (on_normal (start W.program (next W n) j []) (control W.program (next W n) js)) σ)
  unfolding branch
  next_by true j js lt left s μ m σ h r = left s μ m σ h r
  next_by false j js lt left s μ m σ h r = started_by j js lt left s μ m σ h r

  next_step : (m : Store) (js : List ℕ) → m.control ≡ js → Reaches W.image (Goes (Runs [] m)) (start_next W.image js m)
  unfolding step run
  next_step m js e = reaches_step W.image (Runs [] m) _ (ap (λ l. start_next W.image l m) e)

  pub control_follows : (js : List ℕ) → All (λ j. j < length W.program.instances) js → Left js
  unfolding control start_next EndsAs give look
  control_follows [] all s μ m σ h r =
      ended_there W Normal (machine.Ended end.Done) s m σ [] refl (reaches_on W.image s _ _ r (next_step m [] h.beside.same_control)) h.beside
  control_follows (j ∷ js) all s μ m σ h r =
      next_by (σ.store.started j) j js (all 0 j (omega arith)) (control_follows js (λ k d l. all (suc k) d (omega (arith, l)))) s μ (record m { control = js }) σ
      (agreed_control W (suc n) (j ∷ js) js no_hold [] μ m σ h)
      (subst (λ b. Reaches W.image s (if b then Goes (Runs [] (record m { control = js })) else calls.start W.image j [] (record m { control = js })))
      (h.beside.started j)
      (reaches_on W.image s _ _ r (next_step m (j ∷ js) h.beside.same_control)))

-- The first state.

first_agrees : (W : World) → Ready W → (input : List ℕ) (ending : Ending) (turns : ℕ) → All (λ byte. byte < 256) input
    → Agreed W (suc (suc turns)) W.program.control no_hold [] (λ f. []) (fresh W.image input (is_faulty ending) turns) (first_state W.program input ending turns)
unfolding fresh first_state
first_agrees W ready input ending turns bytes = record {
  laid = record {
    frames = λ f lt. absurd (omega (arith, lt));
    held = λ f z v e. absurd (none-some v e);
    above = λ f z v e. absurd (none-some v e);
  };
  beside = record {
    same_control = ready.stands.control;
    started = λ j. refl;
    globals = λ j. zeros_lie _ (globals_of W j) (globals_in (code_of W.image j)) (no_text W);
    turns = refl;
    input = refl;
    bytes = bytes;
    faulty = refl;
    output = refl;
  };
  count = refl;
  falling = tt;
  named = tt;
  enough = omega arith;
}

pub whole_run : (W : World) → Ready W → (input : List ℕ) (ending : Ending) (turns : ℕ) → All (λ byte. byte < 256) input
    → Ended W (outcome W.program input ending turns).answer (begins W.image input (is_faulty ending) turns) (outcome W.program input ending turns).state
unfolding outcome begins
whole_run W ready input ending turns bytes =
    control_follows W ready (suc turns) (next_follows W ready (suc turns)) W.program.control ready.lawful.control
    (begins W.image input (is_faulty ending) turns) (λ f. []) (fresh W.image input (is_faulty ending) turns) (first_state W.program input ending turns)
    (first_agrees W ready input ending turns bytes) (reaches_itself W.image (begins W.image input (is_faulty ending) turns))
