-- Calls: of a procedure of the instance itself, of another instance, which a first call starts, and of the host.
use Rattle.std.proofs.Common.{◌≡◌, ℕ, suc, ◌+◌, ◌-◌, List, [], ◌∷◌, length, Bool, false, Some, refl, sym, ap, ◌∙◌, subst, arith}
use Rattle.std.specs.Prelude.{if◌then◌else◌}
use Rattle.std.proofs.lemmas.Bool.{eq-eqb}
use Rattle.mesa_types.specs.Typed.{Kinds, Point}
use Rattle.mesa_types.specs.Plain.{kinds_of}
use Rattle.mesa_types.specs.Shapes.{count_in}
use Rattle.mesa_types.specs.Sound.{scope_of}
use Rattle.code_forms.specs.declared.instruction.Instruction.{Instruction}
use Rattle.code_forms.specs.Instructions.{bytes_of}
use Rattle.source_meaning.specs.Value.{Values, some_from}
use Rattle.source_meaning.specs.Program.{procedure_of}
use Rattle.source_meaning.specs.State.{ProcedureId, State, Answer, Normal, Gives, Go, Resumed, Rejected, Retried, Continued, Uncaught, Spent, FrameLimit, Broken, Result, give, look, leave}
use Rattle.source_meaning.specs.Calls.{run_procedure, results}
use Rattle.machine_rules.specs.State.{Target, Store, Leaves, Stepped}
use Rattle.machine_rules.specs.Words.{push, popped, under, words_at}
use Rattle.machine_rules.specs.LookUps.{phrases_under, procedure_under}
use Rattle.machine_rules.specs.Calls as machine
use Rattle.machine_rules.specs.Calls.{enter_frame, returned}
use Rattle.machine_rules.specs.Leaving.{dropped, left_to_ask}
use Rattle.signaller.specs.Search.{search_at}
use Rattle.signaller.proofs.Surrounding.{asks_all}
use Rattle.code_rules.specs.Modules.{words_of_fields}
use Rattle.code_rules.specs.Points.{Points}
use Rattle.code_rules.specs.Reading.{Coded, Destination, read, phrases_around}
use Rattle.agreement_rules.specs.Layout.{Show}
use Rattle.agreement_rules.specs.Operators.{Lies}
use Rattle.agreement_rules.specs.Reaches.{Reaches}
use Rattle.agreement_rules.proofs.Lifted.{reaches_on, found_there}
use Rattle.agreement_rules.proofs.Memory.{popped_all, under_all}
use Rattle.agreement_laws.specs.World.{World, CodeOf, texts_of, meant_procedure, locals_of}
use Rattle.agreement_laws.specs.Standing.{Standing, at, bare, Frames, filled, fill, act_at}
use Rattle.agreement_laws.specs.Relation.{Ground, heres, top, Agrees, Agreed, leaving}
use Rattle.agreement_laws.specs.Chains.{Asks, asks_out}
use Rattle.agreement_laws.specs.Contexts.{Site, Context, Inside, table, asked_from}
use Rattle.agreement_laws.specs.Answers.{OnItsWay, has_arrived, passes, Jumps, Ended, Valued}
use Rattle.agreement_laws.specs.Promises.{next, NextFollows}
use Rattle.agreement_laws.proofs.Frames.{results_show}
use Rattle.agreement_laws.proofs.Going.{reaches_step}
use Rattle.agreement_laws.proofs.Hosts.{gives_on}
use Rattle.agreement_laws.proofs.Opening.{frame_here, Over, agreed_back}
use Rattle.agreement_laws.proofs.Pushing.{asks_push}
use Rattle.agreement_laws.proofs.Raising.{drop_step, spent_more}
use Rattle.agreement_laws.proofs.Regions.{raise_asks, jump_asks}
use Rattle.agreement_laws.proofs.Returning.{IsEnd, Wanted, procedure_runs}
use Rattle.agreement_laws.proofs.Stacks.{bare_long, here_top, here_within}

-- Over the caller, which waits at its instruction.
module _ (W : World) (n : ℕ) (K : Site) (points : Points Destination) (near : List ℕ) (from to : ℕ) (ctx : Context W K points near from to)
    (i : Instruction) (o d : ℕ) (is : read K.code o ≡ Some (record { instruction = i; depth = d; around = near })) (inside : Inside W K.ground o o) where
  abbrev G : Ground
  G = K.ground

  -- with these operands
  module _ (operands : List ℕ) where
    abbrev pub waiting : Standing
    waiting = at G.here o operands ∷ G.below

    around_it : phrases_around K.code.routine.phrases o ≡ near
    around_it = (found_there K.code.entries o (phrases_around K.code.routine.phrases o) _ is).1

    caller_there : act_at waiting (top G) ≡ Some (at G.here o operands)
    caller_there =
        ap (λ b. if b then Some (at G.here o operands) else act_at G.below (top G)) (eq-eqb (length (bare G.below)) (length G.below) (bare_long G.below))

    pub over_caller : (bound : ℕ) (μ : Frames) (m : Store) (σ : State) (p : ProcedureId) → Agrees W bound G μ m σ
        → Over W waiting G.hold K.points K.floor σ.store.fresh K.meant.chain p
    over_caller bound μ m σ p h = record {
      falling = h.falling;
      nested = ctx.nested;
      targets = ctx.targets;
      holds = ctx.holds;
      floors = ctx.room.floors;
      asks = asks_out (frame_here p σ.store.fresh) σ.store.fresh (at G.here o operands) (here_top (frame_here p σ.store.fresh) (heres G)) refl caller_there
          (subst (λ numbers. Asks W (frame_here p σ.store.fresh) waiting G.hold K.points K.floor (top G) numbers K.meant.chain)
          (sym (raise_asks W G.here.procedure K.code ctx.code_of G.here.part o near (inside o (omega arith) (omega arith)) around_it))
          (asks_push W (frame_here p σ.store.fresh) G.here o operands G.below G.hold K.points K.floor (top G) (asked_from W G near) K.meant.chain tt ctx.chain));
    }

    -- a jump goes out of the frame to the caller, which is asked
    pub jumps_back : (p : ProcedureId) (f : ℕ) (s : Stepped) (g : ℕ) (l : Point) (σ : State) (t : Target) → K.points g l ≡ Some t → (μ : Frames) (m : Store)
        → Agreed W n G.control G.hold (frame_here p f ∷ heres G) μ m σ → (y : Stepped)
        → OnItsWay W (record { here = frame_here p f; below = waiting; hold = G.hold; control = G.control }) [] t μ m y → Reaches W.image s y
        → Jumps W (suc n) G K.points near s g l (record σ { standing = σ.standing - 1 })
    unfolding dropped left_to_ask phrases_under procedure_under
    jumps_back p f s g l σ t e μ m h y (has_arrived x ops d) r =
        absurd (let z = ctx.targets g l t e in let lt = here_within (heres G) t.place z.aimed z.is_there in omega (arith, lt, d))
    jumps_back p f s g l σ t e μ m h y (passes search x ops d) r = record {
      target = t;
      found = e;
      frames = μ;
      store = m;
      agrees = agreed_back W n G.control G.hold (heres G) p f μ m σ h;
      on_way = leaving t (search_at false (table W G) o) waiting μ m;
      is_on_way = passes (search_at false (table W G) o) o operands
          (asks_all false (table W G) (length (table W G)) o
          ∙ jump_asks W G.here.procedure K.code ctx.code_of G.here.part o near (inside o (omega arith) (omega arith)) around_it);
      reaches = reaches_on W.image s _ _ r (reaches_step W.image (Leaves t search (fill μ (at (frame_here p f) x ops ∷ waiting)) m) _
          (drop_step W t search (frame_here p f) x ops waiting μ m
          (let z = ctx.targets g l t e in here_within (heres G) t.place z.aimed z.is_there) d));
    }

  abbrev pub b : ℕ
  b = o + bytes_of i

  abbrev pub Ok : Kinds → List ℕ → Stepped → Result → Type 0
  Ok ks rest s r = Valued W (suc n) K near ks b rest s r

  pub ends_so : (ks : Kinds) (rest : List ℕ) (s : Stepped) (a : Answer) (σ : State) → IsEnd a → Ended W a s σ → Ok ks rest s (record { answer = a; state = σ })
  ends_so ks rest s Normal σ e h = absurd e
  ends_so ks rest s (Gives vs) σ e h = absurd e
  ends_so ks rest s (Go f p) σ e h = absurd e
  ends_so ks rest s (Resumed vs) σ e h = absurd e
  ends_so ks rest s Rejected σ e h = absurd e
  ends_so ks rest s (Retried k) σ e h = absurd e
  ends_so ks rest s (Continued k) σ e h = absurd e
  ends_so ks rest s (Uncaught x) σ e h = h
  ends_so ks rest s Spent σ e h = h
  ends_so ks rest s FrameLimit σ e h = h
  ends_so ks rest s Broken σ e h = h

  -- Procedure k + 1 of an instance.
  module _ (j k : ℕ) where
    abbrev pub callee : ProcedureId
    callee = record { instance = j; number = suc k }

    abbrev pub head_takes : Kinds
    head_takes = kinds_of (meant_procedure W callee).head.takes

    abbrev pub head_gives : Kinds
    head_gives = kinds_of (meant_procedure W callee).head.gives

    module _ (C : Coded) (c : CodeOf W callee C) (rest : List ℕ) where
      result_words : (f : ℕ) (μ : Frames) (m : Store) (σ : State) → Agreed W n G.control G.hold (frame_here callee f ∷ heres G) μ m σ
          → Show (texts_of W) head_gives (some_from (σ.store.variables f) (count_in head_takes) (count_in head_gives))
          (words_at (μ f) c.procedure.args c.procedure.results)
      unfolding scope_of
      result_words f μ m σ h =
          let lies = subst (λ p. Lies (texts_of W) (locals_of W p) (σ.store.variables f) (μ f)) h.named.0 (h.laid.frames f h.falling.0) in
          subst (λ a. Show (texts_of W) head_gives (some_from (σ.store.variables f) (count_in head_takes) (count_in head_gives))
          (words_at (μ f) a c.procedure.results))
          (sym c.its_code.args)
          (subst (λ a. Show (texts_of W) head_gives (some_from (σ.store.variables f) (count_in head_takes) (count_in head_gives))
          (words_at (μ f) (words_of_fields (meant_procedure W callee).head.takes) a))
          (sym c.its_code.results)
          (results_show (texts_of W) head_takes head_gives (meant_procedure W callee).body.variables (σ.store.variables f) (μ f) lies))

      wanted_call : (started : ℕ → Bool)
          → Wanted W n (waiting rest) G.hold G.control K.points callee C c (results (meant_procedure W callee)) started (Ok head_gives rest)
      unfolding returned results look give leave
      wanted_call started = record {
        ends = λ f s μ m σ stays h r. record {
          words = words_at (μ f) c.procedure.args c.procedure.results;
          shown = result_words f μ m σ h;
          comes = record {
            frames = μ;
            store = m;
            agrees = agreed_back W n G.control G.hold (heres G) callee f μ m σ h;
            reaches = reaches_on W.image s _ _ r
                (gives_on W K points near from to ctx 0 (words_at (μ f) c.procedure.args c.procedure.results) μ m o d rest i near is);
          };
        };
        out = ends_so head_gives rest;
        jumped = λ f s g l σ t e μ m h y way r.
            (spent_more n l (record σ { standing = σ.standing - 1 }) h.enough, jumps_back rest callee f s g l σ t e μ m h y way r);
      }

      call_is : (words : List ℕ) (μ : Frames) (m : Store) → length words ≡ c.procedure.args
          → machine.call j (suc k) c.procedure (filled μ (at G.here o (push words rest))) (fill μ G.below) m
          ≡ enter_frame j (suc k) c.procedure words (fill μ (waiting rest)) m
      unfolding machine.call
      call_is words μ m e =
          let all = push words rest in
          ap (λ a. enter_frame j (suc k) c.procedure (popped a all) (filled μ (at G.here o (under a all)) ∷ fill μ G.below) m) (sym e)
          ∙ ap (λ ws. enter_frame j (suc k) c.procedure ws (filled μ (at G.here o (under (length words) all)) ∷ fill μ G.below) m) (popped_all words rest)
          ∙ ap (λ ops. enter_frame j (suc k) c.procedure words (filled μ (at G.here o ops) ∷ fill μ G.below) m) (under_all words rest)

      -- it is called, with its arguments on the operands
      pub called_runs : NextFollows W n → (vs : Values) (words : List ℕ) → Show (texts_of W) head_takes vs words
          → (s : Stepped) (μ : Frames) (m : Store) (σ : State) → Agrees W n G μ m σ
          → Reaches W.image s (machine.call j (suc k) c.procedure (filled μ (at G.here o (push words rest))) (fill μ G.below) m)
          → Ok head_gives rest s (run_procedure W.program (next W n) j (suc k) K.meant.chain vs (results (procedure_of W.program j (suc k))) σ)
      called_runs ih vs words shown s μ m σ h r =
          procedure_runs W n ih (waiting rest) G.hold G.control K.points K.floor K.meant.chain callee C c (results (meant_procedure W callee)) σ.store.started
          (Ok head_gives rest) (wanted_call σ.store.started) s μ m σ vs words shown (over_caller rest n μ m σ callee h) (λ i e. e) h
          (subst (λ x. Reaches W.image s x) (call_is words μ m (shown.size ∙ sym c.its_code.args)) r)
