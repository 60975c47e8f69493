-- A round of a loop behind its count: the condition, the body where the labels are visible, the next round by the jump back, and the end.
use Rattle.std.proofs.Common.{◌≡◌, ℕ, suc, ◌+◌, ◌<◌, ◌≤◌, List, [], ◌∷◌, Some, None, ap, subst, arith}
use Rattle.mesa_types.specs.Typed.{At, Count, Endless, Stmt, Repeat, Exits, Loop, LoopOf, Finish, NoFinish, Finished, Condition}
use Rattle.mesa_types.specs.Counts.{hidden, hidden_exits, hidden_loop, hidden_finish, hidden_condition}
use Rattle.mesa_types.specs.Operators.{is_true}
use Rattle.mesa_types.specs.Sound.{LabelsIn, FinishIn, ConditionIn, ExitsIn, LoopIn, StmtIn, in_labelled}
use Rattle.code_forms.specs.declared.instruction.Instruction.TheVariants as i
use Rattle.source_meaning.specs.State.{State, Answer, Normal, Gives, Go, Resumed, Rejected, Retried, Continued, Uncaught, Spent, FrameLimit, Broken, Result, Run, carry, after, give, branch, on_word, on_normal, normal_then, labelled, labelled_of, spend}
use Rattle.source_meaning.specs.Signals.{Next}
use Rattle.source_meaning.specs.Meaning.{does, exits, condition, finish, loop, counted, one_round_less}
use Rattle.machine_rules.specs.State.{Store, Stepped}
use Rattle.code_rules.specs.CodeFor as row
use Rattle.code_rules.specs.CodeFor.{LoopCode, ConditionCode, FinishCode, ExitsCode, StmtCode, label_at, with_labels}
use Rattle.code_rules.specs.Loops.{Counter, NoCounter, CountedIn}
use Rattle.code_rules.specs.Reading.{Destination, Offset, Place, Own, no_more, beyond}
use Rattle.code_rules.proofs.Whole.{condition_run, stmt_run, finish_run, exits_run}
use Rattle.agreement_rules.specs.Layout.{slots_of}
use Rattle.agreement_rules.specs.Reaches.{Reaches}
use Rattle.agreement_rules.proofs.Lifted.{in_order, reaches_itself}
use Rattle.agreement_laws.specs.World.{World}
use Rattle.agreement_laws.specs.Standing.{Frames}
use Rattle.agreement_laws.specs.Relation.{Hold, Agrees, standing}
use Rattle.agreement_laws.specs.Contexts.{Site, Context, InPlace, Inside}
use Rattle.agreement_laws.specs.Answers.{Passed, Done}
use Rattle.agreement_laws.specs.Promises.{next, ExpressionsFollow, StatementFollows, Follows, LoopFollows, NextFollows}
use Rattle.agreement_laws.specs.Rounds.{RoundsLeft}
use Rattle.agreement_laws.proofs.Arriving.{done_bound}
use Rattle.agreement_laws.proofs.Doing.{Did, did_later}
use Rattle.agreement_laws.proofs.Exits.{ExitsFollow, no_label, labelled_row, unlabelled_row}
use Rattle.agreement_laws.proofs.Going.{passed_done}
use Rattle.agreement_laws.proofs.Holding.{HoldsLess, with_hold, done_less}
use Rattle.agreement_laws.proofs.Labels.{labelled_site, label_among, label_there, context_labelled}
use Rattle.agreement_laws.proofs.Loops.{CanEnd, condition_on, back_on, finish_on}
use Rattle.agreement_laws.proofs.Moving.{place_part, place_first, run_order, inside_part}

-- what a loop does at its end follows
abbrev pub FinishFollows : World → (n : ℕ) → Finish → Type 0
FinishFollows W n fin = (s : Stmt) → fin ≡ Finished s → Follows W n s

abbrev IsNone : Finish → Type 0
IsNone NoFinish = Unit {0}
IsNone (Finished s) = ⊥

pub no_finish_follows : (W : World) (n : ℕ) → FinishFollows W n NoFinish
no_finish_follows W n s e = absurd (subst (λ f. IsNone f) e tt)

pub finished_follows : (W : World) (n : ℕ) (s : Stmt) → Follows W n s → FinishFollows W n (Finished s)
finished_follows W n s follows t e =
    subst (λ x. Follows W n x) (ap (λ f. elim f [ NoFinish ↦ s | Finished x ↦ x ]) e) follows

-- the end of a round: the words that count say what is left, and the machine stands at the jump back
pub record AtBack (W : World) (n : ℕ) (K : Site) (k : Counter) (left : Count) (h : ℕ) (s : Stepped) (σ : State) : Type 0 where
  pub frames : Frames
  pub store : Store
  pub agrees : Agrees W (suc n) K.ground frames store σ
  pub rounds : RoundsLeft k (one_round_less left) (slots_of (frames K.meant.frame))
  pub reaches : Reaches W.image s (standing K.ground h [] frames store)

module _ (W : World) (n : ℕ) (exprs : ExpressionsFollow W n) (K : Site) (I : Hold) (less : HoldsLess K.ground.hold I) (w v : Place) (k : Counter) (left : Count)
    (cond : Condition) (s : Stmt) (es : Exits) (fin : Finish) (offsets : List ℕ) (a b c d f h done g : ℕ) where
  -- the site in which the words that count are held
  abbrev pub holding : Site
  holding = record K { ground = with_hold K.ground I }

  abbrev l : Loop
  l = LoopOf cond s es fin

  abbrev to_exit : ℕ → Run
  to_exit j = exits W.program (next W n) es K.meant j

  -- what comes of the round
  abbrev pub Round : Stepped → Result → Type 0
  Round x r = Did W (suc n) K w.around b x (labelled_of K.meant.frame to_exit r.answer r.state)

  pub round_later : (x y : Stepped) (r : Result) → Reaches W.image x y → Round y r → Round x r
  round_later x y r reaches q = did_later W (suc n) K w.around b x y (labelled_of K.meant.frame to_exit r.answer r.state) reaches q

  module _ (code : ConditionCode K.code w cond done c d) (body : StmtCode K.code (with_labels es offsets (beyond (hidden_condition cond) w)) s d f) (order : f ≤ h)
      (back : Own K.code v (i.JumpBack a ∷ []) h done) (last : FinishCode K.code (beyond (hidden_condition cond + hidden s + hidden_exits es) w) k cond fin b done g)
      (more : ExitsCode K.code (beyond (hidden_condition cond + hidden s) w) es offsets b g b) (past : ℕ) (labels : LabelsIn K.scope past es) (sound_condition : ConditionIn K.scope cond) (sound_body : StmtIn (in_labelled past es K.scope) s)
      (sound_exits : ExitsIn K.scope es) (sound_finish : FinishIn K.scope fin)
      (outer : Context W K w.points w.around w.slot (w.slot + hidden_loop (LoopOf cond s es fin)))
      (place : Context W holding w.points w.around w.slot (w.slot + hidden_loop (LoopOf cond s es fin))) (inside : Inside W K.ground c b)
      (exits_promise : ExitsFollow W n es) (finishes : FinishFollows W n fin) where
    none : (j : ℕ) (σ : State) → label_at es offsets j ≡ None → to_exit j σ ≡ give (Go K.meant.frame (At j)) σ
    none j σ e = no_label W n K more j σ e

    not_seen : (j : ℕ) (to : Destination) → label_at es offsets j ≡ Some to → K.points K.meant.frame (At j) ≡ None
    unfolding LabelsIn
    not_seen j to e = place.fresh.labels j (label_among (λ l. (K.scope.labels ≤ l) × (l < past)) es offsets j to labels.1 e).0

    -- what is done where the labels are not visible
    pub outside : (x : Stepped) (r : Answer) (σ : State) → Done W (suc n) K w.around b x r σ → Round x (record { answer = r; state = σ })
    outside x r σ q = unlabelled_row W (suc n) K w.around past es offsets b to_exit x σ (λ j e. none j σ e) not_seen r q

    pub within : (x : Stepped) (r : Answer) (σ : State) → Done W (suc n) holding w.around b x r σ → Round x (record { answer = r; state = σ })
    within x r σ q = outside x r σ (done_less W (suc n) K I less w.around b x r σ q)

    pub passes : (x : Stepped) (r : Answer) (σ : State) → Passed W (suc n) holding w.around x r σ → Round x (record { answer = r; state = σ })
    passes x r σ q = within x r σ (passed_done W (suc n) holding w.around b x r σ q)

    cd : c ≤ d
    cd = run_order (condition_run code)

    df : d ≤ f
    df = run_order (stmt_run body)

    hd : h ≤ done
    hd = in_order back

    dg : done ≤ g
    dg = run_order (finish_run last)

    gb : g ≤ b
    gb = run_order (exits_run more)

    abbrev size : ℕ
    size = hidden_condition cond + hidden s + hidden_exits es + hidden_finish fin

    place_of : (before part : ℕ) → before + part ≤ size → InPlace W holding (beyond before w) part
    unfolding hidden_loop
    place_of before part le = place_part W holding w size before part le place

    place_condition : InPlace W holding w (hidden_condition cond)
    unfolding hidden_loop
    place_condition = place_first W holding w size (hidden_condition cond) (omega arith) place

    -- the statements of labels
    exit_there : (j x : ℕ) (μ : Frames) (m : Store) (σ : State) → label_at es offsets j ≡ Some (Offset x) → Agrees W (suc n) holding.ground μ m σ
        → Did W (suc n) holding w.around b (standing K.ground x [] μ m) (to_exit j σ)
    exit_there j x μ m σ e agrees =
        let o1 = cd in let o2 = df in let o3 = order in let o4 = hd in let o5 = dg in let o6 = gb in
        exits_promise holding (beyond (hidden_condition cond + hidden s) w) offsets b g b j x μ m σ more sound_exits e
        (place_of (hidden_condition cond + hidden s) (hidden_exits es) (omega arith))
        (inside_part W K.ground c b g b (omega (arith, o1, o2, o3, o4, o5)) (omega arith) inside) agrees

    all : (j : ℕ) (to : Destination) → label_at es offsets j ≡ Some to → (x : ℕ) × (to ≡ Offset x)
    all j to e = let t = label_there more j to e in (t.offset, t.is)

    labelled_here : (x : Stepped) (r : Answer) (σ : State) → Done W (suc n) (labelled_site holding past es offsets) w.around b x r σ → Round x (record { answer = r; state = σ })
    labelled_here x r σ q =
        let y = labelled_of K.meant.frame to_exit r σ in
        done_less W (suc n) K I less w.around b x y.answer y.state
        (labelled_row W (suc n) holding w.around past es offsets b to_exit x σ all (λ j z μ m e agrees. exit_there j z μ m σ e agrees) (λ j e. none j σ e) r q)

    abbrev go : Run
    go σ = next W n (Repeat (one_round_less left) (LoopOf cond s es fin)) K.meant σ

    -- the end
    pub end_on : CanEnd cond k → (μ : Frames) (m : Store) (σ : State) → Agrees W (suc n) holding.ground μ m σ → Round (standing K.ground done [] μ m) (finish W.program (next W n) fin K.meant σ)
    unfolding hidden FinishIn
    end_on ends μ m σ agrees =
        let r = finish W.program (next W n) fin K.meant σ in
        let o1 = cd in let o2 = df in let o3 = order in let o4 = hd in let o6 = gb in
        let at = beyond (hidden_condition cond + hidden s + hidden_exits es) w in
        within (standing K.ground done [] μ m) r.answer r.state
        (finish_on W n holding at (at.slot + hidden_finish fin) (place_of (hidden_condition cond + hidden s + hidden_exits es) (hidden_finish fin) (omega arith)) k cond fin b done g μ m σ last ends agrees
        (λ t o e stmt le. finishes t e holding at done o μ m σ stmt (subst (λ x. FinishIn K.scope x) e sound_finish)
        (subst (λ x. InPlace W holding at (hidden_finish x)) e (place_of (hidden_condition cond + hidden s + hidden_exits es) (hidden_finish fin) (omega arith)))
        (inside_part W K.ground c b done o (omega (arith, o1, o2, o3, o4)) (omega (arith, le, o6)) inside) agrees))

    module _ (steps : (μ : Frames) (m : Store) (σ : State) → Agrees W (suc n) holding.ground μ m σ → AtBack W n K k left h (standing K.ground f [] μ m) σ)
        (again : (μ : Frames) (m : Store) (σ : State) → Agrees W n K.ground μ m σ → RoundsLeft k (one_round_less left) (slots_of (μ K.meant.frame))
        → Done W n K w.around b (standing K.ground a [] μ m) (next W n (Repeat (one_round_less left) (LoopOf cond s es fin)) K.meant σ).answer
        (next W n (Repeat (one_round_less left) (LoopOf cond s es fin)) K.meant σ).state)
        (follows : Follows W n s) where
      -- the jump back
      turn : (x : Stepped) (σ : State) → AtBack W n K k left h x σ → Round x (spend go σ)
      unfolding labelled_of give
      turn x σ q =
          round_later x (standing K.ground h [] q.frames q.store) (spend go σ) q.reaches
          (back_on W n K w (w.slot + hidden_loop (LoopOf cond s es fin)) outer Round (λ x y r z u. round_later x y r z u) v a h done go q.frames q.store σ back q.agrees
          (λ e. e)
          (λ m τ agrees. let r = go τ in
          outside (standing K.ground a [] q.frames m) r.answer r.state
          (done_bound W n K w.around b (standing K.ground a [] q.frames m) r.answer r.state (again q.frames m τ agrees q.rounds))))

      -- the body, and the next round
      body_on : (x : Stepped) (r : Answer) (σ : State) → Done W (suc n) (labelled_site holding past es offsets) w.around f x r σ → Round x (normal_then (spend go) r σ)
      unfolding normal_then give
      body_on x Normal σ q =
          let t = steps q.frames q.store σ q.agrees in
          round_later x (standing K.ground f [] q.frames q.store) (spend go σ) q.reaches (turn (standing K.ground f [] q.frames q.store) σ t)
      body_on x (Gives vs) σ q = labelled_here x (Gives vs) σ q
      body_on x (Go j p) σ q = labelled_here x (Go j p) σ q
      body_on x (Resumed vs) σ q = labelled_here x (Resumed vs) σ q
      body_on x Rejected σ q = labelled_here x Rejected σ q
      body_on x (Retried j) σ q = labelled_here x (Retried j) σ q
      body_on x (Continued j) σ q = labelled_here x (Continued j) σ q
      body_on x (Uncaught signal) σ q = labelled_here x (Uncaught signal) σ q
      body_on x Spent σ q = labelled_here x Spent σ q
      body_on x FrameLimit σ q = labelled_here x FrameLimit σ q
      body_on x Broken σ q = labelled_here x Broken σ q

      -- the whole of it
      pub round_on : (μ : Frames) (m : Store) (σ : State) → Agrees W (suc n) holding.ground μ m σ
          → Round (standing K.ground c [] μ m)
          (on_word (condition W.program (next W n) cond K.meant) (λ x. branch (is_true x) (on_normal (does W.program (next W n) s K.meant) (spend go)) (finish W.program (next W n) fin K.meant)) σ)
      unfolding on_normal after carry
      round_on μ m σ agrees =
          let o1 = cd in let o2 = df in let o3 = order in let o4 = hd in let o5 = dg in let o6 = gb in
          condition_on W n exprs holding w Round (λ x y r z u. round_later x y r z u) (λ x r τ u. passes x r τ u) k cond done c d
          (on_normal (does W.program (next W n) s K.meant) (spend go)) (finish W.program (next W n) fin K.meant) μ m σ code sound_condition
          place_condition
          (inside_part W K.ground c b c d (omega arith) (omega (arith, o2, o3, o4, o5, o6)) inside) agrees
          (λ ν q τ now. let r = does W.program (next W n) s K.meant τ in
          body_on (standing K.ground d [] ν q) r.answer r.state
          (follows (labelled_site holding past es offsets) (with_labels es offsets (beyond (hidden_condition cond) w)) d f ν q τ body sound_body
          (context_labelled W holding past es offsets labels w.points w.around (w.slot + hidden_condition cond) (w.slot + hidden_condition cond + hidden s)
          (λ j to e. let t = label_there more j to e in let y = t.low in let z = t.high in (t.offset, t.is, inside t.offset (omega (arith, o1, o2, o3, o4, o5, y)) (omega (arith, z))))
          (place_of (hidden_condition cond) (hidden s) (omega arith)))
          (inside_part W K.ground c b d f o1 (omega (arith, o3, o4, o5, o6)) inside) now))
          (λ ends ν q τ now. end_on ends ν q τ now)

-- A loop without a count.
pub endless_follows : (W : World) (n : ℕ) (exprs : ExpressionsFollow W n) (before : NextFollows W n) (cond : Condition) (s : Stmt) (es : Exits) (fin : Finish)
    → Follows W n s → ExitsFollow W n es → FinishFollows W n fin
    → LoopFollows W (suc n) (does W.program (next W n)) Endless (LoopOf cond s es fin)
unfolding does loop labelled counted after carry one_round_less LoopIn
endless_follows W n exprs before cond s es fin follows exits_promise finishes K w (CountedIn z g down) a b μ m σ code sound lies place inside left now = absurd left
endless_follows W n exprs before cond s es fin follows exits_promise finishes K w NoCounter a b μ m σ whole sound lies place inside left now = by whole
  where
    by : LoopCode K.code w NoCounter (LoopOf cond s es fin) a b
        → Did W (suc n) K w.around b (standing K.ground a [] μ m) (loop W.program (next W n) (LoopOf cond s es fin) K.meant Endless σ)
    by (row.rounds offsets c d f done g no_more code body back last more) =
        round_on W n exprs K K.ground.hold (λ f z v e. e) w w NoCounter Endless cond s es fin offsets a b a d f f done g code body (omega arith) back last more
        sound.0 sound.1 sound.2 sound.3 sound.4 sound.5 place place inside exits_promise finishes
        (λ ν l τ agrees. record { frames = ν; store = l; agrees = agrees; rounds = tt; reaches = reaches_itself W.image (standing K.ground f [] ν l) })
        (λ ν l τ agrees rounds. before.loop Endless (LoopOf cond s es fin) K w NoCounter a b ν l τ whole sound lies place inside tt agrees)
        follows μ m σ now

-- and its row
pub repeat_follows : (W : World) (bound : ℕ) (run : Next) (c : Count) (l : Loop) → LoopFollows W bound run Endless l → StatementFollows W bound run (Repeat c l)
unfolding StmtIn hidden
repeat_follows W bound run c l follows K w a b μ m σ (row.loop code) sound place inside now = follows K w NoCounter a b μ m σ code sound.2 tt place inside tt now
