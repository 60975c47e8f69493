-- FOR and THROUGH: the bounds are evaluated, the start puts them into the hidden words of the loop, and these are held in each round.
use Rattle.std.proofs.Common.{◌≡◌, ◌⊎◌, ⊎_elim, inl, inr, ℕ, zero, suc, ◌+◌, ◌<◌, ◌≤◌, List, [], ◌∷◌, Bool, true, false, Some, refl, sym, ap, ◌∙◌, subst, arith}
use Rattle.std.proofs.lemmas.Bool.{cases_lt}
use Rattle.std.proofs.lemmas.Option.{none-some}
use Rattle.mesa_types.specs.declared.typed_parts.Base.{Base}
use Rattle.mesa_types.specs.declared.typed_parts.Given.{Given}
use Rattle.mesa_types.specs.Typed.{Count, Endless, Counting, Interval, Between, Stmt, For, Repeat, Exits, Loop, LoopOf, Finish, Condition}
use Rattle.mesa_types.specs.Counts.{hidden, hidden_expr, hidden_interval, hidden_loop}
use Rattle.mesa_types.specs.Operators as operators
use Rattle.mesa_types.specs.Operators.{is_true}
use Rattle.mesa_types.specs.Sound.{a_word, GivenIn, StmtIn, IntervalIn, LoopIn}
use Rattle.source_meaning.specs.State.{State, carry, after, branch, on_values, on_word, on_normal, labelled, labelled_of, spend}
use Rattle.source_meaning.specs.Meaning as meaning
use Rattle.source_meaning.specs.Meaning.{does, condition, exits, finish, loop, rounds_of, one_round_less}
use Rattle.machine_rules.specs.State.{Store}
use Rattle.code_rules.specs.CodeFor as row
use Rattle.code_rules.specs.CodeFor.{LoopCode}
use Rattle.code_rules.specs.Laws.{behind_all}
use Rattle.code_rules.specs.Loops.{NoCounter, CountedIn, start_code, step_code}
use Rattle.code_rules.specs.Points.{Points}
use Rattle.code_rules.specs.Reading.{Destination, Place, Own, past, beyond}
use Rattle.code_rules.proofs.Whole.{own_code_joins, expr_run, condition_run, stmt_run, finish_run, exits_run, loop_run}
use Rattle.code_forms.specs.declared.instruction.Instruction.TheVariants as i
use Rattle.agreement_rules.specs.Layout.{slots_of}
use Rattle.agreement_rules.proofs.Lifted.{in_order}
use Rattle.agreement_laws.specs.World.{World, texts_of, hidden_of}
use Rattle.agreement_laws.specs.Standing.{Frames}
use Rattle.agreement_laws.specs.Relation.{Hold, heres, Agrees, standing}
use Rattle.agreement_laws.specs.Contexts.{Site, Context, InPlace, Inside}
use Rattle.agreement_laws.specs.Promises.{next, ExpressionsFollow, RaiseFollows, Follows, LoopFollows, NextFollows}
use Rattle.agreement_laws.specs.Rounds.{WordsLeft, RoundsLeft}
use Rattle.agreement_laws.proofs.Bounds.{start_works, rounds_begin}
use Rattle.agreement_laws.proofs.Chained.{held_there, held_still, holding_site}
use Rattle.agreement_laws.proofs.Codes.{made_here, named_here}
use Rattle.agreement_laws.proofs.Counted.{count_on}
use Rattle.agreement_laws.proofs.Counters as counters
use Rattle.agreement_laws.proofs.Counters.{counting_site, counting_context, counting_less, all_held}
use Rattle.agreement_laws.proofs.Counting.{agreed_free}
use Rattle.agreement_laws.proofs.Doing.{Did, did_later, did_out}
use Rattle.agreement_laws.proofs.Exits.{ExitsFollow}
use Rattle.agreement_laws.proofs.Following.{word_on}
use Rattle.agreement_laws.proofs.Holding.{HoldsLess, with_hold}
use Rattle.agreement_laws.proofs.Loops.{counted_ends}
use Rattle.agreement_laws.proofs.Moving.{context_part, place_part, run_order, inside_part}
use Rattle.agreement_laws.proofs.Rounds.{FinishFollows, AtBack, round_later, passes, end_on, round_on, endless_follows}
use Rattle.agreement_laws.proofs.Stacks.{with_words, words_here}
use Rattle.agreement_laws.proofs.Stepping.{up_steps, down_steps}
use Rattle.agreement_laws.proofs.Writing.{code_writes}

-- The three words are held while a round runs.

module _ (W : World) (K : Site) (points : Points Destination) (around : List ℕ) (z to : ℕ) (ctx : Context W K points around z to) (long : z + 3 ≤ to) (x y u : ℕ) where
  abbrev all : Hold
  all = (counting_site K z x y u).ground.hold

  first_held : all K.meant.frame z ≡ Some x
  first_held =
      let f = K.meant.frame in
      let one = counters.one W K points around z to ctx long x y u in
      let two = counters.two W K points around z to ctx long x y u in
      held_still (holding_site (holding_site K z x) (z + 1) y).ground.hold f (z + 2) u f z x (two.room.free (z + 2) (omega arith) (omega (arith, long)))
      (held_still (holding_site K z x).ground.hold f (z + 1) y f z x (one.room.free (z + 1) (omega arith) (omega (arith, long))) (held_there K.ground.hold f z x))

  last_held : all K.meant.frame (z + 1) ≡ Some y
  last_held =
      let f = K.meant.frame in
      let two = counters.two W K points around z to ctx long x y u in
      held_still (holding_site (holding_site K z x) (z + 1) y).ground.hold f (z + 2) u f (z + 1) y (two.room.free (z + 2) (omega arith) (omega (arith, long)))
      (held_there (holding_site K z x).ground.hold f (z + 1) y)

  flag_held : all K.meant.frame (z + 2) ≡ Some u
  flag_held = held_there (holding_site (holding_site K z x) (z + 1) y).ground.hold K.meant.frame (z + 2) u

-- the end of a round that was left, going up or down
steps_on : (W : World) (n : ℕ) (K : Site) (I : Hold) (less : HoldsLess K.ground.hold I) (points : Points Destination) (around : List ℕ) (z to : ℕ) (ctx : Context W K points around z to)
    (long : z + 3 ≤ to) (g : Given) (down : Bool) (left number first last flag : ℕ) → I K.meant.frame z ≡ Some first → I K.meant.frame (z + 1) ≡ Some last → (v : Place) (f h : ℕ)
    → Own K.code v (step_code (CountedIn z g down)) f h → WordsLeft down left number first last flag → (more : ℕ) → left ≡ suc more
    → (μ : Frames) (m : Store) (σ : State) → Agrees W (suc n) (with_hold K.ground I) μ m σ
    → AtBack W n K (CountedIn z g down) (Counting g down left number) h (standing K.ground f [] μ m) σ
steps_on W n K I less points around z to ctx long g down zero number first last flag one two v f h code lies more e μ m σ agrees = absurd (omega (arith, e))
steps_on W n K I less points around z to ctx long g false (suc left) number first last flag one two v f h code lies more e μ m σ agrees =
    up_steps W n K I less points around z to ctx long g left number first last flag one two v f h μ m σ agrees code lies
steps_on W n K I less points around z to ctx long g true (suc left) number first last flag one two v f h code lies more e μ m σ agrees =
    down_steps W n K I less points around z to ctx long g left number first last flag one two v f h μ m σ agrees code lies

-- A round.

module _ (W : World) (n : ℕ) (exprs : ExpressionsFollow W n) (raises : RaiseFollows W n) (before : NextFollows W n) where
  module _ (g : Given) (down : Bool) (left number : ℕ) (cond : Condition) (s : Stmt) (es : Exits) (fin : Finish)
      (follows : Follows W n s) (promise : ExitsFollow W n es) (finishes : FinishFollows W n fin)
      (K : Site) (w : Place) (z a b : ℕ) (μ : Frames) (m : Store) (σ : State) (sound : LoopIn K.scope (LoopOf cond s es fin)) (long : z + 3 ≤ w.slot) (given : GivenIn K.scope g)
      (place : Context W K w.points w.around z (w.slot + hidden_loop (LoopOf cond s es fin))) (inside : Inside W K.ground a b)
      (lies : WordsLeft down left number (slots_of (μ K.meant.frame) z) (slots_of (μ K.meant.frame) (z + 1)) (slots_of (μ K.meant.frame) (z + 2)))
      (now : Agrees W (suc n) K.ground μ m σ) where
    abbrev l : Loop
    l = LoopOf cond s es fin

    abbrev to : ℕ
    to = w.slot + hidden_loop l

    abbrev first : ℕ
    first = slots_of (μ K.meant.frame) z

    abbrev last : ℕ
    last = slots_of (μ K.meant.frame) (z + 1)

    abbrev flag : ℕ
    flag = slots_of (μ K.meant.frame) (z + 2)

    -- the site in which they are held
    abbrev held : Site
    held = counting_site K z first last flag

    abbrev count : Count
    count = Counting g down left number

    far : z + 3 ≤ to
    far = omega (arith, long)

    here : Context W held w.points w.around w.slot to
    here =
        context_part W held w.points w.around (z + 3) to w.slot to long (omega arith) (omega arith)
        (counting_context W K w.points w.around z to place far first last flag)

    round_follows : LoopCode K.code w (CountedIn z g down) l a b → Did W (suc n) K w.around b (standing K.ground a [] μ m) (loop W.program (next W n) l K.meant count σ)
    unfolding loop labelled carry after LoopIn
    round_follows code = by code
      where
        by : LoopCode K.code w (CountedIn z g down) l a b
            → Did W (suc n) K w.around b (standing K.ground a [] μ m) (loop W.program (next W n) l K.meant count σ)
        by (row.rounds offsets c d f done e head condition_code body back finish_code more) =
            let I = held.ground.hold in
            let less = counting_less W K w.points w.around z to place far first last flag in
            let outer = context_part W K w.points w.around z to w.slot to (omega (arith, long)) (omega arith) (omega arith) place in
            let parts = own_code_joins.splits K.code w (step_code (CountedIn z g down)) (i.JumpBack a ∷ []) f done back in
            let h = parts.0 in
            let v = behind_all K.code (step_code (CountedIn z g down)) w in
            let order = in_order parts.1 in
            let low = in_order head in
            let o1 = run_order (condition_run condition_code) in let o2 = run_order (stmt_run body) in let o3 = in_order back in
            let o4 = run_order (finish_run finish_code) in let o5 = run_order (exits_run more) in
            let rest = inside_part W K.ground a b c b low (omega arith) inside in
            let one = first_held W K w.points w.around z to place far first last flag in
            let two = last_held W K w.points w.around z to place far first last flag in
            let three = flag_held W K w.points w.around z to place far first last flag in
            count_on W n raises held w to here
            (λ x r. Did W (suc n) K w.around b x (labelled_of K.meant.frame (λ j. exits W.program (next W n) es K.meant j) r.answer r.state))
            (λ x y r reaches q. round_later W n exprs K I less w v (CountedIn z g down) count cond s es fin offsets a b c d f h done e x y r reaches q)
            (λ x r τ q. passes W n exprs K I less w v (CountedIn z g down) count cond s es fin offsets a b c d f h done e condition_code body order parts.2 finish_code more
            sound.0 sound.1 sound.2 sound.3 sound.4 sound.5 outer here rest promise finishes x r τ q)
            z g down done left number first last flag a c
            (on_word (condition W.program (next W n) cond K.meant) (λ x. branch (is_true x)
            (on_normal (does W.program (next W n) s K.meant) (spend (λ τ. next W n (Repeat (one_round_less count) l) K.meant τ))) (finish W.program (next W n) fin K.meant)))
            (finish W.program (next W n) fin K.meant) μ m σ head given one two three lies
            (inside_part W K.ground a b a c (omega arith) (omega (arith, o1, o2, o3, o4, o5)) inside) (all_held W K w.points w.around z to place far (suc n) μ m σ now)
            (λ less_one left_is ν q τ agrees.
            round_on W n exprs K I less w v (CountedIn z g down) count cond s es fin offsets a b c d f h done e condition_code body order parts.2 finish_code more
            sound.0 sound.1 sound.2 sound.3 sound.4 sound.5 outer here rest promise finishes
            (λ ξ r υ held_now.
            steps_on W n K I less w.points w.around z to place far g down left number first last flag one two w f h parts.1 lies less_one left_is ξ r υ held_now)
            (λ ξ r υ again rounds.
            before.loop (one_round_less count) l K w (CountedIn z g down) a b ξ r υ code sound (long, given) place inside rounds again)
            follows ν q τ agrees)
            (λ none ν q τ agrees.
            end_on W n exprs K I less w v (CountedIn z g down) count cond s es fin offsets a b c d f h done e condition_code body order parts.2 finish_code more
            sound.0 sound.1 sound.2 sound.3 sound.4 sound.5 outer here rest promise finishes (counted_ends cond z g down) ν q τ agrees)

  -- a counted round begins
  pub counting_follows : (g : Given) (down : Bool) (left number : ℕ) (cond : Condition) (s : Stmt) (es : Exits) (fin : Finish)
      → Follows W n s → ExitsFollow W n es → FinishFollows W n fin
      → LoopFollows W (suc n) (does W.program (next W n)) (Counting g down left number) (LoopOf cond s es fin)
  unfolding does
  counting_follows g down left number cond s es fin follows promise finishes K w NoCounter a b μ m σ code sound lies place inside rounds now = absurd rounds
  counting_follows g down left number cond s es fin follows promise finishes K w (CountedIn z h up) a b μ m σ code sound lies place inside rounds now =
      let l = LoopOf cond s es fin in
      let Q = Did W (suc n) K w.around b (standing K.ground a [] μ m) (loop W.program (next W n) l K.meant (Counting g down left number) σ) in
      let ws = μ K.meant.frame in
      let R = λ (x : Given) (y : Bool). LoopCode K.code w (CountedIn z x y) l a b → GivenIn K.scope x
      → WordsLeft y left number (slots_of ws z) (slots_of ws (z + 1)) (slots_of ws (z + 2)) → Q in
      subst (λ x. R x up) rounds.0
      (subst (λ y. R g y) rounds.1
      (λ code given words. round_follows g down left number cond s es fin follows promise finishes K w z a b μ m σ sound lies.0 given place inside words now code))
      code lies.1 rounds.2

  -- with any count
  pub loop_follows : (c : Count) (cond : Condition) (s : Stmt) (es : Exits) (fin : Finish)
      → Follows W n s → ExitsFollow W n es → FinishFollows W n fin
      → LoopFollows W (suc n) (does W.program (next W n)) c (LoopOf cond s es fin)
  loop_follows Endless cond s es fin follows promise finishes = endless_follows W n exprs before cond s es fin follows promise finishes
  loop_follows (Counting g down left number) cond s es fin follows promise finishes = counting_follows g down left number cond s es fin follows promise finishes

-- The row.

-- what is written into the words of the loop is seen by nobody else
started_agrees : (W : World) (bound : ℕ) (K : Site) (points : Points Destination) (around : List ℕ) (z to : ℕ) (ctx : Context W K points around z to) → z + 3 ≤ to
    → (μ : Frames) (m : Store) (σ : State) (new : List ℕ) (begun : ℕ) → ((k : ℕ) → (k < z) ⊎ (z + 3 ≤ k) → slots_of new k ≡ slots_of (μ K.meant.frame) k)
    → Agrees W bound K.ground μ m σ → Agrees W bound K.ground (with_words μ K.meant.frame new) (record m { begun = begun }) σ
started_agrees W bound K points around z to ctx long μ m σ new begun others agrees =
    let f = K.meant.frame in
    let above = ctx.room.above in
    let named = ap (λ p. hidden_of W p) (named_here W K points around z to ctx bound μ m σ agrees) in
    agreed_free W bound K.ground.control K.ground.hold (heres K.ground) μ m σ f new begun (made_here W K points around z to ctx bound μ m σ agrees)
    (λ k lt. others k (inl (omega (arith, lt, above, named))))
    (λ k u held. ⊎_elim (λ (low : k < z). others k (inl low)) (λ (le : z ≤ k). ⊎_elim
    (λ (lt : k < z + 3). absurd (none-some u (sym (ctx.room.free k le (omega (arith, lt, long))) ∙ held))) (λ (high : z + 3 ≤ k). others k (inr high)) (cases_lt k (z + 3))) (cases_lt k z))
    agrees

module _ (W : World) (n : ℕ) (exprs : ExpressionsFollow W n) where
  -- both bounds are on the operands
  start_on : (g : Given) (down : Bool) (base : Base) (p q : Bool) (size : ℕ) (l : Loop) (K : Site) (w v : Place) (x y c d b : ℕ) (μ : Frames) (m : Store) (σ : State)
      → LoopFollows W (suc n) (does W.program (next W n)) (rounds_of g down (operators.first_of base p x) (operators.beyond base q y)) l
      → Own K.code v (start_code w.slot base p q) c d → LoopCode K.code (beyond (3 + size) w) (CountedIn w.slot g down) l d b → GivenIn K.scope g → LoopIn K.scope l
      → InPlace W K w (3 + size + hidden_loop l) → Inside W K.ground d b → x < 65536 → y < 65536 → Agrees W (suc n) K.ground μ m σ
      → Did W (suc n) K w.around b (standing K.ground c (y ∷ x ∷ []) μ m)
      (loop W.program (next W n) l K.meant (rounds_of g down (operators.first_of base p x) (operators.beyond base q y)) σ)
  unfolding does
  start_on g down base p q size l K w v x y c d b μ m σ follows start code given sound place inside lx ly now =
      let f = K.meant.frame in
      let gs = m.globals K.ground.here.procedure.instance in
      let count = rounds_of g down (operators.first_of base p x) (operators.beyond base q y) in
      let to = w.slot + (3 + size + hidden_loop l) in
      let t = start_works (texts_of W) place.code_of.number gs base p q w.slot x y (μ f) lx ly in
      let wrote = code_writes W K w.points w.around w.slot to place (suc n) μ m σ now start (y ∷ x ∷ []) (record { operands = []; variables = t.new; globals = gs }) t.is refl in
      let ν = with_words μ f t.new in
      let k = record m { begun = wrote.begun } in
      let u = beyond (3 + size) w in
      did_later W (suc n) K w.around b (standing K.ground c (y ∷ x ∷ []) μ m) (standing K.ground d [] ν k) (loop W.program (next W n) l K.meant count σ) wrote.reaches
      (follows K u (CountedIn w.slot g down) d b ν k σ code sound (omega arith, given)
      (context_part W K w.points w.around w.slot to w.slot (u.slot + hidden_loop l) (omega arith) (omega arith) (omega arith) place) inside
      (subst (λ ws. RoundsLeft (CountedIn w.slot g down) count (slots_of ws)) (sym (words_here μ f t.new))
      (rounds_begin g down base p q w.slot x y (slots_of t.new) lx ly t.first t.last t.flag))
      (started_agrees W (suc n) K w.points w.around w.slot to place (omega arith) μ m σ t.new wrote.begun t.others now))

  -- the row of FOR and THROUGH
  pub for_follows : (g : Given) (down : Bool) (base : Base) (interval : Interval) (l : Loop) → ((c : Count) → LoopFollows W (suc n) (does W.program (next W n)) c l)
      → Follows W n (For g down base interval l)
  unfolding does hidden hidden_interval StmtIn IntervalIn carry after on_values on_word
  for_follows g down base (Between x p y q) l follows K w a b μ m σ (row.count c d (row.bounds c1 one two) start code) sound place inside now =
      let P = W.program in
      let size = hidden_expr x + hidden_expr y in
      let all = 3 + size + hidden_loop l in
      let u = meaning.value P (next W n) x K.meant σ in
      let v = meaning.value P (next W n) y K.meant u.state in
      let o1 = run_order (expr_run one) in let o2 = run_order (expr_run two) in let o3 = in_order start in let o4 = run_order (loop_run code) in
      let go = λ (j k : ℕ). loop P (next W n) l K.meant (rounds_of g down (operators.first_of base p j) (operators.beyond base q k)) in
      word_on W (suc n) K w.around (λ s r. Did W (suc n) K w.around b s r) (λ s t r k h. did_later W (suc n) K w.around b s t r k h)
      (λ s a σ h. did_out W (suc n) K w.around b s a σ h) c1 [] (λ j. on_word (meaning.value P (next W n) y K.meant) (go j)) (standing K.ground a [] μ m) u
      (exprs.value x K (beyond 3 w) a_word a c1 [] μ m σ one sound.2.0 (place_part W K w all 3 (hidden_expr x) (omega arith) place)
      (inside_part W K.ground a b a c1 (omega arith) (omega (arith, o2, o3, o4)) inside) now)
      (λ j ν h lj agrees.
      word_on W (suc n) K w.around (λ s r. Did W (suc n) K w.around b s r) (λ s t r k h. did_later W (suc n) K w.around b s t r k h)
      (λ s a σ h. did_out W (suc n) K w.around b s a σ h) c (j ∷ []) (go j) (standing K.ground c1 (j ∷ []) ν h) v
      (exprs.value y K (past x (beyond 3 w)) a_word c1 c (j ∷ []) ν h u.state two sound.2.1
      (context_part W K w.points w.around w.slot (w.slot + all) (w.slot + 3 + hidden_expr x) (w.slot + 3 + hidden_expr x + hidden_expr y) (omega arith) (omega arith) (omega arith) place)
      (inside_part W K.ground a b c1 c o1 (omega (arith, o3, o4)) inside) agrees)
      (λ k ξ r lk agrees.
      start_on g down base p q size l K w (past y (past x w)) j k c d b ξ r v.state (follows (rounds_of g down (operators.first_of base p j) (operators.beyond base q k))) start code
      sound.1 sound.3 place (inside_part W K.ground a b d b (omega (arith, o1, o2, o3)) (omega arith) inside) lj lk agrees))
