-- SELECT: the selector is held in its hidden word, or as a LONG number in two, and control comes to the statement of the first case with a test that fits.
use Rattle.std.proofs.Common.{◌≡◌, ℕ, suc, ◌+◌, ◌<◌, ◌≤◌, List, [], ◌∷◌, length, ⊎_elim, Bool, true, false, None, Some, refl, sym, ap, ◌∙◌, subst, arith}
use Rattle.std.specs.Prelude.{if◌then◌else◌}
use Rattle.std.proofs.lemmas.Bool.{cases_lt}
use Rattle.mesa_types.specs.Typed.{Expr, Stmt, Select, SelectLong, Ordinal, Longs, Cases, Otherwise, AndCase, Tests}
use Rattle.mesa_types.specs.Shapes.{one}
use Rattle.mesa_types.specs.Counts.{hidden, hidden_expr, hidden_cases, hidden_tests}
use Rattle.mesa_types.specs.Operators.{truth, is_true}
use Rattle.mesa_types.specs.Longs.{more_of, less_of, two_words}
use Rattle.mesa_types.specs.Sound.{Selects, CasesTake, a_word, a_long, ExprIn, StmtIn, CasesIn}
use Rattle.mesa_types.proofs.WordSizes.{sizes_agree}
use Rattle.code_forms.specs.declared.instruction.Instruction.TheVariants as i
use Rattle.source_meaning.specs.Value.{nth, word}
use Rattle.source_meaning.specs.Value as value
use Rattle.source_meaning.specs.State.{State, Run, carry, after, branch, on_values, on_word, on_long}
use Rattle.source_meaning.specs.Meaning as meaning
use Rattle.source_meaning.specs.Meaning.{does, cases}
use Rattle.machine_rules.specs.State.{Store, Stepped}
use Rattle.machine_rules.specs.Words.{put_words, push}
use Rattle.machine_rules.specs.Working.{works, stores_local}
use Rattle.code_rules.specs.CodeFor as row
use Rattle.code_rules.specs.OwnCode.{pop_code}
use Rattle.code_rules.specs.Reading.{Place, Own, past, beyond}
use Rattle.code_rules.proofs.Whole.{expr_run, stmt_run, tests_run, cases_run}
use Rattle.agreement_rules.specs.Layout.{slots_of}
use Rattle.agreement_rules.specs.Own.{works_all, go_on}
use Rattle.agreement_rules.proofs.Lifted.{in_order}
use Rattle.agreement_rules.proofs.Memory.{put_here, put_below, put_beyond}
use Rattle.agreement_laws.specs.World.{World, hidden_of}
use Rattle.agreement_laws.specs.Standing.{Frames}
use Rattle.agreement_laws.specs.Relation.{heres, Agrees, standing}
use Rattle.agreement_laws.specs.Contexts.{Site, Context}
use Rattle.agreement_laws.specs.Answers.{Comes}
use Rattle.agreement_laws.specs.Promises.{next, ExpressionsFollow, RaiseFollows, Follows, CasesFollow, Tested}
use Rattle.agreement_laws.proofs.Chained.{held_there, held_still, free_more, hold_more, held_ground, holding_site, context_holding}
use Rattle.agreement_laws.proofs.Codes.{made_here, named_here}
use Rattle.agreement_laws.proofs.Doing.{Did, did_later, did_out, onward_done}
use Rattle.agreement_laws.proofs.Following.{word_on, long_on}
use Rattle.agreement_laws.proofs.Going.{answered_on, values_on}
use Rattle.agreement_laws.proofs.Holding.{OthersSame, agreed_holding, holds_less, done_less}
use Rattle.agreement_laws.proofs.Ifs.{drops}
use Rattle.agreement_laws.proofs.Keeping.{beside_begun}
use Rattle.agreement_laws.proofs.Moving.{context_part, place_part, place_first, run_order, onward_run, inside_part}
use Rattle.agreement_laws.proofs.Owning.{own_gives}
use Rattle.agreement_laws.proofs.Stacks.{with_words, words_here}
use Rattle.agreement_laws.proofs.Tests.{tests_follow}
use Rattle.agreement_laws.proofs.Writing.{code_writes, words_twice}

pub others_same : (ws : List ℕ) (z x : ℕ) → OthersSame z ws (put_words ws z (x ∷ []))
others_same ws z x n non = ⊎_elim
    (λ (lt : n < z). put_below ws z (x ∷ []) n lt)
    (λ (le : z ≤ n). put_beyond ws z (x ∷ []) n (let e : (n ≡ z) → ⊥ = non in above n z le e))
    (cases_lt n z)
  where
    above : (n z : ℕ) → z ≤ n → (n ≡ z → ⊥) → z + 1 ≤ n
    above n z le non = ⊎_elim (λ (lt : z < n). omega (arith, lt)) (λ (ge : n ≤ z). absurd (non (omega (arith, le, ge)))) (cases_lt z n)

pub put_there : (ws : List ℕ) (z x : ℕ) → slots_of (put_words ws z (x ∷ [])) z ≡ x
unfolding slots_of
put_there ws z x = ap (λ j. slots_of (put_words ws z (x ∷ [])) j) (omega arith) ∙ put_here ws z (x ∷ []) 0 (omega arith)

-- the word on top is written into a hidden word, which is held from there on
pub holds_on : (W : World) (K : Site) (w : Place) (to : ℕ) (ctx : Context W K w.points w.around w.slot to) (bound : ℕ) (v : Place) (x a b : ℕ) (μ : Frames) (m : Store) (σ : State)
    → w.slot < to → Own K.code v (i.StoreL w.slot 1 ∷ []) a b → Agrees W bound K.ground μ m σ
    → Comes W bound (held_ground K.ground K.meant.frame w.slot x) b [] (standing K.ground a (x ∷ []) μ m) σ
unfolding works_all go_on works stores_local
holds_on W K w to ctx bound v x a b μ m σ lt code agrees =
    let f = K.meant.frame in
    let new = put_words (μ f) w.slot (x ∷ []) in
    let wrote = code_writes W K w.points w.around w.slot to ctx bound μ m σ agrees code (x ∷ [])
    (record { operands = []; variables = new; globals = m.globals K.ground.here.procedure.instance }) refl refl in
    let above = ctx.room.above in
    let named = ap (λ p. hidden_of W p) (named_here W K w.points w.around w.slot to ctx bound μ m σ agrees) in
    let h = agreed_holding W bound K.ground.control K.ground.hold (heres K.ground) μ m σ f w.slot x new (made_here W K w.points w.around w.slot to ctx bound μ m σ agrees)
    (omega (arith, above, named)) (ctx.room.free w.slot (omega arith) lt) (put_there (μ f) w.slot x) (others_same (μ f) w.slot x) agrees in
    record {
      frames = with_words μ f new;
      store = record m { begun = wrote.begun };
      agrees = record {
        laid = h.laid;
        beside = beside_begun W K.ground.control m σ wrote.begun h.beside;
        count = h.count;
        falling = h.falling;
        named = h.named;
        enough = h.enough;
      };
      reaches = wrote.reaches;
    }

second_there : (ws : List ℕ) (z x y : ℕ) → slots_of (put_words ws z (x ∷ y ∷ [])) (z + 1) ≡ y
unfolding slots_of
second_there ws z x y = put_here ws z (x ∷ y ∷ []) 1 (omega arith)

-- but for the second word, the two written are as the first alone
both_same : (ws : List ℕ) (z x y n : ℕ) → (n ≡ z + 1 → ⊥) → slots_of (put_words ws z (x ∷ y ∷ [])) n ≡ slots_of (put_words ws z (x ∷ [])) n
unfolding slots_of
both_same ws z x y n non = ⊎_elim
    (λ (lt : n < z). put_below ws z (x ∷ y ∷ []) n lt ∙ sym (put_below ws z (x ∷ []) n lt))
    (λ (le : z ≤ n). ⊎_elim
    (λ (lt : n < z + 1). let e : n ≡ z + 0 = omega (arith, lt, le) in
    ap (λ j. slots_of (put_words ws z (x ∷ y ∷ [])) j) e ∙ put_here ws z (x ∷ y ∷ []) 0 (omega arith)
    ∙ sym (put_here ws z (x ∷ []) 0 (omega arith)) ∙ ap (λ j. slots_of (put_words ws z (x ∷ [])) j) (sym e))
    (λ (ge : z + 1 ≤ n). let g : z + 2 ≤ n = beyond_it n z ge non in
    put_beyond ws z (x ∷ y ∷ []) n g ∙ sym (put_beyond ws z (x ∷ []) n (omega (arith, g))))
    (cases_lt n (z + 1)))
    (cases_lt n z)
  where
    beyond_it : (n z : ℕ) → z + 1 ≤ n → (n ≡ z + 1 → ⊥) → z + 2 ≤ n
    beyond_it n z ge non = ⊎_elim (λ (lt : z + 1 < n). omega (arith, lt)) (λ (le : n ≤ z + 1). absurd (non (omega (arith, le, ge)))) (cases_lt (z + 1) n)

-- the two words on top are written into two hidden words, which are held from there on
pub holds_both : (W : World) (K : Site) (w : Place) (to : ℕ) (ctx : Context W K w.points w.around w.slot to) (bound : ℕ) (v : Place) (x a b : ℕ) (μ : Frames) (m : Store) (σ : State)
    → w.slot + 1 < to → Own K.code v (i.StoreL w.slot 2 ∷ []) a b → Agrees W bound K.ground μ m σ
    → Comes W bound (held_ground (held_ground K.ground K.meant.frame w.slot (more_of x)) K.meant.frame (w.slot + 1) (less_of x)) b [] (standing K.ground a (push (two_words x) []) μ m) σ
unfolding works_all go_on works stores_local two_words
holds_both W K w to ctx bound v x a b μ m σ lt code agrees =
    let f = K.meant.frame in
    let z = w.slot in
    let more = more_of x in let less = less_of x in
    let H = K.ground.hold in
    let one = put_words (μ f) z (more ∷ []) in
    let new = put_words (μ f) z (more ∷ less ∷ []) in
    let wrote = code_writes W K w.points w.around w.slot to ctx bound μ m σ agrees code (less ∷ more ∷ [])
    (record { operands = []; variables = new; globals = m.globals K.ground.here.procedure.instance }) refl refl in
    let above = ctx.room.above in
    let named = ap (λ p. hidden_of W p) (named_here W K w.points w.around w.slot to ctx bound μ m σ agrees) in
    let made = made_here W K w.points w.around w.slot to ctx bound μ m σ agrees in
    let h1 = agreed_holding W bound K.ground.control H (heres K.ground) μ m σ f z more one made
    (omega (arith, above, named)) (ctx.room.free z (omega arith) (omega (arith, lt))) (put_there (μ f) z more) (others_same (μ f) z more) agrees in
    let free : hold_more H f z more f (z + 1) ≡ None = free_more H f z more f (z + 1) (z + 2) (λ y a b. ctx.room.free y (omega (arith, a)) (omega (arith, b, lt))) (λ e a b. omega (arith, a)) (z + 1) (omega arith) (omega arith) in
    let h2 = agreed_holding W bound K.ground.control (hold_more H f z more) (heres K.ground) (with_words μ f one) m σ f (z + 1) less new made
    (omega (arith, above, named)) free (second_there (μ f) z more less)
    (λ n non. both_same (μ f) z more less n non ∙ ap (λ ws. slots_of ws n) (sym (words_here μ f one))) h1 in
    let twice : with_words (with_words μ f one) f new ≡ with_words μ f new = λ d g. words_twice μ f one new g d in
    let h = subst (λ ξ. Agrees W bound (held_ground (held_ground K.ground f z more) f (z + 1) less) ξ m σ) twice h2 in
    record {
      frames = with_words μ f new;
      store = record m { begun = wrote.begun };
      agrees = record {
        laid = h.laid;
        beside = beside_begun W K.ground.control m σ wrote.begun h.beside;
        count = h.count;
        falling = h.falling;
        named = h.named;
        enough = h.enough;
      };
      reaches = wrote.reaches;
    }

module _ (W : World) (n : ℕ) where
  pub otherwise_follows : (s : Stmt) → Follows W n s → CasesFollow W n (Otherwise s)
  unfolding cases hidden CasesIn
  otherwise_follows s follows K w k z x a b μ m σ (row.otherwise code) sound takes held place inside now = follows K w a b μ m σ code sound place inside now

  module _ (exprs : ExpressionsFollow W n) where
    pub case_follows : RaiseFollows W n → (ts : Tests) (s : Stmt) (cs : Cases) → Follows W n s → CasesFollow W n cs → CasesFollow W n (AndCase ts s cs)
    unfolding cases does hidden CasesIn CasesTake carry after on_values on_word nth word value.one branch truth is_true
    case_follows raises ts s cs follows others K w kind z x a b μ m σ (row.and_case c d away code first onward rest) sound takes held place inside now =
        let P = W.program in
        let size = hidden_tests ts + hidden s + hidden_cases cs in
        let r = meaning.tests P (next W n) ts K.meant x σ in
        let one = does P (next W n) s K.meant in
        let two = cases P (next W n) cs K.meant x in
        let low = run_order (tests_run code) in let mid = run_order (stmt_run first) in let more = run_order (onward_run onward) in let last = run_order (cases_run rest) in
        answered_on W (suc n) K w.around (λ s r. Did W (suc n) K w.around b s r) (λ s t r k h. did_later W (suc n) K w.around b s t r k h)
        (λ s a σ h. did_out W (suc n) K w.around b s a σ h) (λ s vs σ. Tested W (suc n) K.ground c away s vs σ)
        (λ vs. branch (is_true (word (nth vs 0))) one two) (standing K.ground a [] μ m) r.answer r.state
        (tests_follow W n exprs raises ts K w kind z x c away a c μ m σ code sound.1 takes.0 held (place_first W K w size (hidden_tests ts) (omega arith) place)
        (inside_part W K.ground a b a c (omega arith) (omega (arith, mid, more, last)) inside) now)
        (λ vs t. subst (λ v. Did W (suc n) K w.around b (standing K.ground a [] μ m) (branch (is_true (word (nth v 0))) one two r.state)) (sym t.is)
        (by t.answer (standing K.ground a [] μ m) r.state one two t.comes
        (λ ν l agrees. onward_done W (suc n) K w (w.slot + size) place w b d away (standing K.ground c [] ν l) (one r.state) onward
        (follows K (beyond (hidden_tests ts) w) c d ν l r.state first sound.2 (place_part W K w size (hidden_tests ts) (hidden s) (omega arith) place)
        (inside_part W K.ground a b c d low (omega (arith, more, last)) inside) agrees))
        (λ ν l agrees. others K (beyond (hidden_tests ts + hidden s) w) kind z x away b ν l r.state rest sound.3 takes.1 held
        (place_part W K w size (hidden_tests ts + hidden s) (hidden_cases cs) (omega arith) place)
        (inside_part W K.ground a b away b (omega (arith, low, mid, more)) (omega arith) inside) agrees)))
      where
        by : (t : Bool) (s : Stepped) (σ : State) (one two : Run) → Comes W (suc n) K.ground (if t then c else away) [] s σ
            → ((ν : Frames) (l : Store) → Agrees W (suc n) K.ground ν l σ → Did W (suc n) K w.around b (standing K.ground c [] ν l) (one σ))
            → ((ν : Frames) (l : Store) → Agrees W (suc n) K.ground ν l σ → Did W (suc n) K w.around b (standing K.ground away [] ν l) (two σ))
            → Did W (suc n) K w.around b s (branch (is_true (truth t)) one two σ)
        by true s σ one two h here there = did_later W (suc n) K w.around b s (standing K.ground c [] h.frames h.store) (one σ) h.reaches (here h.frames h.store h.agrees)
        by false s σ one two h here there = did_later W (suc n) K w.around b s (standing K.ground away [] h.frames h.store) (two σ) h.reaches (there h.frames h.store h.agrees)

    -- the row of a SELECT with tests
    pub select_follows : (e : Expr) (ts : Tests) (s : Stmt) (cs : Cases) → CasesFollow W n (AndCase ts s cs) → Follows W n (Select e (AndCase ts s cs))
    unfolding does hidden StmtIn Selects a_word carry after on_values on_word
    select_follows e ts s cs follows K w a b μ m σ (row.select c d code store rest) sound place inside now =
        let P = W.program in
        let size = 1 + hidden_expr e + hidden_cases (AndCase ts s cs) in
        let r = meaning.value P (next W n) e K.meant σ in
        let all = AndCase ts s cs in
        let low = run_order (expr_run code) in let mid = in_order store in let last = run_order (cases_run rest) in
        let sound_word : ExprIn K.scope e a_word = subst (λ k. ExprIn K.scope e (one k)) sound.3.0 sound.2 in
        word_on W (suc n) K w.around (λ s r. Did W (suc n) K w.around b s r) (λ s t r k h. did_later W (suc n) K w.around b s t r k h)
        (λ s a σ h. did_out W (suc n) K w.around b s a σ h) c [] (λ x. cases P (next W n) all K.meant x) (standing K.ground a [] μ m) r
        (exprs.value e K (beyond 1 w) a_word a c [] μ m σ code sound_word (place_part W K w size 1 (hidden_expr e) (omega arith) place)
        (inside_part W K.ground a b a c (omega arith) (omega (arith, mid, last)) inside) now)
        (λ x ν l lt agrees.
        let h = holds_on W K w (w.slot + size) place (suc n) (past e w) x c d ν l r.state (omega arith) store agrees in
        let H = hold_more K.ground.hold K.meant.frame w.slot x in
        let free = place.room.free w.slot (omega arith) (omega arith) in
        let y = cases P (next W n) all K.meant x r.state in
        let inner = context_holding W K w.points w.around w.slot (w.slot + size) x (omega arith) place in
        let K' = holding_site K w.slot x in
        let v = beyond (1 + hidden_expr e) w in
        let done = follows K' v Ordinal w.slot x d b h.frames h.store r.state rest sound.4 sound.3.1 (held_there K.ground.hold K.meant.frame w.slot x, lt)
        (context_part W K' w.points w.around (w.slot + 1) (w.slot + size) (w.slot + (1 + hidden_expr e)) (w.slot + (1 + hidden_expr e) + hidden_cases all)
        (omega arith) (omega arith) (omega arith) inner)
        (inside_part W K.ground a b d b (omega (arith, low, mid)) (omega arith) inside) h.agrees in
        did_later W (suc n) K w.around b (standing K.ground c (x ∷ []) ν l) (standing K.ground d [] h.frames h.store) y h.reaches
        (done_less W (suc n) K H (holds_less K.ground.hold K.meant.frame w.slot x free) w.around b (standing K.ground d [] h.frames h.store) y.answer y.state done))

    -- the same of a LONG selector
    pub select_long_follows : (e : Expr) (ts : Tests) (s : Stmt) (cs : Cases) → CasesFollow W n (AndCase ts s cs) → Follows W n (SelectLong e (AndCase ts s cs))
    unfolding does hidden StmtIn carry after on_values on_long
    select_long_follows e ts s cs follows K w a b μ m σ (row.select_long c d code store rest) sound place inside now =
        let P = W.program in
        let size = 2 + hidden_expr e + hidden_cases (AndCase ts s cs) in
        let r = meaning.value P (next W n) e K.meant σ in
        let all = AndCase ts s cs in
        let low = run_order (expr_run code) in let mid = in_order store in let last = run_order (cases_run rest) in
        long_on W (suc n) K w.around (λ s r. Did W (suc n) K w.around b s r) (λ s t r k h. did_later W (suc n) K w.around b s t r k h)
        (λ s a σ h. did_out W (suc n) K w.around b s a σ h) c [] (λ x. cases P (next W n) all K.meant x) (standing K.ground a [] μ m) r
        (exprs.value e K (beyond 2 w) a_long a c [] μ m σ code sound.1 (place_part W K w size 2 (hidden_expr e) (omega arith) place)
        (inside_part W K.ground a b a c (omega arith) (omega (arith, mid, last)) inside) now)
        (λ x ν l lt agrees.
        let f = K.meant.frame in
        let z = w.slot in
        let more = more_of x in let less = less_of x in
        let h = holds_both W K w (w.slot + size) place (suc n) (past e w) x c d ν l r.state (omega arith) store agrees in
        let H = K.ground.hold in
        let H1 = hold_more H f z more in
        let H2 = hold_more H1 f (z + 1) less in
        let free = place.room.free z (omega arith) (omega arith) in
        let free1 : H1 f (z + 1) ≡ None = free_more H f z more f (z + 1) (z + 2) (λ y a b. place.room.free y (omega (arith, a)) (omega (arith, b))) (λ e a b. omega (arith, a)) (z + 1) (omega arith) (omega arith) in
        let y = cases P (next W n) all K.meant x r.state in
        let K1 = holding_site K z more in
        let K2 = holding_site K1 (z + 1) less in
        let inner1 = context_holding W K w.points w.around z (z + size) more (omega arith) place in
        let inner2 = context_holding W K1 w.points w.around (z + 1) (z + size) less (omega arith) inner1 in
        let v = beyond (2 + hidden_expr e) w in
        let first : H2 f z ≡ Some more = held_still H1 f (z + 1) less f z more free1 (held_there H f z more) in
        let done = follows K2 v Longs z x d b h.frames h.store r.state rest sound.3 sound.2 (first, held_there H1 f (z + 1) less, lt)
        (context_part W K2 w.points w.around (z + 1 + 1) (z + size) (z + (2 + hidden_expr e)) (z + (2 + hidden_expr e) + hidden_cases all)
        (omega arith) (omega arith) (omega arith) inner2)
        (inside_part W K.ground a b d b (omega (arith, low, mid)) (omega arith) inside) h.agrees in
        did_later W (suc n) K w.around b (standing K.ground c (push (two_words x) []) ν l) (standing K.ground d [] h.frames h.store) y h.reaches
        (done_less W (suc n) K H2 (λ g j u e. holds_less H1 f (z + 1) less free1 g j u (holds_less H f z more free g j u e)) w.around b (standing K.ground d [] h.frames h.store) y.answer y.state done))

    -- and of one with none, whose selector may be of any kind
    pub select_none_follows : (e : Expr) (s : Stmt) → Follows W n s → Follows W n (Select e (Otherwise s))
    unfolding does cases hidden StmtIn CasesIn carry after on_values on_word
    select_none_follows e s follows K w a b μ m σ (row.select_none c d code drop rest) sound place inside now =
        let P = W.program in
        let size = 1 + hidden_expr e + hidden s in
        let r = meaning.value P (next W n) e K.meant σ in
        let all = does P (next W n) s K.meant in
        let low = run_order (expr_run code) in let mid = in_order drop in let last = run_order (stmt_run rest) in
        let at = place_part W K w size (1 + hidden_expr e) (hidden s) (omega arith) place in
        let first = place_part W K w size (hidden_expr e) 0 (omega arith) place in
        let hi = w.slot + hidden_expr e + 0 in
        values_on W (suc n) K w.around (λ s r. Did W (suc n) K w.around b s r) (λ s t r k h. did_later W (suc n) K w.around b s t r k h)
        (λ s a σ h. did_out W (suc n) K w.around b s a σ h) (one sound.0) c [] (λ vs. all) (standing K.ground a [] μ m) r
        (exprs.value e K (beyond 1 w) (one sound.0) a c [] μ m σ code sound.2 (place_part W K w size 1 (hidden_expr e) (omega arith) place)
        (inside_part W K.ground a b a c (omega arith) (omega (arith, mid, last)) inside) now)
        (λ vs words ν l shown agrees.
        let g = own_gives W K (past e w) hi first (suc n) ν l r.state (pop_code (length words)) c d words [] []
        (subst (λ k. Own K.code (past e w) (pop_code k) c d) (sizes_agree.of_expression K.scope e (one sound.0) sound.2 ∙ sym shown.size) drop)
        (drops W (suc n) K (past e w) hi first ν l words) agrees in
        did_later W (suc n) K w.around b (standing K.ground c (push words []) ν l) (standing K.ground d [] g.frames g.store) (all r.state) g.reaches
        (follows K (beyond (1 + hidden_expr e) w) d b g.frames g.store r.state rest sound.4 at (inside_part W K.ground a b d b (omega (arith, low, mid)) (omega arith) inside) g.agrees))

    -- and of one with none
    pub select_long_none_follows : (e : Expr) (s : Stmt) → Follows W n s → Follows W n (SelectLong e (Otherwise s))
    unfolding does cases hidden StmtIn CasesIn CasesTake carry after on_values on_long
    select_long_none_follows e s follows K w a b μ m σ (row.select_long_none c d code drop rest) sound place inside now =
        let P = W.program in
        let size = 2 + hidden_expr e + hidden s in
        let r = meaning.value P (next W n) e K.meant σ in
        let all = does P (next W n) s K.meant in
        let low = run_order (expr_run code) in let mid = in_order drop in let last = run_order (stmt_run rest) in
        let at = place_part W K w size (2 + hidden_expr e) (hidden s) (omega arith) place in
        let first = place_part W K w size (hidden_expr e) 0 (omega arith) place in
        let hi = w.slot + hidden_expr e + 0 in
        values_on W (suc n) K w.around (λ s r. Did W (suc n) K w.around b s r) (λ s t r k h. did_later W (suc n) K w.around b s t r k h)
        (λ s a σ h. did_out W (suc n) K w.around b s a σ h) a_long c [] (λ vs. all) (standing K.ground a [] μ m) r
        (exprs.value e K (beyond 2 w) a_long a c [] μ m σ code sound.1 (place_part W K w size 2 (hidden_expr e) (omega arith) place)
        (inside_part W K.ground a b a c (omega arith) (omega (arith, mid, last)) inside) now)
        (λ vs words ν l shown agrees.
        let g = own_gives W K (past e w) hi first (suc n) ν l r.state (pop_code (length words)) c d words [] []
        (subst (λ k. Own K.code (past e w) (pop_code k) c d) (sizes_agree.of_expression K.scope e a_long sound.1 ∙ sym shown.size) drop)
        (drops W (suc n) K (past e w) hi first ν l words) agrees in
        did_later W (suc n) K w.around b (standing K.ground c (push words []) ν l) (standing K.ground d [] g.frames g.store) (all r.state) g.reaches
        (follows K (beyond (2 + hidden_expr e) w) d b g.frames g.store r.state rest sound.3 at (inside_part W K.ground a b d b (omega (arith, low, mid)) (omega arith) inside) g.agrees))
