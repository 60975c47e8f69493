-- The tests of a SELECT, in order, over the hidden words that hold the selector.
use Rattle.std.proofs.Common.{◌≡◌, ℕ, zero, suc, ◌+◌, ◌<◌, List, [], ◌∷◌, ◌++◌, length, Bool, true, false, Some, refl, sym, ap, ◌∙◌, subst, arith}
use Rattle.std.specs.Prelude.{if◌then◌else◌}
use Rattle.mesa_types.specs.declared.typed_parts.Base.{Base}
use Rattle.mesa_types.specs.declared.typed_parts.Bases.{Bases}
use Rattle.mesa_types.specs.declared.typed_parts.Conversion.{Conversion}
use Rattle.mesa_types.specs.declared.typed_parts.Conversion.TheVariants as conversion
use Rattle.mesa_types.specs.declared.typed_parts.Range.{Range}
use Rattle.mesa_base.specs.declared.relation.Relation.{Relation}
use Rattle.mesa_types.specs.Typed.{Kind, Ordinal, Longs, Expr, Between, Tests, NoTests, IfRelated, IfWithin, IfRelatedLong, IfWithinLong}
use Rattle.mesa_types.specs.Counts.{hidden_expr, hidden_tests, hidden_interval, words_before}
use Rattle.mesa_types.specs.Operators.{differ, related, lies_in, truth, is_true, checked}
use Rattle.mesa_types.specs.Longs.{more_of, less_of, two_words, related_long, lies_in_long, converted}
use Rattle.mesa_types.specs.Sound.{a_word, a_long, ExprIn, TestsIn, IntervalIn, LongIntervalIn, Converts, TestsTake}
use Rattle.code_forms.specs.declared.instruction.Instruction.TheVariants as i
use Rattle.source_meaning.specs.State.{State, Answer, Result, Run, carry, after, give, give_value, give_word, branch, on_values, on_word, on_long}
use Rattle.source_meaning.specs.Signals.{on_tried}
use Rattle.source_meaning.specs.Meaning as meaning
use Rattle.source_meaning.specs.Meaning.{tests}
use Rattle.machine_rules.specs.State.{Store, Stepped}
use Rattle.machine_rules.specs.Words.{words_at, push}
use Rattle.machine_rules.specs.Working.{works, leaves}
use Rattle.code_rules.specs.CodeFor as row
use Rattle.code_rules.specs.CodeFor.{RelatedCode, LiesCode, LongRelatedCode, LongLiesCode}
use Rattle.code_rules.specs.Laws.{behind_all}
use Rattle.code_rules.specs.OwnCode.{check_code, conversion_code, within_code, long_within_code, jump_where}
use Rattle.code_rules.specs.Reading.{Place, Own, scratch, past, deeper, beyond}
use Rattle.code_rules.proofs.Whole.{expr_run, tests_run, related_run, lies_run, long_related_run, long_lies_run, own_code_joins}
use Rattle.agreement_rules.specs.Layout.{slots_of}
use Rattle.agreement_rules.specs.Own as own
use Rattle.agreement_rules.specs.Operators.{words_for, IsTakenBy}
use Rattle.agreement_rules.specs.Own.{Given}
use Rattle.agreement_rules.specs.Reaches.{Reaches}
use Rattle.agreement_rules.proofs.Lifted.{lifted, in_order, reaches_itself}
use Rattle.agreement_rules.proofs.Memory.{same_list, read_long, read_slots}
use Rattle.agreement_laws.specs.World.{World}
use Rattle.agreement_laws.specs.Standing.{Frames}
use Rattle.agreement_laws.specs.Relation.{Agrees, standing}
use Rattle.agreement_laws.specs.Contexts.{Site, Context, InPlace, Inside}
use Rattle.agreement_laws.specs.Answers.{Comes, Answered, Passed}
use Rattle.agreement_laws.specs.Promises.{next, Now, ExpressionsFollow, RaiseFollows, Tested, TestsFollow, HeldAs}
use Rattle.agreement_laws.proofs.Branches.{related_goes}
use Rattle.agreement_laws.proofs.Control.{jump_goes, branch_goes}
use Rattle.agreement_laws.proofs.Following.{word_on, long_on}
use Rattle.agreement_laws.proofs.Going.{comes_later, Keeps, answered_later, passed_answered}
use Rattle.agreement_laws.proofs.LongBranches.{long_related_goes}
use Rattle.agreement_laws.proofs.LongWords.{long_made}
use Rattle.agreement_laws.proofs.Moving.{place_part, place_first, run_order, inside_part}
use Rattle.agreement_laws.proofs.Owning.{Leads, law, own_gives, outcome_on, conversion_on}

pub one_read : (ws : List ℕ) (z x : ℕ) → slots_of ws z ≡ x → words_at ws z 1 ≡ x ∷ []
unfolding slots_of
one_read ws z x e = same_list (words_at ws z 1) (x ∷ []) (read_long ws z 1) (λ n lt. by n lt)
  where
    by : (n : ℕ) → n < length (words_at ws z 1) → slots_of (words_at ws z 1) n ≡ slots_of (x ∷ []) n
    by zero lt = read_slots ws z 1 0 (omega arith) ∙ ap (λ j. slots_of ws j) (omega arith) ∙ e
    by (suc n) lt = let l = read_long ws z 1 in absurd (omega (arith, l, lt))

-- a hidden word that is held is loaded
pub held_loads : (W : World) (K : Site) (w : Place) (hi : ℕ) (ctx : Context W K w.points w.around w.slot hi) (bound : ℕ) (μ : Frames) (m : Store) (σ : State) (z x : ℕ)
    → K.ground.hold K.meant.frame z ≡ Some x → Agrees W bound K.ground μ m σ → Leads W K w hi ctx μ m (i.LoadL z 1 ∷ []) [] (Given (x ∷ []))
unfolding own.Comes own.works_all own.go_on works leaves
held_loads W K w hi ctx bound μ m σ z x held h =
    let vs = μ K.meant.frame in let gs = m.globals K.ground.here.procedure.instance in
    lifted W.image K.code ctx.code_of.number vs gs (i.LoadL z 1 ∷ []) [] (Given (x ∷ []))
    (λ rest. (ap (λ l. push l rest) (one_read vs z x (h.laid.held K.meant.frame z x held)), (λ n k. refl), refl))

two_read : (ws : List ℕ) (z x y : ℕ) → slots_of ws z ≡ x → slots_of ws (z + 1) ≡ y → words_at ws z 2 ≡ x ∷ y ∷ []
unfolding slots_of
two_read ws z x y e d = same_list (words_at ws z 2) (x ∷ y ∷ []) (read_long ws z 2) (λ n lt. by n lt)
  where
    by : (n : ℕ) → n < length (words_at ws z 2) → slots_of (words_at ws z 2) n ≡ slots_of (x ∷ y ∷ []) n
    by zero lt = read_slots ws z 2 0 (omega arith) ∙ ap (λ j. slots_of ws j) (omega arith) ∙ e
    by (suc zero) lt = read_slots ws z 2 1 (omega arith) ∙ d
    by (suc (suc n)) lt = let l = read_long ws z 2 in absurd (omega (arith, l, lt))

-- so are two
held_both_load : (W : World) (K : Site) (w : Place) (hi : ℕ) (ctx : Context W K w.points w.around w.slot hi) (bound : ℕ) (μ : Frames) (m : Store) (σ : State) (z x : ℕ)
    → HeldAs K z Longs x → Agrees W bound K.ground μ m σ → Leads W K w hi ctx μ m (i.LoadL z 2 ∷ []) [] (Given (two_words x))
unfolding own.Comes own.works_all own.go_on works leaves two_words
held_both_load W K w hi ctx bound μ m σ z x held h =
    let vs = μ K.meant.frame in let gs = m.globals K.ground.here.procedure.instance in
    lifted W.image K.code ctx.code_of.number vs gs (i.LoadL z 2 ∷ []) [] (Given (more_of x ∷ less_of x ∷ []))
    (λ rest. (ap (λ l. push l rest) (two_read vs z (more_of x) (less_of x) (h.laid.held K.meant.frame z (more_of x) held.0) (h.laid.held K.meant.frame (z + 1) (less_of x) held.1)), (λ n k. refl), refl))

-- the words that a conversion to a LONG number takes of the selector
held_for : (W : World) (K : Site) (w : Place) (hi : ℕ) (ctx : Context W K w.points w.around w.slot hi) (bound : ℕ) (μ : Frames) (m : Store) (σ : State) (z x : ℕ) (c : Conversion) (k : Kind)
    → Converts c k Longs → HeldAs K z k x → Agrees W bound K.ground μ m σ → Leads W K w hi ctx μ m (i.LoadL z (words_before c) ∷ []) [] (Given (words_for c x))
unfolding Converts words_before words_for
held_for W K w hi ctx bound μ m σ z x conversion.Kept k con held h = held_both_load W K w hi ctx bound μ m σ z x (subst (λ j. HeldAs K z j x) con.0 held) h
held_for W K w hi ctx bound μ m σ z x (conversion.Widened from to) k con held h =
    let one : HeldAs K z Ordinal x = subst (λ j. HeldAs K z j x) con.0 held in held_loads W K w hi ctx bound μ m σ z x one.0 h
held_for W K w hi ctx bound μ m σ z x (conversion.Narrowed from to r) k con held h = absurd (other con.2)
  where
    other : Longs ≡ Ordinal → ⊥
    other e = cc
held_for W K w hi ctx bound μ m σ z x conversion.InCommon k con held h = held_both_load W K w hi ctx bound μ m σ z x (subst (λ j. HeldAs K z j x) con.0 held) h

held_taken : (K : Site) (z x : ℕ) (c : Conversion) (k : Kind) → Converts c k Longs → HeldAs K z k x → IsTakenBy c x
unfolding Converts IsTakenBy
held_taken K z x conversion.Kept k con held = let both : HeldAs K z Longs x = subst (λ j. HeldAs K z j x) con.0 held in both.2
held_taken K z x (conversion.Widened from to) k con held = let one : HeldAs K z Ordinal x = subst (λ j. HeldAs K z j x) con.0 held in one.1
held_taken K z x (conversion.Narrowed from to r) k con held = let both : HeldAs K z Longs x = subst (λ j. HeldAs K z j x) con.1 held in both.2
held_taken K z x conversion.InCommon k con held = let both : HeldAs K z Longs x = subst (λ j. HeldAs K z j x) con.0 held in both.2

as_word : (K : Site) (z x : ℕ) (k : Kind) → k ≡ Ordinal → HeldAs K z k x → HeldAs K z Ordinal x
as_word K z x k e held = subst (λ j. HeldAs K z j x) e held

truth_true : (t : Bool) → is_true (truth t) ≡ t
unfolding is_true truth
truth_true true = refl
truth_true false = refl

differ_turned : (t opposite sense : Bool) → differ t (differ opposite sense) ≡ differ (differ opposite t) sense
unfolding differ
differ_turned true true true = refl
differ_turned true true false = refl
differ_turned true false true = refl
differ_turned true false false = refl
differ_turned false true true = refl
differ_turned false true false = refl
differ_turned false false true = refl
differ_turned false false false = refl

module _ (W : World) (n : ℕ) (exprs : ExpressionsFollow W n) (raises : RaiseFollows W n) (K : Site) (w : Place) (z x : ℕ) (held : K.ground.hold K.meant.frame z ≡ Some x) (small : x < 65536)
    (Q : Stepped → Result → Type 0) (later : (s t : Stepped) (r : Result) → Reaches W.image s t → Q t r → Q s r)
    (out : (s : Stepped) (a : Answer) (σ : State) → Passed W (suc n) K w.around s a σ → Q s (record { answer = a; state = σ })) where
  -- the selector is checked and compared
  related_on : (r : Range) (base : Base) (o : Relation) (e : Expr) (sense : Bool) (target a b : ℕ) (k : Bool → Run) (μ : Frames) (m : Store) (σ : State)
      → RelatedCode K.code w z r base o e sense target a b → ExprIn K.scope e a_word → InPlace W K w (hidden_expr e) → Inside W K.ground a b → Now W (suc n) K μ m σ
      → ((t : Bool) (ν : Frames) (l : Store) (τ : State) → Agrees W (suc n) K.ground ν l τ → Q (standing K.ground (if differ t sense then b else target) [] ν l) (k t τ))
      → Q (standing K.ground a [] μ m)
      (on_tried W.program (next W n) K.meant (checked r x) (λ left. on_word (meaning.value W.program (next W n) e K.meant) (λ right. k (related o base left right))) σ)
  unfolding on_word on_values after carry
  related_on r base o e sense target a b k μ m σ (row.relates c d code second jump) sound place inside now on =
      let hi = w.slot + hidden_expr e in
      let parts = own_code_joins.splits K.code w (i.LoadL z 1 ∷ []) (check_code r) a c code in
      let c0 = parts.0 in
      let v = behind_all K.code (i.LoadL z 1 ∷ []) w in
      let go = λ (left : ℕ). on_word (meaning.value W.program (next W n) e K.meant) (λ right. k (related o base left right)) in
      let g = own_gives W K w hi place (suc n) μ m σ (i.LoadL z 1 ∷ []) a c0 [] (x ∷ []) [] parts.1 (held_loads W K w hi place (suc n) μ m σ z x held now) now in
      let y = meaning.value W.program (next W n) e K.meant σ in
      let first = in_order parts.1 in let check = in_order parts.2 in let mid = run_order (expr_run second) in let last = in_order jump in
      later (standing K.ground a [] μ m) (standing K.ground c0 (x ∷ []) g.frames g.store) (on_tried W.program (next W n) K.meant (checked r x) go σ) g.reaches
      (outcome_on W K v hi place n raises Q later out g.frames g.store σ (check_code r) c0 c (x ∷ []) [] (checked r x) go parts.2 ((law W K v hi place g.frames g.store).check r x)
      (inside_part W K.ground a b c0 c first (omega (arith, mid, last)) inside) g.agrees (λ left ν l e1 agrees.
      word_on W (suc n) K w.around Q later out d (left ∷ []) (λ right. k (related o base left right)) (standing K.ground c (left ∷ []) ν l) y
      (exprs.value e K (deeper 1 w) a_word c d (left ∷ []) ν l σ second sound place (inside_part W K.ground a b c d (omega (arith, first, check)) last inside) agrees)
      (λ right ξ q lt agrees.
      let j = related_goes W (suc n) K (past e (deeper 1 w)) (w.slot + hidden_expr e + 0) (place_part W K w (hidden_expr e) (hidden_expr e) 0 (omega arith) place)
      base o sense target d b left right [] ξ q y.state jump agrees in
      let t = related o base left right in
      later (standing K.ground d (right ∷ left ∷ []) ξ q) (standing K.ground (if differ t sense then b else target) [] j.frames j.store) (k t y.state) j.reaches
      (on t j.frames j.store y.state j.agrees))))

  -- the selector lies in an interval, or it does not
  lies_on : (negated : Bool) (bases : Bases) (e f : Expr) (p q sense : Bool) (target a b : ℕ) (k : Bool → Run) (μ : Frames) (m : Store) (σ : State)
      → LiesCode K.code w z negated bases (Between e p f q) sense target a b → ExprIn K.scope e a_word → ExprIn K.scope f a_word → InPlace W K w (hidden_expr e + hidden_expr f)
      → Inside W K.ground a b → Now W (suc n) K μ m σ
      → ((t : Bool) (ν : Frames) (l : Store) (τ : State) → Agrees W (suc n) K.ground ν l τ → Q (standing K.ground (if differ t sense then b else target) [] ν l) (k t τ))
      → Q (standing K.ground a [] μ m)
      (on_word (meaning.value W.program (next W n) e K.meant) (λ y. on_word (meaning.value W.program (next W n) f K.meant) (λ u. k (differ negated (lies_in bases x p y q u)))) σ)
  unfolding on_word on_values after carry
  lies_on negated bases e f p q sense target a b k μ m σ (row.lies_within c d code (row.bounds c1 one two) jump) sound_one sound_two place inside now on =
      let hi = w.slot + (hidden_expr e + hidden_expr f) in
      let P = W.program in
      let g = own_gives W K w hi place (suc n) μ m σ (i.LoadL z 1 ∷ []) a c [] (x ∷ []) [] code (held_loads W K w hi place (suc n) μ m σ z x held now) now in
      let y0 = meaning.value P (next W n) e K.meant σ in
      let u0 = meaning.value P (next W n) f K.meant y0.state in
      let first = in_order code in let mid = run_order (expr_run one) in let more = run_order (expr_run two) in let last = in_order jump in
      let go = λ (y : ℕ). on_word (meaning.value P (next W n) f K.meant) (λ u. k (differ negated (lies_in bases x p y q u))) in
      let place_two = place_part W K w (hidden_expr e + hidden_expr f) (hidden_expr e) (hidden_expr f) (omega arith) place in
      let v = past f (past e (deeper 1 w)) in
      let end = place_part W K (beyond (hidden_expr e) w) (hidden_expr f) (hidden_expr f) 0 (omega arith) place_two in
      let hv = w.slot + hidden_expr e + hidden_expr f + 0 in
      let parts = own_code_joins.splits K.code v (within_code (scratch K.code) bases p q) (jump_where (differ negated sense) target ∷ []) d b jump in
      let u = behind_all K.code (within_code (scratch K.code) bases p q) v in
      later (standing K.ground a [] μ m) (standing K.ground c (x ∷ []) g.frames g.store) (on_word (meaning.value P (next W n) e K.meant) go σ) g.reaches
      (word_on W (suc n) K w.around Q later out c1 (x ∷ []) go (standing K.ground c (x ∷ []) g.frames g.store) y0
      (exprs.value e K (deeper 1 w) a_word c c1 (x ∷ []) g.frames g.store σ one sound_one (place_first W K w (hidden_expr e + hidden_expr f) (hidden_expr e) (omega arith) place)
      (inside_part W K.ground a b c c1 first (omega (arith, more, last)) inside) g.agrees)
      (λ y ν l ly agrees.
      word_on W (suc n) K w.around Q later out d (y ∷ x ∷ []) (λ u. k (differ negated (lies_in bases x p y q u))) (standing K.ground c1 (y ∷ x ∷ []) ν l) u0
      (exprs.value f K (past e (deeper 1 w)) a_word c1 d (y ∷ x ∷ []) ν l y0.state two sound_two place_two (inside_part W K.ground a b c1 d (omega (arith, first, mid)) last inside) agrees)
      (λ r ξ s lr agrees.
      let t = lies_in bases x p y q r in
      let h = own_gives W K v hv end (suc n) ξ s u0.state (within_code (scratch K.code) bases p q) d parts.0 (x ∷ y ∷ r ∷ []) (truth t ∷ []) [] parts.1
      ((law W K v hv end ξ s).within bases p q x y r small ly lr) agrees in
      let j = branch_goes W K v.points v.around v.slot hv end (suc n) u (differ negated sense) target (truth t) parts.0 b [] h.frames h.store u0.state parts.2 h.agrees in
      let came = comes_later W (suc n) K.ground (if differ (differ negated t) sense then b else target) [] (standing K.ground d (r ∷ y ∷ x ∷ []) ξ s)
      (standing K.ground parts.0 (truth t ∷ []) h.frames h.store) u0.state h.reaches
      (subst (λ o. Comes W (suc n) K.ground (if o then b else target) [] (standing K.ground parts.0 (truth t ∷ []) h.frames h.store) u0.state)
      (ap (λ o. differ o (differ negated sense)) (truth_true t) ∙ differ_turned t negated sense) j) in
      later (standing K.ground d (r ∷ y ∷ x ∷ []) ξ s) (standing K.ground (if differ (differ negated t) sense then b else target) [] came.frames came.store)
      (k (differ negated t) u0.state) came.reaches (on (differ negated t) came.frames came.store u0.state came.agrees))))

module _ (W : World) (n : ℕ) (exprs : ExpressionsFollow W n) (raises : RaiseFollows W n) (K : Site) (w : Place) (z x : ℕ) (kind : Kind) (c : Conversion) (con : Converts c kind Longs) (held : HeldAs K z kind x)
    (Q : Stepped → Result → Type 0) (later : (s t : Stepped) (r : Result) → Reaches W.image s t → Q t r → Q s r)
    (out : (s : Stepped) (a : Answer) (σ : State) → Passed W (suc n) K w.around s a σ → Q s (record { answer = a; state = σ })) where
  -- the selector is made LONG
  made_on : (hi a b : ℕ) (ctx : Context W K w.points w.around w.slot hi) (k : ℕ → Run) (μ : Frames) (m : Store) (σ : State)
      → Own K.code w (i.LoadL z (words_before c) ∷ conversion_code c) a b → Inside W K.ground a b → Now W (suc n) K μ m σ
      → ((left : ℕ) (ν : Frames) (l : Store) → left < 4294967296 → Agrees W (suc n) K.ground ν l σ → Q (standing K.ground b (push (two_words left) []) ν l) (k left σ))
      → Q (standing K.ground a [] μ m) (on_tried W.program (next W n) K.meant (converted c x) k σ)
  made_on hi a b ctx k μ m σ code inside now on =
      let load = i.LoadL z (words_before c) ∷ [] in
      let parts = own_code_joins.splits K.code w load (conversion_code c) a b code in
      let c0 = parts.0 in
      let v = behind_all K.code load w in
      let g = own_gives W K w hi ctx (suc n) μ m σ load a c0 [] (words_for c x) [] parts.1 (held_for W K w hi ctx (suc n) μ m σ z x c kind con held now) now in
      let first = in_order parts.1 in
      later (standing K.ground a [] μ m) (standing K.ground c0 (push (words_for c x) []) g.frames g.store) (on_tried W.program (next W n) K.meant (converted c x) k σ) g.reaches
      (conversion_on W K v hi ctx n raises Q later out g.frames g.store σ c c0 b [] x k parts.2 (held_taken K z x c kind con held)
      (inside_part W K.ground a b c0 b first (omega arith) inside) g.agrees (λ left ν l e agrees.
      let made = long_made c kind x left con (held_taken K z x c kind con held) e in
      subst (λ ws. Q (standing K.ground b (push ws []) ν l) (k left σ)) (sym made.0) (on left ν l made.1 agrees)))

  long_related_on : (base : Base) (o : Relation) (e : Expr) (sense : Bool) (target a b : ℕ) (k : Bool → Run) (μ : Frames) (m : Store) (σ : State)
      → LongRelatedCode K.code w z c base o e sense target a b → ExprIn K.scope e a_long → InPlace W K w (hidden_expr e) → Inside W K.ground a b → Now W (suc n) K μ m σ
      → ((t : Bool) (ν : Frames) (l : Store) (τ : State) → Agrees W (suc n) K.ground ν l τ → Q (standing K.ground (if differ t sense then b else target) [] ν l) (k t τ))
      → Q (standing K.ground a [] μ m)
      (on_tried W.program (next W n) K.meant (converted c x) (λ left. on_long (meaning.value W.program (next W n) e K.meant) (λ right. k (related_long o base left right))) σ)
  unfolding on_long on_values after carry two_words
  long_related_on base o e sense target a b k μ m σ (row.long_relates c1 d code second jump) sound place inside now on =
      let hi = w.slot + hidden_expr e in
      let go = λ (left : ℕ). on_long (meaning.value W.program (next W n) e K.meant) (λ right. k (related_long o base left right)) in
      let y = meaning.value W.program (next W n) e K.meant σ in
      let first = in_order code in let mid = run_order (expr_run second) in let last = in_order jump in
      made_on hi a c1 place go μ m σ code (inside_part W K.ground a b a c1 (omega arith) (omega (arith, mid, last)) inside) now (λ left ν l lx agrees.
      long_on W (suc n) K w.around Q later out d (push (two_words left) []) (λ right. k (related_long o base left right)) (standing K.ground c1 (push (two_words left) []) ν l) y
      (exprs.value e K (deeper 2 w) a_long c1 d (push (two_words left) []) ν l σ second sound place (inside_part W K.ground a b c1 d first last inside) agrees)
      (λ right ξ q ly agrees.
      let j = long_related_goes W (suc n) K (past e (deeper 2 w)) (w.slot + hidden_expr e + 0) (place_part W K w (hidden_expr e) (hidden_expr e) 0 (omega arith) place)
      base o sense target d b left right [] ξ q y.state lx ly jump agrees in
      let t = related_long o base left right in
      later (standing K.ground d (push (two_words right) (push (two_words left) [])) ξ q) (standing K.ground (if differ t sense then b else target) [] j.frames j.store) (k t y.state) j.reaches
      (on t j.frames j.store y.state j.agrees)))

  long_lies_on : (negated : Bool) (bases : Bases) (e f : Expr) (p q sense : Bool) (target a b : ℕ) (k : Bool → Run) (μ : Frames) (m : Store) (σ : State)
      → LongLiesCode K.code w z negated c bases (Between e p f q) sense target a b → ExprIn K.scope e a_long → ExprIn K.scope f a_long → InPlace W K w (hidden_expr e + hidden_expr f)
      → Inside W K.ground a b → Now W (suc n) K μ m σ
      → ((t : Bool) (ν : Frames) (l : Store) (τ : State) → Agrees W (suc n) K.ground ν l τ → Q (standing K.ground (if differ t sense then b else target) [] ν l) (k t τ))
      → Q (standing K.ground a [] μ m)
      (on_tried W.program (next W n) K.meant (converted c x) (λ left. on_long (meaning.value W.program (next W n) e K.meant)
      (λ y. on_long (meaning.value W.program (next W n) f K.meant) (λ u. k (differ negated (lies_in_long bases left p y q u))))) σ)
  unfolding on_long on_values after carry two_words
  long_lies_on negated bases e f p q sense target a b k μ m σ (row.lies_within_long c0 d code (row.bounds c1 one two) jump) sound_one sound_two place inside now on =
      let hi = w.slot + (hidden_expr e + hidden_expr f) in
      let P = W.program in
      let y0 = meaning.value P (next W n) e K.meant σ in
      let u0 = meaning.value P (next W n) f K.meant y0.state in
      let first = in_order code in let mid = run_order (expr_run one) in let more = run_order (expr_run two) in let last = in_order jump in
      let over = λ (left y : ℕ). on_long (meaning.value P (next W n) f K.meant) (λ u. k (differ negated (lies_in_long bases left p y q u))) in
      let go = λ (left : ℕ). on_long (meaning.value P (next W n) e K.meant) (λ y. over left y) in
      let place_two = place_part W K w (hidden_expr e + hidden_expr f) (hidden_expr e) (hidden_expr f) (omega arith) place in
      let v = past f (past e (deeper 2 w)) in
      let end = place_part W K (beyond (hidden_expr e) w) (hidden_expr f) (hidden_expr f) 0 (omega arith) place_two in
      let hv = w.slot + hidden_expr e + hidden_expr f + 0 in
      let within = long_within_code (scratch K.code) bases p q in
      let parts = own_code_joins.splits K.code v within (jump_where (differ negated sense) target ∷ []) d b jump in
      let u = behind_all K.code within v in
      made_on hi a c0 place go μ m σ code (inside_part W K.ground a b a c0 (omega arith) (omega (arith, mid, more, last)) inside) now (λ left ν0 l0 lx agrees0.
      long_on W (suc n) K w.around Q later out c1 (push (two_words left) []) (λ y. over left y) (standing K.ground c0 (push (two_words left) []) ν0 l0) y0
      (exprs.value e K (deeper 2 w) a_long c0 c1 (push (two_words left) []) ν0 l0 σ one sound_one (place_first W K w (hidden_expr e + hidden_expr f) (hidden_expr e) (omega arith) place)
      (inside_part W K.ground a b c0 c1 first (omega (arith, more, last)) inside) agrees0)
      (λ y ν l ly agrees.
      long_on W (suc n) K w.around Q later out d (push (two_words y) (push (two_words left) [])) (λ u. k (differ negated (lies_in_long bases left p y q u)))
      (standing K.ground c1 (push (two_words y) (push (two_words left) [])) ν l) u0
      (exprs.value f K (past e (deeper 2 w)) a_long c1 d (push (two_words y) (push (two_words left) [])) ν l y0.state two sound_two place_two
      (inside_part W K.ground a b c1 d (omega (arith, first, mid)) last inside) agrees)
      (λ r ξ s lr agrees.
      let t = lies_in_long bases left p y q r in
      let ins = two_words left ++ (two_words y ++ two_words r) in
      let h = own_gives W K v hv end (suc n) ξ s u0.state within d parts.0 ins (truth t ∷ []) [] parts.1
      ((law W K v hv end ξ s).long_within bases p q left y r lx ly lr) agrees in
      let j = branch_goes W K v.points v.around v.slot hv end (suc n) u (differ negated sense) target (truth t) parts.0 b [] h.frames h.store u0.state parts.2 h.agrees in
      let came = comes_later W (suc n) K.ground (if differ (differ negated t) sense then b else target) [] (standing K.ground d (push ins []) ξ s)
      (standing K.ground parts.0 (truth t ∷ []) h.frames h.store) u0.state h.reaches
      (subst (λ o. Comes W (suc n) K.ground (if o then b else target) [] (standing K.ground parts.0 (truth t ∷ []) h.frames h.store) u0.state)
      (ap (λ o. differ o (differ negated sense)) (truth_true t) ∙ differ_turned t negated sense) j) in
      later (standing K.ground d (push ins []) ξ s) (standing K.ground (if differ (differ negated t) sense then b else target) [] came.frames came.store)
      (k (differ negated t) u0.state) came.reaches (on (differ negated t) came.frames came.store u0.state came.agrees))))

module _ (W : World) (n : ℕ) (K : Site) (around : List ℕ) (yes no : ℕ) where
  abbrev pub Told : Stepped → Result → Type 0
  Told s r = Answered W (suc n) K around (λ s vs σ. Tested W (suc n) K.ground yes no s vs σ) s r.answer r.state

  tested_keeps : Keeps W (suc n) (λ s vs σ. Tested W (suc n) K.ground yes no s vs σ)
  tested_keeps s t vs σ r h = record { answer = h.answer; is = h.is; comes = comes_later W (suc n) K.ground (if h.answer then yes else no) [] s t σ r h.comes }

  pub told_later : (s t : Stepped) (r : Result) → Reaches W.image s t → Told t r → Told s r
  told_later s t r k h = answered_later W (suc n) K around (λ s vs σ. Tested W (suc n) K.ground yes no s vs σ) tested_keeps s t r.answer r.state k h

  pub told_out : (s : Stepped) (a : Answer) (σ : State) → Passed W (suc n) K around s a σ → Told s (record { answer = a; state = σ })
  told_out s a σ h = passed_answered W (suc n) K around (λ s vs σ. Tested W (suc n) K.ground yes no s vs σ) s a σ h

  -- control has come where the answer leads
  told_here : (t : Bool) (s : Stepped) (σ : State) → Comes W (suc n) K.ground (if t then yes else no) [] s σ → Told s (give_word (truth t) σ)
  unfolding give_word give_value give
  told_here t s σ c = record { answer = t; is = refl; comes = c }

  comes_at : (o : ℕ) (μ : Frames) (m : Store) (σ : State) → Agrees W (suc n) K.ground μ m σ → Comes W (suc n) K.ground o [] (standing K.ground o [] μ m) σ
  comes_at o μ m σ h = record { frames = μ; store = m; agrees = h; reaches = reaches_itself W.image (standing K.ground o [] μ m) }

  -- where a test fits control has jumped; else the others follow
  among : (c : ℕ) (others : Run) (t : Bool) (μ : Frames) (m : Store) (σ : State) → Agrees W (suc n) K.ground μ m σ
      → ((ν : Frames) (l : Store) (τ : State) → Agrees W (suc n) K.ground ν l τ → Told (standing K.ground c [] ν l) (others τ))
      → Told (standing K.ground (if differ t true then c else yes) [] μ m) (branch t (give_word (truth true)) others σ)
  unfolding differ branch
  among c others true μ m σ h on = told_here true (standing K.ground yes [] μ m) σ (comes_at yes μ m σ h)
  among c others false μ m σ h on = on μ m σ h

  -- the last one: control falls to where it fits
  at_last : (t : Bool) (μ : Frames) (m : Store) (σ : State) → Agrees W (suc n) K.ground μ m σ
      → Told (standing K.ground (if differ t false then yes else no) [] μ m) (branch t (give_word (truth true)) (give_word (truth false)) σ)
  unfolding differ branch
  at_last true μ m σ h = told_here true (standing K.ground yes [] μ m) σ (comes_at yes μ m σ h)
  at_last false μ m σ h = told_here false (standing K.ground no [] μ m) σ (comes_at no μ m σ h)

module _ (W : World) (n : ℕ) (exprs : ExpressionsFollow W n) (raises : RaiseFollows W n) where
  pub tests_follow : (ts : Tests) → TestsFollow W n ts
  unfolding tests hidden_tests hidden_interval TestsIn IntervalIn LongIntervalIn TestsTake
  tests_follow NoTests K w kind z x there away a b μ m σ (row.no_test code) sound takes held place inside now =
      told_here W n K w.around there away false (standing K.ground a [] μ m) σ (jump_goes W K w.points w.around w.slot (w.slot + 0) place (suc n) w away a b [] μ m σ code now)
  tests_follow (IfRelated r base o e ts) K w kind z x there away a b μ m σ (row.related c one others) sound takes held place inside now =
      let low = run_order (related_run one) in let high = run_order (tests_run others) in
      let rest = tests W.program (next W n) ts K.meant x in
      related_on W n exprs raises K w z x (as_word K z x kind takes.0 held).0 (as_word K z x kind takes.0 held).1 (Told W n K w.around there away) (told_later W n K w.around there away) (told_out W n K w.around there away)
      r base o e true there a c (λ t. branch t (give_word (truth true)) rest) μ m σ one sound.1
      (place_first W K w (hidden_expr e + hidden_tests ts) (hidden_expr e) (omega arith) place) (inside_part W K.ground a b a c (omega arith) high inside) now
      (λ t ν l τ agrees. among W n K w.around there away c rest t ν l τ agrees (λ ξ q υ agrees.
      tests_follow ts K (beyond (hidden_expr e) w) kind z x there away c b ξ q υ others sound.2 takes.1 held
      (place_part W K w (hidden_expr e + hidden_tests ts) (hidden_expr e) (hidden_tests ts) (omega arith) place) (inside_part W K.ground a b c b low (omega arith) inside) agrees))
  tests_follow (IfRelated r base o e NoTests) K w kind z x there away a b μ m σ (row.related_last one) sound takes held place inside now =
      related_on W n exprs raises K w z x (as_word K z x kind takes.0 held).0 (as_word K z x kind takes.0 held).1 (Told W n K w.around there away) (told_later W n K w.around there away) (told_out W n K w.around there away)
      r base o e false away a b (λ t. branch t (give_word (truth true)) (give_word (truth false))) μ m σ one sound.1
      (place_first W K w (hidden_expr e + 0) (hidden_expr e) (omega arith) place) inside now
      (λ t ν l τ agrees. at_last W n K w.around there away t ν l τ agrees)
  tests_follow (IfWithin negated bases (Between e p f q) ts) K w kind z x there away a b μ m σ (row.lies c one others) sound takes held place inside now =
      let low = run_order (lies_run one) in let high = run_order (tests_run others) in
      let rest = tests W.program (next W n) ts K.meant x in
      let size = hidden_expr e + hidden_expr f in
      lies_on W n exprs raises K w z x (as_word K z x kind takes.0 held).0 (as_word K z x kind takes.0 held).1 (Told W n K w.around there away) (told_later W n K w.around there away) (told_out W n K w.around there away)
      negated bases e f p q true there a c (λ t. branch t (give_word (truth true)) rest) μ m σ one sound.0.0 sound.0.1
      (place_first W K w (size + hidden_tests ts) size (omega arith) place) (inside_part W K.ground a b a c (omega arith) high inside) now
      (λ t ν l τ agrees. among W n K w.around there away c rest t ν l τ agrees (λ ξ q υ agrees.
      tests_follow ts K (beyond size w) kind z x there away c b ξ q υ others sound.1 takes.1 held
      (place_part W K w (size + hidden_tests ts) size (hidden_tests ts) (omega arith) place) (inside_part W K.ground a b c b low (omega arith) inside) agrees))
  tests_follow (IfWithin negated bases (Between e p f q) NoTests) K w kind z x there away a b μ m σ (row.lies_last one) sound takes held place inside now =
      let size = hidden_expr e + hidden_expr f in
      lies_on W n exprs raises K w z x (as_word K z x kind takes.0 held).0 (as_word K z x kind takes.0 held).1 (Told W n K w.around there away) (told_later W n K w.around there away) (told_out W n K w.around there away)
      negated bases e f p q false away a b (λ t. branch t (give_word (truth true)) (give_word (truth false))) μ m σ one sound.0.0 sound.0.1
      (place_first W K w (size + 0) size (omega arith) place) inside now
      (λ t ν l τ agrees. at_last W n K w.around there away t ν l τ agrees)
  tests_follow (IfRelatedLong conversion base o e ts) K w kind z x there away a b μ m σ (row.long_related c one others) sound takes held place inside now =
      let low = run_order (long_related_run one) in let high = run_order (tests_run others) in
      let rest = tests W.program (next W n) ts K.meant x in
      long_related_on W n exprs raises K w z x kind conversion takes.0 held (Told W n K w.around there away) (told_later W n K w.around there away) (told_out W n K w.around there away)
      base o e true there a c (λ t. branch t (give_word (truth true)) rest) μ m σ one sound.0
      (place_first W K w (hidden_expr e + hidden_tests ts) (hidden_expr e) (omega arith) place) (inside_part W K.ground a b a c (omega arith) high inside) now
      (λ t ν l τ agrees. among W n K w.around there away c rest t ν l τ agrees (λ ξ q υ agrees.
      tests_follow ts K (beyond (hidden_expr e) w) kind z x there away c b ξ q υ others sound.1 takes.1 held
      (place_part W K w (hidden_expr e + hidden_tests ts) (hidden_expr e) (hidden_tests ts) (omega arith) place) (inside_part W K.ground a b c b low (omega arith) inside) agrees))
  tests_follow (IfRelatedLong conversion base o e NoTests) K w kind z x there away a b μ m σ (row.long_related_last one) sound takes held place inside now =
      long_related_on W n exprs raises K w z x kind conversion takes.0 held (Told W n K w.around there away) (told_later W n K w.around there away) (told_out W n K w.around there away)
      base o e false away a b (λ t. branch t (give_word (truth true)) (give_word (truth false))) μ m σ one sound.0
      (place_first W K w (hidden_expr e + 0) (hidden_expr e) (omega arith) place) inside now
      (λ t ν l τ agrees. at_last W n K w.around there away t ν l τ agrees)
  tests_follow (IfWithinLong negated conversion bases (Between e p f q) ts) K w kind z x there away a b μ m σ (row.long_lies c one others) sound takes held place inside now =
      let low = run_order (long_lies_run one) in let high = run_order (tests_run others) in
      let rest = tests W.program (next W n) ts K.meant x in
      let size = hidden_expr e + hidden_expr f in
      long_lies_on W n exprs raises K w z x kind conversion takes.0 held (Told W n K w.around there away) (told_later W n K w.around there away) (told_out W n K w.around there away)
      negated bases e f p q true there a c (λ t. branch t (give_word (truth true)) rest) μ m σ one sound.0.0 sound.0.1
      (place_first W K w (size + hidden_tests ts) size (omega arith) place) (inside_part W K.ground a b a c (omega arith) high inside) now
      (λ t ν l τ agrees. among W n K w.around there away c rest t ν l τ agrees (λ ξ q υ agrees.
      tests_follow ts K (beyond size w) kind z x there away c b ξ q υ others sound.1 takes.1 held
      (place_part W K w (size + hidden_tests ts) size (hidden_tests ts) (omega arith) place) (inside_part W K.ground a b c b low (omega arith) inside) agrees))
  tests_follow (IfWithinLong negated conversion bases (Between e p f q) NoTests) K w kind z x there away a b μ m σ (row.long_lies_last one) sound takes held place inside now =
      let size = hidden_expr e + hidden_expr f in
      long_lies_on W n exprs raises K w z x kind conversion takes.0 held (Told W n K w.around there away) (told_later W n K w.around there away) (told_out W n K w.around there away)
      negated bases e f p q false away a b (λ t. branch t (give_word (truth true)) (give_word (truth false))) μ m σ one sound.0.0 sound.0.1
      (place_first W K w (size + 0) size (omega arith) place) inside now
      (λ t ν l τ agrees. at_last W n K w.around there away t ν l τ agrees)
