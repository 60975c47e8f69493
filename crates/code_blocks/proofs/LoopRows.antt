-- The rows of loops.
use Rattle.std.proofs.Common.{◌≡◌, refl, sym, ap, ◌∙◌, subst, ℕ, ◌+◌, ◌-◌, [], ◌∷◌, ◌++◌, length, append-nil, Some, Bool, true, false, arith}
use Rattle.mesa_types.specs.declared.typed_parts.Base.{Base}
use Rattle.mesa_types.specs.declared.typed_parts.Given.{Given}
use Rattle.mesa_types.specs.declared.typed_parts.Given.TheVariants.{NoVariable, GivenTo}
use Rattle.mesa_types.specs.declared.typed_parts.Home.TheVariants.{Global, Local}
use Rattle.mesa_types.specs.Sound as sound
use Rattle.mesa_types.specs.Sound.{Scope, a_word, LabelsIn, ExprIn}
use Rattle.mesa_types.specs.Typed.{Expr, Between, Stmt, Repeat, Endless, For, Exits, Loop, LoopOf, Finish, NoFinish, Finished, Condition, Always, While, Until}
use Rattle.mesa_types.specs.Counts.{hidden, hidden_condition, hidden_exits, hidden_interval, words_of}
use Rattle.code_forms.specs.declared.instruction.Instruction.TheVariants as i
use Rattle.code_rules.specs.CodeFor.{LoopCode, ConditionCode, FinishCode, label_at, with_labels, rounds, always, while, until, no_finish, finished, never, loop, count}
use Rattle.code_rules.specs.Loops.{Counter, NoCounter, CountedIn, start_code, count_code, give_code, next_slot, step_code}
use Rattle.code_rules.specs.OwnCode.{check_code}
use Rattle.code_rules.specs.Slots.{store}
use Rattle.code_rules.specs.Reading.{Coded, Place, Own, no_more, past, beyond, entry_at, phrases_around}
use Rattle.code_rules.proofs.Depths.{own_code_keeps_words}
use Rattle.code_blocks.specs.Blocks as tree
use Rattle.code_blocks.specs.Blocks.{Here, Where, Does, Ends, Out, Rounds, nothing, ◌▹◌}
use Rattle.code_blocks.specs.Own.{bytes_in, left_of}
use Rattle.code_blocks.specs.Sizes.{size, depth_behind}
use Rattle.code_blocks.specs.Translation.{head_code, gives_next, past_exits, is_endless, unless, block, exits, condition, finish}
use Rattle.code_blocks.specs.Translation as t
use Rattle.code_blocks.specs.Writing.{Env, in_part, end_at, entry, block_code, block_phrases}
use Rattle.code_blocks.proofs.Around.{Spot, split, bare}
use Rattle.code_blocks.proofs.Bytes.{block_bytes}
use Rattle.code_blocks.proofs.Known.{Known, known_more}
use Rattle.code_blocks.proofs.Labels.{are_fresh, known_in_labelled}
use Rattle.code_blocks.proofs.Lying.{Laid, laid, both_lie, part_lies, own_lies, one_stands, own_join, has_parts, inside_block}
use Rattle.code_blocks.proofs.Own.{all_fixed, give_own, start_own, step_own, left_both}
use Rattle.code_blocks.proofs.StatementDepths.{store_left}
use Rattle.code_blocks.proofs.Values.{none, word_is, own_left, behind, jump_depth}
use Rattle.code_blocks.proofs.ExpressionRows.{L, next, Value, Jumped, past_bounds, bounds_row}
use Rattle.code_blocks.proofs.ConditionRows.{own_then_out}
use Rattle.code_blocks.proofs.StatementRows.{Stands, Keeps}
use Rattle.code_blocks.proofs.LabelRows.{ExitsStand, exits_row, past_exits_row}

pub step_left : (k : Counter) (d : ℕ) → left_of (step_code k) d ≡ d
step_left k d = own_left (step_code k) refl (own_code_keeps_words.stepped none k d)

module _ (S : Laid) where
  abbrev pub U : Coded
  U = S.names

  abbrev pub P : Coded
  P = laid S

  -- a round and the jump back behind it
  rounds_lie : (R : tree.Block) (E : Env) (w : Place) (a : ℕ) → L S (Rounds R) E w a
      → L S R E w a × (entry_at P.entries (a + size R) ≡ Some (entry (a + size R) (depth_behind R w.depth) (i.JumpBack a)))
      × (phrases_around (P.routine).phrases (a + size R) ≡ w.around)
  rounds_lie R E w a l =
      let back = entry (a + size R) (depth_behind R w.depth) (i.JumpBack a) ∷ [] in
      let has = has_parts P.entries a (block_code R E a w.depth) back (size R) (block_bytes R E a w.depth) l.has in
      let ps = block_phrases R E a in
      let m = a + size R in
      let b = a + (size R + 5) in
      let s0 : Spot (P.routine).phrases S.found S.written (ps ++ []) l.number a b w.around =
      subst (λ qs. Spot (P.routine).phrases S.found S.written qs l.number a b w.around) (sym (append-nil ps)) l.spot in
      let s = split (P.routine).phrases S.found S.written ps [] l.number a m b w.around s0 (inside_block R E a) tt (omega arith) (omega arith) in (
        record { has = has.0; number = l.number; spot = s.0 },
        (has.1).0,
        bare (P.routine).phrases S.found S.written (l.number + length ps) m b m w.around s.1 (omega arith) (omega arith),
      )

  give_same : (g : Given) (slot : ℕ) → give_code U g slot ≡ give_code P g slot
  give_same NoVariable slot = refl
  give_same (GivenTo (Local n) r) slot = refl
  give_same (GivenTo (Global n) r) slot = refl

  pub give_left : (g : Given) (slot d : ℕ) → left_of (give_code U g slot) d ≡ d
  give_left NoVariable slot d = refl
  give_left (GivenTo h r) slot d =
      left_both (check_code r) (store U h 0 1 ∷ []) (d - 0 + 1)
      ∙ (ap (left_of (store U h 0 1 ∷ [])) (own_left (check_code r) {n = d + 1} (omega arith) (own_code_keeps_words.check none r d)) ∙ store_left U h 0 1 d)

  -- the count at the head of a round
  count_row : (k : Counter) (rest : tree.Block) (E : Env) (w : Place) (done a : ℕ) → end_at E.ends 0 ≡ done → L S (head_code k ▹ gives_next U k ▹ rest) E w a
      → (c : ℕ) × (c ≡ a + (size (head_code k) + size (gives_next U k))) × Own P w (count_code P k done) a c × L S rest E w c
  count_row NoCounter rest E w done a at l =
      let x = both_lie S nothing (nothing ▹ rest) E w.around w.depth a l in
      let y = both_lie S nothing rest E w.around w.depth (a + 0) x.1 in
      (a + 0 + 0, omega arith, subst (λ z. Own P w [] a z) {x = a} {y = a + 0 + 0} (omega arith) no_more, y.1)
  count_row (CountedIn z g down) rest E w done a at l =
      let load = i.LoadL (z + 2) 1 ∷ [] in
      let head = Does load ▹ Out (Where false) 0 in
      let give = give_code U g (next_slot z down) in
      let both = i.LoadL (z + 2) 1 ∷ i.JumpIfNot done ∷ [] in
      let x = next S head (Does give ▹ rest) E w a w.depth l (omega arith) in
      let c = a + size head in
      let y = next S (Does give) rest E w c w.depth x.1 (give_left g (next_slot z down) w.depth) in
      let d = c + bytes_in give in
      let counts = own_then_out S w load (Where false) 0 done E a c (tt, tt) at x.0 refl in
      let gives = subst (λ is. Own P w is c d) (give_same g (next_slot z down)) (own_lies S w give E c d (give_own U g (next_slot z down)) y.0 refl) in
      let same : w.depth ≡ left_of both w.depth = omega arith in (
        d,
        omega arith,
        own_join S w both (give_code P g (next_slot z down)) a c d (tt, (tt, tt)) counts
            (subst (λ n. Own P (record w { depth = n }) (give_code P g (next_slot z down)) c d) same gives),
        y.1,
      )

  -- what is asked before a round
  abbrev pub Asked : Scope → Condition → Type 0
  Asked Γ Always = Unit {0}
  Asked Γ (While e) = ExprIn Γ e a_word × Jumped S Γ e
  Asked Γ (Until e) = ExprIn Γ e a_word × Jumped S Γ e

  condition_depth : (Γ : Scope) (cond : Condition) → Asked Γ cond → (z d : ℕ) → depth_behind (condition U z cond) d ≡ d
  condition_depth Γ Always h z d = refl
  condition_depth Γ (While e) h z d = jump_depth U Γ e h.0 false 0 z d
  condition_depth Γ (Until e) h z d = jump_depth U Γ e h.0 true 0 z d

  condition_row : (Γ : Scope) (cond : Condition) → Asked Γ cond → (E : Env) (w : Place) → Known Γ E.points w.points → (done a b : ℕ) → end_at E.ends 0 ≡ done
      → L S (condition U w.slot cond) E w a → b ≡ a + size (condition U w.slot cond) → ConditionCode P w cond done a b
  condition_row Γ Always h E w known done a b at l eq = subst (λ z. ConditionCode P w Always done a z) {x = a} {y = b} (omega (arith, eq)) always
  condition_row Γ (While e) h E w known done a b at l eq = while (h.1 false 0 done E w known a b at l eq)
  condition_row Γ (Until e) h E w known done a b at l eq = until (h.1 true 0 done E w known a b at l eq)

  -- what is done at the end
  abbrev pub Done : Scope → Finish → Type 0
  Done Γ NoFinish = Unit {0}
  Done Γ (Finished s) = Keeps S s × Stands S Γ s

  ended : (Γ : Scope) (k : Counter) (cond : Condition) (es : Exits) (fin : Finish) → Done Γ fin → (z : ℕ) (before : tree.Block) (E : Env) (w : Place)
      → Known Γ E.points w.points → (a b done g : ℕ) → end_at E.ends 0 ≡ b → L S (finish U w.slot es fin) E w done
      → g ≡ done + size (finish U w.slot es fin) → g ≡ a + size before → b ≡ a + size (exits U z es before) → FinishCode P w k cond fin b done g
  ended Γ k cond es NoFinish h z before E w known a b done g at l eq here end =
      no_finish (past_exits_row S es z 0 before E w a b done g at l eq here end)
  ended Γ k cond es (Finished s) h z before E w known a b done g at l eq here end =
      let B = block U w.slot s in
      let x = next S B (past_exits es 0) E w done w.depth l (h.0 w.slot w.depth) in
      let c = done + size B in
      finished c (h.1 E w known done c x.0 refl) (past_exits_row S es z 0 before E w a b c g at x.1 (omega (arith, eq)) here end)

  finish_row : (Γ : Scope) (k : Counter) (cond : Condition) (es : Exits) (fin : Finish) → Done Γ fin → (z : ℕ) (before : tree.Block) (E : Env) (w : Place)
      → Known Γ E.points w.points → (a b done g : ℕ) → end_at E.ends 0 ≡ b → L S (unless (is_endless k cond) (finish U w.slot es fin)) E w done
      → g ≡ done + size (unless (is_endless k cond) (finish U w.slot es fin)) → g ≡ a + size before → b ≡ a + size (exits U z es before)
      → FinishCode P w k cond fin b done g
  finish_row Γ NoCounter Always es fin h z before E w known a b done g at l eq here end =
      subst (λ o. FinishCode P w NoCounter Always fin b done o) {x = done} {y = g} (omega (arith, eq)) never
  finish_row Γ NoCounter (While e) es fin h z before E w known a b done g at l eq here end =
      ended Γ NoCounter (While e) es fin h z before E w known a b done g at l eq here end
  finish_row Γ NoCounter (Until e) es fin h z before E w known a b done g at l eq here end =
      ended Γ NoCounter (Until e) es fin h z before E w known a b done g at l eq here end
  finish_row Γ (CountedIn x y down) cond es fin h z before E w known a b done g at l eq here end =
      ended Γ (CountedIn x y down) cond es fin h z before E w known a b done g at l eq here end

  abbrev pub Looped : Scope → Counter → Loop → Type 0
  Looped Γ k l = (E : Env) (w : Place) → Known Γ E.points w.points → (a b : ℕ) → L S (t.loop U w.slot k l) E w a → b ≡ a + size (t.loop U w.slot k l)
      → LoopCode P w k l a b

  pub rounds_row : (Γ : Scope) (k : Counter) (cond : Condition) (s : Stmt) (es : Exits) (fin : Finish) (past : ℕ) → LabelsIn Γ past es → Asked Γ cond
      → Keeps S s → Stands S (sound.in_labelled past es Γ) s → ExitsStand S Γ es → Done Γ fin → Looped Γ k (LoopOf cond s es fin)
  rounds_row Γ k cond s es fin past new asked keeps stands exit doing E w known a b l eq =
      let C = condition U w.slot cond in
      let B = block U (w.slot + hidden_condition cond) s in
      let step = Does (step_code k) in
      let R = head_code k ▹ gives_next U k ▹ C ▹ B ▹ step in
      let ending = unless (is_endless k cond) (finish U (w.slot + (hidden_condition cond + hidden s + hidden_exits es)) es fin) in
      let before = Ends (Here 0) (Rounds R) ▹ ending in
      let v = beyond (hidden_condition cond + hidden s) w in
      let whole = exits U v.slot es before in
      let E1 = in_part (Here 0) a (a + size whole) E in
      let r = exits_row S Γ es exit before E1 v known (are_fresh Γ E.points w.points known past es new) a b
      (part_lies S (Here 0) whole E w.around w.depth a l) eq (sym eq) in
      let at_end : end_at (r.inner).ends 0 ≡ b = ap (λ os. end_at os 0) r.ends ∙ sym eq in
      let x = next S (Ends (Here 0) (Rounds R)) ending r.inner w a w.depth r.lies refl in
      let done = a + size (Rounds R) in
      let g = a + size before in
      let E2 = in_part (Here 0) a done r.inner in
      let plainly = known_more Γ E.points w.points known (r.inner).points r.plain in
      let kn = known_in_labelled Γ E.points w.points known past es new (label_at es r.offsets) (record { found = r.found; absent = r.absent })
      (r.inner).points r.labelled in
      let n = rounds_lie R E2 w a (part_lies S (Here 0) (Rounds R) r.inner w.around w.depth a x.0) in
      let m = count_row k (C ▹ B ▹ step) E2 w done a refl n.0 in
      let c = m.0 in
      let y = next S C (B ▹ step) E2 w c w.depth m.3 (condition_depth Γ cond asked w.slot w.depth) in
      let d = c + size C in
      let u = next S B step E2 w d w.depth y.1 (keeps (w.slot + hidden_condition cond) w.depth) in
      let f = d + size B in
      let back = a + size R in
      let steps = own_lies S w (step_code k) E2 f back (step_own k) u.1 (omega (arith, m.1)) in
      let jump = one_stands S (record w { depth = left_of (step_code k) w.depth }) (i.JumpBack a) back done
      (n.1 ∙ ap (λ q. Some (entry back q (i.JumpBack a))) (round_depth Γ k cond s asked keeps w.slot w.depth)) n.2 (omega arith) in
      rounds r.offsets c d f done g m.2 (condition_row Γ cond asked E2 w plainly done c d refl y.0 refl)
      (stands E2 (with_labels es r.offsets (beyond (hidden_condition cond) w)) kn d f u.0 refl)
      (own_join S w (step_code k) (i.JumpBack a ∷ []) f back done (all_fixed (step_code k) (step_own k)) steps jump)
      (finish_row Γ k cond es fin doing v.slot before r.inner (beyond (hidden_condition cond + hidden s + hidden_exits es) w) plainly a b done g at_end x.1
      (omega arith) refl eq)
      r.stand
    where
      head_depth : (k : Counter) (d : ℕ) → depth_behind (gives_next U k) (depth_behind (head_code k) d) ≡ d
      head_depth NoCounter d = refl
      head_depth (CountedIn z g down) d = behind (Does (give_code U g (next_slot z down))) {m = d - 0 + 1 - 1} {n = d} (omega arith)
          (give_left g (next_slot z down) d)

      round_depth : (Γ : Scope) (k : Counter) (cond : Condition) (s : Stmt) → Asked Γ cond → Keeps S s → (z d : ℕ)
          → depth_behind (head_code k ▹ gives_next U k ▹ condition U z cond ▹ block U (z + hidden_condition cond) s ▹ Does (step_code k)) d ≡ left_of (step_code k) d
      round_depth Γ k cond s asked keeps z d =
          ap (λ n. left_of (step_code k) (depth_behind (block U (z + hidden_condition cond) s) (depth_behind (condition U z cond) n))) (head_depth k d)
          ∙ (ap (λ n. left_of (step_code k) (depth_behind (block U (z + hidden_condition cond) s) n)) (condition_depth Γ cond asked z d)
          ∙ ap (left_of (step_code k)) (keeps (z + hidden_condition cond) d))

  pub loop_row : (Γ : Scope) (l : Loop) → Looped Γ NoCounter l → Stands S Γ (Repeat Endless l)
  loop_row Γ l looped E w known a b lies eq = loop (looped E w known a b lies eq)

  pub for_row : (Γ : Scope) (g : Given) (down : Bool) (base : Base) (x y : Expr) (p q : Bool) (l : Loop) → ExprIn Γ x a_word → ExprIn Γ y a_word
      → Value S Γ x → Value S Γ y → ((z : ℕ) → Looped Γ (CountedIn z g down) l) → Stands S Γ (For g down base (Between x p y q) l)
  for_row Γ g down base x y p q l hx hy vx vy looped E w known a b lies eq =
      let z = w.slot in
      let range = Between x p y q in
      let start = start_code z base p q in
      let rest = t.loop U (z + (3 + hidden_interval range)) (CountedIn z g down) l in
      let m = past_bounds S Γ x y p q a_word hx hy (Does start ▹ rest) E (beyond 3 w) a lies in
      let c = a + size (t.bounds U (z + 3) range) in
      let one : words_of x ≡ 1 = word_is Γ x hx in
      let two : words_of y ≡ 1 = word_is Γ y hy in
      let n = next S (Does start) rest E (past y (past x w)) c w.depth m.1 (own_left start {n = w.depth + 2} (omega (arith, one, two))
      (own_code_keeps_words.started none z base p q w.depth)) in
      let d = c + bytes_in start in
      count c d (bounds_row S Γ x y p q a_word hx vx vy E (beyond 3 w) known a c m.0 refl)
      (own_lies S (past y (past x w)) start E c d (start_own z base p q) n.0 refl)
      (looped z E (beyond (3 + hidden_interval range) w) known d b n.1 (omega (arith, eq)))
