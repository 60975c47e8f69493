-- The rows of statements but loops, cases and labels: the code of a block stands for a statement where the code of its parts does.
use Rattle.std.proofs.Common.{◌≡◌, refl, sym, ap, subst, subst₂, ℕ, ◌+◌, ◌≤◌, List, [], ◌∷◌, ◌++◌, append_assoc, Bool, true, false, if◌then◌else◌, arith}
use Rattle.mesa_types.specs.declared.typed_parts.Goal.{Goal}
use Rattle.mesa_types.specs.declared.typed_parts.Home.{Home}
use Rattle.mesa_types.specs.declared.typed_parts.Home.TheVariants.{Global, Local}
use Rattle.mesa_types.specs.Typed.{Kind, Kinds, Point, Start, After, Leave, point_of, Expr, Exprs, Suffixes, NoArms, Stmt, Null, Marked, Declare, DeclareAs, Assign, Perform, If, Jump, ReturnWith, Resume, Reject, Retry, Continue, Stmts, NoStmts, AndStmt}
use Rattle.mesa_types.specs.Counts.{hidden, hidden_expr, hidden_suffixes, words_of, words_given}
use Rattle.mesa_types.specs.Shapes.{words_in, one}
use Rattle.mesa_types.specs.Sound as sound
use Rattle.mesa_types.specs.Sound.{Scope, a_word, ExprIn, ExprsIn, SuffixesIn, Reaches}
use Rattle.code_forms.specs.declared.instruction.Instruction.{Instruction}
use Rattle.code_forms.specs.declared.instruction.Instruction.TheVariants as i
use Rattle.code_rules.specs.CodeFor.{with_mark, StmtCode, StmtsCode, ArmsCode, Onward, falls, jumps, null, marked, declare, declare_as, assign, assign_element, perform, if_else, jump, return_with, resume, reject, retry, continue, no_statements, and_statement, no_arms}
use Rattle.code_rules.specs.OwnCode.{pop_code, arrange_code}
use Rattle.code_rules.specs.Points.{OutOf, Points}
use Rattle.code_rules.specs.Reading.{Coded, Destination, Place, Own, no_more, one_more, past, past_all, deeper, beyond, in_region, jump_to}
use Rattle.code_rules.specs.Slots.{local_slot, store, store_within, clear, load, zero_code, copy_code, spread_code, fields_of, sizes}
use Rattle.code_blocks.specs.Blocks as tree
use Rattle.code_blocks.specs.Blocks.{Statement, Here, Anyhow, Does, Ends, Out, Goes, ◌▹◌}
use Rattle.code_blocks.specs.Own.{bytes_in, left_of}
use Rattle.code_blocks.specs.Sizes.{size, depth_behind}
use Rattle.code_blocks.specs.Translation.{has_index, at_element, past_else, forms, values, path, block, blocks}
use Rattle.code_blocks.specs.Writing.{Env, in_part, end_at}
use Rattle.code_blocks.proofs.Known.{Known, way_to, goes_right, known_in_marked}
use Rattle.code_blocks.proofs.Lying.{Laid, laid, both_lie, part_lies, own_lies, out_lies, goes_lies, own_join}
use Rattle.code_blocks.proofs.Own.{all_fixed, own_both, pop_own, arrange_own, store_own, store_within_own, zero_own, spread_own}
use Rattle.code_blocks.proofs.StatementDepths.{zero_left}
use Rattle.code_blocks.proofs.Values.{path_depth, jump_depth}
use Rattle.code_blocks.proofs.ExpressionRows.{L, next, indexed, not_indexed, Value, Jumped, Values, Path, value_then, past_values}

-- own code does not depend on what code there is

module _ (S : Laid) where
  abbrev pub U : Coded
  U = S.names

  abbrev pub P : Coded
  P = laid S

  -- own code sees miss points, nor which hidden words are in use
  pub moved : {w : Place} {is : List Instruction} {a b : ℕ} (points : Points Destination) (slot : ℕ) → Own P w is a b
      → Own P (record w { points = points; slot = slot }) is a b
  moved points slot no_more = no_more
  moved points slot (one_more r o) = one_more r (moved points slot o)

  pub store_same : (h : Home) (offset words : ℕ) → store U h offset words ≡ store P h offset words
  store_same (Local n) offset words = refl
  store_same (Global n) offset words = refl

  pub store_within_same : (h : Home) (words : ℕ) → store_within U h words ≡ store_within P h words
  store_within_same (Local n) words = refl
  store_within_same (Global n) words = refl

  zero_same : (hs : List Home) (words : ℕ) → zero_code U hs words ≡ zero_code P hs words
  zero_same [] words = refl
  zero_same (Local n ∷ hs) words = ap (λ is. i.ZeroL (local_slot U n) words ∷ is) (zero_same hs words)
  zero_same (Global n ∷ hs) words = ap (λ is. clear U (Global n) words ∷ is) (zero_same hs words)

  copy_same : (first : Home) (hs : List Home) (words : ℕ) → copy_code U first hs words ≡ copy_code P first hs words
  copy_same first [] words = refl
  copy_same (Local m) (Local n ∷ hs) words = ap (λ is. load U (Local m) 0 words ∷ store U (Local n) 0 words ∷ is) (copy_same (Local m) hs words)
  copy_same (Local m) (Global n ∷ hs) words = ap (λ is. load U (Local m) 0 words ∷ store U (Global n) 0 words ∷ is) (copy_same (Local m) hs words)
  copy_same (Global m) (Local n ∷ hs) words = ap (λ is. load U (Global m) 0 words ∷ store U (Local n) 0 words ∷ is) (copy_same (Global m) hs words)
  copy_same (Global m) (Global n ∷ hs) words = ap (λ is. load U (Global m) 0 words ∷ store U (Global n) 0 words ∷ is) (copy_same (Global m) hs words)

  spread_same : (hs : List Home) (words : ℕ) → spread_code U hs words ≡ spread_code P hs words
  spread_same [] words = refl
  spread_same (Local n ∷ hs) words = ap (λ is. store U (Local n) 0 words ∷ is) (copy_same (Local n) hs words)
  spread_same (Global n ∷ hs) words = ap (λ is. store U (Global n) 0 words ∷ is) (copy_same (Global n) hs words)

  -- control falls to what follows at once
  pub falls_there : (w : Place) (target a b : ℕ) → target ≡ a → b ≡ a → Onward P w target a b
  falls_there w target a b e f = subst₂ (λ t z. Onward P w t a z) (sym e) (sym f) falls

  pub jumps_there : (w : Place) (part target : ℕ) (E : Env) (a b : ℕ) → end_at E.ends part ≡ target → L S (Out Anyhow part) E w a → b ≡ a + 5
      → Onward P w target a b
  jumps_there w part target E a b at l eq = jumps (out_lies S w Anyhow part target E a b at l eq)

  pub past_else_row : (t : Stmt) (z part : ℕ) (E : Env) (w : Place) (b d miss : ℕ) → end_at E.ends part ≡ b → L S (past_else t part) E w d
      → miss ≡ d + size (past_else t part) → b ≡ miss + size (block U z t) → Onward P w b d miss
  past_else_row Null z part E w b d miss at l eq end = falls_there w b d miss (omega (arith, eq, end)) (omega (arith, eq))
  past_else_row _ z part E w b d miss at l eq end = jumps_there w part b E d miss at l eq

  module _ (Γ : Scope) where
    abbrev pub Stands : Stmt → Type 0
    Stands s = (E : Env) (w : Place) → Known Γ E.points w.points → (a b : ℕ) → L S (block U w.slot s) E w a → b ≡ a + size (block U w.slot s) → StmtCode P w s a b

    abbrev pub AllStand : Stmts → Type 0
    AllStand ss = (E : Env) (w : Place) → Known Γ E.points w.points → (a b : ℕ) → L S (blocks U w.slot ss) E w a → b ≡ a + size (blocks U w.slot ss)
        → StmtsCode P w ss a b

  -- it leaves the operand stack as it was
  abbrev pub Keeps : Stmt → Type 0
  Keeps s = (z d : ℕ) → depth_behind (block U z s) d ≡ d

  pub marked_row : (Γ : Scope) (n : ℕ) (s : Stmt) → Γ.statements ≤ n → Stands (sound.in_marked n Γ) s → Stands Γ (Marked n s)
  marked_row Γ n s le stands E w known a b l eq =
      let e = a + size (block U w.slot s) in
      let x = stands (in_part (Statement n) a e E) (with_mark n a e w)
      (known_in_marked Γ E.points w.points known n a e le) a e (part_lies S (Statement n) (block U w.slot s) E w.around w.depth a l) refl in
      subst (λ z. StmtCode P w (Marked n s) a z) (sym eq) (marked x)

  pub no_arms_row : (E : Env) (w : Place) → ArmsCode P (in_region w) NoArms []
  no_arms_row E w = no_arms

  module _ (Γ : Scope) where
    pub null_row : Stands Γ Null
    null_row E w known a b l eq = subst (λ z. StmtCode P w Null a z) {x = a} {y = b} (omega (arith, eq)) null

    pub declare_row : (hs : List Home) (k : Kind) → Stands Γ (Declare hs k)
    declare_row hs k E w known a b l eq =
        declare (subst (λ is. Own P w is a b) (zero_same hs (words_in k)) (own_lies S w (zero_code U hs (words_in k)) E a b (zero_own U hs (words_in k)) l eq))

    pub declare_as_row : (hs : List Home) (k : Kind) (e : Expr) → ExprIn Γ e (one k) → Value S Γ e → Stands Γ (DeclareAs hs k e)
    declare_as_row hs k e h v E w known a b l eq =
        let zeros = zero_code U hs (words_in k) in
        let spreads = spread_code U hs (words_in k) in
        let x = next S (Does zeros) ((forms U w.slot e).value ▹ Does spreads) E w a w.depth l (zero_left U hs (words_in k) w.depth) in
        let c = a + bytes_in zeros in
        let y = value_then S Γ e (one k) h v spreads (spread_own U hs (words_in k)) E w known c b x.1 (omega (arith, eq)) in
        declare_as c y.0 (subst (λ is. Own P w is a c) (zero_same hs (words_in k)) (own_lies S w zeros E a c (zero_own U hs (words_in k)) x.0 refl)) y.1
        (subst (λ is. Own P (past e w) is y.0 b) (spread_same hs (words_in k)) y.2)

    pub perform_row : (e : Expr) (ks : Kinds) → ExprIn Γ e ks → Value S Γ e → Stands Γ (Perform e)
    perform_row e ks h v E w known a b l eq =
        let x = value_then S Γ e ks h v (pop_code (words_of e)) (pop_own (words_of e)) E w known a b l eq in
        perform x.0 x.1 x.2

    pub assign_row : (h : Home) (s : Suffixes) (e : Expr) (j k : Kind) → SuffixesIn Γ s j k → ExprIn Γ e (one k) → Path S Γ s → Value S Γ e
        → Stands Γ (Assign h s e)
    assign_row h s e j k sound he p v E w known a b l eq = go (has_index s) refl l eq
      where
        after : tree.Block
        after = (forms U (w.slot + hidden_suffixes s) e).value ▹ Does (store_within U h (words_of e) ∷ [])

        X : tree.Block
        X = at_element s (path U w.slot s ▹ after)

        Y : tree.Block
        Y = (forms U w.slot e).value ▹ Does (store U h (fields_of s) (words_of e) ∷ [])

        go : (x : Bool) → has_index s ≡ x → L S (if x then X else Y) E w a → b ≡ a + size (if x then X else Y) → StmtCode P w (Assign h s e) a b
        go true is l eq =
            let c = a + bytes_in (i.Lit (fields_of s) ∷ []) in
            let d = c + size (path U w.slot s) in
            let x = next S (Does (i.Lit (fields_of s) ∷ [])) (path U w.slot s ▹ after) E w a (w.depth + 1) l (omega arith) in
            let y = next S (path U w.slot s) after E (deeper 1 w) c (w.depth + 1) x.1 (path_depth U Γ s j k sound w.slot w.depth) in
            let z = value_then S Γ e (one k) he v (store_within U h (words_of e) ∷ []) (store_within_own U h (words_of e), tt) E
            (deeper 1 (beyond (hidden_suffixes s) w)) known d b y.1 (omega (arith, eq)) in
            assign_element c d z.0 (indexed s is) (own_lies S w (i.Lit (fields_of s) ∷ []) E a c (tt, tt) x.0 refl)
            (p E (deeper 1 w) w.depth refl known c d y.0 refl) z.1
            (subst (λ f. Own P (past e (deeper 1 w)) (f ∷ []) z.0 b) (store_within_same h (words_of e)) (moved w.points (w.slot + hidden_expr e) z.2))
        go false is l eq =
            let x = value_then S Γ e (one k) he v (store U h (fields_of s) (words_of e) ∷ []) (store_own U h (fields_of s) (words_of e), tt) E w known a b l eq in
            assign x.0 (not_indexed s is) x.1 (subst (λ f. Own P (past e w) (f ∷ []) x.0 b) (store_same h (fields_of s) (words_of e)) x.2)

    pub if_row : (e : Expr) (s t : Stmt) → ExprIn Γ e a_word → Jumped S Γ e → Keeps s → Stands Γ s → Stands Γ t → Stands Γ (If e s t)
    if_row e s t h j keeps first second E w known a b l eq =
        let J = (forms U w.slot e).jump false 0 in
        let B = block U (w.slot + hidden_expr e) s in
        let T = block U (w.slot + (hidden_expr e + hidden s)) t in
        let inner = J ▹ B ▹ past_else t 1 in
        let whole = Ends (Here 0) inner ▹ T in
        let E1 = in_part (Here 0) a (a + size whole) E in
        let E2 = in_part (Here 0) a (a + size inner) E1 in
        let x = next S (Ends (Here 0) inner) T E1 w a w.depth (part_lies S (Here 0) whole E w.around w.depth a l) refl in
        let y = next S J (B ▹ past_else t 1) E2 w a w.depth (part_lies S (Here 0) inner E1 w.around w.depth a x.0) (jump_depth U Γ e h false 0 w.slot w.depth) in
        let c = a + size J in
        let u = next S B (past_else t 1) E2 (beyond (hidden_expr e) w) c w.depth y.1 (keeps (w.slot + hidden_expr e) w.depth) in
        let d = c + size B in
        let miss = a + size inner in
        if_else c d miss (j false 0 miss E2 w known a c refl y.0 refl) (first E2 (beyond (hidden_expr e) w) known c d u.0 refl)
        (past_else_row t (w.slot + (hidden_expr e + hidden s)) 1 E2 w b d miss (sym eq) u.1 (omega arith) (omega (arith, eq)))
        (second E1 (beyond (hidden_expr e + hidden s) w) known miss b x.1 (omega (arith, eq)))

    -- a jump to a point that is visible
    goes_row : (arms : ℕ) (p : Point) (E : Env) (w : Place) → Known Γ E.points w.points → Reaches Γ arms p → (a b : ℕ) → L S (Goes arms p) E w a
        → b ≡ a + size (Goes arms p) → (to : Destination) × (w.points p ≡ OutOf arms to) × Own P w (jump_to arms to ∷ []) a b
    goes_row arms p E w known r a b l eq =
        let x = way_to Γ E.points w.points arms p known r in (
          x.0,
          x.1,
          subst (λ y. Own P w (y ∷ []) a b) (goes_right Γ E.points w.points arms p x.0 known x.1) (goes_lies S w arms p E a b l eq),
        )

    pub jump_row : (arms : ℕ) (goal : Goal) → Reaches Γ arms (point_of goal) → Stands Γ (Jump arms goal)
    jump_row arms goal r E w known a b l eq =
        let x = goes_row arms (point_of goal) E w known r a b l eq in
        jump x.0 x.1 x.2

    pub retry_row : (n : ℕ) → Reaches Γ 1 (Start n) → Stands Γ (Retry n)
    retry_row n r E w known a b l eq =
        let x = goes_row 1 (Start n) E w known r a b l eq in
        retry x.0 x.1 x.2

    pub continue_row : (n : ℕ) → Reaches Γ 1 (After n) → Stands Γ (Continue n)
    continue_row n r E w known a b l eq =
        let x = goes_row 1 (After n) E w known r a b l eq in
        continue x.0 x.1 x.2

    pub reject_row : Stands Γ Reject
    reject_row E w known a b l eq = reject (own_lies S w (i.ArmEnd ∷ []) E a b (tt, tt) l eq)

    pub resume_row : (places : List ℕ) (es : Exprs) (ks : Kinds) → ExprsIn Γ es ks → Values S Γ es → Stands Γ (Resume places es)
    resume_row places es ks h vs E w known a b l eq =
        let is = arrange_code places (sizes es) ++ i.Resume (words_given es) ∷ [] in
        let x = past_values S Γ es ks h (Does is) E w a l in
        let c = a + size (values U w.slot es) in
        resume c (vs E w known a c x.0 refl)
        (own_lies S (past_all es w) is E c b (own_both (arrange_code places (sizes es)) _ (arrange_own places (sizes es)) (tt, tt)) x.1 (omega (arith, eq)))

    pub return_row : (arms first : ℕ) (places : List ℕ) (es : Exprs) (ks : Kinds) → Reaches Γ arms Leave → ExprsIn Γ es ks → Values S Γ es
        → Stands Γ (ReturnWith arms first places es)
    return_row arms first places es ks r h vs E w known a b l eq =
        let arranges = arrange_code places (sizes es) in
        let x0 = i.StoreL (local_slot U first) (words_given es) in
        let is = arranges ++ x0 ∷ [] in
        let own = own_both arranges (x0 ∷ []) (arrange_own places (sizes es)) (tt, tt) in
        let m = past_values S Γ es ks h (Does is ▹ Goes arms Leave) E w a l in
        let c = a + size (values U w.slot es) in
        let n = both_lie S (Does is) (Goes arms Leave) E w.around (w.depth + words_given es) c m.1 in
        let d = c + bytes_in is in
        let v = record (past_all es w) { depth = left_of is (w.depth + words_given es) } in
        let g = goes_row arms Leave E v known r d b n.1 (omega (arith, eq)) in
        return_with c g.0 (vs E w known a c m.0 refl) g.1
        (subst (λ js. Own P (past_all es w) js c b) (append_assoc arranges (x0 ∷ []) (jump_to arms g.0 ∷ []))
        (own_join S (past_all es w) is (jump_to arms g.0 ∷ []) c d b (all_fixed is own) (own_lies S (past_all es w) is E c d own n.0 refl) g.2))

    pub no_statements_row : AllStand Γ NoStmts
    no_statements_row E w known a b l eq = subst (λ z. StmtsCode P w NoStmts a z) {x = a} {y = b} (omega (arith, eq)) no_statements

    pub and_statement_row : (s : Stmt) (ss : Stmts) → Keeps s → Stands Γ s → AllStand Γ ss → AllStand Γ (AndStmt s ss)
    and_statement_row s ss keeps first rest E w known a b l eq =
        let x = next S (block U w.slot s) (blocks U (w.slot + hidden s) ss) E w a w.depth l (keeps w.slot w.depth) in
        let c = a + size (block U w.slot s) in
        and_statement c (first E w known a c x.0 refl) (rest E (beyond (hidden s) w) known c b x.1 (omega (arith, eq)))
