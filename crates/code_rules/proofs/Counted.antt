-- In a sound body the arms that a jump says are those that are counted.
use Rattle.std.proofs.Common.{◌≡◌, refl, sym, ◌∙◌, ap, subst, ℕ, zero, suc, ◌<◌, ◌≤◌, List, [], ◌∷◌, map, Contains, Option, Some, None, Bool, true, false, ◌||◌, nat_eq, if◌then◌else◌, eq-eqb, ne_eqb, arith}
use Rattle.std.proofs.lemmas.List.Elements.{Contains-append_right}
use Rattle.mesa_types.specs.declared.types.FieldType.{FieldType}
use Rattle.mesa_types.specs.declared.typed_parts.Label.{Label}
use Rattle.mesa_types.specs.declared.typed_parts.Label.TheVariants.{OnAny, OnUnwind, OnOwn, OnLinked, OnBounds, OnZero}
use Rattle.mesa_types.specs.Typed.{Kind, Kinds, Point, Start, After, At, Leave, point_of, Expr, Number, LongNumber, Literal, Variable, FieldOf, LengthOf, ByteOf, Checked, Converted, Operate, OperateLong, Negate, NegateLong, Relate, RelateLong, Within, WithinLong, Not, AllOf, SomeOf, Construct, Call, Raise, Exprs, NoExprs, AndExpr, Suffixes, NoSuffix, Field, Index, Operations, NoOperation, Then, Interval, Between, Phrase, NoPhrase, Catch, Arms, NoArms, AndArm, Stmt, Null, Marked, Declare, DeclareAs, Assign, Extract, Perform, If, Select, SelectLong, Block, Repeat, For, Jump, ReturnWith, Resume, Reject, Retry, Continue, Stmts, NoStmts, AndStmt, Targets, NoTargets, AndTarget, AndConverted, Cases, Otherwise, AndCase, Tests, NoTests, IfRelated, IfWithin, IfRelatedLong, IfWithinLong, Exits, NoExits, AndExit, Loop, LoopOf, Finish, NoFinish, Finished, Condition, Always, While, Until, Body, Module}
use Rattle.mesa_types.specs.Sound as sound
use Rattle.mesa_types.specs.Sound.{Scope, Seen, LabelsIn, labels_in, scope_of, points_past, IsForRaises, ExprIn, ExprsIn, WordsIn, SuffixesIn, OperationsIn, LongOperationsIn, IntervalIn, LongIntervalIn, PhraseIn, ArmsIn, StmtIn, StmtsIn, TargetsIn, CasesIn, TestsIn, ExitsIn, LoopIn, FinishIn, ConditionIn}
use Rattle.code_rules.specs.Agreement.{seen, IsOutOf, Agrees}
use Rattle.code_rules.specs.Laws.{ScopesAreTold}
use Rattle.code_rules.specs.Points.{Way, NoWay, OutOf, Points, in_marked, in_labelled, in_arm, in_body, is_among}
use Rattle.code_rules.specs.Scopes.{Found, ◌&◌, arms_of, a_jump, visible, the_phrase, and_arm, in_expr, in_exprs, in_suffixes, in_operations, in_interval, in_phrase, in_arms, in_stmt, in_stmts, in_targets, in_cases, in_tests, in_exits, in_loop, in_finish, in_condition, scopes}
use Rattle.code_rules.specs.Told.{a_told_jump, told_expr, told_exprs, told_suffixes, told_operations, told_interval, told_phrase, told_arms, told_stmt, told_stmts, told_targets, told_cases, told_tests, told_exits, told_loop, told_finish, told_condition, told_scopes}
use Rattle.code_rules.proofs.Agreement.{agrees_in_body, agrees_in_marked, agrees_in_labelled, agrees_in_arm}

abbrev Depths : Type 0
Depths = Points (Unit {0})

-- what is known at a place: the ways to its points, and in an arm for raises those of RETRY and CONTINUE
record Known (Γ : Scope) (points : Depths) : Type 0 where
  agrees : Agrees Γ points
  retry : IsForRaises Γ.arm → sound.Reaches Γ 1 (Start Γ.statement)
  continue : IsForRaises Γ.arm → sound.Reaches Γ 1 (After Γ.statement)

-- Labels.

or_true : (b : Bool) → b || true ≡ true
or_true true = refl
or_true false = refl

among : (l : ℕ) (ls : List ℕ) → Contains ls l → is_among l ls ≡ true
among l [] (k, h, e) = absurd (omega (h, arith))
among l (k ∷ ks) (zero, h, e) = ap (λ b. b || is_among l ks) (eq-eqb l k (sym e))
among l (k ∷ ks) (suc n, h, e) = ap (λ b. nat_eq l k || b) (among l ks (n, omega (h, arith), e)) ∙ or_true (nat_eq l k)

not_among : (l low : ℕ) (ls : List ℕ) → ((k : ℕ) → Contains ls k → low ≤ k) → l < low → is_among l ls ≡ false
not_among l low [] all h = refl
not_among l low (k ∷ ks) all h =
    ap (λ b. b || is_among l ks) (ne_eqb l k (λ e. let m : _ = all k (0, omega arith, refl) in omega (m, e, h, arith)))
    ∙ not_among l low ks (λ m c. all m (suc c.0, omega (c.1, arith), c.2)) h

label_seen : (es : Exits) (l : ℕ) → is_among l (labels_in es) ≡ true → visible es l ≡ Some tt
label_seen es l e = ap (λ (b : Bool). let o : Option (Unit {0}) = if b then Some tt else None in o) e

label_unseen : (es : Exits) (l : ℕ) → is_among l (labels_in es) ≡ false → visible es l ≡ None
label_unseen es l e = ap (λ (b : Bool). let o : Option (Unit {0}) = if b then Some tt else None in o) e

-- Places.

one_further : {X : Type 0} (x : X) (xs : List X) (z : X) → Contains xs z → Contains (x ∷ xs) z
one_further x xs z (k, h, e) = (suc k, omega (h, arith), e)

reaches_marked : (Γ : Scope) (n arms : ℕ) (p : Point) → sound.Reaches Γ arms p → sound.Reaches (sound.in_marked n Γ) arms p
unfolding sound.in_marked sound.Reaches
reaches_marked Γ n arms p (depth, c, e) = (
  depth,
  one_further (seen (Start n) Γ.depth) (seen (After n) Γ.depth ∷ Γ.points) (seen p depth)
      (one_further (seen (After n) Γ.depth) Γ.points (seen p depth) c),
  e,
)

reaches_labelled : (Γ : Scope) (past : ℕ) (es : Exits) (arms : ℕ) (p : Point) → sound.Reaches Γ arms p
    → sound.Reaches (sound.in_labelled past es Γ) arms p
unfolding sound.in_labelled sound.Reaches
reaches_labelled Γ past es arms p (depth, c, e) =
    (depth, Contains-append_right (map (λ l. seen (At l) Γ.depth) (labels_in es)) Γ.points (seen p depth) c, e)

known_in_marked : (Γ : Scope) (points : Depths) (n : ℕ) → Known Γ points → Γ.statements ≤ n
    → Known (sound.in_marked n Γ) (in_marked n tt tt points)
unfolding sound.in_marked
known_in_marked Γ points n k l = record {
  agrees = agrees_in_marked Γ points n tt tt k.agrees l;
  retry = λ r. reaches_marked Γ n 1 (Start Γ.statement) (k.retry r);
  continue = λ r. reaches_marked Γ n 1 (After Γ.statement) (k.continue r);
}

known_in_labelled : (Γ : Scope) (points : Depths) (past : ℕ) (es : Exits) → Known Γ points → LabelsIn Γ past es
    → Known (sound.in_labelled past es Γ) (in_labelled (visible es) points)
unfolding sound.in_labelled LabelsIn
known_in_labelled Γ points past es k new = record {
  agrees =
      agrees_in_labelled Γ points past es (visible es) k.agrees new
      (λ l c. (tt, label_seen es l (among l (labels_in es) c)))
      (λ l h. label_unseen es l
      (not_among l Γ.labels (labels_in es) (λ m c. subst (λ m. Γ.labels ≤ m) c.2 ((new.1 c.0 m c.1).0)) h));
  retry = λ r. reaches_labelled Γ past es 1 (Start Γ.statement) (k.retry r);
  continue = λ r. reaches_labelled Γ past es 1 (After Γ.statement) (k.continue r);
}

still_seen : (labels : List Label) (points : List Seen) → IsForRaises labels → points_past labels points ≡ points
unfolding points_past IsForRaises
still_seen [] points r = refl
still_seen (OnAny ∷ ls) points r = refl
still_seen (OnUnwind ∷ ls) points r = absurd r
still_seen (OnOwn k ∷ ls) points r = refl
still_seen (OnLinked k m ∷ ls) points r = refl
still_seen (OnBounds ∷ ls) points r = refl
still_seen (OnZero ∷ ls) points r = refl

one_arm_out : (Γ : Scope) (n : ℕ) (labels : List Label) (p : Point) → IsForRaises labels → sound.Reaches Γ 0 p
    → sound.Reaches (sound.in_arm n labels Γ) 1 p
unfolding sound.in_arm sound.Reaches
one_arm_out Γ n labels p r (depth, c, e) =
    (depth, subst (λ ps. Contains ps (seen p depth)) (sym (still_seen labels Γ.points r)) c, omega (e, arith))

known_in_arm : (Γ : Scope) (points : Depths) (n : ℕ) (labels : List Label) → Known Γ points
    → sound.Reaches Γ 0 (Start n) → sound.Reaches Γ 0 (After n)
    → Known (sound.in_arm n labels Γ) (in_arm points)
unfolding sound.in_arm
known_in_arm Γ points n labels k start after = record {
  agrees = agrees_in_arm Γ points n labels k.agrees;
  retry = λ r. one_arm_out Γ n labels (Start n) r start;
  continue = λ r. one_arm_out Γ n labels (After n) r after;
}

-- Jumps.

arms_counted : (way : Way (Unit {0})) (arms : ℕ) → IsOutOf arms way → arms_of way ≡ arms
arms_counted NoWay arms h = absurd h
arms_counted (OutOf k place) arms h = h

jump_told : (Γ : Scope) (points : Depths) (arms : ℕ) (p : Point) → Known Γ points → sound.Reaches Γ arms p → a_jump points p ≡ a_told_jump arms p
unfolding sound.Reaches
jump_told Γ points arms p k (depth, c, e) =
    ap (λ n. record { jumps = record { point = p; arms = n } ∷ []; phrases = [] }) (arms_counted (points p) arms (k.agrees.ways p depth arms c e))

both : {a b c d : Found} → a ≡ b → c ≡ d → a & c ≡ b & d
both {b = b} {c = c} e f = ap (λ x. x & c) e ∙ ap (λ x. b & x) f

-- The whole tree.

mutual
  unfolding ExprIn in_expr told_expr

  expr_told : (e : Expr) (Γ : Scope) (points : Depths) (ks : Kinds) → Known Γ points → ExprIn Γ e ks → in_expr points e ≡ told_expr e
  expr_told (Number n) Γ ps ks k h = refl
  expr_told (LongNumber n) Γ ps ks k h = refl
  expr_told (Literal n) Γ ps ks k h = refl
  expr_told (Variable v s words) Γ ps ks k (i, j, var, h, w, q) = suffixes_told s Γ ps i j k h
  expr_told (FieldOf e parts) Γ ps ks k (some_parts, i, j, h, fields, q) = expr_told e Γ ps _ k h
  expr_told (LengthOf e) Γ ps ks k (h, q) = expr_told e Γ ps _ k h
  expr_told (ByteOf e i) Γ ps ks k (h, g, q) = both (expr_told e Γ ps _ k h) (expr_told i Γ ps _ k g)
  expr_told (Checked r e) Γ ps ks k (c, h, q) = expr_told e Γ ps _ k h
  expr_told (Converted c e) Γ ps ks k (is, i, j, con, h, q) = expr_told e Γ ps _ k h
  expr_told (Operate e os) Γ ps ks k (h, g, q) = both (expr_told e Γ ps _ k h) (operations_told os Γ ps k g)
  expr_told (OperateLong e os) Γ ps ks k (h, g, q) = both (expr_told e Γ ps _ k h) (long_operations_told os Γ ps k g)
  expr_told (Negate e) Γ ps ks k (h, q) = expr_told e Γ ps _ k h
  expr_told (NegateLong e) Γ ps ks k (h, q) = expr_told e Γ ps _ k h
  expr_told (Relate b o d e) Γ ps ks k (h, g, q) = both (expr_told d Γ ps _ k h) (expr_told e Γ ps _ k g)
  expr_told (RelateLong b o d e) Γ ps ks k (h, g, q) = both (expr_told d Γ ps _ k h) (expr_told e Γ ps _ k g)
  expr_told (Within b e i) Γ ps ks k (h, g, q) = both (expr_told e Γ ps _ k h) (interval_told i Γ ps k g)
  expr_told (WithinLong b e i) Γ ps ks k (h, g, q) = both (expr_told e Γ ps _ k h) (long_interval_told i Γ ps k g)
  expr_told (Not e) Γ ps ks k (h, q) = expr_told e Γ ps _ k h
  expr_told (AllOf es) Γ ps ks k (c, h, q) = words_told es Γ ps k h
  expr_told (SomeOf es) Γ ps ks k (c, h, q) = words_told es Γ ps k h
  expr_told (Construct places es) Γ ps ks k (i, js, all, w, c, h, a, q) = exprs_told es Γ ps js k h
  expr_told (Call c places es words ph) Γ ps ks k (i, js, is, h, a, q, w, g) = both (exprs_told es Γ ps js k h) (phrase_told ph Γ ps k g)
  expr_told (Raise r places es words ph) Γ ps ks k (all, js, is, h, a, w, g) = both (exprs_told es Γ ps js k h) (phrase_told ph Γ ps k g)

  exprs_told : (es : Exprs) (Γ : Scope) (points : Depths) (ks : Kinds) → Known Γ points → ExprsIn Γ es ks → in_exprs points es ≡ told_exprs es
  exprs_told NoExprs Γ ps ks k h = refl
  exprs_told (AndExpr e es) Γ ps ks k (j, js, h, g, q) = both (expr_told e Γ ps _ k h) (exprs_told es Γ ps js k g)

  words_told : (es : Exprs) (Γ : Scope) (points : Depths) → Known Γ points → WordsIn Γ es → in_exprs points es ≡ told_exprs es
  words_told NoExprs Γ ps k h = refl
  words_told (AndExpr e es) Γ ps k (h, g) = both (expr_told e Γ ps _ k h) (words_told es Γ ps k g)

  suffixes_told : (s : Suffixes) (Γ : Scope) (points : Depths) (i j : Kind) → Known Γ points → SuffixesIn Γ s i j
      → in_suffixes points s ≡ told_suffixes s
  suffixes_told NoSuffix Γ ps i j k h = refl
  suffixes_told (Field n offset s) Γ ps i j k (ks, part, q, at, h) = suffixes_told s Γ ps part j k h
  suffixes_told (Index r first n words e s) Γ ps i j k (part, q, w, f, l, c, h, g) = both (expr_told e Γ ps _ k h) (suffixes_told s Γ ps part j k g)

  operations_told : (os : Operations) (Γ : Scope) (points : Depths) → Known Γ points → OperationsIn Γ os
      → in_operations points os ≡ told_operations os
  operations_told NoOperation Γ ps k h = refl
  operations_told (Then r o e os) Γ ps k (c, h, g) = both (expr_told e Γ ps _ k h) (operations_told os Γ ps k g)

  long_operations_told : (os : Operations) (Γ : Scope) (points : Depths) → Known Γ points → LongOperationsIn Γ os
      → in_operations points os ≡ told_operations os
  long_operations_told NoOperation Γ ps k h = refl
  long_operations_told (Then r o e os) Γ ps k (c, n, h, g) = both (expr_told e Γ ps _ k h) (long_operations_told os Γ ps k g)

  interval_told : (i : Interval) (Γ : Scope) (points : Depths) → Known Γ points → IntervalIn Γ i → in_interval points i ≡ told_interval i
  interval_told (Between d p e q) Γ ps k (h, g) = both (expr_told d Γ ps _ k h) (expr_told e Γ ps _ k g)

  long_interval_told : (i : Interval) (Γ : Scope) (points : Depths) → Known Γ points → LongIntervalIn Γ i → in_interval points i ≡ told_interval i
  long_interval_told (Between d p e q) Γ ps k (h, g) = both (expr_told d Γ ps _ k h) (expr_told e Γ ps _ k g)

  phrase_told : (ph : Phrase) (Γ : Scope) (points : Depths) → Known Γ points → PhraseIn Γ ph → in_phrase points ph ≡ told_phrase ph
  phrase_told NoPhrase Γ ps k h = refl
  phrase_told (Catch n arms) Γ ps k (some_arm, start, after, h) = ap (the_phrase n) (arms_told arms Γ ps n k start after h)

  arms_told : (arms : Arms) (Γ : Scope) (points : Depths) (n : ℕ) → Known Γ points → sound.Reaches Γ 0 (Start n) → sound.Reaches Γ 0 (After n)
      → ArmsIn Γ n arms → in_arms points arms ≡ told_arms arms
  arms_told NoArms Γ ps n k start after h = refl
  arms_told (AndArm ls first count s arms) Γ ps n k start after (labels, ks, c, l, g, h, rest) =
      ap (λ x. and_arm ls x (in_arms ps arms))
      (stmt_told s (sound.in_arm n ls Γ) (in_arm ps) (known_in_arm Γ ps n ls k start after) h)
      ∙ ap (λ x. and_arm ls (told_stmt s) x) (arms_told arms Γ ps n k start after rest)

  stmt_told : (s : Stmt) (Γ : Scope) (points : Depths) → Known Γ points → StmtIn Γ s → in_stmt points s ≡ told_stmt s
  stmt_told Null Γ ps k h = refl
  stmt_told (Marked n s) Γ ps k (l, h) = stmt_told s (sound.in_marked n Γ) (in_marked n tt tt ps) (known_in_marked Γ ps n k l) h
  stmt_told (Declare hs kind) Γ ps k h = refl
  stmt_told (DeclareAs hs kind e) Γ ps k (f, d, v, h) = expr_told e Γ ps _ k h
  stmt_told (Assign v s e) Γ ps k (f, i, j, var, h, g) = both (suffixes_told s Γ ps i j k h) (expr_told e Γ ps _ k g)
  stmt_told (Extract true ts e) Γ ps k (f, d, ks, h, g) = both (targets_told ts Γ ps ks k g) (expr_told e Γ ps _ k h)
  stmt_told (Extract false ts e) Γ ps k (f, d, c, ks, h, g) = both (targets_told ts Γ ps ks k g) (expr_told e Γ ps ks k h)
  stmt_told (Perform e) Γ ps k (f, c, ks, h) = expr_told e Γ ps ks k h
  stmt_told (If e s t) Γ ps k (f, h, g, i) = both (expr_told e Γ ps _ k h) (both (stmt_told s Γ ps k g) (stmt_told t Γ ps k i))
  stmt_told (Select e cs) Γ ps k (kind, f, h, c, g) = both (expr_told e Γ ps _ k h) (cases_told cs Γ ps k g)
  stmt_told (SelectLong e cs) Γ ps k (f, h, c, g) = both (expr_told e Γ ps _ k h) (cases_told cs Γ ps k g)
  stmt_told (Block ph ss es) Γ ps k (past, new, h, g, i) =
      let inside : Known (sound.in_labelled past es Γ) (in_labelled (visible es) ps) = known_in_labelled Γ ps past es k new in
      both (phrase_told ph _ _ inside h) (both (stmts_told ss _ _ inside g) (exits_told es Γ ps k i))
  stmt_told (Repeat c l) Γ ps k (f, n, h) = loop_told l Γ ps k h
  stmt_told (For g down b i l) Γ ps k (f, v, h, m) = both (interval_told i Γ ps k h) (loop_told l Γ ps k m)
  stmt_told (Jump arms goal) Γ ps k h = jump_told Γ ps arms (point_of goal) k h
  stmt_told (ReturnWith arms first places es) Γ ps k (f, v, js, r, i, h, a) = both (exprs_told es Γ ps js k h) (jump_told Γ ps arms Leave k r)
  stmt_told (Resume places es) Γ ps k (f, js, all, r, g, h, a) = exprs_told es Γ ps js k h
  stmt_told Reject Γ ps k h = refl
  stmt_told (Retry n) Γ ps k (r, q) = jump_told Γ ps 1 (Start n) k (subst (λ m. sound.Reaches Γ 1 (Start m)) (sym q) (k.retry r))
  stmt_told (Continue n) Γ ps k (r, q) = jump_told Γ ps 1 (After n) k (subst (λ m. sound.Reaches Γ 1 (After m)) (sym q) (k.continue r))

  stmts_told : (ss : Stmts) (Γ : Scope) (points : Depths) → Known Γ points → StmtsIn Γ ss → in_stmts points ss ≡ told_stmts ss
  stmts_told NoStmts Γ ps k h = refl
  stmts_told (AndStmt s ss) Γ ps k (h, g) = both (stmt_told s Γ ps k h) (stmts_told ss Γ ps k g)

  targets_told : (ts : Targets) (Γ : Scope) (points : Depths) (ks : Kinds) → Known Γ points → TargetsIn Γ ts ks
      → in_targets points ts ≡ told_targets ts
  targets_told NoTargets Γ ps ks k h = refl
  targets_told (AndTarget p v s r ts) Γ ps ks k (part, j, at, w, var, h, c, g) = both (suffixes_told s Γ ps j part k h) (targets_told ts Γ ps ks k g)
  targets_told (AndConverted p v s c ts) Γ ps ks k (part, given, j, at, w, is, con, var, h, g) = both (suffixes_told s Γ ps j given k h) (targets_told ts Γ ps ks k g)

  cases_told : (cs : Cases) (Γ : Scope) (points : Depths) → Known Γ points → CasesIn Γ cs → in_cases points cs ≡ told_cases cs
  cases_told (Otherwise s) Γ ps k h = stmt_told s Γ ps k h
  cases_told (AndCase ts s cs) Γ ps k (n, h, g, i) = both (tests_told ts Γ ps k h) (both (stmt_told s Γ ps k g) (cases_told cs Γ ps k i))

  tests_told : (ts : Tests) (Γ : Scope) (points : Depths) → Known Γ points → TestsIn Γ ts → in_tests points ts ≡ told_tests ts
  tests_told NoTests Γ ps k h = refl
  tests_told (IfRelated r b o e ts) Γ ps k (c, h, g) = both (expr_told e Γ ps _ k h) (tests_told ts Γ ps k g)
  tests_told (IfWithin negated b i ts) Γ ps k (h, g) = both (interval_told i Γ ps k h) (tests_told ts Γ ps k g)
  tests_told (IfRelatedLong c b o e ts) Γ ps k (h, g) = both (expr_told e Γ ps _ k h) (tests_told ts Γ ps k g)
  tests_told (IfWithinLong negated c b i ts) Γ ps k (h, g) = both (long_interval_told i Γ ps k h) (tests_told ts Γ ps k g)

  exits_told : (es : Exits) (Γ : Scope) (points : Depths) → Known Γ points → ExitsIn Γ es → in_exits points es ≡ told_exits es
  exits_told NoExits Γ ps k h = refl
  exits_told (AndExit ls s es) Γ ps k (n, h, g) = both (stmt_told s Γ ps k h) (exits_told es Γ ps k g)

  loop_told : (l : Loop) (Γ : Scope) (points : Depths) → Known Γ points → LoopIn Γ l → in_loop points l ≡ told_loop l
  loop_told (LoopOf c s es f) Γ ps k (past, new, h, g, i, j) =
      both (condition_told c Γ ps k h)
      (both (stmt_told s (sound.in_labelled past es Γ) (in_labelled (visible es) ps) (known_in_labelled Γ ps past es k new) g)
      (both (exits_told es Γ ps k i) (finish_told f Γ ps k j)))

  finish_told : (f : Finish) (Γ : Scope) (points : Depths) → Known Γ points → FinishIn Γ f → in_finish points f ≡ told_finish f
  finish_told NoFinish Γ ps k h = refl
  finish_told (Finished s) Γ ps k h = stmt_told s Γ ps k h

  condition_told : (c : Condition) (Γ : Scope) (points : Depths) → Known Γ points → ConditionIn Γ c → in_condition points c ≡ told_condition c
  condition_told Always Γ ps k h = refl
  condition_told (While e) Γ ps k h = expr_told e Γ ps _ k h
  condition_told (Until e) Γ ps k h = expr_told e Γ ps _ k h

known_in_body : (m : Module) (takes gives : List FieldType) (body : Body) → Known (scope_of m takes gives body) (in_body tt)
unfolding scope_of IsForRaises
known_in_body m takes gives body = record { agrees = agrees_in_body m takes gives body tt; retry = λ r. absurd r; continue = λ r. absurd r }

pub scopes_are_told : ScopesAreTold
unfolding scopes told_scopes
scopes_are_told m takes gives body b =
    ap (λ (x : Found). x.phrases) (stmt_told body.does (scope_of m takes gives body) (in_body tt) (known_in_body m takes gives body) b.does)
