-- Each part of a sound tree has a node; a statement has at most three hidden words for each of its nodes.
use Rattle.std.proofs.Common.{◌≡◌, ℕ, zero, suc, ◌+◌, ◌-◌, ◌*◌, ◌<◌, ◌≤◌, List, [], ◌∷◌, length, refl, ap, arith}
use Rattle.std.specs.Prelude.{◌≢◌, true, false}
use Rattle.mesa_types.specs.Typed.{Home, PastStatement, ToLabel, ToReturn, Point, Start, point_of, Kinds, Expr, Number, Literal, Variable, FieldOf, LengthOf, ByteOf, Checked, Operate, Negate, Relate, Within, Not, AllOf, SomeOf, Construct, Call, Raise, Exprs, NoExprs, AndExpr, Suffixes, NoSuffix, Field, Index, Operations, NoOperation, Then, Interval, Between, Phrase, NoPhrase, Catch, Arms, NoArms, AndArm, Stmt, Null, Marked, Declare, DeclareAs, Assign, Extract, Perform, If, Select, Block, Repeat, For, Jump, ReturnWith, Resume, Reject, Retry, Continue, Stmts, NoStmts, AndStmt, Targets, NoTargets, AndTarget, Cases, Otherwise, AndCase, Tests, NoTests, IfRelated, IfWithin, Exits, NoExits, AndExit, Loop, LoopOf, Finish, NoFinish, Finished, Condition, Always, While, Until, LongNumber, Converted, OperateLong, NegateLong, RelateLong, WithinLong, SelectLong, AndConverted, IfRelatedLong, IfWithinLong}
use Rattle.mesa_types.specs.Shapes.{one}
use Rattle.mesa_types.specs.Counts.{hidden, hidden_expr, hidden_exprs, hidden_suffixes, hidden_operations, hidden_interval, hidden_phrase, hidden_arms, hidden_stmts, hidden_targets, hidden_cases, hidden_tests, hidden_exits, hidden_loop, hidden_finish, hidden_condition}
use Rattle.mesa_types.specs.Nodes.{count_of, expr_nodes, exprs_nodes, suffixes_nodes, operations_nodes, interval_nodes, phrase_nodes, arms_nodes, stmt_nodes, stmts_nodes, targets_nodes, cases_nodes, tests_nodes, exits_nodes, loop_nodes, finish_nodes, condition_nodes}
use Rattle.mesa_types.specs.Sound.{Scope, ExprIn, ExprsIn, StmtIn}
use Rattle.mesa_types.specs.Laws.{SoundPartsHaveNodes, HiddenWordsAreFew, NoJumpGoesToAStart}

is_start : Point → ℕ
is_start (Start n) = 1
is_start _ = 0

pub no_jump_goes_to_a_start : NoJumpGoesToAStart
unfolding is_start point_of
no_jump_goes_to_a_start (PastStatement m) n e = omega (arith, ap is_start e)
no_jump_goes_to_a_start (ToLabel l) n e = omega (arith, ap is_start e)
no_jump_goes_to_a_start ToReturn n e = omega (arith, ap is_start e)

some_home : (hs : List Home) → hs ≢ [] → 0 < length hs
some_home [] some = absurd (some refl)
some_home (h ∷ hs) some = omega arith

module _ (Γ : Scope) where
  expr_has_node : (e : Expr) (ks : Kinds) → ExprIn Γ e ks → 0 < expr_nodes e
  unfolding ExprIn expr_nodes
  expr_has_node (Number n) ks h = omega arith
  expr_has_node (LongNumber n) ks h = omega arith
  expr_has_node (Literal k) ks h = omega arith
  expr_has_node (Variable v s words) ks h = omega arith
  expr_has_node (FieldOf e parts) ks h = omega arith
  expr_has_node (LengthOf e) ks h = omega arith
  expr_has_node (ByteOf e i) ks h = omega arith
  expr_has_node (Checked r e) ks h = omega arith
  expr_has_node (Converted c e) ks h = omega arith
  expr_has_node (Operate e os) ks h = omega (arith, expr_has_node e _ h.0)
  expr_has_node (OperateLong e os) ks h = omega (arith, expr_has_node e _ h.0)
  expr_has_node (Negate e) ks h = omega arith
  expr_has_node (NegateLong e) ks h = omega arith
  expr_has_node (Relate b o d e) ks h = omega arith
  expr_has_node (RelateLong b o d e) ks h = omega arith
  expr_has_node (Within b e i) ks h = omega arith
  expr_has_node (WithinLong b e i) ks h = omega arith
  expr_has_node (Not e) ks h = omega arith
  expr_has_node (AllOf es) ks h = omega (arith, h.0)
  expr_has_node (SomeOf es) ks h = omega (arith, h.0)
  expr_has_node (Construct places es) ks h = omega arith
  expr_has_node (Call c places es words ph) ks h = omega arith
  expr_has_node (Raise r places es words ph) ks h = omega arith

  values_have_nodes : (es : Exprs) (ks : Kinds) → ExprsIn Γ es ks → count_of es ≤ exprs_nodes es
  unfolding ExprsIn exprs_nodes count_of
  values_have_nodes NoExprs ks h = omega arith
  values_have_nodes (AndExpr e es) ks h = omega (arith, expr_has_node e (one h.0) h.2, values_have_nodes es h.1 h.3)

stmt_has_node : (s : Stmt) (Γ : Scope) → StmtIn Γ s → 0 < stmt_nodes s
unfolding StmtIn stmt_nodes
stmt_has_node Null Γ h = omega arith
stmt_has_node (Marked n s) Γ h = stmt_has_node s _ h.1
stmt_has_node (Declare hs k) Γ h = some_home hs h.0
stmt_has_node (DeclareAs hs k e) Γ h = omega (arith, some_home hs h.1)
stmt_has_node (Assign v s e) Γ h = omega arith
stmt_has_node (Extract of_record ts e) Γ h = omega arith
stmt_has_node (Perform e) Γ h = omega arith
stmt_has_node (If e s t) Γ h = omega arith
stmt_has_node (Select e cs) Γ h = omega arith
stmt_has_node (SelectLong e cs) Γ h = omega arith
stmt_has_node (Block ph ss es) Γ h = omega arith
stmt_has_node (Repeat c l) Γ h = omega arith
stmt_has_node (For g down b i l) Γ h = omega arith
stmt_has_node (Jump arms goal) Γ h = omega arith
stmt_has_node (ReturnWith arms first places es) Γ h = omega arith
stmt_has_node (Resume places es) Γ h = omega arith
stmt_has_node Reject Γ h = omega arith
stmt_has_node (Retry n) Γ h = omega arith
stmt_has_node (Continue n) Γ h = omega arith

pub sound_parts_have_nodes : SoundPartsHaveNodes
sound_parts_have_nodes = record { of_expression = expr_has_node; of_values = values_have_nodes; of_statement = λ Γ s h. stmt_has_node s Γ h }

mutual
  unfolding hidden stmt_nodes expr_nodes suffixes_nodes

  of_expr : (e : Expr) → hidden_expr e ≤ 3 * expr_nodes e
  of_expr (Number n) = omega arith
  of_expr (LongNumber n) = omega arith
  of_expr (Literal k) = omega arith
  of_expr (Variable h s words) = omega (arith, of_suffixes s)
  of_expr (FieldOf e parts) = omega (arith, of_expr e)
  of_expr (LengthOf e) = omega (arith, of_expr e)
  of_expr (ByteOf e i) = omega (arith, of_expr e, of_expr i)
  of_expr (Checked r e) = omega (arith, of_expr e)
  of_expr (Converted c e) = omega (arith, of_expr e)
  of_expr (Operate e os) = omega (arith, of_expr e, of_operations os)
  of_expr (OperateLong e os) = omega (arith, of_expr e, of_operations os)
  of_expr (Negate e) = omega (arith, of_expr e)
  of_expr (NegateLong e) = omega (arith, of_expr e)
  of_expr (Relate b o d e) = omega (arith, of_expr d, of_expr e)
  of_expr (RelateLong b o d e) = omega (arith, of_expr d, of_expr e)
  of_expr (Within b e i) = omega (arith, of_expr e, of_interval i)
  of_expr (WithinLong b e i) = omega (arith, of_expr e, of_interval i)
  of_expr (Not e) = omega (arith, of_expr e)
  of_expr (AllOf es) = omega (arith, of_exprs es)
  of_expr (SomeOf es) = omega (arith, of_exprs es)
  of_expr (Construct places es) = omega (arith, of_exprs es)
  of_expr (Call c places es words ph) = omega (arith, of_exprs es, of_phrase ph)
  of_expr (Raise r places es words ph) = omega (arith, of_exprs es, of_phrase ph)

  of_exprs : (es : Exprs) → hidden_exprs es ≤ 3 * exprs_nodes es
  of_exprs NoExprs = omega arith
  of_exprs (AndExpr e es) = omega (arith, of_expr e, of_exprs es)

  of_suffixes : (s : Suffixes) → hidden_suffixes s ≤ 3 * suffixes_nodes s
  of_suffixes NoSuffix = omega arith
  of_suffixes (Field k offset s) = of_suffixes s
  of_suffixes (Index r first n words e s) = omega (arith, of_expr e, of_suffixes s)

  of_operations : (os : Operations) → hidden_operations os ≤ 3 * operations_nodes os
  of_operations NoOperation = omega arith
  of_operations (Then r o e os) = omega (arith, of_expr e, of_operations os)

  of_interval : (i : Interval) → hidden_interval i ≤ 3 * interval_nodes i
  of_interval (Between d p e q) = omega (arith, of_expr d, of_expr e)

  of_phrase : (ph : Phrase) → hidden_phrase ph ≤ 3 * phrase_nodes ph
  of_phrase NoPhrase = omega arith
  of_phrase (Catch n arms) = of_arms arms

  of_arms : (arms : Arms) → hidden_arms arms ≤ 3 * arms_nodes arms
  of_arms NoArms = omega arith
  of_arms (AndArm ls first count s arms) = omega (arith, of_stmt s, of_arms arms)

  of_stmt : (s : Stmt) → hidden s ≤ 3 * stmt_nodes s
  of_stmt Null = omega arith
  of_stmt (Marked n s) = of_stmt s
  of_stmt (Declare hs k) = omega arith
  of_stmt (DeclareAs hs k e) = omega (arith, of_expr e)
  of_stmt (Assign h s e) = omega (arith, of_suffixes s, of_expr e)
  of_stmt (Extract of_record ts e) = omega (arith, of_targets ts, of_expr e)
  of_stmt (Perform e) = omega (arith, of_expr e)
  of_stmt (If e s t) = omega (arith, of_expr e, of_stmt s, of_stmt t)
  of_stmt (Select e cs) = omega (arith, of_expr e, of_cases cs)
  of_stmt (SelectLong e cs) = omega (arith, of_expr e, of_cases cs)
  of_stmt (Block ph ss es) = omega (arith, of_phrase ph, of_stmts ss, of_exits es)
  of_stmt (Repeat c l) = omega (arith, of_loop l)
  of_stmt (For g down b i l) = omega (arith, of_interval i, of_loop l)
  of_stmt (Jump arms goal) = omega arith
  of_stmt (ReturnWith arms first places es) = omega (arith, of_exprs es)
  of_stmt (Resume places es) = omega (arith, of_exprs es)
  of_stmt Reject = omega arith
  of_stmt (Retry n) = omega arith
  of_stmt (Continue n) = omega arith

  of_stmts : (ss : Stmts) → hidden_stmts ss ≤ 3 * stmts_nodes ss
  of_stmts NoStmts = omega arith
  of_stmts (AndStmt s ss) = omega (arith, of_stmt s, of_stmts ss)

  of_targets : (ts : Targets) → hidden_targets ts ≤ 3 * targets_nodes ts
  of_targets NoTargets = omega arith
  of_targets (AndTarget p h s r ts) = omega (arith, of_suffixes s, of_targets ts)
  of_targets (AndConverted p h s c ts) = omega (arith, of_suffixes s, of_targets ts)

  of_cases : (cs : Cases) → hidden_cases cs ≤ 3 * cases_nodes cs
  of_cases (Otherwise s) = of_stmt s
  of_cases (AndCase ts s cs) = omega (arith, of_tests ts, of_stmt s, of_cases cs)

  of_tests : (ts : Tests) → hidden_tests ts ≤ 3 * tests_nodes ts
  of_tests NoTests = omega arith
  of_tests (IfRelated r b o e ts) = omega (arith, of_expr e, of_tests ts)
  of_tests (IfRelatedLong c b o e ts) = omega (arith, of_expr e, of_tests ts)
  of_tests (IfWithin negated b i ts) = omega (arith, of_interval i, of_tests ts)
  of_tests (IfWithinLong negated c b i ts) = omega (arith, of_interval i, of_tests ts)

  of_exits : (es : Exits) → hidden_exits es ≤ 3 * exits_nodes es
  of_exits NoExits = omega arith
  of_exits (AndExit ls s es) = omega (arith, of_stmt s, of_exits es)

  of_loop : (l : Loop) → hidden_loop l ≤ 3 * loop_nodes l
  of_loop (LoopOf c s es f) = omega (arith, of_condition c, of_stmt s, of_exits es, of_finish f)

  of_finish : (f : Finish) → hidden_finish f ≤ 3 * finish_nodes f
  of_finish NoFinish = omega arith
  of_finish (Finished s) = of_stmt s

  of_condition : (c : Condition) → hidden_condition c ≤ 3 * condition_nodes c
  of_condition Always = omega arith
  of_condition (While e) = of_expr e
  of_condition (Until e) = of_expr e

pub hidden_words_are_few : HiddenWordsAreFew
hidden_words_are_few = of_stmt
