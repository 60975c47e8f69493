-- How many times a typed tree names an item of an import: in a call, in a raise, as a label. They are no more than its nodes.
use Rattle.std.specs.Prelude.{ℕ, ◌+◌, ◌≤◌, List, [], ◌∷◌, length, sum, map}
use Rattle.std.proofs.Common.{arith}
use Rattle.std.proofs.lemmas.List.Sums.{sum-map, sum_by-cons}
use Rattle.mesa_types.specs.Nodes as tn
use Rattle.check_rules.specs.Typed as t

abbrev pub in_callee : t.Callee → ℕ
in_callee (t.OwnProcedure n) = 0
in_callee (t.LinkedProcedure m n) = 1

abbrev pub in_raised : t.Raised → ℕ
in_raised (t.LinkedSignal m n) = 1
in_raised _ = 0

abbrev pub in_label : t.Label → ℕ
in_label (t.OnLinked m n) = 1
in_label _ = 0

unfoldable pub in_labels : List t.Label → ℕ
in_labels [] = 0
in_labels (l ∷ ls) = in_label l + in_labels ls

unfoldable mutual
  pub in_expr : t.Expr → ℕ
  in_expr (t.Number n) = 0
  in_expr (t.LongNumber n) = 0
  in_expr (t.Literal k) = 0
  in_expr (t.Variable h ss words) = in_suffixes ss
  in_expr (t.FieldOf e parts) = in_expr e
  in_expr (t.LengthOf e) = in_expr e
  in_expr (t.ByteOf e i) = in_expr e + in_expr i
  in_expr (t.Checked r e) = in_expr e
  in_expr (t.Converted c e) = in_expr e
  in_expr (t.Operate e os) = in_expr e + in_operations os
  in_expr (t.OperateLong e os) = in_expr e + in_operations os
  in_expr (t.Negate e) = in_expr e
  in_expr (t.NegateLong e) = in_expr e
  in_expr (t.Relate b o d e) = in_expr d + in_expr e
  in_expr (t.RelateLong b o d e) = in_expr d + in_expr e
  in_expr (t.Within b e i) = in_expr e + in_interval i
  in_expr (t.WithinLong b e i) = in_expr e + in_interval i
  in_expr (t.Not e) = in_expr e
  in_expr (t.AllOf es) = in_exprs es
  in_expr (t.SomeOf es) = in_exprs es
  in_expr (t.Construct places es) = in_exprs es
  in_expr (t.Call c places es words ph) = in_callee c + in_exprs es + in_phrase ph
  in_expr (t.Raise r places es words ph) = in_raised r + in_exprs es + in_phrase ph

  pub in_exprs : t.Exprs → ℕ
  in_exprs t.NoExprs = 0
  in_exprs (t.AndExpr e es) = in_expr e + in_exprs es

  pub in_suffixes : t.Suffixes → ℕ
  in_suffixes t.NoSuffix = 0
  in_suffixes (t.Field k offset ss) = in_suffixes ss
  in_suffixes (t.Index r first n words e ss) = in_expr e + in_suffixes ss

  pub in_operations : t.Operations → ℕ
  in_operations t.NoOperation = 0
  in_operations (t.Then r o e os) = in_expr e + in_operations os

  pub in_interval : t.Interval → ℕ
  in_interval (t.Between d p e q) = in_expr d + in_expr e

  pub in_phrase : t.Phrase → ℕ
  in_phrase t.NoPhrase = 0
  in_phrase (t.Catch n xs) = in_arms xs

  pub in_arms : t.Arms → ℕ
  in_arms t.NoArms = 0
  in_arms (t.AndArm ls first count body rest) = in_labels ls + in_stmt body + in_arms rest

  pub in_stmt : t.Stmt → ℕ
  in_stmt t.Null = 0
  in_stmt (t.Marked n body) = in_stmt body
  in_stmt (t.Declare hs k) = 0
  in_stmt (t.DeclareAs hs k e) = in_expr e
  in_stmt (t.Assign h ss e) = in_suffixes ss + in_expr e
  in_stmt (t.Extract of_record ts e) = in_targets ts + in_expr e
  in_stmt (t.Perform e) = in_expr e
  in_stmt (t.If e body other) = in_expr e + in_stmt body + in_stmt other
  in_stmt (t.Select e cs) = in_expr e + in_cases cs
  in_stmt (t.SelectLong e cs) = in_expr e + in_cases cs
  in_stmt (t.Block ph ss es) = in_phrase ph + in_stmts ss + in_exits es
  in_stmt (t.Repeat c l) = in_loop l
  in_stmt (t.For g down b i l) = in_interval i + in_loop l
  in_stmt (t.Jump arms goal) = 0
  in_stmt (t.ReturnWith arms first places es) = in_exprs es
  in_stmt (t.Resume places es) = in_exprs es
  in_stmt t.Reject = 0
  in_stmt (t.Retry n) = 0
  in_stmt (t.Continue n) = 0

  pub in_stmts : t.Stmts → ℕ
  in_stmts t.NoStmts = 0
  in_stmts (t.AndStmt x xs) = in_stmt x + in_stmts xs

  pub in_targets : t.Targets → ℕ
  in_targets t.NoTargets = 0
  in_targets (t.AndTarget part h ss r ts) = in_suffixes ss + in_targets ts
  in_targets (t.AndConverted part h ss c ts) = in_suffixes ss + in_targets ts

  pub in_cases : t.Cases → ℕ
  in_cases (t.Otherwise x) = in_stmt x
  in_cases (t.AndCase ts x cs) = in_tests ts + in_stmt x + in_cases cs

  pub in_tests : t.Tests → ℕ
  in_tests t.NoTests = 0
  in_tests (t.IfRelated r b o e ts) = in_expr e + in_tests ts
  in_tests (t.IfRelatedLong c b o e ts) = in_expr e + in_tests ts
  in_tests (t.IfWithin negated b i ts) = in_interval i + in_tests ts
  in_tests (t.IfWithinLong negated c b i ts) = in_interval i + in_tests ts

  pub in_exits : t.Exits → ℕ
  in_exits t.NoExits = 0
  in_exits (t.AndExit ls x es) = in_stmt x + in_exits es

  pub in_loop : t.Loop → ℕ
  in_loop (t.LoopOf c x es f) = in_condition c + in_stmt x + in_exits es + in_finish f

  pub in_finish : t.Finish → ℕ
  in_finish t.NoFinish = 0
  in_finish (t.Finished x) = in_stmt x

  pub in_condition : t.Condition → ℕ
  in_condition t.Always = 0
  in_condition (t.While e) = in_expr e
  in_condition (t.Until e) = in_expr e

unfoldable pub in_procedures : List t.Procedure → ℕ
in_procedures [] = 0
in_procedures (p ∷ ps) = in_stmt p.body.does + in_procedures ps

pub at_callee : (c : t.Callee) → in_callee c ≤ 1
at_callee (t.OwnProcedure n) = omega arith
at_callee (t.LinkedProcedure m n) = omega arith

pub at_raised : (r : t.Raised) → in_raised r ≤ 1
at_raised (t.LinkedSignal m n) = omega arith
at_raised _ = omega arith

at_label : (l : t.Label) → in_label l ≤ 1
at_label (t.OnLinked m n) = omega arith
at_label _ = omega arith

at_labels : (ls : List t.Label) → in_labels ls ≤ length ls
unfolding in_labels
at_labels [] = omega arith
at_labels (l ∷ ls) = let h : in_labels ls ≤ length ls = at_labels ls in omega (arith, at_label l)

mutual
  unfolding in_expr tn.expr_nodes

  few_in_expr : (e : t.Expr) → in_expr e ≤ tn.expr_nodes e
  few_in_expr (t.Number n) = omega arith
  few_in_expr (t.LongNumber n) = omega arith
  few_in_expr (t.Literal k) = omega arith
  few_in_expr (t.Variable h ss words) = omega (arith, few_in_suffixes ss)
  few_in_expr (t.FieldOf e parts) = omega (arith, few_in_expr e)
  few_in_expr (t.LengthOf e) = omega (arith, few_in_expr e)
  few_in_expr (t.ByteOf e i) = omega (arith, few_in_expr e, few_in_expr i)
  few_in_expr (t.Checked r e) = omega (arith, few_in_expr e)
  few_in_expr (t.Converted c e) = omega (arith, few_in_expr e)
  few_in_expr (t.Operate e os) = omega (arith, few_in_expr e, few_in_operations os)
  few_in_expr (t.OperateLong e os) = omega (arith, few_in_expr e, few_in_operations os)
  few_in_expr (t.Negate e) = omega (arith, few_in_expr e)
  few_in_expr (t.NegateLong e) = omega (arith, few_in_expr e)
  few_in_expr (t.Relate b o d e) = omega (arith, few_in_expr d, few_in_expr e)
  few_in_expr (t.RelateLong b o d e) = omega (arith, few_in_expr d, few_in_expr e)
  few_in_expr (t.Within b e i) = omega (arith, few_in_expr e, few_in_interval i)
  few_in_expr (t.WithinLong b e i) = omega (arith, few_in_expr e, few_in_interval i)
  few_in_expr (t.Not e) = omega (arith, few_in_expr e)
  few_in_expr (t.AllOf es) = omega (arith, few_in_exprs es)
  few_in_expr (t.SomeOf es) = omega (arith, few_in_exprs es)
  few_in_expr (t.Construct places es) = omega (arith, few_in_exprs es)
  few_in_expr (t.Call c places es words ph) = omega (arith, at_callee c, few_in_exprs es, few_in_phrase ph)
  few_in_expr (t.Raise r places es words ph) = omega (arith, at_raised r, few_in_exprs es, few_in_phrase ph)

  few_in_exprs : (es : t.Exprs) → in_exprs es ≤ tn.exprs_nodes es
  few_in_exprs t.NoExprs = omega arith
  few_in_exprs (t.AndExpr e es) = omega (arith, few_in_expr e, few_in_exprs es)

  few_in_suffixes : (ss : t.Suffixes) → in_suffixes ss ≤ tn.suffixes_nodes ss
  few_in_suffixes t.NoSuffix = omega arith
  few_in_suffixes (t.Field k offset ss) = few_in_suffixes ss
  few_in_suffixes (t.Index r first n words e ss) = omega (arith, few_in_expr e, few_in_suffixes ss)

  few_in_operations : (os : t.Operations) → in_operations os ≤ tn.operations_nodes os
  few_in_operations t.NoOperation = omega arith
  few_in_operations (t.Then r o e os) = omega (arith, few_in_expr e, few_in_operations os)

  few_in_interval : (i : t.Interval) → in_interval i ≤ tn.interval_nodes i
  few_in_interval (t.Between d p e q) = omega (arith, few_in_expr d, few_in_expr e)

  few_in_phrase : (ph : t.Phrase) → in_phrase ph ≤ tn.phrase_nodes ph
  few_in_phrase t.NoPhrase = omega arith
  few_in_phrase (t.Catch n xs) = few_in_arms xs

  few_in_arms : (xs : t.Arms) → in_arms xs ≤ tn.arms_nodes xs
  few_in_arms t.NoArms = omega arith
  few_in_arms (t.AndArm ls first count body rest) = omega (arith, at_labels ls, few_in_stmt body, few_in_arms rest)

  pub few_in_stmt : (x : t.Stmt) → in_stmt x ≤ tn.stmt_nodes x
  few_in_stmt t.Null = omega arith
  few_in_stmt (t.Marked n body) = few_in_stmt body
  few_in_stmt (t.Declare hs k) = omega arith
  few_in_stmt (t.DeclareAs hs k e) = omega (arith, few_in_expr e)
  few_in_stmt (t.Assign h ss e) = omega (arith, few_in_suffixes ss, few_in_expr e)
  few_in_stmt (t.Extract of_record ts e) = omega (arith, few_in_targets ts, few_in_expr e)
  few_in_stmt (t.Perform e) = omega (arith, few_in_expr e)
  few_in_stmt (t.If e body other) = omega (arith, few_in_expr e, few_in_stmt body, few_in_stmt other)
  few_in_stmt (t.Select e cs) = omega (arith, few_in_expr e, few_in_cases cs)
  few_in_stmt (t.SelectLong e cs) = omega (arith, few_in_expr e, few_in_cases cs)
  few_in_stmt (t.Block ph ss es) = omega (arith, few_in_phrase ph, few_in_stmts ss, few_in_exits es)
  few_in_stmt (t.Repeat c l) = omega (arith, few_in_loop l)
  few_in_stmt (t.For g down b i l) = omega (arith, few_in_interval i, few_in_loop l)
  few_in_stmt (t.Jump arms goal) = omega arith
  few_in_stmt (t.ReturnWith arms first places es) = omega (arith, few_in_exprs es)
  few_in_stmt (t.Resume places es) = omega (arith, few_in_exprs es)
  few_in_stmt t.Reject = omega arith
  few_in_stmt (t.Retry n) = omega arith
  few_in_stmt (t.Continue n) = omega arith

  few_in_stmts : (xs : t.Stmts) → in_stmts xs ≤ tn.stmts_nodes xs
  few_in_stmts t.NoStmts = omega arith
  few_in_stmts (t.AndStmt x xs) = omega (arith, few_in_stmt x, few_in_stmts xs)

  few_in_targets : (ts : t.Targets) → in_targets ts ≤ tn.targets_nodes ts
  few_in_targets t.NoTargets = omega arith
  few_in_targets (t.AndTarget part h ss r ts) = omega (arith, few_in_suffixes ss, few_in_targets ts)
  few_in_targets (t.AndConverted part h ss c ts) = omega (arith, few_in_suffixes ss, few_in_targets ts)

  few_in_cases : (cs : t.Cases) → in_cases cs ≤ tn.cases_nodes cs
  few_in_cases (t.Otherwise x) = few_in_stmt x
  few_in_cases (t.AndCase ts x cs) = omega (arith, few_in_tests ts, few_in_stmt x, few_in_cases cs)

  few_in_tests : (ts : t.Tests) → in_tests ts ≤ tn.tests_nodes ts
  few_in_tests t.NoTests = omega arith
  few_in_tests (t.IfRelated r b o e ts) = omega (arith, few_in_expr e, few_in_tests ts)
  few_in_tests (t.IfRelatedLong c b o e ts) = omega (arith, few_in_expr e, few_in_tests ts)
  few_in_tests (t.IfWithin negated b i ts) = omega (arith, few_in_interval i, few_in_tests ts)
  few_in_tests (t.IfWithinLong negated c b i ts) = omega (arith, few_in_interval i, few_in_tests ts)

  few_in_exits : (es : t.Exits) → in_exits es ≤ tn.exits_nodes es
  few_in_exits t.NoExits = omega arith
  few_in_exits (t.AndExit ls x es) = omega (arith, few_in_stmt x, few_in_exits es)

  few_in_loop : (l : t.Loop) → in_loop l ≤ tn.loop_nodes l
  few_in_loop (t.LoopOf c x es f) = omega (arith, few_in_condition c, few_in_stmt x, few_in_exits es, few_in_finish f)

  few_in_finish : (f : t.Finish) → in_finish f ≤ tn.finish_nodes f
  few_in_finish t.NoFinish = omega arith
  few_in_finish (t.Finished x) = few_in_stmt x

  few_in_condition : (c : t.Condition) → in_condition c ≤ tn.condition_nodes c
  few_in_condition t.Always = omega arith
  few_in_condition (t.While e) = few_in_expr e
  few_in_condition (t.Until e) = few_in_expr e

pub few_in_procedures : (ps : List t.Procedure) → in_procedures ps ≤ sum (map tn.procedure_nodes ps)
unfolding in_procedures tn.procedure_nodes
few_in_procedures [] = omega arith
few_in_procedures (p ∷ ps) = let h : in_procedures ps ≤ sum (map tn.procedure_nodes ps) = few_in_procedures ps in
    omega (arith, few_in_stmt p.body.does, sum-map tn.procedure_nodes (p ∷ ps), sum-map tn.procedure_nodes ps, sum_by-cons tn.procedure_nodes p ps)
