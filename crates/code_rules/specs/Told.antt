-- The catch phrases of a body, with what its tree itself says of jumps: a jump says how many arms it leaves, RETRY and CONTINUE leave
-- their own arm alone. In a sound body this is what is counted (`Scopes`).
use Rattle.std.specs.Prelude.{ℕ, List, [], ◌∷◌}
use Rattle.mesa_types.specs.Typed.{Point, Start, After, Leave, point_of, Expr, Number, LongNumber, Literal, Variable, FieldOf, LengthOf, ByteOf, Checked, Converted, Operate, OperateLong, Negate, NegateLong, Relate, RelateLong, Within, WithinLong, Not, AllOf, SomeOf, Construct, Call, Raise, Exprs, NoExprs, AndExpr, Suffixes, NoSuffix, Field, Index, Operations, NoOperation, Then, Interval, Between, Phrase, NoPhrase, Catch, Arms, NoArms, AndArm, Stmt, Null, Marked, Declare, DeclareAs, Assign, Extract, Perform, If, Select, SelectLong, Block, Repeat, For, Jump, ReturnWith, Resume, Reject, Retry, Continue, Stmts, NoStmts, AndStmt, Targets, NoTargets, AndTarget, AndConverted, Cases, Otherwise, AndCase, Tests, NoTests, IfRelated, IfWithin, IfRelatedLong, IfWithinLong, Exits, NoExits, AndExit, Loop, LoopOf, Finish, NoFinish, Finished, Condition, Always, While, Until, Body}
use Rattle.code_rules.specs.Scopes.{Found, FoundArms, PhraseScope, nothing, ◌&◌, the_phrase, and_arm}

abbrev pub a_told_jump : (arms : ℕ) → Point → Found
a_told_jump arms p = record { jumps = record { point = p; arms = arms } ∷ []; phrases = [] }

unfoldable mutual
  pub told_expr : Expr → Found
  told_expr (Number n) = nothing
  told_expr (LongNumber n) = nothing
  told_expr (Literal k) = nothing
  told_expr (Variable h s words) = told_suffixes s
  told_expr (FieldOf e parts) = told_expr e
  told_expr (LengthOf e) = told_expr e
  told_expr (ByteOf e i) = told_expr e & told_expr i
  told_expr (Checked r e) = told_expr e
  told_expr (Converted c e) = told_expr e
  told_expr (Operate e os) = told_expr e & told_operations os
  told_expr (OperateLong e os) = told_expr e & told_operations os
  told_expr (Negate e) = told_expr e
  told_expr (NegateLong e) = told_expr e
  told_expr (Relate b o d e) = told_expr d & told_expr e
  told_expr (RelateLong b o d e) = told_expr d & told_expr e
  told_expr (Within b e i) = told_expr e & told_interval i
  told_expr (WithinLong b e i) = told_expr e & told_interval i
  told_expr (Not e) = told_expr e
  told_expr (AllOf es) = told_exprs es
  told_expr (SomeOf es) = told_exprs es
  told_expr (Construct places es) = told_exprs es
  told_expr (Call c places es words ph) = told_exprs es & told_phrase ph
  told_expr (Raise r places es words ph) = told_exprs es & told_phrase ph

  pub told_exprs : Exprs → Found
  told_exprs NoExprs = nothing
  told_exprs (AndExpr e es) = told_expr e & told_exprs es

  pub told_suffixes : Suffixes → Found
  told_suffixes NoSuffix = nothing
  told_suffixes (Field k offset s) = told_suffixes s
  told_suffixes (Index r first n words e s) = told_expr e & told_suffixes s

  pub told_operations : Operations → Found
  told_operations NoOperation = nothing
  told_operations (Then r o e os) = told_expr e & told_operations os

  pub told_interval : Interval → Found
  told_interval (Between d p e q) = told_expr d & told_expr e

  pub told_phrase : Phrase → Found
  told_phrase NoPhrase = nothing
  told_phrase (Catch n arms) = the_phrase n (told_arms arms)

  pub told_arms : Arms → FoundArms
  told_arms NoArms = record { arms = []; phrases = [] }
  told_arms (AndArm labels first count s arms) = and_arm labels (told_stmt s) (told_arms arms)

  pub told_stmt : Stmt → Found
  told_stmt Null = nothing
  told_stmt (Marked n s) = told_stmt s
  told_stmt (Declare hs k) = nothing
  told_stmt (DeclareAs hs k e) = told_expr e
  told_stmt (Assign h s e) = told_suffixes s & told_expr e
  told_stmt (Extract of_record ts e) = told_targets ts & told_expr e
  told_stmt (Perform e) = told_expr e
  told_stmt (If e s t) = told_expr e & told_stmt s & told_stmt t
  told_stmt (Select e cs) = told_expr e & told_cases cs
  told_stmt (SelectLong e cs) = told_expr e & told_cases cs
  told_stmt (Block ph ss es) = told_phrase ph & told_stmts ss & told_exits es
  told_stmt (Repeat c l) = told_loop l
  told_stmt (For g down b i l) = told_interval i & told_loop l
  told_stmt (Jump arms goal) = a_told_jump arms (point_of goal)
  told_stmt (ReturnWith arms first places es) = told_exprs es & a_told_jump arms Leave
  told_stmt (Resume places es) = told_exprs es
  told_stmt Reject = nothing
  told_stmt (Retry n) = a_told_jump 1 (Start n)
  told_stmt (Continue n) = a_told_jump 1 (After n)

  pub told_stmts : Stmts → Found
  told_stmts NoStmts = nothing
  told_stmts (AndStmt s ss) = told_stmt s & told_stmts ss

  pub told_targets : Targets → Found
  told_targets NoTargets = nothing
  told_targets (AndTarget part h s r ts) = told_suffixes s & told_targets ts
  told_targets (AndConverted part h s c ts) = told_suffixes s & told_targets ts

  pub told_cases : Cases → Found
  told_cases (Otherwise s) = told_stmt s
  told_cases (AndCase ts s cs) = told_tests ts & told_stmt s & told_cases cs

  pub told_tests : Tests → Found
  told_tests NoTests = nothing
  told_tests (IfRelated r b o e ts) = told_expr e & told_tests ts
  told_tests (IfWithin negated b i ts) = told_interval i & told_tests ts
  told_tests (IfRelatedLong c b o e ts) = told_expr e & told_tests ts
  told_tests (IfWithinLong negated c b i ts) = told_interval i & told_tests ts

  pub told_exits : Exits → Found
  told_exits NoExits = nothing
  told_exits (AndExit ls s es) = told_stmt s & told_exits es

  pub told_loop : Loop → Found
  told_loop (LoopOf c s es f) = told_condition c & told_stmt s & told_exits es & told_finish f

  pub told_finish : Finish → Found
  told_finish NoFinish = nothing
  told_finish (Finished s) = told_stmt s

  pub told_condition : Condition → Found
  told_condition Always = nothing
  told_condition (While e) = told_expr e
  told_condition (Until e) = told_expr e

unfoldable pub told_scopes : Body → List PhraseScope
told_scopes body = (told_stmt body.does).phrases
