-- The catch phrases of a body, each with its statement and its arms, and for each jump in an arm the point that it names and how
-- many arms it leaves (Language Manual, chapter 8; rule of this project). Phrases stand in the order of the text, one before those
-- in its arms and before those that are enabled in it; a jump stands with the innermost arm around it.
use Rattle.std.specs.Prelude.{ℕ, List, [], ◌∷◌, ◌++◌, Option, Some, None, if◌then◌else◌}
use Rattle.mesa_types.specs.declared.typed_parts.Label.{Label}
use Rattle.mesa_types.specs.Typed.{Point, Start, After, Leave, point_of, Expr, Number, LongNumber, Literal, Variable, FieldOf, LengthOf, ByteOf, Checked, Converted, Operate, OperateLong, Negate, NegateLong, Relate, RelateLong, Within, WithinLong, Not, AllOf, SomeOf, Construct, Call, Raise, Exprs, NoExprs, AndExpr, Suffixes, NoSuffix, Field, Index, Operations, NoOperation, Then, Interval, Between, Phrase, NoPhrase, Catch, Arms, NoArms, AndArm, Stmt, Null, Marked, Declare, DeclareAs, Assign, Extract, Perform, If, Select, SelectLong, Block, Repeat, For, Jump, ReturnWith, Resume, Reject, Retry, Continue, Stmts, NoStmts, AndStmt, Targets, NoTargets, AndTarget, AndConverted, Cases, Otherwise, AndCase, Tests, NoTests, IfRelated, IfWithin, IfRelatedLong, IfWithinLong, Exits, NoExits, AndExit, Loop, LoopOf, Finish, NoFinish, Finished, Condition, Always, While, Until, Body}
use Rattle.mesa_types.specs.Sound.{labels_in}
use Rattle.code_rules.specs.Points.{Way, NoWay, OutOf, Points, in_marked, in_labelled, in_arm, in_body, is_among}

-- a jump, with the arms that it leaves
pub record JumpScope : Type 0 where
  pub point : Point
  pub arms : ℕ

pub record ArmScope : Type 0 where
  pub labels : List Label
  pub jumps : List JumpScope

pub record PhraseScope : Type 0 where
  pub statement : ℕ
  pub arms : List ArmScope

-- the jumps of a construct in no arm of it, and its phrases
pub record Found : Type 0 where
  pub jumps : List JumpScope
  pub phrases : List PhraseScope

-- the arms of a phrase, and the phrases in them
pub record FoundArms : Type 0 where
  pub arms : List ArmScope
  pub phrases : List PhraseScope

abbrev pub nothing : Found
nothing = record { jumps = []; phrases = [] }

infixr 5 ◌&◌
abbrev pub ◌&◌ : Found → Found → Found
a & b = record { jumps = a.jumps ++ b.jumps; phrases = a.phrases ++ b.phrases }

-- a jump of a sound body has a way to its point
abbrev pub arms_of : Way (Unit {0}) → ℕ
arms_of NoWay = 0
arms_of (OutOf arms place) = arms

abbrev pub a_jump : Points (Unit {0}) → Point → Found
a_jump points p = record { jumps = record { point = p; arms = arms_of (points p) } ∷ []; phrases = [] }

abbrev pub visible : Exits → ℕ → Option (Unit {0})
visible es l = if is_among l (labels_in es) then Some tt else None

abbrev pub the_phrase : ℕ → FoundArms → Found
the_phrase n found = record { jumps = []; phrases = record { statement = n; arms = found.arms } ∷ found.phrases }

abbrev pub and_arm : List Label → Found → FoundArms → FoundArms
and_arm labels found rest = record { arms = record { labels = labels; jumps = found.jumps } ∷ rest.arms; phrases = found.phrases ++ rest.phrases }

unfoldable mutual
  pub in_expr : Points (Unit {0}) → Expr → Found
  in_expr points (Number n) = nothing
  in_expr points (LongNumber n) = nothing
  in_expr points (Literal k) = nothing
  in_expr points (Variable h s words) = in_suffixes points s
  in_expr points (FieldOf e parts) = in_expr points e
  in_expr points (LengthOf e) = in_expr points e
  in_expr points (ByteOf e i) = in_expr points e & in_expr points i
  in_expr points (Checked r e) = in_expr points e
  in_expr points (Converted c e) = in_expr points e
  in_expr points (Operate e os) = in_expr points e & in_operations points os
  in_expr points (OperateLong e os) = in_expr points e & in_operations points os
  in_expr points (Negate e) = in_expr points e
  in_expr points (NegateLong e) = in_expr points e
  in_expr points (Relate b o d e) = in_expr points d & in_expr points e
  in_expr points (RelateLong b o d e) = in_expr points d & in_expr points e
  in_expr points (Within b e i) = in_expr points e & in_interval points i
  in_expr points (WithinLong b e i) = in_expr points e & in_interval points i
  in_expr points (Not e) = in_expr points e
  in_expr points (AllOf es) = in_exprs points es
  in_expr points (SomeOf es) = in_exprs points es
  in_expr points (Construct places es) = in_exprs points es
  in_expr points (Call c places es words ph) = in_exprs points es & in_phrase points ph
  in_expr points (Raise r places es words ph) = in_exprs points es & in_phrase points ph

  pub in_exprs : Points (Unit {0}) → Exprs → Found
  in_exprs points NoExprs = nothing
  in_exprs points (AndExpr e es) = in_expr points e & in_exprs points es

  pub in_suffixes : Points (Unit {0}) → Suffixes → Found
  in_suffixes points NoSuffix = nothing
  in_suffixes points (Field k offset s) = in_suffixes points s
  in_suffixes points (Index r first n words e s) = in_expr points e & in_suffixes points s

  pub in_operations : Points (Unit {0}) → Operations → Found
  in_operations points NoOperation = nothing
  in_operations points (Then r o e os) = in_expr points e & in_operations points os

  pub in_interval : Points (Unit {0}) → Interval → Found
  in_interval points (Between d p e q) = in_expr points d & in_expr points e

  pub in_phrase : Points (Unit {0}) → Phrase → Found
  in_phrase points NoPhrase = nothing
  in_phrase points (Catch n arms) = the_phrase n (in_arms points arms)

  pub in_arms : Points (Unit {0}) → Arms → FoundArms
  in_arms points NoArms = record { arms = []; phrases = [] }
  in_arms points (AndArm labels first count s arms) = and_arm labels (in_stmt (in_arm points) s) (in_arms points arms)

  pub in_stmt : Points (Unit {0}) → Stmt → Found
  in_stmt points Null = nothing
  in_stmt points (Marked n s) = in_stmt (in_marked n tt tt points) s
  in_stmt points (Declare hs k) = nothing
  in_stmt points (DeclareAs hs k e) = in_expr points e
  in_stmt points (Assign h s e) = in_suffixes points s & in_expr points e
  in_stmt points (Extract of_record ts e) = in_targets points ts & in_expr points e
  in_stmt points (Perform e) = in_expr points e
  in_stmt points (If e s t) = in_expr points e & in_stmt points s & in_stmt points t
  in_stmt points (Select e cs) = in_expr points e & in_cases points cs
  in_stmt points (SelectLong e cs) = in_expr points e & in_cases points cs
  in_stmt points (Block ph ss es) =
      in_phrase (in_labelled (visible es) points) ph & in_stmts (in_labelled (visible es) points) ss & in_exits points es
  in_stmt points (Repeat c l) = in_loop points l
  in_stmt points (For g down b i l) = in_interval points i & in_loop points l
  in_stmt points (Jump arms goal) = a_jump points (point_of goal)
  in_stmt points (ReturnWith arms first places es) = in_exprs points es & a_jump points Leave
  in_stmt points (Resume places es) = in_exprs points es
  in_stmt points Reject = nothing
  in_stmt points (Retry n) = a_jump points (Start n)
  in_stmt points (Continue n) = a_jump points (After n)

  pub in_stmts : Points (Unit {0}) → Stmts → Found
  in_stmts points NoStmts = nothing
  in_stmts points (AndStmt s ss) = in_stmt points s & in_stmts points ss

  pub in_targets : Points (Unit {0}) → Targets → Found
  in_targets points NoTargets = nothing
  in_targets points (AndTarget part h s r ts) = in_suffixes points s & in_targets points ts
  in_targets points (AndConverted part h s c ts) = in_suffixes points s & in_targets points ts

  pub in_cases : Points (Unit {0}) → Cases → Found
  in_cases points (Otherwise s) = in_stmt points s
  in_cases points (AndCase ts s cs) = in_tests points ts & in_stmt points s & in_cases points cs

  pub in_tests : Points (Unit {0}) → Tests → Found
  in_tests points NoTests = nothing
  in_tests points (IfRelated r b o e ts) = in_expr points e & in_tests points ts
  in_tests points (IfWithin negated b i ts) = in_interval points i & in_tests points ts
  in_tests points (IfRelatedLong c b o e ts) = in_expr points e & in_tests points ts
  in_tests points (IfWithinLong negated c b i ts) = in_interval points i & in_tests points ts

  pub in_exits : Points (Unit {0}) → Exits → Found
  in_exits points NoExits = nothing
  in_exits points (AndExit ls s es) = in_stmt points s & in_exits points es

  -- the labels of a loop are visible in its body alone
  pub in_loop : Points (Unit {0}) → Loop → Found
  in_loop points (LoopOf c s es f) =
      in_condition points c & in_stmt (in_labelled (visible es) points) s & in_exits points es & in_finish points f

  pub in_finish : Points (Unit {0}) → Finish → Found
  in_finish points NoFinish = nothing
  in_finish points (Finished s) = in_stmt points s

  pub in_condition : Points (Unit {0}) → Condition → Found
  in_condition points Always = nothing
  in_condition points (While e) = in_expr points e
  in_condition points (Until e) = in_expr points e

-- the scopes of a body
unfoldable pub scopes : Body → List PhraseScope
scopes body = (in_stmt (in_body tt) body.does).phrases
