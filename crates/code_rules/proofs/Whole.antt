-- Code that stands for a construct is a run of whole instructions.
use Rattle.std.proofs.Common.{Bool, ◌+◌, refl, sym, ◌∙◌, ℕ, ◌≤◌, List, [], ◌∷◌, ◌++◌, append_assoc, arith}
use Rattle.mesa_types.specs.Typed.{Arms, Condition, Expr, Exprs, Exits, Finish, Loop, Operations, Phrase, Stmt, Stmts, Suffixes, Targets, Cases, Tests, Interval}
use Rattle.mesa_types.specs.declared.typed_parts.Base.{Base}
use Rattle.mesa_types.specs.declared.typed_parts.Bases.{Bases}
use Rattle.mesa_types.specs.declared.typed_parts.Conversion.{Conversion}
use Rattle.mesa_types.specs.declared.typed_parts.Part.{Part}
use Rattle.mesa_types.specs.declared.typed_parts.Range.{Range}
use Rattle.mesa_base.specs.declared.relation.Relation.{Relation}
use Rattle.code_forms.specs.declared.instruction.Instruction.{Instruction}
use Rattle.code_forms.specs.declared.module_code.Arm.{Arm}
use Rattle.code_forms.specs.Instructions.{bytes_of}
use Rattle.code_rules.specs.CodeFor.{Onward, ArmsCode, no_arms, and_arm, ExprCode, ExprsCode, BoundsCode, OperationsCode, LongOperationsCode, PathCode, BranchCode, OperandsCode, PhraseCode, StmtCode, StmtsCode, TargetsCode, CasesCode, TestsCode, RelatedCode, LiesCode, LongRelatedCode, LongLiesCode, ExitsCode, LoopCode, ConditionCode, FinishCode, number, long_number, literal, variable, element, field_of, length_of, byte_of, checked, converted, operate, operate_long, negate, negate_long, relate, relate_long, within, within_long, negation, all_of, some_of, construct, call, raise, no_values, and_value, bounds, no_operation, operation, no_long_operation, long_operation, here, field, index, on_value, on_negation, on_relation, on_long_relation, unless_all, if_all, if_some, unless_some, no_operands, and_operand, no_phrase, no_range, catch, null, marked, declare, declare_as, assign, assign_element, extract, perform, if_else, select, select_long, select_long_none, select_none, block, loop, count, jump, return_with, resume, reject, retry, continue, no_statements, and_statement, no_targets, and_target, and_element, and_converted, and_converted_element, otherwise, and_case, no_test, related, related_last, lies, lies_last, long_related, long_related_last, long_lies, long_lies_last, relates, lies_within, long_relates, lies_within_long, no_exits, and_exit, rounds, always, while, until, no_finish, finished, never, falls, jumps}
use Rattle.code_rules.specs.Laws.{Run, RegionsRun, ends, goes, CodeIsWhole, CodeLiesInOrder, OwnCodeJoins, behind_all}
use Rattle.code_rules.specs.Loops.{Counter}
use Rattle.code_rules.specs.Modules.{BodyCode, body_end}
use Rattle.code_rules.specs.Reading.{Coded, Place, Own, no_more, one_more, behind}

-- Runs.

infixr 4 ◌joined◌
pub ◌joined◌ : {P : Coded} {around : List ℕ} {a b c : ℕ} → Run P around a b → Run P around b c → Run P around a c
ends joined q = q
goes r inner is inside p joined q = goes r inner is inside (p joined q)

-- what is enabled inside a phrase is enabled around it
pub outward : {P : Coded} {around : List ℕ} (j : ℕ) {a b : ℕ} → Run P (j ∷ around) a b → Run P around a b
outward j ends = ends
outward {around = around} j (goes r inner is inside p) = goes r (inner ++ j ∷ []) is (inside ∙ sym (append_assoc inner (j ∷ []) around)) (outward j p)

own : {P : Coded} {w : Place} {is : List Instruction} {a b : ℕ} → Own P w is a b → Run P w.around a b
own no_more = ends
own {w = w} (one_more {i = i} r rest) = goes (record { instruction = i; depth = w.depth; around = w.around }) [] r refl (own rest)

onward : {P : Coded} {w : Place} {target a b : ℕ} → Onward P w target a b → Run P w.around a b
onward falls = ends
onward (jumps o) = own o

phrased : {P : Coded} {w v : Place} {ph : Phrase} {a b c d : ℕ} → PhraseCode P w ph a b v → Run P v.around c d → Run P w.around c d
phrased no_phrase p = p
phrased no_range p = p
phrased (catch j regions longer is arms) p = outward j p

mutual
  pub expr_run : {P : Coded} {w : Place} {e : Expr} {a b : ℕ} → ExprCode P w e a b → Run P w.around a b
  expr_run (number o) = own o
  expr_run (long_number o) = own o
  expr_run (literal o) = own o
  expr_run (variable static o) = own o
  expr_run (element c d dynamic o p q) = own o joined path_run p joined own q
  expr_run (field_of c after e is o) = expr_run e joined own o
  expr_run (length_of c e o) = expr_run e joined own o
  expr_run (byte_of c d e at o) = expr_run e joined expr_run at joined own o
  expr_run (checked c e o) = expr_run e joined own o
  expr_run (converted c e o) = expr_run e joined own o
  expr_run (operate c e os) = expr_run e joined operations_run os
  expr_run (operate_long c e os) = expr_run e joined long_operations_run os
  expr_run (negate c e o) = expr_run e joined own o
  expr_run (negate_long c e o) = expr_run e joined own o
  expr_run (relate c f d e o) = expr_run d joined expr_run e joined own o
  expr_run (relate_long c f d e o) = expr_run d joined expr_run e joined own o
  expr_run (within c d e bs o) = expr_run e joined bounds_run bs joined own o
  expr_run (within_long c d e bs o) = expr_run e joined bounds_run bs joined own o
  expr_run (negation c e o) = expr_run e joined own o
  expr_run (all_of c f es o p) = operands_run es joined own o joined own p
  expr_run (some_of c f es o p) = operands_run es joined own o joined own p
  expr_run (construct c es o) = exprs_run es joined own o
  expr_run (call c d es o ph p) = exprs_run es joined own o joined phrased ph (own p)
  expr_run (raise c d es o ph p) = exprs_run es joined own o joined phrased ph (own p)

  pub exprs_run : {P : Coded} {w : Place} {es : Exprs} {a b : ℕ} → ExprsCode P w es a b → Run P w.around a b
  exprs_run no_values = ends
  exprs_run (and_value c e es) = expr_run e joined exprs_run es

  pub bounds_run : {P : Coded} {w : Place} {x y : Expr} {a b : ℕ} → BoundsCode P w x y a b → Run P w.around a b
  bounds_run (bounds c x y) = expr_run x joined expr_run y

  pub operations_run : {P : Coded} {w : Place} {os : Operations} {a b : ℕ} → OperationsCode P w os a b → Run P w.around a b
  operations_run no_operation = ends
  operations_run (operation c d f o e p os) = own o joined expr_run e joined own p joined operations_run os

  pub long_operations_run : {P : Coded} {w : Place} {os : Operations} {a b : ℕ} → LongOperationsCode P w os a b → Run P w.around a b
  long_operations_run no_long_operation = ends
  long_operations_run (long_operation c d e o os) = expr_run e joined own o joined long_operations_run os

  pub path_run : {P : Coded} {w : Place} {s : Suffixes} {a b : ℕ} → PathCode P w s a b → Run P w.around a b
  path_run here = ends
  path_run (field s) = path_run s
  path_run (index c d e o s) = expr_run e joined own o joined path_run s

  pub branch_run : {P : Coded} {w : Place} {e : Expr} {sense : Bool} {target a b : ℕ} → BranchCode P w e sense target a b → Run P w.around a b
  branch_run (on_value c e o) = expr_run e joined own o
  branch_run (on_negation e) = branch_run e
  branch_run (on_relation c f d e o) = expr_run d joined expr_run e joined own o
  branch_run (on_long_relation c f d e o) = expr_run d joined expr_run e joined own o
  branch_run (unless_all es) = operands_run es
  branch_run (if_all c es o) = operands_run es joined own o
  branch_run (if_some es) = operands_run es
  branch_run (unless_some c es o) = operands_run es joined own o

  pub operands_run : {P : Coded} {w : Place} {es : Exprs} {sense : Bool} {target a b : ℕ} → OperandsCode P w es sense target a b
      → Run P w.around a b
  operands_run no_operands = ends
  operands_run (and_operand c e es) = branch_run e joined operands_run es

  pub stmt_run : {P : Coded} {w : Place} {s : Stmt} {a b : ℕ} → StmtCode P w s a b → Run P w.around a b
  stmt_run null = ends
  stmt_run (marked s) = stmt_run s
  stmt_run (declare o) = own o
  stmt_run (declare_as c d o e p) = own o joined expr_run e joined own p
  stmt_run (assign c static e o) = expr_run e joined own o
  stmt_run (assign_element c d f dynamic o p e q) = own o joined path_run p joined expr_run e joined own q
  stmt_run (extract c e ts) = expr_run e joined targets_run ts
  stmt_run (perform c e o) = expr_run e joined own o
  stmt_run (if_else c d f e s o t) = branch_run e joined stmt_run s joined onward o joined stmt_run t
  stmt_run (select c d e o cs) = expr_run e joined own o joined cases_run cs
  stmt_run (select_long c d e o cs) = expr_run e joined own o joined cases_run cs
  stmt_run (select_long_none c d e o s) = expr_run e joined own o joined stmt_run s
  stmt_run (select_none c d e o s) = expr_run e joined own o joined stmt_run s
  stmt_run (block offsets c d ph ss o es) = phrased ph (stmts_run ss) joined onward o joined exits_run es
  stmt_run (loop l) = loop_run l
  stmt_run (count c d bs o l) = bounds_run bs joined own o joined loop_run l
  stmt_run (jump to is o) = own o
  stmt_run (return_with c to es is o) = exprs_run es joined own o
  stmt_run (resume c es o) = exprs_run es joined own o
  stmt_run (reject o) = own o
  stmt_run (retry to is o) = own o
  stmt_run (continue to is o) = own o

  pub stmts_run : {P : Coded} {w : Place} {ss : Stmts} {a b : ℕ} → StmtsCode P w ss a b → Run P w.around a b
  stmts_run no_statements = ends
  stmts_run (and_statement c s ss) = stmt_run s joined stmts_run ss

  pub targets_run : {P : Coded} {w : Place} {all : ℕ} {taken : List Part} {ts : Targets} {a b : ℕ} → TargetsCode P w all taken ts a b
      → Run P w.around a b
  targets_run (no_targets o) = own o
  targets_run (and_target c static o ts) = own o joined targets_run ts
  targets_run (and_element c d f dynamic o p q ts) = own o joined path_run p joined own q joined targets_run ts
  targets_run (and_converted c static o ts) = own o joined targets_run ts
  targets_run (and_converted_element c d f dynamic o p q ts) = own o joined path_run p joined own q joined targets_run ts

  pub cases_run : {P : Coded} {w : Place} {z : ℕ} {cs : Cases} {a b : ℕ} → CasesCode P w z cs a b → Run P w.around a b
  cases_run (otherwise s) = stmt_run s
  cases_run (and_case c d f ts s o cs) = tests_run ts joined stmt_run s joined onward o joined cases_run cs

  pub tests_run : {P : Coded} {w : Place} {z : ℕ} {ts : Tests} {yes no a b : ℕ} → TestsCode P w z ts yes no a b → Run P w.around a b
  tests_run (no_test o) = own o
  tests_run (related c t ts) = related_run t joined tests_run ts
  tests_run (related_last t) = related_run t
  tests_run (lies c t ts) = lies_run t joined tests_run ts
  tests_run (lies_last t) = lies_run t
  tests_run (long_related c t ts) = long_related_run t joined tests_run ts
  tests_run (long_related_last t) = long_related_run t
  tests_run (long_lies c t ts) = long_lies_run t joined tests_run ts
  tests_run (long_lies_last t) = long_lies_run t

  pub related_run : {P : Coded} {w : Place} {z : ℕ} {r : Range} {base : Base} {o : Relation} {e : Expr} {sense : Bool} {target a b : ℕ}
      → RelatedCode P w z r base o e sense target a b → Run P w.around a b
  related_run (relates c d o e p) = own o joined expr_run e joined own p

  pub lies_run : {P : Coded} {w : Place} {z : ℕ} {negated : Bool} {bases : Bases} {range : Interval} {sense : Bool} {target a b : ℕ}
      → LiesCode P w z negated bases range sense target a b → Run P w.around a b
  lies_run (lies_within c d o bs p) = own o joined bounds_run bs joined own p

  pub long_related_run : {P : Coded} {w : Place} {z : ℕ} {conversion : Conversion} {base : Base} {o : Relation} {e : Expr} {sense : Bool} {target a b : ℕ}
      → LongRelatedCode P w z conversion base o e sense target a b → Run P w.around a b
  long_related_run (long_relates c d o e p) = own o joined expr_run e joined own p

  pub long_lies_run : {P : Coded} {w : Place} {z : ℕ} {negated : Bool} {conversion : Conversion} {bases : Bases} {range : Interval} {sense : Bool} {target a b : ℕ}
      → LongLiesCode P w z negated conversion bases range sense target a b → Run P w.around a b
  long_lies_run (lies_within_long c d o bs p) = own o joined bounds_run bs joined own p

  pub exits_run : {P : Coded} {w : Place} {es : Exits} {offsets : List ℕ} {end a b : ℕ} → ExitsCode P w es offsets end a b → Run P w.around a b
  exits_run no_exits = ends
  exits_run (and_exit c d s o es) = stmt_run s joined onward o joined exits_run es

  pub loop_run : {P : Coded} {w : Place} {k : Counter} {l : Loop} {a b : ℕ} → LoopCode P w k l a b → Run P w.around a b
  loop_run (rounds offsets c d f done g o cond s p fin es) =
      own o joined condition_run cond joined stmt_run s joined own p joined finish_run fin joined exits_run es

  pub condition_run : {P : Coded} {w : Place} {cond : Condition} {done a b : ℕ} → ConditionCode P w cond done a b → Run P w.around a b
  condition_run always = ends
  condition_run (while e) = branch_run e
  condition_run (until e) = branch_run e

  pub finish_run : {P : Coded} {w : Place} {k : Counter} {cond : Condition} {fin : Finish} {end a b : ℕ} → FinishCode P w k cond fin end a b
      → Run P w.around a b
  finish_run (no_finish o) = onward o
  finish_run (finished c s o) = stmt_run s joined onward o
  finish_run never = ends

-- the laws

arms_run : {P : Coded} {w : Place} {arms : Arms} {regions : List Arm} → ArmsCode P w arms regions → RegionsRun P w.around regions
arms_run no_arms = tt
arms_run (and_arm a c b s o arms) = (stmt_run s joined own o, arms_run arms)

body_run : {P : Coded} {s : Stmt} → BodyCode P s → Run P [] 0 (body_end P.routine)
body_run c = stmt_run c.does joined own c.returns

pub code_is_whole : CodeIsWhole
code_is_whole = record {
  of_expression = λ P w e a b c. expr_run c;
  of_statement = λ P w s a b c. stmt_run c;
  of_arms = λ P w arms regions c. arms_run c;
  of_body = λ P s c. body_run c;
}

in_order : {P : Coded} {around : List ℕ} {a b : ℕ} → Run P around a b → a ≤ b
in_order ends = omega arith
in_order (goes r inner is inside p) = let h : _ = in_order p in omega arith

pub code_lies_in_order : CodeLiesInOrder
code_lies_in_order = record { of_expression = λ P w e a b c. in_order (expr_run c); of_statement = λ P w s a b c. in_order (stmt_run c) }

-- own code joins and splits

join_own : {P : Coded} {w : Place} {is js : List Instruction} {a b c : ℕ} → Own P w is a b → Own P (behind_all P is w) js b c → Own P w (is ++ js) a c
join_own no_more q = q
join_own (one_more r p) q = one_more r (join_own p q)

split_own : {P : Coded} (is js : List Instruction) (w : Place) (a c : ℕ) → Own P w (is ++ js) a c
    → (b : ℕ) × Own P w is a b × Own P (behind_all P is w) js b c
split_own [] js w a c p = (a, no_more, p)
split_own {P} (i ∷ is) js w a c (one_more r p) = let h : _ = split_own is js (behind P i w) (a + bytes_of i) c p in (h.0, one_more r h.1, h.2)

pub own_code_joins : OwnCodeJoins
own_code_joins = record { joins = λ P w is js a b c p q. join_own p q; splits = λ P w is js a c p. split_own is js w a c p }
