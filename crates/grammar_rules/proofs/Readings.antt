-- Readings by the grammar, each with the place that is too deep, and what is known of the parsers one level below.
use Rattle.std.proofs.Common.{◌≡◌, ℕ, suc, true, List, Option, Some, None}
use Rattle.mesa_base.specs.declared.place.Place.{Place}
use Rattle.mesa_lexer.specs.declared.token.Kind.{Kind}
use Rattle.mesa_lexer.specs.declared.token.Kind.TheVariants as k
use Rattle.mesa_lexer.specs.declared.word.Word.TheVariants.{ElseWord}
use Rattle.token_cursor.specs.Parsing.{token, only}
use Rattle.token_cursor.proofs.Exact.{Test, Rel, Keeps, Took}
use Rattle.mesa_base.specs.declared.identifier.Identifier.{Identifier}
use Rattle.mesa_base.specs.declared.placed.Placed.{Placed}
use Rattle.syntax_trees.specs.declared.syntax.Keyed.{Keyed}
use Rattle.syntax_trees.specs.declared.syntax.Labeled.{Labeled}
use Rattle.syntax_trees.specs.declared.syntax.Entries.{Entries}
use Rattle.syntax_trees.specs.declared.syntax.TypeExp.{TypeExp}
use Rattle.syntax_trees.specs.declared.syntax.FieldList.{FieldList}
use Rattle.syntax_trees.specs.declared.syntax.Interval.{Interval}
use Rattle.syntax_trees.specs.declared.syntax.Expr.{Expr}
use Rattle.syntax_trees.specs.declared.syntax.Operation.{Operation}
use Rattle.syntax_trees.specs.declared.syntax.Left.{Left}
use Rattle.syntax_trees.specs.declared.syntax.Suffix.{Suffix}
use Rattle.syntax_trees.specs.declared.syntax.Brackets.{Brackets}
use Rattle.syntax_trees.specs.declared.syntax.Raise.{Raise}
use Rattle.syntax_trees.specs.declared.syntax.Arm.{Arm}
use Rattle.syntax_trees.specs.declared.syntax.Statement.{Statement}
use Rattle.syntax_trees.specs.declared.syntax.Control.{Control}
use Rattle.syntax_trees.specs.declared.syntax.Count.{Count}
use Rattle.syntax_trees.specs.declared.syntax.Condition.{Condition}
use Rattle.syntax_trees.specs.declared.syntax.Case.{Case}
use Rattle.syntax_trees.specs.declared.syntax.Test.{Test as TestTree}
use Rattle.syntax_trees.specs.declared.syntax.Block.{Block}
use Rattle.syntax_trees.specs.declared.syntax.PlainItem.{PlainItem}
use Rattle.syntax_trees.specs.declared.syntax.RepeatLabels.{RepeatLabels}
use Rattle.grammar_rules.specs.WordsAndMarks.{spelled, negating}
use Rattle.grammar_rules.specs.Grammar as g
use Rattle.grammar_rules.specs.Depth as d
use Rattle.grammar_rules.specs.ReadNested.{Nested, Fresh, AtName, AtNot}

-- the token that a statement's end depends on
abbrev pub cut : Test
cut = only (k.Word ElseWord)

abbrev pub Type_at : ℕ → Rel TypeExp
Type_at n ts x rest o = (e : g.IsType ts x rest) × (d.deep_type n e ≡ o)

abbrev pub Fields_at : ℕ → Rel FieldList
Fields_at n ts x rest o = (e : g.IsFields ts x rest) × (d.deep_fields n e ≡ o)

abbrev pub Types_at : ℕ → Rel (List TypeExp)
Types_at n ts x rest o = (e : g.IsTypes ts x rest) × (d.deep_types n e ≡ o)

abbrev pub Groups_at : ℕ → Rel (List (Labeled (List Identifier) TypeExp))
Groups_at n ts x rest o = (e : g.IsGroups ts x rest) × (d.deep_groups n e ≡ o)

abbrev pub Interval_at : ℕ → Rel Interval
Interval_at n ts x rest o = (e : g.IsInterval ts x rest) × (d.deep_interval n e ≡ o)

abbrev pub Expr_at : ℕ → Rel Expr
Expr_at n ts x rest o = (e : g.IsExpr ts x rest) × (d.deep_expr n e ≡ o)

abbrev pub Ors_at : ℕ → Expr → Rel (List Operation)
Ors_at n x ts ss rest o = (e : g.IsOrs ts x ss rest) × (d.deep_ors n e ≡ o)

abbrev pub Conj_at : ℕ → Rel Expr
Conj_at n ts x rest o = (e : g.IsConj ts x rest) × (d.deep_conj n e ≡ o)

abbrev pub Ands_at : ℕ → Expr → Rel (List Operation)
Ands_at n x ts ss rest o = (e : g.IsAnds ts x ss rest) × (d.deep_ands n e ≡ o)

abbrev pub Neg_at : ℕ → Rel Expr
Neg_at n ts x rest o = (e : g.IsNeg ts x rest) × (d.deep_neg n e ≡ o)

abbrev pub Rel_at : ℕ → Rel Expr
Rel_at n ts x rest o = (e : g.IsRel ts x rest) × (d.deep_rel n e ≡ o)

abbrev pub Sum_at : ℕ → Rel Expr
Sum_at n ts x rest o = (e : g.IsSum ts x rest) × (d.deep_sum n e ≡ o)

abbrev pub Sums_at : ℕ → Expr → Rel (List Operation)
Sums_at n x ts ss rest o = (e : g.IsSums ts x ss rest) × (d.deep_sums n e ≡ o)

abbrev pub Product_at : ℕ → Rel Expr
Product_at n ts x rest o = (e : g.IsProduct ts x rest) × (d.deep_product n e ≡ o)

abbrev pub Products_at : ℕ → Expr → Rel (List Operation)
Products_at n x ts ss rest o = (e : g.IsProducts ts x ss rest) × (d.deep_products n e ≡ o)

abbrev pub Factor_at : ℕ → Rel Expr
Factor_at n ts x rest o = (e : g.IsFactor ts x rest) × (d.deep_factor n e ≡ o)

abbrev pub Primary_at : ℕ → Rel Expr
Primary_at n ts x rest o = (e : g.IsPrimary ts x rest) × (d.deep_primary n e ≡ o)

abbrev pub List_at : ℕ → Rel (Placed (Entries Expr))
List_at n ts x rest o = (e : g.IsList ts x rest) × (d.deep_list n e ≡ o)

abbrev pub ListOption_at : ℕ → Rel (Option (Placed (Entries Expr)))
ListOption_at n ts x rest o = (e : g.IsListOption ts x rest) × (d.deep_list_option n e ≡ o)

abbrev pub Left_at : ℕ → Identifier → Rel (List Suffix)
Left_at n x ts ss rest o = (e : g.IsLeft ts x ss rest) × (d.deep_left n e ≡ o)

abbrev pub Brackets_at : ℕ → Rel Brackets
Brackets_at n ts x rest o = (e : g.IsBrackets ts x rest) × (d.deep_brackets n e ≡ o)

abbrev pub BracketsOption_at : ℕ → Rel (Option Brackets)
BracketsOption_at n ts x rest o = (e : g.IsBracketsOption ts x rest) × (d.deep_brackets_option n e ≡ o)

abbrev pub Args_at : ℕ → Rel (Entries Expr)
Args_at n ts x rest o = (e : g.IsArgs ts x rest) × (d.deep_args n e ≡ o)

abbrev pub Exprs_at : ℕ → Rel (List Expr)
Exprs_at n ts x rest o = (e : g.IsExprs ts x rest) × (d.deep_exprs n e ≡ o)

abbrev pub Keys_at : ℕ → Rel (List (Keyed Expr))
Keys_at n ts x rest o = (e : g.IsKeys ts x rest) × (d.deep_keys n e ≡ o)

abbrev pub Catch_at : ℕ → Rel (Option (Placed (List Arm)))
Catch_at n ts x rest o = (e : g.IsCatch ts x rest) × (d.deep_catch n e ≡ o)

abbrev pub ArmList_at : ℕ → Rel (List Arm)
ArmList_at n ts x rest o = (e : g.IsArmList ts x rest) × (d.deep_arm_list n e ≡ o)

abbrev pub Arms_at : ℕ → Rel (List Arm)
Arms_at n ts x rest o = (e : g.IsArms ts x rest) × (d.deep_arms n e ≡ o)

abbrev pub Arm_at : ℕ → Rel Arm
Arm_at n ts x rest o = (e : g.IsArm ts x rest) × (d.deep_arm n e ≡ o)

abbrev pub Raise_at : ℕ → Rel Raise
Raise_at n ts x rest o = (e : g.IsRaise ts x rest) × (d.deep_raise n e ≡ o)

abbrev pub Stmt_at : ℕ → Rel Statement
Stmt_at n ts x rest o = (e : g.IsStmt ts x rest) × (d.deep_stmt n e ≡ o)

abbrev pub Targets_at : ℕ → Rel (Entries Left)
Targets_at n ts x rest o = (e : g.IsTargets ts x rest) × (d.deep_targets n e ≡ o)

abbrev pub Lefts_at : ℕ → Rel (List Left)
Lefts_at n ts x rest o = (e : g.IsLefts ts x rest) × (d.deep_lefts n e ≡ o)

abbrev pub KeyLefts_at : ℕ → Rel (List (Keyed Left))
KeyLefts_at n ts x rest o = (e : g.IsKeyLefts ts x rest) × (d.deep_key_lefts n e ≡ o)

abbrev pub Otherwise_at : ℕ → Rel (Option Statement)
Otherwise_at n ts x rest o = (e : g.IsOtherwise ts x rest) × (d.deep_otherwise n e ≡ o)

abbrev pub CaseList_at : ℕ → Rel (List Case)
CaseList_at n ts x rest o = (e : g.IsCaseList ts x rest) × (d.deep_case_list n e ≡ o)

abbrev pub Cases_at : ℕ → Rel (List Case)
Cases_at n ts x rest o = (e : g.IsCases ts x rest) × (d.deep_cases n e ≡ o)

abbrev pub Case_at : ℕ → Rel Case
Case_at n ts x rest o = (e : g.IsCase ts x rest) × (d.deep_case n e ≡ o)

abbrev pub Tests_at : ℕ → Rel (List TestTree)
Tests_at n ts x rest o = (e : g.IsTests ts x rest) × (d.deep_tests n e ≡ o)

abbrev pub Test_at : ℕ → Rel TestTree
Test_at n ts x rest o = (e : g.IsTest ts x rest) × (d.deep_test n e ≡ o)

abbrev pub Control_at : ℕ → Rel Control
Control_at n ts x rest o = (e : g.IsControl ts x rest) × (d.deep_control n e ≡ o)

abbrev pub Count_at : ℕ → Rel (Option Count)
Count_at n ts x rest o = (e : g.IsCount ts x rest) × (d.deep_count n e ≡ o)

abbrev pub Condition_at : ℕ → Rel (Option Condition)
Condition_at n ts x rest o = (e : g.IsCondition ts x rest) × (d.deep_condition n e ≡ o)

abbrev pub Body_at : ℕ → Rel (List Statement)
Body_at n ts x rest o = (e : g.IsBody ts x rest) × (d.deep_body n e ≡ o)

abbrev pub Stmts_at : ℕ → Rel (List Statement)
Stmts_at n ts x rest o = (e : g.IsStmts ts x rest) × (d.deep_stmts n e ≡ o)

abbrev pub RepeatPart_at : ℕ → Rel (List (Labeled RepeatLabels Statement))
RepeatPart_at n ts x rest o = (e : g.IsRepeatPart ts x rest) × (d.deep_repeat_part n e ≡ o)

abbrev pub Repeats_at : ℕ → Rel (List (Labeled RepeatLabels Statement))
Repeats_at n ts x rest o = (e : g.IsRepeats ts x rest) × (d.deep_repeats n e ≡ o)

abbrev pub Repeat_at : ℕ → Rel (Labeled RepeatLabels Statement)
Repeat_at n ts x rest o = (e : g.IsRepeat ts x rest) × (d.deep_repeat n e ≡ o)

abbrev pub ExitPart_at : ℕ → Rel (List (Labeled (List Identifier) Statement))
ExitPart_at n ts x rest o = (e : g.IsExitPart ts x rest) × (d.deep_exit_part n e ≡ o)

abbrev pub Exits_at : ℕ → Rel (List (Labeled (List Identifier) Statement))
Exits_at n ts x rest o = (e : g.IsExits ts x rest) × (d.deep_exits n e ≡ o)

abbrev pub Exit_at : ℕ → Rel (Labeled (List Identifier) Statement)
Exit_at n ts x rest o = (e : g.IsExit ts x rest) × (d.deep_exit n e ≡ o)

abbrev pub Enabling_at : ℕ → Rel (Option (Placed (List Arm)))
Enabling_at n ts x rest o = (e : g.IsEnabling ts x rest) × (d.deep_enabling n e ≡ o)

abbrev pub Block_at : ℕ → Rel Block
Block_at n ts x rest o = (e : g.IsBlock ts x rest) × (d.deep_block n e ≡ o)

abbrev pub Locals_at : ℕ → Rel (List (Labeled (List Identifier) PlainItem))
Locals_at n ts x rest o = (e : g.IsLocals ts x rest) × (d.deep_locals n e ≡ o)

abbrev pub Local_at : ℕ → Rel (Labeled (List Identifier) PlainItem)
Local_at n ts x rest o = (e : g.IsLocal ts x rest) × (d.deep_local n e ≡ o)

abbrev pub Plain_at : ℕ → Rel PlainItem
Plain_at n ts x rest o = (e : g.IsPlain ts x rest) × (d.deep_plain n e ≡ o)

pub record Inner (n : ℕ) (q : Nested) : Type 0 where
  pub a_stmt : Keeps cut cut (Stmt_at n) (q.stmt None)
  pub stmt_from : q.can ≡ true → (i : Identifier) → Keeps cut cut (Took (spelled i) (Stmt_at n)) (q.stmt (Some i))
  pub an_expr : Keeps cut cut (Expr_at n) (q.expr Fresh)
  pub expr_from : q.can ≡ true → (i : Identifier) → Keeps cut cut (Took (spelled i) (Expr_at n)) (q.expr (AtName i))
  pub expr_not : q.can ≡ true → (p : Place) (kind : Kind) → negating kind ≡ Some tt → Keeps cut cut (Took (token kind p) (Expr_at n)) (q.expr (AtNot p))
  pub a_type : Keeps cut cut (Type_at n) (q.type None)
  pub type_from : q.can ≡ true → (i : Identifier) → Keeps cut cut (Took (spelled i) (Type_at n)) (q.type (Some i))
  pub top : q.can ≡ true → (m : ℕ) × (n ≡ suc m)
