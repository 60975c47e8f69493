-- The nesting of readings, sealed: terms that speak of it stay small.
use Rattle.std.proofs.Common.{◌≡◌, ℕ, List, Option, refl}
use Rattle.mesa_lexer.specs.declared.token.Token.{Token}
use Rattle.mesa_base.specs.declared.identifier.Identifier.{Identifier}
use Rattle.mesa_base.specs.declared.placed.Placed.{Placed}
use Rattle.syntax_trees.specs.declared.syntax.Keyed.{Keyed}
use Rattle.syntax_trees.specs.declared.syntax.Labeled.{Labeled}
use Rattle.syntax_trees.specs.declared.syntax.Entries.{Entries}
use Rattle.syntax_trees.specs.declared.syntax.RepeatLabels.{RepeatLabels}
use Rattle.syntax_trees.specs.declared.syntax.TypeExp.{TypeExp}
use Rattle.syntax_trees.specs.declared.syntax.FieldList.{FieldList}
use Rattle.syntax_trees.specs.declared.syntax.Interval.{Interval}
use Rattle.syntax_trees.specs.declared.syntax.Expr.{Expr}
use Rattle.syntax_trees.specs.declared.syntax.Operation.{Operation}
use Rattle.syntax_trees.specs.declared.syntax.Left.{Left}
use Rattle.syntax_trees.specs.declared.syntax.Suffix.{Suffix}
use Rattle.syntax_trees.specs.declared.syntax.Brackets.{Brackets}
use Rattle.syntax_trees.specs.declared.syntax.Raise.{Raise}
use Rattle.syntax_trees.specs.declared.syntax.Arm.{Arm}
use Rattle.syntax_trees.specs.declared.syntax.Statement.{Statement}
use Rattle.syntax_trees.specs.declared.syntax.Control.{Control}
use Rattle.syntax_trees.specs.declared.syntax.Count.{Count}
use Rattle.syntax_trees.specs.declared.syntax.Condition.{Condition}
use Rattle.syntax_trees.specs.declared.syntax.Case.{Case}
use Rattle.syntax_trees.specs.declared.syntax.Test.{Test}
use Rattle.syntax_trees.specs.declared.syntax.Block.{Block}
use Rattle.syntax_trees.specs.declared.syntax.PlainItem.{PlainItem}
use Rattle.grammar_rules.specs.Grammar.{IsType, IsFields, IsTypes, IsGroups, IsInterval, IsExpr, IsOrs, IsConj, IsAnds, IsNeg, IsRel, IsSum, IsSums, IsProduct, IsProducts, IsFactor, IsPrimary, IsList, IsListOption, IsLeft, IsBrackets, IsBracketsOption, IsArgs, IsExprs, IsKeys, IsCatch, IsArmList, IsArms, IsArm, IsRaise, IsStmt, IsTargets, IsLefts, IsKeyLefts, IsOtherwise, IsCaseList, IsCases, IsCase, IsTests, IsTest, IsControl, IsCount, IsCondition, IsBody, IsStmts, IsRepeatPart, IsRepeats, IsRepeat, IsExitPart, IsExits, IsExit, IsEnabling, IsBlock, IsLocals, IsLocal, IsPlain}
use Rattle.grammar_rules.specs.Depth as dp

unfoldable pub at_type : ℕ → {ts : List Token} {x : TypeExp} {rest : List Token} → IsType ts x rest → Option (List Token)
at_type n e = dp.deep_type n e

pub seal_at_type : (n : ℕ) {ts : List Token} {x : TypeExp} {rest : List Token} (e : IsType ts x rest) → at_type n e ≡ dp.deep_type n e
unfolding at_type
seal_at_type n e = refl

unfoldable pub at_fields : ℕ → {ts : List Token} {x : FieldList} {rest : List Token} → IsFields ts x rest → Option (List Token)
at_fields n e = dp.deep_fields n e

pub seal_at_fields : (n : ℕ) {ts : List Token} {x : FieldList} {rest : List Token} (e : IsFields ts x rest) → at_fields n e ≡ dp.deep_fields n e
unfolding at_fields
seal_at_fields n e = refl

unfoldable pub at_types : ℕ → {ts : List Token} {x : List TypeExp} {rest : List Token} → IsTypes ts x rest → Option (List Token)
at_types n e = dp.deep_types n e

pub seal_at_types : (n : ℕ) {ts : List Token} {x : List TypeExp} {rest : List Token} (e : IsTypes ts x rest) → at_types n e ≡ dp.deep_types n e
unfolding at_types
seal_at_types n e = refl

unfoldable pub at_groups : ℕ → {ts : List Token} {x : List (Labeled (List Identifier) TypeExp)} {rest : List Token} → IsGroups ts x rest → Option (List Token)
at_groups n e = dp.deep_groups n e

pub seal_at_groups : (n : ℕ) {ts : List Token} {x : List (Labeled (List Identifier) TypeExp)} {rest : List Token} (e : IsGroups ts x rest) → at_groups n e ≡ dp.deep_groups n e
unfolding at_groups
seal_at_groups n e = refl

unfoldable pub at_interval : ℕ → {ts : List Token} {x : Interval} {rest : List Token} → IsInterval ts x rest → Option (List Token)
at_interval n e = dp.deep_interval n e

pub seal_at_interval : (n : ℕ) {ts : List Token} {x : Interval} {rest : List Token} (e : IsInterval ts x rest) → at_interval n e ≡ dp.deep_interval n e
unfolding at_interval
seal_at_interval n e = refl

unfoldable pub at_expr : ℕ → {ts : List Token} {x : Expr} {rest : List Token} → IsExpr ts x rest → Option (List Token)
at_expr n e = dp.deep_expr n e

pub seal_at_expr : (n : ℕ) {ts : List Token} {x : Expr} {rest : List Token} (e : IsExpr ts x rest) → at_expr n e ≡ dp.deep_expr n e
unfolding at_expr
seal_at_expr n e = refl

unfoldable pub at_ors : ℕ → {ts : List Token} {x : Expr} {y : List Operation} {rest : List Token} → IsOrs ts x y rest → Option (List Token)
at_ors n e = dp.deep_ors n e

pub seal_at_ors : (n : ℕ) {ts : List Token} {x : Expr} {y : List Operation} {rest : List Token} (e : IsOrs ts x y rest) → at_ors n e ≡ dp.deep_ors n e
unfolding at_ors
seal_at_ors n e = refl

unfoldable pub at_conj : ℕ → {ts : List Token} {x : Expr} {rest : List Token} → IsConj ts x rest → Option (List Token)
at_conj n e = dp.deep_conj n e

pub seal_at_conj : (n : ℕ) {ts : List Token} {x : Expr} {rest : List Token} (e : IsConj ts x rest) → at_conj n e ≡ dp.deep_conj n e
unfolding at_conj
seal_at_conj n e = refl

unfoldable pub at_ands : ℕ → {ts : List Token} {x : Expr} {y : List Operation} {rest : List Token} → IsAnds ts x y rest → Option (List Token)
at_ands n e = dp.deep_ands n e

pub seal_at_ands : (n : ℕ) {ts : List Token} {x : Expr} {y : List Operation} {rest : List Token} (e : IsAnds ts x y rest) → at_ands n e ≡ dp.deep_ands n e
unfolding at_ands
seal_at_ands n e = refl

unfoldable pub at_neg : ℕ → {ts : List Token} {x : Expr} {rest : List Token} → IsNeg ts x rest → Option (List Token)
at_neg n e = dp.deep_neg n e

pub seal_at_neg : (n : ℕ) {ts : List Token} {x : Expr} {rest : List Token} (e : IsNeg ts x rest) → at_neg n e ≡ dp.deep_neg n e
unfolding at_neg
seal_at_neg n e = refl

unfoldable pub at_rel : ℕ → {ts : List Token} {x : Expr} {rest : List Token} → IsRel ts x rest → Option (List Token)
at_rel n e = dp.deep_rel n e

pub seal_at_rel : (n : ℕ) {ts : List Token} {x : Expr} {rest : List Token} (e : IsRel ts x rest) → at_rel n e ≡ dp.deep_rel n e
unfolding at_rel
seal_at_rel n e = refl

unfoldable pub at_sum : ℕ → {ts : List Token} {x : Expr} {rest : List Token} → IsSum ts x rest → Option (List Token)
at_sum n e = dp.deep_sum n e

pub seal_at_sum : (n : ℕ) {ts : List Token} {x : Expr} {rest : List Token} (e : IsSum ts x rest) → at_sum n e ≡ dp.deep_sum n e
unfolding at_sum
seal_at_sum n e = refl

unfoldable pub at_sums : ℕ → {ts : List Token} {x : Expr} {y : List Operation} {rest : List Token} → IsSums ts x y rest → Option (List Token)
at_sums n e = dp.deep_sums n e

pub seal_at_sums : (n : ℕ) {ts : List Token} {x : Expr} {y : List Operation} {rest : List Token} (e : IsSums ts x y rest) → at_sums n e ≡ dp.deep_sums n e
unfolding at_sums
seal_at_sums n e = refl

unfoldable pub at_product : ℕ → {ts : List Token} {x : Expr} {rest : List Token} → IsProduct ts x rest → Option (List Token)
at_product n e = dp.deep_product n e

pub seal_at_product : (n : ℕ) {ts : List Token} {x : Expr} {rest : List Token} (e : IsProduct ts x rest) → at_product n e ≡ dp.deep_product n e
unfolding at_product
seal_at_product n e = refl

unfoldable pub at_products : ℕ → {ts : List Token} {x : Expr} {y : List Operation} {rest : List Token} → IsProducts ts x y rest → Option (List Token)
at_products n e = dp.deep_products n e

pub seal_at_products : (n : ℕ) {ts : List Token} {x : Expr} {y : List Operation} {rest : List Token} (e : IsProducts ts x y rest) → at_products n e ≡ dp.deep_products n e
unfolding at_products
seal_at_products n e = refl

unfoldable pub at_factor : ℕ → {ts : List Token} {x : Expr} {rest : List Token} → IsFactor ts x rest → Option (List Token)
at_factor n e = dp.deep_factor n e

pub seal_at_factor : (n : ℕ) {ts : List Token} {x : Expr} {rest : List Token} (e : IsFactor ts x rest) → at_factor n e ≡ dp.deep_factor n e
unfolding at_factor
seal_at_factor n e = refl

unfoldable pub at_primary : ℕ → {ts : List Token} {x : Expr} {rest : List Token} → IsPrimary ts x rest → Option (List Token)
at_primary n e = dp.deep_primary n e

pub seal_at_primary : (n : ℕ) {ts : List Token} {x : Expr} {rest : List Token} (e : IsPrimary ts x rest) → at_primary n e ≡ dp.deep_primary n e
unfolding at_primary
seal_at_primary n e = refl

unfoldable pub at_list : ℕ → {ts : List Token} {x : Placed (Entries Expr)} {rest : List Token} → IsList ts x rest → Option (List Token)
at_list n e = dp.deep_list n e

pub seal_at_list : (n : ℕ) {ts : List Token} {x : Placed (Entries Expr)} {rest : List Token} (e : IsList ts x rest) → at_list n e ≡ dp.deep_list n e
unfolding at_list
seal_at_list n e = refl

unfoldable pub at_list_option : ℕ → {ts : List Token} {x : Option (Placed (Entries Expr))} {rest : List Token} → IsListOption ts x rest → Option (List Token)
at_list_option n e = dp.deep_list_option n e

pub seal_at_list_option : (n : ℕ) {ts : List Token} {x : Option (Placed (Entries Expr))} {rest : List Token} (e : IsListOption ts x rest) → at_list_option n e ≡ dp.deep_list_option n e
unfolding at_list_option
seal_at_list_option n e = refl

unfoldable pub at_left : ℕ → {ts : List Token} {x : Identifier} {y : List Suffix} {rest : List Token} → IsLeft ts x y rest → Option (List Token)
at_left n e = dp.deep_left n e

pub seal_at_left : (n : ℕ) {ts : List Token} {x : Identifier} {y : List Suffix} {rest : List Token} (e : IsLeft ts x y rest) → at_left n e ≡ dp.deep_left n e
unfolding at_left
seal_at_left n e = refl

unfoldable pub at_brackets : ℕ → {ts : List Token} {x : Brackets} {rest : List Token} → IsBrackets ts x rest → Option (List Token)
at_brackets n e = dp.deep_brackets n e

pub seal_at_brackets : (n : ℕ) {ts : List Token} {x : Brackets} {rest : List Token} (e : IsBrackets ts x rest) → at_brackets n e ≡ dp.deep_brackets n e
unfolding at_brackets
seal_at_brackets n e = refl

unfoldable pub at_brackets_option : ℕ → {ts : List Token} {x : Option Brackets} {rest : List Token} → IsBracketsOption ts x rest → Option (List Token)
at_brackets_option n e = dp.deep_brackets_option n e

pub seal_at_brackets_option : (n : ℕ) {ts : List Token} {x : Option Brackets} {rest : List Token} (e : IsBracketsOption ts x rest) → at_brackets_option n e ≡ dp.deep_brackets_option n e
unfolding at_brackets_option
seal_at_brackets_option n e = refl

unfoldable pub at_args : ℕ → {ts : List Token} {x : Entries Expr} {rest : List Token} → IsArgs ts x rest → Option (List Token)
at_args n e = dp.deep_args n e

pub seal_at_args : (n : ℕ) {ts : List Token} {x : Entries Expr} {rest : List Token} (e : IsArgs ts x rest) → at_args n e ≡ dp.deep_args n e
unfolding at_args
seal_at_args n e = refl

unfoldable pub at_exprs : ℕ → {ts : List Token} {x : List Expr} {rest : List Token} → IsExprs ts x rest → Option (List Token)
at_exprs n e = dp.deep_exprs n e

pub seal_at_exprs : (n : ℕ) {ts : List Token} {x : List Expr} {rest : List Token} (e : IsExprs ts x rest) → at_exprs n e ≡ dp.deep_exprs n e
unfolding at_exprs
seal_at_exprs n e = refl

unfoldable pub at_keys : ℕ → {ts : List Token} {x : List (Keyed Expr)} {rest : List Token} → IsKeys ts x rest → Option (List Token)
at_keys n e = dp.deep_keys n e

pub seal_at_keys : (n : ℕ) {ts : List Token} {x : List (Keyed Expr)} {rest : List Token} (e : IsKeys ts x rest) → at_keys n e ≡ dp.deep_keys n e
unfolding at_keys
seal_at_keys n e = refl

unfoldable pub at_catch : ℕ → {ts : List Token} {x : Option (Placed (List Arm))} {rest : List Token} → IsCatch ts x rest → Option (List Token)
at_catch n e = dp.deep_catch n e

pub seal_at_catch : (n : ℕ) {ts : List Token} {x : Option (Placed (List Arm))} {rest : List Token} (e : IsCatch ts x rest) → at_catch n e ≡ dp.deep_catch n e
unfolding at_catch
seal_at_catch n e = refl

unfoldable pub at_arm_list : ℕ → {ts : List Token} {x : List Arm} {rest : List Token} → IsArmList ts x rest → Option (List Token)
at_arm_list n e = dp.deep_arm_list n e

pub seal_at_arm_list : (n : ℕ) {ts : List Token} {x : List Arm} {rest : List Token} (e : IsArmList ts x rest) → at_arm_list n e ≡ dp.deep_arm_list n e
unfolding at_arm_list
seal_at_arm_list n e = refl

unfoldable pub at_arms : ℕ → {ts : List Token} {x : List Arm} {rest : List Token} → IsArms ts x rest → Option (List Token)
at_arms n e = dp.deep_arms n e

pub seal_at_arms : (n : ℕ) {ts : List Token} {x : List Arm} {rest : List Token} (e : IsArms ts x rest) → at_arms n e ≡ dp.deep_arms n e
unfolding at_arms
seal_at_arms n e = refl

unfoldable pub at_arm : ℕ → {ts : List Token} {x : Arm} {rest : List Token} → IsArm ts x rest → Option (List Token)
at_arm n e = dp.deep_arm n e

pub seal_at_arm : (n : ℕ) {ts : List Token} {x : Arm} {rest : List Token} (e : IsArm ts x rest) → at_arm n e ≡ dp.deep_arm n e
unfolding at_arm
seal_at_arm n e = refl

unfoldable pub at_raise : ℕ → {ts : List Token} {x : Raise} {rest : List Token} → IsRaise ts x rest → Option (List Token)
at_raise n e = dp.deep_raise n e

pub seal_at_raise : (n : ℕ) {ts : List Token} {x : Raise} {rest : List Token} (e : IsRaise ts x rest) → at_raise n e ≡ dp.deep_raise n e
unfolding at_raise
seal_at_raise n e = refl

unfoldable pub at_stmt : ℕ → {ts : List Token} {x : Statement} {rest : List Token} → IsStmt ts x rest → Option (List Token)
at_stmt n e = dp.deep_stmt n e

pub seal_at_stmt : (n : ℕ) {ts : List Token} {x : Statement} {rest : List Token} (e : IsStmt ts x rest) → at_stmt n e ≡ dp.deep_stmt n e
unfolding at_stmt
seal_at_stmt n e = refl

unfoldable pub at_targets : ℕ → {ts : List Token} {x : Entries Left} {rest : List Token} → IsTargets ts x rest → Option (List Token)
at_targets n e = dp.deep_targets n e

pub seal_at_targets : (n : ℕ) {ts : List Token} {x : Entries Left} {rest : List Token} (e : IsTargets ts x rest) → at_targets n e ≡ dp.deep_targets n e
unfolding at_targets
seal_at_targets n e = refl

unfoldable pub at_lefts : ℕ → {ts : List Token} {x : List Left} {rest : List Token} → IsLefts ts x rest → Option (List Token)
at_lefts n e = dp.deep_lefts n e

pub seal_at_lefts : (n : ℕ) {ts : List Token} {x : List Left} {rest : List Token} (e : IsLefts ts x rest) → at_lefts n e ≡ dp.deep_lefts n e
unfolding at_lefts
seal_at_lefts n e = refl

unfoldable pub at_key_lefts : ℕ → {ts : List Token} {x : List (Keyed Left)} {rest : List Token} → IsKeyLefts ts x rest → Option (List Token)
at_key_lefts n e = dp.deep_key_lefts n e

pub seal_at_key_lefts : (n : ℕ) {ts : List Token} {x : List (Keyed Left)} {rest : List Token} (e : IsKeyLefts ts x rest) → at_key_lefts n e ≡ dp.deep_key_lefts n e
unfolding at_key_lefts
seal_at_key_lefts n e = refl

unfoldable pub at_otherwise : ℕ → {ts : List Token} {x : Option Statement} {rest : List Token} → IsOtherwise ts x rest → Option (List Token)
at_otherwise n e = dp.deep_otherwise n e

pub seal_at_otherwise : (n : ℕ) {ts : List Token} {x : Option Statement} {rest : List Token} (e : IsOtherwise ts x rest) → at_otherwise n e ≡ dp.deep_otherwise n e
unfolding at_otherwise
seal_at_otherwise n e = refl

unfoldable pub at_case_list : ℕ → {ts : List Token} {x : List Case} {rest : List Token} → IsCaseList ts x rest → Option (List Token)
at_case_list n e = dp.deep_case_list n e

pub seal_at_case_list : (n : ℕ) {ts : List Token} {x : List Case} {rest : List Token} (e : IsCaseList ts x rest) → at_case_list n e ≡ dp.deep_case_list n e
unfolding at_case_list
seal_at_case_list n e = refl

unfoldable pub at_cases : ℕ → {ts : List Token} {x : List Case} {rest : List Token} → IsCases ts x rest → Option (List Token)
at_cases n e = dp.deep_cases n e

pub seal_at_cases : (n : ℕ) {ts : List Token} {x : List Case} {rest : List Token} (e : IsCases ts x rest) → at_cases n e ≡ dp.deep_cases n e
unfolding at_cases
seal_at_cases n e = refl

unfoldable pub at_case : ℕ → {ts : List Token} {x : Case} {rest : List Token} → IsCase ts x rest → Option (List Token)
at_case n e = dp.deep_case n e

pub seal_at_case : (n : ℕ) {ts : List Token} {x : Case} {rest : List Token} (e : IsCase ts x rest) → at_case n e ≡ dp.deep_case n e
unfolding at_case
seal_at_case n e = refl

unfoldable pub at_tests : ℕ → {ts : List Token} {x : List Test} {rest : List Token} → IsTests ts x rest → Option (List Token)
at_tests n e = dp.deep_tests n e

pub seal_at_tests : (n : ℕ) {ts : List Token} {x : List Test} {rest : List Token} (e : IsTests ts x rest) → at_tests n e ≡ dp.deep_tests n e
unfolding at_tests
seal_at_tests n e = refl

unfoldable pub at_test : ℕ → {ts : List Token} {x : Test} {rest : List Token} → IsTest ts x rest → Option (List Token)
at_test n e = dp.deep_test n e

pub seal_at_test : (n : ℕ) {ts : List Token} {x : Test} {rest : List Token} (e : IsTest ts x rest) → at_test n e ≡ dp.deep_test n e
unfolding at_test
seal_at_test n e = refl

unfoldable pub at_control : ℕ → {ts : List Token} {x : Control} {rest : List Token} → IsControl ts x rest → Option (List Token)
at_control n e = dp.deep_control n e

pub seal_at_control : (n : ℕ) {ts : List Token} {x : Control} {rest : List Token} (e : IsControl ts x rest) → at_control n e ≡ dp.deep_control n e
unfolding at_control
seal_at_control n e = refl

unfoldable pub at_count : ℕ → {ts : List Token} {x : Option Count} {rest : List Token} → IsCount ts x rest → Option (List Token)
at_count n e = dp.deep_count n e

pub seal_at_count : (n : ℕ) {ts : List Token} {x : Option Count} {rest : List Token} (e : IsCount ts x rest) → at_count n e ≡ dp.deep_count n e
unfolding at_count
seal_at_count n e = refl

unfoldable pub at_condition : ℕ → {ts : List Token} {x : Option Condition} {rest : List Token} → IsCondition ts x rest → Option (List Token)
at_condition n e = dp.deep_condition n e

pub seal_at_condition : (n : ℕ) {ts : List Token} {x : Option Condition} {rest : List Token} (e : IsCondition ts x rest) → at_condition n e ≡ dp.deep_condition n e
unfolding at_condition
seal_at_condition n e = refl

unfoldable pub at_body : ℕ → {ts : List Token} {x : List Statement} {rest : List Token} → IsBody ts x rest → Option (List Token)
at_body n e = dp.deep_body n e

pub seal_at_body : (n : ℕ) {ts : List Token} {x : List Statement} {rest : List Token} (e : IsBody ts x rest) → at_body n e ≡ dp.deep_body n e
unfolding at_body
seal_at_body n e = refl

unfoldable pub at_stmts : ℕ → {ts : List Token} {x : List Statement} {rest : List Token} → IsStmts ts x rest → Option (List Token)
at_stmts n e = dp.deep_stmts n e

pub seal_at_stmts : (n : ℕ) {ts : List Token} {x : List Statement} {rest : List Token} (e : IsStmts ts x rest) → at_stmts n e ≡ dp.deep_stmts n e
unfolding at_stmts
seal_at_stmts n e = refl

unfoldable pub at_repeat_part : ℕ → {ts : List Token} {x : List (Labeled RepeatLabels Statement)} {rest : List Token} → IsRepeatPart ts x rest → Option (List Token)
at_repeat_part n e = dp.deep_repeat_part n e

pub seal_at_repeat_part : (n : ℕ) {ts : List Token} {x : List (Labeled RepeatLabels Statement)} {rest : List Token} (e : IsRepeatPart ts x rest) → at_repeat_part n e ≡ dp.deep_repeat_part n e
unfolding at_repeat_part
seal_at_repeat_part n e = refl

unfoldable pub at_repeats : ℕ → {ts : List Token} {x : List (Labeled RepeatLabels Statement)} {rest : List Token} → IsRepeats ts x rest → Option (List Token)
at_repeats n e = dp.deep_repeats n e

pub seal_at_repeats : (n : ℕ) {ts : List Token} {x : List (Labeled RepeatLabels Statement)} {rest : List Token} (e : IsRepeats ts x rest) → at_repeats n e ≡ dp.deep_repeats n e
unfolding at_repeats
seal_at_repeats n e = refl

unfoldable pub at_repeat : ℕ → {ts : List Token} {x : Labeled RepeatLabels Statement} {rest : List Token} → IsRepeat ts x rest → Option (List Token)
at_repeat n e = dp.deep_repeat n e

pub seal_at_repeat : (n : ℕ) {ts : List Token} {x : Labeled RepeatLabels Statement} {rest : List Token} (e : IsRepeat ts x rest) → at_repeat n e ≡ dp.deep_repeat n e
unfolding at_repeat
seal_at_repeat n e = refl

unfoldable pub at_exit_part : ℕ → {ts : List Token} {x : List (Labeled (List Identifier) Statement)} {rest : List Token} → IsExitPart ts x rest → Option (List Token)
at_exit_part n e = dp.deep_exit_part n e

pub seal_at_exit_part : (n : ℕ) {ts : List Token} {x : List (Labeled (List Identifier) Statement)} {rest : List Token} (e : IsExitPart ts x rest) → at_exit_part n e ≡ dp.deep_exit_part n e
unfolding at_exit_part
seal_at_exit_part n e = refl

unfoldable pub at_exits : ℕ → {ts : List Token} {x : List (Labeled (List Identifier) Statement)} {rest : List Token} → IsExits ts x rest → Option (List Token)
at_exits n e = dp.deep_exits n e

pub seal_at_exits : (n : ℕ) {ts : List Token} {x : List (Labeled (List Identifier) Statement)} {rest : List Token} (e : IsExits ts x rest) → at_exits n e ≡ dp.deep_exits n e
unfolding at_exits
seal_at_exits n e = refl

unfoldable pub at_exit : ℕ → {ts : List Token} {x : Labeled (List Identifier) Statement} {rest : List Token} → IsExit ts x rest → Option (List Token)
at_exit n e = dp.deep_exit n e

pub seal_at_exit : (n : ℕ) {ts : List Token} {x : Labeled (List Identifier) Statement} {rest : List Token} (e : IsExit ts x rest) → at_exit n e ≡ dp.deep_exit n e
unfolding at_exit
seal_at_exit n e = refl

unfoldable pub at_enabling : ℕ → {ts : List Token} {x : Option (Placed (List Arm))} {rest : List Token} → IsEnabling ts x rest → Option (List Token)
at_enabling n e = dp.deep_enabling n e

pub seal_at_enabling : (n : ℕ) {ts : List Token} {x : Option (Placed (List Arm))} {rest : List Token} (e : IsEnabling ts x rest) → at_enabling n e ≡ dp.deep_enabling n e
unfolding at_enabling
seal_at_enabling n e = refl

unfoldable pub at_block : ℕ → {ts : List Token} {x : Block} {rest : List Token} → IsBlock ts x rest → Option (List Token)
at_block n e = dp.deep_block n e

pub seal_at_block : (n : ℕ) {ts : List Token} {x : Block} {rest : List Token} (e : IsBlock ts x rest) → at_block n e ≡ dp.deep_block n e
unfolding at_block
seal_at_block n e = refl

unfoldable pub at_locals : ℕ → {ts : List Token} {x : List (Labeled (List Identifier) PlainItem)} {rest : List Token} → IsLocals ts x rest → Option (List Token)
at_locals n e = dp.deep_locals n e

pub seal_at_locals : (n : ℕ) {ts : List Token} {x : List (Labeled (List Identifier) PlainItem)} {rest : List Token} (e : IsLocals ts x rest) → at_locals n e ≡ dp.deep_locals n e
unfolding at_locals
seal_at_locals n e = refl

unfoldable pub at_local : ℕ → {ts : List Token} {x : Labeled (List Identifier) PlainItem} {rest : List Token} → IsLocal ts x rest → Option (List Token)
at_local n e = dp.deep_local n e

pub seal_at_local : (n : ℕ) {ts : List Token} {x : Labeled (List Identifier) PlainItem} {rest : List Token} (e : IsLocal ts x rest) → at_local n e ≡ dp.deep_local n e
unfolding at_local
seal_at_local n e = refl

unfoldable pub at_plain : ℕ → {ts : List Token} {x : PlainItem} {rest : List Token} → IsPlain ts x rest → Option (List Token)
at_plain n e = dp.deep_plain n e

pub seal_at_plain : (n : ℕ) {ts : List Token} {x : PlainItem} {rest : List Token} (e : IsPlain ts x rest) → at_plain n e ≡ dp.deep_plain n e
unfolding at_plain
seal_at_plain n e = refl
