-- What each form of a syntax tree of the code is in the plain one, by what its parts are.
use Rattle.std.proofs.Common.{◌≡◌, ℕ, Bool, List, Option, Some, None, refl, sym, ap, ◌∙◌}
use Rattle.held_trees.specs.mesa_base.specs.declared.place.Place.{Place}
use Rattle.held_trees.specs.mesa_base.specs.declared.identifier.Identifier.{Identifier}
use Rattle.held_trees.specs.mesa_base.specs.declared.placed.Placed.{Placed}
use Rattle.syntax_trees.specs.declared.syntax.QualifiedName.{QualifiedName}
use Rattle.syntax_trees.specs.declared.syntax.Labeled.{Labeled}
use Rattle.syntax_trees.specs.declared.syntax.Entries.{Entries}
use Rattle.syntax_trees.specs.declared.syntax.Labels.{Labels}
use Rattle.syntax_trees.specs.declared.syntax.RepeatLabels.{RepeatLabels}
use Rattle.syntax_trees.specs.declared.syntax.TypeBase.{TypeBase}
use Rattle.syntax_trees.specs.declared.syntax.Sign.{Sign}
use Rattle.syntax_trees.specs.declared.syntax.Operator.{Operator}
use Rattle.held_trees.specs.mesa_base.specs.declared.relation.Relation.{Relation}
use Rattle.syntax_trees.specs.declared.syntax.Entries.TheVariants.{Nothing, InOrder, ByKey}
use Rattle.syntax_trees.specs.declared.syntax.Condition.TheOpen.{Condition-F, Count-F, Expr-F, FieldList-F, PlainItem-F, Raise-F, Statement-F, Suffix-F, Test-F, TypeExp-F, Arm-F, Block-F, Brackets-F, Case-F, Control-F, Interval-F, Left-F, Operation-F}
use Rattle.syntax_trees.specs.declared.syntax.Condition.TheFolds.{fold-roll-Condition, fold-roll-Count, fold-roll-Expr, fold-roll-FieldList, fold-roll-PlainItem, fold-roll-Raise, fold-roll-Statement, fold-roll-Suffix, fold-roll-Test, fold-roll-TypeExp, fold-roll-Arm, fold-roll-Block, fold-roll-Brackets, fold-roll-Case, fold-roll-Control, fold-roll-Interval, fold-roll-Left, fold-roll-Operation, map-Condition, map-Count, map-Expr, map-FieldList, map-PlainItem, map-Raise, map-Statement, map-Suffix, map-Test, map-TypeExp, map-Arm, map-Block, map-Brackets, map-Case, map-Control, map-Interval, map-Left, map-Operation}
use Rattle.syntax_trees.specs.declared.syntax.Condition.TheViews.{roll-Count, roll-Expr, roll-FieldList, roll-PlainItem, roll-Raise, roll-Statement, roll-Suffix, roll-Test, roll-TypeExp, roll-Arm, roll-Block, roll-Brackets, roll-Case, roll-Control, roll-Interval, roll-Left, roll-Operation}
use Rattle.syntax_trees.specs.declared.syntax.Condition.{Condition, roll-Condition}
use Rattle.syntax_trees.specs.declared.syntax.Condition.TheVariants as cv
use Rattle.syntax_trees.specs.declared.syntax.Count.{Count}
use Rattle.syntax_trees.specs.declared.syntax.Count.TheVariants as nv
use Rattle.syntax_trees.specs.declared.syntax.Expr.{Expr}
use Rattle.syntax_trees.specs.declared.syntax.Expr.TheVariants as ev
use Rattle.syntax_trees.specs.declared.syntax.FieldList.{FieldList}
use Rattle.syntax_trees.specs.declared.syntax.FieldList.TheVariants as fv
use Rattle.syntax_trees.specs.declared.syntax.PlainItem.{PlainItem}
use Rattle.syntax_trees.specs.declared.syntax.PlainItem.TheVariants as pv
use Rattle.syntax_trees.specs.declared.syntax.Raise.{Raise}
use Rattle.syntax_trees.specs.declared.syntax.Raise.TheVariants as rv
use Rattle.syntax_trees.specs.declared.syntax.Statement.{Statement}
use Rattle.syntax_trees.specs.declared.syntax.Statement.TheVariants as sv
use Rattle.syntax_trees.specs.declared.syntax.Suffix.{Suffix}
use Rattle.syntax_trees.specs.declared.syntax.Suffix.TheVariants as xv
use Rattle.syntax_trees.specs.declared.syntax.Test.{Test}
use Rattle.syntax_trees.specs.declared.syntax.Test.TheVariants as tv
use Rattle.syntax_trees.specs.declared.syntax.TypeExp.{TypeExp}
use Rattle.syntax_trees.specs.declared.syntax.TypeExp.TheVariants as yv
use Rattle.syntax_trees.specs.declared.syntax.Arm.{Arm, out-Arm, roll-out-Arm}
use Rattle.syntax_trees.specs.declared.syntax.Block.{Block, out-Block, roll-out-Block}
use Rattle.syntax_trees.specs.declared.syntax.Brackets.{Brackets, out-Brackets, roll-out-Brackets}
use Rattle.syntax_trees.specs.declared.syntax.Case.{Case, out-Case, roll-out-Case}
use Rattle.syntax_trees.specs.declared.syntax.Control.{Control, out-Control, roll-out-Control}
use Rattle.syntax_trees.specs.declared.syntax.Interval.{Interval, out-Interval, roll-out-Interval}
use Rattle.syntax_trees.specs.declared.syntax.Left.{Left, out-Left, roll-out-Left}
use Rattle.syntax_trees.specs.declared.syntax.Operation.{Operation, out-Operation, roll-out-Operation}
use Rattle.syntax_trees.specs.Syntax as s
use Rattle.syntax_trees.specs.PlainSyntax.{condition, count, expr, field_list, plain_item, raise, statement, suffix, test, type_exp, arm, block, brackets, case, control, interval, left, operation, condition_step, count_step, expr_step, field_list_step, plain_item_step, raise_step, statement_step, suffix_step, test_step, type_exp_step, arm_step, block_step, brackets_step, case_step, control_step, interval_step, left_step, operation_step, items, targets, types, named_fields, operations, suffixes, tests, cases, statements, locals, exits, repeats, phrase, maybe_brackets, maybe_statement, maybe_items, maybe_count, maybe_condition}

abbrev Trees : (Type 0 → Type 0 → Type 0 → Type 0 → Type 0 → Type 0 → Type 0 → Type 0 → Type 0 → Type 0 → Type 0 → Type 0 → Type 0 → Type 0 → Type 0 → Type 0 → Type 0 → Type 0 → Type 0) → Type 0
Trees F = F Condition Count Expr FieldList PlainItem Raise Statement Suffix Test TypeExp Arm Block Brackets Case Control Interval Left Operation

-- ---- one layer

pub condition_at : (y : Trees Condition-F) {x : Condition} → roll-Condition y ≡ x → condition x ≡ condition_step (map-Condition Condition Count Expr FieldList PlainItem Raise Statement Suffix Test TypeExp Arm Block Brackets Case Control Interval Left Operation s.Condition s.Count s.Expr s.FieldList s.PlainItem s.Raise s.Statement (s.Suffixes → s.Suffixes) (s.Tests → s.Tests) s.TypeExp (s.Arms → s.Arms) s.Block s.Brackets (s.Cases → s.Cases) s.Control s.Interval s.Left (s.Operations → s.Operations) condition count expr field_list plain_item raise statement suffix test type_exp arm block brackets case control interval left operation y)
unfolding condition count expr field_list plain_item raise statement suffix test type_exp arm block brackets case control interval left operation
condition_at y h = ap condition (sym h) ∙ fold-roll-Condition s.Condition s.Count s.Expr s.FieldList s.PlainItem s.Raise s.Statement (s.Suffixes → s.Suffixes) (s.Tests → s.Tests) s.TypeExp (s.Arms → s.Arms) s.Block s.Brackets (s.Cases → s.Cases) s.Control s.Interval s.Left (s.Operations → s.Operations) condition_step count_step expr_step field_list_step plain_item_step raise_step statement_step suffix_step test_step type_exp_step arm_step block_step brackets_step case_step control_step interval_step left_step operation_step y

pub count_at : (y : Trees Count-F) {x : Count} → roll-Count y ≡ x → count x ≡ count_step (map-Count Condition Count Expr FieldList PlainItem Raise Statement Suffix Test TypeExp Arm Block Brackets Case Control Interval Left Operation s.Condition s.Count s.Expr s.FieldList s.PlainItem s.Raise s.Statement (s.Suffixes → s.Suffixes) (s.Tests → s.Tests) s.TypeExp (s.Arms → s.Arms) s.Block s.Brackets (s.Cases → s.Cases) s.Control s.Interval s.Left (s.Operations → s.Operations) condition count expr field_list plain_item raise statement suffix test type_exp arm block brackets case control interval left operation y)
unfolding condition count expr field_list plain_item raise statement suffix test type_exp arm block brackets case control interval left operation
count_at y h = ap count (sym h) ∙ fold-roll-Count s.Condition s.Count s.Expr s.FieldList s.PlainItem s.Raise s.Statement (s.Suffixes → s.Suffixes) (s.Tests → s.Tests) s.TypeExp (s.Arms → s.Arms) s.Block s.Brackets (s.Cases → s.Cases) s.Control s.Interval s.Left (s.Operations → s.Operations) condition_step count_step expr_step field_list_step plain_item_step raise_step statement_step suffix_step test_step type_exp_step arm_step block_step brackets_step case_step control_step interval_step left_step operation_step y

pub expr_at : (y : Trees Expr-F) {x : Expr} → roll-Expr y ≡ x → expr x ≡ expr_step (map-Expr Condition Count Expr FieldList PlainItem Raise Statement Suffix Test TypeExp Arm Block Brackets Case Control Interval Left Operation s.Condition s.Count s.Expr s.FieldList s.PlainItem s.Raise s.Statement (s.Suffixes → s.Suffixes) (s.Tests → s.Tests) s.TypeExp (s.Arms → s.Arms) s.Block s.Brackets (s.Cases → s.Cases) s.Control s.Interval s.Left (s.Operations → s.Operations) condition count expr field_list plain_item raise statement suffix test type_exp arm block brackets case control interval left operation y)
unfolding condition count expr field_list plain_item raise statement suffix test type_exp arm block brackets case control interval left operation
expr_at y h = ap expr (sym h) ∙ fold-roll-Expr s.Condition s.Count s.Expr s.FieldList s.PlainItem s.Raise s.Statement (s.Suffixes → s.Suffixes) (s.Tests → s.Tests) s.TypeExp (s.Arms → s.Arms) s.Block s.Brackets (s.Cases → s.Cases) s.Control s.Interval s.Left (s.Operations → s.Operations) condition_step count_step expr_step field_list_step plain_item_step raise_step statement_step suffix_step test_step type_exp_step arm_step block_step brackets_step case_step control_step interval_step left_step operation_step y

pub field_list_at : (y : Trees FieldList-F) {x : FieldList} → roll-FieldList y ≡ x → field_list x ≡ field_list_step (map-FieldList Condition Count Expr FieldList PlainItem Raise Statement Suffix Test TypeExp Arm Block Brackets Case Control Interval Left Operation s.Condition s.Count s.Expr s.FieldList s.PlainItem s.Raise s.Statement (s.Suffixes → s.Suffixes) (s.Tests → s.Tests) s.TypeExp (s.Arms → s.Arms) s.Block s.Brackets (s.Cases → s.Cases) s.Control s.Interval s.Left (s.Operations → s.Operations) condition count expr field_list plain_item raise statement suffix test type_exp arm block brackets case control interval left operation y)
unfolding condition count expr field_list plain_item raise statement suffix test type_exp arm block brackets case control interval left operation
field_list_at y h = ap field_list (sym h) ∙ fold-roll-FieldList s.Condition s.Count s.Expr s.FieldList s.PlainItem s.Raise s.Statement (s.Suffixes → s.Suffixes) (s.Tests → s.Tests) s.TypeExp (s.Arms → s.Arms) s.Block s.Brackets (s.Cases → s.Cases) s.Control s.Interval s.Left (s.Operations → s.Operations) condition_step count_step expr_step field_list_step plain_item_step raise_step statement_step suffix_step test_step type_exp_step arm_step block_step brackets_step case_step control_step interval_step left_step operation_step y

pub plain_item_at : (y : Trees PlainItem-F) {x : PlainItem} → roll-PlainItem y ≡ x → plain_item x ≡ plain_item_step (map-PlainItem Condition Count Expr FieldList PlainItem Raise Statement Suffix Test TypeExp Arm Block Brackets Case Control Interval Left Operation s.Condition s.Count s.Expr s.FieldList s.PlainItem s.Raise s.Statement (s.Suffixes → s.Suffixes) (s.Tests → s.Tests) s.TypeExp (s.Arms → s.Arms) s.Block s.Brackets (s.Cases → s.Cases) s.Control s.Interval s.Left (s.Operations → s.Operations) condition count expr field_list plain_item raise statement suffix test type_exp arm block brackets case control interval left operation y)
unfolding condition count expr field_list plain_item raise statement suffix test type_exp arm block brackets case control interval left operation
plain_item_at y h = ap plain_item (sym h) ∙ fold-roll-PlainItem s.Condition s.Count s.Expr s.FieldList s.PlainItem s.Raise s.Statement (s.Suffixes → s.Suffixes) (s.Tests → s.Tests) s.TypeExp (s.Arms → s.Arms) s.Block s.Brackets (s.Cases → s.Cases) s.Control s.Interval s.Left (s.Operations → s.Operations) condition_step count_step expr_step field_list_step plain_item_step raise_step statement_step suffix_step test_step type_exp_step arm_step block_step brackets_step case_step control_step interval_step left_step operation_step y

pub raise_at : (y : Trees Raise-F) {x : Raise} → roll-Raise y ≡ x → raise x ≡ raise_step (map-Raise Condition Count Expr FieldList PlainItem Raise Statement Suffix Test TypeExp Arm Block Brackets Case Control Interval Left Operation s.Condition s.Count s.Expr s.FieldList s.PlainItem s.Raise s.Statement (s.Suffixes → s.Suffixes) (s.Tests → s.Tests) s.TypeExp (s.Arms → s.Arms) s.Block s.Brackets (s.Cases → s.Cases) s.Control s.Interval s.Left (s.Operations → s.Operations) condition count expr field_list plain_item raise statement suffix test type_exp arm block brackets case control interval left operation y)
unfolding condition count expr field_list plain_item raise statement suffix test type_exp arm block brackets case control interval left operation
raise_at y h = ap raise (sym h) ∙ fold-roll-Raise s.Condition s.Count s.Expr s.FieldList s.PlainItem s.Raise s.Statement (s.Suffixes → s.Suffixes) (s.Tests → s.Tests) s.TypeExp (s.Arms → s.Arms) s.Block s.Brackets (s.Cases → s.Cases) s.Control s.Interval s.Left (s.Operations → s.Operations) condition_step count_step expr_step field_list_step plain_item_step raise_step statement_step suffix_step test_step type_exp_step arm_step block_step brackets_step case_step control_step interval_step left_step operation_step y

pub statement_at : (y : Trees Statement-F) {x : Statement} → roll-Statement y ≡ x → statement x ≡ statement_step (map-Statement Condition Count Expr FieldList PlainItem Raise Statement Suffix Test TypeExp Arm Block Brackets Case Control Interval Left Operation s.Condition s.Count s.Expr s.FieldList s.PlainItem s.Raise s.Statement (s.Suffixes → s.Suffixes) (s.Tests → s.Tests) s.TypeExp (s.Arms → s.Arms) s.Block s.Brackets (s.Cases → s.Cases) s.Control s.Interval s.Left (s.Operations → s.Operations) condition count expr field_list plain_item raise statement suffix test type_exp arm block brackets case control interval left operation y)
unfolding condition count expr field_list plain_item raise statement suffix test type_exp arm block brackets case control interval left operation
statement_at y h = ap statement (sym h) ∙ fold-roll-Statement s.Condition s.Count s.Expr s.FieldList s.PlainItem s.Raise s.Statement (s.Suffixes → s.Suffixes) (s.Tests → s.Tests) s.TypeExp (s.Arms → s.Arms) s.Block s.Brackets (s.Cases → s.Cases) s.Control s.Interval s.Left (s.Operations → s.Operations) condition_step count_step expr_step field_list_step plain_item_step raise_step statement_step suffix_step test_step type_exp_step arm_step block_step brackets_step case_step control_step interval_step left_step operation_step y

pub suffix_at : (y : Trees Suffix-F) {x : Suffix} → roll-Suffix y ≡ x → suffix x ≡ suffix_step (map-Suffix Condition Count Expr FieldList PlainItem Raise Statement Suffix Test TypeExp Arm Block Brackets Case Control Interval Left Operation s.Condition s.Count s.Expr s.FieldList s.PlainItem s.Raise s.Statement (s.Suffixes → s.Suffixes) (s.Tests → s.Tests) s.TypeExp (s.Arms → s.Arms) s.Block s.Brackets (s.Cases → s.Cases) s.Control s.Interval s.Left (s.Operations → s.Operations) condition count expr field_list plain_item raise statement suffix test type_exp arm block brackets case control interval left operation y)
unfolding condition count expr field_list plain_item raise statement suffix test type_exp arm block brackets case control interval left operation
suffix_at y h = ap suffix (sym h) ∙ fold-roll-Suffix s.Condition s.Count s.Expr s.FieldList s.PlainItem s.Raise s.Statement (s.Suffixes → s.Suffixes) (s.Tests → s.Tests) s.TypeExp (s.Arms → s.Arms) s.Block s.Brackets (s.Cases → s.Cases) s.Control s.Interval s.Left (s.Operations → s.Operations) condition_step count_step expr_step field_list_step plain_item_step raise_step statement_step suffix_step test_step type_exp_step arm_step block_step brackets_step case_step control_step interval_step left_step operation_step y

pub test_at : (y : Trees Test-F) {x : Test} → roll-Test y ≡ x → test x ≡ test_step (map-Test Condition Count Expr FieldList PlainItem Raise Statement Suffix Test TypeExp Arm Block Brackets Case Control Interval Left Operation s.Condition s.Count s.Expr s.FieldList s.PlainItem s.Raise s.Statement (s.Suffixes → s.Suffixes) (s.Tests → s.Tests) s.TypeExp (s.Arms → s.Arms) s.Block s.Brackets (s.Cases → s.Cases) s.Control s.Interval s.Left (s.Operations → s.Operations) condition count expr field_list plain_item raise statement suffix test type_exp arm block brackets case control interval left operation y)
unfolding condition count expr field_list plain_item raise statement suffix test type_exp arm block brackets case control interval left operation
test_at y h = ap test (sym h) ∙ fold-roll-Test s.Condition s.Count s.Expr s.FieldList s.PlainItem s.Raise s.Statement (s.Suffixes → s.Suffixes) (s.Tests → s.Tests) s.TypeExp (s.Arms → s.Arms) s.Block s.Brackets (s.Cases → s.Cases) s.Control s.Interval s.Left (s.Operations → s.Operations) condition_step count_step expr_step field_list_step plain_item_step raise_step statement_step suffix_step test_step type_exp_step arm_step block_step brackets_step case_step control_step interval_step left_step operation_step y

pub type_exp_at : (y : Trees TypeExp-F) {x : TypeExp} → roll-TypeExp y ≡ x → type_exp x ≡ type_exp_step (map-TypeExp Condition Count Expr FieldList PlainItem Raise Statement Suffix Test TypeExp Arm Block Brackets Case Control Interval Left Operation s.Condition s.Count s.Expr s.FieldList s.PlainItem s.Raise s.Statement (s.Suffixes → s.Suffixes) (s.Tests → s.Tests) s.TypeExp (s.Arms → s.Arms) s.Block s.Brackets (s.Cases → s.Cases) s.Control s.Interval s.Left (s.Operations → s.Operations) condition count expr field_list plain_item raise statement suffix test type_exp arm block brackets case control interval left operation y)
unfolding condition count expr field_list plain_item raise statement suffix test type_exp arm block brackets case control interval left operation
type_exp_at y h = ap type_exp (sym h) ∙ fold-roll-TypeExp s.Condition s.Count s.Expr s.FieldList s.PlainItem s.Raise s.Statement (s.Suffixes → s.Suffixes) (s.Tests → s.Tests) s.TypeExp (s.Arms → s.Arms) s.Block s.Brackets (s.Cases → s.Cases) s.Control s.Interval s.Left (s.Operations → s.Operations) condition_step count_step expr_step field_list_step plain_item_step raise_step statement_step suffix_step test_step type_exp_step arm_step block_step brackets_step case_step control_step interval_step left_step operation_step y

pub arm_at : (y : Trees Arm-F) {x : Arm} → roll-Arm y ≡ x → arm x ≡ arm_step (map-Arm Condition Count Expr FieldList PlainItem Raise Statement Suffix Test TypeExp Arm Block Brackets Case Control Interval Left Operation s.Condition s.Count s.Expr s.FieldList s.PlainItem s.Raise s.Statement (s.Suffixes → s.Suffixes) (s.Tests → s.Tests) s.TypeExp (s.Arms → s.Arms) s.Block s.Brackets (s.Cases → s.Cases) s.Control s.Interval s.Left (s.Operations → s.Operations) condition count expr field_list plain_item raise statement suffix test type_exp arm block brackets case control interval left operation y)
unfolding condition count expr field_list plain_item raise statement suffix test type_exp arm block brackets case control interval left operation
arm_at y h = ap arm (sym h) ∙ fold-roll-Arm s.Condition s.Count s.Expr s.FieldList s.PlainItem s.Raise s.Statement (s.Suffixes → s.Suffixes) (s.Tests → s.Tests) s.TypeExp (s.Arms → s.Arms) s.Block s.Brackets (s.Cases → s.Cases) s.Control s.Interval s.Left (s.Operations → s.Operations) condition_step count_step expr_step field_list_step plain_item_step raise_step statement_step suffix_step test_step type_exp_step arm_step block_step brackets_step case_step control_step interval_step left_step operation_step y

pub block_at : (y : Trees Block-F) {x : Block} → roll-Block y ≡ x → block x ≡ block_step (map-Block Condition Count Expr FieldList PlainItem Raise Statement Suffix Test TypeExp Arm Block Brackets Case Control Interval Left Operation s.Condition s.Count s.Expr s.FieldList s.PlainItem s.Raise s.Statement (s.Suffixes → s.Suffixes) (s.Tests → s.Tests) s.TypeExp (s.Arms → s.Arms) s.Block s.Brackets (s.Cases → s.Cases) s.Control s.Interval s.Left (s.Operations → s.Operations) condition count expr field_list plain_item raise statement suffix test type_exp arm block brackets case control interval left operation y)
unfolding condition count expr field_list plain_item raise statement suffix test type_exp arm block brackets case control interval left operation
block_at y h = ap block (sym h) ∙ fold-roll-Block s.Condition s.Count s.Expr s.FieldList s.PlainItem s.Raise s.Statement (s.Suffixes → s.Suffixes) (s.Tests → s.Tests) s.TypeExp (s.Arms → s.Arms) s.Block s.Brackets (s.Cases → s.Cases) s.Control s.Interval s.Left (s.Operations → s.Operations) condition_step count_step expr_step field_list_step plain_item_step raise_step statement_step suffix_step test_step type_exp_step arm_step block_step brackets_step case_step control_step interval_step left_step operation_step y

pub brackets_at : (y : Trees Brackets-F) {x : Brackets} → roll-Brackets y ≡ x → brackets x ≡ brackets_step (map-Brackets Condition Count Expr FieldList PlainItem Raise Statement Suffix Test TypeExp Arm Block Brackets Case Control Interval Left Operation s.Condition s.Count s.Expr s.FieldList s.PlainItem s.Raise s.Statement (s.Suffixes → s.Suffixes) (s.Tests → s.Tests) s.TypeExp (s.Arms → s.Arms) s.Block s.Brackets (s.Cases → s.Cases) s.Control s.Interval s.Left (s.Operations → s.Operations) condition count expr field_list plain_item raise statement suffix test type_exp arm block brackets case control interval left operation y)
unfolding condition count expr field_list plain_item raise statement suffix test type_exp arm block brackets case control interval left operation
brackets_at y h = ap brackets (sym h) ∙ fold-roll-Brackets s.Condition s.Count s.Expr s.FieldList s.PlainItem s.Raise s.Statement (s.Suffixes → s.Suffixes) (s.Tests → s.Tests) s.TypeExp (s.Arms → s.Arms) s.Block s.Brackets (s.Cases → s.Cases) s.Control s.Interval s.Left (s.Operations → s.Operations) condition_step count_step expr_step field_list_step plain_item_step raise_step statement_step suffix_step test_step type_exp_step arm_step block_step brackets_step case_step control_step interval_step left_step operation_step y

pub case_at : (y : Trees Case-F) {x : Case} → roll-Case y ≡ x → case x ≡ case_step (map-Case Condition Count Expr FieldList PlainItem Raise Statement Suffix Test TypeExp Arm Block Brackets Case Control Interval Left Operation s.Condition s.Count s.Expr s.FieldList s.PlainItem s.Raise s.Statement (s.Suffixes → s.Suffixes) (s.Tests → s.Tests) s.TypeExp (s.Arms → s.Arms) s.Block s.Brackets (s.Cases → s.Cases) s.Control s.Interval s.Left (s.Operations → s.Operations) condition count expr field_list plain_item raise statement suffix test type_exp arm block brackets case control interval left operation y)
unfolding condition count expr field_list plain_item raise statement suffix test type_exp arm block brackets case control interval left operation
case_at y h = ap case (sym h) ∙ fold-roll-Case s.Condition s.Count s.Expr s.FieldList s.PlainItem s.Raise s.Statement (s.Suffixes → s.Suffixes) (s.Tests → s.Tests) s.TypeExp (s.Arms → s.Arms) s.Block s.Brackets (s.Cases → s.Cases) s.Control s.Interval s.Left (s.Operations → s.Operations) condition_step count_step expr_step field_list_step plain_item_step raise_step statement_step suffix_step test_step type_exp_step arm_step block_step brackets_step case_step control_step interval_step left_step operation_step y

pub control_at : (y : Trees Control-F) {x : Control} → roll-Control y ≡ x → control x ≡ control_step (map-Control Condition Count Expr FieldList PlainItem Raise Statement Suffix Test TypeExp Arm Block Brackets Case Control Interval Left Operation s.Condition s.Count s.Expr s.FieldList s.PlainItem s.Raise s.Statement (s.Suffixes → s.Suffixes) (s.Tests → s.Tests) s.TypeExp (s.Arms → s.Arms) s.Block s.Brackets (s.Cases → s.Cases) s.Control s.Interval s.Left (s.Operations → s.Operations) condition count expr field_list plain_item raise statement suffix test type_exp arm block brackets case control interval left operation y)
unfolding condition count expr field_list plain_item raise statement suffix test type_exp arm block brackets case control interval left operation
control_at y h = ap control (sym h) ∙ fold-roll-Control s.Condition s.Count s.Expr s.FieldList s.PlainItem s.Raise s.Statement (s.Suffixes → s.Suffixes) (s.Tests → s.Tests) s.TypeExp (s.Arms → s.Arms) s.Block s.Brackets (s.Cases → s.Cases) s.Control s.Interval s.Left (s.Operations → s.Operations) condition_step count_step expr_step field_list_step plain_item_step raise_step statement_step suffix_step test_step type_exp_step arm_step block_step brackets_step case_step control_step interval_step left_step operation_step y

pub interval_at : (y : Trees Interval-F) {x : Interval} → roll-Interval y ≡ x → interval x ≡ interval_step (map-Interval Condition Count Expr FieldList PlainItem Raise Statement Suffix Test TypeExp Arm Block Brackets Case Control Interval Left Operation s.Condition s.Count s.Expr s.FieldList s.PlainItem s.Raise s.Statement (s.Suffixes → s.Suffixes) (s.Tests → s.Tests) s.TypeExp (s.Arms → s.Arms) s.Block s.Brackets (s.Cases → s.Cases) s.Control s.Interval s.Left (s.Operations → s.Operations) condition count expr field_list plain_item raise statement suffix test type_exp arm block brackets case control interval left operation y)
unfolding condition count expr field_list plain_item raise statement suffix test type_exp arm block brackets case control interval left operation
interval_at y h = ap interval (sym h) ∙ fold-roll-Interval s.Condition s.Count s.Expr s.FieldList s.PlainItem s.Raise s.Statement (s.Suffixes → s.Suffixes) (s.Tests → s.Tests) s.TypeExp (s.Arms → s.Arms) s.Block s.Brackets (s.Cases → s.Cases) s.Control s.Interval s.Left (s.Operations → s.Operations) condition_step count_step expr_step field_list_step plain_item_step raise_step statement_step suffix_step test_step type_exp_step arm_step block_step brackets_step case_step control_step interval_step left_step operation_step y

pub left_at : (y : Trees Left-F) {x : Left} → roll-Left y ≡ x → left x ≡ left_step (map-Left Condition Count Expr FieldList PlainItem Raise Statement Suffix Test TypeExp Arm Block Brackets Case Control Interval Left Operation s.Condition s.Count s.Expr s.FieldList s.PlainItem s.Raise s.Statement (s.Suffixes → s.Suffixes) (s.Tests → s.Tests) s.TypeExp (s.Arms → s.Arms) s.Block s.Brackets (s.Cases → s.Cases) s.Control s.Interval s.Left (s.Operations → s.Operations) condition count expr field_list plain_item raise statement suffix test type_exp arm block brackets case control interval left operation y)
unfolding condition count expr field_list plain_item raise statement suffix test type_exp arm block brackets case control interval left operation
left_at y h = ap left (sym h) ∙ fold-roll-Left s.Condition s.Count s.Expr s.FieldList s.PlainItem s.Raise s.Statement (s.Suffixes → s.Suffixes) (s.Tests → s.Tests) s.TypeExp (s.Arms → s.Arms) s.Block s.Brackets (s.Cases → s.Cases) s.Control s.Interval s.Left (s.Operations → s.Operations) condition_step count_step expr_step field_list_step plain_item_step raise_step statement_step suffix_step test_step type_exp_step arm_step block_step brackets_step case_step control_step interval_step left_step operation_step y

pub operation_at : (y : Trees Operation-F) {x : Operation} → roll-Operation y ≡ x → operation x ≡ operation_step (map-Operation Condition Count Expr FieldList PlainItem Raise Statement Suffix Test TypeExp Arm Block Brackets Case Control Interval Left Operation s.Condition s.Count s.Expr s.FieldList s.PlainItem s.Raise s.Statement (s.Suffixes → s.Suffixes) (s.Tests → s.Tests) s.TypeExp (s.Arms → s.Arms) s.Block s.Brackets (s.Cases → s.Cases) s.Control s.Interval s.Left (s.Operations → s.Operations) condition count expr field_list plain_item raise statement suffix test type_exp arm block brackets case control interval left operation y)
unfolding condition count expr field_list plain_item raise statement suffix test type_exp arm block brackets case control interval left operation
operation_at y h = ap operation (sym h) ∙ fold-roll-Operation s.Condition s.Count s.Expr s.FieldList s.PlainItem s.Raise s.Statement (s.Suffixes → s.Suffixes) (s.Tests → s.Tests) s.TypeExp (s.Arms → s.Arms) s.Block s.Brackets (s.Cases → s.Cases) s.Control s.Interval s.Left (s.Operations → s.Operations) condition_step count_step expr_step field_list_step plain_item_step raise_step statement_step suffix_step test_step type_exp_step arm_step block_step brackets_step case_step control_step interval_step left_step operation_step y

-- ---- each form

pub of_while : (p : Place) (e : Expr) → condition (cv.While p e) ≡ s.While p (expr e)
of_while p e = condition_at (Condition-F.While p e) (cv.rolls-While p e)

pub of_until : (p : Place) (e : Expr) → condition (cv.Until p e) ≡ s.Until p (expr e)
of_until p e = condition_at (Condition-F.Until p e) (cv.rolls-Until p e)

pub of_for : (p : Place) (i : Identifier) (b : Bool) (x : Interval) → count (nv.For p i b x) ≡ s.For p i b (interval x)
of_for p i b x = count_at (Count-F.For p i b x) (nv.rolls-For p i b x)

pub of_through : (p : Place) (x : Interval) → count (nv.Through p x) ≡ s.Through p (interval x)
of_through p x = count_at (Count-F.Through p x) (nv.rolls-Through p x)

pub of_run : (e : Expr) (os : List Operation) → expr (ev.Run e os) ≡ s.Run (expr e) (operations os)
of_run e os = expr_at (Expr-F.Run e os) (ev.rolls-Run e os)

pub of_not : (p : Place) (e : Expr) → expr (ev.Not p e) ≡ s.Not p (expr e)
of_not p e = expr_at (Expr-F.Not p e) (ev.rolls-Not p e)

pub of_compare : (d : Expr) (b : Bool) (r : Relation) (p : Place) (e : Expr) → expr (ev.Compare d b r p e) ≡ s.Compare (expr d) b r p (expr e)
of_compare d b r p e = expr_at (Expr-F.Compare d b r p e) (ev.rolls-Compare d b r p e)

pub of_within : (e : Expr) (b : Bool) (p : Place) (x : Interval) → expr (ev.Within e b p x) ≡ s.Within (expr e) b p (interval x)
of_within e b p x = expr_at (Expr-F.Within e b p x) (ev.rolls-Within e b p x)

pub of_signed : (x : Sign) (p : Place) (e : Expr) → expr (ev.Signed x p e) ≡ s.Signed x p (expr e)
of_signed x p e = expr_at (Expr-F.Signed x p e) (ev.rolls-Signed x p e)

pub of_number_literal : (p : Place) (n : ℕ) → expr (ev.NumberLiteral p n) ≡ s.NumberLiteral p n
of_number_literal p n = expr_at (Expr-F.NumberLiteral p n) (ev.rolls-NumberLiteral p n)

pub of_character_literal : (p : Place) (n : ℕ) → expr (ev.CharacterLiteral p n) ≡ s.CharacterLiteral p n
of_character_literal p n = expr_at (Expr-F.CharacterLiteral p n) (ev.rolls-CharacterLiteral p n)

pub of_string_literal : (p : Place) (bytes : List ℕ) → expr (ev.StringLiteral p bytes) ≡ s.StringLiteral p bytes
of_string_literal p bytes = expr_at (Expr-F.StringLiteral p bytes) (ev.rolls-StringLiteral p bytes)

pub of_truth : (p : Place) (b : Bool) → expr (ev.Truth p b) ≡ s.Truth p b
of_truth p b = expr_at (Expr-F.Truth p b) (ev.rolls-Truth p b)

pub of_parenthesis : (p : Place) (e : Expr) → expr (ev.Parenthesis p e) ≡ s.Parenthesis p (expr e)
of_parenthesis p e = expr_at (Expr-F.Parenthesis p e) (ev.rolls-Parenthesis p e)

pub of_reference : (l : Left) → expr (ev.Reference l) ≡ s.Reference (left l)
of_reference l = expr_at (Expr-F.Reference l) (ev.rolls-Reference l)

list_at : (q : Place) (x : Entries Expr) → expr (ev.Constructor (record { place = q; item = x })) ≡ s.Constructor q (items x)
list_at q Nothing = expr_at (Expr-F.Constructor (record { place = q; item = Nothing })) (ev.rolls-Constructor (record { place = q; item = Nothing }))
list_at q (InOrder es) = expr_at (Expr-F.Constructor (record { place = q; item = InOrder es })) (ev.rolls-Constructor (record { place = q; item = InOrder es }))
list_at q (ByKey es) = expr_at (Expr-F.Constructor (record { place = q; item = ByKey es })) (ev.rolls-Constructor (record { place = q; item = ByKey es }))

pub of_constructor : (x : Placed (Entries Expr)) → expr (ev.Constructor x) ≡ s.Constructor x.place (items x.item)
of_constructor x = list_at x.place x.item

pub of_raised : (x : Raise) → expr (ev.Raised x) ≡ s.Raised (raise x)
of_raised x = expr_at (Expr-F.Raised x) (ev.rolls-Raised x)

pub of_with_names : (xs : List (Labeled (List Identifier) TypeExp)) → field_list (fv.WithNames xs) ≡ s.WithNames (named_fields xs)
of_with_names xs = field_list_at (FieldList-F.WithNames xs) (fv.rolls-WithNames xs)

pub of_unnamed : (xs : List TypeExp) → field_list (fv.Unnamed xs) ≡ s.Unnamed (types xs)
of_unnamed xs = field_list_at (FieldList-F.Unnamed xs) (fv.rolls-Unnamed xs)

pub of_type_is : (t : TypeExp) → plain_item (pv.TypeIs t) ≡ s.TypeIs (type_exp t)
of_type_is t = plain_item_at (PlainItem-F.TypeIs t) (pv.rolls-TypeIs t)

pub of_variable : (t : TypeExp) → plain_item (pv.Variable t) ≡ s.Variable (type_exp t)
of_variable t = plain_item_at (PlainItem-F.Variable t) (pv.rolls-Variable t)

pub of_initial : (t : TypeExp) (e : Expr) → plain_item (pv.Initial t e) ≡ s.Initial (type_exp t) (expr e)
of_initial t e = plain_item_at (PlainItem-F.Initial t e) (pv.rolls-Initial t e)

pub of_constant : (t : TypeExp) (e : Expr) → plain_item (pv.Constant t e) ≡ s.Constant (type_exp t) (expr e)
of_constant t e = plain_item_at (PlainItem-F.Constant t e) (pv.rolls-Constant t e)

pub of_signal_raise : (p : Place) (q : QualifiedName) (b : Option Brackets) → raise (rv.SignalRaise p q b) ≡ s.SignalRaise p q (maybe_brackets b)
of_signal_raise p q None = raise_at (Raise-F.SignalRaise p q None) (rv.rolls-SignalRaise p q None)
of_signal_raise p q (Some b) = raise_at (Raise-F.SignalRaise p q (Some b)) (rv.rolls-SignalRaise p q (Some b))

pub of_error_raise : (p : Place) (q : QualifiedName) (b : Option Brackets) → raise (rv.ErrorRaise p q b) ≡ s.ErrorRaise p q (maybe_brackets b)
of_error_raise p q None = raise_at (Raise-F.ErrorRaise p q None) (rv.rolls-ErrorRaise p q None)
of_error_raise p q (Some b) = raise_at (Raise-F.ErrorRaise p q (Some b)) (rv.rolls-ErrorRaise p q (Some b))

pub of_unnamed_error : (p : Place) → raise (rv.UnnamedError p) ≡ s.UnnamedError p
of_unnamed_error p = raise_at (Raise-F.UnnamedError p) (rv.rolls-UnnamedError p)

pub of_null : (p : Place) → statement (sv.Null p) ≡ s.Null p
of_null p = statement_at (Statement-F.Null p) (sv.rolls-Null p)

pub of_nested : (b : Block) → statement (sv.Nested b) ≡ s.Nested (block b)
of_nested b = statement_at (Statement-F.Nested b) (sv.rolls-Nested b)

pub of_assign : (l : Left) (e : Expr) → statement (sv.Assign l e) ≡ s.Assign (left l) (expr e)
of_assign l e = statement_at (Statement-F.Assign l e) (sv.rolls-Assign l e)

pub of_extract : (p : Place) (x : Entries Left) (e : Expr) → statement (sv.Extract p x e) ≡ s.Extract p (targets x) (expr e)
of_extract p Nothing e = statement_at (Statement-F.Extract p Nothing e) (sv.rolls-Extract p Nothing e)
of_extract p (InOrder ls) e = statement_at (Statement-F.Extract p (InOrder ls) e) (sv.rolls-Extract p (InOrder ls) e)
of_extract p (ByKey ls) e = statement_at (Statement-F.Extract p (ByKey ls) e) (sv.rolls-Extract p (ByKey ls) e)

pub of_call : (l : Left) → statement (sv.Call l) ≡ s.Call (left l)
of_call l = statement_at (Statement-F.Call l) (sv.rolls-Call l)

pub of_raise_statement : (x : Raise) → statement (sv.RaiseStatement x) ≡ s.RaiseStatement (raise x)
of_raise_statement x = statement_at (Statement-F.RaiseStatement x) (sv.rolls-RaiseStatement x)

pub of_if : (p : Place) (e : Expr) (x : Statement) (y : Option Statement) → statement (sv.If p e x y) ≡ s.If p (expr e) (statement x) (maybe_statement y)
of_if p e x None = statement_at (Statement-F.If p e x None) (sv.rolls-If p e x None)
of_if p e x (Some y) = statement_at (Statement-F.If p e x (Some y)) (sv.rolls-If p e x (Some y))

pub of_select : (p : Place) (e : Expr) (cs : List Case) (y : Option Statement) → statement (sv.Select p e cs y) ≡ s.Select p (expr e) (cases cs) (maybe_statement y)
of_select p e cs None = statement_at (Statement-F.Select p e cs None) (sv.rolls-Select p e cs None)
of_select p e cs (Some y) = statement_at (Statement-F.Select p e cs (Some y)) (sv.rolls-Select p e cs (Some y))

pub of_loop : (c : Control) (p : Place) (en : Option (Placed (List Arm))) (xs : List Statement) (rs : List (Labeled RepeatLabels Statement)) → statement (sv.Loop c p en xs rs) ≡ s.Loop (control c) p (phrase en) (statements xs) (repeats rs)
of_loop c p None xs rs = statement_at (Statement-F.Loop c p None xs rs) (sv.rolls-Loop c p None xs rs)
of_loop c p (Some en) xs rs = statement_at (Statement-F.Loop c p (Some en) xs rs) (sv.rolls-Loop c p (Some en) xs rs)

pub of_exit_loop : (p : Place) → statement (sv.ExitLoop p) ≡ s.ExitLoop p
of_exit_loop p = statement_at (Statement-F.ExitLoop p) (sv.rolls-ExitLoop p)

pub of_next_turn : (p : Place) → statement (sv.NextTurn p) ≡ s.NextTurn p
of_next_turn p = statement_at (Statement-F.NextTurn p) (sv.rolls-NextTurn p)

pub of_goto : (p : Place) (i : Identifier) → statement (sv.Goto p i) ≡ s.Goto p i
of_goto p i = statement_at (Statement-F.Goto p i) (sv.rolls-Goto p i)

return_at : (p q : Place) (x : Entries Expr) → statement (sv.Return p (Some (record { place = q; item = x }))) ≡ s.Return p (s.WithItems q (items x))
return_at p q Nothing = statement_at (Statement-F.Return p (Some (record { place = q; item = Nothing }))) (sv.rolls-Return p (Some (record { place = q; item = Nothing })))
return_at p q (InOrder es) = statement_at (Statement-F.Return p (Some (record { place = q; item = InOrder es }))) (sv.rolls-Return p (Some (record { place = q; item = InOrder es })))
return_at p q (ByKey es) = statement_at (Statement-F.Return p (Some (record { place = q; item = ByKey es }))) (sv.rolls-Return p (Some (record { place = q; item = ByKey es })))

pub of_return : (p : Place) (x : Option (Placed (Entries Expr))) → statement (sv.Return p x) ≡ s.Return p (maybe_items x)
of_return p None = statement_at (Statement-F.Return p None) (sv.rolls-Return p None)
of_return p (Some x) = return_at p x.place x.item

resume_at : (p q : Place) (x : Entries Expr) → statement (sv.Resume p (Some (record { place = q; item = x }))) ≡ s.Resume p (s.WithItems q (items x))
resume_at p q Nothing = statement_at (Statement-F.Resume p (Some (record { place = q; item = Nothing }))) (sv.rolls-Resume p (Some (record { place = q; item = Nothing })))
resume_at p q (InOrder es) = statement_at (Statement-F.Resume p (Some (record { place = q; item = InOrder es }))) (sv.rolls-Resume p (Some (record { place = q; item = InOrder es })))
resume_at p q (ByKey es) = statement_at (Statement-F.Resume p (Some (record { place = q; item = ByKey es }))) (sv.rolls-Resume p (Some (record { place = q; item = ByKey es })))

pub of_resume : (p : Place) (x : Option (Placed (Entries Expr))) → statement (sv.Resume p x) ≡ s.Resume p (maybe_items x)
of_resume p None = statement_at (Statement-F.Resume p None) (sv.rolls-Resume p None)
of_resume p (Some x) = resume_at p x.place x.item

pub of_reject : (p : Place) → statement (sv.Reject p) ≡ s.Reject p
of_reject p = statement_at (Statement-F.Reject p) (sv.rolls-Reject p)

pub of_retry : (p : Place) → statement (sv.Retry p) ≡ s.Retry p
of_retry p = statement_at (Statement-F.Retry p) (sv.rolls-Retry p)

pub of_continue : (p : Place) → statement (sv.Continue p) ≡ s.Continue p
of_continue p = statement_at (Statement-F.Continue p) (sv.rolls-Continue p)

pub of_field : (i : Identifier) → suffix (xv.Field i) ≡ s.Field i
of_field i = suffix_at (Suffix-F.Field i) (xv.rolls-Field i)

pub of_applied : (b : Brackets) → suffix (xv.Applied b) ≡ s.Applied (brackets b)
of_applied b = suffix_at (Suffix-F.Applied b) (xv.rolls-Applied b)

pub of_value : (e : Expr) → test (tv.Value e) ≡ s.Value (expr e)
of_value e = test_at (Test-F.Value e) (tv.rolls-Value e)

pub of_compared : (b : Bool) (r : Relation) (p : Place) (e : Expr) → test (tv.Compared b r p e) ≡ s.Compared b r p (expr e)
of_compared b r p e = test_at (Test-F.Compared b r p e) (tv.rolls-Compared b r p e)

pub of_inside : (b : Bool) (p : Place) (x : Interval) → test (tv.Inside b p x) ≡ s.Inside b p (interval x)
of_inside b p x = test_at (Test-F.Inside b p x) (tv.rolls-Inside b p x)

pub of_integer : (p : Place) → type_exp (yv.Integer p) ≡ s.Integer p
of_integer p = type_exp_at (TypeExp-F.Integer p) (yv.rolls-Integer p)

pub of_cardinal : (p : Place) → type_exp (yv.Cardinal p) ≡ s.Cardinal p
of_cardinal p = type_exp_at (TypeExp-F.Cardinal p) (yv.rolls-Cardinal p)

pub of_long_integer : (p : Place) → type_exp (yv.LongInteger p) ≡ s.LongInteger p
of_long_integer p = type_exp_at (TypeExp-F.LongInteger p) (yv.rolls-LongInteger p)

pub of_long_cardinal : (p : Place) → type_exp (yv.LongCardinal p) ≡ s.LongCardinal p
of_long_cardinal p = type_exp_at (TypeExp-F.LongCardinal p) (yv.rolls-LongCardinal p)

pub of_boolean : (p : Place) → type_exp (yv.Boolean p) ≡ s.Boolean p
of_boolean p = type_exp_at (TypeExp-F.Boolean p) (yv.rolls-Boolean p)

pub of_character : (p : Place) → type_exp (yv.Character p) ≡ s.Character p
of_character p = type_exp_at (TypeExp-F.Character p) (yv.rolls-Character p)

pub of_string : (p : Place) → type_exp (yv.String p) ≡ s.String p
of_string p = type_exp_at (TypeExp-F.String p) (yv.rolls-String p)

pub of_called : (q : QualifiedName) → type_exp (yv.Called q) ≡ s.Called q
of_called q = type_exp_at (TypeExp-F.Called q) (yv.rolls-Called q)

pub of_enumeration : (p : Place) (ns : List Identifier) → type_exp (yv.Enumeration p ns) ≡ s.Enumeration p ns
of_enumeration p ns = type_exp_at (TypeExp-F.Enumeration p ns) (yv.rolls-Enumeration p ns)

pub of_subrange : (b : TypeBase) (x : Interval) → type_exp (yv.Subrange b x) ≡ s.Subrange b (interval x)
of_subrange b x = type_exp_at (TypeExp-F.Subrange b x) (yv.rolls-Subrange b x)

pub of_array : (p : Place) (x : TypeExp) (y : TypeExp) → type_exp (yv.Array p x y) ≡ s.Array p (type_exp x) (type_exp y)
of_array p x y = type_exp_at (TypeExp-F.Array p x y) (yv.rolls-Array p x y)

pub of_record : (p : Place) (x : FieldList) → type_exp (yv.Record p x) ≡ s.Record p (field_list x)
of_record p x = type_exp_at (TypeExp-F.Record p x) (yv.rolls-Record p x)

pub of_arm : (l : Labels) (x : Statement) → arm (roll-Arm (record { labels = l; body = x })) ≡ s.AndArm l (statement x)
of_arm l x = arm_at (record { labels = l; body = x }) refl

pub of_block : (p : Place) (en : Option (Placed (List Arm))) (ls : List (Labeled (List Identifier) PlainItem)) (ss : List Statement) (xs : List (Labeled (List Identifier) Statement)) → block (roll-Block (record { place = p; enable = en; locals = ls; statements = ss; exits = xs })) ≡ s.BlockOf p (phrase en) (locals ls) (statements ss) (exits xs)
of_block p None ls ss xs = block_at (record { place = p; enable = None; locals = ls; statements = ss; exits = xs }) refl
of_block p (Some en) ls ss xs = block_at (record { place = p; enable = Some en; locals = ls; statements = ss; exits = xs }) refl

pub of_brackets : (p : Place) (x : Entries Expr) (c : Option (Placed (List Arm))) → brackets (roll-Brackets (record { place = p; items = x; catch = c })) ≡ s.BracketsOf p (items x) (phrase c)
of_brackets p Nothing None = brackets_at (record { place = p; items = Nothing; catch = None }) refl
of_brackets p Nothing (Some c) = brackets_at (record { place = p; items = Nothing; catch = Some c }) refl
of_brackets p (InOrder es) None = brackets_at (record { place = p; items = InOrder es; catch = None }) refl
of_brackets p (InOrder es) (Some c) = brackets_at (record { place = p; items = InOrder es; catch = Some c }) refl
of_brackets p (ByKey es) None = brackets_at (record { place = p; items = ByKey es; catch = None }) refl
of_brackets p (ByKey es) (Some c) = brackets_at (record { place = p; items = ByKey es; catch = Some c }) refl

pub of_case : (xs : List Test) (x : Statement) → case (roll-Case (record { tests = xs; body = x })) ≡ s.AndCase (tests xs) (statement x)
of_case xs x = case_at (record { tests = xs; body = x }) refl

pub of_control : (a : Option Count) (b : Option Condition) → control (roll-Control (record { count = a; condition = b })) ≡ s.ControlOf (maybe_count a) (maybe_condition b)
of_control None None = control_at (record { count = None; condition = None }) refl
of_control None (Some b) = control_at (record { count = None; condition = Some b }) refl
of_control (Some a) None = control_at (record { count = Some a; condition = None }) refl
of_control (Some a) (Some b) = control_at (record { count = Some a; condition = Some b }) refl

pub of_interval : (p : Place) (a : Bool) (d : Expr) (e : Expr) (b : Bool) → interval (roll-Interval (record { place = p; is_open_below = a; low = d; high = e; is_open_above = b })) ≡ s.Between p a (expr d) (expr e) b
of_interval p a d e b = interval_at (record { place = p; is_open_below = a; low = d; high = e; is_open_above = b }) refl

pub of_left : (i : Identifier) (ss : List Suffix) → left (roll-Left (record { name = i; suffixes = ss })) ≡ s.LeftOf i (suffixes ss)
of_left i ss = left_at (record { name = i; suffixes = ss }) refl

pub of_operation : (o : Operator) (p : Place) (e : Expr) → operation (roll-Operation (record { operator = o; place = p; right = e })) ≡ s.AndOperation o p (expr e)
of_operation o p e = operation_at (record { operator = o; place = p; right = e }) refl

-- ---- each struct, by its fields

pub parts_of_arm : (x : Arm) → arm x ≡ s.AndArm (out-Arm x).labels (statement (out-Arm x).body)
parts_of_arm x = ap arm (sym (roll-out-Arm x)) ∙ of_arm (out-Arm x).labels (out-Arm x).body

pub parts_of_block : (x : Block) → block x ≡ s.BlockOf (out-Block x).place (phrase (out-Block x).enable) (locals (out-Block x).locals) (statements (out-Block x).statements) (exits (out-Block x).exits)
parts_of_block x = ap block (sym (roll-out-Block x)) ∙ of_block (out-Block x).place (out-Block x).enable (out-Block x).locals (out-Block x).statements (out-Block x).exits

pub parts_of_brackets : (x : Brackets) → brackets x ≡ s.BracketsOf (out-Brackets x).place (items (out-Brackets x).items) (phrase (out-Brackets x).catch)
parts_of_brackets x = ap brackets (sym (roll-out-Brackets x)) ∙ of_brackets (out-Brackets x).place (out-Brackets x).items (out-Brackets x).catch

pub parts_of_case : (x : Case) → case x ≡ s.AndCase (tests (out-Case x).tests) (statement (out-Case x).body)
parts_of_case x = ap case (sym (roll-out-Case x)) ∙ of_case (out-Case x).tests (out-Case x).body

pub parts_of_control : (x : Control) → control x ≡ s.ControlOf (maybe_count (out-Control x).count) (maybe_condition (out-Control x).condition)
parts_of_control x = ap control (sym (roll-out-Control x)) ∙ of_control (out-Control x).count (out-Control x).condition

pub parts_of_interval : (x : Interval) → interval x ≡ s.Between (out-Interval x).place (out-Interval x).is_open_below (expr (out-Interval x).low) (expr (out-Interval x).high) (out-Interval x).is_open_above
parts_of_interval x = ap interval (sym (roll-out-Interval x)) ∙ of_interval (out-Interval x).place (out-Interval x).is_open_below (out-Interval x).low (out-Interval x).high (out-Interval x).is_open_above

pub parts_of_left : (x : Left) → left x ≡ s.LeftOf (out-Left x).name (suffixes (out-Left x).suffixes)
parts_of_left x = ap left (sym (roll-out-Left x)) ∙ of_left (out-Left x).name (out-Left x).suffixes

pub parts_of_operation : (x : Operation) → operation x ≡ s.AndOperation (out-Operation x).operator (out-Operation x).place (expr (out-Operation x).right)
parts_of_operation x = ap operation (sym (roll-out-Operation x)) ∙ of_operation (out-Operation x).operator (out-Operation x).place (out-Operation x).right

-- ---- the equations of each type, for functions that match on its trees

pub ruleset condition_forms = (of_while, of_until)

pub ruleset count_forms = (of_for, of_through)

pub ruleset expr_forms = (of_run, of_not, of_compare, of_within, of_signed, of_number_literal, of_character_literal, of_string_literal, of_truth, of_parenthesis, of_reference, of_constructor, of_raised)

pub ruleset field_list_forms = (of_with_names, of_unnamed)

pub ruleset plain_item_forms = (of_type_is, of_variable, of_initial, of_constant)

pub ruleset raise_forms = (of_signal_raise, of_error_raise, of_unnamed_error)

pub ruleset statement_forms = (of_null, of_nested, of_assign, of_extract, of_call, of_raise_statement, of_if, of_select, of_loop, of_exit_loop, of_next_turn, of_goto, of_return, of_resume, of_reject, of_retry, of_continue)

pub ruleset suffix_forms = (of_field, of_applied)

pub ruleset test_forms = (of_value, of_compared, of_inside)

pub ruleset type_exp_forms = (of_integer, of_cardinal, of_long_integer, of_long_cardinal, of_boolean, of_character, of_string, of_called, of_enumeration, of_subrange, of_array, of_record)

pub ruleset parts = (parts_of_arm, parts_of_block, parts_of_brackets, parts_of_case, parts_of_control, parts_of_interval, parts_of_left, parts_of_operation)
