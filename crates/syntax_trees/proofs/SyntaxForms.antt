-- The nodes of each form of a syntax tree, by those of its parts.
use Rattle.std.proofs.Common.{◌≡◌, ℕ, ◌+◌, Bool, List, [], ◌∷◌, map, length, Option, Some, None, refl, sym, ap, ◌∙◌, arith}
use Rattle.held_trees.specs.mesa_base.specs.declared.place.Place.{Place}
use Rattle.held_trees.specs.mesa_base.specs.declared.identifier.Identifier.{Identifier}
use Rattle.syntax_trees.specs.declared.syntax.QualifiedName.{QualifiedName}
use Rattle.held_trees.specs.mesa_base.specs.declared.placed.Placed.{Placed}
use Rattle.syntax_trees.specs.declared.syntax.Keyed.{Keyed}
use Rattle.syntax_trees.specs.declared.syntax.Labeled.{Labeled}
use Rattle.syntax_trees.specs.declared.syntax.Entries.{Entries}
use Rattle.syntax_trees.specs.declared.syntax.Labels.{Labels}
use Rattle.syntax_trees.specs.declared.syntax.RepeatLabels.{RepeatLabels}
use Rattle.syntax_trees.specs.declared.syntax.TypeBase.{TypeBase}
use Rattle.held_trees.specs.mesa_base.specs.declared.relation.Relation.{Relation}
use Rattle.syntax_trees.specs.declared.syntax.Sign.{Sign}
use Rattle.syntax_trees.specs.declared.syntax.Operator.{Operator}
use Rattle.syntax_trees.specs.declared.syntax.Entries.TheVariants.{Nothing, InOrder, ByKey}
use Rattle.syntax_trees.specs.declared.syntax.Condition.TheOpen.{Condition-F, Count-F, Expr-F, FieldList-F, PlainItem-F, Raise-F, Statement-F, Suffix-F, Test-F, TypeExp-F, Arm-F, Block-F, Brackets-F, Case-F, Control-F, Interval-F, Left-F, Operation-F}
use Rattle.syntax_trees.specs.declared.syntax.Condition.TheFolds.{fold-roll-Condition, fold-roll-Count, fold-roll-Expr, fold-roll-FieldList, fold-roll-PlainItem, fold-roll-Raise, fold-roll-Statement, fold-roll-Suffix, fold-roll-Test, fold-roll-TypeExp, fold-roll-Arm, fold-roll-Block, fold-roll-Brackets, fold-roll-Case, fold-roll-Control, fold-roll-Interval, fold-roll-Left, fold-roll-Operation, map-Condition, map-Count, map-Expr, map-FieldList, map-PlainItem, map-Raise, map-Statement, map-Suffix, map-Test, map-TypeExp, map-Arm, map-Block, map-Brackets, map-Case, map-Control, map-Interval, map-Left, map-Operation}
use Rattle.syntax_trees.specs.declared.syntax.Condition.TheViews.{roll-Count, roll-Expr, roll-FieldList, roll-PlainItem, roll-Raise, roll-Statement, roll-Suffix, roll-Test, roll-TypeExp, roll-Arm, roll-Block, roll-Brackets, roll-Case, roll-Control, roll-Interval, roll-Left, roll-Operation}
use Rattle.syntax_trees.specs.declared.syntax.Condition.{Condition, roll-Condition}
use Rattle.syntax_trees.specs.declared.syntax.Condition.TheVariants as cv
use Rattle.syntax_trees.specs.declared.syntax.Count.{Count}
use Rattle.syntax_trees.specs.declared.syntax.Count.TheVariants as nv
use Rattle.syntax_trees.specs.declared.syntax.Expr.{Expr}
use Rattle.syntax_trees.specs.declared.syntax.Expr.TheVariants as ev
use Rattle.syntax_trees.specs.declared.syntax.FieldList.{FieldList}
use Rattle.syntax_trees.specs.declared.syntax.FieldList.TheVariants as fv
use Rattle.syntax_trees.specs.declared.syntax.PlainItem.{PlainItem}
use Rattle.syntax_trees.specs.declared.syntax.PlainItem.TheVariants as pv
use Rattle.syntax_trees.specs.declared.syntax.Raise.{Raise}
use Rattle.syntax_trees.specs.declared.syntax.Raise.TheVariants as rv
use Rattle.syntax_trees.specs.declared.syntax.Statement.{Statement}
use Rattle.syntax_trees.specs.declared.syntax.Statement.TheVariants as sv
use Rattle.syntax_trees.specs.declared.syntax.Suffix.{Suffix}
use Rattle.syntax_trees.specs.declared.syntax.Suffix.TheVariants as xv
use Rattle.syntax_trees.specs.declared.syntax.Test.{Test}
use Rattle.syntax_trees.specs.declared.syntax.Test.TheVariants as tv
use Rattle.syntax_trees.specs.declared.syntax.TypeExp.{TypeExp}
use Rattle.syntax_trees.specs.declared.syntax.TypeExp.TheVariants as yv
use Rattle.syntax_trees.specs.declared.syntax.Arm.{Arm}
use Rattle.syntax_trees.specs.declared.syntax.Block.{Block}
use Rattle.syntax_trees.specs.declared.syntax.Brackets.{Brackets}
use Rattle.syntax_trees.specs.declared.syntax.Case.{Case}
use Rattle.syntax_trees.specs.declared.syntax.Control.{Control}
use Rattle.syntax_trees.specs.declared.syntax.Interval.{Interval}
use Rattle.syntax_trees.specs.declared.syntax.Left.{Left}
use Rattle.syntax_trees.specs.declared.syntax.Operation.{Operation}
use Rattle.syntax_trees.proofs.LayerNodes.{total, optional, named, keyed, entries, phrase, values, labels, repeated, base, negation, own, condition_step, count_step, expr_step, field_list_step, plain_step, raise_step, statement_step, suffix_step, test_step, type_step, arm_step, block_step, brackets_step, case_step, control_step, interval_step, left_step, operation_step, condition_nodes, count_nodes, expr_nodes, field_list_nodes, plain_nodes, raise_nodes, statement_nodes, suffix_nodes, test_nodes, type_nodes, arm_nodes, block_nodes, brackets_nodes, case_nodes, control_nodes, interval_nodes, left_nodes, operation_nodes}

abbrev Trees : (Type 0 → Type 0 → Type 0 → Type 0 → Type 0 → Type 0 → Type 0 → Type 0 → Type 0 → Type 0 → Type 0 → Type 0 → Type 0 → Type 0 → Type 0 → Type 0 → Type 0 → Type 0 → Type 0) → Type 0
Trees F = F Condition Count Expr FieldList PlainItem Raise Statement Suffix Test TypeExp Arm Block Brackets Case Control Interval Left Operation

-- ---- lists whose items are counted already

total_own : {A : Type 0} (f : A → ℕ) (xs : List A) → total own (map f xs) ≡ total f xs
total_own f [] = refl
total_own f (x ∷ xs) = omega (arith, total_own f xs)

total_named : {A : Type 0} (f : A → ℕ) (xs : List (Labeled (List Identifier) A)) → total (named own) (map (λ x. record { labels = x.labels; item = f x.item }) xs) ≡ total (named f) xs
total_named f [] = refl
total_named f (x ∷ xs) = omega (arith, total_named f xs)

total_repeated : {A : Type 0} (f : A → ℕ) (xs : List (Labeled RepeatLabels A)) → total (repeated own) (map (λ x. record { labels = x.labels; item = f x.item }) xs) ≡ total (repeated f) xs
total_repeated f [] = refl
total_repeated f (x ∷ xs) = omega (arith, total_repeated f xs)

total_keyed : {A : Type 0} (f : A → ℕ) (xs : List (Keyed A)) → total (keyed own) (map (λ x. record { key = x.key; item = f x.item }) xs) ≡ total (keyed f) xs
total_keyed f [] = refl
total_keyed f (x ∷ xs) = omega (arith, total_keyed f xs)

-- ---- one layer

pub condition_at : (y : Trees Condition-F) {x : Condition} → roll-Condition y ≡ x → condition_nodes x ≡ condition_step (map-Condition Condition Count Expr FieldList PlainItem Raise Statement Suffix Test TypeExp Arm Block Brackets Case Control Interval Left Operation ℕ ℕ ℕ ℕ ℕ ℕ ℕ ℕ ℕ ℕ ℕ ℕ ℕ ℕ ℕ ℕ ℕ ℕ condition_nodes count_nodes expr_nodes field_list_nodes plain_nodes raise_nodes statement_nodes suffix_nodes test_nodes type_nodes arm_nodes block_nodes brackets_nodes case_nodes control_nodes interval_nodes left_nodes operation_nodes y)
unfolding condition_nodes count_nodes expr_nodes field_list_nodes plain_nodes raise_nodes statement_nodes suffix_nodes test_nodes type_nodes arm_nodes block_nodes brackets_nodes case_nodes control_nodes interval_nodes left_nodes operation_nodes
condition_at y h = ap condition_nodes (sym h) ∙ fold-roll-Condition ℕ ℕ ℕ ℕ ℕ ℕ ℕ ℕ ℕ ℕ ℕ ℕ ℕ ℕ ℕ ℕ ℕ ℕ condition_step count_step expr_step field_list_step plain_step raise_step statement_step suffix_step test_step type_step arm_step block_step brackets_step case_step control_step interval_step left_step operation_step y

pub count_at : (y : Trees Count-F) {x : Count} → roll-Count y ≡ x → count_nodes x ≡ count_step (map-Count Condition Count Expr FieldList PlainItem Raise Statement Suffix Test TypeExp Arm Block Brackets Case Control Interval Left Operation ℕ ℕ ℕ ℕ ℕ ℕ ℕ ℕ ℕ ℕ ℕ ℕ ℕ ℕ ℕ ℕ ℕ ℕ condition_nodes count_nodes expr_nodes field_list_nodes plain_nodes raise_nodes statement_nodes suffix_nodes test_nodes type_nodes arm_nodes block_nodes brackets_nodes case_nodes control_nodes interval_nodes left_nodes operation_nodes y)
unfolding condition_nodes count_nodes expr_nodes field_list_nodes plain_nodes raise_nodes statement_nodes suffix_nodes test_nodes type_nodes arm_nodes block_nodes brackets_nodes case_nodes control_nodes interval_nodes left_nodes operation_nodes
count_at y h = ap count_nodes (sym h) ∙ fold-roll-Count ℕ ℕ ℕ ℕ ℕ ℕ ℕ ℕ ℕ ℕ ℕ ℕ ℕ ℕ ℕ ℕ ℕ ℕ condition_step count_step expr_step field_list_step plain_step raise_step statement_step suffix_step test_step type_step arm_step block_step brackets_step case_step control_step interval_step left_step operation_step y

pub expr_at : (y : Trees Expr-F) {x : Expr} → roll-Expr y ≡ x → expr_nodes x ≡ expr_step (map-Expr Condition Count Expr FieldList PlainItem Raise Statement Suffix Test TypeExp Arm Block Brackets Case Control Interval Left Operation ℕ ℕ ℕ ℕ ℕ ℕ ℕ ℕ ℕ ℕ ℕ ℕ ℕ ℕ ℕ ℕ ℕ ℕ condition_nodes count_nodes expr_nodes field_list_nodes plain_nodes raise_nodes statement_nodes suffix_nodes test_nodes type_nodes arm_nodes block_nodes brackets_nodes case_nodes control_nodes interval_nodes left_nodes operation_nodes y)
unfolding condition_nodes count_nodes expr_nodes field_list_nodes plain_nodes raise_nodes statement_nodes suffix_nodes test_nodes type_nodes arm_nodes block_nodes brackets_nodes case_nodes control_nodes interval_nodes left_nodes operation_nodes
expr_at y h = ap expr_nodes (sym h) ∙ fold-roll-Expr ℕ ℕ ℕ ℕ ℕ ℕ ℕ ℕ ℕ ℕ ℕ ℕ ℕ ℕ ℕ ℕ ℕ ℕ condition_step count_step expr_step field_list_step plain_step raise_step statement_step suffix_step test_step type_step arm_step block_step brackets_step case_step control_step interval_step left_step operation_step y

pub field_list_at : (y : Trees FieldList-F) {x : FieldList} → roll-FieldList y ≡ x → field_list_nodes x ≡ field_list_step (map-FieldList Condition Count Expr FieldList PlainItem Raise Statement Suffix Test TypeExp Arm Block Brackets Case Control Interval Left Operation ℕ ℕ ℕ ℕ ℕ ℕ ℕ ℕ ℕ ℕ ℕ ℕ ℕ ℕ ℕ ℕ ℕ ℕ condition_nodes count_nodes expr_nodes field_list_nodes plain_nodes raise_nodes statement_nodes suffix_nodes test_nodes type_nodes arm_nodes block_nodes brackets_nodes case_nodes control_nodes interval_nodes left_nodes operation_nodes y)
unfolding condition_nodes count_nodes expr_nodes field_list_nodes plain_nodes raise_nodes statement_nodes suffix_nodes test_nodes type_nodes arm_nodes block_nodes brackets_nodes case_nodes control_nodes interval_nodes left_nodes operation_nodes
field_list_at y h = ap field_list_nodes (sym h) ∙ fold-roll-FieldList ℕ ℕ ℕ ℕ ℕ ℕ ℕ ℕ ℕ ℕ ℕ ℕ ℕ ℕ ℕ ℕ ℕ ℕ condition_step count_step expr_step field_list_step plain_step raise_step statement_step suffix_step test_step type_step arm_step block_step brackets_step case_step control_step interval_step left_step operation_step y

pub plain_at : (y : Trees PlainItem-F) {x : PlainItem} → roll-PlainItem y ≡ x → plain_nodes x ≡ plain_step (map-PlainItem Condition Count Expr FieldList PlainItem Raise Statement Suffix Test TypeExp Arm Block Brackets Case Control Interval Left Operation ℕ ℕ ℕ ℕ ℕ ℕ ℕ ℕ ℕ ℕ ℕ ℕ ℕ ℕ ℕ ℕ ℕ ℕ condition_nodes count_nodes expr_nodes field_list_nodes plain_nodes raise_nodes statement_nodes suffix_nodes test_nodes type_nodes arm_nodes block_nodes brackets_nodes case_nodes control_nodes interval_nodes left_nodes operation_nodes y)
unfolding condition_nodes count_nodes expr_nodes field_list_nodes plain_nodes raise_nodes statement_nodes suffix_nodes test_nodes type_nodes arm_nodes block_nodes brackets_nodes case_nodes control_nodes interval_nodes left_nodes operation_nodes
plain_at y h = ap plain_nodes (sym h) ∙ fold-roll-PlainItem ℕ ℕ ℕ ℕ ℕ ℕ ℕ ℕ ℕ ℕ ℕ ℕ ℕ ℕ ℕ ℕ ℕ ℕ condition_step count_step expr_step field_list_step plain_step raise_step statement_step suffix_step test_step type_step arm_step block_step brackets_step case_step control_step interval_step left_step operation_step y

pub raise_at : (y : Trees Raise-F) {x : Raise} → roll-Raise y ≡ x → raise_nodes x ≡ raise_step (map-Raise Condition Count Expr FieldList PlainItem Raise Statement Suffix Test TypeExp Arm Block Brackets Case Control Interval Left Operation ℕ ℕ ℕ ℕ ℕ ℕ ℕ ℕ ℕ ℕ ℕ ℕ ℕ ℕ ℕ ℕ ℕ ℕ condition_nodes count_nodes expr_nodes field_list_nodes plain_nodes raise_nodes statement_nodes suffix_nodes test_nodes type_nodes arm_nodes block_nodes brackets_nodes case_nodes control_nodes interval_nodes left_nodes operation_nodes y)
unfolding condition_nodes count_nodes expr_nodes field_list_nodes plain_nodes raise_nodes statement_nodes suffix_nodes test_nodes type_nodes arm_nodes block_nodes brackets_nodes case_nodes control_nodes interval_nodes left_nodes operation_nodes
raise_at y h = ap raise_nodes (sym h) ∙ fold-roll-Raise ℕ ℕ ℕ ℕ ℕ ℕ ℕ ℕ ℕ ℕ ℕ ℕ ℕ ℕ ℕ ℕ ℕ ℕ condition_step count_step expr_step field_list_step plain_step raise_step statement_step suffix_step test_step type_step arm_step block_step brackets_step case_step control_step interval_step left_step operation_step y

pub statement_at : (y : Trees Statement-F) {x : Statement} → roll-Statement y ≡ x → statement_nodes x ≡ statement_step (map-Statement Condition Count Expr FieldList PlainItem Raise Statement Suffix Test TypeExp Arm Block Brackets Case Control Interval Left Operation ℕ ℕ ℕ ℕ ℕ ℕ ℕ ℕ ℕ ℕ ℕ ℕ ℕ ℕ ℕ ℕ ℕ ℕ condition_nodes count_nodes expr_nodes field_list_nodes plain_nodes raise_nodes statement_nodes suffix_nodes test_nodes type_nodes arm_nodes block_nodes brackets_nodes case_nodes control_nodes interval_nodes left_nodes operation_nodes y)
unfolding condition_nodes count_nodes expr_nodes field_list_nodes plain_nodes raise_nodes statement_nodes suffix_nodes test_nodes type_nodes arm_nodes block_nodes brackets_nodes case_nodes control_nodes interval_nodes left_nodes operation_nodes
statement_at y h = ap statement_nodes (sym h) ∙ fold-roll-Statement ℕ ℕ ℕ ℕ ℕ ℕ ℕ ℕ ℕ ℕ ℕ ℕ ℕ ℕ ℕ ℕ ℕ ℕ condition_step count_step expr_step field_list_step plain_step raise_step statement_step suffix_step test_step type_step arm_step block_step brackets_step case_step control_step interval_step left_step operation_step y

pub suffix_at : (y : Trees Suffix-F) {x : Suffix} → roll-Suffix y ≡ x → suffix_nodes x ≡ suffix_step (map-Suffix Condition Count Expr FieldList PlainItem Raise Statement Suffix Test TypeExp Arm Block Brackets Case Control Interval Left Operation ℕ ℕ ℕ ℕ ℕ ℕ ℕ ℕ ℕ ℕ ℕ ℕ ℕ ℕ ℕ ℕ ℕ ℕ condition_nodes count_nodes expr_nodes field_list_nodes plain_nodes raise_nodes statement_nodes suffix_nodes test_nodes type_nodes arm_nodes block_nodes brackets_nodes case_nodes control_nodes interval_nodes left_nodes operation_nodes y)
unfolding condition_nodes count_nodes expr_nodes field_list_nodes plain_nodes raise_nodes statement_nodes suffix_nodes test_nodes type_nodes arm_nodes block_nodes brackets_nodes case_nodes control_nodes interval_nodes left_nodes operation_nodes
suffix_at y h = ap suffix_nodes (sym h) ∙ fold-roll-Suffix ℕ ℕ ℕ ℕ ℕ ℕ ℕ ℕ ℕ ℕ ℕ ℕ ℕ ℕ ℕ ℕ ℕ ℕ condition_step count_step expr_step field_list_step plain_step raise_step statement_step suffix_step test_step type_step arm_step block_step brackets_step case_step control_step interval_step left_step operation_step y

pub test_at : (y : Trees Test-F) {x : Test} → roll-Test y ≡ x → test_nodes x ≡ test_step (map-Test Condition Count Expr FieldList PlainItem Raise Statement Suffix Test TypeExp Arm Block Brackets Case Control Interval Left Operation ℕ ℕ ℕ ℕ ℕ ℕ ℕ ℕ ℕ ℕ ℕ ℕ ℕ ℕ ℕ ℕ ℕ ℕ condition_nodes count_nodes expr_nodes field_list_nodes plain_nodes raise_nodes statement_nodes suffix_nodes test_nodes type_nodes arm_nodes block_nodes brackets_nodes case_nodes control_nodes interval_nodes left_nodes operation_nodes y)
unfolding condition_nodes count_nodes expr_nodes field_list_nodes plain_nodes raise_nodes statement_nodes suffix_nodes test_nodes type_nodes arm_nodes block_nodes brackets_nodes case_nodes control_nodes interval_nodes left_nodes operation_nodes
test_at y h = ap test_nodes (sym h) ∙ fold-roll-Test ℕ ℕ ℕ ℕ ℕ ℕ ℕ ℕ ℕ ℕ ℕ ℕ ℕ ℕ ℕ ℕ ℕ ℕ condition_step count_step expr_step field_list_step plain_step raise_step statement_step suffix_step test_step type_step arm_step block_step brackets_step case_step control_step interval_step left_step operation_step y

pub type_at : (y : Trees TypeExp-F) {x : TypeExp} → roll-TypeExp y ≡ x → type_nodes x ≡ type_step (map-TypeExp Condition Count Expr FieldList PlainItem Raise Statement Suffix Test TypeExp Arm Block Brackets Case Control Interval Left Operation ℕ ℕ ℕ ℕ ℕ ℕ ℕ ℕ ℕ ℕ ℕ ℕ ℕ ℕ ℕ ℕ ℕ ℕ condition_nodes count_nodes expr_nodes field_list_nodes plain_nodes raise_nodes statement_nodes suffix_nodes test_nodes type_nodes arm_nodes block_nodes brackets_nodes case_nodes control_nodes interval_nodes left_nodes operation_nodes y)
unfolding condition_nodes count_nodes expr_nodes field_list_nodes plain_nodes raise_nodes statement_nodes suffix_nodes test_nodes type_nodes arm_nodes block_nodes brackets_nodes case_nodes control_nodes interval_nodes left_nodes operation_nodes
type_at y h = ap type_nodes (sym h) ∙ fold-roll-TypeExp ℕ ℕ ℕ ℕ ℕ ℕ ℕ ℕ ℕ ℕ ℕ ℕ ℕ ℕ ℕ ℕ ℕ ℕ condition_step count_step expr_step field_list_step plain_step raise_step statement_step suffix_step test_step type_step arm_step block_step brackets_step case_step control_step interval_step left_step operation_step y

pub arm_at : (y : Trees Arm-F) {x : Arm} → roll-Arm y ≡ x → arm_nodes x ≡ arm_step (map-Arm Condition Count Expr FieldList PlainItem Raise Statement Suffix Test TypeExp Arm Block Brackets Case Control Interval Left Operation ℕ ℕ ℕ ℕ ℕ ℕ ℕ ℕ ℕ ℕ ℕ ℕ ℕ ℕ ℕ ℕ ℕ ℕ condition_nodes count_nodes expr_nodes field_list_nodes plain_nodes raise_nodes statement_nodes suffix_nodes test_nodes type_nodes arm_nodes block_nodes brackets_nodes case_nodes control_nodes interval_nodes left_nodes operation_nodes y)
unfolding condition_nodes count_nodes expr_nodes field_list_nodes plain_nodes raise_nodes statement_nodes suffix_nodes test_nodes type_nodes arm_nodes block_nodes brackets_nodes case_nodes control_nodes interval_nodes left_nodes operation_nodes
arm_at y h = ap arm_nodes (sym h) ∙ fold-roll-Arm ℕ ℕ ℕ ℕ ℕ ℕ ℕ ℕ ℕ ℕ ℕ ℕ ℕ ℕ ℕ ℕ ℕ ℕ condition_step count_step expr_step field_list_step plain_step raise_step statement_step suffix_step test_step type_step arm_step block_step brackets_step case_step control_step interval_step left_step operation_step y

pub block_at : (y : Trees Block-F) {x : Block} → roll-Block y ≡ x → block_nodes x ≡ block_step (map-Block Condition Count Expr FieldList PlainItem Raise Statement Suffix Test TypeExp Arm Block Brackets Case Control Interval Left Operation ℕ ℕ ℕ ℕ ℕ ℕ ℕ ℕ ℕ ℕ ℕ ℕ ℕ ℕ ℕ ℕ ℕ ℕ condition_nodes count_nodes expr_nodes field_list_nodes plain_nodes raise_nodes statement_nodes suffix_nodes test_nodes type_nodes arm_nodes block_nodes brackets_nodes case_nodes control_nodes interval_nodes left_nodes operation_nodes y)
unfolding condition_nodes count_nodes expr_nodes field_list_nodes plain_nodes raise_nodes statement_nodes suffix_nodes test_nodes type_nodes arm_nodes block_nodes brackets_nodes case_nodes control_nodes interval_nodes left_nodes operation_nodes
block_at y h = ap block_nodes (sym h) ∙ fold-roll-Block ℕ ℕ ℕ ℕ ℕ ℕ ℕ ℕ ℕ ℕ ℕ ℕ ℕ ℕ ℕ ℕ ℕ ℕ condition_step count_step expr_step field_list_step plain_step raise_step statement_step suffix_step test_step type_step arm_step block_step brackets_step case_step control_step interval_step left_step operation_step y

pub brackets_at : (y : Trees Brackets-F) {x : Brackets} → roll-Brackets y ≡ x → brackets_nodes x ≡ brackets_step (map-Brackets Condition Count Expr FieldList PlainItem Raise Statement Suffix Test TypeExp Arm Block Brackets Case Control Interval Left Operation ℕ ℕ ℕ ℕ ℕ ℕ ℕ ℕ ℕ ℕ ℕ ℕ ℕ ℕ ℕ ℕ ℕ ℕ condition_nodes count_nodes expr_nodes field_list_nodes plain_nodes raise_nodes statement_nodes suffix_nodes test_nodes type_nodes arm_nodes block_nodes brackets_nodes case_nodes control_nodes interval_nodes left_nodes operation_nodes y)
unfolding condition_nodes count_nodes expr_nodes field_list_nodes plain_nodes raise_nodes statement_nodes suffix_nodes test_nodes type_nodes arm_nodes block_nodes brackets_nodes case_nodes control_nodes interval_nodes left_nodes operation_nodes
brackets_at y h = ap brackets_nodes (sym h) ∙ fold-roll-Brackets ℕ ℕ ℕ ℕ ℕ ℕ ℕ ℕ ℕ ℕ ℕ ℕ ℕ ℕ ℕ ℕ ℕ ℕ condition_step count_step expr_step field_list_step plain_step raise_step statement_step suffix_step test_step type_step arm_step block_step brackets_step case_step control_step interval_step left_step operation_step y

pub case_at : (y : Trees Case-F) {x : Case} → roll-Case y ≡ x → case_nodes x ≡ case_step (map-Case Condition Count Expr FieldList PlainItem Raise Statement Suffix Test TypeExp Arm Block Brackets Case Control Interval Left Operation ℕ ℕ ℕ ℕ ℕ ℕ ℕ ℕ ℕ ℕ ℕ ℕ ℕ ℕ ℕ ℕ ℕ ℕ condition_nodes count_nodes expr_nodes field_list_nodes plain_nodes raise_nodes statement_nodes suffix_nodes test_nodes type_nodes arm_nodes block_nodes brackets_nodes case_nodes control_nodes interval_nodes left_nodes operation_nodes y)
unfolding condition_nodes count_nodes expr_nodes field_list_nodes plain_nodes raise_nodes statement_nodes suffix_nodes test_nodes type_nodes arm_nodes block_nodes brackets_nodes case_nodes control_nodes interval_nodes left_nodes operation_nodes
case_at y h = ap case_nodes (sym h) ∙ fold-roll-Case ℕ ℕ ℕ ℕ ℕ ℕ ℕ ℕ ℕ ℕ ℕ ℕ ℕ ℕ ℕ ℕ ℕ ℕ condition_step count_step expr_step field_list_step plain_step raise_step statement_step suffix_step test_step type_step arm_step block_step brackets_step case_step control_step interval_step left_step operation_step y

pub control_at : (y : Trees Control-F) {x : Control} → roll-Control y ≡ x → control_nodes x ≡ control_step (map-Control Condition Count Expr FieldList PlainItem Raise Statement Suffix Test TypeExp Arm Block Brackets Case Control Interval Left Operation ℕ ℕ ℕ ℕ ℕ ℕ ℕ ℕ ℕ ℕ ℕ ℕ ℕ ℕ ℕ ℕ ℕ ℕ condition_nodes count_nodes expr_nodes field_list_nodes plain_nodes raise_nodes statement_nodes suffix_nodes test_nodes type_nodes arm_nodes block_nodes brackets_nodes case_nodes control_nodes interval_nodes left_nodes operation_nodes y)
unfolding condition_nodes count_nodes expr_nodes field_list_nodes plain_nodes raise_nodes statement_nodes suffix_nodes test_nodes type_nodes arm_nodes block_nodes brackets_nodes case_nodes control_nodes interval_nodes left_nodes operation_nodes
control_at y h = ap control_nodes (sym h) ∙ fold-roll-Control ℕ ℕ ℕ ℕ ℕ ℕ ℕ ℕ ℕ ℕ ℕ ℕ ℕ ℕ ℕ ℕ ℕ ℕ condition_step count_step expr_step field_list_step plain_step raise_step statement_step suffix_step test_step type_step arm_step block_step brackets_step case_step control_step interval_step left_step operation_step y

pub interval_at : (y : Trees Interval-F) {x : Interval} → roll-Interval y ≡ x → interval_nodes x ≡ interval_step (map-Interval Condition Count Expr FieldList PlainItem Raise Statement Suffix Test TypeExp Arm Block Brackets Case Control Interval Left Operation ℕ ℕ ℕ ℕ ℕ ℕ ℕ ℕ ℕ ℕ ℕ ℕ ℕ ℕ ℕ ℕ ℕ ℕ condition_nodes count_nodes expr_nodes field_list_nodes plain_nodes raise_nodes statement_nodes suffix_nodes test_nodes type_nodes arm_nodes block_nodes brackets_nodes case_nodes control_nodes interval_nodes left_nodes operation_nodes y)
unfolding condition_nodes count_nodes expr_nodes field_list_nodes plain_nodes raise_nodes statement_nodes suffix_nodes test_nodes type_nodes arm_nodes block_nodes brackets_nodes case_nodes control_nodes interval_nodes left_nodes operation_nodes
interval_at y h = ap interval_nodes (sym h) ∙ fold-roll-Interval ℕ ℕ ℕ ℕ ℕ ℕ ℕ ℕ ℕ ℕ ℕ ℕ ℕ ℕ ℕ ℕ ℕ ℕ condition_step count_step expr_step field_list_step plain_step raise_step statement_step suffix_step test_step type_step arm_step block_step brackets_step case_step control_step interval_step left_step operation_step y

pub left_at : (y : Trees Left-F) {x : Left} → roll-Left y ≡ x → left_nodes x ≡ left_step (map-Left Condition Count Expr FieldList PlainItem Raise Statement Suffix Test TypeExp Arm Block Brackets Case Control Interval Left Operation ℕ ℕ ℕ ℕ ℕ ℕ ℕ ℕ ℕ ℕ ℕ ℕ ℕ ℕ ℕ ℕ ℕ ℕ condition_nodes count_nodes expr_nodes field_list_nodes plain_nodes raise_nodes statement_nodes suffix_nodes test_nodes type_nodes arm_nodes block_nodes brackets_nodes case_nodes control_nodes interval_nodes left_nodes operation_nodes y)
unfolding condition_nodes count_nodes expr_nodes field_list_nodes plain_nodes raise_nodes statement_nodes suffix_nodes test_nodes type_nodes arm_nodes block_nodes brackets_nodes case_nodes control_nodes interval_nodes left_nodes operation_nodes
left_at y h = ap left_nodes (sym h) ∙ fold-roll-Left ℕ ℕ ℕ ℕ ℕ ℕ ℕ ℕ ℕ ℕ ℕ ℕ ℕ ℕ ℕ ℕ ℕ ℕ condition_step count_step expr_step field_list_step plain_step raise_step statement_step suffix_step test_step type_step arm_step block_step brackets_step case_step control_step interval_step left_step operation_step y

pub step_at : (y : Trees Operation-F) {x : Operation} → roll-Operation y ≡ x → operation_nodes x ≡ operation_step (map-Operation Condition Count Expr FieldList PlainItem Raise Statement Suffix Test TypeExp Arm Block Brackets Case Control Interval Left Operation ℕ ℕ ℕ ℕ ℕ ℕ ℕ ℕ ℕ ℕ ℕ ℕ ℕ ℕ ℕ ℕ ℕ ℕ condition_nodes count_nodes expr_nodes field_list_nodes plain_nodes raise_nodes statement_nodes suffix_nodes test_nodes type_nodes arm_nodes block_nodes brackets_nodes case_nodes control_nodes interval_nodes left_nodes operation_nodes y)
unfolding condition_nodes count_nodes expr_nodes field_list_nodes plain_nodes raise_nodes statement_nodes suffix_nodes test_nodes type_nodes arm_nodes block_nodes brackets_nodes case_nodes control_nodes interval_nodes left_nodes operation_nodes
step_at y h = ap operation_nodes (sym h) ∙ fold-roll-Operation ℕ ℕ ℕ ℕ ℕ ℕ ℕ ℕ ℕ ℕ ℕ ℕ ℕ ℕ ℕ ℕ ℕ ℕ condition_step count_step expr_step field_list_step plain_step raise_step statement_step suffix_step test_step type_step arm_step block_step brackets_step case_step control_step interval_step left_step operation_step y

-- ---- each form

pub of_while : (p : Place) (e : Expr) → condition_nodes (cv.While p e) ≡ expr_nodes e
of_while p e = condition_at (Condition-F.While p e) (cv.rolls-While p e)

pub of_until : (p : Place) (e : Expr) → condition_nodes (cv.Until p e) ≡ expr_nodes e
of_until p e = condition_at (Condition-F.Until p e) (cv.rolls-Until p e)

pub of_for : (p : Place) (i : Identifier) (b : Bool) (x : Interval) → count_nodes (nv.For p i b x) ≡ 1 + interval_nodes x
of_for p i b x = count_at (Count-F.For p i b x) (nv.rolls-For p i b x)

pub of_through : (p : Place) (x : Interval) → count_nodes (nv.Through p x) ≡ interval_nodes x
of_through p x = count_at (Count-F.Through p x) (nv.rolls-Through p x)

pub of_run : (e : Expr) (ss : List Operation) → expr_nodes (ev.Run e ss) ≡ expr_nodes e + total operation_nodes ss
of_run e ss = omega (arith, expr_at (Expr-F.Run e ss) (ev.rolls-Run e ss), total_own operation_nodes ss)

pub of_not : (p : Place) (e : Expr) → expr_nodes (ev.Not p e) ≡ 1 + expr_nodes e
of_not p e = expr_at (Expr-F.Not p e) (ev.rolls-Not p e)

pub of_compare : (d : Expr) (b : Bool) (r : Relation) (p : Place) (e : Expr) → expr_nodes (ev.Compare d b r p e) ≡ 1 + negation b + expr_nodes d + expr_nodes e
of_compare d b r p e = expr_at (Expr-F.Compare d b r p e) (ev.rolls-Compare d b r p e)

pub of_within : (e : Expr) (b : Bool) (p : Place) (x : Interval) → expr_nodes (ev.Within e b p x) ≡ 1 + negation b + expr_nodes e + interval_nodes x
of_within e b p x = expr_at (Expr-F.Within e b p x) (ev.rolls-Within e b p x)

pub of_signed : (s : Sign) (p : Place) (e : Expr) → expr_nodes (ev.Signed s p e) ≡ 1 + expr_nodes e
of_signed s p e = expr_at (Expr-F.Signed s p e) (ev.rolls-Signed s p e)

pub of_number : (p : Place) (n : ℕ) → expr_nodes (ev.NumberLiteral p n) ≡ 1
of_number p n = expr_at (Expr-F.NumberLiteral p n) (ev.rolls-NumberLiteral p n)

pub of_character_literal : (p : Place) (n : ℕ) → expr_nodes (ev.CharacterLiteral p n) ≡ 1
of_character_literal p n = expr_at (Expr-F.CharacterLiteral p n) (ev.rolls-CharacterLiteral p n)

pub of_string_literal : (p : Place) (bytes : List ℕ) → expr_nodes (ev.StringLiteral p bytes) ≡ 1
of_string_literal p bytes = expr_at (Expr-F.StringLiteral p bytes) (ev.rolls-StringLiteral p bytes)

pub of_truth : (p : Place) (b : Bool) → expr_nodes (ev.Truth p b) ≡ 1
of_truth p b = expr_at (Expr-F.Truth p b) (ev.rolls-Truth p b)

pub of_parenthesis : (p : Place) (e : Expr) → expr_nodes (ev.Parenthesis p e) ≡ 1 + expr_nodes e
of_parenthesis p e = expr_at (Expr-F.Parenthesis p e) (ev.rolls-Parenthesis p e)

pub of_reference : (l : Left) → expr_nodes (ev.Reference l) ≡ left_nodes l
of_reference l = expr_at (Expr-F.Reference l) (ev.rolls-Reference l)

pub of_constructor : (p : Place) (x : Entries Expr) → expr_nodes (ev.Constructor (record { place = p; item = x })) ≡ 1 + entries expr_nodes x
of_constructor p Nothing = expr_at (Expr-F.Constructor (record { place = p; item = Nothing })) (ev.rolls-Constructor (record { place = p; item = Nothing }))
of_constructor p (InOrder es) = omega (arith, expr_at (Expr-F.Constructor (record { place = p; item = InOrder es })) (ev.rolls-Constructor (record { place = p; item = InOrder es })), total_own expr_nodes es)
of_constructor p (ByKey es) = omega (arith, expr_at (Expr-F.Constructor (record { place = p; item = ByKey es })) (ev.rolls-Constructor (record { place = p; item = ByKey es })), total_keyed expr_nodes es)

pub of_raised : (x : Raise) → expr_nodes (ev.Raised x) ≡ raise_nodes x
of_raised x = expr_at (Expr-F.Raised x) (ev.rolls-Raised x)

pub of_with_names : (xs : List (Labeled (List Identifier) TypeExp)) → field_list_nodes (fv.WithNames xs) ≡ total (named type_nodes) xs
of_with_names xs = omega (arith, field_list_at (FieldList-F.WithNames xs) (fv.rolls-WithNames xs), total_named type_nodes xs)

pub of_unnamed : (xs : List TypeExp) → field_list_nodes (fv.Unnamed xs) ≡ total type_nodes xs
of_unnamed xs = omega (arith, field_list_at (FieldList-F.Unnamed xs) (fv.rolls-Unnamed xs), total_own type_nodes xs)

pub of_type_is : (t : TypeExp) → plain_nodes (pv.TypeIs t) ≡ type_nodes t
of_type_is t = plain_at (PlainItem-F.TypeIs t) (pv.rolls-TypeIs t)

pub of_variable : (t : TypeExp) → plain_nodes (pv.Variable t) ≡ type_nodes t
of_variable t = plain_at (PlainItem-F.Variable t) (pv.rolls-Variable t)

pub of_initial : (t : TypeExp) (e : Expr) → plain_nodes (pv.Initial t e) ≡ type_nodes t + expr_nodes e
of_initial t e = plain_at (PlainItem-F.Initial t e) (pv.rolls-Initial t e)

pub of_constant : (t : TypeExp) (e : Expr) → plain_nodes (pv.Constant t e) ≡ type_nodes t + expr_nodes e
of_constant t e = plain_at (PlainItem-F.Constant t e) (pv.rolls-Constant t e)

pub of_signal_raise : (p : Place) (q : QualifiedName) (b : Option Brackets) → raise_nodes (rv.SignalRaise p q b) ≡ 1 + optional brackets_nodes b
of_signal_raise p q None = raise_at (Raise-F.SignalRaise p q None) (rv.rolls-SignalRaise p q None)
of_signal_raise p q (Some b) = raise_at (Raise-F.SignalRaise p q (Some b)) (rv.rolls-SignalRaise p q (Some b))

pub of_error_raise : (p : Place) (q : QualifiedName) (b : Option Brackets) → raise_nodes (rv.ErrorRaise p q b) ≡ 1 + optional brackets_nodes b
of_error_raise p q None = raise_at (Raise-F.ErrorRaise p q None) (rv.rolls-ErrorRaise p q None)
of_error_raise p q (Some b) = raise_at (Raise-F.ErrorRaise p q (Some b)) (rv.rolls-ErrorRaise p q (Some b))

pub of_unnamed_error : (p : Place) → raise_nodes (rv.UnnamedError p) ≡ 1
of_unnamed_error p = raise_at (Raise-F.UnnamedError p) (rv.rolls-UnnamedError p)

pub of_null : (p : Place) → statement_nodes (sv.Null p) ≡ 1
of_null p = statement_at (Statement-F.Null p) (sv.rolls-Null p)

pub of_exit_loop : (p : Place) → statement_nodes (sv.ExitLoop p) ≡ 1
of_exit_loop p = statement_at (Statement-F.ExitLoop p) (sv.rolls-ExitLoop p)

pub of_next_turn : (p : Place) → statement_nodes (sv.NextTurn p) ≡ 1
of_next_turn p = statement_at (Statement-F.NextTurn p) (sv.rolls-NextTurn p)

pub of_reject : (p : Place) → statement_nodes (sv.Reject p) ≡ 1
of_reject p = statement_at (Statement-F.Reject p) (sv.rolls-Reject p)

pub of_retry : (p : Place) → statement_nodes (sv.Retry p) ≡ 1
of_retry p = statement_at (Statement-F.Retry p) (sv.rolls-Retry p)

pub of_continue : (p : Place) → statement_nodes (sv.Continue p) ≡ 1
of_continue p = statement_at (Statement-F.Continue p) (sv.rolls-Continue p)

pub of_nested : (b : Block) → statement_nodes (sv.Nested b) ≡ block_nodes b
of_nested b = statement_at (Statement-F.Nested b) (sv.rolls-Nested b)

pub of_assign : (l : Left) (e : Expr) → statement_nodes (sv.Assign l e) ≡ 1 + left_nodes l + expr_nodes e
of_assign l e = statement_at (Statement-F.Assign l e) (sv.rolls-Assign l e)

pub of_extract : (p : Place) (x : Entries Left) (e : Expr) → statement_nodes (sv.Extract p x e) ≡ 1 + entries left_nodes x + expr_nodes e
of_extract p Nothing e = statement_at (Statement-F.Extract p Nothing e) (sv.rolls-Extract p Nothing e)
of_extract p (InOrder ls) e = omega (arith, statement_at (Statement-F.Extract p (InOrder ls) e) (sv.rolls-Extract p (InOrder ls) e), total_own left_nodes ls)
of_extract p (ByKey ls) e = omega (arith, statement_at (Statement-F.Extract p (ByKey ls) e) (sv.rolls-Extract p (ByKey ls) e), total_keyed left_nodes ls)

pub of_call : (l : Left) → statement_nodes (sv.Call l) ≡ left_nodes l
of_call l = statement_at (Statement-F.Call l) (sv.rolls-Call l)

pub of_raise_statement : (x : Raise) → statement_nodes (sv.RaiseStatement x) ≡ raise_nodes x
of_raise_statement x = statement_at (Statement-F.RaiseStatement x) (sv.rolls-RaiseStatement x)

pub of_if : (p : Place) (e : Expr) (x : Statement) (y : Option Statement) → statement_nodes (sv.If p e x y) ≡ 1 + expr_nodes e + statement_nodes x + optional statement_nodes y
of_if p e x None = statement_at (Statement-F.If p e x None) (sv.rolls-If p e x None)
of_if p e x (Some y) = statement_at (Statement-F.If p e x (Some y)) (sv.rolls-If p e x (Some y))

pub of_select : (p : Place) (e : Expr) (cs : List Case) (y : Option Statement) → statement_nodes (sv.Select p e cs y) ≡ 1 + expr_nodes e + total case_nodes cs + optional statement_nodes y
of_select p e cs None = omega (arith, statement_at (Statement-F.Select p e cs None) (sv.rolls-Select p e cs None), total_own case_nodes cs)
of_select p e cs (Some y) = omega (arith, statement_at (Statement-F.Select p e cs (Some y)) (sv.rolls-Select p e cs (Some y)), total_own case_nodes cs)

pub of_loop : (c : Control) (p : Place) (e : Option (Placed (List Arm))) (ss : List Statement) (rs : List (Labeled RepeatLabels Statement)) → statement_nodes (sv.Loop c p e ss rs) ≡ 1 + control_nodes c + phrase arm_nodes e + total statement_nodes ss + total (repeated statement_nodes) rs
of_loop c p None ss rs = omega (arith, statement_at (Statement-F.Loop c p None ss rs) (sv.rolls-Loop c p None ss rs), total_own statement_nodes ss, total_repeated statement_nodes rs)
of_loop c p (Some e) ss rs = omega (arith, statement_at (Statement-F.Loop c p (Some e) ss rs) (sv.rolls-Loop c p (Some e) ss rs), total_own statement_nodes ss, total_repeated statement_nodes rs, total_own arm_nodes e.item)

pub of_goto : (p : Place) (i : Identifier) → statement_nodes (sv.Goto p i) ≡ 2
of_goto p i = statement_at (Statement-F.Goto p i) (sv.rolls-Goto p i)

return_list : (p q : Place) (x : Entries Expr) → statement_nodes (sv.Return p (Some (record { place = q; item = x }))) ≡ 2 + entries expr_nodes x
return_list p q Nothing = statement_at (Statement-F.Return p (Some (record { place = q; item = Nothing }))) (sv.rolls-Return p (Some (record { place = q; item = Nothing })))
return_list p q (InOrder es) = omega (arith, statement_at (Statement-F.Return p (Some (record { place = q; item = InOrder es }))) (sv.rolls-Return p (Some (record { place = q; item = InOrder es }))), total_own expr_nodes es)
return_list p q (ByKey es) = omega (arith, statement_at (Statement-F.Return p (Some (record { place = q; item = ByKey es }))) (sv.rolls-Return p (Some (record { place = q; item = ByKey es }))), total_keyed expr_nodes es)

pub of_return : (p : Place) (x : Option (Placed (Entries Expr))) → statement_nodes (sv.Return p x) ≡ 1 + values expr_nodes x
of_return p None = statement_at (Statement-F.Return p None) (sv.rolls-Return p None)
of_return p (Some x) = omega (arith, return_list p x.place x.item)

resume_list : (p q : Place) (x : Entries Expr) → statement_nodes (sv.Resume p (Some (record { place = q; item = x }))) ≡ 2 + entries expr_nodes x
resume_list p q Nothing = statement_at (Statement-F.Resume p (Some (record { place = q; item = Nothing }))) (sv.rolls-Resume p (Some (record { place = q; item = Nothing })))
resume_list p q (InOrder es) = omega (arith, statement_at (Statement-F.Resume p (Some (record { place = q; item = InOrder es }))) (sv.rolls-Resume p (Some (record { place = q; item = InOrder es }))), total_own expr_nodes es)
resume_list p q (ByKey es) = omega (arith, statement_at (Statement-F.Resume p (Some (record { place = q; item = ByKey es }))) (sv.rolls-Resume p (Some (record { place = q; item = ByKey es }))), total_keyed expr_nodes es)

pub of_resume : (p : Place) (x : Option (Placed (Entries Expr))) → statement_nodes (sv.Resume p x) ≡ 1 + values expr_nodes x
of_resume p None = statement_at (Statement-F.Resume p None) (sv.rolls-Resume p None)
of_resume p (Some x) = omega (arith, resume_list p x.place x.item)

pub of_field : (i : Identifier) → suffix_nodes (xv.Field i) ≡ 1
of_field i = suffix_at (Suffix-F.Field i) (xv.rolls-Field i)

pub of_applied : (b : Brackets) → suffix_nodes (xv.Applied b) ≡ 1 + brackets_nodes b
of_applied b = suffix_at (Suffix-F.Applied b) (xv.rolls-Applied b)

pub of_value : (e : Expr) → test_nodes (tv.Value e) ≡ 1 + expr_nodes e
of_value e = test_at (Test-F.Value e) (tv.rolls-Value e)

pub of_compared : (b : Bool) (r : Relation) (p : Place) (e : Expr) → test_nodes (tv.Compared b r p e) ≡ 2 + negation b + expr_nodes e
of_compared b r p e = test_at (Test-F.Compared b r p e) (tv.rolls-Compared b r p e)

pub of_inside : (b : Bool) (p : Place) (x : Interval) → test_nodes (tv.Inside b p x) ≡ 2 + negation b + interval_nodes x
of_inside b p x = test_at (Test-F.Inside b p x) (tv.rolls-Inside b p x)

pub of_integer : (p : Place) → type_nodes (yv.Integer p) ≡ 1
of_integer p = type_at (TypeExp-F.Integer p) (yv.rolls-Integer p)

pub of_cardinal : (p : Place) → type_nodes (yv.Cardinal p) ≡ 1
of_cardinal p = type_at (TypeExp-F.Cardinal p) (yv.rolls-Cardinal p)

pub of_long_integer : (p : Place) → type_nodes (yv.LongInteger p) ≡ 1
of_long_integer p = type_at (TypeExp-F.LongInteger p) (yv.rolls-LongInteger p)

pub of_long_cardinal : (p : Place) → type_nodes (yv.LongCardinal p) ≡ 1
of_long_cardinal p = type_at (TypeExp-F.LongCardinal p) (yv.rolls-LongCardinal p)

pub of_boolean : (p : Place) → type_nodes (yv.Boolean p) ≡ 1
of_boolean p = type_at (TypeExp-F.Boolean p) (yv.rolls-Boolean p)

pub of_character : (p : Place) → type_nodes (yv.Character p) ≡ 1
of_character p = type_at (TypeExp-F.Character p) (yv.rolls-Character p)

pub of_string : (p : Place) → type_nodes (yv.String p) ≡ 1
of_string p = type_at (TypeExp-F.String p) (yv.rolls-String p)

pub of_called : (q : QualifiedName) → type_nodes (yv.Called q) ≡ 1
of_called q = type_at (TypeExp-F.Called q) (yv.rolls-Called q)

pub of_enumeration : (p : Place) (ns : List Identifier) → type_nodes (yv.Enumeration p ns) ≡ 1 + length ns
of_enumeration p ns = type_at (TypeExp-F.Enumeration p ns) (yv.rolls-Enumeration p ns)

pub of_subrange : (b : TypeBase) (x : Interval) → type_nodes (yv.Subrange b x) ≡ 1 + base b + interval_nodes x
of_subrange b x = type_at (TypeExp-F.Subrange b x) (yv.rolls-Subrange b x)

pub of_array : (p : Place) (s : TypeExp) (t : TypeExp) → type_nodes (yv.Array p s t) ≡ 1 + type_nodes s + type_nodes t
of_array p s t = type_at (TypeExp-F.Array p s t) (yv.rolls-Array p s t)

pub of_record : (p : Place) (x : FieldList) → type_nodes (yv.Record p x) ≡ 1 + field_list_nodes x
of_record p x = type_at (TypeExp-F.Record p x) (yv.rolls-Record p x)

pub of_arm : (l : Labels) (x : Statement) → arm_nodes (roll-Arm (record { labels = l; body = x })) ≡ 1 + labels l + statement_nodes x
of_arm l x = arm_at (record { labels = l; body = x }) refl

pub of_block : (p : Place) (e : Option (Placed (List Arm))) (ls : List (Labeled (List Identifier) PlainItem)) (ss : List Statement) (xs : List (Labeled (List Identifier) Statement)) → block_nodes (roll-Block (record { place = p; enable = e; locals = ls; statements = ss; exits = xs })) ≡ 1 + phrase arm_nodes e + total (named plain_nodes) ls + total statement_nodes ss + total (named statement_nodes) xs
of_block p None ls ss xs = omega (arith, block_at (record { place = p; enable = None; locals = ls; statements = ss; exits = xs }) refl, total_named plain_nodes ls, total_own statement_nodes ss, total_named statement_nodes xs)
of_block p (Some e) ls ss xs = omega (arith, block_at (record { place = p; enable = Some e; locals = ls; statements = ss; exits = xs }) refl, total_named plain_nodes ls, total_own statement_nodes ss, total_named statement_nodes xs, total_own arm_nodes e.item)

pub of_brackets : (p : Place) (x : Entries Expr) (c : Option (Placed (List Arm))) → brackets_nodes (roll-Brackets (record { place = p; items = x; catch = c })) ≡ entries expr_nodes x + phrase arm_nodes c
of_brackets p Nothing None = brackets_at (record { place = p; items = Nothing; catch = None }) refl
of_brackets p Nothing (Some c) = omega (arith, brackets_at (record { place = p; items = Nothing; catch = Some c }) refl, total_own arm_nodes c.item)
of_brackets p (InOrder es) None = omega (arith, brackets_at (record { place = p; items = InOrder es; catch = None }) refl, total_own expr_nodes es)
of_brackets p (InOrder es) (Some c) = omega (arith, brackets_at (record { place = p; items = InOrder es; catch = Some c }) refl, total_own expr_nodes es, total_own arm_nodes c.item)
of_brackets p (ByKey es) None = omega (arith, brackets_at (record { place = p; items = ByKey es; catch = None }) refl, total_keyed expr_nodes es)
of_brackets p (ByKey es) (Some c) = omega (arith, brackets_at (record { place = p; items = ByKey es; catch = Some c }) refl, total_keyed expr_nodes es, total_own arm_nodes c.item)

pub of_case : (xs : List Test) (x : Statement) → case_nodes (roll-Case (record { tests = xs; body = x })) ≡ total test_nodes xs + statement_nodes x
of_case xs x = omega (arith, case_at (record { tests = xs; body = x }) refl, total_own test_nodes xs)

pub of_control : (a : Option Count) (b : Option Condition) → control_nodes (roll-Control (record { count = a; condition = b })) ≡ optional count_nodes a + optional condition_nodes b
of_control None None = control_at (record { count = None; condition = None }) refl
of_control None (Some b) = control_at (record { count = None; condition = Some b }) refl
of_control (Some a) None = control_at (record { count = Some a; condition = None }) refl
of_control (Some a) (Some b) = control_at (record { count = Some a; condition = Some b }) refl

pub of_interval : (p : Place) (a : Bool) (d : Expr) (e : Expr) (b : Bool) → interval_nodes (roll-Interval (record { place = p; is_open_below = a; low = d; high = e; is_open_above = b })) ≡ 1 + expr_nodes d + expr_nodes e
of_interval p a d e b = interval_at (record { place = p; is_open_below = a; low = d; high = e; is_open_above = b }) refl

pub of_left : (i : Identifier) (ss : List Suffix) → left_nodes (roll-Left (record { name = i; suffixes = ss })) ≡ 1 + total suffix_nodes ss
of_left i ss = omega (arith, left_at (record { name = i; suffixes = ss }) refl, total_own suffix_nodes ss)

pub of_operation : (o : Operator) (p : Place) (e : Expr) → operation_nodes (roll-Operation (record { operator = o; place = p; right = e })) ≡ 1 + expr_nodes e
of_operation o p e = step_at (record { operator = o; place = p; right = e }) refl
