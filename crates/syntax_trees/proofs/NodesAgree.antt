-- The nodes of a tree of the code, counted layer by layer, are those of its plain tree.
use Rattle.std.proofs.Common.{◌≡◌, ℕ, ◌+◌, Bool, List, [], ◌∷◌, map, length, Option, Some, None, refl, sym, ap, ◌∙◌, subst, arith}
use Rattle.held_trees.specs.mesa_base.specs.declared.identifier.Identifier.{Identifier}
use Rattle.held_trees.specs.mesa_base.specs.declared.placed.Placed.{Placed}
use Rattle.syntax_trees.specs.declared.syntax.Keyed.{Keyed}
use Rattle.syntax_trees.specs.declared.syntax.Labeled.{Labeled}
use Rattle.syntax_trees.specs.declared.syntax.Entries.{Entries}
use Rattle.syntax_trees.specs.declared.syntax.RepeatLabels.{RepeatLabels}
use Rattle.syntax_trees.specs.declared.syntax.Entries.TheVariants.{Nothing, InOrder, ByKey}
use Rattle.syntax_trees.specs.declared.syntax.Condition.TheOpen.{Condition-F, Count-F, Expr-F, FieldList-F, PlainItem-F, Raise-F, Statement-F, Suffix-F, Test-F, TypeExp-F, Arm-F, Block-F, Brackets-F, Case-F, Control-F, Interval-F, Left-F, Operation-F}
use Rattle.syntax_trees.specs.declared.syntax.Condition.TheFolds.{ind-Expr, ind-FieldList, ind-PlainItem, ind-Statement, ind-TypeExp, ind-Arm, ind-Block, map-Condition, map-Count, map-Expr, map-FieldList, map-PlainItem, map-Raise, map-Statement, map-Suffix, map-Test, map-TypeExp, map-Arm, map-Block, map-Brackets, map-Case, map-Control, map-Interval, map-Left, map-Operation}
use Rattle.syntax_trees.specs.declared.syntax.Condition.TheViews.{roll-Count, roll-Expr, roll-FieldList, roll-PlainItem, roll-Raise, roll-Statement, roll-Suffix, roll-Test, roll-TypeExp, roll-Arm, roll-Block, roll-Brackets, roll-Case, roll-Control, roll-Interval, roll-Left, roll-Operation}
use Rattle.syntax_trees.specs.declared.syntax.Condition.{Condition, roll-Condition}
use Rattle.syntax_trees.specs.declared.syntax.Count.{Count}
use Rattle.syntax_trees.specs.declared.syntax.Expr.{Expr}
use Rattle.syntax_trees.specs.declared.syntax.FieldList.{FieldList}
use Rattle.syntax_trees.specs.declared.syntax.PlainItem.{PlainItem}
use Rattle.syntax_trees.specs.declared.syntax.Raise.{Raise}
use Rattle.syntax_trees.specs.declared.syntax.Statement.{Statement}
use Rattle.syntax_trees.specs.declared.syntax.Suffix.{Suffix}
use Rattle.syntax_trees.specs.declared.syntax.Test.{Test}
use Rattle.syntax_trees.specs.declared.syntax.TypeExp.{TypeExp}
use Rattle.syntax_trees.specs.declared.syntax.Arm.{Arm}
use Rattle.syntax_trees.specs.declared.syntax.Block.{Block}
use Rattle.syntax_trees.specs.declared.syntax.Brackets.{Brackets}
use Rattle.syntax_trees.specs.declared.syntax.Case.{Case}
use Rattle.syntax_trees.specs.declared.syntax.Control.{Control}
use Rattle.syntax_trees.specs.declared.syntax.Interval.{Interval}
use Rattle.syntax_trees.specs.declared.syntax.Left.{Left}
use Rattle.syntax_trees.specs.declared.syntax.Operation.{Operation}
use Rattle.syntax_trees.specs.declared.syntax.Head.{Head}
use Rattle.syntax_trees.specs.declared.syntax.Declared.{Declared}
use Rattle.syntax_trees.specs.declared.syntax.Declaration.{Declaration}
use Rattle.syntax_trees.specs.declared.syntax.Inner.{Inner}
use Rattle.syntax_trees.specs.declared.syntax.Defined.{Defined}
use Rattle.syntax_trees.specs.declared.syntax.ModuleKind.{ModuleKind}
use Rattle.syntax_trees.specs.declared.syntax.Module.{Module}
use Rattle.syntax_trees.specs.declared.syntax.DirectoryItem.{DirectoryItem}
use Rattle.syntax_trees.specs.declared.syntax.Declared.TheVariants.{Procedure, Signal, Error, Data}
use Rattle.syntax_trees.specs.declared.syntax.Defined.TheVariants.{ProcedureItem, SignalItem, ErrorItem, TypeItem, ConstantItem}
use Rattle.syntax_trees.specs.declared.syntax.ModuleKind.TheVariants.{Program, Interface}
use Rattle.held_trees.specs.mesa_base.specs.Chain.{chain}
use Rattle.syntax_trees.specs.Syntax as s
use Rattle.syntax_trees.specs.PlainSyntax as v
use Rattle.syntax_trees.specs.SyntaxNodes as n
use Rattle.syntax_trees.proofs.PlainForms as pf
use Rattle.syntax_trees.proofs.SyntaxForms as f
use Rattle.syntax_trees.proofs.LayerNodes.{total, optional, named, keyed, phrase, repeated, own, condition_nodes, count_nodes, expr_nodes, field_list_nodes, plain_nodes, raise_nodes, statement_nodes, suffix_nodes, test_nodes, type_nodes, arm_nodes, block_nodes, brackets_nodes, case_nodes, control_nodes, interval_nodes, left_nodes, operation_nodes, head_nodes, declared_nodes, declaration_nodes, inner_nodes, defined_nodes, kind_nodes, directory_item_nodes, nodes}

abbrev Condition-law : Condition → Type 0
Condition-law x = n.condition_nodes (v.condition x) ≡ condition_nodes x

abbrev Count-law : Count → Type 0
Count-law x = n.count_nodes (v.count x) ≡ count_nodes x

abbrev Expr-law : Expr → Type 0
Expr-law x = n.expr_nodes (v.expr x) ≡ expr_nodes x

abbrev FieldList-law : FieldList → Type 0
FieldList-law x = n.field_list_nodes (v.field_list x) ≡ field_list_nodes x

abbrev PlainItem-law : PlainItem → Type 0
PlainItem-law x = n.plain_item_nodes (v.plain_item x) ≡ plain_nodes x

abbrev Raise-law : Raise → Type 0
Raise-law x = n.raise_nodes (v.raise x) ≡ raise_nodes x

abbrev Statement-law : Statement → Type 0
Statement-law x = n.statement_nodes (v.statement x) ≡ statement_nodes x

abbrev Suffix-law : Suffix → Type 0
Suffix-law x = (rest : s.Suffixes) → n.suffixes_nodes (v.suffix x rest) ≡ suffix_nodes x + n.suffixes_nodes rest

abbrev Test-law : Test → Type 0
Test-law x = (rest : s.Tests) → n.tests_nodes (v.test x rest) ≡ test_nodes x + n.tests_nodes rest

abbrev TypeExp-law : TypeExp → Type 0
TypeExp-law x = n.type_nodes (v.type_exp x) ≡ type_nodes x

abbrev Arm-law : Arm → Type 0
Arm-law x = (rest : s.Arms) → n.arms_nodes (v.arm x rest) ≡ arm_nodes x + n.arms_nodes rest

abbrev Block-law : Block → Type 0
Block-law x = n.block_nodes (v.block x) ≡ block_nodes x

abbrev Brackets-law : Brackets → Type 0
Brackets-law x = n.brackets_nodes (v.brackets x) ≡ brackets_nodes x

abbrev Case-law : Case → Type 0
Case-law x = (rest : s.Cases) → n.cases_nodes (v.case x rest) ≡ case_nodes x + n.cases_nodes rest

abbrev Control-law : Control → Type 0
Control-law x = n.control_nodes (v.control x) ≡ control_nodes x

abbrev Interval-law : Interval → Type 0
Interval-law x = n.interval_nodes (v.interval x) ≡ interval_nodes x

abbrev Left-law : Left → Type 0
Left-law x = n.left_nodes (v.left x) ≡ left_nodes x

abbrev Operation-law : Operation → Type 0
Operation-law x = (rest : s.Operations) → n.operations_nodes (v.operation x rest) ≡ operation_nodes x + n.operations_nodes rest

abbrev Such-Condition : Type 0
Such-Condition = (x : Condition) × Condition-law x

abbrev Such-Count : Type 0
Such-Count = (x : Count) × Count-law x

abbrev Such-Expr : Type 0
Such-Expr = (x : Expr) × Expr-law x

abbrev Such-FieldList : Type 0
Such-FieldList = (x : FieldList) × FieldList-law x

abbrev Such-PlainItem : Type 0
Such-PlainItem = (x : PlainItem) × PlainItem-law x

abbrev Such-Raise : Type 0
Such-Raise = (x : Raise) × Raise-law x

abbrev Such-Statement : Type 0
Such-Statement = (x : Statement) × Statement-law x

abbrev Such-Suffix : Type 0
Such-Suffix = (x : Suffix) × Suffix-law x

abbrev Such-Test : Type 0
Such-Test = (x : Test) × Test-law x

abbrev Such-TypeExp : Type 0
Such-TypeExp = (x : TypeExp) × TypeExp-law x

abbrev Such-Arm : Type 0
Such-Arm = (x : Arm) × Arm-law x

abbrev Such-Block : Type 0
Such-Block = (x : Block) × Block-law x

abbrev Such-Brackets : Type 0
Such-Brackets = (x : Brackets) × Brackets-law x

abbrev Such-Case : Type 0
Such-Case = (x : Case) × Case-law x

abbrev Such-Control : Type 0
Such-Control = (x : Control) × Control-law x

abbrev Such-Interval : Type 0
Such-Interval = (x : Interval) × Interval-law x

abbrev Such-Left : Type 0
Such-Left = (x : Left) × Left-law x

abbrev Such-Operation : Type 0
Such-Operation = (x : Operation) × Operation-law x

agree : {a b c d : ℕ} → a ≡ b → c ≡ d → b ≡ d → a ≡ c
agree p q r = p ∙ r ∙ sym q

all_exprs : (ys : List Such-Expr) → n.exprs_nodes (v.join_exprs (map v.expr (map (λ y. y.0) ys))) ≡ total own (map expr_nodes (map (λ y. y.0) ys))
unfolding n.arms_nodes n.block_nodes n.brackets_nodes n.cases_nodes n.condition_nodes n.control_nodes n.count_nodes n.exits_nodes n.expr_nodes n.exprs_nodes n.field_list_nodes n.interval_nodes n.items_nodes n.keyed_exprs_nodes n.keyed_lefts_nodes n.left_nodes n.lefts_nodes n.locals_nodes n.maybe_brackets_nodes n.maybe_items_nodes n.maybe_statement_nodes n.named_fields_nodes n.operations_nodes n.phrase_nodes n.plain_item_nodes n.raise_nodes n.repeats_nodes n.statement_nodes n.statements_nodes n.suffixes_nodes n.targets_nodes n.tests_nodes n.type_nodes n.types_nodes
all_exprs [] = refl
all_exprs (y ∷ ys) = omega (arith, y.1, all_exprs ys)

all_lefts : (ys : List Such-Left) → n.lefts_nodes (v.join_lefts (map v.left (map (λ y. y.0) ys))) ≡ total own (map left_nodes (map (λ y. y.0) ys))
unfolding n.arms_nodes n.block_nodes n.brackets_nodes n.cases_nodes n.condition_nodes n.control_nodes n.count_nodes n.exits_nodes n.expr_nodes n.exprs_nodes n.field_list_nodes n.interval_nodes n.items_nodes n.keyed_exprs_nodes n.keyed_lefts_nodes n.left_nodes n.lefts_nodes n.locals_nodes n.maybe_brackets_nodes n.maybe_items_nodes n.maybe_statement_nodes n.named_fields_nodes n.operations_nodes n.phrase_nodes n.plain_item_nodes n.raise_nodes n.repeats_nodes n.statement_nodes n.statements_nodes n.suffixes_nodes n.targets_nodes n.tests_nodes n.type_nodes n.types_nodes
all_lefts [] = refl
all_lefts (y ∷ ys) = omega (arith, y.1, all_lefts ys)

all_types : (ys : List Such-TypeExp) → n.types_nodes (v.join_types (map v.type_exp (map (λ y. y.0) ys))) ≡ total own (map type_nodes (map (λ y. y.0) ys))
unfolding n.arms_nodes n.block_nodes n.brackets_nodes n.cases_nodes n.condition_nodes n.control_nodes n.count_nodes n.exits_nodes n.expr_nodes n.exprs_nodes n.field_list_nodes n.interval_nodes n.items_nodes n.keyed_exprs_nodes n.keyed_lefts_nodes n.left_nodes n.lefts_nodes n.locals_nodes n.maybe_brackets_nodes n.maybe_items_nodes n.maybe_statement_nodes n.named_fields_nodes n.operations_nodes n.phrase_nodes n.plain_item_nodes n.raise_nodes n.repeats_nodes n.statement_nodes n.statements_nodes n.suffixes_nodes n.targets_nodes n.tests_nodes n.type_nodes n.types_nodes
all_types [] = refl
all_types (y ∷ ys) = omega (arith, y.1, all_types ys)

all_statements : (ys : List Such-Statement) → n.statements_nodes (v.join_statements (map v.statement (map (λ y. y.0) ys))) ≡ total own (map statement_nodes (map (λ y. y.0) ys))
unfolding n.arms_nodes n.block_nodes n.brackets_nodes n.cases_nodes n.condition_nodes n.control_nodes n.count_nodes n.exits_nodes n.expr_nodes n.exprs_nodes n.field_list_nodes n.interval_nodes n.items_nodes n.keyed_exprs_nodes n.keyed_lefts_nodes n.left_nodes n.lefts_nodes n.locals_nodes n.maybe_brackets_nodes n.maybe_items_nodes n.maybe_statement_nodes n.named_fields_nodes n.operations_nodes n.phrase_nodes n.plain_item_nodes n.raise_nodes n.repeats_nodes n.statement_nodes n.statements_nodes n.suffixes_nodes n.targets_nodes n.tests_nodes n.type_nodes n.types_nodes
all_statements [] = refl
all_statements (y ∷ ys) = omega (arith, y.1, all_statements ys)

all_operations : (ys : List Such-Operation) → n.operations_nodes (chain (map v.operation (map (λ y. y.0) ys)) s.NoOperation) ≡ total own (map operation_nodes (map (λ y. y.0) ys))
unfolding n.arms_nodes n.block_nodes n.brackets_nodes n.cases_nodes n.condition_nodes n.control_nodes n.count_nodes n.exits_nodes n.expr_nodes n.exprs_nodes n.field_list_nodes n.interval_nodes n.items_nodes n.keyed_exprs_nodes n.keyed_lefts_nodes n.left_nodes n.lefts_nodes n.locals_nodes n.maybe_brackets_nodes n.maybe_items_nodes n.maybe_statement_nodes n.named_fields_nodes n.operations_nodes n.phrase_nodes n.plain_item_nodes n.raise_nodes n.repeats_nodes n.statement_nodes n.statements_nodes n.suffixes_nodes n.targets_nodes n.tests_nodes n.type_nodes n.types_nodes
all_operations [] = refl
all_operations (y ∷ ys) = omega (arith, y.1 (chain (map v.operation (map (λ z. z.0) ys)) s.NoOperation), all_operations ys)

all_suffixes : (ys : List Such-Suffix) → n.suffixes_nodes (chain (map v.suffix (map (λ y. y.0) ys)) s.NoSuffix) ≡ total own (map suffix_nodes (map (λ y. y.0) ys))
unfolding n.arms_nodes n.block_nodes n.brackets_nodes n.cases_nodes n.condition_nodes n.control_nodes n.count_nodes n.exits_nodes n.expr_nodes n.exprs_nodes n.field_list_nodes n.interval_nodes n.items_nodes n.keyed_exprs_nodes n.keyed_lefts_nodes n.left_nodes n.lefts_nodes n.locals_nodes n.maybe_brackets_nodes n.maybe_items_nodes n.maybe_statement_nodes n.named_fields_nodes n.operations_nodes n.phrase_nodes n.plain_item_nodes n.raise_nodes n.repeats_nodes n.statement_nodes n.statements_nodes n.suffixes_nodes n.targets_nodes n.tests_nodes n.type_nodes n.types_nodes
all_suffixes [] = refl
all_suffixes (y ∷ ys) = omega (arith, y.1 (chain (map v.suffix (map (λ z. z.0) ys)) s.NoSuffix), all_suffixes ys)

all_tests : (ys : List Such-Test) → n.tests_nodes (chain (map v.test (map (λ y. y.0) ys)) s.NoTests) ≡ total own (map test_nodes (map (λ y. y.0) ys))
unfolding n.arms_nodes n.block_nodes n.brackets_nodes n.cases_nodes n.condition_nodes n.control_nodes n.count_nodes n.exits_nodes n.expr_nodes n.exprs_nodes n.field_list_nodes n.interval_nodes n.items_nodes n.keyed_exprs_nodes n.keyed_lefts_nodes n.left_nodes n.lefts_nodes n.locals_nodes n.maybe_brackets_nodes n.maybe_items_nodes n.maybe_statement_nodes n.named_fields_nodes n.operations_nodes n.phrase_nodes n.plain_item_nodes n.raise_nodes n.repeats_nodes n.statement_nodes n.statements_nodes n.suffixes_nodes n.targets_nodes n.tests_nodes n.type_nodes n.types_nodes
all_tests [] = refl
all_tests (y ∷ ys) = omega (arith, y.1 (chain (map v.test (map (λ z. z.0) ys)) s.NoTests), all_tests ys)

all_cases : (ys : List Such-Case) → n.cases_nodes (chain (map v.case (map (λ y. y.0) ys)) s.NoCases) ≡ total own (map case_nodes (map (λ y. y.0) ys))
unfolding n.arms_nodes n.block_nodes n.brackets_nodes n.cases_nodes n.condition_nodes n.control_nodes n.count_nodes n.exits_nodes n.expr_nodes n.exprs_nodes n.field_list_nodes n.interval_nodes n.items_nodes n.keyed_exprs_nodes n.keyed_lefts_nodes n.left_nodes n.lefts_nodes n.locals_nodes n.maybe_brackets_nodes n.maybe_items_nodes n.maybe_statement_nodes n.named_fields_nodes n.operations_nodes n.phrase_nodes n.plain_item_nodes n.raise_nodes n.repeats_nodes n.statement_nodes n.statements_nodes n.suffixes_nodes n.targets_nodes n.tests_nodes n.type_nodes n.types_nodes
all_cases [] = refl
all_cases (y ∷ ys) = omega (arith, y.1 (chain (map v.case (map (λ z. z.0) ys)) s.NoCases), all_cases ys)

all_arms : (ys : List Such-Arm) → n.arms_nodes (chain (map v.arm (map (λ y. y.0) ys)) s.NoArms) ≡ total own (map arm_nodes (map (λ y. y.0) ys))
unfolding n.arms_nodes n.block_nodes n.brackets_nodes n.cases_nodes n.condition_nodes n.control_nodes n.count_nodes n.exits_nodes n.expr_nodes n.exprs_nodes n.field_list_nodes n.interval_nodes n.items_nodes n.keyed_exprs_nodes n.keyed_lefts_nodes n.left_nodes n.lefts_nodes n.locals_nodes n.maybe_brackets_nodes n.maybe_items_nodes n.maybe_statement_nodes n.named_fields_nodes n.operations_nodes n.phrase_nodes n.plain_item_nodes n.raise_nodes n.repeats_nodes n.statement_nodes n.statements_nodes n.suffixes_nodes n.targets_nodes n.tests_nodes n.type_nodes n.types_nodes
all_arms [] = refl
all_arms (y ∷ ys) = omega (arith, y.1 (chain (map v.arm (map (λ z. z.0) ys)) s.NoArms), all_arms ys)

all_keyed_exprs : (ys : List (Keyed Such-Expr)) → n.keyed_exprs_nodes (v.join_keyed_exprs (map (λ (x : Keyed Expr). record { key = x.key; item = v.expr x.item }) (map (λ (x : Keyed Such-Expr). record { key = x.key; item = x.item.0 }) ys))) ≡ total (keyed own) (map (λ (x : Keyed Expr). record { key = x.key; item = expr_nodes x.item }) (map (λ (x : Keyed Such-Expr). record { key = x.key; item = x.item.0 }) ys))
unfolding n.arms_nodes n.block_nodes n.brackets_nodes n.cases_nodes n.condition_nodes n.control_nodes n.count_nodes n.exits_nodes n.expr_nodes n.exprs_nodes n.field_list_nodes n.interval_nodes n.items_nodes n.keyed_exprs_nodes n.keyed_lefts_nodes n.left_nodes n.lefts_nodes n.locals_nodes n.maybe_brackets_nodes n.maybe_items_nodes n.maybe_statement_nodes n.named_fields_nodes n.operations_nodes n.phrase_nodes n.plain_item_nodes n.raise_nodes n.repeats_nodes n.statement_nodes n.statements_nodes n.suffixes_nodes n.targets_nodes n.tests_nodes n.type_nodes n.types_nodes
all_keyed_exprs [] = refl
all_keyed_exprs (y ∷ ys) = omega (arith, y.item.1, all_keyed_exprs ys)

all_keyed_lefts : (ys : List (Keyed Such-Left)) → n.keyed_lefts_nodes (v.join_keyed_lefts (map (λ (x : Keyed Left). record { key = x.key; item = v.left x.item }) (map (λ (x : Keyed Such-Left). record { key = x.key; item = x.item.0 }) ys))) ≡ total (keyed own) (map (λ (x : Keyed Left). record { key = x.key; item = left_nodes x.item }) (map (λ (x : Keyed Such-Left). record { key = x.key; item = x.item.0 }) ys))
unfolding n.arms_nodes n.block_nodes n.brackets_nodes n.cases_nodes n.condition_nodes n.control_nodes n.count_nodes n.exits_nodes n.expr_nodes n.exprs_nodes n.field_list_nodes n.interval_nodes n.items_nodes n.keyed_exprs_nodes n.keyed_lefts_nodes n.left_nodes n.lefts_nodes n.locals_nodes n.maybe_brackets_nodes n.maybe_items_nodes n.maybe_statement_nodes n.named_fields_nodes n.operations_nodes n.phrase_nodes n.plain_item_nodes n.raise_nodes n.repeats_nodes n.statement_nodes n.statements_nodes n.suffixes_nodes n.targets_nodes n.tests_nodes n.type_nodes n.types_nodes
all_keyed_lefts [] = refl
all_keyed_lefts (y ∷ ys) = omega (arith, y.item.1, all_keyed_lefts ys)

all_fields : (ys : List (Labeled (List Identifier) Such-TypeExp)) → n.named_fields_nodes (v.join_fields (map (λ (x : Labeled (List Identifier) TypeExp). record { labels = x.labels; item = v.type_exp x.item }) (map (λ (x : Labeled (List Identifier) Such-TypeExp). record { labels = x.labels; item = x.item.0 }) ys))) ≡ total (named own) (map (λ (x : Labeled (List Identifier) TypeExp). record { labels = x.labels; item = type_nodes x.item }) (map (λ (x : Labeled (List Identifier) Such-TypeExp). record { labels = x.labels; item = x.item.0 }) ys))
unfolding n.arms_nodes n.block_nodes n.brackets_nodes n.cases_nodes n.condition_nodes n.control_nodes n.count_nodes n.exits_nodes n.expr_nodes n.exprs_nodes n.field_list_nodes n.interval_nodes n.items_nodes n.keyed_exprs_nodes n.keyed_lefts_nodes n.left_nodes n.lefts_nodes n.locals_nodes n.maybe_brackets_nodes n.maybe_items_nodes n.maybe_statement_nodes n.named_fields_nodes n.operations_nodes n.phrase_nodes n.plain_item_nodes n.raise_nodes n.repeats_nodes n.statement_nodes n.statements_nodes n.suffixes_nodes n.targets_nodes n.tests_nodes n.type_nodes n.types_nodes
all_fields [] = refl
all_fields (y ∷ ys) = omega (arith, y.item.1, all_fields ys)

all_locals : (ys : List (Labeled (List Identifier) Such-PlainItem)) → n.locals_nodes (v.join_locals (map (λ (x : Labeled (List Identifier) PlainItem). record { labels = x.labels; item = v.plain_item x.item }) (map (λ (x : Labeled (List Identifier) Such-PlainItem). record { labels = x.labels; item = x.item.0 }) ys))) ≡ total (named own) (map (λ (x : Labeled (List Identifier) PlainItem). record { labels = x.labels; item = plain_nodes x.item }) (map (λ (x : Labeled (List Identifier) Such-PlainItem). record { labels = x.labels; item = x.item.0 }) ys))
unfolding n.arms_nodes n.block_nodes n.brackets_nodes n.cases_nodes n.condition_nodes n.control_nodes n.count_nodes n.exits_nodes n.expr_nodes n.exprs_nodes n.field_list_nodes n.interval_nodes n.items_nodes n.keyed_exprs_nodes n.keyed_lefts_nodes n.left_nodes n.lefts_nodes n.locals_nodes n.maybe_brackets_nodes n.maybe_items_nodes n.maybe_statement_nodes n.named_fields_nodes n.operations_nodes n.phrase_nodes n.plain_item_nodes n.raise_nodes n.repeats_nodes n.statement_nodes n.statements_nodes n.suffixes_nodes n.targets_nodes n.tests_nodes n.type_nodes n.types_nodes
all_locals [] = refl
all_locals (y ∷ ys) = omega (arith, y.item.1, all_locals ys)

all_exits : (ys : List (Labeled (List Identifier) Such-Statement)) → n.exits_nodes (v.join_exits (map (λ (x : Labeled (List Identifier) Statement). record { labels = x.labels; item = v.statement x.item }) (map (λ (x : Labeled (List Identifier) Such-Statement). record { labels = x.labels; item = x.item.0 }) ys))) ≡ total (named own) (map (λ (x : Labeled (List Identifier) Statement). record { labels = x.labels; item = statement_nodes x.item }) (map (λ (x : Labeled (List Identifier) Such-Statement). record { labels = x.labels; item = x.item.0 }) ys))
unfolding n.arms_nodes n.block_nodes n.brackets_nodes n.cases_nodes n.condition_nodes n.control_nodes n.count_nodes n.exits_nodes n.expr_nodes n.exprs_nodes n.field_list_nodes n.interval_nodes n.items_nodes n.keyed_exprs_nodes n.keyed_lefts_nodes n.left_nodes n.lefts_nodes n.locals_nodes n.maybe_brackets_nodes n.maybe_items_nodes n.maybe_statement_nodes n.named_fields_nodes n.operations_nodes n.phrase_nodes n.plain_item_nodes n.raise_nodes n.repeats_nodes n.statement_nodes n.statements_nodes n.suffixes_nodes n.targets_nodes n.tests_nodes n.type_nodes n.types_nodes
all_exits [] = refl
all_exits (y ∷ ys) = omega (arith, y.item.1, all_exits ys)

all_repeats : (ys : List (Labeled RepeatLabels Such-Statement)) → n.repeats_nodes (v.join_repeats (map (λ (x : Labeled RepeatLabels Statement). record { labels = x.labels; item = v.statement x.item }) (map (λ (x : Labeled RepeatLabels Such-Statement). record { labels = x.labels; item = x.item.0 }) ys))) ≡ total (repeated own) (map (λ (x : Labeled RepeatLabels Statement). record { labels = x.labels; item = statement_nodes x.item }) (map (λ (x : Labeled RepeatLabels Such-Statement). record { labels = x.labels; item = x.item.0 }) ys))
unfolding n.arms_nodes n.block_nodes n.brackets_nodes n.cases_nodes n.condition_nodes n.control_nodes n.count_nodes n.exits_nodes n.expr_nodes n.exprs_nodes n.field_list_nodes n.interval_nodes n.items_nodes n.keyed_exprs_nodes n.keyed_lefts_nodes n.left_nodes n.lefts_nodes n.locals_nodes n.maybe_brackets_nodes n.maybe_items_nodes n.maybe_statement_nodes n.named_fields_nodes n.operations_nodes n.phrase_nodes n.plain_item_nodes n.raise_nodes n.repeats_nodes n.statement_nodes n.statements_nodes n.suffixes_nodes n.targets_nodes n.tests_nodes n.type_nodes n.types_nodes
all_repeats [] = refl
all_repeats (y ∷ ys) = omega (arith, y.item.1, all_repeats ys)

here_condition : (y : Condition-F Such-Condition Such-Count Such-Expr Such-FieldList Such-PlainItem Such-Raise Such-Statement Such-Suffix Such-Test Such-TypeExp Such-Arm Such-Block Such-Brackets Such-Case Such-Control Such-Interval Such-Left Such-Operation) → Condition-law (roll-Condition (map-Condition Such-Condition Such-Count Such-Expr Such-FieldList Such-PlainItem Such-Raise Such-Statement Such-Suffix Such-Test Such-TypeExp Such-Arm Such-Block Such-Brackets Such-Case Such-Control Such-Interval Such-Left Such-Operation Condition Count Expr FieldList PlainItem Raise Statement Suffix Test TypeExp Arm Block Brackets Case Control Interval Left Operation (λ e. e.0) (λ e. e.0) (λ e. e.0) (λ e. e.0) (λ e. e.0) (λ e. e.0) (λ e. e.0) (λ e. e.0) (λ e. e.0) (λ e. e.0) (λ e. e.0) (λ e. e.0) (λ e. e.0) (λ e. e.0) (λ e. e.0) (λ e. e.0) (λ e. e.0) (λ e. e.0) y))
unfolding n.arms_nodes n.block_nodes n.brackets_nodes n.cases_nodes n.condition_nodes n.control_nodes n.count_nodes n.exits_nodes n.expr_nodes n.exprs_nodes n.field_list_nodes n.interval_nodes n.items_nodes n.keyed_exprs_nodes n.keyed_lefts_nodes n.left_nodes n.lefts_nodes n.locals_nodes n.maybe_brackets_nodes n.maybe_items_nodes n.maybe_statement_nodes n.named_fields_nodes n.operations_nodes n.phrase_nodes n.plain_item_nodes n.raise_nodes n.repeats_nodes n.statement_nodes n.statements_nodes n.suffixes_nodes n.targets_nodes n.tests_nodes n.type_nodes n.types_nodes
here_condition (Condition-F.While p e) = agree (ap n.condition_nodes (pf.condition_at (Condition-F.While p e.0) refl)) (f.condition_at (Condition-F.While p e.0) refl) (omega (arith, e.1))
here_condition (Condition-F.Until p e) = agree (ap n.condition_nodes (pf.condition_at (Condition-F.Until p e.0) refl)) (f.condition_at (Condition-F.Until p e.0) refl) (omega (arith, e.1))

here_count : (y : Count-F Such-Condition Such-Count Such-Expr Such-FieldList Such-PlainItem Such-Raise Such-Statement Such-Suffix Such-Test Such-TypeExp Such-Arm Such-Block Such-Brackets Such-Case Such-Control Such-Interval Such-Left Such-Operation) → Count-law (roll-Count (map-Count Such-Condition Such-Count Such-Expr Such-FieldList Such-PlainItem Such-Raise Such-Statement Such-Suffix Such-Test Such-TypeExp Such-Arm Such-Block Such-Brackets Such-Case Such-Control Such-Interval Such-Left Such-Operation Condition Count Expr FieldList PlainItem Raise Statement Suffix Test TypeExp Arm Block Brackets Case Control Interval Left Operation (λ e. e.0) (λ e. e.0) (λ e. e.0) (λ e. e.0) (λ e. e.0) (λ e. e.0) (λ e. e.0) (λ e. e.0) (λ e. e.0) (λ e. e.0) (λ e. e.0) (λ e. e.0) (λ e. e.0) (λ e. e.0) (λ e. e.0) (λ e. e.0) (λ e. e.0) (λ e. e.0) y))
unfolding n.arms_nodes n.block_nodes n.brackets_nodes n.cases_nodes n.condition_nodes n.control_nodes n.count_nodes n.exits_nodes n.expr_nodes n.exprs_nodes n.field_list_nodes n.interval_nodes n.items_nodes n.keyed_exprs_nodes n.keyed_lefts_nodes n.left_nodes n.lefts_nodes n.locals_nodes n.maybe_brackets_nodes n.maybe_items_nodes n.maybe_statement_nodes n.named_fields_nodes n.operations_nodes n.phrase_nodes n.plain_item_nodes n.raise_nodes n.repeats_nodes n.statement_nodes n.statements_nodes n.suffixes_nodes n.targets_nodes n.tests_nodes n.type_nodes n.types_nodes
here_count (Count-F.For p i b x) = agree (ap n.count_nodes (pf.count_at (Count-F.For p i b x.0) refl)) (f.count_at (Count-F.For p i b x.0) refl) (omega (arith, x.1))
here_count (Count-F.Through p x) = agree (ap n.count_nodes (pf.count_at (Count-F.Through p x.0) refl)) (f.count_at (Count-F.Through p x.0) refl) (omega (arith, x.1))

here_list : (q : _) (y : Entries Such-Expr) → Expr-law (roll-Expr (map-Expr Such-Condition Such-Count Such-Expr Such-FieldList Such-PlainItem Such-Raise Such-Statement Such-Suffix Such-Test Such-TypeExp Such-Arm Such-Block Such-Brackets Such-Case Such-Control Such-Interval Such-Left Such-Operation Condition Count Expr FieldList PlainItem Raise Statement Suffix Test TypeExp Arm Block Brackets Case Control Interval Left Operation (λ e. e.0) (λ e. e.0) (λ e. e.0) (λ e. e.0) (λ e. e.0) (λ e. e.0) (λ e. e.0) (λ e. e.0) (λ e. e.0) (λ e. e.0) (λ e. e.0) (λ e. e.0) (λ e. e.0) (λ e. e.0) (λ e. e.0) (λ e. e.0) (λ e. e.0) (λ e. e.0) (Expr-F.Constructor (record { place = q; item = y }))))
unfolding n.arms_nodes n.block_nodes n.brackets_nodes n.cases_nodes n.condition_nodes n.control_nodes n.count_nodes n.exits_nodes n.expr_nodes n.exprs_nodes n.field_list_nodes n.interval_nodes n.items_nodes n.keyed_exprs_nodes n.keyed_lefts_nodes n.left_nodes n.lefts_nodes n.locals_nodes n.maybe_brackets_nodes n.maybe_items_nodes n.maybe_statement_nodes n.named_fields_nodes n.operations_nodes n.phrase_nodes n.plain_item_nodes n.raise_nodes n.repeats_nodes n.statement_nodes n.statements_nodes n.suffixes_nodes n.targets_nodes n.tests_nodes n.type_nodes n.types_nodes
here_list q Nothing = agree (ap n.expr_nodes (pf.expr_at (Expr-F.Constructor (record { place = q; item = Nothing })) refl)) (f.expr_at (Expr-F.Constructor (record { place = q; item = Nothing })) refl) (refl)
here_list q (InOrder es) = agree (ap n.expr_nodes (pf.expr_at (Expr-F.Constructor (record { place = q; item = InOrder (map (λ y. y.0) es) })) refl)) (f.expr_at (Expr-F.Constructor (record { place = q; item = InOrder (map (λ y. y.0) es) })) refl) (omega (arith, all_exprs es))
here_list q (ByKey es) = agree (ap n.expr_nodes (pf.expr_at (Expr-F.Constructor (record { place = q; item = ByKey (map (λ (y : Keyed Such-Expr). record { key = y.key; item = y.item.0 }) es) })) refl)) (f.expr_at (Expr-F.Constructor (record { place = q; item = ByKey (map (λ (y : Keyed Such-Expr). record { key = y.key; item = y.item.0 }) es) })) refl) (omega (arith, all_keyed_exprs es))

here_expr : (y : Expr-F Such-Condition Such-Count Such-Expr Such-FieldList Such-PlainItem Such-Raise Such-Statement Such-Suffix Such-Test Such-TypeExp Such-Arm Such-Block Such-Brackets Such-Case Such-Control Such-Interval Such-Left Such-Operation) → Expr-law (roll-Expr (map-Expr Such-Condition Such-Count Such-Expr Such-FieldList Such-PlainItem Such-Raise Such-Statement Such-Suffix Such-Test Such-TypeExp Such-Arm Such-Block Such-Brackets Such-Case Such-Control Such-Interval Such-Left Such-Operation Condition Count Expr FieldList PlainItem Raise Statement Suffix Test TypeExp Arm Block Brackets Case Control Interval Left Operation (λ e. e.0) (λ e. e.0) (λ e. e.0) (λ e. e.0) (λ e. e.0) (λ e. e.0) (λ e. e.0) (λ e. e.0) (λ e. e.0) (λ e. e.0) (λ e. e.0) (λ e. e.0) (λ e. e.0) (λ e. e.0) (λ e. e.0) (λ e. e.0) (λ e. e.0) (λ e. e.0) y))
unfolding n.arms_nodes n.block_nodes n.brackets_nodes n.cases_nodes n.condition_nodes n.control_nodes n.count_nodes n.exits_nodes n.expr_nodes n.exprs_nodes n.field_list_nodes n.interval_nodes n.items_nodes n.keyed_exprs_nodes n.keyed_lefts_nodes n.left_nodes n.lefts_nodes n.locals_nodes n.maybe_brackets_nodes n.maybe_items_nodes n.maybe_statement_nodes n.named_fields_nodes n.operations_nodes n.phrase_nodes n.plain_item_nodes n.raise_nodes n.repeats_nodes n.statement_nodes n.statements_nodes n.suffixes_nodes n.targets_nodes n.tests_nodes n.type_nodes n.types_nodes
here_expr (Expr-F.Run e os) = agree (ap n.expr_nodes (pf.expr_at (Expr-F.Run e.0 (map (λ y. y.0) os)) refl)) (f.expr_at (Expr-F.Run e.0 (map (λ y. y.0) os)) refl) (omega (arith, e.1, all_operations os))
here_expr (Expr-F.Not p e) = agree (ap n.expr_nodes (pf.expr_at (Expr-F.Not p e.0) refl)) (f.expr_at (Expr-F.Not p e.0) refl) (omega (arith, e.1))
here_expr (Expr-F.Compare d b r p e) = agree (ap n.expr_nodes (pf.expr_at (Expr-F.Compare d.0 b r p e.0) refl)) (f.expr_at (Expr-F.Compare d.0 b r p e.0) refl) (omega (arith, d.1, e.1))
here_expr (Expr-F.Within e b p x) = agree (ap n.expr_nodes (pf.expr_at (Expr-F.Within e.0 b p x.0) refl)) (f.expr_at (Expr-F.Within e.0 b p x.0) refl) (omega (arith, e.1, x.1))
here_expr (Expr-F.Signed g p e) = agree (ap n.expr_nodes (pf.expr_at (Expr-F.Signed g p e.0) refl)) (f.expr_at (Expr-F.Signed g p e.0) refl) (omega (arith, e.1))
here_expr (Expr-F.NumberLiteral p m) = agree (ap n.expr_nodes (pf.expr_at (Expr-F.NumberLiteral p m) refl)) (f.expr_at (Expr-F.NumberLiteral p m) refl) (refl)
here_expr (Expr-F.CharacterLiteral p m) = agree (ap n.expr_nodes (pf.expr_at (Expr-F.CharacterLiteral p m) refl)) (f.expr_at (Expr-F.CharacterLiteral p m) refl) (refl)
here_expr (Expr-F.StringLiteral p m) = agree (ap n.expr_nodes (pf.expr_at (Expr-F.StringLiteral p m) refl)) (f.expr_at (Expr-F.StringLiteral p m) refl) (refl)
here_expr (Expr-F.Truth p b) = agree (ap n.expr_nodes (pf.expr_at (Expr-F.Truth p b) refl)) (f.expr_at (Expr-F.Truth p b) refl) (refl)
here_expr (Expr-F.Parenthesis p e) = agree (ap n.expr_nodes (pf.expr_at (Expr-F.Parenthesis p e.0) refl)) (f.expr_at (Expr-F.Parenthesis p e.0) refl) (omega (arith, e.1))
here_expr (Expr-F.Reference l) = agree (ap n.expr_nodes (pf.expr_at (Expr-F.Reference l.0) refl)) (f.expr_at (Expr-F.Reference l.0) refl) (omega (arith, l.1))
here_expr (Expr-F.Constructor x) = here_list x.place x.item
here_expr (Expr-F.Raised r) = agree (ap n.expr_nodes (pf.expr_at (Expr-F.Raised r.0) refl)) (f.expr_at (Expr-F.Raised r.0) refl) (omega (arith, r.1))

here_fieldlist : (y : FieldList-F Such-Condition Such-Count Such-Expr Such-FieldList Such-PlainItem Such-Raise Such-Statement Such-Suffix Such-Test Such-TypeExp Such-Arm Such-Block Such-Brackets Such-Case Such-Control Such-Interval Such-Left Such-Operation) → FieldList-law (roll-FieldList (map-FieldList Such-Condition Such-Count Such-Expr Such-FieldList Such-PlainItem Such-Raise Such-Statement Such-Suffix Such-Test Such-TypeExp Such-Arm Such-Block Such-Brackets Such-Case Such-Control Such-Interval Such-Left Such-Operation Condition Count Expr FieldList PlainItem Raise Statement Suffix Test TypeExp Arm Block Brackets Case Control Interval Left Operation (λ e. e.0) (λ e. e.0) (λ e. e.0) (λ e. e.0) (λ e. e.0) (λ e. e.0) (λ e. e.0) (λ e. e.0) (λ e. e.0) (λ e. e.0) (λ e. e.0) (λ e. e.0) (λ e. e.0) (λ e. e.0) (λ e. e.0) (λ e. e.0) (λ e. e.0) (λ e. e.0) y))
unfolding n.arms_nodes n.block_nodes n.brackets_nodes n.cases_nodes n.condition_nodes n.control_nodes n.count_nodes n.exits_nodes n.expr_nodes n.exprs_nodes n.field_list_nodes n.interval_nodes n.items_nodes n.keyed_exprs_nodes n.keyed_lefts_nodes n.left_nodes n.lefts_nodes n.locals_nodes n.maybe_brackets_nodes n.maybe_items_nodes n.maybe_statement_nodes n.named_fields_nodes n.operations_nodes n.phrase_nodes n.plain_item_nodes n.raise_nodes n.repeats_nodes n.statement_nodes n.statements_nodes n.suffixes_nodes n.targets_nodes n.tests_nodes n.type_nodes n.types_nodes
here_fieldlist (FieldList-F.WithNames xs) = agree (ap n.field_list_nodes (pf.field_list_at (FieldList-F.WithNames (map (λ (y : Labeled (List Identifier) Such-TypeExp). record { labels = y.labels; item = y.item.0 }) xs)) refl)) (f.field_list_at (FieldList-F.WithNames (map (λ (y : Labeled (List Identifier) Such-TypeExp). record { labels = y.labels; item = y.item.0 }) xs)) refl) (omega (arith, all_fields xs))
here_fieldlist (FieldList-F.Unnamed xs) = agree (ap n.field_list_nodes (pf.field_list_at (FieldList-F.Unnamed (map (λ y. y.0) xs)) refl)) (f.field_list_at (FieldList-F.Unnamed (map (λ y. y.0) xs)) refl) (omega (arith, all_types xs))

here_plainitem : (y : PlainItem-F Such-Condition Such-Count Such-Expr Such-FieldList Such-PlainItem Such-Raise Such-Statement Such-Suffix Such-Test Such-TypeExp Such-Arm Such-Block Such-Brackets Such-Case Such-Control Such-Interval Such-Left Such-Operation) → PlainItem-law (roll-PlainItem (map-PlainItem Such-Condition Such-Count Such-Expr Such-FieldList Such-PlainItem Such-Raise Such-Statement Such-Suffix Such-Test Such-TypeExp Such-Arm Such-Block Such-Brackets Such-Case Such-Control Such-Interval Such-Left Such-Operation Condition Count Expr FieldList PlainItem Raise Statement Suffix Test TypeExp Arm Block Brackets Case Control Interval Left Operation (λ e. e.0) (λ e. e.0) (λ e. e.0) (λ e. e.0) (λ e. e.0) (λ e. e.0) (λ e. e.0) (λ e. e.0) (λ e. e.0) (λ e. e.0) (λ e. e.0) (λ e. e.0) (λ e. e.0) (λ e. e.0) (λ e. e.0) (λ e. e.0) (λ e. e.0) (λ e. e.0) y))
unfolding n.arms_nodes n.block_nodes n.brackets_nodes n.cases_nodes n.condition_nodes n.control_nodes n.count_nodes n.exits_nodes n.expr_nodes n.exprs_nodes n.field_list_nodes n.interval_nodes n.items_nodes n.keyed_exprs_nodes n.keyed_lefts_nodes n.left_nodes n.lefts_nodes n.locals_nodes n.maybe_brackets_nodes n.maybe_items_nodes n.maybe_statement_nodes n.named_fields_nodes n.operations_nodes n.phrase_nodes n.plain_item_nodes n.raise_nodes n.repeats_nodes n.statement_nodes n.statements_nodes n.suffixes_nodes n.targets_nodes n.tests_nodes n.type_nodes n.types_nodes
here_plainitem (PlainItem-F.TypeIs t) = agree (ap n.plain_item_nodes (pf.plain_item_at (PlainItem-F.TypeIs t.0) refl)) (f.plain_at (PlainItem-F.TypeIs t.0) refl) (omega (arith, t.1))
here_plainitem (PlainItem-F.Variable t) = agree (ap n.plain_item_nodes (pf.plain_item_at (PlainItem-F.Variable t.0) refl)) (f.plain_at (PlainItem-F.Variable t.0) refl) (omega (arith, t.1))
here_plainitem (PlainItem-F.Initial t e) = agree (ap n.plain_item_nodes (pf.plain_item_at (PlainItem-F.Initial t.0 e.0) refl)) (f.plain_at (PlainItem-F.Initial t.0 e.0) refl) (omega (arith, t.1, e.1))
here_plainitem (PlainItem-F.Constant t e) = agree (ap n.plain_item_nodes (pf.plain_item_at (PlainItem-F.Constant t.0 e.0) refl)) (f.plain_at (PlainItem-F.Constant t.0 e.0) refl) (omega (arith, t.1, e.1))

here_raise : (y : Raise-F Such-Condition Such-Count Such-Expr Such-FieldList Such-PlainItem Such-Raise Such-Statement Such-Suffix Such-Test Such-TypeExp Such-Arm Such-Block Such-Brackets Such-Case Such-Control Such-Interval Such-Left Such-Operation) → Raise-law (roll-Raise (map-Raise Such-Condition Such-Count Such-Expr Such-FieldList Such-PlainItem Such-Raise Such-Statement Such-Suffix Such-Test Such-TypeExp Such-Arm Such-Block Such-Brackets Such-Case Such-Control Such-Interval Such-Left Such-Operation Condition Count Expr FieldList PlainItem Raise Statement Suffix Test TypeExp Arm Block Brackets Case Control Interval Left Operation (λ e. e.0) (λ e. e.0) (λ e. e.0) (λ e. e.0) (λ e. e.0) (λ e. e.0) (λ e. e.0) (λ e. e.0) (λ e. e.0) (λ e. e.0) (λ e. e.0) (λ e. e.0) (λ e. e.0) (λ e. e.0) (λ e. e.0) (λ e. e.0) (λ e. e.0) (λ e. e.0) y))
unfolding n.arms_nodes n.block_nodes n.brackets_nodes n.cases_nodes n.condition_nodes n.control_nodes n.count_nodes n.exits_nodes n.expr_nodes n.exprs_nodes n.field_list_nodes n.interval_nodes n.items_nodes n.keyed_exprs_nodes n.keyed_lefts_nodes n.left_nodes n.lefts_nodes n.locals_nodes n.maybe_brackets_nodes n.maybe_items_nodes n.maybe_statement_nodes n.named_fields_nodes n.operations_nodes n.phrase_nodes n.plain_item_nodes n.raise_nodes n.repeats_nodes n.statement_nodes n.statements_nodes n.suffixes_nodes n.targets_nodes n.tests_nodes n.type_nodes n.types_nodes
here_raise (Raise-F.SignalRaise p q None) = agree (ap n.raise_nodes (pf.raise_at (Raise-F.SignalRaise p q None) refl)) (f.raise_at (Raise-F.SignalRaise p q None) refl) (refl)
here_raise (Raise-F.SignalRaise p q (Some b)) = agree (ap n.raise_nodes (pf.raise_at (Raise-F.SignalRaise p q (Some b.0)) refl)) (f.raise_at (Raise-F.SignalRaise p q (Some b.0)) refl) (omega (arith, b.1))
here_raise (Raise-F.ErrorRaise p q None) = agree (ap n.raise_nodes (pf.raise_at (Raise-F.ErrorRaise p q None) refl)) (f.raise_at (Raise-F.ErrorRaise p q None) refl) (refl)
here_raise (Raise-F.ErrorRaise p q (Some b)) = agree (ap n.raise_nodes (pf.raise_at (Raise-F.ErrorRaise p q (Some b.0)) refl)) (f.raise_at (Raise-F.ErrorRaise p q (Some b.0)) refl) (omega (arith, b.1))
here_raise (Raise-F.UnnamedError p) = agree (ap n.raise_nodes (pf.raise_at (Raise-F.UnnamedError p) refl)) (f.raise_at (Raise-F.UnnamedError p) refl) (refl)

here_return : (p q : _) (y : Entries Such-Expr) → Statement-law (roll-Statement (map-Statement Such-Condition Such-Count Such-Expr Such-FieldList Such-PlainItem Such-Raise Such-Statement Such-Suffix Such-Test Such-TypeExp Such-Arm Such-Block Such-Brackets Such-Case Such-Control Such-Interval Such-Left Such-Operation Condition Count Expr FieldList PlainItem Raise Statement Suffix Test TypeExp Arm Block Brackets Case Control Interval Left Operation (λ e. e.0) (λ e. e.0) (λ e. e.0) (λ e. e.0) (λ e. e.0) (λ e. e.0) (λ e. e.0) (λ e. e.0) (λ e. e.0) (λ e. e.0) (λ e. e.0) (λ e. e.0) (λ e. e.0) (λ e. e.0) (λ e. e.0) (λ e. e.0) (λ e. e.0) (λ e. e.0) (Statement-F.Return p (Some (record { place = q; item = y })))))
unfolding n.arms_nodes n.block_nodes n.brackets_nodes n.cases_nodes n.condition_nodes n.control_nodes n.count_nodes n.exits_nodes n.expr_nodes n.exprs_nodes n.field_list_nodes n.interval_nodes n.items_nodes n.keyed_exprs_nodes n.keyed_lefts_nodes n.left_nodes n.lefts_nodes n.locals_nodes n.maybe_brackets_nodes n.maybe_items_nodes n.maybe_statement_nodes n.named_fields_nodes n.operations_nodes n.phrase_nodes n.plain_item_nodes n.raise_nodes n.repeats_nodes n.statement_nodes n.statements_nodes n.suffixes_nodes n.targets_nodes n.tests_nodes n.type_nodes n.types_nodes
here_return r q Nothing = agree (ap n.statement_nodes (pf.statement_at (Statement-F.Return r (Some (record { place = q; item = Nothing }))) refl)) (f.statement_at (Statement-F.Return r (Some (record { place = q; item = Nothing }))) refl) (refl)
here_return r q (InOrder es) = agree (ap n.statement_nodes (pf.statement_at (Statement-F.Return r (Some (record { place = q; item = (InOrder (map (λ y. y.0) es)) }))) refl)) (f.statement_at (Statement-F.Return r (Some (record { place = q; item = (InOrder (map (λ y. y.0) es)) }))) refl) (omega (arith, all_exprs es))
here_return r q (ByKey es) = agree (ap n.statement_nodes (pf.statement_at (Statement-F.Return r (Some (record { place = q; item = (ByKey (map (λ (y : Keyed Such-Expr). record { key = y.key; item = y.item.0 }) es)) }))) refl)) (f.statement_at (Statement-F.Return r (Some (record { place = q; item = (ByKey (map (λ (y : Keyed Such-Expr). record { key = y.key; item = y.item.0 }) es)) }))) refl) (omega (arith, all_keyed_exprs es))

here_resume : (p q : _) (y : Entries Such-Expr) → Statement-law (roll-Statement (map-Statement Such-Condition Such-Count Such-Expr Such-FieldList Such-PlainItem Such-Raise Such-Statement Such-Suffix Such-Test Such-TypeExp Such-Arm Such-Block Such-Brackets Such-Case Such-Control Such-Interval Such-Left Such-Operation Condition Count Expr FieldList PlainItem Raise Statement Suffix Test TypeExp Arm Block Brackets Case Control Interval Left Operation (λ e. e.0) (λ e. e.0) (λ e. e.0) (λ e. e.0) (λ e. e.0) (λ e. e.0) (λ e. e.0) (λ e. e.0) (λ e. e.0) (λ e. e.0) (λ e. e.0) (λ e. e.0) (λ e. e.0) (λ e. e.0) (λ e. e.0) (λ e. e.0) (λ e. e.0) (λ e. e.0) (Statement-F.Resume p (Some (record { place = q; item = y })))))
unfolding n.arms_nodes n.block_nodes n.brackets_nodes n.cases_nodes n.condition_nodes n.control_nodes n.count_nodes n.exits_nodes n.expr_nodes n.exprs_nodes n.field_list_nodes n.interval_nodes n.items_nodes n.keyed_exprs_nodes n.keyed_lefts_nodes n.left_nodes n.lefts_nodes n.locals_nodes n.maybe_brackets_nodes n.maybe_items_nodes n.maybe_statement_nodes n.named_fields_nodes n.operations_nodes n.phrase_nodes n.plain_item_nodes n.raise_nodes n.repeats_nodes n.statement_nodes n.statements_nodes n.suffixes_nodes n.targets_nodes n.tests_nodes n.type_nodes n.types_nodes
here_resume r q Nothing = agree (ap n.statement_nodes (pf.statement_at (Statement-F.Resume r (Some (record { place = q; item = Nothing }))) refl)) (f.statement_at (Statement-F.Resume r (Some (record { place = q; item = Nothing }))) refl) (refl)
here_resume r q (InOrder es) = agree (ap n.statement_nodes (pf.statement_at (Statement-F.Resume r (Some (record { place = q; item = (InOrder (map (λ y. y.0) es)) }))) refl)) (f.statement_at (Statement-F.Resume r (Some (record { place = q; item = (InOrder (map (λ y. y.0) es)) }))) refl) (omega (arith, all_exprs es))
here_resume r q (ByKey es) = agree (ap n.statement_nodes (pf.statement_at (Statement-F.Resume r (Some (record { place = q; item = (ByKey (map (λ (y : Keyed Such-Expr). record { key = y.key; item = y.item.0 }) es)) }))) refl)) (f.statement_at (Statement-F.Resume r (Some (record { place = q; item = (ByKey (map (λ (y : Keyed Such-Expr). record { key = y.key; item = y.item.0 }) es)) }))) refl) (omega (arith, all_keyed_exprs es))

here_statement : (y : Statement-F Such-Condition Such-Count Such-Expr Such-FieldList Such-PlainItem Such-Raise Such-Statement Such-Suffix Such-Test Such-TypeExp Such-Arm Such-Block Such-Brackets Such-Case Such-Control Such-Interval Such-Left Such-Operation) → Statement-law (roll-Statement (map-Statement Such-Condition Such-Count Such-Expr Such-FieldList Such-PlainItem Such-Raise Such-Statement Such-Suffix Such-Test Such-TypeExp Such-Arm Such-Block Such-Brackets Such-Case Such-Control Such-Interval Such-Left Such-Operation Condition Count Expr FieldList PlainItem Raise Statement Suffix Test TypeExp Arm Block Brackets Case Control Interval Left Operation (λ e. e.0) (λ e. e.0) (λ e. e.0) (λ e. e.0) (λ e. e.0) (λ e. e.0) (λ e. e.0) (λ e. e.0) (λ e. e.0) (λ e. e.0) (λ e. e.0) (λ e. e.0) (λ e. e.0) (λ e. e.0) (λ e. e.0) (λ e. e.0) (λ e. e.0) (λ e. e.0) y))
unfolding n.arms_nodes n.block_nodes n.brackets_nodes n.cases_nodes n.condition_nodes n.control_nodes n.count_nodes n.exits_nodes n.expr_nodes n.exprs_nodes n.field_list_nodes n.interval_nodes n.items_nodes n.keyed_exprs_nodes n.keyed_lefts_nodes n.left_nodes n.lefts_nodes n.locals_nodes n.maybe_brackets_nodes n.maybe_items_nodes n.maybe_statement_nodes n.named_fields_nodes n.operations_nodes n.phrase_nodes n.plain_item_nodes n.raise_nodes n.repeats_nodes n.statement_nodes n.statements_nodes n.suffixes_nodes n.targets_nodes n.tests_nodes n.type_nodes n.types_nodes
here_statement (Statement-F.Null r) = agree (ap n.statement_nodes (pf.statement_at (Statement-F.Null r) refl)) (f.statement_at (Statement-F.Null r) refl) (refl)
here_statement (Statement-F.ExitLoop r) = agree (ap n.statement_nodes (pf.statement_at (Statement-F.ExitLoop r) refl)) (f.statement_at (Statement-F.ExitLoop r) refl) (refl)
here_statement (Statement-F.NextTurn r) = agree (ap n.statement_nodes (pf.statement_at (Statement-F.NextTurn r) refl)) (f.statement_at (Statement-F.NextTurn r) refl) (refl)
here_statement (Statement-F.Reject r) = agree (ap n.statement_nodes (pf.statement_at (Statement-F.Reject r) refl)) (f.statement_at (Statement-F.Reject r) refl) (refl)
here_statement (Statement-F.Retry r) = agree (ap n.statement_nodes (pf.statement_at (Statement-F.Retry r) refl)) (f.statement_at (Statement-F.Retry r) refl) (refl)
here_statement (Statement-F.Continue r) = agree (ap n.statement_nodes (pf.statement_at (Statement-F.Continue r) refl)) (f.statement_at (Statement-F.Continue r) refl) (refl)
here_statement (Statement-F.Nested b) = agree (ap n.statement_nodes (pf.statement_at (Statement-F.Nested b.0) refl)) (f.statement_at (Statement-F.Nested b.0) refl) (omega (arith, b.1))
here_statement (Statement-F.Assign l e) = agree (ap n.statement_nodes (pf.statement_at (Statement-F.Assign l.0 e.0) refl)) (f.statement_at (Statement-F.Assign l.0 e.0) refl) (omega (arith, l.1, e.1))
here_statement (Statement-F.Extract r Nothing e) = agree (ap n.statement_nodes (pf.statement_at (Statement-F.Extract r Nothing e.0) refl)) (f.statement_at (Statement-F.Extract r Nothing e.0) refl) (omega (arith, e.1))
here_statement (Statement-F.Extract r (InOrder ls) e) = agree (ap n.statement_nodes (pf.statement_at (Statement-F.Extract r (InOrder (map (λ y. y.0) ls)) e.0) refl)) (f.statement_at (Statement-F.Extract r (InOrder (map (λ y. y.0) ls)) e.0) refl) (omega (arith, all_lefts ls, e.1))
here_statement (Statement-F.Extract r (ByKey ls) e) = agree (ap n.statement_nodes (pf.statement_at (Statement-F.Extract r (ByKey (map (λ (y : Keyed Such-Left). record { key = y.key; item = y.item.0 }) ls)) e.0) refl)) (f.statement_at (Statement-F.Extract r (ByKey (map (λ (y : Keyed Such-Left). record { key = y.key; item = y.item.0 }) ls)) e.0) refl) (omega (arith, all_keyed_lefts ls, e.1))
here_statement (Statement-F.Call l) = agree (ap n.statement_nodes (pf.statement_at (Statement-F.Call l.0) refl)) (f.statement_at (Statement-F.Call l.0) refl) (omega (arith, l.1))
here_statement (Statement-F.RaiseStatement x) = agree (ap n.statement_nodes (pf.statement_at (Statement-F.RaiseStatement x.0) refl)) (f.statement_at (Statement-F.RaiseStatement x.0) refl) (omega (arith, x.1))
here_statement (Statement-F.If r e x None) = agree (ap n.statement_nodes (pf.statement_at (Statement-F.If r e.0 x.0 None) refl)) (f.statement_at (Statement-F.If r e.0 x.0 None) refl) (omega (arith, e.1, x.1))
here_statement (Statement-F.If r e x (Some y)) = agree (ap n.statement_nodes (pf.statement_at (Statement-F.If r e.0 x.0 (Some y.0)) refl)) (f.statement_at (Statement-F.If r e.0 x.0 (Some y.0)) refl) (omega (arith, e.1, x.1, y.1))
here_statement (Statement-F.Select r e ks None) = agree (ap n.statement_nodes (pf.statement_at (Statement-F.Select r e.0 (map (λ y. y.0) ks) None) refl)) (f.statement_at (Statement-F.Select r e.0 (map (λ y. y.0) ks) None) refl) (omega (arith, e.1, all_cases ks))
here_statement (Statement-F.Select r e ks (Some y)) = agree (ap n.statement_nodes (pf.statement_at (Statement-F.Select r e.0 (map (λ y. y.0) ks) (Some y.0)) refl)) (f.statement_at (Statement-F.Select r e.0 (map (λ y. y.0) ks) (Some y.0)) refl) (omega (arith, e.1, all_cases ks, y.1))
here_statement (Statement-F.Loop c r None xs rs) = agree (ap n.statement_nodes (pf.statement_at (Statement-F.Loop c.0 r None (map (λ y. y.0) xs) (map (λ (y : Labeled RepeatLabels Such-Statement). record { labels = y.labels; item = y.item.0 }) rs)) refl)) (f.statement_at (Statement-F.Loop c.0 r None (map (λ y. y.0) xs) (map (λ (y : Labeled RepeatLabels Such-Statement). record { labels = y.labels; item = y.item.0 }) rs)) refl) (omega (arith, c.1, all_statements xs, all_repeats rs))
here_statement (Statement-F.Loop c r (Some en) xs rs) = agree (ap n.statement_nodes (pf.statement_at (Statement-F.Loop c.0 r (Some (record { place = en.place; item = (map (λ y. y.0) en.item) })) (map (λ y. y.0) xs) (map (λ (y : Labeled RepeatLabels Such-Statement). record { labels = y.labels; item = y.item.0 }) rs)) refl)) (f.statement_at (Statement-F.Loop c.0 r (Some (record { place = en.place; item = (map (λ y. y.0) en.item) })) (map (λ y. y.0) xs) (map (λ (y : Labeled RepeatLabels Such-Statement). record { labels = y.labels; item = y.item.0 }) rs)) refl) (omega (arith, c.1, all_arms en.item, all_statements xs, all_repeats rs))
here_statement (Statement-F.Goto r i) = agree (ap n.statement_nodes (pf.statement_at (Statement-F.Goto r i) refl)) (f.statement_at (Statement-F.Goto r i) refl) (refl)
here_statement (Statement-F.Return r None) = agree (ap n.statement_nodes (pf.statement_at (Statement-F.Return r None) refl)) (f.statement_at (Statement-F.Return r None) refl) (refl)
here_statement (Statement-F.Return r (Some x)) = here_return r x.place x.item
here_statement (Statement-F.Resume r None) = agree (ap n.statement_nodes (pf.statement_at (Statement-F.Resume r None) refl)) (f.statement_at (Statement-F.Resume r None) refl) (refl)
here_statement (Statement-F.Resume r (Some x)) = here_resume r x.place x.item

here_suffix : (y : Suffix-F Such-Condition Such-Count Such-Expr Such-FieldList Such-PlainItem Such-Raise Such-Statement Such-Suffix Such-Test Such-TypeExp Such-Arm Such-Block Such-Brackets Such-Case Such-Control Such-Interval Such-Left Such-Operation) → Suffix-law (roll-Suffix (map-Suffix Such-Condition Such-Count Such-Expr Such-FieldList Such-PlainItem Such-Raise Such-Statement Such-Suffix Such-Test Such-TypeExp Such-Arm Such-Block Such-Brackets Such-Case Such-Control Such-Interval Such-Left Such-Operation Condition Count Expr FieldList PlainItem Raise Statement Suffix Test TypeExp Arm Block Brackets Case Control Interval Left Operation (λ e. e.0) (λ e. e.0) (λ e. e.0) (λ e. e.0) (λ e. e.0) (λ e. e.0) (λ e. e.0) (λ e. e.0) (λ e. e.0) (λ e. e.0) (λ e. e.0) (λ e. e.0) (λ e. e.0) (λ e. e.0) (λ e. e.0) (λ e. e.0) (λ e. e.0) (λ e. e.0) y))
unfolding n.arms_nodes n.block_nodes n.brackets_nodes n.cases_nodes n.condition_nodes n.control_nodes n.count_nodes n.exits_nodes n.expr_nodes n.exprs_nodes n.field_list_nodes n.interval_nodes n.items_nodes n.keyed_exprs_nodes n.keyed_lefts_nodes n.left_nodes n.lefts_nodes n.locals_nodes n.maybe_brackets_nodes n.maybe_items_nodes n.maybe_statement_nodes n.named_fields_nodes n.operations_nodes n.phrase_nodes n.plain_item_nodes n.raise_nodes n.repeats_nodes n.statement_nodes n.statements_nodes n.suffixes_nodes n.targets_nodes n.tests_nodes n.type_nodes n.types_nodes
here_suffix (Suffix-F.Field i) rest = agree (ap (λ g. n.suffixes_nodes (g rest)) (pf.suffix_at (Suffix-F.Field i) refl)) (ap (λ k. k + n.suffixes_nodes rest) (f.suffix_at (Suffix-F.Field i) refl)) (omega arith)
here_suffix (Suffix-F.Applied b) rest = agree (ap (λ g. n.suffixes_nodes (g rest)) (pf.suffix_at (Suffix-F.Applied b.0) refl)) (ap (λ k. k + n.suffixes_nodes rest) (f.suffix_at (Suffix-F.Applied b.0) refl)) (omega (arith, b.1))

here_test : (y : Test-F Such-Condition Such-Count Such-Expr Such-FieldList Such-PlainItem Such-Raise Such-Statement Such-Suffix Such-Test Such-TypeExp Such-Arm Such-Block Such-Brackets Such-Case Such-Control Such-Interval Such-Left Such-Operation) → Test-law (roll-Test (map-Test Such-Condition Such-Count Such-Expr Such-FieldList Such-PlainItem Such-Raise Such-Statement Such-Suffix Such-Test Such-TypeExp Such-Arm Such-Block Such-Brackets Such-Case Such-Control Such-Interval Such-Left Such-Operation Condition Count Expr FieldList PlainItem Raise Statement Suffix Test TypeExp Arm Block Brackets Case Control Interval Left Operation (λ e. e.0) (λ e. e.0) (λ e. e.0) (λ e. e.0) (λ e. e.0) (λ e. e.0) (λ e. e.0) (λ e. e.0) (λ e. e.0) (λ e. e.0) (λ e. e.0) (λ e. e.0) (λ e. e.0) (λ e. e.0) (λ e. e.0) (λ e. e.0) (λ e. e.0) (λ e. e.0) y))
unfolding n.arms_nodes n.block_nodes n.brackets_nodes n.cases_nodes n.condition_nodes n.control_nodes n.count_nodes n.exits_nodes n.expr_nodes n.exprs_nodes n.field_list_nodes n.interval_nodes n.items_nodes n.keyed_exprs_nodes n.keyed_lefts_nodes n.left_nodes n.lefts_nodes n.locals_nodes n.maybe_brackets_nodes n.maybe_items_nodes n.maybe_statement_nodes n.named_fields_nodes n.operations_nodes n.phrase_nodes n.plain_item_nodes n.raise_nodes n.repeats_nodes n.statement_nodes n.statements_nodes n.suffixes_nodes n.targets_nodes n.tests_nodes n.type_nodes n.types_nodes
here_test (Test-F.Value e) rest = agree (ap (λ g. n.tests_nodes (g rest)) (pf.test_at (Test-F.Value e.0) refl)) (ap (λ k. k + n.tests_nodes rest) (f.test_at (Test-F.Value e.0) refl)) (omega (arith, e.1))
here_test (Test-F.Compared b r q e) rest = agree (ap (λ g. n.tests_nodes (g rest)) (pf.test_at (Test-F.Compared b r q e.0) refl)) (ap (λ k. k + n.tests_nodes rest) (f.test_at (Test-F.Compared b r q e.0) refl)) (omega (arith, e.1))
here_test (Test-F.Inside b q x) rest = agree (ap (λ g. n.tests_nodes (g rest)) (pf.test_at (Test-F.Inside b q x.0) refl)) (ap (λ k. k + n.tests_nodes rest) (f.test_at (Test-F.Inside b q x.0) refl)) (omega (arith, x.1))

here_typeexp : (y : TypeExp-F Such-Condition Such-Count Such-Expr Such-FieldList Such-PlainItem Such-Raise Such-Statement Such-Suffix Such-Test Such-TypeExp Such-Arm Such-Block Such-Brackets Such-Case Such-Control Such-Interval Such-Left Such-Operation) → TypeExp-law (roll-TypeExp (map-TypeExp Such-Condition Such-Count Such-Expr Such-FieldList Such-PlainItem Such-Raise Such-Statement Such-Suffix Such-Test Such-TypeExp Such-Arm Such-Block Such-Brackets Such-Case Such-Control Such-Interval Such-Left Such-Operation Condition Count Expr FieldList PlainItem Raise Statement Suffix Test TypeExp Arm Block Brackets Case Control Interval Left Operation (λ e. e.0) (λ e. e.0) (λ e. e.0) (λ e. e.0) (λ e. e.0) (λ e. e.0) (λ e. e.0) (λ e. e.0) (λ e. e.0) (λ e. e.0) (λ e. e.0) (λ e. e.0) (λ e. e.0) (λ e. e.0) (λ e. e.0) (λ e. e.0) (λ e. e.0) (λ e. e.0) y))
unfolding n.arms_nodes n.block_nodes n.brackets_nodes n.cases_nodes n.condition_nodes n.control_nodes n.count_nodes n.exits_nodes n.expr_nodes n.exprs_nodes n.field_list_nodes n.interval_nodes n.items_nodes n.keyed_exprs_nodes n.keyed_lefts_nodes n.left_nodes n.lefts_nodes n.locals_nodes n.maybe_brackets_nodes n.maybe_items_nodes n.maybe_statement_nodes n.named_fields_nodes n.operations_nodes n.phrase_nodes n.plain_item_nodes n.raise_nodes n.repeats_nodes n.statement_nodes n.statements_nodes n.suffixes_nodes n.targets_nodes n.tests_nodes n.type_nodes n.types_nodes
here_typeexp (TypeExp-F.Integer q) = agree (ap n.type_nodes (pf.type_exp_at (TypeExp-F.Integer q) refl)) (f.type_at (TypeExp-F.Integer q) refl) (refl)
here_typeexp (TypeExp-F.Cardinal q) = agree (ap n.type_nodes (pf.type_exp_at (TypeExp-F.Cardinal q) refl)) (f.type_at (TypeExp-F.Cardinal q) refl) (refl)
here_typeexp (TypeExp-F.LongInteger q) = agree (ap n.type_nodes (pf.type_exp_at (TypeExp-F.LongInteger q) refl)) (f.type_at (TypeExp-F.LongInteger q) refl) (refl)
here_typeexp (TypeExp-F.LongCardinal q) = agree (ap n.type_nodes (pf.type_exp_at (TypeExp-F.LongCardinal q) refl)) (f.type_at (TypeExp-F.LongCardinal q) refl) (refl)
here_typeexp (TypeExp-F.Boolean q) = agree (ap n.type_nodes (pf.type_exp_at (TypeExp-F.Boolean q) refl)) (f.type_at (TypeExp-F.Boolean q) refl) (refl)
here_typeexp (TypeExp-F.Character q) = agree (ap n.type_nodes (pf.type_exp_at (TypeExp-F.Character q) refl)) (f.type_at (TypeExp-F.Character q) refl) (refl)
here_typeexp (TypeExp-F.String q) = agree (ap n.type_nodes (pf.type_exp_at (TypeExp-F.String q) refl)) (f.type_at (TypeExp-F.String q) refl) (refl)
here_typeexp (TypeExp-F.Called q) = agree (ap n.type_nodes (pf.type_exp_at (TypeExp-F.Called q) refl)) (f.type_at (TypeExp-F.Called q) refl) (refl)
here_typeexp (TypeExp-F.Enumeration q ns) = agree (ap n.type_nodes (pf.type_exp_at (TypeExp-F.Enumeration q ns) refl)) (f.type_at (TypeExp-F.Enumeration q ns) refl) (refl)
here_typeexp (TypeExp-F.Subrange b x) = agree (ap n.type_nodes (pf.type_exp_at (TypeExp-F.Subrange b x.0) refl)) (f.type_at (TypeExp-F.Subrange b x.0) refl) (omega (arith, x.1))
here_typeexp (TypeExp-F.Array q x y) = agree (ap n.type_nodes (pf.type_exp_at (TypeExp-F.Array q x.0 y.0) refl)) (f.type_at (TypeExp-F.Array q x.0 y.0) refl) (omega (arith, x.1, y.1))
here_typeexp (TypeExp-F.Record q x) = agree (ap n.type_nodes (pf.type_exp_at (TypeExp-F.Record q x.0) refl)) (f.type_at (TypeExp-F.Record q x.0) refl) (omega (arith, x.1))

arm_of : (l : _) (x : Such-Statement) → Arm-law (roll-Arm (map-Arm Such-Condition Such-Count Such-Expr Such-FieldList Such-PlainItem Such-Raise Such-Statement Such-Suffix Such-Test Such-TypeExp Such-Arm Such-Block Such-Brackets Such-Case Such-Control Such-Interval Such-Left Such-Operation Condition Count Expr FieldList PlainItem Raise Statement Suffix Test TypeExp Arm Block Brackets Case Control Interval Left Operation (λ e. e.0) (λ e. e.0) (λ e. e.0) (λ e. e.0) (λ e. e.0) (λ e. e.0) (λ e. e.0) (λ e. e.0) (λ e. e.0) (λ e. e.0) (λ e. e.0) (λ e. e.0) (λ e. e.0) (λ e. e.0) (λ e. e.0) (λ e. e.0) (λ e. e.0) (λ e. e.0) (record { labels = l; body = x })))
unfolding n.arms_nodes n.block_nodes n.brackets_nodes n.cases_nodes n.condition_nodes n.control_nodes n.count_nodes n.exits_nodes n.expr_nodes n.exprs_nodes n.field_list_nodes n.interval_nodes n.items_nodes n.keyed_exprs_nodes n.keyed_lefts_nodes n.left_nodes n.lefts_nodes n.locals_nodes n.maybe_brackets_nodes n.maybe_items_nodes n.maybe_statement_nodes n.named_fields_nodes n.operations_nodes n.phrase_nodes n.plain_item_nodes n.raise_nodes n.repeats_nodes n.statement_nodes n.statements_nodes n.suffixes_nodes n.targets_nodes n.tests_nodes n.type_nodes n.types_nodes
arm_of l x rest = agree (ap (λ g. n.arms_nodes (g rest)) (pf.arm_at (record { labels = l; body = x.0 }) refl)) (ap (λ k. k + n.arms_nodes rest) (f.arm_at (record { labels = l; body = x.0 }) refl)) (omega (arith, x.1))

here_arm : (y : Arm-F Such-Condition Such-Count Such-Expr Such-FieldList Such-PlainItem Such-Raise Such-Statement Such-Suffix Such-Test Such-TypeExp Such-Arm Such-Block Such-Brackets Such-Case Such-Control Such-Interval Such-Left Such-Operation) → Arm-law (roll-Arm (map-Arm Such-Condition Such-Count Such-Expr Such-FieldList Such-PlainItem Such-Raise Such-Statement Such-Suffix Such-Test Such-TypeExp Such-Arm Such-Block Such-Brackets Such-Case Such-Control Such-Interval Such-Left Such-Operation Condition Count Expr FieldList PlainItem Raise Statement Suffix Test TypeExp Arm Block Brackets Case Control Interval Left Operation (λ e. e.0) (λ e. e.0) (λ e. e.0) (λ e. e.0) (λ e. e.0) (λ e. e.0) (λ e. e.0) (λ e. e.0) (λ e. e.0) (λ e. e.0) (λ e. e.0) (λ e. e.0) (λ e. e.0) (λ e. e.0) (λ e. e.0) (λ e. e.0) (λ e. e.0) (λ e. e.0) y))
here_arm y = arm_of y.labels y.body

block_of : (q : _) (en : Option (Placed (List Such-Arm))) (ls : List (Labeled (List Identifier) Such-PlainItem)) (ss : List Such-Statement) (xs : List (Labeled (List Identifier) Such-Statement)) → Block-law (roll-Block (map-Block Such-Condition Such-Count Such-Expr Such-FieldList Such-PlainItem Such-Raise Such-Statement Such-Suffix Such-Test Such-TypeExp Such-Arm Such-Block Such-Brackets Such-Case Such-Control Such-Interval Such-Left Such-Operation Condition Count Expr FieldList PlainItem Raise Statement Suffix Test TypeExp Arm Block Brackets Case Control Interval Left Operation (λ e. e.0) (λ e. e.0) (λ e. e.0) (λ e. e.0) (λ e. e.0) (λ e. e.0) (λ e. e.0) (λ e. e.0) (λ e. e.0) (λ e. e.0) (λ e. e.0) (λ e. e.0) (λ e. e.0) (λ e. e.0) (λ e. e.0) (λ e. e.0) (λ e. e.0) (λ e. e.0) (record { place = q; enable = en; locals = ls; statements = ss; exits = xs })))
unfolding n.arms_nodes n.block_nodes n.brackets_nodes n.cases_nodes n.condition_nodes n.control_nodes n.count_nodes n.exits_nodes n.expr_nodes n.exprs_nodes n.field_list_nodes n.interval_nodes n.items_nodes n.keyed_exprs_nodes n.keyed_lefts_nodes n.left_nodes n.lefts_nodes n.locals_nodes n.maybe_brackets_nodes n.maybe_items_nodes n.maybe_statement_nodes n.named_fields_nodes n.operations_nodes n.phrase_nodes n.plain_item_nodes n.raise_nodes n.repeats_nodes n.statement_nodes n.statements_nodes n.suffixes_nodes n.targets_nodes n.tests_nodes n.type_nodes n.types_nodes
block_of q None ls ss xs = agree (ap n.block_nodes (pf.block_at (record { place = q; enable = None; locals = (map (λ (y : Labeled (List Identifier) Such-PlainItem). record { labels = y.labels; item = y.item.0 }) ls); statements = (map (λ y. y.0) ss); exits = (map (λ (y : Labeled (List Identifier) Such-Statement). record { labels = y.labels; item = y.item.0 }) xs) }) refl)) (f.block_at (record { place = q; enable = None; locals = (map (λ (y : Labeled (List Identifier) Such-PlainItem). record { labels = y.labels; item = y.item.0 }) ls); statements = (map (λ y. y.0) ss); exits = (map (λ (y : Labeled (List Identifier) Such-Statement). record { labels = y.labels; item = y.item.0 }) xs) }) refl) (omega (arith, all_locals ls, all_statements ss, all_exits xs))
block_of q (Some en) ls ss xs = agree (ap n.block_nodes (pf.block_at (record { place = q; enable = (Some (record { place = en.place; item = (map (λ y. y.0) en.item) })); locals = (map (λ (y : Labeled (List Identifier) Such-PlainItem). record { labels = y.labels; item = y.item.0 }) ls); statements = (map (λ y. y.0) ss); exits = (map (λ (y : Labeled (List Identifier) Such-Statement). record { labels = y.labels; item = y.item.0 }) xs) }) refl)) (f.block_at (record { place = q; enable = (Some (record { place = en.place; item = (map (λ y. y.0) en.item) })); locals = (map (λ (y : Labeled (List Identifier) Such-PlainItem). record { labels = y.labels; item = y.item.0 }) ls); statements = (map (λ y. y.0) ss); exits = (map (λ (y : Labeled (List Identifier) Such-Statement). record { labels = y.labels; item = y.item.0 }) xs) }) refl) (omega (arith, all_arms en.item, all_locals ls, all_statements ss, all_exits xs))

here_block : (y : Block-F Such-Condition Such-Count Such-Expr Such-FieldList Such-PlainItem Such-Raise Such-Statement Such-Suffix Such-Test Such-TypeExp Such-Arm Such-Block Such-Brackets Such-Case Such-Control Such-Interval Such-Left Such-Operation) → Block-law (roll-Block (map-Block Such-Condition Such-Count Such-Expr Such-FieldList Such-PlainItem Such-Raise Such-Statement Such-Suffix Such-Test Such-TypeExp Such-Arm Such-Block Such-Brackets Such-Case Such-Control Such-Interval Such-Left Such-Operation Condition Count Expr FieldList PlainItem Raise Statement Suffix Test TypeExp Arm Block Brackets Case Control Interval Left Operation (λ e. e.0) (λ e. e.0) (λ e. e.0) (λ e. e.0) (λ e. e.0) (λ e. e.0) (λ e. e.0) (λ e. e.0) (λ e. e.0) (λ e. e.0) (λ e. e.0) (λ e. e.0) (λ e. e.0) (λ e. e.0) (λ e. e.0) (λ e. e.0) (λ e. e.0) (λ e. e.0) y))
here_block y = block_of y.place y.enable y.locals y.statements y.exits

brackets_of : (q : _) (x : Entries Such-Expr) (c : Option (Placed (List Such-Arm))) → Brackets-law (roll-Brackets (map-Brackets Such-Condition Such-Count Such-Expr Such-FieldList Such-PlainItem Such-Raise Such-Statement Such-Suffix Such-Test Such-TypeExp Such-Arm Such-Block Such-Brackets Such-Case Such-Control Such-Interval Such-Left Such-Operation Condition Count Expr FieldList PlainItem Raise Statement Suffix Test TypeExp Arm Block Brackets Case Control Interval Left Operation (λ e. e.0) (λ e. e.0) (λ e. e.0) (λ e. e.0) (λ e. e.0) (λ e. e.0) (λ e. e.0) (λ e. e.0) (λ e. e.0) (λ e. e.0) (λ e. e.0) (λ e. e.0) (λ e. e.0) (λ e. e.0) (λ e. e.0) (λ e. e.0) (λ e. e.0) (λ e. e.0) (record { place = q; items = x; catch = c })))
unfolding n.arms_nodes n.block_nodes n.brackets_nodes n.cases_nodes n.condition_nodes n.control_nodes n.count_nodes n.exits_nodes n.expr_nodes n.exprs_nodes n.field_list_nodes n.interval_nodes n.items_nodes n.keyed_exprs_nodes n.keyed_lefts_nodes n.left_nodes n.lefts_nodes n.locals_nodes n.maybe_brackets_nodes n.maybe_items_nodes n.maybe_statement_nodes n.named_fields_nodes n.operations_nodes n.phrase_nodes n.plain_item_nodes n.raise_nodes n.repeats_nodes n.statement_nodes n.statements_nodes n.suffixes_nodes n.targets_nodes n.tests_nodes n.type_nodes n.types_nodes
brackets_of q Nothing None = agree (ap n.brackets_nodes (pf.brackets_at (record { place = q; items = Nothing; catch = None }) refl)) (f.brackets_at (record { place = q; items = Nothing; catch = None }) refl) (refl)
brackets_of q Nothing (Some c) = agree (ap n.brackets_nodes (pf.brackets_at (record { place = q; items = Nothing; catch = (Some (record { place = c.place; item = (map (λ y. y.0) c.item) })) }) refl)) (f.brackets_at (record { place = q; items = Nothing; catch = (Some (record { place = c.place; item = (map (λ y. y.0) c.item) })) }) refl) (omega (arith, all_arms c.item))
brackets_of q (InOrder es) None = agree (ap n.brackets_nodes (pf.brackets_at (record { place = q; items = (InOrder (map (λ y. y.0) es)); catch = None }) refl)) (f.brackets_at (record { place = q; items = (InOrder (map (λ y. y.0) es)); catch = None }) refl) (omega (arith, all_exprs es))
brackets_of q (InOrder es) (Some c) = agree (ap n.brackets_nodes (pf.brackets_at (record { place = q; items = (InOrder (map (λ y. y.0) es)); catch = (Some (record { place = c.place; item = (map (λ y. y.0) c.item) })) }) refl)) (f.brackets_at (record { place = q; items = (InOrder (map (λ y. y.0) es)); catch = (Some (record { place = c.place; item = (map (λ y. y.0) c.item) })) }) refl) (omega (arith, all_exprs es, all_arms c.item))
brackets_of q (ByKey es) None = agree (ap n.brackets_nodes (pf.brackets_at (record { place = q; items = (ByKey (map (λ (y : Keyed Such-Expr). record { key = y.key; item = y.item.0 }) es)); catch = None }) refl)) (f.brackets_at (record { place = q; items = (ByKey (map (λ (y : Keyed Such-Expr). record { key = y.key; item = y.item.0 }) es)); catch = None }) refl) (omega (arith, all_keyed_exprs es))
brackets_of q (ByKey es) (Some c) = agree (ap n.brackets_nodes (pf.brackets_at (record { place = q; items = (ByKey (map (λ (y : Keyed Such-Expr). record { key = y.key; item = y.item.0 }) es)); catch = (Some (record { place = c.place; item = (map (λ y. y.0) c.item) })) }) refl)) (f.brackets_at (record { place = q; items = (ByKey (map (λ (y : Keyed Such-Expr). record { key = y.key; item = y.item.0 }) es)); catch = (Some (record { place = c.place; item = (map (λ y. y.0) c.item) })) }) refl) (omega (arith, all_keyed_exprs es, all_arms c.item))

here_brackets : (y : Brackets-F Such-Condition Such-Count Such-Expr Such-FieldList Such-PlainItem Such-Raise Such-Statement Such-Suffix Such-Test Such-TypeExp Such-Arm Such-Block Such-Brackets Such-Case Such-Control Such-Interval Such-Left Such-Operation) → Brackets-law (roll-Brackets (map-Brackets Such-Condition Such-Count Such-Expr Such-FieldList Such-PlainItem Such-Raise Such-Statement Such-Suffix Such-Test Such-TypeExp Such-Arm Such-Block Such-Brackets Such-Case Such-Control Such-Interval Such-Left Such-Operation Condition Count Expr FieldList PlainItem Raise Statement Suffix Test TypeExp Arm Block Brackets Case Control Interval Left Operation (λ e. e.0) (λ e. e.0) (λ e. e.0) (λ e. e.0) (λ e. e.0) (λ e. e.0) (λ e. e.0) (λ e. e.0) (λ e. e.0) (λ e. e.0) (λ e. e.0) (λ e. e.0) (λ e. e.0) (λ e. e.0) (λ e. e.0) (λ e. e.0) (λ e. e.0) (λ e. e.0) y))
here_brackets y = brackets_of y.place y.items y.catch

case_of : (ts : List Such-Test) (x : Such-Statement) → Case-law (roll-Case (map-Case Such-Condition Such-Count Such-Expr Such-FieldList Such-PlainItem Such-Raise Such-Statement Such-Suffix Such-Test Such-TypeExp Such-Arm Such-Block Such-Brackets Such-Case Such-Control Such-Interval Such-Left Such-Operation Condition Count Expr FieldList PlainItem Raise Statement Suffix Test TypeExp Arm Block Brackets Case Control Interval Left Operation (λ e. e.0) (λ e. e.0) (λ e. e.0) (λ e. e.0) (λ e. e.0) (λ e. e.0) (λ e. e.0) (λ e. e.0) (λ e. e.0) (λ e. e.0) (λ e. e.0) (λ e. e.0) (λ e. e.0) (λ e. e.0) (λ e. e.0) (λ e. e.0) (λ e. e.0) (λ e. e.0) (record { tests = ts; body = x })))
unfolding n.arms_nodes n.block_nodes n.brackets_nodes n.cases_nodes n.condition_nodes n.control_nodes n.count_nodes n.exits_nodes n.expr_nodes n.exprs_nodes n.field_list_nodes n.interval_nodes n.items_nodes n.keyed_exprs_nodes n.keyed_lefts_nodes n.left_nodes n.lefts_nodes n.locals_nodes n.maybe_brackets_nodes n.maybe_items_nodes n.maybe_statement_nodes n.named_fields_nodes n.operations_nodes n.phrase_nodes n.plain_item_nodes n.raise_nodes n.repeats_nodes n.statement_nodes n.statements_nodes n.suffixes_nodes n.targets_nodes n.tests_nodes n.type_nodes n.types_nodes
case_of ts x rest = agree (ap (λ g. n.cases_nodes (g rest)) (pf.case_at (record { tests = (map (λ y. y.0) ts); body = x.0 }) refl)) (ap (λ k. k + n.cases_nodes rest) (f.case_at (record { tests = (map (λ y. y.0) ts); body = x.0 }) refl)) (omega (arith, all_tests ts, x.1))

here_case : (y : Case-F Such-Condition Such-Count Such-Expr Such-FieldList Such-PlainItem Such-Raise Such-Statement Such-Suffix Such-Test Such-TypeExp Such-Arm Such-Block Such-Brackets Such-Case Such-Control Such-Interval Such-Left Such-Operation) → Case-law (roll-Case (map-Case Such-Condition Such-Count Such-Expr Such-FieldList Such-PlainItem Such-Raise Such-Statement Such-Suffix Such-Test Such-TypeExp Such-Arm Such-Block Such-Brackets Such-Case Such-Control Such-Interval Such-Left Such-Operation Condition Count Expr FieldList PlainItem Raise Statement Suffix Test TypeExp Arm Block Brackets Case Control Interval Left Operation (λ e. e.0) (λ e. e.0) (λ e. e.0) (λ e. e.0) (λ e. e.0) (λ e. e.0) (λ e. e.0) (λ e. e.0) (λ e. e.0) (λ e. e.0) (λ e. e.0) (λ e. e.0) (λ e. e.0) (λ e. e.0) (λ e. e.0) (λ e. e.0) (λ e. e.0) (λ e. e.0) y))
here_case y = case_of y.tests y.body

control_of : (a : Option Such-Count) (b : Option Such-Condition) → Control-law (roll-Control (map-Control Such-Condition Such-Count Such-Expr Such-FieldList Such-PlainItem Such-Raise Such-Statement Such-Suffix Such-Test Such-TypeExp Such-Arm Such-Block Such-Brackets Such-Case Such-Control Such-Interval Such-Left Such-Operation Condition Count Expr FieldList PlainItem Raise Statement Suffix Test TypeExp Arm Block Brackets Case Control Interval Left Operation (λ e. e.0) (λ e. e.0) (λ e. e.0) (λ e. e.0) (λ e. e.0) (λ e. e.0) (λ e. e.0) (λ e. e.0) (λ e. e.0) (λ e. e.0) (λ e. e.0) (λ e. e.0) (λ e. e.0) (λ e. e.0) (λ e. e.0) (λ e. e.0) (λ e. e.0) (λ e. e.0) (record { count = a; condition = b })))
unfolding n.arms_nodes n.block_nodes n.brackets_nodes n.cases_nodes n.condition_nodes n.control_nodes n.count_nodes n.exits_nodes n.expr_nodes n.exprs_nodes n.field_list_nodes n.interval_nodes n.items_nodes n.keyed_exprs_nodes n.keyed_lefts_nodes n.left_nodes n.lefts_nodes n.locals_nodes n.maybe_brackets_nodes n.maybe_items_nodes n.maybe_statement_nodes n.named_fields_nodes n.operations_nodes n.phrase_nodes n.plain_item_nodes n.raise_nodes n.repeats_nodes n.statement_nodes n.statements_nodes n.suffixes_nodes n.targets_nodes n.tests_nodes n.type_nodes n.types_nodes
control_of None None = agree (ap n.control_nodes (pf.control_at (record { count = None; condition = None }) refl)) (f.control_at (record { count = None; condition = None }) refl) (refl)
control_of None (Some b) = agree (ap n.control_nodes (pf.control_at (record { count = None; condition = (Some b.0) }) refl)) (f.control_at (record { count = None; condition = (Some b.0) }) refl) (omega (arith, b.1))
control_of (Some a) None = agree (ap n.control_nodes (pf.control_at (record { count = (Some a.0); condition = None }) refl)) (f.control_at (record { count = (Some a.0); condition = None }) refl) (omega (arith, a.1))
control_of (Some a) (Some b) = agree (ap n.control_nodes (pf.control_at (record { count = (Some a.0); condition = (Some b.0) }) refl)) (f.control_at (record { count = (Some a.0); condition = (Some b.0) }) refl) (omega (arith, a.1, b.1))

here_control : (y : Control-F Such-Condition Such-Count Such-Expr Such-FieldList Such-PlainItem Such-Raise Such-Statement Such-Suffix Such-Test Such-TypeExp Such-Arm Such-Block Such-Brackets Such-Case Such-Control Such-Interval Such-Left Such-Operation) → Control-law (roll-Control (map-Control Such-Condition Such-Count Such-Expr Such-FieldList Such-PlainItem Such-Raise Such-Statement Such-Suffix Such-Test Such-TypeExp Such-Arm Such-Block Such-Brackets Such-Case Such-Control Such-Interval Such-Left Such-Operation Condition Count Expr FieldList PlainItem Raise Statement Suffix Test TypeExp Arm Block Brackets Case Control Interval Left Operation (λ e. e.0) (λ e. e.0) (λ e. e.0) (λ e. e.0) (λ e. e.0) (λ e. e.0) (λ e. e.0) (λ e. e.0) (λ e. e.0) (λ e. e.0) (λ e. e.0) (λ e. e.0) (λ e. e.0) (λ e. e.0) (λ e. e.0) (λ e. e.0) (λ e. e.0) (λ e. e.0) y))
here_control y = control_of y.count y.condition

interval_of : (q : _) (a : Bool) (d : Such-Expr) (e : Such-Expr) (b : Bool) → Interval-law (roll-Interval (map-Interval Such-Condition Such-Count Such-Expr Such-FieldList Such-PlainItem Such-Raise Such-Statement Such-Suffix Such-Test Such-TypeExp Such-Arm Such-Block Such-Brackets Such-Case Such-Control Such-Interval Such-Left Such-Operation Condition Count Expr FieldList PlainItem Raise Statement Suffix Test TypeExp Arm Block Brackets Case Control Interval Left Operation (λ e. e.0) (λ e. e.0) (λ e. e.0) (λ e. e.0) (λ e. e.0) (λ e. e.0) (λ e. e.0) (λ e. e.0) (λ e. e.0) (λ e. e.0) (λ e. e.0) (λ e. e.0) (λ e. e.0) (λ e. e.0) (λ e. e.0) (λ e. e.0) (λ e. e.0) (λ e. e.0) (record { place = q; is_open_below = a; low = d; high = e; is_open_above = b })))
unfolding n.arms_nodes n.block_nodes n.brackets_nodes n.cases_nodes n.condition_nodes n.control_nodes n.count_nodes n.exits_nodes n.expr_nodes n.exprs_nodes n.field_list_nodes n.interval_nodes n.items_nodes n.keyed_exprs_nodes n.keyed_lefts_nodes n.left_nodes n.lefts_nodes n.locals_nodes n.maybe_brackets_nodes n.maybe_items_nodes n.maybe_statement_nodes n.named_fields_nodes n.operations_nodes n.phrase_nodes n.plain_item_nodes n.raise_nodes n.repeats_nodes n.statement_nodes n.statements_nodes n.suffixes_nodes n.targets_nodes n.tests_nodes n.type_nodes n.types_nodes
interval_of q a d e b = agree (ap n.interval_nodes (pf.interval_at (record { place = q; is_open_below = a; low = d.0; high = e.0; is_open_above = b }) refl)) (f.interval_at (record { place = q; is_open_below = a; low = d.0; high = e.0; is_open_above = b }) refl) (omega (arith, d.1, e.1))

here_interval : (y : Interval-F Such-Condition Such-Count Such-Expr Such-FieldList Such-PlainItem Such-Raise Such-Statement Such-Suffix Such-Test Such-TypeExp Such-Arm Such-Block Such-Brackets Such-Case Such-Control Such-Interval Such-Left Such-Operation) → Interval-law (roll-Interval (map-Interval Such-Condition Such-Count Such-Expr Such-FieldList Such-PlainItem Such-Raise Such-Statement Such-Suffix Such-Test Such-TypeExp Such-Arm Such-Block Such-Brackets Such-Case Such-Control Such-Interval Such-Left Such-Operation Condition Count Expr FieldList PlainItem Raise Statement Suffix Test TypeExp Arm Block Brackets Case Control Interval Left Operation (λ e. e.0) (λ e. e.0) (λ e. e.0) (λ e. e.0) (λ e. e.0) (λ e. e.0) (λ e. e.0) (λ e. e.0) (λ e. e.0) (λ e. e.0) (λ e. e.0) (λ e. e.0) (λ e. e.0) (λ e. e.0) (λ e. e.0) (λ e. e.0) (λ e. e.0) (λ e. e.0) y))
here_interval y = interval_of y.place y.is_open_below y.low y.high y.is_open_above

left_of : (i : _) (ss : List Such-Suffix) → Left-law (roll-Left (map-Left Such-Condition Such-Count Such-Expr Such-FieldList Such-PlainItem Such-Raise Such-Statement Such-Suffix Such-Test Such-TypeExp Such-Arm Such-Block Such-Brackets Such-Case Such-Control Such-Interval Such-Left Such-Operation Condition Count Expr FieldList PlainItem Raise Statement Suffix Test TypeExp Arm Block Brackets Case Control Interval Left Operation (λ e. e.0) (λ e. e.0) (λ e. e.0) (λ e. e.0) (λ e. e.0) (λ e. e.0) (λ e. e.0) (λ e. e.0) (λ e. e.0) (λ e. e.0) (λ e. e.0) (λ e. e.0) (λ e. e.0) (λ e. e.0) (λ e. e.0) (λ e. e.0) (λ e. e.0) (λ e. e.0) (record { name = i; suffixes = ss })))
unfolding n.arms_nodes n.block_nodes n.brackets_nodes n.cases_nodes n.condition_nodes n.control_nodes n.count_nodes n.exits_nodes n.expr_nodes n.exprs_nodes n.field_list_nodes n.interval_nodes n.items_nodes n.keyed_exprs_nodes n.keyed_lefts_nodes n.left_nodes n.lefts_nodes n.locals_nodes n.maybe_brackets_nodes n.maybe_items_nodes n.maybe_statement_nodes n.named_fields_nodes n.operations_nodes n.phrase_nodes n.plain_item_nodes n.raise_nodes n.repeats_nodes n.statement_nodes n.statements_nodes n.suffixes_nodes n.targets_nodes n.tests_nodes n.type_nodes n.types_nodes
left_of i ss = agree (ap n.left_nodes (pf.left_at (record { name = i; suffixes = (map (λ y. y.0) ss) }) refl)) (f.left_at (record { name = i; suffixes = (map (λ y. y.0) ss) }) refl) (omega (arith, all_suffixes ss))

here_left : (y : Left-F Such-Condition Such-Count Such-Expr Such-FieldList Such-PlainItem Such-Raise Such-Statement Such-Suffix Such-Test Such-TypeExp Such-Arm Such-Block Such-Brackets Such-Case Such-Control Such-Interval Such-Left Such-Operation) → Left-law (roll-Left (map-Left Such-Condition Such-Count Such-Expr Such-FieldList Such-PlainItem Such-Raise Such-Statement Such-Suffix Such-Test Such-TypeExp Such-Arm Such-Block Such-Brackets Such-Case Such-Control Such-Interval Such-Left Such-Operation Condition Count Expr FieldList PlainItem Raise Statement Suffix Test TypeExp Arm Block Brackets Case Control Interval Left Operation (λ e. e.0) (λ e. e.0) (λ e. e.0) (λ e. e.0) (λ e. e.0) (λ e. e.0) (λ e. e.0) (λ e. e.0) (λ e. e.0) (λ e. e.0) (λ e. e.0) (λ e. e.0) (λ e. e.0) (λ e. e.0) (λ e. e.0) (λ e. e.0) (λ e. e.0) (λ e. e.0) y))
here_left y = left_of y.name y.suffixes

operation_of : (g : _) (q : _) (e : Such-Expr) → Operation-law (roll-Operation (map-Operation Such-Condition Such-Count Such-Expr Such-FieldList Such-PlainItem Such-Raise Such-Statement Such-Suffix Such-Test Such-TypeExp Such-Arm Such-Block Such-Brackets Such-Case Such-Control Such-Interval Such-Left Such-Operation Condition Count Expr FieldList PlainItem Raise Statement Suffix Test TypeExp Arm Block Brackets Case Control Interval Left Operation (λ e. e.0) (λ e. e.0) (λ e. e.0) (λ e. e.0) (λ e. e.0) (λ e. e.0) (λ e. e.0) (λ e. e.0) (λ e. e.0) (λ e. e.0) (λ e. e.0) (λ e. e.0) (λ e. e.0) (λ e. e.0) (λ e. e.0) (λ e. e.0) (λ e. e.0) (λ e. e.0) (record { operator = g; place = q; right = e })))
unfolding n.arms_nodes n.block_nodes n.brackets_nodes n.cases_nodes n.condition_nodes n.control_nodes n.count_nodes n.exits_nodes n.expr_nodes n.exprs_nodes n.field_list_nodes n.interval_nodes n.items_nodes n.keyed_exprs_nodes n.keyed_lefts_nodes n.left_nodes n.lefts_nodes n.locals_nodes n.maybe_brackets_nodes n.maybe_items_nodes n.maybe_statement_nodes n.named_fields_nodes n.operations_nodes n.phrase_nodes n.plain_item_nodes n.raise_nodes n.repeats_nodes n.statement_nodes n.statements_nodes n.suffixes_nodes n.targets_nodes n.tests_nodes n.type_nodes n.types_nodes
operation_of g q e rest = agree (ap (λ g. n.operations_nodes (g rest)) (pf.operation_at (record { operator = g; place = q; right = e.0 }) refl)) (ap (λ k. k + n.operations_nodes rest) (f.step_at (record { operator = g; place = q; right = e.0 }) refl)) (omega (arith, e.1))

here_operation : (y : Operation-F Such-Condition Such-Count Such-Expr Such-FieldList Such-PlainItem Such-Raise Such-Statement Such-Suffix Such-Test Such-TypeExp Such-Arm Such-Block Such-Brackets Such-Case Such-Control Such-Interval Such-Left Such-Operation) → Operation-law (roll-Operation (map-Operation Such-Condition Such-Count Such-Expr Such-FieldList Such-PlainItem Such-Raise Such-Statement Such-Suffix Such-Test Such-TypeExp Such-Arm Such-Block Such-Brackets Such-Case Such-Control Such-Interval Such-Left Such-Operation Condition Count Expr FieldList PlainItem Raise Statement Suffix Test TypeExp Arm Block Brackets Case Control Interval Left Operation (λ e. e.0) (λ e. e.0) (λ e. e.0) (λ e. e.0) (λ e. e.0) (λ e. e.0) (λ e. e.0) (λ e. e.0) (λ e. e.0) (λ e. e.0) (λ e. e.0) (λ e. e.0) (λ e. e.0) (λ e. e.0) (λ e. e.0) (λ e. e.0) (λ e. e.0) (λ e. e.0) y))
here_operation y = operation_of y.operator y.place y.right

statement_agrees : (x : Statement) → Statement-law x
statement_agrees x =
    ind-Statement Condition-law Count-law Expr-law FieldList-law PlainItem-law Raise-law Statement-law Suffix-law Test-law TypeExp-law Arm-law Block-law Brackets-law Case-law Control-law Interval-law Left-law Operation-law
    (λ x y is. subst (λ z. Condition-law (roll-Condition z)) is (here_condition y))
    (λ x y is. subst (λ z. Count-law (roll-Count z)) is (here_count y))
    (λ x y is. subst (λ z. Expr-law (roll-Expr z)) is (here_expr y))
    (λ x y is. subst (λ z. FieldList-law (roll-FieldList z)) is (here_fieldlist y))
    (λ x y is. subst (λ z. PlainItem-law (roll-PlainItem z)) is (here_plainitem y))
    (λ x y is. subst (λ z. Raise-law (roll-Raise z)) is (here_raise y))
    (λ x y is. subst (λ z. Statement-law (roll-Statement z)) is (here_statement y))
    (λ x y is. subst (λ z. Suffix-law (roll-Suffix z)) is (here_suffix y))
    (λ x y is. subst (λ z. Test-law (roll-Test z)) is (here_test y))
    (λ x y is. subst (λ z. TypeExp-law (roll-TypeExp z)) is (here_typeexp y))
    (λ x y is. subst (λ z. Arm-law (roll-Arm z)) is (here_arm y))
    (λ x y is. subst (λ z. Block-law (roll-Block z)) is (here_block y))
    (λ x y is. subst (λ z. Brackets-law (roll-Brackets z)) is (here_brackets y))
    (λ x y is. subst (λ z. Case-law (roll-Case z)) is (here_case y))
    (λ x y is. subst (λ z. Control-law (roll-Control z)) is (here_control y))
    (λ x y is. subst (λ z. Interval-law (roll-Interval z)) is (here_interval y))
    (λ x y is. subst (λ z. Left-law (roll-Left z)) is (here_left y))
    (λ x y is. subst (λ z. Operation-law (roll-Operation z)) is (here_operation y)) x

typeexp_agrees : (x : TypeExp) → TypeExp-law x
typeexp_agrees x =
    ind-TypeExp Condition-law Count-law Expr-law FieldList-law PlainItem-law Raise-law Statement-law Suffix-law Test-law TypeExp-law Arm-law Block-law Brackets-law Case-law Control-law Interval-law Left-law Operation-law
    (λ x y is. subst (λ z. Condition-law (roll-Condition z)) is (here_condition y))
    (λ x y is. subst (λ z. Count-law (roll-Count z)) is (here_count y))
    (λ x y is. subst (λ z. Expr-law (roll-Expr z)) is (here_expr y))
    (λ x y is. subst (λ z. FieldList-law (roll-FieldList z)) is (here_fieldlist y))
    (λ x y is. subst (λ z. PlainItem-law (roll-PlainItem z)) is (here_plainitem y))
    (λ x y is. subst (λ z. Raise-law (roll-Raise z)) is (here_raise y))
    (λ x y is. subst (λ z. Statement-law (roll-Statement z)) is (here_statement y))
    (λ x y is. subst (λ z. Suffix-law (roll-Suffix z)) is (here_suffix y))
    (λ x y is. subst (λ z. Test-law (roll-Test z)) is (here_test y))
    (λ x y is. subst (λ z. TypeExp-law (roll-TypeExp z)) is (here_typeexp y))
    (λ x y is. subst (λ z. Arm-law (roll-Arm z)) is (here_arm y))
    (λ x y is. subst (λ z. Block-law (roll-Block z)) is (here_block y))
    (λ x y is. subst (λ z. Brackets-law (roll-Brackets z)) is (here_brackets y))
    (λ x y is. subst (λ z. Case-law (roll-Case z)) is (here_case y))
    (λ x y is. subst (λ z. Control-law (roll-Control z)) is (here_control y))
    (λ x y is. subst (λ z. Interval-law (roll-Interval z)) is (here_interval y))
    (λ x y is. subst (λ z. Left-law (roll-Left z)) is (here_left y))
    (λ x y is. subst (λ z. Operation-law (roll-Operation z)) is (here_operation y)) x

expr_agrees : (x : Expr) → Expr-law x
expr_agrees x =
    ind-Expr Condition-law Count-law Expr-law FieldList-law PlainItem-law Raise-law Statement-law Suffix-law Test-law TypeExp-law Arm-law Block-law Brackets-law Case-law Control-law Interval-law Left-law Operation-law
    (λ x y is. subst (λ z. Condition-law (roll-Condition z)) is (here_condition y))
    (λ x y is. subst (λ z. Count-law (roll-Count z)) is (here_count y))
    (λ x y is. subst (λ z. Expr-law (roll-Expr z)) is (here_expr y))
    (λ x y is. subst (λ z. FieldList-law (roll-FieldList z)) is (here_fieldlist y))
    (λ x y is. subst (λ z. PlainItem-law (roll-PlainItem z)) is (here_plainitem y))
    (λ x y is. subst (λ z. Raise-law (roll-Raise z)) is (here_raise y))
    (λ x y is. subst (λ z. Statement-law (roll-Statement z)) is (here_statement y))
    (λ x y is. subst (λ z. Suffix-law (roll-Suffix z)) is (here_suffix y))
    (λ x y is. subst (λ z. Test-law (roll-Test z)) is (here_test y))
    (λ x y is. subst (λ z. TypeExp-law (roll-TypeExp z)) is (here_typeexp y))
    (λ x y is. subst (λ z. Arm-law (roll-Arm z)) is (here_arm y))
    (λ x y is. subst (λ z. Block-law (roll-Block z)) is (here_block y))
    (λ x y is. subst (λ z. Brackets-law (roll-Brackets z)) is (here_brackets y))
    (λ x y is. subst (λ z. Case-law (roll-Case z)) is (here_case y))
    (λ x y is. subst (λ z. Control-law (roll-Control z)) is (here_control y))
    (λ x y is. subst (λ z. Interval-law (roll-Interval z)) is (here_interval y))
    (λ x y is. subst (λ z. Left-law (roll-Left z)) is (here_left y))
    (λ x y is. subst (λ z. Operation-law (roll-Operation z)) is (here_operation y)) x

fieldlist_agrees : (x : FieldList) → FieldList-law x
fieldlist_agrees x =
    ind-FieldList Condition-law Count-law Expr-law FieldList-law PlainItem-law Raise-law Statement-law Suffix-law Test-law TypeExp-law Arm-law Block-law Brackets-law Case-law Control-law Interval-law Left-law Operation-law
    (λ x y is. subst (λ z. Condition-law (roll-Condition z)) is (here_condition y))
    (λ x y is. subst (λ z. Count-law (roll-Count z)) is (here_count y))
    (λ x y is. subst (λ z. Expr-law (roll-Expr z)) is (here_expr y))
    (λ x y is. subst (λ z. FieldList-law (roll-FieldList z)) is (here_fieldlist y))
    (λ x y is. subst (λ z. PlainItem-law (roll-PlainItem z)) is (here_plainitem y))
    (λ x y is. subst (λ z. Raise-law (roll-Raise z)) is (here_raise y))
    (λ x y is. subst (λ z. Statement-law (roll-Statement z)) is (here_statement y))
    (λ x y is. subst (λ z. Suffix-law (roll-Suffix z)) is (here_suffix y))
    (λ x y is. subst (λ z. Test-law (roll-Test z)) is (here_test y))
    (λ x y is. subst (λ z. TypeExp-law (roll-TypeExp z)) is (here_typeexp y))
    (λ x y is. subst (λ z. Arm-law (roll-Arm z)) is (here_arm y))
    (λ x y is. subst (λ z. Block-law (roll-Block z)) is (here_block y))
    (λ x y is. subst (λ z. Brackets-law (roll-Brackets z)) is (here_brackets y))
    (λ x y is. subst (λ z. Case-law (roll-Case z)) is (here_case y))
    (λ x y is. subst (λ z. Control-law (roll-Control z)) is (here_control y))
    (λ x y is. subst (λ z. Interval-law (roll-Interval z)) is (here_interval y))
    (λ x y is. subst (λ z. Left-law (roll-Left z)) is (here_left y))
    (λ x y is. subst (λ z. Operation-law (roll-Operation z)) is (here_operation y)) x

plainitem_agrees : (x : PlainItem) → PlainItem-law x
plainitem_agrees x =
    ind-PlainItem Condition-law Count-law Expr-law FieldList-law PlainItem-law Raise-law Statement-law Suffix-law Test-law TypeExp-law Arm-law Block-law Brackets-law Case-law Control-law Interval-law Left-law Operation-law
    (λ x y is. subst (λ z. Condition-law (roll-Condition z)) is (here_condition y))
    (λ x y is. subst (λ z. Count-law (roll-Count z)) is (here_count y))
    (λ x y is. subst (λ z. Expr-law (roll-Expr z)) is (here_expr y))
    (λ x y is. subst (λ z. FieldList-law (roll-FieldList z)) is (here_fieldlist y))
    (λ x y is. subst (λ z. PlainItem-law (roll-PlainItem z)) is (here_plainitem y))
    (λ x y is. subst (λ z. Raise-law (roll-Raise z)) is (here_raise y))
    (λ x y is. subst (λ z. Statement-law (roll-Statement z)) is (here_statement y))
    (λ x y is. subst (λ z. Suffix-law (roll-Suffix z)) is (here_suffix y))
    (λ x y is. subst (λ z. Test-law (roll-Test z)) is (here_test y))
    (λ x y is. subst (λ z. TypeExp-law (roll-TypeExp z)) is (here_typeexp y))
    (λ x y is. subst (λ z. Arm-law (roll-Arm z)) is (here_arm y))
    (λ x y is. subst (λ z. Block-law (roll-Block z)) is (here_block y))
    (λ x y is. subst (λ z. Brackets-law (roll-Brackets z)) is (here_brackets y))
    (λ x y is. subst (λ z. Case-law (roll-Case z)) is (here_case y))
    (λ x y is. subst (λ z. Control-law (roll-Control z)) is (here_control y))
    (λ x y is. subst (λ z. Interval-law (roll-Interval z)) is (here_interval y))
    (λ x y is. subst (λ z. Left-law (roll-Left z)) is (here_left y))
    (λ x y is. subst (λ z. Operation-law (roll-Operation z)) is (here_operation y)) x

block_agrees : (x : Block) → Block-law x
block_agrees x =
    ind-Block Condition-law Count-law Expr-law FieldList-law PlainItem-law Raise-law Statement-law Suffix-law Test-law TypeExp-law Arm-law Block-law Brackets-law Case-law Control-law Interval-law Left-law Operation-law
    (λ x y is. subst (λ z. Condition-law (roll-Condition z)) is (here_condition y))
    (λ x y is. subst (λ z. Count-law (roll-Count z)) is (here_count y))
    (λ x y is. subst (λ z. Expr-law (roll-Expr z)) is (here_expr y))
    (λ x y is. subst (λ z. FieldList-law (roll-FieldList z)) is (here_fieldlist y))
    (λ x y is. subst (λ z. PlainItem-law (roll-PlainItem z)) is (here_plainitem y))
    (λ x y is. subst (λ z. Raise-law (roll-Raise z)) is (here_raise y))
    (λ x y is. subst (λ z. Statement-law (roll-Statement z)) is (here_statement y))
    (λ x y is. subst (λ z. Suffix-law (roll-Suffix z)) is (here_suffix y))
    (λ x y is. subst (λ z. Test-law (roll-Test z)) is (here_test y))
    (λ x y is. subst (λ z. TypeExp-law (roll-TypeExp z)) is (here_typeexp y))
    (λ x y is. subst (λ z. Arm-law (roll-Arm z)) is (here_arm y))
    (λ x y is. subst (λ z. Block-law (roll-Block z)) is (here_block y))
    (λ x y is. subst (λ z. Brackets-law (roll-Brackets z)) is (here_brackets y))
    (λ x y is. subst (λ z. Case-law (roll-Case z)) is (here_case y))
    (λ x y is. subst (λ z. Control-law (roll-Control z)) is (here_control y))
    (λ x y is. subst (λ z. Interval-law (roll-Interval z)) is (here_interval y))
    (λ x y is. subst (λ z. Left-law (roll-Left z)) is (here_left y))
    (λ x y is. subst (λ z. Operation-law (roll-Operation z)) is (here_operation y)) x

arm_agrees : (x : Arm) → Arm-law x
arm_agrees x =
    ind-Arm Condition-law Count-law Expr-law FieldList-law PlainItem-law Raise-law Statement-law Suffix-law Test-law TypeExp-law Arm-law Block-law Brackets-law Case-law Control-law Interval-law Left-law Operation-law
    (λ x y is. subst (λ z. Condition-law (roll-Condition z)) is (here_condition y))
    (λ x y is. subst (λ z. Count-law (roll-Count z)) is (here_count y))
    (λ x y is. subst (λ z. Expr-law (roll-Expr z)) is (here_expr y))
    (λ x y is. subst (λ z. FieldList-law (roll-FieldList z)) is (here_fieldlist y))
    (λ x y is. subst (λ z. PlainItem-law (roll-PlainItem z)) is (here_plainitem y))
    (λ x y is. subst (λ z. Raise-law (roll-Raise z)) is (here_raise y))
    (λ x y is. subst (λ z. Statement-law (roll-Statement z)) is (here_statement y))
    (λ x y is. subst (λ z. Suffix-law (roll-Suffix z)) is (here_suffix y))
    (λ x y is. subst (λ z. Test-law (roll-Test z)) is (here_test y))
    (λ x y is. subst (λ z. TypeExp-law (roll-TypeExp z)) is (here_typeexp y))
    (λ x y is. subst (λ z. Arm-law (roll-Arm z)) is (here_arm y))
    (λ x y is. subst (λ z. Block-law (roll-Block z)) is (here_block y))
    (λ x y is. subst (λ z. Brackets-law (roll-Brackets z)) is (here_brackets y))
    (λ x y is. subst (λ z. Case-law (roll-Case z)) is (here_case y))
    (λ x y is. subst (λ z. Control-law (roll-Control z)) is (here_control y))
    (λ x y is. subst (λ z. Interval-law (roll-Interval z)) is (here_interval y))
    (λ x y is. subst (λ z. Left-law (roll-Left z)) is (here_left y))
    (λ x y is. subst (λ z. Operation-law (roll-Operation z)) is (here_operation y)) x

-- ---- modules

statements_agree : (xs : List Statement) → n.statements_nodes (v.statements xs) ≡ total statement_nodes xs
unfolding n.statements_nodes
statements_agree [] = refl
statements_agree (x ∷ xs) = omega (arith, statement_agrees x, statements_agree xs)

exits_agree : (xs : List (Labeled (List Identifier) Statement)) → n.exits_nodes (v.exits xs) ≡ total (named statement_nodes) xs
unfolding n.exits_nodes
exits_agree [] = refl
exits_agree (x ∷ xs) = omega (arith, statement_agrees x.item, exits_agree xs)

arms_agree : (xs : List Arm) → n.arms_nodes (v.arms xs) ≡ total arm_nodes xs
unfolding n.arms_nodes
arms_agree [] = refl
arms_agree (x ∷ xs) = omega (arith, arm_agrees x (v.arms xs), arms_agree xs)

phrase_agrees : (x : Option (Placed (List Arm))) → n.phrase_nodes (v.phrase x) ≡ phrase arm_nodes x
unfolding n.phrase_nodes
phrase_agrees None = refl
phrase_agrees (Some x) = arms_agree x.item

fields_agree : (x : Option FieldList) → n.maybe_fields_nodes (v.maybe_fields x) ≡ optional field_list_nodes x
unfolding n.maybe_fields_nodes
fields_agree None = refl
fields_agree (Some x) = fieldlist_agrees x

head_agrees : (h : Head) → n.head_nodes (v.head h) ≡ head_nodes h
unfolding n.head_nodes head_nodes
head_agrees h = omega (arith, fields_agree h.takes, fields_agree h.gives)

declared_agrees : (d : Declared) → n.declared_nodes (v.declared d) ≡ declared_nodes d
unfolding n.declared_nodes declared_nodes
declared_agrees (Procedure h b) = omega (arith, head_agrees h, block_agrees b)
declared_agrees (Signal h) = head_agrees h
declared_agrees (Error takes) = omega (arith, fields_agree takes)
declared_agrees (Data x) = plainitem_agrees x

declarations_agree : (ds : List Declaration) → n.declarations_nodes (map v.declaration ds) ≡ total declaration_nodes ds
unfolding n.declarations_nodes n.declaration_nodes declaration_nodes
declarations_agree [] = refl
declarations_agree (d ∷ ds) = omega (arith, declared_agrees d.declared, declarations_agree ds)

inner_agrees : (x : Inner) → n.inner_nodes (v.inner x) ≡ inner_nodes x
unfolding n.inner_nodes inner_nodes
inner_agrees x = omega (arith, phrase_agrees x.enable, declarations_agree x.declarations, statements_agree x.statements, exits_agree x.exits)

defined_agrees : (d : Defined) → n.defined_nodes (v.defined d) ≡ defined_nodes d
unfolding n.defined_nodes defined_nodes
defined_agrees (ProcedureItem h) = head_agrees h
defined_agrees (SignalItem h) = head_agrees h
defined_agrees (ErrorItem takes) = omega (arith, fields_agree takes)
defined_agrees (TypeItem t) = typeexp_agrees t
defined_agrees (ConstantItem t e) = omega (arith, typeexp_agrees t, expr_agrees e)

definitions_agree : (ds : List (Labeled (List Identifier) Defined)) → n.definitions_nodes (map v.definition ds) ≡ total (named defined_nodes) ds
unfolding n.definitions_nodes n.definition_nodes
definitions_agree [] = refl
definitions_agree (d ∷ ds) = omega (arith, defined_agrees d.item, definitions_agree ds)

kind_agrees : (x : ModuleKind) → n.kind_nodes (v.kind x) ≡ kind_nodes x
unfolding n.kind_nodes kind_nodes
kind_agrees (Program p imports exports opens x) = inner_agrees x
kind_agrees (Interface p opens definitions) = definitions_agree definitions

directory_agrees : (xs : List DirectoryItem) → length xs ≡ total directory_item_nodes xs
unfolding directory_item_nodes
directory_agrees [] = refl
directory_agrees (x ∷ xs) = omega (arith, directory_agrees xs)

pub nodes_agree : (m : Module) → n.nodes m ≡ nodes m
unfolding n.nodes n.module_nodes nodes
nodes_agree m = omega (arith, directory_agrees m.directory, kind_agrees m.kind)
