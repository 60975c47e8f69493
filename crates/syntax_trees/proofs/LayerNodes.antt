-- The nodes of a syntax tree of the code, by its fold: a means of proof. What a node is stands in specs/SyntaxNodes.
use Rattle.std.specs.Prelude.{ℕ, ◌+◌, Bool, true, false, List, [], ◌∷◌, length, Option, Some, None}
use Rattle.held_trees.specs.mesa_base.specs.declared.identifier.Identifier.{Identifier}
use Rattle.held_trees.specs.mesa_base.specs.declared.placed.Placed.{Placed}
use Rattle.syntax_trees.specs.declared.syntax.Keyed.{Keyed}
use Rattle.syntax_trees.specs.declared.syntax.Labeled.{Labeled}
use Rattle.syntax_trees.specs.declared.syntax.Entries.{Entries}
use Rattle.syntax_trees.specs.declared.syntax.Entries.TheVariants.{Nothing, InOrder, ByKey}
use Rattle.syntax_trees.specs.declared.syntax.Labels.{Labels}
use Rattle.syntax_trees.specs.declared.syntax.Labels.TheVariants.{Any, Unwind, Signals}
use Rattle.syntax_trees.specs.declared.syntax.RepeatLabels.{RepeatLabels}
use Rattle.syntax_trees.specs.declared.syntax.RepeatLabels.TheVariants.{Named, Finished}
use Rattle.syntax_trees.specs.declared.syntax.TypeBase.{TypeBase}
use Rattle.syntax_trees.specs.declared.syntax.TypeBase.TheVariants.{Unsaid, OfInteger, OfCardinal, OfCharacter, OfName}
use Rattle.syntax_trees.specs.declared.syntax.Condition.TheOpen.{Condition-F, Count-F, Expr-F, FieldList-F, PlainItem-F, Raise-F, Statement-F, Suffix-F, Test-F, TypeExp-F, Arm-F, Block-F, Brackets-F, Case-F, Control-F, Interval-F, Left-F, Operation-F}
use Rattle.syntax_trees.specs.declared.syntax.Condition.TheFolds.{fold-Condition, fold-Count, fold-Expr, fold-FieldList, fold-PlainItem, fold-Raise, fold-Statement, fold-Suffix, fold-Test, fold-TypeExp, fold-Arm, fold-Block, fold-Brackets, fold-Case, fold-Control, fold-Interval, fold-Left, fold-Operation}
use Rattle.syntax_trees.specs.declared.syntax.Condition.{Condition}
use Rattle.syntax_trees.specs.declared.syntax.Count.{Count}
use Rattle.syntax_trees.specs.declared.syntax.Expr.{Expr}
use Rattle.syntax_trees.specs.declared.syntax.FieldList.{FieldList}
use Rattle.syntax_trees.specs.declared.syntax.PlainItem.{PlainItem}
use Rattle.syntax_trees.specs.declared.syntax.Raise.{Raise}
use Rattle.syntax_trees.specs.declared.syntax.Statement.{Statement}
use Rattle.syntax_trees.specs.declared.syntax.Suffix.{Suffix}
use Rattle.syntax_trees.specs.declared.syntax.Test.{Test}
use Rattle.syntax_trees.specs.declared.syntax.TypeExp.{TypeExp}
use Rattle.syntax_trees.specs.declared.syntax.Arm.{Arm}
use Rattle.syntax_trees.specs.declared.syntax.Block.{Block}
use Rattle.syntax_trees.specs.declared.syntax.Brackets.{Brackets}
use Rattle.syntax_trees.specs.declared.syntax.Case.{Case}
use Rattle.syntax_trees.specs.declared.syntax.Control.{Control}
use Rattle.syntax_trees.specs.declared.syntax.Interval.{Interval}
use Rattle.syntax_trees.specs.declared.syntax.Left.{Left}
use Rattle.syntax_trees.specs.declared.syntax.Operation.{Operation}
use Rattle.syntax_trees.specs.declared.syntax.Head.{Head}
use Rattle.syntax_trees.specs.declared.syntax.Declared.{Declared}
use Rattle.syntax_trees.specs.declared.syntax.Declared.TheVariants.{Procedure, Signal, Error, Data}
use Rattle.syntax_trees.specs.declared.syntax.Declaration.{Declaration}
use Rattle.syntax_trees.specs.declared.syntax.Inner.{Inner}
use Rattle.syntax_trees.specs.declared.syntax.Defined.{Defined}
use Rattle.syntax_trees.specs.declared.syntax.Defined.TheVariants.{ProcedureItem, SignalItem, ErrorItem, TypeItem, ConstantItem}
use Rattle.syntax_trees.specs.declared.syntax.ModuleKind.{ModuleKind}
use Rattle.syntax_trees.specs.declared.syntax.ModuleKind.TheVariants.{Program, Interface}
use Rattle.syntax_trees.specs.declared.syntax.DirectoryItem.{DirectoryItem}
use Rattle.syntax_trees.specs.declared.syntax.Module.{Module}

-- ---- lists of parts, and parts that may be absent, by the nodes of a part

abbrev pub total : {A : Type 0} → (A → ℕ) → List A → ℕ
total f [] = 0
total f (x ∷ xs) = f x + total f xs

abbrev pub optional : {A : Type 0} → (A → ℕ) → Option A → ℕ
optional f None = 0
optional f (Some x) = f x

-- names, each a node, and what they stand before
abbrev pub named : {A : Type 0} → (A → ℕ) → Labeled (List Identifier) A → ℕ
named f x = length x.labels + f x.item

-- the key of an item is no node
abbrev pub keyed : {A : Type 0} → (A → ℕ) → Keyed A → ℕ
keyed f x = f x.item

-- the items of a bracket list
abbrev pub entries : {A : Type 0} → (A → ℕ) → Entries A → ℕ
entries f Nothing = 0
entries f (InOrder items) = total f items
entries f (ByKey items) = total (keyed f) items

-- the arms of a catch phrase
abbrev pub phrase : {A : Type 0} → (A → ℕ) → Option (Placed (List A)) → ℕ
phrase f None = 0
phrase f (Some arms) = total f arms.item

-- values in brackets are an expression
abbrev pub values : {A : Type 0} → (A → ℕ) → Option (Placed (Entries A)) → ℕ
values f None = 0
values f (Some x) = 1 + entries f x.item

-- the labels of an arm
abbrev pub labels : Labels → ℕ
labels (Any p) = 1
labels (Unwind p) = 1
labels (Signals names) = length names

-- the labels of a way out of a loop
abbrev pub repeat_labels : RepeatLabels → ℕ
repeat_labels (Named names) = length names
repeat_labels (Finished p) = 1

abbrev pub repeated : {A : Type 0} → (A → ℕ) → Labeled RepeatLabels A → ℕ
repeated f x = repeat_labels x.labels + f x.item

-- the type before an interval
abbrev pub base : TypeBase → ℕ
base Unsaid = 0
base (OfInteger p) = 1
base (OfCardinal p) = 1
base (OfCharacter p) = 1
base (OfName name) = 1

-- a NOT before a relation or IN
abbrev pub negation : Bool → ℕ
negation false = 0
negation true = 1

-- the nodes of a part where they are counted already
abbrev pub own : ℕ → ℕ
own n = n

-- ---- one layer of a tree, over the nodes of its parts

abbrev pub Layer : (Type 0 → Type 0 → Type 0 → Type 0 → Type 0 → Type 0 → Type 0 → Type 0 → Type 0 → Type 0 → Type 0 → Type 0 → Type 0 → Type 0 → Type 0 → Type 0 → Type 0 → Type 0 → Type 0) → Type 0
Layer F = F ℕ ℕ ℕ ℕ ℕ ℕ ℕ ℕ ℕ ℕ ℕ ℕ ℕ ℕ ℕ ℕ ℕ ℕ

abbrev pub condition_step : Layer Condition-F → ℕ
condition_step (Condition-F.While p e) = e
condition_step (Condition-F.Until p e) = e

-- the variable of FOR is a target
abbrev pub count_step : Layer Count-F → ℕ
count_step (Count-F.For p variable down i) = 1 + i
count_step (Count-F.Through p i) = i

abbrev pub expr_step : Layer Expr-F → ℕ
expr_step (Expr-F.Run e steps) = e + total own steps
expr_step (Expr-F.Not p e) = 1 + e
expr_step (Expr-F.Compare d b r p e) = 1 + negation b + d + e
expr_step (Expr-F.Within e b p i) = 1 + negation b + e + i
expr_step (Expr-F.Signed s p e) = 1 + e
expr_step (Expr-F.NumberLiteral p n) = 1
expr_step (Expr-F.CharacterLiteral p n) = 1
expr_step (Expr-F.StringLiteral p bytes) = 1
expr_step (Expr-F.Truth p b) = 1
expr_step (Expr-F.Parenthesis p e) = 1 + e
expr_step (Expr-F.Reference l) = l
expr_step (Expr-F.Constructor x) = 1 + entries own x.item
expr_step (Expr-F.Raised r) = r

abbrev pub field_list_step : Layer FieldList-F → ℕ
field_list_step (FieldList-F.WithNames groups) = total (named own) groups
field_list_step (FieldList-F.Unnamed types) = total own types

abbrev pub plain_step : Layer PlainItem-F → ℕ
plain_step (PlainItem-F.TypeIs t) = t
plain_step (PlainItem-F.Variable t) = t
plain_step (PlainItem-F.Initial t e) = t + e
plain_step (PlainItem-F.Constant t e) = t + e

abbrev pub raise_step : Layer Raise-F → ℕ
raise_step (Raise-F.SignalRaise p name b) = 1 + optional own b
raise_step (Raise-F.ErrorRaise p name b) = 1 + optional own b
raise_step (Raise-F.UnnamedError p) = 1

-- a call or a raise is the statement itself; the label of GOTO counts
abbrev pub statement_step : Layer Statement-F → ℕ
statement_step (Statement-F.Null p) = 1
statement_step (Statement-F.Nested b) = b
statement_step (Statement-F.Assign l e) = 1 + l + e
statement_step (Statement-F.Extract p targets e) = 1 + entries own targets + e
statement_step (Statement-F.Call l) = l
statement_step (Statement-F.RaiseStatement r) = r
statement_step (Statement-F.If p e s other) = 1 + e + s + optional own other
statement_step (Statement-F.Select p e cases other) = 1 + e + total own cases + optional own other
statement_step (Statement-F.Loop c p enable body repeats) = 1 + c + phrase own enable + total own body + total (repeated own) repeats
statement_step (Statement-F.ExitLoop p) = 1
statement_step (Statement-F.NextTurn p) = 1
statement_step (Statement-F.Goto p label) = 2
statement_step (Statement-F.Return p x) = 1 + values own x
statement_step (Statement-F.Resume p x) = 1 + values own x
statement_step (Statement-F.Reject p) = 1
statement_step (Statement-F.Retry p) = 1
statement_step (Statement-F.Continue p) = 1

abbrev pub suffix_step : Layer Suffix-F → ℕ
suffix_step (Suffix-F.Field name) = 1
suffix_step (Suffix-F.Applied b) = 1 + b

-- a relation and IN count in a test as they do in an expression
abbrev pub test_step : Layer Test-F → ℕ
test_step (Test-F.Value e) = 1 + e
test_step (Test-F.Compared b r p e) = 2 + negation b + e
test_step (Test-F.Inside b p i) = 2 + negation b + i

abbrev pub type_step : Layer TypeExp-F → ℕ
type_step (TypeExp-F.Integer p) = 1
type_step (TypeExp-F.Cardinal p) = 1
type_step (TypeExp-F.LongInteger p) = 1
type_step (TypeExp-F.LongCardinal p) = 1
type_step (TypeExp-F.Boolean p) = 1
type_step (TypeExp-F.Character p) = 1
type_step (TypeExp-F.String p) = 1
type_step (TypeExp-F.Called name) = 1
type_step (TypeExp-F.Enumeration p elements) = 1 + length elements
type_step (TypeExp-F.Subrange b i) = 1 + base b + i
type_step (TypeExp-F.Array p index element) = 1 + index + element
type_step (TypeExp-F.Record p fields) = 1 + fields

abbrev pub arm_step : Layer Arm-F → ℕ
arm_step a = 1 + labels a.labels + a.body

abbrev pub block_step : Layer Block-F → ℕ
block_step b = 1 + phrase own b.enable + total (named own) b.locals + total own b.statements + total (named own) b.exits

abbrev pub brackets_step : Layer Brackets-F → ℕ
brackets_step b = entries own b.items + phrase own b.catch

abbrev pub case_step : Layer Case-F → ℕ
case_step c = total own c.tests + c.body

abbrev pub control_step : Layer Control-F → ℕ
control_step c = optional own c.count + optional own c.condition

abbrev pub interval_step : Layer Interval-F → ℕ
interval_step i = 1 + i.low + i.high

abbrev pub left_step : Layer Left-F → ℕ
left_step l = 1 + total own l.suffixes

-- an operator, and the operand to its right
abbrev pub operation_step : Layer Operation-F → ℕ
operation_step s = 1 + s.right

-- ---- trees

-- a tree's nodes by its fold
abbrev pub by_layers : {X : Type 0} → ((Layer Condition-F → ℕ) → (Layer Count-F → ℕ) → (Layer Expr-F → ℕ) → (Layer FieldList-F → ℕ) → (Layer PlainItem-F → ℕ) → (Layer Raise-F → ℕ) → (Layer Statement-F → ℕ) → (Layer Suffix-F → ℕ) → (Layer Test-F → ℕ) → (Layer TypeExp-F → ℕ) → (Layer Arm-F → ℕ) → (Layer Block-F → ℕ) → (Layer Brackets-F → ℕ) → (Layer Case-F → ℕ) → (Layer Control-F → ℕ) → (Layer Interval-F → ℕ) → (Layer Left-F → ℕ) → (Layer Operation-F → ℕ) → X → ℕ) → X → ℕ
by_layers fold = fold condition_step count_step expr_step field_list_step plain_step raise_step statement_step suffix_step test_step type_step arm_step block_step brackets_step case_step control_step interval_step left_step operation_step

unfoldable pub condition_nodes : Condition → ℕ
condition_nodes = by_layers (fold-Condition ℕ ℕ ℕ ℕ ℕ ℕ ℕ ℕ ℕ ℕ ℕ ℕ ℕ ℕ ℕ ℕ ℕ ℕ)

unfoldable pub count_nodes : Count → ℕ
count_nodes = by_layers (fold-Count ℕ ℕ ℕ ℕ ℕ ℕ ℕ ℕ ℕ ℕ ℕ ℕ ℕ ℕ ℕ ℕ ℕ ℕ)

unfoldable pub expr_nodes : Expr → ℕ
expr_nodes = by_layers (fold-Expr ℕ ℕ ℕ ℕ ℕ ℕ ℕ ℕ ℕ ℕ ℕ ℕ ℕ ℕ ℕ ℕ ℕ ℕ)

unfoldable pub field_list_nodes : FieldList → ℕ
field_list_nodes = by_layers (fold-FieldList ℕ ℕ ℕ ℕ ℕ ℕ ℕ ℕ ℕ ℕ ℕ ℕ ℕ ℕ ℕ ℕ ℕ ℕ)

unfoldable pub plain_nodes : PlainItem → ℕ
plain_nodes = by_layers (fold-PlainItem ℕ ℕ ℕ ℕ ℕ ℕ ℕ ℕ ℕ ℕ ℕ ℕ ℕ ℕ ℕ ℕ ℕ ℕ)

unfoldable pub raise_nodes : Raise → ℕ
raise_nodes = by_layers (fold-Raise ℕ ℕ ℕ ℕ ℕ ℕ ℕ ℕ ℕ ℕ ℕ ℕ ℕ ℕ ℕ ℕ ℕ ℕ)

unfoldable pub statement_nodes : Statement → ℕ
statement_nodes = by_layers (fold-Statement ℕ ℕ ℕ ℕ ℕ ℕ ℕ ℕ ℕ ℕ ℕ ℕ ℕ ℕ ℕ ℕ ℕ ℕ)

unfoldable pub suffix_nodes : Suffix → ℕ
suffix_nodes = by_layers (fold-Suffix ℕ ℕ ℕ ℕ ℕ ℕ ℕ ℕ ℕ ℕ ℕ ℕ ℕ ℕ ℕ ℕ ℕ ℕ)

unfoldable pub test_nodes : Test → ℕ
test_nodes = by_layers (fold-Test ℕ ℕ ℕ ℕ ℕ ℕ ℕ ℕ ℕ ℕ ℕ ℕ ℕ ℕ ℕ ℕ ℕ ℕ)

unfoldable pub type_nodes : TypeExp → ℕ
type_nodes = by_layers (fold-TypeExp ℕ ℕ ℕ ℕ ℕ ℕ ℕ ℕ ℕ ℕ ℕ ℕ ℕ ℕ ℕ ℕ ℕ ℕ)

unfoldable pub arm_nodes : Arm → ℕ
arm_nodes = by_layers (fold-Arm ℕ ℕ ℕ ℕ ℕ ℕ ℕ ℕ ℕ ℕ ℕ ℕ ℕ ℕ ℕ ℕ ℕ ℕ)

unfoldable pub block_nodes : Block → ℕ
block_nodes = by_layers (fold-Block ℕ ℕ ℕ ℕ ℕ ℕ ℕ ℕ ℕ ℕ ℕ ℕ ℕ ℕ ℕ ℕ ℕ ℕ)

unfoldable pub brackets_nodes : Brackets → ℕ
brackets_nodes = by_layers (fold-Brackets ℕ ℕ ℕ ℕ ℕ ℕ ℕ ℕ ℕ ℕ ℕ ℕ ℕ ℕ ℕ ℕ ℕ ℕ)

unfoldable pub case_nodes : Case → ℕ
case_nodes = by_layers (fold-Case ℕ ℕ ℕ ℕ ℕ ℕ ℕ ℕ ℕ ℕ ℕ ℕ ℕ ℕ ℕ ℕ ℕ ℕ)

unfoldable pub control_nodes : Control → ℕ
control_nodes = by_layers (fold-Control ℕ ℕ ℕ ℕ ℕ ℕ ℕ ℕ ℕ ℕ ℕ ℕ ℕ ℕ ℕ ℕ ℕ ℕ)

unfoldable pub interval_nodes : Interval → ℕ
interval_nodes = by_layers (fold-Interval ℕ ℕ ℕ ℕ ℕ ℕ ℕ ℕ ℕ ℕ ℕ ℕ ℕ ℕ ℕ ℕ ℕ ℕ)

unfoldable pub left_nodes : Left → ℕ
left_nodes = by_layers (fold-Left ℕ ℕ ℕ ℕ ℕ ℕ ℕ ℕ ℕ ℕ ℕ ℕ ℕ ℕ ℕ ℕ ℕ ℕ)

unfoldable pub operation_nodes : Operation → ℕ
operation_nodes = by_layers (fold-Operation ℕ ℕ ℕ ℕ ℕ ℕ ℕ ℕ ℕ ℕ ℕ ℕ ℕ ℕ ℕ ℕ ℕ ℕ)

unfoldable pub head_nodes : Head → ℕ
head_nodes h = 1 + optional field_list_nodes h.takes + optional field_list_nodes h.gives

unfoldable pub declared_nodes : Declared → ℕ
declared_nodes (Procedure head body) = head_nodes head + block_nodes body
declared_nodes (Signal head) = head_nodes head
declared_nodes (Error takes) = 1 + optional field_list_nodes takes
declared_nodes (Data x) = plain_nodes x

unfoldable pub declaration_nodes : Declaration → ℕ
declaration_nodes d = length d.names + declared_nodes d.declared

unfoldable pub inner_nodes : Inner → ℕ
inner_nodes x = 1 + phrase arm_nodes x.enable + total declaration_nodes x.declarations + total statement_nodes x.statements + total (named statement_nodes) x.exits

unfoldable pub defined_nodes : Defined → ℕ
defined_nodes (ProcedureItem head) = head_nodes head
defined_nodes (SignalItem head) = head_nodes head
defined_nodes (ErrorItem takes) = 1 + optional field_list_nodes takes
defined_nodes (TypeItem t) = type_nodes t
defined_nodes (ConstantItem t e) = type_nodes t + expr_nodes e

-- the names of imports, exports and opened interfaces are declared elsewhere
unfoldable pub kind_nodes : ModuleKind → ℕ
kind_nodes (Program p imports exports opened x) = inner_nodes x
kind_nodes (Interface p opened items) = total (named defined_nodes) items

-- the name of an interface; the names that USING lists are declared there
unfoldable pub directory_item_nodes : DirectoryItem → ℕ
directory_item_nodes x = 1

unfoldable pub nodes : Module → ℕ
nodes m = 1 + total directory_item_nodes m.directory + kind_nodes m.kind
