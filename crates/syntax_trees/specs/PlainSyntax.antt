-- The syntax tree of the code as the plain one: each tree of the code is one of Syntax, and each list of the code one of its lists.
use Rattle.std.specs.Prelude.{List, [], ◌∷◌, map, Option, Some, None}
use Rattle.held_trees.specs.mesa_base.specs.Chain.{chain}
use Rattle.syntax_trees.specs.Syntax as s
use Rattle.held_trees.specs.mesa_base.specs.declared.identifier.Identifier.{Identifier}
use Rattle.held_trees.specs.mesa_base.specs.declared.placed.Placed.{Placed}
use Rattle.syntax_trees.specs.declared.syntax.Keyed.{Keyed}
use Rattle.syntax_trees.specs.declared.syntax.Labeled.{Labeled}
use Rattle.syntax_trees.specs.declared.syntax.Entries.{Entries}
use Rattle.syntax_trees.specs.declared.syntax.Entries.TheVariants.{Nothing, InOrder, ByKey}
use Rattle.syntax_trees.specs.declared.syntax.RepeatLabels.{RepeatLabels}
use Rattle.syntax_trees.specs.declared.syntax.Condition.TheOpen.{Condition-F, Count-F, Expr-F, FieldList-F, PlainItem-F, Raise-F, Statement-F, Suffix-F, Test-F}
use Rattle.syntax_trees.specs.declared.syntax.Condition.TheOpen.{TypeExp-F, Arm-F, Block-F, Brackets-F, Case-F, Control-F, Interval-F, Left-F, Operation-F}
use Rattle.syntax_trees.specs.declared.syntax.Condition.TheFolds.{fold-Condition, fold-Count, fold-Expr, fold-FieldList, fold-PlainItem, fold-Raise}
use Rattle.syntax_trees.specs.declared.syntax.Condition.TheFolds.{fold-Statement, fold-Suffix, fold-Test, fold-TypeExp, fold-Arm, fold-Block, fold-Brackets}
use Rattle.syntax_trees.specs.declared.syntax.Condition.TheFolds.{fold-Case, fold-Control, fold-Interval, fold-Left, fold-Operation}
use Rattle.syntax_trees.specs.declared.syntax.Condition.{Condition}
use Rattle.syntax_trees.specs.declared.syntax.Count.{Count}
use Rattle.syntax_trees.specs.declared.syntax.Expr.{Expr}
use Rattle.syntax_trees.specs.declared.syntax.FieldList.{FieldList}
use Rattle.syntax_trees.specs.declared.syntax.PlainItem.{PlainItem}
use Rattle.syntax_trees.specs.declared.syntax.Raise.{Raise}
use Rattle.syntax_trees.specs.declared.syntax.Statement.{Statement}
use Rattle.syntax_trees.specs.declared.syntax.Suffix.{Suffix}
use Rattle.syntax_trees.specs.declared.syntax.Test.{Test}
use Rattle.syntax_trees.specs.declared.syntax.TypeExp.{TypeExp}
use Rattle.syntax_trees.specs.declared.syntax.Arm.{Arm}
use Rattle.syntax_trees.specs.declared.syntax.Block.{Block}
use Rattle.syntax_trees.specs.declared.syntax.Brackets.{Brackets}
use Rattle.syntax_trees.specs.declared.syntax.Case.{Case}
use Rattle.syntax_trees.specs.declared.syntax.Control.{Control}
use Rattle.syntax_trees.specs.declared.syntax.Interval.{Interval}
use Rattle.syntax_trees.specs.declared.syntax.Left.{Left}
use Rattle.syntax_trees.specs.declared.syntax.Operation.{Operation}
use Rattle.syntax_trees.specs.declared.syntax.Head.{Head}
use Rattle.syntax_trees.specs.declared.syntax.Declared.{Declared}
use Rattle.syntax_trees.specs.declared.syntax.Declaration.{Declaration}
use Rattle.syntax_trees.specs.declared.syntax.Inner.{Inner}
use Rattle.syntax_trees.specs.declared.syntax.Defined.{Defined}
use Rattle.syntax_trees.specs.declared.syntax.ModuleKind.{ModuleKind}
use Rattle.syntax_trees.specs.declared.syntax.Module.{Module}
use Rattle.syntax_trees.specs.declared.syntax.Declared.TheVariants.{Procedure, Signal, Error, Data}
use Rattle.syntax_trees.specs.declared.syntax.Defined.TheVariants.{ProcedureItem, SignalItem, ErrorItem, TypeItem, ConstantItem}
use Rattle.syntax_trees.specs.declared.syntax.ModuleKind.TheVariants.{Program, Interface}

-- ---- lists and options of plain trees

abbrev pub join_exprs : List s.Expr → s.Exprs
join_exprs [] = s.NoExprs
join_exprs (e ∷ es) = s.AndExpr e (join_exprs es)

abbrev pub join_keyed_exprs : List (Keyed s.Expr) → s.KeyedExprs
join_keyed_exprs [] = s.NoKeyedExprs
join_keyed_exprs (e ∷ es) = s.AndKeyedExpr e.key e.item (join_keyed_exprs es)

abbrev pub join_items : Entries s.Expr → s.Items
join_items Nothing = s.Nothing
join_items (InOrder es) = s.InOrder (join_exprs es)
join_items (ByKey es) = s.ByKey (join_keyed_exprs es)

abbrev pub join_lefts : List s.Left → s.Lefts
join_lefts [] = s.NoLefts
join_lefts (l ∷ ls) = s.AndLeft l (join_lefts ls)

abbrev pub join_keyed_lefts : List (Keyed s.Left) → s.KeyedLefts
join_keyed_lefts [] = s.NoKeyedLefts
join_keyed_lefts (l ∷ ls) = s.AndKeyedLeft l.key l.item (join_keyed_lefts ls)

abbrev pub join_targets : Entries s.Left → s.Targets
join_targets Nothing = s.NoTarget
join_targets (InOrder ls) = s.TargetsInOrder (join_lefts ls)
join_targets (ByKey ls) = s.TargetsByKey (join_keyed_lefts ls)

abbrev pub join_types : List s.TypeExp → s.TypeExps
join_types [] = s.NoTypes
join_types (t ∷ ts) = s.AndType t (join_types ts)

abbrev pub join_fields : List (Labeled (List Identifier) s.TypeExp) → s.NamedFields
join_fields [] = s.NoFields
join_fields (f ∷ fs) = s.AndFields f.labels f.item (join_fields fs)

abbrev pub join_statements : List s.Statement → s.Statements
join_statements [] = s.NoStatements
join_statements (x ∷ xs) = s.AndStatement x (join_statements xs)

abbrev pub join_locals : List (Labeled (List Identifier) s.PlainItem) → s.Locals
join_locals [] = s.NoLocals
join_locals (x ∷ xs) = s.AndLocal x.labels x.item (join_locals xs)

abbrev pub join_exits : List (Labeled (List Identifier) s.Statement) → s.Exits
join_exits [] = s.NoExits
join_exits (x ∷ xs) = s.AndExit x.labels x.item (join_exits xs)

abbrev pub join_repeats : List (Labeled RepeatLabels s.Statement) → s.Repeats
join_repeats [] = s.NoRepeats
join_repeats (x ∷ xs) = s.AndRepeat x.labels x.item (join_repeats xs)

abbrev pub join_phrase : Option (Placed (List (s.Arms → s.Arms))) → s.Phrase
join_phrase None = s.NoPhrase
join_phrase (Some x) = s.Catch x.place (chain x.item s.NoArms)

abbrev pub or_no_brackets : Option s.Brackets → s.MaybeBrackets
or_no_brackets None = s.NoBrackets
or_no_brackets (Some b) = s.WithBrackets b

abbrev pub or_no_statement : Option s.Statement → s.MaybeStatement
or_no_statement None = s.NoStatement
or_no_statement (Some x) = s.OneStatement x

abbrev pub or_no_items : Option (Placed (Entries s.Expr)) → s.MaybeItems
or_no_items None = s.NoItems
or_no_items (Some x) = s.WithItems x.place (join_items x.item)

abbrev pub or_no_count : Option s.Count → s.Count
or_no_count None = s.NoCount
or_no_count (Some c) = c

abbrev pub or_always : Option s.Condition → s.Condition
or_always None = s.Always
or_always (Some c) = c

-- ---- one layer of the code's tree, over what its parts are; a part of a list is put before the rest

abbrev pub Layer : (Type 0 → Type 0 → Type 0 → Type 0 → Type 0 → Type 0 → Type 0 → Type 0 → Type 0 → Type 0 → Type 0 → Type 0 → Type 0 → Type 0 → Type 0 →
    Type 0 → Type 0 → Type 0 → Type 0) → Type 0
Layer F = F s.Condition s.Count s.Expr s.FieldList s.PlainItem s.Raise s.Statement (s.Suffixes → s.Suffixes) (s.Tests → s.Tests) s.TypeExp (s.Arms → s.Arms)
    s.Block s.Brackets (s.Cases → s.Cases) s.Control s.Interval s.Left (s.Operations → s.Operations)

abbrev pub condition_step : Layer Condition-F → s.Condition
condition_step (Condition-F.While p e) = s.While p e
condition_step (Condition-F.Until p e) = s.Until p e

abbrev pub count_step : Layer Count-F → s.Count
count_step (Count-F.For p variable decreasing i) = s.For p variable decreasing i
count_step (Count-F.Through p i) = s.Through p i

abbrev pub expr_step : Layer Expr-F → s.Expr
expr_step (Expr-F.Run e operations) = s.Run e (chain operations s.NoOperation)
expr_step (Expr-F.Not p e) = s.Not p e
expr_step (Expr-F.Compare d negated r p e) = s.Compare d negated r p e
expr_step (Expr-F.Within e negated p i) = s.Within e negated p i
expr_step (Expr-F.Signed x p e) = s.Signed x p e
expr_step (Expr-F.NumberLiteral p n) = s.NumberLiteral p n
expr_step (Expr-F.CharacterLiteral p n) = s.CharacterLiteral p n
expr_step (Expr-F.StringLiteral p bytes) = s.StringLiteral p bytes
expr_step (Expr-F.Truth p b) = s.Truth p b
expr_step (Expr-F.Parenthesis p e) = s.Parenthesis p e
expr_step (Expr-F.Reference l) = s.Reference l
expr_step (Expr-F.Constructor x) = s.Constructor x.place (join_items x.item)
expr_step (Expr-F.Raised r) = s.Raised r

abbrev pub field_list_step : Layer FieldList-F → s.FieldList
field_list_step (FieldList-F.WithNames fs) = s.WithNames (join_fields fs)
field_list_step (FieldList-F.Unnamed ts) = s.Unnamed (join_types ts)

abbrev pub plain_item_step : Layer PlainItem-F → s.PlainItem
plain_item_step (PlainItem-F.TypeIs t) = s.TypeIs t
plain_item_step (PlainItem-F.Variable t) = s.Variable t
plain_item_step (PlainItem-F.Initial t e) = s.Initial t e
plain_item_step (PlainItem-F.Constant t e) = s.Constant t e

abbrev pub raise_step : Layer Raise-F → s.Raise
raise_step (Raise-F.SignalRaise p name b) = s.SignalRaise p name (or_no_brackets b)
raise_step (Raise-F.ErrorRaise p name b) = s.ErrorRaise p name (or_no_brackets b)
raise_step (Raise-F.UnnamedError p) = s.UnnamedError p

abbrev pub statement_step : Layer Statement-F → s.Statement
statement_step (Statement-F.Null p) = s.Null p
statement_step (Statement-F.Nested b) = s.Nested b
statement_step (Statement-F.Assign l e) = s.Assign l e
statement_step (Statement-F.Extract p ts e) = s.Extract p (join_targets ts) e
statement_step (Statement-F.Call l) = s.Call l
statement_step (Statement-F.RaiseStatement r) = s.RaiseStatement r
statement_step (Statement-F.If p e x y) = s.If p e x (or_no_statement y)
statement_step (Statement-F.Select p e cs y) = s.Select p e (chain cs s.NoCases) (or_no_statement y)
statement_step (Statement-F.Loop c p enable xs rs) = s.Loop c p (join_phrase enable) (join_statements xs) (join_repeats rs)
statement_step (Statement-F.ExitLoop p) = s.ExitLoop p
statement_step (Statement-F.NextTurn p) = s.NextTurn p
statement_step (Statement-F.Goto p label) = s.Goto p label
statement_step (Statement-F.Return p x) = s.Return p (or_no_items x)
statement_step (Statement-F.Resume p x) = s.Resume p (or_no_items x)
statement_step (Statement-F.Reject p) = s.Reject p
statement_step (Statement-F.Retry p) = s.Retry p
statement_step (Statement-F.Continue p) = s.Continue p

abbrev pub suffix_step : Layer Suffix-F → s.Suffixes → s.Suffixes
suffix_step (Suffix-F.Field name) = s.Field name
suffix_step (Suffix-F.Applied b) = s.Applied b

abbrev pub test_step : Layer Test-F → s.Tests → s.Tests
test_step (Test-F.Value e) = s.Value e
test_step (Test-F.Compared negated r p e) = s.Compared negated r p e
test_step (Test-F.Inside negated p i) = s.Inside negated p i

abbrev pub type_exp_step : Layer TypeExp-F → s.TypeExp
type_exp_step (TypeExp-F.Integer p) = s.Integer p
type_exp_step (TypeExp-F.Cardinal p) = s.Cardinal p
type_exp_step (TypeExp-F.LongInteger p) = s.LongInteger p
type_exp_step (TypeExp-F.LongCardinal p) = s.LongCardinal p
type_exp_step (TypeExp-F.Boolean p) = s.Boolean p
type_exp_step (TypeExp-F.Character p) = s.Character p
type_exp_step (TypeExp-F.String p) = s.String p
type_exp_step (TypeExp-F.Called name) = s.Called name
type_exp_step (TypeExp-F.Enumeration p names) = s.Enumeration p names
type_exp_step (TypeExp-F.Subrange b i) = s.Subrange b i
type_exp_step (TypeExp-F.Array p index element) = s.Array p index element
type_exp_step (TypeExp-F.Record p fields) = s.Record p fields

abbrev pub arm_step : Layer Arm-F → s.Arms → s.Arms
arm_step a = s.AndArm a.labels a.body

abbrev pub block_step : Layer Block-F → s.Block
block_step b = s.BlockOf b.place (join_phrase b.enable) (join_locals b.locals) (join_statements b.statements) (join_exits b.exits)

abbrev pub brackets_step : Layer Brackets-F → s.Brackets
brackets_step b = s.BracketsOf b.place (join_items b.items) (join_phrase b.catch)

abbrev pub case_step : Layer Case-F → s.Cases → s.Cases
case_step c = s.AndCase (chain c.tests s.NoTests) c.body

abbrev pub control_step : Layer Control-F → s.Control
control_step c = s.ControlOf (or_no_count c.count) (or_always c.condition)

abbrev pub interval_step : Layer Interval-F → s.Interval
interval_step i = s.Between i.place i.is_open_below i.low i.high i.is_open_above

abbrev pub left_step : Layer Left-F → s.Left
left_step l = s.LeftOf l.name (chain l.suffixes s.NoSuffix)

abbrev pub operation_step : Layer Operation-F → s.Operations → s.Operations
operation_step o = s.AndOperation o.operator o.place o.right

-- ---- trees

-- a tree by its fold
abbrev pub by_layers : {X Y : Type 0} → ((Layer Condition-F → s.Condition) → (Layer Count-F → s.Count) → (Layer Expr-F → s.Expr) →
    (Layer FieldList-F → s.FieldList) → (Layer PlainItem-F → s.PlainItem) → (Layer Raise-F → s.Raise) → (Layer Statement-F → s.Statement) →
    (Layer Suffix-F → (s.Suffixes → s.Suffixes)) → (Layer Test-F → (s.Tests → s.Tests)) → (Layer TypeExp-F → s.TypeExp) → (Layer Arm-F → (s.Arms → s.Arms)) →
    (Layer Block-F → s.Block) → (Layer Brackets-F → s.Brackets) → (Layer Case-F → (s.Cases → s.Cases)) → (Layer Control-F → s.Control) →
    (Layer Interval-F → s.Interval) → (Layer Left-F → s.Left) → (Layer Operation-F → (s.Operations → s.Operations)) → X → Y) → X → Y
by_layers fold = fold condition_step count_step expr_step field_list_step plain_item_step raise_step statement_step suffix_step test_step type_exp_step
    arm_step block_step brackets_step case_step control_step interval_step left_step operation_step

unfoldable pub condition : Condition → s.Condition
condition = by_layers (fold-Condition s.Condition s.Count s.Expr s.FieldList s.PlainItem s.Raise s.Statement (s.Suffixes → s.Suffixes) (s.Tests → s.Tests)
    s.TypeExp (s.Arms → s.Arms) s.Block s.Brackets (s.Cases → s.Cases) s.Control s.Interval s.Left (s.Operations → s.Operations))

unfoldable pub count : Count → s.Count
count = by_layers (fold-Count s.Condition s.Count s.Expr s.FieldList s.PlainItem s.Raise s.Statement (s.Suffixes → s.Suffixes) (s.Tests → s.Tests) s.TypeExp
    (s.Arms → s.Arms) s.Block s.Brackets (s.Cases → s.Cases) s.Control s.Interval s.Left (s.Operations → s.Operations))

unfoldable pub expr : Expr → s.Expr
expr = by_layers (fold-Expr s.Condition s.Count s.Expr s.FieldList s.PlainItem s.Raise s.Statement (s.Suffixes → s.Suffixes) (s.Tests → s.Tests) s.TypeExp
    (s.Arms → s.Arms) s.Block s.Brackets (s.Cases → s.Cases) s.Control s.Interval s.Left (s.Operations → s.Operations))

unfoldable pub field_list : FieldList → s.FieldList
field_list = by_layers (fold-FieldList s.Condition s.Count s.Expr s.FieldList s.PlainItem s.Raise s.Statement (s.Suffixes → s.Suffixes) (s.Tests → s.Tests)
    s.TypeExp (s.Arms → s.Arms) s.Block s.Brackets (s.Cases → s.Cases) s.Control s.Interval s.Left (s.Operations → s.Operations))

unfoldable pub plain_item : PlainItem → s.PlainItem
plain_item = by_layers (fold-PlainItem s.Condition s.Count s.Expr s.FieldList s.PlainItem s.Raise s.Statement (s.Suffixes → s.Suffixes) (s.Tests → s.Tests)
    s.TypeExp (s.Arms → s.Arms) s.Block s.Brackets (s.Cases → s.Cases) s.Control s.Interval s.Left (s.Operations → s.Operations))

unfoldable pub raise : Raise → s.Raise
raise = by_layers (fold-Raise s.Condition s.Count s.Expr s.FieldList s.PlainItem s.Raise s.Statement (s.Suffixes → s.Suffixes) (s.Tests → s.Tests) s.TypeExp
    (s.Arms → s.Arms) s.Block s.Brackets (s.Cases → s.Cases) s.Control s.Interval s.Left (s.Operations → s.Operations))

unfoldable pub statement : Statement → s.Statement
statement = by_layers (fold-Statement s.Condition s.Count s.Expr s.FieldList s.PlainItem s.Raise s.Statement (s.Suffixes → s.Suffixes) (s.Tests → s.Tests)
    s.TypeExp (s.Arms → s.Arms) s.Block s.Brackets (s.Cases → s.Cases) s.Control s.Interval s.Left (s.Operations → s.Operations))

unfoldable pub suffix : Suffix → s.Suffixes → s.Suffixes
suffix = by_layers (fold-Suffix s.Condition s.Count s.Expr s.FieldList s.PlainItem s.Raise s.Statement (s.Suffixes → s.Suffixes) (s.Tests → s.Tests) s.TypeExp
    (s.Arms → s.Arms) s.Block s.Brackets (s.Cases → s.Cases) s.Control s.Interval s.Left (s.Operations → s.Operations))

unfoldable pub test : Test → s.Tests → s.Tests
test = by_layers (fold-Test s.Condition s.Count s.Expr s.FieldList s.PlainItem s.Raise s.Statement (s.Suffixes → s.Suffixes) (s.Tests → s.Tests) s.TypeExp
    (s.Arms → s.Arms) s.Block s.Brackets (s.Cases → s.Cases) s.Control s.Interval s.Left (s.Operations → s.Operations))

unfoldable pub type_exp : TypeExp → s.TypeExp
type_exp = by_layers (fold-TypeExp s.Condition s.Count s.Expr s.FieldList s.PlainItem s.Raise s.Statement (s.Suffixes → s.Suffixes) (s.Tests → s.Tests)
    s.TypeExp (s.Arms → s.Arms) s.Block s.Brackets (s.Cases → s.Cases) s.Control s.Interval s.Left (s.Operations → s.Operations))

unfoldable pub arm : Arm → s.Arms → s.Arms
arm = by_layers (fold-Arm s.Condition s.Count s.Expr s.FieldList s.PlainItem s.Raise s.Statement (s.Suffixes → s.Suffixes) (s.Tests → s.Tests) s.TypeExp
    (s.Arms → s.Arms) s.Block s.Brackets (s.Cases → s.Cases) s.Control s.Interval s.Left (s.Operations → s.Operations))

unfoldable pub block : Block → s.Block
block = by_layers (fold-Block s.Condition s.Count s.Expr s.FieldList s.PlainItem s.Raise s.Statement (s.Suffixes → s.Suffixes) (s.Tests → s.Tests) s.TypeExp
    (s.Arms → s.Arms) s.Block s.Brackets (s.Cases → s.Cases) s.Control s.Interval s.Left (s.Operations → s.Operations))

unfoldable pub brackets : Brackets → s.Brackets
brackets = by_layers (fold-Brackets s.Condition s.Count s.Expr s.FieldList s.PlainItem s.Raise s.Statement (s.Suffixes → s.Suffixes) (s.Tests → s.Tests)
    s.TypeExp (s.Arms → s.Arms) s.Block s.Brackets (s.Cases → s.Cases) s.Control s.Interval s.Left (s.Operations → s.Operations))

unfoldable pub case : Case → s.Cases → s.Cases
case = by_layers (fold-Case s.Condition s.Count s.Expr s.FieldList s.PlainItem s.Raise s.Statement (s.Suffixes → s.Suffixes) (s.Tests → s.Tests) s.TypeExp
    (s.Arms → s.Arms) s.Block s.Brackets (s.Cases → s.Cases) s.Control s.Interval s.Left (s.Operations → s.Operations))

unfoldable pub control : Control → s.Control
control = by_layers (fold-Control s.Condition s.Count s.Expr s.FieldList s.PlainItem s.Raise s.Statement (s.Suffixes → s.Suffixes) (s.Tests → s.Tests)
    s.TypeExp (s.Arms → s.Arms) s.Block s.Brackets (s.Cases → s.Cases) s.Control s.Interval s.Left (s.Operations → s.Operations))

unfoldable pub interval : Interval → s.Interval
interval = by_layers (fold-Interval s.Condition s.Count s.Expr s.FieldList s.PlainItem s.Raise s.Statement (s.Suffixes → s.Suffixes) (s.Tests → s.Tests)
    s.TypeExp (s.Arms → s.Arms) s.Block s.Brackets (s.Cases → s.Cases) s.Control s.Interval s.Left (s.Operations → s.Operations))

unfoldable pub left : Left → s.Left
left = by_layers (fold-Left s.Condition s.Count s.Expr s.FieldList s.PlainItem s.Raise s.Statement (s.Suffixes → s.Suffixes) (s.Tests → s.Tests) s.TypeExp
    (s.Arms → s.Arms) s.Block s.Brackets (s.Cases → s.Cases) s.Control s.Interval s.Left (s.Operations → s.Operations))

unfoldable pub operation : Operation → s.Operations → s.Operations
operation = by_layers (fold-Operation s.Condition s.Count s.Expr s.FieldList s.PlainItem s.Raise s.Statement (s.Suffixes → s.Suffixes) (s.Tests → s.Tests)
    s.TypeExp (s.Arms → s.Arms) s.Block s.Brackets (s.Cases → s.Cases) s.Control s.Interval s.Left (s.Operations → s.Operations))

-- ---- lists of the code's trees

abbrev pub exprs : List Expr → s.Exprs
exprs es = join_exprs (map expr es)

abbrev pub keyed_exprs : List (Keyed Expr) → s.KeyedExprs
keyed_exprs es = join_keyed_exprs (map (λ x. record { key = x.key; item = expr x.item }) es)

abbrev pub items : Entries Expr → s.Items
items Nothing = s.Nothing
items (InOrder es) = s.InOrder (exprs es)
items (ByKey es) = s.ByKey (keyed_exprs es)

abbrev pub lefts : List Left → s.Lefts
lefts ls = join_lefts (map left ls)

abbrev pub keyed_lefts : List (Keyed Left) → s.KeyedLefts
keyed_lefts ls = join_keyed_lefts (map (λ x. record { key = x.key; item = left x.item }) ls)

abbrev pub targets : Entries Left → s.Targets
targets Nothing = s.NoTarget
targets (InOrder ls) = s.TargetsInOrder (lefts ls)
targets (ByKey ls) = s.TargetsByKey (keyed_lefts ls)

abbrev pub types : List TypeExp → s.TypeExps
types ts = join_types (map type_exp ts)

abbrev pub named_fields : List (Labeled (List Identifier) TypeExp) → s.NamedFields
named_fields fs = join_fields (map (λ x. record { labels = x.labels; item = type_exp x.item }) fs)

abbrev pub operations : List Operation → s.Operations
operations os = chain (map operation os) s.NoOperation

abbrev pub suffixes : List Suffix → s.Suffixes
suffixes xs = chain (map suffix xs) s.NoSuffix

abbrev pub tests : List Test → s.Tests
tests xs = chain (map test xs) s.NoTests

abbrev pub cases : List Case → s.Cases
cases cs = chain (map case cs) s.NoCases

abbrev pub arms : List Arm → s.Arms
arms xs = chain (map arm xs) s.NoArms

abbrev pub statements : List Statement → s.Statements
statements xs = join_statements (map statement xs)

abbrev pub locals : List (Labeled (List Identifier) PlainItem) → s.Locals
locals xs = join_locals (map (λ x. record { labels = x.labels; item = plain_item x.item }) xs)

abbrev pub exits : List (Labeled (List Identifier) Statement) → s.Exits
exits xs = join_exits (map (λ x. record { labels = x.labels; item = statement x.item }) xs)

abbrev pub repeats : List (Labeled RepeatLabels Statement) → s.Repeats
repeats xs = join_repeats (map (λ x. record { labels = x.labels; item = statement x.item }) xs)

-- ---- parts that may be absent

abbrev pub phrase : Option (Placed (List Arm)) → s.Phrase
phrase None = s.NoPhrase
phrase (Some x) = s.Catch x.place (arms x.item)

abbrev pub maybe_brackets : Option Brackets → s.MaybeBrackets
maybe_brackets None = s.NoBrackets
maybe_brackets (Some b) = s.WithBrackets (brackets b)

abbrev pub maybe_statement : Option Statement → s.MaybeStatement
maybe_statement None = s.NoStatement
maybe_statement (Some x) = s.OneStatement (statement x)

abbrev pub maybe_items : Option (Placed (Entries Expr)) → s.MaybeItems
maybe_items None = s.NoItems
maybe_items (Some x) = s.WithItems x.place (items x.item)

abbrev pub maybe_count : Option Count → s.Count
maybe_count None = s.NoCount
maybe_count (Some c) = count c

abbrev pub maybe_condition : Option Condition → s.Condition
maybe_condition None = s.Always
maybe_condition (Some c) = condition c

abbrev pub maybe_fields : Option FieldList → Option s.FieldList
maybe_fields None = None
maybe_fields (Some x) = Some (field_list x)

-- ---- modules

abbrev pub head : Head → s.Head
head h = record { takes = maybe_fields h.takes; gives = maybe_fields h.gives }

abbrev pub declared : Declared → s.Declared
declared (Procedure h body) = s.Procedure (head h) (block body)
declared (Signal h) = s.Signal (head h)
declared (Error takes) = s.Error (maybe_fields takes)
declared (Data x) = s.Data (plain_item x)

abbrev pub declaration : Declaration → s.Declaration
declaration d = record { names = d.names; access = d.access; declared = declared d.declared }

abbrev pub inner : Inner → s.Inner
inner x = record {
  enable = phrase x.enable;
  declarations = map declaration x.declarations;
  statements = statements x.statements;
  exits = exits x.exits;
}

abbrev pub defined : Defined → s.Defined
defined (ProcedureItem h) = s.ProcedureItem (head h)
defined (SignalItem h) = s.SignalItem (head h)
defined (ErrorItem takes) = s.ErrorItem (maybe_fields takes)
defined (TypeItem t) = s.TypeItem (type_exp t)
defined (ConstantItem t e) = s.ConstantItem (type_exp t) (expr e)

abbrev pub definition : Labeled (List Identifier) Defined → s.Definition
definition d = record { names = d.labels; defined = defined d.item }

abbrev pub kind : ModuleKind → s.ModuleKind
kind (Program p imports exports opens x) = s.Program p imports exports opens (inner x)
kind (Interface p opens definitions) = s.Interface p opens (map definition definitions)

abbrev pub syntax : Module → s.Module
syntax m = record { directory = m.directory; name = m.name; kind = kind m.kind }
