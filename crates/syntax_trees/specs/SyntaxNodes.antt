-- How many nodes a syntax tree has: the module, a declared name, a type expression, a statement, an expression, a target, a test,
-- an interval, an arm or a label; a run of operators counts one for each operator (rule of this project). NOT, a sign, a relation,
-- IN and a parenthesis count one expression each, besides what stands in them. A name is one expression, target or statement, and
-- each field or pair of brackets behind it is one expression more. A head counts one type expression, and so does the type before
-- an interval. A block is a statement, also as the body of a procedure, and the body of a program is one too. The interfaces of
-- DIRECTORY are declared names; the names of USING, IMPORTS, EXPORTS and OPEN are declared elsewhere and count nothing.
use Rattle.std.specs.Prelude.{ℕ, ◌+◌, Bool, true, false, List, [], ◌∷◌, length, Option, Some, None}
use Rattle.syntax_trees.specs.Syntax.{Labels, Any, Unwind, Signals, RepeatLabels, Named, Finished}
use Rattle.syntax_trees.specs.Syntax.{TypeBase, Unsaid, OfInteger, OfCardinal, OfCharacter, OfName}
use Rattle.syntax_trees.specs.Syntax.{TypeExp, Integer, Cardinal, LongInteger, LongCardinal, Boolean, Character, String, Called, Enumeration, Subrange, Array, Record}
use Rattle.syntax_trees.specs.Syntax.{FieldList, WithNames, Unnamed, NamedFields, NoFields, AndFields, TypeExps, NoTypes, AndType}
use Rattle.syntax_trees.specs.Syntax.{Interval, Between, Expr, Run, Not, Compare, Within, Signed, NumberLiteral, CharacterLiteral, StringLiteral}
use Rattle.syntax_trees.specs.Syntax.{Truth, Parenthesis, Reference, Constructor, Raised, Operations, NoOperation, AndOperation}
use Rattle.syntax_trees.specs.Syntax.{Left, LeftOf, Suffixes, NoSuffix, Field, Applied, Brackets, BracketsOf, Items, Nothing, InOrder, ByKey}
use Rattle.syntax_trees.specs.Syntax.{Exprs, NoExprs, AndExpr, KeyedExprs, NoKeyedExprs, AndKeyedExpr, Raise, SignalRaise, ErrorRaise, UnnamedError}
use Rattle.syntax_trees.specs.Syntax.{MaybeBrackets, NoBrackets, WithBrackets, Phrase, NoPhrase, Catch, Arms, NoArms, AndArm}
use Rattle.syntax_trees.specs.Syntax.{Statement, Null, Nested, Assign, Extract, Call, RaiseStatement, If, Select, Loop, ExitLoop, NextTurn, Goto}
use Rattle.syntax_trees.specs.Syntax.{Return, Resume, Reject, Retry, Continue, MaybeStatement, NoStatement, OneStatement, MaybeItems, NoItems, WithItems}
use Rattle.syntax_trees.specs.Syntax.{Targets, NoTarget, TargetsInOrder, TargetsByKey, Lefts, NoLefts, AndLeft, KeyedLefts, NoKeyedLefts, AndKeyedLeft}
use Rattle.syntax_trees.specs.Syntax.{Statements, NoStatements, AndStatement, Control, ControlOf, Count, NoCount, For, Through, Condition, Always, While}
use Rattle.syntax_trees.specs.Syntax.{Until, Cases, NoCases, AndCase, Tests, NoTests, Value, Compared, Inside, Block, BlockOf, Locals, NoLocals, AndLocal}
use Rattle.syntax_trees.specs.Syntax.{PlainItem, TypeIs, Variable, Initial, Constant, Exits, NoExits, AndExit, Repeats, NoRepeats, AndRepeat}
use Rattle.syntax_trees.specs.Syntax.{Head, Declared, Procedure, Signal, Error, Data, Declaration, Inner}
use Rattle.syntax_trees.specs.Syntax.{Defined, ProcedureItem, SignalItem, ErrorItem, TypeItem, ConstantItem, Definition, ModuleKind, Program, Interface, Module}
use Rattle.syntax_trees.specs.PlainSyntax.{syntax}
use Rattle.syntax_trees.specs.declared.syntax.Module.{Module as CodeModule}

-- the labels of an arm
abbrev pub labels_nodes : Labels → ℕ
labels_nodes (Any p) = 1
labels_nodes (Unwind p) = 1
labels_nodes (Signals names) = length names

-- the labels of a way out of a loop
abbrev pub repeat_labels_nodes : RepeatLabels → ℕ
repeat_labels_nodes (Named names) = length names
repeat_labels_nodes (Finished p) = 1

-- the type before an interval
abbrev pub base_nodes : TypeBase → ℕ
base_nodes Unsaid = 0
base_nodes (OfInteger p) = 1
base_nodes (OfCardinal p) = 1
base_nodes (OfCharacter p) = 1
base_nodes (OfName name) = 1

-- a NOT before a relation or IN
abbrev pub negation_nodes : Bool → ℕ
negation_nodes false = 0
negation_nodes true = 1

unfoldable mutual
  pub type_nodes : TypeExp → ℕ
  type_nodes (Integer p) = 1
  type_nodes (Cardinal p) = 1
  type_nodes (LongInteger p) = 1
  type_nodes (LongCardinal p) = 1
  type_nodes (Boolean p) = 1
  type_nodes (Character p) = 1
  type_nodes (String p) = 1
  type_nodes (Called name) = 1
  type_nodes (Enumeration p names) = 1 + length names
  type_nodes (Subrange b i) = 1 + base_nodes b + interval_nodes i
  type_nodes (Array p index element) = 1 + type_nodes index + type_nodes element
  type_nodes (Record p fs) = 1 + field_list_nodes fs

  pub field_list_nodes : FieldList → ℕ
  field_list_nodes (WithNames fs) = named_fields_nodes fs
  field_list_nodes (Unnamed ts) = types_nodes ts

  pub named_fields_nodes : NamedFields → ℕ
  named_fields_nodes NoFields = 0
  named_fields_nodes (AndFields names t fs) = (length names + type_nodes t) + named_fields_nodes fs

  pub types_nodes : TypeExps → ℕ
  types_nodes NoTypes = 0
  types_nodes (AndType t ts) = type_nodes t + types_nodes ts

  pub interval_nodes : Interval → ℕ
  interval_nodes (Between p open_below low high open_above) = 1 + expr_nodes low + expr_nodes high

  pub expr_nodes : Expr → ℕ
  expr_nodes (Run e os) = expr_nodes e + operations_nodes os
  expr_nodes (Not p e) = 1 + expr_nodes e
  expr_nodes (Compare d negated r p e) = 1 + negation_nodes negated + expr_nodes d + expr_nodes e
  expr_nodes (Within e negated p i) = 1 + negation_nodes negated + expr_nodes e + interval_nodes i
  expr_nodes (Signed x p e) = 1 + expr_nodes e
  expr_nodes (NumberLiteral p n) = 1
  expr_nodes (CharacterLiteral p n) = 1
  expr_nodes (StringLiteral p bytes) = 1
  expr_nodes (Truth p b) = 1
  expr_nodes (Parenthesis p e) = 1 + expr_nodes e
  expr_nodes (Reference l) = left_nodes l
  expr_nodes (Constructor p xs) = 1 + items_nodes xs
  expr_nodes (Raised r) = raise_nodes r

  -- an operator, and the operand to its right
  pub operations_nodes : Operations → ℕ
  operations_nodes NoOperation = 0
  operations_nodes (AndOperation o p e os) = (1 + expr_nodes e) + operations_nodes os

  pub left_nodes : Left → ℕ
  left_nodes (LeftOf name xs) = 1 + suffixes_nodes xs

  pub suffixes_nodes : Suffixes → ℕ
  suffixes_nodes NoSuffix = 0
  suffixes_nodes (Field name xs) = 1 + suffixes_nodes xs
  suffixes_nodes (Applied b xs) = (1 + brackets_nodes b) + suffixes_nodes xs

  pub brackets_nodes : Brackets → ℕ
  brackets_nodes (BracketsOf p xs catch) = items_nodes xs + phrase_nodes catch

  -- the key of an item is no node
  pub items_nodes : Items → ℕ
  items_nodes Nothing = 0
  items_nodes (InOrder es) = exprs_nodes es
  items_nodes (ByKey es) = keyed_exprs_nodes es

  pub exprs_nodes : Exprs → ℕ
  exprs_nodes NoExprs = 0
  exprs_nodes (AndExpr e es) = expr_nodes e + exprs_nodes es

  pub keyed_exprs_nodes : KeyedExprs → ℕ
  keyed_exprs_nodes NoKeyedExprs = 0
  keyed_exprs_nodes (AndKeyedExpr key e es) = expr_nodes e + keyed_exprs_nodes es

  pub raise_nodes : Raise → ℕ
  raise_nodes (SignalRaise p name b) = 1 + maybe_brackets_nodes b
  raise_nodes (ErrorRaise p name b) = 1 + maybe_brackets_nodes b
  raise_nodes (UnnamedError p) = 1

  pub maybe_brackets_nodes : MaybeBrackets → ℕ
  maybe_brackets_nodes NoBrackets = 0
  maybe_brackets_nodes (WithBrackets b) = brackets_nodes b

  pub phrase_nodes : Phrase → ℕ
  phrase_nodes NoPhrase = 0
  phrase_nodes (Catch p xs) = arms_nodes xs

  pub arms_nodes : Arms → ℕ
  arms_nodes NoArms = 0
  arms_nodes (AndArm ls x xs) = (1 + labels_nodes ls + statement_nodes x) + arms_nodes xs

  -- a call or a raise is the statement itself; the label of GOTO counts
  pub statement_nodes : Statement → ℕ
  statement_nodes (Null p) = 1
  statement_nodes (Nested b) = block_nodes b
  statement_nodes (Assign l e) = 1 + left_nodes l + expr_nodes e
  statement_nodes (Extract p ts e) = 1 + targets_nodes ts + expr_nodes e
  statement_nodes (Call l) = left_nodes l
  statement_nodes (RaiseStatement r) = raise_nodes r
  statement_nodes (If p e x y) = 1 + expr_nodes e + statement_nodes x + maybe_statement_nodes y
  statement_nodes (Select p e cs y) = 1 + expr_nodes e + cases_nodes cs + maybe_statement_nodes y
  statement_nodes (Loop c p enable xs rs) = 1 + control_nodes c + phrase_nodes enable + statements_nodes xs + repeats_nodes rs
  statement_nodes (ExitLoop p) = 1
  statement_nodes (NextTurn p) = 1
  statement_nodes (Goto p label) = 2
  statement_nodes (Return p x) = 1 + maybe_items_nodes x
  statement_nodes (Resume p x) = 1 + maybe_items_nodes x
  statement_nodes (Reject p) = 1
  statement_nodes (Retry p) = 1
  statement_nodes (Continue p) = 1

  pub maybe_statement_nodes : MaybeStatement → ℕ
  maybe_statement_nodes NoStatement = 0
  maybe_statement_nodes (OneStatement x) = statement_nodes x

  -- values in brackets are an expression
  pub maybe_items_nodes : MaybeItems → ℕ
  maybe_items_nodes NoItems = 0
  maybe_items_nodes (WithItems p xs) = 1 + items_nodes xs

  pub targets_nodes : Targets → ℕ
  targets_nodes NoTarget = 0
  targets_nodes (TargetsInOrder ls) = lefts_nodes ls
  targets_nodes (TargetsByKey ls) = keyed_lefts_nodes ls

  pub lefts_nodes : Lefts → ℕ
  lefts_nodes NoLefts = 0
  lefts_nodes (AndLeft l ls) = left_nodes l + lefts_nodes ls

  pub keyed_lefts_nodes : KeyedLefts → ℕ
  keyed_lefts_nodes NoKeyedLefts = 0
  keyed_lefts_nodes (AndKeyedLeft key l ls) = left_nodes l + keyed_lefts_nodes ls

  pub statements_nodes : Statements → ℕ
  statements_nodes NoStatements = 0
  statements_nodes (AndStatement x xs) = statement_nodes x + statements_nodes xs

  pub control_nodes : Control → ℕ
  control_nodes (ControlOf a b) = count_nodes a + condition_nodes b

  -- the variable of FOR is a target
  pub count_nodes : Count → ℕ
  count_nodes NoCount = 0
  count_nodes (For p variable decreasing i) = 1 + interval_nodes i
  count_nodes (Through p i) = interval_nodes i

  pub condition_nodes : Condition → ℕ
  condition_nodes Always = 0
  condition_nodes (While p e) = expr_nodes e
  condition_nodes (Until p e) = expr_nodes e

  pub cases_nodes : Cases → ℕ
  cases_nodes NoCases = 0
  cases_nodes (AndCase ts x cs) = (tests_nodes ts + statement_nodes x) + cases_nodes cs

  -- a relation and IN count in a test as they do in an expression
  pub tests_nodes : Tests → ℕ
  tests_nodes NoTests = 0
  tests_nodes (Value e ts) = (1 + expr_nodes e) + tests_nodes ts
  tests_nodes (Compared negated r p e ts) = (2 + negation_nodes negated + expr_nodes e) + tests_nodes ts
  tests_nodes (Inside negated p i ts) = (2 + negation_nodes negated + interval_nodes i) + tests_nodes ts

  pub block_nodes : Block → ℕ
  block_nodes (BlockOf p enable ls xs es) = 1 + phrase_nodes enable + locals_nodes ls + statements_nodes xs + exits_nodes es

  pub locals_nodes : Locals → ℕ
  locals_nodes NoLocals = 0
  locals_nodes (AndLocal names x ls) = (length names + plain_item_nodes x) + locals_nodes ls

  pub plain_item_nodes : PlainItem → ℕ
  plain_item_nodes (TypeIs t) = type_nodes t
  plain_item_nodes (Variable t) = type_nodes t
  plain_item_nodes (Initial t e) = type_nodes t + expr_nodes e
  plain_item_nodes (Constant t e) = type_nodes t + expr_nodes e

  pub exits_nodes : Exits → ℕ
  exits_nodes NoExits = 0
  exits_nodes (AndExit labels x es) = (length labels + statement_nodes x) + exits_nodes es

  pub repeats_nodes : Repeats → ℕ
  repeats_nodes NoRepeats = 0
  repeats_nodes (AndRepeat labels x rs) = (repeat_labels_nodes labels + statement_nodes x) + repeats_nodes rs

unfoldable pub maybe_fields_nodes : Option FieldList → ℕ
maybe_fields_nodes None = 0
maybe_fields_nodes (Some fs) = field_list_nodes fs

unfoldable pub head_nodes : Head → ℕ
head_nodes h = 1 + maybe_fields_nodes h.takes + maybe_fields_nodes h.gives

unfoldable pub declared_nodes : Declared → ℕ
declared_nodes (Procedure head body) = head_nodes head + block_nodes body
declared_nodes (Signal head) = head_nodes head
declared_nodes (Error takes) = 1 + maybe_fields_nodes takes
declared_nodes (Data x) = plain_item_nodes x

unfoldable pub declaration_nodes : Declaration → ℕ
declaration_nodes d = length d.names + declared_nodes d.declared

unfoldable pub declarations_nodes : List Declaration → ℕ
declarations_nodes [] = 0
declarations_nodes (d ∷ ds) = declaration_nodes d + declarations_nodes ds

unfoldable pub inner_nodes : Inner → ℕ
inner_nodes x = 1 + phrase_nodes x.enable + declarations_nodes x.declarations + statements_nodes x.statements + exits_nodes x.exits

unfoldable pub defined_nodes : Defined → ℕ
defined_nodes (ProcedureItem head) = head_nodes head
defined_nodes (SignalItem head) = head_nodes head
defined_nodes (ErrorItem takes) = 1 + maybe_fields_nodes takes
defined_nodes (TypeItem t) = type_nodes t
defined_nodes (ConstantItem t e) = type_nodes t + expr_nodes e

unfoldable pub definition_nodes : Definition → ℕ
definition_nodes d = length d.names + defined_nodes d.defined

unfoldable pub definitions_nodes : List Definition → ℕ
definitions_nodes [] = 0
definitions_nodes (d ∷ ds) = definition_nodes d + definitions_nodes ds

unfoldable pub kind_nodes : ModuleKind → ℕ
kind_nodes (Program p imports exports opens x) = inner_nodes x
kind_nodes (Interface p opens definitions) = definitions_nodes definitions

unfoldable pub module_nodes : Module → ℕ
module_nodes m = 1 + length m.directory + kind_nodes m.kind

-- of a tree of the code
unfoldable pub nodes : CodeModule → ℕ
nodes m = module_nodes (syntax m)
