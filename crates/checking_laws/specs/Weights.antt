-- What stands in a syntax tree, weighed: the sum of the weights of its names and of its string literals, each wherever the text
-- writes it. Names are also the two parts of a qualified name, keys of items, fields, labels and elements of enumerations. With one
-- for each name it is the number of the text's names; with their lengths, the bytes that names and literals take.
use Rattle.std.specs.Prelude.{ℕ, ◌+◌, List, [], ◌∷◌, Option, Some, None, length}
use Rattle.mesa_base.specs.declared.identifier.Identifier.{Identifier}
use Rattle.syntax_trees.specs.declared.syntax.QualifiedName.{QualifiedName}
use Rattle.syntax_trees.specs.declared.syntax.Labels.{Labels}
use Rattle.syntax_trees.specs.declared.syntax.Labels.TheVariants.{Any, Unwind, Signals}
use Rattle.syntax_trees.specs.declared.syntax.RepeatLabels.{RepeatLabels}
use Rattle.syntax_trees.specs.declared.syntax.RepeatLabels.TheVariants as repeat
use Rattle.syntax_trees.specs.declared.syntax.TypeBase.{TypeBase}
use Rattle.syntax_trees.specs.declared.syntax.TypeBase.TheVariants.{Unsaid, OfInteger, OfCardinal, OfCharacter, OfName}
use Rattle.syntax_trees.specs.declared.syntax.DirectoryItem.{DirectoryItem}
use Rattle.syntax_trees.specs.Syntax as s

-- what a name and a string literal weigh
pub record Weights : Type 0 where
  pub of_name : List ℕ → ℕ
  pub of_text : List ℕ → ℕ

-- each name is one, and nothing else counts
abbrev pub one_each : Weights
one_each = record { of_name = λ x. 1; of_text = λ bytes. 0 }

-- each by its bytes
abbrev pub in_bytes : Weights
in_bytes = record { of_name = length; of_text = length }

unfoldable pub each_name : Weights → List Identifier → ℕ
each_name w [] = 0
each_name w (x ∷ xs) = w.of_name x.name + each_name w xs

abbrev pub second_weight : Weights → Option Identifier → ℕ
second_weight w None = 0
second_weight w (Some x) = w.of_name x.name

-- a name, or a name of an interface behind that of the interface
abbrev pub qualified_weight : Weights → QualifiedName → ℕ
qualified_weight w q = w.of_name q.first.name + second_weight w q.second

unfoldable pub each_qualified_weight : Weights → List QualifiedName → ℕ
each_qualified_weight w [] = 0
each_qualified_weight w (q ∷ qs) = qualified_weight w q + each_qualified_weight w qs

unfoldable pub labels_weight : Weights → Labels → ℕ
labels_weight w (Any p) = 0
labels_weight w (Unwind p) = 0
labels_weight w (Signals qs) = each_qualified_weight w qs

unfoldable pub repeat_weight : Weights → RepeatLabels → ℕ
repeat_weight w (repeat.Named xs) = each_name w xs
repeat_weight w (repeat.Finished p) = 0

unfoldable pub base_weight : Weights → TypeBase → ℕ
base_weight w Unsaid = 0
base_weight w (OfInteger p) = 0
base_weight w (OfCardinal p) = 0
base_weight w (OfCharacter p) = 0
base_weight w (OfName q) = qualified_weight w q

unfoldable mutual
  pub type_weight : Weights → s.TypeExp → ℕ
  type_weight w (s.Called q) = qualified_weight w q
  type_weight w (s.Enumeration p xs) = each_name w xs
  type_weight w (s.Subrange b i) = base_weight w b + interval_weight w i
  type_weight w (s.Array p i e) = type_weight w i + type_weight w e
  type_weight w (s.Record p fs) = field_list_weight w fs
  type_weight w _ = 0

  pub field_list_weight : Weights → s.FieldList → ℕ
  field_list_weight w (s.WithNames fs) = named_fields_weight w fs
  field_list_weight w (s.Unnamed es) = types_weight w es

  pub named_fields_weight : Weights → s.NamedFields → ℕ
  named_fields_weight w s.NoFields = 0
  named_fields_weight w (s.AndFields xs e fs) = each_name w xs + type_weight w e + named_fields_weight w fs

  pub types_weight : Weights → s.TypeExps → ℕ
  types_weight w s.NoTypes = 0
  types_weight w (s.AndType e es) = type_weight w e + types_weight w es

  pub interval_weight : Weights → s.Interval → ℕ
  interval_weight w (s.Between p x low high y) = expr_weight w low + expr_weight w high

  pub expr_weight : Weights → s.Expr → ℕ
  expr_weight w (s.Run e ss) = expr_weight w e + steps_weight w ss
  expr_weight w (s.Not p e) = expr_weight w e
  expr_weight w (s.Compare d b o p e) = expr_weight w d + expr_weight w e
  expr_weight w (s.Within e b p i) = expr_weight w e + interval_weight w i
  expr_weight w (s.Signed x p e) = expr_weight w e
  expr_weight w (s.NumberLiteral p n) = 0
  expr_weight w (s.CharacterLiteral p n) = 0
  expr_weight w (s.StringLiteral p bytes) = w.of_text bytes
  expr_weight w (s.Truth p b) = 0
  expr_weight w (s.Parenthesis p e) = expr_weight w e
  expr_weight w (s.Reference l) = left_weight w l
  expr_weight w (s.Constructor p items) = items_weight w items
  expr_weight w (s.Raised r) = raise_weight w r

  pub steps_weight : Weights → s.Operations → ℕ
  steps_weight w s.NoOperation = 0
  steps_weight w (s.AndOperation o p e ss) = expr_weight w e + steps_weight w ss

  pub left_weight : Weights → s.Left → ℕ
  left_weight w (s.LeftOf x ss) = w.of_name x.name + suffixes_weight w ss

  pub suffixes_weight : Weights → s.Suffixes → ℕ
  suffixes_weight w s.NoSuffix = 0
  suffixes_weight w (s.Field x ss) = w.of_name x.name + suffixes_weight w ss
  suffixes_weight w (s.Applied b ss) = brackets_weight w b + suffixes_weight w ss

  pub brackets_weight : Weights → s.Brackets → ℕ
  brackets_weight w (s.BracketsOf p items ph) = items_weight w items + phrase_weight w ph

  pub items_weight : Weights → s.Items → ℕ
  items_weight w s.Nothing = 0
  items_weight w (s.InOrder es) = exprs_weight w es
  items_weight w (s.ByKey es) = keyed_weight w es

  pub exprs_weight : Weights → s.Exprs → ℕ
  exprs_weight w s.NoExprs = 0
  exprs_weight w (s.AndExpr e es) = expr_weight w e + exprs_weight w es

  pub keyed_weight : Weights → s.KeyedExprs → ℕ
  keyed_weight w s.NoKeyedExprs = 0
  keyed_weight w (s.AndKeyedExpr x e es) = w.of_name x.name + expr_weight w e + keyed_weight w es

  pub raise_weight : Weights → s.Raise → ℕ
  raise_weight w (s.SignalRaise p q b) = qualified_weight w q + maybe_brackets_weight w b
  raise_weight w (s.ErrorRaise p q b) = qualified_weight w q + maybe_brackets_weight w b
  raise_weight w (s.UnnamedError p) = 0

  pub maybe_brackets_weight : Weights → s.MaybeBrackets → ℕ
  maybe_brackets_weight w s.NoBrackets = 0
  maybe_brackets_weight w (s.WithBrackets b) = brackets_weight w b

  pub phrase_weight : Weights → s.Phrase → ℕ
  phrase_weight w s.NoPhrase = 0
  phrase_weight w (s.Catch p xs) = arms_weight w xs

  pub arms_weight : Weights → s.Arms → ℕ
  arms_weight w s.NoArms = 0
  arms_weight w (s.AndArm ls body rest) = labels_weight w ls + statement_weight w body + arms_weight w rest

  pub statement_weight : Weights → s.Statement → ℕ
  statement_weight w (s.Nested b) = block_weight w b
  statement_weight w (s.Assign l e) = left_weight w l + expr_weight w e
  statement_weight w (s.Extract p ts e) = targets_weight w ts + expr_weight w e
  statement_weight w (s.Call l) = left_weight w l
  statement_weight w (s.RaiseStatement r) = raise_weight w r
  statement_weight w (s.If p e body other) = expr_weight w e + statement_weight w body + other_weight w other
  statement_weight w (s.Select p e cs other) = expr_weight w e + cases_weight w cs + other_weight w other
  statement_weight w (s.Loop c p ph ss rs) = control_weight w c + phrase_weight w ph + statements_weight w ss + repeats_weight w rs
  statement_weight w (s.Goto p x) = w.of_name x.name
  statement_weight w (s.Return p items) = maybe_items_weight w items
  statement_weight w (s.Resume p items) = maybe_items_weight w items
  statement_weight w _ = 0

  pub other_weight : Weights → s.MaybeStatement → ℕ
  other_weight w s.NoStatement = 0
  other_weight w (s.OneStatement body) = statement_weight w body

  pub maybe_items_weight : Weights → s.MaybeItems → ℕ
  maybe_items_weight w s.NoItems = 0
  maybe_items_weight w (s.WithItems p items) = items_weight w items

  pub targets_weight : Weights → s.Targets → ℕ
  targets_weight w s.NoTarget = 0
  targets_weight w (s.TargetsInOrder ls) = lefts_weight w ls
  targets_weight w (s.TargetsByKey ls) = keyed_lefts_weight w ls

  pub lefts_weight : Weights → s.Lefts → ℕ
  lefts_weight w s.NoLefts = 0
  lefts_weight w (s.AndLeft l ls) = left_weight w l + lefts_weight w ls

  pub keyed_lefts_weight : Weights → s.KeyedLefts → ℕ
  keyed_lefts_weight w s.NoKeyedLefts = 0
  keyed_lefts_weight w (s.AndKeyedLeft x l ls) = w.of_name x.name + left_weight w l + keyed_lefts_weight w ls

  pub statements_weight : Weights → s.Statements → ℕ
  statements_weight w s.NoStatements = 0
  statements_weight w (s.AndStatement body ss) = statement_weight w body + statements_weight w ss

  pub control_weight : Weights → s.Control → ℕ
  control_weight w (s.ControlOf n c) = count_weight w n + condition_weight w c

  pub count_weight : Weights → s.Count → ℕ
  count_weight w s.NoCount = 0
  count_weight w (s.For p x down i) = w.of_name x.name + interval_weight w i
  count_weight w (s.Through p i) = interval_weight w i

  pub condition_weight : Weights → s.Condition → ℕ
  condition_weight w s.Always = 0
  condition_weight w (s.While p e) = expr_weight w e
  condition_weight w (s.Until p e) = expr_weight w e

  pub cases_weight : Weights → s.Cases → ℕ
  cases_weight w s.NoCases = 0
  cases_weight w (s.AndCase ts body cs) = tests_weight w ts + statement_weight w body + cases_weight w cs

  pub tests_weight : Weights → s.Tests → ℕ
  tests_weight w s.NoTests = 0
  tests_weight w (s.Value e ts) = expr_weight w e + tests_weight w ts
  tests_weight w (s.Compared b o p e ts) = expr_weight w e + tests_weight w ts
  tests_weight w (s.Inside b p i ts) = interval_weight w i + tests_weight w ts

  pub block_weight : Weights → s.Block → ℕ
  block_weight w (s.BlockOf p ph locals ss es) = phrase_weight w ph + locals_weight w locals + statements_weight w ss + exits_weight w es

  pub locals_weight : Weights → s.Locals → ℕ
  locals_weight w s.NoLocals = 0
  locals_weight w (s.AndLocal xs d rest) = each_name w xs + plain_item_weight w d + locals_weight w rest

  pub plain_item_weight : Weights → s.PlainItem → ℕ
  plain_item_weight w (s.TypeIs e) = type_weight w e
  plain_item_weight w (s.Variable e) = type_weight w e
  plain_item_weight w (s.Initial e x) = type_weight w e + expr_weight w x
  plain_item_weight w (s.Constant e x) = type_weight w e + expr_weight w x

  pub exits_weight : Weights → s.Exits → ℕ
  exits_weight w s.NoExits = 0
  exits_weight w (s.AndExit xs body es) = each_name w xs + statement_weight w body + exits_weight w es

  pub repeats_weight : Weights → s.Repeats → ℕ
  repeats_weight w s.NoRepeats = 0
  repeats_weight w (s.AndRepeat ls body rs) = repeat_weight w ls + statement_weight w body + repeats_weight w rs

unfoldable pub maybe_fields_weight : Weights → Option s.FieldList → ℕ
maybe_fields_weight w None = 0
maybe_fields_weight w (Some fs) = field_list_weight w fs

unfoldable pub head_weight : Weights → s.Head → ℕ
head_weight w h = maybe_fields_weight w h.takes + maybe_fields_weight w h.gives

unfoldable pub declared_weight : Weights → s.Declared → ℕ
declared_weight w (s.Procedure h b) = head_weight w h + block_weight w b
declared_weight w (s.Signal h) = head_weight w h
declared_weight w (s.Error takes) = maybe_fields_weight w takes
declared_weight w (s.Data d) = plain_item_weight w d

unfoldable pub declarations_weight : Weights → List s.Declaration → ℕ
declarations_weight w [] = 0
declarations_weight w (d ∷ ds) = each_name w d.names + declared_weight w d.declared + declarations_weight w ds

unfoldable pub inner_weight : Weights → s.Inner → ℕ
inner_weight w x = phrase_weight w x.enable + declarations_weight w x.declarations + statements_weight w x.statements + exits_weight w x.exits

unfoldable pub defined_weight : Weights → s.Defined → ℕ
defined_weight w (s.ProcedureItem h) = head_weight w h
defined_weight w (s.SignalItem h) = head_weight w h
defined_weight w (s.ErrorItem takes) = maybe_fields_weight w takes
defined_weight w (s.TypeItem e) = type_weight w e
defined_weight w (s.ConstantItem e x) = type_weight w e + expr_weight w x

unfoldable pub definitions_weight : Weights → List s.Definition → ℕ
definitions_weight w [] = 0
definitions_weight w (d ∷ ds) = each_name w d.names + defined_weight w d.defined + definitions_weight w ds

-- what stands behind the word of a module's kind
unfoldable pub kind_weight : Weights → s.ModuleKind → ℕ
kind_weight w (s.Program p imports exports opens inner) = each_name w imports + each_name w exports + each_name w opens + inner_weight w inner
kind_weight w (s.Interface p opens defs) = each_name w opens + definitions_weight w defs

-- an item of the DIRECTORY, with the names of its USING list
abbrev pub using_weight : Weights → Option (List Identifier) → ℕ
using_weight w None = 0
using_weight w (Some xs) = each_name w xs

unfoldable pub directory_weight : Weights → List DirectoryItem → ℕ
directory_weight w [] = 0
directory_weight w (d ∷ ds) = w.of_name d.name.name + using_weight w d.used + directory_weight w ds

unfoldable pub module_weight : Weights → s.Module → ℕ
module_weight w m = directory_weight w m.directory + w.of_name m.name.name + kind_weight w m.kind
