-- The grammar's side inside modules: what is read of tokens within their limits is written and has names, and the tokens behind it
-- are within their limits. By induction over readings, with one clause for each row of the grammar.
use Rattle.std.proofs.Common.{List, [], ◌∷◌, ◌++◌, Option, Some, None, true, false, map}
use Rattle.mesa_lexer.specs.declared.token.Token.{Token}
use Rattle.mesa_base.specs.declared.place.Place.{Place}
use Rattle.mesa_base.specs.declared.identifier.Identifier.{Identifier}
use Rattle.mesa_base.specs.declared.placed.Placed.{Placed}
use Rattle.mesa_base.specs.Chain.{chain}
use Rattle.syntax_trees.specs.declared.syntax.Keyed.{Keyed}
use Rattle.syntax_trees.specs.declared.syntax.Labeled.{Labeled}
use Rattle.syntax_trees.specs.declared.syntax.Entries.{Entries}
use Rattle.syntax_trees.specs.declared.syntax.Operator.{Operator}
use Rattle.syntax_trees.specs.declared.syntax.RepeatLabels.{RepeatLabels}
use Rattle.syntax_trees.specs.declared.syntax.TypeExp.{TypeExp}
use Rattle.syntax_trees.specs.declared.syntax.FieldList.{FieldList}
use Rattle.syntax_trees.specs.declared.syntax.Interval.{Interval}
use Rattle.syntax_trees.specs.declared.syntax.Expr.{Expr}
use Rattle.syntax_trees.specs.declared.syntax.Operation.{Operation}
use Rattle.syntax_trees.specs.declared.syntax.Left.{Left}
use Rattle.syntax_trees.specs.declared.syntax.Suffix.{Suffix}
use Rattle.syntax_trees.specs.declared.syntax.Suffix.TheVariants.{Field, Applied}
use Rattle.syntax_trees.specs.declared.syntax.Brackets.{Brackets}
use Rattle.syntax_trees.specs.declared.syntax.Raise.{Raise}
use Rattle.syntax_trees.specs.declared.syntax.Arm.{Arm}
use Rattle.syntax_trees.specs.declared.syntax.Statement.{Statement}
use Rattle.syntax_trees.specs.declared.syntax.Control.{Control}
use Rattle.syntax_trees.specs.declared.syntax.Count.{Count}
use Rattle.syntax_trees.specs.declared.syntax.Condition.{Condition}
use Rattle.syntax_trees.specs.declared.syntax.Case.{Case}
use Rattle.syntax_trees.specs.declared.syntax.Test.{Test}
use Rattle.syntax_trees.specs.declared.syntax.Block.{Block}
use Rattle.syntax_trees.specs.declared.syntax.PlainItem.{PlainItem}
use Rattle.syntax_trees.specs.Syntax as s
use Rattle.syntax_trees.specs.PlainSyntax as plain
use Rattle.syntax_trees.proofs.PlainForms as of
use Rattle.grammar_rules.specs.Grammar as g
use Rattle.check_rules.specs.Written as w
use Rattle.written_trees.specs.Limits.{AreWithin}
use Rattle.check_rules.specs.TreeNames as n
use Rattle.written_trees.proofs.Lists.{Both, Behind, BehindNames, whole, push_types, push_fields, has_field, has_type, push_exprs, push_keyed, push_lefts, push_keyed_lefts, push_statements, push_locals, push_exits, push_repeats, Puts, puts, puts_push}
use Rattle.written_trees.proofs.Names as names

-- ---- what is promised of each sort of tree

abbrev pub TypeRead : TypeExp → List Token → Type 0
TypeRead x rest = Both w.TypeWritten n.TypeNamed (plain.type_exp x) (AreWithin rest)

-- fields of a record: there is one
abbrev Fields : s.FieldList → Type 0
Fields x = w.HasField x × w.FieldsWritten x

abbrev pub FieldsRead : FieldList → List Token → Type 0
FieldsRead x rest = Both Fields n.FieldsNamed (plain.field_list x) (AreWithin rest)

abbrev IntervalRead : Interval → List Token → Type 0
IntervalRead x rest = Both w.IntervalWritten n.IntervalNamed (plain.interval x) (AreWithin rest)

abbrev pub ExprRead : Expr → List Token → Type 0
ExprRead x rest = Both w.ExprWritten n.ExprNamed (plain.expr x) (AreWithin rest)

abbrev LeftRead : Identifier → List Suffix → Type 0 → Type 0
LeftRead i ss R = Both w.LeftWritten n.LeftNamed (plain.left (g.left i ss)) R

abbrev ItemsRead : Entries Expr → List Token → Type 0
ItemsRead x rest = Both w.ItemsWritten n.ItemsNamed (plain.items x) (AreWithin rest)

abbrev PhraseRead : Option (Placed (List Arm)) → List Token → Type 0
PhraseRead x rest = Both w.PhraseWritten n.PhraseNamed (plain.phrase x) (AreWithin rest)

abbrev StatementRead : Statement → List Token → Type 0
StatementRead x rest = Both w.StatementWritten n.StatementNamed (plain.statement x) (AreWithin rest)

abbrev pub StatementsRead : List Statement → List Token → Type 0
StatementsRead x rest = Both w.StatementsWritten n.StatementsNamed (plain.statements x) (AreWithin rest)

abbrev pub ExitsRead : List (Labeled (List Identifier) Statement) → List Token → Type 0
ExitsRead x rest = Both w.ExitsWritten n.ExitsNamed (plain.exits x) (AreWithin rest)

abbrev pub ItemRead : PlainItem → List Token → Type 0
ItemRead x rest = Both w.ItemWritten n.ItemNamed (plain.plain_item x) (AreWithin rest)

-- ---- runs of operators, and names with their suffixes

-- operators with their operands, put before others
abbrev Steps : List Operation → Type 0
Steps ss = Puts w.StepsWritten w.StepsWritten n.StepsNamed (chain (map plain.operation ss))

-- the first operand, the operators with the others, and what stands behind
abbrev RunRead : Expr → List Operation → Type 0 → Type 0
RunRead x ss R = w.ExprWritten (plain.expr x) × n.ExprNamed (plain.expr x) × Steps ss × R

first : (x : Expr) {R : Type 0} → Both w.ExprWritten n.ExprNamed (plain.expr x) R → RunRead x [] R
first x h = (h.0, h.1, λ rest y z. (y, z), h.2)

longer : (ss : List Operation) (o : Operator) (p : Place) (y : Expr) → Steps ss → w.ExprWritten (plain.expr y) → n.ExprNamed (plain.expr y)
    → Steps (ss ++ g.step o p y ∷ [])
unfolding w.ExprWritten n.ExprNamed
longer ss o p y h a b =
    puts_push w.StepsWritten w.StepsWritten n.StepsNamed (λ _ v. v) plain.operation ss (g.step o p y) h
    (puts w.StepsWritten w.StepsWritten n.StepsNamed (of.of_operation o p y) (λ rest v z. ((a, v), (b, z))))

run : (x : Expr) (ss : List Operation) {R : Type 0} → RunRead x ss R → Both w.ExprWritten n.ExprNamed (plain.expr (g.run x ss)) R
unfolding w.ExprWritten n.ExprNamed
run x [] h = (h.0, h.1, h.3)
run x (o ∷ os) h =
    let r = h.2 s.NoOperation tt tt in
    whole w.ExprWritten n.ExprNamed (of.of_run x (o ∷ os)) (h.0, r.0) (h.1, r.1) h.3

-- suffixes, put before others
abbrev Suffixes : List Suffix → Type 0
Suffixes ss = Puts w.SuffixesWritten w.SuffixesWritten n.SuffixesNamed (chain (map plain.suffix ss))

suffixed : (ss : List Suffix) (x : Suffix) → Suffixes ss → Puts w.SuffixesWritten w.SuffixesWritten n.SuffixesNamed (plain.suffix x) → Suffixes (ss ++ x ∷ [])
suffixed ss x h k = puts_push w.SuffixesWritten w.SuffixesWritten n.SuffixesNamed (λ _ v. v) plain.suffix ss x h k

with_field : (ss : List Suffix) (j : Identifier) → Suffixes ss → n.Named j → Suffixes (ss ++ Field j ∷ [])
unfolding w.SuffixesWritten n.SuffixesNamed
with_field ss j h a = suffixed ss (Field j) h (puts w.SuffixesWritten w.SuffixesWritten n.SuffixesNamed (of.of_field j) (λ rest v z. (v, (a, z))))

with_brackets : (ss : List Suffix) (b : Brackets) → Suffixes ss → w.BracketsWritten (plain.brackets b) → n.BracketsNamed (plain.brackets b)
    → Suffixes (ss ++ Applied b ∷ [])
unfolding w.SuffixesWritten n.SuffixesNamed
with_brackets ss b h x y = suffixed ss (Applied b) h (puts w.SuffixesWritten w.SuffixesWritten n.SuffixesNamed (of.of_applied b) (λ rest v z. ((x, v), (y, z))))

-- a name with its suffixes, and what stands behind
abbrev NameRead : Identifier → List Suffix → Type 0 → Type 0
NameRead i ss R = n.Named i × Suffixes ss × R

left : (i : Identifier) (ss : List Suffix) {R : Type 0} → NameRead i ss R → LeftRead i ss R
unfolding w.SuffixesWritten n.SuffixesNamed
left i ss h =
    let r = h.1 s.NoSuffix tt tt in
    whole w.LeftWritten n.LeftNamed (of.of_left i ss) r.0 (h.0, r.1) h.2

-- ---- catch phrases, choices and their tests

abbrev SomeArms : s.Arms → Type 0
SomeArms xs = w.HasArm xs × w.ArmsWritten xs

abbrev PutsArms : (s.Arms → s.Arms) → Type 0
PutsArms = Puts SomeArms w.ArmsWritten n.ArmsNamed

abbrev ArmsRead : List Arm → List Token → Type 0
ArmsRead xs rest = PutsArms (chain (map plain.arm xs)) × AreWithin rest

abbrev PutsCases : (s.Cases → s.Cases) → Type 0
PutsCases = Puts w.CasesWritten w.CasesWritten n.CasesNamed

abbrev CasesRead : List Case → List Token → Type 0
CasesRead xs rest = PutsCases (chain (map plain.case xs)) × AreWithin rest

abbrev SomeTests : s.Tests → Type 0
SomeTests xs = w.HasTest xs × w.TestsWritten xs

abbrev PutsTests : (s.Tests → s.Tests) → Type 0
PutsTests = Puts SomeTests w.TestsWritten n.TestsNamed

abbrev TestsRead : List Test → List Token → Type 0
TestsRead xs rest = PutsTests (chain (map plain.test xs)) × AreWithin rest

-- ---- the rows

mutual
  unfolding w.TypeWritten n.TypeNamed n.LabelsNamed n.RepeatNamed n.BaseNamed w.HasArm w.HasTest w.HasField w.LabelsWritten w.RepeatWritten

  pub type : {ts rest : List Token} {x : TypeExp} → g.IsType ts x rest → AreWithin ts → TypeRead x rest
  type (g.integer {p = p}) h = whole w.TypeWritten n.TypeNamed (of.of_integer p) tt tt h.1
  type (g.cardinal {p = p}) h = whole w.TypeWritten n.TypeNamed (of.of_cardinal p) tt tt h.1
  type (g.long_integer {p = p}) h = whole w.TypeWritten n.TypeNamed (of.of_long_integer p) tt tt h.1.1
  type (g.long_cardinal {p = p}) h = whole w.TypeWritten n.TypeNamed (of.of_long_cardinal p) tt tt h.1.1
  type (g.boolean {p = p}) h = whole w.TypeWritten n.TypeNamed (of.of_boolean p) tt tt h.1
  type (g.character {p = p}) h = whole w.TypeWritten n.TypeNamed (of.of_character p) tt tt h.1
  type (g.string {p = p}) h = whole w.TypeWritten n.TypeNamed (of.of_string p) tt tt h.1
  type (g.called {x = x} d) h = let a = names.qname d h in whole w.TypeWritten n.TypeNamed (of.of_called x) tt a.0 a.1
  type (g.enumeration {all = all} {p = p} d) h = let a = names.names d h.1 in whole w.TypeWritten n.TypeNamed (of.of_enumeration p all) a.0 a.1 a.2.1
  type (g.subrange {b = b} {x = x} d f) h =
      let a = names.base d h in
      let c = interval f a.1 in
      whole w.TypeWritten n.TypeNamed (of.of_subrange b x) c.0 (a.0, c.1) c.2
  type (g.array {x = x} {y = y} {p = p} d f) h =
      let a = type d h.1 in
      let c = type f a.2.1 in
      whole w.TypeWritten n.TypeNamed (of.of_array p x y) (a.0, c.0) (a.1, c.1) c.2
  type (g.a_record {x = x} {p = p} d) h = let a = fields d (h.1).1 in whole w.TypeWritten n.TypeNamed (of.of_record p x) a.0 a.1 a.2.1

  pub fields : {ts rest : List Token} {x : FieldList} → g.IsFields ts x rest → AreWithin ts → FieldsRead x rest
  fields (g.with_names {all = all} d) h = let a = groups d h in whole Fields n.FieldsNamed (of.of_with_names all) a.0 a.1 a.2
  fields (g.unnamed {all = all} d) h = let a = types d h in whole Fields n.FieldsNamed (of.of_unnamed all) a.0 a.1 a.2

  types : {ts rest : List Token} {x : List TypeExp} → g.IsTypes ts x rest → AreWithin ts
      → Both Fields n.FieldsNamed (s.Unnamed (plain.types x)) (AreWithin rest)
  types (g.a_type d) h = let a = type d h in ((tt, (a.0, tt)), (a.1, tt), a.2)
  types (g.types {all = all} {x = x} d f) h =
      let a = types d h in
      let c = push_types all x (a.0.1, a.1, a.2) (type f a.2.1) in
      ((has_type all x, c.0), c.1, c.2)

  groups : {ts rest : List Token} {x : List (Labeled (List Identifier) TypeExp)} → g.IsGroups ts x rest → AreWithin ts
      → Both Fields n.FieldsNamed (s.WithNames (plain.named_fields x)) (AreWithin rest)
  groups (g.group d f) h = let a = names.names d h in let c = type f a.2.1 in ((tt, (a.0, c.0, tt)), (a.1, c.1, tt), c.2)
  groups (g.groups {all = all} {ns = ns} {x = x} d f k) h =
      let a = groups d h in
      let b = names.names f a.2.1 in
      let c = type k b.2.1 in
      let r = push_fields all (g.labeled ns x) (a.0.1, a.1, a.2) ((b.0, c.0), (b.1, c.1), c.2) in
      ((has_field all (g.labeled ns x), r.0), r.1, r.2)

  interval : {ts rest : List Token} {x : Interval} → g.IsInterval ts x rest → AreWithin ts → IntervalRead x rest
  interval (g.bounds {a = a} {b = b} {x = x} {y = y} {p = p} _ d f _) h =
      let c = expr d h.1 in
      let e = expr f c.2.1 in
      whole w.IntervalWritten n.IntervalNamed (of.of_interval p a x y b) (c.0, e.0) (c.1, e.1) e.2.1

  pub expr : {ts rest : List Token} {x : Expr} → g.IsExpr ts x rest → AreWithin ts → ExprRead x rest
  expr (g.expr {x = x} {ss = ss} d) h = run x ss (ors d h)

  ors : {ts rest : List Token} {x : Expr} {ss : List Operation} → g.IsOrs ts x ss rest → AreWithin ts → RunRead x ss (AreWithin rest)
  ors (g.disjunct {x = x} d) h = first x (conj d h)
  ors (g.ors {y = y} {ss = ss} {o = o} {p = p} d _ f) h = let a = ors d h in let c = conj f a.3.1 in (a.0, a.1, longer ss o p y a.2 c.0 c.1, c.2)

  conj : {ts rest : List Token} {x : Expr} → g.IsConj ts x rest → AreWithin ts → ExprRead x rest
  conj (g.conj {x = x} {ss = ss} d) h = run x ss (ands d h)

  ands : {ts rest : List Token} {x : Expr} {ss : List Operation} → g.IsAnds ts x ss rest → AreWithin ts → RunRead x ss (AreWithin rest)
  ands (g.conjunct {x = x} d) h = first x (neg d h)
  ands (g.ands {y = y} {ss = ss} {o = o} {p = p} d _ f) h = let a = ands d h in let c = neg f a.3.1 in (a.0, a.1, longer ss o p y a.2 c.0 c.1, c.2)

  neg : {ts rest : List Token} {x : Expr} → g.IsNeg ts x rest → AreWithin ts → ExprRead x rest
  neg (g.rel d) h = rel d h
  neg (g.not {x = x} {p = p} _ d) h = let a = rel d h.1 in whole w.ExprWritten n.ExprNamed (of.of_not p x) a.0 a.1 a.2

  rel : {ts rest : List Token} {x : Expr} → g.IsRel ts x rest → AreWithin ts → ExprRead x rest
  rel (g.alone d) h = sum d h
  rel (g.compare {x = x} {y = y} {b = b} {r = r} {p = p} d f _ k) h =
      let a = sum d h in
      let c = sum k (names.negation f a.2).1 in
      whole w.ExprWritten n.ExprNamed (of.of_compare x b r p y) (a.0, c.0) (a.1, c.1) c.2
  rel (g.within {x = x} {b = b} {i = i} {p = p} d f k) h =
      let a = sum d h in
      let c = interval k (names.negation f a.2).1 in
      whole w.ExprWritten n.ExprNamed (of.of_within x b p i) (a.0, c.0) (a.1, c.1) c.2

  sum : {ts rest : List Token} {x : Expr} → g.IsSum ts x rest → AreWithin ts → ExprRead x rest
  sum (g.sum {x = x} {ss = ss} d) h = run x ss (sums d h)

  sums : {ts rest : List Token} {x : Expr} {ss : List Operation} → g.IsSums ts x ss rest → AreWithin ts → RunRead x ss (AreWithin rest)
  sums (g.summand {x = x} d) h = first x (product d h)
  sums (g.sums {y = y} {ss = ss} {o = o} {p = p} d _ f) h = let a = sums d h in let c = product f a.3.1 in (a.0, a.1, longer ss o p y a.2 c.0 c.1, c.2)

  product : {ts rest : List Token} {x : Expr} → g.IsProduct ts x rest → AreWithin ts → ExprRead x rest
  product (g.product {x = x} {ss = ss} d) h = run x ss (products d h)

  products : {ts rest : List Token} {x : Expr} {ss : List Operation} → g.IsProducts ts x ss rest → AreWithin ts → RunRead x ss (AreWithin rest)
  products (g.factor {x = x} d) h = first x (factor d h)
  products (g.products {y = y} {ss = ss} {o = o} {p = p} d _ f) h =
      let a = products d h in
      let c = factor f a.3.1 in
      (a.0, a.1, longer ss o p y a.2 c.0 c.1, c.2)

  factor : {ts rest : List Token} {x : Expr} → g.IsFactor ts x rest → AreWithin ts → ExprRead x rest
  factor (g.primary d) h = primary d h
  factor (g.signed {x = x} {s = sign} {p = p} _ d) h = let a = primary d h.1 in whole w.ExprWritten n.ExprNamed (of.of_signed sign p x) a.0 a.1 a.2

  primary : {ts rest : List Token} {x : Expr} → g.IsPrimary ts x rest → AreWithin ts → ExprRead x rest
  primary (g.number {n = m} {p = p}) h = whole w.ExprWritten n.ExprNamed (of.of_number_literal p m) tt tt h.1
  primary (g.char {n = m} {p = p}) h = whole w.ExprWritten n.ExprNamed (of.of_character_literal p m) tt tt h.1
  primary (g.text {bytes = bytes} {p = p}) h = whole w.ExprWritten n.ExprNamed (of.of_string_literal p bytes) h.0 tt h.1
  primary (g.true_word {p = p}) h = whole w.ExprWritten n.ExprNamed (of.of_truth p true) tt tt h.1
  primary (g.false_word {p = p}) h = whole w.ExprWritten n.ExprNamed (of.of_truth p false) tt tt h.1
  primary (g.parens {x = x} {p = p} d) h = let a = expr d h.1 in whole w.ExprWritten n.ExprNamed (of.of_parenthesis p x) a.0 a.1 a.2.1
  primary (g.reference {i = i} {ss = ss} d) h = let a = left i ss (suffixes d h) in whole w.ExprWritten n.ExprNamed (of.of_reference (g.left i ss)) a.0 a.1 a.2
  primary (g.constructor {x = x} d) h = let a = list d h in whole w.ExprWritten n.ExprNamed (of.of_constructor x) a.0 a.1 a.2
  primary (g.raised {x = x} d) h = let a = raise d h in whole w.ExprWritten n.ExprNamed (of.of_raised x) a.0 a.1 a.2

  list : {ts rest : List Token} {x : Placed (Entries Expr)} → g.IsList ts x rest → AreWithin ts → ItemsRead x.item rest
  list (g.list d) h = let a = args d h.1 in (a.0, a.1, a.2.1)

  list_option : {ts rest : List Token} {x : Option (Placed (Entries Expr))} → g.IsListOption ts x rest → AreWithin ts
      → Both w.ValuesWritten n.ValuesNamed (plain.maybe_items x) (AreWithin rest)
  list_option g.no_list h = (tt, tt, h)
  list_option (g.a_list d) h = list d h

  suffixes : {ts rest : List Token} {i : Identifier} {ss : List Suffix} → g.IsLeft ts i ss rest → AreWithin ts → NameRead i ss (AreWithin rest)
  suffixes g.named h = (h.0, λ rest y z. (y, z), h.1)
  suffixes (g.field {j = j} {ss = ss} d) h = let a = suffixes d h in (a.0, with_field ss j a.1 (a.2.1).0, (a.2.1).1)
  suffixes (g.applied {ss = ss} {b = b} d f) h = let a = suffixes d h in let c = brackets f a.2 in (a.0, with_brackets ss b a.1 c.0 c.1, c.2)

  brackets : {ts rest : List Token} {x : Brackets} → g.IsBrackets ts x rest → AreWithin ts
      → Both w.BracketsWritten n.BracketsNamed (plain.brackets x) (AreWithin rest)
  brackets (g.bracketed {x = x} {c = c} {p = p} d f) h =
      let a = args d h.1 in
      let b = catch f a.2 in
      whole w.BracketsWritten n.BracketsNamed (of.of_brackets p x c) (a.0, b.0) (a.1, b.1) b.2.1

  brackets_option : {ts rest : List Token} {x : Option Brackets} → g.IsBracketsOption ts x rest → AreWithin ts
      → Both w.MaybeWritten n.MaybeNamed (plain.maybe_brackets x) (AreWithin rest)
  brackets_option g.no_brackets h = (tt, tt, h)
  brackets_option (g.some_brackets d) h = brackets d h

  args : {ts rest : List Token} {x : Entries Expr} → g.IsArgs ts x rest → AreWithin ts → ItemsRead x rest
  args g.no_args h = (tt, tt, h)
  args (g.in_order d) h = exprs d h
  args (g.by_key d) h = keys d h

  exprs : {ts rest : List Token} {x : List Expr} → g.IsExprs ts x rest → AreWithin ts → Both w.ExprsWritten n.ExprsNamed (plain.exprs x) (AreWithin rest)
  exprs (g.an_expr d) h = let a = expr d h in ((a.0, tt), (a.1, tt), a.2)
  exprs (g.exprs {all = all} {x = x} d f) h = let a = exprs d h in push_exprs all x a (expr f a.2.1)

  keys : {ts rest : List Token} {x : List (Keyed Expr)} → g.IsKeys ts x rest → AreWithin ts
      → Both w.KeyedWritten n.KeyedNamed (plain.keyed_exprs x) (AreWithin rest)
  keys (g.key d) h = let a = expr d (h.1).1 in ((a.0, tt), (h.0, a.1, tt), a.2)
  keys (g.keys {all = all} {i = i} {x = x} d f) h = let a = keys d h in push_keyed all (g.keyed i x) a (a.2.1).0 (expr f ((a.2.1).1).1)

  catch : {ts rest : List Token} {x : Option (Placed (List Arm))} → g.IsCatch ts x rest → AreWithin ts → PhraseRead x rest
  catch g.no_catch h = (tt, tt, h)
  catch (g.catch d) h = let a = arm_list d h.1 in let r = a.0 s.NoArms tt tt in (r.0, r.1, a.1)

  arm_list : {ts rest : List Token} {x : List Arm} → g.IsArmList ts x rest → AreWithin ts → ArmsRead x rest
  arm_list (g.open_arms d) h = arms d h
  arm_list (g.closed_arms d) h = let a = arms d h in (a.0, a.1.1)

  arms : {ts rest : List Token} {x : List Arm} → g.IsArms ts x rest → AreWithin ts → ArmsRead x rest
  arms (g.an_arm d) h = arm d h
  arms (g.arms {all = all} {x = x} d f) h =
      let a = arms d h in
      let c = arm f a.1.1 in
      (puts_push SomeArms w.ArmsWritten n.ArmsNamed (λ _ v. v.1) plain.arm all x a.0 c.0, c.1)

  arm : {ts rest : List Token} {x : Arm} → g.IsArm ts x rest → AreWithin ts → PutsArms (plain.arm x) × AreWithin rest
  arm (g.an_arm_of {l = l} {x = x} d f) h =
      let a = names.labels d h in
      let c = statement f a.2.1 in
      (puts SomeArms w.ArmsWritten n.ArmsNamed (of.of_arm l x) (λ rest y z. ((tt, (a.0, c.0, y)), (a.1, c.1, z))), c.2)

  raise : {ts rest : List Token} {x : Raise} → g.IsRaise ts x rest → AreWithin ts → Both w.RaiseWritten n.RaiseNamed (plain.raise x) (AreWithin rest)
  raise (g.signal {x = x} {b = b} {p = p} d f) h =
      let a = names.qname d h.1 in
      let c = brackets_option f a.1 in
      whole w.RaiseWritten n.RaiseNamed (of.of_signal_raise p x b) c.0 (a.0, c.1) c.2
  raise (g.error {x = x} {b = b} {p = p} d f) h =
      let a = names.qname d h.1 in
      let c = brackets_option f a.1 in
      whole w.RaiseWritten n.RaiseNamed (of.of_error_raise p x b) c.0 (a.0, c.1) c.2
  raise (g.unnamed_error {p = p}) h = whole w.RaiseWritten n.RaiseNamed (of.of_unnamed_error p) tt tt h.1

  statement : {ts rest : List Token} {x : Statement} → g.IsStmt ts x rest → AreWithin ts → StatementRead x rest
  statement (g.null {p = p}) h = whole w.StatementWritten n.StatementNamed (of.of_null p) tt tt h.1
  statement (g.nested {x = x} d) h = let a = block d h in whole w.StatementWritten n.StatementNamed (of.of_nested x) a.0 a.1 a.2
  statement (g.assign {i = i} {ss = ss} {x = x} d f) h =
      let a = left i ss (suffixes d h) in
      let c = expr f a.2.1 in
      whole w.StatementWritten n.StatementNamed (of.of_assign (g.left i ss) x) (a.0, c.0) (a.1, c.1) c.2
  statement (g.extract {x = x} {y = y} {p = p} d f) h =
      let a = targets d h.1 in
      let c = expr f (a.2.1).1 in
      whole w.StatementWritten n.StatementNamed (of.of_extract p x y) (a.0, c.0) (a.1, c.1) c.2
  statement (g.call {i = i} {ss = ss} d) h =
      let a = left i ss (suffixes d h) in
      whole w.StatementWritten n.StatementNamed (of.of_call (g.left i ss)) a.0 a.1 a.2
  statement (g.raise {x = x} d) h = let a = raise d h in whole w.StatementWritten n.StatementNamed (of.of_raise_statement x) a.0 a.1 a.2
  statement (g.if_then {c = c} {x = x} {p = p} d f _) h =
      let a = expr d h.1 in
      let b = statement f a.2.1 in
      whole w.StatementWritten n.StatementNamed (of.of_if p c x None) (a.0, b.0, tt) (a.1, b.1, tt) b.2
  statement (g.if_else {c = c} {x = x} {y = y} {p = p} d f k) h =
      let a = expr d h.1 in
      let b = statement f a.2.1 in
      let e = statement k b.2.1 in
      whole w.StatementWritten n.StatementNamed (of.of_if p c x (Some y)) (a.0, b.0, e.0) (a.1, b.1, e.1) e.2
  statement (g.select {x = x} {cs = cs} {y = y} {p = p} d f k) h =
      let a = expr d h.1 in
      let b = case_list f a.2.1 in
      let r = b.0 s.NoCases tt tt in
      let e = otherwise k b.1.1 in
      whole w.StatementWritten n.StatementNamed (of.of_select p x cs y) (a.0, r.0, e.0) (a.1, r.1, e.1) e.2
  statement (g.loop {c = c} {e = e} {body = body} {rs = rs} {p = p} d f k l) h =
      let a = control d h in
      let b = enabling f a.2.1 in
      let i = statements k b.2 in
      let j = repeat_part l i.2 in
      whole w.StatementWritten n.StatementNamed (of.of_loop c p e body rs) (a.0, b.0, i.0, j.0) (a.1, b.1, i.1, j.1) j.2.1
  statement (g.exit_loop {p = p}) h = whole w.StatementWritten n.StatementNamed (of.of_exit_loop p) tt tt h.1
  statement (g.next_turn {p = p}) h = whole w.StatementWritten n.StatementNamed (of.of_next_turn p) tt tt h.1
  statement (g.goto {i = i} {p = p}) h = whole w.StatementWritten n.StatementNamed (of.of_goto p i) tt (h.1).0 (h.1).1
  statement (g.go_to {i = i} {p = p}) h = whole w.StatementWritten n.StatementNamed (of.of_goto p i) tt ((h.1).1).0 ((h.1).1).1
  statement (g.return {x = x} {p = p} d) h = let a = list_option d h.1 in whole w.StatementWritten n.StatementNamed (of.of_return p x) a.0 a.1 a.2
  statement (g.resume {x = x} {p = p} d) h = let a = list_option d h.1 in whole w.StatementWritten n.StatementNamed (of.of_resume p x) a.0 a.1 a.2
  statement (g.reject {p = p}) h = whole w.StatementWritten n.StatementNamed (of.of_reject p) tt tt h.1
  statement (g.retry {p = p}) h = whole w.StatementWritten n.StatementNamed (of.of_retry p) tt tt h.1
  statement (g.continue {p = p}) h = whole w.StatementWritten n.StatementNamed (of.of_continue p) tt tt h.1

  targets : {ts rest : List Token} {x : Entries Left} → g.IsTargets ts x rest → AreWithin ts
      → Both w.TargetsWritten n.TargetsNamed (plain.targets x) (AreWithin rest)
  targets g.no_targets h = (tt, tt, h)
  targets (g.targets d) h = lefts d h
  targets (g.key_targets d) h = keyed_lefts d h

  lefts : {ts rest : List Token} {x : List Left} → g.IsLefts ts x rest → AreWithin ts → Both w.LeftsWritten n.LeftsNamed (plain.lefts x) (AreWithin rest)
  lefts (g.a_left {i = i} {ss = ss} d) h = let a = left i ss (suffixes d h) in ((a.0, tt), (a.1, tt), a.2)
  lefts (g.lefts {all = all} {i = i} {ss = ss} d f) h = let a = lefts d h in push_lefts all (g.left i ss) a (left i ss (suffixes f a.2.1))

  keyed_lefts : {ts rest : List Token} {x : List (Keyed Left)} → g.IsKeyLefts ts x rest → AreWithin ts
      → Both w.KeyedLeftsWritten n.KeyedLeftsNamed (plain.keyed_lefts x) (AreWithin rest)
  keyed_lefts (g.key_left {i = i} {ss = ss} d) h = let a = left i ss (suffixes d (h.1).1) in ((a.0, tt), (h.0, a.1, tt), a.2)
  keyed_lefts (g.key_lefts {all = all} {i = i} {j = j} {ss = ss} d f) h =
      let a = keyed_lefts d h in
      push_keyed_lefts all (g.keyed j (g.left i ss)) a (a.2.1).0 (left i ss (suffixes f ((a.2.1).1).1))

  otherwise : {ts rest : List Token} {x : Option Statement} → g.IsOtherwise ts x rest → AreWithin ts
      → Both w.OtherWritten n.OtherNamed (plain.maybe_statement x) (AreWithin rest)
  otherwise g.no_otherwise h = (tt, tt, h)
  otherwise (g.otherwise d) h = statement d h.1

  case_list : {ts rest : List Token} {x : List Case} → g.IsCaseList ts x rest → AreWithin ts → CasesRead x rest
  case_list g.no_cases h = (λ rest y z. (y, z), h)
  case_list (g.open_cases d) h = cases d h
  case_list (g.closed_cases d) h = let a = cases d h in (a.0, a.1.1)

  cases : {ts rest : List Token} {x : List Case} → g.IsCases ts x rest → AreWithin ts → CasesRead x rest
  cases (g.a_case d) h = case d h
  cases (g.cases {all = all} {x = x} d f) h =
      let a = cases d h in
      let c = case f a.1.1 in
      (puts_push w.CasesWritten w.CasesWritten n.CasesNamed (λ _ v. v) plain.case all x a.0 c.0, c.1)

  case : {ts rest : List Token} {x : Case} → g.IsCase ts x rest → AreWithin ts → PutsCases (plain.case x) × AreWithin rest
  case (g.case_of {all = all} {x = x} d f) h =
      let a = tests d h in
      let c = statement f a.1.1 in
      let r = a.0 s.NoTests tt tt in
      (puts w.CasesWritten w.CasesWritten n.CasesNamed (of.of_case all x) (λ rest y z. ((r.0.0, r.0.1, c.0, y), (r.1, c.1, z))), c.2)

  tests : {ts rest : List Token} {x : List Test} → g.IsTests ts x rest → AreWithin ts → TestsRead x rest
  tests (g.a_test d) h = test d h
  tests (g.tests {all = all} {x = x} d f) h =
      let a = tests d h in
      let c = test f a.1.1 in
      (puts_push SomeTests w.TestsWritten n.TestsNamed (λ _ v. v.1) plain.test all x a.0 c.0, c.1)

  test : {ts rest : List Token} {x : Test} → g.IsTest ts x rest → AreWithin ts → PutsTests (plain.test x) × AreWithin rest
  test (g.value {x = x} d) h =
      let a = expr d h in
      (puts SomeTests w.TestsWritten n.TestsNamed (of.of_value x) (λ rest y z. ((tt, (a.0, y)), (a.1, z))), a.2)
  test (g.compared {b = b} {x = x} {r = r} {p = p} d _ f) h =
      let a = sum f (names.negation d h).1 in
      (puts SomeTests w.TestsWritten n.TestsNamed (of.of_compared b r p x) (λ rest y z. ((tt, (a.0, y)), (a.1, z))), a.2)
  test (g.inside {b = b} {i = i} {p = p} d f) h =
      let a = interval f (names.negation d h).1 in
      (puts SomeTests w.TestsWritten n.TestsNamed (of.of_inside b p i) (λ rest y z. ((tt, (a.0, y)), (a.1, z))), a.2)

  control : {ts rest : List Token} {x : Control} → g.IsControl ts x rest → AreWithin ts
      → Both w.ControlWritten n.ControlNamed (plain.control x) (AreWithin rest)
  control (g.controlled {a = a} {b = b} d f) h =
      let c = count d h in
      let e = condition f c.2 in
      whole w.ControlWritten n.ControlNamed (of.of_control a b) (c.0, e.0) (c.1, e.1) e.2

  count : {ts rest : List Token} {x : Option Count} → g.IsCount ts x rest → AreWithin ts
      → Both w.CountWritten n.CountNamed (plain.maybe_count x) (AreWithin rest)
  count g.no_count h = (tt, tt, h)
  count (g.for {i = i} {b = b} {x = x} {p = p} d f) h =
      let a = interval f (names.decreasing d (h.1).1).1 in
      whole w.CountWritten n.CountNamed (of.of_for p i b x) a.0 ((h.1).0, a.1) a.2
  count (g.through {x = x} {p = p} d) h = let a = interval d h.1 in whole w.CountWritten n.CountNamed (of.of_through p x) a.0 a.1 a.2

  condition : {ts rest : List Token} {x : Option Condition} → g.IsCondition ts x rest → AreWithin ts
      → Both w.ConditionWritten n.ConditionNamed (plain.maybe_condition x) (AreWithin rest)
  condition g.no_condition h = (tt, tt, h)
  condition (g.while {x = x} {p = p} d) h = let a = expr d h.1 in whole w.ConditionWritten n.ConditionNamed (of.of_while p x) a.0 a.1 a.2
  condition (g.until {x = x} {p = p} d) h = let a = expr d h.1 in whole w.ConditionWritten n.ConditionNamed (of.of_until p x) a.0 a.1 a.2

  pub statements : {ts rest : List Token} {x : List Statement} → g.IsBody ts x rest → AreWithin ts → StatementsRead x rest
  statements g.no_stmts h = (tt, tt, h)
  statements (g.open_stmts d) h = some_statements d h
  statements (g.closed_stmts d) h = let a = some_statements d h in (a.0, a.1, a.2.1)

  some_statements : {ts rest : List Token} {x : List Statement} → g.IsStmts ts x rest → AreWithin ts → StatementsRead x rest
  some_statements (g.a_stmt d) h = let a = statement d h in ((a.0, tt), (a.1, tt), a.2)
  some_statements (g.stmts {all = all} {x = x} d f) h = let a = some_statements d h in push_statements all x a (statement f a.2.1)

  repeat_part : {ts rest : List Token} {x : List (Labeled RepeatLabels Statement)} → g.IsRepeatPart ts x rest → AreWithin ts
      → Both w.RepeatsWritten n.RepeatsNamed (plain.repeats x) (AreWithin rest)
  repeat_part g.no_repeats h = (tt, tt, h)
  repeat_part (g.open_repeats d) h = repeats d h.1
  repeat_part (g.closed_repeats d) h = let a = repeats d h.1 in (a.0, a.1, a.2.1)

  repeats : {ts rest : List Token} {x : List (Labeled RepeatLabels Statement)} → g.IsRepeats ts x rest → AreWithin ts
      → Both w.RepeatsWritten n.RepeatsNamed (plain.repeats x) (AreWithin rest)
  repeats (g.a_repeat d) h = let a = an_end d h in ((a.0.0, a.0.1, tt), (a.1.0, a.1.1, tt), a.2)
  repeats (g.repeats {all = all} {x = x} d f) h = let a = repeats d h in push_repeats all x a (an_end f a.2.1)

  an_end : {ts rest : List Token} {x : Labeled RepeatLabels Statement} → g.IsRepeat ts x rest → AreWithin ts
      → Behind w.RepeatWritten n.RepeatNamed w.StatementWritten n.StatementNamed plain.statement x (AreWithin rest)
  an_end (g.repeat_of d f) h = let a = names.repeat_labels d h in let c = statement f a.2.1 in ((a.0, c.0), (a.1, c.1), c.2)

  pub exit_part : {ts rest : List Token} {x : List (Labeled (List Identifier) Statement)} → g.IsExitPart ts x rest → AreWithin ts → ExitsRead x rest
  exit_part g.no_exits h = (tt, tt, h)
  exit_part (g.open_exits d) h = exits d h.1
  exit_part (g.closed_exits d) h = let a = exits d h.1 in (a.0, a.1, a.2.1)

  exits : {ts rest : List Token} {x : List (Labeled (List Identifier) Statement)} → g.IsExits ts x rest → AreWithin ts → ExitsRead x rest
  exits (g.an_exit d) h = let a = exit d h in ((a.0.0, a.0.1, tt), (a.1.0, a.1.1, tt), a.2)
  exits (g.exits {all = all} {x = x} d f) h = let a = exits d h in push_exits all x a (exit f a.2.1)

  exit : {ts rest : List Token} {x : Labeled (List Identifier) Statement} → g.IsExit ts x rest → AreWithin ts
      → BehindNames w.StatementWritten n.StatementNamed plain.statement x (AreWithin rest)
  exit (g.exit_of d f) h = let a = names.names d h in let c = statement f a.2.1 in ((a.0, c.0), (a.1, c.1), c.2)

  pub enabling : {ts rest : List Token} {x : Option (Placed (List Arm))} → g.IsEnabling ts x rest → AreWithin ts → PhraseRead x rest
  enabling g.no_enable h = (tt, tt, h)
  enabling (g.enable_one d) h = let a = arm d h.1 in let r = a.0 s.NoArms tt tt in (r.0, r.1, a.1.1)
  enabling (g.enable_many d) h = let a = arm_list d (h.1).1 in let r = a.0 s.NoArms tt tt in (r.0, r.1, (a.1.1).1)

  pub block : {ts rest : List Token} {x : Block} → g.IsBlock ts x rest → AreWithin ts → Both w.BlockWritten n.BlockNamed (plain.block x) (AreWithin rest)
  block (g.begin_end {e = e} {ls = ls} {ss = ss} {xs = xs} {p = p} d f k l) h =
      let a = enabling d h.1 in
      let b = locals f a.2 in
      let i = statements k b.2 in
      let j = exit_part l i.2 in
      whole w.BlockWritten n.BlockNamed (of.of_block p e ls ss xs) (a.0, b.0, i.0, j.0) (a.1, b.1, i.1, j.1) j.2.1
  block (g.braces {e = e} {ls = ls} {ss = ss} {xs = xs} {p = p} d f k l) h =
      let a = enabling d h.1 in
      let b = locals f a.2 in
      let i = statements k b.2 in
      let j = exit_part l i.2 in
      whole w.BlockWritten n.BlockNamed (of.of_block p e ls ss xs) (a.0, b.0, i.0, j.0) (a.1, b.1, i.1, j.1) j.2.1

  locals : {ts rest : List Token} {x : List (Labeled (List Identifier) PlainItem)} → g.IsLocals ts x rest → AreWithin ts
      → Both w.LocalsWritten n.LocalsNamed (plain.locals x) (AreWithin rest)
  locals g.no_locals h = (tt, tt, h)
  locals (g.locals {all = all} {x = x} d f) h = let a = locals d h in let c = local f a.2 in push_locals all x a (c.0, c.1, c.2.1)

  local : {ts rest : List Token} {x : Labeled (List Identifier) PlainItem} → g.IsLocal ts x rest → AreWithin ts
      → BehindNames w.ItemWritten n.ItemNamed plain.plain_item x (AreWithin rest)
  local (g.local_of d f) h = let a = names.names d h in let c = item f a.2.1 in ((a.0, c.0), (a.1, c.1), c.2)

  pub item : {ts rest : List Token} {x : PlainItem} → g.IsPlain ts x rest → AreWithin ts → ItemRead x rest
  item (g.type_is {x = x} d) h = let a = type d (h.1).1 in whole w.ItemWritten n.ItemNamed (of.of_type_is x) a.0 a.1 a.2
  item (g.variable {x = x} d) h = let a = type d h in whole w.ItemWritten n.ItemNamed (of.of_variable x) a.0 a.1 a.2
  item (g.initial {x = x} {y = y} d f) h =
      let a = type d h in
      let c = expr f a.2.1 in
      whole w.ItemWritten n.ItemNamed (of.of_initial x y) (a.0, c.0) (a.1, c.1) c.2
  item (g.constant {x = x} {y = y} d f) h =
      let a = type d h in
      let c = expr f a.2.1 in
      whole w.ItemWritten n.ItemNamed (of.of_constant x y) (a.0, c.0) (a.1, c.1) c.2
