-- The places inside modules: those in a tree are places of the tokens that it was read from. By induction over readings, with one
-- clause for each row of the grammar, as in `Bodies`.
use Rattle.std.proofs.Common.{List, [], ◌∷◌, ◌++◌, Option, Some, None, true, false, All}
use Rattle.std.proofs.lemmas.List.Elements.{All-nil, All-cons, All-push}
use Rattle.mesa_lexer.specs.declared.token.Token.{Token}
use Rattle.mesa_base.specs.declared.place.Place.{Place}
use Rattle.mesa_base.specs.declared.identifier.Identifier.{Identifier}
use Rattle.mesa_base.specs.declared.placed.Placed.{Placed}
use Rattle.syntax_trees.specs.declared.syntax.Keyed.{Keyed}
use Rattle.syntax_trees.specs.declared.syntax.Labeled.{Labeled}
use Rattle.syntax_trees.specs.declared.syntax.Entries.{Entries}
use Rattle.syntax_trees.specs.declared.syntax.Operator.{Operator}
use Rattle.syntax_trees.specs.declared.syntax.RepeatLabels.{RepeatLabels}
use Rattle.syntax_trees.specs.declared.syntax.TypeExp.{TypeExp}
use Rattle.syntax_trees.specs.declared.syntax.FieldList.{FieldList}
use Rattle.syntax_trees.specs.declared.syntax.Interval.{Interval}
use Rattle.syntax_trees.specs.declared.syntax.Expr.{Expr}
use Rattle.syntax_trees.specs.declared.syntax.Operation.{Operation}
use Rattle.syntax_trees.specs.declared.syntax.Left.{Left}
use Rattle.syntax_trees.specs.declared.syntax.Suffix.{Suffix}
use Rattle.syntax_trees.specs.declared.syntax.Suffix.TheVariants.{Field, Applied}
use Rattle.syntax_trees.specs.declared.syntax.Brackets.{Brackets}
use Rattle.syntax_trees.specs.declared.syntax.Raise.{Raise}
use Rattle.syntax_trees.specs.declared.syntax.Arm.{Arm}
use Rattle.syntax_trees.specs.declared.syntax.Statement.{Statement}
use Rattle.syntax_trees.specs.declared.syntax.Control.{Control}
use Rattle.syntax_trees.specs.declared.syntax.Count.{Count}
use Rattle.syntax_trees.specs.declared.syntax.Condition.{Condition}
use Rattle.syntax_trees.specs.declared.syntax.Case.{Case}
use Rattle.syntax_trees.specs.declared.syntax.Test.{Test}
use Rattle.syntax_trees.specs.declared.syntax.Block.{Block}
use Rattle.syntax_trees.specs.declared.syntax.PlainItem.{PlainItem}
use Rattle.syntax_trees.specs.Syntax as s
use Rattle.syntax_trees.specs.PlainSyntax as plain
use Rattle.syntax_trees.proofs.PlainForms as of
use Rattle.grammar_rules.specs.Grammar as g
use Rattle.check_rules.specs.Places as places
use Rattle.written_trees.proofs.Tokened as names
use Rattle.written_trees.proofs.Tokened.{Stand, none, more, TokensStand, Read, Puts, Behind, one, both, whole, each, puts, chained}

just : {X : Type 0} (P : X → Type 0) (x : X) → P x → All P (x ∷ [])
just P x h = All-cons P x [] h (All-nil P)

module _ (S : Place → Type 0) where
  -- ---- parts of lists, of which each is read by itself

  abbrev TypeStands : TypeExp → Type 0
  TypeStands x = Stand S (places.of_type (plain.type_exp x))

  abbrev FieldsStand : Labeled (List Identifier) TypeExp → Type 0
  FieldsStand = Behind S places.of_identifiers (λ t. places.of_type (plain.type_exp t))

  abbrev ExprStands : Expr → Type 0
  ExprStands x = Stand S (places.of_expr (plain.expr x))

  abbrev KeyedStands : Keyed Expr → Type 0
  KeyedStands x = S x.key.place × ExprStands x.item

  abbrev LeftStands : Left → Type 0
  LeftStands x = Stand S (places.of_left (plain.left x))

  abbrev KeyedLeftStands : Keyed Left → Type 0
  KeyedLeftStands x = S x.key.place × LeftStands x.item

  abbrev StatementStands : Statement → Type 0
  StatementStands x = Stand S (places.of_stmt (plain.statement x))

  abbrev LocalStands : Labeled (List Identifier) PlainItem → Type 0
  LocalStands = Behind S places.of_declared_names (λ d. places.of_plain (plain.plain_item d))

  abbrev ExitStands : Labeled (List Identifier) Statement → Type 0
  ExitStands = Behind S places.of_identifiers (λ x. places.of_stmt (plain.statement x))

  abbrev RepeatStands : Labeled RepeatLabels Statement → Type 0
  RepeatStands = Behind S places.of_repeat_labels (λ x. places.of_stmt (plain.statement x))

  abbrev StepStands : Operation → Type 0
  StepStands x = Puts S places.of_steps (plain.operation x)

  abbrev SuffixStands : Suffix → Type 0
  SuffixStands x = Puts S places.of_suffixes (plain.suffix x)

  abbrev ArmStands : Arm → Type 0
  ArmStands x = Puts S places.of_arms (plain.arm x)

  abbrev CaseStands : Case → Type 0
  CaseStands x = Puts S places.of_cases (plain.case x)

  abbrev TestStands : Test → Type 0
  TestStands x = Puts S places.of_tests (plain.test x)

  -- ---- what is promised of each sort of tree

  abbrev ExprRead : Expr → List Token → Type 0
  ExprRead x = Read S places.of_expr (plain.expr x)

  -- the first operand, the operators with the others, and what stands behind
  abbrev RunRead : Expr → List Operation → List Token → Type 0
  RunRead x ss rest = ExprStands x × All StepStands ss × TokensStand S rest

  -- a name with its suffixes
  abbrev NameRead : Identifier → List Suffix → List Token → Type 0
  NameRead i ss rest = S i.place × All SuffixStands ss × TokensStand S rest

  -- ---- runs of operators, and names with their suffixes

  run : {R : Type 0} (x : Expr) (ss : List Operation) → ExprStands x × All StepStands ss × R → ExprStands (g.run x ss) × R
  unfolding places.of_expr
  run x [] h = (h.0, h.2)
  run x (o ∷ os) h =
      whole places.of_expr (of.of_run x (o ∷ os)) (both h.0 (chained places.of_steps plain.operation (o ∷ os) h.1 s.NoOperation none)) h.2

  step : (o : Operator) (p : Place) (y : Expr) → S p → ExprStands y → StepStands (g.step o p y)
  unfolding places.of_expr
  step o p y h k = puts places.of_steps (of.of_operation o p y) (λ rest r. more h (both k r))

  longer : {R : Type 0} (x : Expr) (ss : List Operation) (o : Operator) (p : Place) (y : Expr) → ExprStands x → All StepStands ss → S p
      → ExprStands y × R → ExprStands x × All StepStands (ss ++ g.step o p y ∷ []) × R
  longer x ss o p y h hs at k = (h, All-push StepStands ss (g.step o p y) hs (step o p y at k.0), k.1)

  left : {R : Type 0} (i : Identifier) (ss : List Suffix) → S i.place × All SuffixStands ss × R → LeftStands (g.left i ss) × R
  unfolding places.of_expr
  left i ss h = whole places.of_left (of.of_left i ss) (more h.0 (chained places.of_suffixes plain.suffix ss h.1 s.NoSuffix none)) h.2

  with_field : (ss : List Suffix) (j : Identifier) → All SuffixStands ss → S j.place → All SuffixStands (ss ++ Field j ∷ [])
  unfolding places.of_expr
  with_field ss j h k = All-push SuffixStands ss (Field j) h (puts places.of_suffixes (of.of_field j) (λ rest r. more k r))

  with_brackets : (ss : List Suffix) (b : Brackets) → All SuffixStands ss → Stand S (places.of_brackets (plain.brackets b))
      → All SuffixStands (ss ++ Applied b ∷ [])
  unfolding places.of_expr
  with_brackets ss b h k = All-push SuffixStands ss (Applied b) h (puts places.of_suffixes (of.of_applied b) (λ rest r. both k r))

  -- ---- lists from their parts

  all_types : (xs : List TypeExp) → All TypeStands xs → Stand S (places.of_types (plain.types xs))
  unfolding places.of_type
  all_types = each (λ xs. places.of_types (plain.types xs)) TypeStands none (λ x xs h k. both h k)

  all_fields : (xs : List (Labeled (List Identifier) TypeExp)) → All FieldsStand xs → Stand S (places.of_named (plain.named_fields xs))
  unfolding places.of_type
  all_fields = each (λ xs. places.of_named (plain.named_fields xs)) FieldsStand none (λ x xs h k. both h.0 (both h.1 k))

  all_exprs : (xs : List Expr) → All ExprStands xs → Stand S (places.of_exprs (plain.exprs xs))
  unfolding places.of_expr
  all_exprs = each (λ xs. places.of_exprs (plain.exprs xs)) ExprStands none (λ x xs h k. both h k)

  all_keyed : (xs : List (Keyed Expr)) → All KeyedStands xs → Stand S (places.of_keyed (plain.keyed_exprs xs))
  unfolding places.of_expr
  all_keyed = each (λ xs. places.of_keyed (plain.keyed_exprs xs)) KeyedStands none (λ x xs h k. more h.0 (both h.1 k))

  all_lefts : (xs : List Left) → All LeftStands xs → Stand S (places.of_lefts (plain.lefts xs))
  unfolding places.of_expr
  all_lefts = each (λ xs. places.of_lefts (plain.lefts xs)) LeftStands none (λ x xs h k. both h k)

  all_keyed_lefts : (xs : List (Keyed Left)) → All KeyedLeftStands xs → Stand S (places.of_keyed_lefts (plain.keyed_lefts xs))
  unfolding places.of_expr
  all_keyed_lefts = each (λ xs. places.of_keyed_lefts (plain.keyed_lefts xs)) KeyedLeftStands none (λ x xs h k. more h.0 (both h.1 k))

  all_statements : (xs : List Statement) → All StatementStands xs → Stand S (places.of_stmts (plain.statements xs))
  unfolding places.of_expr
  all_statements = each (λ xs. places.of_stmts (plain.statements xs)) StatementStands none (λ x xs h k. both h k)

  all_locals : (xs : List (Labeled (List Identifier) PlainItem)) → All LocalStands xs → Stand S (places.of_locals (plain.locals xs))
  unfolding places.of_expr
  all_locals = each (λ xs. places.of_locals (plain.locals xs)) LocalStands none (λ x xs h k. both h.0 (both h.1 k))

  all_exits : (xs : List (Labeled (List Identifier) Statement)) → All ExitStands xs → Stand S (places.of_exits (plain.exits xs))
  unfolding places.of_expr
  all_exits = each (λ xs. places.of_exits (plain.exits xs)) ExitStands none (λ x xs h k. both h.0 (both h.1 k))

  all_repeats : (xs : List (Labeled RepeatLabels Statement)) → All RepeatStands xs → Stand S (places.of_repeats (plain.repeats xs))
  unfolding places.of_expr
  all_repeats = each (λ xs. places.of_repeats (plain.repeats xs)) RepeatStands none (λ x xs h k. both h.0 (both h.1 k))

  all_arms : (xs : List Arm) → All ArmStands xs → Stand S (places.of_arms (plain.arms xs))
  unfolding places.of_expr
  all_arms xs h = chained places.of_arms plain.arm xs h s.NoArms none

  all_cases : (xs : List Case) → All CaseStands xs → Stand S (places.of_cases (plain.cases xs))
  unfolding places.of_expr
  all_cases xs h = chained places.of_cases plain.case xs h s.NoCases none

  all_tests : (xs : List Test) → All TestStands xs → Stand S (places.of_tests (plain.tests xs))
  unfolding places.of_expr
  all_tests xs h = chained places.of_tests plain.test xs h s.NoTests none

  -- ---- the rows

  mutual
    unfolding places.of_type

    pub type : {ts rest : List Token} {x : TypeExp} → g.IsType ts x rest → TokensStand S ts
        → Read S places.of_type (plain.type_exp x) rest
    type (g.integer {p = p}) h = whole places.of_type (of.of_integer p) (one h.0) h.1
    type (g.cardinal {p = p}) h = whole places.of_type (of.of_cardinal p) (one h.0) h.1
    type (g.long_integer {p = p}) h = whole places.of_type (of.of_long_integer p) (one h.0) h.1.1
    type (g.long_cardinal {p = p}) h = whole places.of_type (of.of_long_cardinal p) (one h.0) h.1.1
    type (g.boolean {p = p}) h = whole places.of_type (of.of_boolean p) (one h.0) h.1
    type (g.character {p = p}) h = whole places.of_type (of.of_character p) (one h.0) h.1
    type (g.string {p = p}) h = whole places.of_type (of.of_string p) (one h.0) h.1
    type (g.called {x = x} d) h = let a = names.qname d h in whole places.of_type (of.of_called x) a.0 a.1
    type (g.enumeration {all = all} {p = p} d) h =
        let a = names.names d h.1 in
        whole places.of_type (of.of_enumeration p all) (more h.0 (names.identifiers all a.0)) a.1.1
    type (g.subrange {b = b} {x = x} d f) h =
        let a = names.base d h in
        let c = interval f a.1 in
        whole places.of_type (of.of_subrange b x) (both a.0 c.0) c.1
    type (g.array {x = x} {y = y} {p = p} d f) h =
        let a = type d h.1 in
        let c = type f a.1.1 in
        whole places.of_type (of.of_array p x y) (more h.0 (both a.0 c.0)) c.1
    type (g.a_record {x = x} {p = p} d) h = let a = fields d (h.1).1 in whole places.of_type (of.of_record p x) (more h.0 a.0) a.1.1

    pub fields : {ts rest : List Token} {x : FieldList} → g.IsFields ts x rest → TokensStand S ts
        → Read S places.of_fields (plain.field_list x) rest
    fields (g.with_names {all = all} d) h = let a = groups d h in whole places.of_fields (of.of_with_names all) (all_fields all a.0) a.1
    fields (g.unnamed {all = all} d) h = let a = types d h in whole places.of_fields (of.of_unnamed all) (all_types all a.0) a.1

    types : {ts rest : List Token} {x : List TypeExp} → g.IsTypes ts x rest → TokensStand S ts → All TypeStands x × TokensStand S rest
    types (g.a_type {x = x} d) h = let a = type d h in (just TypeStands x a.0, a.1)
    types (g.types {all = all} {x = x} d f) h = let a = types d h in let c = type f a.1.1 in (All-push TypeStands all x a.0 c.0, c.1)

    groups : {ts rest : List Token} {x : List (Labeled (List Identifier) TypeExp)} → g.IsGroups ts x rest → TokensStand S ts
        → All FieldsStand x × TokensStand S rest
    groups (g.group {ns = ns} {x = x} d f) h =
        let a = names.names d h in
        let c = type f a.1.1 in
        (just FieldsStand (g.labeled ns x) (names.identifiers ns a.0, c.0), c.1)
    groups (g.groups {all = all} {ns = ns} {x = x} d f k) h =
        let a = groups d h in
        let b = names.names f a.1.1 in
        let c = type k b.1.1 in
        (All-push FieldsStand all (g.labeled ns x) a.0 (names.identifiers ns b.0, c.0), c.1)

    interval : {ts rest : List Token} {x : Interval} → g.IsInterval ts x rest → TokensStand S ts
        → Read S places.of_interval (plain.interval x) rest
    interval (g.bounds {a = a} {b = b} {x = x} {y = y} {p = p} _ d f _) h =
        let c = expr d h.1 in
        let e = expr f c.1.1 in
        whole places.of_interval (of.of_interval p a x y b) (more h.0 (both c.0 e.0)) e.1.1

    pub expr : {ts rest : List Token} {x : Expr} → g.IsExpr ts x rest → TokensStand S ts → Read S places.of_expr (plain.expr x) rest
    expr (g.expr {x = x} {ss = ss} d) h = run x ss (ors d h)

    ors : {ts rest : List Token} {x : Expr} {ss : List Operation} → g.IsOrs ts x ss rest → TokensStand S ts → RunRead x ss rest
    ors (g.disjunct d) h = let a = conj d h in (a.0, All-nil StepStands, a.1)
    ors (g.ors {x = x} {y = y} {ss = ss} {o = o} {p = p} d _ f) h = let a = ors d h in longer x ss o p y a.0 a.1 (a.2).0 (conj f a.2.1)

    conj : {ts rest : List Token} {x : Expr} → g.IsConj ts x rest → TokensStand S ts → ExprRead x rest
    conj (g.conj {x = x} {ss = ss} d) h = run x ss (ands d h)

    ands : {ts rest : List Token} {x : Expr} {ss : List Operation} → g.IsAnds ts x ss rest → TokensStand S ts → RunRead x ss rest
    ands (g.conjunct d) h = let a = neg d h in (a.0, All-nil StepStands, a.1)
    ands (g.ands {x = x} {y = y} {ss = ss} {o = o} {p = p} d _ f) h = let a = ands d h in longer x ss o p y a.0 a.1 (a.2).0 (neg f a.2.1)

    neg : {ts rest : List Token} {x : Expr} → g.IsNeg ts x rest → TokensStand S ts → ExprRead x rest
    neg (g.rel d) h = rel d h
    neg (g.not {x = x} {p = p} _ d) h = let a = rel d h.1 in whole places.of_expr (of.of_not p x) (more h.0 a.0) a.1

    rel : {ts rest : List Token} {x : Expr} → g.IsRel ts x rest → TokensStand S ts → ExprRead x rest
    rel (g.alone d) h = sum d h
    rel (g.compare {x = x} {y = y} {b = b} {r = r} {p = p} d f _ k) h =
        let a = sum d h in
        let i = names.negation S f a.1 in
        let c = sum k i.1 in
        whole places.of_expr (of.of_compare x b r p y) (both a.0 (more i.0 c.0)) c.1
    rel (g.within {x = x} {b = b} {i = i} {p = p} d f k) h =
        let a = sum d h in
        let j = names.negation S f a.1 in
        let c = interval k j.1 in
        whole places.of_expr (of.of_within x b p i) (both a.0 (more j.0 c.0)) c.1

    sum : {ts rest : List Token} {x : Expr} → g.IsSum ts x rest → TokensStand S ts → ExprRead x rest
    sum (g.sum {x = x} {ss = ss} d) h = run x ss (sums d h)

    sums : {ts rest : List Token} {x : Expr} {ss : List Operation} → g.IsSums ts x ss rest → TokensStand S ts → RunRead x ss rest
    sums (g.summand d) h = let a = product d h in (a.0, All-nil StepStands, a.1)
    sums (g.sums {x = x} {y = y} {ss = ss} {o = o} {p = p} d _ f) h = let a = sums d h in longer x ss o p y a.0 a.1 (a.2).0 (product f a.2.1)

    product : {ts rest : List Token} {x : Expr} → g.IsProduct ts x rest → TokensStand S ts → ExprRead x rest
    product (g.product {x = x} {ss = ss} d) h = run x ss (products d h)

    products : {ts rest : List Token} {x : Expr} {ss : List Operation} → g.IsProducts ts x ss rest → TokensStand S ts → RunRead x ss rest
    products (g.factor d) h = let a = factor d h in (a.0, All-nil StepStands, a.1)
    products (g.products {x = x} {y = y} {ss = ss} {o = o} {p = p} d _ f) h =
        let a = products d h in
        longer x ss o p y a.0 a.1 (a.2).0 (factor f a.2.1)

    factor : {ts rest : List Token} {x : Expr} → g.IsFactor ts x rest → TokensStand S ts → ExprRead x rest
    factor (g.primary d) h = primary d h
    factor (g.signed {x = x} {s = sign} {p = p} _ d) h = let a = primary d h.1 in whole places.of_expr (of.of_signed sign p x) (more h.0 a.0) a.1

    primary : {ts rest : List Token} {x : Expr} → g.IsPrimary ts x rest → TokensStand S ts → ExprRead x rest
    primary (g.number {n = m} {p = p}) h = whole places.of_expr (of.of_number_literal p m) (one h.0) h.1
    primary (g.char {n = m} {p = p}) h = whole places.of_expr (of.of_character_literal p m) (one h.0) h.1
    primary (g.text {bytes = bytes} {p = p}) h = whole places.of_expr (of.of_string_literal p bytes) (one h.0) h.1
    primary (g.true_word {p = p}) h = whole places.of_expr (of.of_truth p true) (one h.0) h.1
    primary (g.false_word {p = p}) h = whole places.of_expr (of.of_truth p false) (one h.0) h.1
    primary (g.parens {x = x} {p = p} d) h = let a = expr d h.1 in whole places.of_expr (of.of_parenthesis p x) (more h.0 a.0) a.1.1
    primary (g.reference {i = i} {ss = ss} d) h = let a = left i ss (suffixes d h) in whole places.of_expr (of.of_reference (g.left i ss)) a.0 a.1
    primary (g.constructor {x = x} d) h = let a = list d h in whole places.of_expr (of.of_constructor x) (more a.0 a.1) a.2
    primary (g.raised {x = x} d) h = let a = raise d h in whole places.of_expr (of.of_raised x) a.0 a.1

    list : {ts rest : List Token} {x : Placed (Entries Expr)} → g.IsList ts x rest → TokensStand S ts
        → S x.place × Stand S (places.of_items (plain.items x.item)) × TokensStand S rest
    list (g.list d) h = let a = args d h.1 in (h.0, a.0, a.1.1)

    list_option : {ts rest : List Token} {x : Option (Placed (Entries Expr))} → g.IsListOption ts x rest → TokensStand S ts
        → Read S places.of_values (plain.maybe_items x) rest
    list_option g.no_list h = (none, h)
    list_option (g.a_list d) h = let a = list d h in (more a.0 a.1, a.2)

    suffixes : {ts rest : List Token} {i : Identifier} {ss : List Suffix} → g.IsLeft ts i ss rest → TokensStand S ts → NameRead i ss rest
    suffixes g.named h = (h.0, All-nil SuffixStands, h.1)
    suffixes (g.field {j = j} {ss = ss} d) h = let a = suffixes d h in (a.0, with_field ss j a.1 (a.2.1).0, (a.2.1).1)
    suffixes (g.applied {ss = ss} {b = b} d f) h = let a = suffixes d h in let c = brackets f a.2 in (a.0, with_brackets ss b a.1 c.0, c.1)

    brackets : {ts rest : List Token} {x : Brackets} → g.IsBrackets ts x rest → TokensStand S ts
        → Read S places.of_brackets (plain.brackets x) rest
    brackets (g.bracketed {x = x} {c = c} {p = p} d f) h =
        let a = args d h.1 in
        let b = catch f a.1 in
        whole places.of_brackets (of.of_brackets p x c) (more h.0 (both a.0 b.0)) b.1.1

    brackets_option : {ts rest : List Token} {x : Option Brackets} → g.IsBracketsOption ts x rest → TokensStand S ts
        → Read S places.of_maybe (plain.maybe_brackets x) rest
    brackets_option g.no_brackets h = (none, h)
    brackets_option (g.some_brackets d) h = brackets d h

    args : {ts rest : List Token} {x : Entries Expr} → g.IsArgs ts x rest → TokensStand S ts → Read S places.of_items (plain.items x) rest
    args g.no_args h = (none, h)
    args (g.in_order {all = all} d) h = let a = exprs d h in (all_exprs all a.0, a.1)
    args (g.by_key {all = all} d) h = let a = keys d h in (all_keyed all a.0, a.1)

    exprs : {ts rest : List Token} {x : List Expr} → g.IsExprs ts x rest → TokensStand S ts → All ExprStands x × TokensStand S rest
    exprs (g.an_expr {x = x} d) h = let a = expr d h in (just ExprStands x a.0, a.1)
    exprs (g.exprs {all = all} {x = x} d f) h = let a = exprs d h in let c = expr f a.1.1 in (All-push ExprStands all x a.0 c.0, c.1)

    keys : {ts rest : List Token} {x : List (Keyed Expr)} → g.IsKeys ts x rest → TokensStand S ts → All KeyedStands x × TokensStand S rest
    keys (g.key {i = i} {x = x} d) h = let a = expr d (h.1).1 in (just KeyedStands (g.keyed i x) (h.0, a.0), a.1)
    keys (g.keys {all = all} {i = i} {x = x} d f) h =
        let a = keys d h in
        let c = expr f ((a.1.1).1).1 in
        (All-push KeyedStands all (g.keyed i x) a.0 ((a.1.1).0, c.0), c.1)

    catch : {ts rest : List Token} {x : Option (Placed (List Arm))} → g.IsCatch ts x rest → TokensStand S ts → Read S places.of_phrase (plain.phrase x) rest
    catch g.no_catch h = (none, h)
    catch (g.catch {all = all} d) h = let a = arm_list d h.1 in (more h.0 (all_arms all a.0), a.1)

    arm_list : {ts rest : List Token} {x : List Arm} → g.IsArmList ts x rest → TokensStand S ts → All ArmStands x × TokensStand S rest
    arm_list (g.open_arms d) h = arms d h
    arm_list (g.closed_arms d) h = let a = arms d h in (a.0, a.1.1)

    arms : {ts rest : List Token} {x : List Arm} → g.IsArms ts x rest → TokensStand S ts → All ArmStands x × TokensStand S rest
    arms (g.an_arm {x = x} d) h = let a = arm d h in (just ArmStands x a.0, a.1)
    arms (g.arms {all = all} {x = x} d f) h = let a = arms d h in let c = arm f a.1.1 in (All-push ArmStands all x a.0 c.0, c.1)

    arm : {ts rest : List Token} {x : Arm} → g.IsArm ts x rest → TokensStand S ts → ArmStands x × TokensStand S rest
    arm (g.an_arm_of {l = l} {x = x} d f) h =
        let a = names.labels d h in
        let c = statement f a.1.1 in
        (puts places.of_arms (of.of_arm l x) (λ rest r. both a.0 (both c.0 r)), c.1)

    raise : {ts rest : List Token} {x : Raise} → g.IsRaise ts x rest → TokensStand S ts
        → Read S places.of_raise (plain.raise x) rest
    raise (g.signal {x = x} {b = b} {p = p} d f) h =
        let a = names.qname d h.1 in
        let c = brackets_option f a.1 in
        whole places.of_raise (of.of_signal_raise p x b) (more h.0 (both a.0 c.0)) c.1
    raise (g.error {x = x} {b = b} {p = p} d f) h =
        let a = names.qname d h.1 in
        let c = brackets_option f a.1 in
        whole places.of_raise (of.of_error_raise p x b) (more h.0 (both a.0 c.0)) c.1
    raise (g.unnamed_error {p = p}) h = whole places.of_raise (of.of_unnamed_error p) (one h.0) h.1

    statement : {ts rest : List Token} {x : Statement} → g.IsStmt ts x rest → TokensStand S ts
        → Read S places.of_stmt (plain.statement x) rest
    statement (g.null {p = p}) h = whole places.of_stmt (of.of_null p) (one h.0) h.1
    statement (g.nested {x = x} d) h = let a = block d h in whole places.of_stmt (of.of_nested x) a.0 a.1
    statement (g.assign {i = i} {ss = ss} {x = x} d f) h =
        let a = left i ss (suffixes d h) in
        let c = expr f a.1.1 in
        whole places.of_stmt (of.of_assign (g.left i ss) x) (both a.0 c.0) c.1
    statement (g.extract {x = x} {y = y} {p = p} d f) h =
        let a = targets d h.1 in
        let c = expr f (a.1.1).1 in
        whole places.of_stmt (of.of_extract p x y) (more h.0 (both a.0 c.0)) c.1
    statement (g.call {i = i} {ss = ss} d) h =
        let a = left i ss (suffixes d h) in
        whole places.of_stmt (of.of_call (g.left i ss)) a.0 a.1
    statement (g.raise {x = x} d) h = let a = raise d h in whole places.of_stmt (of.of_raise_statement x) a.0 a.1
    statement (g.if_then {c = c} {x = x} {p = p} d f _) h =
        let a = expr d h.1 in
        let b = statement f a.1.1 in
        whole places.of_stmt (of.of_if p c x None) (more h.0 (both a.0 (both b.0 none))) b.1
    statement (g.if_else {c = c} {x = x} {y = y} {p = p} d f k) h =
        let a = expr d h.1 in
        let b = statement f a.1.1 in
        let e = statement k b.1.1 in
        whole places.of_stmt (of.of_if p c x (Some y)) (more h.0 (both a.0 (both b.0 e.0))) e.1
    statement (g.select {x = x} {cs = cs} {y = y} {p = p} d f k) h =
        let a = expr d h.1 in
        let b = case_list f a.1.1 in
        let e = otherwise k b.1.1 in
        whole places.of_stmt (of.of_select p x cs y) (more h.0 (both a.0 (both (all_cases cs b.0) e.0))) e.1
    statement (g.loop {c = c} {e = e} {body = body} {rs = rs} {p = p} d f k l) h =
        let a = control d h in
        let b = enabling f a.1.1 in
        let i = statements k b.1 in
        let j = repeat_part l i.1 in
        whole places.of_stmt (of.of_loop c p e body rs) (both a.0 (more (a.1).0 (both b.0 (both i.0 j.0)))) j.1.1
    statement (g.exit_loop {p = p}) h = whole places.of_stmt (of.of_exit_loop p) (one h.0) h.1
    statement (g.next_turn {p = p}) h = whole places.of_stmt (of.of_next_turn p) (one h.0) h.1
    statement (g.goto {i = i} {p = p}) h = whole places.of_stmt (of.of_goto p i) (more h.0 (one (h.1).0)) (h.1).1
    statement (g.go_to {i = i} {p = p}) h = whole places.of_stmt (of.of_goto p i) (more h.0 (one ((h.1).1).0)) ((h.1).1).1
    statement (g.return {x = x} {p = p} d) h = let a = list_option d h.1 in whole places.of_stmt (of.of_return p x) (more h.0 a.0) a.1
    statement (g.resume {x = x} {p = p} d) h = let a = list_option d h.1 in whole places.of_stmt (of.of_resume p x) (more h.0 a.0) a.1
    statement (g.reject {p = p}) h = whole places.of_stmt (of.of_reject p) (one h.0) h.1
    statement (g.retry {p = p}) h = whole places.of_stmt (of.of_retry p) (one h.0) h.1
    statement (g.continue {p = p}) h = whole places.of_stmt (of.of_continue p) (one h.0) h.1

    targets : {ts rest : List Token} {x : Entries Left} → g.IsTargets ts x rest → TokensStand S ts
        → Read S places.of_targets (plain.targets x) rest
    targets g.no_targets h = (none, h)
    targets (g.targets {all = all} d) h = let a = lefts d h in (all_lefts all a.0, a.1)
    targets (g.key_targets {all = all} d) h = let a = keyed_lefts d h in (all_keyed_lefts all a.0, a.1)

    lefts : {ts rest : List Token} {x : List Left} → g.IsLefts ts x rest → TokensStand S ts → All LeftStands x × TokensStand S rest
    lefts (g.a_left {i = i} {ss = ss} d) h = let a = left i ss (suffixes d h) in (just LeftStands (g.left i ss) a.0, a.1)
    lefts (g.lefts {all = all} {i = i} {ss = ss} d f) h =
        let a = lefts d h in
        let c = left i ss (suffixes f a.1.1) in
        (All-push LeftStands all (g.left i ss) a.0 c.0, c.1)

    keyed_lefts : {ts rest : List Token} {x : List (Keyed Left)} → g.IsKeyLefts ts x rest → TokensStand S ts
        → All KeyedLeftStands x × TokensStand S rest
    keyed_lefts (g.key_left {i = i} {j = j} {ss = ss} d) h =
        let a = left i ss (suffixes d (h.1).1) in
        (just KeyedLeftStands (g.keyed j (g.left i ss)) (h.0, a.0), a.1)
    keyed_lefts (g.key_lefts {all = all} {i = i} {j = j} {ss = ss} d f) h =
        let a = keyed_lefts d h in
        let c = left i ss (suffixes f ((a.1.1).1).1) in
        (All-push KeyedLeftStands all (g.keyed j (g.left i ss)) a.0 ((a.1.1).0, c.0), c.1)

    otherwise : {ts rest : List Token} {x : Option Statement} → g.IsOtherwise ts x rest → TokensStand S ts
        → Read S places.of_other (plain.maybe_statement x) rest
    otherwise g.no_otherwise h = (none, h)
    otherwise (g.otherwise d) h = statement d h.1

    case_list : {ts rest : List Token} {x : List Case} → g.IsCaseList ts x rest → TokensStand S ts → All CaseStands x × TokensStand S rest
    case_list g.no_cases h = (All-nil CaseStands, h)
    case_list (g.open_cases d) h = cases d h
    case_list (g.closed_cases d) h = let a = cases d h in (a.0, a.1.1)

    cases : {ts rest : List Token} {x : List Case} → g.IsCases ts x rest → TokensStand S ts → All CaseStands x × TokensStand S rest
    cases (g.a_case {x = x} d) h = let a = case d h in (just CaseStands x a.0, a.1)
    cases (g.cases {all = all} {x = x} d f) h = let a = cases d h in let c = case f a.1.1 in (All-push CaseStands all x a.0 c.0, c.1)

    case : {ts rest : List Token} {x : Case} → g.IsCase ts x rest → TokensStand S ts → CaseStands x × TokensStand S rest
    case (g.case_of {all = all} {x = x} d f) h =
        let a = tests d h in
        let c = statement f a.1.1 in
        (puts places.of_cases (of.of_case all x) (λ rest r. both (all_tests all a.0) (both c.0 r)), c.1)

    tests : {ts rest : List Token} {x : List Test} → g.IsTests ts x rest → TokensStand S ts → All TestStands x × TokensStand S rest
    tests (g.a_test {x = x} d) h = let a = test d h in (just TestStands x a.0, a.1)
    tests (g.tests {all = all} {x = x} d f) h = let a = tests d h in let c = test f a.1.1 in (All-push TestStands all x a.0 c.0, c.1)

    test : {ts rest : List Token} {x : Test} → g.IsTest ts x rest → TokensStand S ts → TestStands x × TokensStand S rest
    test (g.value {x = x} d) h = let a = expr d h in (puts places.of_tests (of.of_value x) (λ rest r. both a.0 r), a.1)
    test (g.compared {b = b} {x = x} {r = r} {p = p} d _ f) h =
        let i = names.negation S d h in
        let a = sum f i.1 in
        (puts places.of_tests (of.of_compared b r p x) (λ rest k. more i.0 (both a.0 k)), a.1)
    test (g.inside {b = b} {i = i} {p = p} d f) h =
        let j = names.negation S d h in
        let a = interval f j.1 in
        (puts places.of_tests (of.of_inside b p i) (λ rest k. more j.0 (both a.0 k)), a.1)

    control : {ts rest : List Token} {x : Control} → g.IsControl ts x rest → TokensStand S ts
        → Read S places.of_control (plain.control x) rest
    control (g.controlled {a = a} {b = b} d f) h =
        let c = count d h in
        let e = condition f c.1 in
        whole places.of_control (of.of_control a b) (both c.0 e.0) e.1

    count : {ts rest : List Token} {x : Option Count} → g.IsCount ts x rest → TokensStand S ts
        → Read S places.of_count (plain.maybe_count x) rest
    count g.no_count h = (none, h)
    count (g.for {i = i} {b = b} {x = x} {p = p} d f) h =
        let a = interval f (names.decreasing S d (h.1).1).1 in
        whole places.of_count (of.of_for p i b x) (more h.0 (more (h.1).0 a.0)) a.1
    count (g.through {x = x} {p = p} d) h = let a = interval d h.1 in whole places.of_count (of.of_through p x) (more h.0 a.0) a.1

    condition : {ts rest : List Token} {x : Option Condition} → g.IsCondition ts x rest → TokensStand S ts
        → Read S places.of_condition (plain.maybe_condition x) rest
    condition g.no_condition h = (none, h)
    condition (g.while {x = x} {p = p} d) h = let a = expr d h.1 in whole places.of_condition (of.of_while p x) (more h.0 a.0) a.1
    condition (g.until {x = x} {p = p} d) h = let a = expr d h.1 in whole places.of_condition (of.of_until p x) (more h.0 a.0) a.1

    pub statements : {ts rest : List Token} {x : List Statement} → g.IsBody ts x rest → TokensStand S ts
        → Read S places.of_stmts (plain.statements x) rest
    statements g.no_stmts h = (none, h)
    statements (g.open_stmts {all = all} d) h = let a = some_statements d h in (all_statements all a.0, a.1)
    statements (g.closed_stmts {all = all} d) h = let a = some_statements d h in (all_statements all a.0, a.1.1)

    some_statements : {ts rest : List Token} {x : List Statement} → g.IsStmts ts x rest → TokensStand S ts → All StatementStands x × TokensStand S rest
    some_statements (g.a_stmt {x = x} d) h = let a = statement d h in (just StatementStands x a.0, a.1)
    some_statements (g.stmts {all = all} {x = x} d f) h =
        let a = some_statements d h in
        let c = statement f a.1.1 in
        (All-push StatementStands all x a.0 c.0, c.1)

    repeat_part : {ts rest : List Token} {x : List (Labeled RepeatLabels Statement)} → g.IsRepeatPart ts x rest → TokensStand S ts → Read S places.of_repeats (plain.repeats x) rest
    repeat_part g.no_repeats h = (none, h)
    repeat_part (g.open_repeats {all = all} d) h = let a = repeats d h.1 in (all_repeats all a.0, a.1)
    repeat_part (g.closed_repeats {all = all} d) h = let a = repeats d h.1 in (all_repeats all a.0, a.1.1)

    repeats : {ts rest : List Token} {x : List (Labeled RepeatLabels Statement)} → g.IsRepeats ts x rest → TokensStand S ts
        → All RepeatStands x × TokensStand S rest
    repeats (g.a_repeat {x = x} d) h = let a = an_end d h in (just RepeatStands x a.0, a.1)
    repeats (g.repeats {all = all} {x = x} d f) h =
        let a = repeats d h in
        let c = an_end f a.1.1 in
        (All-push RepeatStands all x a.0 c.0, c.1)

    an_end : {ts rest : List Token} {x : Labeled RepeatLabels Statement} → g.IsRepeat ts x rest → TokensStand S ts
        → RepeatStands x × TokensStand S rest
    an_end (g.repeat_of d f) h = let a = names.repeat_labels d h in let c = statement f a.1.1 in ((a.0, c.0), c.1)

    pub exit_part : {ts rest : List Token} {x : List (Labeled (List Identifier) Statement)} → g.IsExitPart ts x rest → TokensStand S ts
        → Read S places.of_exits (plain.exits x) rest
    exit_part g.no_exits h = (none, h)
    exit_part (g.open_exits {all = all} d) h = let a = exits d h.1 in (all_exits all a.0, a.1)
    exit_part (g.closed_exits {all = all} d) h = let a = exits d h.1 in (all_exits all a.0, a.1.1)

    exits : {ts rest : List Token} {x : List (Labeled (List Identifier) Statement)} → g.IsExits ts x rest → TokensStand S ts
        → All ExitStands x × TokensStand S rest
    exits (g.an_exit {x = x} d) h = let a = exit d h in (just ExitStands x a.0, a.1)
    exits (g.exits {all = all} {x = x} d f) h =
        let a = exits d h in
        let c = exit f a.1.1 in
        (All-push ExitStands all x a.0 c.0, c.1)

    exit : {ts rest : List Token} {x : Labeled (List Identifier) Statement} → g.IsExit ts x rest → TokensStand S ts
        → ExitStands x × TokensStand S rest
    exit (g.exit_of {ns = ns} d f) h = let a = names.names d h in let c = statement f a.1.1 in ((names.identifiers ns a.0, c.0), c.1)

    pub enabling : {ts rest : List Token} {x : Option (Placed (List Arm))} → g.IsEnabling ts x rest → TokensStand S ts
        → Read S places.of_phrase (plain.phrase x) rest
    enabling g.no_enable h = (none, h)
    enabling (g.enable_one d) h = let a = arm d h.1 in (more h.0 (a.0 s.NoArms none), a.1.1)
    enabling (g.enable_many {all = all} d) h = let a = arm_list d (h.1).1 in (more h.0 (all_arms all a.0), (a.1.1).1)

    pub block : {ts rest : List Token} {x : Block} → g.IsBlock ts x rest → TokensStand S ts → Read S places.of_block (plain.block x) rest
    block (g.begin_end {e = e} {ls = ls} {ss = ss} {xs = xs} {p = p} d f k l) h =
        let a = enabling d h.1 in
        let b = locals f a.1 in
        let i = statements k b.1 in
        let j = exit_part l i.1 in
        whole places.of_block (of.of_block p e ls ss xs) (more h.0 (both a.0 (both (all_locals ls b.0) (both i.0 j.0)))) j.1.1
    block (g.braces {e = e} {ls = ls} {ss = ss} {xs = xs} {p = p} d f k l) h =
        let a = enabling d h.1 in
        let b = locals f a.1 in
        let i = statements k b.1 in
        let j = exit_part l i.1 in
        whole places.of_block (of.of_block p e ls ss xs) (more h.0 (both a.0 (both (all_locals ls b.0) (both i.0 j.0)))) j.1.1

    locals : {ts rest : List Token} {x : List (Labeled (List Identifier) PlainItem)} → g.IsLocals ts x rest → TokensStand S ts
        → All LocalStands x × TokensStand S rest
    locals g.no_locals h = (All-nil LocalStands, h)
    locals (g.locals {all = all} {x = x} d f) h =
        let a = locals d h in
        let c = local f a.1 in
        (All-push LocalStands all x a.0 c.0, c.1.1)

    local : {ts rest : List Token} {x : Labeled (List Identifier) PlainItem} → g.IsLocal ts x rest → TokensStand S ts
        → LocalStands x × TokensStand S rest
    local (g.local_of d f) h = let a = names.names d h in let c = item f a.1.1 in ((a.0, c.0), c.1)

    pub item : {ts rest : List Token} {x : PlainItem} → g.IsPlain ts x rest → TokensStand S ts
        → Read S places.of_plain (plain.plain_item x) rest
    item (g.type_is {x = x} d) h = let a = type d (h.1).1 in whole places.of_plain (of.of_type_is x) a.0 a.1
    item (g.variable {x = x} d) h = let a = type d h in whole places.of_plain (of.of_variable x) a.0 a.1
    item (g.initial {x = x} {y = y} d f) h =
        let a = type d h in
        let c = expr f a.1.1 in
        whole places.of_plain (of.of_initial x y) (both a.0 c.0) c.1
    item (g.constant {x = x} {y = y} d f) h =
        let a = type d h in
        let c = expr f a.1.1 in
        whole places.of_plain (of.of_constant x y) (both a.0 c.0) c.1
