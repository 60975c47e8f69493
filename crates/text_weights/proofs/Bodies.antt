-- What weighs in a tree stands among its tokens: types, expressions and statements. By induction over readings, with one clause for each row of the
-- grammar.
use Rattle.std.proofs.Common.{◌≤◌, ◌+◌, Bool, true, false, List, [], ◌∷◌, ◌++◌, Option, Some, None, map, arith, ap}
use Rattle.mesa_lexer.specs.declared.token.Token.{Token}
use Rattle.mesa_base.specs.declared.identifier.Identifier.{Identifier}
use Rattle.mesa_base.specs.declared.place.Place.{Place}
use Rattle.mesa_base.specs.declared.placed.Placed.{Placed}
use Rattle.mesa_base.specs.Chain.{chain}
use Rattle.syntax_trees.specs.declared.syntax.QualifiedName.{QualifiedName}
use Rattle.syntax_trees.specs.declared.syntax.Keyed.{Keyed}
use Rattle.syntax_trees.specs.declared.syntax.Labeled.{Labeled}
use Rattle.syntax_trees.specs.declared.syntax.Entries.{Entries}
use Rattle.syntax_trees.specs.declared.syntax.Labels.{Labels}
use Rattle.syntax_trees.specs.declared.syntax.Operator.{Operator}
use Rattle.syntax_trees.specs.declared.syntax.RepeatLabels.{RepeatLabels}
use Rattle.syntax_trees.specs.declared.syntax.TypeBase.{TypeBase}
use Rattle.syntax_trees.specs.declared.syntax.TypeExp.{TypeExp}
use Rattle.syntax_trees.specs.declared.syntax.FieldList.{FieldList}
use Rattle.syntax_trees.specs.declared.syntax.Interval.{Interval}
use Rattle.syntax_trees.specs.declared.syntax.Expr.{Expr}
use Rattle.syntax_trees.specs.declared.syntax.Operation.{Operation}
use Rattle.syntax_trees.specs.declared.syntax.Left.{Left}
use Rattle.syntax_trees.specs.declared.syntax.Suffix.{Suffix}
use Rattle.syntax_trees.specs.declared.syntax.Suffix.TheVariants.{Field, Applied}
use Rattle.syntax_trees.specs.declared.syntax.Brackets.{Brackets}
use Rattle.syntax_trees.specs.declared.syntax.Raise.{Raise}
use Rattle.syntax_trees.specs.declared.syntax.Arm.{Arm}
use Rattle.syntax_trees.specs.declared.syntax.Statement.{Statement}
use Rattle.syntax_trees.specs.declared.syntax.Control.{Control}
use Rattle.syntax_trees.specs.declared.syntax.Count.{Count}
use Rattle.syntax_trees.specs.declared.syntax.Condition.{Condition}
use Rattle.syntax_trees.specs.declared.syntax.Case.{Case}
use Rattle.syntax_trees.specs.declared.syntax.Test.{Test}
use Rattle.syntax_trees.specs.declared.syntax.Block.{Block}
use Rattle.syntax_trees.specs.declared.syntax.PlainItem.{PlainItem}
use Rattle.syntax_trees.specs.Syntax as s
use Rattle.syntax_trees.specs.PlainSyntax as plain
use Rattle.syntax_trees.proofs.PlainForms as of
use Rattle.grammar_rules.specs.Grammar as g
use Rattle.token_cursor.specs.Grammars.{spelled}
use Rattle.checking_laws.specs.Weights as tree
use Rattle.checking_laws.specs.Weights.{Weights}
use Rattle.text_weights.specs.Tokens.{tokens_weight}
use Rattle.text_weights.proofs.Lists.{Fits, PutsFit, chain_push, puts_push, puts_closed, push_name, push_qualified, push_types, push_named_fields, push_exprs, push_keyed_exprs, push_lefts, push_keyed_lefts, push_statements, push_locals, push_exits, push_repeats}

module _ (w : Weights) where
  -- ---- names

  pub names_f : {ts rest : List Token} {x : List Identifier} → g.IsNames ts x rest → Fits w (tree.each_name w x) ts rest
  unfolding tokens_weight tree.each_name
  names_f g.name = record { fits = omega arith }
  names_f (g.names {all = all} {i = i} d) = record { fits = omega (arith, push_name w all i, (names_f d).fits) }

  qname_f : {ts rest : List Token} {x : QualifiedName} → g.IsQName ts x rest → Fits w (tree.qualified_weight w x) ts rest
  unfolding tokens_weight
  qname_f g.bare = record { fits = omega arith }
  qname_f g.dotted = record { fits = omega arith }

  qnames_f : {ts rest : List Token} {x : List QualifiedName} → g.IsQNames ts x rest → Fits w (tree.each_qualified_weight w x) ts rest
  unfolding tokens_weight tree.each_qualified_weight
  qnames_f (g.qname d) = record { fits = omega (arith, (qname_f d).fits) }
  qnames_f (g.qnames {all = all} {x = x} d f) = record { fits = omega (arith, push_qualified w all x, (qnames_f d).fits, (qname_f f).fits) }

  labels_f : {ts rest : List Token} {x : Labels} → g.IsLabels ts x rest → Fits w (tree.labels_weight w x) ts rest
  unfolding tokens_weight tree.labels_weight
  labels_f g.any = record { fits = omega arith }
  labels_f g.unwind = record { fits = omega arith }
  labels_f (g.signals d) = qnames_f d

  repeat_labels_f : {ts rest : List Token} {x : RepeatLabels} → g.IsRepeatLabels ts x rest → Fits w (tree.repeat_weight w x) ts rest
  unfolding tokens_weight tree.repeat_weight
  repeat_labels_f (g.labels d) = names_f d
  repeat_labels_f g.finished = record { fits = omega arith }

  base_f : {ts rest : List Token} {x : TypeBase} → g.IsBase ts x rest → Fits w (tree.base_weight w x) ts rest
  unfolding tokens_weight tree.base_weight
  base_f g.unsaid = record { fits = omega arith }
  base_f g.of_integer = record { fits = omega arith }
  base_f g.of_cardinal = record { fits = omega arith }
  base_f g.of_character = record { fits = omega arith }
  base_f (g.of_name d) = qname_f d

  not_f : {ts rest : List Token} {x : Bool} → g.IsNot ts x rest → Fits w 0 ts rest
  unfolding tokens_weight
  not_f g.affirmed = record { fits = omega arith }
  not_f (g.negated _) = record { fits = omega arith }

  decreasing_f : {ts rest : List Token} {x : Bool} → g.IsDecreasing ts x rest → Fits w 0 ts rest
  unfolding tokens_weight
  decreasing_f g.rising = record { fits = omega arith }
  decreasing_f g.falling = record { fits = omega arith }

  -- ---- runs of operators, and names with their suffixes

  -- the first operand, and the operators with the others, before other operators
  record RunFits (x : Expr) (ss : List Operation) (ts rest : List Token) : Type 0 where
    pub fits : (more : s.Operations) → tree.expr_weight w (plain.expr x) + tree.steps_weight w (chain (map plain.operation ss) more) + tokens_weight w rest
        ≤ tree.steps_weight w more + tokens_weight w ts

  first : {ts rest : List Token} {x : Expr} → Fits w (tree.expr_weight w (plain.expr x)) ts rest → RunFits x [] ts rest
  first h = record { fits = λ more. omega (arith, h.fits) }

  longer : {t : Token} {ts us rest : List Token} {x : Expr} {ss : List Operation} (o : Operator) (p : Place) (y : Expr) → RunFits x ss ts (t ∷ us)
      → Fits w (tree.expr_weight w (plain.expr y)) us rest → RunFits x (ss ++ g.step o p y ∷ []) ts rest
  unfolding tokens_weight tree.expr_weight
  longer {ss = ss} o p y h k = record {
    fits = λ more. omega (
      arith,
      ap (tree.steps_weight w) (chain_push plain.operation ss (g.step o p y) more),
      ap (λ f. tree.steps_weight w (f more)) (of.of_operation o p y),
      h.fits (plain.operation (g.step o p y) more),
      k.fits,
    );
  }

  run_f : {ts rest : List Token} (x : Expr) (ss : List Operation) → RunFits x ss ts rest → Fits w (tree.expr_weight w (plain.expr (g.run x ss))) ts rest
  unfolding tree.expr_weight
  run_f x [] h = record { fits = omega (arith, h.fits s.NoOperation) }
  run_f x (o ∷ os) h = record { fits = omega (arith, ap (tree.expr_weight w) (of.of_run x (o ∷ os)), h.fits s.NoOperation) }

  -- a name with its suffixes, before other suffixes
  record NameFits (i : Identifier) (ss : List Suffix) (ts rest : List Token) : Type 0 where
    pub fits : (more : s.Suffixes) → w.of_name i.name + tree.suffixes_weight w (chain (map plain.suffix ss) more) + tokens_weight w rest
        ≤ tree.suffixes_weight w more + tokens_weight w ts

  with_field : {t : Token} {ts rest : List Token} {i : Identifier} {ss : List Suffix} (j : Identifier) → NameFits i ss ts (t ∷ spelled j ∷ rest)
      → NameFits i (ss ++ Field j ∷ []) ts rest
  unfolding tokens_weight tree.suffixes_weight
  with_field {ss = ss} j h = record {
    fits = λ more. omega (
      arith,
      ap (tree.suffixes_weight w) (chain_push plain.suffix ss (Field j) more),
      ap (λ f. tree.suffixes_weight w (f more)) (of.of_field j),
      h.fits (plain.suffix (Field j) more),
    );
  }

  with_brackets : {ts us rest : List Token} {i : Identifier} {ss : List Suffix} (b : Brackets) → NameFits i ss ts us
      → Fits w (tree.brackets_weight w (plain.brackets b)) us rest → NameFits i (ss ++ Applied b ∷ []) ts rest
  unfolding tree.suffixes_weight
  with_brackets {ss = ss} b h k = record {
    fits = λ more. omega (
      arith,
      ap (tree.suffixes_weight w) (chain_push plain.suffix ss (Applied b) more),
      ap (λ f. tree.suffixes_weight w (f more)) (of.of_applied b),
      h.fits (plain.suffix (Applied b) more),
      k.fits,
    );
  }

  left_f : {ts rest : List Token} (i : Identifier) (ss : List Suffix) → NameFits i ss ts rest → Fits w (tree.left_weight w (plain.left (g.left i ss))) ts rest
  unfolding tree.left_weight
  left_f i ss h = record { fits = omega (arith, ap (tree.left_weight w) (of.of_left i ss), h.fits s.NoSuffix) }

  -- ---- the rows

  mutual
    unfolding tokens_weight tree.type_weight tree.labels_weight tree.repeat_weight tree.base_weight

    pub type_f : {ts rest : List Token} {x : TypeExp} → g.IsType ts x rest → Fits w (tree.type_weight w (plain.type_exp x)) ts rest
    type_f (g.integer {p = p}) = record { fits = omega (arith, ap (tree.type_weight w) (of.of_integer p)) }
    type_f (g.cardinal {p = p}) = record { fits = omega (arith, ap (tree.type_weight w) (of.of_cardinal p)) }
    type_f (g.long_integer {p = p}) = record { fits = omega (arith, ap (tree.type_weight w) (of.of_long_integer p)) }
    type_f (g.long_cardinal {p = p}) = record { fits = omega (arith, ap (tree.type_weight w) (of.of_long_cardinal p)) }
    type_f (g.boolean {p = p}) = record { fits = omega (arith, ap (tree.type_weight w) (of.of_boolean p)) }
    type_f (g.character {p = p}) = record { fits = omega (arith, ap (tree.type_weight w) (of.of_character p)) }
    type_f (g.string {p = p}) = record { fits = omega (arith, ap (tree.type_weight w) (of.of_string p)) }
    type_f (g.called {x = x} d) = record { fits = omega (arith, ap (tree.type_weight w) (of.of_called x), (qname_f d).fits) }
    type_f (g.enumeration {all = all} {p = p} d) = record { fits = omega (arith, ap (tree.type_weight w) (of.of_enumeration p all), (names_f d).fits) }
    type_f (g.subrange {b = b} {x = x} d f) = record { fits = omega (arith, ap (tree.type_weight w) (of.of_subrange b x), (base_f d).fits, (interval_f f).fits) }
    type_f (g.array {x = x} {y = y} {p = p} d f) = record { fits = omega (arith, ap (tree.type_weight w) (of.of_array p x y), (type_f d).fits, (type_f f).fits) }
    type_f (g.a_record {x = x} {p = p} d) = record { fits = omega (arith, ap (tree.type_weight w) (of.of_record p x), (fields_f d).fits) }

    pub fields_f : {ts rest : List Token} {x : FieldList} → g.IsFields ts x rest → Fits w (tree.field_list_weight w (plain.field_list x)) ts rest
    fields_f (g.with_names {all = all} d) = record { fits = omega (arith, ap (tree.field_list_weight w) (of.of_with_names all), (groups_f d).fits) }
    fields_f (g.unnamed {all = all} d) = record { fits = omega (arith, ap (tree.field_list_weight w) (of.of_unnamed all), (types_f d).fits) }

    types_f : {ts rest : List Token} {x : List TypeExp} → g.IsTypes ts x rest → Fits w (tree.types_weight w (plain.types x)) ts rest
    types_f (g.a_type d) = record { fits = omega (arith, (type_f d).fits) }
    types_f (g.types {all = all} {x = x} d f) = record { fits = omega (arith, push_types w all x, (types_f d).fits, (type_f f).fits) }

    groups_f : {ts rest : List Token} {x : List (Labeled (List Identifier) TypeExp)} → g.IsGroups ts x rest → Fits w (tree.named_fields_weight w (plain.named_fields x)) ts rest
    groups_f (g.group d f) = record { fits = omega (arith, (names_f d).fits, (type_f f).fits) }
    groups_f (g.groups {all = all} {ns = ns} {x = x} d f k) = record { fits = omega (arith, push_named_fields w all (g.labeled ns x), (groups_f d).fits, (names_f f).fits, (type_f k).fits) }

    interval_f : {ts rest : List Token} {x : Interval} → g.IsInterval ts x rest → Fits w (tree.interval_weight w (plain.interval x)) ts rest
    interval_f (g.bounds {a = a} {b = b} {x = x} {y = y} {p = p} _ d f _) = record { fits = omega (arith, ap (tree.interval_weight w) (of.of_interval p a x y b), (expr_f d).fits, (expr_f f).fits) }

    pub expr_f : {ts rest : List Token} {x : Expr} → g.IsExpr ts x rest → Fits w (tree.expr_weight w (plain.expr x)) ts rest
    expr_f (g.expr {x = x} {ss = ss} d) = run_f x ss (ors_f d)

    ors_f : {ts rest : List Token} {x : Expr} {ss : List Operation} → g.IsOrs ts x ss rest → RunFits x ss ts rest
    ors_f (g.disjunct {x = x} d) = first (conj_f d)
    ors_f (g.ors {x = x} {y = y} {ss = ss} {o = o} {p = p} d _ f) = longer o p y (ors_f d) (conj_f f)

    conj_f : {ts rest : List Token} {x : Expr} → g.IsConj ts x rest → Fits w (tree.expr_weight w (plain.expr x)) ts rest
    conj_f (g.conj {x = x} {ss = ss} d) = run_f x ss (ands_f d)

    ands_f : {ts rest : List Token} {x : Expr} {ss : List Operation} → g.IsAnds ts x ss rest → RunFits x ss ts rest
    ands_f (g.conjunct {x = x} d) = first (neg_f d)
    ands_f (g.ands {x = x} {y = y} {ss = ss} {o = o} {p = p} d _ f) = longer o p y (ands_f d) (neg_f f)

    neg_f : {ts rest : List Token} {x : Expr} → g.IsNeg ts x rest → Fits w (tree.expr_weight w (plain.expr x)) ts rest
    neg_f (g.rel d) = rel_f d
    neg_f (g.not {x = x} {p = p} _ d) = record { fits = omega (arith, ap (tree.expr_weight w) (of.of_not p x), (rel_f d).fits) }

    rel_f : {ts rest : List Token} {x : Expr} → g.IsRel ts x rest → Fits w (tree.expr_weight w (plain.expr x)) ts rest
    rel_f (g.alone d) = sum_f d
    rel_f (g.compare {x = x} {y = y} {b = b} {r = r} {p = p} d f _ h) = record { fits = omega (arith, ap (tree.expr_weight w) (of.of_compare x b r p y), (sum_f d).fits, (not_f f).fits, (sum_f h).fits) }
    rel_f (g.within {x = x} {b = b} {i = i} {p = p} d f h) = record { fits = omega (arith, ap (tree.expr_weight w) (of.of_within x b p i), (sum_f d).fits, (not_f f).fits, (interval_f h).fits) }

    sum_f : {ts rest : List Token} {x : Expr} → g.IsSum ts x rest → Fits w (tree.expr_weight w (plain.expr x)) ts rest
    sum_f (g.sum {x = x} {ss = ss} d) = run_f x ss (sums_f d)

    sums_f : {ts rest : List Token} {x : Expr} {ss : List Operation} → g.IsSums ts x ss rest → RunFits x ss ts rest
    sums_f (g.summand {x = x} d) = first (product_f d)
    sums_f (g.sums {x = x} {y = y} {ss = ss} {o = o} {p = p} d _ f) = longer o p y (sums_f d) (product_f f)

    product_f : {ts rest : List Token} {x : Expr} → g.IsProduct ts x rest → Fits w (tree.expr_weight w (plain.expr x)) ts rest
    product_f (g.product {x = x} {ss = ss} d) = run_f x ss (products_f d)

    products_f : {ts rest : List Token} {x : Expr} {ss : List Operation} → g.IsProducts ts x ss rest → RunFits x ss ts rest
    products_f (g.factor {x = x} d) = first (factor_f d)
    products_f (g.products {x = x} {y = y} {ss = ss} {o = o} {p = p} d _ f) = longer o p y (products_f d) (factor_f f)

    factor_f : {ts rest : List Token} {x : Expr} → g.IsFactor ts x rest → Fits w (tree.expr_weight w (plain.expr x)) ts rest
    factor_f (g.primary d) = primary_f d
    factor_f (g.signed {x = x} {s = sign} {p = p} _ d) = record { fits = omega (arith, ap (tree.expr_weight w) (of.of_signed sign p x), (primary_f d).fits) }

    primary_f : {ts rest : List Token} {x : Expr} → g.IsPrimary ts x rest → Fits w (tree.expr_weight w (plain.expr x)) ts rest
    primary_f (g.number {n = n} {p = p}) = record { fits = omega (arith, ap (tree.expr_weight w) (of.of_number_literal p n)) }
    primary_f (g.char {n = n} {p = p}) = record { fits = omega (arith, ap (tree.expr_weight w) (of.of_character_literal p n)) }
    primary_f (g.text {bytes = bytes} {p = p}) = record { fits = omega (arith, ap (tree.expr_weight w) (of.of_string_literal p bytes)) }
    primary_f (g.true_word {p = p}) = record { fits = omega (arith, ap (tree.expr_weight w) (of.of_truth p true)) }
    primary_f (g.false_word {p = p}) = record { fits = omega (arith, ap (tree.expr_weight w) (of.of_truth p false)) }
    primary_f (g.parens {x = x} {p = p} d) = record { fits = omega (arith, ap (tree.expr_weight w) (of.of_parenthesis p x), (expr_f d).fits) }
    primary_f (g.reference {i = i} {ss = ss} d) = record { fits = omega (arith, ap (tree.expr_weight w) (of.of_reference (g.left i ss)), (left_f i ss (suffixes_f d)).fits) }
    primary_f (g.constructor {x = x} d) = record { fits = omega (arith, ap (tree.expr_weight w) (of.of_constructor x), (list_f d).fits) }
    primary_f (g.raised {x = x} d) = record { fits = omega (arith, ap (tree.expr_weight w) (of.of_raised x), (raise_f d).fits) }

    list_f : {ts rest : List Token} {x : Placed (Entries Expr)} → g.IsList ts x rest → Fits w (tree.items_weight w (plain.items x.item)) ts rest
    list_f (g.list d) = record { fits = omega (arith, (args_f d).fits) }

    list_option_f : {ts rest : List Token} {x : Option (Placed (Entries Expr))} → g.IsListOption ts x rest → Fits w (tree.maybe_items_weight w (plain.maybe_items x)) ts rest
    list_option_f g.no_list = record { fits = omega arith }
    list_option_f (g.a_list d) = list_f d

    suffixes_f : {ts rest : List Token} {i : Identifier} {ss : List Suffix} → g.IsLeft ts i ss rest → NameFits i ss ts rest
    suffixes_f g.named = record { fits = λ more. omega arith }
    suffixes_f (g.field {i = i} {j = j} {ss = ss} d) = with_field j (suffixes_f d)
    suffixes_f (g.applied {i = i} {ss = ss} {b = b} d f) = with_brackets b (suffixes_f d) (brackets_f f)

    brackets_f : {ts rest : List Token} {x : Brackets} → g.IsBrackets ts x rest → Fits w (tree.brackets_weight w (plain.brackets x)) ts rest
    brackets_f (g.bracketed {x = x} {c = c} {p = p} d f) = record { fits = omega (arith, ap (tree.brackets_weight w) (of.of_brackets p x c), (args_f d).fits, (catch_f f).fits) }

    brackets_option_f : {ts rest : List Token} {x : Option Brackets} → g.IsBracketsOption ts x rest → Fits w (tree.maybe_brackets_weight w (plain.maybe_brackets x)) ts rest
    brackets_option_f g.no_brackets = record { fits = omega arith }
    brackets_option_f (g.some_brackets d) = brackets_f d

    args_f : {ts rest : List Token} {x : Entries Expr} → g.IsArgs ts x rest → Fits w (tree.items_weight w (plain.items x)) ts rest
    args_f g.no_args = record { fits = omega arith }
    args_f (g.in_order d) = exprs_f d
    args_f (g.by_key d) = keys_f d

    exprs_f : {ts rest : List Token} {x : List Expr} → g.IsExprs ts x rest → Fits w (tree.exprs_weight w (plain.exprs x)) ts rest
    exprs_f (g.an_expr d) = record { fits = omega (arith, (expr_f d).fits) }
    exprs_f (g.exprs {all = all} {x = x} d f) = record { fits = omega (arith, push_exprs w all x, (exprs_f d).fits, (expr_f f).fits) }

    keys_f : {ts rest : List Token} {x : List (Keyed Expr)} → g.IsKeys ts x rest → Fits w (tree.keyed_weight w (plain.keyed_exprs x)) ts rest
    keys_f (g.key d) = record { fits = omega (arith, (expr_f d).fits) }
    keys_f (g.keys {all = all} {i = i} {x = x} d f) = record { fits = omega (arith, push_keyed_exprs w all (g.keyed i x), (keys_f d).fits, (expr_f f).fits) }

    catch_f : {ts rest : List Token} {x : Option (Placed (List Arm))} → g.IsCatch ts x rest → Fits w (tree.phrase_weight w (plain.phrase x)) ts rest
    catch_f g.no_catch = record { fits = omega arith }
    catch_f (g.catch d) = record { fits = omega (arith, (arm_list_f d).fits s.NoArms) }

    arm_list_f : {ts rest : List Token} {x : List Arm} → g.IsArmList ts x rest → PutsFit w (tree.arms_weight w) (chain (map plain.arm x)) ts rest
    arm_list_f (g.open_arms d) = arms_f d
    arm_list_f (g.closed_arms {all = all} d) = puts_closed (arms_f d)

    arms_f : {ts rest : List Token} {x : List Arm} → g.IsArms ts x rest → PutsFit w (tree.arms_weight w) (chain (map plain.arm x)) ts rest
    arms_f (g.an_arm d) = arm_f d
    arms_f (g.arms {all = all} {x = x} d f) = puts_push plain.arm all x (arms_f d) (arm_f f)

    arm_f : {ts rest : List Token} {x : Arm} → g.IsArm ts x rest → PutsFit w (tree.arms_weight w) (plain.arm x) ts rest
    arm_f (g.an_arm_of {l = l} {x = x} d f) = record { fits = λ more. omega (arith, ap (λ h. tree.arms_weight w (h more)) (of.of_arm l x), (labels_f d).fits, (statement_f f).fits) }

    raise_f : {ts rest : List Token} {x : Raise} → g.IsRaise ts x rest → Fits w (tree.raise_weight w (plain.raise x)) ts rest
    raise_f (g.signal {x = x} {b = b} {p = p} d f) = record { fits = omega (arith, ap (tree.raise_weight w) (of.of_signal_raise p x b), (qname_f d).fits, (brackets_option_f f).fits) }
    raise_f (g.error {x = x} {b = b} {p = p} d f) = record { fits = omega (arith, ap (tree.raise_weight w) (of.of_error_raise p x b), (qname_f d).fits, (brackets_option_f f).fits) }
    raise_f (g.unnamed_error {p = p}) = record { fits = omega (arith, ap (tree.raise_weight w) (of.of_unnamed_error p)) }

    statement_f : {ts rest : List Token} {x : Statement} → g.IsStmt ts x rest → Fits w (tree.statement_weight w (plain.statement x)) ts rest
    statement_f (g.null {p = p}) = record { fits = omega (arith, ap (tree.statement_weight w) (of.of_null p)) }
    statement_f (g.nested {x = x} d) = record { fits = omega (arith, ap (tree.statement_weight w) (of.of_nested x), (block_f d).fits) }
    statement_f (g.assign {i = i} {ss = ss} {x = x} d f) = record { fits = omega (arith, ap (tree.statement_weight w) (of.of_assign (g.left i ss) x), (left_f i ss (suffixes_f d)).fits, (expr_f f).fits) }
    statement_f (g.extract {x = x} {y = y} {p = p} d f) = record { fits = omega (arith, ap (tree.statement_weight w) (of.of_extract p x y), (targets_f d).fits, (expr_f f).fits) }
    statement_f (g.call {i = i} {ss = ss} d) = record { fits = omega (arith, ap (tree.statement_weight w) (of.of_call (g.left i ss)), (left_f i ss (suffixes_f d)).fits) }
    statement_f (g.raise {x = x} d) = record { fits = omega (arith, ap (tree.statement_weight w) (of.of_raise_statement x), (raise_f d).fits) }
    statement_f (g.if_then {c = c} {x = x} {p = p} d f _) = record { fits = omega (arith, ap (tree.statement_weight w) (of.of_if p c x None), (expr_f d).fits, (statement_f f).fits) }
    statement_f (g.if_else {c = c} {x = x} {y = y} {p = p} d f h) = record { fits = omega (arith, ap (tree.statement_weight w) (of.of_if p c x (Some y)), (expr_f d).fits, (statement_f f).fits, (statement_f h).fits) }
    statement_f (g.select {x = x} {cs = cs} {y = y} {p = p} d f h) = record { fits = omega (arith, ap (tree.statement_weight w) (of.of_select p x cs y), (expr_f d).fits, (case_list_f f).fits s.NoCases, (otherwise_f h).fits) }
    statement_f (g.loop {c = c} {e = e} {body = body} {rs = rs} {p = p} d f h i) = record { fits = omega (arith, ap (tree.statement_weight w) (of.of_loop c p e body rs), (control_f d).fits, (enabling_f f).fits, (body_f h).fits, (repeat_part_f i).fits) }
    statement_f (g.exit_loop {p = p}) = record { fits = omega (arith, ap (tree.statement_weight w) (of.of_exit_loop p)) }
    statement_f (g.next_turn {p = p}) = record { fits = omega (arith, ap (tree.statement_weight w) (of.of_next_turn p)) }
    statement_f (g.goto {i = i} {p = p}) = record { fits = omega (arith, ap (tree.statement_weight w) (of.of_goto p i)) }
    statement_f (g.go_to {i = i} {p = p}) = record { fits = omega (arith, ap (tree.statement_weight w) (of.of_goto p i)) }
    statement_f (g.return {x = x} {p = p} d) = record { fits = omega (arith, ap (tree.statement_weight w) (of.of_return p x), (list_option_f d).fits) }
    statement_f (g.resume {x = x} {p = p} d) = record { fits = omega (arith, ap (tree.statement_weight w) (of.of_resume p x), (list_option_f d).fits) }
    statement_f (g.reject {p = p}) = record { fits = omega (arith, ap (tree.statement_weight w) (of.of_reject p)) }
    statement_f (g.retry {p = p}) = record { fits = omega (arith, ap (tree.statement_weight w) (of.of_retry p)) }
    statement_f (g.continue {p = p}) = record { fits = omega (arith, ap (tree.statement_weight w) (of.of_continue p)) }

    targets_f : {ts rest : List Token} {x : Entries Left} → g.IsTargets ts x rest → Fits w (tree.targets_weight w (plain.targets x)) ts rest
    targets_f g.no_targets = record { fits = omega arith }
    targets_f (g.targets d) = lefts_f d
    targets_f (g.key_targets d) = keyed_lefts_f d

    lefts_f : {ts rest : List Token} {x : List Left} → g.IsLefts ts x rest → Fits w (tree.lefts_weight w (plain.lefts x)) ts rest
    lefts_f (g.a_left {i = i} {ss = ss} d) = record { fits = omega (arith, (left_f i ss (suffixes_f d)).fits) }
    lefts_f (g.lefts {all = all} {i = i} {ss = ss} d f) = record { fits = omega (arith, push_lefts w all (g.left i ss), (lefts_f d).fits, (left_f i ss (suffixes_f f)).fits) }

    keyed_lefts_f : {ts rest : List Token} {x : List (Keyed Left)} → g.IsKeyLefts ts x rest → Fits w (tree.keyed_lefts_weight w (plain.keyed_lefts x)) ts rest
    keyed_lefts_f (g.key_left {i = i} {ss = ss} d) = record { fits = omega (arith, (left_f i ss (suffixes_f d)).fits) }
    keyed_lefts_f (g.key_lefts {all = all} {i = i} {j = j} {ss = ss} d f) = record { fits = omega (arith, push_keyed_lefts w all (g.keyed j (g.left i ss)), (keyed_lefts_f d).fits, (left_f i ss (suffixes_f f)).fits) }

    otherwise_f : {ts rest : List Token} {x : Option Statement} → g.IsOtherwise ts x rest → Fits w (tree.other_weight w (plain.maybe_statement x)) ts rest
    otherwise_f g.no_otherwise = record { fits = omega arith }
    otherwise_f (g.otherwise d) = record { fits = omega (arith, (statement_f d).fits) }

    case_list_f : {ts rest : List Token} {x : List Case} → g.IsCaseList ts x rest → PutsFit w (tree.cases_weight w) (chain (map plain.case x)) ts rest
    case_list_f g.no_cases = record { fits = λ more. omega arith }
    case_list_f (g.open_cases d) = cases_f d
    case_list_f (g.closed_cases {all = all} d) = puts_closed (cases_f d)

    cases_f : {ts rest : List Token} {x : List Case} → g.IsCases ts x rest → PutsFit w (tree.cases_weight w) (chain (map plain.case x)) ts rest
    cases_f (g.a_case d) = case_f d
    cases_f (g.cases {all = all} {x = x} d f) = puts_push plain.case all x (cases_f d) (case_f f)

    case_f : {ts rest : List Token} {x : Case} → g.IsCase ts x rest → PutsFit w (tree.cases_weight w) (plain.case x) ts rest
    case_f (g.case_of {all = all} {x = x} d f) = record { fits = λ more. omega (arith, ap (λ h. tree.cases_weight w (h more)) (of.of_case all x), (tests_f d).fits s.NoTests, (statement_f f).fits) }

    tests_f : {ts rest : List Token} {x : List Test} → g.IsTests ts x rest → PutsFit w (tree.tests_weight w) (chain (map plain.test x)) ts rest
    tests_f (g.a_test d) = test_f d
    tests_f (g.tests {all = all} {x = x} d f) = puts_push plain.test all x (tests_f d) (test_f f)

    test_f : {ts rest : List Token} {x : Test} → g.IsTest ts x rest → PutsFit w (tree.tests_weight w) (plain.test x) ts rest
    test_f (g.value {x = x} d) = record { fits = λ more. omega (arith, ap (λ h. tree.tests_weight w (h more)) (of.of_value x), (expr_f d).fits) }
    test_f (g.compared {b = b} {x = x} {r = r} {p = p} d _ f) = record { fits = λ more. omega (arith, ap (λ h. tree.tests_weight w (h more)) (of.of_compared b r p x), (not_f d).fits, (sum_f f).fits) }
    test_f (g.inside {b = b} {i = i} {p = p} d f) = record { fits = λ more. omega (arith, ap (λ h. tree.tests_weight w (h more)) (of.of_inside b p i), (not_f d).fits, (interval_f f).fits) }

    control_f : {ts rest : List Token} {x : Control} → g.IsControl ts x rest → Fits w (tree.control_weight w (plain.control x)) ts rest
    control_f (g.controlled {a = a} {b = b} d f) = record { fits = omega (arith, ap (tree.control_weight w) (of.of_control a b), (count_f d).fits, (condition_f f).fits) }

    count_f : {ts rest : List Token} {x : Option Count} → g.IsCount ts x rest → Fits w (tree.count_weight w (plain.maybe_count x)) ts rest
    count_f g.no_count = record { fits = omega arith }
    count_f (g.for {i = i} {b = b} {x = x} {p = p} d f) = record { fits = omega (arith, ap (tree.count_weight w) (of.of_for p i b x), (decreasing_f d).fits, (interval_f f).fits) }
    count_f (g.through {x = x} {p = p} d) = record { fits = omega (arith, ap (tree.count_weight w) (of.of_through p x), (interval_f d).fits) }

    condition_f : {ts rest : List Token} {x : Option Condition} → g.IsCondition ts x rest → Fits w (tree.condition_weight w (plain.maybe_condition x)) ts rest
    condition_f g.no_condition = record { fits = omega arith }
    condition_f (g.while {x = x} {p = p} d) = record { fits = omega (arith, ap (tree.condition_weight w) (of.of_while p x), (expr_f d).fits) }
    condition_f (g.until {x = x} {p = p} d) = record { fits = omega (arith, ap (tree.condition_weight w) (of.of_until p x), (expr_f d).fits) }

    pub body_f : {ts rest : List Token} {x : List Statement} → g.IsBody ts x rest → Fits w (tree.statements_weight w (plain.statements x)) ts rest
    body_f g.no_stmts = record { fits = omega arith }
    body_f (g.open_stmts d) = statements_f d
    body_f (g.closed_stmts d) = record { fits = omega (arith, (statements_f d).fits) }

    statements_f : {ts rest : List Token} {x : List Statement} → g.IsStmts ts x rest → Fits w (tree.statements_weight w (plain.statements x)) ts rest
    statements_f (g.a_stmt d) = record { fits = omega (arith, (statement_f d).fits) }
    statements_f (g.stmts {all = all} {x = x} d f) = record { fits = omega (arith, push_statements w all x, (statements_f d).fits, (statement_f f).fits) }

    repeat_part_f : {ts rest : List Token} {x : List (Labeled RepeatLabels Statement)} → g.IsRepeatPart ts x rest → Fits w (tree.repeats_weight w (plain.repeats x)) ts rest
    repeat_part_f g.no_repeats = record { fits = omega arith }
    repeat_part_f (g.open_repeats d) = record { fits = omega (arith, (repeats_f d).fits) }
    repeat_part_f (g.closed_repeats d) = record { fits = omega (arith, (repeats_f d).fits) }

    repeats_f : {ts rest : List Token} {x : List (Labeled RepeatLabels Statement)} → g.IsRepeats ts x rest → Fits w (tree.repeats_weight w (plain.repeats x)) ts rest
    repeats_f (g.a_repeat d) = record { fits = omega (arith, (repeat_f d).fits) }
    repeats_f (g.repeats {all = all} {x = x} d f) = record { fits = omega (arith, push_repeats w all x, (repeats_f d).fits, (repeat_f f).fits) }

    repeat_f : {ts rest : List Token} {x : Labeled RepeatLabels Statement} → g.IsRepeat ts x rest → Fits w (tree.repeat_weight w x.labels + tree.statement_weight w (plain.statement x.item)) ts rest
    repeat_f (g.repeat_of d f) = record { fits = omega (arith, (repeat_labels_f d).fits, (statement_f f).fits) }

    pub exit_part_f : {ts rest : List Token} {x : List (Labeled (List Identifier) Statement)} → g.IsExitPart ts x rest → Fits w (tree.exits_weight w (plain.exits x)) ts rest
    exit_part_f g.no_exits = record { fits = omega arith }
    exit_part_f (g.open_exits d) = record { fits = omega (arith, (exits_f d).fits) }
    exit_part_f (g.closed_exits d) = record { fits = omega (arith, (exits_f d).fits) }

    exits_f : {ts rest : List Token} {x : List (Labeled (List Identifier) Statement)} → g.IsExits ts x rest → Fits w (tree.exits_weight w (plain.exits x)) ts rest
    exits_f (g.an_exit d) = record { fits = omega (arith, (exit_f d).fits) }
    exits_f (g.exits {all = all} {x = x} d f) = record { fits = omega (arith, push_exits w all x, (exits_f d).fits, (exit_f f).fits) }

    exit_f : {ts rest : List Token} {x : Labeled (List Identifier) Statement} → g.IsExit ts x rest → Fits w (tree.each_name w x.labels + tree.statement_weight w (plain.statement x.item)) ts rest
    exit_f (g.exit_of d f) = record { fits = omega (arith, (names_f d).fits, (statement_f f).fits) }

    pub enabling_f : {ts rest : List Token} {x : Option (Placed (List Arm))} → g.IsEnabling ts x rest → Fits w (tree.phrase_weight w (plain.phrase x)) ts rest
    enabling_f g.no_enable = record { fits = omega arith }
    enabling_f (g.enable_one d) = record { fits = omega (arith, (arm_f d).fits s.NoArms) }
    enabling_f (g.enable_many d) = record { fits = omega (arith, (arm_list_f d).fits s.NoArms) }

    pub block_f : {ts rest : List Token} {x : Block} → g.IsBlock ts x rest → Fits w (tree.block_weight w (plain.block x)) ts rest
    block_f (g.begin_end {e = e} {ls = ls} {ss = ss} {xs = xs} {p = p} d f h i) = record { fits = omega (arith, ap (tree.block_weight w) (of.of_block p e ls ss xs), (enabling_f d).fits, (locals_f f).fits, (body_f h).fits, (exit_part_f i).fits) }
    block_f (g.braces {e = e} {ls = ls} {ss = ss} {xs = xs} {p = p} d f h i) = record { fits = omega (arith, ap (tree.block_weight w) (of.of_block p e ls ss xs), (enabling_f d).fits, (locals_f f).fits, (body_f h).fits, (exit_part_f i).fits) }

    locals_f : {ts rest : List Token} {x : List (Labeled (List Identifier) PlainItem)} → g.IsLocals ts x rest → Fits w (tree.locals_weight w (plain.locals x)) ts rest
    locals_f g.no_locals = record { fits = omega arith }
    locals_f (g.locals {all = all} {x = x} d f) = record { fits = omega (arith, push_locals w all x, (locals_f d).fits, (local_f f).fits) }

    local_f : {ts rest : List Token} {x : Labeled (List Identifier) PlainItem} → g.IsLocal ts x rest → Fits w (tree.each_name w x.labels + tree.plain_item_weight w (plain.plain_item x.item)) ts rest
    local_f (g.local_of d f) = record { fits = omega (arith, (names_f d).fits, (item_f f).fits) }

    pub item_f : {ts rest : List Token} {x : PlainItem} → g.IsPlain ts x rest → Fits w (tree.plain_item_weight w (plain.plain_item x)) ts rest
    item_f (g.type_is {x = x} d) = record { fits = omega (arith, ap (tree.plain_item_weight w) (of.of_type_is x), (type_f d).fits) }
    item_f (g.variable {x = x} d) = record { fits = omega (arith, ap (tree.plain_item_weight w) (of.of_variable x), (type_f d).fits) }
    item_f (g.initial {x = x} {y = y} d f) = record { fits = omega (arith, ap (tree.plain_item_weight w) (of.of_initial x y), (type_f d).fits, (expr_f f).fits) }
    item_f (g.constant {x = x} {y = y} d f) = record { fits = omega (arith, ap (tree.plain_item_weight w) (of.of_constant x y), (type_f d).fits, (expr_f f).fits) }
