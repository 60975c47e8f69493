-- The tree of a text has at most two nodes for each token: by induction over readings, with one clause for each row of the grammar.
use Rattle.std.proofs.Common.{◌≡◌, ◌≤◌, ◌+◌, ◌*◌, ℕ, Bool, true, false, List, [], ◌∷◌, ◌++◌, length, Option, Some, None, arith, length-append}
use Rattle.mesa_lexer.specs.declared.token.Token.{Token}
use Rattle.mesa_lexer.specs.declared.word.Word.{Word}
use Rattle.mesa_base.specs.declared.identifier.Identifier.{Identifier}
use Rattle.syntax_trees.specs.declared.syntax.QualifiedName.{QualifiedName}
use Rattle.mesa_base.specs.declared.placed.Placed.{Placed}
use Rattle.syntax_trees.specs.declared.syntax.Keyed.{Keyed}
use Rattle.syntax_trees.specs.declared.syntax.Labeled.{Labeled}
use Rattle.syntax_trees.specs.declared.syntax.Entries.{Entries}
use Rattle.syntax_trees.specs.declared.syntax.Labels.{Labels}
use Rattle.syntax_trees.specs.declared.syntax.RepeatLabels.{RepeatLabels}
use Rattle.syntax_trees.specs.declared.syntax.TypeBase.{TypeBase}
use Rattle.syntax_trees.specs.declared.syntax.TypeExp.{TypeExp}
use Rattle.syntax_trees.specs.declared.syntax.FieldList.{FieldList}
use Rattle.syntax_trees.specs.declared.syntax.Interval.{Interval}
use Rattle.syntax_trees.specs.declared.syntax.Expr.{Expr}
use Rattle.syntax_trees.specs.declared.syntax.Operation.{Operation}
use Rattle.syntax_trees.specs.declared.syntax.Left.{Left}
use Rattle.syntax_trees.specs.declared.syntax.Suffix.{Suffix}
use Rattle.syntax_trees.specs.declared.syntax.Suffix.TheVariants.{Field, Applied}
use Rattle.syntax_trees.specs.declared.syntax.Brackets.{Brackets}
use Rattle.syntax_trees.specs.declared.syntax.Raise.{Raise}
use Rattle.syntax_trees.specs.declared.syntax.Arm.{Arm}
use Rattle.syntax_trees.specs.declared.syntax.Statement.{Statement}
use Rattle.syntax_trees.specs.declared.syntax.Control.{Control}
use Rattle.syntax_trees.specs.declared.syntax.Count.{Count}
use Rattle.syntax_trees.specs.declared.syntax.Condition.{Condition}
use Rattle.syntax_trees.specs.declared.syntax.Case.{Case}
use Rattle.syntax_trees.specs.declared.syntax.Test.{Test}
use Rattle.syntax_trees.specs.declared.syntax.Block.{Block}
use Rattle.syntax_trees.specs.declared.syntax.PlainItem.{PlainItem}
use Rattle.syntax_trees.specs.declared.syntax.Head.{Head}
use Rattle.syntax_trees.specs.declared.syntax.Access.{Access}
use Rattle.syntax_trees.specs.declared.syntax.Declared.{Declared}
use Rattle.syntax_trees.specs.declared.syntax.Declaration.{Declaration}
use Rattle.syntax_trees.specs.declared.syntax.Inner.{Inner}
use Rattle.syntax_trees.specs.declared.syntax.Defined.{Defined}
use Rattle.syntax_trees.specs.declared.syntax.ModuleKind.{ModuleKind}
use Rattle.syntax_trees.specs.declared.syntax.DirectoryItem.{DirectoryItem}
use Rattle.syntax_trees.specs.declared.syntax.Module.{Module}
use Rattle.syntax_trees.proofs.LayerNodes.{total, optional, named, keyed, entries, phrase, values, labels, repeat_labels, repeated, base, negation, condition_nodes, count_nodes, expr_nodes, field_list_nodes, plain_nodes, raise_nodes, statement_nodes, suffix_nodes, test_nodes, type_nodes, arm_nodes, block_nodes, brackets_nodes, case_nodes, control_nodes, interval_nodes, left_nodes, operation_nodes, head_nodes, declared_nodes, declaration_nodes, inner_nodes, defined_nodes, kind_nodes, directory_item_nodes, nodes}
use Rattle.syntax_trees.proofs.SyntaxForms as of
use Rattle.syntax_trees.proofs.NodesAgree.{nodes_agree}
use Rattle.syntax_trees.specs.SyntaxNodes as plain
use Rattle.grammar_rules.specs.Grammar.{run, step, left, keyed as key_of, labeled}
use Rattle.grammar_rules.specs.Grammar as g
use Rattle.grammar_rules.specs.Modules as m

-- what was read has no more nodes than twice its tokens
pub record Fits {X : Type 0} (size : X → ℕ) (ts : List Token) (x : X) (rest : List Token) : Type 0 where
  pub fits : size x + 2 * length rest ≤ 2 * length ts

-- ---- lists, and marks around what is read

-- one more token before it, and one more at its end
behind : {X : Type 0} {size : X → ℕ} {t : Token} {ts rest : List Token} {x : X} → Fits size ts x rest → Fits size (t ∷ ts) x rest
behind h = record { fits = omega (arith, h.fits) }

closed : {X : Type 0} {size : X → ℕ} {t : Token} {ts rest : List Token} {x : X} → Fits size ts x (t ∷ rest) → Fits size ts x rest
closed h = record { fits = omega (arith, h.fits) }

total_push : {A : Type 0} (f : A → ℕ) (xs : List A) (x : A) → total f (xs ++ x ∷ []) ≡ total f xs + f x
total_push f [] x = omega arith
total_push f (y ∷ xs) x = omega (arith, total_push f xs x)

one : {X : Type 0} {size : X → ℕ} {ts rest : List Token} {x : X} → Fits size ts x rest → Fits (total size) ts (x ∷ []) rest
one h = record { fits = omega (arith, h.fits) }

-- one more, behind a separator or with a mark at its own end
more : {X : Type 0} {size : X → ℕ} {ts us rest : List Token} {t : Token} {all : List X} {x : X} → Fits (total size) ts all (t ∷ us) → Fits size us x rest → Fits (total size) ts (all ++ x ∷ []) rest
more {size = size} {all = all} {x = x} h k = record { fits = omega (arith, total_push size all x, h.fits, k.fits) }

next : {X : Type 0} {size : X → ℕ} {ts us rest : List Token} {t : Token} {all : List X} {x : X} → Fits (total size) ts all us → Fits size us x (t ∷ rest) → Fits (total size) ts (all ++ x ∷ []) rest
next {size = size} {all = all} {x = x} h k = record { fits = omega (arith, total_push size all x, h.fits, k.fits) }

-- one node to spare
abbrev spare : {X : Type 0} → (X → ℕ) → X → ℕ
spare f x = 1 + f x

kept : {X : Type 0} {f : X → ℕ} {ts rest : List Token} {x : X} → Fits (spare f) ts x rest → Fits f ts x rest
kept h = record { fits = omega (arith, h.fits) }

-- ---- names

names_f : {ts rest : List Token} {x : List Identifier} → g.IsNames ts x rest → Fits length ts x rest
names_f g.name = record { fits = omega arith }
names_f (g.names {all = all} {i = i} d) = record { fits = omega (arith, length-append all (i ∷ []), (names_f d).fits) }

qname_f : {ts rest : List Token} {x : QualifiedName} → g.IsQName ts x rest → Fits {X = QualifiedName} (λ _. 2) ts x rest
qname_f g.bare = record { fits = omega arith }
qname_f g.dotted = record { fits = omega arith }

qnames_f : {ts rest : List Token} {x : List QualifiedName} → g.IsQNames ts x rest → Fits length ts x rest
qnames_f (g.qname d) = record { fits = omega (arith, (qname_f d).fits) }
qnames_f (g.qnames {all = all} {x = x} d f) = record { fits = omega (arith, length-append all (x ∷ []), (qnames_f d).fits, (qname_f f).fits) }

labels_f : {ts rest : List Token} {x : Labels} → g.IsLabels ts x rest → Fits labels ts x rest
labels_f g.any = record { fits = omega arith }
labels_f g.unwind = record { fits = omega arith }
labels_f (g.signals d) = record { fits = (qnames_f d).fits }

repeat_labels_f : {ts rest : List Token} {x : RepeatLabels} → g.IsRepeatLabels ts x rest → Fits repeat_labels ts x rest
repeat_labels_f (g.labels d) = record { fits = (names_f d).fits }
repeat_labels_f g.finished = record { fits = omega arith }

base_f : {ts rest : List Token} {x : TypeBase} → g.IsBase ts x rest → Fits base ts x rest
base_f g.unsaid = record { fits = omega arith }
base_f g.of_integer = record { fits = omega arith }
base_f g.of_cardinal = record { fits = omega arith }
base_f g.of_character = record { fits = omega arith }
base_f (g.of_name d) = record { fits = omega (arith, (qname_f d).fits) }

not_f : {ts rest : List Token} {x : Bool} → g.IsNot ts x rest → Fits negation ts x rest
not_f g.affirmed = record { fits = omega arith }
not_f (g.negated _) = record { fits = omega arith }

decreasing_f : {ts rest : List Token} {x : Bool} → g.IsDecreasing ts x rest → Fits {X = Bool} (λ _. 0) ts x rest
decreasing_f g.rising = record { fits = omega arith }
decreasing_f g.falling = record { fits = omega arith }

-- names before what they name
called_f : {X : Type 0} {size : X → ℕ} {ts us rest : List Token} {t : Token} {ns : List Identifier} {x : X} → Fits length ts ns (t ∷ us) → Fits size us x rest → Fits (named size) ts (labeled ns x) rest
called_f h k = record { fits = omega (arith, h.fits, k.fits) }

-- ---- runs of operators

abbrev a_run : Expr × List Operation → ℕ
a_run q = 1 + expr_nodes q.0 + total operation_nodes q.1

run_nodes : (x : Expr) (ss : List Operation) → expr_nodes (run x ss) ≡ expr_nodes x + total operation_nodes ss
run_nodes x [] = omega arith
run_nodes x (s ∷ ss) = of.of_run x (s ∷ ss)

whole : {ts rest : List Token} {x : Expr} {ss : List Operation} → Fits a_run ts (x, ss) rest → Fits (spare expr_nodes) ts (run x ss) rest
whole {x = x} {ss = ss} h = record { fits = omega (arith, run_nodes x ss, h.fits) }

first : {ts rest : List Token} {x : Expr} → Fits (spare expr_nodes) ts x rest → Fits a_run ts (x, []) rest
first h = record { fits = omega (arith, h.fits) }

longer : {ts us rest : List Token} {t : Token} {x y : Expr} {ss : List Operation} (s : Operation) → operation_nodes s ≡ 1 + expr_nodes y → Fits a_run ts (x, ss) (t ∷ us) → Fits (spare expr_nodes) us y rest → Fits a_run ts (x, ss ++ s ∷ []) rest
longer {ss = ss} s e h k = record { fits = omega (arith, e, total_push operation_nodes ss s, h.fits, k.fits) }

-- one more field or pair of brackets
suffixed : (i : Identifier) (ss : List Suffix) (s : Suffix) → left_nodes (left i (ss ++ s ∷ [])) ≡ left_nodes (left i ss) + suffix_nodes s
suffixed i ss s = omega (arith, of.of_left i ss, of.of_left i (ss ++ s ∷ []), total_push suffix_nodes ss s)

-- ---- the rows

mutual
  type_f : {ts rest : List Token} {x : TypeExp} → g.IsType ts x rest → Fits type_nodes ts x rest
  type_f (g.integer {p = p}) = record { fits = omega (arith, of.of_integer p) }
  type_f (g.cardinal {p = p}) = record { fits = omega (arith, of.of_cardinal p) }
  type_f (g.long_integer {p = p}) = record { fits = omega (arith, of.of_long_integer p) }
  type_f (g.long_cardinal {p = p}) = record { fits = omega (arith, of.of_long_cardinal p) }
  type_f (g.boolean {p = p}) = record { fits = omega (arith, of.of_boolean p) }
  type_f (g.character {p = p}) = record { fits = omega (arith, of.of_character p) }
  type_f (g.string {p = p}) = record { fits = omega (arith, of.of_string p) }
  type_f (g.called {x = x} d) = record { fits = omega (arith, of.of_called x, (qname_f d).fits) }
  type_f (g.enumeration {all = all} {p = p} d) = record { fits = omega (arith, of.of_enumeration p all, (names_f d).fits) }
  type_f (g.subrange {b = b} {x = x} d f) = record { fits = omega (arith, of.of_subrange b x, (base_f d).fits, (interval_f f).fits) }
  type_f (g.array {x = x} {y = y} {p = p} d f) = record { fits = omega (arith, of.of_array p x y, (type_f d).fits, (type_f f).fits) }
  type_f (g.a_record {x = x} {p = p} d) = record { fits = omega (arith, of.of_record p x, (fields_f d).fits) }

  fields_f : {ts rest : List Token} {x : FieldList} → g.IsFields ts x rest → Fits field_list_nodes ts x rest
  fields_f (g.with_names {all = all} d) = record { fits = omega (arith, of.of_with_names all, (groups_f d).fits) }
  fields_f (g.unnamed {all = all} d) = record { fits = omega (arith, of.of_unnamed all, (types_f d).fits) }

  types_f : {ts rest : List Token} {x : List TypeExp} → g.IsTypes ts x rest → Fits (total type_nodes) ts x rest
  types_f (g.a_type d) = one (type_f d)
  types_f (g.types d f) = more (types_f d) (type_f f)

  groups_f : {ts rest : List Token} {x : List (Labeled (List Identifier) TypeExp)} → g.IsGroups ts x rest → Fits (total (named type_nodes)) ts x rest
  groups_f (g.group {ns = ns} {x = x} d f) = one (called_f (names_f d) (type_f f))
  groups_f (g.groups d f h) = more (groups_f d) (called_f (names_f f) (type_f h))

  interval_f : {ts rest : List Token} {x : Interval} → g.IsInterval ts x rest → Fits (spare interval_nodes) ts x rest
  interval_f (g.bounds {a = a} {b = b} {x = x} {y = y} {p = p} _ d f _) = record { fits = omega (arith, of.of_interval p a x y b, (expr_f d).fits, (expr_f f).fits) }

  expr_f : {ts rest : List Token} {x : Expr} → g.IsExpr ts x rest → Fits (spare expr_nodes) ts x rest
  expr_f (g.expr d) = whole (ors_f d)

  ors_f : {ts rest : List Token} {x : Expr} {ss : List Operation} → g.IsOrs ts x ss rest → Fits a_run ts (x, ss) rest
  ors_f (g.disjunct d) = first (conj_f d)
  ors_f (g.ors {y = y} {o = o} {p = p} d _ f) = longer (step o p y) (of.of_operation o p y) (ors_f d) (conj_f f)

  conj_f : {ts rest : List Token} {x : Expr} → g.IsConj ts x rest → Fits (spare expr_nodes) ts x rest
  conj_f (g.conj d) = whole (ands_f d)

  ands_f : {ts rest : List Token} {x : Expr} {ss : List Operation} → g.IsAnds ts x ss rest → Fits a_run ts (x, ss) rest
  ands_f (g.conjunct d) = first (neg_f d)
  ands_f (g.ands {y = y} {o = o} {p = p} d _ f) = longer (step o p y) (of.of_operation o p y) (ands_f d) (neg_f f)

  neg_f : {ts rest : List Token} {x : Expr} → g.IsNeg ts x rest → Fits (spare expr_nodes) ts x rest
  neg_f (g.rel d) = rel_f d
  neg_f (g.not {x = x} {p = p} _ d) = record { fits = omega (arith, of.of_not p x, (rel_f d).fits) }

  rel_f : {ts rest : List Token} {x : Expr} → g.IsRel ts x rest → Fits (spare expr_nodes) ts x rest
  rel_f (g.alone d) = sum_f d
  rel_f (g.compare {x = x} {y = y} {b = b} {r = r} {p = p} d f _ h) = record { fits = omega (arith, of.of_compare x b r p y, (sum_f d).fits, (not_f f).fits, (sum_f h).fits) }
  rel_f (g.within {x = x} {b = b} {i = i} {p = p} d f h) = record { fits = omega (arith, of.of_within x b p i, (sum_f d).fits, (not_f f).fits, (interval_f h).fits) }

  sum_f : {ts rest : List Token} {x : Expr} → g.IsSum ts x rest → Fits (spare expr_nodes) ts x rest
  sum_f (g.sum d) = whole (sums_f d)

  sums_f : {ts rest : List Token} {x : Expr} {ss : List Operation} → g.IsSums ts x ss rest → Fits a_run ts (x, ss) rest
  sums_f (g.summand d) = first (product_f d)
  sums_f (g.sums {y = y} {o = o} {p = p} d _ f) = longer (step o p y) (of.of_operation o p y) (sums_f d) (product_f f)

  product_f : {ts rest : List Token} {x : Expr} → g.IsProduct ts x rest → Fits (spare expr_nodes) ts x rest
  product_f (g.product d) = whole (products_f d)

  products_f : {ts rest : List Token} {x : Expr} {ss : List Operation} → g.IsProducts ts x ss rest → Fits a_run ts (x, ss) rest
  products_f (g.factor d) = first (factor_f d)
  products_f (g.products {y = y} {o = o} {p = p} d _ f) = longer (step o p y) (of.of_operation o p y) (products_f d) (factor_f f)

  factor_f : {ts rest : List Token} {x : Expr} → g.IsFactor ts x rest → Fits (spare expr_nodes) ts x rest
  factor_f (g.primary d) = primary_f d
  factor_f (g.signed {x = x} {s = s} {p = p} _ d) = record { fits = omega (arith, of.of_signed s p x, (primary_f d).fits) }

  primary_f : {ts rest : List Token} {x : Expr} → g.IsPrimary ts x rest → Fits (spare expr_nodes) ts x rest
  primary_f (g.number {n = n} {p = p}) = record { fits = omega (arith, of.of_number p n) }
  primary_f (g.char {n = n} {p = p}) = record { fits = omega (arith, of.of_character_literal p n) }
  primary_f (g.text {bytes = bytes} {p = p}) = record { fits = omega (arith, of.of_string_literal p bytes) }
  primary_f (g.true_word {p = p}) = record { fits = omega (arith, of.of_truth p true) }
  primary_f (g.false_word {p = p}) = record { fits = omega (arith, of.of_truth p false) }
  primary_f (g.parens {x = x} {p = p} d) = record { fits = omega (arith, of.of_parenthesis p x, (expr_f d).fits) }
  primary_f (g.reference {i = i} {ss = ss} d) = record { fits = omega (arith, of.of_reference (left i ss), (left_f d).fits) }
  primary_f (g.constructor {x = x} d) = record { fits = omega (arith, of.of_constructor x.place x.item, (list_f d).fits) }
  primary_f (g.raised {x = x} d) = record { fits = omega (arith, of.of_raised x, (raise_f d).fits) }

  list_f : {ts rest : List Token} {x : Placed (Entries Expr)} → g.IsList ts x rest → Fits (λ v. 2 + entries expr_nodes v.item) ts x rest
  list_f (g.list d) = record { fits = omega (arith, (args_f d).fits) }

  list_option_f : {ts rest : List Token} {x : Option (Placed (Entries Expr))} → g.IsListOption ts x rest → Fits (values expr_nodes) ts x rest
  list_option_f g.no_list = record { fits = omega arith }
  list_option_f (g.a_list d) = record { fits = omega (arith, (list_f d).fits) }

  left_f : {ts rest : List Token} {i : Identifier} {ss : List Suffix} → g.IsLeft ts i ss rest → Fits (spare left_nodes) ts (left i ss) rest
  left_f (g.named {i = i}) = record { fits = omega (arith, of.of_left i []) }
  left_f (g.field {i = i} {j = j} {ss = ss} d) = record { fits = omega (arith, suffixed i ss (Field j), of.of_field j, (left_f d).fits) }
  left_f (g.applied {i = i} {ss = ss} {b = b} d f) = record { fits = omega (arith, suffixed i ss (Applied b), of.of_applied b, (left_f d).fits, (brackets_f f).fits) }

  brackets_f : {ts rest : List Token} {x : Brackets} → g.IsBrackets ts x rest → Fits (spare brackets_nodes) ts x rest
  brackets_f (g.bracketed {x = x} {c = c} {p = p} d f) = record { fits = omega (arith, of.of_brackets p x c, (args_f d).fits, (catch_f f).fits) }

  brackets_option_f : {ts rest : List Token} {x : Option Brackets} → g.IsBracketsOption ts x rest → Fits (optional brackets_nodes) ts x rest
  brackets_option_f g.no_brackets = record { fits = omega arith }
  brackets_option_f (g.some_brackets d) = record { fits = omega (arith, (brackets_f d).fits) }

  args_f : {ts rest : List Token} {x : Entries Expr} → g.IsArgs ts x rest → Fits (entries expr_nodes) ts x rest
  args_f g.no_args = record { fits = omega arith }
  args_f (g.in_order d) = record { fits = omega (arith, (exprs_f d).fits) }
  args_f (g.by_key d) = record { fits = omega (arith, (keys_f d).fits) }

  exprs_f : {ts rest : List Token} {x : List Expr} → g.IsExprs ts x rest → Fits (total expr_nodes) ts x rest
  exprs_f (g.an_expr d) = one (kept (expr_f d))
  exprs_f (g.exprs d f) = more (exprs_f d) (kept (expr_f f))

  keys_f : {ts rest : List Token} {x : List (Keyed Expr)} → g.IsKeys ts x rest → Fits (total (keyed expr_nodes)) ts x rest
  keys_f (g.key d) = record { fits = omega (arith, (expr_f d).fits) }
  keys_f (g.keys {all = all} {i = i} {x = x} d f) = record { fits = omega (arith, total_push (keyed expr_nodes) all (key_of i x), (keys_f d).fits, (expr_f f).fits) }

  catch_f : {ts rest : List Token} {x : Option (Placed (List Arm))} → g.IsCatch ts x rest → Fits (phrase arm_nodes) ts x rest
  catch_f g.no_catch = record { fits = omega arith }
  catch_f (g.catch d) = record { fits = omega (arith, (arm_list_f d).fits) }

  arm_list_f : {ts rest : List Token} {x : List Arm} → g.IsArmList ts x rest → Fits (total arm_nodes) ts x rest
  arm_list_f (g.open_arms d) = arms_f d
  arm_list_f (g.closed_arms d) = closed (arms_f d)

  arms_f : {ts rest : List Token} {x : List Arm} → g.IsArms ts x rest → Fits (total arm_nodes) ts x rest
  arms_f (g.an_arm d) = one (arm_f d)
  arms_f (g.arms d f) = more (arms_f d) (arm_f f)

  arm_f : {ts rest : List Token} {x : Arm} → g.IsArm ts x rest → Fits arm_nodes ts x rest
  arm_f (g.an_arm_of {l = l} {x = x} d f) = record { fits = omega (arith, of.of_arm l x, (labels_f d).fits, (stmt_f f).fits) }

  raise_f : {ts rest : List Token} {x : Raise} → g.IsRaise ts x rest → Fits (spare raise_nodes) ts x rest
  raise_f (g.signal {x = x} {b = b} {p = p} d f) = record { fits = omega (arith, of.of_signal_raise p x b, (qname_f d).fits, (brackets_option_f f).fits) }
  raise_f (g.error {x = x} {b = b} {p = p} d f) = record { fits = omega (arith, of.of_error_raise p x b, (qname_f d).fits, (brackets_option_f f).fits) }
  raise_f (g.unnamed_error {p = p}) = record { fits = omega (arith, of.of_unnamed_error p) }

  stmt_f : {ts rest : List Token} {x : Statement} → g.IsStmt ts x rest → Fits statement_nodes ts x rest
  stmt_f (g.null {p = p}) = record { fits = omega (arith, of.of_null p) }
  stmt_f (g.nested {x = x} d) = record { fits = omega (arith, of.of_nested x, (block_f d).fits) }
  stmt_f (g.assign {i = i} {ss = ss} {x = x} d f) = record { fits = omega (arith, of.of_assign (left i ss) x, (left_f d).fits, (expr_f f).fits) }
  stmt_f (g.extract {x = x} {y = y} {p = p} d f) = record { fits = omega (arith, of.of_extract p x y, (targets_f d).fits, (expr_f f).fits) }
  stmt_f (g.call {i = i} {ss = ss} d) = record { fits = omega (arith, of.of_call (left i ss), (left_f d).fits) }
  stmt_f (g.raise {x = x} d) = record { fits = omega (arith, of.of_raise_statement x, (raise_f d).fits) }
  stmt_f (g.if_then {c = c} {x = x} {p = p} d f _) = record { fits = omega (arith, of.of_if p c x None, (expr_f d).fits, (stmt_f f).fits) }
  stmt_f (g.if_else {c = c} {x = x} {y = y} {p = p} d f h) = record { fits = omega (arith, of.of_if p c x (Some y), (expr_f d).fits, (stmt_f f).fits, (stmt_f h).fits) }
  stmt_f (g.select {x = x} {cs = cs} {y = y} {p = p} d f h) = record { fits = omega (arith, of.of_select p x cs y, (expr_f d).fits, (case_list_f f).fits, (otherwise_f h).fits) }
  stmt_f (g.loop {c = c} {e = e} {body = body} {rs = rs} {p = p} d f h i) = record { fits = omega (arith, of.of_loop c p e body rs, (control_f d).fits, (enabling_f f).fits, (body_f h).fits, (repeat_part_f i).fits) }
  stmt_f (g.exit_loop {p = p}) = record { fits = omega (arith, of.of_exit_loop p) }
  stmt_f (g.next_turn {p = p}) = record { fits = omega (arith, of.of_next_turn p) }
  stmt_f (g.goto {i = i} {p = p}) = record { fits = omega (arith, of.of_goto p i) }
  stmt_f (g.go_to {i = i} {p = p}) = record { fits = omega (arith, of.of_goto p i) }
  stmt_f (g.return {x = x} {p = p} d) = record { fits = omega (arith, of.of_return p x, (list_option_f d).fits) }
  stmt_f (g.resume {x = x} {p = p} d) = record { fits = omega (arith, of.of_resume p x, (list_option_f d).fits) }
  stmt_f (g.reject {p = p}) = record { fits = omega (arith, of.of_reject p) }
  stmt_f (g.retry {p = p}) = record { fits = omega (arith, of.of_retry p) }
  stmt_f (g.continue {p = p}) = record { fits = omega (arith, of.of_continue p) }

  targets_f : {ts rest : List Token} {x : Entries Left} → g.IsTargets ts x rest → Fits (entries left_nodes) ts x rest
  targets_f g.no_targets = record { fits = omega arith }
  targets_f (g.targets d) = record { fits = omega (arith, (lefts_f d).fits) }
  targets_f (g.key_targets d) = record { fits = omega (arith, (key_lefts_f d).fits) }

  lefts_f : {ts rest : List Token} {x : List Left} → g.IsLefts ts x rest → Fits (total left_nodes) ts x rest
  lefts_f (g.a_left d) = one (kept (left_f d))
  lefts_f (g.lefts d f) = more (lefts_f d) (kept (left_f f))

  key_lefts_f : {ts rest : List Token} {x : List (Keyed Left)} → g.IsKeyLefts ts x rest → Fits (total (keyed left_nodes)) ts x rest
  key_lefts_f (g.key_left d) = record { fits = omega (arith, (left_f d).fits) }
  key_lefts_f (g.key_lefts {all = all} {i = i} {j = j} {ss = ss} d f) = record { fits = omega (arith, total_push (keyed left_nodes) all (key_of j (left i ss)), (key_lefts_f d).fits, (left_f f).fits) }

  otherwise_f : {ts rest : List Token} {x : Option Statement} → g.IsOtherwise ts x rest → Fits (optional statement_nodes) ts x rest
  otherwise_f g.no_otherwise = record { fits = omega arith }
  otherwise_f (g.otherwise d) = record { fits = omega (arith, (stmt_f d).fits) }

  case_list_f : {ts rest : List Token} {x : List Case} → g.IsCaseList ts x rest → Fits (total case_nodes) ts x rest
  case_list_f g.no_cases = record { fits = omega arith }
  case_list_f (g.open_cases d) = cases_f d
  case_list_f (g.closed_cases d) = closed (cases_f d)

  cases_f : {ts rest : List Token} {x : List Case} → g.IsCases ts x rest → Fits (total case_nodes) ts x rest
  cases_f (g.a_case d) = one (case_f d)
  cases_f (g.cases d f) = more (cases_f d) (case_f f)

  case_f : {ts rest : List Token} {x : Case} → g.IsCase ts x rest → Fits case_nodes ts x rest
  case_f (g.case_of {all = all} {x = x} d f) = record { fits = omega (arith, of.of_case all x, (tests_f d).fits, (stmt_f f).fits) }

  tests_f : {ts rest : List Token} {x : List Test} → g.IsTests ts x rest → Fits (total test_nodes) ts x rest
  tests_f (g.a_test d) = one (test_f d)
  tests_f (g.tests d f) = more (tests_f d) (test_f f)

  test_f : {ts rest : List Token} {x : Test} → g.IsTest ts x rest → Fits test_nodes ts x rest
  test_f (g.value {x = x} d) = record { fits = omega (arith, of.of_value x, (expr_f d).fits) }
  test_f (g.compared {b = b} {x = x} {r = r} {p = p} d _ f) = record { fits = omega (arith, of.of_compared b r p x, (not_f d).fits, (sum_f f).fits) }
  test_f (g.inside {b = b} {i = i} {p = p} d f) = record { fits = omega (arith, of.of_inside b p i, (not_f d).fits, (interval_f f).fits) }

  control_f : {ts rest : List Token} {x : Control} → g.IsControl ts x rest → Fits control_nodes ts x rest
  control_f (g.controlled {a = a} {b = b} d f) = record { fits = omega (arith, of.of_control a b, (count_f d).fits, (condition_f f).fits) }

  count_f : {ts rest : List Token} {x : Option Count} → g.IsCount ts x rest → Fits (optional count_nodes) ts x rest
  count_f g.no_count = record { fits = omega arith }
  count_f (g.for {i = i} {b = b} {x = x} {p = p} d f) = record { fits = omega (arith, of.of_for p i b x, (decreasing_f d).fits, (interval_f f).fits) }
  count_f (g.through {x = x} {p = p} d) = record { fits = omega (arith, of.of_through p x, (interval_f d).fits) }

  condition_f : {ts rest : List Token} {x : Option Condition} → g.IsCondition ts x rest → Fits (optional condition_nodes) ts x rest
  condition_f g.no_condition = record { fits = omega arith }
  condition_f (g.while {x = x} {p = p} d) = record { fits = omega (arith, of.of_while p x, (expr_f d).fits) }
  condition_f (g.until {x = x} {p = p} d) = record { fits = omega (arith, of.of_until p x, (expr_f d).fits) }

  body_f : {ts rest : List Token} {x : List Statement} → g.IsBody ts x rest → Fits (total statement_nodes) ts x rest
  body_f g.no_stmts = record { fits = omega arith }
  body_f (g.open_stmts d) = stmts_f d
  body_f (g.closed_stmts d) = closed (stmts_f d)

  stmts_f : {ts rest : List Token} {x : List Statement} → g.IsStmts ts x rest → Fits (total statement_nodes) ts x rest
  stmts_f (g.a_stmt d) = one (stmt_f d)
  stmts_f (g.stmts d f) = more (stmts_f d) (stmt_f f)

  repeat_part_f : {ts rest : List Token} {x : List (Labeled RepeatLabels Statement)} → g.IsRepeatPart ts x rest → Fits (total (repeated statement_nodes)) ts x rest
  repeat_part_f g.no_repeats = record { fits = omega arith }
  repeat_part_f (g.open_repeats d) = behind (repeats_f d)
  repeat_part_f (g.closed_repeats d) = behind (closed (repeats_f d))

  repeats_f : {ts rest : List Token} {x : List (Labeled RepeatLabels Statement)} → g.IsRepeats ts x rest → Fits (total (repeated statement_nodes)) ts x rest
  repeats_f (g.a_repeat d) = one (repeat_f d)
  repeats_f (g.repeats d f) = more (repeats_f d) (repeat_f f)

  repeat_f : {ts rest : List Token} {x : Labeled RepeatLabels Statement} → g.IsRepeat ts x rest → Fits (repeated statement_nodes) ts x rest
  repeat_f (g.repeat_of d f) = record { fits = omega (arith, (repeat_labels_f d).fits, (stmt_f f).fits) }

  exit_part_f : {ts rest : List Token} {x : List (Labeled (List Identifier) Statement)} → g.IsExitPart ts x rest → Fits (total (named statement_nodes)) ts x rest
  exit_part_f g.no_exits = record { fits = omega arith }
  exit_part_f (g.open_exits d) = behind (exits_f d)
  exit_part_f (g.closed_exits d) = behind (closed (exits_f d))

  exits_f : {ts rest : List Token} {x : List (Labeled (List Identifier) Statement)} → g.IsExits ts x rest → Fits (total (named statement_nodes)) ts x rest
  exits_f (g.an_exit d) = one (exit_f d)
  exits_f (g.exits d f) = more (exits_f d) (exit_f f)

  exit_f : {ts rest : List Token} {x : Labeled (List Identifier) Statement} → g.IsExit ts x rest → Fits (named statement_nodes) ts x rest
  exit_f (g.exit_of d f) = called_f (names_f d) (stmt_f f)

  enabling_f : {ts rest : List Token} {x : Option (Placed (List Arm))} → g.IsEnabling ts x rest → Fits (phrase arm_nodes) ts x rest
  enabling_f g.no_enable = record { fits = omega arith }
  enabling_f (g.enable_one d) = record { fits = omega (arith, (arm_f d).fits) }
  enabling_f (g.enable_many d) = record { fits = omega (arith, (arm_list_f d).fits) }

  block_f : {ts rest : List Token} {x : Block} → g.IsBlock ts x rest → Fits block_nodes ts x rest
  block_f (g.begin_end {e = e} {ls = ls} {ss = ss} {xs = xs} {p = p} d f h i) = record { fits = omega (arith, of.of_block p e ls ss xs, (enabling_f d).fits, (locals_f f).fits, (body_f h).fits, (exit_part_f i).fits) }
  block_f (g.braces {e = e} {ls = ls} {ss = ss} {xs = xs} {p = p} d f h i) = record { fits = omega (arith, of.of_block p e ls ss xs, (enabling_f d).fits, (locals_f f).fits, (body_f h).fits, (exit_part_f i).fits) }

  locals_f : {ts rest : List Token} {x : List (Labeled (List Identifier) PlainItem)} → g.IsLocals ts x rest → Fits (total (named plain_nodes)) ts x rest
  locals_f g.no_locals = record { fits = omega arith }
  locals_f (g.locals d f) = next (locals_f d) (local_f f)

  local_f : {ts rest : List Token} {x : Labeled (List Identifier) PlainItem} → g.IsLocal ts x rest → Fits (named plain_nodes) ts x rest
  local_f (g.local_of d f) = called_f (names_f d) (plain_f f)

  plain_f : {ts rest : List Token} {x : PlainItem} → g.IsPlain ts x rest → Fits plain_nodes ts x rest
  plain_f (g.type_is {x = x} d) = record { fits = omega (arith, of.of_type_is x, (type_f d).fits) }
  plain_f (g.variable {x = x} d) = record { fits = omega (arith, of.of_variable x, (type_f d).fits) }
  plain_f (g.initial {x = x} {y = y} d f) = record { fits = omega (arith, of.of_initial x y, (type_f d).fits, (expr_f f).fits) }
  plain_f (g.constant {x = x} {y = y} d f) = record { fits = omega (arith, of.of_constant x y, (type_f d).fits, (expr_f f).fits) }

-- ---- modules

params_f : {ts rest : List Token} {x : Option FieldList} → m.IsParams ts x rest → Fits (optional field_list_nodes) ts x rest
params_f m.no_params = record { fits = omega arith }
params_f m.empty_params = record { fits = omega arith }
params_f (m.params d) = record { fits = omega (arith, (fields_f d).fits) }

returns_f : {ts rest : List Token} {x : Option FieldList} → m.IsReturns ts x rest → Fits (optional field_list_nodes) ts x rest
returns_f m.no_returns = record { fits = omega arith }
returns_f m.empty_returns = record { fits = omega arith }
returns_f (m.returns d) = record { fits = omega (arith, (fields_f d).fits) }

-- without the node of the head itself
head_f : {ts rest : List Token} {x : Head} → m.IsHead ts x rest → Fits (λ _. optional field_list_nodes x.takes + optional field_list_nodes x.gives) ts x rest
head_f (m.head_of d f) = record { fits = omega (arith, (params_f d).fits, (returns_f f).fits) }

access_f : {ts rest : List Token} {x : Option Access} → m.IsAccess ts x rest → Fits {X = Option Access} (λ _. 0) ts x rest
access_f m.no_access = record { fits = omega arith }
access_f (m.access _) = record { fits = omega arith }

declared_f : {ts rest : List Token} {x : Declared} → m.IsDeclared ts x rest → Fits declared_nodes ts x rest
unfolding declared_nodes head_nodes
declared_f (m.procedure _ d f) = record { fits = omega (arith, (head_f d).fits, (block_f f).fits) }
declared_f (m.signal d) = record { fits = omega (arith, (head_f d).fits) }
declared_f (m.error d) = record { fits = omega (arith, (params_f d).fits) }
declared_f (m.plainly d) = record { fits = omega (arith, (plain_f d).fits) }

declaration_f : {ts rest : List Token} {x : Declaration} → m.IsDeclaration ts x rest → Fits declaration_nodes ts x rest
unfolding declaration_nodes
declaration_f (m.declared d f h) = record { fits = omega (arith, (names_f d).fits, (access_f f).fits, (declared_f h).fits) }

declarations_f : {ts rest : List Token} {x : List Declaration} → m.IsDeclarations ts x rest → Fits (total declaration_nodes) ts x rest
declarations_f m.no_declarations = record { fits = omega arith }
declarations_f (m.declarations d f) = next (declarations_f d) (declaration_f f)

-- the body itself is one node more
inner_f : {ts rest : List Token} {x : Inner} → m.IsInner ts x rest → inner_nodes x + 2 * length rest ≤ 1 + 2 * length ts
unfolding inner_nodes
inner_f (m.inside d f h i) = omega (arith, (enabling_f d).fits, (declarations_f f).fits, (body_f h).fits, (exit_part_f i).fits)

defined_f : {ts rest : List Token} {x : Defined} → m.IsDefined ts x rest → Fits defined_nodes ts x rest
unfolding defined_nodes head_nodes
defined_f (m.procedure_item _ d) = record { fits = omega (arith, (head_f d).fits) }
defined_f (m.signal_item d) = record { fits = omega (arith, (head_f d).fits) }
defined_f (m.error_item d) = record { fits = omega (arith, (params_f d).fits) }
defined_f (m.type_item d) = record { fits = omega (arith, (type_f d).fits) }
defined_f (m.constant_item d f) = record { fits = omega (arith, (type_f d).fits, (expr_f f).fits) }

definitions_f : {ts rest : List Token} {x : List (Labeled (List Identifier) Defined)} → m.IsDefinitions ts x rest → Fits (total (named defined_nodes)) ts x rest
definitions_f m.no_definitions = record { fits = omega arith }
definitions_f (m.definitions d f h) = next (definitions_f d) (called_f (names_f f) (defined_f h))

open_f : {ts rest : List Token} {x : List Identifier} → m.IsOpen ts x rest → Fits {X = List Identifier} (λ _. 0) ts x rest
open_f m.no_open = record { fits = omega arith }
open_f (m.opened d) = record { fits = omega (arith, (names_f d).fits) }

listed_f : {w : Word} {ts rest : List Token} {x : List Identifier} → m.IsListed w ts x rest → Fits {X = List Identifier} (λ _. 0) ts x rest
listed_f m.unlisted = record { fits = omega arith }
listed_f (m.listed d) = record { fits = omega (arith, (names_f d).fits) }

using_f : {ts rest : List Token} {x : Option (List Identifier)} → m.IsUsing ts x rest → Fits {X = Option (List Identifier)} (λ _. 0) ts x rest
using_f m.no_using = record { fits = omega arith }
using_f m.using_none = record { fits = omega arith }
using_f (m.using d) = record { fits = omega (arith, (names_f d).fits) }

item_f : {ts rest : List Token} {x : DirectoryItem} → m.IsItem ts x rest → Fits directory_item_nodes ts x rest
unfolding directory_item_nodes
item_f (m.item d) = record { fits = omega (arith, (using_f d).fits) }

items_f : {ts rest : List Token} {x : List DirectoryItem} → m.IsItems ts x rest → Fits (total directory_item_nodes) ts x rest
items_f (m.an_item d) = one (item_f d)
items_f (m.items d f) = more (items_f d) (item_f f)

directory_f : {ts rest : List Token} {x : List DirectoryItem} → m.IsDirectory ts x rest → Fits (total directory_item_nodes) ts x rest
directory_f m.no_directory = record { fits = omega arith }
directory_f (m.directory d) = behind (closed (items_f d))

kind_f : {ts rest : List Token} {x : ModuleKind} → m.IsKind ts x rest → Fits kind_nodes ts x rest
unfolding kind_nodes
kind_f (m.program d f h i) = record { fits = omega (arith, (listed_f d).fits, (listed_f f).fits, (open_f h).fits, inner_f i) }
kind_f (m.interface d f) = record { fits = omega (arith, (open_f d).fits, (definitions_f f).fits) }

module_f : {ts rest : List Token} {x : Module} → m.IsModule ts x rest → Fits nodes ts x rest
unfolding nodes
module_f (m.a_module d f) = record { fits = omega (arith, (directory_f d).fits, (kind_f f).fits) }

pub module_fits : {ts rest : List Token} {x : Module} → m.IsModule ts x rest → Fits plain.nodes ts x rest
module_fits {x = x} d = record { fits = omega (arith, nodes_agree x, (module_f d).fits) }
