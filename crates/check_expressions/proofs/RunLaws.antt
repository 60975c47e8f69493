-- Runs of operators and of suffixes, part by part.
use Rattle.std.proofs.lemmas.List.{map-append}
use Rattle.std.proofs.Common.{◌≡◌, ◌<◌, ◌+◌, drop, length, get_or, ℕ, Bool, true, List, [], ◌∷◌, ◌++◌, map, Ok, Err, refl, sym, ap, ◌∙◌}
use Rattle.mesa_base.specs.declared.place.Place.{Place}
use Rattle.mesa_base.specs.declared.identifier.Identifier.{Identifier}
use Rattle.mesa_types.specs.Plain as tree
use Rattle.syntax_trees.specs.PlainSyntax as plain
use Rattle.syntax_trees.specs.Syntax as s
use Rattle.mesa_types.specs.Typed as t
use Rattle.syntax_trees.specs.declared.syntax.Operation.{Operation, out-Operation}
use Rattle.syntax_trees.specs.declared.syntax.Condition.{Condition}
use Rattle.syntax_trees.specs.declared.syntax.Count.{Count}
use Rattle.syntax_trees.specs.declared.syntax.Expr.{Expr}
use Rattle.syntax_trees.specs.declared.syntax.FieldList.{FieldList}
use Rattle.syntax_trees.specs.declared.syntax.PlainItem.{PlainItem}
use Rattle.syntax_trees.specs.declared.syntax.Raise.{Raise}
use Rattle.syntax_trees.specs.declared.syntax.Statement.{Statement}
use Rattle.syntax_trees.specs.declared.syntax.Test.{Test}
use Rattle.syntax_trees.specs.declared.syntax.TypeExp.{TypeExp}
use Rattle.syntax_trees.specs.declared.syntax.Arm.{Arm}
use Rattle.syntax_trees.specs.declared.syntax.Block.{Block}
use Rattle.syntax_trees.specs.declared.syntax.Brackets.{Brackets}
use Rattle.syntax_trees.specs.declared.syntax.Case.{Case}
use Rattle.syntax_trees.specs.declared.syntax.Control.{Control}
use Rattle.syntax_trees.specs.declared.syntax.Interval.{Interval}
use Rattle.syntax_trees.specs.declared.syntax.Left.{Left}
use Rattle.syntax_trees.specs.declared.syntax.Operator.{Operator}
use Rattle.syntax_trees.specs.declared.syntax.Suffix.{Suffix, roll-Suffix, out-Suffix, roll-out-Suffix}
use Rattle.syntax_trees.specs.declared.syntax.Condition.TheOpen.{Suffix-F}
use Rattle.mesa_types.specs.declared.typed_tree.TypedExpr.{TypedExpr}
use Rattle.syntax_trees.proofs.PlainForms.{parts_of_operation, suffix_at}
use Rattle.check_rules.specs.Around.{Around}
use Rattle.check_rules.specs.Checking as spec
use Rattle.check_rules.specs.interface_records.specs.PlainTypes.{PlainType}
use Rattle.check_rules.specs.Parts.{first}
use Rattle.check_rules.specs.Ranges.{Typed}
use Rattle.check_rules.specs.Reached.{Reached, Use, field, may_apply, settled}
use Rattle.check_rules.specs.declared.fault.Cause.TheVariants.{TypeMismatch}
use Rattle.check_rules.specs.Steps.{Checked, State, and_then, ◌>>=◌, pure, ensure, spend}
use Rattle.check_rules.specs.Values.{Done, Bare, Sums, Alls, Somes, level_of, is_truth, step, summed, truth, truth_operand}
use Rattle.check_operands.specs.Folds.{folded}
use Rattle.check_operands.specs.Runs.{freely, Run, begun, with_done, behind, ended, longer_by, sum_turn, sums, operand, truth_turn, truths, run, suffix}
use Rattle.check_expressions.proofs.Folding.{folded_at, in_turn}

-- ---- sums and products

abbrev summed_at : (t.Expr × PlainType) × State → Checked (Typed × State)
summed_at r = Ok (summed r.0, r.1)

abbrev ended_at : Run × State → Checked (Typed × State)
ended_at r = Ok (ended r.0, r.1)

abbrev sums_after : Around → Run → s.Operations → State → Checked ((t.Expr × PlainType) × State)
sums_after a done ss σ = spec.sums a done.start done.done done.kind done.literal ss σ

abbrev stepped : Around → Run → s.Operations → State → Done → Checked ((t.Expr × PlainType) × State)
stepped a done ss σ x = sums_after a (with_done done.start x) ss σ

abbrev done_at : State → Done → Checked (Done × State)
done_at σ x = Ok (x, σ)

abbrev and_state : State → Run → Checked (Run × State)
and_state σ b = Ok (b, σ)

-- what is counted behind a step leaves the run as it is
abbrev spent : ℕ → Run × State → Checked (Run × State)
spent n b = and_then (spend n b.1) (λ u. Ok (b.0, u.1))

sum_spent : (a : Around) (done : Run) (os : List Operation) (x : Done) (m : Checked (Unit {0} × State))
    → ((x : Done) (σ : State) → and_then (stepped a done (plain.operations os) σ x) summed_at ≡ and_then (folded (sum_turn a) (with_done done.start x) os σ) ended_at)
    → and_then (and_then m (λ u. stepped a done (plain.operations os) u.1 x)) summed_at
    ≡ and_then (and_then (and_then m (λ u. and_state u.1 (with_done done.start x))) (λ r. folded (sum_turn a) r.0 os r.1)) ended_at
sum_spent a done os x (Ok u) h = h x u.1
sum_spent a done os x (Err e) h = refl

sum_step : (a : Around) (done : Run) (os : List Operation) (n : ℕ) (m : Checked Done) (σ : State)
    → ((x : Done) (σ : State) → and_then (stepped a done (plain.operations os) σ x) summed_at ≡ and_then (folded (sum_turn a) (with_done done.start x) os σ) ended_at)
    → and_then (and_then (and_then m (done_at σ)) (λ x. and_then (spend n x.1) (λ u. stepped a done (plain.operations os) u.1 x.0))) summed_at
    ≡ and_then (and_then (and_then (and_then (and_then m (λ x. Ok (with_done done.start x))) (and_state σ)) (spent n)) (λ r. folded (sum_turn a) r.0 os r.1)) ended_at
sum_step a done os n (Ok x) σ h = sum_spent a done os x (spend n σ) h
sum_step a done os n (Err e) σ h = refl

sum_check : (a : Around) (done : Run) (o : Operator) (p q : Place) (os : List Operation) (m : Checked (Typed × State))
    → ((x : Done) (σ : State) → and_then (stepped a done (plain.operations os) σ x) summed_at ≡ and_then (folded (sum_turn a) (with_done done.start x) os σ) ended_at)
    → and_then (and_then m (λ r. and_then (and_then (step o p done.start done.done done.kind done.literal q r.0) (done_at r.1)) (λ x. and_then (spend (longer_by done r.0) x.1) (λ u. stepped a done (plain.operations os) u.1 x.0)))) summed_at
    ≡ and_then (and_then (and_then m (λ r. and_then (and_then (behind o p done q r.0) (and_state r.1)) (spent (longer_by done r.0)))) (λ r. folded (sum_turn a) r.0 os r.1)) ended_at
sum_check a done o p q os (Ok r) h = sum_step a done os (longer_by done r.0) (step o p done.start done.done done.kind done.literal q r.0) r.1 h
sum_check a done o p q os (Err e) h = refl

sums_go : (a : Around) (done : Run) (os : List Operation) (σ : State)
    → and_then (sums_after a done (plain.operations os) σ) summed_at ≡ and_then (folded (sum_turn a) done os σ) ended_at
unfolding spec.check folded sum_turn
sums_go a done [] σ = refl
sums_go a done (o ∷ os) σ =
    ap (λ f. and_then (sums_after a done (f (plain.operations os)) σ) summed_at) (parts_of_operation o)
    ∙ sum_check a done (out-Operation o).operator (out-Operation o).place (first (plain.expr (out-Operation o).right)) os (freely a (plain.expr (out-Operation o).right) σ)
    (λ x σ. sums_go a (with_done done.start x) os σ)

pub sums_folded : (a : Around) (l : Place) (x : Typed) (os : List Operation) (σ : State)
    → sums a l x (plain.operations os) σ ≡ and_then (folded (sum_turn a) (begun l x) os σ) ended_at
unfolding sums
sums_folded a l x os σ = sums_go a (begun l x) os σ

-- ---- AND and OR

-- these before those
unfoldable pub onto : List t.Expr → t.Exprs → t.Exprs
onto [] rest = rest
onto (e ∷ es) rest = t.AndExpr e (onto es rest)

pub onto_push : (es : List t.Expr) (x : t.Expr) (rest : t.Exprs) → onto (es ++ x ∷ []) rest ≡ onto es (t.AndExpr x rest)
unfolding onto
onto_push [] x rest = refl
onto_push (e ∷ es) x rest = ap (t.AndExpr e) (onto_push es x rest)

pub onto_none : (es : List t.Expr) → onto es t.NoExprs ≡ tree.exprs es
unfolding onto
onto_none [] = refl
onto_none (e ∷ es) = ap (t.AndExpr e) (onto_none es)

abbrev pub onto_at : List t.Expr → t.Exprs × State → Checked (t.Exprs × State)
onto_at es r = Ok (onto es r.0, r.1)

abbrev pub and_expr : t.Expr → t.Exprs × State → Checked (t.Exprs × State)
and_expr x r = Ok (t.AndExpr x r.0, r.1)

pub onto_rest : (es : List t.Expr) (x : t.Expr) (m : Checked (t.Exprs × State)) → and_then (and_then m (and_expr x)) (onto_at es) ≡ and_then m (onto_at (es ++ x ∷ []))
onto_rest es x (Ok r) = ap (λ l. Ok (l, r.1)) (sym (onto_push es x r.0))
onto_rest es x (Err e) = refl

abbrev listed_at : (List t.Expr × Bool) × State → Checked (t.Exprs × State)
listed_at r = Ok (tree.exprs r.0.0, r.1)

abbrev truths_after : Around → s.Operations → t.Expr × State → Checked (t.Exprs × State)
truths_after a ss x = and_then (spec.truths a true ss x.1) (and_expr x.0)

abbrev turned : List t.Expr → t.Expr × State → Checked ((List t.Expr × Bool) × State)
turned es x = Ok ((es ++ x.0 ∷ [], true), x.1)

truth_step : (a : Around) (es : List t.Expr) (os : List Operation) (m : Checked t.Expr) (σ : State)
    → ((x : t.Expr) → and_then (spec.truths a true (plain.operations os) σ) (onto_at (es ++ x ∷ [])) ≡ and_then (folded (truth_turn a) (es ++ x ∷ [], true) os σ) listed_at)
    → and_then (and_then (and_then m (λ x. Ok (x, σ))) (truths_after a (plain.operations os))) (onto_at es)
    ≡ and_then (and_then (and_then (and_then m (λ x. Ok (x, σ))) (turned es)) (λ r. folded (truth_turn a) r.0 os r.1)) listed_at
truth_step a es os (Ok x) σ h = onto_rest es x (spec.truths a true (plain.operations os) σ) ∙ h x
truth_step a es os (Err e) σ h = refl

truth_check : (a : Around) (es : List t.Expr) (fits : Bool) (p : Place) (os : List Operation) (m : Checked (Typed × State))
    → ((x : t.Expr) (σ : State) → and_then (spec.truths a true (plain.operations os) σ) (onto_at (es ++ x ∷ [])) ≡ and_then (folded (truth_turn a) (es ++ x ∷ [], true) os σ) listed_at)
    → and_then (and_then m (λ r. and_then (and_then (truth_operand fits p r.0) (λ x. Ok (x, r.1))) (truths_after a (plain.operations os)))) (onto_at es)
    ≡ and_then (and_then (and_then (and_then m (λ r. and_then (truth_operand fits p r.0) (λ x. Ok (x, r.1)))) (turned es)) (λ r. folded (truth_turn a) r.0 os r.1)) listed_at
truth_check a es fits p os (Ok r) h = truth_step a es os (truth_operand fits p r.0) r.1 (λ x. h x r.1)
truth_check a es fits p os (Err e) h = refl

truths_go : (a : Around) (es : List t.Expr) (fits : Bool) (os : List Operation) (σ : State)
    → and_then (spec.truths a fits (plain.operations os) σ) (onto_at es) ≡ and_then (folded (truth_turn a) (es, fits) os σ) listed_at
unfolding spec.check folded truth_turn operand
truths_go a es fits [] σ = ap (λ l. Ok (l, σ)) (onto_none es)
truths_go a es fits (o ∷ os) σ =
    ap (λ f. and_then (spec.truths a fits (f (plain.operations os)) σ) (onto_at es)) (parts_of_operation o)
    ∙ truth_check a es fits (out-Operation o).place os (freely a (plain.expr (out-Operation o).right) σ) (λ x σ. truths_go a (es ++ x ∷ []) true os σ)

pub truths_folded : (a : Around) (x : Typed) (os : List Operation) (σ : State)
    → truths a x (plain.operations os) σ ≡ and_then (folded (truth_turn a) (x.value ∷ [], is_truth x.kind) os σ) listed_at
unfolding truths onto
truths_folded a x os σ = truths_go a (x.value ∷ []) (is_truth x.kind) os σ

-- the operand in hand
pub truth_at : (a : Around) (done : List TypedExpr) (fits : Bool) (all : List Operation) (i : ℕ) (o : Operation) (σ : State) → i < length all → o ≡ get_or all i o
    → folded (truth_turn a) (map tree.expr done, fits) (drop i all) σ ≡ and_then (operand a fits o σ) (λ r. folded (truth_turn a) (map tree.expr done ++ r.0 ∷ [], true) (drop (i + 1) all) r.1)
unfolding truth_turn
truth_at a done fits all i o σ inside here =
    folded_at (truth_turn a) (map tree.expr done, fits) all i o σ inside here
    ∙ in_turn (operand a fits o σ) (λ x. Ok ((map tree.expr done ++ x.0 ∷ [], true), x.1)) (λ r. folded (truth_turn a) r.0 (drop (i + 1) all) r.1)

pub exprs_more : (done : List TypedExpr) (e : TypedExpr) → map tree.expr (done ++ e ∷ []) ≡ map tree.expr done ++ tree.expr e ∷ []
exprs_more done e = map-append tree.expr done (e ∷ [])

-- ---- a run, by its level

pub run_bare : (a : Around) (l : Place) (x : Typed) (ss : s.Operations) → Bare ≡ level_of ss → run a l x ss ≡ pure x
unfolding run
run_bare a l x ss h = rw (sym h) refl

pub run_sums : (a : Around) (l : Place) (x : Typed) (ss : s.Operations) → Sums ≡ level_of ss → run a l x ss ≡ sums a l x ss
unfolding run
run_sums a l x ss h = rw (sym h) refl

pub run_alls : (a : Around) (l : Place) (x : Typed) (ss : s.Operations) → Alls ≡ level_of ss → run a l x ss ≡ truths a x ss >>= (λ es. pure (truth (t.AllOf es)))
unfolding run
run_alls a l x ss h = rw (sym h) refl

pub run_somes : (a : Around) (l : Place) (x : Typed) (ss : s.Operations) → Somes ≡ level_of ss → run a l x ss ≡ truths a x ss >>= (λ es. pure (truth (t.SomeOf es)))
unfolding run
run_somes a l x ss h = rw (sym h) refl

-- ---- suffixes

abbrev Suffix-Layer : Type 0
Suffix-Layer = Suffix-F Condition Count Expr FieldList PlainItem Raise Statement Suffix Test TypeExp Arm Block Brackets Case Control Interval Left Operation

module _ (a : Around) (way : Use) where
  abbrev walked_on : s.Suffixes → (Place × Reached) × State → Checked ((Place × Reached) × State)
  walked_on rest r = spec.walk a way r.0.0 r.0.1 rest r.1

  to_field : (x : Identifier) (m : Checked (Reached × State)) (rest : s.Suffixes)
      → and_then m (λ r. spec.walk a way x.place r.0 rest r.1) ≡ and_then (and_then m (λ r. spec.walk a way x.place r.0 s.NoSuffix r.1)) (walked_on rest)
  unfolding spec.check
  to_field x (Ok r) rest = refl
  to_field x (Err e) rest = refl

  to_applied : (last : Place) (b : s.Brackets) (m : Checked (Unit {0} × State)) (f : State → Checked (Reached × State)) (rest : s.Suffixes)
      → and_then m (λ r. and_then (f r.1) (λ q. spec.walk a way last q.0 rest q.1)) ≡ and_then (and_then m (λ r. and_then (f r.1) (λ q. spec.walk a way last q.0 s.NoSuffix q.1))) (walked_on rest)
  unfolding spec.check
  to_applied last b (Ok r) f rest = onward (f r.1)
    where
      onward : (m : Checked (Reached × State)) → and_then m (λ q. spec.walk a way last q.0 rest q.1) ≡ and_then (and_then m (λ q. spec.walk a way last q.0 s.NoSuffix q.1)) (walked_on rest)
      onward (Ok q) = refl
      onward (Err e) = refl
  to_applied last b (Err e) f rest = refl

  split_form : (y : Suffix-Layer) (x : Suffix) → roll-Suffix y ≡ x → (last : Place) (r : Reached) (rest : s.Suffixes) (σ : State)
      → spec.walk a way last r (plain.suffix x rest) σ ≡ and_then (spec.walk a way last r (plain.suffix x s.NoSuffix) σ) (walked_on rest)
  unfolding spec.check
  split_form (Suffix-F.Field name) x h last r rest σ = rw (suffix_at (Suffix-F.Field name) h) (to_field name (field a last (settled r) name σ) rest)
  split_form (Suffix-F.Applied b) x h last r rest σ =
      rw (suffix_at (Suffix-F.Applied b) h) (to_applied last (plain.brackets b) (ensure (may_apply way r) TypeMismatch last σ) (spec.apply a last (settled r) (plain.brackets b)) rest)

  pub walk_folded : (last : Place) (r : Reached) (xs : List Suffix) (σ : State)
      → spec.walk a way last r (plain.suffixes xs) σ ≡ folded (suffix a way) (last, r) xs σ
  unfolding folded suffix spec.check
  walk_folded last r [] σ = refl
  walk_folded last r (x ∷ xs) σ =
      split_form (out-Suffix x) x (roll-out-Suffix x) last r (plain.suffixes xs) σ
      ∙ ap (and_then (spec.walk a way last r (plain.suffix x s.NoSuffix) σ)) (λ i q. walk_folded q.0.0 q.0.1 xs q.1 i)
