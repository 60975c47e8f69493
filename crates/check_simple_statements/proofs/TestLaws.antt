-- Tests of a SELECT, one after the other.
use Rattle.std.proofs.Common.{◌≡◌, ◌<◌, ◌≤◌, ◌+◌, ℕ, Bool, List, [], ◌∷◌, ◌++◌, map, drop, length, get_or, Ok, Err, refl, sym, ap, ◌∙◌}
use Rattle.std.specs.Prelude.{false}
use Rattle.std.proofs.lemmas.List.{drop_all, map-append}
use Rattle.mesa_base.specs.declared.place.Place.{Place}
use Rattle.mesa_types.specs.Plain.{chain, test}
use Rattle.syntax_trees.specs.PlainSyntax as plain
use Rattle.syntax_trees.specs.Syntax as s
use Rattle.syntax_trees.specs.declared.syntax.Condition.{Condition}
use Rattle.syntax_trees.specs.declared.syntax.Count.{Count}
use Rattle.syntax_trees.specs.declared.syntax.Expr.{Expr}
use Rattle.syntax_trees.specs.declared.syntax.FieldList.{FieldList}
use Rattle.syntax_trees.specs.declared.syntax.PlainItem.{PlainItem}
use Rattle.syntax_trees.specs.declared.syntax.Raise.{Raise}
use Rattle.syntax_trees.specs.declared.syntax.Statement.{Statement}
use Rattle.syntax_trees.specs.declared.syntax.Suffix.{Suffix}
use Rattle.syntax_trees.specs.declared.syntax.TypeExp.{TypeExp}
use Rattle.syntax_trees.specs.declared.syntax.Arm.{Arm}
use Rattle.syntax_trees.specs.declared.syntax.Block.{Block}
use Rattle.syntax_trees.specs.declared.syntax.Brackets.{Brackets}
use Rattle.syntax_trees.specs.declared.syntax.Case.{Case}
use Rattle.syntax_trees.specs.declared.syntax.Control.{Control}
use Rattle.syntax_trees.specs.declared.syntax.Interval.{Interval}
use Rattle.syntax_trees.specs.declared.syntax.Left.{Left}
use Rattle.syntax_trees.specs.declared.syntax.Operation.{Operation}
use Rattle.syntax_trees.specs.declared.syntax.Test.{Test, roll-Test, out-Test, roll-out-Test}
use Rattle.syntax_trees.specs.declared.syntax.Test.TheVariants.{Inside}
use Rattle.mesa_types.specs.declared.typed_tree.Test.{Test as TypedTest}
use Rattle.syntax_trees.specs.declared.syntax.Condition.TheOpen.{Test-F}
use Rattle.syntax_trees.proofs.PlainForms.{of_inside, test_at}
use Rattle.check_rules.specs.Typed as t
use Rattle.check_rules.specs.Around.{Around}
use Rattle.check_rules.specs.Checking as spec
use Rattle.check_rules.specs.Parts.{first}
use Rattle.check_rules.specs.Ranges.{Typed}
use Rattle.check_rules.specs.Operators.{longer, sort_of}
use Rattle.check_rules.specs.Statements.{longer_bounds, tested, tested_inside}
use Rattle.check_rules.specs.Steps.{Checked, State, and_then, ◌>>=◌, spend}
use Rattle.check_declared.specs.check_jumps.proofs.Tests.{at_drop}
use Rattle.check_operands.specs.Runs.{freely}
use Rattle.check_expressions.proofs.Folding.{in_turn}
use Rattle.check_simple_statements.specs.Rules.{first_test, lying}
use Rattle.check_simple_statements.proofs.Chains.{onto, before_rest, onto_one}

abbrev Test-Layer : Type 0
Test-Layer = Test-F Condition Count Expr FieldList PlainItem Raise Statement Suffix Test TypeExp Arm Block Brackets Case Control Interval Left Operation

-- steps one after the other, of which the last looks at what two of them gave
three_in_turn : {A B C D : Type 0} (r : Checked A) (f : A → Checked B) (k : A → B → Checked C) (g : C → Checked D)
    → and_then (and_then r (λ a. and_then (f a) (k a))) g ≡ and_then r (λ a. and_then (f a) (λ b. and_then (k a b) g))
three_in_turn (Ok a) f k g = in_turn (f a) (k a) g
three_in_turn (Err e) f k g = refl

-- a test, behind which so many words are counted
abbrev counted : ℕ → (t.Tests → t.Tests) × State → Checked ((t.Tests → t.Tests) × State)
counted n put = and_then (spend n put.1) (λ u. Ok (put.0, u.1))

module _ (a : Around) (l : Place) (sel : Typed) where
  abbrev then_rest : s.Tests → (t.Tests → t.Tests) × State → Checked (t.Tests × State)
  then_rest rest r = before_rest r.0 (spec.tests a l sel rest r.1)

  split_form : (y : Test-Layer) (x : Test) → roll-Test y ≡ x → (rest : s.Tests) (σ : State)
      → spec.tests a l sel (plain.test x rest) σ ≡ and_then (first_test a l sel (plain.test x s.NoTests) σ) (then_rest rest)
  unfolding spec.check first_test
  split_form (Test-F.Value e) x h rest σ =
      rw (test_at (Test-F.Value e) h)
      (sym (three_in_turn (freely a (plain.expr e) σ) (λ y. and_then (tested false t.Equal (first (plain.expr e)) l sel (first (plain.expr e)) y.0) (λ put. Ok (put, y.1)))
      (λ y. counted (longer (sort_of sel.kind) false (sort_of y.0.kind) y.0.literal)) (then_rest rest)))
  split_form (Test-F.Compared b o p e) x h rest σ =
      rw (test_at (Test-F.Compared b o p e) h)
      (sym (three_in_turn (freely a (plain.expr e) σ) (λ y. and_then (tested b o p l sel (first (plain.expr e)) y.0) (λ put. Ok (put, y.1)))
      (λ y. counted (longer (sort_of sel.kind) false (sort_of y.0.kind) y.0.literal)) (then_rest rest)))
  split_form (Test-F.Inside b p i) x h rest σ =
      rw (test_at (Test-F.Inside b p i) h)
      (sym (three_in_turn (spec.interval a (plain.interval i) σ) (λ y. and_then (tested_inside b p l sel y.0) (λ put. Ok (put, y.1))) (λ y. counted (longer_bounds sel y.0)) (then_rest rest)))

  pub tests_at : (done : List (t.Tests → t.Tests)) (all : List Test) (i : ℕ) (x : Test) (σ : State) → i < length all → x ≡ get_or all i x
      → onto done (spec.tests a l sel (plain.tests (drop i all)) σ)
      ≡ and_then (first_test a l sel (plain.test x s.NoTests) σ) (λ r. onto (done ++ r.0 ∷ []) (spec.tests a l sel (plain.tests (drop (i + 1) all)) r.1))
  tests_at done all i x σ inside here =
      ap (λ xs. onto done (spec.tests a l sel (plain.tests xs) σ)) (at_drop all i x inside here)
      ∙ ap (onto done) (split_form (out-Test x) x (roll-out-Test x) (plain.tests (drop (i + 1) all)) σ)
      ∙ onto_one done (first_test a l sel (plain.test x s.NoTests) σ) (spec.tests a l sel (plain.tests (drop (i + 1) all)))

  pub tests_end : (done : List (t.Tests → t.Tests)) (all : List Test) (i : ℕ) (σ : State) → length all ≤ i
      → onto done (spec.tests a l sel (plain.tests (drop i all)) σ) ≡ Ok (chain done t.NoTests, σ)
  unfolding spec.check
  tests_end done all i σ outside = ap (λ xs. onto done (spec.tests a l sel (plain.tests xs) σ)) (drop_all i all outside)

pub tests_more : (done : List TypedTest) (x : TypedTest) → map test (done ++ x ∷ []) ≡ map test done ++ test x ∷ []
tests_more done x = map-append test done (x ∷ [])

pub inside_first : (a : Around) (l : Place) (sel : Typed) (b : Bool) (p : Place) (i : Interval)
    → first_test a l sel (plain.test (Inside b p i) s.NoTests) ≡ spec.interval a (plain.interval i) >>= (λ ends. lying b p l sel ends)
unfolding first_test
inside_first a l sel b p i = ap (λ (f : s.Tests → s.Tests). first_test a l sel (f s.NoTests)) (of_inside b p i)
