-- Whether one of a list holds a catch phrase, one after the other.
use Rattle.std.proofs.Common.{◌≡◌, ◌<◌, ◌≤◌, ◌+◌, ℕ, Bool, false, List, drop, length, get_or, ap, ◌∙◌}
use Rattle.std.specs.Prelude.{◌||◌}
use Rattle.std.proofs.lemmas.List.{drop_all}
use Rattle.mesa_base.specs.declared.place.Place.{Place}
use Rattle.syntax_trees.specs.PlainSyntax as plain
use Rattle.syntax_trees.specs.Syntax as s
use Rattle.syntax_trees.specs.declared.syntax.Case.{Case, out-Case}
use Rattle.syntax_trees.specs.declared.syntax.Keyed.{Keyed}
use Rattle.syntax_trees.specs.declared.syntax.Left.{Left}
use Rattle.syntax_trees.specs.declared.syntax.Interval.{Interval}
use Rattle.syntax_trees.specs.declared.syntax.Test.{Test}
use Rattle.syntax_trees.specs.declared.syntax.Test.TheVariants.{Inside}
use Rattle.syntax_trees.proofs.PlainForms.{of_inside, parts_of_case}
use Rattle.check_rules.specs.Phrases.{in_cases, in_interval, in_keyed_lefts, in_left, in_lefts, in_tests}
use Rattle.check_declared.specs.check_jumps.proofs.Tests.{at_drop}

pub lefts_at : (all : List Left) (i : ℕ) (x : Left) → i < length all → x ≡ get_or all i x
    → in_lefts (plain.lefts (drop i all)) ≡ (in_left (plain.left x) || in_lefts (plain.lefts (drop (i + 1) all)))
unfolding in_lefts
lefts_at all i x inside here = ap (λ xs. in_lefts (plain.lefts xs)) (at_drop all i x inside here)

pub lefts_out : (all : List Left) (i : ℕ) → length all ≤ i → in_lefts (plain.lefts (drop i all)) ≡ false
unfolding in_lefts
lefts_out all i outside = ap (λ xs. in_lefts (plain.lefts xs)) (drop_all i all outside)

pub keyed_at : (all : List (Keyed Left)) (i : ℕ) (x : Keyed Left) → i < length all → x ≡ get_or all i x
    → in_keyed_lefts (plain.keyed_lefts (drop i all)) ≡ (in_left (plain.left x.item) || in_keyed_lefts (plain.keyed_lefts (drop (i + 1) all)))
unfolding in_keyed_lefts
keyed_at all i x inside here = ap (λ xs. in_keyed_lefts (plain.keyed_lefts xs)) (at_drop all i x inside here)

pub keyed_out : (all : List (Keyed Left)) (i : ℕ) → length all ≤ i → in_keyed_lefts (plain.keyed_lefts (drop i all)) ≡ false
unfolding in_keyed_lefts
keyed_out all i outside = ap (λ xs. in_keyed_lefts (plain.keyed_lefts xs)) (drop_all i all outside)

pub tests_at : (all : List Test) (i : ℕ) (x : Test) → i < length all → x ≡ get_or all i x
    → in_tests (plain.tests (drop i all)) ≡ in_tests (plain.test x (plain.tests (drop (i + 1) all)))
tests_at all i x inside here = ap (λ xs. in_tests (plain.tests xs)) (at_drop all i x inside here)

pub tests_out : (all : List Test) (i : ℕ) → length all ≤ i → in_tests (plain.tests (drop i all)) ≡ false
unfolding in_tests
tests_out all i outside = ap (λ xs. in_tests (plain.tests xs)) (drop_all i all outside)

pub cases_at : (all : List Case) (i : ℕ) (x : Case) → i < length all → x ≡ get_or all i x
    → in_cases (plain.cases (drop i all)) ≡ (in_tests (plain.tests (out-Case x).tests) || in_cases (plain.cases (drop (i + 1) all)))
unfolding in_cases
cases_at all i x inside here =
    ap (λ xs. in_cases (plain.cases xs)) (at_drop all i x inside here)
    ∙ ap (λ (f : s.Cases → s.Cases). in_cases (f (plain.cases (drop (i + 1) all)))) (parts_of_case x)

pub cases_out : (all : List Case) (i : ℕ) → length all ≤ i → in_cases (plain.cases (drop i all)) ≡ false
unfolding in_cases
cases_out all i outside = ap (λ xs. in_cases (plain.cases xs)) (drop_all i all outside)

pub inside_holds : (b : Bool) (p : Place) (i : Interval) (rest : s.Tests)
    → in_tests (plain.test (Inside b p i) rest) ≡ (in_interval (plain.interval i) || in_tests rest)
unfolding in_tests
inside_holds b p i rest = ap (λ (f : s.Tests → s.Tests). in_tests (f rest)) (of_inside b p i)
