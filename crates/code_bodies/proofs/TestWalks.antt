-- A test of a SELECT, by its form.
use Rattle.std.proofs.Common.{◌≡◌, refl, sym, ap, ◌∙◌, ℕ, ◌+◌, ◌-◌, ◌<◌, ◌≤◌, List, [], ◌∷◌, ◌++◌, length, get_or, drop, map, Bool, true, false, arith}
use Rattle.std.specs.Prelude.{nat_eq, not}
use Rattle.std.proofs.lemmas.List.{drop_all}
use Rattle.mesa_base.specs.Chain.{chain}
use Rattle.mesa_types.specs.Counts.{hidden_expr, hidden_interval, hidden_tests}
use Rattle.mesa_types.specs.Plain.{expr, interval, test}
use Rattle.mesa_types.specs.Typed as t
use Rattle.mesa_types.specs.declared.typed_parts.Base.{Base}
use Rattle.mesa_types.specs.declared.typed_parts.Bases.{Bases}
use Rattle.mesa_types.specs.declared.typed_parts.Conversion.{Conversion}
use Rattle.mesa_types.specs.declared.typed_parts.Range.{Range}
use Rattle.mesa_base.specs.declared.relation.Relation.{Relation}
use Rattle.mesa_types.specs.declared.typed_tree.Interval.{Interval}
use Rattle.mesa_types.specs.declared.typed_tree.Test.{Test}
use Rattle.mesa_types.specs.declared.typed_tree.Test.TheVariants as v
use Rattle.mesa_types.specs.declared.typed_tree.TypedExpr.{TypedExpr}
use Rattle.mesa_types.specs.declared.typed_tree.Condition.TheFolds.{fold-roll-Test}
use Rattle.code_blocks.specs.Blocks.{Block}
use Rattle.code_blocks.specs.Sizes.{size}
use Rattle.code_rules.specs.Reading.{Coded}
use Rattle.code_blocks.specs.Translation as spec
use Rattle.code_trees.specs.Excess.{excess}
use Rattle.code_trees.specs.Forms.{long_related_of, long_within_test_of, past_if, related_of, test_blocks, test_of, tests_end, within_test_of}
use Rattle.code_trees.specs.Plain.{in_order}
use Rattle.code_trees.specs.Rows.{excess_among, sizes_in}
use Rattle.code_trees.proofs.CaseLaws.{blocks_of_first, hidden_of_first, last_left, tests_are}
use Rattle.code_trees.proofs.ExitLaws.{none_left, some_left}
use Rattle.code_trees.proofs.RowFits.{among_fit, row_fits}
use Rattle.code_trees.proofs.StatementSplits.{tests_split}
use Rattle.code_bodies.proofs.RowWalks.{item_fits, item_more, item_small, none_more, one_fewer}

module _ (P : Coded) (z x : ℕ) (last : Bool) (of : Test) (r : Range) (base : Base) (o : Relation) (e : TypedExpr)
    (is : of ≡ v.IfRelated r base o e) where
  related_is : test of t.NoTests ≡ t.IfRelated r base o (expr e) t.NoTests
  related_is = ap (λ y. test y t.NoTests) (is ∙ sym (v.rolls-IfRelated r base o e)) ∙ rw fold-roll-Test refl

  pub related_form : test_of P z x last (test of t.NoTests) ≡ related_of x r base o last (spec.forms P z (expr e)).value
  related_form = ap (test_of P z x last) related_is

  pub related_hidden : hidden_tests (test of t.NoTests) ≡ hidden_expr (expr e)
  unfolding hidden_tests
  related_hidden = let whole : hidden_tests (test of t.NoTests) ≡ hidden_expr (expr e) + 0 = ap hidden_tests related_is in omega (arith, whole)

module _ (P : Coded) (z x : ℕ) (last : Bool) (of : Test) (negated : Bool) (bases : Bases) (range : Interval) (is : of ≡ v.IfWithin negated bases
    range) where
  within_is : test of t.NoTests ≡ t.IfWithin negated bases (interval range) t.NoTests
  within_is = ap (λ y. test y t.NoTests) (is ∙ sym (v.rolls-IfWithin negated bases range)) ∙ rw fold-roll-Test refl

  pub within_form : test_of P z x last (test of t.NoTests) ≡ within_test_of P x negated bases (interval range) last (spec.bounds P z (interval range))
  within_form = ap (test_of P z x last) within_is

  pub within_hidden : hidden_tests (test of t.NoTests) ≡ hidden_interval (interval range)
  unfolding hidden_tests
  within_hidden = let whole : hidden_tests (test of t.NoTests) ≡ hidden_interval (interval range) + 0 = ap hidden_tests within_is in omega
      (arith, whole)

module _ (P : Coded) (z x : ℕ) (last : Bool) (of : Test) (conversion : Conversion) (base : Base) (o : Relation) (e : TypedExpr)
    (is : of ≡ v.IfRelatedLong conversion base o e) where
  long_related_is : test of t.NoTests ≡ t.IfRelatedLong conversion base o (expr e) t.NoTests
  long_related_is = ap (λ y. test y t.NoTests) (is ∙ sym (v.rolls-IfRelatedLong conversion base o e)) ∙ rw fold-roll-Test refl

  pub long_related_form : test_of P z x last (test of t.NoTests) ≡ long_related_of x conversion base o last (spec.forms P z (expr e)).value
  long_related_form = ap (test_of P z x last) long_related_is

  pub long_related_hidden : hidden_tests (test of t.NoTests) ≡ hidden_expr (expr e)
  unfolding hidden_tests
  long_related_hidden = let whole : hidden_tests (test of t.NoTests) ≡ hidden_expr (expr e) + 0 = ap hidden_tests long_related_is in omega
      (arith, whole)

module _ (P : Coded) (z x : ℕ) (last : Bool) (of : Test) (negated : Bool) (conversion : Conversion) (bases : Bases) (range : Interval)
    (is : of ≡ v.IfWithinLong negated conversion bases range) where
  long_within_is : test of t.NoTests ≡ t.IfWithinLong negated conversion bases (interval range) t.NoTests
  long_within_is = ap (λ y. test y t.NoTests) (is ∙ sym (v.rolls-IfWithinLong negated conversion bases range)) ∙ rw fold-roll-Test refl

  pub long_within_form : test_of P z x last (test of t.NoTests)
      ≡ long_within_test_of P x negated conversion bases (interval range) last (spec.bounds P z (interval range))
  long_within_form = ap (test_of P z x last) long_within_is

  pub long_within_hidden : hidden_tests (test of t.NoTests) ≡ hidden_interval (interval range)
  unfolding hidden_tests
  long_within_hidden = let whole : hidden_tests (test of t.NoTests) ≡ hidden_interval (interval range) + 0 = ap hidden_tests long_within_is in omega
      (arith, whole)

pub related_value_fits : (x : ℕ) (r : Range) (base : Base) (o : Relation) (last : Bool) (value : Block) → excess (related_of x r base o last value)
    ≡ 0 → excess value ≡ 0
unfolding excess
related_value_fits x r base o last value h = omega arith

pub within_bounds_fit : (P : Coded) (x : ℕ) (negated : Bool) (bases : Bases) (range : t.Interval) (last : Bool) (bounds : Block)
    → excess (within_test_of P x negated bases range last bounds) ≡ 0 → excess bounds ≡ 0
unfolding excess
within_bounds_fit P x negated bases range last bounds h = omega arith

pub long_related_value_fits : (x : ℕ) (conversion : Conversion) (base : Base) (o : Relation) (last : Bool) (value : Block)
    → excess (long_related_of x conversion base o last value) ≡ 0 → excess value ≡ 0
unfolding excess
long_related_value_fits x conversion base o last value h = omega arith

pub long_within_bounds_fit : (P : Coded) (x : ℕ) (negated : Bool) (conversion : Conversion) (bases : Bases) (range : t.Interval) (last : Bool)
    (bounds : Block) → excess (long_within_test_of P x negated conversion bases range last bounds) ≡ 0 → excess bounds ≡ 0
unfolding excess
long_within_bounds_fit P x negated conversion bases range last bounds h = omega arith

-- the tests of a case and its statement
pub case_parts : (tests statement past : Block) → excess (spec.a_case tests statement past) ≡ 0 → (excess tests ≡ 0) × (excess statement ≡ 0)
unfolding excess
case_parts tests statement past h = (omega arith, omega arith)

-- tests one by one

pub tests_among : (P : Coded) (z x : ℕ) (ts : t.Tests) → excess (spec.tests P z x ts) ≡ 0 → excess_among (test_blocks P z x ts) ≡ 0
tests_among P z x ts h = among_fit (test_blocks P z x ts) (tests_end ts) (ap excess (sym (tests_are P z x ts)) ∙ h)

pub tests_small : (P : Coded) (z x : ℕ) (ts : t.Tests) → excess (spec.tests P z x ts) ≡ 0 → sizes_in (test_blocks P z x ts) ≤ 4294967295
tests_small P z x ts h =
    let small : sizes_in (test_blocks P z x ts) + size (tests_end ts) ≤ 4294967295 = row_fits (test_blocks P z x ts) (tests_end ts)
    (ap excess (sym (tests_are P z x ts)) ∙ h) in
    omega (arith, small)

module _ (ts : List Test) (i : ℕ) (x : Test) (lt : i < length ts) (is : x ≡ get_or ts i x) where
  pub tests_next : (P : Coded) (z after slot left : ℕ) (last : Bool) → after ≡ z + hidden_tests (test x t.NoTests)
      → left ≡ length (drop (i + 1) ts) → (last ≡ true → left ≡ 0) → (last ≡ false → 0 < left)
      → test_blocks P z slot (chain (map test (drop i ts)) t.NoTests)
      ≡ test_of P z slot last (test x t.NoTests) ∷ test_blocks P after slot (chain (map test (drop (i + 1) ts)) t.NoTests)
  tests_next P z after slot left last is_after is_left none some =
      let rest : t.Tests = chain (map test (drop (i + 1) ts)) t.NoTests in
      ap (test_blocks P z slot) (tests_split ts i x lt is)
      ∙ blocks_of_first P z slot x rest
      ∙ ap (λ b. test_of P z slot b (test x t.NoTests) ∷ test_blocks P (z + hidden_tests (test x t.NoTests)) slot rest)
      (sym (last_left (drop (i + 1) ts) left last is_left none some))
      ∙ ap (λ n. test_of P z slot last (test x t.NoTests) ∷ test_blocks P n slot rest) (sym is_after)

  pub tests_hidden : hidden_tests (chain (map test (drop i ts)) t.NoTests) ≡ hidden_tests (test x t.NoTests) + hidden_tests
      (chain (map test (drop (i + 1) ts)) t.NoTests)
  tests_hidden = ap hidden_tests (tests_split ts i x lt is) ∙ hidden_of_first x (chain (map test (drop (i + 1) ts)) t.NoTests)

-- all tests, by their blocks
pub tests_whole : (P : Coded) (z slot : ℕ) (ts : List Test) (none : Bool) (bs : List Block) (past : Block) → (none ≡ true → length ts ≡ 0)
    → (none ≡ false → 0 < length ts)
    → bs ≡ test_blocks P z slot (chain (map test ts) t.NoTests) → past ≡ past_if none 1 → in_order bs past ≡ spec.tests P z slot
    (chain (map test ts) t.NoTests)
tests_whole P z slot ts none bs past empty some is is_past =
    ap (λ l. in_order l past) is
    ∙ ap (in_order (test_blocks P z slot (chain (map test ts) t.NoTests))) (is_past ∙ ap (λ b. past_if b 1) (last_left ts (length ts) none refl empty
    some))
    ∙ sym (tests_are P z slot (chain (map test ts) t.NoTests))

-- a turn: the next test, of which it is said whether it is the last
module _ (P : Coded) (begin slot : ℕ) (ts : List Test) (i : ℕ) (x : Test) (bs : List Block) (now left : ℕ)
    (lt : i < length ts) (is : x ≡ get_or ts i x)
    (so_far : bs ++ test_blocks P now slot (chain (map test (drop i ts)) t.NoTests) ≡ test_blocks P begin slot (chain (map test ts) t.NoTests))
    (is_left : left ≡ length (drop i ts)) (fit : excess (spec.tests P begin slot (chain (map test ts) t.NoTests)) ≡ 0) where
  step : (after : ℕ) → after ≡ now + hidden_tests (test x t.NoTests) → test_blocks P now slot (chain (map test (drop i ts)) t.NoTests)
      ≡ test_of P now slot (nat_eq (left - 1) 0) (test x t.NoTests) ∷ test_blocks P after slot (chain (map test (drop (i + 1) ts)) t.NoTests)
  step after is_after =
      tests_next ts i x lt is P now after slot (left - 1) (nat_eq (left - 1) 0) is_after (one_fewer ts i left x lt is is_left)
      (λ h. none_left (left - 1) (ap not h)) (λ h. some_left (left - 1) (ap not h))

  pub test_fits : excess (test_of P now slot (nat_eq (left - 1) 0) (test x t.NoTests)) ≡ 0
  test_fits = item_fits _ _ _ _ _ so_far (step (now + hidden_tests (test x t.NoTests)) refl) (tests_among P begin slot _ fit)

  pub test_small : (held : List Block) (made : Block) → held ≡ bs → made ≡ test_of P now slot (nat_eq (left - 1) 0) (test x t.NoTests) → sizes_in held
      + size made ≤ 4294967295
  test_small held made same is_made =
      item_small _ _ _ _ _ so_far (step (now + hidden_tests (test x t.NoTests)) refl) (tests_small P begin slot _ fit) held made same is_made

  pub test_more : (after : ℕ) (held new : List Block) (made : Block) → after ≡ now + hidden_tests (test x t.NoTests) → held ≡ bs
      → made ≡ test_of P now slot (nat_eq (left - 1) 0) (test x t.NoTests) → new ≡ held ++ made ∷ []
      → new ++ test_blocks P after slot (chain (map test (drop (i + 1) ts)) t.NoTests) ≡ test_blocks P begin slot (chain (map test ts) t.NoTests)
  test_more after held new made is_after same is_made is_new = item_more _ _ _ _ _ so_far (step after is_after) held new made same is_made is_new

-- behind the last one
module _ (P : Coded) (begin slot : ℕ) (ts : List Test) (i : ℕ) (bs : List Block) (now : ℕ) (past : length ts ≤ i) where
  pub tests_end_is : bs ++ test_blocks P now slot (chain (map test (drop i ts)) t.NoTests) ≡ test_blocks P begin slot (chain (map test ts) t.NoTests)
      → bs ≡ test_blocks P begin slot (chain (map test ts) t.NoTests)
  unfolding test_blocks
  tests_end_is so_far = none_more bs _ _ so_far (ap (λ l. test_blocks P now slot (chain (map test l) t.NoTests)) (drop_all i ts past))

  pub tests_end_hidden : hidden_tests (chain (map test (drop i ts)) t.NoTests) ≡ 0
  unfolding hidden_tests
  tests_end_hidden = ap (λ l. hidden_tests (chain (map test l) t.NoTests)) (drop_all i ts past)
