-- Whether one of a list holds a catch phrase, one after the other.
use Rattle.std.proofs.Common.{◌≡◌, ◌<◌, ◌≤◌, ◌+◌, ℕ, Bool, false, List, ◌∷◌, drop, length, get_or, sym, ap, ◌∙◌}
use Rattle.std.specs.Prelude.{◌||◌}
use Rattle.std.proofs.lemmas.List.{drop_more, drop_all}
use Rattle.syntax_trees.specs.Syntax as s
use Rattle.mesa_base.specs.declared.place.Place.{Place}
use Rattle.syntax_trees.specs.PlainSyntax.{expr, exprs, interval, keyed_exprs, operations, suffix, suffixes}
use Rattle.syntax_trees.specs.declared.syntax.Expr.{Expr}
use Rattle.syntax_trees.specs.declared.syntax.Expr.TheVariants.{Within}
use Rattle.syntax_trees.specs.declared.syntax.Interval.{Interval, out-Interval}
use Rattle.syntax_trees.specs.declared.syntax.Keyed.{Keyed}
use Rattle.syntax_trees.specs.declared.syntax.Operation.{Operation}
use Rattle.syntax_trees.specs.declared.syntax.Suffix.{Suffix}
use Rattle.syntax_trees.proofs.PlainForms.{of_within, parts_of_interval, parts_of_operation}
use Rattle.check_rules.specs.Phrases.{holds, in_interval, in_steps, in_suffixes, in_exprs, in_keyed}

at_drop : {A : Type 0} (all : List A) (i : ℕ) (x : A) → i < length all → x ≡ get_or all i x → drop i all ≡ x ∷ drop (i + 1) all
at_drop all i x inside here = drop_more all i x inside ∙ ap (λ y. y ∷ drop (i + 1) all) (sym here)

pub values_at : (all : List Expr) (i : ℕ) (x : Expr) → i < length all → x ≡ get_or all i x
    → in_exprs (exprs (drop i all)) ≡ (holds (expr x) || in_exprs (exprs (drop (i + 1) all)))
unfolding in_exprs
values_at all i x inside here = ap (λ xs. in_exprs (exprs xs)) (at_drop all i x inside here)

pub values_out : (all : List Expr) (i : ℕ) → length all ≤ i → in_exprs (exprs (drop i all)) ≡ false
unfolding in_exprs
values_out all i outside = ap (λ xs. in_exprs (exprs xs)) (drop_all i all outside)

pub keyed_at : (all : List (Keyed Expr)) (i : ℕ) (x : Keyed Expr) → i < length all → x ≡ get_or all i x
    → in_keyed (keyed_exprs (drop i all)) ≡ (holds (expr x.item) || in_keyed (keyed_exprs (drop (i + 1) all)))
unfolding in_keyed
keyed_at all i x inside here = ap (λ xs. in_keyed (keyed_exprs xs)) (at_drop all i x inside here)

pub keyed_out : (all : List (Keyed Expr)) (i : ℕ) → length all ≤ i → in_keyed (keyed_exprs (drop i all)) ≡ false
unfolding in_keyed
keyed_out all i outside = ap (λ xs. in_keyed (keyed_exprs xs)) (drop_all i all outside)

pub steps_at : (all : List Operation) (i : ℕ) (x : Operation) → i < length all → x ≡ get_or all i x
    → in_steps (operations (drop i all)) ≡ (holds (expr x.right) || in_steps (operations (drop (i + 1) all)))
unfolding in_steps
steps_at all i x inside here =
    ap (λ xs. in_steps (operations xs)) (at_drop all i x inside here)
    ∙ ap (λ (f : s.Operations → s.Operations). in_steps (f (operations (drop (i + 1) all)))) (parts_of_operation x)

pub steps_out : (all : List Operation) (i : ℕ) → length all ≤ i → in_steps (operations (drop i all)) ≡ false
unfolding in_steps
steps_out all i outside = ap (λ xs. in_steps (operations xs)) (drop_all i all outside)

pub suffixes_at : (all : List Suffix) (i : ℕ) (x : Suffix) → i < length all → x ≡ get_or all i x
    → in_suffixes (suffixes (drop i all)) ≡ in_suffixes (suffix x (suffixes (drop (i + 1) all)))
suffixes_at all i x inside here = ap (λ xs. in_suffixes (suffixes xs)) (at_drop all i x inside here)

pub suffixes_out : (all : List Suffix) (i : ℕ) → length all ≤ i → in_suffixes (suffixes (drop i all)) ≡ false
unfolding in_suffixes
suffixes_out all i outside = ap (λ xs. in_suffixes (suffixes xs)) (drop_all i all outside)

pub of_bounds : (i : Interval) → in_interval (interval i) ≡ (holds (expr (out-Interval i).low) || holds (expr (out-Interval i).high))
unfolding in_interval
of_bounds i = ap in_interval (parts_of_interval i)

pub within_holds : (e : Expr) (b : Bool) (p : Place) (i : Interval) → holds (expr (Within e b p i)) ≡ (holds (expr e) || in_interval (interval i))
unfolding holds
within_holds e b p i = ap holds (of_within e b p i)
