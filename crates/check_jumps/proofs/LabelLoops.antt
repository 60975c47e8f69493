-- The labels of a block or loop, one list after the other.
use Rattle.std.proofs.Common.{◌≡◌, ◌<◌, ◌≤◌, ◌+◌, ℕ, suc, List, [], ◌∷◌, ◌++◌, drop, length, get_or, refl, sym, ap, ◌∙◌, arith}
use Rattle.std.specs.Option.{option_or}
use Rattle.std.specs.Prelude.{Bool, true, false, Option, Some, None, bytes_eq, cond}
use Rattle.std.proofs.lemmas.List.{drop_all, length-append}
use Rattle.mesa_base.specs.declared.identifier.Identifier.{Identifier}
use Rattle.syntax_trees.specs.PlainSyntax.{exits, repeats}
use Rattle.syntax_trees.specs.declared.syntax.Labeled.{Labeled}
use Rattle.syntax_trees.specs.declared.syntax.RepeatLabels.{RepeatLabels}
use Rattle.syntax_trees.specs.declared.syntax.Statement.{Statement}
use Rattle.check_scopes.specs.Scopes.{Scope, nothing, over, with_name}
use Rattle.check_rules.specs.Around.{Seen, label_scope}
use Rattle.check_rules.specs.Statements.{labels_of_exits, labels_of_repeats, labels_of}
use denote.Ref.{Bor}
use Rattle.check_scopes.specs.Shows.{means}
use Rattle.check_scopes.specs.declared.names.Names.{Names}
use Rattle.check_state.specs.declared.around.Labels.{Labels, roll-Labels}
use Rattle.check_state.specs.declared.around.Labels.TheFolds.{fold-roll-Labels}
use Rattle.check_state.specs.declared.around.Seen.{Seen as Here}
use Rattle.check_state.specs.Views.{seen, seen_as, labels, labels_in, labels_step}
use Rattle.check_jumps.proofs.Tests.{at_drop}

-- a label more
pub label_at : (all : List Identifier) (i : ℕ) (x : Identifier) (n arms : ℕ) (scope : Scope Seen) → i < length all → x ≡ get_or all i x
    → label_scope (drop i all) n arms scope ≡ label_scope (drop (i + 1) all) (n + 1) arms (with_name x.name (record { number = n; arms = arms }) scope)
unfolding label_scope
label_at all i x n arms scope inside here = ap (λ xs. label_scope xs n arms scope) (at_drop all i x inside here)

pub label_out : (all : List Identifier) (i n arms : ℕ) (scope : Scope Seen) → length all ≤ i → label_scope (drop i all) n arms scope ≡ scope
unfolding label_scope
label_out all i n arms scope outside = ap (λ xs. label_scope xs n arms scope) (drop_all i all outside)

-- a list of labels behind another
pub label_both : (xs ys : List Identifier) (n arms : ℕ) (scope : Scope Seen)
    → label_scope (xs ++ ys) n arms scope ≡ label_scope ys (n + length xs) arms (label_scope xs n arms scope)
unfolding label_scope
label_both [] ys n arms scope = ap (λ m. label_scope ys m arms scope) none
  where
    none : n ≡ n + 0
    none = omega arith
label_both (x ∷ xs) ys n arms scope = label_both xs ys (n + 1) arms (with_name x.name (record { number = n; arms = arms }) scope)
    ∙ ap (λ m. label_scope ys m arms (label_scope xs (n + 1) arms (with_name x.name (record { number = n; arms = arms }) scope))) (one_more n (length xs))
  where
    one_more : (m k : ℕ) → (m + 1) + k ≡ m + suc k
    one_more m k = omega arith

pub labels_turn : (now later xs : List Identifier) (number next arms : ℕ) (old new : Scope Seen)
    → now ≡ xs ++ later → next ≡ number + length xs → new ≡ label_scope xs number arms old
    → label_scope now number arms old ≡ label_scope later next arms new
labels_turn now later xs number next arms old new split counted named =
    ap (λ ys. label_scope ys number arms old) split ∙ label_both xs later number arms old ∙ rw (sym counted, sym named) refl

pub labels_counted : (now later xs : List Identifier) (number next : ℕ) → now ≡ xs ++ later → next ≡ number + length xs
    → number + length now ≡ next + length later
labels_counted now later xs number next split counted = omega (arith, ap length split, length-append xs later, counted)

-- labels over those outside
cond_or : {A : Type 0} (b : Bool) (m : A) (o p : Option A) → cond b (Some m) (option_or o p) ≡ option_or (cond b (Some m) o) p
cond_or true m o p = refl
cond_or false m o p = refl

name_over : (x : List ℕ) (m : Seen) (inner outside : Scope Seen) → with_name x m (over inner outside) ≡ over (with_name x m inner) outside
name_over x m inner outside = λ i y. cond_or (bytes_eq x y) m (inner y) (outside y) i

label_over : (xs : List Identifier) (n arms : ℕ) (inner outside : Scope Seen)
    → label_scope xs n arms (over inner outside) ≡ over (label_scope xs n arms inner) outside
unfolding label_scope
label_over [] n arms inner outside = refl
label_over (x ∷ xs) n arms inner outside =
    ap (label_scope xs (n + 1) arms) (name_over x.name (record { number = n; arms = arms }) inner outside)
    ∙ label_over xs (n + 1) arms (with_name x.name (record { number = n; arms = arms }) inner) outside

pub labels_done : (all : List Identifier) (first arms : ℕ) (scope outside : Scope Seen) → label_scope all first arms nothing ≡ scope
    → over scope outside ≡ label_scope all first arms outside
labels_done all first arms scope outside e = ap (λ inner. over inner outside) (sym e) ∙ sym (label_over all first arms nothing outside)

-- those of the next part of an EXITS or a REPEAT
pub exits_at : (all : List (Labeled (List Identifier) Statement)) (i : ℕ) (x : Labeled (List Identifier) Statement) → i < length all → x ≡ get_or all i x
    → labels_of_exits (exits (drop i all)) ≡ x.labels ++ labels_of_exits (exits (drop (i + 1) all))
unfolding labels_of_exits
exits_at all i x inside here = ap (λ xs. labels_of_exits (exits xs)) (at_drop all i x inside here)

pub exits_out : (all : List (Labeled (List Identifier) Statement)) (i : ℕ) → length all ≤ i → labels_of_exits (exits (drop i all)) ≡ []
unfolding labels_of_exits
exits_out all i outside = ap (λ xs. labels_of_exits (exits xs)) (drop_all i all outside)

pub repeats_at : (all : List (Labeled RepeatLabels Statement)) (i : ℕ) (x : Labeled RepeatLabels Statement) → i < length all → x ≡ get_or all i x
    → labels_of_repeats (repeats (drop i all)) ≡ labels_of x.labels ++ labels_of_repeats (repeats (drop (i + 1) all))
unfolding labels_of_repeats
repeats_at all i x inside here = ap (λ xs. labels_of_repeats (repeats xs)) (at_drop all i x inside here)

pub repeats_out : (all : List (Labeled RepeatLabels Statement)) (i : ℕ) → length all ≤ i → labels_of_repeats (repeats (drop i all)) ≡ []
unfolding labels_of_repeats
repeats_out all i outside = ap (λ xs. labels_of_repeats (repeats xs)) (drop_all i all outside)

pub labels_made : (names : Names Here) (outside : Option (Bor Labels)) → labels_in (roll-Labels (record { names = names; around = outside })) ≡ over (seen_as seen (means names)) (labels outside)
unfolding labels_in
labels_made names None = fold-roll-Labels (Scope Seen) labels_step (record { names = names; around = None })
labels_made names (Some l) = fold-roll-Labels (Scope Seen) labels_step (record { names = names; around = Some l })

pub scope_out : (now : List Identifier) (number arms : ℕ) (scope : Scope Seen) → now ≡ [] → label_scope now number arms scope ≡ scope
unfolding label_scope
scope_out now number arms scope e = ap (λ xs. label_scope xs number arms scope) e
