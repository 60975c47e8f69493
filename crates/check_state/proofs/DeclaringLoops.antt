-- Names one after the other.
use Rattle.std.proofs.Common.{◌≡◌, ◌<◌, ◌≤◌, ◌+◌, ℕ, Bool, true, false, List, ◌∷◌, map, drop, length, get_or, Ok, refl, sym, ap, ◌∙◌}
use Rattle.std.specs.Prelude.{not}
use Rattle.std.proofs.lemmas.List.{drop_more, drop_all}
use Rattle.mesa_types.specs.mesa_base.specs.declared.identifier.Identifier.{Identifier}
use Rattle.mesa_types.specs.mesa_base.specs.declared.place.Place.{Place}
use Rattle.check_rules.specs.Meanings.{Meaning, Later}
use Rattle.check_rules.specs.Names.{announce, settle, shown, each_means, is_declared, coming}
use Rattle.check_rules.specs.Steps.{State, Checked, and_then, only}
use Rattle.check_rules.specs.declared.fault.Cause.TheVariants.{TwiceDeclared}
use Rattle.check_state.specs.Declaring.{announced}

at_drop : {A : Type 0} (all : List A) (i : ℕ) (x : A) → i < length all → x ≡ get_or all i x → drop i all ≡ x ∷ drop (i + 1) all
at_drop all i x inside here = drop_more all i x inside ∙ ap (λ y. y ∷ drop (i + 1) all) (sym here)

abbrev now_at : State → Checked (Unit {0} × State)
now_at s = Ok (tt, s)

one_announced : (b : Bool) (p : Place) (f : State → Checked (Unit {0} × State)) (s : State)
    → and_then (only b TwiceDeclared p) (λ _. f s) ≡ and_then (and_then (only b TwiceDeclared p) (λ _. now_at s)) (λ r. f r.1)
one_announced true p f s = refl
one_announced false p f s = refl

announce_one : (x : Identifier) (xs : List Identifier) (s : State) → announce (x ∷ xs) s ≡ and_then (announced x s) (λ r. announce xs r.1)
unfolding announce announced
announce_one x xs s = one_announced (not (is_declared x.name s)) x.place (announce xs) (coming x.name Later s)

pub announce_at : (all : List Identifier) (i : ℕ) (x : Identifier) (s : State) → i < length all → x ≡ get_or all i x
    → announce (drop i all) s ≡ and_then (announced x s) (λ r. announce (drop (i + 1) all) r.1)
announce_at all i x s inside here = ap (λ xs. announce xs s) (at_drop all i x inside here) ∙ announce_one x (drop (i + 1) all) s

pub announce_out : (all : List Identifier) (i : ℕ) (s : State) → length all ≤ i → announce (drop i all) s ≡ Ok (tt, s)
unfolding announce
announce_out all i s outside = ap (λ xs. announce xs s) (drop_all i all outside)

-- all names have this meaning
unfoldable pub all_mean : Meaning → List Identifier → State → State
all_mean m xs = each_means xs (map (λ x. m) xs)

pub all_mean_at : (m : Meaning) (all : List Identifier) (i : ℕ) (x : Identifier) (s : State) → i < length all → x ≡ get_or all i x
    → all_mean m (drop i all) s ≡ all_mean m (drop (i + 1) all) (coming x.name m s)
unfolding all_mean each_means
all_mean_at m all i x s inside here = ap (λ xs. each_means xs (map (λ y. m) xs) s) (at_drop all i x inside here)

pub all_mean_out : (m : Meaning) (all : List Identifier) (i : ℕ) (s : State) → length all ≤ i → all_mean m (drop i all) s ≡ s
unfolding all_mean each_means
all_mean_out m all i s outside = ap (λ xs. each_means xs (map (λ y. m) xs) s) (drop_all i all outside)

pub settle_all : (xs : List Identifier) (m : Meaning) (s : State) → settle xs (map (λ x. m) xs) s ≡ now_at (shown (all_mean m xs s))
unfolding settle all_mean
settle_all xs m s = refl
