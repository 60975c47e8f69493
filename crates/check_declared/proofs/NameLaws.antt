-- Names that differ, one after the other.
use Rattle.std.proofs.Common.{◌≡◌, ◌<◌, ◌≤◌, ◌+◌, ℕ, Bool, true, false, List, [], ◌∷◌, ◌++◌, Option, Some, drop, take, length, get_or, Ok, refl, sym, ap, ◌∙◌, append_assoc, arith}
use Rattle.std.specs.Prelude.{◌||◌, bytes_eq, nat_eq, cond, is_some, not}
use Rattle.std.proofs.lemmas.List.{drop_all, take_more, take_all, map-append}
use Rattle.mesa_base.specs.declared.identifier.Identifier.{Identifier}
use Rattle.check_scopes.specs.Scopes.{has, with_name}
use Rattle.check_scopes.specs.Shows.{means}
use Rattle.check_scopes.specs.declared.names.Names.{Names}
use Rattle.check_rules.specs.Parts.{distinct, names_of}
use Rattle.check_rules.specs.Steps.{and_then, only}
use Rattle.check_rules.specs.declared.fault.Cause.TheVariants.{TwiceDeclared}
use Rattle.check_jumps.proofs.Tests.{at_drop}
use Rattle.check_declared.specs.Naming.{HasNames}

nat_turned : (m n : ℕ) → nat_eq m n ≡ nat_eq n m
nat_turned m n = grind arith

bytes_turned : (xs ys : List ℕ) → bytes_eq xs ys ≡ bytes_eq ys xs
bytes_turned [] [] = refl
bytes_turned [] (y ∷ ys) = refl
bytes_turned (x ∷ xs) [] = refl
bytes_turned (x ∷ xs) (y ∷ ys) = rw (nat_turned x y, bytes_turned xs ys) refl

or_or : (a b c : Bool) → (a || (b || c)) ≡ ((a || b) || c)
or_or true b c = refl
or_or false b c = refl

or_turned : (a b : Bool) → (a || b) ≡ (b || a)
or_turned true true = refl
or_turned true false = refl
or_turned false true = refl
or_turned false false = refl

or_false : (a : Bool) → (a || false) ≡ a
or_false true = refl
or_false false = refl

has_both : (x : List ℕ) (b c : List (List ℕ)) → has x (b ++ c) ≡ (has x b || has x c)
unfolding has
has_both x [] c = refl
has_both x (y ∷ ys) c = ap (λ h. bytes_eq x y || h) (has_both x ys c) ∙ or_or (bytes_eq x y) (has x ys) (has x c)

-- the order of those before is free
abbrev Same : List (List ℕ) → List (List ℕ) → Type 0
Same b c = (x : List ℕ) → has x b ≡ has x c

distinct_by : (b c : List (List ℕ)) → Same b c → (xs : List Identifier) → distinct b xs ≡ distinct c xs
unfolding distinct has
distinct_by b c h [] = refl
distinct_by b c h (x ∷ xs) =
    rw (h x.name, distinct_by (x.name ∷ b) (x.name ∷ c) (λ y. ap (λ d. bytes_eq y x.name || d) (h y)) xs) refl

behind_is_before : (x : List ℕ) (b : List (List ℕ)) → Same (x ∷ b) (b ++ x ∷ [])
unfolding has
behind_is_before x b y = or_turned (bytes_eq y x) (has y b) ∙ ap (λ d. has y b || d) (sym (or_false (bytes_eq y x))) ∙ sym (has_both y b (x ∷ []))

-- ---- after some of the names

abbrev pub so_far : List (List ℕ) → List Identifier → ℕ → List (List ℕ)
so_far before all i = before ++ names_of (take i all)

so_far_more : (before : List (List ℕ)) (all : List Identifier) (i : ℕ) (x : Identifier) → i < length all → x ≡ get_or all i x
    → so_far before all (i + 1) ≡ so_far before all i ++ x.name ∷ []
so_far_more before all i x inside here =
    ap (λ (xs : List Identifier). before ++ names_of xs) (take_more all i x inside ∙ ap (λ y. take i all ++ y ∷ []) (sym here))
    ∙ ap (λ ys. before ++ ys) (map-append (λ (y : Identifier). y.name) (take i all) (x ∷ []))
    ∙ sym (append_assoc before (names_of (take i all)) (x.name ∷ []))

at_name : (before : List (List ℕ)) (all : List Identifier) (i : ℕ) (x : Identifier) → i < length all → x ≡ get_or all i x
    → distinct before (drop i all) ≡ and_then (only (not (has x.name before)) TwiceDeclared x.place) (λ _. distinct (x.name ∷ before) (drop (i + 1) all))
unfolding distinct
at_name before all i x inside here = ap (distinct before) (at_drop all i x inside here)

pub name_is_new : (before : List (List ℕ)) (all : List Identifier) (i : ℕ) (x : Identifier) → i < length all → x ≡ get_or all i x
    → has x.name (so_far before all i) ≡ false
    → distinct (so_far before all i) (drop i all) ≡ distinct (so_far before all (i + 1)) (drop (i + 1) all)
name_is_new before all i x inside here new =
    at_name (so_far before all i) all i x inside here
    ∙ ap (λ b. and_then (only (not b) TwiceDeclared x.place) (λ _. distinct (x.name ∷ so_far before all i) (drop (i + 1) all))) new
    ∙ distinct_by (x.name ∷ so_far before all i) (so_far before all i ++ x.name ∷ []) (behind_is_before x.name (so_far before all i)) (drop (i + 1) all)
    ∙ ap (λ b. distinct b (drop (i + 1) all)) (sym (so_far_more before all i x inside here))

pub name_is_there : (before : List (List ℕ)) (all : List Identifier) (i : ℕ) (x : Identifier) → i < length all → x ≡ get_or all i x
    → has x.name (so_far before all i) ≡ true
    → distinct (so_far before all i) (drop i all) ≡ only false TwiceDeclared x.place
name_is_there before all i x inside here old =
    at_name (so_far before all i) all i x inside here
    ∙ ap (λ b. and_then (only (not b) TwiceDeclared x.place) (λ _. distinct (x.name ∷ so_far before all i) (drop (i + 1) all))) old

pub no_name_left : (before : List (List ℕ)) (all : List Identifier) (i : ℕ) → length all ≤ i → distinct before (drop i all) ≡ Ok tt
unfolding distinct
no_name_left before all i outside = ap (distinct before) (drop_all i all outside)

pub all_so_far : (before : List (List ℕ)) (all : List Identifier) (i : ℕ) → length all ≤ i → so_far before all i ≡ before ++ names_of all
all_so_far before all i outside = ap (λ (xs : List Identifier). before ++ names_of xs) (take_all i all outside)

pub at_first : (before : List (List ℕ)) (all : List Identifier) → before ≡ so_far before all 0
at_first before all = sym (append_nil before)
  where
    append_nil : (bs : List (List ℕ)) → bs ++ [] ≡ bs
    append_nil [] = refl
    append_nil (b ∷ bs) = ap (λ cs. b ∷ cs) (append_nil bs)

some_cond : {A : Type 0} (b : Bool) (m : A) (o : Option A) → is_some (cond b (Some m) o) ≡ (b || is_some o)
some_cond true m o = refl
some_cond false m o = refl

-- the index has a name more
pub has_one_more : (old new : Names Bool) (before : List (List ℕ)) (all : List Identifier) (i : ℕ) (x : Identifier) → i < length all → x ≡ get_or all i x
    → means new ≡ with_name x.name true (means old) → HasNames old (so_far before all i) → HasNames new (so_far before all (i + 1))
unfolding has
has_one_more old new before all i x inside here declared knows y =
    ap (λ (s : List ℕ → Option Bool). is_some (s y)) declared
    ∙ some_cond (bytes_eq x.name y) true (means old y)
    ∙ rw (bytes_turned x.name y, knows y) (behind_is_before x.name (so_far before all i) y)
    ∙ ap (has y) (sym (so_far_more before all i x inside here))
