-- The elements of an enumeration, one after the other, and what is wrong with too many of them.
use Rattle.std.proofs.Common.{◌≡◌, ◌<◌, ◌≤◌, ◌+◌, ℕ, Bool, true, false, List, [], ◌∷◌, Option, Some, drop, length, get_or, Ok, Err, refl, sym, ap, ◌∙◌, arith}
use Rattle.std.specs.Prelude.{◌||◌, bytes_eq, cond, is_some, nat_le, not}
use Rattle.std.proofs.lemmas.List.{drop_more, drop_all}
use Rattle.mesa_base.specs.declared.identifier.Identifier.{Identifier}
use Rattle.mesa_base.specs.declared.limits.TheConstants.{ENUMERATION_ELEMENTS}
use Rattle.mesa_base.specs.declared.place.Place.{Place}
use Rattle.check_rules.specs.Around.{Around}
use Rattle.check_rules.specs.Meanings.{Meaning, Constant, Later}
use Rattle.check_rules.specs.Names.{announce, is_declared, element_in, coming, at_once}
use Rattle.interface_records.specs.PlainTypes.{PlainType}
use Rattle.check_rules.specs.Scopes.{innermost}
use Rattle.check_rules.specs.Steps.{State, Checked, and_then, only, refuse}
use Rattle.check_rules.specs.TypeRules.{elements, few}
use Rattle.check_rules.specs.declared.fault.Cause.TheVariants.{TwiceDeclared, TypeTooLarge}
use Rattle.check_types.specs.Elements.{element, all_elements, too_many}

at_drop : {A : Type 0} (all : List A) (i : ℕ) (x : A) → i < length all → x ≡ get_or all i x → drop i all ≡ x ∷ drop (i + 1) all
at_drop all i x inside here = drop_more all i x inside ∙ ap (λ y. y ∷ drop (i + 1) all) (sym here)

abbrev now_at : State → Checked (Unit {0} × State)
now_at s = Ok (tt, s)

one_step : (b : Bool) (p : Place) (f : State → Checked (Unit {0} × State)) (s : State)
    → and_then (only b TwiceDeclared p) (λ _. f s) ≡ and_then (and_then (only b TwiceDeclared p) (λ _. now_at s)) (λ r. f r.1)
one_step true p f s = refl
one_step false p f s = refl

pub elements_at : (a : Around) (k : PlainType) (all : List Identifier) (i : ℕ) (x : Identifier) (s : State) → i < length all → x ≡ get_or all i x
    → elements a k i (drop i all) s ≡ and_then (element a k i x s) (λ r. elements a k (i + 1) (drop (i + 1) all) r.1)
unfolding elements element
elements_at a k all i x s inside here =
    ap (λ xs. elements a k i xs s) (at_drop all i x inside here)
    ∙ one_step (not (is_declared x.name s)) x.place (elements a k (i + 1) (drop (i + 1) all)) (element_in a.is_outermost x.name (Constant k i) s)

pub elements_out : (a : Around) (k : PlainType) (all : List Identifier) (i : ℕ) (s : State) → length all ≤ i → elements a k i (drop i all) s ≡ Ok (tt, s)
unfolding elements
elements_out a k all i s outside = ap (λ xs. elements a k i xs s) (drop_all i all outside)

-- ---- within the limit

last_step : (p : Checked (Unit {0} × State)) → and_then p (λ r. now_at r.1) ≡ p
last_step (Ok (u, s)) = refl
last_step (Err e) = refl

pub few_are_all : (a : Around) (k : PlainType) (p : Place) (xs : List Identifier) (s : State) → length xs ≤ ENUMERATION_ELEMENTS
    → all_elements a k p xs s ≡ elements a k 0 xs s
unfolding few
few_are_all a k p xs s h =
    ap (λ b. and_then (elements a k 0 xs s) (λ r. and_then (only b TypeTooLarge p) (λ u. Ok (u, r.1)))) (is_below (length xs) ENUMERATION_ELEMENTS h)
    ∙ last_step (elements a k 0 xs s)
  where
    is_below : (m n : ℕ) → m ≤ n → nat_le m n ≡ true
    is_below m n h = grind arith

-- ---- past it: the same names are declared, whatever they mean

abbrev Same : State → State → Type 0
Same s t = (x : List ℕ) → is_declared x s ≡ is_declared x t

some_cond : {A : Type 0} (b : Bool) (m : A) (o : Option A) → is_some (cond b (Some m) o) ≡ (b || is_some o)
some_cond true m o = refl
some_cond false m o = refl

or_or : (a b c : Bool) → ((a || b) || c) ≡ (a || (b || c))
or_or true b c = refl
or_or false b c = refl

or_between : (a b c : Bool) → (b || (a || c)) ≡ (a || (b || c))
or_between true true c = refl
or_between true false c = refl
or_between false b c = refl

coming_more : (x : List ℕ) (m : Meaning) (s : State) (y : List ℕ) → is_declared y (coming x m s) ≡ (bytes_eq x y || is_declared y s)
coming_more x m s y = ap (λ b. b || is_some (innermost s.scopes y)) (some_cond (bytes_eq x y) m (s.coming y)) ∙ or_or (bytes_eq x y) (is_some (s.coming y)) (is_some (innermost s.scopes y))

at_once_more : (x : List ℕ) (m : Meaning) (s : State) (y : List ℕ) → is_declared y (at_once x m s) ≡ (bytes_eq x y || is_declared y s)
at_once_more x m s y =
    ap (λ b. is_some (s.coming y) || b) (some_cond (bytes_eq x y) m (innermost s.scopes y)) ∙ or_between (bytes_eq x y) (is_some (s.coming y)) (is_some (innermost s.scopes y))

element_more : (outermost : Bool) (x : List ℕ) (m : Meaning) (s : State) (y : List ℕ) → is_declared y (element_in outermost x m s) ≡ (bytes_eq x y || is_declared y s)
element_more true x m s y = at_once_more x m s y
element_more false x m s y = coming_more x m s y

still_same : (outermost : Bool) (x : List ℕ) (m n : Meaning) (s t : State) → Same s t → Same (element_in outermost x m s) (coming x n t)
still_same outermost x m n s t h y = element_more outermost x m s y ∙ ap (λ b. bytes_eq x y || b) (h y) ∙ sym (coming_more x n t y)

abbrev ends : Place → Checked (Unit {0} × State) → Checked (Unit {0} × State)
ends p r = and_then r (λ _. refuse TypeTooLarge p)

by_test : (b : Bool) (q p : Place) (f g : Checked (Unit {0} × State)) → ends p f ≡ ends p g
    → ends p (and_then (only b TwiceDeclared q) (λ _. f)) ≡ ends p (and_then (only b TwiceDeclared q) (λ _. g))
by_test true q p f g h = h
by_test false q p f g h = refl

same_end : (a : Around) (k : PlainType) (p : Place) (n : ℕ) (xs : List Identifier) (s t : State) → Same s t
    → ends p (elements a k n xs s) ≡ ends p (announce xs t)
unfolding elements announce
same_end a k p n [] s t h = refl
same_end a k p n (x ∷ xs) s t h =
    ap (λ b. ends p (and_then (only (not b) TwiceDeclared x.place) (λ _. elements a k (n + 1) xs (element_in a.is_outermost x.name (Constant k n) s)))) (h x.name)
    ∙ by_test (not (is_declared x.name t)) x.place p (elements a k (n + 1) xs (element_in a.is_outermost x.name (Constant k n) s)) (announce xs (coming x.name Later t))
    (same_end a k p (n + 1) xs (element_in a.is_outermost x.name (Constant k n) s) (coming x.name Later t) (still_same a.is_outermost x.name (Constant k n) Later s t h))

pub too_many_are_all : (a : Around) (k : PlainType) (p : Place) (xs : List Identifier) (s : State) → ENUMERATION_ELEMENTS < length xs
    → all_elements a k p xs s ≡ too_many p xs s
unfolding few
too_many_are_all a k p xs s h =
    ap (λ b. and_then (elements a k 0 xs s) (λ r. and_then (only b TypeTooLarge p) (λ u. Ok (u, r.1)))) (is_above (length xs) ENUMERATION_ELEMENTS h)
    ∙ same_end a k p 0 xs s s (λ y. refl)
  where
    is_above : (m n : ℕ) → n < m → nat_le m n ≡ false
    is_above m n h = grind arith
