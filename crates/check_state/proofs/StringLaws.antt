-- Numbers of string literals, one after the other.
use Rattle.std.proofs.Common.{◌≡◌, ◌<◌, ◌≤◌, ◌+◌, ℕ, suc, Bool, true, false, List, [], ◌∷◌, drop, take, length, get_or, Option, Some, None, add-one, refl, sym, ap, ◌∙◌, arith}
use Rattle.std.proofs.lemmas.List.{drop_more, drop_all, length-take-le, take_all}
use Rattle.std.specs.Option.{option_or}
use Rattle.std.specs.Prelude.{cond, nat_le}
use Rattle.std.specs.Str.{bytes_eq}
use Rattle.std.specs.Cmp.Lexicographic.{nat_list_eq_equiv}
use Rattle.mesa_types.specs.mesa_base.specs.declared.limits.TheConstants.{DISTINCT_STRINGS}
use Rattle.interface_records.specs.check_scopes.specs.Scopes.{Scope, with_name, over, nothing}
use Rattle.check_rules.specs.Values.{number_in}

abbrev pub numbers : ℕ → List (List ℕ) → Scope ℕ
numbers n xs y = number_in y n xs

at_drop : {A : Type 0} (all : List A) (i : ℕ) (x : A) → i < length all → x ≡ get_or all i x → drop i all ≡ x ∷ drop (i + 1) all
at_drop all i x inside here = drop_more all i x inside ∙ ap (λ y. y ∷ drop (i + 1) all) (sym here)

or_then : {X : Type 0} (o : Option X) (b : Bool) (x : X) (p : Option X) → option_or o (cond b (Some x) p) ≡ option_or (option_or o (cond b (Some x) None)) p
or_then (Some y) b x p = refl
or_then None true x p = refl
or_then None false x p = refl

or_none : {X : Type 0} (o : Option X) → option_or o None ≡ o
or_none None = refl
or_none (Some x) = refl

is_below : (m n : ℕ) → m ≤ n → nat_le m n ≡ true
is_below m n h = grind arith

is_above : (m n : ℕ) → n < m → nat_le m n ≡ false
is_above m n h = grind arith

is_numbered : (n : ℕ) → n < 65535 → nat_le (suc n) DISTINCT_STRINGS ≡ true
is_numbered n h = is_below (suc n) 65535 (omega arith)

is_past : (n : ℕ) → 65535 ≤ n → nat_le (suc n) DISTINCT_STRINGS ≡ false
is_past n h = is_above (suc n) 65535 (omega arith)

number_more : (scope : Scope ℕ) (n : ℕ) (x : List ℕ) (xs : List (List ℕ)) → n < 65535
    → over scope (numbers n (x ∷ xs)) ≡ over (over scope (with_name x n nothing)) (numbers (suc n) xs)
unfolding number_in
number_more scope n x xs h = λ i y. (
    ap (λ b. option_or (scope y) (cond (bytes_eq y x) (cond b (Some n) None) (number_in y (suc n) xs))) (is_numbered n h)
    ∙ ap (λ b. option_or (scope y) (cond b (Some n) (number_in y (suc n) xs))) (nat_list_eq_equiv.symm y x)
    ∙ or_then (scope y) (bytes_eq x y) n (number_in y (suc n) xs)) i

pub numbers_at : (scope : Scope ℕ) (n : ℕ) (all : List (List ℕ)) (i : ℕ) (x : List ℕ) → n < 65535 → i < length all → x ≡ get_or all i x
    → over scope (numbers n (drop i all)) ≡ over (over scope (with_name x n nothing)) (numbers (n + 1) (drop (i + 1) all))
numbers_at scope n all i x few inside here =
    ap (λ xs. over scope (numbers n xs)) (at_drop all i x inside here)
    ∙ number_more scope n x (drop (i + 1) all) few
    ∙ ap (λ k. over (over scope (with_name x n nothing)) (numbers k (drop (i + 1) all))) (sym (add-one n))

pub numbers_out : (scope : Scope ℕ) (n : ℕ) (all : List (List ℕ)) (i : ℕ) → length all ≤ i → over scope (numbers n (drop i all)) ≡ scope
unfolding number_in
numbers_out scope n all i outside = ap (λ xs. over scope (numbers n xs)) (drop_all i all outside) ∙ (λ i y. or_none (scope y) i)

neither : (o : Option ℕ) (b : Bool) → cond b o o ≡ o
neither o true = refl
neither o false = refl

past : (y : List ℕ) (n : ℕ) (xs : List (List ℕ)) → 65535 ≤ n → number_in y n xs ≡ None
unfolding number_in
past y n [] h = refl
past y n (x ∷ xs) h =
    ap (λ b. cond (bytes_eq y x) (cond b (Some n) None) (number_in y (suc n) xs)) (is_past n h)
    ∙ ap (λ o. cond (bytes_eq y x) None o) (past y (suc n) xs (omega arith))
    ∙ neither None (bytes_eq y x)

pub numbers_past : (scope : Scope ℕ) (n : ℕ) (xs : List (List ℕ)) → 65535 ≤ n → over scope (numbers n xs) ≡ scope
numbers_past scope n xs h = λ i y. (ap (option_or (scope y)) (past y n xs h) ∙ or_none (scope y)) i

-- a list that is no longer is all of its beginning; one that is longer has so many
pub all_taken : (n long : ℕ) (texts value : List (List ℕ)) → texts ≡ value → long ≡ length texts → long ≤ n → texts ≡ take n value
all_taken n long texts value e many few = sym (take_all n texts (omega arith)) ∙ ap (take n) e

pub long_enough : (n long : ℕ) (texts slice : List (List ℕ)) → slice ≡ texts → long ≡ length texts → n < long → n ≡ length (take n slice)
long_enough n long texts slice e many more = let same : length slice ≡ length texts = ap length e in sym (length-take-le n slice (omega arith))
