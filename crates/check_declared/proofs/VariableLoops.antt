-- Variables and numbers, one after the other.
use Rattle.std.proofs.Common.{◌≡◌, ◌<◌, ◌≤◌, ◌+◌, ℕ, List, [], ◌∷◌, ◌++◌, map, drop, length, get_or, Ok, refl, sym, ap, ◌∙◌, append_assoc, arith}
use Rattle.std.specs.Prelude.{Bool, true, false, min, nat_le}
use Rattle.std.proofs.lemmas.List.{drop_all, drop_more}
use Rattle.mesa_base.specs.declared.identifier.Identifier.{Identifier}
use Rattle.check_rules.specs.Around.{Around}
use Rattle.check_rules.specs.Meanings.{Meaning}
use Rattle.check_rules.specs.Names.{each_means, settle, shown, coming}
use Rattle.interface_records.specs.PlainTypes.{PlainType}
use Rattle.check_rules.specs.Statements.{variable, variables, numbers_from}
use Rattle.check_rules.specs.Steps.{State, Check, and_then}
use Rattle.check_rules.specs.Typed.{Home}
use Rattle.check_jumps.proofs.Gathering.{gathered, behind, nothing_behind}
use Rattle.check_jumps.proofs.Tests.{at_drop}

abbrev pub one_variable : Around → PlainType → Identifier → Check Home
one_variable a k x = variable a k

variables_gather : (a : Around) (k : PlainType) (xs : List Identifier) (s : State) → variables a k xs s ≡ gathered (one_variable a k) xs s
unfolding variables gathered
variables_gather a k [] s = refl
variables_gather a k (x ∷ xs) s =
    ap (λ (f : Check (List Home)). and_then (variable a k s) (λ r. and_then (f r.1) (λ q. Ok (r.0 ∷ q.0, q.1)))) (λ i t. variables_gather a k xs t i)

pub variables_begin : (a : Around) (k : PlainType) (xs : List Identifier) (s : State) → variables a k xs s ≡ behind [] (gathered (one_variable a k) xs s)
variables_begin a k xs s = variables_gather a k xs s ∙ nothing_behind (gathered (one_variable a k) xs s)

pub numbers_at : (done : List ℕ) (n : ℕ) (all : List Identifier) (i : ℕ) (x : Identifier) → i < length all → x ≡ get_or all i x
    → done ++ numbers_from n (drop i all) ≡ (done ++ n ∷ []) ++ numbers_from (n + 1) (drop (i + 1) all)
unfolding numbers_from
numbers_at done n all i x inside here =
    ap (λ xs. done ++ numbers_from n xs) (at_drop all i x inside here) ∙ sym (append_assoc done (n ∷ []) (numbers_from (n + 1) (drop (i + 1) all)))

pub numbers_out : (done : List ℕ) (n : ℕ) (all : List Identifier) (i : ℕ) → length all ≤ i → done ++ numbers_from n (drop i all) ≡ done
unfolding numbers_from
numbers_out done n all i outside = ap (λ xs. done ++ numbers_from n xs) (drop_all i all outside) ∙ append_nil done
  where
    append_nil : (bs : List ℕ) → bs ++ [] ≡ bs
    append_nil [] = refl
    append_nil (b ∷ bs) = ap (λ cs. b ∷ cs) (append_nil bs)

pub means_at : (m : Home → Meaning) (names : List Identifier) (homes : List Home) (i : ℕ) (x : Identifier) (h d : Home) (s : State)
    → i < length names → x ≡ get_or names i x → i < length homes → h ≡ get_or homes i d
    → each_means (drop i names) (map m (drop i homes)) s ≡ each_means (drop (i + 1) names) (map m (drop (i + 1) homes)) (coming x.name (m h) s)
unfolding each_means
means_at m names homes i x h d s inside here among home =
    ap (λ xs. each_means xs (map m (drop i homes)) s) (at_drop names i x inside here)
    ∙ ap (λ hs. each_means (x ∷ drop (i + 1) names) (map m hs) s) (drop_more homes i d among ∙ ap (λ g. g ∷ drop (i + 1) homes) (sym home))

names_out : (m : Home → Meaning) (names : List Identifier) (homes : List Home) (i : ℕ) (s : State) → length names ≤ i
    → each_means (drop i names) (map m (drop i homes)) s ≡ s
unfolding each_means
names_out m names homes i s outside = ap (λ xs. each_means xs (map m (drop i homes)) s) (drop_all i names outside)

homes_out : (m : Home → Meaning) (names : List Identifier) (homes : List Home) (i : ℕ) (s : State) → length homes ≤ i
    → each_means (drop i names) (map m (drop i homes)) s ≡ s
unfolding each_means
homes_out m names homes i s outside = ap (λ hs. each_means (drop i names) (map m hs) s) (drop_all i homes outside) ∙ none (drop i names)
  where
    none : (xs : List Identifier) → each_means xs [] s ≡ s
    none [] = refl
    none (x ∷ xs) = refl

pub means_out : (m : Home → Meaning) (names : List Identifier) (homes : List Home) (i : ℕ) (s : State) → min (length names) (length homes) ≤ i
    → each_means (drop i names) (map m (drop i homes)) s ≡ s
means_out m names homes i s outside = by_test (nat_le (length names) i) refl
  where
    is_below : (a n : ℕ) → true ≡ nat_le a n → a ≤ n
    is_below a n e = grind arith

    is_above : (a b n : ℕ) → false ≡ nat_le a n → min a b ≤ n → b ≤ n
    is_above a b n e h = grind arith

    by_test : (t : Bool) → t ≡ nat_le (length names) i → each_means (drop i names) (map m (drop i homes)) s ≡ s
    by_test true e = names_out m names homes i s (is_below (length names) i e)
    by_test false e = homes_out m names homes i s (is_above (length names) (length homes) i e outside)

pub settled : (names : List Identifier) (ms : List Meaning) (s t : State) → each_means names ms s ≡ t → settle names ms s ≡ Ok (tt, shown t)
unfolding settle
settled names ms s t e = ap (λ u. Ok (tt, shown u)) e
