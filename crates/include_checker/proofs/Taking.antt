-- Which texts are left.
use Rattle.std.proofs.Common.{◌≡◌, ℕ, zero, suc, ◌+◌, ◌<◌, ◌≤◌, Bool, true, false, not, ◌&&◌, List, [], ◌∷◌, ◌++◌, Option, None, Some, length, slice_get, nat_eq, refl, sym, ap, ◌∙◌, subst, inl, inr, arith}
use Rattle.std.specs.List.{list_all}
use Rattle.std.specs.Prelude.{◌↔◌, IsTrue, is_some}
use Rattle.std.proofs.lemmas.Bool.{both_ways, not-true, not-false, eq-eqb, ne_eqb, cases_eq}
use Rattle.std.proofs.lemmas.Option.{none-some, same_Some}
use Rattle.include_rules.specs.Naming.{is_left, named_by, first_left}
use Rattle.include_rules.specs.Order.{IsReady, IsNext, Takes, none, another}

pub all_others : (taken : List ℕ) (k : ℕ) → list_all (λ t. not (nat_eq t k)) taken ≡ is_left taken k
unfolding is_left
all_others [] k = refl
all_others (t ∷ taken) k = ap (λ b. not (nat_eq t k) && b) (all_others taken k)

-- ---- what a text names

pub row_at : (names : List (List ℕ)) (k : ℕ) (row : List ℕ) → slice_get names k ≡ Some row → named_by names k ≡ row
unfolding named_by
row_at [] k row is = absurd (none-some row is)
row_at (ns ∷ names) zero row is = same_Some ns row is
row_at (ns ∷ names) (suc k) row is = row_at names k row is

pub no_row : (names : List (List ℕ)) (k : ℕ) → slice_get names k ≡ None → named_by names k ≡ []
unfolding named_by
no_row [] k is = refl
no_row (ns ∷ names) zero is = absurd (none-some ns (sym is))
no_row (ns ∷ names) (suc k) is = no_row names k is

-- ---- one more is taken

pub one_more : (taken : List ℕ) (j k : ℕ) → is_left (taken ++ j ∷ []) k ≡ (is_left taken k && not (nat_eq j k))
unfolding is_left
one_more [] j k = elim (nat_eq j k) as (λ b. (not b && true) ≡ not b) [ true ↦ refl | false ↦ refl ]
one_more (t ∷ taken) j k =
    elim (nat_eq t k) as (λ b. (not b && is_left (taken ++ j ∷ []) k) ≡ (not b && is_left taken k && not (nat_eq j k))) [ true ↦ refl | false ↦ one_more taken j k ]

pub itself_taken : (taken : List ℕ) (k : ℕ) → is_left (taken ++ k ∷ []) k ≡ false
itself_taken taken k = one_more taken k k ∙ ap (λ b. is_left taken k && not b) (eq-eqb k k refl) ∙ (elim (is_left taken k) as (λ b. (b && false) ≡ false) [ true ↦ refl | false ↦ refl ])

pub still_left : (taken : List ℕ) (j k : ℕ) → (j ≡ k → ⊥) → is_left (taken ++ j ∷ []) k ≡ is_left taken k
still_left taken j k other = one_more taken j k ∙ ap (λ b. is_left taken k && not b) (ne_eqb j k other) ∙ (elim (is_left taken k) as (λ b. (b && true) ≡ b) [ true ↦ refl | false ↦ refl ])

-- ---- how many are left

-- of so many texts
abbrev weight : Bool → ℕ
weight true = 1
weight false = 0

unfoldable pub count_left : (taken : List ℕ) → (texts : ℕ) → ℕ
count_left taken zero = 0
count_left taken (suc n) = weight (is_left taken n) + count_left taken n

weight_both : (a b : Bool) → weight (a && not b) ≤ weight a
weight_both true true = omega arith
weight_both true false = omega arith
weight_both false b = omega arith

weight_more : (taken : List ℕ) (j k : ℕ) → weight (is_left (taken ++ j ∷ []) k) ≤ weight (is_left taken k)
weight_more taken j k =
    rw one_more (weight_both (is_left taken k) (nat_eq j k))

no_more_left : (taken : List ℕ) (j n : ℕ) → count_left (taken ++ j ∷ []) n ≤ count_left taken n
unfolding count_left
no_more_left taken j zero = omega arith
no_more_left taken j (suc n) = omega (arith, weight_more taken j n, no_more_left taken j n)

pub fewer_left : (taken : List ℕ) (j n : ℕ) → j < n → is_left taken j ≡ true → count_left (taken ++ j ∷ []) n < count_left taken n
unfolding count_left
fewer_left taken j zero below left = absurd (omega arith)
fewer_left taken j (suc n) below left = elim (cases_eq j n) [
  | inl same ↦
      let gone : weight (is_left (taken ++ j ∷ []) n) ≡ 0 = ap (λ k. weight (is_left (taken ++ j ∷ []) k)) (sym same) ∙ ap weight (itself_taken taken j) in
      let was : weight (is_left taken n) ≡ 1 = ap (λ k. weight (is_left taken k)) (sym same) ∙ ap weight left in
      omega (arith, gone, was, no_more_left taken j n)
  | inr other ↦ omega (arith, weight_more taken j n, fewer_left taken j n (omega arith) left)
]

-- ---- which can be taken

pub ready_where : (names : List (List ℕ)) (taken : List ℕ) (k : ℕ) (o : Option ℕ) (b : Bool) → k < length names → is_left taken k ≡ true
    → o ≡ first_left names taken k → is_some o ≡ not b → IsTrue b ↔ IsReady names taken k
ready_where names taken k None b below left is some = (λ _. record { is_text = below; left = left; all_taken = sym is }, λ r. not-false b (sym some))
ready_where names taken k (Some j) b below left is some = (λ t. absurd (both_ways b (not-true b (sym some)) t), λ r. absurd (none-some j (sym (is ∙ r.all_taken))))

pub not_ready : (names : List (List ℕ)) (taken : List ℕ) (k : ℕ) (b : Bool) → b ≡ is_left taken k → b ≡ false → IsTrue b ↔ IsReady names taken k
not_ready names taken k b is e = (λ t. absurd (both_ways b e t), λ r. absurd (both_ways b e (is ∙ r.left)))

-- ---- one after the other

pub one_taken : (names : List (List ℕ)) (taken seen more : List ℕ) (k : ℕ) → seen ≡ taken → more ≡ taken ++ k ∷ [] → IsNext names seen k → Takes names taken
    → Takes names more
one_taken names taken seen more k same is next takes =
    let P : List ℕ → Type 0 = λ t. IsNext names t k in
    let Q : List ℕ → Type 0 = Takes names in
    subst Q (sym is) (another taken k takes (subst P same next))

pub fewer_to_take : (names : List (List ℕ)) (taken seen more : List ℕ) (k : ℕ) → seen ≡ taken → more ≡ taken ++ k ∷ [] → IsNext names seen k
    → count_left more (length names) < count_left taken (length names)
fewer_to_take names taken seen more k same is next =
    let P : List ℕ → Type 0 = λ t. IsNext names t k in
    let Q : List ℕ → Type 0 = λ t. count_left t (length names) < count_left taken (length names) in
    let now = subst P same next in
    subst Q (sym is) (fewer_left taken k (length names) now.ready.is_text now.ready.left)

pub nothing_taken : (names : List (List ℕ)) (taken : List ℕ) → taken ≡ [] → Takes names taken
nothing_taken names taken is = let P : List ℕ → Type 0 = Takes names in subst P (sym is) none
