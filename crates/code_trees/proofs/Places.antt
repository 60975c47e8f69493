-- The value for a place among values in the order of the text.
use Rattle.std.proofs.Common.{◌≡◌, refl, sym, ap, ◌∙◌, ℕ, zero, suc, ◌+◌, ◌-◌, ◌<◌, ◌≤◌, List, [], ◌∷◌, ◌++◌, append_assoc, length, get_or, take, drop, drop-cons, eq-eqb, if◌then◌else◌, Bool, true, false, arith}
use Rattle.std.proofs.lemmas.List.{drop_all, length-drop}
use Rattle.std.specs.Prelude.{nat_eq, slice_set}
use Rattle.code_forms.specs.declared.instruction.Instruction.{Instruction}
use Rattle.code_rules.specs.Links.{rank}
use Rattle.code_rules.specs.OwnCode.{arrange_from, lift_code, rolls, size_after, size_for, total}
use Rattle.code_trees.specs.Excess.{excess_in}
use Rattle.code_trees.specs.Taken.{blanked, rolls_in_place}
use Rattle.code_trees.proofs.OwnCode.{excess_both}

pub found_size : (q : ℕ) (ps ss : List ℕ) (d : ℕ) → rank q ps < length ps → rank q ps < length ss → size_for q ps ss ≡ get_or ss (rank q ps) d
found_size q [] ss d h k = let no : ⊥ = omega (arith, h) in absurd no
found_size q (p ∷ ps) [] d h k = let no : ⊥ = omega (arith, k) in absurd no
found_size q (p ∷ ps) (s ∷ ss) d h k = go (nat_eq p q) refl (λ a b. found_size q ps ss d a b)
  where
    go : (b : Bool) → nat_eq p q ≡ b → (rank q ps < length ps → rank q ps < length ss → size_for q ps ss ≡ get_or ss (rank q ps) d) → (if nat_eq p q then s else size_for q ps ss) ≡ get_or (s ∷ ss) (if nat_eq p q then 0 else suc (rank q ps)) d
    go true is f = rw is refl
    go false is f =
        let at : rank q (p ∷ ps) ≡ suc (rank q ps) = ap (λ c. if c then 0 else suc (rank q ps)) is in
        rw is (f (omega (arith, h, at)) (omega (arith, k, at)))

pub found_after : (q : ℕ) (ps ss : List ℕ) → rank q ps < length ps → rank q ps < length ss → size_after q ps ss ≡ total (drop (rank q ps + 1) ss)
found_after q [] ss h k = let no : ⊥ = omega (arith, h) in absurd no
found_after q (p ∷ ps) [] h k = let no : ⊥ = omega (arith, k) in absurd no
found_after q (p ∷ ps) (s ∷ ss) h k = go (nat_eq p q) refl (λ a b. found_after q ps ss a b)
  where
    go : (b : Bool) → nat_eq p q ≡ b → (rank q ps < length ps → rank q ps < length ss → size_after q ps ss ≡ total (drop (rank q ps + 1) ss)) → (if nat_eq p q then total ss else size_after q ps ss) ≡ total (drop ((if nat_eq p q then 0 else suc (rank q ps)) + 1) (s ∷ ss))
    go true is f = rw is refl
    go false is f =
        let at : rank q (p ∷ ps) ≡ suc (rank q ps) = ap (λ c. if c then 0 else suc (rank q ps)) is in
        rw is (
        f (omega (arith, h, at)) (omega (arith, k, at))
        ∙ ap (λ n. total (drop n (s ∷ ss))) {x = suc (rank q ps + 1)} {y = suc (rank q ps) + 1} (omega arith))

pub no_size : (q : ℕ) (ps ss : List ℕ) → (rank q ps < length ps → rank q ps < length ss → ⊥) → size_for q ps ss ≡ 0
no_size q [] ss h = refl
no_size q (p ∷ ps) [] h = refl
no_size q (p ∷ ps) (s ∷ ss) h = go (nat_eq p q) refl (λ a. no_size q ps ss a)
  where
    go : (b : Bool) → nat_eq p q ≡ b → ((rank q ps < length ps → rank q ps < length ss → ⊥) → size_for q ps ss ≡ 0) → (if nat_eq p q then s else size_for q ps ss) ≡ 0
    go true is f =
        let at : rank q (p ∷ ps) ≡ 0 = ap (λ c. if c then 0 else suc (rank q ps)) is in
        absurd (h (omega (arith, at)) (omega (arith, at)))
    go false is f =
        let at : rank q (p ∷ ps) ≡ suc (rank q ps) = ap (λ c. if c then 0 else suc (rank q ps)) is in
        rw is (f (λ a b. h (omega (arith, a, at)) (omega (arith, b, at))))

pub none_after : (q : ℕ) (ps ss : List ℕ) → (rank q ps < length ps → rank q ps < length ss → ⊥) → size_after q ps ss ≡ 0
none_after q [] ss h = refl
none_after q (p ∷ ps) [] h = refl
none_after q (p ∷ ps) (s ∷ ss) h = go (nat_eq p q) refl (λ a. none_after q ps ss a)
  where
    go : (b : Bool) → nat_eq p q ≡ b → ((rank q ps < length ps → rank q ps < length ss → ⊥) → size_after q ps ss ≡ 0) → (if nat_eq p q then total ss else size_after q ps ss) ≡ 0
    go true is f =
        let at : rank q (p ∷ ps) ≡ 0 = ap (λ c. if c then 0 else suc (rank q ps)) is in
        absurd (h (omega (arith, at)) (omega (arith, at)))
    go false is f =
        let at : rank q (p ∷ ps) ≡ suc (rank q ps) = ap (λ c. if c then 0 else suc (rank q ps)) is in
        rw is (f (λ a b. h (omega (arith, a, at)) (omega (arith, b, at))))

pub set_blanked : (q : ℕ) (ps zs : List ℕ) → rank q ps < length ps → rank q ps < length zs → slice_set zs (rank q ps) 0 ≡ blanked q ps zs
set_blanked q [] zs h k = let no : ⊥ = omega (arith, h) in absurd no
set_blanked q (p ∷ ps) [] h k = let no : ⊥ = omega (arith, k) in absurd no
set_blanked q (p ∷ ps) (s ∷ zs) h k = go (nat_eq p q) refl (λ a b. set_blanked q ps zs a b)
  where
    go : (b : Bool) → nat_eq p q ≡ b → (rank q ps < length ps → rank q ps < length zs → slice_set zs (rank q ps) 0 ≡ blanked q ps zs) → slice_set (s ∷ zs) (if nat_eq p q then 0 else suc (rank q ps)) 0 ≡ (if nat_eq p q then 0 ∷ zs else s ∷ blanked q ps zs)
    go true is f = rw is refl
    go false is f =
        let at : rank q (p ∷ ps) ≡ suc (rank q ps) = ap (λ c. if c then 0 else suc (rank q ps)) is in
        rw is (ap (λ l. s ∷ l) (f (omega (arith, h, at)) (omega (arith, k, at))))

pub short_blanked : (q : ℕ) (ps zs : List ℕ) → rank q ps < length ps → length zs ≤ rank q ps → zs ≡ blanked q ps zs
short_blanked q [] zs h k = let no : ⊥ = omega (arith, h) in absurd no
short_blanked q (p ∷ ps) [] h k = refl
short_blanked q (p ∷ ps) (s ∷ zs) h k = go (nat_eq p q) refl (λ a b. short_blanked q ps zs a b)
  where
    go : (b : Bool) → nat_eq p q ≡ b → (rank q ps < length ps → length zs ≤ rank q ps → zs ≡ blanked q ps zs) → s ∷ zs ≡ (if nat_eq p q then 0 ∷ zs else s ∷ blanked q ps zs)
    go true is f =
        let at : rank q (p ∷ ps) ≡ 0 = ap (λ c. if c then 0 else suc (rank q ps)) is in
        let no : ⊥ = omega (arith, k, at) in absurd no
    go false is f =
        let at : rank q (p ∷ ps) ≡ suc (rank q ps) = ap (λ c. if c then 0 else suc (rank q ps)) is in
        rw is (ap (λ l. s ∷ l) (f (omega (arith, h, at)) (omega (arith, k, at))))

pub cut_blanked : (q : ℕ) (ps zs : List ℕ) → length ps ≤ rank q ps → take (length ps) zs ≡ blanked q ps zs
cut_blanked q [] zs h = refl
cut_blanked q (p ∷ ps) [] h = refl
cut_blanked q (p ∷ ps) (s ∷ zs) h = go (nat_eq p q) refl (λ a. cut_blanked q ps zs a)
  where
    go : (b : Bool) → nat_eq p q ≡ b → (length ps ≤ rank q ps → take (length ps) zs ≡ blanked q ps zs) → s ∷ take (length ps) zs ≡ (if nat_eq p q then 0 ∷ zs else s ∷ blanked q ps zs)
    go true is f =
        let at : rank q (p ∷ ps) ≡ 0 = ap (λ c. if c then 0 else suc (rank q ps)) is in
        let no : ⊥ = omega (arith, h, at) in absurd no
    go false is f =
        let at : rank q (p ∷ ps) ≡ suc (rank q ps) = ap (λ c. if c then 0 else suc (rank q ps)) is in
        rw is (ap (λ l. s ∷ l) (f (omega (arith, h, at))))

take_all : (n : ℕ) (zs : List ℕ) → length zs ≤ n → take n zs ≡ zs
take_all zero [] h = refl
take_all zero (z ∷ zs) h = let no : ⊥ = omega (arith, h) in absurd no
take_all (suc n) [] h = refl
take_all (suc n) (z ∷ zs) h = ap (λ l. z ∷ l) (take_all n zs (omega (arith, h)))

pub rest_of : (n : ℕ) (zs : List ℕ) → take (length zs - n) (drop n zs) ≡ drop n zs
rest_of n zs = take_all (length zs - n) (drop n zs) (omega (arith, length-drop n zs))

pub whole_blanked : (q : ℕ) (ps zs : List ℕ) → length ps ≤ rank q ps → length zs ≤ length ps → zs ≡ blanked q ps zs
whole_blanked q ps zs h k = sym (take_all (length ps) zs k) ∙ cut_blanked q ps zs h

-- in order
module _ (ps ss : List ℕ) (i : ℕ) (lp : i < length ps) (ls : i < length ss) where
  split : arrange_from i (drop i ps) (drop i ss) ≡ arrange_from i (get_or ps i 0 ∷ drop (suc i) ps) (get_or ss i 0 ∷ drop (suc i) ss)
  split = ap (λ l. arrange_from i l (drop i ss)) (drop-cons ps i 0 lp) ∙ ap (λ l. arrange_from i (get_or ps i 0 ∷ drop (suc i) ps) l) (drop-cons ss i 0 ls)

  pub in_its_place : get_or ps i 0 ≡ i → arrange_from i (drop i ps) (drop i ss) ≡ arrange_from (i + 1) (drop (i + 1) ps) (drop (i + 1) ss)
  in_its_place e =
      split
      ∙ ap (λ b. if b then arrange_from (suc i) (drop (suc i) ps) (drop (suc i) ss) else rolls i (length (get_or ps i 0 ∷ drop (suc i) ps)) (get_or ps i 0 ∷ drop (suc i) ps) (get_or ss i 0 ∷ drop (suc i) ss) 0) (eq-eqb (get_or ps i 0) i e)
      ∙ ap (λ n. arrange_from n (drop n ps) (drop n ss)) {x = suc i} {y = i + 1} (omega arith)

no_places : (q : ℕ) (ss : List ℕ) → arrange_from q [] ss ≡ []
no_places q ss = refl

no_sizes : (q : ℕ) (ps : List ℕ) → arrange_from q ps [] ≡ []
no_sizes q [] = refl
no_sizes q (p ∷ ps) = refl

pub places_end : (ps ss : List ℕ) (i : ℕ) → length ps ≤ i → arrange_from i (drop i ps) (drop i ss) ≡ []
places_end ps ss i h = ap (λ l. arrange_from i l (drop i ss)) (drop_all i ps h)

pub sizes_end : (ps ss : List ℕ) (i : ℕ) → length ss ≤ i → arrange_from i (drop i ps) (drop i ss) ≡ []
sizes_end ps ss i h = ap (λ l. arrange_from i (drop i ps) l) (drop_all i ss h) ∙ no_sizes i (drop i ps)

-- one place more
pub place_more : (q all step : ℕ) (ps zs : List ℕ) (moved : ℕ) → step < all
    → rolls_in_place q (all - step) ps zs moved
    ≡ lift_code (size_for q ps zs) (size_after q ps zs + moved) ++ rolls_in_place (q + 1) (all - (step + 1)) ps (blanked q ps zs) (moved + size_for q ps zs)
place_more q all step ps zs moved lt =
    let left : all - step ≡ suc (all - (step + 1)) = omega (arith, lt) in
    ap (λ m. rolls_in_place q m ps zs moved) left
    ∙ ap (λ k. lift_code (size_for q ps zs) (size_after q ps zs + moved) ++ rolls_in_place k (all - (step + 1)) ps (blanked q ps zs) (moved + size_for q ps zs)) {x = suc q} {y = q + 1} (omega arith)

pub no_place_left : (q all step : ℕ) (ps zs : List ℕ) (moved : ℕ) → all ≤ step → rolls_in_place q (all - step) ps zs moved ≡ []
no_place_left q all step ps zs moved le =
    let none : all - step ≡ 0 = omega (arith, le) in
    ap (λ m. rolls_in_place q m ps zs moved) none

pub from_the_first : (q all : ℕ) (ps zs : List ℕ) → rolls_in_place q (all - 0) ps zs 0 ≡ rolls_in_place q all ps zs 0
from_the_first q all ps zs = let same : all - 0 ≡ all = omega arith in ap (λ m. rolls_in_place q m ps zs 0) same

-- a place more: its code, and that of the rest
module _ (q all step : ℕ) (ps zs : List ℕ) (moved : ℕ) (lt : step < all) where
  pub first_fits : excess_in (rolls_in_place q (all - step) ps zs moved) ≡ 0 → excess_in (lift_code (size_for q ps zs) (size_after q ps zs + moved)) ≡ 0
  first_fits h = omega (
    arith,
    h,
    ap excess_in (place_more q all step ps zs moved lt),
    excess_both (lift_code (size_for q ps zs) (size_after q ps zs + moved)) (rolls_in_place (q + 1) (all - (step + 1)) ps (blanked q ps zs) (moved + size_for q ps zs)),
  )

  pub rest_fits : (q1 : ℕ) (zs1 : List ℕ) (moved1 : ℕ) → q1 ≡ q + 1 → zs1 ≡ blanked q ps zs → moved1 ≡ moved + size_for q ps zs
      → excess_in (rolls_in_place q (all - step) ps zs moved) ≡ 0 → excess_in (rolls_in_place q1 (all - (step + 1)) ps zs1 moved1) ≡ 0
  rest_fits q1 zs1 moved1 is_q is_zs is_moved h =
      ap (λ k. excess_in (rolls_in_place k (all - (step + 1)) ps zs1 moved1)) is_q
      ∙ ap (λ l. excess_in (rolls_in_place (q + 1) (all - (step + 1)) ps l moved1)) is_zs
      ∙ ap (λ m. excess_in (rolls_in_place (q + 1) (all - (step + 1)) ps (blanked q ps zs) m)) is_moved
      ∙ omega (
        arith,
        h,
        ap excess_in (place_more q all step ps zs moved lt),
        excess_both (lift_code (size_for q ps zs) (size_after q ps zs + moved)) (rolls_in_place (q + 1) (all - (step + 1)) ps (blanked q ps zs) (moved + size_for q ps zs)),
      )

  pub rest_code : (q1 : ℕ) (zs1 : List ℕ) (moved1 : ℕ) (old new whole : List Instruction) → q1 ≡ q + 1 → zs1 ≡ blanked q ps zs → moved1 ≡ moved + size_for q ps zs
      → new ≡ old ++ lift_code (size_for q ps zs) (size_after q ps zs + moved) → old ++ rolls_in_place q (all - step) ps zs moved ≡ whole
      → new ++ rolls_in_place q1 (all - (step + 1)) ps zs1 moved1 ≡ whole
  rest_code q1 zs1 moved1 old new whole is_q is_zs is_moved is_new h =
      ap (λ k. new ++ rolls_in_place k (all - (step + 1)) ps zs1 moved1) is_q
      ∙ ap (λ l. new ++ rolls_in_place (q + 1) (all - (step + 1)) ps l moved1) is_zs
      ∙ ap (λ m. new ++ rolls_in_place (q + 1) (all - (step + 1)) ps (blanked q ps zs) m) is_moved
      ∙ ap (λ l. l ++ rolls_in_place (q + 1) (all - (step + 1)) ps (blanked q ps zs) (moved + size_for q ps zs)) is_new
      ∙ append_assoc old (lift_code (size_for q ps zs) (size_after q ps zs + moved)) (rolls_in_place (q + 1) (all - (step + 1)) ps (blanked q ps zs) (moved + size_for q ps zs))
      ∙ ap (λ l. old ++ l) (sym (place_more q all step ps zs moved lt))
      ∙ h

pub lift_is : (words size behind after both moved : ℕ) → words ≡ size → behind ≡ after → both ≡ behind + moved → lift_code words both ≡ lift_code size (after + moved)
lift_is words size behind after both moved is_words is_behind is_both =
    ap (λ n. lift_code n both) is_words ∙ ap (λ n. lift_code size n) is_both ∙ ap (λ n. lift_code size (n + moved)) is_behind

pub nothing_more : (code : List Instruction) → code ++ [] ≡ code
nothing_more [] = refl
nothing_more (x ∷ xs) = ap (λ l. x ∷ l) (nothing_more xs)
