-- The bytes at the front that pass a test.
use Rattle.std.proofs.Common.{◌≡◌, ℕ, zero, suc, ◌+◌, ◌<◌, ◌≤◌, Bool, true, false, ◌&&◌, cond, List, [], ◌∷◌, ◌++◌, length, take, drop, one-add, arith, refl, ap}
use Rattle.std.specs.List.{list_all, prefix_len}
use Rattle.std.proofs.lemmas.Bool.{and_parts}

-- where more bytes are taken than pass, not all pass
pub past_prefix : (p : ℕ → Bool) (xs : List ℕ) (m : ℕ) → prefix_len p xs < m → m ≤ length xs → list_all p (take m xs) ≡ false
past_prefix p [] m over there = absurd (omega arith)
past_prefix p (x ∷ xs) zero over there = absurd (omega arith)
past_prefix p (x ∷ xs) (suc m) over there = go (p x) refl (past_prefix p xs m)
  where
    go : (b : Bool) → p x ≡ b → (prefix_len p xs < m → m ≤ length xs → list_all p (take m xs) ≡ false) → (p x && list_all p (take m xs)) ≡ false
    go true e more = let over' = rw e at over in rw e (more (omega arith) (omega arith))
    go false e more = rw e refl

-- those at the front pass
pub prefix_all : (p : ℕ → Bool) (xs : List ℕ) → list_all p (take (prefix_len p xs) xs) ≡ true
prefix_all p [] = refl
prefix_all p (x ∷ xs) = go (p x) refl (prefix_all p xs)
  where
    go : (b : Bool) → p x ≡ b → list_all p (take (prefix_len p xs) xs) ≡ true → list_all p (take (cond (p x) (1 + prefix_len p xs) 0) (x ∷ xs)) ≡ true
    go true e more = rw e (rw one-add (rw e more))
    go false e more = rw e refl

-- behind bytes that pass the count goes on
pub prefix_of_append : (p : ℕ → Bool) (xs ys : List ℕ) → list_all p xs ≡ true → prefix_len p ys ≡ 0 → prefix_len p (xs ++ ys) ≡ length xs
prefix_of_append p [] ys all none = none
prefix_of_append p (x ∷ xs) ys all none =
    let parts = and_parts (p x) (list_all p xs) all in
    rw (parts.0) (let more = prefix_of_append p xs ys parts.1 none in omega arith)

-- of more bytes than pass, as many pass
pub prefix_of_take : (p : ℕ → Bool) (xs : List ℕ) (m : ℕ) → prefix_len p xs ≤ m → prefix_len p (take m xs) ≡ prefix_len p xs
prefix_of_take p [] zero over = refl
prefix_of_take p [] (suc m) over = refl
prefix_of_take p (x ∷ xs) zero over = omega arith
prefix_of_take p (x ∷ xs) (suc m) over = go (p x) refl (prefix_of_take p xs m)
  where
    go : (b : Bool) → p x ≡ b → (prefix_len p xs ≤ m → prefix_len p (take m xs) ≡ prefix_len p xs) → cond (p x) (1 + prefix_len p (take m xs)) 0 ≡ cond (p x) (1 + prefix_len p xs) 0
    go true e more = let over' = rw e at over in rw e (ap (λ n. 1 + n) (more (omega arith)))
    go false e more = rw e refl

-- behind those that pass, none passes at once
pub none_after : (p : ℕ → Bool) (xs : List ℕ) → prefix_len p (drop (prefix_len p xs) xs) ≡ 0
none_after p [] = refl
none_after p (x ∷ xs) = go (p x) refl (none_after p xs)
  where
    go : (b : Bool) → p x ≡ b → prefix_len p (drop (prefix_len p xs) xs) ≡ 0 → prefix_len p (drop (cond (p x) (1 + prefix_len p xs) 0) (x ∷ xs)) ≡ 0
    go true e more = rw e (rw one-add more)
    go false e more = rw e (rw e refl)
