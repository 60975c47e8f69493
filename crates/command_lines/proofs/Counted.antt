-- A list of two, and one of three.
use Rattle.std.proofs.Common.{◌≡◌, List, [], ◌∷◌, length, Some, slice_get, arith}

pub two : {A : Type 0} (xs : List A) (a b : A) → length xs ≡ 2 → slice_get xs 0 ≡ Some a → slice_get xs 1 ≡ Some b → xs ≡ a ∷ b ∷ []
two [] a b l p q = cc
two (x ∷ []) a b l p q = cc
two (x ∷ y ∷ []) a b l p q = cc
two (x ∷ y ∷ z ∷ zs) a b l p q = absurd (omega arith)

pub three : {A : Type 0} (xs : List A) (a b c : A) → length xs ≡ 3 → slice_get xs 0 ≡ Some a → slice_get xs 1 ≡ Some b →
    slice_get xs 2 ≡ Some c → xs ≡ a ∷ b ∷ c ∷ []
three [] a b c l p q r = cc
three (x ∷ []) a b c l p q r = cc
three (x ∷ y ∷ []) a b c l p q r = cc
three (x ∷ y ∷ z ∷ []) a b c l p q r = cc
three (x ∷ y ∷ z ∷ w ∷ ws) a b c l p q r = absurd (omega arith)
