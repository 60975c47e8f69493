-- Words of two forms differ where the first letters of their verbs do.
use Rattle.std.proofs.Common.{◌≡◌, ℕ, Bool, true, false, nat_eq, List, [], ◌∷◌, sym, ◌∙◌, subst}

unfoldable pub first_letter : List (List ℕ) → ℕ
first_letter [] = 0
first_letter ([] ∷ words) = 0
first_letter ((letter ∷ word) ∷ words) = letter

differ : ◌≡◌ {A = Bool} true false → ⊥
differ e = cc

pub other : (wanted : ℕ) → nat_eq wanted wanted ≡ true → (letter : ℕ) → nat_eq letter wanted ≡ false → letter ≡ wanted → ⊥
other wanted its letter is same = differ (sym its ∙ subst (λ z. nat_eq z wanted ≡ false) same is)
