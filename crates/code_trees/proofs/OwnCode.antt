-- Own code by whether there are words to move, and how much the numbers in it are above what the types of the code hold.
use Rattle.std.proofs.Common.{◌≡◌, refl, sym, ℕ, zero, suc, ◌+◌, ◌<◌, List, [], ◌∷◌, ◌++◌, append_assoc, arith}
use Rattle.code_forms.specs.declared.instruction.Instruction.{Instruction}
use Rattle.code_forms.specs.declared.instruction.Instruction.TheVariants.{Lit, Sub, Pop, Roll}
use Rattle.code_rules.specs.OwnCode.{drop_code, from_code, lift_code, pop_code}
use Rattle.code_trees.specs.Excess.{excess_in}

pub popped : (n : ℕ) → 0 < n → pop_code n ≡ Pop n ∷ []
popped zero h = let no : ⊥ = omega arith in absurd no
popped (suc n) h = refl

pub lifted : (words over : ℕ) → 0 < over → lift_code words over ≡ Roll words over ∷ []
lifted words zero h = let no : ⊥ = omega arith in absurd no
lifted words (suc over) h = refl

pub dropped : (words over : ℕ) → 0 < words → drop_code words over ≡ lift_code words over ++ Pop words ∷ []
dropped zero over h = let no : ⊥ = omega arith in absurd no
dropped (suc n) over h = refl

pub from_first : (first : ℕ) → 0 < first → from_code first ≡ Lit first ∷ Sub ∷ []
from_first zero h = let no : ⊥ = omega arith in absurd no
from_first (suc n) h = refl

pub excess_both : (a b : List Instruction) → excess_in (a ++ b) ≡ excess_in a + excess_in b
unfolding excess_in
excess_both [] b = omega arith
excess_both (x ∷ xs) b = omega (arith, excess_both xs b)

-- what is put in three steps
pub in_three : {A : Type 0} (old one two end a b c : List A) → one ≡ old ++ a → two ≡ one ++ b → end ≡ two ++ c → end ≡ old ++ (a ++ (b ++ c))
in_three old one two end a b c is_one is_two is_end = rw (is_end, is_two, is_one) (simp append_assoc)

pub in_two : {A : Type 0} (old one end a b : List A) → one ≡ old ++ a → end ≡ one ++ b → end ≡ old ++ (a ++ b)
in_two old one end a b is_one is_end = rw (is_end, is_one) (append_assoc old a b)

-- one element more is put
pub one_put : {A : Type 0} (whole now all rest new : List A) (x : A) → whole ≡ now ++ all → all ≡ x ∷ rest → new ≡ now ++ x ∷ [] → whole ≡ new ++ rest
one_put whole now all rest new x is split put = rw (is, split, put) (sym (append_assoc now (x ∷ []) rest))
