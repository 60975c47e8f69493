-- Keyed values that stay in their list: what was brought to the top has no words there any more.
use Rattle.std.specs.Prelude.{ℕ, zero, suc, ◌+◌, List, [], ◌∷◌, ◌++◌, nat_eq, if◌then◌else◌}
use Rattle.code_forms.specs.declared.instruction.Instruction.{Instruction}
use Rattle.code_rules.specs.OwnCode.{lift_code, size_after, size_for}

abbrev pub blanked : ℕ → (places sizes : List ℕ) → List ℕ
blanked q (p ∷ ps) (s ∷ sizes) = if nat_eq p q then 0 ∷ sizes else s ∷ blanked q ps sizes
blanked q _ _ = []

abbrev pub rolls_in_place : (q count : ℕ) → (places sizes : List ℕ) → (moved : ℕ) → List Instruction
rolls_in_place q zero places sizes moved = []
rolls_in_place q (suc count) places sizes moved =
    lift_code (size_for q places sizes) (size_after q places sizes + moved)
    ++ rolls_in_place (suc q) count places (blanked q places sizes) (moved + size_for q places sizes)
