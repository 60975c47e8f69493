-- The spelling of parts, one behind the other.
use Rattle.std.specs.Prelude.{ℕ, List, [], ◌∷◌, ◌++◌, length}
use Rattle.file_forms.specs.Forms.{number}

unfoldable pub spell_all : {A : Type 0} → (A → List ℕ) → List A → List ℕ
spell_all s [] = []
spell_all s (a ∷ all) = s a ++ spell_all s all

abbrev pub u8_bytes : ℕ → List ℕ
u8_bytes n = (number 1).spell n

abbrev pub u16_bytes : ℕ → List ℕ
u16_bytes n = (number 2).spell n

abbrev pub u32_bytes : ℕ → List ℕ
u32_bytes n = (number 4).spell n

-- a count, and so many
abbrev pub spell_list : {A : Type 0} → (A → List ℕ) → List A → List ℕ
spell_list s all = u32_bytes (length all) ++ spell_all s all
