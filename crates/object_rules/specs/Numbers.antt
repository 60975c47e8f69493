-- Numbers and lengths in files, each with its rule.
use Rattle.std.specs.Prelude.{ℕ, ◌-◌, Bool, true, List, length, nat_lt, Option, Some, None, slice_get}
use Rattle.mesa_base.specs.declared.file_fault.Field.TheVariants as field
use Rattle.file_forms.specs.Forms.{Form, number, ruled}

abbrev pub u16 : Form ℕ
u16 = number 2

abbrev pub u32 : Form ℕ
u32 = number 4

abbrev pub number_where : (size : ℕ) → (ℕ → Bool) → Form ℕ
number_where size test = ruled (number size) test field.Number

abbrev pub length_where : (size : ℕ) → (ℕ → Bool) → Form ℕ
length_where size test = ruled (number size) test field.Length

abbrev pub is_below : (limit : ℕ) → ℕ → Bool
is_below limit n = nat_lt n limit

abbrev pub last_of : {A : Type 0} → List A → Option A
last_of xs = slice_get xs (length xs - 1)

-- above the last one before, if there is one
abbrev pub rises_from : Option ℕ → ℕ → Bool
rises_from None n = true
rises_from (Some m) n = nat_lt m n
