-- Names in files (rule of this project).
use Rattle.std.specs.Prelude.{ℕ, Bool, true, false, not, List, [], ◌∷◌, ◌||◌, length, bytes_eq}
use Rattle.mesa_base.specs.Name.{is_name}
use Rattle.mesa_base.specs.declared.file_fault.Field.TheVariants as field
use Rattle.file_forms.specs.Forms.{Form, number, raw, led, ruled}

-- a byte with the length, and so many bytes
unfoldable pub short_text : Form (List ℕ)
short_text = led length (number 1) raw

abbrev pub is_some_text : List ℕ → Bool
is_some_text [] = false
is_some_text (b ∷ bytes) = true

-- a length from 1 to 255 and so many letters and digits, with a letter first
unfoldable pub name : Form (List ℕ)
name = ruled (ruled short_text is_some_text field.Length) is_name field.Name

abbrev pub is_among : List (List ℕ) → List ℕ → Bool
is_among [] x = false
is_among (y ∷ ys) x = bytes_eq x y || is_among ys x

-- a name that is none of those
unfoldable pub fresh_name : List (List ℕ) → Form (List ℕ)
fresh_name seen = ruled name (λ x. not (is_among seen x)) field.Twice
