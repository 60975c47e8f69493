-- Which instances were started (rule of this project).
use Rattle.std.specs.Prelude.{◌≡◌, ℕ, List, Bool, Some, slice_get}

-- the marks tell it of each instance
abbrev pub ShowsStarted : List Bool → (ℕ → Bool) → Type 0
ShowsStarted marks started = (j : ℕ) (b : Bool) → slice_get marks j ≡ Some b → started j ≡ b
