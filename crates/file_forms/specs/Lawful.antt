-- The five laws of a form. Each way of making forms has them once (`proofs/`), so each row of a format has them too: what is read is
-- spelled so, what is spelled so is read, and reading stops at the first field that breaks its rule (rule of this project).
use Rattle.std.specs.Prelude.{◌≡◌, ℕ, ◌≤◌, List, ◌++◌, length, Ok, Err}
use Rattle.file_forms.specs.declared.stopped.Stopped.{Stopped}
use Rattle.file_forms.specs.Forms.{Form, Spells, AreBytes}
use Rattle.file_forms.specs.Opening.{left_of}

pub record Lawful {A : Type 0} (f : Form A) : Type 0 where
  -- what is spelled is read again, whatever follows
  pub again : (a : A) (rest : List ℕ) → f.fits a → f.read (f.spell a ++ rest) ≡ Ok (a, rest)
  -- what is read is spelled so
  pub found : (bytes : List ℕ) (a : A) (rest : List ℕ) → AreBytes bytes → f.read bytes ≡ Ok (a, rest) → Spells f a bytes rest
  -- where reading stops, a field breaks its rule, the first
  pub stops : (bytes : List ℕ) (why : Stopped) → AreBytes bytes → f.read bytes ≡ Err why → f.breaks bytes why
  -- where a field breaks its rule, the first, reading stops
  pub broken : (bytes : List ℕ) (why : Stopped) → f.breaks bytes why → f.read bytes ≡ Err why
  -- the fault lies within the bytes
  pub within : (bytes : List ℕ) (why : Stopped) → f.breaks bytes why → left_of why ≤ length bytes
