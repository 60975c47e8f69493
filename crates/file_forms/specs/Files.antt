-- Whole files: three letters, a version, a value in that version's form, and nothing behind it (rule of this project).
use Rattle.std.specs.Prelude.{◌≡◌, ℕ, ◌-◌, ◌≤◌, ◌<◌, Bool, true, false, ◌||◌, ◌==◌, List, [], length, take, drop, bytes_eq}
use Rattle.mesa_base.specs.declared.limits.TheConstants.{FILE_BYTES}
use Rattle.mesa_base.specs.declared.file_fault.Field.TheVariants.{Version}
use Rattle.file_forms.specs.declared.stopped.Stopped.{Stopped}
use Rattle.file_forms.specs.declared.stopped.Stopped.TheVariants as stop
use Rattle.mesa_base.specs.declared.file_fault.FileFault.{FileFault}
use Rattle.mesa_base.specs.declared.file_fault.FileFault.TheVariants.{BadMagic, TooLong, Cut, BadField, TrailingBytes, Memory}
use Rattle.file_forms.specs.Forms.{Form, Spells, number, pair, ruled}

abbrev pub is_version : ℕ → Bool
is_version v = (v == 1) || (v == 2)

-- the version, and the value in its form
abbrev pub versioned : {A : Type 0} → (ℕ → Form A) → Form (ℕ × A)
versioned f = pair (ruled (number 1) is_version Version) f

-- the bytes are a file of these letters that holds the value in this version
pub record IsFile {A : Type 0} (letters : List ℕ) (f : ℕ → Form A) (version : ℕ) (a : A) (bytes : List ℕ) : Type 0 where
  pub few : length bytes ≤ FILE_BYTES
  pub begins : take 3 bytes ≡ letters
  pub spells : Spells (versioned f) (version, a) (drop 3 bytes) []

-- the first bytes are the letters, as far as both go
abbrev pub agrees : List ℕ → List ℕ → Bool
agrees letters bytes = bytes_eq (take 3 bytes) (take (length bytes) letters)

-- the fault at the place where reading stopped, in a file of so many bytes
abbrev pub fault_of : ℕ → Stopped → FileFault
fault_of whole stop.Cut = Cut whole
fault_of whole (stop.Bad field left) = BadField (whole - left) field
fault_of whole stop.Memory = Memory

-- the bytes are no such file, and this is why, the first reason from the left
pub data FirstFault {A : Type 0} (letters : List ℕ) (f : ℕ → Form A) (bytes : List ℕ) : FileFault → Type 0 where
  too_long : FILE_BYTES < length bytes → FirstFault letters f bytes TooLong
  bad_magic : length bytes ≤ FILE_BYTES → agrees letters bytes ≡ false → FirstFault letters f bytes BadMagic
  ends : length bytes < 3 → agrees letters bytes ≡ true → FirstFault letters f bytes (Cut (length bytes))
  field : (why : Stopped) → length bytes ≤ FILE_BYTES → take 3 bytes ≡ letters
      → (versioned f).breaks (drop 3 bytes) why → FirstFault letters f bytes (fault_of (length bytes) why)
  trailing : (version : ℕ) (a : A) (rest : List ℕ) → length bytes ≤ FILE_BYTES → take 3 bytes ≡ letters
      → Spells (versioned f) (version, a) (drop 3 bytes) rest → 0 < length rest → FirstFault letters f bytes (TrailingBytes (length bytes - length rest))
