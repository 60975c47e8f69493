-- What the code finds at the head of a file.
use Rattle.std.specs.Prelude.{◌≡◌, ℕ, ◌≤◌, ◌<◌, true, false, List, length, take, drop, Result, Ok, Err}
use Rattle.mesa_base.specs.declared.limits.TheConstants.{FILE_BYTES}
use Rattle.file_forms.specs.declared.stopped.Stopped.{Stopped}
use Rattle.file_forms.specs.declared.stopped.Stopped.TheVariants as stop
use Rattle.mesa_base.specs.declared.file_fault.FileFault.{FileFault}
use Rattle.mesa_base.specs.declared.file_fault.FileFault.TheVariants.{BadMagic, TooLong, Cut, BadField, TrailingBytes, Memory}
use Rattle.file_forms.specs.declared.cursor.FileCursor.{FileCursor}
use Rattle.file_forms.specs.Files.{agrees}

-- how many bytes there are from the place of the fault on
abbrev pub left_of : Stopped → ℕ
left_of stop.Cut = 0
left_of (stop.Bad field n) = n
left_of stop.Memory = 0

abbrev pub HasLetters : List ℕ → List ℕ → Type 0
HasLetters letters bytes = (length bytes ≤ FILE_BYTES) × (take 3 bytes ≡ letters)

abbrev pub OpensFault : List ℕ → List ℕ → FileFault → Type 0
OpensFault letters bytes TooLong = FILE_BYTES < length bytes
OpensFault letters bytes BadMagic = (length bytes ≤ FILE_BYTES) × (agrees letters bytes ≡ false)
OpensFault letters bytes (Cut at) = (length bytes < 3) × (agrees letters bytes ≡ true) × (at ≡ length bytes)
OpensFault letters bytes (BadField at field) = ⊥
OpensFault letters bytes (TrailingBytes at) = ⊥
OpensFault letters bytes Memory = ⊥

abbrev pub Opens : List ℕ → List ℕ → Result FileCursor FileFault → Type 0
Opens letters bytes (Ok input) = HasLetters letters bytes × (input.rest.now ≡ drop 3 bytes)
Opens letters bytes (Err fault) = OpensFault letters bytes fault
