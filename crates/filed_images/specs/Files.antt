-- How many bytes a file may have (rule of this project).
use Rattle.std.specs.Prelude.{ℕ, ◌<◌, ◌≤◌, List, length}
use Rattle.mesa_base.specs.declared.limits.TheConstants.{FILE_BYTES}

-- a file may have so many bytes
abbrev pub FitsFile : List ℕ → Type 0
FitsFile file = length file ≤ FILE_BYTES

abbrev pub IsTooLarge : List ℕ → Type 0
IsTooLarge file = FILE_BYTES < length file
