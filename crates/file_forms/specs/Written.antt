-- What was written of a file, which has at most 536,870,912 bytes (rule of this project).
use Rattle.std.specs.Prelude.{ℕ, ◌-◌, nat_le, if◌then◌else◌, List, ◌++◌, length, Option, Some, None, Result, Ok, Err}
use Rattle.mesa_base.specs.declared.limits.TheConstants.{FILE_BYTES}
use Rattle.mesa_base.specs.declared.file_fault.WriteFault.{WriteFault}
use Rattle.mesa_base.specs.declared.file_fault.WriteFault.TheVariants.{TooLarge}

-- the bytes so far; None once they are too many
abbrev pub Written : Type 0
Written = Option (List ℕ)

-- how many bytes more there may be
abbrev pub room : Written → ℕ
room None = 0
room (Some bytes) = FILE_BYTES - length bytes

-- more bytes, where there is room for them
unfoldable pub appended : Written → List ℕ → Written
appended None text = None
appended (Some bytes) text = if nat_le (length text) (FILE_BYTES - length bytes) then Some (bytes ++ text) else None

abbrev pub file_of : Written → Result (List ℕ) WriteFault
file_of None = Err TooLarge
file_of (Some bytes) = Ok bytes
