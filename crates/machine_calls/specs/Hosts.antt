-- The procedures of the host, and what a call of one finds (rule of this project).
use Rattle.std.specs.Prelude.{◌≡◌, ℕ, ◌+◌, ◌-◌, ◌≤◌, List, length, Some, slice_get}
use Rattle.code_forms.specs.declared.instruction.Instruction.TheVariants.{CallLink}
use Rattle.code_forms.specs.declared.module_code.CodeEntry.{CodeEntry}
use Rattle.code_forms.specs.declared.module_code.CodeProcedure.{CodeProcedure}
use Rattle.object_files.specs.declared.image.Image.{Image}
use Rattle.machine_rules.specs.State.{Active, Activations}
use Rattle.machine_rules.specs.LookUps.{Host, WriteChar, WriteString, WriteDecimal, ReadChar, EndOfInput}
use Rattle.machine_topmost.specs.declared.registers.Registers.{Registers}
use Rattle.machine_activations.specs.declared.row.Layout.{Layout}
use Rattle.machine_activations.specs.declared.row.Row.{Row}
use Rattle.machine_activations.specs.Below.{GoesOn}
use Rattle.machine_activations.specs.Links.{host_takes, host_gives}
use Rattle.machine_activations.specs.Shows.{Shows}
use Rattle.machine_calls.specs.declared.host.HostProcedure.{HostProcedure}
use Rattle.machine_calls.specs.declared.host.HostProcedure.TheVariants.{Write, Read}
use Rattle.machine_calls.specs.declared.host.Writing.TheVariants.{Char, Text, Decimal}
use Rattle.machine_calls.specs.declared.host.Reading.TheVariants.{Next, AtEnd}

abbrev pub host_is : HostProcedure → Host
host_is (Write Char) = WriteChar
host_is (Write Text) = WriteString
host_is (Write Decimal) = WriteDecimal
host_is (Read Next) = ReadChar
host_is (Read AtEnd) = EndOfInput

-- the topmost activation calls a procedure of the host: its words are there, and behind the call comes an entry with what it gives
pub record CallsHost (image : Image) (layout : Layout) (region : List ℕ) (table : List Row) (r : Registers) (h : Host) : Type 0 where
  pub top : Active
  pub rest : Activations
  pub procedure : CodeProcedure
  pub shows : Shows image layout region table r procedure top rest
  pub entry : CodeEntry
  pub fetched : slice_get procedure.code r.entry ≡ Some entry
  pub link : ℕ
  pub calls : entry.instruction ≡ CallLink link
  pub enough : host_takes h ≤ length top.operands
  pub next : GoesOn procedure r.entry (length top.operands - host_takes h + host_gives h)
