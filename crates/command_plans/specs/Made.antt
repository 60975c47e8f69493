-- What the calls tell of one text, and of the file that was made of it before.
use Rattle.std.specs.Prelude.{◌≡◌, ◌≢◌, ℕ, List, Option, None, Some, Result, Ok, Err}
use Rattle.std.specs.Str.{IsAscii}
use Rattle.mesa_base.specs.Outside.{Rose}
use Rattle.include_rules.specs.Stale.{Faced, faced}
use Rattle.include_rules.specs.declared.entries.TextEntry.{TextEntry}
use Rattle.command_passes.specs.command_rules.specs.Case.{Absent}
use Rattle.command_passes.specs.Stops.{stop_case}
use Rattle.command_passes.specs.declared.stop.Stop.{Stop}
use Rattle.command_plans.specs.declared.made.MadeFile.{MadeFile}
use Rattle.command_plans.specs.declared.made.MadeFile.TheVariants.{There, Missing}

-- its file is named by plain bytes
abbrev pub IsPlainText : TextEntry → Type 0
IsPlainText t = IsAscii t.base

-- what is looked at of the file, if it is there
abbrev pub faced_of : MadeFile → Option Faced
faced_of (There f) = Some (faced f)
faced_of (Missing name) = None

-- where it is not there it has this name, and the count of reads that found none says so
abbrev pub TellsMissing : (file : List ℕ) → (old new : List ℕ → ℕ) → MadeFile → Type 0
TellsMissing file old new (There f) = Unit {0}
TellsMissing file old new (Missing name) = (name ≡ file) × Rose (old file) (new file)

-- what ended a call that read a file says that there is none, or it ends this call too
abbrev pub TellsAbsent : Stop → Result MadeFile Stop → Type 0
TellsAbsent why (Ok (There f)) = ⊥
TellsAbsent why (Ok (Missing name)) = stop_case why ≡ Absent name
TellsAbsent why (Err end) = (stop_case end ≡ stop_case why) × ((other : List ℕ) → stop_case why ≢ Absent other)
