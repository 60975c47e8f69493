-- What comes of a form that reads files and prints what they come to (rule of this project).
use Rattle.std.specs.Prelude.{◌≡◌, ℕ, List, [], All}
use Rattle.mesa_base.specs.Outside.{Shelf, Rose}
use Rattle.line_pieces.specs.Outputs.{HasFaulted, PrintsAll, PrintsPrefix}
use Rattle.command_rules.specs.Case.{Case, Done, WriteFault, Memory}
use Rattle.command_rules.specs.Passes.{Pass}
use Rattle.command_rules.specs.Passing.{Fails, Gives}
use Rattle.command_rules.specs.Reading.{Onward}
use Rattle.command_rules.specs.Worlds.{Scene}

-- what is printed, and the files that it says are missing
pub record Report : Type 0 where
  pub text : List ℕ
  pub missing : List (List ℕ)

-- a text alone: no file is missing
abbrev pub text_alone : List ℕ → Report
text_alone text = record { text = text; missing = [] }

-- of each of these files a count says that it was not there
abbrev pub AreMissed : (files : List (List ℕ)) → Shelf → Shelf → Type 0
AreMissed files folder folder' = All (λ file. Rose (folder.misses file) (folder'.misses file)) files

-- the files that a pass asks for come to a report, and its text is printed
pub data Prints (p : Pass Case Report) (folder folder' : Shelf) (old new : Scene) : Case → Type 0 where
  not_read : (case : Case) → Fails p folder folder' case → Onward folder folder' → new ≡ old → Prints p folder folder' old new case
  no_memory : (r : Report) → Gives p folder folder' r → new ≡ old → Prints p folder folder' old new Memory
  printed : (r : Report) → Gives p folder folder' r → AreMissed r.missing folder folder' → PrintsAll r.text old.out new.out
      → new.input ≡ old.input → new.steps ≡ old.steps → Prints p folder folder' old new Done
  not_printed : (r : Report) → Gives p folder folder' r → HasFaulted old.out new.out → PrintsPrefix r.text old.out new.out
      → new.input ≡ old.input → new.steps ≡ old.steps → Prints p folder folder' old new WriteFault
