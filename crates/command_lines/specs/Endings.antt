-- The case that an ending of the code is.
use Rattle.std.specs.Prelude.{ℕ, List}
use Rattle.line_pieces.specs.Texts.{dotted}
use Rattle.command_passes.specs.command_rules.specs.Case as c
use Rattle.command_lines.specs.declared.ending.UncaughtSignal.{UncaughtSignal}
use Rattle.command_lines.specs.declared.ending.UncaughtSignal.TheVariants.{Own, Predeclared}
use Rattle.command_lines.specs.declared.ending.Ending.{Ending}
use Rattle.command_lines.specs.declared.ending.Ending.TheVariants.{Done, Uncaught, Spent, FrameLimit, ReadFault, WriteFault}

-- what the line calls the signal: the path and the name are those of a program or of an image
abbrev pub called : UncaughtSignal → List ℕ
called (Own path name) = dotted path.now name.now
called (Predeclared name) = name.now

abbrev pub ending_case : Ending → c.Case
ending_case Done = c.Done
ending_case (Uncaught signal) = c.Uncaught (called signal)
ending_case Spent = c.Spent
ending_case FrameLimit = c.FrameLimit
ending_case ReadFault = c.ReadFault
ending_case WriteFault = c.WriteFault
