-- The case that a stop of the code is.
use Rattle.std.specs.Prelude.{ℕ, List}
use Rattle.mesa_base.specs.declared.outside_errors.FolderError.{FolderError}
use Rattle.mesa_base.specs.declared.outside_errors.FolderError.TheVariants as folder
use Rattle.object_rules.specs.declared.object_fault.ObjectFault.{ObjectFault}
use Rattle.object_rules.specs.declared.object_fault.ObjectFault.TheVariants as files
use Rattle.command_rules.specs.checked_texts.specs.declared.text_fault.TextFault.TheVariants as texts
use Rattle.command_rules.specs.checked_texts.specs.declared.text_fault.TextFault.{TextFault}
use Rattle.command_rules.specs.Case.{Case, Refused, Absent, FolderFault, Memory}
use Rattle.command_rules.specs.declared.trouble.Trouble.TheVariants.{Text, File}
use Rattle.command_passes.specs.declared.stop.Stop.{Stop}
use Rattle.command_passes.specs.declared.stop.Stop.TheVariants as stop

abbrev pub stop_case : Stop → Case
stop_case (stop.Refused file why) = Refused file why
stop_case (stop.Absent file) = Absent file
stop_case (stop.FolderFault file) = FolderFault file
stop_case stop.Memory = Memory

-- of a read that gave nothing
abbrev pub unread_case : List ℕ → FolderError → Case
unread_case file folder.Absent = Absent file
unread_case file folder.Failed = FolderFault file
unread_case file folder.Memory = Memory

-- of a text with this fault
abbrev pub text_case : List ℕ → TextFault → Case
text_case file (texts.Lexical why) = Refused file (Text (texts.Lexical why))
text_case file (texts.Syntactic why) = Refused file (Text (texts.Syntactic why))
text_case file (texts.Wrong why place) = Refused file (Text (texts.Wrong why place))
text_case file texts.Memory = Memory

-- of bytes that are no file of their kind, or hold code that is not valid
abbrev pub file_case : List ℕ → ObjectFault → Case
file_case file files.BadMagic = Refused file (File files.BadMagic)
file_case file files.TooLong = Refused file (File files.TooLong)
file_case file (files.Cut at) = Refused file (File (files.Cut at))
file_case file (files.BadField at field) = Refused file (File (files.BadField at field))
file_case file (files.TrailingBytes at) = Refused file (File (files.TrailingBytes at))
file_case file (files.Code number procedure why) = Refused file (File (files.Code number procedure why))
file_case file files.Memory = Memory
