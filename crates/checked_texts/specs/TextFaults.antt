-- The first fault of a text: what it is made of, its name and its place (rule of this project).
use Rattle.std.specs.Prelude.{ℕ, List, Option, Some, None, codes}
use Rattle.mesa_base.specs.declared.place.Place.{Place}
use Rattle.mesa_lexer.specs.Faults.{lexical_name, lexical_place, syntax_name, syntax_place}
use Rattle.mesa_lexer.specs.declared.fault.LexFault.{LexFault}
use Rattle.mesa_lexer.specs.declared.fault.LexFault.TheVariants as lex
use Rattle.mesa_lexer.specs.declared.fault.SyntaxFault.{SyntaxFault}
use Rattle.mesa_lexer.specs.declared.fault.SyntaxFault.TheVariants as syntax
use Rattle.check_rules.specs.declared.fault.Cause.{Cause}
use Rattle.check_rules.specs.declared.fault.Cause.TheVariants as cause
use Rattle.check_rules.specs.declared.fault.CheckFault.{CheckFault}
use Rattle.check_rules.specs.declared.fault.CheckFault.TheVariants as check
pub use Rattle.checked_texts.specs.declared.text_fault.TextFault.{TextFault}
pub use Rattle.checked_texts.specs.declared.text_fault.TextFault.TheVariants.{Lexical, Syntactic, Wrong, Memory}

abbrev pub cause_name : Cause → List ℕ
cause_name cause.UnknownName = codes "UnknownName"
cause_name cause.TwiceDeclared = codes "TwiceDeclared"
cause_name cause.TypeMismatch = codes "TypeMismatch"
cause_name cause.NotConstant = codes "NotConstant"
cause_name cause.BadLabel = codes "BadLabel"
cause_name cause.WrongCount = codes "WrongCount"
cause_name cause.NotResumable = codes "NotResumable"
cause_name cause.UnwindJumps = codes "UnwindJumps"
cause_name cause.ExportDiffers = codes "ExportDiffers"
cause_name cause.FrameTooLarge = codes "FrameTooLarge"
cause_name cause.GlobalsTooLarge = codes "GlobalsTooLarge"
cause_name cause.TypeTooLarge = codes "TypeTooLarge"
cause_name cause.StampMissing = codes "StampMissing"
cause_name cause.StampUnwanted = codes "StampUnwanted"

abbrev pub fault_name : TextFault → List ℕ
fault_name (Lexical fault) = lexical_name fault
fault_name (Syntactic fault) = syntax_name fault
fault_name (Wrong why place) = cause_name why
fault_name Memory = codes "Memory"

abbrev pub fault_place : TextFault → Option Place
fault_place (Lexical fault) = lexical_place fault
fault_place (Syntactic fault) = syntax_place fault
fault_place (Wrong why place) = Some place
fault_place Memory = None

-- the fault of each pass as a fault of the text; want of memory is one for all
abbrev pub of_lexical : LexFault → TextFault
of_lexical lex.Memory = Memory
of_lexical (lex.BadByte place) = Lexical (lex.BadByte place)
of_lexical (lex.OpenString place) = Lexical (lex.OpenString place)
of_lexical (lex.NumberTooLarge place) = Lexical (lex.NumberTooLarge place)
of_lexical (lex.TokenTooLong place) = Lexical (lex.TokenTooLong place)
of_lexical lex.TextTooLong = Lexical lex.TextTooLong

abbrev pub of_syntactic : SyntaxFault → TextFault
of_syntactic syntax.Memory = Memory
of_syntactic (syntax.Unexpected place) = Syntactic (syntax.Unexpected place)
of_syntactic (syntax.TooDeep place) = Syntactic (syntax.TooDeep place)

abbrev pub of_checking : CheckFault → TextFault
of_checking check.Memory = Memory
of_checking (check.At why place) = Wrong why place
