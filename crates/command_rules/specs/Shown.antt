-- What a line calls a signal that nothing caught, and which case the end of a program is (rule of this project).
use Rattle.std.specs.Prelude.{◌≡◌, ℕ, List, [], Option, Some, None, slice_get, codes, Result, Ok, Err}
use Rattle.mesa_types.specs.declared.faces.Item.{Item}
use Rattle.source_meaning.specs.Program.{Program, Signal, SignalOf, BoundsFault, ZeroDivisor, NoInput, Unnamed, instance_of, module_of}
use Rattle.code_forms.specs.declared.module_code.CodeSignal.{CodeSignal}
use Rattle.object_files.specs.declared.image.Image.{Image}
use Rattle.object_files.specs.declared.image.Instance.{Instance}
use Rattle.source_meaning.specs.State as s
use Rattle.source_meaning.specs.State.{Answer}
use Rattle.signaller.specs.declared.signal_id.SignalId.{SignalId}
use Rattle.signaller.specs.declared.signal_id.SignalId.TheVariants as id
use Rattle.linked_programs.specs.frame_machine.specs.declared.outcome.Outcome.{Outcome}
use Rattle.linked_programs.specs.frame_machine.specs.declared.outcome.RunFault.{RunFault}
use Rattle.linked_programs.specs.frame_machine.specs.declared.outcome.RunFault.TheVariants as fault
use Rattle.machine_rules.specs.LookUps as machine_signal
use Rattle.machine_rules.specs.declared.end.End as machine
use Rattle.machine_rules.specs.declared.end.End.TheVariants as end
use Rattle.line_pieces.specs.Texts.{dotted}
use Rattle.command_rules.specs.Case.{Case, Done, Uncaught, Spent, FrameLimit, ReadFault, WriteFault}

-- what signal k of instance j is called: by the instance's path and its own name
abbrev pub Names : Type 0
Names = (j k : ℕ) → List ℕ

abbrev pub item_name : Option Item → List ℕ
item_name None = []
item_name (Some item) = item.name

-- in a program
abbrev pub program_names : Program → Names
program_names P j k = dotted (instance_of P j).path (item_name (slice_get (module_of P j).signals k))

abbrev pub path_of : Option Instance → List (List ℕ)
path_of None = []
path_of (Some instance) = instance.path

abbrev pub signal_name : Option CodeSignal → List ℕ
signal_name None = []
signal_name (Some signal) = signal.name

-- in an image
abbrev pub image_names : Image → Names
image_names image j k = dotted (path_of (slice_get image.instances j)) (signal_name (machine_signal.signal_of image j k))

abbrev pub shown : Names → Signal → List ℕ
shown names (SignalOf j k) = names j k
shown names BoundsFault = codes "BoundsFault"
shown names ZeroDivisor = codes "ZeroDivisor"
shown names NoInput = codes "IODefs.NoInput"
shown names Unnamed = codes "ERROR"

-- the case of a program's end
abbrev pub IsShownAs : Program → Answer → Case → Type 0
IsShownAs P s.Normal case = case ≡ Done
IsShownAs P (s.Uncaught signal) case = case ≡ Uncaught (shown (program_names P) signal)
IsShownAs P s.Spent case = case ≡ Spent
IsShownAs P s.FrameLimit case = case ≡ FrameLimit
IsShownAs P s.Broken case = ⊥
IsShownAs P (s.Gives _) case = ⊥
IsShownAs P (s.Go frame point) case = ⊥
IsShownAs P (s.Resumed _) case = ⊥
IsShownAs P s.Rejected case = ⊥
IsShownAs P (s.Retried statement) case = ⊥
IsShownAs P (s.Continued statement) case = ⊥

-- a signal of the machine as one of the meaning
abbrev pub signal_of : SignalId → Signal
signal_of (id.Own j k) = SignalOf j k
signal_of id.BoundsFault = BoundsFault
signal_of id.ZeroDivisor = ZeroDivisor
signal_of id.NoInput = NoInput
signal_of id.Unnamed = Unnamed

-- the case of the machine's end
abbrev pub case_of_end : Names → machine.End → Case
case_of_end names end.Done = Done
case_of_end names (end.Uncaught signal) = Uncaught (shown names (signal_of signal))
case_of_end names end.Spent = Spent
case_of_end names end.FrameLimit = FrameLimit

-- and that of its run, in which the input or the output may fail
abbrev pub case_of_run : Names → Result Outcome RunFault → Case
case_of_run names (Ok outcome) = case_of_end names outcome.end
case_of_run names (Err fault.ReadFault) = ReadFault
case_of_run names (Err fault.WriteFault) = WriteFault
