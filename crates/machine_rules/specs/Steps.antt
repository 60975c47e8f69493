-- The steps of the machine. Working has the instructions that work on one activation alone; here is one row for each of the others (rule
-- of this project).
use Rattle.std.specs.Prelude.{◌≡◌, ℕ, zero, suc, ◌+◌, ◌-◌, List, [], ◌∷◌, length, Bool, false, Option, Some, None, unwrap_or, nat_eq, if◌then◌else◌}
use Rattle.object_files.specs.mesa_types.specs.Operators.{WordFault, OutOfBounds, DividedByZero}
use Rattle.code_forms.specs.declared.instruction.Instruction.{Instruction}
use Rattle.code_forms.specs.declared.instruction.Instruction.TheVariants.{Jump, JumpIf, JumpIfNot, JumpBack, Call, CallLink, Return, Raise, RaiseLink, RaiseHost, ArmEnd, Resume, Leave, LeaveReturn}
use Rattle.code_forms.specs.declared.module_code.ModuleCode.{ModuleCode}
use Rattle.code_forms.specs.Instructions.{bytes_of}
use Rattle.object_files.specs.declared.image.Image.{Image}
use Rattle.signaller.specs.declared.signal_id.SignalId.{SignalId}
use Rattle.signaller.specs.declared.signal_id.SignalId.TheVariants.{Own, BoundsFault, ZeroDivisor, Unnamed}
use Rattle.machine_rules.specs.Words.{zeros, popped, under, on_top}
use Rattle.machine_rules.specs.Working.{Work, Worked, Works, Faults, Touches, works}
use Rattle.machine_rules.specs.State.{Active, Activations, Store, State, Runs, Seeks, Leaves, Ending, Stuck, Stepped, Goes, Stops}
use Rattle.machine_rules.specs.LookUps.{module_number, code_of, called, signal_of, link_of, bound_to, signal_bound, text_of, instruction_under}
use Rattle.machine_rules.specs.Activations.{own_frame, variables, set_variables}
use Rattle.machine_rules.specs.Moves.{with, spend, onward, go_to}
use Rattle.machine_rules.specs.Signals.{raise, seek, reject, resume}
use Rattle.machine_rules.specs.Calls.{set_of, call, call_bound, return_from, start_next}
use Rattle.machine_rules.specs.Leaving.{leave, leave_step}

-- a raise takes its arguments off the operands
unfoldable pub raise_with : Image → SignalId → (args : ℕ) → Active → Activations → Store → Stepped
raise_with image signal n a S m = raise image signal (popped n a.operands) (record a { operands = under n a.operands }) S m

unfoldable pub host_signal : ℕ → Option SignalId
host_signal zero = Some BoundsFault
host_signal (suc zero) = Some ZeroDivisor
host_signal (suc (suc zero)) = Some Unnamed
host_signal (suc (suc (suc n))) = None

-- the instruction at which the topmost activation stands
unfoldable pub perform : Image → Instruction → Active → Activations → Store → Stepped
perform image (Jump target) a S m = go_to target a.operands a S m
perform image (JumpIf target) a S m =
    on_top a.operands λ x rest. if nat_eq x 0 then onward (JumpIf target) rest a S m else go_to target rest a S m
perform image (JumpIfNot target) a S m =
    on_top a.operands λ x rest. if nat_eq x 0 then go_to target rest a S m else onward (JumpIfNot target) rest a S m
perform image (JumpBack target) a S m = spend m λ m1. go_to target a.operands a S m1
perform image (Call number) a S m = with (called image a.instance number) m λ p. spend m λ m1. call a.instance number p a S m1
perform image (CallLink k) a S m = with (bound_to image a.instance k) m λ l. spend m λ m1. call_bound image l a S m1
perform image Return a S m = return_from image a S m
perform image (Raise k) a S m = with (signal_of image a.instance k) m λ s. raise_with image (Own a.instance k) s.args a S m
perform image (RaiseLink k) a S m =
    with (link_of image a.instance k) m λ l.
    with (bound_to image a.instance k) m λ b.
    with (signal_bound l.kind b) m λ signal. raise_with image signal l.args a S m
perform image (RaiseHost fault) a S m = with (host_signal fault) m λ signal. raise image signal [] a S m
perform image ArmEnd a S m = reject a.role S m
perform image (Resume n) a S m = resume image n (popped n a.operands) a.role S m
perform image (Leave arms target) a S m = leave image (Some target) a.role S m
perform image (LeaveReturn arms) a S m = leave image None a.role S m
perform image _ a S m = Stops Stuck m

-- what an instruction has made of the operands, of the variables of the frame and of the globals of the instance

unfoldable pub work_of : Active → Activations → Store → Work
work_of a S m = record { operands = a.operands; variables = variables a S; globals = m.globals a.instance }

unfoldable pub fault_signal : WordFault → SignalId
fault_signal OutOfBounds = BoundsFault
fault_signal DividedByZero = ZeroDivisor

unfoldable pub worked : Image → Instruction → Worked → Active → Activations → Store → Stepped
worked image i (Works w) a S m =
    Goes (Runs (set_variables (record a { offset = a.offset + bytes_of i; operands = w.operands } ∷ S) (own_frame a S) w.variables)
    (record m { globals = set_of m.globals a.instance w.globals }))
worked image i (Faults fault) a S m = raise image (fault_signal fault) [] a S m
worked image i Touches a S m = perform image i a S m

unfoldable pub works_in : Image → Instruction → Active → Activations → Store → Worked
works_in image i a S m = works (text_of image) (unwrap_or (module_number image a.instance) 0) i (work_of a S m)

-- one instruction is begun
unfoldable pub begin : Image → Instruction → Active → Activations → Store → Stepped
begin image i a S m = worked image i (works_in image i a S m) a S (record m { begun = suc m.begun })

unfoldable pub run : Image → Activations → Store → Stepped
run image [] m = start_next image m.control m
run image (a ∷ S) m = with (instruction_under image a) m λ i. begin image i a S m

-- one step
unfoldable pub step : Image → State → Stepped
step image (Runs S m) = run image S m
step image (Seeks signal args q search S m) = seek image signal args q search S m
step image (Leaves t search S m) = leave_step image t search S m

-- from here the machine stops so
pub data Ends (image : Image) : Stepped → Ending → Store → Type 0 where
  stops : (end : Ending) (m : Store) → Ends image (Stops end m) end m
  goes : (s : State) (end : Ending) (m : Store) → Ends image (step image s) end m → Ends image (Goes s) end m

-- at the beginning nothing is started, and all globals are zero

unfoldable pub globals_in : Option ModuleCode → ℕ
globals_in None = 0
globals_in (Some m) = m.global_words

unfoldable pub fresh : Image → List ℕ → Bool → ℕ → Store
fresh image input faulty turns = record {
  control = image.control;
  started = λ j. false;
  globals = λ j. zeros (globals_in (code_of image j));
  turns = turns;
  begun = 0;
  input = input;
  faulty = faulty;
  output = [];
}

unfoldable pub begins : Image → List ℕ → Bool → ℕ → Stepped
begins image input faulty turns = Goes (Runs [] (fresh image input faulty turns))

-- The machine runs the image, with this input and whether a fault follows it, and this bound of turns, to this output and this end; so many
-- turns are left, so many bytes of the input were taken, and so many instructions begun, the one in which the run ended included.
pub record Steps (image : Image) (input : List ℕ) (faulty : Bool) (turns : ℕ) (output : List ℕ) (end : Ending) (left taken count : ℕ) : Type 0 where
  pub last : Store
  pub ends : Ends image (begins image input faulty turns) end last
  pub its_output : last.output ≡ output
  pub its_turns : last.turns ≡ left
  pub its_input : length input - length last.input ≡ taken
  pub its_count : last.begun ≡ count
