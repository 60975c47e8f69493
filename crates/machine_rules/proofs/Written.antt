-- How the images of the examples are written by hand, and what is seen of their runs.
use Rattle.std.specs.Prelude.{◌≡◌, ℕ, zero, suc, ◌+◌, ◌-◌, List, [], ◌∷◌, length, map, codes, Bool, true, false}
use Rattle.std.proofs.Common.{sym, subst}
use Rattle.std.specs.Fmt.{digits}
use Rattle.object_files.specs.mesa_types.specs.declared.faces.Item.{Item}
use Rattle.object_files.specs.mesa_types.specs.Operators as o
use Rattle.object_files.specs.interface_records.specs.declared.wanted.Wanted.{Wanted as WantedEntry}
use Rattle.object_files.specs.interface_records.specs.Faces.{io_items}
use Rattle.code_forms.specs.declared.instruction.Instruction.{Instruction}
use Rattle.code_forms.specs.declared.module_code.Arm.{Arm}
use Rattle.code_forms.specs.declared.module_code.CodeEntry.{CodeEntry}
use Rattle.code_forms.specs.declared.module_code.CodeKind.TheVariants as kind
use Rattle.code_forms.specs.declared.module_code.CodeLink.{CodeLink}
use Rattle.code_forms.specs.declared.module_code.CodeProcedure.{CodeProcedure}
use Rattle.code_forms.specs.declared.module_code.CodeSignal.{CodeSignal}
use Rattle.code_forms.specs.declared.module_code.Label.{Label}
use Rattle.code_forms.specs.declared.module_code.Phrase.{Phrase}
use Rattle.code_forms.specs.Instructions.{bytes_of}
use Rattle.object_files.specs.declared.image.Image.{Image}
use Rattle.object_files.specs.declared.image.Link.{Link}
use Rattle.object_files.specs.declared.image.Link.TheVariants.{Wanted}
use Rattle.object_files.specs.declared.object.Object.{Object}
use Rattle.signaller.specs.Search as search
use Rattle.machine_rules.specs.State.{Store, Ending, Stepped, Goes, Stops}
use Rattle.machine_rules.proofs.Kept.{module_test, keeps_ranges}
use Rattle.machine_rules.specs.Working as work
use Rattle.machine_rules.specs.LookUps as look
use Rattle.machine_rules.specs.Activations as list
use Rattle.machine_rules.specs.Moves as move
use Rattle.machine_rules.specs.Signals as signal
use Rattle.machine_rules.specs.Calls as call
use Rattle.machine_rules.specs.Leaving as leaving
use Rattle.machine_rules.specs.Steps.{raise_with, host_signal, perform, work_of, fault_signal, worked, works_in, begin, run, step, Ends, stops, goes, globals_in, fresh, begins}

-- Code.

-- each instruction begins where the one before it ends
abbrev pub laid : (at : ℕ) → List Instruction → List CodeEntry
laid at [] = []
laid at (i ∷ is) = record { at = at; depth = 0; instruction = i } ∷ laid (at + bytes_of i) is

abbrev pub arm : List Label → (slot words start end : ℕ) → Arm
arm labels slot words start end = record { labels = labels; slot = slot; words = words; start = start; end = end }

abbrev pub phrase : (from to : ℕ) → List Arm → Phrase
phrase from to arms = record { from = from; to = to; arms = arms }

abbrev pub procedure : (args results frame depth : ℕ) → List Instruction → List Phrase → CodeProcedure
procedure args results frame depth is phrases = record {
  name = codes "P";
  args = args;
  results = results;
  frame = frame;
  depth = depth;
  code = laid 0 is;
  phrases = phrases;
}

abbrev pub error : CodeSignal
error = record { kind = kind.Error; name = codes "E"; args = 0; results = 0 }

abbrev pub signal_with : (args results : ℕ) → CodeSignal
signal_with args results = record { kind = kind.Signal; name = codes "S"; args = args; results = results }

abbrev pub procedure_link : (args results : ℕ) → CodeLink
procedure_link args results = record { kind = kind.Procedure; args = args; results = results }

abbrev pub signal_link : (args results : ℕ) → CodeLink
signal_link args results = record { kind = kind.Signal; args = args; results = results }

abbrev pub error_link : CodeLink
error_link = record { kind = kind.Error; args = 0; results = 0 }

-- links 0 to 5 are WriteChar, WriteString, WriteDecimal, ReadChar, EndOfInput and NoInput
abbrev pub with_host : List CodeLink → List CodeLink
with_host links =
    procedure_link 1 0 ∷ procedure_link 2 0 ∷ procedure_link 1 0 ∷ procedure_link 0 1 ∷ procedure_link 0 1 ∷ error_link ∷ links

-- Modules and images.

pub record Written : Type 0 where
  pub globals : ℕ
  pub signals : List CodeSignal
  pub strings : List (List ℕ)
  pub links : List CodeLink
  pub procedures : List CodeProcedure

-- it is within its ranges
abbrev pub Keeps : Written → Type 0
Keeps w = module_test w.globals w.signals w.strings w.links w.procedures ≡ true

abbrev pub object : (w : Written) → Keeps w → Object
object w keeps = record {
  shape = record { name = codes "M"; imports = []; exports = [] };
  code = record {
    name = codes "M";
    global_words = w.globals;
    signals = w.signals;
    strings = w.strings;
    links = w.links;
    procedures = w.procedures;
    ranges = ∣ keeps_ranges w.globals w.signals w.strings w.links w.procedures keeps ∣₁;
  };
}

abbrev pub host_items : List WantedEntry
host_items = map (λ (i : Item). record { face = codes "IODefs"; stamp = 1; item = i }) io_items

abbrev pub bound_to_host : List Link → List Link
bound_to_host links = Wanted 0 ∷ Wanted 1 ∷ Wanted 2 ∷ Wanted 3 ∷ Wanted 4 ∷ Wanted 5 ∷ links

-- instances of these modules with these links
abbrev pub image_of : List Object → List ℕ → List (List Link) → List ℕ → Image
image_of modules instances links control = record {
  modules = modules;
  wanted = host_items;
  instances = map (λ (n : ℕ). record { path = []; «module» = n }) instances;
  links = links;
  offered = [];
  control = control;
}

-- one module alone, with one instance that is started
abbrev pub alone : (w : Written) → Keeps w → Image
alone w keeps = image_of (object w keeps ∷ []) (0 ∷ []) (bound_to_host [] ∷ []) (0 ∷ [])

-- Runs.

-- what is seen of a run: what it printed, how it ended, the turns left, the bytes taken, and the instructions begun
pub data Seen : Type 0 where
  Saw : (output : List ℕ) → Ending → (left taken count : ℕ) → Seen
  -- it goes on
  More : Seen

unfoldable pub go : Image → ℕ → Stepped → Stepped
go image zero x = x
go image (suc n) (Goes s) = go image n (step image s)
go image (suc n) (Stops end m) = Stops end m

unfoldable pub shown : List ℕ → Stepped → Seen
shown input (Goes s) = More
shown input (Stops end m) = Saw m.output end m.turns (length input - length m.input) m.begun

-- within so many steps
unfoldable pub seen_from : Image → (steps : ℕ) → List ℕ → Stepped → Seen
unfolding digits o.wrap o.shifted o.opposite o.is_negative o.magnitude_if o.magnitude o.with_sign o.differ o.quotient o.remainder o.related o.truth o.fits o.by_divisor o.fine_or o.byte_at search.around_at search.around search.first_place work.leaves work.stores_local work.stores_global work.in_bounds work.leaves_tried work.works look.module_number look.code_in look.code_of look.procedure_of look.called look.signal_of look.literal_of look.text_of look.link_of look.bound_to look.signal_bound look.signals_bound look.links_in look.links_of look.host_named look.host_of look.instruction_at look.procedure_under look.instruction_under look.phrases_in look.phrases_under look.arm_under list.activation_at list.owner list.own_frame list.variables_in list.variables_of list.variables list.with_variables list.set_variables move.with move.spend_of move.spend move.enter move.onward move.go_to move.give signal.put_at signal.enter_arm signal.around signal.raise signal.outward signal.asked signal.seek signal.reject signal.takes_of signal.takes_in signal.takes_back signal.can_resume signal.resumed signal.resume call.set_of call.enter_frame call.start call.call call.host_write call.read_char call.end_of_input call.host call.call_in call.call_bound call.pending call.returned call.return_of call.return_from call.start_next leaving.has_offset leaving.is_arm_at leaving.place_for leaving.target_for leaving.left_to_ask leaving.dropped leaving.leave leaving.arrived leaving.unwound leaving.leave_step raise_with host_signal perform work_of fault_signal worked works_in begin run step globals_in fresh begins go shown
seen_from image steps input x = shown input (go image steps x)

unfoldable pub seen_over : Image → List ℕ → (faulty : Bool) → (turns : ℕ) → Seen
unfolding seen_from begins fresh look.code_of globals_in look.code_in look.module_number
seen_over image input faulty turns = seen_from image 3000 input (begins image input faulty turns)

unfoldable pub seen : Image → (turns : ℕ) → Seen
unfolding seen_over
seen image turns = seen_over image [] false turns

-- What is seen of a run is what the machine does.
pub goes_so : (image : Image) (n : ℕ) (x : Stepped) (end : Ending) (m : Store) → go image n x ≡ Stops end m → Ends image x end m
unfolding go
goes_so image zero x end m e = subst (λ y. Ends image y end m) (sym e) (stops end m)
goes_so image (suc n) (Goes s) end m e = goes s end m (goes_so image n (step image s) end m e)
goes_so image (suc n) (Stops end' m') end m e = subst (λ y. Ends image y end m) (sym e) (stops end m)
