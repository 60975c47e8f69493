-- What an image has, and what an activation finds in it (rule of this project).
use Rattle.std.specs.Prelude.{ℕ, zero, suc, List, [], ◌∷◌, Option, Some, None, unwrap_or, option_and_then, option_map, slice_get, flat_map, nat_eq, bytes_eq, codes, if◌then◌else◌}
use Rattle.code_forms.specs.declared.instruction.Instruction.{Instruction}
use Rattle.code_forms.specs.declared.module_code.Arm.{Arm}
use Rattle.code_forms.specs.declared.module_code.CodeEntry.{CodeEntry}
use Rattle.code_forms.specs.declared.module_code.CodeKind.{CodeKind}
use Rattle.code_forms.specs.declared.module_code.CodeKind.TheVariants.{Procedure}
use Rattle.code_forms.specs.declared.module_code.CodeLink.{CodeLink}
use Rattle.code_forms.specs.declared.module_code.CodeProcedure.{CodeProcedure}
use Rattle.code_forms.specs.declared.module_code.CodeSignal.{CodeSignal}
use Rattle.code_forms.specs.declared.module_code.ModuleCode.{ModuleCode}
use Rattle.code_forms.specs.declared.module_code.Phrase.{Phrase}
use Rattle.object_files.specs.declared.image.Image.{Image}
use Rattle.object_files.specs.declared.image.Instance.{Instance}
use Rattle.object_files.specs.declared.image.Link.{Link}
use Rattle.object_files.specs.declared.image.Link.TheVariants.{Wanted, To}
use Rattle.object_files.specs.declared.object.Object.{Object}
use Rattle.object_files.specs.interface_records.specs.declared.wanted.Wanted.{Wanted as WantedEntry}
use Rattle.signaller.specs.declared.search.Links.{Links}
use Rattle.signaller.specs.declared.signal_id.SignalId.{SignalId}
use Rattle.signaller.specs.declared.signal_id.SignalId.TheVariants.{Own, NoInput}
use Rattle.machine_rules.specs.State.{Activation}

-- Modules.

-- the number of an instance's module
unfoldable pub module_number : Image → ℕ → Option ℕ
module_number image j = option_map (λ (i : Instance). i.module) (slice_get image.instances j)

unfoldable pub code_in : Image → ℕ → Option ModuleCode
code_in image n = option_map (λ (o : Object). o.code) (slice_get image.modules n)

-- the code of an instance
unfoldable pub code_of : Image → ℕ → Option ModuleCode
code_of image j = option_and_then (code_in image) (module_number image j)

unfoldable pub procedure_of : Image → ℕ → ℕ → Option CodeProcedure
procedure_of image j p = option_and_then (λ (m : ModuleCode). slice_get m.procedures p) (code_of image j)

-- the procedure of a call. Procedure 0 is the body, which is started and never called
unfoldable pub called : Image → ℕ → ℕ → Option CodeProcedure
called image j zero = None
called image j (suc p) = procedure_of image j (suc p)

unfoldable pub signal_of : Image → ℕ → ℕ → Option CodeSignal
signal_of image j k = option_and_then (λ (m : ModuleCode). slice_get m.signals k) (code_of image j)

-- Strings.

unfoldable pub literal_of : Image → ℕ → ℕ → Option (List ℕ)
literal_of image n k = option_and_then (λ (m : ModuleCode). slice_get m.strings k) (code_in image n)

-- the bytes for which two words stand: a module's number plus 1, and that of a literal, counted from 1; others are an empty string
unfoldable pub text_of : Image → ℕ → ℕ → List ℕ
text_of image (suc n) (suc k) = unwrap_or (literal_of image n k) []
text_of image _ _ = []

-- Links.

-- what the module says of a link, and to what the instance binds it
unfoldable pub link_of : Image → ℕ → ℕ → Option CodeLink
link_of image j k = option_and_then (λ (m : ModuleCode). slice_get m.links k) (code_of image j)

unfoldable pub bound_to : Image → ℕ → ℕ → Option Link
bound_to image j k = option_and_then (λ (table : List Link). slice_get table k) (slice_get image.links j)

-- the signal for which a link stands: of what the loader is wanted to give NoInput alone is a signal
unfoldable pub signal_bound : CodeKind → Link → Option SignalId
signal_bound Procedure _ = None
signal_bound _ (Wanted n) = Some NoInput
signal_bound _ (To j k) = Some (Own j k)

unfoldable pub signals_bound : List CodeLink → List Link → List (Option SignalId)
signals_bound [] _ = []
signals_bound _ [] = []
signals_bound (l ∷ links) (b ∷ table) = signal_bound l.kind b ∷ signals_bound links table

unfoldable pub links_in : Option ModuleCode → List CodeLink
links_in None = []
links_in (Some m) = m.links

-- how an instance reads the links of labels
unfoldable pub links_of : Image → ℕ → Links
links_of image j = record {
  instance = j;
  signals = signals_bound (links_in (code_of image j)) (unwrap_or (slice_get image.links j) []);
}

-- Procedures of the host (the built-in interface IODefs).

pub data Host : Type 0 where
  WriteChar : Host
  WriteString : Host
  WriteDecimal : Host
  ReadChar : Host
  EndOfInput : Host

unfoldable pub host_named : List ℕ → Option Host
host_named name =
    if bytes_eq name (codes "WriteChar") then Some WriteChar
    else (if bytes_eq name (codes "WriteString") then Some WriteString
    else (if bytes_eq name (codes "WriteDecimal") then Some WriteDecimal
    else (if bytes_eq name (codes "ReadChar") then Some ReadChar
    else (if bytes_eq name (codes "EndOfInput") then Some EndOfInput else None))))

-- the one for which an entry of the wanted items stands
unfoldable pub host_of : Image → ℕ → Option Host
host_of image n = option_and_then (λ (w : WantedEntry). host_named w.item.name) (slice_get image.wanted n)

-- Code.

-- the instruction that begins at an offset
unfoldable pub instruction_at : List CodeEntry → ℕ → Option Instruction
instruction_at [] offset = None
instruction_at (e ∷ code) offset = if nat_eq e.at offset then Some e.instruction else instruction_at code offset

unfoldable pub procedure_under : {X : Type 0} → Image → Activation X → Option CodeProcedure
procedure_under image a = procedure_of image a.instance a.procedure

-- the instruction at which an activation stands
unfoldable pub instruction_under : {X : Type 0} → Image → Activation X → Option Instruction
instruction_under image a = option_and_then (λ (p : CodeProcedure). instruction_at p.code a.offset) (procedure_under image a)

unfoldable pub phrases_in : Option CodeProcedure → List Phrase
phrases_in None = []
phrases_in (Some p) = p.phrases

-- the phrases of an activation's procedure, and the arm of a number, the arms being numbered over all of them
unfoldable pub phrases_under : {X : Type 0} → Image → Activation X → List Phrase
phrases_under image a = phrases_in (procedure_under image a)

unfoldable pub arm_under : {X : Type 0} → Image → Activation X → ℕ → Option Arm
arm_under image a n = slice_get (flat_map (λ (p : Phrase). p.arms) (phrases_under image a)) n
