-- What a file asks of the code of an object (rule of this project).
use Rattle.std.specs.Prelude.{◌≡◌, ℕ, ◌<◌, ◌^◌, true, List, All, map, slice_get}
use Rattle.std.specs.List.{AllZip}
use Rattle.mesa_base.specs.Name.{IsName}
use Rattle.mesa_types.specs.declared.faces.Export.{Export}
use Rattle.mesa_types.specs.declared.faces.Pair.{Pair}
use Rattle.code_forms.specs.declared.instruction.Instruction.{Instruction}
use Rattle.code_forms.specs.declared.module_code.Arm.{Arm}
use Rattle.code_forms.specs.declared.module_code.CodeEntry.{CodeEntry}
use Rattle.code_forms.specs.declared.module_code.CodeProcedure.{CodeProcedure}
use Rattle.code_forms.specs.declared.module_code.CodeSignal.{CodeSignal}
use Rattle.code_forms.specs.declared.module_code.Label.{Label}
use Rattle.code_forms.specs.declared.module_code.Label.TheVariants as l
use Rattle.code_forms.specs.declared.module_code.ModuleCode.{ModuleCode}
use Rattle.code_forms.specs.declared.module_code.Phrase.{Phrase}
use Rattle.code_forms.specs.Instructions.{number_of}
use Rattle.code_forms.specs.Ranges.{KeepsRanges}
use Rattle.object_files.specs.declared.object.Object.{Object}
use Rattle.object_rules.specs.Instructions.{sizes_of, operands_of}
use Rattle.object_rules.specs.ModuleForms.{gives_item}
use Rattle.object_rules.specs.Parts.{procedure_part, link_codes}

-- a number that so many bytes hold
abbrev pub InBytes : (size n : ℕ) → Type 0
InBytes size n = n < 256 ^ size

-- ---- what the types of its numbers say of a code

abbrev pub OperandsInBytes : Instruction → Type 0
OperandsInBytes x = AllZip InBytes (sizes_of (number_of x)) (operands_of x)

abbrev pub LabelInBytes : Label → Type 0
LabelInBytes (l.Own n) = InBytes 4 n
LabelInBytes (l.Link n) = InBytes 4 n
LabelInBytes _ = Unit {0}

pub record ArmInBytes (a : Arm) : Type 0 where
  pub labels : All LabelInBytes a.labels
  pub slot : InBytes 2 a.slot
  pub words : InBytes 2 a.words
  pub start : InBytes 4 a.start
  pub end : InBytes 4 a.end

pub record PhraseInBytes (p : Phrase) : Type 0 where
  pub from : InBytes 4 p.from
  pub to : InBytes 4 p.to
  pub arms : All ArmInBytes p.arms

pub record ProcedureInBytes (p : CodeProcedure) : Type 0 where
  pub code : All (λ (e : CodeEntry). OperandsInBytes e.instruction) p.code
  pub phrases : All PhraseInBytes p.phrases

pub record NumbersInBytes (c : ModuleCode) : Type 0 where
  pub signals : All (λ (s : CodeSignal). InBytes 2 s.args × InBytes 2 s.results) c.signals
  pub procedures : All ProcedureInBytes c.procedures

-- texts are of bytes
abbrev pub TextsOfBytes : List (List ℕ) → Type 0
TextsOfBytes texts = All (λ text. All (λ b. b < 256) text) texts

-- ---- the whole

-- an export gives procedures above 0 and signals, each of its item's kind and sizes
abbrev pub GivesItems : ModuleCode → Export → Type 0
GivesItems c e = All (λ (p : Pair). InBytes 4 p.number × (gives_item c.signals (map procedure_part c.procedures) (slice_get e.face.items p.item) p.number ≡ true)) e.given

-- what is asked of the code of an object, besides what its shape is asked
pub record CodeCanBeSpelled (o : Object) : Type 0 where
  -- what the type of its code says
  pub ranges : KeepsRanges o.code.global_words o.code.signals o.code.strings o.code.links o.code.procedures
  pub numbers : NumbersInBytes o.code
  pub texts : TextsOfBytes o.code.strings
  -- the links are those of the imports
  pub links : o.code.links ≡ link_codes o.shape.imports
  pub signals : All (λ (s : CodeSignal). IsName s.name) o.code.signals
  pub procedures : All (λ (p : CodeProcedure). IsName p.name) o.code.procedures
  pub exports : All (GivesItems o.code) o.shape.exports
