-- The bytes of code, and what makes them fit: counts and lengths.
use Rattle.std.specs.Prelude.{ℕ, ◌<◌, ◌^◌, List, [], ◌++◌, length, All}
use Rattle.code_forms.specs.declared.instruction.Instruction.{Instruction}
use Rattle.code_forms.specs.declared.instruction.Instruction.TheVariants as i
use Rattle.code_forms.specs.declared.module_code.Arm.{Arm}
use Rattle.code_forms.specs.declared.module_code.CodeEntry.{CodeEntry}
use Rattle.code_forms.specs.declared.module_code.CodeProcedure.{CodeProcedure}
use Rattle.code_forms.specs.declared.module_code.CodeSignal.{CodeSignal}
use Rattle.code_forms.specs.declared.module_code.Label.{Label}
use Rattle.code_forms.specs.declared.module_code.Label.TheVariants as l
use Rattle.code_forms.specs.declared.module_code.Phrase.{Phrase}
use Rattle.code_forms.specs.Instructions.{number_of, bytes_of}
use Rattle.code_forms.specs.Ranges.{AreFew}
use Rattle.file_forms.specs.Names.{name}
use Rattle.object_rules.specs.Filling.{size_of_all}
use Rattle.object_rules.specs.ModuleForms.{number_of_kind}
use Rattle.object_rules.specs.Parts.{instructions}
use Rattle.object_writers.specs.declared.operands.Operands.{Operands}
use Rattle.object_writers.specs.declared.operands.Operands.TheVariants.{Nothing, Byte, Word, TwoWords, ThreeWords, Long, WordAndLong}
use Rattle.object_writers.specs.Spelling.{spell_all, spell_list, u8_bytes, u16_bytes, u32_bytes}

-- ---- instructions

abbrev pub operands_in : Instruction → Operands
operands_in (i.Lit word) = Word word
operands_in (i.Str literal) = Word literal
operands_in (i.LoadL slot words) = TwoWords slot words
operands_in (i.StoreL slot words) = TwoWords slot words
operands_in (i.LoadG slot words) = TwoWords slot words
operands_in (i.StoreG slot words) = TwoWords slot words
operands_in (i.LoadLX slot extent words) = ThreeWords slot extent words
operands_in (i.StoreLX slot extent words) = ThreeWords slot extent words
operands_in (i.LoadGX slot extent words) = ThreeWords slot extent words
operands_in (i.StoreGX slot extent words) = ThreeWords slot extent words
operands_in (i.Index count size) = TwoWords count size
operands_in (i.CheckI least most) = TwoWords least most
operands_in (i.CheckC least most) = TwoWords least most
operands_in (i.Jump target) = Long target
operands_in (i.JumpIf target) = Long target
operands_in (i.JumpIfNot target) = Long target
operands_in (i.JumpBack target) = Long target
operands_in (i.Call procedure) = Long procedure
operands_in (i.CallLink link) = Long link
operands_in (i.Raise signal) = Long signal
operands_in (i.RaiseLink link) = Long link
operands_in (i.RaiseHost fault) = Byte fault
operands_in (i.Resume words) = Word words
operands_in (i.Leave arms target) = WordAndLong arms target
operands_in (i.LeaveReturn arms) = Word arms
operands_in (i.Pop words) = Word words
operands_in (i.Roll words over) = TwoWords words over
operands_in (i.ZeroL slot words) = TwoWords slot words
operands_in (i.ZeroG slot words) = TwoWords slot words
operands_in _ = Nothing

abbrev pub operand_bytes : Operands → List ℕ
operand_bytes Nothing = []
operand_bytes (Byte n) = u8_bytes n
operand_bytes (Word n) = u16_bytes n
operand_bytes (TwoWords m n) = u16_bytes m ++ u16_bytes n
operand_bytes (ThreeWords m n k) = u16_bytes m ++ (u16_bytes n ++ u16_bytes k)
operand_bytes (Long n) = u32_bytes n
operand_bytes (WordAndLong m n) = u16_bytes m ++ u32_bytes n

abbrev pub instruction_bytes : Instruction → List ℕ
instruction_bytes x = u8_bytes (number_of x) ++ operand_bytes (operands_in x)

abbrev pub entry_bytes : CodeEntry → List ℕ
entry_bytes e = instruction_bytes e.instruction

-- the bytes of instructions, as their length says
abbrev pub code_size : List CodeEntry → ℕ
code_size code = size_of_all bytes_of (instructions code)

abbrev pub code_bytes : List CodeEntry → List ℕ
code_bytes code = u32_bytes (code_size code) ++ spell_all entry_bytes code

-- ---- labels, arms and phrases

abbrev pub label_bytes : Label → List ℕ
label_bytes l.Any = u8_bytes 1
label_bytes l.Unwind = u8_bytes 2
label_bytes (l.Own n) = u8_bytes 3 ++ u32_bytes n
label_bytes (l.Link n) = u8_bytes 4 ++ u32_bytes n
label_bytes l.BoundsFault = u8_bytes 5
label_bytes l.ZeroDivisor = u8_bytes 6

abbrev pub arm_bytes : Arm → List ℕ
arm_bytes a = spell_list label_bytes a.labels ++ (u16_bytes a.slot ++ (u16_bytes a.words ++ (u32_bytes a.start ++ u32_bytes a.end)))

abbrev pub ArmIsFew : Arm → Type 0
ArmIsFew a = AreFew a.labels

abbrev pub phrase_bytes : Phrase → List ℕ
phrase_bytes p = u32_bytes p.from ++ (u32_bytes p.to ++ spell_list arm_bytes p.arms)

pub record PhraseIsFew (p : Phrase) : Type 0 where
  pub few : AreFew p.arms
  pub each : All ArmIsFew p.arms

-- ---- signals, strings and procedures

abbrev pub signal_bytes : CodeSignal → List ℕ
signal_bytes s = u8_bytes (number_of_kind s.kind) ++ (name.spell s.name ++ (u16_bytes s.args ++ u16_bytes s.results))

abbrev pub SignalFits : CodeSignal → Type 0
SignalFits s = name.fits s.name

abbrev pub text_bytes : List ℕ → List ℕ
text_bytes s = u16_bytes (length s) ++ s

abbrev pub TextFits : List ℕ → Type 0
TextFits s = length s < 2 ^ 16

abbrev pub procedure_bytes : CodeProcedure → List ℕ
procedure_bytes p =
    name.spell p.name ++ (u16_bytes p.args ++ (u16_bytes p.results ++ (u16_bytes p.frame ++ (u32_bytes p.depth ++ (code_bytes p.code ++ spell_list phrase_bytes p.phrases)))))

pub record ProcedureFits (p : CodeProcedure) : Type 0 where
  pub named : name.fits p.name
  pub short : code_size p.code < 2 ^ 32
  pub few : AreFew p.phrases
  pub each : All PhraseIsFew p.phrases
