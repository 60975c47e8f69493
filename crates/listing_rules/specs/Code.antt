-- The code of a module in a listing (rule of this project): a line for each signal, string, procedure, instruction, phrase and arm. The
-- targets of jumps, the ends of phrases and those of arms are offsets, all else are numbers.
use Rattle.std.specs.Prelude.{ℕ, List, [], ◌∷◌, ◌++◌, map, flat_map, length, codes, decimal}
use Rattle.code_forms.specs.declared.instruction.Instruction.{Instruction}
use Rattle.code_forms.specs.declared.instruction.Instruction.TheVariants as i
use Rattle.code_forms.specs.declared.module_code.Arm.{Arm}
use Rattle.code_forms.specs.declared.module_code.CodeEntry.{CodeEntry}
use Rattle.code_forms.specs.declared.module_code.CodeKind.{CodeKind}
use Rattle.code_forms.specs.declared.module_code.CodeKind.TheVariants as kind
use Rattle.code_forms.specs.declared.module_code.CodeProcedure.{CodeProcedure}
use Rattle.code_forms.specs.declared.module_code.CodeSignal.{CodeSignal}
use Rattle.code_forms.specs.declared.module_code.Label.{Label}
use Rattle.code_forms.specs.declared.module_code.Label.TheVariants.{Any, Unwind, Own, Link, BoundsFault, ZeroDivisor}
use Rattle.code_forms.specs.declared.module_code.ModuleCode.{ModuleCode}
use Rattle.code_forms.specs.declared.module_code.Phrase.{Phrase}
use Rattle.code_forms.specs.Instructions.{name_of}
use Rattle.listing_rules.specs.Lines.{between, line, offset_text}

-- a signal or an error; a module's signals are no procedures
abbrev pub signal_word : CodeKind → List ℕ
signal_word kind.Error = codes "ERROR"
signal_word _ = codes "SIGNAL"

-- SIGNAL NAME ARGS RESULTS, or ERROR NAME ARGS RESULTS
abbrev pub signal_line : CodeSignal → List ℕ
signal_line s = line (signal_word s.kind ∷ s.name ∷ decimal s.args ∷ decimal s.results ∷ [])

-- STRING LENGTH
abbrev pub string_line : List ℕ → List ℕ
string_line string = line (codes "STRING" ∷ decimal (length string) ∷ [])

-- ---- instructions

abbrev pub one : ℕ → List (List ℕ)
one n = decimal n ∷ []

abbrev pub two : ℕ → ℕ → List (List ℕ)
two m n = decimal m ∷ decimal n ∷ []

abbrev pub three : ℕ → ℕ → ℕ → List (List ℕ)
three m n k = decimal m ∷ decimal n ∷ decimal k ∷ []

abbrev pub target_alone : ℕ → List (List ℕ)
target_alone target = offset_text target ∷ []

-- the operands of an instruction, in order
unfoldable pub operand_texts : Instruction → List (List ℕ)
operand_texts (i.Lit word) = one word
operand_texts (i.Str literal) = one literal
operand_texts (i.LoadL slot words) = two slot words
operand_texts (i.StoreL slot words) = two slot words
operand_texts (i.LoadG slot words) = two slot words
operand_texts (i.StoreG slot words) = two slot words
operand_texts (i.LoadLX slot extent words) = three slot extent words
operand_texts (i.StoreLX slot extent words) = three slot extent words
operand_texts (i.LoadGX slot extent words) = three slot extent words
operand_texts (i.StoreGX slot extent words) = three slot extent words
operand_texts (i.Index count size) = two count size
operand_texts (i.CheckI least most) = two least most
operand_texts (i.CheckC least most) = two least most
operand_texts (i.Jump target) = target_alone target
operand_texts (i.JumpIf target) = target_alone target
operand_texts (i.JumpIfNot target) = target_alone target
operand_texts (i.JumpBack target) = target_alone target
operand_texts (i.Call procedure) = one procedure
operand_texts (i.CallLink link) = one link
operand_texts (i.Raise signal) = one signal
operand_texts (i.RaiseLink link) = one link
operand_texts (i.RaiseHost fault) = one fault
operand_texts (i.Resume words) = one words
operand_texts (i.Leave arms target) = decimal arms ∷ offset_text target ∷ []
operand_texts (i.LeaveReturn arms) = one arms
operand_texts (i.Pop words) = one words
operand_texts (i.Roll words over) = two words over
operand_texts (i.ZeroL slot words) = two slot words
operand_texts (i.ZeroG slot words) = two slot words
operand_texts _ = []

-- OFFSET NAME OPERANDS
abbrev pub entry_line : CodeEntry → List ℕ
entry_line e = line (offset_text e.at ∷ name_of e.instruction ∷ operand_texts e.instruction)

-- ---- phrases and arms

abbrev pub label_text : Label → List ℕ
label_text Any = codes "ANY"
label_text Unwind = codes "UNWIND"
label_text (Own n) = codes "own " ++ decimal n
label_text (Link n) = codes "link " ++ decimal n
label_text BoundsFault = codes "BoundsFault"
label_text ZeroDivisor = codes "ZeroDivisor"

-- labels with blanks between
abbrev pub labels_text : List Label → List ℕ
labels_text labels = between (codes " ") (map label_text labels)

-- ARM START END SLOT WORDS LABELS
abbrev pub arm_line : Arm → List ℕ
arm_line a = line (codes "ARM" ∷ offset_text a.start ∷ offset_text a.end ∷ decimal a.slot ∷ decimal a.words ∷ labels_text a.labels ∷ [])

-- PHRASE FROM TO
abbrev pub phrase_head : Phrase → List ℕ
phrase_head p = line (codes "PHRASE" ∷ offset_text p.from ∷ offset_text p.to ∷ [])

-- that, and its arms
abbrev pub phrase_lines : Phrase → List ℕ
phrase_lines p = phrase_head p ++ flat_map arm_line p.arms

-- CODE NAME ARGS RESULTS FRAME DEPTH
abbrev pub procedure_head : CodeProcedure → List ℕ
procedure_head p = line (codes "CODE" ∷ p.name ∷ decimal p.args ∷ decimal p.results ∷ decimal p.frame ∷ decimal p.depth ∷ [])

-- that, its instructions and its phrases
abbrev pub procedure_lines : CodeProcedure → List ℕ
procedure_lines p = procedure_head p ++ (flat_map entry_line p.code ++ flat_map phrase_lines p.phrases)

-- ---- the code of a module

-- GLOBALS N
abbrev pub globals_line : ℕ → List ℕ
globals_line n = line (codes "GLOBALS" ∷ decimal n ∷ [])

abbrev pub code_lines : ModuleCode → List ℕ
code_lines c =
    globals_line c.global_words
    ++ (flat_map signal_line c.signals ++ (flat_map string_line c.strings ++ flat_map procedure_lines c.procedures))
