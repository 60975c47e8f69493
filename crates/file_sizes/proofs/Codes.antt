-- How many bytes the code and the phrases of procedures take, signals and strings.
use Rattle.std.proofs.Common.{◌≡◌, ℕ, ◌+◌, ◌-◌, List, [], ◌∷◌, length, refl, arith}
use Rattle.code_forms.specs.declared.instruction.Instruction.{Instruction}
use Rattle.code_forms.specs.declared.instruction.Instruction.TheVariants.{Lit, Str, LoadL, StoreL, LoadG, StoreG, LoadLX, StoreLX, LoadGX, StoreGX, Index, Add, Sub, Mul, Neg, DivI, ModI, DivC, ModC, Eq, LessI, LessC, Not, CheckI, CheckC, Jump, JumpIf, JumpIfNot, JumpBack, StrLen, StrAt, Call, CallLink, Return, Raise, RaiseLink, RaiseHost, ArmEnd, Resume, Leave, LeaveReturn, Pop, Roll, ZeroL, ZeroG, AddD, SubD, MulD, NegD, DivDI, ModDI, DivDC, ModDC, EqD, LessDI, LessDC, WidenI, WidenC, NarrowI, NarrowC, CheckD}
use Rattle.code_forms.specs.declared.module_code.Arm.{Arm}
use Rattle.code_forms.specs.declared.module_code.CodeEntry.{CodeEntry}
use Rattle.code_forms.specs.declared.module_code.CodeLink.{CodeLink}
use Rattle.code_forms.specs.declared.module_code.CodeProcedure.{CodeProcedure}
use Rattle.code_forms.specs.declared.module_code.CodeSignal.{CodeSignal}
use Rattle.code_forms.specs.declared.module_code.Label.{Label}
use Rattle.code_forms.specs.declared.module_code.Label.TheVariants as l
use Rattle.code_forms.specs.declared.module_code.Phrase.{Phrase}
use Rattle.code_forms.specs.Instructions.{bytes_of}
use Rattle.code_blocks.specs.Weights.{label_bytes, labels_bytes, arm_bytes, arms_bytes, phrase_bytes, phrases_bytes, entries_bytes}
use Rattle.file_forms.specs.Forms.{number, at_least, list}
use Rattle.file_forms.specs.Names.{name}
use Rattle.file_forms.proofs.Numbers.{length-number}
use Rattle.object_rules.specs.CatchForms.{own_label, link_label, label_at, label, arm, phrase}
use Rattle.object_rules.specs.Filling.{size_of_all, spell_full}
use Rattle.object_rules.specs.Instructions.{sizes_of, numbers, instruction}
use Rattle.object_rules.specs.ModuleForms.{number_of_kind, signal_kind, signal, text, code, procedure}
use Rattle.object_rules.specs.Parts.{ProcedurePart, instructions, procedure_part}
use Rattle.file_sizes.specs.Sizes.{total, signal_size, string_size, procedure_size}
use Rattle.file_sizes.proofs.Faces.{name_sized}
use Rattle.file_sizes.proofs.Lists.{list_sized, two, three, four, five, seven}

instruction_sized : (left : ℕ) (x : Instruction) → length ((instruction left).spell x) ≡ bytes_of x
unfolding instruction sizes_of numbers
instruction_sized left (Lit a) = refl
instruction_sized left (Str a) = refl
instruction_sized left (LoadL a b) = refl
instruction_sized left (StoreL a b) = refl
instruction_sized left (LoadG a b) = refl
instruction_sized left (StoreG a b) = refl
instruction_sized left (LoadLX a b c) = refl
instruction_sized left (StoreLX a b c) = refl
instruction_sized left (LoadGX a b c) = refl
instruction_sized left (StoreGX a b c) = refl
instruction_sized left (Index a b) = refl
instruction_sized left Add = refl
instruction_sized left Sub = refl
instruction_sized left Mul = refl
instruction_sized left Neg = refl
instruction_sized left DivI = refl
instruction_sized left ModI = refl
instruction_sized left DivC = refl
instruction_sized left ModC = refl
instruction_sized left Eq = refl
instruction_sized left LessI = refl
instruction_sized left LessC = refl
instruction_sized left Not = refl
instruction_sized left (CheckI a b) = refl
instruction_sized left (CheckC a b) = refl
instruction_sized left (Jump a) = refl
instruction_sized left (JumpIf a) = refl
instruction_sized left (JumpIfNot a) = refl
instruction_sized left (JumpBack a) = refl
instruction_sized left StrLen = refl
instruction_sized left StrAt = refl
instruction_sized left (Call a) = refl
instruction_sized left (CallLink a) = refl
instruction_sized left Return = refl
instruction_sized left (Raise a) = refl
instruction_sized left (RaiseLink a) = refl
instruction_sized left (RaiseHost a) = refl
instruction_sized left ArmEnd = refl
instruction_sized left (Resume a) = refl
instruction_sized left (Leave a b) = refl
instruction_sized left (LeaveReturn a) = refl
instruction_sized left (Pop a) = refl
instruction_sized left (Roll a b) = refl
instruction_sized left (ZeroL a b) = refl
instruction_sized left (ZeroG a b) = refl
instruction_sized left AddD = refl
instruction_sized left SubD = refl
instruction_sized left MulD = refl
instruction_sized left NegD = refl
instruction_sized left DivDI = refl
instruction_sized left ModDI = refl
instruction_sized left DivDC = refl
instruction_sized left ModDC = refl
instruction_sized left EqD = refl
instruction_sized left LessDI = refl
instruction_sized left LessDC = refl
instruction_sized left WidenI = refl
instruction_sized left WidenC = refl
instruction_sized left NarrowI = refl
instruction_sized left NarrowC = refl
instruction_sized left CheckD = refl

full_sized : (left : ℕ) (all : List CodeEntry) → length (spell_full bytes_of instruction left (instructions all)) ≡ entries_bytes all
unfolding spell_full
full_sized left [] = refl
full_sized left (e ∷ all) = omega (
  arith,
  two ((instruction left).spell e.instruction) (spell_full bytes_of instruction (left - bytes_of e.instruction) (instructions all)),
  instruction_sized left e.instruction,
  full_sized (left - bytes_of e.instruction) all,
)

code_sized : (all : List CodeEntry) → length (code.spell (instructions all)) ≡ 4 + entries_bytes all
unfolding code
code_sized all =
    omega (
      arith,
      two ((number 4).spell (size_of_all bytes_of (instructions all))) (spell_full bytes_of instruction (size_of_all bytes_of (instructions all)) (instructions all)),
      length-number 4 (size_of_all bytes_of (instructions all)),
      full_sized (size_of_all bytes_of (instructions all)) all,
    )

-- ---- labels, arms and phrases

module _ (signals : List CodeSignal) (links : List CodeLink) where
  label_sized : (x : Label) → length ((label signals links).spell x) ≡ label_bytes x
  unfolding label label_at own_label link_label
  label_sized l.Any = refl
  label_sized l.Unwind = refl
  label_sized (l.Own n) = refl
  label_sized (l.Link n) = refl
  label_sized l.BoundsFault = refl
  label_sized l.ZeroDivisor = refl

  labels_are : (all : List Label) → total label_bytes all ≡ labels_bytes all
  unfolding total
  labels_are [] = refl
  labels_are (x ∷ all) = omega (arith, labels_are all)

  labels_sized : (all : List Label) → length ((list (at_least 1) (λ _. label signals links)).spell all) ≡ 4 + labels_bytes all
  labels_sized all = omega (arith, list_sized (λ _. label signals links) label_bytes (λ _ x. label_sized x) (at_least 1) all, labels_are all)

  arm_sized : (a : Arm) → length ((arm signals links).spell a) ≡ arm_bytes a
  unfolding arm
  arm_sized a =
      let whole : length ((arm signals links).spell a) ≡ length ((list (at_least 1) (λ _. label signals links)).spell a.labels)
      + (length ((number 2).spell a.slot) + (length ((number 2).spell a.words) + (length ((number 4).spell a.start) + length ((number 4).spell a.end)))) =
      five ((list (at_least 1) (λ _. label signals links)).spell a.labels) ((number 2).spell a.slot) ((number 2).spell a.words) ((number 4).spell a.start) ((number 4).spell a.end) in
      omega (arith, whole, labels_sized a.labels, length-number 2 a.slot, length-number 2 a.words, length-number 4 a.start, length-number 4 a.end)

  arms_are : (all : List Arm) → total arm_bytes all ≡ arms_bytes all
  unfolding total
  arms_are [] = refl
  arms_are (x ∷ all) = omega (arith, arms_are all)

  arms_sized : (all : List Arm) → length ((list (at_least 1) (λ _. arm signals links)).spell all) ≡ 4 + arms_bytes all
  arms_sized all = omega (arith, list_sized (λ _. arm signals links) arm_bytes (λ _ x. arm_sized x) (at_least 1) all, arms_are all)

  phrase_sized : (p : Phrase) → length ((phrase signals links).spell p) ≡ phrase_bytes p
  unfolding phrase
  phrase_sized p =
      let whole : length ((phrase signals links).spell p)
      ≡ length ((number 4).spell p.from) + (length ((number 4).spell p.to) + length ((list (at_least 1) (λ _. arm signals links)).spell p.arms)) =
      three ((number 4).spell p.from) ((number 4).spell p.to) ((list (at_least 1) (λ _. arm signals links)).spell p.arms) in
      omega (arith, whole, arms_sized p.arms, length-number 4 p.from, length-number 4 p.to)

  phrases_are : (all : List Phrase) → total phrase_bytes all ≡ phrases_bytes all
  unfolding total
  phrases_are [] = refl
  phrases_are (x ∷ all) = omega (arith, phrases_are all)

  phrases_sized : (all : List Phrase) → length ((list (at_least 0) (λ _. phrase signals links)).spell all) ≡ 4 + phrases_bytes all
  phrases_sized all = omega (arith, list_sized (λ _. phrase signals links) phrase_bytes (λ _ x. phrase_sized x) (at_least 0) all, phrases_are all)

  pub procedure_sized : (before : List ProcedurePart) (p : CodeProcedure) → length ((procedure signals links before).spell (procedure_part p)) ≡ procedure_size p
  unfolding procedure
  procedure_sized before p =
      let whole : length ((procedure signals links before).spell (procedure_part p)) ≡ length (name.spell p.name) + (length ((number 2).spell p.args)
      + (length ((number 2).spell p.results) + (length ((number 2).spell p.frame) + (length ((number 4).spell p.depth)
      + (length (code.spell (instructions p.code)) + length ((list (at_least 0) (λ _. phrase signals links)).spell p.phrases)))))) =
      seven (name.spell p.name) ((number 2).spell p.args) ((number 2).spell p.results) ((number 2).spell p.frame) ((number 4).spell p.depth)
      (code.spell (instructions p.code)) ((list (at_least 0) (λ _. phrase signals links)).spell p.phrases) in
      omega (
        arith,
        whole,
        name_sized p.name,
        length-number 2 p.args,
        length-number 2 p.results,
        length-number 2 p.frame,
        length-number 4 p.depth,
        code_sized p.code,
        phrases_sized p.phrases,
      )

-- ---- signals and strings

pub signal_sized : (s : CodeSignal) → length (signal.spell s) ≡ signal_size s
unfolding signal signal_kind
signal_sized s =
    let whole : length (signal.spell s)
    ≡ length ((number 1).spell (number_of_kind s.kind)) + (length (name.spell s.name) + (length ((number 2).spell s.args) + length ((number 2).spell s.results))) =
    four ((number 1).spell (number_of_kind s.kind)) (name.spell s.name) ((number 2).spell s.args) ((number 2).spell s.results) in
    omega (arith, whole, length-number 1 (number_of_kind s.kind), name_sized s.name, length-number 2 s.args, length-number 2 s.results)

pub text_sized : (s : List ℕ) → length (text.spell s) ≡ string_size s
unfolding text
text_sized s = omega (arith, two ((number 2).spell (length s)) s, length-number 2 (length s))
