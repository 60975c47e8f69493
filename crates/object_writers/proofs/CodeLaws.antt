-- The bytes of code are what its form spells.
use Rattle.std.proofs.Common.{◌≡◌, ℕ, ◌-◌, ◌<◌, ◌^◌, List, [], ◌∷◌, ◌++◌, refl, ap, ◌∙◌}
use Rattle.std.proofs.lemmas.List.{append-nil}
use Rattle.code_forms.specs.declared.instruction.Instruction.{Instruction}
use Rattle.code_forms.specs.declared.instruction.Instruction.TheVariants.{Lit, Str, LoadL, StoreL, LoadG, StoreG, LoadLX, StoreLX, LoadGX, StoreGX, Index, Add, Sub, Mul, Neg, DivI, ModI, DivC, ModC, Eq, LessI, LessC, Not, CheckI, CheckC, Jump, JumpIf, JumpIfNot, JumpBack, StrLen, StrAt, Call, CallLink, Return, Raise, RaiseLink, RaiseHost, ArmEnd, Resume, Leave, LeaveReturn, Pop, Roll, ZeroL, ZeroG, AddD, SubD, MulD, NegD, DivDI, ModDI, DivDC, ModDC, EqD, LessDI, LessDC, WidenI, WidenC, NarrowI, NarrowC, CheckD}
use Rattle.code_forms.specs.declared.module_code.Arm.{Arm}
use Rattle.code_forms.specs.declared.module_code.CodeEntry.{CodeEntry}
use Rattle.code_forms.specs.declared.module_code.CodeLink.{CodeLink}
use Rattle.code_forms.specs.declared.module_code.CodeProcedure.{CodeProcedure}
use Rattle.code_forms.specs.declared.module_code.CodeSignal.{CodeSignal}
use Rattle.code_forms.specs.declared.module_code.Label.{Label}
use Rattle.code_forms.specs.declared.module_code.Label.TheVariants as l
use Rattle.code_forms.specs.declared.module_code.Phrase.{Phrase}
use Rattle.code_forms.specs.Instructions.{bytes_of}
use Rattle.file_forms.specs.Forms.{number, list, at_least}
use Rattle.file_forms.specs.Names.{name}
use Rattle.object_rules.specs.CatchForms.{own_label, link_label, label_at, label, arm, phrase}
use Rattle.object_rules.specs.Filling.{spell_full}
use Rattle.object_rules.specs.Instructions.{sizes_of, numbers, instruction}
use Rattle.object_rules.specs.ModuleForms.{signal_kind, signal, text, code, procedure}
use Rattle.object_rules.specs.Parts.{ProcedurePart, instructions, procedure_part}
use Rattle.object_rules.proofs.AllFit.{all_fit}
use Rattle.object_writers.specs.CodeBytes.{instruction_bytes, entry_bytes, code_size, code_bytes, label_bytes, arm_bytes, ArmIsFew, phrase_bytes, PhraseIsFew, signal_bytes, SignalFits, text_bytes, TextFits, procedure_bytes, ProcedureFits}
use Rattle.object_writers.specs.Spelling.{spell_all, u8_bytes, u16_bytes, u32_bytes}
use Rattle.object_writers.proofs.Lists.{list_spelled}

-- ---- instructions

none : (numbers []).spell [] ≡ []
unfolding numbers
none = refl

one : (s a : ℕ) → (numbers (s ∷ [])).spell (a ∷ []) ≡ (number s).spell a
unfolding numbers
one s a = append-nil ((number s).spell a)

two : (s t a b : ℕ) → (numbers (s ∷ t ∷ [])).spell (a ∷ b ∷ []) ≡ (number s).spell a ++ (number t).spell b
unfolding numbers
two s t a b = ap (λ (u : List ℕ). (number s).spell a ++ u) (append-nil ((number t).spell b))

three : (s t r a b c : ℕ) → (numbers (s ∷ t ∷ r ∷ [])).spell (a ∷ b ∷ c ∷ []) ≡ (number s).spell a ++ ((number t).spell b ++ (number r).spell c)
unfolding numbers
three s t r a b c = ap (λ (u : List ℕ). (number s).spell a ++ ((number t).spell b ++ u)) (append-nil ((number r).spell c))

behind : (op : ℕ) (u v : List ℕ) → u ≡ v → u8_bytes op ++ u ≡ u8_bytes op ++ v
behind op u v e = ap (λ (t : List ℕ). u8_bytes op ++ t) e

pub instruction_spelled : (left : ℕ) (x : Instruction) → (instruction left).spell x ≡ instruction_bytes x
unfolding instruction sizes_of
instruction_spelled left (Lit a) = behind 0x01 _ _ (one 2 a)
instruction_spelled left (Str a) = behind 0x02 _ _ (one 2 a)
instruction_spelled left (LoadL a b) = behind 0x03 _ _ (two 2 2 a b)
instruction_spelled left (StoreL a b) = behind 0x04 _ _ (two 2 2 a b)
instruction_spelled left (LoadG a b) = behind 0x05 _ _ (two 2 2 a b)
instruction_spelled left (StoreG a b) = behind 0x06 _ _ (two 2 2 a b)
instruction_spelled left (LoadLX a b c) = behind 0x07 _ _ (three 2 2 2 a b c)
instruction_spelled left (StoreLX a b c) = behind 0x08 _ _ (three 2 2 2 a b c)
instruction_spelled left (LoadGX a b c) = behind 0x09 _ _ (three 2 2 2 a b c)
instruction_spelled left (StoreGX a b c) = behind 0x0A _ _ (three 2 2 2 a b c)
instruction_spelled left (Index a b) = behind 0x0B _ _ (two 2 2 a b)
instruction_spelled left Add = behind 0x0C _ _ none
instruction_spelled left Sub = behind 0x0D _ _ none
instruction_spelled left Mul = behind 0x0E _ _ none
instruction_spelled left Neg = behind 0x0F _ _ none
instruction_spelled left DivI = behind 0x10 _ _ none
instruction_spelled left ModI = behind 0x11 _ _ none
instruction_spelled left DivC = behind 0x12 _ _ none
instruction_spelled left ModC = behind 0x13 _ _ none
instruction_spelled left Eq = behind 0x14 _ _ none
instruction_spelled left LessI = behind 0x15 _ _ none
instruction_spelled left LessC = behind 0x16 _ _ none
instruction_spelled left Not = behind 0x17 _ _ none
instruction_spelled left (CheckI a b) = behind 0x18 _ _ (two 2 2 a b)
instruction_spelled left (CheckC a b) = behind 0x19 _ _ (two 2 2 a b)
instruction_spelled left (Jump a) = behind 0x1A _ _ (one 4 a)
instruction_spelled left (JumpIf a) = behind 0x1B _ _ (one 4 a)
instruction_spelled left (JumpIfNot a) = behind 0x1C _ _ (one 4 a)
instruction_spelled left (JumpBack a) = behind 0x1D _ _ (one 4 a)
instruction_spelled left StrLen = behind 0x1E _ _ none
instruction_spelled left StrAt = behind 0x1F _ _ none
instruction_spelled left (Call a) = behind 0x20 _ _ (one 4 a)
instruction_spelled left (CallLink a) = behind 0x21 _ _ (one 4 a)
instruction_spelled left Return = behind 0x22 _ _ none
instruction_spelled left (Raise a) = behind 0x23 _ _ (one 4 a)
instruction_spelled left (RaiseLink a) = behind 0x24 _ _ (one 4 a)
instruction_spelled left (RaiseHost a) = behind 0x25 _ _ (one 1 a)
instruction_spelled left ArmEnd = behind 0x26 _ _ none
instruction_spelled left (Resume a) = behind 0x27 _ _ (one 2 a)
instruction_spelled left (Leave a b) = behind 0x28 _ _ (two 2 4 a b)
instruction_spelled left (LeaveReturn a) = behind 0x29 _ _ (one 2 a)
instruction_spelled left (Pop a) = behind 0x2A _ _ (one 2 a)
instruction_spelled left (Roll a b) = behind 0x2B _ _ (two 2 2 a b)
instruction_spelled left (ZeroL a b) = behind 0x2C _ _ (two 2 2 a b)
instruction_spelled left (ZeroG a b) = behind 0x2D _ _ (two 2 2 a b)
instruction_spelled left AddD = behind 0x2E _ _ none
instruction_spelled left SubD = behind 0x2F _ _ none
instruction_spelled left MulD = behind 0x30 _ _ none
instruction_spelled left NegD = behind 0x31 _ _ none
instruction_spelled left DivDI = behind 0x32 _ _ none
instruction_spelled left ModDI = behind 0x33 _ _ none
instruction_spelled left DivDC = behind 0x34 _ _ none
instruction_spelled left ModDC = behind 0x35 _ _ none
instruction_spelled left EqD = behind 0x36 _ _ none
instruction_spelled left LessDI = behind 0x37 _ _ none
instruction_spelled left LessDC = behind 0x38 _ _ none
instruction_spelled left WidenI = behind 0x39 _ _ none
instruction_spelled left WidenC = behind 0x3A _ _ none
instruction_spelled left NarrowI = behind 0x3B _ _ none
instruction_spelled left NarrowC = behind 0x3C _ _ none
instruction_spelled left CheckD = behind 0x3D _ _ none

full_spelled : (left : ℕ) (all : List CodeEntry) → spell_full bytes_of instruction left (instructions all) ≡ spell_all entry_bytes all
unfolding spell_full spell_all
full_spelled left [] = refl
full_spelled left (e ∷ all) =
    ap (λ (t : List ℕ). t ++ spell_full bytes_of instruction (left - bytes_of e.instruction) (instructions all)) (instruction_spelled left e.instruction)
    ∙ ap (λ (t : List ℕ). entry_bytes e ++ t) (full_spelled (left - bytes_of e.instruction) all)

pub code_spelled : (all : List CodeEntry) → code.spell (instructions all) ≡ code_bytes all
unfolding code
code_spelled all = ap (λ (t : List ℕ). u32_bytes (code_size all) ++ t) (full_spelled (code_size all) all)

-- ---- labels, arms and phrases

module _ (signals : List CodeSignal) (links : List CodeLink) where
  label_spelled : (x : Label) → (label signals links).spell x ≡ label_bytes x
  unfolding label label_at own_label link_label
  label_spelled l.Any = refl
  label_spelled l.Unwind = refl
  label_spelled (l.Own n) = refl
  label_spelled (l.Link n) = refl
  label_spelled l.BoundsFault = refl
  label_spelled l.ZeroDivisor = refl

  arm_spelled : (a : Arm) → (arm signals links).spell a ≡ arm_bytes a
  unfolding arm
  arm_spelled a =
      ap (λ (t : List ℕ). t ++ (u16_bytes a.slot ++ (u16_bytes a.words ++ (u32_bytes a.start ++ u32_bytes a.end))))
      (list_spelled (at_least 1) (λ _. label signals links) label_bytes (λ _ x. label_spelled x) a.labels)

  phrase_spelled : (p : Phrase) → (phrase signals links).spell p ≡ phrase_bytes p
  unfolding phrase
  phrase_spelled p = ap (λ (t : List ℕ). u32_bytes p.from ++ (u32_bytes p.to ++ t)) (list_spelled (at_least 1) (λ _. arm signals links) arm_bytes (λ _ a. arm_spelled a) p.arms)

  arm_is_few : (a : Arm) → (arm signals links).fits a → ArmIsFew a
  unfolding arm
  arm_is_few a fits = fits.0.0.0

  phrase_is_few : (p : Phrase) → (phrase signals links).fits p → PhraseIsFew p
  unfolding phrase
  phrase_is_few p fits = record { few = fits.1.1.0.0; each = all_fit ArmIsFew (λ _. arm signals links) (λ _ a. arm_is_few a) [] p.arms fits.1.1.1.1 }

  -- ---- procedures

  pub procedure_spelled : (before : List ProcedurePart) (p : CodeProcedure) → (procedure signals links before).spell (procedure_part p) ≡ procedure_bytes p
  unfolding procedure
  procedure_spelled before p =
      ap (λ (t : List ℕ). name.spell p.name ++ (u16_bytes p.args ++ (u16_bytes p.results ++ (u16_bytes p.frame ++ (u32_bytes p.depth ++ (t ++ (list (at_least 0) (λ _. phrase signals links)).spell p.phrases))))))
      (code_spelled p.code)
      ∙ ap (λ (t : List ℕ). name.spell p.name ++ (u16_bytes p.args ++ (u16_bytes p.results ++ (u16_bytes p.frame ++ (u32_bytes p.depth ++ (code_bytes p.code ++ t))))))
      (list_spelled (at_least 0) (λ _. phrase signals links) phrase_bytes (λ _ q. phrase_spelled q) p.phrases)

  code_short : (all : List CodeEntry) → code.fits (instructions all) → code_size all < 2 ^ 32
  unfolding code
  code_short all fits = fits.0.0

  pub procedure_fits : (before : List ProcedurePart) (p : CodeProcedure) → (procedure signals links before).fits (procedure_part p) → ProcedureFits p
  unfolding procedure
  procedure_fits before p fits = record {
    named = fits.0;
    short = code_short p.code fits.1.1.1.1.1.0;
    few = fits.1.1.1.1.1.1.0.0;
    each = all_fit PhraseIsFew (λ _. phrase signals links) (λ _ q. phrase_is_few q) [] p.phrases fits.1.1.1.1.1.1.1.1;
  }

-- ---- signals and strings

pub signal_spelled : (s : CodeSignal) → signal.spell s ≡ signal_bytes s
unfolding signal signal_kind
signal_spelled s = refl

pub signal_fits : (s : CodeSignal) → signal.fits s → SignalFits s
unfolding signal
signal_fits s fits = fits.1.0

pub text_spelled : (s : List ℕ) → text.spell s ≡ text_bytes s
unfolding text
text_spelled s = refl

pub text_fits : (s : List ℕ) → text.fits s → TextFits s
unfolding text
text_fits s fits = fits.0.0
