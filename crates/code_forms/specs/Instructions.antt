-- The table of the instructions (rule of this project): the number of each, its length in bytes, its name, and how many words it
-- takes from the operand stack and then puts there. Words that it looks at or moves and leaves there count as taken and put back.
use Rattle.std.specs.Prelude.{ℕ, ◌+◌, List, codes}
use Rattle.code_forms.specs.declared.instruction.Instruction.{Instruction}
use Rattle.code_forms.specs.declared.instruction.Instruction.TheVariants.{Lit, Str, LoadL, StoreL, LoadG, StoreG, LoadLX, StoreLX, LoadGX, StoreGX, Index, Add, Sub, Mul, Neg, DivI, ModI, DivC, ModC, Eq, LessI, LessC, Not, CheckI, CheckC, Jump, JumpIf, JumpIfNot, JumpBack, StrLen, StrAt, Call, CallLink, Return, Raise, RaiseLink, RaiseHost, ArmEnd, Resume, Leave, LeaveReturn, Pop, Roll, ZeroL, ZeroG, AddD, SubD, MulD, NegD, DivDI, ModDI, DivDC, ModDC, EqD, LessDI, LessDC, WidenI, WidenC, NarrowI, NarrowC, CheckD}

-- so many words are taken and put; or the arguments and the results of a procedure, a signal or a link
pub data Effect : Type 0 where
  Fixed : (takes puts : ℕ) → Effect
  OfProcedure : (procedure : ℕ) → Effect
  OfSignal : (signal : ℕ) → Effect
  OfLink : (link : ℕ) → Effect

pub record Row : Type 0 where
  pub number : ℕ
  pub bytes : ℕ
  pub name : List ℕ
  pub effect : Effect

abbrev pub row_of : ℕ → ℕ → List ℕ → Effect → Row
row_of number bytes name effect = record { number = number; bytes = bytes; name = name; effect = effect }

-- an operand is a word of two bytes, save the targets and the numbers of procedures, signals and links, of four, and the number of
-- RaiseHost, of one
abbrev pub row : Instruction → Row
row (Lit word) = row_of 0x01 3 (codes "Lit") (Fixed 0 1)
row (Str literal) = row_of 0x02 3 (codes "Str") (Fixed 0 2)
row (LoadL slot words) = row_of 0x03 5 (codes "LoadL") (Fixed 0 words)
row (StoreL slot words) = row_of 0x04 5 (codes "StoreL") (Fixed words 0)
row (LoadG slot words) = row_of 0x05 5 (codes "LoadG") (Fixed 0 words)
row (StoreG slot words) = row_of 0x06 5 (codes "StoreG") (Fixed words 0)
row (LoadLX slot extent words) = row_of 0x07 7 (codes "LoadLX") (Fixed 1 words)
row (StoreLX slot extent words) = row_of 0x08 7 (codes "StoreLX") (Fixed (words + 1) 0)
row (LoadGX slot extent words) = row_of 0x09 7 (codes "LoadGX") (Fixed 1 words)
row (StoreGX slot extent words) = row_of 0x0A 7 (codes "StoreGX") (Fixed (words + 1) 0)
row (Index count size) = row_of 0x0B 5 (codes "Index") (Fixed 2 1)
row Add = row_of 0x0C 1 (codes "Add") (Fixed 2 1)
row Sub = row_of 0x0D 1 (codes "Sub") (Fixed 2 1)
row Mul = row_of 0x0E 1 (codes "Mul") (Fixed 2 1)
row Neg = row_of 0x0F 1 (codes "Neg") (Fixed 1 1)
row DivI = row_of 0x10 1 (codes "DivI") (Fixed 2 1)
row ModI = row_of 0x11 1 (codes "ModI") (Fixed 2 1)
row DivC = row_of 0x12 1 (codes "DivC") (Fixed 2 1)
row ModC = row_of 0x13 1 (codes "ModC") (Fixed 2 1)
row Eq = row_of 0x14 1 (codes "Eq") (Fixed 2 1)
row LessI = row_of 0x15 1 (codes "LessI") (Fixed 2 1)
row LessC = row_of 0x16 1 (codes "LessC") (Fixed 2 1)
row Not = row_of 0x17 1 (codes "Not") (Fixed 1 1)
row (CheckI least most) = row_of 0x18 5 (codes "CheckI") (Fixed 1 1)
row (CheckC least most) = row_of 0x19 5 (codes "CheckC") (Fixed 1 1)
row (Jump target) = row_of 0x1A 5 (codes "Jump") (Fixed 0 0)
row (JumpIf target) = row_of 0x1B 5 (codes "JumpIf") (Fixed 1 0)
row (JumpIfNot target) = row_of 0x1C 5 (codes "JumpIfNot") (Fixed 1 0)
row (JumpBack target) = row_of 0x1D 5 (codes "JumpBack") (Fixed 0 0)
row StrLen = row_of 0x1E 1 (codes "StrLen") (Fixed 2 1)
row StrAt = row_of 0x1F 1 (codes "StrAt") (Fixed 3 1)
row (Call procedure) = row_of 0x20 5 (codes "Call") (OfProcedure procedure)
row (CallLink link) = row_of 0x21 5 (codes "CallLink") (OfLink link)
row Return = row_of 0x22 1 (codes "Return") (Fixed 0 0)
row (Raise signal) = row_of 0x23 5 (codes "Raise") (OfSignal signal)
row (RaiseLink link) = row_of 0x24 5 (codes "RaiseLink") (OfLink link)
row (RaiseHost fault) = row_of 0x25 2 (codes "RaiseHost") (Fixed 0 0)
row ArmEnd = row_of 0x26 1 (codes "ArmEnd") (Fixed 0 0)
row (Resume words) = row_of 0x27 3 (codes "Resume") (Fixed words 0)
row (Leave arms target) = row_of 0x28 7 (codes "Leave") (Fixed 0 0)
row (LeaveReturn arms) = row_of 0x29 3 (codes "LeaveReturn") (Fixed 0 0)
row (Pop words) = row_of 0x2A 3 (codes "Pop") (Fixed words 0)
row (Roll words over) = row_of 0x2B 5 (codes "Roll") (Fixed (words + over) (words + over))
row (ZeroL slot words) = row_of 0x2C 5 (codes "ZeroL") (Fixed 0 0)
row (ZeroG slot words) = row_of 0x2D 5 (codes "ZeroG") (Fixed 0 0)
row AddD = row_of 0x2E 1 (codes "AddD") (Fixed 4 2)
row SubD = row_of 0x2F 1 (codes "SubD") (Fixed 4 2)
row MulD = row_of 0x30 1 (codes "MulD") (Fixed 4 2)
row NegD = row_of 0x31 1 (codes "NegD") (Fixed 2 2)
row DivDI = row_of 0x32 1 (codes "DivDI") (Fixed 4 2)
row ModDI = row_of 0x33 1 (codes "ModDI") (Fixed 4 2)
row DivDC = row_of 0x34 1 (codes "DivDC") (Fixed 4 2)
row ModDC = row_of 0x35 1 (codes "ModDC") (Fixed 4 2)
row EqD = row_of 0x36 1 (codes "EqD") (Fixed 4 1)
row LessDI = row_of 0x37 1 (codes "LessDI") (Fixed 4 1)
row LessDC = row_of 0x38 1 (codes "LessDC") (Fixed 4 1)
row WidenI = row_of 0x39 1 (codes "WidenI") (Fixed 1 2)
row WidenC = row_of 0x3A 1 (codes "WidenC") (Fixed 1 2)
row NarrowI = row_of 0x3B 1 (codes "NarrowI") (Fixed 2 1)
row NarrowC = row_of 0x3C 1 (codes "NarrowC") (Fixed 2 1)
row CheckD = row_of 0x3D 1 (codes "CheckD") (Fixed 2 2)

abbrev pub number_of : Instruction → ℕ
number_of i = (row i).number

-- the length in bytes
abbrev pub bytes_of : Instruction → ℕ
bytes_of i = (row i).bytes

abbrev pub name_of : Instruction → List ℕ
name_of i = (row i).name

abbrev pub effect_of : Instruction → Effect
effect_of i = (row i).effect
