-- What an instruction needs of the region, of the globals and of the registers (rule of this project).
use Rattle.std.specs.Prelude.{ℕ, ◌+◌, ◌-◌, ◌≤◌}
use Rattle.code_forms.specs.declared.instruction.Instruction.{Instruction}
use Rattle.code_forms.specs.declared.instruction.Instruction.TheVariants.{Lit, Str, LoadL, StoreL, LoadG, StoreG, LoadLX, StoreLX, LoadGX, StoreGX, Index, Add, Sub, Mul, Neg, DivI, ModI, DivC, ModC, Eq, LessI, LessC, Not, CheckI, CheckC, JumpIf, JumpIfNot, StrLen, StrAt, Pop, Roll, ZeroL, ZeroG, AddD, SubD, MulD, NegD, DivDI, ModDI, DivDC, ModDC, EqD, LessDI, LessDC, WidenI, WidenC, NarrowI, NarrowC, CheckD}
use Rattle.machine_topmost.specs.declared.registers.Registers.{Registers}

-- operands are there, in a region of so many words
abbrev pub Holds : ℕ → ℕ → Registers → Type 0
Holds count length r = (count ≤ r.sp) × (r.sp ≤ length)

-- operands are there; where a word becomes a LONG number, there is room for one word more
unfoldable pub FitsOperator : Instruction → (region : ℕ) → Registers → Type 0
FitsOperator (Index c z) region r = Holds 2 region r
FitsOperator Add region r = Holds 2 region r
FitsOperator Sub region r = Holds 2 region r
FitsOperator Mul region r = Holds 2 region r
FitsOperator Neg region r = Holds 1 region r
FitsOperator DivI region r = Holds 2 region r
FitsOperator ModI region r = Holds 2 region r
FitsOperator DivC region r = Holds 2 region r
FitsOperator ModC region r = Holds 2 region r
FitsOperator Eq region r = Holds 2 region r
FitsOperator LessI region r = Holds 2 region r
FitsOperator LessC region r = Holds 2 region r
FitsOperator Not region r = Holds 1 region r
FitsOperator (CheckI a b) region r = Holds 1 region r
FitsOperator (CheckC a b) region r = Holds 1 region r
FitsOperator StrLen region r = Holds 2 region r
FitsOperator StrAt region r = Holds 3 region r
FitsOperator AddD region r = Holds 4 region r
FitsOperator SubD region r = Holds 4 region r
FitsOperator MulD region r = Holds 4 region r
FitsOperator NegD region r = Holds 2 region r
FitsOperator DivDI region r = Holds 4 region r
FitsOperator ModDI region r = Holds 4 region r
FitsOperator DivDC region r = Holds 4 region r
FitsOperator ModDC region r = Holds 4 region r
FitsOperator EqD region r = Holds 4 region r
FitsOperator LessDI region r = Holds 4 region r
FitsOperator LessDC region r = Holds 4 region r
FitsOperator WidenI region r = Holds 1 region r × (r.sp + 1 ≤ region)
FitsOperator WidenC region r = Holds 1 region r × (r.sp + 1 ≤ region)
FitsOperator NarrowI region r = Holds 2 region r
FitsOperator NarrowC region r = Holds 2 region r
FitsOperator CheckD region r = Holds 2 region r
FitsOperator _ region r = Unit {0}

-- operands are there and stand behind the variables, as far as these go; there is room for what is pushed
unfoldable pub Fits : Instruction → (region globals : ℕ) → Registers → Type 0
Fits (Lit w) region globals r = r.sp + 1 ≤ region
Fits (Str k) region globals r = r.sp + 2 ≤ region
Fits (LoadL x n) region globals r = (r.slots + x + n ≤ r.sp) × (r.sp + n ≤ region)
Fits (StoreL x n) region globals r = Holds n region r × (r.slots + x + n ≤ r.sp - n)
Fits (LoadG x n) region globals r = (x + n ≤ globals) × (r.sp + n ≤ region)
Fits (StoreG x n) region globals r = Holds n region r × (x + n ≤ globals)
Fits (LoadLX x e n) region globals r = Holds 1 region r × (r.slots + x + e ≤ r.sp - 1) × (r.sp - 1 + n ≤ region)
Fits (StoreLX x e n) region globals r = Holds (n + 1) region r × (r.slots + x + e ≤ r.sp - (n + 1))
Fits (LoadGX x e n) region globals r = Holds 1 region r × (x + e ≤ globals) × (r.sp - 1 + n ≤ region)
Fits (StoreGX x e n) region globals r = Holds (n + 1) region r × (x + e ≤ globals)
Fits (Pop n) region globals r = Holds n region r
Fits (Roll n k) region globals r = Holds (n + k) region r
Fits (ZeroL x n) region globals r = (r.slots + x + n ≤ r.sp) × (r.sp ≤ region)
Fits (ZeroG x n) region globals r = x + n ≤ globals
Fits (JumpIf offset) region globals r = Holds 1 region r
Fits (JumpIfNot offset) region globals r = Holds 1 region r
Fits i region globals r = FitsOperator i region r
