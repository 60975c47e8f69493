-- What an instruction of valid code needs is there.
use Rattle.std.proofs.Common.{◌≡◌, ℕ, ◌+◌, ◌≤◌, arith}
use Rattle.code_forms.specs.declared.instruction.Instruction.{Instruction}
use Rattle.code_forms.specs.declared.instruction.Instruction.TheVariants.{Lit, Str, LoadL, StoreL, LoadG, StoreG, LoadLX, StoreLX, LoadGX, StoreGX, Index, Add, Sub, Mul, Neg, DivI, ModI, DivC, ModC, Eq, LessI, LessC, Not, CheckI, CheckC, JumpIf, JumpIfNot, StrLen, StrAt, Pop, Roll, ZeroL, ZeroG, AddD, SubD, MulD, NegD, DivDI, ModDI, DivDC, ModDC, EqD, LessDI, LessDC, WidenI, WidenC, NarrowI, NarrowC, CheckD}
use Rattle.code_forms.specs.declared.region.Region.{Region}
use Rattle.code_forms.specs.Depths.{depth_after}
use Rattle.code_forms.specs.Operands.{OperandsFit}
use Rattle.code_forms.specs.Routine.{Routine, moves}
use Rattle.machine_topmost.specs.declared.registers.Registers.{Registers}
use Rattle.machine_topmost.specs.Fits.{Fits, FitsOperator}

module _ (routine : Routine) (around : Region) (region globals floor depth : ℕ) (r : Registers) (deep : r.sp ≡ floor + depth) (apart : r.slots + routine.frame ≤ floor)
    (roomy : floor + routine.room ≤ region) (all : globals ≡ routine.globals) (below : depth ≤ routine.room) where
  pub fits : (i : Instruction) → (moves routine i).takes ≤ depth → depth_after routine i depth ≤ routine.room → OperandsFit routine around i → Fits i region globals r
  unfolding Fits FitsOperator
  fits (Lit w) enough room own = omega arith
  fits (Str k) enough room own = omega arith
  fits (LoadL x n) enough room own = (omega arith, omega arith)
  fits (StoreL x n) enough room own = ((omega arith, omega arith), omega arith)
  fits (LoadG x n) enough room own = (omega arith, omega arith)
  fits (StoreG x n) enough room own = ((omega arith, omega arith), omega arith)
  fits (LoadLX x e n) enough room own = ((omega arith, omega arith), omega (arith, own.0), omega arith)
  fits (StoreLX x e n) enough room own = ((omega arith, omega arith), omega (arith, own.0))
  fits (LoadGX x e n) enough room own = ((omega arith, omega arith), omega (arith, own.0), omega arith)
  fits (StoreGX x e n) enough room own = ((omega arith, omega arith), omega (arith, own.0))
  fits (Index c z) enough room own = (omega arith, omega arith)
  fits Add enough room own = (omega arith, omega arith)
  fits Sub enough room own = (omega arith, omega arith)
  fits Mul enough room own = (omega arith, omega arith)
  fits Neg enough room own = (omega arith, omega arith)
  fits DivI enough room own = (omega arith, omega arith)
  fits ModI enough room own = (omega arith, omega arith)
  fits DivC enough room own = (omega arith, omega arith)
  fits ModC enough room own = (omega arith, omega arith)
  fits Eq enough room own = (omega arith, omega arith)
  fits LessI enough room own = (omega arith, omega arith)
  fits LessC enough room own = (omega arith, omega arith)
  fits Not enough room own = (omega arith, omega arith)
  fits (CheckI a b) enough room own = (omega arith, omega arith)
  fits (CheckC a b) enough room own = (omega arith, omega arith)
  fits (JumpIf offset) enough room own = (omega arith, omega arith)
  fits (JumpIfNot offset) enough room own = (omega arith, omega arith)
  fits StrLen enough room own = (omega arith, omega arith)
  fits StrAt enough room own = (omega arith, omega arith)
  fits (Pop n) enough room own = (omega arith, omega arith)
  fits (Roll n k) enough room own = (omega arith, omega arith)
  fits (ZeroL x n) enough room own = (omega arith, omega arith)
  fits (ZeroG x n) enough room own = omega arith
  fits AddD enough room own = (omega arith, omega arith)
  fits SubD enough room own = (omega arith, omega arith)
  fits MulD enough room own = (omega arith, omega arith)
  fits NegD enough room own = (omega arith, omega arith)
  fits DivDI enough room own = (omega arith, omega arith)
  fits ModDI enough room own = (omega arith, omega arith)
  fits DivDC enough room own = (omega arith, omega arith)
  fits ModDC enough room own = (omega arith, omega arith)
  fits EqD enough room own = (omega arith, omega arith)
  fits LessDI enough room own = (omega arith, omega arith)
  fits LessDC enough room own = (omega arith, omega arith)
  fits WidenI enough room own = ((omega arith, omega arith), omega arith)
  fits WidenC enough room own = ((omega arith, omega arith), omega arith)
  fits NarrowI enough room own = (omega arith, omega arith)
  fits NarrowC enough room own = (omega arith, omega arith)
  fits CheckD enough room own = (omega arith, omega arith)
  fits _ enough room own = tt
