-- Where the numbers in a block fit the types of the code, its bytes do.
use Rattle.std.proofs.Common.{◌≡◌, ◌≤◌, true, false, arith}
use Rattle.code_forms.specs.declared.instruction.Instruction.{Instruction}
use Rattle.code_forms.specs.declared.instruction.Instruction.TheVariants as i
use Rattle.code_forms.specs.Instructions.{bytes_of}
use Rattle.code_blocks.specs.Blocks.{Anyhow, Where, Block, Does, Calls, Both, Ends, Out, Goes, Rounds, Enables}
use Rattle.code_blocks.specs.Sizes.{size, goes_to}
use Rattle.code_trees.specs.Excess.{excess}

pub instruction_bytes : (x : Instruction) → bytes_of x ≤ 7
instruction_bytes (i.Lit word) = omega arith
instruction_bytes (i.Str literal) = omega arith
instruction_bytes (i.LoadL slot words) = omega arith
instruction_bytes (i.StoreL slot words) = omega arith
instruction_bytes (i.LoadG slot words) = omega arith
instruction_bytes (i.StoreG slot words) = omega arith
instruction_bytes (i.LoadLX slot extent words) = omega arith
instruction_bytes (i.StoreLX slot extent words) = omega arith
instruction_bytes (i.LoadGX slot extent words) = omega arith
instruction_bytes (i.StoreGX slot extent words) = omega arith
instruction_bytes (i.Index count size) = omega arith
instruction_bytes i.Add = omega arith
instruction_bytes i.Sub = omega arith
instruction_bytes i.Mul = omega arith
instruction_bytes i.Neg = omega arith
instruction_bytes i.DivI = omega arith
instruction_bytes i.ModI = omega arith
instruction_bytes i.DivC = omega arith
instruction_bytes i.ModC = omega arith
instruction_bytes i.Eq = omega arith
instruction_bytes i.LessI = omega arith
instruction_bytes i.LessC = omega arith
instruction_bytes i.Not = omega arith
instruction_bytes (i.CheckI least most) = omega arith
instruction_bytes (i.CheckC least most) = omega arith
instruction_bytes (i.Jump target) = omega arith
instruction_bytes (i.JumpIf target) = omega arith
instruction_bytes (i.JumpIfNot target) = omega arith
instruction_bytes (i.JumpBack target) = omega arith
instruction_bytes i.StrLen = omega arith
instruction_bytes i.StrAt = omega arith
instruction_bytes (i.Call procedure) = omega arith
instruction_bytes (i.CallLink link) = omega arith
instruction_bytes i.Return = omega arith
instruction_bytes (i.Raise signal) = omega arith
instruction_bytes (i.RaiseLink link) = omega arith
instruction_bytes (i.RaiseHost fault) = omega arith
instruction_bytes i.ArmEnd = omega arith
instruction_bytes (i.Resume words) = omega arith
instruction_bytes (i.Leave arms target) = omega arith
instruction_bytes (i.LeaveReturn arms) = omega arith
instruction_bytes (i.Pop words) = omega arith
instruction_bytes (i.Roll words over) = omega arith
instruction_bytes (i.ZeroL slot words) = omega arith
instruction_bytes (i.ZeroG slot words) = omega arith
instruction_bytes i.AddD = omega arith
instruction_bytes i.SubD = omega arith
instruction_bytes i.MulD = omega arith
instruction_bytes i.NegD = omega arith
instruction_bytes i.DivDI = omega arith
instruction_bytes i.ModDI = omega arith
instruction_bytes i.DivDC = omega arith
instruction_bytes i.ModDC = omega arith
instruction_bytes i.EqD = omega arith
instruction_bytes i.LessDI = omega arith
instruction_bytes i.LessDC = omega arith
instruction_bytes i.WidenI = omega arith
instruction_bytes i.WidenC = omega arith
instruction_bytes i.NarrowI = omega arith
instruction_bytes i.NarrowC = omega arith
instruction_bytes i.CheckD = omega arith

pub size_fits : (b : Block) → excess b ≡ 0 → size b ≤ 4294967295
unfolding excess
size_fits (Does is) h = omega arith
size_fits (Calls call takes puts arms) h = omega (arith, instruction_bytes call)
size_fits (Both b c) h = omega arith
size_fits (Ends mark b) h = size_fits b h
size_fits (Out Anyhow part) h = omega arith
size_fits (Out (Where true) part) h = omega arith
size_fits (Out (Where false) part) h = omega arith
size_fits (Goes arms p) h = omega (arith, instruction_bytes (goes_to arms p 0))
size_fits (Rounds b) h = omega arith
size_fits (Enables arms b) h = size_fits b (omega arith)
