use Rattle.std.proofs.Common.{◌≡◌, ℕ, List, None, sym, subst}
use Rattle.code_forms.specs.declared.instruction.Instruction.{Instruction}
use Rattle.machine_topmost.specs.declared.registers.Registers.{Registers}
use Rattle.machine_topmost.specs.Flat.{FlowsInRegion, operates_long}
use Rattle.machine_topmost.proofs.long_operate.operate_apart.Goals as goal

row : (i j : Instruction) (old new : List ℕ) (r q : Registers) → i ≡ j → FlowsInRegion (operates_long j) None old new r q → FlowsInRegion (operates_long i) None old new r q
row i j old new r q is flows = subst (λ k. FlowsInRegion (operates_long k) None old new r q) (sym is) flows

pub returns-in-AddD : goal.returns-in-AddD
unfolding operates_long
returns-in-AddD c = row _ _ _ _ _ _ c.in-AddD.is c.add.ensures

pub returns-in-SubD : goal.returns-in-SubD
unfolding operates_long
returns-in-SubD c = row _ _ _ _ _ _ c.in-SubD.is c.subtract.ensures

pub returns-in-MulD : goal.returns-in-MulD
unfolding operates_long
returns-in-MulD c = row _ _ _ _ _ _ c.in-MulD.is c.multiply.ensures

pub returns-in-NegD : goal.returns-in-NegD
unfolding operates_long
returns-in-NegD c = row _ _ _ _ _ _ c.in-NegD.is c.negate.ensures

pub returns-in-EqD : goal.returns-in-EqD
unfolding operates_long
returns-in-EqD c = row _ _ _ _ _ _ c.in-EqD.is c.equal.ensures

pub returns-in-LessDI : goal.returns-in-LessDI
unfolding operates_long
returns-in-LessDI c = row _ _ _ _ _ _ c.in-LessDI.is c.less.ensures

pub returns-in-LessDC : goal.returns-in-LessDC
unfolding operates_long
returns-in-LessDC c = row _ _ _ _ _ _ c.in-LessDC.is c.less-in-LessDC.ensures

pub returns-in-WidenI : goal.returns-in-WidenI
unfolding operates_long
returns-in-WidenI c = row _ _ _ _ _ _ c.in-WidenI.is c.widen.ensures

pub returns-in-WidenC : goal.returns-in-WidenC
unfolding operates_long
returns-in-WidenC c = row _ _ _ _ _ _ c.in-WidenC.is c.widen-in-WidenC.ensures
