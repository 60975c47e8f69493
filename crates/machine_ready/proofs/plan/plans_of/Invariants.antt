use Rattle.std.proofs.Common.{take}
use Rattle.std.specs.List.{AllZip}
use Rattle.machine_ready.specs.Ready.{IsPlan}
use Rattle.machine_ready.proofs.plan.plans_of.Given as goal

abbrev pub invariant-loop-procedure : goal.invariant-loop-procedure
invariant-loop-procedure l = AllZip IsPlan (take l.procedure-index l.procedures) l.plans
