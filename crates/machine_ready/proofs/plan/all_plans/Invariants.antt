use Rattle.std.proofs.Common.{take}
use Rattle.std.specs.List.{AllZip}
use Rattle.machine_ready.specs.Ready.{IsPlanned}
use Rattle.machine_ready.proofs.plan.all_plans.Given as goal

abbrev pub invariant-loop-object : goal.invariant-loop-object
invariant-loop-object l = AllZip IsPlanned (take l.object-index l.modules) l.plans
