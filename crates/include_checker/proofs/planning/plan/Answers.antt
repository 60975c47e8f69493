use Rattle.std.specs.Prelude.{◌≢◌, IfErr, IfOk}
use Rattle.include_rules.specs.Plans.{IsPlan, HasNoPlan}
use Rattle.include_rules.specs.declared.plan.PlanFault.TheVariants.{Memory}
use Rattle.include_checker.proofs.Plans.{found_for, fault_for, only_plan, first_fault}
use Rattle.include_checker.proofs.planning.plan.Goals as goal
use Rattle.include_checker.proofs.planning.plan.Goals.{After-drop-names-inside}

found : (c : After-drop-names-inside) → IfOk c.planned.result (IsPlan c.args.texts.now c.args.files.now)
found c = found_for c.args.texts.now c.args.files.now c.in-Ok.names c.planned.result c.in-Ok.ensures.looks c.planned.ensures.found

fault : (c : After-drop-names-inside) → IfErr c.planned.result (λ e. e ≢ Memory → HasNoPlan c.args.texts.now e)
fault c = fault_for c.args.texts.now c.in-Ok.names c.planned.result c.in-Ok.ensures.looks c.planned.ensures.cycle

pub returns-in-Ok-clause-found : goal.returns-in-Ok-clause-found
returns-in-Ok-clause-found c = found c

pub returns-in-Ok-clause-cycle : goal.returns-in-Ok-clause-cycle
returns-in-Ok-clause-cycle c = fault c

pub returns-in-Ok-clause-only : goal.returns-in-Ok-clause-only
returns-in-Ok-clause-only c = only_plan c.plans_come_once.ensures c.args.texts.now c.args.files.now c.planned.result (found c) (fault c)

pub returns-in-Ok-clause-first : goal.returns-in-Ok-clause-first
returns-in-Ok-clause-first c = first_fault c.plans_come_once.ensures c.args.texts.now c.args.files.now c.planned.result (found c) (fault c)
