use Rattle.command_plans.proofs.Conclusions.{circling_so, planned_so}
use Rattle.command_plans.proofs.report.text_of_plan.Goals as goal

pub returns-in_ok-plan_lines-in-Ok : goal.returns-in_ok-plan_lines-in-Ok
returns-in_ok-plan_lines-in-Ok c = λ made are.
    planned_so c.args.gathered.now made are c.in-Ok.plan c.in_ok-plan_lines-in-Ok.field-0 c.in-Ok.ensures.found c.in_ok-plan_lines-in-Ok.ensures

pub returns-in_ok-circling-in-Err-Cycle : goal.returns-in_ok-circling-in-Err-Cycle
returns-in_ok-circling-in-Err-Cycle c = λ made are _.
    let none = rw c.in-Err-Cycle.field-0-is at c.in-Err-Cycle.ensures.cycle in
    circling_so c.args.gathered.now made are c.in-Err-Cycle.cycle c.in_ok-circling-in-Err-Cycle.field-0 (none (λ no. cc))
    (rw c.as_slice.ensures at c.in_ok-circling-in-Err-Cycle.ensures)
