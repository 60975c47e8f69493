use Rattle.include_checker.proofs.Plans.{circle_is}
use Rattle.include_checker.proofs.planning.planned.Goals as goal

pub returns-in-Ok-Circling-clause-cycle : goal.returns-in-Ok-Circling-clause-cycle
returns-in-Ok-Circling-clause-cycle c = λ other. circle_is c.args.names.now c.in-Ok-Circling.field-0 c.in-Ok-Circling.cycle c.in-Ok-Circling.field-0-is c.in-Ok-Circling.ensures
