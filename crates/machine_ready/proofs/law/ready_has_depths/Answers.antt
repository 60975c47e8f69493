use Rattle.machine_ready.proofs.Planned.{planned_depths}
use Rattle.machine_ready.proofs.law.ready_has_depths.Goals as goal

pub returns : goal.returns
returns c image p r = planned_depths image.modules p.tables.plans r.plans
