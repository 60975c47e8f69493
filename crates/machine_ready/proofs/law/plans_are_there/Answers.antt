use Rattle.machine_ready.proofs.Planned.{plans_there}
use Rattle.machine_ready.proofs.law.plans_are_there.Goals as goal

pub returns : goal.returns
returns c = plans_there
