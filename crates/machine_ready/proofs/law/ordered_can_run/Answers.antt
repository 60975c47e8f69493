use Rattle.machine_ready.proofs.Running.{ordered_can_run}
use Rattle.machine_ready.proofs.law.ordered_can_run.Goals as goal

pub returns : goal.returns
returns c = ordered_can_run
