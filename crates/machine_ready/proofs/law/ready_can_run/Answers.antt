use Rattle.machine_ready.proofs.Running.{ready_can_run}
use Rattle.machine_ready.proofs.law.ready_can_run.Goals as goal

pub returns : goal.returns
returns c = ready_can_run
