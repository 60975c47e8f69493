use Rattle.machine_ready.proofs.Preparing.{ready_is_prepared}
use Rattle.machine_ready.proofs.law.ready_is_prepared.Goals as goal

pub returns : goal.returns
returns c = ready_is_prepared
