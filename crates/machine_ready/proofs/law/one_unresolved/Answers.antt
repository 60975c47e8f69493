use Rattle.machine_ready.proofs.Offered.{one_unresolved}
use Rattle.machine_ready.proofs.law.one_unresolved.Goals as goal

pub returns : goal.returns
returns c = one_unresolved
