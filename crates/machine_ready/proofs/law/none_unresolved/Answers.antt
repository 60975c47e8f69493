use Rattle.machine_ready.proofs.Offered.{none_unresolved}
use Rattle.machine_ready.proofs.law.none_unresolved.Goals as goal

pub returns : goal.returns
returns c = none_unresolved
