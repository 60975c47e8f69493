use Rattle.machine_ready.proofs.Running.{parts_fit}
use Rattle.machine_ready.proofs.law.parts_fit.Goals as goal

pub returns : goal.returns
returns c = parts_fit
