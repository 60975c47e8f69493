use Rattle.machine_signals.proofs.Raisers.{predeclared_raises}
use Rattle.machine_signals.proofs.laws.predeclared_raise.Goals as goal

pub returns : goal.returns
returns c = predeclared_raises
