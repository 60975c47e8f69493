use Rattle.machine_signals.proofs.Faults.{bounds_raises, divisor_raises}
use Rattle.machine_signals.proofs.laws.faults_raise.Goals as goal

pub returns : goal.returns
returns c = record { bounds = bounds_raises; divisor = divisor_raises }
