use Rattle.machine_signals.proofs.Framed.{arms_framed}
use Rattle.machine_signals.proofs.laws.frames_keep_arms.Goals as goal

pub returns : goal.returns
returns c = arms_framed
