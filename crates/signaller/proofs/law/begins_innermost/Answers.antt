use Rattle.signaller.proofs.Surrounding.{begins_innermost}
use Rattle.signaller.proofs.law.begins_innermost.Goals as goal

pub returns : goal.returns
returns c = begins_innermost
