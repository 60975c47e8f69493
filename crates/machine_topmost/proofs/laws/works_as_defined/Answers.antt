use Rattle.machine_topmost.proofs.Stepping.{works_as_defined}
use Rattle.machine_topmost.proofs.laws.works_as_defined.Goals as goal

pub returns : goal.returns
returns c = works_as_defined
