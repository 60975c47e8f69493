use Rattle.depth_laws.proofs.Alike.{run_alike}
use Rattle.depth_laws.proofs.laws.depths_do_not_matter.Goals as goal

pub returns : goal.returns
returns c = run_alike
