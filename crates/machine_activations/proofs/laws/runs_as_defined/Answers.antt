use Rattle.machine_activations.proofs.Defined.{runs_as_defined}
use Rattle.machine_activations.proofs.laws.runs_as_defined.Goals as goal

pub returns : goal.returns
returns c = runs_as_defined
