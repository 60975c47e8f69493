use Rattle.loaded_runs.proofs.Outermost.{made_trees_have}
use Rattle.loaded_runs.proofs.laws.made_trees_have_an_outermost_scope.Goals as goal

pub returns : goal.returns
returns c = made_trees_have
