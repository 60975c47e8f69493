use Rattle.loaded_runs.proofs.Outermost.{single_trees_have}
use Rattle.loaded_runs.proofs.laws.single_trees_have_an_outermost_scope.Goals as goal

pub returns : goal.returns
returns c = single_trees_have
