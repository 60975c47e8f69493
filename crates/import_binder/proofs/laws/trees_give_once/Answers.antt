use Rattle.import_binder.proofs.Ordered.{trees_give_once}
use Rattle.import_binder.proofs.laws.trees_give_once.Goals as goal

pub returns : goal.returns
returns c = trees_give_once
