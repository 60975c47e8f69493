use Rattle.written_trees.proofs.Alone.{stand_alone}
use Rattle.written_trees.proofs.laws.checked_texts_stand_alone.Goals as goal

pub returns : goal.returns
returns c = stand_alone c.shapes_are_given.ensures
