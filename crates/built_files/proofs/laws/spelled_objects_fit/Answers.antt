use Rattle.built_files.proofs.ObjectFits.{objects_fit}
use Rattle.built_files.proofs.laws.spelled_objects_fit.Goals as goal

pub returns : goal.returns
returns c = objects_fit
