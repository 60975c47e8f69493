use Rattle.built_files.proofs.Modules.{objects_of_modules_fit}
use Rattle.built_files.proofs.laws.objects_of_modules_fit.Goals as goal

pub returns : goal.returns
returns c = objects_of_modules_fit
