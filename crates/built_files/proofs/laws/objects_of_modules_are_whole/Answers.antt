use Rattle.built_files.proofs.Modules.{objects_are_whole}
use Rattle.built_files.proofs.laws.objects_of_modules_are_whole.Goals as goal

pub returns : goal.returns
returns c = objects_are_whole
