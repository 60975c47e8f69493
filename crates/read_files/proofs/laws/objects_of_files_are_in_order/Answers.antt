use Rattle.read_files.proofs.Files.{objects_of_files_are_in_order}
use Rattle.read_files.proofs.laws.objects_of_files_are_in_order.Goals as goal

pub returns : goal.returns
returns c = objects_of_files_are_in_order
