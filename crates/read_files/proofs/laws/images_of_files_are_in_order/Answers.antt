use Rattle.read_files.proofs.Files.{images_of_files_are_in_order}
use Rattle.read_files.proofs.laws.images_of_files_are_in_order.Goals as goal

pub returns : goal.returns
returns c = images_of_files_are_in_order
