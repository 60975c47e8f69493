-- What files hold is in order.
use Rattle.read_files.specs.Laws.{ObjectsOfFilesAreInOrder, ImagesOfFilesAreInOrder}
use Rattle.read_files.proofs.Images.{images_are_in_order}
use Rattle.read_files.proofs.Shapes.{shapes_are_in_order}

pub objects_of_files_are_in_order : ObjectsOfFilesAreInOrder
objects_of_files_are_in_order version o bytes h = shapes_are_in_order version o h.file.spells.fits.1

pub images_of_files_are_in_order : ImagesOfFilesAreInOrder
images_of_files_are_in_order version i bytes h = images_are_in_order version i h.file.spells.fits.1 h.whole
