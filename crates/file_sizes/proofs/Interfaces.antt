-- The law of interfaces from its parts.
use Rattle.file_sizes.specs.Laws.{InterfacesAreSized}
use Rattle.file_sizes.proofs.BuiltIn.{built_in_sized}
use Rattle.file_sizes.proofs.Faces.{faces_sized, items_some, files_some}

pub interfaces_are_sized : InterfacesAreSized
interfaces_are_sized = record { faces = faces_sized; items = items_some; files = files_some; built_in = built_in_sized }
