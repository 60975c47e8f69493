use Rattle.object_rules.specs.ImageFiles.{IsNoImageFile}
use Rattle.mesa_lister.proofs.Wholes.{image_found, no_fault}
use Rattle.mesa_lister.proofs.reading.list_image.Goals as goal

pub returns-in-Ok-clause-found : goal.returns-in-Ok-clause-found
returns-in-Ok-clause-found c =
    image_found c.args.bytes.now c.in-Ok.ensures.found.0 c.in-Ok.image c.of_image.result c.in-Ok.ensures.found.1 c.of_image.ensures.listing

pub returns-in-Ok-clause-fault : goal.returns-in-Ok-clause-fault
returns-in-Ok-clause-fault c = no_fault (IsNoImageFile c.args.bytes.now) c.of_image.result c.of_image.ensures.fault
