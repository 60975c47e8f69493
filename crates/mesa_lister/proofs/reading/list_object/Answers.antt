use Rattle.object_rules.specs.ObjectFiles.{IsNoObjectFile}
use Rattle.mesa_lister.proofs.Wholes.{object_found, no_fault}
use Rattle.mesa_lister.proofs.reading.list_object.Goals as goal

pub returns-in-Ok-clause-found : goal.returns-in-Ok-clause-found
returns-in-Ok-clause-found c =
    object_found c.args.bytes.now c.in-Ok.ensures.found.0 c.in-Ok.object c.of_object.result c.in-Ok.ensures.found.1 c.of_object.ensures.listing

pub returns-in-Ok-clause-fault : goal.returns-in-Ok-clause-fault
returns-in-Ok-clause-fault c = no_fault (IsNoObjectFile c.args.bytes.now) c.of_object.result c.of_object.ensures.fault
