use Rattle.listed_files.specs.Listings.{LacksInterface}
use Rattle.mesa_lister.proofs.Wholes.{interface_found, no_fault, interface_fault}
use Rattle.mesa_lister.proofs.reading.list_interface.Goals as goal

pub returns-in-Ok-clause-found : goal.returns-in-Ok-clause-found
returns-in-Ok-clause-found c =
    interface_found c.args.bytes.now c.in-Ok.ensures.found.0 c.in-Ok.interface c.of_interface.result c.in-Ok.ensures.found.1 c.of_interface.ensures.listing

pub returns-in-Ok-clause-fault : goal.returns-in-Ok-clause-fault
returns-in-Ok-clause-fault c = no_fault (LacksInterface c.args.bytes.now) c.of_interface.result c.of_interface.ensures.fault

pub returns-in-Err-clause-fault : goal.returns-in-Err-clause-fault
returns-in-Err-clause-fault c = λ other. interface_fault c.args.bytes.now c.in-Err.fault c.file_fault.result c.file_fault.ensures c.in-Err.ensures.fault other
