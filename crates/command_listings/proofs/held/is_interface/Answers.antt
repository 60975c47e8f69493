use Rattle.command_passes.specs.command_rules.specs.Listing.{is_interface}
use Rattle.command_passes.specs.command_rules.specs.Writing.{OfInterface}
use Rattle.command_listings.proofs.Faults.{lacks_interface}
use Rattle.command_listings.proofs.held.is_interface.Goals as goal

pub returns-in-Ok-clause-held : goal.returns-in-Ok-clause-held
returns-in-Ok-clause-held c = (OfInterface c.in-Ok.interface, λ file. is_interface c.in-Ok.ensures.found.0 c.in-Ok.interface c.in-Ok.ensures.found.1)

pub returns-in-Err-clause-fault : goal.returns-in-Err-clause-fault
returns-in-Err-clause-fault c = λ other.
    lacks_interface c.args.bytes.now c.in-Err.fault c.file_fault.result c.in-Err.ensures.fault c.file_fault.ensures other
