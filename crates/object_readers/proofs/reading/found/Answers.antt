use Rattle.object_readers.proofs.Wholes.{rows_in_range, object_found, code_fault_found, file_fault_found}
use Rattle.object_readers.proofs.reading.found.Goals as goal

pub object-requires-clause-ranges : goal.object-requires-clause-ranges
object-requires-clause-ranges c = rows_in_range c.in-Ok.ensures.found.0 c.in-Ok.rows c.in-Ok.ensures.whole c.in-Ok.ensures.found.1.spells.fits.1

pub returns-in-Ok-clause-found : goal.returns-in-Ok-clause-found
returns-in-Ok-clause-found c = object_found c.args.bytes.now c.in-Ok.ensures.found.0 c.in-Ok.rows c.object.result c.in-Ok.ensures.found.1 c.object.ensures.made

pub returns-in-Ok-clause-fault : goal.returns-in-Ok-clause-fault
returns-in-Ok-clause-fault c = code_fault_found c.args.bytes.now c.in-Ok.ensures.found.0 c.in-Ok.rows c.object.result c.in-Ok.ensures.found.1 c.object.ensures.fault

pub returns-in-Err-clause-fault : goal.returns-in-Err-clause-fault
returns-in-Err-clause-fault c = λ other. file_fault_found c.args.bytes.now c.in-Err.fault c.file_fault.result c.file_fault.ensures c.in-Err.ensures.fault other
