use Rattle.object_readers.proofs.Made.{object_made, has_fault}
use Rattle.object_readers.proofs.building.object.Goals as goal

pub returns-in-Ok-clause-made : goal.returns-in-Ok-clause-made
returns-in-Ok-clause-made c = object_made c.args.rows c.in-Ok.code c.requires.rows c.in-Ok.ensures.made

pub returns-in-Err-clause-fault : goal.returns-in-Err-clause-fault
returns-in-Err-clause-fault c = λ other. has_fault c.args.number c.args.rows c.in-Err.fault c.requires.rows (c.in-Err.ensures.fault other)
