use Rattle.std.proofs.Common.{refl}
use Rattle.object_readers.proofs.Made.{code_made}
use Rattle.object_readers.proofs.building.checked.Goals as goal

pub returns-in-Ok-clause-made : goal.returns-in-Ok-clause-made
returns-in-Ok-clause-made c = code_made c.args.code c.in-Ok.code c.in-Ok.ensures.same c.in-Ok.ensures.valid

pub returns-in-Err-clause-fault : goal.returns-in-Err-clause-fault
returns-in-Err-clause-fault c = record { bad = c.in-Err.bad; is = refl; first = c.in-Err.ensures.err }
