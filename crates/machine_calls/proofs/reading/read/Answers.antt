use Rattle.machine_calls.proofs.HostReads.{breaks}
use Rattle.machine_calls.proofs.reading.read.Goals as goal

pub returns-in_err-coming-clause-breaks : goal.returns-in_err-coming-clause-breaks
returns-in_err-coming-clause-breaks g c = breaks c.args.region.now c.args.r c.args.reading

pub returns-clause-breaks : goal.returns-clause-breaks
returns-clause-breaks g c = breaks c.args.region.now c.args.r c.args.reading
