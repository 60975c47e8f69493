use Rattle.std.proofs.Common.{Err}
use Rattle.image_loader.proofs.OneAnswer.{found_for, fault_for, only_image, first_fault}
use Rattle.image_loader.proofs.loading.load.Goals as goal

pub returns-in-Ok-clause-found : goal.returns-in-Ok-clause-found
returns-in-Ok-clause-found c = found_for c.args.images.items c.joined.result c.in-Ok.ensures.found.no_fault c.joined.ensures.joined

pub returns-in-Ok-clause-fault : goal.returns-in-Ok-clause-fault
returns-in-Ok-clause-fault c = fault_for c.args.images.items c.joined.result c.joined.ensures.memory

pub returns-in-Ok-clause-only : goal.returns-in-Ok-clause-only
returns-in-Ok-clause-only c =
    only_image c.args.images.items c.loads_come_once.ensures c.joined.result (found_for c.args.images.items c.joined.result c.in-Ok.ensures.found.no_fault c.joined.ensures.joined)
    (fault_for c.args.images.items c.joined.result c.joined.ensures.memory)

pub returns-in-Ok-clause-first : goal.returns-in-Ok-clause-first
returns-in-Ok-clause-first c =
    first_fault c.args.images.items c.loads_come_once.ensures c.joined.result (found_for c.args.images.items c.joined.result c.in-Ok.ensures.found.no_fault c.joined.ensures.joined)
    (fault_for c.args.images.items c.joined.result c.joined.ensures.memory)

pub returns-in-Err-clause-only : goal.returns-in-Err-clause-only
returns-in-Err-clause-only c = only_image c.args.images.items c.loads_come_once.ensures (Err c.in-Err.fault) tt c.in-Err.ensures.fault

pub returns-in-Err-clause-first : goal.returns-in-Err-clause-first
returns-in-Err-clause-first c = first_fault c.args.images.items c.loads_come_once.ensures (Err c.in-Err.fault) tt c.in-Err.ensures.fault
