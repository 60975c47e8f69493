use Rattle.command_passes.specs.Stops.{stop_case}
use Rattle.command_loads.proofs.Alone.{filed_in_order, not_readied_alone, readied_alone}
use Rattle.command_loads.proofs.loading.readied.Goals as goal

pub ready-requires : goal.ready-requires
ready-requires c = filed_in_order c.images_of_files_are_in_order.ensures c.args.image c.requires.filed

pub returns-in-Ok : goal.returns-in-Ok
returns-in-Ok c = readied_alone c.args.base.now c.args.image c.in-Ok.machine c.requires.filed c.in-Ok.ensures.ok c.in-Ok.ensures.host

pub returns-in-Err : goal.returns-in-Err
returns-in-Err c = not_readied_alone c.args.base.now c.args.image c.in-Err.fault (stop_case c.unready.result) c.in-Err.ensures.err c.unready.ensures
