use Rattle.command_passes.specs.Stops.{stop_case}
use Rattle.command_sources.specs.Bound.{configured}
use Rattle.command_sources.proofs.Filing.{is_made, not_ready}
use Rattle.command_sources.proofs.making.with_machine.Goals as goal

pub returns-in-Ok-clause-ok : goal.returns-in-Ok-clause-ok
returns-in-Ok-clause-ok c =
    is_made (configured c.args.source.now) c.args.base.now c.args.files c.requires.files c.in-Ok.machine c.in-Ok.ensures.same c.in-Ok.ensures.ok

pub returns-in-Err-clause-err : goal.returns-in-Err-clause-err
returns-in-Err-clause-err c =
    not_ready (configured c.args.source.now) c.args.base.now c.args.files c.requires.files c.in-Err.fault (stop_case c.unready.result) c.in-Err.ensures.err
    c.unready.ensures
