use Rattle.command_lines.specs.Words.{source_in as form_source}
use Rattle.command_sources.specs.Bound.{configured}
use Rattle.mesa_command.proofs.Calls.{goes_to, not_built}
use Rattle.mesa_command.proofs.going.built.Goals as goal

pub returns-in-Ok : goal.returns-in-Ok
returns-in-Ok g c =
    let given = c.in-Ok.ensures.passes in
    goes_to (form_source c.args.source) c.args.base.now (configured c.in-Ok.bound) _ _ _ c.source_written-machine.result given
    (c.source_written-machine.ensures given.trail _ given.asked)

pub returns-in-Err : goal.returns-in-Err
returns-in-Err g c = not_built (form_source c.args.source) c.args.base.now _ _ c.in-Err.why c.in-Err.ensures.passes c.in-Err.ensures.onward
