use Rattle.command_passes.specs.Stops.{stop_case}
use Rattle.command_sources.proofs.Parsing.{is_planned, no_plan}
use Rattle.command_sources.proofs.configurations.with_components.Goals as goal

pub returns-in-Ok : goal.returns-in-Ok
returns-in-Ok c =
    is_planned c.args.file c.args.config c.components-components.result c.components-components.ensures c.in-Ok.config c.in-Ok.components c.in-Ok.ensures.0
    c.in-Ok.ensures.1

pub returns-in-Err : goal.returns-in-Err
returns-in-Err c =
    no_plan c.args.file c.args.config c.components-components.result c.components-components.ensures c.in-Err.fault (stop_case c.ungrown.result)
    c.in-Err.ensures c.ungrown.ensures
