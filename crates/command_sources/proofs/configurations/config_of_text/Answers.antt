use Rattle.command_sources.proofs.Parsing.{all_planned, no_config, planned_configures}
use Rattle.command_passes.specs.Stops.{stop_case}
use Rattle.command_sources.proofs.configurations.config_of_text.Goals as goal

pub returns-in-Ok-clause-decides : goal.returns-in-Ok-clause-decides
returns-in-Ok-clause-decides c =
    planned_configures c.args.file c.args.text.now c.in-Ok.config c.with_components.result c.in-Ok.ensures.config c.with_components.ensures

pub returns-in-Ok-clause-plans : goal.returns-in-Ok-clause-plans
returns-in-Ok-clause-plans c =
    all_planned c.parsed_names_are_names.ensures c.args.file c.args.text.now c.in-Ok.config c.with_components.result c.in-Ok.ensures.config c.with_components.ensures

pub returns-in-Err-clause-decides : goal.returns-in-Err-clause-decides
returns-in-Err-clause-decides c =
    no_config c.args.file c.args.text.now c.in-Err.fault (stop_case c.faulty.result) c.faulty.ensures c.in-Err.ensures.fault
