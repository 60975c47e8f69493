use Rattle.cmesa_grammar.specs.Plain as grammar
use Rattle.command_passes.specs.Stops.{stop_case}
use Rattle.command_sources.proofs.Sourcing.{no_plan_source, plan_source}
use Rattle.command_sources.proofs.sources.source_of_config.Goals as goal

pub returns-in-Ok-clause-passes : goal.returns-in-Ok-clause-passes
returns-in-Ok-clause-passes g c =
    plan_source c.args.base.now _ _ _ (grammar.plain c.in-Ok.plan.config) c.source_of_plan-source.result c.in-Ok.ensures.passes c.source_of_plan-source.ensures.passes

pub returns-in-Err-clause-passes : goal.returns-in-Err-clause-passes
returns-in-Err-clause-passes g c = no_plan_source c.args.base.now _ _ (stop_case c.in-Err.why) c.in-Err.ensures.passes
