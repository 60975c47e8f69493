use Rattle.cmesa_grammar.specs.Plain as grammar
use Rattle.command_passes.specs.Stops.{stop_case}
use Rattle.command_sources.proofs.OfObjects.{no_plan, plan_passes}
use Rattle.command_sources.proofs.objects.bound_of_config.Goals as goal

pub returns-in-Ok-clause-passes : goal.returns-in-Ok-clause-passes
returns-in-Ok-clause-passes g c =
    plan_passes c.args.base.now _ _ _ (grammar.plain c.in-Ok.plan.config) c.bound_of_plan-bound.result c.in-Ok.ensures.passes c.bound_of_plan-bound.ensures.passes

pub returns-in-Err-clause-passes : goal.returns-in-Err-clause-passes
returns-in-Err-clause-passes g c = no_plan c.args.base.now _ _ (stop_case c.in-Err.why) c.in-Err.ensures.passes
