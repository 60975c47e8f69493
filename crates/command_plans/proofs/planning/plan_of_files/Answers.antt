use Rattle.command_passes.specs.Stops.{stop_case}
use Rattle.command_plans.proofs.Conclusions.{none_reported, reports_so}
use Rattle.command_plans.proofs.planning.plan_of_files.Goals as goal

pub returns-in-Ok-clause-passes : goal.returns-in-Ok-clause-passes
returns-in-Ok-clause-passes g c =
    reports_so c.args.bases.now _ _ c.in-Ok.gathered c.reported.result c.in-Ok.ensures.gathers c.reported.ensures.reports

pub returns-in-Err-clause-passes : goal.returns-in-Err-clause-passes
returns-in-Err-clause-passes g c = none_reported c.args.bases.now _ _ (stop_case c.in-Err.why) c.in-Err.ensures.gathers
