use Rattle.command_plans.proofs.MadeFiles.{no_object_missing, no_object_passes, object_there}
use Rattle.command_plans.proofs.made.object_made.Goals as goal

pub returns-in-Ok-clause-passes : goal.returns-in-Ok-clause-passes
returns-in-Ok-clause-passes g c = object_there c.args.number c.args.file _ _ c.in-Ok.object c.in-Ok.ensures.passes

pub returns-in-Err-clause-passes : goal.returns-in-Err-clause-passes
returns-in-Err-clause-passes g c =
    no_object_passes c.args.number c.args.file _ _ c.in-Err.ensures.onward c.in-Err.why c.in-Err.ensures.passes c.unless_absent.result c.unless_absent.ensures

pub returns-in-Err-clause-missing : goal.returns-in-Err-clause-missing
returns-in-Err-clause-missing g c =
    no_object_missing c.args.number c.args.file _ _ c.in-Err.ensures.onward c.in-Err.why c.in-Err.ensures.passes c.unless_absent.result c.unless_absent.ensures
