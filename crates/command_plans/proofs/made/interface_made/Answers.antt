use Rattle.command_plans.proofs.MadeFiles.{interface_there, no_interface_missing, no_interface_passes}
use Rattle.command_plans.proofs.made.interface_made.Goals as goal

pub returns-in-Ok-clause-passes : goal.returns-in-Ok-clause-passes
returns-in-Ok-clause-passes g c = λ number. interface_there number c.args.base.now _ _ c.in-Ok.interface c.in-Ok.ensures.passes

pub returns-in-Err-clause-passes : goal.returns-in-Err-clause-passes
returns-in-Err-clause-passes g c = λ number.
    no_interface_passes number c.args.base.now _ _ c.in-Err.ensures.onward c.in-Err.why c.in-Err.ensures.passes c.unless_absent.result c.unless_absent.ensures

pub returns-in-Err-clause-missing : goal.returns-in-Err-clause-missing
returns-in-Err-clause-missing g c =
    no_interface_missing 0 c.args.base.now _ _ c.in-Err.ensures.onward c.in-Err.why c.in-Err.ensures.passes c.unless_absent.result c.unless_absent.ensures
