use Rattle.command_loads.proofs.FromFiles.{loads_one, not_loads_one}
use Rattle.command_loads.proofs.loading.alone.Goals as goal

pub returns-in-Ok-clause-loads : goal.returns-in-Ok-clause-loads
returns-in-Ok-clause-loads g c =
    loads_one c.args.base.now _ _ c.in-Ok.image c.readied.result c.in-Ok.ensures.passes c.in-Ok.ensures.onward c.readied.ensures

pub returns-in-Err-clause-loads : goal.returns-in-Err-clause-loads
returns-in-Err-clause-loads g c = not_loads_one c.args.base.now _ _ c.in-Err.why c.in-Err.ensures.passes c.in-Err.ensures.onward
