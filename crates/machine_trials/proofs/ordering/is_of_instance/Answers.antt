use Rattle.machine_trials.proofs.Ordered.{of_instance}
use Rattle.machine_trials.proofs.ordering.is_of_instance.Goals as goal

pub returns : goal.returns
returns c h =
    of_instance c.args.image.now c.args.link c.args.link.kind c.args.instance c.args.number c.code_of.result.now c.code_of.ensures (c.is_of_code.ensures h)
