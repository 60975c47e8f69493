use Rattle.frame_machine.proofs.Cleared.{none_cleared}
use Rattle.frame_machine.proofs.clearing.clear_globals.Goals as goal

pub loop-instance-init : goal.loop-instance-init
loop-instance-init c = none_cleared c.args.globals.now.items
