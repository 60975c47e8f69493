use Rattle.machine_rules.proofs.Unstuck as unstuck
use Rattle.machine_rules.proofs.laws.never_stuck.Goals as goal

pub returns : goal.returns
returns c = unstuck.never_stuck
