use Rattle.command_sizes.proofs.Sums.{sums_are_told}
use Rattle.command_sizes.proofs.laws.sums_are_told.Goals as goal

pub returns : goal.returns
returns c = sums_are_told c.grounds.ensures
