use Rattle.command_sizes.proofs.Stated.{only_so}
use Rattle.command_sizes.proofs.laws.too_large_comes_only_so.Goals as goal

pub returns : goal.returns
returns c = only_so c.sums_are_told.ensures c.files_are_small.ensures c.never_answered.ensures
