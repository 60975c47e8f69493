use Rattle.file_sizes.proofs.Interfaces as own
use Rattle.file_sizes.proofs.laws.interfaces_are_sized.Goals as goal

pub returns : goal.returns
returns c = own.interfaces_are_sized
