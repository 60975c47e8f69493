use Rattle.command_laws.proofs.Versions.{values_keep_their_size}
use Rattle.command_laws.proofs.laws.values_keep_their_size.Goals as goal

pub returns : goal.returns
returns c = values_keep_their_size
