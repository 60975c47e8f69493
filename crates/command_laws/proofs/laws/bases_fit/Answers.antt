use Rattle.command_laws.proofs.Bases.{bases_fit}
use Rattle.command_laws.proofs.laws.bases_fit.Goals as goal

pub returns : goal.returns
returns c = bases_fit
