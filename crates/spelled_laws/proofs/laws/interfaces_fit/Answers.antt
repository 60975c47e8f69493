use Rattle.spelled_laws.proofs.InterfacesFit.{interfaces_fit}
use Rattle.spelled_laws.proofs.laws.interfaces_fit.Goals as goal

pub returns : goal.returns
returns c = interfaces_fit
