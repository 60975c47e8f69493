use Rattle.spelled_laws.proofs.FacesFit.{items_fit}
use Rattle.spelled_laws.proofs.laws.items_fit.Goals as goal

pub returns : goal.returns
returns c = items_fit
