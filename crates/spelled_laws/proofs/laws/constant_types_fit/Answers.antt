use Rattle.spelled_laws.proofs.FacesFit.{constant_types_fit}
use Rattle.spelled_laws.proofs.laws.constant_types_fit.Goals as goal

pub returns : goal.returns
returns c = constant_types_fit
