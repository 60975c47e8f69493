use Rattle.spelled_laws.proofs.FacesFit.{faces_fit}
use Rattle.spelled_laws.proofs.laws.faces_fit.Goals as goal

pub returns : goal.returns
returns c = faces_fit
