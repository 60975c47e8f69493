use Rattle.spelled_laws.proofs.FacesFit.{fields_fit}
use Rattle.spelled_laws.proofs.laws.fields_fit.Goals as goal

pub returns : goal.returns
returns c = fields_fit
