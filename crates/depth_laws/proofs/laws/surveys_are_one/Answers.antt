use Rattle.depth_laws.proofs.Surveys.{one_survey}
use Rattle.depth_laws.proofs.laws.surveys_are_one.Goals as goal

pub returns : goal.returns
returns c = one_survey
