use Rattle.signal_survey.proofs.Steps.{comes_where_reached}
use Rattle.signal_survey.proofs.laws.comes_where_reached.Goals as goal

pub returns : goal.returns
returns c = comes_where_reached
