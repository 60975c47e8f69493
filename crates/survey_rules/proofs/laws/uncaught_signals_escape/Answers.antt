use Rattle.survey_rules.proofs.Escaping.{uncaught_signals_escape}
use Rattle.survey_rules.proofs.laws.uncaught_signals_escape.Goals as goal

pub returns : goal.returns
returns c = uncaught_signals_escape
