use Rattle.std.proofs.Common.{sym, subst}
use Rattle.code_forms.specs.Valid.{Valid}
use Rattle.signal_survey.proofs.surveys.surveys_of_module.Goals as goal

pub surveys_of_procedures-requires-clause-valid : goal.surveys_of_procedures-requires-clause-valid
surveys_of_procedures-requires-clause-valid c = subst Valid (sym c.code-code.ensures.same) c.code-code.ensures.valid
