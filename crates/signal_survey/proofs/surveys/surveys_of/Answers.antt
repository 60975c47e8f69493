use Rattle.signal_survey.proofs.Surveyed.{surveyed_if, valid_if}
use Rattle.signal_survey.proofs.surveys.surveys_of.Goals as goal

pub returns-clause-surveyed : goal.returns-clause-surveyed
returns-clause-surveyed c = surveyed_if c.surveys_of_modules.result c.args.image.now c.as_slice.result.now c.as_slice.ensures c.surveys_of_modules.ensures

pub returns-clause-valid : goal.returns-clause-valid
returns-clause-valid c = valid_if c.surveys_of_modules.result c.args.image.now c.as_slice.result.now c.as_slice.ensures c.surveys_of_modules.ensures
