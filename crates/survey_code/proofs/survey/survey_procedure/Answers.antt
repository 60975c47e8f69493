use Rattle.survey_code.proofs.Listing.{read}
use Rattle.survey_code.proofs.survey.survey_procedure.Goals as goal

pub survey_read-requires-clause-order : goal.survey_read-requires-clause-order
survey_read-requires-clause-order c = (read c.args.code.now c.requires.valid c.args.procedure.now c.requires.own).order

pub survey_read-requires-clause-fills : goal.survey_read-requires-clause-fills
survey_read-requires-clause-fills c = (read c.args.code.now c.requires.valid c.args.procedure.now c.requires.own).fills

pub survey_read-requires-clause-few : goal.survey_read-requires-clause-few
survey_read-requires-clause-few c = (read c.args.code.now c.requires.valid c.args.procedure.now c.requires.own).few

pub survey_read-requires-clause-sorted : goal.survey_read-requires-clause-sorted
survey_read-requires-clause-sorted c = (read c.args.code.now c.requires.valid c.args.procedure.now c.requires.own).sorted

pub survey_read-requires-clause-rise : goal.survey_read-requires-clause-rise
survey_read-requires-clause-rise c = (read c.args.code.now c.requires.valid c.args.procedure.now c.requires.own).rise
