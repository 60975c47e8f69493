use Rattle.survey_code.specs.Sites.{IsSurveyed}
use Rattle.machine_ready.proofs.Each.{zip_more, zip_all}
use Rattle.signal_survey.proofs.Surveyed.{taken_in}
use Rattle.signal_survey.proofs.surveys.surveys_of_procedures.Goals as goal

pub survey_procedure-requires : goal.survey_procedure-requires
survey_procedure-requires c = record {
  valid = c.requires.valid;
  own = taken_in c.args.procedures.now c.args.code.now.procedures c.loop-procedure.procedure-index c.procedure-item.result c.requires.own c.loop-procedure-test.true c.procedure-item.is;
}

pub loop-procedure-preserved : goal.loop-procedure-preserved
loop-procedure-preserved c =
    zip_more (IsSurveyed c.args.code.now) c.args.procedures.now c.loop-procedure.surveys c.push.new.self c.loop-procedure.procedure-index c.procedure-item.result
    c.in_ok-survey_procedure.field-0 c.loop-procedure-test.true c.procedure-item.is c.in_ok-push.ensures.ok c.loop-procedure.invariant c.in_ok-survey_procedure.ensures

pub returns : goal.returns
returns c =
    zip_all (IsSurveyed c.args.code.now) c.args.procedures.now c.loop-procedure.surveys c.loop-procedure.procedure-index c.loop-procedure-test.false c.loop-procedure.invariant
