use Rattle.signal_survey.specs.Modules.{IsModuleSurveyed}
use Rattle.machine_ready.proofs.Each.{zip_more, zip_all}
use Rattle.signal_survey.proofs.surveys.surveys_of_modules.Goals as goal

pub loop-object-preserved : goal.loop-object-preserved
loop-object-preserved c =
    zip_more IsModuleSurveyed c.args.modules.now c.loop-object.surveys c.push.new.self c.loop-object.object-index c.object-item.result c.in_ok-surveys_of_module.field-0
    c.loop-object-test.true c.object-item.is c.in_ok-push.ensures.ok c.loop-object.invariant c.in_ok-surveys_of_module.ensures

pub returns : goal.returns
returns c = zip_all IsModuleSurveyed c.args.modules.now c.loop-object.surveys c.loop-object.object-index c.loop-object-test.false c.loop-object.invariant
