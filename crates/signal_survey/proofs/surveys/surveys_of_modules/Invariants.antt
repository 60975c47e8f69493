use Rattle.std.proofs.Common.{take}
use Rattle.std.specs.List.{AllZip}
use Rattle.signal_survey.specs.Modules.{IsModuleSurveyed}
use Rattle.signal_survey.proofs.surveys.surveys_of_modules.Given as goal

abbrev pub invariant-loop-object : goal.invariant-loop-object
invariant-loop-object l = AllZip IsModuleSurveyed (take l.object-index l.modules) l.surveys
