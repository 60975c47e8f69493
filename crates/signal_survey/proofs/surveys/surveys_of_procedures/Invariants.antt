use Rattle.std.proofs.Common.{take}
use Rattle.std.specs.List.{AllZip}
use Rattle.survey_code.specs.Sites.{IsSurveyed}
use Rattle.signal_survey.proofs.surveys.surveys_of_procedures.Given as goal

abbrev pub invariant-loop-procedure : goal.invariant-loop-procedure
invariant-loop-procedure l = AllZip (IsSurveyed l.code) (take l.procedure-index l.procedures) l.surveys
