use Rattle.code_forms.specs.declared.module_code.ModuleCode.{ModuleCode}
use Rattle.survey_code.specs.Endings.{TellReached}
use Rattle.survey_code.specs.Sites.{EndsBy}
use Rattle.survey_code.proofs.Endings.{Among}
use Rattle.survey_code.proofs.ending.ending_of.Given as goal

-- it ends so by the entries so far
abbrev pub invariant-loop-at : goal.invariant-loop-at
invariant-loop-at l = (m : ModuleCode) → TellReached m l.procedure l.marks → EndsBy (Among m l.procedure l.arm l.at) l.ending
