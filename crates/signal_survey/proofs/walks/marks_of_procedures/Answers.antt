use Rattle.std.proofs.Common.{◌+◌, List, length, subst}
use Rattle.code_forms.specs.declared.module_code.Phrase.{Phrase}
use Rattle.machine_ready.proofs.Each.{zip_more}
use Rattle.signal_survey.specs.Fresh.{AreFresh, HasFresh}
use Rattle.signal_survey.proofs.walks.marks_of_procedures.Goals as goal

pub loop-procedure-preserved : goal.loop-procedure-preserved
loop-procedure-preserved c =
    zip_more HasFresh c.args.procedures.now c.loop-procedure.row.items c.push.new.self.items c.loop-procedure.procedure-index c.procedure-item.result c.in_ok-marks_of.field-0
    c.loop-procedure-test.true c.procedure-item.is c.in_ok-push.ensures.items c.loop-procedure.invariant
    (subst (λ (l : List Phrase). AreFresh (length l + 1) c.in_ok-marks_of.field-0) c.as_slice.ensures c.in_ok-marks_of.ensures)
