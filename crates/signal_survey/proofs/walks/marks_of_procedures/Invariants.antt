use Rattle.std.proofs.Common.{take}
use Rattle.std.specs.List.{AllZip}
use Rattle.signal_survey.specs.Fresh.{HasFresh}
use Rattle.signal_survey.proofs.walks.marks_of_procedures.Given as goal

abbrev pub invariant-loop-procedure : goal.invariant-loop-procedure
invariant-loop-procedure l = AllZip HasFresh (take l.procedure-index l.procedures) l.row.items
