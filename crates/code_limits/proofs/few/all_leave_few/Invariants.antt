use Rattle.std.proofs.Common.{All, take}
use Rattle.code_limits.specs.Few.{AllLeaveFew}
use Rattle.code_limits.proofs.few.all_leave_few.Given as goal

abbrev pub invariant-loop-procedure : goal.invariant-loop-procedure
invariant-loop-procedure l = All AllLeaveFew (take l.procedure-index l.procedures)
