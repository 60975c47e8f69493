use Rattle.std.proofs.Common.{take_all, subst}
use Rattle.std.specs.List.{All}
use Rattle.std.proofs.lemmas.List.Elements.{All-more}
use Rattle.code_limits.specs.Few.{AllLeaveFew, LeavesFew}
use Rattle.code_limits.proofs.few.all_leave_few.Goals as goal

pub loop-procedure-preserved : goal.loop-procedure-preserved
loop-procedure-preserved c =
    All-more AllLeaveFew c.args.procedures.now c.loop-procedure.procedure-index c.procedure-item.result c.loop-procedure-test.true c.loop-procedure.invariant
    (subst AllLeaveFew c.procedure-item.is (subst (All LeavesFew) c.as_slice.ensures c.leave_few.ensures))

pub returns : goal.returns
returns c = subst (All AllLeaveFew) (take_all c.loop-procedure.procedure-index c.args.procedures.now c.loop-procedure-test.false) c.loop-procedure.invariant
