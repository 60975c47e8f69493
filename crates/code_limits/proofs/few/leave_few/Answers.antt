use Rattle.std.proofs.Common.{take_all, subst}
use Rattle.std.specs.List.{All}
use Rattle.std.proofs.lemmas.List.Elements.{All-more}
use Rattle.code_limits.specs.Few.{LeavesFew}
use Rattle.code_limits.proofs.few.leave_few.Goals as goal

pub loop-entry-preserved : goal.loop-entry-preserved
loop-entry-preserved c = All-more LeavesFew c.args.code.now c.loop-entry.entry-index _ c.loop-entry-test.true c.loop-entry.invariant c.arms_of.ensures.few

pub returns : goal.returns
returns c = subst (All LeavesFew) (take_all c.loop-entry.entry-index c.args.code.now c.loop-entry-test.false) c.loop-entry.invariant
