use Rattle.std.proofs.Common.{All, take}
use Rattle.code_limits.specs.Few.{LeavesFew}
use Rattle.code_limits.proofs.few.leave_few.Given as goal

abbrev pub invariant-loop-entry : goal.invariant-loop-entry
invariant-loop-entry l = All LeavesFew (take l.entry-index l.code)
