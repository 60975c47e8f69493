use Rattle.std.proofs.Common.{◌+◌}
use Rattle.signal_survey.specs.Fresh.{AreFresh}
use Rattle.signal_survey.proofs.walks.marks_of.Given as goal

abbrev pub invariant-loop : goal.invariant-loop
invariant-loop l = AreFresh (l.index + 1) l.marks
