use Rattle.std.proofs.Common.{length, ◌-◌}
use Rattle.survey_code.specs.Graphs.{IsMarked}
use Rattle.survey_code.specs.Marking.{Reaches}
use Rattle.survey_code.proofs.Closing.{Done}
use Rattle.survey_code.proofs.reaching.reach.Given as goal

-- the rows of those that are done are marked
abbrev pub invariant-working : goal.invariant-working
invariant-working l = Reaches l.graph l.marks.items l.queue.items × Done l.graph l.marks.items l.queue.items l.done × IsMarked l.marks.items 0

abbrev pub decreases-working : goal.decreases-working
decreases-working l = length l.graph - l.done
