use Rattle.std.proofs.Common.{ℕ, ◌<◌, get_or}
use Rattle.survey_code.specs.Graphs.{IsMarked}
use Rattle.survey_code.specs.Marking.{Grows, Reaches}
use Rattle.survey_code.proofs.reaching.mark_each.Given as goal

-- those so far are marked
abbrev pub invariant-loop-next : goal.invariant-loop-next
invariant-loop-next l =
    Reaches l.graph l.marks.items l.queue.items × Grows l.fn.marks.items l.fn.queue.items l.marks.items l.queue.items
    × ((k : ℕ) → k < l.next-index → IsMarked l.marks.items (get_or l.next-items k 0))
