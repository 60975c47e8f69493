use Rattle.std.proofs.Common.{sym, ◌∙◌}
use Rattle.place_walks.proofs.Marking.{visited}
use Rattle.place_walks.proofs.walk.visit.Goals as goal

pub returns-in_ok-push-in-Some : goal.returns-in_ok-push-in-Some
returns-in_ok-push-in-Some c =
    visited c.args.round c.args.place c.args.walk.now (record { marks = c.set.new.self; work = c.push.new.self }) c.in-Some.mark c.slot_of-slot.result (sym c.mark_at.ensures ∙ c.in-Some.is)
    c.if-mark-round.true c.slot_of-slot.ensures c.set.ensures c.in_ok-push-in-Some.ensures.items
