use Rattle.signal_survey.proofs.Raisers.{raises_at}
use Rattle.signal_survey.proofs.raising.add_raiser.Goals as goal

pub returns-in_ok-push : goal.returns-in_ok-push
returns-in_ok-push c =
    raises_at c.args.image.now c.args.it.now c.in-Some.signal c.event_signal.result _ _ c.args.edges.now c.push.new.self c.event_signal.ensures c.in-Some.is c.row_of.ensures c.column_of.ensures
    c.in_ok-push.ensures.ok
