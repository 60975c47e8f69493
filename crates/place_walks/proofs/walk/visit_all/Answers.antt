use Rattle.place_walks.proofs.Marking.{visits_more}
use Rattle.place_walks.proofs.walk.visit_all.Goals as goal

pub loop-place-preserved : goal.loop-place-preserved
loop-place-preserved c =
    visits_more c.args.round c.args.places.now c.loop-place.place-index _ c.args.walk.now c.loop-place.walk c.visit.new.walk c.loop-place-test.true c.loop-place.invariant c.in_ok-visit.ensures
