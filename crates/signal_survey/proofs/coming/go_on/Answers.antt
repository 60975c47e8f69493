use Rattle.signal_survey.proofs.Walked.{out_goes, next_goes, stays}
use Rattle.signal_survey.proofs.coming.go_on.Goals as goal

pub returns-in_default : goal.returns-in_default
returns-in_default c =
    out_goes c.visit_all.result c.args.image.now c.args.signal c.args.round c.args.place c.args.callers.now c.cell-places.result.now c.args.walk.now c.visit_all.new.walk c.requires.callers
    c.in_default.is c.cell-places.ensures c.visit_all.ensures

pub returns-in-Some-next_of : goal.returns-in-Some-next_of
returns-in-Some-next_of c =
    next_goes c.visit.result c.args.image.now c.args.signal c.args.round c.args.place c.in-Some-next_of.next c.next_of.result c.args.walk.now c.visit.new.walk c.next_of.ensures
    c.in-Some-next_of.is c.visit.ensures

pub returns-in-None : goal.returns-in-None
returns-in-None c = stays c.args.image.now c.args.signal c.args.round c.args.place c.next_of.result c.args.walk.now c.next_of.ensures c.in-None.is
