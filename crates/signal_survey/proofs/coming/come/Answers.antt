use Rattle.std.proofs.Common.{refl}
use Rattle.signal_survey.proofs.Walked.{walk_begins, walk_goes, walk_less, taken_there, walk_ends}
use Rattle.signal_survey.proofs.coming.come.Goals as goal

pub going-init : goal.going-init
going-init c =
    walk_begins c.args.image.now c.args.signal c.args.round c.args.raisers.now c.row_of.result c.column_of.result c.cell.result.now c.args.walk.now c.visit_all.new.walk c.requires.raisers
    c.row_of.ensures c.column_of.ensures c.cell.ensures c.requires.places c.requires.rests c.in_ok-visit_all.ensures

pub going-preserved : goal.going-preserved
going-preserved c =
    walk_goes c.args.image.now c.args.signal c.args.round c.going.walk (record { marks = c.going.walk.marks; work = c.pop.new.self }) c.go_on.new.walk c.pop.result c.in-Some.place
    refl c.pop.ensures.items c.in-Some.is c.going.invariant c.in_ok-go_on.ensures

pub going-smaller : goal.going-smaller
going-smaller c =
    walk_less c.args.image.now c.args.signal c.args.round c.going.walk (record { marks = c.going.walk.marks; work = c.pop.new.self }) c.go_on.new.walk c.pop.result c.in-Some.place
    refl c.pop.ensures.items c.in-Some.is c.in_ok-go_on.ensures

pub go_on-requires : goal.go_on-requires
go_on-requires c = record {
  surveyed = c.requires.surveyed;
  callers = c.requires.callers;
  place = taken_there c.args.image.now c.args.signal c.args.round c.going.walk c.pop.new.self.items c.pop.result c.in-Some.place c.pop.ensures.items c.in-Some.is c.going.invariant;
}

pub returns : goal.returns
returns c =
    let ends =
    walk_ends c.args.image.now c.args.signal c.args.round c.going.walk (record { marks = c.going.walk.marks; work = c.pop.new.self }) _ c.pop.result refl c.pop.ensures.rest
    c.in_default.ensures.cases.0 c.pop.ensures.items c.in_default.is c.going.invariant in
    record { come = ends.0; places = ends.1 }
