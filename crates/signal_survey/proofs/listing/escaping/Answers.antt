use Rattle.std.proofs.Common.{◌∙◌}
use Rattle.signal_survey.proofs.Listed.{one_listed, one_left, listing_none, listing_all}
use Rattle.signal_survey.proofs.listing.escaping.Goals as goal
use Rattle.signal_survey.proofs.listing.escaping.Goals.{then-branch+in_ok-push, else-branch}

pub loop-number-init : goal.loop-number-init
loop-number-init c = listing_none c.args.image.now c.args.signals.now c.new-found.result c.args.walk.now c.new-found.ensures c.requires.rests c.requires.places

pub may_escape-requires : goal.may_escape-requires
may_escape-requires c = record {
  surveyed = c.requires.surveyed;
  raisers = c.requires.raisers;
  callers = c.requires.callers;
  places = (c.loop-number.invariant).places;
  rests = (c.loop-number.invariant).rests;
}

pub loop-number-preserved : goal.loop-number-preserved
loop-number-preserved c = record {
  listed = elim c.if-branch.branch [
    | then-branch+in_ok-push w ↦
        one_listed c.args.image.now c.args.signals.now c.loop-number.number _ c.loop-number.found c.if-branch.found c.in_ok-may_escape.field-0 c.loop-number-test.true c.requires.in_order
        c.in_ok-may_escape.ensures.escapes w.if-branch.true (w.found-is ∙ w.in_ok-push.ensures.ok) (c.loop-number.invariant).listed
    | else-branch w ↦
        one_left c.args.image.now c.args.signals.now c.loop-number.number _ c.loop-number.found c.if-branch.found c.in_ok-may_escape.field-0 c.loop-number-test.true
        c.in_ok-may_escape.ensures.escapes w.if-branch.false w.found-is (c.loop-number.invariant).listed
  ];
  rests = c.in_ok-may_escape.ensures.rests;
  places = c.in_ok-may_escape.ensures.places;
}

pub returns : goal.returns
returns c = listing_all c.args.image.now c.args.signals.now c.loop-number.found c.loop-number.number c.loop-number.walk c.loop-number-test.false c.requires.all c.loop-number.invariant
