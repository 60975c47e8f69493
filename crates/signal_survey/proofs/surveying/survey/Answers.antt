use Rattle.std.proofs.Common.{List, sym, subst, AllPairs, Contains}
use Rattle.signaller.specs.declared.signal_id.SignalId.{SignalId}
use Rattle.survey_rules.specs.Survey.{Precedes}
use Rattle.signal_survey.proofs.Known.{escape_known}
use Rattle.signal_survey.proofs.surveying.survey.Goals as goal

pub escaping-requires : goal.escaping-requires
escaping-requires c = record {
  surveyed = c.in_ok-surveys.ensures.surveyed;
  raisers = c.in_ok-raisers.ensures;
  callers = c.in_ok-callers.ensures;
  places = c.in_ok-walk.ensures.places;
  rests = c.in_ok-walk.ensures.rests;
  in_order = subst (λ (l : List SignalId). AllPairs Precedes l) (sym c.as_slice.ensures) c.in_ok-signals.ensures.in_order;
  all = λ s e.
      subst (λ (l : List SignalId). Contains l s) (sym c.as_slice.ensures)
      (c.in_ok-signals.ensures.all s (escape_known c.args.image.now c.requires c.in_ok-surveys.ensures.valid s e));
}
