-- A signal that may escape is one of the image.
use Rattle.std.specs.Prelude.{None}
use Rattle.object_files.specs.declared.image.Image.{Image}
use Rattle.signaller.specs.declared.signal_id.SignalId.{SignalId}
use Rattle.machine_rules.specs.Laws.{HasValidCode}
use Rattle.machine_ready.specs.Order.{ImageInOrder}
use Rattle.survey_rules.specs.Escapes.{Escapes, escapes}
use Rattle.place_walks.specs.declared.place.Place.{Place}
use Rattle.place_walks.specs.Reach.{Reached, begun, onward}
use Rattle.signal_survey.specs.Follows.{Begins, Follows}
use Rattle.signal_survey.specs.Ranges.{HasSignal}
use Rattle.signal_survey.proofs.Ranges.{begins_there}
use Rattle.signal_survey.proofs.Steps.{comes_where_reached}

-- what is reached began somewhere
began : (image : Image) (s : SignalId) (x : Place) → Reached (Begins image s) (Follows image s) x → (y : Place) × Begins image s y
began image s _ (begun x b) = (x, b)
began image s _ (onward x y r f) = began image s x r

pub escape_known : (image : Image) → ImageInOrder image → HasValidCode image → (s : SignalId) → Escapes image s → HasSignal image s
escape_known image order valid s (escapes j c comes) =
    let b = began image s (record { instance = j; procedure = 0; position = None }) ((comes_where_reached image s j 0 None).0 comes) in
    begins_there image order valid s b.0 b.1
