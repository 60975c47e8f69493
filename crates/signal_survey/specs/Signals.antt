-- The signals of an image that stand before one, in order.
use Rattle.std.specs.Prelude.{ℕ, List, AllPairs, Contains}
use Rattle.object_files.specs.declared.image.Image.{Image}
use Rattle.signaller.specs.declared.signal_id.SignalId.{SignalId}
use Rattle.signaller.specs.declared.signal_id.SignalId.TheVariants.{Own}
use Rattle.survey_rules.specs.Survey.{Precedes}
use Rattle.signal_survey.specs.Ranges.{HasSignal}

-- all that stand before the signal of this number of an instance, and no others
pub record ArePreceding (image : Image) (instance number : ℕ) (signals : List SignalId) : Type 0 where
  pub in_order : AllPairs Precedes signals
  pub before : (s : SignalId) → Contains signals s → Precedes s (Own instance number)
  pub all : (s : SignalId) → HasSignal image s → Precedes s (Own instance number) → Contains signals s
