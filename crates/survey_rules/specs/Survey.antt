-- What a survey of an image lists: each signal that may escape it, once, in order (rule of this project).
use Rattle.std.specs.Prelude.{◌≡◌, ◌⊎◌, ℕ, ◌<◌, List, Contains, AllPairs}
use Rattle.object_files.specs.declared.image.Image.{Image}
use Rattle.signaller.specs.declared.signal_id.SignalId.{SignalId}
use Rattle.signaller.specs.declared.signal_id.SignalId.TheVariants.{Own, BoundsFault, ZeroDivisor, NoInput, Unnamed}
use Rattle.survey_rules.specs.Escapes.{Escapes}

-- BoundsFault, ZeroDivisor, NoInput, Unnamed; then the signals of instances, by instance and number
abbrev pub group_of : SignalId → ℕ
group_of BoundsFault = 0
group_of ZeroDivisor = 1
group_of NoInput = 2
group_of Unnamed = 3
group_of (Own i k) = 4

abbrev pub instance_of : SignalId → ℕ
instance_of (Own i k) = i
instance_of _ = 0

abbrev pub number_of : SignalId → ℕ
number_of (Own i k) = k
number_of _ = 0

-- one stands before another: in an earlier group, or in the same one at an earlier instance, or there by a lower number
abbrev pub Precedes : SignalId → SignalId → Type 0
Precedes s t = (group_of s < group_of t)
    ⊎ ((group_of s ≡ group_of t) × ((instance_of s < instance_of t) ⊎ ((instance_of s ≡ instance_of t) × (number_of s < number_of t))))

pub record IsSurvey (image : Image) (signals : List SignalId) : Type 0 where
  pub escape : (s : SignalId) → Contains signals s → Escapes image s
  pub all : (s : SignalId) → Escapes image s → Contains signals s
  pub in_order : AllPairs Precedes signals
