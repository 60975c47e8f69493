-- Images that differ in the depths beside their instructions alone run alike, and have one survey (rule of this project: files hold no depths).
use Rattle.std.specs.Prelude.{◌≡◌, ℕ, List, Bool}
use Rattle.machine_rules.specs.LookUps.{signal_of}
use Rattle.machine_rules.specs.State.{Ending}
use Rattle.machine_rules.specs.Steps.{Steps}
use Rattle.object_files.specs.declared.image.Image.{Image}
use Rattle.object_rules.specs.Exact.{IsSameImage}
use Rattle.signaller.specs.declared.signal_id.SignalId.{SignalId}
use Rattle.survey_rules.specs.Survey.{IsSurvey}

-- what one runs to, the other runs to, and they have the same signals
pub record RunAlike (a b : Image) : Type 0 where
  pub steps : (input : List ℕ) (faulty : Bool) (turns : ℕ) (output : List ℕ) (end : Ending) (left taken count : ℕ)
      → Steps a input faulty turns output end left taken count → Steps b input faulty turns output end left taken count
  pub signals : (j k : ℕ) → signal_of a j k ≡ signal_of b j k

abbrev pub DepthsDoNotMatter : Type 0
DepthsDoNotMatter = (a b : Image) → IsSameImage a b → RunAlike a b

-- the same signals may escape them, so their surveys are one list
abbrev pub SurveysAreOne : Type 0
SurveysAreOne = (a b : Image) → IsSameImage a b → (xs ys : List SignalId) → IsSurvey a xs → IsSurvey b ys → xs ≡ ys
