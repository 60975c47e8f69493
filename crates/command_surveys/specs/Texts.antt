-- The text of a survey.
use Rattle.std.specs.Prelude.{◌≡◌, ℕ, List}
use Rattle.object_files.specs.declared.image.Image.{Image}
use Rattle.signaller.specs.declared.signal_id.SignalId.{SignalId}
use Rattle.survey_rules.specs.Survey.{IsSurvey}
use Rattle.command_passes.specs.command_rules.specs.Shown.{image_names}
use Rattle.command_passes.specs.command_rules.specs.Surveying.{survey_text}

-- the text of what a survey of the image lists
pub record IsTextOf (image : Image) (text : List ℕ) : Type 0 where
  pub signals : List SignalId
  pub survey : IsSurvey image signals
  pub is : text ≡ survey_text (image_names image) signals
