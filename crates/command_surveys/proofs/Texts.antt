-- The text of a survey, from its lines.
use Rattle.std.proofs.Common.{◌≡◌, ℕ, List, [], ◌∷◌, flat_map, IfOk, Result, Ok, Err, refl}
use Rattle.object_files.specs.declared.image.Image.{Image}
use Rattle.signaller.specs.declared.signal_id.SignalId.{SignalId}
use Rattle.survey_rules.specs.Survey.{IsSurvey}
use Rattle.command_passes.specs.command_rules.specs.Shown.{Names, image_names}
use Rattle.command_passes.specs.command_rules.specs.Surveying.{escape_line, survey_text}
use Rattle.command_surveys.specs.Texts.{IsTextOf}

pub some_lines : (names : Names) (signals : List SignalId) → (signals ≡ [] → ⊥) → flat_map (escape_line names) signals ≡ survey_text names signals
unfolding survey_text
some_lines names [] some = absurd (some refl)
some_lines names (s ∷ signals) some = refl

pub text_told : {E : Type 0} (image : Image) (signals : List SignalId) (r : Result (List ℕ) E) → IsSurvey image signals
    → IfOk r (λ text. text ≡ survey_text (image_names image) signals) → IfOk r (IsTextOf image)
text_told image signals (Ok text) is same = record { signals = signals; survey = is; is = same }
text_told image signals (Err e) is same = tt
