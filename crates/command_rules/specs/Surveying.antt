-- The survey of an image: a line for each signal that may escape it (rule of this project).
use Rattle.std.specs.Prelude.{ℕ, List, [], ◌∷◌, ◌++◌, flat_map, codes}
use Rattle.object_files.specs.declared.image.Image.{Image}
use Rattle.signaller.specs.declared.signal_id.SignalId.{SignalId}
use Rattle.survey_rules.specs.Survey.{IsSurvey}
use Rattle.command_rules.specs.Case.{Case, Absent}
use Rattle.command_rules.specs.Forms.{ImageFile, image_file}
use Rattle.command_rules.specs.Listing.{Holds}
use Rattle.command_rules.specs.Passes.{Outcome, Has, Stops, Pass, from_file}
use Rattle.command_rules.specs.Printing.{Report, text_alone}
use Rattle.command_rules.specs.Shown.{Names, image_names, shown, signal_of}
use Rattle.command_rules.specs.Writing.{OfImage}

-- `escapes X`, X being what the signal is called where nothing caught it
abbrev pub escape_line : Names → SignalId → List ℕ
escape_line names s = codes "escapes " ++ (shown names (signal_of s) ++ codes "\n")

-- a line for each, or the one that says that there is none
unfoldable pub survey_text : Names → List SignalId → List ℕ
survey_text names [] = codes "no signal escapes\n"
survey_text names (s ∷ signals) = flat_map (escape_line names) (s ∷ signals)

-- the survey of the image that the bytes hold, in either version
pub data Surveys (file bytes : List ℕ) : Outcome Case Report → Type 0 where
  surveyed : (image : Image) (signals : List SignalId) → Holds file bytes ImageFile (Has (OfImage image)) → IsSurvey image signals
      → Surveys file bytes (Has (text_alone (survey_text (image_names image) signals)))
  is_none : (case : Case) → Holds file bytes ImageFile (Stops case) → Surveys file bytes (Stops case)

unfoldable pub survey_in : (base : List ℕ) → Pass Case Report
survey_in base = from_file (image_file base) (Absent (image_file base)) (Surveys (image_file base))
