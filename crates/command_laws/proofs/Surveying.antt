-- A survey is one: of an image's file that is told.
use Rattle.std.proofs.Common.{◌≡◌, ℕ, List, ap}
use Rattle.depth_laws.specs.Laws.{DepthsDoNotMatter, SurveysAreOne}
use Rattle.object_files.specs.declared.image.Image.{Image}
use Rattle.object_rules.specs.Exact.{IsSameImage}
use Rattle.object_rules.proofs.ImageFileLaws.{one_image}
use Rattle.signaller.specs.declared.signal_id.SignalId.{SignalId}
use Rattle.survey_rules.specs.Survey.{IsSurvey}
use Rattle.command_rules.specs.Case.{Absent}
use Rattle.command_rules.specs.Forms.{ImageFile, image_file}
use Rattle.command_rules.specs.Listing.{Holds, is_image}
use Rattle.command_rules.specs.Passes.{Has, Stops, IsExact}
use Rattle.command_rules.specs.Printing.{text_alone}
use Rattle.command_rules.specs.Shown.{image_names}
use Rattle.command_rules.specs.Surveying.{Surveys, surveyed, survey_text, survey_in}
use Rattle.command_rules.specs.Writing.{OfImage}
use Rattle.command_rules.proofs.PassLaws.{One, from_file_exact}
use Rattle.command_laws.proofs.Holding.{part_or_stop, one_stop}
use Rattle.command_laws.proofs.Loading.{names_same}

-- the images of one file are the same, depths aside
same_held : (file bytes : List ℕ) (x y : Image) → Holds file bytes ImageFile (Has (OfImage x)) → Holds file bytes ImageFile (Has (OfImage y)) → IsSameImage x y
same_held file bytes x y (is_image a _ h) (is_image b _ k) = (one_image a b x y bytes h k).1

module _ (depths : DepthsDoNotMatter) (law : SurveysAreOne) where
  text_same : (x y : Image) (xs ys : List SignalId) → IsSameImage x y → IsSurvey x xs → IsSurvey y ys
      → survey_text (image_names x) xs ≡ survey_text (image_names y) ys
  text_same x y xs ys same a b = λ i. survey_text (names_same x y same (depths x y same) i) (law x y same xs ys a b i)

  surveys_one : (file bytes : List ℕ) → One (Surveys file bytes)
  surveys_one file bytes o r (surveyed x xs h a) (surveyed y ys k b) =
      ap (λ text. Has (text_alone text)) (text_same x y xs ys (same_held file bytes x y h k) a b)
  surveys_one file bytes o r (surveyed x xs h a) (Surveys.is_none c k) = absurd (part_or_stop ImageFile file bytes (OfImage x) c h k)
  surveys_one file bytes o r (Surveys.is_none c k) (surveyed x xs h a) = absurd (part_or_stop ImageFile file bytes (OfImage x) c h k)
  surveys_one file bytes o r (Surveys.is_none c h) (Surveys.is_none d k) = ap Stops (one_stop ImageFile file bytes c d h k)

  pub survey_exact : (base : List ℕ) → IsExact (survey_in base)
  unfolding survey_in
  survey_exact base = from_file_exact (image_file base) (Absent (image_file base)) (Surveys (image_file base)) (surveys_one (image_file base))
