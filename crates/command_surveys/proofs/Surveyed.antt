-- The survey of a file's bytes.
use Rattle.std.proofs.Common.{◌≡◌, ℕ, List, refl, subst, sym}
use Rattle.object_files.specs.declared.image.Image.{Image}
use Rattle.object_rules.specs.ImageFiles.{IsImageFile, IsNoImageFile}
use Rattle.object_rules.specs.declared.object_fault.ObjectFault.{ObjectFault}
use Rattle.command_passes.specs.command_rules.specs.Case.{Case, Refused, Absent}
use Rattle.command_passes.specs.command_rules.specs.declared.trouble.Trouble.TheVariants.{File}
use Rattle.command_passes.specs.command_rules.specs.Forms.{ImageFile}
use Rattle.command_passes.specs.command_rules.specs.Listing.{Holds, is_image, no_image}
use Rattle.command_passes.specs.command_rules.specs.Passes.{Outcome, Has, Stops}
use Rattle.command_passes.specs.command_rules.specs.Printing.{Report, text_alone}
use Rattle.command_passes.specs.command_rules.specs.Surveying.{Surveys, surveyed, is_none}
use Rattle.command_passes.specs.command_rules.specs.Writing.{Value}
use Rattle.command_passes.specs.command_rules.proofs.Passing.{Moves}
use Rattle.command_passes.proofs.FileBytes.{all_read}
use Rattle.command_passes.proofs.Files.{NeverAbsent}
use Rattle.command_passes.proofs.ImageBytes.{none_whole}
use Rattle.command_surveys.specs.Texts.{IsTextOf}

holds_moves : (file : List ℕ) → Moves {A = Value} 536870912 (λ bytes. Holds file bytes ImageFile)
holds_moves file part whole _ e (is_image version i h) =
    is_image version i (subst (λ bytes. IsImageFile version i bytes) (all_read part whole e h.file.few) h)
holds_moves file part whole _ e (no_image why h) = no_image why (none_whole part whole why e h)

pub surveys_moves : (file : List ℕ) → Moves 536870912 (Surveys file)
surveys_moves file part whole _ e (surveyed image signals h is) = surveyed image signals (holds_moves file part whole _ e h) is
surveys_moves file part whole _ e (is_none case h) = is_none case (holds_moves file part whole (Stops case) e h)

holds_absent : (file bytes other : List ℕ) → Holds file bytes ImageFile (Stops (Absent other)) → ⊥
holds_absent file bytes other x = elim x [ ]

never : (file bytes other : List ℕ) (o : Outcome Case Report) → Surveys file bytes o → o ≡ Stops (Absent other) → ⊥
never file bytes other _ (surveyed image signals h is) e = absurd cc
never file bytes other _ (is_none case h) e =
    let same : case ≡ Absent other = cc in holds_absent file bytes other (subst (λ c. Holds file bytes ImageFile (Stops c)) same h)

pub surveys_absent : (file bytes : List ℕ) → NeverAbsent (Surveys file bytes)
surveys_absent file bytes other x = never file bytes other (Stops (Absent other)) x refl

-- the survey of the image that the bytes hold
pub is_surveyed : (file bytes : List ℕ) (version : ℕ) (image : Image) (text : List ℕ) → IsImageFile version image bytes → IsTextOf image text
    → Surveys file bytes (Has (text_alone text))
is_surveyed file bytes version image text h t =
    subst (λ z. Surveys file bytes (Has (text_alone z))) (sym t.is) (surveyed image t.signals (is_image version image h) t.survey)

-- and their fault
pub not_surveyed : (file bytes : List ℕ) (fault : ObjectFault) → IsNoImageFile bytes fault → Surveys file bytes (Stops (Refused file (File fault)))
not_surveyed file bytes fault h = is_none (Refused file (File fault)) (no_image fault h)
