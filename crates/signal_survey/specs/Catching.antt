-- Which phrases stop a signal, by what is taken of their procedure.
use Rattle.std.specs.Prelude.{◌≡◌, ℕ, Some, position, slice_get}
use Rattle.code_forms.specs.declared.module_code.Phrase.{Phrase}
use Rattle.object_files.specs.declared.image.Image.{Image}
use Rattle.signaller.specs.declared.signal_id.SignalId.{SignalId}
use Rattle.signaller.specs.Search.{fits_signal}
use Rattle.machine_rules.specs.LookUps.{links_of}
use Rattle.survey_code.specs.declared.surveyed.Ending.{Ending}
use Rattle.survey_code.specs.declared.surveyed.Passing.{Passing}
use Rattle.survey_code.specs.Sites.{StopsBy}

-- the first arm that fits the signal, as the instance reads it, ends so that it stops the signal
pub record CatchesBy (image : Image) (instance : ℕ) (phrase : Phrase) (passing : Passing) (s : SignalId) : Type 0 where
  pub k : ℕ
  pub first : position (fits_signal (links_of image instance) s) phrase.arms ≡ Some k
  pub ending : Ending
  pub is_ending : slice_get passing.endings k ≡ Some ending
  pub stops : StopsBy image s ending
