-- What a survey of an image goes by.
use Rattle.std.specs.Prelude.{◌≡◌, ◌↔◌, ℕ, ◌+◌, List, Option, Some, option_and_then, slice_get, Contains}
use Rattle.code_forms.specs.declared.module_code.CodeProcedure.{CodeProcedure}
use Rattle.code_forms.specs.declared.module_code.ModuleCode.{ModuleCode}
use Rattle.object_files.specs.declared.image.Image.{Image}
use Rattle.signaller.specs.declared.signal_id.SignalId.{SignalId}
use Rattle.signaller.specs.declared.signal_id.SignalId.TheVariants.{Own, BoundsFault, ZeroDivisor, NoInput, Unnamed}
use Rattle.machine_rules.specs.LookUps.{module_number}
use Rattle.survey_rules.specs.Escapes.{IsCode}
use Rattle.survey_code.specs.declared.surveyed.Surveyed.{Surveyed}
use Rattle.survey_code.specs.Sites.{IsSurveyed}
use Rattle.place_walks.specs.declared.place.Place.{Place}
use Rattle.place_walks.specs.Table.{cell}
use Rattle.place_walks.specs.Walks.{IsThere}
use Rattle.signal_survey.specs.Follows.{Begins, CallsOut, Follows, IsPlace}

-- what was taken of a procedure of an instance: that of the procedure of its module
abbrev pub surveyed_of : Image → List (List Surveyed) → (instance procedure : ℕ) → Option Surveyed
surveyed_of image surveys j n = option_and_then (λ (list : List Surveyed). slice_get list n) (option_and_then (λ m. slice_get surveys m) (module_number image j))

pub record SurveyedAt (image : Image) (surveys : List (List Surveyed)) (instance procedure : ℕ) (m : ModuleCode) (p : CodeProcedure) : Type 0 where
  pub it : Surveyed
  pub is : surveyed_of image surveys instance procedure ≡ Some it
  pub surveyed : IsSurveyed m p it

-- each procedure of each instance was surveyed
abbrev pub AreSurveyed : Image → List (List Surveyed) → Type 0
AreSurveyed image surveys = (j n : ℕ) (m : ModuleCode) (p : CodeProcedure) → IsCode image j n m p → SurveyedAt image surveys j n m p

-- where the places stand at which a signal is raised: the predeclared ones are in the first row, those of an instance in one behind
abbrev pub row_of : SignalId → ℕ
row_of (Own j k) = j + 1
row_of _ = 0

abbrev pub column_of : SignalId → ℕ
column_of (Own j k) = k
column_of BoundsFault = 0
column_of ZeroDivisor = 1
column_of NoInput = 2
column_of Unnamed = 3

-- tables of where each signal is raised, and of where what comes out of each procedure comes
abbrev pub HoldsRaisers : Image → List (List (List Place)) → Type 0
HoldsRaisers image table = (s : SignalId) (x : Place) → Contains (cell table (row_of s) (column_of s)) x ↔ Begins image s x

abbrev pub HoldsCallers : Image → List (List (List Place)) → Type 0
HoldsCallers image table = (j q : ℕ) (x : Place) → Contains (cell table j q) x ↔ CallsOut image j q x

-- the place that follows a phrase, if it lets the signal past
pub record IsNext (image : Image) (s : SignalId) (x : Place) (next : Option Place) : Type 0 where
  pub sound : (y : Place) → next ≡ Some y → Follows image s x y
  pub whole : (y : Place) → Follows image s x y → next ≡ Some y

-- there is a mark for each place
pub record HasPlaces (image : Image) (marks : List (List (List ℕ))) : Type 0 where
  pub each : (x : Place) → IsPlace image x → IsThere marks x
