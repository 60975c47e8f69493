-- The events of an image, and the edges that they give.
use Rattle.std.specs.Prelude.{◌≡◌, ℕ, ◌<◌, Some}
use Rattle.code_forms.specs.declared.instruction.Instruction.{Instruction}
use Rattle.code_forms.specs.declared.module_code.CodeProcedure.{CodeProcedure}
use Rattle.code_forms.specs.declared.module_code.ModuleCode.{ModuleCode}
use Rattle.object_files.specs.declared.image.Image.{Image}
use Rattle.signaller.specs.declared.signal_id.SignalId.{SignalId}
use Rattle.survey_rules.specs.Escapes.{IsCode, IsRun, position_of}
use Rattle.survey_rules.specs.Reached.{Stands}
use Rattle.survey_code.specs.declared.surveyed.Site.{Site}
use Rattle.survey_code.specs.Events.{event_of, RaisesBy, CallsBy}
use Rattle.place_walks.specs.declared.edges.Edge.{Edge}
use Rattle.signal_survey.specs.declared.calling.Callee.{Callee}
use Rattle.signal_survey.specs.declared.happening.Happening.{Happening}
use Rattle.signal_survey.specs.Follows.{place_at}
use Rattle.signal_survey.specs.Graph.{row_of, column_of}

-- the event of an instruction of an instance that is reached, at the innermost phrase around it
pub record Happens (image : Image) (it : Happening) : Type 0 where
  pub m : ModuleCode
  pub p : CodeProcedure
  pub at : ℕ
  pub instruction : Instruction
  pub code : IsCode image it.place.instance it.place.procedure m p
  pub stands : Stands m p at instruction
  pub event : event_of instruction ≡ Some it.event
  pub position : it.place.position ≡ position_of p at

-- ---- those of a part of an image

abbrev pub happening_at : (instance procedure : ℕ) → Site → Happening
happening_at j n site = record { place = place_at j n site.position; event = site.event }

-- that of a site of a procedure
abbrev pub SiteHappens : (instance procedure : ℕ) → Site → Happening → Type 0
SiteHappens j n site it = happening_at j n site ≡ it

-- of a procedure
pub record HappensIn (image : Image) (j n : ℕ) (it : Happening) : Type 0 where
  pub happens : Happens image it
  pub instance : it.place.instance ≡ j
  pub procedure : it.place.procedure ≡ n

-- of the first so many procedures of an instance
pub record HappensBelow (image : Image) (j count : ℕ) (it : Happening) : Type 0 where
  pub happens : Happens image it
  pub instance : it.place.instance ≡ j
  pub procedure : it.place.procedure < count

-- of the first so many instances
pub record HappensBefore (image : Image) (count : ℕ) (it : Happening) : Type 0 where
  pub happens : Happens image it
  pub instance : it.place.instance < count

-- ---- edges

abbrev pub callee : (instance procedure : ℕ) → Callee
callee j q = record { instance = j; procedure = q }

-- from a signal that it raises
pub record IsRaiser (image : Image) (it : Happening) (edge : Edge) : Type 0 where
  pub signal : SignalId
  pub raises : RaisesBy image it.place.instance it.event signal
  pub row : edge.row ≡ row_of signal
  pub column : edge.column ≡ column_of signal
  pub to : edge.to ≡ it.place

-- from a procedure that it runs
pub record IsCaller (image : Image) (it : Happening) (edge : Edge) : Type 0 where
  pub procedure : ℕ
  pub calls : CallsBy image it.place.instance it.event edge.row procedure
  pub run : IsRun it.place.instance edge.row procedure edge.column
  pub to : edge.to ≡ it.place
