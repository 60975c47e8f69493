-- Where a signal begins to come, and where it comes next, as steps from place to place (rule of this project).
use Rattle.std.specs.Prelude.{ℕ, ◌+◌, ◌<◌, length, None, Some}
use Rattle.code_forms.specs.declared.instruction.Instruction.{Instruction}
use Rattle.code_forms.specs.declared.module_code.CodeProcedure.{CodeProcedure}
use Rattle.code_forms.specs.declared.module_code.ModuleCode.{ModuleCode}
use Rattle.object_files.specs.declared.image.Image.{Image}
use Rattle.signaller.specs.declared.signal_id.SignalId.{SignalId}
use Rattle.survey_rules.specs.Escapes.{Position, IsCode, MayRaise, Calls, IsRun, Catches, position_of, position_beyond}
use Rattle.survey_rules.specs.Reached.{Stands}
use Rattle.place_walks.specs.declared.place.Place.{Place}
use Rattle.place_walks.specs.Walks.{slot_of}

abbrev pub place_at : (instance procedure : ℕ) → Position → Place
place_at j n position = record { instance = j; procedure = n; position = position }

-- a reached instruction may raise the signal
pub data Begins (image : Image) (s : SignalId) : Place → Type 0 where
  raised : (j n at : ℕ) (m : ModuleCode) (p : CodeProcedure) (i : Instruction) → IsCode image j n m p → Stands m p at i → MayRaise image j i s
      → Begins image s (place_at j n (position_of p at))

-- one calls what comes out of a procedure of an instance
pub data CallsOut (image : Image) (other q : ℕ) : Place → Type 0 where
  called : (j n at procedure : ℕ) (m : ModuleCode) (p : CodeProcedure) (i : Instruction) → IsCode image j n m p → Stands m p at i
      → Calls image j i other procedure → IsRun j other procedure q → CallsOut image other q (place_at j n (position_of p at))

-- from out of a procedure to where it is called, and from a phrase that lets the signal past to the one beyond it
pub data Follows (image : Image) (s : SignalId) : Place → Place → Type 0 where
  out : (other q : ℕ) (y : Place) → CallsOut image other q y → Follows image s (place_at other q None) y
  past : (j n k : ℕ) (m : ModuleCode) (p : CodeProcedure) → IsCode image j n m p → (Catches image j m p s k → ⊥)
      → Follows image s (place_at j n (Some k)) (place_at j n (position_beyond p k))

-- a place of an image
pub record IsPlace (image : Image) (x : Place) : Type 0 where
  pub m : ModuleCode
  pub p : CodeProcedure
  pub code : IsCode image x.instance x.procedure m p
  pub there : slot_of x.position < length p.phrases + 1
