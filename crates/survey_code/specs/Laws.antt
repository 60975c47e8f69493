-- What is so of events and endings.
use Rattle.std.specs.Prelude.{◌≡◌, ◌↔◌, ℕ, Some}
use Rattle.code_forms.specs.declared.instruction.Instruction.{Instruction}
use Rattle.code_forms.specs.declared.module_code.Arm.{Arm}
use Rattle.code_forms.specs.declared.module_code.CodeProcedure.{CodeProcedure}
use Rattle.code_forms.specs.declared.module_code.ModuleCode.{ModuleCode}
use Rattle.object_files.specs.declared.image.Image.{Image}
use Rattle.signaller.specs.declared.signal_id.SignalId.{SignalId}
use Rattle.survey_rules.specs.Escapes.{MayRaise, Calls, StopsSignal}
use Rattle.survey_code.specs.declared.event.Event.{Event}
use Rattle.survey_code.specs.declared.surveyed.Ending.{Ending}
use Rattle.survey_code.specs.Events.{event_of, RaisesBy, CallsBy}
use Rattle.survey_code.specs.Sites.{IsEnding, StopsBy}

-- an instruction may raise a signal exactly where its event raises it
abbrev pub RaisesByEvent : Type 0
RaisesByEvent = (image : Image) (instance : ℕ) (i : Instruction) (s : SignalId)
    → MayRaise image instance i s ↔ ((event : Event) × (event_of i ≡ Some event) × RaisesBy image instance event s)

-- and may call a procedure exactly where its event calls it
abbrev pub CallsByEvent : Type 0
CallsByEvent = (image : Image) (instance : ℕ) (i : Instruction) (other procedure : ℕ)
    → Calls image instance i other procedure ↔ ((event : Event) × (event_of i ≡ Some event) × CallsBy image instance event other procedure)

-- an arm lets the signal past no phrase exactly where one that ends as it does so
abbrev pub StopsByEnding : Type 0
StopsByEnding = (image : Image) (m : ModuleCode) (p : CodeProcedure) (s : SignalId) (arm : Arm) (ending : Ending) → IsEnding m p arm ending
    → StopsSignal image m p s arm ↔ StopsBy image s ending
