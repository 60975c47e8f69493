-- Which operands are in range, and where an instruction may stand (rule of this project).
use Rattle.std.specs.Prelude.{◌≡◌, ◌≢◌, ℕ, ◌+◌, ◌<◌, ◌≤◌, ◌⊎◌, length, All, Option, Some, None, slice_get}
use Rattle.code_forms.specs.declared.instruction.Instruction.{Instruction}
use Rattle.code_forms.specs.declared.instruction.Instruction.TheVariants.{Str, LoadL, StoreL, LoadG, StoreG, LoadLX, StoreLX, LoadGX, StoreGX, Call, CallLink, Return, Raise, RaiseLink, RaiseHost, ArmEnd, Resume, Leave, LeaveReturn, ZeroL, ZeroG}
use Rattle.code_forms.specs.declared.module_code.Arm.{Arm}
use Rattle.code_forms.specs.declared.module_code.CodeKind.{CodeKind}
use Rattle.code_forms.specs.declared.module_code.CodeKind.TheVariants.{Procedure, Signal, Error}
use Rattle.code_forms.specs.declared.module_code.CodeLink.{CodeLink}
use Rattle.code_forms.specs.declared.module_code.CodeSignal.{CodeSignal}
use Rattle.code_forms.specs.declared.module_code.Label.{Label}
use Rattle.code_forms.specs.declared.module_code.Label.TheVariants as l
use Rattle.code_forms.specs.Routine.{Routine, Spot}
use Rattle.code_forms.specs.declared.region.Region.{Region}
use Rattle.code_forms.specs.declared.region.Region.TheVariants.{Body}
use Rattle.code_forms.specs.Regions.{region_at, arm_of}

-- a link to a procedure; to a signal or an error
abbrev pub IsCalled : CodeKind → Type 0
IsCalled Procedure = Unit {0}
IsCalled Signal = ⊥
IsCalled Error = ⊥

abbrev pub IsRaised : CodeKind → Type 0
IsRaised Procedure = ⊥
IsRaised Signal = Unit {0}
IsRaised Error = Unit {0}

abbrev pub CalledLink : Option CodeLink → Type 0
CalledLink None = ⊥
CalledLink (Some l) = IsCalled l.kind

abbrev pub RaisedLink : Option CodeLink → Type 0
RaisedLink None = ⊥
RaisedLink (Some l) = IsRaised l.kind

-- operands of an instruction of a region
abbrev pub OperandsFit : Routine → Region → Instruction → Type 0
OperandsFit r region (Str k) = (1 ≤ k) × (k ≤ r.strings)
OperandsFit r region (LoadL s n) = s + n ≤ r.frame
OperandsFit r region (StoreL s n) = s + n ≤ r.frame
OperandsFit r region (LoadG s n) = s + n ≤ r.globals
OperandsFit r region (StoreG s n) = s + n ≤ r.globals
OperandsFit r region (LoadLX s x n) = (s + x ≤ r.frame) × (n ≤ x)
OperandsFit r region (StoreLX s x n) = (s + x ≤ r.frame) × (n ≤ x)
OperandsFit r region (LoadGX s x n) = (s + x ≤ r.globals) × (n ≤ x)
OperandsFit r region (StoreGX s x n) = (s + x ≤ r.globals) × (n ≤ x)
OperandsFit r region (ZeroL s n) = s + n ≤ r.frame
OperandsFit r region (ZeroG s n) = s + n ≤ r.globals
OperandsFit r region (Call p) = (0 < p) × (p < length r.procedures)
OperandsFit r region (CallLink k) = CalledLink (slice_get r.links k)
OperandsFit r region (Raise k) = k < length r.signals
OperandsFit r region (RaiseLink k) = RaisedLink (slice_get r.links k)
OperandsFit r region (RaiseHost fault) = fault ≤ 2
OperandsFit r region Return = region ≡ Body
OperandsFit r region ArmEnd = region ≢ Body
OperandsFit r region (Resume n) = region ≢ Body
OperandsFit r region (Leave k target) = region ≢ Body
OperandsFit r region (LeaveReturn k) = region ≢ Body
OperandsFit r region _ = Unit {0}

abbrev pub SignalTakes : ℕ → Option CodeSignal → Type 0
SignalTakes words None = ⊥
SignalTakes words (Some s) = s.args ≡ words

abbrev pub LinkTakes : ℕ → Option CodeLink → Type 0
LinkTakes words None = ⊥
LinkTakes words (Some l) = l.args ≡ words

-- a label of a signal with so many words of arguments
abbrev pub LabelTakes : Routine → ℕ → Label → Type 0
LabelTakes r words l.Any = ⊥
LabelTakes r words l.Unwind = ⊥
LabelTakes r words (l.Own k) = SignalTakes words (slice_get r.signals k)
LabelTakes r words (l.Link k) = LinkTakes words (slice_get r.links k)
LabelTakes r words l.BoundsFault = ⊥
LabelTakes r words l.ZeroDivisor = ⊥

-- the words of an arm are in the frame, and are none or the arguments of each of its labels
pub record ArmFits (r : Routine) (arm : Arm) : Type 0 where
  pub slots : arm.slot + arm.words ≤ r.frame
  pub words : (arm.words ≡ 0) ⊎ All (LabelTakes r arm.words) arm.labels

-- the operands of an instruction, and of an arm whose region begins with it
pub record OperandsAreRight (r : Routine) (spot : Spot) : Type 0 where
  pub own : OperandsFit r (region_at r.phrases spot.at) spot.instruction
  pub arm : (arm : Arm) → arm_of r.phrases (region_at r.phrases spot.at) ≡ Some arm → arm.start ≡ spot.at → ArmFits r arm
