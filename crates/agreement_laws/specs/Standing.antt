-- The numbered stack: the activations of the machine with a frame's number in the place of its variables, and with what tells a running
-- arm from others. Filled with the variables of each frame it is the machine's list. What of it does not change while its topmost
-- activation goes on is the list without offsets and operands.
use Rattle.std.specs.Prelude.{◌≡◌, ℕ, ◌+◌, ◌<◌, List, [], ◌∷◌, length, true, Option, Some, None, nat_eq, slice_get, if◌then◌else◌}
use Rattle.code_forms.specs.declared.module_code.Arm.{Arm}
use Rattle.code_forms.specs.declared.module_code.Phrase.{Phrase}
use Rattle.code_forms.specs.declared.region.Region.{Region}
use Rattle.code_forms.specs.declared.region.Region.TheVariants.{Body, ArmOf}
use Rattle.code_forms.specs.Regions.{region_at}
use Rattle.signaller.specs.declared.place.Place.{Place}
use Rattle.signaller.specs.Search.{has, arms_of, arms_before}
use Rattle.source_meaning.specs.State.{ProcedureId}
use Rattle.machine_rules.specs.State.{Why, Role, Frame, InArm, Active, Activations}
use Rattle.machine_rules.specs.LookUps.{procedure_of, phrases_in}
use Rattle.agreement_laws.specs.World.{World}

-- A frame, by its number. Or a running arm: the place of its frame; the place of its holder, which is the activation in whose region the
-- phrase stands; its phrase and its number there; its number among the arms of the procedure; and why it runs
pub data Part : Type 0 where
  IsFrame : (number : ℕ) → Part
  IsArm : (owner holder : ℕ) → Place → (number : ℕ) → Why → Part

-- an activation without offset and operands
pub record Here : Type 0 where
  pub procedure : ProcedureId
  pub part : Part

pub record Act : Type 0 where
  pub here : Here
  pub offset : ℕ
  pub operands : List ℕ

abbrev pub at : Here → (offset : ℕ) → (operands : List ℕ) → Act
at h offset operands = record { here = h; offset = offset; operands = operands }

abbrev pub Standing : Type 0
Standing = List Act

abbrev pub bare : Standing → List Here
bare [] = []
bare (a ∷ T) = a.here ∷ bare T

-- The machine's list.

-- the words of each frame, by its number
abbrev pub Frames : Type 0
Frames = (frame : ℕ) → List ℕ

abbrev pub role_of : Frames → Part → Role (List ℕ)
role_of μ (IsFrame number) = Frame (μ number)
role_of μ (IsArm own holder place number why) = InArm own number why

abbrev pub filled : Frames → Act → Active
filled μ a = record {
  instance = a.here.procedure.instance;
  procedure = a.here.procedure.number;
  offset = a.offset;
  operands = a.operands;
  role = role_of μ a.here.part;
}

abbrev pub fill : Frames → Standing → Activations
fill μ [] = []
fill μ (a ∷ T) = filled μ a ∷ fill μ T

-- Looking up. A place is the number of activations below.

abbrev pub act_at : Standing → (place : ℕ) → Option Act
act_at [] q = None
act_at (a ∷ T) q = if nat_eq q (length T) then Some a else act_at T q

abbrev pub here_at : List Here → (place : ℕ) → Option Here
here_at [] q = None
here_at (h ∷ B) q = if nat_eq q (length B) then Some h else here_at B q

abbrev pub owner_of : Part → (place : ℕ) → ℕ
owner_of (IsFrame number) q = q
owner_of (IsArm own holder place number why) q = own

-- a frame's number, with its procedure
pub record Numbered : Type 0 where
  pub number : ℕ
  pub procedure : ProcedureId

abbrev pub numbered : ProcedureId → Part → Option Numbered
numbered p (IsFrame number) = Some (record { number = number; procedure = p })
numbered p (IsArm own holder place number why) = None

abbrev pub frame_at : List Here → (place : ℕ) → Option Numbered
frame_at [] q = None
frame_at (h ∷ B) q = if nat_eq q (length B) then numbered h.procedure h.part else frame_at B q

-- the phrases of an activation's procedure, and the region in which it runs
abbrev pub table_of : World → ProcedureId → List Phrase
table_of W p = phrases_in (procedure_of W.image p.instance p.number)

abbrev pub region_of : Part → Region
region_of (IsFrame number) = Body
region_of (IsArm own holder place number why) = ArmOf place.phrase place.arm

-- an offset is in the region of an activation
abbrev pub LiesIn : List Phrase → Part → (offset : ℕ) → Type 0
LiesIn table (IsFrame number) o = region_at table o ≡ Body
LiesIn table (IsArm own holder place number why) o =
    (arm : Arm) × (slice_get (arms_of (slice_get table place.phrase)) place.arm ≡ Some arm) × (has arm o ≡ true)

-- What is known of the list.

-- the numbers of the frames fall from the top down, and are below n
abbrev pub PartBelow : Part → ℕ → Type 0
PartBelow (IsFrame number) n = number < n
PartBelow (IsArm own holder place number why) n = Unit {0}

abbrev pub below_it : Part → ℕ → ℕ
below_it (IsFrame number) n = number
below_it (IsArm own holder place number why) n = n

abbrev pub Falling : ℕ → List Here → Type 0
Falling n [] = Unit {0}
Falling n (h ∷ B) = PartBelow h.part n × Falling (below_it h.part n) B

-- each frame's number is one of its procedure
abbrev pub PartIs : Part → ProcedureId → (ℕ → ProcedureId) → Type 0
PartIs (IsFrame number) p procedures = procedures number ≡ p
PartIs (IsArm own holder place number why) p procedures = Unit {0}

abbrev pub Named : List Here → (ℕ → ProcedureId) → Type 0
Named [] procedures = Unit {0}
Named (h ∷ B) procedures = PartIs h.part h.procedure procedures × Named B procedures

-- each arm that the activation at place q holds is of a phrase behind n
abbrev pub HeldBehind : Part → (q n : ℕ) → Type 0
HeldBehind (IsFrame number) q n = Unit {0}
HeldBehind (IsArm own holder place number why) q n = holder ≡ q → n < place.phrase

abbrev pub Apart : List Here → (q n : ℕ) → Type 0
Apart [] q n = Unit {0}
Apart (h ∷ B) q n = HeldBehind h.part q n × Apart B q n

-- an arm runs over its holder, which is of the same frame; its phrase stands in its holder's region, before those of the arms that the
-- holder holds already
pub record ArmStands (W : World) (p : ProcedureId) (own holder : ℕ) (place : Place) (number : ℕ) (B : List Here) : Type 0 where
  pub frame : ℕ
  pub is_frame : frame_at B own ≡ Some (record { number = frame; procedure = p })
  pub above : Here
  pub is_holder : here_at B holder ≡ Some above
  pub same_frame : owner_of above.part holder ≡ own
  pub same_procedure : above.procedure ≡ p
  pub phrase : Phrase
  pub is_phrase : slice_get (table_of W p) place.phrase ≡ Some phrase
  pub arm : Arm
  pub is_arm : slice_get phrase.arms place.arm ≡ Some arm
  pub its_number : number ≡ arms_before (table_of W p) place.phrase + place.arm
  pub held : region_at (table_of W p) phrase.from ≡ region_of above.part
  pub apart : Apart B holder place.phrase

abbrev pub PartStands : World → ProcedureId → Part → List Here → Type 0
PartStands W p (IsFrame number) B = Unit {0}
PartStands W p (IsArm own holder place number why) B = ArmStands W p own holder place number B

-- so does each; from this it follows that no arm of a frame runs twice
abbrev pub Nested : World → List Here → Type 0
Nested W [] = Unit {0}
Nested W (h ∷ B) = PartStands W h.procedure h.part B × Nested W B
