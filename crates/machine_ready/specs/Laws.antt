-- What follows for a machine that is ready (rule of this project).
use Rattle.std.specs.Prelude.{◌≡◌, ℕ, ◌+◌, ◌≤◌, List, All, Some, IsSomeAnd, slice_get}
use Rattle.code_forms.specs.declared.module_code.CodeProcedure.{CodeProcedure}
use Rattle.code_forms.specs.Valid.{HasDepths}
use Rattle.interface_records.specs.declared.wanted.Wanted.{Wanted}
use Rattle.interface_records.specs.declared.wanted.WantedItem.{WantedItem}
use Rattle.object_files.specs.declared.image.Image.{Image}
use Rattle.object_files.specs.declared.object.Object.{Object}
use Rattle.machine_rules.specs.LookUps.{procedure_of}
use Rattle.machine_rules.specs.Laws.{HasValidCode, CanRun}
use Rattle.machine_activations.specs.Shows.{IsPrepared}
use Rattle.machine_ready.specs.declared.prepared.Prepared.{Prepared}
use Rattle.machine_ready.specs.Hosts.{IsHostItem, IsFirstUnresolved}
use Rattle.machine_ready.specs.Order.{ImageInOrder}
use Rattle.machine_ready.specs.Ready.{IsPlan, IsReady}

-- an image in order with valid code, whose wanted items are the host's, can be run
abbrev pub OrderedCanRun : Type 0
OrderedCanRun = (image : Image) → ImageInOrder image → HasValidCode image → All IsHostItem image.wanted → CanRun image

-- so can that of a machine that is ready
abbrev pub ReadyCanRun : Type 0
ReadyCanRun = (image : Image) (p : Prepared) → IsReady image p → CanRun image

-- its code has the depth beside each instruction, and each procedure has a plan
abbrev pub ReadyHasDepths : Type 0
ReadyHasDepths = (image : Image) (p : Prepared) → IsReady image p → (n : ℕ) (o : Object) → slice_get image.modules n ≡ Some o → HasDepths o.code

abbrev pub PlansAreThere : Type 0
PlansAreThere = (image : Image) (p : Prepared) → IsReady image p → (n k : ℕ) (o : Object) (q : CodeProcedure) → slice_get image.modules n ≡ Some o
    → slice_get o.code.procedures k ≡ Some q → IsSomeAnd (slice_get p.tables.plans n) (λ plans. IsSomeAnd (slice_get plans k) (IsPlan q))

-- in a part there is room for the frame of each procedure, and behind the largest frame for its operands
abbrev pub PartsFit : Type 0
PartsFit = (image : Image) (p : Prepared) → IsReady image p → (j n : ℕ) (q : CodeProcedure) → procedure_of image j n ≡ Some q
    → (q.frame ≤ p.stack.layout.frame) × (p.stack.layout.frame + q.depth ≤ p.stack.layout.part)

-- it is prepared for the run over its region: besides the above, what each link is bound to takes and gives as many words as the link
abbrev pub ReadyIsPrepared : Type 0
ReadyIsPrepared = (image : Image) (p : Prepared) → IsReady image p → IsPrepared image p.stack.layout

-- there is one first wanted item at most that is none of the host's, and none where all are the host's
abbrev pub OneUnresolved : Type 0
OneUnresolved = (wanteds : List Wanted) (a b : WantedItem) → IsFirstUnresolved wanteds a → IsFirstUnresolved wanteds b → a ≡ b

abbrev pub NoneUnresolved : Type 0
NoneUnresolved = (wanteds : List Wanted) (a : WantedItem) → All IsHostItem wanteds → IsFirstUnresolved wanteds a → ⊥
