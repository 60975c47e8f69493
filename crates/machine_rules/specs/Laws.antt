-- The laws of the machine.
use Rattle.std.specs.Prelude.{◌≡◌, ◌≢◌, ℕ, ◌<◌, List, length, All, Bool, Option, Some, None, slice_get}
use Rattle.code_forms.specs.declared.module_code.CodeKind.{CodeKind}
use Rattle.code_forms.specs.declared.module_code.CodeKind.TheVariants.{Procedure, Signal, Error}
use Rattle.code_forms.specs.declared.module_code.CodeLink.{CodeLink}
use Rattle.code_forms.specs.declared.module_code.CodeProcedure.{CodeProcedure}
use Rattle.code_forms.specs.declared.module_code.CodeSignal.{CodeSignal}
use Rattle.code_forms.specs.Valid.{Valid}
use Rattle.object_files.specs.declared.image.Image.{Image}
use Rattle.object_files.specs.declared.image.Instance.{Instance}
use Rattle.object_files.specs.declared.image.Link.{Link}
use Rattle.object_files.specs.declared.image.Link.TheVariants.{Wanted, To}
use Rattle.object_files.specs.declared.object.Object.{Object}
use Rattle.machine_rules.specs.LookUps.{called, signal_of, link_of, bound_to, Host, host_of}
use Rattle.machine_rules.specs.State.{Store, Ending, Stuck, Stepped}
use Rattle.machine_rules.specs.Steps.{Ends, Steps}

-- the code of each module is valid
abbrev pub HasValidCode : Image → Type 0
HasValidCode image = (n : ℕ) (o : Object) → slice_get image.modules n ≡ Some o → Valid o.code

-- from any state of any image, valid or not, there is at most one end
abbrev pub EndsAtMostOnce : Type 0
EndsAtMostOnce = (image : Image) (x : Stepped) (end end' : Ending) (m m' : Store) → Ends image x end m → Ends image x end' m' → (end' ≡ end) × (m' ≡ m)

-- there is one output and one end, with so many turns left, bytes taken and instructions begun, and no other
pub record OneResult (image : Image) (input : List ℕ) (faulty : Bool) (turns : ℕ) : Type 0 where
  pub output : List ℕ
  pub end : Ending
  pub left : ℕ
  pub taken : ℕ
  pub count : ℕ
  pub is_run : Steps image input faulty turns output end left taken count
  pub no_other : (o : List ℕ) (e : Ending) (l t c : ℕ) → Steps image input faulty turns o e l t c
      → (o ≡ output) × (e ≡ end) × (l ≡ left) × (t ≡ taken) × (c ≡ count)

-- an image whose code is valid has one result for each input and each bound
abbrev pub HasOneResult : Type 0
HasOneResult = (image : Image) → HasValidCode image → (input : List ℕ) (faulty : Bool) (turns : ℕ) → OneResult image input faulty turns

-- a link of a kind is bound to an item of that kind that is there: one that is called to a procedure or one of the host's procedures, one
-- that is raised to a signal or an error, or to an item wanted of the host, which is NoInput
abbrev pub IsBound : Image → CodeKind → Option Link → Type 0
IsBound image kind None = ⊥
IsBound image Procedure (Some (Wanted n)) = (h : Host) × (host_of image n ≡ Some h)
IsBound image Signal (Some (Wanted n)) = Unit {0}
IsBound image Error (Some (Wanted n)) = Unit {0}
IsBound image Procedure (Some (To j p)) = (procedure : CodeProcedure) × (called image j p ≡ Some procedure)
IsBound image Signal (Some (To j k)) = (s : CodeSignal) × (signal_of image j k ≡ Some s) × (s.kind ≡ Signal)
IsBound image Error (Some (To j k)) = (s : CodeSignal) × (signal_of image j k ≡ Some s) × (s.kind ≡ Error)

-- an image that can be run: its code is valid, and its instances' modules, what its links are bound to, and its CONTROL instances are there
pub record CanRun (image : Image) : Type 0 where
  pub code : HasValidCode image
  pub modules : (j : ℕ) (i : Instance) → slice_get image.instances j ≡ Some i → i.module < length image.modules
  pub links : (j k : ℕ) (l : CodeLink) → link_of image j k ≡ Some l → IsBound image l.kind (bound_to image j k)
  pub control : All (λ j. j < length image.instances) image.control

-- the machine is never stuck on it, for any input and bound
abbrev pub IsNeverStuck : Type 0
IsNeverStuck = (image : Image) → CanRun image → (input : List ℕ) (faulty : Bool) (turns : ℕ) (output : List ℕ) (end : Ending) (left taken count : ℕ)
    → Steps image input faulty turns output end left taken count → end ≢ Stuck
