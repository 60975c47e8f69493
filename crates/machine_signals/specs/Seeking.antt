-- The way of a signal from table to table (rule of this project).
use Rattle.std.specs.Prelude.{◌≡◌, ℕ, ◌+◌, ◌≤◌, List, length, Option, Some, None}
use Rattle.code_forms.specs.declared.module_code.CodeProcedure.{CodeProcedure}
use Rattle.object_files.specs.declared.image.Image.{Image}
use Rattle.signaller.specs.declared.search.Search.{Search}
use Rattle.signaller.specs.declared.signal_id.SignalId.{SignalId}
use Rattle.machine_rules.specs.declared.end.End.TheVariants.{Uncaught}
use Rattle.machine_rules.specs.State.{ForRaise, Active, Activations, Store, Seeks, Ended, Stepped, Goes}
use Rattle.machine_rules.specs.LookUps.{procedure_of}
use Rattle.machine_rules.specs.Activations.{activation_at}
use Rattle.machine_rules.specs.Signals.{enter_arm}
use Rattle.machine_rules.specs.Steps.{Ends}
use Rattle.machine_topmost.specs.Flat.{part}
use Rattle.machine_activations.specs.declared.row.Layout.{Layout}
use Rattle.machine_activations.specs.declared.row.Row.{Row}
use Rattle.machine_activations.specs.Below.{Raised, Below}
use Rattle.machine_activations.specs.Frames.{row_at}
use Rattle.machine_activations.specs.Reaching.{Reaches}
use Rattle.machine_signals.specs.declared.seeking.Landed.{Landed}
use Rattle.machine_signals.specs.Arms.{HasArm}
use Rattle.machine_signals.specs.Indexed.{AsksIn}

-- an arm of an activation is run for the signal
pub record Lands (image : Image) (signal : SignalId) (args : List ℕ) (S : Activations) (m : Store) (landed : Landed) (s : Stepped) : Type 0 where
  pub holder : Active
  pub there : activation_at S landed.place ≡ Some holder
  pub by : Reaches image s (enter_arm image landed.arm holder landed.place (ForRaise signal args landed.beyond) args S m)

-- nothing catches it; or an arm does
abbrev pub Seeked : Image → SignalId → List ℕ → Activations → Store → Stepped → Option Landed → Type 0
Seeked image signal args S m s None = Ends image s (Ended (Uncaught signal)) m
Seeked image signal args S m s (Some landed) = Lands image signal args S m landed s

-- what was found is an arm of the table of an activation that was asked, and a search there
pub record IsLanding (image : Image) (table : List Row) (from : ℕ) (landed : Landed) : Type 0 where
  pub procedure : CodeProcedure
  pub is : procedure_of image (row_at table landed.place).instance (row_at table landed.place).procedure ≡ Some procedure
  pub low : landed.place ≤ from
  pub has : HasArm procedure landed.arm
  pub asks : AsksIn procedure landed.beyond

-- All activations wait, the topmost one, at a place, for what comes of the signal that it raised; its arguments stand in the region. The
-- machine comes to where the signal asks the table of the activation at another place, from a search on.
pub record Seeking (image : Image) (layout : Layout) (region : List ℕ) (table : List Row) (top : ℕ) (signal : SignalId)
    (from count place : ℕ) (search : Search) (s : Stepped) (m : Store) : Type 0 where
  pub activations : Activations
  pub args : List ℕ
  pub below : Below image layout region table (Raised signal args) activations
  pub high : length activations ≡ top + 1
  pub low : place ≤ top
  pub source : part region from count ≡ args
  pub inside : from + count ≤ length region
  pub reaches : Reaches image s (Goes (Seeks signal args place search activations m))

-- so it is from some state on
pub record CanSeek (image : Image) (layout : Layout) (region : List ℕ) (table : List Row) (top : ℕ) (signal : SignalId)
    (from count place : ℕ) (search : Search) : Type 0 where
  pub start : Stepped
  pub store : Store
  pub seeking : Seeking image layout region table top signal from count place search start store
