-- When each answer of a call comes, and what it leaves in the folder, in the input and in `out` (rule of this project).
use Rattle.std.specs.Prelude.{◌≡◌, ℕ, List, [], ◌∷◌, ◌++◌, length, All, Option, Ok}
use Rattle.mesa_base.specs.Outside.{Shelf, Files}
use Rattle.mesa_types.specs.Typed.{Module}
use Rattle.interface_records.specs.declared.interface.Interface.{Interface}
use Rattle.interface_records.specs.Hosts.{IsHostItem}
use Rattle.interface_records.specs.declared.wanted.WantedItem.{WantedItem}
use Rattle.linked_programs.specs.machine_ready.specs.Hosts.{IsFirstUnresolved}
use Rattle.object_files.specs.declared.image.Image.{Image}
use Rattle.object_files.specs.declared.object.Object.{Object}
use Rattle.object_rules.specs.ImageForms.{ImagePart}
use Rattle.linked_programs.specs.link_tables.specs.Linked.{image_of}
use Rattle.linked_programs.specs.frame_machine.specs.declared.outcome.Outcome.{Outcome}
use Rattle.line_pieces.specs.Outputs.{HasFaulted, PrintsAll, PrintsPrefix}
use Rattle.linked_programs.specs.Objects.{IsObjectOf, AreObjectsOf}
use Rattle.command_rules.specs.Binding.{Bound, IsImageOf, bound_in}
use Rattle.command_rules.specs.Case.{Case, Done, Refused, WriteFault, Memory, Usage, Unresolved, TooLarge}
use Rattle.command_rules.specs.Configurations.{Configured, left_to_loader, program, source_in}
use Rattle.command_rules.specs.Ends.{Ends, RunsTo}
use Rattle.command_rules.specs.Exercise.{IsNoEnd, chain, exercise_shelf, summary, within}
use Rattle.command_rules.specs.Forms.{Source, OfConfig, FileKind, Compile, Define, Bind, Run, Go, Show, Upgrade, Exercise, Plan, Survey, HasForm, HasNoForm, kind_file, module_file, interface_file, object_file, image_file}
use Rattle.command_rules.specs.Listing.{listing_in, value_in}
use Rattle.command_rules.specs.Loading.{HostHas, IsFirstToLack, IsRunOf, host_wants, runnable_in}
use Rattle.command_rules.specs.Modules.{interface_in, module_in}
use Rattle.command_rules.specs.Passes.{Has, Trail}
use Rattle.command_rules.specs.Passing.{Fails, Gives}
use Rattle.command_rules.specs.Planning.{plan_in}
use Rattle.command_rules.specs.Printing.{Prints}
use Rattle.command_rules.specs.Reading.{Asked, Onward}
use Rattle.command_rules.specs.Shown.{image_names}
use Rattle.command_rules.specs.Surveying.{survey_in}
use Rattle.command_rules.specs.Worlds.{Scene}
use Rattle.command_rules.specs.Writing.{Target, Value, holding, OfInterface, OfObject, OfImage, IsSmall, IsFirstTooLarge, Stored, NotStored, Written}

-- ---- compile and bind: one file is written

-- compile NAME
pub data Compiles (base : List ℕ) (folder folder' : Shelf) : Case → Type 0 where
  not_compiled : (case : Case) → Fails (module_in (module_file base)) folder folder' case → Onward folder folder' → Compiles base folder folder' case
  compiled : (m : Module) (o : Object) (trail : Trail) (case : Case) → (module_in (module_file base)).comes folder.files trail (Has m) → IsObjectOf m o
      → Written (holding (object_file base) (OfObject o) ∷ []) trail folder folder' case → Compiles base folder folder' case

-- compile NAME STAMP
pub data Defines (base : List ℕ) (stamp : ℕ) (folder folder' : Shelf) : Case → Type 0 where
  not_defined : (case : Case) → Fails (interface_in (module_file base) stamp) folder folder' case → Onward folder folder' → Defines base stamp folder folder' case
  defined : (i : Interface) (trail : Trail) (case : Case) → (interface_in (module_file base) stamp).comes folder.files trail (Has i)
      → Written (holding (interface_file base) (OfInterface i) ∷ []) trail folder folder' case → Defines base stamp folder folder' case

-- bind NAME
pub data Binds (base : List ℕ) (folder folder' : Shelf) : Case → Type 0 where
  not_bound : (case : Case) → Fails (bound_in base) folder folder' case → Onward folder folder' → Binds base folder folder' case
  bound : (b : Bound) (image : Image) (trail : Trail) (case : Case) → (bound_in base).comes folder.files trail (Has b) → IsImageOf b image
      → Written (holding (image_file base) (OfImage image) ∷ []) trail folder folder' case → Binds base folder folder' case

-- ---- run NAME TURNS, run NAME NAME .. TURNS: the images are read, and several are loaded as one; what is wanted is the host's, or the first item
-- is named that is not; then the image is run

pub data Loads (bases : List (List ℕ)) (turns : ℕ) (folder folder' : Shelf) (old new : Scene) : Case → Type 0 where
  not_read : (case : Case) → Fails (runnable_in bases) folder folder' case → Onward folder folder' → new ≡ old
      → Loads bases turns folder folder' old new case
  unresolved : (parts : List ImagePart) (base : List ℕ) (i : WantedItem) → Gives (runnable_in bases) folder folder' parts
      → IsFirstToLack bases (host_wants parts) base i → new ≡ old → Loads bases turns folder folder' old new (Refused (image_file base) (Unresolved i))
  no_memory : (parts : List ImagePart) → Gives (runnable_in bases) folder folder' parts → new ≡ old → Loads bases turns folder folder' old new Memory
  ran : (parts : List ImagePart) (image : Image) (case : Case) → Gives (runnable_in bases) folder folder' parts → IsRunOf parts image
      → HostHas parts → RunsTo (image_names image) image turns old new case → Loads bases turns folder folder' old new case

-- ---- go NAME.mesa TURNS, go NAME.config TURNS

-- what was configured, after these files were asked for, with the objects of its modules
pub record Made (source : Source) (base : List ℕ) (files : Option Files) (trail : Trail) : Type 0 where
  pub configured : Configured
  pub comes : (source_in source base).comes files trail (Has configured)
  pub objects : List Object
  pub their : AreObjectsOf configured.modules objects

-- the image that is linked from them
abbrev pub linked : {source : Source} {base : List ℕ} {files : Option Files} {trail : Trail} → Made source base files trail → Image
linked m = image_of m.configured.tree m.objects

-- an object to each file
unfoldable pub each_holding : (bases : List (List ℕ)) → List Object → List Target
each_holding [] objects = []
each_holding (base ∷ bases) [] = []
each_holding (base ∷ bases) (o ∷ objects) = holding (object_file base) (OfObject o) ∷ each_holding bases objects

-- what is written: the objects in order, and then the image
abbrev pub targets_of : {source : Source} (base : List ℕ) {files : Option Files} {trail : Trail} → Made source base files trail → List Target
targets_of base m = each_holding m.configured.bases m.objects ++ holding (image_file base) (OfImage (linked m)) ∷ []

-- The files are read and every item binds, or it is said why not. No file would be too large, or the first is named that would; what is left
-- to the loader is the host's, or the first item is named that is not. Then the files are written, or it is said which is not, and then that
-- very image is run.
pub data Goes (source : Source) (base : List ℕ) (turns : ℕ) (folder folder' : Shelf) (old new : Scene) : Case → Type 0 where
  not_configured : (case : Case) → Fails (source_in source base) folder folder' case → Onward folder folder' → new ≡ old
      → Goes source base turns folder folder' old new case
  too_large : (trail : Trail) (m : Made source base folder.files trail) (file : List ℕ) → IsFirstTooLarge (targets_of base m) file
      → Asked trail folder folder' → new ≡ old → Goes source base turns folder folder' old new (Refused file TooLarge)
  unresolved : (trail : Trail) (m : Made source base folder.files trail) (i : WantedItem) → All IsSmall (targets_of base m)
      → IsFirstUnresolved (left_to_loader m.configured) i → Asked trail folder folder' → new ≡ old
      → Goes source base turns folder folder' old new (Refused (image_file base) (Unresolved i))
  no_memory : (c : Configured) → Gives (source_in source base) folder folder' c → new ≡ old → Goes source base turns folder folder' old new Memory
  not_stored : (trail : Trail) (m : Made source base folder.files trail) (case : Case) → All IsSmall (targets_of base m)
      → All IsHostItem (left_to_loader m.configured) → NotStored (targets_of base m) trail folder folder' case → new ≡ old
      → Goes source base turns folder folder' old new case
  ran : (trail : Trail) (m : Made source base folder.files trail) (case : Case) → All IsHostItem (left_to_loader m.configured)
      → Stored (targets_of base m) trail folder folder' → Ends (program m.configured) (linked m) turns old new case
      → Goes source base turns folder folder' old new case

-- ---- list FILE: its listing is printed

abbrev pub Shows : FileKind → (base : List ℕ) → (folder folder' : Shelf) → (old new : Scene) → Case → Type 0
Shows kind base folder folder' old new case = Prints (listing_in kind (kind_file kind base)) folder folder' old new case

-- ---- plan NAME ..: the plan is printed

abbrev pub Plans : (bases : List (List ℕ)) → (folder folder' : Shelf) → (old new : Scene) → Case → Type 0
Plans bases folder folder' old new case = Prints (plan_in bases) folder folder' old new case

-- ---- survey NAME: the signals that may escape the image are printed

abbrev pub ShowsEscapes : (base : List ℕ) → (folder folder' : Shelf) → (old new : Scene) → Case → Type 0
ShowsEscapes base folder folder' old new case = Prints (survey_in base) folder folder' old new case

-- ---- upgrade FILE: what it holds is written over it in version 2. That is never too large: both spellings of a value have one length.

pub data Upgrades (kind : FileKind) (base : List ℕ) (folder folder' : Shelf) : Case → Type 0 where
  not_held : (case : Case) → Fails (value_in kind (kind_file kind base)) folder folder' case → Onward folder folder'
      → Upgrades kind base folder folder' case
  no_memory : (v : Value) → Gives (value_in kind (kind_file kind base)) folder folder' v → Upgrades kind base folder folder' Memory
  stored : (v : Value) (trail : Trail) → (value_in kind (kind_file kind base)).comes folder.files trail (Has v)
      → Stored (holding (kind_file kind base) v ∷ []) trail folder folder' → Upgrades kind base folder folder' Done
  not_stored : (v : Value) (trail : Trail) (case : Case) → (value_in kind (kind_file kind base)).comes folder.files trail (Has v)
      → NotStored (holding (kind_file kind base) v ∷ []) trail folder folder' case → Upgrades kind base folder folder' case

-- ---- exercise N TURNS

-- what an exercise configures, after these files of its own folder were asked for, with the objects of its modules
abbrev pub MadeWithin : (links : ℕ) → Trail → Type 0
MadeWithin links trail = Made OfConfig chain (exercise_shelf links).files trail

-- the summary of its run, which ends in this case with so many turns left
abbrev pub summary_of : {source : Source} {base : List ℕ} {files : Option Files} {trail : Trail} → Made source base files trail → Case → (left : ℕ) → List ℕ
summary_of m case left = summary (length (linked m).instances) case left

-- `go Chain.config TURNS` writes and runs within the exercise, up to this end of the run; `mid` is what it leaves
pub record Exercised (links turns : ℕ) (old mid : Scene) (case : Case) : Type 0 where
  pub trail : Trail
  pub made : MadeWithin links trail
  pub folder : Shelf
  pub hosts : All IsHostItem (left_to_loader made.configured)
  pub stored : Stored (targets_of chain made) trail (exercise_shelf links) folder
  pub ends : Ends (program made.configured) (linked made) turns (within old) mid case
  pub outcome : Outcome
  pub ended : ends.machine.end ≡ Ok outcome

-- The summary follows where the run has come to an end. Otherwise the call ends as that `go` does, whose folder and input never fail.
pub data Exercises (links turns : ℕ) (old new : Scene) : Case → Type 0 where
  no_memory : new ≡ old → Exercises links turns old new Memory
  no_end : (folder : Shelf) (mid : Scene) (case : Case) → Goes OfConfig chain turns (exercise_shelf links) folder (within old) mid case
      → IsNoEnd case → folder.faults ≡ (λ name. 0) → mid.input.faults ≡ 0
      → new.out ≡ mid.out → new.input ≡ old.input → new.steps ≡ mid.steps → Exercises links turns old new case
  ended : (mid : Scene) (case : Case) (e : Exercised links turns old mid case) → PrintsAll (summary_of e.made case e.outcome.left) mid.out new.out
      → new.input ≡ old.input → new.steps ≡ mid.steps → Exercises links turns old new case
  not_summed : (mid : Scene) (case : Case) (e : Exercised links turns old mid case) → HasFaulted old.out new.out
      → PrintsPrefix (summary_of e.made case e.outcome.left) mid.out new.out
      → new.input ≡ old.input → new.steps ≡ mid.steps → Exercises links turns old new WriteFault

-- ---- what comes of the words

pub data Comes (words : List (List ℕ)) (folder folder' : Shelf) (old new : Scene) : Case → Type 0 where
  usage : HasNoForm words → folder' ≡ folder → new ≡ old → Comes words folder folder' old new Usage
  compiles : (base : List ℕ) (case : Case) → HasForm words (Compile base) → Compiles base folder folder' case → new ≡ old
      → Comes words folder folder' old new case
  defines : (base : List ℕ) (stamp : ℕ) (case : Case) → HasForm words (Define base stamp) → Defines base stamp folder folder' case → new ≡ old
      → Comes words folder folder' old new case
  binds : (base : List ℕ) (case : Case) → HasForm words (Bind base) → Binds base folder folder' case → new ≡ old
      → Comes words folder folder' old new case
  loads : (bases : List (List ℕ)) (turns : ℕ) (case : Case) → HasForm words (Run bases turns) → Loads bases turns folder folder' old new case
      → Comes words folder folder' old new case
  goes : (source : Source) (base : List ℕ) (turns : ℕ) (case : Case) → HasForm words (Go source base turns)
      → Goes source base turns folder folder' old new case → Comes words folder folder' old new case
  shows : (kind : FileKind) (base : List ℕ) (case : Case) → HasForm words (Show kind base) → Shows kind base folder folder' old new case
      → Comes words folder folder' old new case
  upgrades : (kind : FileKind) (base : List ℕ) (case : Case) → HasForm words (Upgrade kind base) → Upgrades kind base folder folder' case → new ≡ old
      → Comes words folder folder' old new case
  exercises : (links turns : ℕ) (case : Case) → HasForm words (Exercise links turns) → Exercises links turns old new case → folder' ≡ folder
      → Comes words folder folder' old new case
  plans : (bases : List (List ℕ)) (case : Case) → HasForm words (Plan bases) → Plans bases folder folder' old new case
      → Comes words folder folder' old new case
  surveys : (base : List ℕ) (case : Case) → HasForm words (Survey base) → ShowsEscapes base folder folder' old new case
      → Comes words folder folder' old new case
