-- Which answer a call must give, want of memory aside (rule of this project).
use Rattle.std.specs.Prelude.{◌≡◌, ◌≢◌, ◌↔◌, ℕ, ◌⊎◌, List, [], ◌∷◌, ◌++◌, All, Some, false}
use Rattle.mesa_base.specs.Outside.{Shelf, Stream, Files, Rose}
use Rattle.mesa_base.specs.declared.status.Status.{Status}
use Rattle.mesa_base.specs.declared.status.Status.TheVariants as status
use Rattle.source_meaning.specs.Means.{Means}
use Rattle.source_meaning.specs.Program.{Program}
use Rattle.source_meaning.specs.State.{Answer, End}
use Rattle.mesa_types.specs.Typed.{Module}
use Rattle.interface_records.specs.declared.interface.Interface.{Interface}
use Rattle.interface_records.specs.declared.wanted.WantedItem.{WantedItem}
use Rattle.interface_records.specs.Hosts.{IsHostItem}
use Rattle.linked_programs.specs.machine_ready.specs.Hosts.{IsFirstUnresolved}
use Rattle.machine_rules.specs.State.{Ended}
use Rattle.machine_rules.specs.Steps.{Steps}
use Rattle.machine_rules.specs.declared.end.End as machine
use Rattle.object_files.specs.declared.image.Image.{Image}
use Rattle.object_files.specs.declared.object.Object.{Object}
use Rattle.object_rules.specs.ImageForms.{ImagePart}
use Rattle.linked_programs.specs.Objects.{IsObjectOf}
use Rattle.line_pieces.specs.Outputs.{HasFaulted, PrintsAll, Receives}
use Rattle.command_rules.specs.Binding.{Bound, IsImageOf, bound_in}
use Rattle.command_rules.specs.Case.{Case, Done, Memory, Refused, Unresolved, TooLarge, status_of}
use Rattle.command_rules.specs.Comes.{Comes, Made, MadeWithin, summary_of, targets_of}
use Rattle.command_rules.specs.Configurations.{left_to_loader, program, source_in}
use Rattle.command_rules.specs.Ends.{TellsInput}
use Rattle.command_rules.specs.Exercise.{chain, exercise_shelf, within}
use Rattle.command_rules.specs.Forms.{Source, OfConfig, FileKind, Form, Compile, Define, Bind, Run, Go, Show, Upgrade, Exercise, Plan, Survey, HasForm, HasNoForm, WritesAlone, kind_file, module_file, interface_file, object_file, image_file}
use Rattle.command_rules.specs.Lines.{line_of}
use Rattle.command_rules.specs.Listing.{listing_in, value_in}
use Rattle.command_rules.specs.Loading.{HostHas, IsFirstToLack, IsRunOf, host_wants, runnable_in}
use Rattle.command_rules.specs.Modules.{interface_in, module_in}
use Rattle.command_rules.specs.Passes.{Has, Stops, Trail}
use Rattle.command_rules.specs.Planning.{plan_in}
use Rattle.command_rules.specs.Printing.{Report}
use Rattle.command_rules.specs.Shown.{IsShownAs, case_of_end, image_names}
use Rattle.command_rules.specs.Surveying.{survey_in}
use Rattle.command_rules.specs.Worlds.{Scene, World}
use Rattle.command_rules.specs.Writing.{Target, Value, holding, OfInterface, OfObject, OfImage, IsSmall, IsFirstTooLarge, StoresAll}

-- no call on the folder failed, nor one on the input or `out`
pub record NoFault (folder folder' : Shelf) (old new : Scene) : Type 0 where
  pub no_folder_fault : (file : List ℕ) → ¬ (Rose (folder.faults file) (folder'.faults file))
  pub no_input_fault : ¬ (Rose old.input.faults new.input.faults)
  pub no_out_fault : ¬ (HasFaulted old.out new.out)

-- the status and the line on `err` are those of this case
pub record Tells (case : Case) (said said' : Stream) (s : Status) : Type 0 where
  pub status_is : s ≡ status_of case
  pub says : Receives (line_of case) said said'

-- the call's status and line are those of this case, or memory was wanting
abbrev pub IsAnswer : Case → Stream → Stream → Status → Type 0
IsAnswer case said said' s = Tells case said said' s ⊎ (s ≡ status.Memory)

-- ---- what each form makes of files that are told

-- what it reads stops it; an exercise reads files of its own alone
abbrev pub StopsOver : Form → Files → Case → Type 0
StopsOver (Compile base) files case = (trail : Trail) × (module_in (module_file base)).comes (Some files) trail (Stops case)
StopsOver (Define base stamp) files case = (trail : Trail) × (interface_in (module_file base) stamp).comes (Some files) trail (Stops case)
StopsOver (Bind base) files case = (trail : Trail) × (bound_in base).comes (Some files) trail (Stops case)
StopsOver (Run bases turns) files case = (trail : Trail) × (runnable_in bases).comes (Some files) trail (Stops case)
StopsOver (Go source base turns) files case = (trail : Trail) × (source_in source base).comes (Some files) trail (Stops case)
StopsOver (Show kind base) files case = (trail : Trail) × (listing_in kind (kind_file kind base)).comes (Some files) trail (Stops case)
StopsOver (Upgrade kind base) files case = (trail : Trail) × (value_in kind (kind_file kind base)).comes (Some files) trail (Stops case)
StopsOver (Exercise links turns) files case = (trail : Trail) × (source_in OfConfig chain).comes (exercise_shelf links).files trail (Stops case)
StopsOver (Plan bases) files case = (trail : Trail) × (plan_in bases).comes (Some files) trail (Stops case)
StopsOver (Survey base) files case = (trail : Trail) × (survey_in base).comes (Some files) trail (Stops case)

-- these files are to be written, if none is too large; what is upgraded never is (`IsUpgraded`)
abbrev pub MakesOver : Form → Files → List Target → Type 0
MakesOver (Compile base) files targets = (trail : Trail) × (m : Module) × (o : Object) × (module_in (module_file base)).comes (Some files) trail (Has m)
    × IsObjectOf m o × (targets ≡ holding (object_file base) (OfObject o) ∷ [])
MakesOver (Define base stamp) files targets = (trail : Trail) × (i : Interface) × (interface_in (module_file base) stamp).comes (Some files) trail (Has i)
    × (targets ≡ holding (interface_file base) (OfInterface i) ∷ [])
MakesOver (Bind base) files targets = (trail : Trail) × (b : Bound) × (image : Image) × (bound_in base).comes (Some files) trail (Has b)
    × IsImageOf b image × (targets ≡ holding (image_file base) (OfImage image) ∷ [])
MakesOver (Run bases turns) files targets = ⊥
MakesOver (Go source base turns) files targets = (trail : Trail) × (m : Made source base (Some files) trail) × (targets ≡ targets_of base m)
MakesOver (Show kind base) files targets = ⊥
MakesOver (Upgrade kind base) files targets = ⊥
MakesOver (Exercise links turns) files targets = (trail : Trail) × (m : MadeWithin links trail) × (targets ≡ targets_of chain m)
MakesOver (Plan bases) files targets = ⊥
MakesOver (Survey base) files targets = ⊥

-- ---- what must be answered

-- the input tells its bytes, and for these the program means this output and an end of this case
pub record Does (P : Program) (turns : ℕ) (old : Scene) (output : List ℕ) (case : Case) : Type 0 where
  pub input : List ℕ
  pub tells : TellsInput old input
  pub end : Answer
  pub left : ℕ
  pub taken : ℕ
  pub means : Means P input End turns output end left taken
  pub is_case : IsShownAs P end case

-- for these the machine writes this output and comes to an end of this case
pub record StepsTo (image : Image) (turns : ℕ) (old : Scene) (output : List ℕ) (case : Case) : Type 0 where
  pub input : List ℕ
  pub tells : TellsInput old input
  pub end : machine.End
  pub left : ℕ
  pub taken : ℕ
  pub count : ℕ
  pub steps : Steps image input false turns output (Ended end) left taken count
  pub is_case : case ≡ case_of_end (image_names image) end

-- the words have this form, the folder tells these files, and no call fails
pub record IsCall (words : List (List ℕ)) (before after : World) (form : Form) (files : Files) : Type 0 where
  pub has : HasForm words form
  pub told : before.folder.files ≡ Some files
  pub no_fault : NoFault before.folder after.folder before.scene after.scene

-- what is read and stops a form is its answer
abbrev pub IsRefused : List (List ℕ) → World → World → Status → Type 0
IsRefused words before after s = (form : Form) (files : Files) (case : Case) → IsCall words before after form files → StopsOver form files case
    → IsAnswer case before.err after.err s

-- the first file that would be too large is refused
abbrev pub IsTooLarge : List (List ℕ) → World → World → Status → Type 0
IsTooLarge words before after s = (form : Form) (files : Files) (targets : List Target) (file : List ℕ) → IsCall words before after form files
    → MakesOver form files targets → IsFirstTooLarge targets file → IsAnswer (Refused file TooLarge) before.err after.err s

-- what is left to the loader and is none of the host's is refused by the first such item
abbrev pub IsUnresolved : List (List ℕ) → World → World → Status → Type 0
IsUnresolved words before after s = (source : Source) (base : List ℕ) (turns : ℕ) (files : Files) (trail : Trail) (i : WantedItem)
    → IsCall words before after (Go source base turns) files → (m : Made source base (Some files) trail) → All IsSmall (targets_of base m)
    → IsFirstUnresolved (left_to_loader m.configured) i → IsAnswer (Refused (image_file base) (Unresolved i)) before.err after.err s

-- so it is of an exercise
abbrev pub IsUnresolvedWithin : List (List ℕ) → World → World → Status → Type 0
IsUnresolvedWithin words before after s = (links turns : ℕ) (trail : Trail) (i : WantedItem) → HasForm words (Exercise links turns)
    → NoFault before.folder after.folder before.scene after.scene → (m : MadeWithin links trail) → All IsSmall (targets_of chain m)
    → IsFirstUnresolved (left_to_loader m.configured) i → IsAnswer (Refused (image_file chain) (Unresolved i)) before.err after.err s

-- so is what images want, by the first of them
abbrev pub IsNotLoaded : List (List ℕ) → World → World → Status → Type 0
IsNotLoaded words before after s = (bases : List (List ℕ)) (turns : ℕ) (files : Files) (trail : Trail) (parts : List ImagePart) (base : List ℕ) (i : WantedItem)
    → IsCall words before after (Run bases turns) files → (runnable_in bases).comes (Some files) trail (Has parts)
    → IsFirstToLack bases (host_wants parts) base i → IsAnswer (Refused (image_file base) (Unresolved i)) before.err after.err s

-- what is told and right, and not too large, has its file
abbrev pub IsStored : List (List ℕ) → World → World → Status → Type 0
IsStored words before after s = (form : Form) (files : Files) (targets : List Target) → IsCall words before after form files → WritesAlone form
    → MakesOver form files targets → All IsSmall targets
    → (Tells Done before.err after.err s × StoresAll targets before.folder.files after.folder.files) ⊎ (s ≡ status.Memory)

-- what binds is written and run: the call ends as its program does for the input, and prints what it means
abbrev pub IsComplete : List (List ℕ) → World → World → Status → Type 0
IsComplete words before after s = (source : Source) (base : List ℕ) (turns : ℕ) (files : Files) (trail : Trail) (output : List ℕ) (case : Case)
    → IsCall words before after (Go source base turns) files → (m : Made source base (Some files) trail) → All IsSmall (targets_of base m)
    → All IsHostItem (left_to_loader m.configured) → Does (program m.configured) turns before.scene output case
    → (Tells case before.err after.err s × PrintsAll output before.scene.out after.scene.out
    × StoresAll (targets_of base m) before.folder.files after.folder.files) ⊎ (s ≡ status.Memory)

-- an image, or what is loaded of several, that wants nothing but the host's items is run: the call ends as the machine does for the input, and prints what
-- it writes
abbrev pub IsRun : List (List ℕ) → World → World → Status → Type 0
IsRun words before after s = (bases : List (List ℕ)) (turns : ℕ) (files : Files) (trail : Trail) (parts : List ImagePart) (image : Image) (output : List ℕ) (case : Case)
    → IsCall words before after (Run bases turns) files → (runnable_in bases).comes (Some files) trail (Has parts) → IsRunOf parts image
    → HostHas parts → StepsTo image turns before.scene output case
    → (Tells case before.err after.err s × PrintsAll output before.scene.out after.scene.out) ⊎ (s ≡ status.Memory)

-- what a file holds is listed
abbrev pub IsListed : List (List ℕ) → World → World → Status → Type 0
IsListed words before after s = (kind : FileKind) (base : List ℕ) (files : Files) (trail : Trail) (r : Report)
    → IsCall words before after (Show kind base) files → (listing_in kind (kind_file kind base)).comes (Some files) trail (Has r)
    → (Tells Done before.err after.err s × PrintsAll r.text before.scene.out after.scene.out) ⊎ (s ≡ status.Memory)

-- texts that have an order are planned
abbrev pub IsPlanned : List (List ℕ) → World → World → Status → Type 0
IsPlanned words before after s = (bases : List (List ℕ)) (files : Files) (trail : Trail) (r : Report)
    → IsCall words before after (Plan bases) files → (plan_in bases).comes (Some files) trail (Has r)
    → (Tells Done before.err after.err s × PrintsAll r.text before.scene.out after.scene.out) ⊎ (s ≡ status.Memory)

-- an image is surveyed
abbrev pub IsSurveyed : List (List ℕ) → World → World → Status → Type 0
IsSurveyed words before after s = (base : List ℕ) (files : Files) (trail : Trail) (r : Report)
    → IsCall words before after (Survey base) files → (survey_in base).comes (Some files) trail (Has r)
    → (Tells Done before.err after.err s × PrintsAll r.text before.scene.out after.scene.out) ⊎ (s ≡ status.Memory)

-- what a file holds is written over it in version 2
abbrev pub IsUpgraded : List (List ℕ) → World → World → Status → Type 0
IsUpgraded words before after s = (kind : FileKind) (base : List ℕ) (files : Files) (trail : Trail) (v : Value)
    → IsCall words before after (Upgrade kind base) files → (value_in kind (kind_file kind base)).comes (Some files) trail (Has v)
    → (Tells Done before.err after.err s × StoresAll (holding (kind_file kind base) v ∷ []) before.folder.files after.folder.files) ⊎ (s ≡ status.Memory)

-- texts of an exercise that bind are run: the call ends as their program does for an empty input, and prints what it means, and then the summary
abbrev pub IsExercised : List (List ℕ) → World → World → Status → Type 0
IsExercised words before after s = (links turns : ℕ) (trail : Trail) (output : List ℕ) (case : Case)
    → HasForm words (Exercise links turns) → NoFault before.folder after.folder before.scene after.scene → (m : MadeWithin links trail)
    → All IsSmall (targets_of chain m) → All IsHostItem (left_to_loader m.configured)
    → (d : Does (program m.configured) turns (within before.scene) output case)
    → (Tells case before.err after.err s × PrintsAll (output ++ summary_of m case d.left) before.scene.out after.scene.out) ⊎ (s ≡ status.Memory)

-- what a call answers to its words, with the world as it was and as it is
pub record Answered (words : List (List ℕ)) (before after : World) (s : Status) : Type 0 where
  -- the status is that of a case that comes of the words, the folder, the input and `out`, and `err` receives its line
  pub case : Case
  pub comes : Comes words before.folder after.folder before.scene after.scene case
  pub tells : Tells case before.err after.err s
  pub usage : (s ≡ status.Usage) ↔ HasNoForm words
  pub refused : IsRefused words before after s
  pub too_large : IsTooLarge words before after s
  pub unresolved : IsUnresolved words before after s
  pub unresolved_within : IsUnresolvedWithin words before after s
  pub not_loaded : IsNotLoaded words before after s
  pub stored : IsStored words before after s
  pub complete : IsComplete words before after s
  pub run : IsRun words before after s
  pub listed : IsListed words before after s
  pub upgraded : IsUpgraded words before after s
  pub exercised : IsExercised words before after s
  pub planned : IsPlanned words before after s
  pub surveyed : IsSurveyed words before after s

-- for words, files and an input of bytes that are told, one case comes where no call failed, want of memory aside
abbrev pub OneCaseComes : Type 0
OneCaseComes = (words : List (List ℕ)) (folder folder' folder'' : Shelf) (old new new' : Scene) (files : Files) (input : List ℕ) (c c' : Case) →
    folder.files ≡ Some files → TellsInput old input → NoFault folder folder' old new → NoFault folder folder'' old new' →
    Comes words folder folder' old new c → Comes words folder folder'' old new' c' → c ≢ Memory → c' ≢ Memory → c ≡ c'
