-- Where the size sum of a call is small no file of it is too large, and the call is complete (rule of this project).
use Rattle.std.specs.Prelude.{◌≡◌, ℕ, ◌+◌, ◌<◌, ◌≤◌, ◌⊎◌, List, [], ◌∷◌, All, Some}
use Rattle.mesa_base.specs.Outside.{Shelf, Files}
use Rattle.mesa_base.specs.declared.status.Status.{Status}
use Rattle.mesa_base.specs.declared.status.Status.TheVariants as status
use Rattle.mesa_types.specs.Typed.{Module}
use Rattle.interface_records.specs.Hosts.{IsHostItem}
use Rattle.object_files.specs.declared.object.Object.{Object}
use Rattle.command_rules.specs.linked_programs.specs.Objects.{IsObjectOf, AreObjectsOf}
use Rattle.line_pieces.specs.Outputs.{PrintsAll}
use Rattle.command_rules.specs.Case.{Case, Done, Refused}
use Rattle.command_rules.specs.declared.trouble.Trouble.TheVariants.{TooLarge}
use Rattle.command_rules.specs.Comes.{Comes, Made, targets_of}
use Rattle.command_rules.specs.Complete.{Answered, Does, IsCall, MakesOver, Tells}
use Rattle.command_rules.specs.Configurations.{Configured, left_to_loader, program, source_in}
use Rattle.command_rules.specs.Exercise.{chain}
use Rattle.command_rules.specs.Forms.{Source, OfConfig, Form, Compile, Define, Bind, Run, Go, Show, Upgrade, Exercise, Plan, Survey, HasForm, module_file, object_file}
use Rattle.command_rules.specs.Modules.{module_in}
use Rattle.command_rules.specs.Passes.{Has, Trail}
use Rattle.command_rules.specs.Worlds.{Scene, World}
use Rattle.command_rules.specs.Writing.{Target, holding, OfObject, IsSmall, IsFirstTooLarge, StoresAll, size_of}
use Rattle.command_sizes.specs.Sum.{HasGoSum, HasSize, HasSum, IsSizeSum, most}
use Rattle.exercise_texts.specs.Files.{exercise_files}

-- ---- sums

-- what is configured of files that are told binds
abbrev pub HasGoTexts : Source → (base : List ℕ) → Files → Type 0
HasGoTexts source base files = (trail : Trail) × (c : Configured) × (source_in source base).comes (Some files) trail (Has c)

-- the texts that the form compiles are there and are checked, and what is configured binds
abbrev pub HasTexts : Form → Files → Type 0
HasTexts (Compile base) files = (trail : Trail) × (m : Module) × (module_in (module_file base)).comes (Some files) trail (Has m)
HasTexts (Define base stamp) files = ⊥
HasTexts (Bind base) files = ⊥
HasTexts (Run bases turns) files = ⊥
HasTexts (Go source base turns) files = HasGoTexts source base files
HasTexts (Show kind base) files = ⊥
HasTexts (Upgrade kind base) files = ⊥
HasTexts (Exercise links turns) files = HasGoTexts OfConfig chain (exercise_files links)
HasTexts (Plan bases) files = ⊥
HasTexts (Survey base) files = ⊥

-- then there is one sum
pub record SumsAreTold : Type 0 where
  pub some : (form : Form) (files : Files) → HasTexts form files → (sum : ℕ) × IsSizeSum form files sum
  pub one : (form : Form) (files : Files) (sum other : ℕ) → IsSizeSum form files sum → IsSizeSum form files other → sum ≡ other

-- ---- files

-- the file of a text's object has at most 1,000 bytes more than the text's size
abbrev pub ObjectsAreSmall : Type 0
ObjectsAreSmall = (base : List ℕ) (files : Files) (targets : List Target) (size : ℕ) → MakesOver (Compile base) files targets → HasSize files base size
    → All (λ (t : Target). size_of t.value ≤ size + 1000) targets

-- where the size sum is at most 200,000,000, no file that the call writes is too large
abbrev pub FilesAreSmall : Type 0
FilesAreSmall = (form : Form) (files : Files) (targets : List Target) (sum : ℕ) → MakesOver form files targets → IsSizeSum form files sum → sum ≤ most
    → All IsSmall targets

-- ---- TooLarge

-- the size sum is above; an interface, or an image of objects that were read, has none
abbrev pub IsAbove : Form → Files → Type 0
IsAbove (Compile base) files = (size : ℕ) × HasSize files base size × (most < size)
IsAbove (Define base stamp) files = Unit {0}
IsAbove (Bind base) files = Unit {0}
IsAbove (Run bases turns) files = ⊥
IsAbove (Go source base turns) files = (sum : ℕ) × HasGoSum source base files sum × (most < sum)
IsAbove (Show kind base) files = ⊥
IsAbove (Upgrade kind base) files = ⊥
IsAbove (Exercise links turns) files = (sum : ℕ) × HasGoSum OfConfig chain (exercise_files links) sum × (most < sum)
IsAbove (Plan bases) files = ⊥
IsAbove (Survey base) files = ⊥

-- of the files that the form makes this is the first with more than 536,870,912 bytes, and the size sum is above
pub record IsTooLarge (form : Form) (files : Files) (file : List ℕ) : Type 0 where
  pub targets : List Target
  pub makes : MakesOver form files targets
  pub first : IsFirstTooLarge targets file
  pub above : IsAbove form files

-- only so the answer comes
abbrev pub TooLargeComesOnlySo : Type 0
TooLargeComesOnlySo = (words : List (List ℕ)) (form : Form) (files : Files) (folder folder' : Shelf) (old new : Scene) (file : List ℕ) → HasForm words form
    → folder.files ≡ Some files → Comes words folder folder' old new (Refused file TooLarge) → IsTooLarge form files file

-- ---- completeness

-- a small text that is checked has its object's file
abbrev pub IsCompiled : List (List ℕ) → World → World → Status → Type 0
IsCompiled words before after s = (base : List ℕ) (files : Files) (trail : Trail) (m : Module) (size : ℕ) → IsCall words before after (Compile base) files
    → (module_in (module_file base)).comes (Some files) trail (Has m) → HasSize files base size → size ≤ most
    → (Tells Done before.err after.err s × (o : Object) × IsObjectOf m o
    × StoresAll (holding (object_file base) (OfObject o) ∷ []) before.folder.files after.folder.files) ⊎ (s ≡ status.Memory)

-- what is configured, with objects of its modules
abbrev pub made_of : (source : Source) (base : List ℕ) (files : Files) (trail : Trail) (c : Configured) → (source_in source base).comes (Some files) trail (Has c)
    → (objects : List Object) → AreObjectsOf c.modules objects → Made source base (Some files) trail
made_of source base files trail c comes objects their = record { configured = c; comes = comes; objects = objects; their = their }

-- what is small and binds, and wants nothing but the host's items, is written and run: the call ends as its program does for the input, and prints what
-- it means
abbrev pub IsWrittenAndRun : List (List ℕ) → World → World → Status → Type 0
IsWrittenAndRun words before after s = (source : Source) (base : List ℕ) (turns : ℕ) (files : Files) (trail : Trail) (c : Configured) (sum : ℕ) (output : List ℕ) (case : Case)
    → IsCall words before after (Go source base turns) files → (comes : (source_in source base).comes (Some files) trail (Has c)) → HasSum files c sum → sum ≤ most
    → All IsHostItem (left_to_loader c) → Does (program c) turns before.scene output case
    → (Tells case before.err after.err s × PrintsAll output before.scene.out after.scene.out × (objects : List Object) × (their : AreObjectsOf c.modules objects)
    × StoresAll (targets_of base (made_of source base files trail c comes objects their)) before.folder.files after.folder.files) ⊎ (s ≡ status.Memory)

pub record SmallCallsAreComplete : Type 0 where
  pub compiled : (words : List (List ℕ)) (before after : World) (s : Status) → Answered words before after s → IsCompiled words before after s
  pub run : (words : List (List ℕ)) (before after : World) (s : Status) → Answered words before after s → IsWrittenAndRun words before after s
