-- The forms of a command line (rule of this project).
use Rattle.std.specs.Prelude.{◌≡◌, ◌≢◌, ℕ, ◌<◌, ◌≤◌, ◌^◌, true, List, [], ◌∷◌, ◌++◌, length, All, AllPairs, Some, codes, decimal}
use Rattle.mesa_base.specs.Stamp.{stamp_of}
use Rattle.config_rules.specs.Components.{is_file_base}
use Rattle.include_rules.specs.Plans.{most_texts}
use Rattle.loader_rules.specs.declared.limits.TheConstants.{MOST_IMAGES}

-- the files of a base
abbrev pub module_file : List ℕ → List ℕ
module_file base = base ++ codes ".mesa"

abbrev pub config_file : List ℕ → List ℕ
config_file base = base ++ codes ".config"

abbrev pub interface_file : List ℕ → List ℕ
interface_file base = base ++ codes ".mif"

abbrev pub object_file : List ℕ → List ℕ
object_file base = base ++ codes ".mob"

abbrev pub image_file : List ℕ → List ℕ
image_file base = base ++ codes ".mim"

-- what is run: one module alone, or a configuration
pub data Source : Type 0 where
  OfModule : Source
  OfConfig : Source

abbrev pub source_file : Source → List ℕ → List ℕ
source_file OfModule base = module_file base
source_file OfConfig base = config_file base

-- what a file holds that is listed or upgraded
pub data FileKind : Type 0 where
  InterfaceFile : FileKind
  ObjectFile : FileKind
  ImageFile : FileKind

abbrev pub kind_file : FileKind → List ℕ → List ℕ
kind_file InterfaceFile base = interface_file base
kind_file ObjectFile base = object_file base
kind_file ImageFile base = image_file base

-- an exercise has at most so many links
abbrev pub most_links : ℕ
most_links = 1000

pub data Form : Type 0 where
  -- compile NAME
  Compile : (base : List ℕ) → Form
  -- compile NAME STAMP
  Define : (base : List ℕ) → (stamp : ℕ) → Form
  -- bind NAME
  Bind : (base : List ℕ) → Form
  -- run NAME TURNS, run NAME NAME .. TURNS
  Run : (bases : List (List ℕ)) → (turns : ℕ) → Form
  -- go NAME.mesa TURNS, go NAME.config TURNS
  Go : Source → (base : List ℕ) → (turns : ℕ) → Form
  -- list NAME.mif, list NAME.mob, list NAME.mim
  Show : FileKind → (base : List ℕ) → Form
  -- upgrade NAME.mif, upgrade NAME.mob, upgrade NAME.mim
  Upgrade : FileKind → (base : List ℕ) → Form
  -- exercise N TURNS
  Exercise : (links turns : ℕ) → Form
  -- plan NAME ..
  Plan : (bases : List (List ℕ)) → Form
  -- survey NAME
  Survey : (base : List ℕ) → Form

-- the turns stand in decimal digits without a leading zero, at most 2^64 - 1, and so do the links, from 1 to 1000; the stamp in 12 hexadecimal digits;
-- a plan has from 1 to 64 names, no two of which are the same; from 1 to 16 images are run, and one may be named again
pub data HasForm : List (List ℕ) → Form → Type 0 where
  compile : (base : List ℕ) → is_file_base base ≡ true → HasForm (codes "compile" ∷ base ∷ []) (Compile base)
  define : (base word : List ℕ) (stamp : ℕ) → is_file_base base ≡ true → stamp_of word ≡ Some stamp
      → HasForm (codes "compile" ∷ base ∷ word ∷ []) (Define base stamp)
  bind : (base : List ℕ) → is_file_base base ≡ true → HasForm (codes "bind" ∷ base ∷ []) (Bind base)
  run : (bases : List (List ℕ)) (turns : ℕ) → 1 ≤ length bases → length bases ≤ MOST_IMAGES → All (λ base. is_file_base base ≡ true) bases → turns < 2 ^ 64
      → HasForm (codes "run" ∷ bases ++ decimal turns ∷ []) (Run bases turns)
  go : (source : Source) (base : List ℕ) (turns : ℕ) → is_file_base base ≡ true → turns < 2 ^ 64
      → HasForm (codes "go" ∷ source_file source base ∷ decimal turns ∷ []) (Go source base turns)
  list : (kind : FileKind) (base : List ℕ) → is_file_base base ≡ true → HasForm (codes "list" ∷ kind_file kind base ∷ []) (Show kind base)
  upgrade : (kind : FileKind) (base : List ℕ) → is_file_base base ≡ true → HasForm (codes "upgrade" ∷ kind_file kind base ∷ []) (Upgrade kind base)
  exercise : (links turns : ℕ) → 1 ≤ links → links ≤ most_links → turns < 2 ^ 64
      → HasForm (codes "exercise" ∷ decimal links ∷ decimal turns ∷ []) (Exercise links turns)
  plan : (bases : List (List ℕ)) → 1 ≤ length bases → length bases ≤ most_texts → All (λ base. is_file_base base ≡ true) bases
      → AllPairs (λ a b. a ≢ b) bases → HasForm (codes "plan" ∷ bases) (Plan bases)
  survey : (base : List ℕ) → is_file_base base ≡ true → HasForm (codes "survey" ∷ base ∷ []) (Survey base)

-- every other command line
abbrev pub HasNoForm : List (List ℕ) → Type 0
HasNoForm words = (form : Form) → HasForm words form → ⊥

-- ---- what a form leaves as it was, whatever it answers

-- its file is written, or not: nothing is run or printed
abbrev pub WritesAlone : Form → Type 0
WritesAlone (Compile base) = Unit {0}
WritesAlone (Define base stamp) = Unit {0}
WritesAlone (Bind base) = Unit {0}
WritesAlone (Run bases turns) = ⊥
WritesAlone (Go source base turns) = ⊥
WritesAlone (Show kind base) = ⊥
WritesAlone (Upgrade kind base) = Unit {0}
WritesAlone (Exercise links turns) = ⊥
WritesAlone (Plan bases) = ⊥
WritesAlone (Survey base) = ⊥

-- no file is changed
abbrev pub KeepsFiles : Form → Type 0
KeepsFiles (Compile base) = ⊥
KeepsFiles (Define base stamp) = ⊥
KeepsFiles (Bind base) = ⊥
KeepsFiles (Run bases turns) = Unit {0}
KeepsFiles (Go source base turns) = ⊥
KeepsFiles (Show kind base) = Unit {0}
KeepsFiles (Upgrade kind base) = ⊥
KeepsFiles (Exercise links turns) = Unit {0}
KeepsFiles (Plan bases) = Unit {0}
KeepsFiles (Survey base) = Unit {0}

-- the input is not asked
abbrev pub KeepsInput : Form → Type 0
KeepsInput (Compile base) = Unit {0}
KeepsInput (Define base stamp) = Unit {0}
KeepsInput (Bind base) = Unit {0}
KeepsInput (Run bases turns) = ⊥
KeepsInput (Go source base turns) = ⊥
KeepsInput (Show kind base) = Unit {0}
KeepsInput (Upgrade kind base) = Unit {0}
KeepsInput (Exercise links turns) = Unit {0}
KeepsInput (Plan bases) = Unit {0}
KeepsInput (Survey base) = Unit {0}

-- nothing is run
abbrev pub KeepsSteps : Form → Type 0
KeepsSteps (Compile base) = Unit {0}
KeepsSteps (Define base stamp) = Unit {0}
KeepsSteps (Bind base) = Unit {0}
KeepsSteps (Run bases turns) = ⊥
KeepsSteps (Go source base turns) = ⊥
KeepsSteps (Show kind base) = Unit {0}
KeepsSteps (Upgrade kind base) = Unit {0}
KeepsSteps (Exercise links turns) = ⊥
KeepsSteps (Plan bases) = Unit {0}
KeepsSteps (Survey base) = Unit {0}

-- no file is asked for
abbrev pub KeepsFolder : Form → Type 0
KeepsFolder (Compile base) = ⊥
KeepsFolder (Define base stamp) = ⊥
KeepsFolder (Bind base) = ⊥
KeepsFolder (Run bases turns) = ⊥
KeepsFolder (Go source base turns) = ⊥
KeepsFolder (Show kind base) = ⊥
KeepsFolder (Upgrade kind base) = ⊥
KeepsFolder (Exercise links turns) = Unit {0}
KeepsFolder (Plan bases) = ⊥
KeepsFolder (Survey base) = ⊥
