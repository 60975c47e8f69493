-- The size sum of a call: how large the texts that it compiles are, with their interface files (rule of this project).
use Rattle.std.specs.Prelude.{◌≡◌, ℕ, ◌+◌, ◌*◌, List, length, Option, Some, None}
use Rattle.std.specs.List.{AllZip}
use Rattle.mesa_base.specs.Outside.{Files}
use Rattle.syntax_trees.specs.PlainSyntax.{syntax}
use Rattle.syntax_trees.specs.declared.syntax.Module.{Module}
use Rattle.command_rules.specs.checked_texts.specs.Asked.{asks}
use Rattle.command_rules.specs.checked_texts.specs.Texts.{Begins}
use Rattle.command_rules.specs.checked_texts.specs.declared.purpose.Purpose.TheVariants.{Program}
use Rattle.file_sizes.specs.Sizes.{total}
use Rattle.image_sizes.specs.Trees.{size_sum}
use Rattle.command_rules.specs.Configurations.{Configured, source_in}
use Rattle.command_rules.specs.Exercise.{chain}
use Rattle.command_rules.specs.Forms.{Form, Source, OfConfig, Compile, Define, Bind, Run, Go, Show, Upgrade, Exercise, Plan, Survey, interface_file, module_file}
use Rattle.command_rules.specs.Passes.{Has, Trail}
use Rattle.exercise_texts.specs.Files.{exercise_files}

-- ---- one text

-- the bytes of a file; none where it is not there
abbrev pub bytes_of : Option (List ℕ) → ℕ
bytes_of None = 0
bytes_of (Some bytes) = length bytes

-- those of the interface file that an item of a DIRECTORY asks for; for the built-in interface no file is read
abbrev pub bytes_asked : Files → Option (List ℕ) → ℕ
bytes_asked files None = 0
bytes_asked files (Some base) = bytes_of (files (interface_file base))

-- 160 for each byte of the text, and 4 for each byte of its interface files
abbrev pub size_with : Files → (text : List ℕ) → Module → ℕ
size_with files text tree = 160 * length text + 4 * total (bytes_asked files) (asks (syntax tree))

-- the text of the program in this base's file has this size
pub record HasSize (files : Files) (base : List ℕ) (size : ℕ) : Type 0 where
  pub text : List ℕ
  pub tree : Module
  pub held : files (module_file base) ≡ Some text
  pub begins : Begins text Program tree
  pub is : size ≡ size_with files text tree

-- ---- what a call compiles

-- the sizes of the components' texts, over the instances, and once for each component without one
pub record HasSum (files : Files) (c : Configured) (sum : ℕ) : Type 0 where
  pub sizes : List ℕ
  pub their : AllZip (HasSize files) c.bases sizes
  pub is : sum ≡ size_sum c.tree sizes

-- what is configured of files that are told has this sum
abbrev pub HasGoSum : Source → (base : List ℕ) → Files → ℕ → Type 0
HasGoSum source base files sum = (trail : Trail) × (c : Configured) × (source_in source base).comes (Some files) trail (Has c) × HasSum files c sum

-- of `compile NAME` the size of its one text, of `go` the sum of what it configures, of an exercise that of its own `go`; the other forms make no
-- object of a text
abbrev pub IsSizeSum : Form → Files → ℕ → Type 0
IsSizeSum (Compile base) files sum = HasSize files base sum
IsSizeSum (Define base stamp) files sum = ⊥
IsSizeSum (Bind base) files sum = ⊥
IsSizeSum (Run bases turns) files sum = ⊥
IsSizeSum (Go source base turns) files sum = HasGoSum source base files sum
IsSizeSum (Show kind base) files sum = ⊥
IsSizeSum (Upgrade kind base) files sum = ⊥
IsSizeSum (Exercise links turns) files sum = HasGoSum OfConfig chain (exercise_files links) sum
IsSizeSum (Plan bases) files sum = ⊥
IsSizeSum (Survey base) files sum = ⊥

-- up to this sum no file is too large
abbrev pub most : ℕ
most = 200000000
