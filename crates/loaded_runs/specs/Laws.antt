-- What is so of several images that are loaded as one, and of the program of their trees as one (rule of this project).
use Rattle.std.specs.Prelude.{◌≡◌, ℕ, ◌<◌, List, All, Ok}
use Rattle.mesa_types.specs.declared.faces.Shape.{Shape}
use Rattle.object_files.specs.declared.image.Image.{Image}
use Rattle.source_meaning.specs.Lawful.{Lawful}
use Rattle.source_meaning.specs.Means.{Means}
use Rattle.source_meaning.specs.Program.{Program}
use Rattle.source_meaning.specs.State.{Ending, Answer}
use Rattle.agreement_laws.specs.agreement_rules.specs.Agreement.{RunsAlike}
use Rattle.agreement_laws.specs.agreement_rules.specs.Stands.{Stands, WantsTheHost}
use Rattle.config_rules.specs.cmesa_grammar.specs.Syntax.{Configuration}
use Rattle.config_rules.specs.Through.{Module}
use Rattle.config_rules.specs.Tree.{made, single_tree}
use Rattle.config_rules.specs.declared.tree.Tree.{Tree}
use Rattle.bound_images.specs.Programs.{program_of}
use Rattle.loaded_runs.specs.Outermost.{HasOutermost}
use Rattle.loaded_runs.specs.Sources.{AreLoaded, LeavesBuiltInToHost}
use Rattle.loaded_runs.specs.Together.{Source, modules_of, together}

-- the program of the trees as one
abbrev pub joined_program : List Source → Program
joined_program sources = program_of (together sources) (modules_of sources)

-- the loaded image stands for the program
abbrev pub LoadedImagesStand : Type 0
LoadedImagesStand = (sources : List Source) (image : Image) → AreLoaded sources image → Stands (joined_program sources) image

-- the program is lawful, where the loaded image wants nothing but what the host has
abbrev pub LoadedProgramsAreLawful : Type 0
LoadedProgramsAreLawful = (sources : List Source) (image : Image) → AreLoaded sources image → WantsTheHost image → Lawful (joined_program sources)

-- and so it is where each tree leaves what is called as the built-in interface to that interface
abbrev pub LoadedImagesWantTheHost : Type 0
LoadedImagesWantTheHost = (sources : List Source) (image : Image) → AreLoaded sources image → All (λ (s : Source). LeavesBuiltInToHost s.tree) sources → WantsTheHost image

-- so the machine runs the loaded image to what the program means
abbrev pub LoadedImagesRunAsTheirSource : Type 0
LoadedImagesRunAsTheirSource = (sources : List Source) (image : Image) → AreLoaded sources image → WantsTheHost image
    → (input : List ℕ) (ending : Ending) (turns : ℕ) → All (λ byte. byte < 256) input
    → (output : List ℕ) (answer : Answer) (left taken : ℕ) → Means (joined_program sources) input ending turns output answer left taken
    → RunsAlike image input ending turns output answer left taken

-- what is asked of a tree beyond what is asked of one that is built is so of each that is made of a configuration, and of that of a single module
abbrev pub MadeTreesHaveAnOutermostScope : Type 0
MadeTreesHaveAnOutermostScope = (modules : List Module) (c : Configuration) (t : Tree) → made modules c ≡ Ok t → HasOutermost t

abbrev pub SingleTreesHaveAnOutermostScope : Type 0
SingleTreesHaveAnOutermostScope = (s : Shape) → HasOutermost (single_tree s)
