-- What is asked of the images that are loaded, and of the trees from which they are built (rule of this project).
use Rattle.std.specs.Prelude.{◌≡◌, ℕ, List, [], ◌∷◌, All, Some, slice_get}
use Rattle.interface_records.specs.Faces.{iodefs}
use Rattle.interface_records.specs.declared.wanted.Wanted.{Wanted as Entry}
use Rattle.object_files.specs.declared.image.Image.{Image}
use Rattle.config_rules.specs.Resolves.{Left, Want, wants}
use Rattle.config_rules.specs.declared.tree.Tree.{Tree}
use Rattle.bound_images.specs.Built.{Built}
use Rattle.loader_rules.specs.Exporters.{exporters}
use Rattle.loader_rules.specs.Loaded.{Loaded}
use Rattle.loaded_runs.specs.Outermost.{HasOutermost, PassesByName}
use Rattle.loaded_runs.specs.Together.{Source, images_of}

-- an image that is built from a tree
pub record IsSource (s : Source) : Type 0 where
  pub built : Built s.tree s.modules s.objects s.image
  pub outermost : HasOutermost s.tree
  pub passes : PassesByName s.tree

-- no later image offers an item that an earlier one wants
unfoldable pub NoneLater : List Image → Type 0
NoneLater [] = Unit {0}
NoneLater (i ∷ is) = All (λ (e : Entry). exporters is e ≡ []) i.wanted × NoneLater is

-- images in order, each built from its tree, and loaded as one
pub record AreLoaded (sources : List Source) (image : Image) : Type 0 where
  pub each : All IsSource sources
  pub none_later : NoneLater (images_of sources)
  pub loaded : Loaded (images_of sources) image

-- what a tree leaves to the loader under the name of the built-in interface is that interface's, by its stamp
abbrev pub LeavesBuiltInToHost : Tree → Type 0
LeavesBuiltInToHost t = (n : ℕ) (w : Want) → slice_get (wants t) n ≡ Some w → w.answer ≡ Left → w.face.name ≡ iodefs.face.name → w.face.stamp ≡ iodefs.face.stamp
