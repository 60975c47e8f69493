-- One module that imports nothing but the built-in interface, as a tree by itself (rule of this project).
use Rattle.std.specs.Prelude.{◌≡◌, [], ◌∷◌, All, Contains}
use Rattle.mesa_types.specs.Sound.{Sound}
use Rattle.mesa_types.specs.Typed.{Module}
use Rattle.mesa_types.specs.declared.faces.Face.{Face}
use Rattle.mesa_types.specs.declared.faces.Import.{Import}
use Rattle.interface_records.specs.Faces.{SameFace, iodefs}
use Rattle.object_files.specs.declared.image.Image.{Image}
use Rattle.object_files.specs.declared.object.Object.{Object}
use Rattle.source_meaning.specs.Program.{single}
use Rattle.config_rules.specs.InOrder.{NamesDiffer}
use Rattle.config_rules.specs.Tree.{Agree, all_faces, faces_of, single_tree}
use Rattle.config_rules.specs.declared.tree.Tree.{Tree}
use Rattle.link_tables.specs.Linked.{image_of}
use Rattle.bound_images.specs.Programs.{shape_of, program_of}
use Rattle.bound_images.specs.Built.{ObjectOf, Built, LeavesToHost}

abbrev pub ImportsTheHostAlone : Module → Type 0
ImportsTheHostAlone m = All (λ (i : Import). SameFace i.face iodefs.face) m.imports

abbrev pub tree_of : Module → Tree
tree_of m = single_tree (shape_of m)

-- the image that is linked for it
abbrev pub single_image : Module → Object → Image
single_image m o = image_of (tree_of m) (o ∷ [])

-- it is built, where what the module exports is in order
abbrev pub SinglesAreBuilt : Type 0
SinglesAreBuilt = (m : Module) (o : Object) → Sound m → ImportsTheHostAlone m → Agree (all_faces (shape_of m ∷ []))
    → ((f : Face) → Contains (faces_of (shape_of m)) f → NamesDiffer f) → ObjectOf m o
    → Built (tree_of m) (m ∷ []) (o ∷ []) (single_image m o)

abbrev pub SinglesLeaveToTheHost : Type 0
SinglesLeaveToTheHost = (m : Module) → ImportsTheHostAlone m → LeavesToHost (tree_of m)

-- its program is that of the module alone
abbrev pub SinglesMeanTheirModule : Type 0
SinglesMeanTheirModule = (m : Module) → ImportsTheHostAlone m → program_of (tree_of m) (m ∷ []) ≡ single m
