-- Which image is built from a tree, and from the typed modules and the objects of its components, both in their order (rule of this project).
use Rattle.std.specs.Prelude.{◌≡◌, ℕ, List, length, map, All, Contains, Some, None, slice_get}
use Rattle.mesa_types.specs.Sound.{Sound}
use Rattle.mesa_types.specs.Typed.{Module}
use Rattle.mesa_types.specs.declared.faces.Face.{Face}
use Rattle.interface_records.specs.Faces.{iodefs}
use Rattle.code_forms.specs.Valid.{Valid}
use Rattle.code_rules.specs.Modules.{CodeFor}
use Rattle.agreement_laws.specs.agreement_rules.specs.Stands.{TextFits}
use Rattle.object_files.specs.declared.image.Image.{Image}
use Rattle.object_files.specs.declared.object.Object.{Object}
use Rattle.config_rules.specs.declared.tree.Tree.{Tree}
use Rattle.config_rules.specs.Resolves.{Left, Want, wants, first_bad}
use Rattle.config_rules.specs.InOrder.{NamesDiffer, TreeIn}
use Rattle.config_rules.specs.Tree.{Agree, all_faces, faces_of}
use Rattle.bound_images.specs.Programs.{shape_of}
use Rattle.link_tables.specs.Linked.{image_of}

-- an object of a typed module: its shape, and code that stands for it
pub record ObjectOf (m : Module) (o : Object) : Type 0 where
  pub shape : o.shape ≡ shape_of m
  pub code : CodeFor m o.code
  -- what the type of an object says of its code
  pub valid : Valid o.code
  pub texts : All TextFits o.code.strings

pub record Built (t : Tree) (modules : List Module) (objects : List Object) (image : Image) : Type 0 where
  pub tree : TreeIn (map shape_of modules) t
  pub agree : Agree (all_faces (map shape_of modules))
  pub sound : (c : ℕ) (m : Module) → slice_get modules c ≡ Some m → Sound m
  -- no two items of an interface that a module imports or exports have one name
  pub differ : (c : ℕ) (m : Module) → slice_get modules c ≡ Some m → (f : Face) → Contains (faces_of (shape_of m)) f → NamesDiffer f
  pub as_many : length objects ≡ length modules
  pub coded : (c : ℕ) (m : Module) (o : Object) → slice_get modules c ≡ Some m → slice_get objects c ≡ Some o → ObjectOf m o
  pub none_bad : first_bad (wants t) ≡ None
  pub linked : image ≡ image_of t objects

-- each item that is left to the loader is one of the built-in interface, by name and stamp
abbrev pub LeavesToHost : Tree → Type 0
LeavesToHost t = (n : ℕ) (w : Want) → slice_get (wants t) n ≡ Some w → w.answer ≡ Left → (w.face.name ≡ iodefs.face.name) × (w.face.stamp ≡ iodefs.face.stamp)
