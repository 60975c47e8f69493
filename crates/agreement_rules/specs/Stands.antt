-- Which image stands for a program (rule of this project).
use Rattle.std.specs.Prelude.{◌≡◌, ℕ, ◌<◌, ◌≤◌, List, length, All, Option, Some, slice_get}
use Rattle.mesa_types.specs.Links.{imported, IsUsed}
use Rattle.mesa_types.specs.declared.faces.Import.{Import}
use Rattle.mesa_types.specs.declared.faces.Item.{Item}
use Rattle.source_meaning.specs.Program.{Target, ToProcedure, ToHost, ToSignal, SignalOf, BoundsFault, ZeroDivisor, NoInput, Unnamed, Program}
use Rattle.source_meaning.specs.Program as source
use Rattle.object_files.specs.interface_records.specs.Hosts.{SameItem, IsHostItem}
use Rattle.object_files.specs.interface_records.specs.declared.wanted.Wanted.{Wanted as WantedItem}
use Rattle.object_files.specs.declared.image.Image.{Image}
use Rattle.object_files.specs.declared.image.Instance.{Instance}
use Rattle.object_files.specs.declared.image.Link.{Link}
use Rattle.object_files.specs.declared.image.Link.TheVariants.{Wanted, To}
use Rattle.object_files.specs.declared.object.Object.{Object}
use Rattle.machine_rules.specs.Laws.{HasValidCode}
use Rattle.machine_rules.specs.LookUps.{bound_to}
use Rattle.code_rules.specs.Links.{link_number}
use Rattle.code_rules.specs.Modules.{CodeFor}

-- an entry of the wanted items with the name and stamp of the import's interface, and with the name, kind and types of the item
pub record IsWanted (image : Image) (import : Import) (item : Item) (n : ℕ) : Type 0 where
  pub entry : WantedItem
  pub is_there : slice_get image.wanted n ≡ Some entry
  pub face : entry.face ≡ import.face.name
  pub stamp : entry.stamp ≡ import.face.stamp
  pub its_item : SameItem entry.item item

-- a link is bound to that for which the used item stands in the program; an item of the host is wanted
abbrev pub BoundTo : Image → Import → Item → Target → Option Link → Type 0
BoundTo image import item (ToProcedure j q) link = link ≡ Some (To j q)
BoundTo image import item (ToHost h) link = (n : ℕ) × (link ≡ Some (Wanted n)) × IsWanted image import item n
BoundTo image import item (ToSignal (SignalOf j k)) link = link ≡ Some (To j k)
BoundTo image import item (ToSignal NoInput) link = (n : ℕ) × (link ≡ Some (Wanted n)) × IsWanted image import item n
BoundTo image import item (ToSignal BoundsFault) link = ⊥
BoundTo image import item (ToSignal ZeroDivisor) link = ⊥
BoundTo image import item (ToSignal Unnamed) link = ⊥

-- instance j of the image is this one of the program: its path, the code of its module, and its links
pub record InstanceStands (image : Image) (j : ℕ) (m : source.Instance) (i : Instance) : Type 0 where
  pub path : i.path ≡ m.path
  pub object : Object
  pub is_there : slice_get image.modules i.module ≡ Some object
  pub code : CodeFor m.code object.code
  pub links : (k n : ℕ) (import : Import) (item : Item) → slice_get m.code.imports k ≡ Some import → imported m.code.imports k n ≡ Some item
      → IsUsed m.code.imports k n → BoundTo image import item (m.links k n) (bound_to image j (link_number m.code.imports k n))

-- a string is of bytes, and its length is a word
pub record TextFits (text : List ℕ) : Type 0 where
  pub bytes : All (λ b. b < 256) text
  pub short : length text < 65536

abbrev pub TextsFit : Image → Type 0
TextsFit image = (n : ℕ) (o : Object) → slice_get image.modules n ≡ Some o → All TextFits o.code.strings

pub record Stands (P : Program) (image : Image) : Type 0 where
  pub as_many : length image.instances ≡ length P.instances
  pub instances : (j : ℕ) (m : source.Instance) (i : Instance) → slice_get P.instances j ≡ Some m → slice_get image.instances j ≡ Some i
      → InstanceStands image j m i
  pub control : image.control ≡ P.control
  pub modules : length image.modules ≤ 65534
  -- what the type of an object says of its code
  pub valid : HasValidCode image
  pub texts : TextsFit image

-- each wanted item is one that the host has
abbrev pub WantsTheHost : Image → Type 0
WantsTheHost image = All IsHostItem image.wanted
