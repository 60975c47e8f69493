-- Worked images, by computation: the image that is loaded of several, and each fault with one that it hides, whatever the code of the modules is.
use Rattle.std.proofs.Common.{◌≡◌, ℕ, List, [], ◌∷◌, ◌++◌, replicate, codes, decimal, Option, Some, None, refl}
use Rattle.mesa_types.specs.Links.{items_used}
use Rattle.mesa_types.specs.declared.faces.Face.{Face}
use Rattle.mesa_types.specs.declared.faces.Item.{Item}
use Rattle.mesa_types.specs.declared.faces.ItemKind.TheVariants.{Procedure, Signal}
use Rattle.mesa_types.specs.declared.faces.Shape.{Shape}
use Rattle.interface_records.specs.declared.wanted.Wanted.{Wanted as Entry}
use Rattle.interface_records.specs.declared.wanted.WantedItem.{WantedItem}
use Rattle.object_files.specs.declared.image.Image.{Image}
use Rattle.object_files.specs.declared.image.Instance.{Instance}
use Rattle.object_files.specs.declared.image.Link.TheVariants.{Wanted, To}
use Rattle.object_files.specs.declared.object.Object.{Object}
use Rattle.object_rules.specs.ImageForms.{same_types}
use Rattle.config_rules.specs.Exporters.{is_named, is_given}
use Rattle.config_rules.specs.Resolves.{given_for}
use Rattle.loader_rules.specs.declared.fault.LoadFault.{LoadFault}
use Rattle.loader_rules.specs.declared.fault.LoadFault.TheVariants.{NoExporter, Twice, OtherStamp, FaceDiffers, OddRecord, TooManyInstances, TooNested}
use Rattle.loader_rules.specs.Exporters.{all_offered, exporters}
use Rattle.loader_rules.specs.LoadFaults.{faces_among, faces_in, item_fault, faults_from, faults_in, load_faults, first_of}
use Rattle.loader_rules.specs.Loaded.{link_to, replaced, link_in}
use Rattle.loader_rules.specs.Parts.{parts_behind}
use Rattle.loader_rules.specs.SameFaces.{same_fields, same_items, same_face}
use Rattle.loader_rules.specs.Wanted.{has_entry, entry_number, noted, still_wanted}
use Rattle.loader_rules.proofs.Once.{the_image}

-- the first fault of images
unfoldable fault_in : List Image → Option LoadFault
unfolding items_used is_named is_given all_offered exporters faces_among faces_in item_fault faults_from faults_in load_faults parts_behind same_fields same_items same_face
fault_in images = first_of (load_faults images)

-- the image that is loaded where there is none
unfoldable loaded_of : List Image → Image
unfolding same_types is_named is_given given_for all_offered exporters link_to replaced link_in parts_behind has_entry entry_number noted still_wanted
loaded_of images = the_image images

-- ---- modules that export and import an interface

abbrev procedure : List ℕ → Item
procedure name = record { kind = Procedure; name = name; takes = []; gives = [] }

abbrev now : Item
now = procedure (codes "Now")

abbrev set : Item
set = procedure (codes "Set")

abbrev clock : (stamp : ℕ) → List Item → Face
clock stamp items = record { name = codes "Clock"; stamp = stamp; items = items }

abbrev io : Face
io = record { name = codes "IODefs"; stamp = 1; items = procedure (codes "WriteChar") ∷ [] }

-- it gives the first item as its procedure 5
abbrev ticker : Face → Shape
ticker f = record { name = codes "Ticker"; imports = []; exports = record { face = f; given = record { item = 0; number = 5 } ∷ [] } ∷ [] }

-- it uses the first item
abbrev reader : Face → Shape
reader f = record { name = codes "Reader"; imports = record { face = f; used = 0 ∷ [] } ∷ []; exports = [] }

abbrev entry : Face → Item → Entry
entry f i = record { face = f.name; stamp = f.stamp; item = i }

abbrev item : Face → Item → WantedItem
item f i = record { at = []; face = f.name; stamp = f.stamp; item = i.name }

abbrev called : List (List ℕ) → Instance
called path = record { path = path; «module» = 0 }

abbrev image_name : ℕ → List ℕ
image_name n = codes "I" ++ decimal n

module _ (o : Object) where
  abbrev object : Shape → Object
  object s = record o { shape = s }

  -- a Ticker, which offers the interface under this record
  abbrev offers_as : (record_name : List ℕ) → Face → Image
  offers_as r f = record {
    modules = object (ticker f) ∷ [];
    wanted = [];
    instances = called (codes "Ticker" ∷ []) ∷ [];
    links = [] ∷ [];
    offered = record { name = r; instance = 0; export = 0 } ∷ [];
    control = 0 ∷ [];
  }

  abbrev offers : Face → Image
  offers f = offers_as (codes "Clock") f

  -- a Reader, which wants the item of the interface
  abbrev wants : Face → Item → Image
  wants f i = record {
    modules = object (reader f) ∷ [];
    wanted = entry f i ∷ [];
    instances = called (codes "Reader" ∷ []) ∷ [];
    links = (Wanted 0 ∷ []) ∷ [];
    offered = [];
    control = 0 ∷ [];
  }

  abbrev now_only : Face
  now_only = clock 40 (now ∷ [])

  -- ---- an item that an image before offers

  no_fault : fault_in (offers now_only ∷ wants now_only now ∷ []) ≡ None
  unfolding fault_in
  no_fault = refl

  joined : loaded_of (offers now_only ∷ wants now_only now ∷ []) ≡ record {
    modules = object (ticker now_only) ∷ object (reader now_only) ∷ [];
    wanted = [];
    instances =
        record { path = image_name 1 ∷ codes "Ticker" ∷ []; «module» = 0 }
        ∷ record { path = image_name 2 ∷ codes "Reader" ∷ []; «module» = 1 }
        ∷ [];
    links = [] ∷ (To 0 5 ∷ []) ∷ [];
    offered = record { name = codes "Clock"; instance = 0; export = 0 } ∷ [];
    control = 0 ∷ 1 ∷ [];
  }
  unfolding loaded_of
  joined = refl

  -- the numbers of what is offered are shifted too
  offered_behind : (loaded_of (offers now_only ∷ offers_as (codes "Clock") (clock 41 (now ∷ [])) ∷ wants (clock 41 (now ∷ [])) now ∷ [])).links ≡ [] ∷ [] ∷ (To 1 5 ∷ []) ∷ []
  unfolding loaded_of
  offered_behind = refl

  -- ---- items of the built-in interface stay wanted, each once

  built_in_stays : fault_in (wants io (procedure (codes "WriteChar")) ∷ wants io (procedure (codes "WriteChar")) ∷ []) ≡ None
  unfolding fault_in
  built_in_stays = refl

  built_in_once : (loaded_of (wants io (procedure (codes "WriteChar")) ∷ wants io (procedure (codes "WriteChar")) ∷ [])).wanted ≡ entry io (procedure (codes "WriteChar")) ∷ []
  unfolding loaded_of
  built_in_once = refl

  both_linked : (loaded_of (wants io (procedure (codes "WriteChar")) ∷ wants io (procedure (codes "WriteChar")) ∷ [])).links ≡ (Wanted 0 ∷ []) ∷ (Wanted 0 ∷ []) ∷ []
  unfolding loaded_of
  both_linked = refl

  -- another kind under the name is another item
  kinds_are_told_apart : (loaded_of (wants io (procedure (codes "WriteChar")) ∷ wants io (record { kind = Signal; name = codes "WriteChar"; takes = []; gives = [] }) ∷ [])).links
      ≡ (Wanted 0 ∷ []) ∷ (Wanted 1 ∷ []) ∷ []
  unfolding loaded_of
  kinds_are_told_apart = refl

  -- ---- faults, each at its image, with one that it hides

  abbrev deep : Image → Image
  deep i = record i { instances = called (replicate 32 (codes "A")) ∷ [] }

  abbrev crowd : Image → Image
  crowd i = record i { instances = replicate 1025 (called (codes "A" ∷ [])) }

  too_nested : fault_in (deep (crowd (offers_as (codes "Watch") now_only)) ∷ []) ≡ Some (TooNested 0)
  unfolding fault_in
  too_nested = refl

  too_many : fault_in (offers now_only ∷ crowd (offers_as (codes "Watch") now_only) ∷ []) ≡ Some (TooManyInstances 1)
  unfolding fault_in
  too_many = refl

  odd_record : fault_in (record (offers_as (codes "Watch") now_only) { wanted = entry now_only now ∷ [] } ∷ []) ≡ Some (OddRecord 0 (codes "Watch"))
  unfolding fault_in
  odd_record = refl

  odd_built_in : fault_in (offers_as (codes "IODefs") io ∷ []) ≡ Some (OddRecord 0 (codes "IODefs"))
  unfolding fault_in
  odd_built_in = refl

  no_exporter : fault_in (wants now_only now ∷ deep (wants now_only now) ∷ []) ≡ Some (NoExporter 0 (item now_only now))
  unfolding fault_in
  no_exporter = refl

  -- only images before are looked at
  offered_later : fault_in (wants now_only now ∷ offers now_only ∷ []) ≡ Some (NoExporter 0 (item now_only now))
  unfolding fault_in
  offered_later = refl

  other_stamp : fault_in (offers now_only ∷ wants (clock 41 (now ∷ [])) now ∷ []) ≡ Some (OtherStamp 1 (item (clock 41 (now ∷ [])) now) 41 40)
  unfolding fault_in
  other_stamp = refl

  twice : fault_in (offers now_only ∷ offers now_only ∷ wants (clock 40 (now ∷ set ∷ [])) now ∷ [])
      ≡ Some (Twice 2 (item now_only now) (image_name 1 ∷ codes "Ticker" ∷ []) (image_name 2 ∷ codes "Ticker" ∷ []))
  unfolding fault_in
  twice = refl

  face_differs : fault_in (offers now_only ∷ wants (clock 40 (now ∷ set ∷ [])) now ∷ []) ≡ Some (FaceDiffers 1 (item now_only now))
  unfolding fault_in
  face_differs = refl

  -- an item that no link is to has no face to differ from
  not_linked : fault_in (offers now_only ∷ record (wants (clock 40 (now ∷ set ∷ [])) now) { links = [] ∷ [] } ∷ []) ≡ None
  unfolding fault_in
  not_linked = refl
