-- Why images are not loaded: a row for each fault, in the order in which they are looked for in each image (rule of this project).
use Rattle.std.specs.Prelude.{◌≡◌, ℕ, suc, Bool, true, false, not, ◌||◌, List, [], ◌∷◌, ◌++◌, length, map, flat_map, filter, nat_lt, nat_le, nat_eq, bytes_eq, Option, Some, None, slice_get, if◌then◌else◌}
use Rattle.std.specs.List.{list_any}
use Rattle.mesa_base.specs.declared.limits.TheConstants.{INSTANCES, CONFIGURATION_DEPTH}
use Rattle.mesa_types.specs.Links.{items_used}
use Rattle.mesa_types.specs.declared.faces.Export.{Export}
use Rattle.mesa_types.specs.declared.faces.Face.{Face}
use Rattle.mesa_types.specs.declared.faces.Import.{Import}
use Rattle.mesa_types.specs.declared.faces.Item.{Item}
use Rattle.interface_records.specs.declared.wanted.Wanted.{Wanted as Entry}
use Rattle.interface_records.specs.declared.wanted.WantedItem.{WantedItem}
use Rattle.object_files.specs.declared.image.Image.{Image}
use Rattle.object_files.specs.declared.image.Instance.{Instance}
use Rattle.object_files.specs.declared.image.Link.{Link}
use Rattle.object_files.specs.declared.image.Link.TheVariants.{Wanted, To}
use Rattle.object_files.specs.declared.image.Offer.{Offer}
use Rattle.object_files.specs.declared.object.Object.{Object}
use Rattle.object_rules.specs.declared.limits.TheConstants.{IMAGE_MODULES}
use Rattle.loader_rules.specs.declared.fault.LoadFault.{LoadFault}
use Rattle.loader_rules.specs.declared.fault.LoadFault.TheVariants.{NoExporter, Twice, OtherStamp, FaceDiffers, OddRecord, TooManyInstances, TooNested}
use Rattle.loader_rules.specs.Exporters.{module_at, export_of, Offered, exporters, stamped}
use Rattle.loader_rules.specs.Parts.{Part, parts, number, modules_of, instances_of}
use Rattle.loader_rules.specs.SameFaces.{same_face}
use Rattle.loader_rules.specs.Wanted.{is_built_in}

abbrev pub one_if : Bool → LoadFault → List LoadFault
one_if true fault = fault ∷ []
one_if false fault = []

-- ---- the first three are looked for in the image as a whole

-- a name is put before each path
abbrev pub is_nested : Instance → Bool
is_nested x = nat_le CONFIGURATION_DEPTH (length x.path)

abbrev pub nested : Part → List LoadFault
nested p = one_if (list_any is_nested p.image.instances) (TooNested (number p))

-- with those before it
abbrev pub are_many : List Image → Bool
are_many images = nat_lt INSTANCES (length (instances_of images)) || nat_lt IMAGE_MODULES (length (modules_of images))

abbrev pub many : Part → List LoadFault
many p = one_if (are_many (p.before ++ p.image ∷ [])) (TooManyInstances (number p))

abbrev pub is_named : List ℕ → Option Export → Bool
is_named name None = false
is_named name (Some x) = bytes_eq name x.face.name

-- a record is not the built-in one, and is called as the interface
abbrev pub is_odd : Image → Offer → Bool
is_odd i o = is_built_in o.name || not (is_named o.name (export_of i o))

abbrev pub odd : Part → List LoadFault
odd p = map (λ (o : Offer). OddRecord (number p) o.name) (filter (is_odd p.image) p.image.offered)

-- ---- the imports that link to a wanted item

-- the faces of a module's links, in their order
abbrev pub faces_linked : Option Object → List Face
faces_linked None = []
faces_linked (Some m) = flat_map (λ (i : Import). map (λ (used : Item). i.face) (items_used i.face.items i.used)) m.shape.imports

abbrev pub is_link_to : (n : ℕ) → Link → Bool
is_link_to n (Wanted k) = nat_eq k n
is_link_to n (To j k) = false

-- of these, the faces whose link is to the wanted item of this number
unfoldable pub faces_among : (n : ℕ) → List Face → List Link → List Face
faces_among n [] _ = []
faces_among n _ [] = []
faces_among n (f ∷ fs) (l ∷ ls) = if is_link_to n l then f ∷ faces_among n fs ls else faces_among n fs ls

unfoldable pub faces_in : Image → (n : ℕ) → List Instance → List (List Link) → List Face
faces_in i n [] _ = []
faces_in i n _ [] = []
faces_in i n (x ∷ xs) (table ∷ tables) = faces_among n (faces_linked (module_at i (Some x))) table ++ faces_in i n xs tables

abbrev pub faces_to : Image → (n : ℕ) → List Face
faces_to i n = faces_in i n i.instances i.links

-- ---- a wanted item, but of the built-in interface, is looked for among those that the images before offer

abbrev pub item_of : Entry → WantedItem
item_of e = record { at = []; face = e.face; stamp = e.stamp; item = e.item.name }

abbrev pub differs : Face → List Face → Bool
differs f fs = list_any (λ (g : Face). not (same_face f g)) fs

-- by the exporters under its stamp, and by all
unfoldable pub item_fault : Part → (n : ℕ) → Entry → (under all : List Offered) → List LoadFault
item_fault p n e (o ∷ []) all = one_if (differs o.gives.face (faces_to p.image n)) (FaceDiffers (number p) (item_of e))
item_fault p n e (o ∷ second ∷ os) all = Twice (number p) (item_of e) o.path second.path ∷ []
item_fault p n e [] (o ∷ os) = OtherStamp (number p) (item_of e) e.stamp o.gives.face.stamp ∷ []
item_fault p n e [] [] = NoExporter (number p) (item_of e) ∷ []

abbrev pub fault_among : Part → (n : ℕ) → Entry → (all : List Offered) → List LoadFault
fault_among p n e all = item_fault p n e (stamped e all) all

abbrev pub fault_of : Part → (n : ℕ) → Entry → List LoadFault
fault_of p n e = if is_built_in e.face then [] else fault_among p n e (exporters p.before e)

-- the items from number `n` on, in their order
unfoldable pub faults_from : Part → (n : ℕ) → List Entry → List LoadFault
faults_from p n [] = []
faults_from p n (e ∷ es) = fault_of p n e ++ faults_from p (suc n) es

abbrev pub bad_items : Part → List LoadFault
bad_items p = faults_from p 0 p.image.wanted

-- ---- the table

unfoldable pub faults_in : Part → List LoadFault
faults_in p = nested p ++ (many p ++ (odd p ++ bad_items p))

-- of all images, in their order
unfoldable pub load_faults : List Image → List LoadFault
load_faults images = flat_map faults_in (parts images)

abbrev pub first_of : {A : Type 0} → List A → Option A
first_of xs = slice_get xs 0

-- the first of them
abbrev pub HasLoadFault : List Image → LoadFault → Type 0
HasLoadFault images fault = first_of (load_faults images) ≡ Some fault
