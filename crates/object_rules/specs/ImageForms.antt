-- Images in files: a definition for each row (rule of this project). A field may depend on what stands before it alone.
use Rattle.std.specs.Prelude.{ℕ, Bool, true, false, not, ◌&&◌, ◌||◌, ◌==◌, List, [], ◌∷◌, length, map, flat_map, nat_le, nat_eq, bytes_eq, Option, Some, None, slice_get}
use Rattle.mesa_base.specs.declared.file_fault.Field.TheVariants as field
use Rattle.mesa_base.specs.declared.limits.TheConstants.{INSTANCES, CONFIGURATION_DEPTH}
use Rattle.mesa_types.specs.Links.{items_used}
use Rattle.mesa_types.specs.declared.faces.Export.{Export}
use Rattle.mesa_types.specs.declared.faces.Face.{Face}
use Rattle.mesa_types.specs.declared.faces.Import.{Import}
use Rattle.mesa_types.specs.declared.faces.Item.{Item}
use Rattle.mesa_types.specs.declared.faces.ItemKind.{ItemKind}
use Rattle.mesa_types.specs.declared.faces.ItemKind.TheVariants as item
use Rattle.mesa_types.specs.declared.types.FieldType.{FieldType}
use Rattle.object_files.specs.interface_records.specs.PlainTypes.{same, same_names, plain}
use Rattle.object_files.specs.interface_records.specs.declared.wanted.Wanted.{Wanted as Entry}
use Rattle.file_forms.specs.Forms.{Form, number, pair, led, ruled, built, variant, several, list, choose, at_least, between}
use Rattle.file_forms.specs.Names.{name}
use Rattle.face_rules.specs.FaceForms.{item as item_form}
use Rattle.object_files.specs.declared.image.Image.{Image}
use Rattle.object_files.specs.declared.image.Instance.{Instance}
use Rattle.object_files.specs.declared.image.Link.{Link}
use Rattle.object_files.specs.declared.image.Link.TheVariants.{Wanted, To}
use Rattle.object_files.specs.declared.image.Offer.{Offer}
use Rattle.object_rules.specs.declared.limits.TheConstants.{IMAGE_MODULES}
use Rattle.object_rules.specs.ModuleForms.{gives_item, module_form}
use Rattle.object_rules.specs.Numbers.{number_where, is_below}
use Rattle.object_rules.specs.Parts.{ModulePart, parts_of}

-- the parts of an image that its file holds
pub record ImagePart : Type 0 where
  pub modules : List ModulePart
  pub wanted : List Entry
  pub instances : List Instance
  pub links : List (List Link)
  pub offered : List Offer
  pub control : List ℕ

abbrev pub parts_of_image : Image → ImagePart
parts_of_image i = record { modules = map parts_of i.modules; wanted = i.wanted; instances = i.instances; links = i.links; offered = i.offered; control = i.control }

-- ---- what is wanted of the loader: name and stamp of the interface, and the item

abbrev pub entry_of : List ℕ × (ℕ × Item) → Entry
entry_of p = record { face = p.0; stamp = p.1.0; item = p.1.1 }

abbrev pub entry_parts : Entry → List ℕ × (ℕ × Item)
entry_parts e = (e.face, (e.stamp, e.item))

unfoldable pub entry : ℕ → Form Entry
entry version = built entry_of entry_parts (pair name (λ _. pair (number 6) (λ _. item_form version)))

-- ---- instances: a path that none before has, and the number of a module

-- 1 to 32 names
unfoldable pub path : Form (List (List ℕ))
path = led length (ruled (number 1) (between 1 CONFIGURATION_DEPTH) field.Length) (λ n. several n (λ _. name))

unfoldable pub has_path : List Instance → List (List ℕ) → Bool
has_path [] p = false
has_path (x ∷ xs) p = same_names x.path p || has_path xs p

abbrev pub instance_of : List (List ℕ) × ℕ → Instance
instance_of p = record { path = p.0; «module» = p.1 }

abbrev pub instance_parts : Instance → List (List ℕ) × ℕ
instance_parts x = (x.path, x.«module»)

unfoldable pub instance_form : List ModulePart → List Instance → Form Instance
instance_form modules before = built instance_of instance_parts
    (pair (ruled path (λ p. not (has_path before p)) field.Twice) (λ _. number_where 4 (is_below (length modules))))

-- ---- links

-- what a link is bound to has to be of this interface and like this item
abbrev pub needed_of : Face → Item → Entry
needed_of f i = record { face = f.name; stamp = f.stamp; item = i }

-- by the links of a module, in order: the used items of its imports
abbrev pub needed_by_import : Import → List Entry
needed_by_import i = map (needed_of i.face) (items_used i.face.items i.used)

abbrev pub needed_by : Option ModulePart → List Entry
needed_by None = []
needed_by (Some m) = flat_map needed_by_import m.imports

abbrev pub module_at : List ModulePart → Option Instance → Option ModulePart
module_at modules None = None
module_at modules (Some x) = slice_get modules x.«module»

abbrev pub same_kind : ItemKind → ItemKind → Bool
same_kind item.Procedure item.Procedure = true
same_kind item.Signal item.Signal = true
same_kind item.Error item.Error = true
same_kind _ _ = false

-- the same types, whatever the names
unfoldable pub same_types : List FieldType → List FieldType → Bool
same_types [] [] = true
same_types (f ∷ fs) (g ∷ gs) = same (plain f.kind) (plain g.kind) && same_types fs gs
same_types _ _ = false

abbrev pub same_signature : Item → Item → Bool
same_signature a b = same_kind a.kind b.kind && (same_types a.takes b.takes && same_types a.gives b.gives)

-- the wanted entry has the interface's name and stamp, and the item's name, kind and types
abbrev pub is_wanted : (needed entry : Option Entry) → Bool
is_wanted (Some needed) (Some e) =
    bytes_eq e.face needed.face && (nat_eq e.stamp needed.stamp && (bytes_eq e.item.name needed.item.name && same_signature e.item needed.item))
is_wanted _ _ = false

-- the module has under the number a procedure above 0, or a signal, of the item's kind and sizes
abbrev pub is_given : (needed : Option Entry) → Option ModulePart → ℕ → Bool
is_given (Some needed) (Some m) n = gives_item m.signals m.procedures (Some needed.item) n
is_given _ _ n = false

abbrev pub link_tag : Link → ℕ
link_tag (Wanted n) = 1
link_tag (To j n) = 2

abbrev pub of_wanted : Link → Option ℕ
of_wanted (Wanted n) = Some n
of_wanted (To j n) = None

abbrev pub of_to : Link → Option (ℕ × ℕ)
of_to (Wanted n) = None
of_to (To j n) = Some (j, n)

unfoldable pub wanted_link : List Entry → Option Entry → Form Link
wanted_link wanted needed = variant Wanted of_wanted (number_where 4 (λ n. is_wanted needed (slice_get wanted n)))

unfoldable pub bound_link : List ModulePart → List Instance → Option Entry → Form Link
bound_link modules instances needed = variant (λ p. To p.0 p.1) of_to
    (pair (number_where 4 (is_below (length instances))) (λ j. number_where 4 (is_given needed (module_at modules (slice_get instances j)))))

-- 1 and the number of a wanted entry, or 2, an instance, and a procedure or signal
unfoldable pub link : List ModulePart → List Entry → List Instance → Option Entry → Form Link
link modules wanted instances needed = led link_tag (ruled (number 1) (between 1 2) field.Kind)
    (λ tag. choose (tag == 1) (wanted_link wanted needed) (bound_link modules instances needed))

-- a link for each that the module needs
unfoldable pub link_table : List ModulePart → List Entry → List Instance → List Entry → Form (List Link)
link_table modules wanted instances needed = several (length needed) (λ before. link modules wanted instances (slice_get needed (length before)))

-- for each instance the links of its module
unfoldable pub link_tables : List ModulePart → List Entry → List Instance → Form (List (List Link))
link_tables modules wanted instances =
    several (length instances) (λ before. link_table modules wanted instances (needed_by (module_at modules (slice_get instances (length before)))))

-- ---- what is offered: a name, an instance, and an export of its module

abbrev pub exports_in : Option ModulePart → List Export
exports_in None = []
exports_in (Some m) = m.exports

abbrev pub offer_of : List ℕ × (ℕ × ℕ) → Offer
offer_of p = record { name = p.0; instance = p.1.0; export = p.1.1 }

abbrev pub offer_parts : Offer → List ℕ × (ℕ × ℕ)
offer_parts o = (o.name, (o.instance, o.export))

unfoldable pub offer : List ModulePart → List Instance → Form Offer
offer modules instances = built offer_of offer_parts
    (pair name (λ _. pair (number_where 4 (is_below (length instances))) (λ j.
    number_where 4 (is_below (length (exports_in (module_at modules (slice_get instances j))))))))

-- ---- the image: modules, what is wanted, instances, links, what is offered, the instances that are started

abbrev pub image_of : List ModulePart × (List Entry × (List Instance × (List (List Link) × (List Offer × List ℕ)))) → ImagePart
image_of p = record { modules = p.0; wanted = p.1.0; instances = p.1.1.0; links = p.1.1.1.0; offered = p.1.1.1.1.0; control = p.1.1.1.1.1 }

abbrev pub image_parts : ImagePart → List ModulePart × (List Entry × (List Instance × (List (List Link) × (List Offer × List ℕ))))
image_parts i = (i.modules, (i.wanted, (i.instances, (i.links, (i.offered, i.control)))))

unfoldable pub image_form : ℕ → Form ImagePart
image_form version = built image_of image_parts
    (pair (list (λ n. nat_le n IMAGE_MODULES) (λ _. module_form version)) (λ modules.
    pair (list (at_least 0) (λ _. entry version)) (λ wanted.
    pair (list (λ n. nat_le n INSTANCES) (instance_form modules)) (λ instances.
    pair (link_tables modules wanted instances) (λ _.
    pair (list (at_least 0) (λ _. offer modules instances)) (λ _.
    list (at_least 0) (λ _. number_where 4 (is_below (length instances)))))))))
