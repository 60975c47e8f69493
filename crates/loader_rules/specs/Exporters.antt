-- Who offers a wanted item to an image: the images before it (rule of this project).
use Rattle.std.specs.Prelude.{ℕ, ◌+◌, Bool, ◌&&◌, List, [], ◌∷◌, flat_map, filter, nat_eq, bytes_eq, Option, Some, None, slice_get}
use Rattle.mesa_types.specs.declared.faces.Export.{Export}
use Rattle.interface_records.specs.declared.wanted.Wanted.{Wanted as Entry}
use Rattle.object_files.specs.declared.image.Image.{Image}
use Rattle.object_files.specs.declared.image.Instance.{Instance}
use Rattle.object_files.specs.declared.image.Offer.{Offer}
use Rattle.object_files.specs.declared.object.Object.{Object}
use Rattle.config_rules.specs.Exporters.{is_given}
use Rattle.loader_rules.specs.Parts.{Part, parts, image_name, instances_before}

-- ---- what an entry of an image offers

abbrev pub module_at : Image → Option Instance → Option Object
module_at i None = None
module_at i (Some x) = slice_get i.modules x.«module»

abbrev pub export_at : Option Object → ℕ → Option Export
export_at None n = None
export_at (Some m) n = slice_get m.shape.exports n

abbrev pub export_of : Image → Offer → Option Export
export_of i o = export_at (module_at i (slice_get i.instances o.instance)) o.export

abbrev pub path_at : Option Instance → List (List ℕ)
path_at None = []
path_at (Some x) = x.path

-- an export under a record, with the instance's number and path in the loaded image
pub record Offered : Type 0 where
  pub record_name : List ℕ
  pub instance : ℕ
  pub path : List (List ℕ)
  pub gives : Export

abbrev pub offered_as : Part → Offer → Option Export → List Offered
offered_as p o None = []
offered_as p o (Some x) = record {
  record_name = o.name;
  instance = instances_before p + o.instance;
  path = image_name p ∷ path_at (slice_get p.image.instances o.instance);
  gives = x;
} ∷ []

abbrev pub offered_by : Part → List Offered
offered_by p = flat_map (λ (o : Offer). offered_as p o (export_of p.image o)) p.image.offered

-- what images offer, in their order
unfoldable pub all_offered : List Image → List Offered
all_offered images = flat_map offered_by (parts images)

-- ---- the exporters of a wanted item

-- offered under its interface's name, by an export that gives an item of its name
abbrev pub gives_item : Entry → Offered → Bool
gives_item e o = bytes_eq o.record_name e.face && is_given e.item.name o.gives.face o.gives.given

unfoldable pub exporters : (before : List Image) → Entry → List Offered
exporters before e = filter (gives_item e) (all_offered before)

abbrev pub has_stamp : Entry → Offered → Bool
has_stamp e o = nat_eq o.gives.face.stamp e.stamp

-- those under its stamp
abbrev pub stamped : Entry → List Offered → List Offered
stamped e all = filter (has_stamp e) all
