-- The image that is loaded of several (rule of this project).
use Rattle.std.specs.Prelude.{◌≡◌, ℕ, ◌+◌, List, [], ◌∷◌, flat_map, map, Option, Some, None, slice_get, if◌then◌else◌}
use Rattle.interface_records.specs.declared.wanted.Wanted.{Wanted as Entry}
use Rattle.object_files.specs.declared.image.Image.{Image}
use Rattle.object_files.specs.declared.image.Instance.{Instance}
use Rattle.object_files.specs.declared.image.Link.{Link}
use Rattle.object_files.specs.declared.image.Link.TheVariants.{Wanted, To}
use Rattle.object_files.specs.declared.image.Offer.{Offer}
use Rattle.config_rules.specs.Resolves.{given_for}
use Rattle.loader_rules.specs.Exporters.{Offered, exporters, stamped}
use Rattle.loader_rules.specs.LoadFaults.{load_faults}
use Rattle.loader_rules.specs.Parts.{Part, parts, image_name, modules_of, modules_before, instances_before}
use Rattle.loader_rules.specs.Wanted.{is_built_in, entry_number, still_wanted}

-- ---- numbers are shifted, and a name is put before each path

abbrev pub instance_in : Part → Instance → Instance
instance_in p x = record { path = image_name p ∷ x.path; «module» = modules_before p + x.«module» }

abbrev pub offer_in : Part → Offer → Offer
offer_in p o = record { name = o.name; instance = instances_before p + o.instance; export = o.export }

abbrev pub started_in : Part → ℕ → ℕ
started_in p j = instances_before p + j

-- ---- links

-- what the first of the exporters gives for the item
unfoldable pub link_to : Link → (item : List ℕ) → List Offered → Link
link_to was item [] = was
link_to was item (o ∷ os) = To o.instance (given_for item o.gives.face o.gives.given)

-- an item of the built-in interface stays wanted, another is replaced by its exporter
unfoldable pub replaced : Part → (wanted : List Entry) → Link → Option Entry → Link
replaced p wanted was None = was
replaced p wanted was (Some e) =
    if is_built_in e.face then Wanted (entry_number wanted e) else link_to was e.item.name (stamped e (exporters p.before e))

unfoldable pub link_in : Part → (wanted : List Entry) → Link → Link
link_in p wanted (Wanted n) = replaced p wanted (Wanted n) (slice_get p.image.wanted n)
link_in p wanted (To j n) = To (instances_before p + j) n

-- ---- the image, by its parts

pub record IsJoined (images : List Image) (image : Image) : Type 0 where
  pub modules : image.modules ≡ modules_of images
  pub wanted : image.wanted ≡ still_wanted images
  pub instances : image.instances ≡ flat_map (λ (p : Part). map (instance_in p) p.image.instances) (parts images)
  pub links : image.links ≡ flat_map (λ (p : Part). map (map (link_in p image.wanted)) p.image.links) (parts images)
  pub offered : image.offered ≡ flat_map (λ (p : Part). map (offer_in p) p.image.offered) (parts images)
  pub control : image.control ≡ flat_map (λ (p : Part). map (started_in p) p.image.control) (parts images)

pub record Loaded (images : List Image) (image : Image) : Type 0 where
  pub no_fault : load_faults images ≡ []
  pub joined : IsJoined images image
