-- What is chosen for a wanted item: nothing for one of the built-in interface, the one who offers it, or a fault.
use Rattle.std.specs.Prelude.{◌≡◌, ◌≢◌, ℕ, ◌&&◌, List, [], ◌∷◌, length, map, take, bytes_eq, Option, Some, None, slice_get, if◌then◌else◌}
use Rattle.mesa_types.specs.declared.faces.Export.{Export}
use Rattle.interface_records.specs.declared.wanted.Wanted.{Wanted as Entry}
use Rattle.object_files.specs.declared.image.Image.{Image}
use Rattle.object_files.specs.declared.image.Link.{Link}
use Rattle.object_files.specs.declared.image.Link.TheVariants.{Wanted, To}
use Rattle.object_files.specs.declared.image.Offer.{Offer}
use Rattle.config_rules.specs.Exporters.{is_given}
use Rattle.loader_rules.specs.declared.fault.LoadFault.{LoadFault}
use Rattle.loader_rules.specs.declared.fault.LoadFault.TheVariants.{NoExporter, Twice, OtherStamp, FaceDiffers, Memory}
use Rattle.loader_rules.specs.Exporters.{Offered, export_of, exporters, stamped}
use Rattle.loader_rules.specs.LoadFaults.{item_of}
use Rattle.loader_rules.specs.Parts.{Part, number}
use Rattle.loader_rules.specs.Wanted.{is_built_in, entry_number}
use Rattle.load_checks.specs.declared.choosing.Choices.{Choices}
use Rattle.load_checks.specs.declared.exporters.Exporter.{Exporter}
use Rattle.load_checks.specs.Givers.{Giver, giver_of, giver_shown}

-- ---- the stamp of the first who offers an item of a name

unfoldable pub stamp_by : Entry → (record_name : List ℕ) → Option Export → Option ℕ
stamp_by e r None = None
stamp_by e r (Some x) = if bytes_eq r e.face && is_given e.item.name x.face x.given then Some x.face.stamp else None

abbrev pub or_else : Option ℕ → Option ℕ → Option ℕ
or_else None other = other
or_else (Some s) other = Some s

abbrev pub stamp_in : Image → Entry → List Offer → Option ℕ
stamp_in i e [] = None
stamp_in i e (o ∷ os) = or_else (stamp_by e o.name (export_of i o)) (stamp_in i e os)

abbrev pub first_stamp : Entry → List Image → Option ℕ
first_stamp e [] = None
first_stamp e (i ∷ is) = or_else (stamp_in i e i.offered) (first_stamp e is)

abbrev pub missing_by : (number : ℕ) → Entry → Option ℕ → LoadFault
missing_by n e None = NoExporter n (item_of e)
missing_by n e (Some found) = OtherStamp n (item_of e) e.stamp found

-- ---- a choice

pub data Choice : Type 0 where
  BuiltIn : Choice
  One : Giver → Choice
  Bad : LoadFault → Choice

abbrev pub stamp_of : List Offered → Option ℕ
stamp_of [] = None
stamp_of (o ∷ os) = Some o.gives.face.stamp

-- by the exporters under the item's stamp, and by all
abbrev pub choice_by : Part → Entry → (under all : List Offered) → Choice
choice_by p e (o ∷ []) all = One (giver_of e.item.name o)
choice_by p e (o ∷ second ∷ os) all = Bad (Twice (number p) (item_of e) o.path second.path)
choice_by p e [] all = Bad (missing_by (number p) e (stamp_of all))

unfoldable pub choice_of : Part → Entry → Choice
choice_of p e = if is_built_in e.face then BuiltIn else choice_by p e (stamped e (exporters p.before e)) (exporters p.before e)

abbrev pub choice_shown : Option Exporter → Choice
choice_shown None = BuiltIn
choice_shown (Some x) = One (giver_shown x)

-- the link that stands for an item
abbrev pub link_by : (wanted : List Entry) → Entry → Choice → Link
link_by wanted e BuiltIn = Wanted (entry_number wanted e)
link_by wanted e (One g) = To g.instance g.number
link_by wanted e (Bad f) = Wanted 0

abbrev pub links_by : (wanted : List Entry) → List Entry → List Choice → List Link
links_by wanted [] cs = []
links_by wanted (e ∷ es) [] = []
links_by wanted (e ∷ es) (c ∷ cs) = link_by wanted e c ∷ links_by wanted es cs

abbrev pub choices_shown : List (Option Exporter) → List Choice
choices_shown xs = map choice_shown xs

-- ---- choices for the first items, up to one with a fault

abbrev pub Stops : Part → (at : ℕ) → Option LoadFault → Type 0
Stops p at None = at ≡ length p.image.wanted
Stops p at (Some f) = (e : Entry) × (slice_get p.image.wanted at ≡ Some e) × (f ≢ Memory → choice_of p e ≡ Bad f)

pub record AreChoices (p : Part) (c : Choices) : Type 0 where
  pub are : choices_shown c.chosen.items ≡ map (choice_of p) (take (length c.chosen.items) p.image.wanted)
  pub stops : Stops p (length c.chosen.items) c.fault

-- that the item of this number is given by one with another face
abbrev pub IsDiffering : (number : ℕ) → List Entry → (least : ℕ) → LoadFault → Type 0
IsDiffering n es least f = (e : Entry) × (Some e ≡ slice_get es least) × (f ≡ FaceDiffers n (item_of e))
