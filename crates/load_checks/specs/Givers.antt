-- Those who offer an item, by what of them is needed: of each list the first two.
use Rattle.std.specs.Prelude.{ℕ, ◌+◌, Bool, ◌&&◌, List, [], ◌∷◌, ◌++◌, map, filter, nat_eq, bytes_eq, codes, decimal, Option, Some, None, slice_get}
use Rattle.mesa_types.specs.declared.faces.Export.{Export}
use Rattle.mesa_types.specs.declared.faces.Face.{Face}
use Rattle.object_files.specs.declared.image.Image.{Image}
use Rattle.object_files.specs.declared.image.Offer.{Offer}
use Rattle.config_rules.specs.Exporters.{is_given}
use Rattle.config_rules.specs.Resolves.{given_for}
use Rattle.loader_rules.specs.Exporters.{Offered, path_at}
use Rattle.link_tables.specs.declared.key.EntryKey.{EntryKey}
use Rattle.load_checks.specs.declared.exporters.Exporter.{Exporter}
use Rattle.load_checks.specs.declared.exporters.Found.{Found}
use Rattle.load_checks.specs.declared.offering.Offering.{Offering}

-- ---- what an entry offers

-- the name before the paths of the image of this number
abbrev pub name_of : (number : ℕ) → List ℕ
name_of n = codes "I" ++ decimal (n + 1)

-- where so many instances stand before the image of this number
abbrev pub offered_at : (number before : ℕ) → Image → Offer → Option Export → List Offered
offered_at n b i o None = []
offered_at n b i o (Some x) =
    record { record_name = o.name; instance = b + o.instance; path = name_of n ∷ path_at (slice_get i.instances o.instance); gives = x } ∷ []

abbrev pub offering_shown : Offering → Offered
offering_shown g = record { record_name = g.record_name.now; instance = g.instance; path = name_of g.image ∷ g.path.now; gives = g.export.now }

abbrev pub offerings_shown : Option Offering → List Offered
offerings_shown None = []
offerings_shown (Some g) = offering_shown g ∷ []

-- ---- one who offers an item

-- with the number of what is given for the item
pub record Giver : Type 0 where
  pub instance : ℕ
  pub path : List (List ℕ)
  pub face : Face
  pub number : ℕ

abbrev pub giver_of : (item : List ℕ) → Offered → Giver
giver_of item o = record { instance = o.instance; path = o.path; face = o.gives.face; number = given_for item o.gives.face o.gives.given }

-- offered under the key's name and stamp, by an export that gives its item
abbrev pub is_under : EntryKey → Offered → Bool
is_under k o = (bytes_eq o.record_name k.face && is_given k.item o.gives.face o.gives.given) && nat_eq o.gives.face.stamp k.stamp

abbrev pub givers : EntryKey → List Offered → List Giver
givers k all = map (giver_of k.item) (filter (is_under k) all)

-- ---- the first two

abbrev pub Firsts : Type 0
Firsts = Option (Giver × Option Giver)

abbrev pub first_two : List Giver → Firsts
first_two [] = None
first_two (g ∷ []) = Some (g, None)
first_two (g ∷ h ∷ gs) = Some (g, Some h)

-- with one more behind them
abbrev pub noted : Firsts → Giver → Firsts
noted None g = Some (g, None)
noted (Some (first, None)) g = Some (first, Some g)
noted (Some (first, Some second)) g = Some (first, Some second)

abbrev pub giver_shown : Exporter → Giver
giver_shown x = record { instance = x.instance; path = name_of x.image ∷ x.path.now; face = x.face.now; number = x.number }

abbrev pub second_shown : Option Exporter → Option Giver
second_shown None = None
second_shown (Some x) = Some (giver_shown x)

abbrev pub found_shown : Option Found → Firsts
found_shown None = None
found_shown (Some f) = Some (giver_shown f.first, second_shown f.second)
