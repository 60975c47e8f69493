-- What stands in the loaded image for the wanted items of each image.
use Rattle.std.specs.Prelude.{◌≡◌, ℕ, suc, List, [], ◌∷◌, map}
use Rattle.interface_records.specs.declared.wanted.Wanted.{Wanted as Entry}
use Rattle.object_files.specs.declared.image.Image.{Image}
use Rattle.object_files.specs.declared.image.Link.{Link}
use Rattle.object_files.specs.declared.image.Link.TheVariants.{Wanted}
use Rattle.loader_rules.specs.LoadFaults.{load_faults}
use Rattle.loader_rules.specs.Loaded.{link_in}
use Rattle.loader_rules.specs.Parts.{Part, parts}
use Rattle.loader_rules.specs.Wanted.{still_wanted}
use Rattle.load_checks.specs.declared.resolving.Resolved.{Resolved}

-- the links that stand for wanted items, from number `n` on
unfoldable pub links_from : Part → (wanted : List Entry) → (n : ℕ) → List Entry → List Link
links_from p wanted n [] = []
links_from p wanted n (e ∷ es) = link_in p wanted (Wanted n) ∷ links_from p wanted (suc n) es

-- those of an image, by number, where this is still wanted
abbrev pub wanted_links : (wanted : List Entry) → Part → List Link
wanted_links wanted p = links_from p wanted 0 p.image.wanted

-- those of each image
unfoldable pub links_of_wanted : List Image → List (List Link)
links_of_wanted images = map (wanted_links (still_wanted images)) (parts images)

pub record AreResolved (images : List Image) (r : Resolved) : Type 0 where
  pub no_fault : load_faults images ≡ []
  pub wanted : r.wanted ≡ still_wanted images
  pub links : r.links ≡ links_of_wanted images
