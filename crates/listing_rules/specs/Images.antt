-- The listing of an image (rule of this project): a line for it, its modules as objects, a line for each item that is wanted, for each
-- instance and its links, for each export that is offered, and for each instance that is started.
use Rattle.std.specs.Prelude.{ℕ, ◌+◌, List, [], ◌∷◌, ◌++◌, flat_map, codes, decimal, Option, Some, None, slice_get}
use Rattle.line_pieces.specs.Texts.{stamp_text, path_text}
use Rattle.interface_records.specs.declared.wanted.Wanted.{Wanted as Entry}
use Rattle.object_files.specs.declared.image.Image.{Image}
use Rattle.object_files.specs.declared.image.Instance.{Instance}
use Rattle.object_files.specs.declared.image.Link.{Link}
use Rattle.object_files.specs.declared.image.Link.TheVariants.{Wanted, To}
use Rattle.object_files.specs.declared.image.Offer.{Offer}
use Rattle.listing_rules.specs.Lines.{line}
use Rattle.listing_rules.specs.Objects.{object_listing}

-- WANTED FACE.ITEM STAMP
abbrev pub wanted_line : Entry → List ℕ
wanted_line w = line (codes "WANTED" ∷ (w.face ++ (codes "." ++ w.item.name)) ∷ stamp_text w.stamp ∷ [])

abbrev pub path_in : Option Instance → List ℕ
path_in None = []
path_in (Some instance) = path_text instance.path

-- the path of the instance of this number; each number that an image has for one is that of an instance
abbrev pub path_at : List Instance → ℕ → List ℕ
path_at instances n = path_in (slice_get instances n)

-- LINK wanted N, or LINK PATH N
abbrev pub link_line : List Instance → Link → List ℕ
link_line instances (Wanted n) = line (codes "LINK" ∷ codes "wanted" ∷ decimal n ∷ [])
link_line instances (To instance n) = line (codes "LINK" ∷ path_at instances instance ∷ decimal n ∷ [])

-- INSTANCE PATH MODULE
abbrev pub instance_line : Instance → List ℕ
instance_line x = line (codes "INSTANCE" ∷ path_text x.path ∷ decimal x.«module» ∷ [])

-- the links of an instance stand beside it; no table of them is missing
abbrev pub table_lines : List Instance → Option (List Link) → List ℕ
table_lines instances None = []
table_lines instances (Some links) = flat_map (link_line instances) links

-- each instance, and the links of its number: those from this number on
unfoldable pub instances_from : List Instance → List (List Link) → ℕ → List Instance → List ℕ
instances_from all tables at [] = []
instances_from all tables at (x ∷ more) = instance_line x ++ (table_lines all (slice_get tables at) ++ instances_from all tables (at + 1) more)

-- OFFERED NAME PATH EXPORT
abbrev pub offer_line : List Instance → Offer → List ℕ
offer_line instances o = line (codes "OFFERED" ∷ o.name ∷ path_at instances o.instance ∷ decimal o.export ∷ [])

-- CONTROL PATH
abbrev pub control_line : List Instance → ℕ → List ℕ
control_line instances n = line (codes "CONTROL" ∷ path_at instances n ∷ [])

-- the instances with their links, what is offered, and what is started
abbrev pub bound_lines : Image → List ℕ
bound_lines i =
    instances_from i.instances i.links 0 i.instances
    ++ (flat_map (offer_line i.instances) i.offered ++ flat_map (control_line i.instances) i.control)

-- IMAGE
abbrev pub head_line : List ℕ
head_line = line (codes "IMAGE" ∷ [])

abbrev pub image_listing : Image → List ℕ
image_listing i =
    head_line ++ (flat_map object_listing i.modules ++ (flat_map wanted_line i.wanted ++ bound_lines i))
