-- The first wanted item with an import of another face, as the code looks for it: link by link.
use Rattle.std.specs.Prelude.{ℕ, Bool, false, ◌&&◌, List, [], ◌∷◌, map, nat_lt, Option, Some, None, slice_get, if◌then◌else◌}
use denote.Ref.{Bor}
use Rattle.mesa_types.specs.Links.{items_used}
use Rattle.mesa_types.specs.declared.faces.Face.{Face}
use Rattle.mesa_types.specs.declared.faces.Import.{Import}
use Rattle.mesa_types.specs.declared.faces.Item.{Item}
use Rattle.object_files.specs.declared.image.Image.{Image}
use Rattle.object_files.specs.declared.image.Instance.{Instance}
use Rattle.object_files.specs.declared.image.Link.{Link}
use Rattle.object_files.specs.declared.image.Link.TheVariants.{Wanted, To}
use Rattle.loader_rules.specs.Exporters.{module_at}
use Rattle.loader_rules.specs.LoadFaults.{differs, faces_linked}
use Rattle.load_checks.specs.Choosing.{Choice, BuiltIn, One, Bad}

abbrev pub faces_shown : List (Bor Face) → List Face
faces_shown fs = map (λ (f : Bor Face). f.now) fs

abbrev pub differs_by : Option Choice → List Face → Bool
differs_by None fs = false
differs_by (Some BuiltIn) fs = false
differs_by (Some (One g)) fs = differs g.face fs
differs_by (Some (Bad f)) fs = false

-- the face of each link of an import
abbrev pub faces_at : Face → (used : List ℕ) → List Face
faces_at f ns = map (λ (used : Item). f) (items_used f.items ns)

abbrev pub faces_of : Import → List Face
faces_of i = faces_at i.face i.used

-- whether what is chosen for the item of this number has another face than one of these
abbrev pub differs_at : List Choice → (n : ℕ) → List Face → Bool
differs_at cs n fs = differs_by (slice_get cs n) fs

-- the least item so far with another face, with one link more
abbrev pub lowered : List Choice → (least : ℕ) → Face → Link → ℕ
lowered cs least f (Wanted n) = if nat_lt n least && differs_at cs n (f ∷ []) then n else least
lowered cs least f (To j n) = least

abbrev pub all_lowered : List Choice → (least : ℕ) → List Face → List Link → ℕ
all_lowered cs least [] ls = least
all_lowered cs least (f ∷ fs) [] = least
all_lowered cs least (f ∷ fs) (l ∷ ls) = all_lowered cs (lowered cs least f l) fs ls

abbrev pub lowered_in : Image → List Choice → (least : ℕ) → List Instance → List (List Link) → ℕ
lowered_in i cs least [] tables = least
lowered_in i cs least (x ∷ xs) [] = least
lowered_in i cs least (x ∷ xs) (table ∷ tables) = lowered_in i cs (all_lowered cs least (faces_linked (module_at i (Some x))) table) xs tables
