-- What images still want when they are loaded: items of the built-in interface, each once (rule of this project).
use Rattle.std.specs.Prelude.{ℕ, suc, Bool, false, ◌&&◌, ◌||◌, List, [], ◌∷◌, ◌++◌, filter, flat_map, nat_eq, bytes_eq, codes, if◌then◌else◌}
use Rattle.interface_records.specs.declared.wanted.Wanted.{Wanted as Entry}
use Rattle.object_files.specs.declared.image.Image.{Image}
use Rattle.object_rules.specs.ImageForms.{same_signature}

-- it is the built-in interface
abbrev pub is_built_in : (name : List ℕ) → Bool
is_built_in name = bytes_eq name (codes "IODefs")

-- equal in interface name, stamp, item name, kind and types
abbrev pub same_entry : Entry → Entry → Bool
same_entry a b = bytes_eq a.face b.face && (nat_eq a.stamp b.stamp && (bytes_eq a.item.name b.item.name && same_signature a.item b.item))

unfoldable pub has_entry : List Entry → Entry → Bool
has_entry [] e = false
has_entry (x ∷ xs) e = same_entry x e || has_entry xs e

-- the place at which it stands
unfoldable pub entry_number : List Entry → Entry → ℕ
entry_number [] e = 0
entry_number (x ∷ xs) e = if same_entry x e then 0 else suc (entry_number xs e)

-- each once, behind those that stand already
unfoldable pub noted : (already : List Entry) → List Entry → List Entry
noted already [] = already
noted already (e ∷ es) = if has_entry already e then noted already es else noted (already ++ e ∷ []) es

-- the items of the built-in interface that images want
abbrev pub wanted_built_in : List Image → List Entry
wanted_built_in images = filter (λ (e : Entry). is_built_in e.face) (flat_map (λ (i : Image). i.wanted) images)

unfoldable pub still_wanted : List Image → List Entry
still_wanted images = noted [] (wanted_built_in images)
