-- What the sizes of a module's file hang on: the bytes of its names and string literals, and what its imports and exports count for
-- together, whatever a face counts for.
use Rattle.std.specs.Prelude.{ℕ, ◌+◌, ◌≤◌, ◌<◌, List, [], ◌∷◌, length}
use Rattle.syntax_trees.specs.Syntax as s
use Rattle.mesa_types.specs.Nodes.{nodes}
use Rattle.mesa_types.specs.declared.faces.Export.{Export}
use Rattle.mesa_types.specs.declared.faces.Face.{Face}
use Rattle.mesa_types.specs.declared.faces.Import.{Import}
use Rattle.mesa_types.specs.declared.faces.Item.{Item}
use Rattle.interface_records.specs.declared.interface.Interface.{Interface}
use Rattle.check_rules.specs.Typed as t
use Rattle.checking_laws.specs.UsedItems.{used_items}
use Rattle.checking_laws.specs.Weights.{one_each, in_bytes, kind_weight, module_weight}

unfoldable pub item_bytes : List Item → ℕ
item_bytes [] = 0
item_bytes (i ∷ is) = length i.name + item_bytes is

unfoldable pub head_bytes : List t.Procedure → ℕ
head_bytes [] = 0
head_bytes (p ∷ ps) = length p.head.name + head_bytes ps

unfoldable pub literal_bytes : List (List ℕ) → ℕ
literal_bytes [] = 0
literal_bytes (x ∷ xs) = length x + literal_bytes xs

-- the names of a module, its signals and its procedures, and its string literals
abbrev pub written_bytes : t.Module → ℕ
written_bytes x = length x.name + item_bytes x.signals + head_bytes x.procedures + literal_bytes x.strings

unfoldable pub imports_count : (Face → ℕ) → List Import → ℕ
imports_count f [] = 0
imports_count f (i ∷ is) = f i.face + imports_count f is

unfoldable pub exports_count : (Face → ℕ) → List Export → ℕ
exports_count f [] = 0
exports_count f (e ∷ es) = f e.face + exports_count f es

unfoldable pub interfaces_count : (Face → ℕ) → List Interface → ℕ
interfaces_count f [] = 0
interfaces_count f (i ∷ is) = f i.face + interfaces_count f is

-- a checked module is no larger than its text and the interfaces given to it
pub record SizedBy (m : s.Module) (is : List Interface) (x : t.Module) : Type 0 where
  -- each import, each export and each used item has a name of its own behind the DIRECTORY
  pub named : length x.imports + length x.exports + used_items x.imports ≤ kind_weight one_each m.kind
  -- and a node of its own in the typed tree, besides that of the module
  pub used : used_items x.imports < nodes x
  -- names and literals are written in the text
  pub written : written_bytes x ≤ module_weight in_bytes m
  -- no interface is imported twice, and none exported twice
  pub imported : (f : Face → ℕ) → imports_count f x.imports ≤ interfaces_count f is
  pub exported : (f : Face → ℕ) → exports_count f x.exports ≤ interfaces_count f is
