-- Shapes and trees in order.
use Rattle.std.specs.Prelude.{◌≡◌, ℕ, ◌<◌, ◌≤◌, List, length, map, All, Contains, Some, slice_get}
use Rattle.mesa_base.specs.declared.limits.TheConstants.{INSTANCES}
use Rattle.mesa_types.specs.Sound.{IsAscending}
use Rattle.mesa_types.specs.declared.faces.Export.{Export}
use Rattle.mesa_types.specs.declared.faces.Face.{Face}
use Rattle.mesa_types.specs.declared.faces.Import.{Import}
use Rattle.mesa_types.specs.declared.faces.Item.{Item}
use Rattle.mesa_types.specs.declared.faces.Pair.{Pair}
use Rattle.mesa_types.specs.declared.faces.Shape.{Shape}
use Rattle.config_rules.specs.declared.tree.Tree.{Tree}
use Rattle.config_rules.specs.declared.tree.TreeInstance.{TreeInstance}
use Rattle.config_rules.specs.declared.tree.TreeScope.{TreeScope}

-- no two items of an interface have one name
abbrev pub NamesDiffer : Face → Type 0
NamesDiffer f = (a b : ℕ) (i j : Item) → slice_get f.items a ≡ Some i → slice_get f.items b ≡ Some j → i.name ≡ j.name → a ≡ b

-- the numbers of what is used, or given, ascend and are those of items
abbrev pub NumbersIn : Face → List ℕ → Type 0
NumbersIn f ns = IsAscending ns × All (λ n. n < length f.items) ns

-- what is asked of the shapes of components
pub record ShapeInOrder (s : Shape) : Type 0 where
  pub imports : (m : Import) → Contains s.imports m → NamesDiffer m.face × NumbersIn m.face m.used
  pub exports : (x : Export) → Contains s.exports x → NamesDiffer x.face × NumbersIn x.face (map (λ (p : Pair). p.item) x.given)

-- an instance has the shape of its component, and a record for each import and each export of it
pub record InstanceIn (shapes : List Shape) (x : TreeInstance) : Type 0 where
  pub its : slice_get shapes x.component ≡ Some x.shape
  pub imports : length x.imports ≡ length x.shape.imports
  pub exports : length x.exports ≡ length x.shape.exports

-- the scope around has a lesser number
abbrev pub IsInward : Tree → Type 0
IsInward t = (k n : ℕ) (s : TreeScope) → slice_get t.scopes k ≡ Some s → s.around ≡ Some n → n < k

pub record TreeIn (shapes : List Shape) (t : Tree) : Type 0 where
  pub instances : (j : ℕ) (x : TreeInstance) → slice_get t.instances j ≡ Some x → InstanceIn shapes x
  pub few : length t.instances ≤ INSTANCES
  pub control : All (λ j. j < length t.instances) t.control
  pub inward : IsInward t
