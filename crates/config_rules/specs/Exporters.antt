-- Who exports an item to a record of a scope (Language Manual, chapter 7).
use Rattle.std.specs.Prelude.{ℕ, zero, suc, Bool, false, ◌&&◌, ◌||◌, List, [], ◌∷◌, ◌++◌, filter, nat_eq, bytes_eq, Option, Some, None, slice_get, if◌then◌else◌}
use Rattle.std.specs.List.{list_any}
use Rattle.mesa_types.specs.declared.faces.Export.{Export}
use Rattle.mesa_types.specs.declared.faces.Face.{Face}
use Rattle.mesa_types.specs.declared.faces.Item.{Item}
use Rattle.mesa_types.specs.declared.faces.Pair.{Pair}
use Rattle.config_rules.specs.declared.tree.Exporter.{Exporter}
use Rattle.config_rules.specs.declared.tree.RecordPair.{RecordPair}
use Rattle.config_rules.specs.declared.tree.TreeScope.{TreeScope}
use Rattle.config_rules.specs.declared.tree.TreeInstance.{TreeInstance}
use Rattle.config_rules.specs.declared.tree.Tree.{Tree}

-- a record of a scope
pub record Spot : Type 0 where
  pub scope : ℕ
  pub record_name : List ℕ

abbrev pub same_spot : Spot → Spot → Bool
same_spot a b = nat_eq a.scope b.scope && bytes_eq a.record_name b.record_name

unfoldable pub outside_of : List RecordPair → List ℕ → Option (List ℕ)
outside_of [] r = None
outside_of (p ∷ ps) r = if bytes_eq p.inside r then Some p.outside else outside_of ps r

-- a list of a scope does not have the record; or another stands for it in the scope around; or it passes the outermost scope
pub data Step : Type 0 where
  Stays : Step
  Goes : Spot → Step
  Leaves : Step

unfoldable pub stepped : (around : Option ℕ) → (outside : Option (List ℕ)) → Step
stepped around None = Stays
stepped None (Some r) = Leaves
stepped (Some n) (Some r) = Goes (record { scope = n; record_name = r })

unfoldable pub step_in : (TreeScope → List RecordPair) → List ℕ → Option TreeScope → Step
step_in list r None = Stays
step_in list r (Some s) = stepped s.around (outside_of (list s) r)

-- by the imports of its scope, or by the exports
abbrev pub step : (TreeScope → List RecordPair) → Tree → Spot → Step
step list t a = step_in list a.record_name (slice_get t.scopes a.scope)

unfoldable pub goes_on : Step → (Spot → List Spot) → List Spot
goes_on Stays f = []
goes_on (Goes b) f = f b
goes_on Leaves f = []

-- the records to which an export goes: that of its own scope and, while the scope exports it, those outside, innermost first. In a tree the scope around
-- has a lesser number, so as many as there are scopes are enough
unfoldable pub reach : (most : ℕ) → Tree → Spot → List Spot
reach zero t a = []
reach (suc n) t a = a ∷ goes_on (step (λ s. s.exports) t a) (λ b. reach n t b)

abbrev pub reached : Tree → Spot → List Spot
reached t a = reach (suc a.scope) t a

-- an export of an instance, with its record
pub record Outlet : Type 0 where
  pub exporter : Exporter
  pub from : Spot
  pub gives : Export

unfoldable pub outlets_of : (instance number scope : ℕ) → List (List ℕ) → List Export → List Outlet
outlets_of i n s [] _ = []
outlets_of i n s _ [] = []
outlets_of i n s (r ∷ rs) (x ∷ xs) =
    record { exporter = record { instance = i; export = n }; from = record { scope = s; record_name = r }; gives = x } ∷ outlets_of i (suc n) s rs xs

unfoldable pub outlets_from : (instance : ℕ) → List TreeInstance → List Outlet
outlets_from i [] = []
outlets_from i (x ∷ xs) = outlets_of i 0 x.scope x.exports x.shape.exports ++ outlets_from (suc i) xs

-- all exports, in tree order
abbrev pub outlets : Tree → List Outlet
outlets t = outlets_from 0 t.instances

unfoldable pub is_named : List ℕ → Option Item → Bool
is_named name None = false
is_named name (Some i) = bytes_eq i.name name

unfoldable pub is_given : List ℕ → Face → List Pair → Bool
is_given name face [] = false
is_given name face (p ∷ ps) = is_named name (slice_get face.items p.item) || is_given name face ps

abbrev pub goes_to : Tree → Spot → Outlet → Bool
goes_to t a o = list_any (same_spot a) (reached t o.from)

-- those that go to the record and give an item of that name, in tree order
unfoldable pub exporters : Tree → Spot → List ℕ → List Outlet
exporters t a name = filter (λ o. goes_to t a o && is_given name o.gives.face o.gives.given) (outlets t)
