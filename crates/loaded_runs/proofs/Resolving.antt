-- What an item stands for in the new tree: what it stands for in its own, or what it is bound to past that.
use Rattle.std.proofs.Common.{◌≡◌, ℕ, suc, ◌+◌, ◌<◌, inl, inr, Bool, true, false, List, [], ◌∷◌, length, map, filter, bytes_eq, Some, refl, sym, ap, ◌∙◌, arith, if◌then◌else◌}
use Rattle.mesa_types.specs.declared.faces.Face.{Face}
use Rattle.config_rules.specs.Exporters.{Spot, Outlet, exporters}
use Rattle.config_rules.specs.Resolves.{Resolution, Left, Bound, NoExporter, Twice, OtherInterface, OtherStamp, under, chosen, among, resolved_at, resolved}
use Rattle.config_rules.proofs.Members.{Mem}
use Rattle.loaded_runs.specs.Outermost.{passed}
use Rattle.loaded_runs.specs.Together.{Source, Place, scopes_before, instances_before, together}
use Rattle.loaded_runs.proofs.Lists.{filter_map}
use Rattle.loaded_runs.proofs.Looking.{past, Looked, is_looked_up}
use Rattle.loaded_runs.proofs.Outlets.{outlet_in, IsTree, exporters_within}
use Rattle.loaded_runs.proofs.Places.{IsPlace, place_mem}
use Rattle.loaded_runs.proofs.Scopes.{moved}

-- with the numbers of instances shifted
abbrev pub shifted : Place → Resolution → Resolution
shifted p Left = Left
shifted p (Bound j n) = Bound (instances_before p + j) n
shifted p NoExporter = NoExporter
shifted p (Twice j k) = Twice (instances_before p + j) (instances_before p + k)
shifted p (OtherInterface j) = OtherInterface (instances_before p + j)
shifted p (OtherStamp s) = OtherStamp s

module _ (p : Place) (face : Face) (name : List ℕ) where
  chosen_moved : (same all : List Outlet) → chosen face name (map (outlet_in p) same) (map (outlet_in p) all) ≡ shifted p (chosen face name same all)
  unfolding chosen
  chosen_moved (o ∷ []) all = refl
  chosen_moved (o ∷ q ∷ os) all = refl
  chosen_moved [] (o ∷ os) = by (bytes_eq o.gives.face.name face.name)
    where
      by : (b : Bool) → (if b then OtherStamp o.gives.face.stamp else OtherInterface (instances_before p + o.exporter.instance))
          ≡ shifted p (if b then OtherStamp o.gives.face.stamp else OtherInterface o.exporter.instance)
      by true = refl
      by false = refl
  chosen_moved [] [] = refl

  among_moved : (all : List Outlet) → among face name (map (outlet_in p) all) ≡ shifted p (among face name all)
  among_moved all = ap (λ l. chosen face name l (map (outlet_in p) all)) (filter_map (under face) (outlet_in p) all) ∙ chosen_moved (filter (under face) all) all

-- what an item of a tree stands for in the new one
pub data Answers (sources : List Source) (p : Place) (a : Spot) (face : Face) (name : List ℕ) : Type 0 where
  InTree : resolved (together sources) (moved p a) face name ≡ shifted p (resolved p.source.tree a face name) → (resolved p.source.tree a face name ≡ Left → ⊥) → Answers sources p a face name
  OutOfTree : (out : List ℕ) → resolved p.source.tree a face name ≡ Left → passed p.source.tree a ≡ Some out
      → resolved (together sources) (moved p a) face name ≡ resolved_at (together sources) face name (past out) → Answers sources p a face name

not_left : (face : Face) (name : List ℕ) (same all : List Outlet) → chosen face name same all ≡ Left → ⊥
unfolding chosen
not_left face name (o ∷ []) all e = absurd cc
not_left face name (o ∷ q ∷ os) all e = absurd cc
not_left face name [] (o ∷ os) e = by (bytes_eq o.gives.face.name face.name) e
  where
    by : (b : Bool) → (if b then OtherStamp o.gives.face.stamp else OtherInterface o.exporter.instance) ≡ Left → ⊥
    by true f = absurd cc
    by false f = absurd cc
not_left face name [] [] e = absurd cc

module _ (sources : List Source) (trees : (s : Source) → Mem s sources → IsTree s.tree) (p : Place) (I : IsPlace sources p) where
  abbrev T : IsTree p.source.tree
  T = trees p.source (place_mem sources p I)

  pub answers : (a : Spot) (face : Face) (name : List ℕ) → a.scope < length p.source.tree.scopes → Answers sources p a face name
  unfolding resolved resolved_at
  answers a face name less = by (is_looked_up sources p I T.inward a less)
    where
      by : Looked sources p I T.inward (suc a.scope) (suc (scopes_before p + a.scope)) a → Answers sources p a face name
      by (inl w) =
          let lower = w.lower in
          let here : resolved p.source.tree a face name ≡ among face name (exporters p.source.tree w.its name) = ap (resolved_at p.source.tree face name) w.here in
          let there : resolved (together sources) (moved p a) face name ≡ among face name (exporters (together sources) (moved p w.its) name) =
          ap (resolved_at (together sources) face name) w.there in
          InTree
          (there
          ∙ (ap (among face name) (exporters_within sources trees p I T w.its (omega (arith, lower, less)) name)
          ∙ (among_moved p face name (exporters p.source.tree w.its name) ∙ ap (shifted p) (sym here))))
          (λ e. not_left face name (filter (under face) (exporters p.source.tree w.its name)) (exporters p.source.tree w.its name) (sym here ∙ e))
      by (inr w) =
          OutOfTree w.out (ap (resolved_at p.source.tree face name) w.here) w.passes (ap (resolved_at (together sources) face name) w.there)
