-- The exports of several trees as one, and the exporters of an item in the new tree.
use Rattle.std.proofs.Common.{◌≡◌, ℕ, suc, ◌+◌, ◌<◌, ◌≤◌, ◌⊎◌, inl, inr, Bool, false, ◌&&◌, List, [], ◌∷◌, ◌++◌, length, map, filter, flat_map, Some, is_some, slice_get, refl, sym, ap, subst, ◌∙◌, arith, append-nil, append_assoc}
use Rattle.std.proofs.lemmas.List.{map-append}
use Rattle.std.proofs.lemmas.Option.{none-some, same_Some}
use Rattle.mesa_types.specs.declared.faces.Export.{Export}
use Rattle.config_rules.specs.declared.tree.RecordPair.{RecordPair}
use Rattle.config_rules.specs.declared.tree.Tree.{Tree}
use Rattle.config_rules.specs.declared.tree.TreeInstance.{TreeInstance}
use Rattle.config_rules.specs.declared.tree.TreeScope.{TreeScope}
use Rattle.config_rules.specs.Exporters.{Spot, outside_of, Outlet, outlets_of, outlets_from, outlets, is_given, goes_to, exporters}
use Rattle.config_rules.specs.InOrder.{IsInward}
use Rattle.config_rules.proofs.Members.{Mem, mem_split, mapped_length}
use Rattle.bound_images.specs.link_tables.specs.Linked.{outermost_exports}
use Rattle.loaded_runs.specs.Together.{Source, Place, place, places_behind, places, instances_of, scopes_before, instances_before, instance_in, together}
use Rattle.loaded_runs.proofs.Lists.{filter_flat, filter_map, filter_alike, filter_none, flat_alike, map_mem}
use Rattle.loaded_runs.proofs.Places.{IsPlace, flat_about, before_place, place_mem, after_mem, place_of, length_further, length_next, length_about}
use Rattle.loaded_runs.proofs.Scopes.{spot, moved}
use Rattle.loaded_runs.proofs.Reaching.{reached_within, reached_elsewhere, reached_out}

-- an export of a tree, in the new tree
abbrev pub outlet_in : Place → Outlet → Outlet
outlet_in p o = record {
  exporter = record { instance = instances_before p + o.exporter.instance; export = o.exporter.export };
  from = moved p o.from;
  gives = o.gives;
}

-- ---- the exports of all

of_moved : (p : Place) (i n s : ℕ) (rs : List (List ℕ)) (xs : List Export)
    → outlets_of (instances_before p + i) n (scopes_before p + s) rs xs ≡ map (outlet_in p) (outlets_of i n s rs xs)
unfolding outlets_of
of_moved p i n s [] xs = refl
of_moved p i n s (r ∷ rs) [] = refl
of_moved p i n s (r ∷ rs) (x ∷ xs) =
    ap (λ os. outlet_in p (record { exporter = record { instance = i; export = n }; from = record { scope = s; record_name = r }; gives = x }) ∷ os) (of_moved p i (suc n) s rs xs)

from_moved : (p : Place) (i : ℕ) (xs : List TreeInstance) → outlets_from (instances_before p + i) (map (instance_in p) xs) ≡ map (outlet_in p) (outlets_from i xs)
unfolding outlets_from
from_moved p i [] = refl
from_moved p i (x ∷ xs) =
    let rest : outlets_from (suc (instances_before p + i)) (map (instance_in p) xs) ≡ map (outlet_in p) (outlets_from (suc i) xs) =
    ap (λ n. outlets_from n (map (instance_in p) xs)) {x = suc (instances_before p + i)} {y = instances_before p + suc i} (omega arith) ∙ from_moved p (suc i) xs in
    (λ j. of_moved p i 0 x.scope x.exports x.shape.exports j ++ rest j)
    ∙ sym (map-append (outlet_in p) (outlets_of i 0 x.scope x.exports x.shape.exports) (outlets_from (suc i) xs))

from_append : (i : ℕ) (xs ys : List TreeInstance) → outlets_from i (xs ++ ys) ≡ outlets_from i xs ++ outlets_from (i + length xs) ys
unfolding outlets_from
from_append i [] ys = ap (λ n. outlets_from n ys) {x = i} {y = i + 0} (omega arith)
from_append i (x ∷ xs) ys =
    ap (λ l. outlets_of i 0 x.scope x.exports x.shape.exports ++ l)
    (from_append (suc i) xs ys ∙ ap (λ n. outlets_from (suc i) xs ++ outlets_from n ys) {x = suc i + length xs} {y = i + suc (length xs)} (omega arith))
    ∙ sym (append_assoc (outlets_of i 0 x.scope x.exports x.shape.exports) (outlets_from (suc i) xs) (outlets_from (i + suc (length xs)) ys))

abbrev its_outlets : Place → List Outlet
its_outlets p = map (outlet_in p) (outlets p.source.tree)

behind : (before sources : List Source)
    → outlets_from (length (instances_of before)) (flat_map (λ (p : Place). map (instance_in p) p.source.tree.instances) (places_behind before sources))
    ≡ flat_map its_outlets (places_behind before sources)
unfolding places_behind outlets_from
behind before [] = refl
behind before (s ∷ ss) =
    let p = place before s in
    let n = length (instances_of before) in
    let rest = flat_map (λ (q : Place). map (instance_in q) q.source.tree.instances) (places_behind (before ++ s ∷ []) ss) in
    let first : outlets_from n (map (instance_in p) s.tree.instances) ≡ its_outlets p =
    ap (λ m. outlets_from m (map (instance_in p) s.tree.instances)) {x = n} {y = n + 0} (omega arith) ∙ from_moved p 0 s.tree.instances in
    let number : n + length (map (instance_in p) s.tree.instances) ≡ length (instances_of (before ++ s ∷ [])) =
    ap (λ m. n + m) (mapped_length (instance_in p) s.tree.instances) ∙ sym (length_next (λ (x : Source). x.tree.instances) before s) in
    from_append n (map (instance_in p) s.tree.instances) rest
    ∙ (λ j. first j ++ outlets_from (number j) rest)
    ∙ ap (λ l. its_outlets p ++ l) (behind (before ++ s ∷ []) ss)

pub outlets_are : (sources : List Source) → outlets (together sources) ≡ flat_map its_outlets (places sources)
unfolding together
outlets_are sources = behind [] sources

-- ---- an export is one of an instance, and goes out from its scope

from_scope : (i n s : ℕ) (rs : List (List ℕ)) (xs : List Export) (o : Outlet) → Mem o (outlets_of i n s rs xs) → o.from.scope ≡ s
unfolding outlets_of
from_scope i n s [] xs o h = absurd h
from_scope i n s (r ∷ rs) [] o h = absurd h
from_scope i n s (r ∷ rs) (x ∷ xs) o (inl e) = ap (λ (p : Outlet). p.from.scope) (sym e)
from_scope i n s (r ∷ rs) (x ∷ xs) o (inr m) = from_scope i (suc n) s rs xs o m

scoped_from : (most i : ℕ) (xs : List TreeInstance) → ((x : TreeInstance) → Mem x xs → x.scope < most) → (o : Outlet) → Mem o (outlets_from i xs) → o.from.scope < most
unfolding outlets_from
scoped_from most i [] h o m = absurd m
scoped_from most i (x ∷ xs) h o m = by (λ n. scoped_from most (suc i) xs (λ y k. h y (inr k)) o n) (mem_split (outlets_of i 0 x.scope x.exports x.shape.exports) (outlets_from (suc i) xs) o m)
  where
    by : (Mem o (outlets_from (suc i) xs) → o.from.scope < most) → Mem o (outlets_of i 0 x.scope x.exports x.shape.exports) ⊎ Mem o (outlets_from (suc i) xs) → o.from.scope < most
    by again (inl n) = let e = from_scope i 0 x.scope x.exports x.shape.exports o n in let l = h x (inl refl) in omega (arith, e, l)
    by again (inr n) = again n

-- ---- what is known of each tree

abbrev scopes : Source → List TreeScope
scopes s = s.tree.scopes

pub record IsTree (t : Tree) : Type 0 where
  pub inward : IsInward t
  pub inner : (k : ℕ) (s : TreeScope) → slice_get t.scopes (suc k) ≡ Some s → (n : ℕ) × (s.around ≡ Some n)
  pub scoped : (x : TreeInstance) → Mem x t.instances → x.scope < length t.scopes

pub scoped_outlet : (t : Tree) → IsTree t → (o : Outlet) → Mem o (outlets t) → o.from.scope < length t.scopes
scoped_outlet t T o m = scoped_from (length t.scopes) 0 t.instances T.scoped o m

module _ (sources : List Source) (trees : (s : Source) → Mem s sources → IsTree s.tree) where
  abbrev U : Tree
  U = together sources

  abbrev gives : List ℕ → Outlet → Bool
  gives name o = is_given name o.gives.face o.gives.given

  -- ---- the exporters of an item to a record of one of the trees

  module _ (p : Place) (I : IsPlace sources p) (T : IsTree p.source.tree) (c : Spot) (inside : c.scope < length p.source.tree.scopes) (name : List ℕ) where
    abbrev test : Outlet → Bool
    test o = goes_to U (moved p c) o && gives name o

    here : filter test (its_outlets p) ≡ map (outlet_in p) (exporters p.source.tree c name)
    unfolding exporters
    here =
        filter_map test (outlet_in p) (outlets p.source.tree)
        ∙ ap (map (outlet_in p)) (filter_alike (λ o. test (outlet_in p o)) (λ o. goes_to p.source.tree c o && gives name o) (outlets p.source.tree) (λ o m.
        ap (λ b. b && gives name o)
        (reached_within sources p I T.inward (suc o.from.scope) (suc (scopes_before p + o.from.scope)) c o.from (scoped_outlet p.source.tree T o m) (omega arith) (omega arith))))

    none_of : (q : Place) → IsPlace sources q → IsTree q.source.tree
        → ((scopes_before p + c.scope < scopes_before q) ⊎ (scopes_before q + length q.source.tree.scopes ≤ scopes_before p + c.scope)) → filter test (its_outlets q) ≡ []
    none_of q J Q apart = filter_none test (its_outlets q) (λ o m.
        let r = map_mem (outlet_in q) (outlets q.source.tree) o m in
        subst (λ (x : Outlet). test x ≡ false) r.2
        (ap (λ b. b && gives name r.0)
        (reached_elsewhere sources q J Q.inward (suc (scopes_before q + r.0.from.scope)) (moved p c) r.0.from (omega arith, apart) (scoped_outlet q.source.tree Q r.0 r.1) (omega arith))))

    all_none : (qs : List Place) → ((q : Place) → Mem q qs → filter test (its_outlets q) ≡ []) → flat_map (λ q. filter test (its_outlets q)) qs ≡ []
    all_none [] h = refl
    all_none (q ∷ qs) h = λ j. h q (inl refl) j ++ all_none qs (λ x m. h x (inr m)) j

    pub exporters_within : exporters U (moved p c) name ≡ map (outlet_in p) (exporters p.source.tree c name)
    unfolding exporters
    exporters_within =
        ap (filter test) (outlets_are sources)
        ∙ (filter_flat test its_outlets (places sources)
        ∙ (flat_about (λ q. filter test (its_outlets q)) sources p I
        ∙ (λ j. all_none (places p.before) before j ++ (here j ++ all_none (places_behind (p.before ++ p.source ∷ []) I.behind) behind_it j))
        ∙ append-nil (map (outlet_in p) (exporters p.source.tree c name))))
      where
        before : (q : Place) → Mem q (places p.before) → filter test (its_outlets q) ≡ []
        before q m =
            let J = place_of p.before q m in
            let K = before_place sources p q I J in
            let all = length_about scopes p.before q J in
            none_of q K (trees q.source (place_mem sources q K)) (inr (omega (arith, all)))

        behind_it : (q : Place) → Mem q (places_behind (p.before ++ p.source ∷ []) I.behind) → filter test (its_outlets q) ≡ []
        behind_it q m =
            let A = after_mem sources p q I m in
            let further = length_further scopes (p.before ++ p.source ∷ []) A.between q A.further in
            let next = length_next scopes p.before p.source in
            none_of q A.is_place (trees q.source (place_mem sources q A.is_place)) (inl (omega (arith, further, next, inside)))

  -- ---- the exporters of an item to a record of the new outermost scope

  abbrev exported : Tree → List RecordPair
  exported t = outermost_exports t.scopes

  abbrev pub goes_out : Tree → List ℕ → List ℕ → Outlet → Bool
  goes_out t r name o = (goes_to t (spot 0 r) o && is_some (outside_of (exported t) r)) && gives name o

  abbrev pub outgoing : List ℕ → List ℕ → Place → List Outlet
  outgoing r name p = map (outlet_in p) (filter (goes_out p.source.tree r name) (outlets p.source.tree))

  module _ (r name : List ℕ) where
    abbrev out_test : Outlet → Bool
    out_test o = goes_to U (spot 0 r) o && gives name o

    first_exports : (ss : List TreeScope) (s : TreeScope) → slice_get ss 0 ≡ Some s → s.exports ≡ outermost_exports ss
    unfolding outermost_exports
    first_exports [] s e = absurd (none-some s e)
    first_exports (x ∷ ss) s e = ap (λ (y : TreeScope). y.exports) (sym (same_Some x s e))

    its_own : (p : Place) → IsPlace sources p → (T : IsTree p.source.tree) → filter out_test (its_outlets p) ≡ outgoing r name p
    its_own p I T =
        filter_map out_test (outlet_in p) (outlets p.source.tree)
        ∙ ap (map (outlet_in p)) (filter_alike (λ o. out_test (outlet_in p o)) (goes_out p.source.tree r name) (outlets p.source.tree) (λ o m.
        ap (λ b. b && gives name o)
        (reached_out sources p I T.inward (exported p.source.tree) (first_exports p.source.tree.scopes) T.inner (suc o.from.scope) (suc (scopes_before p + o.from.scope)) r o.from
        (scoped_outlet p.source.tree T o m) (omega arith) (omega arith))))

    pub exporters_outside : exporters U (spot 0 r) name ≡ flat_map (outgoing r name) (places sources)
    unfolding exporters
    exporters_outside =
        ap (filter out_test) (outlets_are sources)
        ∙ (filter_flat out_test its_outlets (places sources)
        ∙ flat_alike (λ q. filter out_test (its_outlets q)) (outgoing r name) (places sources) (λ q m.
        let J = place_of sources q m in
        its_own q J (trees q.source (place_mem sources q J))))
