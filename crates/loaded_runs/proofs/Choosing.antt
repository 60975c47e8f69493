-- The lone exporter of a wanted item among the images before is the lone one in the new tree.
use Rattle.std.proofs.Common.{◌≡◌, ℕ, zero, suc, ◌+◌, ◌⊎◌, inl, inr, Bool, true, false, ◌&&◌, List, [], ◌∷◌, ◌++◌, map, filter, flat_map, bytes_eq, nat_eq, Option, Some, None, is_some, slice_get, refl, sym, ap, subst, ◌∙◌, if◌then◌else◌}
use Rattle.std.proofs.lemmas.List.{map-append}
use Rattle.std.proofs.lemmas.Option.{none-some, same_Some}
use Rattle.std.proofs.lemmas.Slice.Eq.{bytes_eq-Decides}
use Rattle.interface_records.specs.declared.wanted.Wanted.{Wanted as Entry}
use Rattle.object_files.specs.declared.image.Image.{Image}
use Rattle.object_files.specs.declared.image.Offer.{Offer}
use Rattle.config_rules.specs.declared.tree.RecordPair.{RecordPair}
use Rattle.config_rules.specs.declared.tree.Tree.{Tree}
use Rattle.config_rules.specs.declared.tree.TreeScope.{TreeScope}
use Rattle.config_rules.specs.Exporters.{Spot, Step, Stays, Goes, Leaves, outside_of, stepped, step_in, step, Outlet, outlets, is_given, goes_to, exporters}
use Rattle.config_rules.proofs.Members.{Mem}
use Rattle.bound_images.specs.link_tables.specs.Linked.{outermost_exports}
use Rattle.bound_images.proofs.Elements.{all_mem}
use Rattle.loader_rules.specs.Exporters.{Offered, offered_by, gives_item, has_stamp, stamped, all_offered}
use Rattle.loader_rules.specs.Exporters as loader
use Rattle.loader_rules.specs.LoadFaults.{is_odd}
use Rattle.loader_rules.specs.Parts.{Part, parts}
use Rattle.loader_rules.proofs.Lists.{get_mem}
use Rattle.loaded_runs.specs.Outermost.{HasOutermost, passed_by, passed_within, passed}
use Rattle.loaded_runs.specs.Sources.{NoneLater}
use Rattle.loaded_runs.specs.Together.{Source, Place, place, places_behind, places}
use Rattle.loaded_runs.proofs.Known.{linked_of, linked_images, Loading, joined, part_of, parts_are, tree_is, world_at, none_odd, instances_alike}
use Rattle.loaded_runs.proofs.Lists.{filter_flat, filter_map, filter_alike, filter_none, filter_both, flat_map_of, flat_none, all_flat_none, mem_map}
use Rattle.loaded_runs.proofs.Offering.{offered_in, kept_outlets, offered_for}
use Rattle.loaded_runs.proofs.Outlets.{outlet_in, goes_out, outgoing, exporters_outside}
use Rattle.loaded_runs.proofs.Places.{IsPlace, flat_about, before_place, place_mem, after_mem, place_of}
use Rattle.loaded_runs.proofs.Scopes.{spot}
use Rattle.loaded_runs.proofs.Thin.{Thin, thin_flat, copies}

-- ---- a record by which an import passes the outermost scope is imported there

record ImportedThere (t : Tree) (out : List ℕ) : Type 0 where
  its : TreeScope
  first : slice_get t.scopes 0 ≡ Some its
  imported : is_some (outside_of its.imports out) ≡ true

left_by : (o : Option ℕ) (x : Option (List ℕ)) → stepped o x ≡ Leaves → (o ≡ None) × (is_some x ≡ true)
unfolding stepped
left_by o None f = absurd (let g : Stays ≡ Leaves = f in cc)
left_by None (Some x) f = (refl, refl)
left_by (Some n) (Some x) f = absurd (let g : Goes (spot n x) ≡ Leaves = f in cc)

leaves_at : (t : Tree) → HasOutermost t → (a : Spot) → step (λ s. s.imports) t a ≡ Leaves → ImportedThere t a.record_name
unfolding step_in
leaves_at t H a e = by (slice_get t.scopes a.scope) refl e
  where
    at : (k : ℕ) → a.scope ≡ k → (s : TreeScope) → slice_get t.scopes a.scope ≡ Some s → (s.around ≡ None) × (is_some (outside_of s.imports a.record_name) ≡ true) → ImportedThere t a.record_name
    at zero k s there w = record { its = s; first = ap (slice_get t.scopes) (sym k) ∙ there; imported = w.1 }
    at (suc i) k s there w = let n = H.inner i s (ap (slice_get t.scopes) (sym k) ∙ there) in absurd (none-some n.0 (sym w.0 ∙ n.1))

    by : (o : Option TreeScope) → slice_get t.scopes a.scope ≡ o → step_in (λ s. s.imports) a.record_name o ≡ Leaves → ImportedThere t a.record_name
    by None f g = absurd (let h : Stays ≡ Leaves = g in cc)
    by (Some s) f g = at a.scope refl s f (left_by s.around (outside_of s.imports a.record_name) g)

passes_at : (t : Tree) → HasOutermost t → (m : ℕ) (a : Spot) (out : List ℕ) → passed_within m t a ≡ Some out → ImportedThere t out
unfolding passed_within passed_by
passes_at t H zero a out e = absurd (none-some out e)
passes_at t H (suc m) a out e = by (λ b f. passes_at t H m b out f) (step (λ s. s.imports) t a) refl e
  where
    by : ((b : Spot) → passed_within m t b ≡ Some out → ImportedThere t out) → (s : Step) → step (λ x. x.imports) t a ≡ s → passed_by a s (λ b. passed_within m t b) ≡ Some out → ImportedThere t out
    by again Stays f g = absurd (none-some out g)
    by again (Goes b) f g = again b g
    by again Leaves f g = subst (ImportedThere t) (same_Some a.record_name out g) (leaves_at t H a f)

inside_there : (rs : List RecordPair) (r : List ℕ) → is_some (outside_of rs r) ≡ true → (p : RecordPair) × Mem p rs × (p.inside ≡ r)
unfolding outside_of
inside_there [] r e = absurd cc
inside_there (p ∷ rs) r e = by (bytes_eq p.inside r) refl (inside_there rs r) e
  where
    by : (b : Bool) → bytes_eq p.inside r ≡ b → (is_some (outside_of rs r) ≡ true → (q : RecordPair) × Mem q rs × (q.inside ≡ r)) → is_some (if b then Some p.outside else outside_of rs r) ≡ true
        → (q : RecordPair) × ((p ≡ q) ⊎ Mem q rs) × (q.inside ≡ r)
    by true f again g = (p, inl refl, (bytes_eq-Decides p.inside r).0 f)
    by false f again g = let q = again g in (q.0, inr q.1, q.2)

first_exports : (ss : List TreeScope) (s : TreeScope) → slice_get ss 0 ≡ Some s → outermost_exports ss ≡ s.exports
unfolding outermost_exports
first_exports [] s e = absurd (none-some s e)
first_exports (x ∷ ss) s e = ap (λ (y : TreeScope). y.exports) (same_Some x s e)

-- so it is not exported there
pub not_exported : (t : Tree) → HasOutermost t → (a : Spot) (out : List ℕ) → passed t a ≡ Some out → is_some (outside_of (outermost_exports t.scopes) out) ≡ false
not_exported t H a out e = by (is_some (outside_of (outermost_exports t.scopes) out)) refl
  where
    by : (b : Bool) → is_some (outside_of (outermost_exports t.scopes) out) ≡ b → b ≡ false
    by false f = refl
    by true f =
        let M = passes_at t H (suc a.scope) a out e in
        let p = inside_there M.its.imports out M.imported in
        let q = inside_there M.its.exports out (ap (λ rs. is_some (outside_of rs out)) (sym (first_exports t.scopes M.its M.first)) ∙ f) in
        let i = get_mem M.its.imports p.0 p.1 in
        let o = get_mem M.its.exports q.0 q.1 in
        absurd (H.apart M.its M.first i.0 o.0 p.0 q.0 i.1 o.1 (p.2 ∙ sym q.2))

-- ---- what later images do not offer

later_none : (before : List Image) (i : Image) (behind : List Image) → NoneLater (before ++ i ∷ behind) → (e : Entry) → Mem e i.wanted → loader.exporters behind e ≡ []
unfolding NoneLater
later_none [] i behind h e m = all_mem (λ (x : Entry). loader.exporters behind x ≡ []) i.wanted h.0 e m
later_none (x ∷ before) i behind h e m = later_none before i behind h.1 e m

source_there : (before sources : List Source) (s : Source) → Mem s sources → (q : Place) × Mem q (places_behind before sources) × (q.source ≡ s)
unfolding places_behind
source_there before [] s m = absurd m
source_there before (x ∷ sources) s (inl e) = (place before x, inl refl, e)
source_there before (x ∷ sources) s (inr m) = let r = source_there (before ++ x ∷ []) sources s m in (r.0, inr r.1, r.2)

source_of : (before sources : List Source) (q : Place) → Mem q (places_behind before sources) → Mem q.source sources
unfolding places_behind
source_of before [] q m = absurd m
source_of before (x ∷ sources) q (inl e) = inl (ap (λ (r : Place). r.source) e)
source_of before (x ∷ sources) q (inr m) = inr (source_of (before ++ x ∷ []) sources q m)

-- ---- an exporter of the new tree, and what is offered

abbrev pub IsOffered : Outlet → Offered → Type 0
IsOffered o x = (o.exporter.instance ≡ x.instance) × (o.gives ≡ x.gives)

abbrev NoneOdd : Source → Type 0
NoneOdd s = (x : Offer) → Mem x (linked_of s).offered → is_odd (linked_of s) x ≡ false

module _ (L : Loading) (e : Entry) where
  abbrev under_it : Outlet → Bool
  under_it o = bytes_eq o.gives.face.name e.face && nat_eq o.gives.face.stamp e.stamp

  abbrev gives_it : Outlet → Bool
  gives_it o = is_given e.item.name o.gives.face o.gives.given

  abbrev its_own : Tree → List Outlet
  its_own t = filter (λ o. (goes_to t (spot 0 e.face) o && gives_it o) && under_it o) (outlets t)

  -- those that go out of a tree
  abbrev let_out : Tree → List Outlet
  let_out t = if is_some (outside_of (outermost_exports t.scopes) e.face) then its_own t else []

  abbrev goes_for : Place → List Outlet
  goes_for q = filter under_it (outgoing L.sources (tree_is L) e.face e.item.name q)

  abbrev offers_for : Part → List Offered
  offers_for x = filter (has_stamp e) (filter (gives_item e) (offered_by x))

  simpler : (g a u : Bool) → ((g && true) && a) && u ≡ (g && a) && u
  simpler true a u = refl
  simpler false a u = refl

  never : (g a u : Bool) → ((g && false) && a) && u ≡ false
  never true a u = refl
  never false a u = refl

  goes_by : (t : Tree) (b : Bool) → filter (λ o. ((goes_to t (spot 0 e.face) o && b) && gives_it o) && under_it o) (outlets t) ≡ (if b then its_own t else [])
  goes_by t true =
      filter_alike (λ o. ((goes_to t (spot 0 e.face) o && true) && gives_it o) && under_it o) (λ o. (goes_to t (spot 0 e.face) o && gives_it o) && under_it o) (outlets t)
      (λ o m. simpler (goes_to t (spot 0 e.face) o) (gives_it o) (under_it o))
  goes_by t false =
      filter_none (λ o. ((goes_to t (spot 0 e.face) o && false) && gives_it o) && under_it o) (outlets t) (λ o m. never (goes_to t (spot 0 e.face) o) (gives_it o) (under_it o))

  goes_are : (q : Place) → goes_for q ≡ map (outlet_in q) (let_out q.source.tree)
  goes_are q =
      let t = q.source.tree in
      filter_map under_it (outlet_in q) (filter (goes_out L.sources (tree_is L) t e.face e.item.name) (outlets t))
      ∙ ap (map (outlet_in q))
      (filter_both under_it (goes_out L.sources (tree_is L) t e.face e.item.name) (outlets t) ∙ goes_by t (is_some (outside_of (outermost_exports t.scopes) e.face)))

  -- of one tree
  thin_here : (q : Place) → Mem q.source L.sources → NoneOdd q.source → Thin IsOffered (goes_for q) (offers_for (part_of q))
  thin_here q m odd =
      let W = world_at L q.source m in
      subst (λ xs. Thin IsOffered xs (offers_for (part_of q))) (sym (goes_are q))
      (subst (Thin IsOffered (map (outlet_in q) (let_out q.source.tree))) (sym (offered_for W e odd (linked_images q.before)))
      (copies IsOffered e.face (outlet_in q) (offered_in W (linked_images q.before)) (λ r o. (ap (λ n. n + o.exporter.instance) (sym (instances_alike q.before)), refl))
      (kept_outlets W e) (outermost_exports q.source.tree.scopes)))

  module _ (p : Place) (I : IsPlace L.sources p) where
    -- those before
    thin_before : Thin IsOffered (flat_map goes_for (places p.before)) (stamped e (loader.exporters (linked_images p.before) e))
    unfolding loader.exporters all_offered
    thin_before =
        subst (Thin IsOffered (flat_map goes_for (places p.before))) (sym all)
        (thin_flat IsOffered goes_for (λ q. offers_for (part_of q)) (places p.before) (λ q m.
        let K = before_place L.sources p q I (place_of p.before q m) in
        thin_here q (place_mem L.sources q K) (none_odd L q K)))
      where
        all : stamped e (loader.exporters (linked_images p.before) e) ≡ flat_map (λ q. offers_for (part_of q)) (places p.before)
        all =
            ap (filter (has_stamp e)) (filter_flat (gives_item e) offered_by (parts (linked_images p.before)))
            ∙ (filter_flat (has_stamp e) (λ x. filter (gives_item e) (offered_by x)) (parts (linked_images p.before))
            ∙ (ap (flat_map offers_for) (parts_are [] p.before) ∙ flat_map_of offers_for part_of (places p.before)))

    -- those behind
    module _ (wanted : Mem e (linked_of p.source).wanted) where
      none_offered : loader.exporters (linked_images I.behind) e ≡ []
      none_offered =
          later_none (linked_images p.before) (linked_of p.source) (linked_images I.behind)
          (subst NoneLater (ap linked_images I.are ∙ map-append linked_of p.before (p.source ∷ I.behind)) L.none_later) e wanted

      none_let_out : (q : Place) → Mem q (places I.behind) → Mem q.source L.sources → NoneOdd q.source → let_out q.source.tree ≡ []
      unfolding loader.exporters all_offered
      none_let_out q m s odd =
          unmapped (let_out q.source.tree)
          (sym (goes_are q) ∙ (thin_here q s odd).none (ap (filter (has_stamp e)) (flat_none (λ x. filter (gives_item e) (offered_by x)) (parts (linked_images I.behind)) all (part_of q) among)))
        where
          all : flat_map (λ x. filter (gives_item e) (offered_by x)) (parts (linked_images I.behind)) ≡ []
          all = sym (filter_flat (gives_item e) offered_by (parts (linked_images I.behind))) ∙ none_offered

          among : Mem (part_of q) (parts (linked_images I.behind))
          among = subst (λ ps. Mem (part_of q) ps) (sym (parts_are [] I.behind)) (mem_map part_of (places I.behind) q m)

          unmapped : (xs : List Outlet) → map (outlet_in q) xs ≡ [] → xs ≡ []
          unmapped [] f = refl
          unmapped (x ∷ xs) f = absurd cc

      none_behind : flat_map goes_for (places_behind (p.before ++ p.source ∷ []) I.behind) ≡ []
      none_behind = all_flat_none goes_for (places_behind (p.before ++ p.source ∷ []) I.behind) (λ q m.
          let A = after_mem L.sources p q I m in
          let r = source_there [] I.behind q.source (source_of (p.before ++ p.source ∷ []) I.behind q m) in
          goes_are q
          ∙ ap (map (outlet_in q)) (subst (λ (s : Source). let_out s.tree ≡ []) r.2
          (none_let_out r.0 r.1 (subst (λ (s : Source). Mem s L.sources) (sym r.2) (place_mem L.sources q A.is_place)) (subst NoneOdd (sym r.2) (none_odd L q A.is_place)))))

      -- the lone exporter
      pub record OneGoes (its : Offered) : Type 0 where
        pub outlet : Outlet
        pub alone : filter under_it (exporters (joined L) (spot 0 e.face) e.item.name) ≡ outlet ∷ []
        pub is_offered : IsOffered outlet its

      pub one_goes : (its : Offered) → is_some (outside_of (outermost_exports p.source.tree.scopes) e.face) ≡ false → stamped e (loader.exporters (linked_images p.before) e) ≡ its ∷ [] → OneGoes its
      one_goes its own alone =
          let o = thin_before.one its alone in
          let mine : goes_for p ≡ [] = goes_are p ∙ ap (λ b. map (outlet_in p) (if b then its_own p.source.tree else [])) own in
          record {
            outlet = o.0;
            alone =
                ap (filter under_it) (exporters_outside L.sources (tree_is L) e.face e.item.name)
                ∙ (filter_flat under_it (outgoing L.sources (tree_is L) e.face e.item.name) (places L.sources)
                ∙ (flat_about goes_for L.sources p I ∙ (λ j. o.1 j ++ (mine j ++ none_behind j))));
            is_offered = o.2;
          }
