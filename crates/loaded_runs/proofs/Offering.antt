-- What a built image offers for an item, and what goes out of its tree for it.
use Rattle.std.proofs.Common.{◌≡◌, ℕ, ◌+◌, inl, inr, Bool, true, false, not, ◌&&◌, ◌||◌, List, [], ◌∷◌, map, filter, flat_map, bytes_eq, nat_eq, Option, Some, None, slice_get, refl, sym, ap, subst, ◌∙◌, if◌then◌else◌}
use Rattle.std.proofs.lemmas.Option.{none-some}
use Rattle.std.proofs.lemmas.Slice.Eq.{bytes_eq-Decides}
use Rattle.mesa_types.specs.declared.faces.Export.{Export}
use Rattle.mesa_types.specs.declared.faces.Shape.{Shape}
use Rattle.interface_records.specs.declared.wanted.Wanted.{Wanted as Entry}
use Rattle.object_files.specs.declared.image.Image.{Image}
use Rattle.object_files.specs.declared.image.Offer.{Offer}
use Rattle.config_rules.specs.declared.tree.RecordPair.{RecordPair}
use Rattle.config_rules.specs.declared.tree.Tree.{Tree}
use Rattle.config_rules.specs.declared.tree.TreeInstance.{TreeInstance}
use Rattle.config_rules.specs.Exporters.{Outlet, outlets, is_given, goes_to}
use Rattle.config_rules.specs.Outgoing.{export_in, export_of}
use Rattle.config_rules.proofs.Entries.{AllFound, all_found}
use Rattle.config_rules.proofs.Members.{Mem, map_get}
use Rattle.bound_images.specs.link_tables.specs.Linked.{outermost_exports, in_outermost, offer_of, offered_as as offered_under, offers, image_of, instance_of}
use Rattle.bound_images.proofs.Modules.{World, linked}
use Rattle.bound_images.proofs.Standing.{object_for}
use Rattle.loader_rules.specs.Exporters.{module_at, export_at, path_at, Offered, offered_as, offered_by, gives_item, has_stamp}
use Rattle.loader_rules.specs.Exporters as loader
use Rattle.loader_rules.specs.LoadFaults.{is_odd, is_named}
use Rattle.loader_rules.specs.Parts.{part, image_name, instances_before}
use Rattle.loader_rules.specs.Wanted.{is_built_in}
use Rattle.loader_rules.proofs.Lists.{mem_filter, filter_mem, mem_flat}
use Rattle.loaded_runs.proofs.Lists.{filter_flat, filter_map, filter_alike, filter_none, filter_both, flat_alike, flat_map_of, flat_flat, flat_ones, mem_map}

-- ---- an export is where its numbers say

found_mem : (t : Tree) (os : List Outlet) → AllFound t os → (o : Outlet) → Mem o os → export_of t o.exporter ≡ Some o.gives
found_mem t [] h o m = absurd m
found_mem t (x ∷ os) h o (inl e) = subst (λ (y : Outlet). export_of t y.exporter ≡ Some y.gives) e h.0
found_mem t (x ∷ os) h o (inr m) = found_mem t os h.1 o m

pub record ExportAt (t : Tree) (o : Outlet) : Type 0 where
  pub its : TreeInstance
  pub there : slice_get t.instances o.exporter.instance ≡ Some its
  pub gives : slice_get its.shape.exports o.exporter.export ≡ Some o.gives

pub export_at_its : (t : Tree) (o : Outlet) → Mem o (outlets t) → ExportAt t o
export_at_its t o m = by (slice_get t.instances o.exporter.instance) refl (found_mem t (outlets t) (all_found t) o m)
  where
    by : (x : Option TreeInstance) → slice_get t.instances o.exporter.instance ≡ x → export_in x o.exporter.export ≡ Some o.gives → ExportAt t o
    by None e h = absurd (none-some o.gives h)
    by (Some x) e h = record { its = x; there = e; gives = h }

module _ (W : World) where
  abbrev exported : List RecordPair
  exported = outermost_exports W.tree.scopes

  abbrev going : List ℕ → List Outlet
  going r = filter (goes_to W.tree (in_outermost r)) (outlets W.tree)

  export_is : (r : List ℕ) (o : Outlet) → Mem o (outlets W.tree) → loader.export_of (linked W) (offer_of r o) ≡ Some o.gives
  unfolding image_of
  export_is r o m =
      let X = export_at_its W.tree o m in
      let O = object_for W o.exporter.instance X.its X.there in
      ap (λ x. export_at (module_at (linked W) x) o.exporter.export) (map_get (instance_of W.tree.instances) W.tree.instances o.exporter.instance X.its X.there)
      ∙ (ap (λ x. export_at x o.exporter.export) O.there
      ∙ (ap (λ (s : Shape). slice_get s.exports o.exporter.export) (O.is.shape ∙ O.its.shape) ∙ X.gives))

  module _ (before : List Image) where
    abbrev pub offered_in : RecordPair → Outlet → Offered
    offered_in r o = record {
      record_name = r.inside;
      instance = instances_before (part before (linked W)) + o.exporter.instance;
      path = image_name (part before (linked W)) ∷ path_at (slice_get (linked W).instances o.exporter.instance);
      gives = o.gives;
    }

    abbrev by_record : RecordPair → List Offered
    by_record r = map (offered_in r) (going r.inside)

    abbrev one_by_one : Offer → List Offered
    one_by_one x = offered_as (part before (linked W)) x (loader.export_of (linked W) x)

    offered_are : offered_by (part before (linked W)) ≡ flat_map by_record exported
    unfolding image_of offers
    offered_are =
        flat_flat one_by_one (offered_under W.tree) exported
        ∙ flat_alike (λ r. flat_map one_by_one (offered_under W.tree r)) by_record exported (λ r k.
        flat_map_of one_by_one (offer_of r.inside) (going r.inside)
        ∙ flat_ones (λ o. one_by_one (offer_of r.inside o)) (offered_in r) (going r.inside) (λ o m.
        ap (offered_as (part before (linked W)) (offer_of r.inside o)) (export_is r.inside o (mem_filter (goes_to W.tree (in_outermost r.inside)) (outlets W.tree) o m).0)))

  -- ---- of these the ones for a wanted item

  abbrev NoneOdd : Type 0
  NoneOdd = (x : Offer) → Mem x (linked W).offered → is_odd (linked W) x ≡ false

  module _ (e : Entry) where
    abbrev gives : Outlet → Bool
    gives o = is_given e.item.name o.gives.face o.gives.given

    abbrev pub under_entry : Outlet → Bool
    under_entry o = bytes_eq o.gives.face.name e.face && nat_eq o.gives.face.stamp e.stamp

    abbrev keeps : Outlet → Bool
    keeps o = (goes_to W.tree (in_outermost e.face) o && gives o) && under_entry o

    abbrev pub kept_outlets : List Outlet
    kept_outlets = filter keeps (outlets W.tree)

    -- an export that goes out is called as its record
    named_so : NoneOdd → (r : RecordPair) → Mem r exported → (o : Outlet) → Mem o (going r.inside) → bytes_eq r.inside o.gives.face.name ≡ true
    unfolding image_of offers
    named_so none r k o m =
        let x = offer_of r.inside o in
        let among : Mem x (linked W).offered = mem_flat (offered_under W.tree) exported r x k (mem_map (offer_of r.inside) (going r.inside) o m) in
        let is : loader.export_of (linked W) x ≡ Some o.gives = export_is r.inside o (mem_filter (goes_to W.tree (in_outermost r.inside)) (outlets W.tree) o m).0 in
        by (is_built_in r.inside) (bytes_eq r.inside o.gives.face.name) (sym (ap (λ (y : Option Export). is_built_in r.inside || not (is_named r.inside y)) is) ∙ none x among)
      where
        by : (a b : Bool) → a || not b ≡ false → b ≡ true
        by true b h = absurd cc
        by false true h = refl
        by false false h = absurd cc

    module _ (none : NoneOdd) (before : List Image) where
      abbrev offers_it : Offered → Bool
      offers_it x = gives_item e x && has_stamp e x

      abbrev for_record : RecordPair → Outlet → Bool
      for_record r o = goes_to W.tree (in_outermost r.inside) o && ((bytes_eq r.inside e.face && gives o) && nat_eq o.gives.face.stamp e.stamp)

      same_test : (g a s n : Bool) → (g ≡ true → n ≡ true) → g && ((true && a) && s) ≡ (g && a) && (n && s)
      same_test false a s n h = refl
      same_test true false s n h = refl
      same_test true true s n h = ap (λ b. b && s) (sym (h refl))

      never : (g a s : Bool) → g && ((false && a) && s) ≡ false
      never false a s = refl
      never true a s = refl

      picked : (r : RecordPair) → Mem r exported → map (offered_in before r) (filter (for_record r) (outlets W.tree)) ≡ (if bytes_eq r.inside e.face then map (offered_in before r) kept_outlets else [])
      picked r k = by (bytes_eq r.inside e.face) refl
        where
          called : (o : Outlet) → Mem o (outlets W.tree) → r.inside ≡ e.face → goes_to W.tree (in_outermost e.face) o ≡ true → bytes_eq o.gives.face.name e.face ≡ true
          called o m s g =
              let h = named_so none r k o (filter_mem (goes_to W.tree (in_outermost r.inside)) (outlets W.tree) o m (subst (λ n. goes_to W.tree (in_outermost n) o ≡ true) (sym s) g)) in
              (bytes_eq-Decides o.gives.face.name e.face).1 (sym ((bytes_eq-Decides r.inside o.gives.face.name).0 h) ∙ s)

          by : (b : Bool) → bytes_eq r.inside e.face ≡ b → map (offered_in before r) (filter (for_record r) (outlets W.tree)) ≡ (if b then map (offered_in before r) kept_outlets else [])
          by true is =
              let s = (bytes_eq-Decides r.inside e.face).0 is in
              ap (map (offered_in before r)) (filter_alike (for_record r) keeps (outlets W.tree) (λ o m.
              (λ j. goes_to W.tree (in_outermost (s j)) o && ((is j && gives o) && nat_eq o.gives.face.stamp e.stamp))
              ∙ same_test (goes_to W.tree (in_outermost e.face) o) (gives o) (nat_eq o.gives.face.stamp e.stamp) (bytes_eq o.gives.face.name e.face) (called o m s)))
          by false is =
              ap (map (offered_in before r)) (filter_none (for_record r) (outlets W.tree) (λ o m.
              ap (λ b. goes_to W.tree (in_outermost r.inside) o && ((b && gives o) && nat_eq o.gives.face.stamp e.stamp)) is
              ∙ never (goes_to W.tree (in_outermost r.inside) o) (gives o) (nat_eq o.gives.face.stamp e.stamp)))

      pub offered_for : filter (has_stamp e) (filter (gives_item e) (offered_by (part before (linked W))))
          ≡ flat_map (λ r. if bytes_eq r.inside e.face then map (offered_in before r) kept_outlets else []) exported
      offered_for =
          filter_both (has_stamp e) (gives_item e) (offered_by (part before (linked W)))
          ∙ (ap (filter offers_it) (offered_are before)
          ∙ (filter_flat offers_it (by_record before) exported
          ∙ flat_alike (λ r. filter offers_it (by_record before r)) (λ r. if bytes_eq r.inside e.face then map (offered_in before r) kept_outlets else []) exported (λ r k.
          filter_map offers_it (offered_in before r) (going r.inside)
          ∙ (ap (map (offered_in before r)) (filter_both (λ o. offers_it (offered_in before r o)) (goes_to W.tree (in_outermost r.inside)) (outlets W.tree))
          ∙ picked r k))))
