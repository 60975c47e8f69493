-- The instances of a linked image, and what it offers, have their form.
use Rattle.std.proofs.Common.{◌≡◌, ℕ, zero, suc, ◌+◌, ◌<◌, ◌≤◌, ◌⊎◌, inl, inr, true, false, List, [], ◌∷◌, ◌++◌, length, filter, take, append_assoc, Some, slice_get, refl, sym, ap, subst, ◌∙◌, arith}
use Rattle.std.specs.Prelude.{nat_le}
use Rattle.std.proofs.lemmas.Bool.{and_from, le-leb, lt-ltb, or_cases, false_from_ne_true, not_from_false}
use Rattle.std.proofs.lemmas.List.{append-nil, length-map}
use Rattle.std.proofs.lemmas.Option.{none-some, slice_get_within}
use Rattle.mesa_base.specs.Name.{IsName}
use Rattle.mesa_base.specs.declared.limits.TheConstants.{CONFIGURATION_DEPTH}
use Rattle.mesa_types.specs.declared.faces.Export.{Export}
use Rattle.mesa_types.specs.declared.faces.Shape.{Shape}
use Rattle.interface_records.specs.PlainTypes.{same_names}
use Rattle.file_forms.specs.Forms.{Form, FitEach}
use Rattle.file_forms.specs.Names.{name}
use Rattle.object_files.specs.declared.image.Instance.{Instance}
use Rattle.object_files.specs.declared.image.Offer.{Offer}
use Rattle.config_rules.specs.declared.tree.RecordPair.{RecordPair}
use Rattle.config_rules.specs.declared.tree.TreeInstance.{TreeInstance}
use Rattle.config_rules.specs.Exporters.{Outlet, outlets_of, outlets_from, outlets, goes_to}
use Rattle.config_rules.proofs.Members.{Mem, mem_split, flat_mem}
use Rattle.spelled_trees.specs.link_tables.specs.Linked.{kept, many_kept, instance_of, outermost_exports, in_outermost, offer_of, offered_as, offers}
use Rattle.bound_images.proofs.Elements.{all_mem, map_mem, mem_filter, get_map}
use Rattle.bound_images.proofs.Kept.{few_kept}
use Rattle.object_rules.proofs.AllFit.{there}
use Rattle.object_rules.specs.ImageForms.{path, has_path, instance_form, module_at, exports_in, offer}
use Rattle.object_rules.specs.Parts.{parts_of}
use Rattle.spelled_laws.proofs.Names.{name_fits}
use Rattle.object_rules.proofs.SameTypes.{names_same}
use Rattle.spelled_trees.specs.Paths.{PathCanBeSpelled}
use Rattle.linked_files.proofs.Known.{World, object_for, shape_spelled}
use Rattle.linked_files.proofs.Links.{each_of, modules, instances, kept_at, module_is, few_instances}

abbrev PathOf : TreeInstance → Type 0
PathOf x = PathCanBeSpelled x.path

-- ---- paths

path_fits : (p : List (List ℕ)) → PathCanBeSpelled p → path.fits p
unfolding path
path_fits p h =
    let few : length p ≤ 32 = h.few in (
      (omega (arith, few), and_from (nat_le 1 (length p)) (nat_le (length p) CONFIGURATION_DEPTH) (le-leb 1 (length p) h.some) (le-leb (length p) CONFIGURATION_DEPTH h.few)),
      (refl, each_of name IsName name_fits [] p h.names),
    )

-- a path that is there stands at some place
record Had (xs : List Instance) (p : List (List ℕ)) : Type 0 where
  place : ℕ
  its : Instance
  there : slice_get xs place ≡ Some its
  same : its.path ≡ p

had : (xs : List Instance) (p : List (List ℕ)) → has_path xs p ≡ true → Had xs p
unfolding has_path
had [] p h = absurd cc
had (x ∷ xs) p h = by (had xs p) (or_cases (same_names x.path p) (has_path xs p) h)
  where
    by : (has_path xs p ≡ true → Had xs p) → (same_names x.path p ≡ true) ⊎ (has_path xs p ≡ true) → Had (x ∷ xs) p
    by again (inl e) = record { place = zero; its = x; there = refl; same = names_same x.path p e }
    by again (inr e) = let r = again e in record { place = suc r.place; its = r.its; there = r.there; same = r.same }

-- ---- the number of an export is below the count

outlet_in : (i n s : ℕ) (rs : List (List ℕ)) (xs : List Export) (o : Outlet) → Mem o (outlets_of i n s rs xs) → (o.exporter.instance ≡ i) × (o.exporter.export < n + length xs)
unfolding outlets_of
outlet_in i n s [] xs o h = absurd h
outlet_in i n s (r ∷ rs) [] o h = absurd h
outlet_in i n s (r ∷ rs) (x ∷ xs) o (inl e) =
    (ap (λ (p : Outlet). p.exporter.instance) (sym e), let same = ap (λ (p : Outlet). p.exporter.export) (sym e) in omega (arith, same))
outlet_in i n s (r ∷ rs) (x ∷ xs) o (inr m) = let q = outlet_in i (suc n) s rs xs o m in (q.0, let less = q.1 in omega (arith, less))

record OutletIn (xs : List TreeInstance) (i : ℕ) (o : Outlet) : Type 0 where
  place : ℕ
  its : TreeInstance
  there : slice_get xs place ≡ Some its
  instance : o.exporter.instance ≡ i + place
  export : o.exporter.export < length its.shape.exports

outlet_at : (i : ℕ) (xs : List TreeInstance) (o : Outlet) → Mem o (outlets_from i xs) → OutletIn xs i o
unfolding outlets_from
outlet_at i [] o h = absurd h
outlet_at i (x ∷ xs) o h = by (outlet_at (suc i) xs o) (mem_split (outlets_of i 0 x.scope x.exports x.shape.exports) (outlets_from (suc i) xs) o h)
  where
    by : (Mem o (outlets_from (suc i) xs) → OutletIn xs (suc i) o) → Mem o (outlets_of i 0 x.scope x.exports x.shape.exports) ⊎ Mem o (outlets_from (suc i) xs) → OutletIn (x ∷ xs) i o
    by again (inl m) =
        let q = outlet_in i 0 x.scope x.exports x.shape.exports o m in
        let less = q.1 in
        record { place = 0; its = x; there = refl; instance = omega (arith, q.0); export = omega (arith, less) }
    by again (inr m) =
        let q = again m in
        record { place = suc q.place; its = q.its; there = q.there; instance = omega (arith, q.instance); export = q.export }

-- ---- elements whose form is told by those before

each_at : {A : Type 0} (each : List A → Form A) (before all : List A) → ((k : ℕ) (a : A) → slice_get all k ≡ Some a → (each (before ++ take k all)).fits a) → FitEach each before all
unfolding FitEach
each_at each before [] h = tt
each_at each before (a ∷ all) h = (
  subst (λ b. (each b).fits a) (append-nil before) (h zero a refl),
  each_at each (before ++ a ∷ []) all (λ k b e. subst (λ d. (each d).fits b) (sym (append_assoc before (a ∷ []) (take k all))) (h (suc k) b e)),
)

taken : {A : Type 0} (xs : List A) (k j : ℕ) (y : A) → slice_get (take k xs) j ≡ Some y → (j < k) × (slice_get xs j ≡ Some y)
taken xs zero j y e = absurd (none-some y e)
taken [] (suc k) j y e = absurd (none-some y e)
taken (x ∷ xs) (suc k) zero y e = (omega arith, e)
taken (x ∷ xs) (suc k) (suc j) y e = let r = taken xs k j y e in (let less = r.0 in omega (arith, less), r.1)

module _ (W : World) where
  -- ---- instances

  module_there : (j : ℕ) (x : TreeInstance) → slice_get W.tree.instances j ≡ Some x → many_kept W.tree.instances 0 x.component < length (modules W)
  module_there j x at =
      let O = object_for W j x at in
      slice_get_within (modules W) (many_kept W.tree.instances 0 x.component) (parts_of O.its) (kept_at W j x at O)

  pub few_modules : length (modules W) ≤ 1024
  few_modules =
      let kept_few = few_kept W.tree.instances 0 W.objects in
      let few = few_instances W in
      omega (arith, kept_few, few, length-map (kept W.tree.instances 0 W.objects) parts_of)

  new_path : (k : ℕ) (x : TreeInstance) → slice_get W.tree.instances k ≡ Some x → has_path (take k (instances W)) x.path ≡ false
  new_path k x at = false_from_ne_true (has_path (take k (instances W)) x.path) (λ e.
      let r = had (take k (instances W)) x.path e in
      let t = taken (instances W) k r.place r.its r.there in
      let y = get_map (instance_of W.tree.instances) W.tree.instances r.place r.its t.1 in
      let same : r.place ≡ k = W.can.spelled.named.differ r.place k y.0 x y.1 at (ap (λ (i : Instance). i.path) y.2 ∙ r.same) in
      let less = t.0 in
      omega (arith, same, less))

  instance_fits : (k : ℕ) (x : TreeInstance) → slice_get W.tree.instances k ≡ Some x → (instance_form (modules W) (take k (instances W))).fits (instance_of W.tree.instances x)
  unfolding instance_form
  instance_fits k x at =
      let less = module_there k x at in
      let few = few_modules in (
        (path_fits x.path (there PathOf W.tree.instances k x W.can.spelled.named.paths at), not_from_false (has_path (take k (instances W)) x.path) (new_path k x at)),
        (omega (arith, less, few), lt-ltb (many_kept W.tree.instances 0 x.component) (length (modules W)) less),
      )

  pub instances_fit : FitEach (instance_form (modules W)) [] (instances W)
  instances_fit = each_at (instance_form (modules W)) [] (instances W) (λ k i e.
      let r = get_map (instance_of W.tree.instances) W.tree.instances k i e in
      subst (instance_form (modules W) (take k (instances W))).fits r.2 (instance_fits k r.0 r.1))

  -- ---- offers

  offer_fits : (r : RecordPair) → IsName r.inside → (o : Outlet) → Mem o (outlets W.tree) → (offer (modules W) (instances W)).fits (offer_of r.inside o)
  unfolding offer
  offer_fits r named o m =
      let P = outlet_at 0 W.tree.instances o m in
      let O = object_for W P.place P.its P.there in
      let place : P.place ≡ o.exporter.instance = let e = P.instance in omega (arith, e) in
      let at : slice_get W.tree.instances o.exporter.instance ≡ Some P.its = subst (λ n. slice_get W.tree.instances n ≡ Some P.its) place P.there in
      let less = slice_get_within W.tree.instances o.exporter.instance P.its at in
      let few = few_instances W in
      let many = length-map W.tree.instances (instance_of W.tree.instances) in
      let export = P.export in
      let counted : length P.its.shape.exports < 4294967296 = (shape_spelled W P.its O).export_count in
      let Q = object_for W o.exporter.instance P.its at in
      let exports : exports_in (module_at (modules W) (slice_get (instances W) o.exporter.instance)) ≡ P.its.shape.exports =
      ap exports_in (module_is W o.exporter.instance P.its at Q) ∙ ap (λ (s : Shape). s.exports) Q.shape_is in (
        name_fits r.inside named,
        (
          (omega (arith, less, few), lt-ltb o.exporter.instance (length (instances W)) (omega (arith, less, many))),
          (
            omega (arith, export, counted),
            lt-ltb o.exporter.export (length (exports_in (module_at (modules W) (slice_get (instances W) o.exporter.instance))))
                (subst (λ es. o.exporter.export < length es) (sym exports) export),
          ),
        ),
      )

  pub offer_has_form : (o : Offer) → Mem o (offers W.tree) → (offer (modules W) (instances W)).fits o
  unfolding offers
  offer_has_form o m =
      let q = flat_mem (offered_as W.tree) (outermost_exports W.tree.scopes) o m in
      let p = map_mem (offer_of q.0.inside) (filter (goes_to W.tree (in_outermost q.0.inside)) (outlets W.tree)) o q.2 in
      let f = mem_filter (goes_to W.tree (in_outermost q.0.inside)) (outlets W.tree) p.0 p.1 in
      subst (offer (modules W) (instances W)).fits p.2
      (offer_fits q.0 (all_mem (λ (r : RecordPair). IsName r.inside) (outermost_exports W.tree.scopes) W.can.spelled.named.records q.0 q.1) p.0 f.0)
