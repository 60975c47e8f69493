-- The links of a linked image have their form.
use Rattle.std.proofs.Common.{◌≡◌, ℕ, zero, suc, ◌+◌, ◌<◌, ◌≤◌, true, false, List, [], ◌∷◌, ◌++◌, length, map, flat_map, All, Some, slice_get, refl, sym, ap, subst, ◌∙◌, arith}
use Rattle.std.proofs.lemmas.Bool.{lt-ltb}
use Rattle.std.proofs.lemmas.List.{length-append, length-map}
use Rattle.std.proofs.lemmas.Option.{slice_get_within}
use Rattle.mesa_types.specs.declared.faces.Export.{Export}
use Rattle.mesa_types.specs.declared.faces.Pair.{Pair}
use Rattle.mesa_types.specs.declared.faces.Shape.{Shape}
use Rattle.interface_records.specs.declared.wanted.Wanted.{Wanted as Entry}
use Rattle.file_forms.specs.Forms.{Form, FitEach}
use Rattle.object_files.specs.declared.image.Instance.{Instance}
use Rattle.config_rules.specs.Bindings.{binding_of}
use Rattle.config_rules.specs.declared.tree.TreeInstance.{TreeInstance}
use Rattle.config_rules.specs.Resolves.{Resolution, Left, Bound, NoExporter, Twice, OtherInterface, OtherStamp, Want, wants_in, wants, is_bad}
use Rattle.config_rules.proofs.Members.{Mem, mem_get, map_get}
use Rattle.spelled_trees.specs.link_tables.specs.Linked.{has_instance, kept, many_kept, instance_of, entry_of, wanted_of, link_by, link_of, links_of}
use Rattle.bound_images.proofs.Chosen.{is_bound, outlet_from, given_there}
use Rattle.bound_images.proofs.Elements.{all_mem, get_map}
use Rattle.bound_images.proofs.Kept.{mem_has, kept_there}
use Rattle.object_rules.specs.ImageForms.{needed_by_import, needed_by, module_at, is_given, wanted_link, bound_link, link, link_table, link_tables}
use Rattle.object_rules.specs.ModuleForms.{gives_item, given, export_form, module_form}
use Rattle.object_rules.specs.Parts.{ModulePart, parts_of}
use Rattle.object_rules.proofs.AllFit.{all_fit}
use Rattle.linked_files.proofs.Entries.{left_to}
use Rattle.linked_files.proofs.Known.{World, ObjectOf, object_for, face_known, face_of_export, Known, known, among_all, same_item}
use Rattle.linked_files.proofs.Needs.{needs_are}

-- ---- elements whose form is told by their number

by_number : {A : Type 0} (f : ℕ → Form A) (before all : List A) → ((k : ℕ) (a : A) → slice_get all k ≡ Some a → (f (length before + k)).fits a) → FitEach (λ b. f (length b)) before all
unfolding FitEach
by_number f before [] h = tt
by_number f before (a ∷ all) h = (
  subst (λ n. (f n).fits a) (none_added (length before)) (h zero a refl),
  by_number f (before ++ a ∷ []) all (λ k b e. subst (λ n. (f n).fits b) (longer k) (h (suc k) b e)),
)
  where
    none_added : (n : ℕ) → n + 0 ≡ n
    none_added n = omega arith

    longer : (k : ℕ) → length before + suc k ≡ length (before ++ a ∷ []) + k
    longer k = omega (arith, length-append before (a ∷ []))

pub numbered : {A : Type 0} (f : ℕ → Form A) (all : List A) → ((k : ℕ) (a : A) → slice_get all k ≡ Some a → (f k).fits a) → FitEach (λ b. f (length b)) [] all
numbered f all h = by_number f [] all (λ k a e. subst (λ n. (f n).fits a) (from_none k) (h k a e))
  where
    from_none : (n : ℕ) → n ≡ 0 + n
    from_none n = omega arith

-- elements that all have one form
pub each_of : {A : Type 0} (f : Form A) (P : A → Type 0) → ((a : A) → P a → f.fits a) → (before all : List A) → All P all → FitEach (λ _. f) before all
unfolding FitEach
each_of f P put before [] h = tt
each_of f P put before (a ∷ all) h = (put a (h zero a (omega arith)), each_of f P put (before ++ a ∷ []) all (λ k d less. h (suc k) d (omega (arith, less))))

module _ (W : World) where
  abbrev pub modules : List ModulePart
  modules = map parts_of (kept W.tree.instances 0 W.objects)

  abbrev pub instances : List Instance
  instances = map (instance_of W.tree.instances) W.tree.instances

  abbrev pub wanted : List Entry
  wanted = wanted_of (wants W.tree)

  -- ---- the module of an instance

  pub instance_at : (j : ℕ) (x : TreeInstance) → slice_get W.tree.instances j ≡ Some x → slice_get instances j ≡ Some (instance_of W.tree.instances x)
  instance_at j x at = map_get (instance_of W.tree.instances) W.tree.instances j x at

  pub kept_at : (j : ℕ) (x : TreeInstance) → slice_get W.tree.instances j ≡ Some x → (O : ObjectOf W x)
      → slice_get modules (many_kept W.tree.instances 0 x.component) ≡ Some (parts_of O.its)
  kept_at j x at O =
      map_get parts_of (kept W.tree.instances 0 W.objects) (many_kept W.tree.instances 0 x.component) O.its
      (kept_there W.tree.instances 0 W.objects x.component O.its O.there
      (ap (has_instance W.tree.instances) {x = 0 + x.component} {y = x.component} (omega arith) ∙ mem_has W.tree.instances x (mem_get W.tree.instances j x at)))

  pub module_is : (j : ℕ) (x : TreeInstance) → slice_get W.tree.instances j ≡ Some x → (O : ObjectOf W x) → module_at modules (slice_get instances j) ≡ Some (parts_of O.its)
  module_is j x at O = ap (module_at modules) (instance_at j x at) ∙ kept_at j x at O

  -- ---- what an object gives

  export_fits : (x : TreeInstance) (O : ObjectOf W x) (e : Export) → Mem e x.shape.exports → (export_form 2 (parts_of O.its).signals (parts_of O.its).procedures).fits e
  unfolding module_form
  export_fits x O e m =
      let P = (export_form 2 (parts_of O.its).signals (parts_of O.its).procedures).fits in
      all_mem P O.its.shape.exports
      (all_fit P (λ _. export_form 2 (parts_of O.its).signals (parts_of O.its).procedures) (λ _ y f. f) [] O.its.shape.exports O.fits.1.1.1.1.1.1.1.1) e
      (subst (λ (s : Shape). Mem e s.exports) (sym O.shape_is) m)

  abbrev Gives : ModulePart → Export → Pair → Type 0
  Gives m e p = (p.number < 4294967296) × (gives_item m.signals m.procedures (slice_get e.face.items p.item) p.number ≡ true)

  pair_fits : (m : ModulePart) (e : Export) → (export_form 2 m.signals m.procedures).fits e → (p : Pair) → Mem p e.given → Gives m e p
  unfolding export_form given
  pair_fits m e h p is = all_mem (Gives m e) e.given (all_fit (Gives m e) (given m.signals m.procedures e.face.items) (λ before q f. f.1) [] e.given h.1.1.1) p is

  -- ---- a link to an instance

  record BoundTo (w : Want) (j q : ℕ) : Type 0 where
    instance : j < length W.tree.instances
    number : q < 4294967296
    alike : is_given (Some (entry_of w)) (module_at modules (slice_get instances j)) q ≡ true

  bound_to : (w : Want) → Known W w → (j q : ℕ) → w.answer ≡ Bound j q → BoundTo w j q
  bound_to w K j q e =
      let B = is_bound W.tree K.want.spot w.face w.item.name j q (sym K.want.resolves ∙ e) in
      let P = outlet_from 0 W.tree.instances B.outlet B.is in
      let place : P.place ≡ j = omega (arith, B.instance, P.number) in
      let at : slice_get W.tree.instances j ≡ Some P.its = subst (λ n. slice_get W.tree.instances n ≡ Some P.its) place P.there in
      let O = object_for W j P.its at in
      let G = given_there w.item.name B.outlet.gives.face B.outlet.gives.given B.given in
      let same : G.item ≡ w.item = same_item W w K B.outlet.gives.face (face_known W P.its O B.outlet.gives.face (face_of_export P.its.shape B.outlet.gives P.gives))
      B.interface B.stamp G.pair.item G.item G.there G.named in
      let gives = pair_fits (parts_of O.its) B.outlet.gives (export_fits P.its O B.outlet.gives P.gives) G.pair G.is in
      let number : G.pair.number ≡ q = G.number ∙ B.number in
      let there : slice_get B.outlet.gives.face.items G.pair.item ≡ Some w.item = G.there ∙ ap Some same in
      record {
        instance = slice_get_within W.tree.instances j P.its at;
        number = subst (λ n. n < 4294967296) number gives.0;
        alike = subst (λ o. is_given (Some (entry_of w)) o q ≡ true) (sym (module_is j P.its at O))
            (subst (λ n. gives_item (parts_of O.its).signals (parts_of O.its).procedures (Some w.item) n ≡ true) number
            (subst (λ o. gives_item (parts_of O.its).signals (parts_of O.its).procedures o G.pair.number ≡ true) there gives.1));
      }

  -- ---- a link

  pub few_instances : length W.tree.instances ≤ 1024
  few_instances = W.can.tree.few

  to_fits : (w : Want) → Mem w (wants W.tree) → (a : Resolution) → w.answer ≡ a → is_bad a ≡ false
      → (link modules wanted instances (Some (entry_of w))).fits (link_by wanted (entry_of w) (binding_of a))
  unfolding link wanted_link bound_link link_by binding_of is_bad
  to_fits w m Left e good =
      let L = left_to W w m e in
      let few : length wanted < 4294967296 = W.can.spelled.wanted in
      let less = L.there in
      ((omega arith, refl), (omega (arith, few, less), L.alike))
  to_fits w m (Bound j q) e good =
      let B = bound_to w (known W w m) j q e in
      let less : j < length W.tree.instances = B.instance in
      let many : length instances ≡ length W.tree.instances = length-map W.tree.instances (instance_of W.tree.instances) in
      ((omega arith, refl), ((omega (arith, less, few_instances), lt-ltb j (length instances) (omega (arith, less, many))), (B.number, B.alike)))
  to_fits w m NoExporter e good = absurd cc
  to_fits w m (Twice j k) e good = absurd cc
  to_fits w m (OtherInterface j) e good = absurd cc
  to_fits w m (OtherStamp s) e good = absurd cc

  -- ---- the links of an instance

  need_at : (x : TreeInstance) (k : ℕ) (w : Want) → length x.imports ≡ length x.shape.imports → slice_get (wants_in W.tree x) k ≡ Some w
      → slice_get (flat_map needed_by_import x.shape.imports) k ≡ Some (entry_of w)
  need_at x k w many at = ap (λ es. slice_get es k) (sym (needs_are W.tree x x.imports x.shape.imports many)) ∙ map_get entry_of (wants_in W.tree x) k w at

  table_fits : (j : ℕ) (x : TreeInstance) → slice_get W.tree.instances j ≡ Some x
      → (link_table modules wanted instances (flat_map needed_by_import x.shape.imports)).fits (links_of W.tree x)
  unfolding link_table
  table_fits j x at =
      let needed = flat_map needed_by_import x.shape.imports in
      let I = W.can.tree.instances j x at in (
        length-map (wants_in W.tree x) (link_of wanted)
            ∙ (sym (length-map (wants_in W.tree x) entry_of) ∙ ap length (needs_are W.tree x x.imports x.shape.imports I.imports)),
        numbered (λ n. link modules wanted instances (slice_get needed n)) (links_of W.tree x) (λ k to e.
            let r = get_map (link_of wanted) (wants_in W.tree x) k to e in
            let m = among_all W.tree j x at k r.0 r.1 in
            subst (λ o. (link modules wanted instances o).fits to) (sym (need_at x k r.0 I.imports r.1))
            (subst (link modules wanted instances (Some (entry_of r.0))).fits r.2 (to_fits r.0 m r.0.answer refl (known W r.0 m).good))),
      )

  pub tables_fit : (link_tables modules wanted instances).fits (map (links_of W.tree) W.tree.instances)
  unfolding link_tables
  tables_fit = (
    length-map W.tree.instances (links_of W.tree) ∙ sym (length-map W.tree.instances (instance_of W.tree.instances)),
    numbered (λ n. link_table modules wanted instances (needed_by (module_at modules (slice_get instances n)))) (map (links_of W.tree) W.tree.instances) (λ j table e.
        let r = get_map (links_of W.tree) W.tree.instances j table e in
        let O = object_for W j r.0 r.1 in
        let needed : needed_by (module_at modules (slice_get instances j)) ≡ flat_map needed_by_import r.0.shape.imports =
        ap needed_by (module_is j r.0 r.1 O) ∙ ap (λ (s : Shape). flat_map needed_by_import s.imports) O.shape_is in
        subst (λ es. (link_table modules wanted instances es).fits table) (sym needed)
        (subst (link_table modules wanted instances (flat_map needed_by_import r.0.shape.imports)).fits r.2 (table_fits j r.0 r.1))),
  )
