-- A built image is in order.
use Rattle.std.proofs.Common.{◌≡◌, ℕ, ◌<◌, false, List, length, map, All, Option, Some, None, slice_get, refl, sym, ap, subst, ◌∙◌, arith}
use Rattle.std.specs.Prelude.{option_map, option_and_then, MatchOption, IsSomeAnd}
use Rattle.std.proofs.lemmas.Option.{slice_get_within, slice_get-map}
use Rattle.mesa_types.proofs.KindWords.{shapes_take_their_words}
use Rattle.mesa_types.specs.Links as mesa
use Rattle.mesa_types.specs.Types.{words_of_fields}
use Rattle.mesa_types.specs.Typed.{Module}
use Rattle.mesa_types.specs.declared.faces.Item.{Item}
use Rattle.mesa_types.specs.declared.faces.ItemKind.{ItemKind}
use Rattle.mesa_types.specs.declared.faces.ItemKind.TheVariants as kind
use Rattle.mesa_types.specs.declared.faces.Shape.{Shape}
use Rattle.code_forms.specs.declared.module_code.CodeLink.{CodeLink}
use Rattle.code_forms.specs.declared.module_code.ModuleCode.{ModuleCode}
use Rattle.code_rules.specs.Modules.{CodeFor, kind_code, link_code}
use Rattle.interface_records.specs.declared.wanted.Wanted.{Wanted as Entry}
use Rattle.object_files.specs.declared.image.Instance.{Instance}
use Rattle.object_files.specs.declared.image.Link.{Link}
use Rattle.object_files.specs.declared.image.Link.TheVariants.{Wanted}
use Rattle.machine_ready.specs.machine_rules.specs.LookUps.{module_number, code_in, code_of, bound_to}
use Rattle.machine_ready.specs.machine_rules.specs.LookUps as machine
use Rattle.machine_ready.specs.machine_activations.specs.Links.{IsLike, IsOfInstance}
use Rattle.machine_ready.specs.Order.{code_kind, IsBoundAlike, ImageInOrder}
use Rattle.source_meaning.specs.Lawful.{Supplies}
use Rattle.source_meaning.specs.Program as source
use Rattle.config_rules.specs.Bindings.{binding_of}
use Rattle.config_rules.specs.declared.tree.TreeInstance.{TreeInstance}
use Rattle.config_rules.specs.Resolves.{Resolution, Left, Bound, NoExporter, Twice, OtherInterface, OtherStamp, Want, is_bad, wants_in, wants}
use Rattle.link_tables.specs.Linked.{kept, entry_number, entry_of, link_by, link_of, links_of, image_of, instance_of}
use Rattle.bound_images.specs.Programs.{program_of}
use Rattle.config_rules.proofs.Members.{Mem, mapped_length}
use Rattle.bound_images.proofs.Elements.{all_by, get_map}
use Rattle.bound_images.proofs.Kept.{few_kept}
use Rattle.bound_images.proofs.Lawful.{supplied}
use Rattle.bound_images.proofs.Likeness.{given_alike}
use Rattle.bound_images.proofs.Modules.{World, program, linked, meant, code_is, known, among_all}
use Rattle.bound_images.proofs.Standing.{all_wanted, bound_is, object_for}
use Rattle.bound_images.proofs.Wanted.{entry_for}
use Rattle.bound_images.proofs.Wanting.{item_of, are_of_links}

-- ---- a link is like what it is bound to

kinds_agree : (k : ItemKind) → kind_code k ≡ code_kind k
kinds_agree kind.Procedure = refl
kinds_agree kind.Signal = refl
kinds_agree kind.Error = refl

own_link : (i : Item) → IsLike (link_code i) (code_kind i.kind) (words_of_fields i.takes) (words_of_fields i.gives)
own_link i = (kinds_agree i.kind, shapes_take_their_words.of_fields i.takes, shapes_take_their_words.of_fields i.gives)

module _ (W : World) where
  wanted_alike : (w : Want) → Mem w (wants W.tree) → w.answer ≡ Left → IsBoundAlike (linked W) (link_code w.item) (Wanted (entry_number (all_wanted W) (entry_of w)))
  unfolding image_of
  wanted_alike w m left =
      let E = entry_for W w m left in
      subst (λ o. IsSomeAnd o (λ (e : Entry). IsLike (link_code w.item) (code_kind e.item.kind) (words_of_fields e.item.takes) (words_of_fields e.item.gives))) (sym E.there)
      (subst (λ (i : Item). IsLike (link_code w.item) (code_kind i.kind) (words_of_fields i.takes) (words_of_fields i.gives)) (sym E.item) (own_link w.item))

  supplied_alike : (j q : ℕ) (i : Item) → Supplies (program W) j q i → IsOfInstance (linked W) (link_code i) (link_code i).kind j q
  unfolding program_of
  supplied_alike j q i S =
      let r = get_map (meant W) W.tree.instances j S.instance S.is_there in
      let O = object_for W j r.0 r.1 in
      let code : S.instance.code ≡ O.its.its = ap (λ (y : source.Instance). y.code) (sym r.2) ∙ code_is W r.0 O.its in
      given_alike (linked W) j S.instance.code O.object.code (subst (λ (m : Module). CodeFor m O.object.code) (sym code) O.is.code) O.code i S.given S.takes S.gives q S.is_given

  alike : (w : Want) → Mem w (wants W.tree) → (a : Resolution) → w.answer ≡ a → is_bad a ≡ false
      → IsBoundAlike (linked W) (link_code w.item) (link_by (all_wanted W) (entry_of w) (binding_of a))
  unfolding link_by binding_of is_bad
  alike w m Left e good = wanted_alike w m e
  alike w m (Bound j q) e good = supplied_alike j q w.item (supplied W w (known W w m) j q e)
  alike w m NoExporter e good = cc
  alike w m (Twice j k) e good = cc
  alike w m (OtherInterface j) e good = cc
  alike w m (OtherStamp s) e good = cc

  -- ---- each link of an instance's module is bound, and no more

  abbrev IsInOrder : Option CodeLink → Option Link → Type 0
  IsInOrder link to = MatchOption link (to ≡ None) (λ l. IsSomeAnd to (IsBoundAlike (linked W) l))

  link_is : (j : ℕ) (x : TreeInstance) → slice_get W.tree.instances j ≡ Some x → (k : ℕ)
      → machine.link_of (linked W) j k ≡ option_map link_code (option_map item_of (slice_get (wants_in W.tree x) k))
  unfolding machine.link_of
  link_is j x at k =
      let O = object_for W j x at in
      let as_many = (W.built.tree.instances j x at).imports in
      ap (λ o. option_and_then (λ (y : ModuleCode). slice_get y.links k) o) O.code ∙ ap (λ l. slice_get l k) O.is.code.each_link
      ∙ slice_get-map link_code (mesa.links_of O.its.its.imports) k
      ∙ ap (λ (s : Shape). option_map link_code (slice_get (mesa.links_of s.imports) k)) O.its.shape
      ∙ ap (λ l. option_map link_code (slice_get l k)) (sym (are_of_links W.tree x x.imports x.shape.imports as_many))
      ∙ ap (option_map link_code) (slice_get-map item_of (wants_in W.tree x) k)

  links_there : (j : ℕ) (x : TreeInstance) → slice_get W.tree.instances j ≡ Some x → (k : ℕ) → IsInOrder (machine.link_of (linked W) j k) (bound_to (linked W) j k)
  links_there j x at k =
      subst (λ o. IsInOrder o (bound_to (linked W) j k)) (sym (link_is j x at k))
      (subst (λ o. IsInOrder (option_map link_code (option_map item_of (slice_get (wants_in W.tree x) k))) o) (sym (bound_is W j x at k)) (by (slice_get (wants_in W.tree x) k) refl))
    where
      by : (o : Option Want) → slice_get (wants_in W.tree x) k ≡ o → IsInOrder (option_map link_code (option_map item_of o)) (option_map (link_of (all_wanted W)) o)
      by None e = refl
      by (Some w) e = let m = among_all W.tree j x at k w e in alike w m w.answer refl (known W w m).good

  no_link : (j k : ℕ) → slice_get W.tree.instances j ≡ None → machine.link_of (linked W) j k ≡ None
  unfolding machine.link_of code_of module_number image_of
  no_link j k e =
      ap (λ o. option_and_then (λ (y : ModuleCode). slice_get y.links k) (option_and_then (code_in (linked W)) (option_map (λ (i : Instance). i.module) o)))
      (slice_get-map (instance_of W.tree.instances) W.tree.instances j ∙ ap (option_map (instance_of W.tree.instances)) e)

  not_bound : (j k : ℕ) → slice_get W.tree.instances j ≡ None → bound_to (linked W) j k ≡ None
  unfolding bound_to image_of
  not_bound j k e =
      ap (λ o. option_and_then (λ (table : List Link). slice_get table k) o) (slice_get-map (links_of W.tree) W.tree.instances j ∙ ap (option_map (links_of W.tree)) e)

  links_past : (j k : ℕ) → slice_get W.tree.instances j ≡ None → IsInOrder (machine.link_of (linked W) j k) (bound_to (linked W) j k)
  links_past j k e = subst (λ o. IsInOrder o (bound_to (linked W) j k)) (sym (no_link j k e)) (not_bound j k e)

  links_in_order : (j k : ℕ) → IsInOrder (machine.link_of (linked W) j k) (bound_to (linked W) j k)
  links_in_order j k = by (slice_get W.tree.instances j) refl
    where
      by : (o : Option TreeInstance) → slice_get W.tree.instances j ≡ o → IsInOrder (machine.link_of (linked W) j k) (bound_to (linked W) j k)
      by None e = links_past j k e
      by (Some x) e = links_there j x e k

  -- ---- the whole

  modules_there : All (λ (i : Instance). i.module < length (kept W.tree.instances 0 W.objects)) (map (instance_of W.tree.instances) W.tree.instances)
  modules_there = all_by (λ (i : Instance). i.module < length (kept W.tree.instances 0 W.objects)) (map (instance_of W.tree.instances) W.tree.instances) (λ j i there.
      let r = get_map (instance_of W.tree.instances) W.tree.instances j i there in
      let O = object_for W j r.0 r.1 in
      subst (λ (y : Instance). y.module < length (kept W.tree.instances 0 W.objects)) r.2
      (slice_get_within (kept W.tree.instances 0 W.objects) _ O.object O.there))

  pub in_order : ImageInOrder (linked W)
  unfolding image_of
  in_order = record {
    few_modules = let h = few_kept W.tree.instances 0 W.objects in let l = W.built.tree.few in omega (arith, h, l);
    few_instances = let h = mapped_length (instance_of W.tree.instances) W.tree.instances in let l = W.built.tree.few in omega (arith, h, l);
    modules = modules_there;
    tables = mapped_length (links_of W.tree) W.tree.instances ∙ sym (mapped_length (instance_of W.tree.instances) W.tree.instances);
    links = links_in_order;
    control = subst (λ n. All (λ j. j < n) W.tree.control) (sym (mapped_length (instance_of W.tree.instances) W.tree.instances)) W.built.tree.control;
  }
