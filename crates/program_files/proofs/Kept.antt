-- The object of a module that can be kept has a file.
use Rattle.std.proofs.Common.{◌≡◌, ℕ, ◌<◌, ◌≤◌, ◌⊎◌, inl, inr, ⊎_elim, Bool, true, List, [], ◌∷◌, length, Option, Some, None, slice_get, refl, sym, ap, subst, ◌∙◌, length-append, arith}
use Rattle.std.specs.Prelude.{◌^◌, ◌↔◌, All}
use Rattle.std.proofs.lemmas.List.{length-map}
use Rattle.std.proofs.lemmas.Option.{slice_get_within}
use Rattle.mesa_types.specs.Links.{items_used, links_of}
use Rattle.mesa_types.specs.Nodes.{nodes}
use Rattle.mesa_types.specs.Typed.{Module}
use Rattle.mesa_types.specs.declared.faces.Import.{Import}
use Rattle.mesa_types.specs.declared.faces.Item.{Item}
use Rattle.interface_records.specs.Spelled.{ShapeCanBeSpelled}
use Rattle.checking_laws.specs.UsedItems.{used_items}
use Rattle.checked_texts.specs.Laws.{CanBeKept}
use Rattle.code_forms.specs.declared.module_code.ModuleCode.{ModuleCode}
use Rattle.code_rules.specs.Modules.{link_code}
use Rattle.code_blocks.proofs.Linking.{used_first}
use Rattle.code_blocks.proofs.Lists.{all_get, get_there}
use Rattle.code_limits.specs.Few.{FewLinksAndArms}
use Rattle.code_bytes.proofs.Whole.{chosen_codes_are_in_bytes}
use Rattle.object_files.specs.declared.object.Object.{Object}
use Rattle.object_rules.specs.ModuleForms.{module_form}
use Rattle.object_rules.specs.Parts.{parts_of, IsWhole}
use Rattle.code_bytes.specs.built_files.specs.Laws.{IsObjectOf as IsBuiltOf}
use Rattle.code_bytes.specs.built_files.proofs.Modules.{objects_are_whole, objects_of_modules_fit}
use Rattle.linked_files.specs.bound_images.proofs.Elements.{all_by}
use Rattle.linked_programs.specs.Modules.{AllCanBeLinked, CanBeLinked}
use Rattle.linked_programs.specs.Objects.{AreObjectsOf}
use Rattle.program_files.specs.Objects.{CanBeFiled}

-- ---- how many links a code has

something : {A : Type 0} (o : Option A) → ((x : A) × (o ≡ Some x)) ⊎ (o ≡ None)
something None = inr refl
something (Some x) = inl (x, refl)

none_used : (items : List Item) (n : ℕ) (ns : List ℕ) → slice_get items n ≡ None → items_used items (n ∷ ns) ≡ items_used items ns
unfolding items_used
none_used items n ns e = rw e

used_few : (items : List Item) (ns : List ℕ) → length (items_used items ns) ≤ length ns
unfolding items_used
used_few items [] = omega arith
used_few items (n ∷ ns) =
    let few : length (items_used items ns) ≤ length ns = used_few items ns in
    ⊎_elim
    (λ x. subst (λ (is : List Item). length is ≤ length (n ∷ ns)) (sym (used_first items n ns x.0 x.1)) (omega (arith, few)))
    (λ e. subst (λ (is : List Item). length is ≤ length (n ∷ ns)) (sym (none_used items n ns e)) (omega (arith, few)))
    (something (slice_get items n))

links_few : (imports : List Import) → length (links_of imports) ≤ used_items imports
unfolding links_of used_items
links_few [] = omega arith
links_few (m ∷ ms) =
    omega (arith, used_few m.face.items m.used, links_few ms, length-append (items_used m.face.items m.used) (links_of ms))

few_links : (o : Object) → CanBeFiled o → length o.code.links < 2 ^ 32
few_links o h =
    let as_many : length o.code.links ≡ length (links_of h.typed.imports) = ap length h.object.object.code.each_link ∙ length-map (links_of h.typed.imports) link_code in
    let items : used_items h.typed.imports ≤ nodes h.typed = h.kept.few_items in
    let few : nodes h.typed ≤ 4194304 = h.kept.few in
    let fewer : length o.code.links < 4294967296 = omega (arith, as_many, links_few h.typed.imports, items, few) in
    fewer

-- the test of the links says of the arms too that they are few
pub few_by : (o : Object) (c : ModuleCode) (b : Bool) → CanBeFiled o → c ≡ o.code → (b ≡ true ↔ length c.links < 2 ^ 32)
    → (b ≡ true → FewLinksAndArms c.links c.procedures) → FewLinksAndArms o.code.links o.code.procedures
few_by o c b h same test few =
    subst (λ (d : ModuleCode). FewLinksAndArms d.links d.procedures) same
    (few (test.1 (subst (λ (d : ModuleCode). length d.links < 2 ^ 32) (sym same) (few_links o h))))

-- ---- the object

its : (o : Object) (h : CanBeFiled o) → FewLinksAndArms o.code.links o.code.procedures → IsBuiltOf h.typed o
its o h few = record {
  shape = h.object.object.shape;
  code = h.object.object.code;
  ranges = h.object.chosen.stands.ranges;
  numbers = chosen_codes_are_in_bytes h.typed o.code h.kept.sound h.kept.few h.object.chosen.chosen few;
  texts = h.object.chosen.bytes;
  valid = h.object.object.valid;
}

pub fits : (o : Object) → CanBeFiled o → FewLinksAndArms o.code.links o.code.procedures → (module_form 2).fits (parts_of o)
fits o h few = objects_of_modules_fit h.typed o h.kept.sound h.kept.named (subst ShapeCanBeSpelled (sym h.object.object.shape) h.kept.shape) (its o h few)

pub whole : (o : Object) → CanBeFiled o → FewLinksAndArms o.code.links o.code.procedures → IsWhole o
whole o h few = objects_are_whole h.typed o (its o h few)

-- ---- the objects of modules

pub all_linkable : (modules : List Module) → All CanBeKept modules → AllCanBeLinked modules
all_linkable modules h = all_by CanBeLinked modules (λ k m e. let kept = all_get CanBeKept modules k m e h in record { sound = kept.sound; few = kept.few; spelled = kept.shape })

pub all_filed : (modules : List Module) (objects slice : List Object) → All CanBeKept modules → AreObjectsOf modules objects → slice ≡ objects → All CanBeFiled slice
all_filed modules objects slice h are same = subst (All CanBeFiled) (sym same) (all_by CanBeFiled objects each)
  where
    each : (k : ℕ) (o : Object) → slice_get objects k ≡ Some o → CanBeFiled o
    each k o e =
        let less : k < length objects = slice_get_within objects k o e in
        let long : length objects ≡ length modules = are.as_many in
        let m = get_there modules k (omega (arith, less, long)) in
        record { typed = m.0; kept = all_get CanBeKept modules k m.0 m.1 h; object = are.each k m.0 o m.1 e }
