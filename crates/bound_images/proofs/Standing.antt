-- A built image stands for the program of its tree, and wants of the host what is left to the loader.
use Rattle.std.proofs.Common.{◌≡◌, ℕ, zero, ◌+◌, false, List, Contains, Option, Some, None, slice_get, refl, sym, ap, subst, ◌∙◌, arith}
use Rattle.std.specs.Prelude.{option_map, option_and_then}
use Rattle.std.proofs.lemmas.Option.{same_Some, slice_get_within, slice_get-map}
use Rattle.mesa_types.specs.Links.{imported, IsUsed}
use Rattle.mesa_types.specs.Typed.{Module}
use Rattle.mesa_types.specs.declared.faces.Face.{Face}
use Rattle.mesa_types.specs.declared.faces.Import.{Import}
use Rattle.mesa_types.specs.declared.faces.Item.{Item}
use Rattle.mesa_types.specs.declared.faces.ItemKind.{ItemKind}
use Rattle.mesa_types.specs.declared.faces.ItemKind.TheVariants as kind
use Rattle.code_rules.specs.Links.{link_number}
use Rattle.code_rules.specs.Modules.{CodeFor}
use Rattle.interface_records.specs.Faces.{iodefs}
use Rattle.interface_records.specs.Hosts.{SameItem, IsHostItem}
use Rattle.interface_records.specs.declared.wanted.Wanted.{Wanted as Entry}
use Rattle.object_files.specs.declared.image.Instance.{Instance}
use Rattle.object_files.specs.declared.image.Link.{Link}
use Rattle.object_files.specs.declared.object.Object.{Object}
use Rattle.machine_ready.specs.machine_rules.specs.LookUps.{module_number, code_in, code_of, bound_to}
use Rattle.source_meaning.specs.Program.{Target, Host, host_of, host_target}
use Rattle.source_meaning.specs.Program as source
use Rattle.agreement_laws.specs.agreement_rules.specs.Stands.{IsWanted, BoundTo, InstanceStands, Stands, WantsTheHost}
use Rattle.config_rules.specs.Bindings.{binding_of}
use Rattle.config_rules.specs.declared.tree.TreeInstance.{TreeInstance}
use Rattle.config_rules.specs.Resolves.{Resolution, Left, Bound, NoExporter, Twice, OtherInterface, OtherStamp, Want, is_bad, wants_in, wants}
use Rattle.link_tables.specs.Linked.{has_instance, kept, many_kept, entry_number, entry_of, wanted_of, link_by, link_of, links_of, image_of, instance_of}
use Rattle.bound_images.specs.Programs.{given_as, target_by, target, program_of}
use Rattle.bound_images.specs.Built.{ObjectOf, LeavesToHost}
use Rattle.config_rules.proofs.Members.{Mem, mem_get, map_get, mapped_length}
use Rattle.bound_images.proofs.Elements.{get_mem, get_contains, all_mem, all_by, get_map, get_there, one_there}
use Rattle.bound_images.proofs.Kept.{mem_has, kept_there, kept_mem, few_kept}
use Rattle.bound_images.proofs.Modules.{World, program, linked, meant, ModuleOf, module_for, code_is, imports_are, known, among_all}
use Rattle.bound_images.proofs.Using.{using_item}
use Rattle.bound_images.proofs.Wanted.{entry_is, entry_for}

abbrev pub all_wanted : World → List Entry
all_wanted W = wanted_of (wants W.tree)

-- ---- what the links of an instance are bound to

pub bound_is : (W : World) (j : ℕ) (x : TreeInstance) → slice_get W.tree.instances j ≡ Some x → (number : ℕ)
    → bound_to (linked W) j number ≡ option_map (link_of (all_wanted W)) (slice_get (wants_in W.tree x) number)
unfolding bound_to image_of
bound_is W j x at number =
    ap (λ o. option_and_then (λ (table : List Link). slice_get table number) o) (map_get (links_of W.tree) W.tree.instances j x at)
    ∙ slice_get-map (link_of (all_wanted W)) (wants_in W.tree x) number

module _ (W : World) (w : Want) (m : Mem w (wants W.tree)) (import : Import) (face : w.face ≡ import.face) where
  is_wanted : w.answer ≡ Left → IsWanted (linked W) import w.item (entry_number (all_wanted W) (entry_of w))
  unfolding image_of
  is_wanted left =
      let E = entry_for W w m left in
      record {
        entry = E.entry;
        is_there = E.there;
        face = E.face ∙ ap (λ (f : Face). f.name) face;
        stamp = E.stamp ∙ ap (λ (f : Face). f.stamp) face;
        its_item = subst (SameItem E.entry.item) E.item (refl, (refl, refl, refl));
      }

  abbrev Is : Target → Resolution → Type 0
  Is target a = BoundTo (linked W) import w.item target (Some (link_by (all_wanted W) (entry_of w) (binding_of a)))

  to_host : w.answer ≡ Left → (o : Option Host) → Is (host_target o) Left
  unfolding host_target link_by binding_of
  to_host left None = (entry_number (all_wanted W) (entry_of w), refl, is_wanted left)
  to_host left (Some h) = (entry_number (all_wanted W) (entry_of w), refl, is_wanted left)

  to_instance : (g : ItemKind) (j q : ℕ) → Is (given_as g j q) (Bound j q)
  unfolding given_as link_by binding_of
  to_instance kind.Procedure j q = refl
  to_instance kind.Signal j q = refl
  to_instance kind.Error j q = refl

  bound_by : (a : Resolution) → w.answer ≡ a → is_bad a ≡ false → Is (target_by w.item a) a
  unfolding target_by is_bad
  bound_by Left e good = to_host e (host_of w.item.name)
  bound_by (Bound j q) e good = to_instance w.item.kind j q
  bound_by NoExporter e good = cc
  bound_by (Twice j k) e good = cc
  bound_by (OtherInterface j) e good = cc
  bound_by (OtherStamp s) e good = cc

abbrev Links : World → ℕ → TreeInstance → List Import → Type 0
Links W j x ms = (k n : ℕ) (import : Import) (item : Item) → slice_get ms k ≡ Some import → imported ms k n ≡ Some item → IsUsed ms k n
    → BoundTo (linked W) import item (target W.tree x k n) (bound_to (linked W) j (link_number ms k n))

links_stand : (W : World) (j : ℕ) (x : TreeInstance) → slice_get W.tree.instances j ≡ Some x → Links W j x x.shape.imports
links_stand W j x at k n import item there its used =
    let U = using_item W j x at k n item its used in
    let number = link_number x.shape.imports k n in
    let m = among_all W.tree j x at number U.want U.is_there in
    let one : U.import ≡ import = one_there x.shape.imports k U.import import U.there there in
    let is : bound_to (linked W) j number ≡ Some (link_of (all_wanted W) U.want) = bound_is W j x at number ∙ ap (option_map (link_of (all_wanted W))) U.is_there in
    subst (λ (i : Item). BoundTo (linked W) import i (target W.tree x k n) (bound_to (linked W) j number)) U.item
    (subst (λ (g : Target). BoundTo (linked W) import U.want.item g (bound_to (linked W) j number)) (sym U.stands)
    (subst (λ (l : Option Link). BoundTo (linked W) import U.want.item (target_by U.want.item U.want.answer) l) (sym is)
    (bound_by W U.want m import (U.face ∙ ap (λ (y : Import). y.face) one) U.want.answer refl (known W U.want m).good)))

-- ---- instances and their modules

pub record ObjectFor (W : World) (j : ℕ) (x : TreeInstance) : Type 0 where
  pub its : ModuleOf W x
  pub object : Object
  pub is : ObjectOf its.its object
  pub there : slice_get (kept W.tree.instances 0 W.objects) (many_kept W.tree.instances 0 x.component) ≡ Some object
  pub code : code_of (linked W) j ≡ Some object.code

pub object_for : (W : World) (j : ℕ) (x : TreeInstance) → slice_get W.tree.instances j ≡ Some x → ObjectFor W j x
unfolding code_of module_number code_in image_of
object_for W j x at =
    let M = module_for W j x at in
    let o = get_there W.objects x.component (let l = slice_get_within W.modules x.component M.its M.there in let e = W.built.as_many in omega (arith, l, e)) in
    let there = kept_there W.tree.instances 0 W.objects x.component o.0 o.1
    (ap (has_instance W.tree.instances) {x = 0 + x.component} {y = x.component} (omega arith) ∙ mem_has W.tree.instances x (mem_get W.tree.instances j x at)) in
    record {
      its = M;
      object = o.0;
      is = W.built.coded x.component M.its o.0 M.there o.1;
      there = there;
      code =
          ap (λ o. option_and_then (code_in (linked W)) (option_map (λ (i : Instance). i.module) o)) (map_get (instance_of W.tree.instances) W.tree.instances j x at)
          ∙ ap (option_map (λ (y : Object). y.code)) there;
    }

instance_stands : (W : World) (j : ℕ) (x : TreeInstance) → slice_get W.tree.instances j ≡ Some x → InstanceStands (linked W) j (meant W x) (instance_of W.tree.instances x)
unfolding image_of
instance_stands W j x at =
    let O = object_for W j x at in
    record {
      path = refl;
      object = O.object;
      is_there = O.there;
      code = subst (λ (m : Module). CodeFor m O.object.code) (sym (code_is W x O.its)) O.is.code;
      links = subst (Links W j x) (sym (imports_are W x O.its)) (links_stand W j x at);
    }

instances_stand : (W : World) (j : ℕ) (m : source.Instance) (i : Instance) → slice_get (program W).instances j ≡ Some m → slice_get (linked W).instances j ≡ Some i
    → InstanceStands (linked W) j m i
unfolding program_of image_of
instances_stand W j m i is at =
    let r = get_map (meant W) W.tree.instances j m is in
    let s = map_get (instance_of W.tree.instances) W.tree.instances j r.0 r.1 in
    subst (λ (p : source.Instance). InstanceStands (linked W) j p i) r.2
    (subst (λ (p : Instance). InstanceStands (linked W) j (meant W r.0) p) (same_Some (instance_of W.tree.instances r.0) i (sym s ∙ at)) (instance_stands W j r.0 r.1))

-- each module of the image is an object of a module
coded_in : (W : World) (n : ℕ) (o : Object) → slice_get (linked W).modules n ≡ Some o → (m : Module) × ObjectOf m o
unfolding image_of
coded_in W n o is =
    let r = get_mem W.objects o (kept_mem W.tree.instances 0 W.objects o (mem_get (kept W.tree.instances 0 W.objects) n o is)) in
    let m = get_there W.modules r.0 (let l = slice_get_within W.objects r.0 o r.1 in let e = W.built.as_many in omega (arith, l, e)) in
    (m.0, W.built.coded r.0 m.0 o m.1 r.1)

pub whole : (W : World) → Stands (program W) (linked W)
unfolding program_of image_of
whole W = record {
  as_many = mapped_length (instance_of W.tree.instances) W.tree.instances ∙ sym (mapped_length (meant W) W.tree.instances);
  instances = instances_stand W;
  control = refl;
  modules = let h = few_kept W.tree.instances 0 W.objects in let l = W.built.tree.few in omega (arith, h, l);
  valid = λ n o is. (coded_in W n o is).1.valid;
  texts = λ n o is. (coded_in W n o is).1.texts;
}

-- ---- what is wanted of the host

pub wants_host : (W : World) → LeavesToHost W.tree → WantsTheHost (linked W)
unfolding image_of
wants_host W host = all_by IsHostItem (all_wanted W) each
  where
    each : (n : ℕ) (e : Entry) → slice_get (all_wanted W) n ≡ Some e → IsHostItem e
    each n e is =
        let O = entry_is W e (mem_get (all_wanted W) n e is) in
        let K = known W O.want O.is in
        let h = host K.place O.want K.is O.left in
        let face : O.want.face ≡ iodefs.face = W.built.agree O.want.face iodefs.face K.face (zero, omega arith, refl) h.0 h.1 in
        let c : Contains iodefs.face.items O.want.item =
        get_contains iodefs.face.items K.number O.want.item (subst (λ (f : Face). slice_get f.items K.number ≡ Some O.want.item) face K.there) in
        subst IsHostItem O.its (h.0, h.1, (c.0, O.want.item, c.1, c.2, (refl, (refl, refl, refl))))

-- and the other way round
pub leaves_to_host : (W : World) → WantsTheHost (linked W) → LeavesToHost W.tree
unfolding image_of
leaves_to_host W host n w is left =
    let E = entry_for W w (mem_get (wants W.tree) n w is) left in
    let h = all_mem IsHostItem (all_wanted W) host E.entry (mem_get (all_wanted W) (entry_number (all_wanted W) (entry_of w)) E.entry E.there) in
    (sym E.face ∙ h.0, sym E.stamp ∙ h.1)
