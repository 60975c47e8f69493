-- The tree of one module that imports nothing but the built-in interface.
use Rattle.std.proofs.Common.{◌≡◌, ℕ, zero, suc, ◌<◌, ◌⊎◌, inl, inr, ⊎_elim, List, [], ◌∷◌, map, All, Contains, Option, Some, None, slice_get, refl, sym, ap, subst, ◌∙◌, arith, if◌then◌else◌}
use Rattle.std.specs.Prelude.{option_map}
use Rattle.std.proofs.lemmas.Option.{none-some, same_Some, slice_get_within, slice_get-map, get_or_from_slice_get}
use Rattle.mesa_types.specs.Links.{item_in, imported}
use Rattle.mesa_types.specs.Sound.{Sound}
use Rattle.mesa_types.specs.Typed.{Module}
use Rattle.mesa_types.specs.declared.faces.Export.{Export}
use Rattle.mesa_types.specs.declared.faces.Face.{Face}
use Rattle.mesa_types.specs.declared.faces.Import.{Import}
use Rattle.mesa_types.specs.declared.faces.Item.{Item}
use Rattle.interface_records.specs.Faces.{iodefs}
use Rattle.object_files.specs.declared.object.Object.{Object}
use Rattle.source_meaning.specs.Program.{or_else, target_of, single}
use Rattle.config_rules.specs.Exporters.{Spot, outside_of, stepped, step_in}
use Rattle.config_rules.specs.InOrder.{InstanceIn, NamesDiffer, TreeIn}
use Rattle.config_rules.specs.Resolves.{Left, Want, from_outside, source, resolved_at, resolved, want, wants_of, wants_in, wants, is_bad, first_bad}
use Rattle.config_rules.specs.Through.{interfaces_imported, interfaces_exported}
use Rattle.config_rules.specs.Tree.{faces_of, single_tree}
use Rattle.config_rules.specs.declared.tree.TreeInstance.{TreeInstance}
use Rattle.config_rules.specs.declared.tree.TreeScope.{TreeScope}
use Rattle.bound_images.specs.Programs.{shape_of, target_by, target_at, target_in, target, program_of}
use Rattle.bound_images.specs.Built.{ObjectOf}
use Rattle.bound_images.specs.Single.{ImportsTheHostAlone, tree_of, SinglesAreBuilt, SinglesLeaveToTheHost, SinglesMeanTheirModule}
use Rattle.config_rules.proofs.Members.{Mem, mem_get, mem_split, flat_mem, mapped_length}

abbrev import_name : Import → List ℕ
import_name i = i.face.name

abbrev export_name : Export → List ℕ
export_name e = e.face.name

abbrev AreTheHosts : List Import → Type 0
AreTheHosts ms = All (λ (i : Import). i.face ≡ iodefs.face) ms

module _ (m : Module) where
  -- its one instance
  abbrev alone : TreeInstance
  alone = record {
    path = m.name ∷ [];
    component = 0;
    scope = 0;
    shape = shape_of m;
    imports = interfaces_imported (shape_of m);
    exports = interfaces_exported (shape_of m);
  }

  abbrev at_record : List ℕ → Spot
  at_record r = record { scope = 0; record_name = r }

  -- ---- the record of the built-in interface passes the scope

  passes : (face : Face) (name : List ℕ) → resolved (tree_of m) (at_record iodefs.face.name) face name ≡ Left
  unfolding resolved resolved_at source from_outside step_in stepped outside_of single_tree
  passes face name = refl

  is_left : (face : Face) (name : List ℕ) (f : Face) → f ≡ iodefs.face → resolved (tree_of m) (at_record f.name) face name ≡ Left
  is_left face name f e = ap (λ (g : Face). resolved (tree_of m) (at_record g.name) face name) e ∙ passes face name

  abbrev ToHost : Want → Type 0
  ToHost w = (w.answer ≡ Left) × (w.face ≡ iodefs.face)

  of_item : (f : Face) → f ≡ iodefs.face → (o : Option Item) (w : Want) → Mem w (want (tree_of m) alone f.name f o) → ToHost w
  unfolding want
  of_item f e None w h = absurd h
  of_item f e (Some i) w (inl s) = subst ToHost s (is_left f i.name f e, e)
  of_item f e (Some i) w (inr s) = absurd s

  all_left : (ms : List Import) → AreTheHosts ms → (w : Want) → Mem w (wants_of (tree_of m) alone (map import_name ms) ms) → ToHost w
  unfolding wants_of
  all_left [] h w d = absurd d
  all_left (i ∷ ms) h w d = ⊎_elim
      (λ e. let q = flat_mem (λ n. want (tree_of m) alone i.face.name i.face (slice_get i.face.items n)) i.used w e in
      of_item i.face (h 0 i (omega arith)) (slice_get i.face.items q.0) w q.2)
      (λ e. all_left ms (λ k d l. h (suc k) d (omega (arith, l))) w e)
      (mem_split _ (wants_of (tree_of m) alone (map import_name ms) ms) w d)

  wants_left : ImportsTheHostAlone m → (w : Want) → Mem w (wants (tree_of m)) → ToHost w
  unfolding single_tree
  wants_left h w d = let q = flat_mem (wants_in (tree_of m)) (alone ∷ []) w d in by q.0 q.1 q.2
    where
      by : (x : TreeInstance) → (alone ≡ x) ⊎ ⊥ → Mem w (wants_in (tree_of m) x) → ToHost w
      by x (inl e) n = all_left m.imports h w (subst (λ (y : TreeInstance). Mem w (wants_in (tree_of m) y)) (sym e) n)
      by x (inr e) n = absurd e

  none_bad : (ws : List Want) → ((w : Want) → Mem w ws → w.answer ≡ Left) → first_bad ws ≡ None
  unfolding first_bad is_bad
  none_bad [] f = refl
  none_bad (w ∷ ws) f = ap (λ a. if is_bad a then Some w else first_bad ws) (f w (inl refl)) ∙ none_bad ws (λ v d. f v (inr d))

  -- ---- the tree is in order

  of_one : {A : Type 0} (P : A → Type 0) (a : A) → P a → (k : ℕ) (x : A) → slice_get (a ∷ []) k ≡ Some x → P x
  of_one P a p zero x e = subst P (same_Some a x e) p
  of_one P a p (suc k) x e = absurd (none-some x e)

  instance_in : InstanceIn (shape_of m ∷ []) alone
  instance_in = record { its = refl; imports = mapped_length import_name m.imports; exports = mapped_length export_name m.exports }

  tree_in : TreeIn (shape_of m ∷ []) (tree_of m)
  unfolding single_tree
  tree_in = record {
    instances = of_one (InstanceIn (shape_of m ∷ [])) alone instance_in;
    few = omega arith;
    control = first_alone;
    inward = λ k n s e f. of_one (λ (y : TreeScope). (a : ℕ) → y.around ≡ Some a → a < k) _ (λ a g. absurd (none-some a g)) k s e n f;
  }
    where
      first_alone : All (λ j. j < 1) (0 ∷ [])
      first_alone zero d l = omega arith
      first_alone (suc k) d l = absurd (omega (arith, l))

  -- ---- what its used items stand for

  by_item : (f : Face) → f ≡ iodefs.face → (o : Option Item) → target_at (tree_of m) (at_record f.name) f o ≡ target_of o
  unfolding target_at target_by target_of
  by_item f e None = refl
  by_item f e (Some i) = ap (target_by i) (is_left f i.name f e)

  by_import : (o : Option Import) (n : ℕ) → ((i : Import) → o ≡ Some i → i.face ≡ iodefs.face) → target_in (tree_of m) 0 (option_map import_name o) o n ≡ target_of (item_in o n)
  unfolding target_in target_of item_in
  by_import None n h = refl
  by_import (Some i) n h = by_item i.face (h i refl) (slice_get i.face.items n)

  links_same : ImportsTheHostAlone m → (k n : ℕ) → target (tree_of m) alone k n ≡ target_of (imported m.imports k n)
  unfolding target imported
  links_same h k n =
      ap (λ o. target_in (tree_of m) 0 o (slice_get m.imports k) n) (slice_get-map import_name m.imports k)
      ∙ by_import (slice_get m.imports k) n (λ i e.
      subst (λ (y : Import). y.face ≡ iodefs.face) (get_or_from_slice_get m.imports k i i e) (h k i (slice_get_within m.imports k i e)))

pub singles_are_built : SinglesAreBuilt
singles_are_built m o sound hosts agree differ object = record {
  tree = tree_in m;
  agree = agree;
  sound = of_one m Sound m sound;
  differ = of_one m (λ (y : Module). (f : Face) → Contains (faces_of (shape_of y)) f → NamesDiffer f) m differ;
  as_many = refl;
  coded = coded;
  none_bad = none_bad m (wants (tree_of m)) (λ w d. (wants_left m hosts w d).0);
  linked = refl;
}
  where
    coded : (c : ℕ) (y : Module) (p : Object) → slice_get (m ∷ []) c ≡ Some y → slice_get (o ∷ []) c ≡ Some p → ObjectOf y p
    coded zero y p e f = subst (λ (q : Object). ObjectOf y q) (same_Some o p f) (subst (λ (z : Module). ObjectOf z o) (same_Some m y e) object)
    coded (suc c) y p e f = absurd (none-some y e)

pub singles_leave_to_the_host : SinglesLeaveToTheHost
singles_leave_to_the_host m hosts n w there left =
    let h = wants_left m hosts w (mem_get (wants (tree_of m)) n w there) in
    (ap (λ (f : Face). f.name) h.1, ap (λ (f : Face). f.stamp) h.1)

pub singles_mean_their_module : SinglesMeanTheirModule
unfolding program_of single single_tree or_else
singles_mean_their_module m hosts = λ p. record {
  instances = record { path = m.name ∷ []; code = m; links = λ k n. links_same m hosts k n p } ∷ [];
  control = 0 ∷ [];
}
