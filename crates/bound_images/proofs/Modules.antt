-- What is known of what an image is built from: the module of each instance, its faces, and the items that are wanted.
use Rattle.std.proofs.Common.{◌≡◌, ℕ, ◌⊎◌, inl, inr, Bool, true, false, List, [], ◌∷◌, map, Contains, Some, None, slice_get, refl, sym, ap, subst, ◌∙◌, if◌then◌else◌}
use Rattle.std.proofs.lemmas.Option.{none-some}
use Rattle.mesa_types.specs.Sound.{ImportIn}
use Rattle.mesa_types.specs.Typed.{Module}
use Rattle.mesa_types.specs.declared.faces.Export.{Export}
use Rattle.mesa_types.specs.declared.faces.Face.{Face}
use Rattle.mesa_types.specs.declared.faces.Import.{Import}
use Rattle.mesa_types.specs.declared.faces.Item.{Item}
use Rattle.mesa_types.specs.declared.faces.Shape.{Shape}
use Rattle.object_files.specs.declared.image.Image.{Image}
use Rattle.object_files.specs.declared.object.Object.{Object}
use Rattle.source_meaning.specs.Program.{Program, or_else, no_module}
use Rattle.config_rules.specs.declared.tree.Tree.{Tree}
use Rattle.config_rules.specs.declared.tree.TreeInstance.{TreeInstance}
use Rattle.config_rules.specs.Exporters.{Spot}
use Rattle.config_rules.specs.InOrder.{NamesDiffer}
use Rattle.config_rules.specs.Resolves.{Want, resolved, wants_in, wants, is_bad, first_bad}
use Rattle.config_rules.specs.Tree.{all_faces, faces_of}
use Rattle.link_tables.specs.Linked.{image_of}
use Rattle.bound_images.specs.Programs.{shape_of, instance_for, program_of}
use Rattle.bound_images.specs.Built.{Built}
use Rattle.config_rules.proofs.Members.{Mem, mem_get, flat_mem}
use Rattle.bound_images.proofs.Elements.{get_mem, mem_contains, mem_front, mem_behind, mem_map, mem_flat, get_map, one_there}
use Rattle.bound_images.proofs.Wanting.{AllThere, wants_are}

-- a tree with modules and objects of its components, and the image that is linked from them
pub record World : Type 0 where
  pub tree : Tree
  pub modules : List Module
  pub objects : List Object
  pub built : Built tree modules objects (image_of tree objects)

abbrev pub program : World → Program
program W = program_of W.tree W.modules

abbrev pub linked : World → Image
linked W = image_of W.tree W.objects

-- what an instance is in the program
abbrev pub meant : World → TreeInstance → Rattle.source_meaning.specs.Program.Instance
meant W x = instance_for W.tree W.modules x

abbrev pub faces : World → List Face
faces W = all_faces (map shape_of W.modules)

-- ---- modules

pub record ModuleOf (W : World) (x : TreeInstance) : Type 0 where
  pub its : Module
  pub there : slice_get W.modules x.component ≡ Some its
  pub shape : shape_of its ≡ x.shape

pub module_for : (W : World) (j : ℕ) (x : TreeInstance) → slice_get W.tree.instances j ≡ Some x → ModuleOf W x
module_for W j x at =
    let r = get_map shape_of W.modules x.component x.shape (W.built.tree.instances j x at).its in
    record { its = r.0; there = r.1; shape = r.2 }

module _ (W : World) (x : TreeInstance) (M : ModuleOf W x) where
  pub code_is : (meant W x).code ≡ M.its
  unfolding or_else
  code_is = ap (or_else no_module) M.there

  pub imports_are : (meant W x).code.imports ≡ x.shape.imports
  imports_are = ap (λ (m : Module). m.imports) code_is ∙ ap (λ (s : Shape). s.imports) M.shape

  -- the imports of a sound module name no item that is not there
  pub all_there : AllThere x.shape.imports
  unfolding ImportIn
  all_there =
      let sound = W.built.sound x.component M.its M.there in
      subst (λ (s : Shape). AllThere s.imports) M.shape (λ k d l. (sound.imports k d l).2)

  -- its faces are among all faces, and no two items of one have one name
  pub face_known : (f : Face) → Mem f (faces_of x.shape) → Contains (faces W) f
  face_known f h =
      mem_contains (faces W) f
      (inr (mem_flat faces_of (map shape_of W.modules) x.shape f
      (subst (λ (s : Shape). Mem s (map shape_of W.modules)) M.shape (mem_map shape_of W.modules M.its (mem_get W.modules x.component M.its M.there))) h))

  pub names_differ : (f : Face) → Mem f (faces_of x.shape) → NamesDiffer f
  names_differ f h =
      W.built.differ x.component M.its M.there f (mem_contains (faces_of (shape_of M.its)) f (subst (λ (s : Shape). Mem f (faces_of s)) (sym M.shape) h))

abbrev import_face : Import → Face
import_face m = m.face

abbrev export_face : Export → Face
export_face e = e.face

pub face_of_import : (s : Shape) (m : Import) → Mem m s.imports → Mem m.face (faces_of s)
face_of_import s m h = mem_front (map import_face s.imports) (map export_face s.exports) m.face (mem_map import_face s.imports m h)

pub face_of_export : (s : Shape) (e : Export) → Mem e s.exports → Mem e.face (faces_of s)
face_of_export s e h = mem_behind (map import_face s.imports) (map export_face s.exports) e.face (mem_map export_face s.exports e h)

-- ---- wants

not_bad : (ws : List Want) → first_bad ws ≡ None → (w : Want) → Mem w ws → is_bad w.answer ≡ false
unfolding first_bad
not_bad [] h w m = absurd m
not_bad (v ∷ ws) h w m = by (is_bad v.answer) refl (λ g n. not_bad ws g w n) h m
  where
    by : (b : Bool) → is_bad v.answer ≡ b → (first_bad ws ≡ None → Mem w ws → is_bad w.answer ≡ false) → (if b then Some v else first_bad ws) ≡ None
        → (v ≡ w) ⊎ Mem w ws → is_bad w.answer ≡ false
    by true e again g n = absurd (none-some v (sym g))
    by false e again g (inl s) = subst (λ (u : Want). is_bad u.answer ≡ false) s e
    by false e again g (inr n) = again g n

-- an item that an instance uses: its interface is known, it is resolved where it is imported, and it is not bad
pub record Known (W : World) (w : Want) : Type 0 where
  pub face : Contains (faces W) w.face
  pub names : NamesDiffer w.face
  pub number : ℕ
  pub there : slice_get w.face.items number ≡ Some w.item
  pub spot : Spot
  pub resolves : w.answer ≡ resolved W.tree spot w.face w.item.name
  pub good : is_bad w.answer ≡ false
  pub place : ℕ
  pub is : slice_get (wants W.tree) place ≡ Some w

pub known : (W : World) (w : Want) → Mem w (wants W.tree) → Known W w
known W w h =
    let q = flat_mem (wants_in W.tree) W.tree.instances w h in
    let x = q.0 in
    let at = get_mem W.tree.instances x q.1 in
    let M = module_for W at.0 x at.1 in
    let o = wants_are W.tree x x.imports x.shape.imports w q.2 in
    let f = face_of_import x.shape o.import o.is in
    let p = get_mem (wants W.tree) w h in
    record {
      face = subst (λ (g : Face). Contains (faces W) g) (sym o.face) (face_known W x M o.import.face f);
      names = subst NamesDiffer (sym o.face) (names_differ W x M o.import.face f);
      number = o.number;
      there = subst (λ (g : Face). slice_get g.items o.number ≡ Some w.item) (sym o.face) o.there;
      spot = o.spot;
      resolves = o.resolves;
      good = not_bad (wants W.tree) W.built.none_bad w h;
      place = p.0;
      is = p.1;
    }

-- those of an instance are among those of the tree
pub among_all : (t : Tree) (j : ℕ) (x : TreeInstance) → slice_get t.instances j ≡ Some x → (n : ℕ) (w : Want) → slice_get (wants_in t x) n ≡ Some w → Mem w (wants t)
among_all t j x at n w there = mem_flat (wants_in t) t.instances x w (mem_get t.instances j x at) (mem_get (wants_in t x) n w there)

-- an item with the name of a wanted one, in a face of the name and stamp of its interface, is the wanted one
pub same_item : (W : World) (w : Want) → Known W w → (f : Face) → Contains (faces W) f → f.name ≡ w.face.name → f.stamp ≡ w.face.stamp
    → (n : ℕ) (i : Item) → slice_get f.items n ≡ Some i → i.name ≡ w.item.name → i ≡ w.item
same_item W w K f ours name stamp n i there named =
    let face : f ≡ w.face = W.built.agree f w.face ours K.face name stamp in
    let here : slice_get w.face.items n ≡ Some i = subst (λ (g : Face). slice_get g.items n ≡ Some i) face there in
    let place : n ≡ K.number = K.names n K.number i w.item here K.there named in
    one_there w.face.items K.number i w.item (subst (λ m. slice_get w.face.items m ≡ Some i) place here) K.there
