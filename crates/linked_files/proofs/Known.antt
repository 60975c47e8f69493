-- What is known of what an image is linked from: the object of each instance, its faces, and the items that are wanted.
use Rattle.std.proofs.Common.{◌≡◌, ℕ, ◌⊎◌, inl, inr, Bool, true, false, List, [], ◌∷◌, map, Contains, Some, None, slice_get, refl, sym, subst, if◌then◌else◌}
use Rattle.std.proofs.lemmas.Option.{none-some}
use Rattle.mesa_types.specs.declared.faces.Export.{Export}
use Rattle.mesa_types.specs.declared.faces.Face.{Face}
use Rattle.mesa_types.specs.declared.faces.Import.{Import}
use Rattle.mesa_types.specs.declared.faces.Item.{Item}
use Rattle.mesa_types.specs.declared.faces.Shape.{Shape}
use Rattle.interface_records.specs.Spelled.{ShapeCanBeSpelled}
use Rattle.object_files.specs.declared.object.Object.{Object}
use Rattle.config_rules.specs.declared.tree.Tree.{Tree}
use Rattle.config_rules.specs.declared.tree.TreeInstance.{TreeInstance}
use Rattle.config_rules.specs.InOrder.{NamesDiffer, ShapeInOrder}
use Rattle.config_rules.specs.Resolves.{Want, wants_in, wants, is_bad, first_bad}
use Rattle.config_rules.specs.Tree.{all_faces, faces_of}
use Rattle.config_rules.proofs.Members.{Mem, mem_get, flat_mem}
use Rattle.bound_images.proofs.Elements.{all_mem, get_mem, mem_contains, mem_front, mem_behind, mem_map, mem_flat, get_map, one_there}
use Rattle.bound_images.proofs.Wanting.{WantOf, wants_are}
use Rattle.object_rules.specs.ModuleForms.{module_form}
use Rattle.object_rules.specs.Parts.{parts_of}
use Rattle.read_files.proofs.Shapes.{shapes_can_be_spelled, spelled_shapes_are_in_order}
use Rattle.linked_files.specs.Laws.{CanBeLinked, shapes_of}

abbrev shape : Object → Shape
shape o = o.shape

pub record World : Type 0 where
  pub tree : Tree
  pub objects : List Object
  pub can : CanBeLinked tree objects

abbrev pub faces : World → List Face
faces W = all_faces (shapes_of W.objects)

-- ---- the object of an instance

pub record ObjectOf (W : World) (x : TreeInstance) : Type 0 where
  pub its : Object
  pub there : slice_get W.objects x.component ≡ Some its
  pub shape_is : its.shape ≡ x.shape
  pub fits : (module_form 2).fits (parts_of its)

pub object_for : (W : World) (j : ℕ) (x : TreeInstance) → slice_get W.tree.instances j ≡ Some x → ObjectOf W x
object_for W j x at =
    let r = get_map shape W.objects x.component x.shape (W.can.tree.instances j x at).its in
    record {
      its = r.0;
      there = r.1;
      shape_is = r.2;
      fits = all_mem (λ (o : Object). (module_form 2).fits (parts_of o)) W.objects W.can.fit r.0 (mem_get W.objects x.component r.0 r.1);
    }

abbrev import_face : Import → Face
import_face m = m.face

abbrev export_face : Export → Face
export_face e = e.face

pub face_of_import : (s : Shape) (m : Import) → Mem m s.imports → Mem m.face (faces_of s)
face_of_import s m h = mem_front (map import_face s.imports) (map export_face s.exports) m.face (mem_map import_face s.imports m h)

pub face_of_export : (s : Shape) (e : Export) → Mem e s.exports → Mem e.face (faces_of s)
face_of_export s e h = mem_behind (map import_face s.imports) (map export_face s.exports) e.face (mem_map export_face s.exports e h)

module _ (W : World) (x : TreeInstance) (O : ObjectOf W x) where
  pub shape_spelled : ShapeCanBeSpelled x.shape
  shape_spelled = subst ShapeCanBeSpelled O.shape_is (shapes_can_be_spelled 2 O.its O.fits)

  pub shape_in_order : ShapeInOrder x.shape
  shape_in_order = spelled_shapes_are_in_order x.shape shape_spelled

  -- its faces are among all faces
  pub face_known : (f : Face) → Mem f (faces_of x.shape) → Contains (faces W) f
  face_known f h =
      mem_contains (faces W) f
      (inr (mem_flat faces_of (shapes_of W.objects) x.shape f
      (subst (λ (s : Shape). Mem s (shapes_of W.objects)) O.shape_is (mem_map shape W.objects O.its (mem_get W.objects x.component O.its O.there))) h))

-- ---- wants

not_bad : (ws : List Want) → first_bad ws ≡ None → (w : Want) → Mem w ws → is_bad w.answer ≡ false
unfolding first_bad
not_bad [] h w m = absurd m
not_bad (v ∷ ws) h w m = by (is_bad v.answer) refl (λ g n. not_bad ws g w n) h m
  where
    by : (b : Bool) → is_bad v.answer ≡ b → (first_bad ws ≡ None → Mem w ws → is_bad w.answer ≡ false) → (if b then Some v else first_bad ws) ≡ None
        → (v ≡ w) ⊎ Mem w ws → is_bad w.answer ≡ false
    by true e again g n = absurd (none-some v (sym g))
    by false e again g (inl s) = subst (λ (u : Want). is_bad u.answer ≡ false) s e
    by false e again g (inr n) = again g n

-- an item that an instance uses
pub record Known (W : World) (w : Want) : Type 0 where
  pub instance : TreeInstance
  pub object : ObjectOf W instance
  pub want : WantOf W.tree instance instance.shape.imports w
  pub face : Contains (faces W) w.face
  pub names : NamesDiffer w.face
  pub there : slice_get w.face.items want.number ≡ Some w.item
  pub good : is_bad w.answer ≡ false

pub known : (W : World) (w : Want) → Mem w (wants W.tree) → Known W w
known W w h =
    let q = flat_mem (wants_in W.tree) W.tree.instances w h in
    let x = q.0 in
    let at = get_mem W.tree.instances x q.1 in
    let O = object_for W at.0 x at.1 in
    let o = wants_are W.tree x x.imports x.shape.imports w q.2 in
    let order = shape_in_order W x O in
    record {
      instance = x;
      object = O;
      want = o;
      face = subst (λ (g : Face). Contains (faces W) g) (sym o.face) (face_known W x O o.import.face (face_of_import x.shape o.import o.is));
      names = subst NamesDiffer (sym o.face) (order.imports o.import (mem_contains x.shape.imports o.import o.is)).0;
      there = subst (λ (g : Face). slice_get g.items o.number ≡ Some w.item) (sym o.face) o.there;
      good = not_bad (wants W.tree) W.can.none_bad w h;
    }

-- those of an instance are among those of the tree
pub among_all : (t : Tree) (j : ℕ) (x : TreeInstance) → slice_get t.instances j ≡ Some x → (n : ℕ) (w : Want) → slice_get (wants_in t x) n ≡ Some w → Mem w (wants t)
among_all t j x at n w there = mem_flat (wants_in t) t.instances x w (mem_get t.instances j x at) (mem_get (wants_in t x) n w there)

-- an item with the name of a wanted one, in a face of the name and stamp of its interface, is the wanted one
pub same_item : (W : World) (w : Want) → Known W w → (f : Face) → Contains (faces W) f → f.name ≡ w.face.name → f.stamp ≡ w.face.stamp
    → (n : ℕ) (i : Item) → slice_get f.items n ≡ Some i → i.name ≡ w.item.name → i ≡ w.item
same_item W w K f ours name stamp n i there named =
    let face : f ≡ w.face = W.can.agree f w.face ours K.face name stamp in
    let here : slice_get w.face.items n ≡ Some i = subst (λ (g : Face). slice_get g.items n ≡ Some i) face there in
    let place : n ≡ K.want.number = K.names n K.want.number i w.item here K.there named in
    one_there w.face.items K.want.number i w.item (subst (λ m. slice_get w.face.items m ≡ Some i) place here) K.there
