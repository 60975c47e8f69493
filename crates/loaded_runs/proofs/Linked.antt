-- The interface of each link of an instance, and those whose links are left to the loader.
use Rattle.std.proofs.Common.{◌≡◌, ℕ, zero, suc, inl, inr, Bool, true, false, List, [], ◌∷◌, ◌++◌, length, map, flat_map, Option, Some, None, slice_get, eq-eqb, refl, sym, ap, subst, ◌∙◌, if◌then◌else◌, arith}
use Rattle.std.proofs.lemmas.List.{map-append}
use Rattle.std.proofs.lemmas.Option.{none-some, same_Some}
use Rattle.mesa_types.specs.Links.{items_used}
use Rattle.mesa_types.specs.declared.faces.Face.{Face}
use Rattle.mesa_types.specs.declared.faces.Import.{Import}
use Rattle.mesa_types.specs.declared.faces.Item.{Item}
use Rattle.mesa_types.specs.declared.faces.Shape.{Shape}
use Rattle.object_files.specs.declared.image.Image.{Image}
use Rattle.object_files.specs.declared.image.Instance.{Instance}
use Rattle.object_files.specs.declared.image.Link.{Link}
use Rattle.object_files.specs.declared.image.Link.TheVariants.{Wanted}
use Rattle.config_rules.specs.declared.tree.Tree.{Tree}
use Rattle.config_rules.specs.declared.tree.TreeInstance.{TreeInstance}
use Rattle.config_rules.specs.Resolves.{Want, want, wants_of, wants_in}
use Rattle.config_rules.proofs.Members.{Mem, map_get}
use Rattle.bound_images.specs.link_tables.specs.Linked.{link_of, links_of, image_of, instance_of}
use Rattle.bound_images.proofs.Modules.{World, linked}
use Rattle.bound_images.proofs.Standing.{all_wanted, object_for}
use Rattle.loader_rules.specs.Exporters.{module_at}
use Rattle.loader_rules.specs.LoadFaults.{faces_linked, is_link_to, faces_among, faces_in, faces_to}
use Rattle.loader_rules.proofs.Lists.{mem_front, mem_behind}

-- ---- the faces of links are those of what is wanted, in order

abbrev face_of : Want → Face
face_of w = w.face

abbrev import_faces : Import → List Face
import_faces m = map (λ (used : Item). m.face) (items_used m.face.items m.used)

module _ (t : Tree) (x : TreeInstance) where
  abbrev wants_by : List ℕ → Face → List ℕ → List Want
  wants_by r face ns = flat_map (λ n. want t x r face (slice_get face.items n)) ns

  by_faces : (r : List ℕ) (face : Face) (ns : List ℕ) → map face_of (wants_by r face ns) ≡ map (λ (used : Item). face) (items_used face.items ns)
  unfolding want items_used
  by_faces r face [] = refl
  by_faces r face (n ∷ ns) = by (slice_get face.items n) refl (by_faces r face ns)
    where
      by : (o : Option Item) → slice_get face.items n ≡ o → map face_of (wants_by r face ns) ≡ map (λ (used : Item). face) (items_used face.items ns)
          → map face_of (wants_by r face (n ∷ ns)) ≡ map (λ (used : Item). face) (items_used face.items (n ∷ ns))
      by None e h = rw e h
      by (Some i) e h = rw e (ap (λ l. face ∷ l) h)

  pub are_of_faces : (rs : List (List ℕ)) (ms : List Import) → length rs ≡ length ms → map face_of (wants_of t x rs ms) ≡ flat_map import_faces ms
  unfolding wants_of
  are_of_faces [] [] h = refl
  are_of_faces [] (m ∷ ms) h = absurd (omega (arith, h))
  are_of_faces (r ∷ rs) [] h = absurd (omega (arith, h))
  are_of_faces (r ∷ rs) (m ∷ ms) h =
      map-append face_of (wants_by r m.face m.used) (wants_of t x rs ms)
      ∙ (λ j. by_faces r m.face m.used j ++ are_of_faces rs ms (omega (arith, h)) j)

-- ---- the interface of a link that is left to the loader is among those that link to its item

among_there : (m : ℕ) (fs : List Face) (ls : List Link) (n : ℕ) (f : Face) → slice_get fs n ≡ Some f → slice_get ls n ≡ Some (Wanted m) → Mem f (faces_among m fs ls)
unfolding faces_among
among_there m [] ls n f e g = absurd (none-some f e)
among_there m (h ∷ fs) [] n f e g = absurd (none-some (Wanted m) g)
among_there m (h ∷ fs) (l ∷ ls) zero f e g = by (is_link_to m l) (subst (λ y. is_link_to m y ≡ true) (sym (same_Some l (Wanted m) g)) (eq-eqb m m refl))
  where
    by : (b : Bool) → b ≡ true → Mem f (if b then h ∷ faces_among m fs ls else faces_among m fs ls)
    by true t = inl (same_Some h f e)
    by false t = absurd cc
among_there m (h ∷ fs) (l ∷ ls) (suc n) f e g = by (is_link_to m l) (among_there m fs ls n f e g)
  where
    by : (b : Bool) → Mem f (faces_among m fs ls) → Mem f (if b then h ∷ faces_among m fs ls else faces_among m fs ls)
    by true t = inr t
    by false t = t

in_tables : (i : Image) (m : ℕ) (xs : List Instance) (lss : List (List Link)) (j : ℕ) (x : Instance) (table : List Link) (n : ℕ) (f : Face)
    → slice_get xs j ≡ Some x → slice_get lss j ≡ Some table → slice_get (faces_linked (module_at i (Some x))) n ≡ Some f → slice_get table n ≡ Some (Wanted m) → Mem f (faces_in i m xs lss)
unfolding faces_in
in_tables i m [] lss j x table n f at is e g = absurd (none-some x at)
in_tables i m (y ∷ xs) [] j x table n f at is e g = absurd (none-some table is)
in_tables i m (y ∷ xs) (t ∷ lss) zero x table n f at is e g =
    mem_front (faces_among m (faces_linked (module_at i (Some y))) t) (faces_in i m xs lss) f
    (among_there m (faces_linked (module_at i (Some y))) t n f
    (subst (λ (z : Instance). slice_get (faces_linked (module_at i (Some z))) n ≡ Some f) (sym (same_Some y x at)) e)
    (subst (λ (ls : List Link). slice_get ls n ≡ Some (Wanted m)) (sym (same_Some t table is)) g))
in_tables i m (y ∷ xs) (t ∷ lss) (suc j) x table n f at is e g =
    mem_behind (faces_among m (faces_linked (module_at i (Some y))) t) (faces_in i m xs lss) f (in_tables i m xs lss j x table n f at is e g)

-- so it is of a built image
module _ (W : World) (j : ℕ) (x : TreeInstance) (at : slice_get W.tree.instances j ≡ Some x) where
  pub links_to : (number m : ℕ) (w : Want) → slice_get (wants_in W.tree x) number ≡ Some w → link_of (all_wanted W) w ≡ Wanted m → Mem w.face (faces_to (linked W) m)
  unfolding image_of
  links_to number m w there is =
      let O = object_for W j x at in
      let object : module_at (linked W) (Some (instance_of W.tree.instances x)) ≡ Some O.object = O.there in
      let imports = ap (λ (s : Shape). flat_map import_faces s.imports) (O.is.shape ∙ O.its.shape) in
      let faces = are_of_faces W.tree x x.imports x.shape.imports (W.built.tree.instances j x at).imports in
      in_tables (linked W) m (linked W).instances (linked W).links j (instance_of W.tree.instances x) (links_of W.tree x) number w.face
      (map_get (instance_of W.tree.instances) W.tree.instances j x at)
      (map_get (links_of W.tree) W.tree.instances j x at)
      (ap (λ o. slice_get (faces_linked o) number) object ∙ (ap (λ l. slice_get l number) (imports ∙ sym faces) ∙ map_get face_of (wants_in W.tree x) number w there))
      (map_get (link_of (all_wanted W)) (wants_in W.tree x) number w there ∙ ap Some is)
