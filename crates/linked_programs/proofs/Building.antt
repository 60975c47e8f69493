-- The objects of modules, and the image that is built from them.
use Rattle.std.proofs.Common.{◌≡◌, ℕ, zero, suc, ◌+◌, ◌≤◌, ◌⊎◌, inl, inr, ⊎_elim, List, [], ◌∷◌, ◌++◌, length, Some, None, slice_get, Result, Ok, Err, IfOk, refl, sym, ap, subst, ◌∙◌, arith}
use Rattle.std.proofs.lemmas.Option.{none-some, same_Some, slice_get_within, get_or_from_slice_get}
use Rattle.mesa_types.specs.Typed.{Module}
use Rattle.mesa_types.specs.declared.faces.Shape.{Shape}
use Rattle.code_forms.specs.declared.module_code.ModuleCode.{ModuleCode}
use Rattle.object_files.specs.declared.image.Image.{Image}
use Rattle.object_files.specs.declared.object.Object.{Object}
use Rattle.config_rules.specs.InOrder.{TreeIn}
use Rattle.config_rules.specs.Resolves.{wants, first_bad}
use Rattle.config_rules.specs.declared.tree.Tree.{Tree}
use Rattle.built_runs.specs.link_tables.specs.Linked.{image_of}
use Rattle.built_runs.specs.link_tables.specs.Parts as parts
use Rattle.frame_code.specs.Code.{IsCodeOf}
use Rattle.built_runs.specs.bound_images.specs.Programs.{shape_of}
use Rattle.built_runs.specs.Linked.{IsLinkedFrom}
use Rattle.linked_programs.specs.Laws.{IsOfShapes, LinkedImagesAreBuilt}
use Rattle.linked_programs.specs.Modules.{AllCanBeLinked, CanBeLinked, shapes_of}
use Rattle.linked_programs.specs.Objects.{AreObjectsOf, IsObjectOf}
use Rattle.linked_programs.proofs.InOrder.{faces_differ}

-- ---- objects

-- the code that is chosen for a module makes its object
pub object_is : (m : Module) (s : Shape) (c : ModuleCode) → s ≡ shape_of m → IsCodeOf m c → IsObjectOf m (record { shape = s; code = c })
object_is m s c same h = record {
  object = record {
    shape = same;
    code = h.stands.code_for;
    valid = h.stands.valid;
    texts = λ k d l. record { bytes = h.bytes k d l; short = omega (arith, h.stands.ranges.each_string k d l) };
  };
  chosen = h;
}

-- what stands in a list with one element more
in_longer : {A : Type 0} (xs : List A) (x y : A) (k : ℕ) → slice_get (xs ++ x ∷ []) k ≡ Some y → (slice_get xs k ≡ Some y) ⊎ ((k ≡ length xs) × (x ≡ y))
in_longer [] x y zero e = inr (refl, same_Some x y e)
in_longer [] x y (suc k) e = absurd (none-some y e)
in_longer (z ∷ xs) x y zero e = inl e
in_longer (z ∷ xs) x y (suc k) e = ⊎_elim (λ h. inl h) (λ h. inr (ap suc h.0, h.1)) (in_longer xs x y k e)

-- the first so many modules have their objects
pub record FirstObjects (modules : List Module) (count : ℕ) (all : List Object) : Type 0 where
  pub as_many : length all ≡ count
  pub within : count ≤ length modules
  pub each : (c : ℕ) (m : Module) (o : Object) → slice_get modules c ≡ Some m → slice_get all c ≡ Some o → IsObjectOf m o

pub no_objects : (modules : List Module) (all : List Object) → all ≡ [] → FirstObjects modules 0 all
no_objects modules all e =
    subst (FirstObjects modules 0) (sym e) (record { as_many = refl; within = omega arith; each = λ c m o a b. absurd (none-some o b) })

pub one_more : (modules : List Module) (count : ℕ) (all : List Object) (m : Module) (o : Object) → FirstObjects modules count all → slice_get modules count ≡ Some m
    → IsObjectOf m o → FirstObjects modules (count + 1) (all ++ o ∷ [])
one_more modules count all m o h at is = record {
  as_many = longer;
  within = let l = slice_get_within modules count m at in omega (arith, l);
  each = each;
}
  where
    length_more : (os : List Object) → length (os ++ o ∷ []) ≡ length os + 1
    length_more [] = refl
    length_more (x ∷ os) = let e = length_more os in omega (arith, e)

    longer : length (all ++ o ∷ []) ≡ count + 1
    longer = let e = length_more all in let f = h.as_many in omega (arith, e, f)

    each : (c : ℕ) (n : Module) (p : Object) → slice_get modules c ≡ Some n → slice_get (all ++ o ∷ []) c ≡ Some p → IsObjectOf n p
    each c n p a b =
        ⊎_elim
        (λ e. h.each c n p a e)
        (λ e.
        let same : m ≡ n = same_Some m n (sym at ∙ (ap (slice_get modules) (sym (e.0 ∙ h.as_many)) ∙ a)) in
        subst (λ q. IsObjectOf q p) same (subst (λ q. IsObjectOf m q) e.1 is))
        (in_longer all o p c b)

pub all_objects : (modules : List Module) (count : ℕ) (all : List Object) → length modules ≤ count → FirstObjects modules count all → AreObjectsOf modules all
all_objects modules count all l h = record { as_many = let a = h.as_many in let b = h.within in omega (arith, l, a, b); each = h.each }

-- they have the shapes of the modules
same_shapes : (modules : List Module) (all : List Object) → length all ≡ length modules
    → ((c : ℕ) (m : Module) (o : Object) → slice_get modules c ≡ Some m → slice_get all c ≡ Some o → o.shape ≡ shape_of m) → parts.shapes_of all ≡ shapes_of modules
same_shapes [] [] e h = refl
same_shapes [] (o ∷ os) e h = absurd (omega (arith, e))
same_shapes (m ∷ ms) [] e h = absurd (omega (arith, e))
same_shapes (m ∷ ms) (o ∷ os) e h =
    ap (λ s. s ∷ parts.shapes_of os) (h zero m o refl refl)
    ∙ ap (λ ss. shape_of m ∷ ss) (same_shapes ms os (omega (arith, e)) (λ c n p a b. h (suc c) n p a b))

pub shapes_are : (modules : List Module) (all : List Object) → AreObjectsOf modules all → parts.shapes_of all ≡ shapes_of modules
shapes_are modules all h = same_shapes modules all h.as_many (λ c m o a b. (h.each c m o a b).object.shape)

-- ---- modules by their numbers

pub linkable : (modules : List Module) → AllCanBeLinked modules → (c : ℕ) (m : Module) → slice_get modules c ≡ Some m → CanBeLinked m
linkable modules h c m e = subst CanBeLinked (get_or_from_slice_get modules c m m e) (h c m (slice_get_within modules c m e))

-- ---- images

pub built : LinkedImagesAreBuilt
built t modules objects image of_shapes can are none is = record {
  tree = of_shapes.tree;
  agree = of_shapes.agree;
  sound = λ c m e. (linkable modules can c m e).sound;
  differ = λ c m e f at. faces_differ m (linkable modules can c m e) f at;
  as_many = are.as_many;
  coded = λ c m o e f. (are.each c m o e f).object;
  none_bad = none;
  linked = is;
}

pub link_tree : (t : Tree) (modules : List Module) (objects : List Object) → AreObjectsOf modules objects → IsOfShapes (shapes_of modules) t → TreeIn (parts.shapes_of objects) t
link_tree t modules objects are h = subst (λ ss. TreeIn ss t) (sym (shapes_are modules objects are)) h.tree

pub all_linked : {E : Type 0} (t : Tree) (modules : List Module) (objects : List Object) (r : Result Image E) → IsOfShapes (shapes_of modules) t → AllCanBeLinked modules
    → AreObjectsOf modules objects → first_bad (wants t) ≡ None → IfOk r (λ image. image ≡ image_of t objects) → IfOk r (IsLinkedFrom t modules)
all_linked t modules objects (Ok image) of_shapes can are none is = (objects, built t modules objects image of_shapes can are none is)
all_linked t modules objects (Err e) of_shapes can are none is = tt
