-- Objects of one module, and images that are linked from such objects, have the same files.
use Rattle.std.proofs.Common.{◌≡◌, ℕ, zero, suc, List, [], ◌∷◌, ◌++◌, length, map, All, Bool, true, false, codes, refl, sym, ◌∙◌, ap, subst, arith}
use Rattle.std.specs.Prelude.{Option, if◌then◌else◌}
use Rattle.mesa_base.specs.Outside.{Files}
use Rattle.mesa_types.specs.Typed.{Module}
use Rattle.mesa_types.specs.declared.faces.Shape.{Shape}
use Rattle.code_forms.specs.Same.{bare}
use Rattle.code_blocks.specs.Modules.{Parts}
use Rattle.file_forms.specs.Files.{versioned}
use Rattle.command_rules.specs.frame_code.specs.Code.{parts_of as code_parts}
use Rattle.object_files.specs.declared.object.Object.{Object}
use Rattle.object_rules.specs.ImageFiles.{IsLinkedFile}
use Rattle.object_rules.specs.ImageForms.{ImagePart, parts_of_image, image_form}
use Rattle.object_rules.specs.ModuleForms.{module_form}
use Rattle.object_rules.specs.ObjectFiles.{IsModuleFile}
use Rattle.object_rules.specs.Parts.{ModulePart, parts_of, procedure_part, procedure_code, link_codes, IsWhole}
use Rattle.config_rules.specs.declared.tree.Tree.{Tree}
use Rattle.config_rules.specs.declared.tree.TreeInstance.{TreeInstance}
use Rattle.link_tables.specs.Linked.{has_instance, kept, image_of}
use Rattle.command_rules.specs.linked_programs.specs.Objects.{IsObjectOf, AreObjectsOf}
use Rattle.command_rules.specs.Comes.{each_holding}
use Rattle.command_rules.specs.Forms.{object_file}
use Rattle.command_rules.specs.Writing.{OfObject, OfImage, IsFileOf, size_of, Target, holding, Stores, StoresAll}
use Rattle.command_laws.proofs.Sizes.{sized}

-- ---- targets that have the same files

pub record IsLike (t u : Target) : Type 0 where
  pub file : t.file ≡ u.file
  pub size : size_of t.value ≡ size_of u.value
  pub holds : (bytes : List ℕ) → IsFileOf t.value bytes → IsFileOf u.value bytes

pub AreLike : List Target → List Target → Type 0
AreLike [] [] = Unit {0}
AreLike (t ∷ ts) (u ∷ us) = IsLike t u × AreLike ts us
AreLike _ _ = ⊥

pub same_sizes : (ts us : List Target) → AreLike ts us → map sized ts ≡ map sized us
unfolding AreLike
same_sizes [] [] h = refl
same_sizes [] (u ∷ us) h = absurd h
same_sizes (t ∷ ts) [] h = absurd h
same_sizes (t ∷ ts) (u ∷ us) h = λ i. record { file = h.0.file i; size = h.0.size i } ∷ same_sizes ts us h.1 i

pub stored_like : (ts us : List Target) → AreLike ts us → (old new : Option Files) → StoresAll ts old new → StoresAll us old new
unfolding AreLike StoresAll
stored_like [] [] h old new s = s
stored_like [] (u ∷ us) h old new s = absurd h
stored_like (t ∷ ts) [] h old new s = absurd h
stored_like (t ∷ ts) (u ∷ us) h old new s =
    (s.0, s.1, h.0.holds s.0 s.2, subst (λ f. Stores f s.0 old s.1) h.0.file s.3, stored_like ts us h.1 s.1 new s.4)

pub one_like : (t u : Target) → IsLike t u → AreLike (t ∷ []) (u ∷ [])
unfolding AreLike
one_like t u h = (h, tt)

-- ---- objects

-- they have the same parts, and where the first is whole so is the second
pub record IsAs (x y : Object) : Type 0 where
  pub parts : parts_of x ≡ parts_of y
  pub whole : IsWhole x → IsWhole y

pub AreAs : List Object → List Object → Type 0
AreAs [] [] = Unit {0}
AreAs (x ∷ xs) (y ∷ ys) = IsAs x y × AreAs xs ys
AreAs _ _ = ⊥

-- the parts of an object, by its shape and its code
parts_by : Shape → Parts → ModulePart
parts_by s c = record {
  name = s.name;
  imports = s.imports;
  global_words = c.globals;
  signals = c.signals;
  strings = c.strings;
  procedures = map procedure_part c.procedures;
  exports = s.exports;
}

record Fits (s : Shape) (c : Parts) : Type 0 where
  name : c.name ≡ s.name
  links : c.links ≡ link_codes s.imports
  entries : bare c.procedures ≡ map procedure_code (map procedure_part c.procedures)

pub one_object : (m : Module) (x y : Object) → IsObjectOf m x → IsObjectOf m y → IsAs x y
unfolding parts_by
one_object m x y of_x of_y =
    let shapes : x.shape ≡ y.shape = of_x.object.shape ∙ sym of_y.object.shape in
    let codes_same : code_parts x.code ≡ code_parts y.code = of_x.chosen.chosen ∙ sym of_y.chosen.chosen in
    record {
      parts = λ i. parts_by (shapes i) (codes_same i);
      whole = λ w.
          let fits : Fits y.shape (code_parts y.code) =
          subst (λ c. Fits y.shape c) codes_same (subst (λ s. Fits s (code_parts x.code)) shapes (record { name = w.name; links = w.links; entries = w.entries })) in
          record { name = fits.name; links = fits.links; entries = fits.entries; valid = of_y.object.valid };
    }

pub objects_as : (modules : List Module) (xs ys : List Object) → AreObjectsOf modules xs → AreObjectsOf modules ys → AreAs xs ys
unfolding AreAs
objects_as [] [] [] of_xs of_ys = tt
objects_as [] [] (y ∷ ys) of_xs of_ys = let e = of_ys.as_many in absurd (omega (arith, e))
objects_as [] (x ∷ xs) ys of_xs of_ys = let e = of_xs.as_many in absurd (omega (arith, e))
objects_as (m ∷ ms) [] ys of_xs of_ys = let e = of_xs.as_many in absurd (omega (arith, e))
objects_as (m ∷ ms) (x ∷ xs) [] of_xs of_ys = let e = of_ys.as_many in absurd (omega (arith, e))
objects_as (m ∷ ms) (x ∷ xs) (y ∷ ys) of_xs of_ys =
    let e = of_xs.as_many in let f = of_ys.as_many in (
      one_object m x y (of_xs.each zero m x refl refl) (of_ys.each zero m y refl refl),
      objects_as ms xs ys (record { as_many = omega (arith, e); each = λ c. of_xs.each (suc c) }) (record { as_many = omega (arith, f); each = λ c. of_ys.each (suc c) }),
    )

-- objects of the same parts that are whole
pub whole_as : (xs ys : List Object) → map parts_of xs ≡ map parts_of ys → All IsWhole ys → AreAs xs ys
unfolding AreAs
whole_as [] [] e whole = tt
whole_as [] (y ∷ ys) e whole = absurd cc
whole_as (x ∷ xs) [] e whole = absurd cc
whole_as (x ∷ xs) (y ∷ ys) e whole =
    let head : parts_of x ≡ parts_of y = cc in
    let tail : map parts_of xs ≡ map parts_of ys = cc in (
      record { parts = head; whole = λ w. whole zero y (omega arith) },
      whole_as xs ys tail (λ k d less. whole (suc k) d (omega (arith, less))),
    )

object_size : ModulePart → ℕ
object_size m = length (codes "MOB" ++ (versioned module_form).spell (2, m))

pub object_like : (file : List ℕ) (x y : Object) → IsAs x y → IsLike (holding file (OfObject x)) (holding file (OfObject y))
unfolding object_size
object_like file x y h = record {
  file = refl;
  size = ap object_size h.parts;
  holds = λ bytes it. record { file = subst (λ m. IsModuleFile 2 m bytes) h.parts it.file; whole = h.whole it.whole };
}

-- an object to each file, and then others
pub each_like : (bases : List (List ℕ)) (xs ys : List Object) (ts us : List Target) → AreAs xs ys → AreLike ts us
    → AreLike (each_holding bases xs ++ ts) (each_holding bases ys ++ us)
unfolding AreAs AreLike each_holding
each_like [] xs ys ts us h like = like
each_like (base ∷ bases) [] [] ts us h like = like
each_like (base ∷ bases) [] (y ∷ ys) ts us h like = absurd h
each_like (base ∷ bases) (x ∷ xs) [] ts us h like = absurd h
each_like (base ∷ bases) (x ∷ xs) (y ∷ ys) ts us h like = (object_like (object_file base) x y h.0, each_like bases xs ys ts us h.1 like)

-- ---- images

same_parts : (xs ys : List Object) → AreAs xs ys → map parts_of xs ≡ map parts_of ys
unfolding AreAs
same_parts [] [] h = refl
same_parts [] (y ∷ ys) h = absurd h
same_parts (x ∷ xs) [] h = absurd h
same_parts (x ∷ xs) (y ∷ ys) h = λ i. h.0.parts i ∷ same_parts xs ys h.1 i

all_whole : (xs ys : List Object) → AreAs xs ys → All IsWhole xs → All IsWhole ys
unfolding AreAs
all_whole [] [] h whole k d less = absurd (omega (arith, less))
all_whole [] (y ∷ ys) h whole k d less = absurd h
all_whole (x ∷ xs) [] h whole k d less = absurd h
all_whole (x ∷ xs) (y ∷ ys) h whole zero d less = h.0.whole (whole zero d (omega arith))
all_whole (x ∷ xs) (y ∷ ys) h whole (suc k) d less = all_whole xs ys h.1 (λ n e few. whole (suc n) e (omega (arith, few))) k d (omega (arith, less))

either_as : (here : Bool) (x y : Object) (xs ys : List Object) → IsAs x y → AreAs xs ys → AreAs (if here then x ∷ xs else xs) (if here then y ∷ ys else ys)
unfolding AreAs
either_as true x y xs ys e h = (e, h)
either_as false x y xs ys e h = h

kept_as : (instances : List TreeInstance) (n : ℕ) (xs ys : List Object) → AreAs xs ys → AreAs (kept instances n xs) (kept instances n ys)
unfolding AreAs kept
kept_as instances n [] [] h = tt
kept_as instances n [] (y ∷ ys) h = absurd h
kept_as instances n (x ∷ xs) [] h = absurd h
kept_as instances n (x ∷ xs) (y ∷ ys) h =
    either_as (has_instance instances n) x y (kept instances (suc n) xs) (kept instances (suc n) ys) h.0 (kept_as instances (suc n) xs ys h.1)

image_size : ImagePart → ℕ
image_size i = length (codes "MIM" ++ (versioned image_form).spell (2, i))

image_parts : (t : Tree) (xs ys : List Object) → AreAs xs ys → parts_of_image (image_of t xs) ≡ parts_of_image (image_of t ys)
unfolding image_of
image_parts t xs ys h =
    ap (λ modules. record (parts_of_image (image_of t xs)) { modules = modules }) (same_parts _ _ (kept_as t.instances 0 xs ys h))

image_whole : (t : Tree) (xs ys : List Object) → AreAs xs ys → All IsWhole (image_of t xs).modules → All IsWhole (image_of t ys).modules
unfolding image_of
image_whole t xs ys h whole = all_whole _ _ (kept_as t.instances 0 xs ys h) whole

pub image_like : (file : List ℕ) (t : Tree) (xs ys : List Object) → AreAs xs ys
    → IsLike (holding file (OfImage (image_of t xs))) (holding file (OfImage (image_of t ys)))
unfolding image_size
image_like file t xs ys h = record {
  file = refl;
  size = ap image_size (image_parts t xs ys h);
  holds = λ bytes it. record { file = subst (λ m. IsLinkedFile 2 m bytes) (image_parts t xs ys h) it.file; whole = image_whole t xs ys h it.whole };
}
