-- Loops over checked modules: their shapes and their objects, one after the other.
use Rattle.std.proofs.Common.{◌≡◌, ℕ, ◌+◌, ◌<◌, ◌≤◌, List, [], ◌∷◌, ◌++◌, length, map, take, get_or, Some, slice_get, refl, sym, ap, subst, ◌∙◌, arith}
use Rattle.std.proofs.lemmas.List.{map-append, take_more}
use Rattle.std.proofs.lemmas.Option.{slice_get_read}
use Rattle.mesa_types.specs.Plain.{plain}
use Rattle.mesa_types.specs.declared.faces.Shape.{Shape}
use Rattle.mesa_types.specs.declared.typed_tree.TypedModule.{TypedModule}
use Rattle.object_files.specs.declared.object.Object.{Object}
use Rattle.config_rules.proofs.Members.{map_get, mapped_length}
use Rattle.linked_programs.specs.Modules.{AllCanBeLinked, CanBeLinked, shape_in, shapes_of}
use Rattle.linked_programs.specs.Objects.{AreObjectsOf, IsObjectOf}
use Rattle.linked_programs.proofs.Building.{FirstObjects, linkable, one_more}

pub shapes_more : (modules : List TypedModule) (i : ℕ) (m : TypedModule) (s : Shape) (old new : List Shape) → i < length modules → get_or modules i m ≡ m → s ≡ shape_in m
    → new ≡ old ++ s ∷ [] → old ≡ map shape_in (take i modules) → new ≡ map shape_in (take (i + 1) modules)
shapes_more modules i m s old new less is same grown before =
    grown
    ∙ ap (λ l. l ++ s ∷ []) before
    ∙ ap (λ x. map shape_in (take i modules) ++ x ∷ []) same
    ∙ sym (map-append shape_in (take i modules) (m ∷ []))
    ∙ ap (map shape_in) (ap (λ x. take i modules ++ x ∷ []) (sym is) ∙ sym (take_more modules i m less))

two_maps : (modules : List TypedModule) → map shape_in modules ≡ shapes_of (map plain modules)
two_maps [] = refl
two_maps (m ∷ ms) = ap (λ ss. shape_in m ∷ ss) (two_maps ms)

pub whole_shapes : (modules slice : List TypedModule) (shapes : List Shape) → slice ≡ modules → shapes ≡ map shape_in slice → shapes ≡ shapes_of (map plain modules)
whole_shapes modules slice shapes same is = is ∙ ap (map shape_in) same ∙ two_maps modules

-- ---- objects

at_place : (modules : List TypedModule) (i : ℕ) (m : TypedModule) → i < length modules → m ≡ get_or modules i m → slice_get (map plain modules) i ≡ Some (plain m)
at_place modules i m less is = map_get plain modules i m (slice_get_read modules (length modules) i m refl less is)

pub can_be : (modules : List TypedModule) (i : ℕ) (m : TypedModule) → AllCanBeLinked (map plain modules) → i < length modules → m ≡ get_or modules i m → CanBeLinked (plain m)
can_be modules i m h less is = linkable (map plain modules) h i (plain m) (at_place modules i m less is)

pub next_object : (modules : List TypedModule) (i : ℕ) (m : TypedModule) (o : Object) (old new : List Object) → i < length modules → m ≡ get_or modules i m
    → FirstObjects (map plain modules) i old → IsObjectOf (plain m) o → new ≡ old ++ o ∷ [] → FirstObjects (map plain modules) (i + 1) new
next_object modules i m o old new less is h its grown =
    subst (FirstObjects (map plain modules) (i + 1)) (sym grown) (one_more (map plain modules) i old (plain m) o h (at_place modules i m less is) its)

pub so_long : (modules : List TypedModule) (i : ℕ) → length modules ≤ i → length (map plain modules) ≤ i
so_long modules i l = let e = mapped_length plain modules in omega (arith, l, e)

pub whole_objects : (modules slice : List TypedModule) (all : List Object) → slice ≡ modules → AreObjectsOf (map plain slice) all → AreObjectsOf (map plain modules) all
whole_objects modules slice all same h = subst (λ ms. AreObjectsOf (map plain ms) all) same h

pub whole_can : (modules slice : List TypedModule) → slice ≡ modules → AllCanBeLinked (map plain modules) → AllCanBeLinked (map plain slice)
whole_can modules slice same h = subst (λ ms. AllCanBeLinked (map plain ms)) (sym same) h

-- ---- trees

pub long_enough : (modules : List TypedModule) (shapes : List Shape) (n : ℕ) → shapes ≡ shapes_of (map plain modules) → length modules ≡ n → length shapes ≡ n
long_enough modules shapes n is e = ap length (is ∙ sym (two_maps modules)) ∙ mapped_length shape_in modules ∙ e
