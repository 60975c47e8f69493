-- Copies of the shapes of objects, one after the other.
use Rattle.std.proofs.Common.{◌≡◌, ℕ, ◌+◌, ◌<◌, List, [], ◌∷◌, ◌++◌, length, take, get_or, sym, ap, ◌∙◌}
use Rattle.std.proofs.lemmas.List.{length-map, map_more}
use Rattle.mesa_types.specs.declared.faces.Shape.{Shape}
use Rattle.object_files.specs.declared.object.Object.{Object}
use Rattle.link_tables.specs.Parts.{shapes_of}

abbrev shape_in : Object → Shape
shape_in o = o.shape

pub one_more : (objects : List Object) (i : ℕ) (o : Object) (s : Shape) (old new : List Shape) → i < length objects → o ≡ get_or objects i o → s ≡ o.shape
    → new ≡ old ++ s ∷ [] → old ≡ shapes_of (take i objects) → new ≡ shapes_of (take (i + 1) objects)
one_more objects i o s old new less is same grown before =
    grown
    ∙ ap (λ ss. ss ++ s ∷ []) before
    ∙ ap (λ x. shapes_of (take i objects) ++ x ∷ []) (same ∙ ap shape_in is)
    ∙ sym (map_more shape_in objects i o less)

pub long_enough : (objects : List Object) (shapes : List Shape) (n : ℕ) → shapes ≡ shapes_of objects → length objects ≡ n → length shapes ≡ n
long_enough objects shapes n is e = ap length is ∙ length-map objects shape_in ∙ e
