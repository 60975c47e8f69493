-- What an instance of a text's module adds to an image is bounded by the text's size.
use Rattle.std.specs.Prelude.{ℕ, ◌+◌, ◌*◌, ◌≤◌, List, [], ◌∷◌, length}
use Rattle.std.proofs.Common.{arith}
use Rattle.syntax_trees.specs.PlainSyntax.{syntax}
use Rattle.mesa_types.specs.declared.faces.Import.{Import}
use Rattle.checking_laws.specs.Sizes.{imports_count, interfaces_count}
use Rattle.checking_laws.specs.UsedItems.{used_items}
use Rattle.checking_laws.specs.Weights.{one_each, kind_weight, module_weight}
use Rattle.file_sizes.specs.Sizes.{total, item_size, face_size}
use Rattle.file_sizes.proofs.Interfaces.{interfaces_are_sized}
use Rattle.object_sizes.specs.Laws.{InstancesAreShort}
use Rattle.object_sizes.specs.TextSizes.{files_size, text_size, shape_cost}
use Rattle.object_sizes.proofs.Faces.{faces_given}
use Rattle.object_sizes.proofs.Objects.{sized_by, text_by, kind_within}
use Rattle.object_sizes.proofs.Once.{built_ins, built_in_once}

-- the items of a face are a part of it
items_within : (all : List Import) → total (λ (i : Import). total item_size i.face.items) all ≤ imports_count face_size all
unfolding total imports_count
items_within [] = omega arith
items_within (i ∷ all) = omega (arith, interfaces_are_sized.faces i.face, items_within all)

together : (used imports exports items kind names bytes faces files ones : ℕ) → imports + exports + used ≤ kind → kind ≤ names → 2 * names ≤ bytes + 1
    → items ≤ faces → faces ≤ files + 200 * ones → ones ≤ 1 → 271 * used + items + 264 * exports ≤ 160 * bytes + 4 * files + 1000
together used imports exports items kind names bytes faces files ones a b c d e f = omega (arith, a, b, c, d, e, f)

pub instances_are_short : InstancesAreShort
unfolding text_size shape_cost
instances_are_short text x is m h =
    let sized = sized_by x is m h.its in
    let tree = text_by text x is m h in
    let items : total (λ (i : Import). total item_size i.face.items) m.imports ≤ interfaces_count face_size is =
    omega (arith, items_within m.imports, sized.imported face_size) in
    together (used_items m.imports) (length m.imports) (length m.exports) (total (λ (i : Import). total item_size i.face.items) m.imports)
    (kind_weight one_each (syntax x).kind) (module_weight one_each (syntax x)) (length text) (interfaces_count face_size is) (files_size x.directory is)
    (built_ins x.directory) sized.named (kind_within x) tree.names items (faces_given x.directory is h.given) (built_in_once (syntax x) is m h.its)
