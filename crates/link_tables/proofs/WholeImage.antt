-- The parts are those of the image.
use Rattle.std.proofs.Common.{◌≡◌, ℕ, ◌<◌, List, [], length, get_or, All, Some, slice_get, sym, subst, ◌∙◌, arith}
use Rattle.std.proofs.lemmas.List.Elements.{All-get_or}
use Rattle.std.proofs.lemmas.Option.{slice_get_within, slice_get-get_or, get_or_from_slice_get}
use Rattle.object_files.specs.declared.image.Image.{Image}
use Rattle.object_files.specs.declared.object.Object.{Object}
use Rattle.config_rules.specs.Bindings.{bindings_of}
use Rattle.config_rules.specs.InOrder.{TreeIn}
use Rattle.config_rules.specs.declared.tree.Tree.{Tree}
use Rattle.config_rules.specs.declared.tree.TreeInstance.{TreeInstance}
use Rattle.config_rules.proofs.Members.{mapped_length}
use Rattle.link_tables.specs.Linked.{image_of}
use Rattle.link_tables.specs.Modules.{marked}
use Rattle.link_tables.specs.Parts.{shapes_of, Fits, ArePlain, tables_in}
use Rattle.link_tables.specs.Passes.{tables, all_tables}
use Rattle.link_tables.specs.declared.linking.LinkedTables.{LinkedTables}
use Rattle.link_tables.specs.declared.linking.Plain.{Plain}
use Rattle.link_tables.proofs.Marking.{marked_kept}
use Rattle.link_tables.proofs.Passing.{passes_link}

-- the components of a tree's instances are there
pub tree_fits : (os : List Object) (t : Tree) → TreeIn (shapes_of os) t → Fits (length os) t
tree_fits os t tree = λ k d less.
    let x = get_or t.instances k d in
    let within : x.component < length (shapes_of os) = slice_get_within (shapes_of os) x.component x.shape (tree.instances k x (slice_get-get_or t.instances k d less)).its in
    let same : length (shapes_of os) ≡ length os = mapped_length (λ (o : Object). o.shape) os in
    omega (arith, within, same)

pub numbers_fit : (many : ℕ) (xs ys : List TreeInstance) (numbers : List ℕ) → ys ≡ xs → length numbers ≡ many → All (λ (x : TreeInstance). x.component < many) xs
    → All (λ (x : TreeInstance). x.component < length numbers) ys
numbers_fit many xs ys numbers is so_many fits =
    subst (λ (zs : List TreeInstance). All (λ (x : TreeInstance). x.component < length numbers) zs) (sym is)
    (subst (λ n. All (λ (x : TreeInstance). x.component < n) xs) (sym so_many) fits)

-- an instance at a place is one of them
pub at_place : (many : ℕ) (xs : List TreeInstance) → All (λ (x : TreeInstance). x.component < many) xs → (j : ℕ) (y : TreeInstance) → slice_get xs j ≡ Some y → y.component < many
at_place many xs fits j y h =
    subst (λ (x : TreeInstance). x.component < many) (get_or_from_slice_get xs j y y h)
    (All-get_or (λ (x : TreeInstance). x.component < many) xs j y (slice_get_within xs j y h) fits)

pub whole : (os : List Object) (t : Tree) (p : Plain) (l : LinkedTables) (image : Image) → TreeIn (shapes_of os) t → ArePlain (length os) t p
    → tables_in l ≡ all_tables (bindings_of t) (tables [] []) t.instances
    → image ≡ record { modules = marked os p.marks.items; wanted = l.wanted; instances = p.instances; links = l.links; offered = p.offered; control = p.control }
    → image ≡ image_of t os
unfolding image_of
whole os t p l image tree plain linked is =
    let all = linked ∙ passes_link t (λ j x h. (tree.instances j x h).imports) in
    is
    ∙ (λ j. record {
      modules = marked_kept t.instances 0 os p.marks.items plain.marks j;
      wanted = (all j).wanted;
      instances = plain.instances j;
      links = (all j).tables;
      offered = plain.offered j;
      control = plain.control j;
    })
