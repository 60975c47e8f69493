-- The laws of trees.
use Rattle.std.proofs.Common.{◌≡◌, ℕ, zero, suc, ◌+◌, ◌≤◌, inl, inr, Bool, true, false, List, [], ◌∷◌, All, get_or, nat_lt, Option, Some, None, Ok, Err, MatchResult, slice_get, refl, sym, subst, ◌∙◌, arith, if◌then◌else◌}
use Rattle.std.proofs.lemmas.Bool.{ltb-false}
use Rattle.std.proofs.lemmas.Option.{none-some, slice_get-get_or}
use Rattle.std.proofs.lemmas.List.Elements.{All-nil, All-cons}
use Rattle.mesa_base.specs.Name.{IsName}
use Rattle.mesa_base.specs.declared.limits.TheConstants.{CONFIGURATION_DEPTH}
use Rattle.mesa_types.specs.declared.faces.Shape.{Shape}
use Rattle.cmesa_grammar.specs.Syntax.{Place, Identifier, Config}
use Rattle.cmesa_grammar.specs.declared.syntax.Heading.{Heading}
use Rattle.config_rules.specs.Components.{components, names_of}
use Rattle.config_rules.specs.Template.{Template, Gone, Parts, NoParts, AndModule, AndNested, heading_in, parts_in, depth_of, depth_below}
use Rattle.config_rules.specs.Through.{Answer, Module}
use Rattle.config_rules.specs.Grown.{pairs, instances_in, grown}
use Rattle.config_rules.specs.Tree.{too_nested, made, modules_with, Agreed, IsTree, IsSingle, single_tree, first_place}
use Rattle.config_rules.specs.declared.fault.TreeCause.TheVariants.{InterfaceDiffers}
use Rattle.config_rules.specs.declared.fault.TreeFault.TheVariants.{At}
use Rattle.config_rules.specs.declared.tree.RecordPair.{RecordPair}
use Rattle.config_rules.specs.declared.tree.Tree.{Tree}
use Rattle.config_rules.specs.declared.tree.TreeInstance.{TreeInstance}
use Rattle.config_rules.proofs.Answers.{went, err_ok, ok_same, no_place}
use Rattle.config_rules.proofs.Members.{Mem, mem_get}
use Rattle.link_tables.specs.Linked.{outermost_exports}
use Rattle.spelled_trees.specs.Laws.{TreesCanBeSpelled, SinglesCanBeSpelled}
use Rattle.spelled_trees.specs.Names.{Named, HasNames}
use Rattle.spelled_trees.specs.Paths.{PathCanBeSpelled, PathsAndRecords}
use Rattle.spelled_trees.proofs.Apart.{apart_get, template_apart}
use Rattle.spelled_trees.proofs.Beneath.{Beneath, template_beneath}
use Rattle.spelled_trees.proofs.Gone.{TemplateSpelled, outermost_spelled, outermost_heading, heading_named}

-- ---- depths

none_of : (b : Bool) (p : Place) (o : Option Place) → (if b then Some p else o) ≡ None → (b ≡ false) × (o ≡ None)
none_of true p o h = absurd (none-some p (sym h))
none_of false p o h = (refl, h)

few_below : (ps : Parts) → too_nested ps ≡ None → depth_below ps ≤ CONFIGURATION_DEPTH
unfolding too_nested depth_below
few_below NoParts h = omega arith
few_below (AndModule p c ps) h = let q : depth_below ps ≤ 32 = few_below ps h in omega (arith, q)
few_below (AndNested p t ps) h =
    let r = none_of (nat_lt CONFIGURATION_DEPTH (1 + depth_of t)) p.place (too_nested ps) h in
    let le : 1 + depth_of t ≤ 32 = ltb-false CONFIGURATION_DEPTH (1 + depth_of t) r.0 in
    let q : depth_below ps ≤ 32 = few_below ps r.1 in
    omega (arith, q, le)

few_in : (t : Template) → too_nested (parts_in t) ≡ None → depth_of t ≤ CONFIGURATION_DEPTH
unfolding parts_in depth_of
few_in (Gone h ps) e = few_below ps e

-- ---- paths and records

path_spelled : (most : ℕ) (path : List (List ℕ)) → most ≤ CONFIGURATION_DEPTH → Beneath [] most [] path → PathCanBeSpelled path
path_spelled most path le b =
    let few = b.few in
    let all : PathCanBeSpelled (b.first ∷ b.rest) = record { some = omega arith; few = omega (arith, few, le); names = b.named } in
    subst PathCanBeSpelled (sym b.is) all

all_by : (P : TreeInstance → Type 0) (xs : List TreeInstance) → ((x : TreeInstance) → Mem x xs → P x) → All P xs
all_by P xs f k d l = f (get_or xs k d) (mem_get xs k (get_or xs k d) (slice_get-get_or xs k d l))

pairs_named : (is : List Identifier) (ys : List (List ℕ)) → All Named is → All (λ (r : RecordPair). IsName r.inside) (pairs (names_of is) ys)
unfolding pairs
pairs_named [] ys h = All-nil (λ (r : RecordPair). IsName r.inside)
pairs_named (i ∷ is) [] h = All-nil (λ (r : RecordPair). IsName r.inside)
pairs_named (i ∷ is) (y ∷ ys) h =
    All-cons (λ (r : RecordPair). IsName r.inside) (record { inside = i.name; outside = y }) (pairs (names_of is) ys) (h zero i (omega arith))
    (pairs_named is ys (λ k d less. h (suc k) d (omega (arith, less))))

grown_spelled : (modules : List Module) (t : Template) → TemplateSpelled t → depth_of t ≤ CONFIGURATION_DEPTH → All Named (heading_in t).exports → PathsAndRecords (grown modules t)
unfolding grown outermost_exports
grown_spelled modules t g few named = record {
  paths = all_by (λ (x : TreeInstance). PathCanBeSpelled x.path) (instances_in modules [] 0 1 t) (λ x m. path_spelled (depth_of t) x.path few (template_beneath modules [] 0 1 t g x m));
  differ = apart_get (instances_in modules [] 0 1 t) (template_apart modules [] 0 1 t g);
  records = pairs_named (heading_in t).exports (names_of (heading_in t).exports) named;
}

-- ---- the laws

made_spelled : (modules : List Module) (c : Config) (t : Tree) → HasNames c → made modules c.outermost ≡ Ok t → PathsAndRecords t
unfolding made
made_spelled modules c t n e =
    let w1 = went _ _ t e in
    let w2 = went _ _ t w1.went_on in
    let w3 = went _ _ t w2.went_on in
    let exports : All Named (heading_in w1.value).exports =
    subst (λ (h : Heading). All Named h.exports) (sym (outermost_heading modules c.outermost w1.value w1.is)) (heading_named c.outermost n.outermost).exports in
    subst PathsAndRecords (ok_same (grown modules w1.value) t w3.went_on)
    (grown_spelled modules w1.value (outermost_spelled modules c.outermost w1.value n.outermost w1.is) (few_in w1.value (no_place _ _ w2.value w2.is)) exports)

pub trees_can_be_spelled : TreesCanBeSpelled
unfolding IsTree
trees_can_be_spelled c shapes t n h = by (made modules c.outermost) refl h
  where
    modules : List Module
    modules = modules_with (components c) shapes

    by : (a : Answer Tree) → made modules c.outermost ≡ a → MatchResult a (λ tree. Agreed (components c) shapes tree (Ok t)) (λ fault. Ok t ≡ Err fault) → PathsAndRecords t
    by (Err fault) e k = absurd (err_ok fault t (sym k))
    by (Ok tree) e (inl k) = made_spelled modules c t n (e ∙ sym k.1)
    by (Ok tree) e (inr k) = absurd (err_ok (At InterfaceDiffers k.1.place) t (sym k.4))

single_spelled : (x : Shape) → IsName x.name → PathsAndRecords (single_tree x)
unfolding single_tree outermost_exports
single_spelled x n = record {
  paths = All-cons (λ (i : TreeInstance). PathCanBeSpelled i.path) _ [] (record { some = omega arith; few = omega arith; names = All-cons IsName x.name [] n (All-nil IsName) })
      (All-nil (λ (i : TreeInstance). PathCanBeSpelled i.path));
  differ = alone;
  records = All-nil (λ (r : RecordPair). IsName r.inside);
}
  where
    alone : (j k : ℕ) (a b : TreeInstance) → slice_get (single_tree x).instances j ≡ Some a → slice_get (single_tree x).instances k ≡ Some b → a.path ≡ b.path → j ≡ k
    alone zero zero a b e f same = refl
    alone zero (suc k) a b e f same = absurd (none-some b f)
    alone (suc j) k a b e f same = absurd (none-some a e)

pub singles_can_be_spelled : SinglesCanBeSpelled
unfolding IsSingle
singles_can_be_spelled x t n (inl h) = subst PathsAndRecords (sym (ok_same t (single_tree x) h.1)) (single_spelled x n)
singles_can_be_spelled x t n (inr h) = absurd (err_ok (At InterfaceDiffers first_place) t (sym h.1))
