-- Made trees are short.
use Rattle.std.specs.Prelude.{◌≡◌, ℕ, ◌≤◌, Bool, List, [], ◌∷◌, length, filter, flat_map, All, Ok}
use Rattle.std.proofs.Common.{subst, arith}
use Rattle.std.proofs.lemmas.List.Elements.{All-nil, All-head, All-tail, All-append, All-map, All-weaker}
use Rattle.mesa_base.specs.Name.{IsName}
use Rattle.cmesa_grammar.specs.Syntax.{Identifier, Configuration, Configured}
use Rattle.cmesa_grammar.specs.declared.syntax.Heading.{Heading}
use Rattle.object_files.specs.declared.image.Offer.{Offer}
use Rattle.config_rules.specs.Components.{names_of}
use Rattle.config_rules.specs.Exporters.{outlets, goes_to}
use Rattle.config_rules.specs.Grown.{pairs, control_of, grown}
use Rattle.config_rules.specs.Template.{Template, Gone, Parts, heading_in}
use Rattle.config_rules.specs.Through.{Module, each_name, headed, through}
use Rattle.config_rules.specs.Tree.{made, single_tree}
use Rattle.config_rules.specs.declared.fault.TreeCause.{TreeCause}
use Rattle.config_rules.specs.declared.tree.RecordPair.{RecordPair}
use Rattle.config_rules.specs.declared.tree.Tree.{Tree}
use Rattle.config_rules.specs.declared.tree.TreeInstance.{TreeInstance}
use Rattle.config_rules.proofs.Answers.{went, ok_same, passed}
use Rattle.config_rules.proofs.Made.{trees_are_in_order}
use Rattle.link_tables.specs.Linked.{outermost_exports, in_outermost, offer_of, offered_as, offers}
use Rattle.file_sizes.specs.Sizes.{total}
use Rattle.image_sizes.specs.Trees.{PathIsShort, TreeIsShort}
use Rattle.image_sizes.proofs.Wants.{short_name}
use Rattle.tree_sizes.specs.Laws.{IsNamedPath, TreeIsNamed, MadeTreesAreShort, SinglesAreShort}
use Rattle.tree_sizes.proofs.Offered.{OnceAmong, few_offers}
use Rattle.tree_sizes.proofs.Started.{Apart, once_apart, few_apart}

-- ---- names

path_short : (path : List (List ℕ)) → IsNamedPath path → PathIsShort path
path_short path h = record { few = h.few; names = All-weaker IsName (λ (x : List ℕ). length x ≤ 255) short_name path h.names }

module _ (t : Tree) where
  paths_short : TreeIsNamed t → All (λ (x : TreeInstance). PathIsShort x.path) t.instances
  paths_short h = All-weaker (λ (x : TreeInstance). IsNamedPath x.path) (λ (x : TreeInstance). PathIsShort x.path) (λ x p. path_short x.path p) t.instances h.paths

  offers_short : (rs : List RecordPair) → All (λ (r : RecordPair). IsName r.inside) rs → All (λ (o : Offer). length o.name ≤ 255) (flat_map (offered_as t) rs)
  offers_short [] h = All-nil (λ (o : Offer). length o.name ≤ 255)
  offers_short (r ∷ rs) h =
      All-append (λ (o : Offer). length o.name ≤ 255) (offered_as t r) (flat_map (offered_as t) rs)
      (All-map (λ (o : Offer). length o.name ≤ 255) (offer_of r.inside) (filter (goes_to t (in_outermost r.inside)) (outlets t))
      (λ k d l. short_name r.inside (All-head (λ (r : RecordPair). IsName r.inside) r rs h)))
      (offers_short rs (All-tail (λ (r : RecordPair). IsName r.inside) r rs h))

  records_short : TreeIsNamed t → All (λ (o : Offer). length o.name ≤ 255) (offers t)
  unfolding offers
  records_short h = offers_short (outermost_exports t.scopes) h.records

-- ---- the heading of the outermost configuration

names_once : (wrong : List ℕ → Bool) (cause : TreeCause) (before : List (List ℕ)) (is : List Identifier) (u : Unit {0}) → each_name wrong cause before is ≡ Ok u
    → OnceAmong before (pairs (names_of is) (names_of is))
unfolding each_name pairs
names_once wrong cause before [] u h = tt
names_once wrong cause before (i ∷ is) u h =
    let w1 = went _ _ u h in
    let w2 = went _ _ u w1.went_on in
    (passed _ _ i.place w1.value w1.is, names_once wrong cause (i.name ∷ before) is u w2.went_on)

abbrev exports_of : Template → List RecordPair
exports_of t = pairs (names_of (heading_in t).exports) (names_of (heading_in t).exports)

headed_once : (h : Heading) (ps : Parts) (t : Template) → headed h ps ≡ Ok t → OnceAmong [] (exports_of t)
unfolding headed heading_in
headed_once h ps t e =
    let w1 = went _ _ t e in
    let w2 = went _ _ t w1.went_on in
    let w3 = went _ _ t w2.went_on in
    subst (λ (x : Template). OnceAmong [] (exports_of x)) (ok_same (Gone h ps) t w3.went_on) (names_once _ _ [] h.exports w2.value w2.is)

through_once : (modules : List Module) (c : Configuration) (t : Template) → through modules 1 [] c ≡ Ok t → OnceAmong [] (exports_of t)
unfolding through
through_once modules (Configured h ss) t e =
    let w1 = went _ _ t e in
    let w2 = went _ _ t w1.went_on in
    headed_once h w2.value t w2.went_on

control_apart : (t : Template) → Apart [] (control_of 0 t)
unfolding control_of
control_apart (Gone h ps) = once_apart [] _

-- ---- the whole

short_with : (t : Tree) → TreeIsNamed t → length (offers t) ≤ total (λ (x : TreeInstance). length x.shape.exports) t.instances → length t.control ≤ length t.instances
    → TreeIsShort t
short_with t named offered started = record { paths = paths_short t named; records = records_short t named; offered = offered; started = started }

-- what is so of the tree that is grown
record IsGrown (t : Tree) : Type 0 where
  exported : OnceAmong [] (outermost_exports t.scopes)
  apart : Apart [] t.control

grown_is : (modules : List Module) (t : Template) → OnceAmong [] (exports_of t) → IsGrown (grown modules t)
unfolding grown outermost_exports
grown_is modules t h = record { exported = h; apart = control_apart t }

made_is : (modules : List Module) (c : Configuration) (t : Tree) → made modules c ≡ Ok t → IsGrown t
unfolding made
made_is modules c t e =
    let w1 = went _ _ t e in
    let w2 = went _ _ t w1.went_on in
    let w3 = went _ _ t w2.went_on in
    subst IsGrown (ok_same (grown modules w1.value) t w3.went_on) (grown_is modules w1.value (through_once modules c w1.value w1.is))

pub made_trees_are_short : MadeTreesAreShort
made_trees_are_short modules c t e named =
    let order = trees_are_in_order modules c t e in
    let its = made_is modules c t e in
    short_with t named (few_offers t order.inward its.exported) (few_apart t.control (length t.instances) its.apart order.control)

pub singles_are_short : SinglesAreShort
unfolding single_tree offers outermost_exports total
singles_are_short s named = short_with (single_tree s) named (omega arith) (omega arith)
