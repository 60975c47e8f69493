-- What modules mention: what stands before the declarations, each of them in turn, and what stands behind them.
use Rattle.std.proofs.Common.{◌≡◌, ◌<◌, ◌≤◌, ◌+◌, ℕ, List, [], ◌∷◌, ◌++◌, map, drop, length, get_or, refl, sym, ap, ◌∙◌, append_assoc}
use Rattle.std.proofs.lemmas.List.{append-nil, drop_more, drop_all}
use Rattle.mesa_base.specs.declared.identifier.Identifier.{Identifier}
use Rattle.mesa_base.specs.declared.place.Place.{Place}
use Rattle.syntax_trees.specs.PlainSyntax as plain
use Rattle.syntax_trees.specs.declared.syntax.Declaration.{Declaration}
use Rattle.syntax_trees.specs.declared.syntax.Defined.{Defined}
use Rattle.syntax_trees.specs.declared.syntax.Inner.{Inner}
use Rattle.syntax_trees.specs.declared.syntax.Labeled.{Labeled}
use Rattle.syntax_trees.specs.declared.syntax.ModuleKind.TheVariants.{Program, Interface}
use Rattle.check_rules.specs.Mentions.{Mention, of_phrase, of_stmts, of_exits, of_declared, of_declarations, of_defined, of_definitions, of_kind}
use Rattle.check_mentions.specs.Gathering.{Leaves}
use Rattle.check_mentions.specs.declared.gathered.Gathered.{Gathered}
use Rattle.check_mentions.proofs.GatherLaws.{all_is, joined, left_is, then, with_behind}

pub ruleset joins = (append_assoc)

abbrev pub Definitions : Type 0
Definitions = List (Labeled (List Identifier) Defined)

at_drop : {A : Type 0} (all : List A) (i : ℕ) (x : A) → i < length all → x ≡ get_or all i x → drop i all ≡ x ∷ drop (i + 1) all
at_drop all i x inside here = drop_more all i x inside ∙ ap (λ y. y ∷ drop (i + 1) all) (sym here)

pub declarations_at : (all : List Declaration) (i : ℕ) (x : Declaration) → i < length all → x ≡ get_or all i x
    → of_declarations (map plain.declaration (drop i all)) ≡ of_declared (plain.declared x.declared) ++ of_declarations (map plain.declaration (drop (i + 1) all))
unfolding of_declarations
declarations_at all i x inside here = ap (λ ds. of_declarations (map plain.declaration ds)) (at_drop all i x inside here)

pub declarations_out : (all : List Declaration) (i : ℕ) → length all ≤ i → of_declarations (map plain.declaration (drop i all)) ≡ []
unfolding of_declarations
declarations_out all i outside = ap (λ ds. of_declarations (map plain.declaration ds)) (drop_all i all outside)

pub definitions_at : (all : List (Labeled (List Identifier) Defined)) (i : ℕ) (x : Labeled (List Identifier) Defined) → i < length all → x ≡ get_or all i x
    → of_definitions (map plain.definition (drop i all)) ≡ of_defined (plain.defined x.item) ++ of_definitions (map plain.definition (drop (i + 1) all))
unfolding of_definitions
definitions_at all i x inside here = ap (λ ds. of_definitions (map plain.definition ds)) (at_drop all i x inside here)

pub definitions_out : (all : List (Labeled (List Identifier) Defined)) (i : ℕ) → length all ≤ i → of_definitions (map plain.definition (drop i all)) ≡ []
unfolding of_definitions
definitions_out all i outside = ap (λ ds. of_definitions (map plain.definition ds)) (drop_all i all outside)

pub of_program : (p : Place) (imports exports opens : List Identifier) (x : Inner) → of_kind (plain.kind (Program p imports exports opens x))
    ≡ of_phrase (plain.phrase x.enable) ++ (of_declarations (map plain.declaration x.declarations) ++ (of_stmts (plain.statements x.statements) ++ of_exits (plain.exits x.exits)))
unfolding of_kind
of_program p imports exports opens x = refl

pub of_interface : (p : Place) (opens : List Identifier) (ds : List (Labeled (List Identifier) Defined)) → of_kind (plain.kind (Interface p opens ds)) ≡ of_definitions (map plain.definition ds)
unfolding of_kind
of_interface p opens ds = refl

-- the mentions of one tree are read, which is all that was put ahead of nothing
pub read : (a b : Gathered) (none all xs : List Mention) → none ≡ [] → all ≡ xs ++ none → Leaves a all b [] → Leaves a xs b []
read a b none all xs e is_it h = all_is a b all xs [] (is_it ∙ ap (λ ms. xs ++ ms) e ∙ append-nil xs) h

-- the first of those that are left is read
pub turn : (a b c : Gathered) (all left xs rest : List Mention) → Leaves a all b left → left ≡ xs ++ rest → Leaves b xs c [] → Leaves a all c rest
turn a b c all left xs rest h e k = then a b c all (xs ++ rest) rest (left_is a b all left (xs ++ rest) e h) (with_behind b c xs [] rest k)

pub three : (a b c d : Gathered) (xs ys zs : List Mention) → Leaves a xs b [] → Leaves b ys c [] → Leaves c zs d [] → Leaves a (xs ++ (ys ++ zs)) d []
three a b c d xs ys zs h k l = joined a b d xs (ys ++ zs) h (joined b c d ys zs k l)
