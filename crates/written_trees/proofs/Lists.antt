-- Lists of trees, one longer: where the list is written and its identifiers are names, and so is the tree behind it, so is the whole.
-- Each fact stands beside one that is kept as it is, `R`: of the tokens behind the tree.
use Rattle.std.proofs.Common.{◌≡◌, ◌≢◌, List, [], ◌∷◌, ◌++◌, All, map, refl, sym, ap, subst}
use Rattle.mesa_base.specs.declared.identifier.Identifier.{Identifier}
use Rattle.mesa_base.specs.Chain.{chain}
use Rattle.syntax_trees.specs.declared.syntax.Keyed.{Keyed}
use Rattle.syntax_trees.specs.declared.syntax.Labeled.{Labeled}
use Rattle.syntax_trees.specs.declared.syntax.RepeatLabels.{RepeatLabels}
use Rattle.syntax_trees.specs.declared.syntax.TypeExp.{TypeExp}
use Rattle.syntax_trees.specs.declared.syntax.Expr.{Expr}
use Rattle.syntax_trees.specs.declared.syntax.Left.{Left}
use Rattle.syntax_trees.specs.declared.syntax.Statement.{Statement}
use Rattle.syntax_trees.specs.declared.syntax.PlainItem.{PlainItem}
use Rattle.syntax_trees.specs.Syntax as s
use Rattle.syntax_trees.specs.PlainSyntax as plain
use Rattle.check_rules.specs.Written.{RepeatWritten, HasField, TypeWritten, NamedWritten, TypesWritten, ExprWritten, ExprsWritten, KeyedWritten, LeftWritten, LeftsWritten, KeyedLeftsWritten, StatementWritten, StatementsWritten, ItemWritten, LocalsWritten, ExitsWritten, RepeatsWritten}
use Rattle.check_rules.specs.TreeNames.{Named, RepeatNamed, TypeNamed, LabeledNamed, TypesNamed, ExprNamed, ExprsNamed, KeyedNamed, LeftNamed, LeftsNamed, KeyedLeftsNamed, StatementNamed, StatementsNamed, ItemNamed, LocalsNamed, ExitsNamed, RepeatsNamed}

-- ---- what is said of a tree, its names and what stands behind it

abbrev pub Both : {Y : Type 0} → (Y → Type 0) → (Y → Type 0) → Y → Type 0 → Type 0
Both W N y R = W y × N y × R

-- of a tree that equals another
pub whole : {Y R : Type 0} (W N : Y → Type 0) {y z : Y} → y ≡ z → W z → N z → R → Both W N y R
whole W N e w n r = (subst W (sym e) w, subst N (sym e) n, r)

-- ---- names before what they name

-- what is behind a label, with its label
abbrev pub Behind : {L X Y : Type 0} → (L → Type 0) → (L → Type 0) → (Y → Type 0) → (Y → Type 0) → (X → Y) → Labeled L X → Type 0 → Type 0
Behind LW LN W N g x R = (LW x.labels × W (g x.item)) × (LN x.labels × N (g x.item)) × R

abbrev pub IsSome : List Identifier → Type 0
IsSome xs = xs ≢ []

abbrev pub BehindNames : {X Y : Type 0} → (Y → Type 0) → (Y → Type 0) → (X → Y) → Labeled (List Identifier) X → Type 0 → Type 0
BehindNames = Behind IsSome (All Named)

pub not_empty : {X : Type 0} (xs : List X) (x : X) → (xs ++ x ∷ []) ≢ []
not_empty [] x e = cc
not_empty (y ∷ ys) x e = cc

-- ---- lists that are forms of their own

pub push_types : {Q R : Type 0} (ts : List TypeExp) (t : TypeExp) → Both TypesWritten TypesNamed (plain.types ts) Q
    → Both TypeWritten TypeNamed (plain.type_exp t) R → Both TypesWritten TypesNamed (plain.types (ts ++ t ∷ [])) R
unfolding TypeWritten TypeNamed
push_types [] t h k = ((k.0, tt), (k.1, tt), k.2)
push_types (x ∷ xs) t h k = let r = push_types xs t (h.0.1, h.1.1, h.2) k in ((h.0.0, r.0), (h.1.0, r.1), r.2)

pub push_fields : {Q R : Type 0} (fs : List (Labeled (List Identifier) TypeExp)) (f : Labeled (List Identifier) TypeExp)
    → Both NamedWritten LabeledNamed (plain.named_fields fs) Q → BehindNames TypeWritten TypeNamed plain.type_exp f R
    → Both NamedWritten LabeledNamed (plain.named_fields (fs ++ f ∷ [])) R
unfolding TypeWritten TypeNamed
push_fields [] f h k = ((k.0.0, k.0.1, tt), (k.1.0, k.1.1, tt), k.2)
push_fields (x ∷ xs) f h k = let r = push_fields xs f (h.0.2, h.1.2, h.2) k in ((h.0.0, h.0.1, r.0), (h.1.0, h.1.1, r.1), r.2)

pub has_field : (fs : List (Labeled (List Identifier) TypeExp)) (f : Labeled (List Identifier) TypeExp)
    → HasField (s.WithNames (plain.named_fields (fs ++ f ∷ [])))
unfolding HasField
has_field [] f = tt
has_field (x ∷ xs) f = tt

pub has_type : (ts : List TypeExp) (t : TypeExp) → HasField (s.Unnamed (plain.types (ts ++ t ∷ [])))
unfolding HasField
has_type [] t = tt
has_type (x ∷ xs) t = tt

pub push_exprs : {Q R : Type 0} (es : List Expr) (e : Expr) → Both ExprsWritten ExprsNamed (plain.exprs es) Q → Both ExprWritten ExprNamed (plain.expr e) R
    → Both ExprsWritten ExprsNamed (plain.exprs (es ++ e ∷ [])) R
unfolding ExprWritten ExprNamed
push_exprs [] e h k = ((k.0, tt), (k.1, tt), k.2)
push_exprs (x ∷ xs) e h k = let r = push_exprs xs e (h.0.1, h.1.1, h.2) k in ((h.0.0, r.0), (h.1.0, r.1), r.2)

pub push_keyed : {Q R : Type 0} (es : List (Keyed Expr)) (e : Keyed Expr) → Both KeyedWritten KeyedNamed (plain.keyed_exprs es) Q → Named e.key
    → Both ExprWritten ExprNamed (plain.expr e.item) R → Both KeyedWritten KeyedNamed (plain.keyed_exprs (es ++ e ∷ [])) R
unfolding ExprWritten ExprNamed
push_keyed [] e h n k = ((k.0, tt), (n, k.1, tt), k.2)
push_keyed (x ∷ xs) e h n k = let r = push_keyed xs e (h.0.1, h.1.2, h.2) n k in ((h.0.0, r.0), (h.1.0, h.1.1, r.1), r.2)

pub push_lefts : {Q R : Type 0} (ls : List Left) (l : Left) → Both LeftsWritten LeftsNamed (plain.lefts ls) Q → Both LeftWritten LeftNamed (plain.left l) R
    → Both LeftsWritten LeftsNamed (plain.lefts (ls ++ l ∷ [])) R
unfolding LeftWritten LeftNamed
push_lefts [] l h k = ((k.0, tt), (k.1, tt), k.2)
push_lefts (x ∷ xs) l h k = let r = push_lefts xs l (h.0.1, h.1.1, h.2) k in ((h.0.0, r.0), (h.1.0, r.1), r.2)

pub push_keyed_lefts : {Q R : Type 0} (ls : List (Keyed Left)) (l : Keyed Left) → Both KeyedLeftsWritten KeyedLeftsNamed (plain.keyed_lefts ls) Q
    → Named l.key → Both LeftWritten LeftNamed (plain.left l.item) R → Both KeyedLeftsWritten KeyedLeftsNamed (plain.keyed_lefts (ls ++ l ∷ [])) R
unfolding LeftWritten LeftNamed
push_keyed_lefts [] l h n k = ((k.0, tt), (n, k.1, tt), k.2)
push_keyed_lefts (x ∷ xs) l h n k = let r = push_keyed_lefts xs l (h.0.1, h.1.2, h.2) n k in ((h.0.0, r.0), (h.1.0, h.1.1, r.1), r.2)

pub push_statements : {Q R : Type 0} (ss : List Statement) (x : Statement) → Both StatementsWritten StatementsNamed (plain.statements ss) Q
    → Both StatementWritten StatementNamed (plain.statement x) R → Both StatementsWritten StatementsNamed (plain.statements (ss ++ x ∷ [])) R
unfolding StatementWritten StatementNamed
push_statements [] x h k = ((k.0, tt), (k.1, tt), k.2)
push_statements (y ∷ ys) x h k = let r = push_statements ys x (h.0.1, h.1.1, h.2) k in ((h.0.0, r.0), (h.1.0, r.1), r.2)

pub push_locals : {Q R : Type 0} (ls : List (Labeled (List Identifier) PlainItem)) (l : Labeled (List Identifier) PlainItem)
    → Both LocalsWritten LocalsNamed (plain.locals ls) Q → BehindNames ItemWritten ItemNamed plain.plain_item l R
    → Both LocalsWritten LocalsNamed (plain.locals (ls ++ l ∷ [])) R
unfolding ItemWritten ItemNamed
push_locals [] l h k = ((k.0.0, k.0.1, tt), (k.1.0, k.1.1, tt), k.2)
push_locals (x ∷ xs) l h k = let r = push_locals xs l (h.0.2, h.1.2, h.2) k in ((h.0.0, h.0.1, r.0), (h.1.0, h.1.1, r.1), r.2)

pub push_exits : {Q R : Type 0} (es : List (Labeled (List Identifier) Statement)) (e : Labeled (List Identifier) Statement)
    → Both ExitsWritten ExitsNamed (plain.exits es) Q → BehindNames StatementWritten StatementNamed plain.statement e R
    → Both ExitsWritten ExitsNamed (plain.exits (es ++ e ∷ [])) R
unfolding StatementWritten StatementNamed
push_exits [] e h k = ((k.0.0, k.0.1, tt), (k.1.0, k.1.1, tt), k.2)
push_exits (x ∷ xs) e h k = let r = push_exits xs e (h.0.2, h.1.2, h.2) k in ((h.0.0, h.0.1, r.0), (h.1.0, h.1.1, r.1), r.2)

pub push_repeats : {Q R : Type 0} (rs : List (Labeled RepeatLabels Statement)) (r : Labeled RepeatLabels Statement)
    → Both RepeatsWritten RepeatsNamed (plain.repeats rs) Q → Behind RepeatWritten RepeatNamed StatementWritten StatementNamed plain.statement r R
    → Both RepeatsWritten RepeatsNamed (plain.repeats (rs ++ r ∷ [])) R
unfolding StatementWritten StatementNamed
push_repeats [] r h k = ((k.0.0, k.0.1, tt), (k.1.0, k.1.1, tt), k.2)
push_repeats (x ∷ xs) r h k = let q = push_repeats xs r (h.0.2, h.1.2, h.2) k in ((h.0.0, h.0.1, q.0), (h.1.0, h.1.1, q.1), q.2)

-- ---- lists whose parts are put before the rest

-- with this before it, a rest of which W and N hold is one of which V and N hold
abbrev pub Puts : {A : Type 0} → (A → Type 0) → (A → Type 0) → (A → Type 0) → (A → A) → Type 0
Puts {A} V W N f = (rest : A) → W rest → N rest → V (f rest) × N (f rest)

pub puts : {A : Type 0} (V W N : A → Type 0) {f g : A → A} → f ≡ g → Puts V W N g → Puts V W N f
puts V W N e h = subst (Puts V W N) (sym e) h

chain_push : {X A : Type 0} (g : X → A → A) (xs : List X) (x : X) (rest : A) → chain (map g (xs ++ x ∷ [])) rest ≡ chain (map g xs) (g x rest)
chain_push g [] x rest = refl
chain_push g (y ∷ ys) x rest = ap (g y) (chain_push g ys x rest)

pub puts_push : {X A : Type 0} (V W N : A → Type 0) → ((y : A) → V y → W y) → (g : X → A → A) (xs : List X) (x : X) → Puts V W N (chain (map g xs))
    → Puts V W N (g x) → Puts V W N (chain (map g (xs ++ x ∷ [])))
puts_push V W N weaker g xs x h k rest w n =
    let r = k rest w n in subst (λ y. V y × N y) (sym (chain_push g xs x rest)) (h (g x rest) (weaker (g x rest) r.0) r.1)
