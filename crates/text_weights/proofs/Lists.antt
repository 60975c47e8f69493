-- Lists of trees, one longer: what they weigh.
use Rattle.std.proofs.Common.{◌≡◌, ◌≤◌, ◌+◌, ℕ, List, [], ◌∷◌, ◌++◌, map, arith, refl, ap}
use Rattle.mesa_base.specs.declared.identifier.Identifier.{Identifier}
use Rattle.mesa_base.specs.Chain.{chain}
use Rattle.mesa_lexer.specs.declared.token.Token.{Token}
use Rattle.syntax_trees.specs.declared.syntax.Keyed.{Keyed}
use Rattle.syntax_trees.specs.declared.syntax.Labeled.{Labeled}
use Rattle.syntax_trees.specs.declared.syntax.QualifiedName.{QualifiedName}
use Rattle.syntax_trees.specs.declared.syntax.RepeatLabels.{RepeatLabels}
use Rattle.syntax_trees.specs.declared.syntax.TypeExp.{TypeExp}
use Rattle.syntax_trees.specs.declared.syntax.Expr.{Expr}
use Rattle.syntax_trees.specs.declared.syntax.Left.{Left}
use Rattle.syntax_trees.specs.declared.syntax.Statement.{Statement}
use Rattle.syntax_trees.specs.declared.syntax.PlainItem.{PlainItem}
use Rattle.syntax_trees.specs.PlainSyntax as plain
use Rattle.checking_laws.specs.Weights as tree
use Rattle.checking_laws.specs.Weights.{Weights}
use Rattle.text_weights.specs.Tokens.{tokens_weight}

pub push_name : (w : Weights) (xs : List Identifier) (x : Identifier) → tree.each_name w (xs ++ x ∷ []) ≡ tree.each_name w xs + w.of_name x.name
unfolding tree.each_name
push_name w [] x = omega arith
push_name w (y ∷ ys) x = omega (arith, push_name w ys x)

pub push_qualified : (w : Weights) (xs : List QualifiedName) (x : QualifiedName) → tree.each_qualified_weight w (xs ++ x ∷ []) ≡ tree.each_qualified_weight w xs + tree.qualified_weight w x
unfolding tree.each_qualified_weight
push_qualified w [] x = omega arith
push_qualified w (y ∷ ys) x = omega (arith, push_qualified w ys x)

pub push_types : (w : Weights) (xs : List TypeExp) (x : TypeExp) → tree.types_weight w (plain.types (xs ++ x ∷ [])) ≡ tree.types_weight w (plain.types xs) + tree.type_weight w (plain.type_exp x)
unfolding tree.types_weight
push_types w [] x = omega arith
push_types w (y ∷ ys) x = omega (arith, push_types w ys x)

pub push_exprs : (w : Weights) (xs : List Expr) (x : Expr) → tree.exprs_weight w (plain.exprs (xs ++ x ∷ [])) ≡ tree.exprs_weight w (plain.exprs xs) + tree.expr_weight w (plain.expr x)
unfolding tree.exprs_weight
push_exprs w [] x = omega arith
push_exprs w (y ∷ ys) x = omega (arith, push_exprs w ys x)

pub push_lefts : (w : Weights) (xs : List Left) (x : Left) → tree.lefts_weight w (plain.lefts (xs ++ x ∷ [])) ≡ tree.lefts_weight w (plain.lefts xs) + tree.left_weight w (plain.left x)
unfolding tree.lefts_weight
push_lefts w [] x = omega arith
push_lefts w (y ∷ ys) x = omega (arith, push_lefts w ys x)

pub push_statements : (w : Weights) (xs : List Statement) (x : Statement) → tree.statements_weight w (plain.statements (xs ++ x ∷ [])) ≡ tree.statements_weight w (plain.statements xs) + tree.statement_weight w (plain.statement x)
unfolding tree.statements_weight
push_statements w [] x = omega arith
push_statements w (y ∷ ys) x = omega (arith, push_statements w ys x)

pub push_keyed_exprs : (w : Weights) (xs : List (Keyed Expr)) (x : Keyed Expr) → tree.keyed_weight w (plain.keyed_exprs (xs ++ x ∷ [])) ≡ tree.keyed_weight w (plain.keyed_exprs xs) + (w.of_name x.key.name + tree.expr_weight w (plain.expr x.item))
unfolding tree.keyed_weight
push_keyed_exprs w [] x = omega arith
push_keyed_exprs w (y ∷ ys) x = omega (arith, push_keyed_exprs w ys x)

pub push_keyed_lefts : (w : Weights) (xs : List (Keyed Left)) (x : Keyed Left) → tree.keyed_lefts_weight w (plain.keyed_lefts (xs ++ x ∷ [])) ≡ tree.keyed_lefts_weight w (plain.keyed_lefts xs) + (w.of_name x.key.name + tree.left_weight w (plain.left x.item))
unfolding tree.keyed_lefts_weight
push_keyed_lefts w [] x = omega arith
push_keyed_lefts w (y ∷ ys) x = omega (arith, push_keyed_lefts w ys x)

pub push_named_fields : (w : Weights) (xs : List (Labeled (List Identifier) TypeExp)) (x : Labeled (List Identifier) TypeExp) → tree.named_fields_weight w (plain.named_fields (xs ++ x ∷ [])) ≡ tree.named_fields_weight w (plain.named_fields xs) + (tree.each_name w x.labels + tree.type_weight w (plain.type_exp x.item))
unfolding tree.named_fields_weight
push_named_fields w [] x = omega arith
push_named_fields w (y ∷ ys) x = omega (arith, push_named_fields w ys x)

pub push_locals : (w : Weights) (xs : List (Labeled (List Identifier) PlainItem)) (x : Labeled (List Identifier) PlainItem) → tree.locals_weight w (plain.locals (xs ++ x ∷ [])) ≡ tree.locals_weight w (plain.locals xs) + (tree.each_name w x.labels + tree.plain_item_weight w (plain.plain_item x.item))
unfolding tree.locals_weight
push_locals w [] x = omega arith
push_locals w (y ∷ ys) x = omega (arith, push_locals w ys x)

pub push_exits : (w : Weights) (xs : List (Labeled (List Identifier) Statement)) (x : Labeled (List Identifier) Statement) → tree.exits_weight w (plain.exits (xs ++ x ∷ [])) ≡ tree.exits_weight w (plain.exits xs) + (tree.each_name w x.labels + tree.statement_weight w (plain.statement x.item))
unfolding tree.exits_weight
push_exits w [] x = omega arith
push_exits w (y ∷ ys) x = omega (arith, push_exits w ys x)

pub push_repeats : (w : Weights) (xs : List (Labeled RepeatLabels Statement)) (x : Labeled RepeatLabels Statement) → tree.repeats_weight w (plain.repeats (xs ++ x ∷ [])) ≡ tree.repeats_weight w (plain.repeats xs) + (tree.repeat_weight w x.labels + tree.statement_weight w (plain.statement x.item))
unfolding tree.repeats_weight
push_repeats w [] x = omega arith
push_repeats w (y ∷ ys) x = omega (arith, push_repeats w ys x)

-- ---- what is put before the rest of a list

-- what was read weighs no more than its tokens
pub record Fits (w : Weights) (size : ℕ) (ts rest : List Token) : Type 0 where
  pub fits : size + tokens_weight w rest ≤ tokens_weight w ts

-- so does what is put before the rest of a list
pub record PutsFit {A : Type 0} (w : Weights) (size : A → ℕ) (f : A → A) (ts rest : List Token) : Type 0 where
  pub fits : (more : A) → size (f more) + tokens_weight w rest ≤ size more + tokens_weight w ts

pub chain_push : {X A : Type 0} (g : X → A → A) (xs : List X) (x : X) (rest : A) → chain (map g (xs ++ x ∷ [])) rest ≡ chain (map g xs) (g x rest)
chain_push g [] x rest = refl
chain_push g (y ∷ ys) x rest = ap (g y) (chain_push g ys x rest)

-- one more, behind a separator
pub puts_push : {X A : Type 0} {w : Weights} {size : A → ℕ} {t : Token} {ts us rest : List Token} (g : X → A → A) (xs : List X) (x : X)
    → PutsFit w size (chain (map g xs)) ts (t ∷ us) → PutsFit w size (g x) us rest → PutsFit w size (chain (map g (xs ++ x ∷ []))) ts rest
unfolding tokens_weight
puts_push {size = size} g xs x h k = record { fits = λ more. omega (arith, ap size (chain_push g xs x more), h.fits (g x more), k.fits more) }

-- with a mark at its end
pub closed : {w : Weights} {size : ℕ} {t : Token} {ts rest : List Token} → Fits w size ts (t ∷ rest) → Fits w size ts rest
unfolding tokens_weight
closed h = record { fits = omega (arith, h.fits) }

pub puts_closed : {A : Type 0} {w : Weights} {size : A → ℕ} {f : A → A} {t : Token} {ts rest : List Token} → PutsFit w size f ts (t ∷ rest) → PutsFit w size f ts rest
unfolding tokens_weight
puts_closed h = record { fits = λ more. omega (arith, h.fits more) }
