-- What stands behind a name with which a part of a text begins, and further steps that look at the parser alone.
use Rattle.std.proofs.Common.{◌≡◌, Bool, true, false, List, [], ◌∷◌, Some, refl, ap, subst, ◌∙◌}
use Rattle.mesa_lexer.specs.declared.token.Token.{Token}
use Rattle.mesa_lexer.specs.declared.token.Kind.{Kind}
use Rattle.mesa_lexer.specs.declared.token.Kind.TheVariants as k
use Rattle.mesa_lexer.specs.declared.word.Word.TheVariants.{ModWord}
use Rattle.mesa_lexer.specs.declared.mark.Mark.TheVariants.{Colon, Dot, LeftBracket, Plus, Minus, Star, Slash}
use Rattle.token_cursor.specs.Parsing.{only, exactly, found, finds, among, a_name}
use Rattle.token_cursor.proofs.Exact.{Test, Free}
use Rattle.token_cursor.proofs.Branches.{only_is}
use Rattle.token_cursor.proofs.Leading.{Begins}
use Rattle.mesa_base.specs.declared.identifier.Identifier.{Identifier}
use Rattle.syntax_trees.specs.declared.syntax.Operator.{Operator}
use Rattle.mesa_base.specs.declared.relation.Relation.{Relation}
use Rattle.syntax_trees.specs.declared.syntax.Sign.{Sign}
use Rattle.syntax_trees.specs.declared.syntax.Expr.{Expr}
use Rattle.syntax_trees.specs.declared.syntax.Operation.{Operation}
use Rattle.syntax_trees.specs.declared.syntax.Suffix.{Suffix}
use Rattle.syntax_trees.specs.declared.syntax.Statement.{Statement}
use Rattle.grammar_rules.specs.WordsAndMarks.{spelled, disjoining, conjoining, adding, multiplying, signing, relating, negating}
use Rattle.grammar_rules.specs.Grammar as g
use Rattle.grammar_rules.proofs.Follows.{declares, tails, free_only, apart_kinds, negating_ends}
use Rattle.grammar_rules.proofs.Turns.{NotKeyed}

-- what stands behind the first token
abbrev pub behind_first : List Token → List Token
behind_first [] = []
behind_first (t ∷ ts) = ts

-- the token behind a name that comes first is none of these
abbrev pub Second : Test → List Token → Type 0
Second c ts = (i : Identifier) (us : List Token) → ts ≡ spelled i ∷ us → Free c us

pub not_named : (c : Test) (ts : List Token) → Free (finds a_name) ts → Second c ts
not_named c ts f i us e = let h : Free (finds a_name) (spelled i ∷ us) = subst (Free (finds a_name)) e f in absurd (cc)

module _ (c : Test) (dots : c (k.Mark Dot) ≡ false) (opens : c (k.Mark LeftBracket) ≡ false) where
  pub left_second : {ts rest : List Token} {i : Identifier} {ss : List Suffix} → g.IsLeft ts i ss rest → Free c rest → Second c ts
  left_second {rest = rest} g.named f j us e = let same : rest ≡ us = cc in subst (Free c) same f
  left_second (g.field d) f j us e = left_second d dots j us e
  left_second (g.applied d (g.bracketed h i)) f j us e = left_second d opens j us e

abbrev pub colon : Test
colon = finds (exactly (k.Mark Colon))

multiplying_colon : (kind : Kind) (o : Operator) → multiplying kind ≡ Some o → colon kind ≡ false
multiplying_colon (k.Mark Star) o e = refl
multiplying_colon (k.Mark Slash) o e = refl
multiplying_colon (k.Word ModWord) o e = refl
multiplying_colon _ o e = absurd (cc)

adding_colon : (kind : Kind) (o : Operator) → adding kind ≡ Some o → colon kind ≡ false
adding_colon (k.Mark Plus) o e = refl
adding_colon (k.Mark Minus) o e = refl
adding_colon _ o e = absurd (cc)

relating_colon : (kind : Kind) (o : Relation) → relating kind ≡ Some o → colon kind ≡ false
relating_colon (k.Mark Colon) o e = absurd (cc)
relating_colon _ o e = refl

negating_colon : (kind : Kind) → negating kind ≡ Some tt → colon kind ≡ false
negating_colon (k.Mark Colon) e = absurd (cc)
negating_colon _ e = refl

conjoining_colon : (kind : Kind) (o : Operator) → conjoining kind ≡ Some o → colon kind ≡ false
conjoining_colon (k.Mark Colon) o e = absurd (cc)
conjoining_colon _ o e = refl

disjoining_colon : (kind : Kind) (o : Operator) → disjoining kind ≡ Some o → colon kind ≡ false
disjoining_colon (k.Mark Colon) o e = absurd (cc)
disjoining_colon _ o e = refl

signing_name : (kind : Kind) (o : Sign) → signing kind ≡ Some o → found (a_name kind) ≡ false
signing_name (k.Name n) o e = absurd (cc)
signing_name _ o e = refl

primary_second : {ts rest : List Token} {x : Expr} → g.IsPrimary ts x rest → Free colon rest → Second colon ts
primary_second g.number f = not_named colon _ refl
primary_second g.char f = not_named colon _ refl
primary_second g.text f = not_named colon _ refl
primary_second g.true_word f = not_named colon _ refl
primary_second g.false_word f = not_named colon _ refl
primary_second (g.parens d) f = not_named colon _ refl
primary_second (g.reference d) f = left_second colon refl refl d f
primary_second (g.constructor (g.list d)) f = not_named colon _ refl
primary_second (g.raised (g.signal d h)) f = not_named colon _ refl
primary_second (g.raised (g.error d h)) f = not_named colon _ refl
primary_second (g.raised g.unnamed_error) f = not_named colon _ refl

factor_second : {ts rest : List Token} {x : Expr} → g.IsFactor ts x rest → Free colon rest → Second colon ts
factor_second (g.primary d) f = primary_second d f
factor_second (g.signed {kind = kind} {s = s} e d) f = not_named colon _ (signing_name kind s e)

products_second : {ts rest : List Token} {x : Expr} {ss : List Operation} → g.IsProducts ts x ss rest → Free colon rest → Second colon ts
products_second (g.factor d) f = factor_second d f
products_second (g.products {kind = kind} {o = o} d e h) f = products_second d (multiplying_colon kind o e)

product_second : {ts rest : List Token} {x : Expr} → g.IsProduct ts x rest → Free colon rest → Second colon ts
product_second (g.product d) f = products_second d f

sums_second : {ts rest : List Token} {x : Expr} {ss : List Operation} → g.IsSums ts x ss rest → Free colon rest → Second colon ts
sums_second (g.summand d) f = product_second d f
sums_second (g.sums {kind = kind} {o = o} d e h) f = sums_second d (adding_colon kind o e)

sum_second : {ts rest : List Token} {x : Expr} → g.IsSum ts x rest → Free colon rest → Second colon ts
sum_second (g.sum d) f = sums_second d f

rel_second : {ts rest : List Token} {x : Expr} → g.IsRel ts x rest → Free colon rest → Second colon ts
rel_second (g.alone d) f = sum_second d f
rel_second (g.compare {kind = kind} {r = r} d g.affirmed e h) f = sum_second d (relating_colon kind r e)
rel_second (g.compare d (g.negated {kind = kind} n) e h) f = sum_second d (negating_colon kind n)
rel_second (g.within d g.affirmed h) f = sum_second d refl
rel_second (g.within d (g.negated {kind = kind} n) h) f = sum_second d (negating_colon kind n)

neg_second : {ts rest : List Token} {x : Expr} → g.IsNeg ts x rest → Free colon rest → Second colon ts
neg_second (g.rel d) f = rel_second d f
neg_second (g.not {kind = kind} e d) f = not_named colon _ ((negating_ends kind e).4)

ands_second : {ts rest : List Token} {x : Expr} {ss : List Operation} → g.IsAnds ts x ss rest → Free colon rest → Second colon ts
ands_second (g.conjunct d) f = neg_second d f
ands_second (g.ands {kind = kind} {o = o} d e h) f = ands_second d (conjoining_colon kind o e)

conj_second : {ts rest : List Token} {x : Expr} → g.IsConj ts x rest → Free colon rest → Second colon ts
conj_second (g.conj d) f = ands_second d f

ors_second : {ts rest : List Token} {x : Expr} {ss : List Operation} → g.IsOrs ts x ss rest → Free colon rest → Second colon ts
ors_second (g.disjunct d) f = conj_second d f
ors_second (g.ors {kind = kind} {o = o} d e h) f = ors_second d (disjoining_colon kind o e)

expr_second : {ts rest : List Token} {x : Expr} → g.IsExpr ts x rest → Free colon rest → Second colon ts
expr_second (g.expr d) f = ors_second d f

pub exprs_second : {ts rest : List Token} {all : List Expr} → g.IsExprs ts all rest → Free colon rest → NotKeyed ts
exprs_second (g.an_expr d) f = expr_second d f
exprs_second (g.exprs d h) f = exprs_second d refl

stmt_second : {ts rest : List Token} {x : Statement} → g.IsStmt ts x rest → Free declares rest → Second declares ts
stmt_second g.null f = not_named declares _ refl
stmt_second (g.nested (g.begin_end d h i j)) f = not_named declares _ refl
stmt_second (g.nested (g.braces d h i j)) f = not_named declares _ refl
stmt_second (g.assign d h) f = left_second declares refl refl d refl
stmt_second (g.extract d h) f = not_named declares _ refl
stmt_second (g.call d) f = left_second declares refl refl d f
stmt_second (g.raise (g.signal d h)) f = not_named declares _ refl
stmt_second (g.raise (g.error d h)) f = not_named declares _ refl
stmt_second (g.raise g.unnamed_error) f = not_named declares _ refl
stmt_second (g.if_then d h i) f = not_named declares _ refl
stmt_second (g.if_else d h i) f = not_named declares _ refl
stmt_second (g.select d h i) f = not_named declares _ refl
stmt_second (g.loop (g.controlled g.no_count g.no_condition) h i j) f = not_named declares _ refl
stmt_second (g.loop (g.controlled g.no_count (g.while d)) h i j) f = not_named declares _ refl
stmt_second (g.loop (g.controlled g.no_count (g.until d)) h i j) f = not_named declares _ refl
stmt_second (g.loop (g.controlled (g.for a b) d) h i j) f = not_named declares _ refl
stmt_second (g.loop (g.controlled (g.through a) d) h i j) f = not_named declares _ refl
stmt_second g.exit_loop f = not_named declares _ refl
stmt_second g.next_turn f = not_named declares _ refl
stmt_second g.goto f = not_named declares _ refl
stmt_second g.go_to f = not_named declares _ refl
stmt_second (g.return d) f = not_named declares _ refl
stmt_second (g.resume d) f = not_named declares _ refl
stmt_second g.reject f = not_named declares _ refl
stmt_second g.retry f = not_named declares _ refl
stmt_second g.continue f = not_named declares _ refl

stmts_second : {ts rest : List Token} {x : List Statement} → g.IsStmts ts x rest → Free declares rest → Second declares ts
stmts_second (g.a_stmt d) f = stmt_second d f
stmts_second (g.stmts d h) f = stmts_second d refl

pub body_second : {ts rest : List Token} {x : List Statement} → g.IsBody ts x rest → Begins (among tails) rest → Second declares ts
body_second {rest = rest} g.no_stmts b = not_named declares rest (apart_kinds (finds a_name) tails (refl, (refl, (refl, (refl, (refl, tt))))) rest b)
body_second {rest = rest} (g.open_stmts d) b = stmts_second d (apart_kinds declares tails (refl, (refl, (refl, (refl, (refl, tt))))) rest b)
body_second (g.closed_stmts d) b = stmts_second d refl

-- the names of a declaration are followed by a comma or colon
pub names_second : {ts rest : List Token} {all : List Identifier} → g.IsNames ts all rest → Begins declares rest → Begins declares (behind_first ts)
names_second g.name b = b
names_second (g.names d) b = names_second d (record { token = _; back = _; is = refl; begins = refl })

-- ---- tests of the same tokens

of_only : (f : Test) (kind other : Kind) → f kind ≡ true → f other ≡ false → (b : Bool) → only kind other ≡ b → b ≡ false
of_only f kind other holds not true e = let same : other ≡ kind = only_is kind other e in let bad : f other ≡ true = ap f same ∙ holds in absurd (cc)
of_only f kind other holds not false e = refl

-- a test that holds of a kind, and not of the next token, excludes the kind there
pub excludes : (f : Test) (kind : Kind) → f kind ≡ true → (ts : List Token) → Free f ts → Free (finds (exactly kind)) ts
excludes f kind holds ts h = free_only kind ts (go ts h)
  where
    go : (ts : List Token) → Free f ts → Free (only kind) ts
    go [] h = tt
    go (t ∷ ts) h = of_only f kind t.kind holds h (only kind t.kind) refl
