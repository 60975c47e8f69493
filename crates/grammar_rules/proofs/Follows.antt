-- What may follow the parts of a text, and how they begin.
use Rattle.std.proofs.Common.{◌≡◌, ℕ, Bool, cond, true, false, ◌||◌, List, [], ◌∷◌, Some, None, ◌⊎◌, inl, inr, refl, sym, ap, subst, ◌∙◌}
use Rattle.mesa_base.specs.declared.place.Place.{Place}
use Rattle.mesa_lexer.specs.declared.token.Token.{Token}
use Rattle.mesa_lexer.specs.declared.token.Kind.{Kind}
use Rattle.mesa_lexer.specs.declared.token.Kind.TheVariants as k
use Rattle.mesa_lexer.specs.declared.word.Word.TheVariants.{AndWord, ModWord, NotWord, OrWord, DoWord, EnableWord, EndWord, EndloopWord, ExitsWord, InWord, RepeatWord}
use Rattle.mesa_lexer.specs.declared.mark.Mark.TheVariants.{Arrow, Semicolon, Colon, Comma, Dot, LeftBracket, RightBracket, LeftParenthesis, RightParenthesis, RightBrace, Equal, Sharp, Less, Greater, AtMost, AtLeast, Plus, Minus, Star, Slash, DoubleArrow, Tilde}
use Rattle.token_cursor.specs.Parsing.{token, word, only, exactly, found, finds, among, a_name}
use Rattle.token_cursor.proofs.Exact.{Test, Free}
use Rattle.token_cursor.proofs.Branches.{Every, or_true, or_false, among_every, named_every}
use Rattle.token_cursor.proofs.Leading.{Begins}
use Rattle.mesa_base.specs.declared.identifier.Identifier.{Identifier}
use Rattle.syntax_trees.specs.declared.syntax.QualifiedName.{QualifiedName}
use Rattle.mesa_base.specs.declared.placed.Placed.{Placed}
use Rattle.syntax_trees.specs.declared.syntax.Labeled.{Labeled}
use Rattle.syntax_trees.specs.declared.syntax.Entries.{Entries}
use Rattle.syntax_trees.specs.declared.syntax.RepeatLabels.{RepeatLabels}
use Rattle.syntax_trees.specs.declared.syntax.Operator.{Operator}
use Rattle.mesa_base.specs.declared.relation.Relation.{Relation}
use Rattle.syntax_trees.specs.declared.syntax.Sign.{Sign}
use Rattle.syntax_trees.specs.declared.syntax.TypeExp.{TypeExp}
use Rattle.syntax_trees.specs.declared.syntax.Interval.{Interval}
use Rattle.syntax_trees.specs.declared.syntax.Expr.{Expr}
use Rattle.syntax_trees.specs.declared.syntax.Operation.{Operation}
use Rattle.syntax_trees.specs.declared.syntax.Suffix.{Suffix}
use Rattle.syntax_trees.specs.declared.syntax.Raise.{Raise}
use Rattle.syntax_trees.specs.declared.syntax.Arm.{Arm}
use Rattle.syntax_trees.specs.declared.syntax.Statement.{Statement}
use Rattle.syntax_trees.specs.declared.syntax.Control.{Control}
use Rattle.syntax_trees.specs.declared.syntax.Case.{Case}
use Rattle.syntax_trees.specs.declared.syntax.Test.{Test as TestTree}
use Rattle.syntax_trees.specs.declared.syntax.Block.{Block}
use Rattle.syntax_trees.specs.declared.syntax.PlainItem.{PlainItem}
use Rattle.grammar_rules.specs.WordsAndMarks.{spelled, disjoining, conjoining, adding, multiplying, signing, relating, negating, opening, closing}
use Rattle.grammar_rules.specs.Grammar as g
use Rattle.grammar_rules.specs.ReadNested.{loop_starts, raise_starts, begins_type, begins_expr, stmt_starts, begins_stmt, begins_arm, begins_test, begins_repeat}
use Rattle.grammar_rules.specs.ReadExpressions.{suffixing}

-- ---- what goes on with a part

abbrev pub more_primary : Test
more_primary kind = finds suffixing kind || finds a_name kind

abbrev pub more_product : Test
more_product kind = finds multiplying kind || more_primary kind

abbrev pub more_sum : Test
more_sum kind = finds adding kind || more_product kind

abbrev pub more_rel : Test
more_rel kind = finds relating kind || (only (k.Word InWord) kind || (finds negating kind || more_sum kind))

abbrev pub more_conj : Test
more_conj kind = finds conjoining kind || more_rel kind

abbrev pub more_expr : Test
more_expr kind = finds disjoining kind || more_conj kind

abbrev pub more_stmt : Test
more_stmt kind = only (k.Mark Arrow) kind || (only (k.Mark DoubleArrow) kind || more_expr kind)

abbrev pub more_type : Test
more_type kind = only (k.Mark Dot) kind || finds opening kind

-- a list with semicolons whose items end as statements do and begin so
abbrev pub more_items : Test → Test
more_items begins kind = only (k.Mark Semicolon) kind || (begins kind || more_stmt kind)

abbrev pub more_fields : Test
more_fields kind = only (k.Mark Comma) kind || (only (k.Mark Colon) kind || more_type kind)

abbrev pub more_plain : Test
more_plain kind = only (k.Mark Arrow) kind || (only (k.Mark Equal) kind || (more_type kind || more_expr kind))

abbrev pub declares : Test
declares = among (k.Mark Comma ∷ k.Mark Colon ∷ [])

-- ---- parts of tests

pub free_left : (a b : Test) (ts : List Token) → Free (λ kind. a kind || b kind) ts → Free a ts
free_left a b [] f = tt
free_left a b (t ∷ ts) f = (or_false (a t.kind) (b t.kind) f).0

pub free_right : (a b : Test) (ts : List Token) → Free (λ kind. a kind || b kind) ts → Free b ts
free_right a b [] f = tt
free_right a b (t ∷ ts) f = (or_false (a t.kind) (b t.kind) f).1

only_found : (kind other : Kind) (b : Bool) → only kind other ≡ b → b ≡ false → found (exactly kind other) ≡ false
only_found kind other true e h = absurd (cc)
only_found kind other false e h = ap (λ z. found (cond z (Some tt) None)) e

pub free_only : (kind : Kind) (ts : List Token) → Free (only kind) ts → Free (finds (exactly kind)) ts
free_only kind [] f = tt
free_only kind (t ∷ ts) f = only_found kind t.kind (only kind t.kind) refl f

-- what begins with a name or one of these does not begin with something else
pub apart : (c : Test) (kinds : List Kind) → Every (λ kind. c kind ≡ false) kinds → ((n : List ℕ) → c (k.Name n) ≡ false) → (ts : List Token) → Begins (λ kind. finds a_name kind || among kinds kind) ts → Free c ts
apart c kinds every names ts b = subst (Free c) (sym b.is) (go (or_true (finds a_name b.token.kind) (among kinds b.token.kind) b.begins))
  where
    go : (finds a_name b.token.kind ≡ true) ⊎ (among kinds b.token.kind ≡ true) → c b.token.kind ≡ false
    go (inl e) = named_every (λ kind. c kind ≡ false) names b.token.kind e
    go (inr e) = among_every (λ kind. c kind ≡ false) kinds every b.token.kind e

pub apart_kinds : (c : Test) (kinds : List Kind) → Every (λ kind. c kind ≡ false) kinds → (ts : List Token) → Begins (among kinds) ts → Free c ts
apart_kinds c kinds every ts b = subst (Free c) (sym b.is) (among_every (λ kind. c kind ≡ false) kinds every b.token.kind b.begins)

pub begins_with : {test other : Test} {ts : List Token} → ((kind : Kind) → test kind ≡ true → other kind ≡ true) → Begins test ts → Begins other ts
begins_with h b = record { token = b.token; back = b.back; is = b.is; begins = h b.token.kind b.begins }

both_false : (a b : Bool) → a ≡ false → b ≡ false → (a || (b || false)) ≡ false
both_false true b e f = absurd (cc)
both_false false true e f = absurd (cc)
both_false false false e f = refl

pub fields_declare : (kind : Kind) → more_fields kind ≡ false → declares kind ≡ false
fields_declare kind f =
    let h = or_false (only (k.Mark Comma) kind) (only (k.Mark Colon) kind || more_type kind) f in
    both_false (only (k.Mark Comma) kind) (only (k.Mark Colon) kind) h.0 (or_false (only (k.Mark Colon) kind) (more_type kind) h.1).0

-- ---- operators

pub multiplying_ends : (kind : Kind) (o : Operator) → multiplying kind ≡ Some o → more_primary kind ≡ false
multiplying_ends (k.Mark Star) o e = refl
multiplying_ends (k.Mark Slash) o e = refl
multiplying_ends (k.Word ModWord) o e = refl
multiplying_ends _ o e = absurd (cc)

pub adding_ends : (kind : Kind) (o : Operator) → adding kind ≡ Some o → more_product kind ≡ false
adding_ends (k.Mark Plus) o e = refl
adding_ends (k.Mark Minus) o e = refl
adding_ends _ o e = absurd (cc)

pub relating_ends : (kind : Kind) (o : Relation) → relating kind ≡ Some o → (more_sum kind ≡ false) × (found (negating kind) ≡ false) × (begins_test kind ≡ true)
relating_ends (k.Mark Equal) o e = (refl, refl, refl)
relating_ends (k.Mark Sharp) o e = (refl, refl, refl)
relating_ends (k.Mark Less) o e = (refl, refl, refl)
relating_ends (k.Mark AtMost) o e = (refl, refl, refl)
relating_ends (k.Mark Greater) o e = (refl, refl, refl)
relating_ends (k.Mark AtLeast) o e = (refl, refl, refl)
relating_ends _ o e = absurd (cc)

pub negating_ends : (kind : Kind) → negating kind ≡ Some tt → (more_sum kind ≡ false) × (begins_expr kind ≡ true) × (found (relating kind) ≡ false) × (found (exactly (k.Word InWord) kind) ≡ false) × (found (a_name kind) ≡ false)
negating_ends (k.Mark Tilde) e = (refl, refl, refl, refl, refl)
negating_ends (k.Word NotWord) e = (refl, refl, refl, refl, refl)
negating_ends _ e = absurd (cc)

pub conjoining_ends : (kind : Kind) (o : Operator) → conjoining kind ≡ Some o → more_rel kind ≡ false
conjoining_ends (k.Word AndWord) o e = refl
conjoining_ends _ o e = absurd (cc)

pub disjoining_ends : (kind : Kind) (o : Operator) → disjoining kind ≡ Some o → more_conj kind ≡ false
disjoining_ends (k.Word OrWord) o e = refl
disjoining_ends _ o e = absurd (cc)

pub closing_ends : (kind : Kind) (b : Bool) → closing kind ≡ Some b → more_expr kind ≡ false
closing_ends (k.Mark RightBracket) b e = refl
closing_ends (k.Mark RightParenthesis) b e = refl
closing_ends _ b e = absurd (cc)

pub signing_starts : (kind : Kind) (o : Sign) → signing kind ≡ Some o → (begins_expr kind ≡ true) × (found (relating kind) ≡ false) × (only (k.Word InWord) kind ≡ false) × (found (negating kind) ≡ false) × (found (a_name kind) ≡ false)
signing_starts (k.Mark Plus) o e = (refl, refl, refl, refl, refl)
signing_starts (k.Mark Minus) o e = (refl, refl, refl, refl, refl)
signing_starts _ o e = absurd (cc)

pub opening_starts : (kind : Kind) (b : Bool) → opening kind ≡ Some b → (begins_type kind ≡ true) × (found (a_name kind) ≡ false) × (found (exactly (k.Mark Dot) kind) ≡ false) × (declares kind ≡ false)
opening_starts (k.Mark LeftBracket) b e = (refl, refl, refl, refl)
opening_starts (k.Mark LeftParenthesis) b e = (refl, refl, refl, refl)
opening_starts _ b e = absurd (cc)

-- ---- how parts begin

pub record Named (ts : List Token) : Type 0 where
  pub name : Identifier
  pub back : List Token
  pub is : ts ≡ spelled name ∷ back

pub names_named : {ts rest : List Token} {x : List Identifier} → g.IsNames ts x rest → Named ts
names_named g.name = record { name = _; back = _; is = refl }
names_named (g.names d) = names_named d

pub qname_named : {ts rest : List Token} {x : QualifiedName} → g.IsQName ts x rest → Named ts
qname_named g.bare = record { name = _; back = _; is = refl }
qname_named g.dotted = record { name = _; back = _; is = refl }

pub qnames_named : {ts rest : List Token} {x : List QualifiedName} → g.IsQNames ts x rest → Named ts
qnames_named (g.qname d) = qname_named d
qnames_named (g.qnames d f) = qnames_named d

pub left_named : {ts rest : List Token} {i : Identifier} {ss : List Suffix} → g.IsLeft ts i ss rest → Named ts
left_named g.named = record { name = _; back = _; is = refl }
left_named (g.field d) = left_named d
left_named (g.applied d f) = left_named d

pub named_begins : {ts : List Token} (test : Test) → ((n : List ℕ) → test (k.Name n) ≡ true) → Named ts → Begins test ts
named_begins test h d = record { token = spelled d.name; back = d.back; is = d.is; begins = h d.name.name }

-- a text that begins as a relation does
pub record Starts (ts : List Token) : Type 0 where
  pub token : Token
  pub back : List Token
  pub is : ts ≡ token ∷ back
  pub begins : begins_expr token.kind ≡ true
  pub unrelated : found (relating token.kind) ≡ false
  pub not_in : only (k.Word InWord) token.kind ≡ false
  pub positive : found (negating token.kind) ≡ false

start_named : {ts : List Token} → Named ts → Starts ts
start_named d = record { token = spelled d.name; back = d.back; is = d.is; begins = refl; unrelated = refl; not_in = refl; positive = refl }

raise_starts_with : {ts rest : List Token} {x : Raise} → g.IsRaise ts x rest → Starts ts
raise_starts_with (g.signal d f) = record { token = _; back = _; is = refl; begins = refl; unrelated = refl; not_in = refl; positive = refl }
raise_starts_with (g.error d f) = record { token = _; back = _; is = refl; begins = refl; unrelated = refl; not_in = refl; positive = refl }
raise_starts_with g.unnamed_error = record { token = _; back = _; is = refl; begins = refl; unrelated = refl; not_in = refl; positive = refl }

list_starts_with : {ts rest : List Token} {x : Placed (Entries Expr)} → g.IsList ts x rest → Starts ts
list_starts_with (g.list d) = record { token = _; back = _; is = refl; begins = refl; unrelated = refl; not_in = refl; positive = refl }

primary_starts : {ts rest : List Token} {x : Expr} → g.IsPrimary ts x rest → Starts ts
primary_starts g.number = record { token = _; back = _; is = refl; begins = refl; unrelated = refl; not_in = refl; positive = refl }
primary_starts g.char = record { token = _; back = _; is = refl; begins = refl; unrelated = refl; not_in = refl; positive = refl }
primary_starts g.text = record { token = _; back = _; is = refl; begins = refl; unrelated = refl; not_in = refl; positive = refl }
primary_starts g.true_word = record { token = _; back = _; is = refl; begins = refl; unrelated = refl; not_in = refl; positive = refl }
primary_starts g.false_word = record { token = _; back = _; is = refl; begins = refl; unrelated = refl; not_in = refl; positive = refl }
primary_starts (g.parens d) = record { token = _; back = _; is = refl; begins = refl; unrelated = refl; not_in = refl; positive = refl }
primary_starts (g.reference d) = start_named (left_named d)
primary_starts (g.constructor d) = list_starts_with d
primary_starts (g.raised d) = raise_starts_with d

factor_starts : {ts rest : List Token} {x : Expr} → g.IsFactor ts x rest → Starts ts
factor_starts (g.primary d) = primary_starts d
factor_starts (g.signed {kind = kind} {s = s} e d) = let h = signing_starts kind s e in record { token = _; back = _; is = refl; begins = h.0; unrelated = h.1; not_in = h.2; positive = h.3 }

products_start : {ts rest : List Token} {x : Expr} {ss : List Operation} → g.IsProducts ts x ss rest → Starts ts
products_start (g.factor d) = factor_starts d
products_start (g.products d e f) = products_start d

product_starts : {ts rest : List Token} {x : Expr} → g.IsProduct ts x rest → Starts ts
product_starts (g.product d) = products_start d

sums_start : {ts rest : List Token} {x : Expr} {ss : List Operation} → g.IsSums ts x ss rest → Starts ts
sums_start (g.summand d) = product_starts d
sums_start (g.sums d e f) = sums_start d

pub sum_starts : {ts rest : List Token} {x : Expr} → g.IsSum ts x rest → Starts ts
sum_starts (g.sum d) = sums_start d

pub rel_starts : {ts rest : List Token} {x : Expr} → g.IsRel ts x rest → Starts ts
rel_starts (g.alone d) = sum_starts d
rel_starts (g.compare d f e h) = sum_starts d
rel_starts (g.within d f h) = sum_starts d

neg_begins : {ts rest : List Token} {x : Expr} → g.IsNeg ts x rest → Begins begins_expr ts
neg_begins (g.rel d) = let h = rel_starts d in record { token = h.token; back = h.back; is = h.is; begins = h.begins }
neg_begins (g.not {kind = kind} e d) = record { token = _; back = _; is = refl; begins = (negating_ends kind e).1 }

ands_begin : {ts rest : List Token} {x : Expr} {ss : List Operation} → g.IsAnds ts x ss rest → Begins begins_expr ts
ands_begin (g.conjunct d) = neg_begins d
ands_begin (g.ands d e f) = ands_begin d

conj_begins : {ts rest : List Token} {x : Expr} → g.IsConj ts x rest → Begins begins_expr ts
conj_begins (g.conj d) = ands_begin d

ors_begin : {ts rest : List Token} {x : Expr} {ss : List Operation} → g.IsOrs ts x ss rest → Begins begins_expr ts
ors_begin (g.disjunct d) = conj_begins d
ors_begin (g.ors d e f) = ors_begin d

pub expr_begins : {ts rest : List Token} {x : Expr} → g.IsExpr ts x rest → Begins begins_expr ts
expr_begins (g.expr d) = ors_begin d

pub exprs_begin : {ts rest : List Token} {x : List Expr} → g.IsExprs ts x rest → Begins begins_expr ts
exprs_begin (g.an_expr d) = expr_begins d
exprs_begin (g.exprs d f) = exprs_begin d

interval_begins : {ts rest : List Token} {x : Interval} → g.IsInterval ts x rest → Begins begins_type ts
interval_begins (g.bounds {kind = kind} {a = a} e d f h) = record { token = _; back = _; is = refl; begins = (opening_starts kind a e).0 }

pub type_begins : {ts rest : List Token} {x : TypeExp} → g.IsType ts x rest → Begins begins_type ts
type_begins g.integer = record { token = _; back = _; is = refl; begins = refl }
type_begins g.cardinal = record { token = _; back = _; is = refl; begins = refl }
type_begins g.long_integer = record { token = _; back = _; is = refl; begins = refl }
type_begins g.long_cardinal = record { token = _; back = _; is = refl; begins = refl }
type_begins g.boolean = record { token = _; back = _; is = refl; begins = refl }
type_begins g.character = record { token = _; back = _; is = refl; begins = refl }
type_begins g.string = record { token = _; back = _; is = refl; begins = refl }
type_begins (g.called d) = named_begins begins_type (λ n. refl) (qname_named d)
type_begins (g.enumeration d) = record { token = _; back = _; is = refl; begins = refl }
type_begins (g.subrange g.unsaid d) = interval_begins d
type_begins (g.subrange g.of_integer d) = record { token = _; back = _; is = refl; begins = refl }
type_begins (g.subrange g.of_cardinal d) = record { token = _; back = _; is = refl; begins = refl }
type_begins (g.subrange g.of_character d) = record { token = _; back = _; is = refl; begins = refl }
type_begins (g.subrange (g.of_name f) d) = named_begins begins_type (λ n. refl) (qname_named f)
type_begins (g.array d f) = record { token = _; back = _; is = refl; begins = refl }
type_begins (g.a_record d) = record { token = _; back = _; is = refl; begins = refl }

pub raise_begins : {ts rest : List Token} {x : Raise} → g.IsRaise ts x rest → Begins (among raise_starts) ts
raise_begins (g.signal d f) = record { token = _; back = _; is = refl; begins = refl }
raise_begins (g.error d f) = record { token = _; back = _; is = refl; begins = refl }
raise_begins g.unnamed_error = record { token = _; back = _; is = refl; begins = refl }

raise_begins_stmt : {ts rest : List Token} {x : Raise} → g.IsRaise ts x rest → Begins begins_stmt ts
raise_begins_stmt (g.signal d f) = record { token = _; back = _; is = refl; begins = refl }
raise_begins_stmt (g.error d f) = record { token = _; back = _; is = refl; begins = refl }
raise_begins_stmt g.unnamed_error = record { token = _; back = _; is = refl; begins = refl }

block_begins : {ts rest : List Token} {x : Block} → g.IsBlock ts x rest → Begins begins_stmt ts
block_begins (g.begin_end d f h i) = record { token = _; back = _; is = refl; begins = refl }
block_begins (g.braces d f h i) = record { token = _; back = _; is = refl; begins = refl }

abbrev pub loops : Test
loops = among loop_starts

pub control_begins : {ts us : List Token} {x : Control} {p : Place} → g.IsControl ts x (word DoWord p ∷ us) → Begins loops ts
control_begins (g.controlled g.no_count g.no_condition) = record { token = _; back = _; is = refl; begins = refl }
control_begins (g.controlled g.no_count (g.while d)) = record { token = _; back = _; is = refl; begins = refl }
control_begins (g.controlled g.no_count (g.until d)) = record { token = _; back = _; is = refl; begins = refl }
control_begins (g.controlled (g.for d f) h) = record { token = _; back = _; is = refl; begins = refl }
control_begins (g.controlled (g.through d) h) = record { token = _; back = _; is = refl; begins = refl }

loop_stmt : (kind : Kind) → loops kind ≡ true → begins_stmt kind ≡ true
loop_stmt kind h = among_every (λ kind. begins_stmt kind ≡ true) loop_starts (refl, (refl, (refl, (refl, (refl, tt))))) kind h

pub stmt_begins : {ts rest : List Token} {x : Statement} → g.IsStmt ts x rest → Begins begins_stmt ts
stmt_begins g.null = record { token = _; back = _; is = refl; begins = refl }
stmt_begins (g.nested d) = block_begins d
stmt_begins (g.assign d f) = named_begins begins_stmt (λ n. refl) (left_named d)
stmt_begins (g.extract d f) = record { token = _; back = _; is = refl; begins = refl }
stmt_begins (g.call d) = named_begins begins_stmt (λ n. refl) (left_named d)
stmt_begins (g.raise d) = raise_begins_stmt d
stmt_begins (g.if_then d f h) = record { token = _; back = _; is = refl; begins = refl }
stmt_begins (g.if_else d f h) = record { token = _; back = _; is = refl; begins = refl }
stmt_begins (g.select d f h) = record { token = _; back = _; is = refl; begins = refl }
stmt_begins (g.loop d f h i) = begins_with loop_stmt (control_begins d)
stmt_begins g.exit_loop = record { token = _; back = _; is = refl; begins = refl }
stmt_begins g.next_turn = record { token = _; back = _; is = refl; begins = refl }
stmt_begins g.goto = record { token = _; back = _; is = refl; begins = refl }
stmt_begins g.go_to = record { token = _; back = _; is = refl; begins = refl }
stmt_begins (g.return d) = record { token = _; back = _; is = refl; begins = refl }
stmt_begins (g.resume d) = record { token = _; back = _; is = refl; begins = refl }
stmt_begins g.reject = record { token = _; back = _; is = refl; begins = refl }
stmt_begins g.retry = record { token = _; back = _; is = refl; begins = refl }
stmt_begins g.continue = record { token = _; back = _; is = refl; begins = refl }

pub stmts_begin : {ts rest : List Token} {x : List Statement} → g.IsStmts ts x rest → Begins begins_stmt ts
stmts_begin (g.a_stmt d) = stmt_begins d
stmts_begin (g.stmts d f) = stmts_begin d

pub arm_begins : {ts rest : List Token} {x : Arm} → g.IsArm ts x rest → Begins begins_arm ts
arm_begins (g.an_arm_of g.any f) = record { token = _; back = _; is = refl; begins = refl }
arm_begins (g.an_arm_of g.unwind f) = record { token = _; back = _; is = refl; begins = refl }
arm_begins (g.an_arm_of (g.signals d) f) = named_begins begins_arm (λ n. refl) (qnames_named d)

pub arms_begin : {ts rest : List Token} {x : List Arm} → g.IsArms ts x rest → Begins begins_arm ts
arms_begin (g.an_arm d) = arm_begins d
arms_begin (g.arms d f) = arms_begin d

pub arm_list_begins : {ts rest : List Token} {x : List Arm} → g.IsArmList ts x rest → Begins begins_arm ts
arm_list_begins (g.open_arms d) = arms_begin d
arm_list_begins (g.closed_arms d) = arms_begin d

pub repeat_begins : {ts rest : List Token} {x : Labeled RepeatLabels Statement} → g.IsRepeat ts x rest → Begins begins_repeat ts
repeat_begins (g.repeat_of (g.labels d) f) = named_begins begins_repeat (λ n. refl) (names_named d)
repeat_begins (g.repeat_of g.finished f) = record { token = _; back = _; is = refl; begins = refl }

pub exit_begins : {ts rest : List Token} {x : Labeled (List Identifier) Statement} → g.IsExit ts x rest → Begins (finds a_name) ts
exit_begins (g.exit_of d f) = named_begins (finds a_name) (λ n. refl) (names_named d)

or_left : (a b : Bool) → a ≡ true → (a || b) ≡ true
or_left true b e = refl
or_left false b e = absurd (cc)

or_right : (a b : Bool) → b ≡ true → (a || b) ≡ true
or_right true b e = refl
or_right false b e = e

expr_test : (kind : Kind) → begins_expr kind ≡ true → begins_test kind ≡ true
expr_test kind h = or_right (finds relating kind) (only (k.Word InWord) kind || begins_expr kind) (or_right (only (k.Word InWord) kind) (begins_expr kind) h)

pub test_begins : {ts rest : List Token} {x : TestTree} → g.IsTest ts x rest → Begins begins_test ts
test_begins (g.value d) = begins_with expr_test (expr_begins d)
test_begins (g.compared {kind = kind} {r = r} g.affirmed e d) = record { token = _; back = _; is = refl; begins = (relating_ends kind r e).2 }
test_begins (g.compared (g.negated {kind = kind} h) e d) = record { token = _; back = _; is = refl; begins = expr_test kind (negating_ends kind h).1 }
test_begins (g.inside g.affirmed d) = record { token = _; back = _; is = refl; begins = refl }
test_begins (g.inside (g.negated {kind = kind} h) d) = record { token = _; back = _; is = refl; begins = expr_test kind (negating_ends kind h).1 }

pub tests_begin : {ts rest : List Token} {x : List TestTree} → g.IsTests ts x rest → Begins begins_test ts
tests_begin (g.a_test d) = test_begins d
tests_begin (g.tests d f) = tests_begin d

pub case_begins : {ts rest : List Token} {x : Case} → g.IsCase ts x rest → Begins begins_test ts
case_begins (g.case_of d f) = tests_begin d

pub cases_begin : {ts rest : List Token} {x : List Case} → g.IsCases ts x rest → Begins begins_test ts
cases_begin (g.a_case d) = case_begins d
cases_begin (g.cases d f) = cases_begin d

pub local_named : {ts rest : List Token} {x : Labeled (List Identifier) PlainItem} → g.IsLocal ts x rest → Named ts
local_named (g.local_of d f) = names_named d

-- ---- what stands behind the statements of a block or loop

abbrev pub tails : List Kind
tails = k.Word ExitsWord ∷ k.Word EndWord ∷ k.Mark RightBrace ∷ k.Word RepeatWord ∷ k.Word EndloopWord ∷ []

pub exits_tail : {ts rest : List Token} {x : List (Labeled (List Identifier) Statement)} (last : Kind) (p : Place) → among tails last ≡ true → g.IsExitPart ts x (token last p ∷ rest) → Begins (among tails) ts
exits_tail last p h g.no_exits = record { token = _; back = _; is = refl; begins = h }
exits_tail last p h (g.open_exits d) = record { token = _; back = _; is = refl; begins = refl }
exits_tail last p h (g.closed_exits d) = record { token = _; back = _; is = refl; begins = refl }

pub repeats_tail : {ts rest : List Token} {x : List (Labeled RepeatLabels Statement)} {p : Place} → g.IsRepeatPart ts x (word EndloopWord p ∷ rest) → Begins (among tails) ts
repeats_tail g.no_repeats = record { token = _; back = _; is = refl; begins = refl }
repeats_tail (g.open_repeats d) = record { token = _; back = _; is = refl; begins = refl }
repeats_tail (g.closed_repeats d) = record { token = _; back = _; is = refl; begins = refl }

pub tail_ends : (ts : List Token) → Begins (among tails) ts → Free (more_items begins_stmt) ts
tail_ends ts b = apart_kinds (more_items begins_stmt) tails (refl, (refl, (refl, (refl, (refl, tt))))) ts b

pub tail_enables : (ts : List Token) → Begins (among tails) ts → Free (finds (exactly (k.Word EnableWord))) ts
tail_enables ts b = apart_kinds (finds (exactly (k.Word EnableWord))) tails (refl, (refl, (refl, (refl, (refl, tt))))) ts b

pub body_enables : {ts rest : List Token} {x : List Statement} → g.IsBody ts x rest → Begins (among tails) rest → Free (finds (exactly (k.Word EnableWord))) ts
body_enables {rest = rest} g.no_stmts b = tail_enables rest b
body_enables {ts} (g.open_stmts d) b = apart (finds (exactly (k.Word EnableWord))) stmt_starts (refl, (refl, (refl, (refl, (refl, (refl, (refl, (refl, (refl, (refl, (refl, (refl, (refl, (refl, (refl, (refl, (refl, (refl, (refl, (refl, (refl, (refl, tt)))))))))))))))))))))) (λ n. refl) ts (stmts_begin d)
body_enables {ts} (g.closed_stmts d) b = apart (finds (exactly (k.Word EnableWord))) stmt_starts (refl, (refl, (refl, (refl, (refl, (refl, (refl, (refl, (refl, (refl, (refl, (refl, (refl, (refl, (refl, (refl, (refl, (refl, (refl, (refl, (refl, (refl, tt)))))))))))))))))))))) (λ n. refl) ts (stmts_begin d)

either_named : {ts us : List Token} → (ts ≡ us) ⊎ Named ts → Named us → Named ts
either_named (inl e) h = record { name = h.name; back = h.back; is = e ∙ h.is }
either_named (inr h) f = h

pub locals_first : {ts rest : List Token} {x : List (Labeled (List Identifier) PlainItem)} → g.IsLocals ts x rest → (ts ≡ rest) ⊎ Named ts
locals_first g.no_locals = inl refl
locals_first (g.locals d f) = inr (either_named (locals_first d) (local_named f))
