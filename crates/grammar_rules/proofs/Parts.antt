-- Loops, ends and first tokens: what the clauses on the rows of the grammar need.
use Rattle.std.proofs.Common.{◌≡◌, ℕ, zero, suc, ◌≤◌, length, arith, Bool, true, false, ◌||◌, List, [], ◌∷◌, ◌++◌, Option, Some, None, ◌⊎◌, inl, inr, refl, sym, ap, subst, ◌∙◌}
use Rattle.mesa_base.specs.declared.place.Place.{Place}
use Rattle.mesa_lexer.specs.declared.token.Token.{Token}
use Rattle.mesa_lexer.specs.declared.token.Kind.{Kind}
use Rattle.mesa_lexer.specs.declared.token.Kind.TheVariants as k
use Rattle.mesa_lexer.specs.declared.word.Word.TheVariants.{ArrayWord, BooleanWord, CardinalWord, CharacterWord, ContinueWord, ExitWord, FalseWord, GoWord, GotoWord, IfWord, IntegerWord, LongWord, LoopWord, NullWord, RecordWord, RejectWord, ResumeWord, RetryWord, ReturnWord, SelectWord, StringWord, TrueWord, AnyWord, BeginWord, DoWord, ElseWord, EnableWord, EndWord, ExitsWord, ForWord, InWord, ThroughWord, TypeWord, UntilWord, UnwindWord, WhileWord}
use Rattle.mesa_lexer.specs.declared.mark.Mark.TheVariants.{Arrow, Colon, Comma, Dot, LeftParenthesis, LeftBracket, RightBracket, LeftBrace, RightBrace, Equal, Bang, DoubleArrow}
use Rattle.token_cursor.specs.Parsing.{token, mark, Got, Parser, and_then, ◌>>=◌, ◌>>◌, pure, refuse, first, only, exactly, finds, among, a_name, choose, option, need, repeat, many_turn, many, ended_turn, ended}
use Rattle.token_cursor.specs.Parsing as w
use Rattle.token_cursor.proofs.Exact.{Test, Free, Took, Then}
use Rattle.token_cursor.proofs.Branches.{Every, among_every, only_is, passed, chosen}
use Rattle.token_cursor.proofs.Loops.{Eats, many_eats}
use Rattle.token_cursor.proofs.Leading.{Leads, stand, finish, onto, under, comp, ahead, via, at_once, many_end, Begins, stops_deep, own_place}
use Rattle.mesa_base.specs.declared.identifier.Identifier.{Identifier}
use Rattle.mesa_base.specs.declared.placed.Placed.{Placed}
use Rattle.syntax_trees.specs.declared.syntax.Keyed.{Keyed}
use Rattle.syntax_trees.specs.declared.syntax.Labeled.{Labeled}
use Rattle.syntax_trees.specs.declared.syntax.Entries.{Entries}
use Rattle.syntax_trees.specs.declared.syntax.Entries.TheVariants.{Nothing, InOrder, ByKey}
use Rattle.syntax_trees.specs.declared.syntax.TypeBase.TheVariants.{OfInteger, OfCardinal, OfCharacter}
use Rattle.mesa_base.specs.declared.relation.Relation.{Relation}
use Rattle.syntax_trees.specs.declared.syntax.TypeExp.{TypeExp}
use Rattle.syntax_trees.specs.declared.syntax.TypeExp.TheVariants as t
use Rattle.syntax_trees.specs.declared.syntax.FieldList.{FieldList}
use Rattle.syntax_trees.specs.declared.syntax.FieldList.TheVariants.{WithNames}
use Rattle.syntax_trees.specs.declared.syntax.Expr.{Expr}
use Rattle.syntax_trees.specs.declared.syntax.Expr.TheVariants as ev
use Rattle.syntax_trees.specs.declared.syntax.Operation.{Operation}
use Rattle.syntax_trees.specs.declared.syntax.Left.{Left}
use Rattle.syntax_trees.specs.declared.syntax.Suffix.{Suffix}
use Rattle.syntax_trees.specs.declared.syntax.Arm.{Arm}
use Rattle.syntax_trees.specs.declared.syntax.Statement.{Statement}
use Rattle.syntax_trees.specs.declared.syntax.Statement.TheVariants as s
use Rattle.syntax_trees.specs.declared.syntax.Condition.{Condition}
use Rattle.syntax_trees.specs.declared.syntax.Case.{Case}
use Rattle.syntax_trees.specs.declared.syntax.Test.{Test as TestTree}
use Rattle.syntax_trees.specs.declared.syntax.PlainItem.TheVariants.{Variable, Initial, Constant}
use Rattle.grammar_rules.specs.WordsAndMarks.{spelled, disjoining, conjoining, adding, multiplying, signing, relating, negating, opening}
use Rattle.grammar_rules.specs.Grammar as g
use Rattle.grammar_rules.specs.Grammar.{run, keyed, labeled, placed as placing}
use Rattle.grammar_rules.specs.Depth as dp
use Rattle.grammar_rules.specs.ReadNested.{Fresh, Nested, begins_expr, begins_stmt, begins_arm, begins_test, begins_repeat, begins_type, comma, identifier, type_starts}
use Rattle.grammar_rules.specs.ReadNested as nr
use Rattle.grammar_rules.specs.ReadExpressions as ex
use Rattle.grammar_rules.specs.ReadExpressions.{suffixing, all_names}
use Rattle.grammar_rules.specs.ReadStatements as st
use Rattle.grammar_rules.specs.ReadStatements.{nested, Local, Exit, Repeat, begins_label, semicolon}
use Rattle.grammar_rules.proofs.Readings.{Ors_at, Ands_at, Sums_at, Products_at}
use Rattle.grammar_rules.proofs.KeepExpressions as ke
use Rattle.grammar_rules.proofs.KeepTypes as kt
use Rattle.grammar_rules.proofs.KeepStatements as ks
use Rattle.grammar_rules.proofs.Levels.{all_of}
use Rattle.grammar_rules.proofs.Follows as fo
use Rattle.grammar_rules.proofs.Follows.{more_primary, more_product, more_sum, more_rel, more_conj, more_expr, more_stmt, more_type, more_items, more_fields, more_plain, declares, tails, free_left, free_right, free_only, apart_kinds}
use Rattle.grammar_rules.proofs.Turns.{dot, names_all, args_none}
use Rattle.grammar_rules.proofs.Seconds.{behind_first, Second, left_second, colon}
use Rattle.grammar_rules.proofs.Goes as go
use Rattle.grammar_rules.proofs.FieldTurns as ft
use Rattle.grammar_rules.proofs.Sealed as sd
use Rattle.grammar_rules.proofs.Equations as eq

-- ---- loops

pub some_expr : Expr
some_expr = ev.Truth (record { token = 0; line = 1; column = 1 }) true

abbrev pub Products : ℕ → List Operation → Parser (List Operation)
Products n = many multiplying (ex.products_step (nested n))

abbrev pub Sums : ℕ → List Operation → Parser (List Operation)
Sums n = many adding (ex.sums_step (nested n))

abbrev pub Ands : ℕ → List Operation → Parser (List Operation)
Ands n = many conjoining (ex.ands_step (nested n))

abbrev pub Ors : ℕ → List Operation → Parser (List Operation)
Ors n = many disjoining (ex.ors_step (nested n))

pub products_eats : (n : ℕ) → Eats (many_turn multiplying (ex.products_step (nested n)))
products_eats n = many_eats (λ ss t. Took t (Then (Products_at n some_expr) (Products_at n some_expr) ss)) multiplying (ex.products_step (nested n)) (ke.products_step n (nested n) (all_of n) some_expr)

pub sums_eats : (n : ℕ) → Eats (many_turn adding (ex.sums_step (nested n)))
sums_eats n = many_eats (λ ss t. Took t (Then (Sums_at n some_expr) (Sums_at n some_expr) ss)) adding (ex.sums_step (nested n)) (ke.sums_step n (nested n) (all_of n) some_expr)

pub ands_eats : (n : ℕ) → Eats (many_turn conjoining (ex.ands_step (nested n)))
ands_eats n = many_eats (λ ss t. Took t (Then (Ands_at n some_expr) (Ands_at n some_expr) ss)) conjoining (ex.ands_step (nested n)) (ke.ands_step n (nested n) (all_of n) some_expr)

pub ors_eats : (n : ℕ) → Eats (many_turn disjoining (ex.ors_step (nested n)))
ors_eats n = many_eats (λ ss t. Took t (Then (Ors_at n some_expr) (Ors_at n some_expr) ss)) disjoining (ex.ors_step (nested n)) (ke.ors_step n (nested n) (all_of n) some_expr)

-- the tree of a run, once its operators are read
abbrev pub Made : (List Operation → Parser (List Operation)) → Expr → List Operation → Parser Expr
Made loop x ss = loop ss >>= (λ all. pure (run x all))

pub run_end : {O : Type 0} (f : Kind → Option O) (step : List Operation → O → Place → Parser (List Operation)) → Eats (many_turn f step) → (x : Expr) (ss : List Operation) (ts : List Token) → Free (finds f) ts → Made (many f step) x ss ts ≡ Got (run x ss) ts
run_end f step eats x ss ts h = ap (λ out. and_then out (λ all. pure (run x all))) (many_end f step eats ss ts h)

abbrev pub Suffixes : ℕ → List Suffix → Parser (List Suffix)
Suffixes n = many suffixing (ex.suffixes_step (nested n))

pub suffixes_eats : (n : ℕ) → Eats (many_turn suffixing (ex.suffixes_step (nested n)))
suffixes_eats n = ke.suffixes_eats n (nested n) (all_of n)

abbrev pub Exprs : ℕ → List Expr → Parser (Entries Expr)
Exprs n all = many comma (ex.exprs_step (nested n)) all >>= (λ all. pure (InOrder all))

pub exprs_eats : (n : ℕ) → Eats (many_turn comma (ex.exprs_step (nested n)))
exprs_eats n = ke.exprs_eats n (nested n) (all_of n)

abbrev pub Keys : ℕ → List (Keyed Expr) → Parser (Entries Expr)
Keys n all = many comma (ex.keys_step (nested n)) all >>= (λ all. pure (ByKey all))

pub keys_eats : (n : ℕ) → Eats (many_turn comma (ex.keys_step (nested n)))
keys_eats n = ke.keys_eats n (nested n) (all_of n)

abbrev pub Arms : ℕ → List Arm → Parser (List Arm)
Arms n = ended semicolon begins_arm (ex.arms_step (nested n))

pub arms_eats : (n : ℕ) → Eats (ended_turn semicolon begins_arm (ex.arms_step (nested n)))
arms_eats n = ke.arms_eats n (nested n) (all_of n)

abbrev pub Groups : ℕ → List (Labeled (List Identifier) TypeExp) → Parser FieldList
Groups n all = many comma (ex.groups_step (nested n)) all >>= (λ all. pure (WithNames all))

pub groups_eats : (n : ℕ) → Eats (many_turn comma (ex.groups_step (nested n)))
groups_eats n = kt.groups_eats n (nested n) (all_of n)

-- ---- parts of what may follow

pub semi_free : (begins : Test) (ts : List Token) → Free (more_items begins) ts → Free (finds (exactly semicolon)) ts
semi_free begins ts f = free_only semicolon ts (free_left (only semicolon) (λ kind. begins kind || more_stmt kind) ts f)

pub begins_free : (begins : Test) (ts : List Token) → Free (more_items begins) ts → Free begins ts
begins_free begins ts f = free_left begins more_stmt ts (free_right (only semicolon) (λ kind. begins kind || more_stmt kind) ts f)

pub stmt_free : (begins : Test) (ts : List Token) → Free (more_items begins) ts → Free more_stmt ts
stmt_free begins ts f = free_right begins more_stmt ts (free_right (only semicolon) (λ kind. begins kind || more_stmt kind) ts f)

pub otherwise_free : (ts : List Token) → Free more_stmt ts → Free (finds (exactly (k.Mark DoubleArrow))) ts
otherwise_free ts f = free_only (k.Mark DoubleArrow) ts (free_left (only (k.Mark DoubleArrow)) more_expr ts (free_right (only (k.Mark Arrow)) (λ kind. only (k.Mark DoubleArrow) kind || more_expr kind) ts f))

pub expr_free : (ts : List Token) → Free more_stmt ts → Free more_expr ts
expr_free ts f = free_right (only (k.Mark DoubleArrow)) more_expr ts (free_right (only (k.Mark Arrow)) (λ kind. only (k.Mark DoubleArrow) kind || more_expr kind) ts f)

pub rel_free : (ts : List Token) → Free more_expr ts → Free more_rel ts
rel_free ts f = free_right (finds conjoining) more_rel ts (free_right (finds disjoining) more_conj ts f)

pub sum_free : (ts : List Token) → Free more_rel ts → Free more_sum ts
sum_free ts f = free_right (finds negating) more_sum ts (free_right (only (k.Word InWord)) (λ kind. finds negating kind || more_sum kind) ts (free_right (finds relating) (λ kind. only (k.Word InWord) kind || (finds negating kind || more_sum kind)) ts f))

pub primary_free : (ts : List Token) → Free more_sum ts → Free more_primary ts
primary_free ts f = free_right (finds multiplying) more_primary ts (free_right (finds adding) more_product ts f)

pub suffix_free : (ts : List Token) → Free more_primary ts → Free (finds suffixing) ts
suffix_free ts f = free_left (finds suffixing) (finds a_name) ts f

pub name_free : (ts : List Token) → Free more_primary ts → Free (finds a_name) ts
name_free ts f = free_right (finds suffixing) (finds a_name) ts f

pub dot_free : (ts : List Token) → Free more_primary ts → Free (finds dot) ts
dot_free ts f = go.suffix_dot ts (suffix_free ts f)

pub bracket_free : (ts : List Token) → Free more_primary ts → Free (finds (exactly (k.Mark LeftBracket))) ts
bracket_free ts f = go.suffix_bracket ts (suffix_free ts f)

pub stmt_primary : (ts : List Token) → Free more_stmt ts → Free more_primary ts
stmt_primary ts f = primary_free ts (sum_free ts (rel_free ts (expr_free ts f)))

-- what ends arguments
abbrev pub closers : List Kind
closers = k.Mark RightBracket ∷ k.Mark Bang ∷ []

pub catch_closes : {ts rest : List Token} {c : Option (Placed (List Arm))} {p : Place} → g.IsCatch ts c (mark RightBracket p ∷ rest) → Begins (among closers) ts
catch_closes g.no_catch = record { token = _; back = _; is = refl; begins = refl }
catch_closes (g.catch d) = record { token = _; back = _; is = refl; begins = refl }

pub unsigned : {ts rest : List Token} {x : Expr} → g.IsPrimary ts x rest → Free (finds signing) ts
unsigned g.number = refl
unsigned g.char = refl
unsigned g.text = refl
unsigned g.true_word = refl
unsigned g.false_word = refl
unsigned (g.parens d) = refl
unsigned {ts} (g.reference d) = subst (Free (finds signing)) (sym (go.left_head d)) refl
unsigned (g.constructor (g.list d)) = refl
unsigned (g.raised (g.signal d f)) = refl
unsigned (g.raised (g.error d f)) = refl
unsigned (g.raised g.unnamed_error) = refl

pub fields_deep_first : {ts rest : List Token} {x : FieldList} → g.IsFields ts x rest → Begins begins_type ts
fields_deep_first (g.with_names d) = groups_begin d
  where
    groups_begin : {ts rest : List Token} {x : List (Labeled (List Identifier) TypeExp)} → g.IsGroups ts x rest → Begins begins_type ts
    groups_begin (g.group d f) = fo.named_begins begins_type (λ n. refl) (fo.names_named d)
    groups_begin (g.groups d f h) = groups_begin d
fields_deep_first (g.unnamed d) = types_begin d
  where
    types_begin : {ts rest : List Token} {x : List TypeExp} → g.IsTypes ts x rest → Begins begins_type ts
    types_begin (g.a_type d) = fo.type_begins d
    types_begin (g.types d f) = types_begin d

pub fields_begin : {ts rest : List Token} {x : FieldList} → g.IsFields ts x rest → Begins begins_type ts
fields_begin d = fields_deep_first d

-- ---- from one level to the next, with the sealed nesting

pub lift_stmt : (n : ℕ) {ts rest : List Token} {x : Statement} (e : g.IsStmt ts x rest) → ((m : ℕ) → Leads ts x rest (sd.at_stmt (suc m) e) (λ y. pure y) (st.statement (nested m) None ts)) → Leads ts x rest (sd.at_stmt n e) (λ y. pure y) ((nested n).stmt None ts)
unfolding nested
lift_stmt zero {ts} e h = at_once (stops_deep begins_stmt ts (fo.stmt_begins e)) (h zero).size (λ u f. own_place ts u (sym (eq.zero_at_stmt e) ∙ f))
lift_stmt (suc m) e h = h m

pub lift_expr : (n : ℕ) {ts rest : List Token} {x : Expr} (e : g.IsExpr ts x rest) → ((m : ℕ) → Leads ts x rest (sd.at_expr (suc m) e) (λ y. pure y) (ex.expr (nested m) Fresh ts)) → Leads ts x rest (sd.at_expr n e) (λ y. pure y) ((nested n).expr Fresh ts)
unfolding nested
lift_expr zero {ts} e h = at_once (stops_deep begins_expr ts (fo.expr_begins e)) (h zero).size (λ u f. own_place ts u (sym (eq.zero_at_expr e) ∙ f))
lift_expr (suc m) e h = h m

pub lift_type : (n : ℕ) {ts rest : List Token} {x : TypeExp} (e : g.IsType ts x rest) → ((m : ℕ) → Leads ts x rest (sd.at_type (suc m) e) (λ y. pure y) (ex.type_exp (nested m) None ts)) → Leads ts x rest (sd.at_type n e) (λ y. pure y) ((nested n).type None ts)
unfolding nested
lift_type zero {ts} e h = at_once (stops_deep begins_type ts (fo.type_begins e)) (h zero).size (λ u f. own_place ts u (sym (eq.zero_at_type e) ∙ f))
lift_type (suc m) e h = h m

pub phases : (m : ℕ) {ts rest : List Token} {x : List TypeExp} {o o' : Option (List Token)} → o ≡ o' → ft.Still m ts x rest o ⊎ ft.Past m ts x rest o → ft.Still m ts x rest o' ⊎ ft.Past m ts x rest o'
phases m {ts} {rest} {x} e h = subst (λ z. ft.Still m ts x rest z ⊎ ft.Past m ts x rest z) e h

pub kind_sealed : (m : ℕ) {ts rest : List Token} {x : TypeExp} (d : g.IsType ts x rest) → ft.Kinds ts x rest (sd.at_type (suc m) d)
kind_sealed m {ts} {rest} {x} d = subst (λ z. ft.Kinds ts x rest z) (sym (sd.seal_at_type (suc m) d)) (ft.kind_of m d)

-- where a list of fields is too deep at the last level
pub record Bottom (ts : List Token) (o : Option (List Token)) : Type 0 where
  pub at : List Token
  pub is : o ≡ Some at
  pub within : length at ≤ length ts

pub types_bottom : {ts rest : List Token} {x : List TypeExp} (e : g.IsTypes ts x rest) → Bottom ts (dp.deep_types zero e)
types_bottom (g.a_type e) = record { at = _; is = refl; within = omega arith }
types_bottom (g.types e f) = let b = types_bottom e in record { at = b.at; is = ap (λ z. first z (first (dp.deep_type zero f) None)) b.is; within = b.within }

pub names_size : {ts us : List Token} {ns : List Identifier} {p : Place} → g.IsNames ts ns (mark Colon p ∷ us) → length us ≤ length ts
names_size e = let s = (names_all e refl).size in omega arith

pub groups_bottom : {ts rest : List Token} {x : List (Labeled (List Identifier) TypeExp)} (e : g.IsGroups ts x rest) → Bottom ts (dp.deep_groups zero e)
groups_bottom (g.group e f) = record { at = _; is = refl; within = names_size e }
groups_bottom (g.groups e f h) = let b = groups_bottom e in record { at = b.at; is = ap (λ z. first z (first (dp.deep_type zero h) None)) b.is; within = b.within }

pub fields_bottom : {ts rest : List Token} {x : FieldList} (e : g.IsFields ts x rest) → Bottom ts (dp.deep_fields zero e)
fields_bottom (g.with_names e) = let b = groups_bottom e in record { at = b.at; is = ap (λ z. first z None) b.is; within = b.within }
fields_bottom (g.unnamed e) = let b = types_bottom e in record { at = b.at; is = ap (λ z. first z None) b.is; within = b.within }

pub lift_fields : (n : ℕ) {ts rest : List Token} {x : FieldList} (e : g.IsFields ts x rest) → ((m : ℕ) → Leads ts x rest (sd.at_fields (suc m) e) (λ y. pure y) (ex.field_list (nested (suc m)) ts)) → Leads ts x rest (sd.at_fields n e) (λ y. pure y) (ex.field_list (nested n) ts)
lift_fields zero {ts} e h = let w = fields_bottom e in at_once (ft.fields_deep ts (fields_begin e)) (h zero).size (λ u f. let here : dp.deep_fields zero e ≡ Some u = sym (sd.seal_at_fields zero e) ∙ f in let same : w.at ≡ u = cc (w.is, here) in let s = w.within in omega (arith, ap length same))
lift_fields (suc m) e h = h m

-- the first fields with names
pub group_first : (m : ℕ) (ts us rest : List Token) (ns : List Identifier) (x : TypeExp) (p : Place) (o : Option (List Token)) → g.IsNames ts ns (mark Colon p ∷ us) → Leads us x rest o (λ y. pure y) ((nested (suc m)).type None us) → Leads ts (labeled ns x ∷ []) rest (first o None) (Groups (suc m)) (ex.field_list (nested (suc m)) ts)
unfolding ex.with_names
group_first m ts us rest ns x p o e h = let pre = ft.prefix_names m e in
    subst (λ z. Leads ts (labeled z x ∷ []) rest (first o None) (Groups (suc m)) (ex.field_list (nested (suc m)) ts)) pre.same
    (comp pre.leads (via (ft.at_colon m pre.state p us) (ahead (mark Colon p) (comp (onto (λ x. Groups (suc m) (labeled (all_names pre.state) x ∷ [])) h) (stand rest (labeled (all_names pre.state) x ∷ []) (Groups (suc m)))))))

pub open_free : (ts : List Token) → Free more_type ts → Free (finds opening) ts
open_free ts f = free_right (only (k.Mark Dot)) (finds opening) ts f

pub type_dot : (ts : List Token) → Free more_type ts → Free (finds dot) ts
type_dot ts f = free_only (k.Mark Dot) ts (free_left (only (k.Mark Dot)) (finds opening) ts f)

pub fields_type : (ts : List Token) → Free more_fields ts → Free more_type ts
fields_type ts f = free_right (only (k.Mark Colon)) more_type ts (free_right (only (k.Mark Comma)) (λ kind. only (k.Mark Colon) kind || more_type kind) ts f)

pub fields_comma : (ts : List Token) → Free more_fields ts → Free (finds comma) ts
fields_comma ts f = free_only (k.Mark Comma) ts (free_left (only (k.Mark Comma)) (λ kind. only (k.Mark Colon) kind || more_type kind) ts f)

pub no_else_passes : (ts : List Token) → g.NoElse ts → Free (finds (exactly (k.Word ElseWord))) ts
no_else_passes ts h = free_only (k.Word ElseWord) ts (go ts h)
  where
    by : (kind : Kind) → (kind ≡ k.Word ElseWord → ⊥) → (b : Bool) → only (k.Word ElseWord) kind ≡ b → b ≡ false
    by kind h true e = absurd (h (only_is (k.Word ElseWord) kind e))
    by kind h false e = refl

    go : (ts : List Token) → g.NoElse ts → Free (only (k.Word ElseWord)) ts
    go [] h = tt
    go (t ∷ ts) h = by t.kind h (only (k.Word ElseWord) t.kind) refl

pub closers_expr : (ts : List Token) → Begins (among closers) ts → Free more_expr ts
closers_expr ts b = apart_kinds more_expr closers (refl, (refl, tt)) ts b

pub closers_comma : (ts : List Token) → Begins (among closers) ts → Free (finds comma) ts
closers_comma ts b = apart_kinds (finds comma) closers (refl, (refl, tt)) ts b

pub closers_colon : (ts : List Token) → Begins (among closers) ts → Free colon ts
closers_colon ts b = apart_kinds colon closers (refl, (refl, tt)) ts b

pub closers_none : (n : ℕ) (ts : List Token) → Begins (among closers) ts → ex.args (nested n) ts ≡ Got Nothing ts
closers_none n ts b = args_none n ts (apart_kinds begins_expr closers (refl, (refl, tt)) ts b) (apart_kinds (finds a_name) closers (refl, (refl, tt)) ts b)

pub arms_free : (ts : List Token) → Free (more_items begins_arm) ts → Free more_stmt ts
arms_free ts f = stmt_free begins_arm ts f

abbrev pub Stmts : ℕ → List Statement → Parser (List Statement)
Stmts n = ended semicolon begins_stmt (st.stmts_step (nested n))

pub stmts_eats : (n : ℕ) → Eats (ended_turn semicolon begins_stmt (st.stmts_step (nested n)))
stmts_eats n = ks.stmts_eats n (nested n) (all_of n)

abbrev pub Exits : ℕ → List Exit → Parser (List Exit)
Exits n = ended semicolon begins_label (st.exits_step (nested n))

pub exits_eats : (n : ℕ) → Eats (ended_turn semicolon begins_label (st.exits_step (nested n)))
exits_eats n = ks.exits_eats n (nested n) (all_of n)

abbrev pub Repeats : ℕ → List Repeat → Parser (List Repeat)
Repeats n = ended semicolon begins_repeat (st.repeats_step (nested n))

pub repeats_eats : (n : ℕ) → Eats (ended_turn semicolon begins_repeat (st.repeats_step (nested n)))
repeats_eats n = ks.repeats_eats n (nested n) (all_of n)

abbrev pub Cases : ℕ → List Case → Parser (List Case)
Cases n = ended semicolon begins_test (st.cases_step (nested n))

pub cases_eats : (n : ℕ) → Eats (ended_turn semicolon begins_test (st.cases_step (nested n)))
cases_eats n = ks.cases_eats n (nested n) (all_of n)

-- what follows the tests of a case
abbrev pub Tests : ℕ → List TestTree → Parser Case
Tests n all = many comma (st.tests_step (nested n)) all >>= (λ all. need (k.Mark DoubleArrow) >> ((nested n).stmt None >>= (λ x. pure (g.case all x))))

pub tests_eats : (n : ℕ) → Eats (many_turn comma (st.tests_step (nested n)))
tests_eats n = ks.tests_eats n (nested n) (all_of n)

abbrev pub Lefts : ℕ → List Left → Parser (Entries Left)
Lefts n all = many comma (st.lefts_step (nested n)) all >>= (λ all. pure (InOrder all))

pub lefts_eats : (n : ℕ) → Eats (many_turn comma (st.lefts_step (nested n)))
lefts_eats n = ks.lefts_eats n (nested n) (all_of n)

abbrev pub KeyLefts : ℕ → List (Keyed Left) → Parser (Entries Left)
KeyLefts n all = many comma (st.key_lefts_step (nested n)) all >>= (λ all. pure (ByKey all))

pub key_lefts_eats : (n : ℕ) → Eats (many_turn comma (st.key_lefts_step (nested n)))
key_lefts_eats n = ks.key_lefts_eats n (nested n) (all_of n)

pub head_eats : (n : ℕ) → Eats (st.head_turn (nested n))
head_eats n = ks.head_eats n (nested n) (all_of n)

pub tail_stmts : (ts : List Token) → Begins (among tails) ts → Free begins_stmt ts
tail_stmts ts b = apart_kinds begins_stmt tails (refl, (refl, (refl, (refl, (refl, tt))))) ts b

-- ---- further steps

pub need_goes : (end : Kind) (r : Place) (ts : List Token) → exactly end end ≡ Some tt → need end (token end r ∷ ts) ≡ Got r ts
unfolding need
need_goes end r ts h = chosen (exactly end) (λ _. pure) refuse tt (token end r) ts h

pub enables : {us vs ws : List Token} {ls : List Local} {ss : List Statement} → g.IsLocals us ls vs → g.IsBody vs ss ws → Begins (among tails) ws → Free (finds (exactly (k.Word EnableWord))) us
enables {us} b c tail = by (fo.locals_first b) (fo.body_enables c tail)
  where
    by : {vs : List Token} → (us ≡ vs) ⊎ fo.Named us → Free (finds (exactly (k.Word EnableWord))) vs → Free (finds (exactly (k.Word EnableWord))) us
    by (inl e) f = subst (Free (finds (exactly (k.Word EnableWord)))) (sym e) f
    by (inr i) f = subst (Free (finds (exactly (k.Word EnableWord)))) (sym i.is) refl

pub plain_type : (ts : List Token) → Free more_plain ts → Free more_type ts
plain_type ts f = free_left more_type more_expr ts (free_right (only (k.Mark Equal)) (λ kind. more_type kind || more_expr kind) ts (free_right (only (k.Mark Arrow)) (λ kind. only (k.Mark Equal) kind || (more_type kind || more_expr kind)) ts f))

pub plain_expr : (ts : List Token) → Free more_plain ts → Free more_expr ts
plain_expr ts f = free_right more_type more_expr ts (free_right (only (k.Mark Equal)) (λ kind. more_type kind || more_expr kind) ts (free_right (only (k.Mark Arrow)) (λ kind. only (k.Mark Equal) kind || (more_type kind || more_expr kind)) ts f))

pub valued_bare : (n : ℕ) (x : TypeExp) (ts : List Token) → Free more_plain ts → st.valued (nested n) x ts ≡ Got (Variable x) ts
unfolding st.valued
valued_bare n x ts f = passed (exactly (k.Mark Arrow)) (λ _ _. (nested n).expr Fresh >>= (λ y. pure (Initial x y))) (option (k.Mark Equal) (λ _. (nested n).expr Fresh >>= (λ y. pure (Constant x y))) (pure (Variable x))) ts (free_only (k.Mark Arrow) ts (free_left (only (k.Mark Arrow)) (λ kind. only (k.Mark Equal) kind || (more_type kind || more_expr kind)) ts f))
    ∙ passed (exactly (k.Mark Equal)) (λ _ _. (nested n).expr Fresh >>= (λ y. pure (Constant x y))) (pure (Variable x)) ts (free_only (k.Mark Equal) ts (free_left (only (k.Mark Equal)) (λ kind. more_type kind || more_expr kind) ts (free_right (only (k.Mark Arrow)) (λ kind. only (k.Mark Equal) kind || (more_type kind || more_expr kind)) ts f)))

pub typed_goes : (n : ℕ) (ts : List Token) → Begins begins_type ts → st.plain (nested n) ts ≡ and_then ((nested n).type None ts) (st.valued (nested n))
unfolding st.plain st.typed
typed_goes n ts b = passed (exactly (k.Word TypeWord)) (λ _ _. st.type_is (nested n)) (st.typed (nested n)) ts (fo.apart (finds (exactly (k.Word TypeWord))) type_starts (refl, (refl, (refl, (refl, (refl, (refl, (refl, (refl, (refl, (refl, (refl, tt))))))))))) (λ name. refl) ts b)

pub enabling_none : (n : ℕ) (ts : List Token) → Free (finds (exactly (k.Word EnableWord))) ts → st.enabling (nested n) ts ≡ Got None ts
unfolding st.enabling
enabling_none n ts f = passed (exactly (k.Word EnableWord)) (λ _ p. option (k.Word BeginWord) (λ _. st.enable_many (nested n) p) (st.enable_one (nested n) p)) (pure None) ts f

pub enable_goes : (n : ℕ) (p : Place) (ts : List Token) → Begins begins_arm ts → option (k.Word BeginWord) (λ _. st.enable_many (nested n) p) (st.enable_one (nested n) p) ts ≡ and_then (ex.arm (nested n) ts) (λ a. need semicolon >> pure (Some (placing p (a ∷ []))))
unfolding st.enable_one
enable_goes n p ts b = passed (exactly (k.Word BeginWord)) (λ _ _. st.enable_many (nested n) p) (st.enable_one (nested n) p) ts (fo.apart (finds (exactly (k.Word BeginWord))) (k.Word AnyWord ∷ k.Word UnwindWord ∷ []) (refl, (refl, tt)) (λ name. refl) ts b)

pub end_by : (c : Test) → Every (λ kind. c kind ≡ false) tails → (end : Kind) → among tails end ≡ true → c end ≡ false
end_by c every end h = among_every (λ kind. c kind ≡ false) tails every end h

pub end_stmt : (end : Kind) → among tails end ≡ true → more_stmt end ≡ false
end_stmt = end_by more_stmt (refl, (refl, (refl, (refl, (refl, tt)))))

pub end_semi : (end : Kind) → among tails end ≡ true → finds (exactly semicolon) end ≡ false
end_semi = end_by (finds (exactly semicolon)) (refl, (refl, (refl, (refl, (refl, tt)))))

pub end_name : (end : Kind) → among tails end ≡ true → finds a_name end ≡ false
end_name = end_by (finds a_name) (refl, (refl, (refl, (refl, (refl, tt)))))

-- the last word of a block, which is not EXITS
abbrev pub ends : List Kind
ends = k.Word EndWord ∷ k.Mark RightBrace ∷ []

pub exits_none : (n : ℕ) (end : Kind) (r : Place) (ts : List Token) → among ends end ≡ true → st.exit_part (nested n) (token end r ∷ ts) ≡ Got [] (token end r ∷ ts)
unfolding st.exit_part
exits_none n end r ts h = passed (exactly (k.Word ExitsWord)) (λ _ _. st.exits (nested n)) (pure []) (token end r ∷ ts) (among_every (λ kind. finds (exactly (k.Word ExitsWord)) kind ≡ false) ends (refl, (refl, tt)) end h)

pub ends_tail : (end : Kind) → among ends end ≡ true → among tails end ≡ true
ends_tail end h = among_every (λ kind. among tails kind ≡ true) ends (refl, (refl, tt)) end h

abbrev pub conditions : List Kind
conditions = k.Word WhileWord ∷ k.Word UntilWord ∷ k.Word DoWord ∷ []

pub condition_starts : {ts rest : List Token} {x : Option Condition} {p : Place} → g.IsCondition ts x (w.word DoWord p ∷ rest) → Begins (among conditions) ts
condition_starts g.no_condition = record { token = _; back = _; is = refl; begins = refl }
condition_starts (g.while d) = record { token = _; back = _; is = refl; begins = refl }
condition_starts (g.until d) = record { token = _; back = _; is = refl; begins = refl }

pub count_none : (n : ℕ) (ts : List Token) → Begins (among conditions) ts → st.count (nested n) ts ≡ Got None ts
unfolding st.count
count_none n ts b = passed (exactly (k.Word ForWord)) (λ _. st.for (nested n)) (option (k.Word ThroughWord) (st.through (nested n)) (pure None)) ts (apart_kinds (finds (exactly (k.Word ForWord))) conditions (refl, (refl, (refl, tt))) ts b)
    ∙ passed (exactly (k.Word ThroughWord)) (λ _. st.through (nested n)) (pure None) ts (apart_kinds (finds (exactly (k.Word ThroughWord))) conditions (refl, (refl, (refl, tt))) ts b)

-- a name comes first, and no colon behind it
pub record Plural (ts : List Token) : Type 0 where
  pub name : Identifier
  pub is : ts ≡ spelled name ∷ behind_first ts
  pub second : Free colon (behind_first ts)

-- targets without keys
abbrev pub first_lefts : ℕ → Parser (Entries Left)
first_lefts n = choose a_name (λ name p. st.lefts (nested n) (identifier name p)) (pure Nothing)

pub lefts_second : {ts rest : List Token} {x : List Left} {p : Place} → g.IsLefts ts x (mark RightBracket p ∷ rest) → Plural ts
lefts_second d = all d refl
  where
    all : {ts rest : List Token} {x : List Left} → g.IsLefts ts x rest → Free colon rest → Plural ts
    all (g.a_left d) f = record { name = _; is = go.left_head d; second = left_second colon refl refl d f _ _ (go.left_head d) }
    all (g.lefts d h) f = all d refl

pub lefts_go : (n : ℕ) (ts : List Token) → Plural ts → st.targets (nested n) ts ≡ first_lefts n ts
unfolding st.targets st.targets_from choose
lefts_go n ts i = subst (λ z. st.targets (nested n) z ≡ first_lefts n z) (sym i.is) (passed (exactly (k.Mark Colon)) (λ _ _. st.key_lefts (nested n) i.name) (st.lefts (nested n) i.name) (behind_first ts) i.second)

pub first_goes : (n : ℕ) (ts us : List Token) (i : Identifier) → ts ≡ spelled i ∷ us → first_lefts n ts ≡ and_then (ex.suffixes (nested n) (behind_first ts)) (λ ss. Lefts n (g.left i ss ∷ []))
unfolding st.lefts choose
first_goes n ts us i is = subst (λ z. first_lefts n z ≡ and_then (ex.suffixes (nested n) (behind_first z)) (λ ss. Lefts n (g.left i ss ∷ []))) (sym is) refl

pub step_goes : (n : ℕ) (all : List Left) (ts us : List Token) (i : Identifier) → ts ≡ spelled i ∷ us → (nr.named >>= (λ i. ex.suffixes (nested n) >>= (λ ss. pure (all ++ g.left i ss ∷ [])))) ts ≡ and_then (ex.suffixes (nested n) (behind_first ts)) (λ ss. pure (all ++ g.left i ss ∷ []))
unfolding nr.named choose
step_goes n all ts us i is = subst (λ z. (nr.named >>= (λ i. ex.suffixes (nested n) >>= (λ ss. pure (all ++ g.left i ss ∷ [])))) z ≡ and_then (ex.suffixes (nested n) (behind_first z)) (λ ss. pure (all ++ g.left i ss ∷ []))) (sym is) refl

pub key_goes : (n : ℕ) (j : Identifier) (ts us : List Token) (i : Identifier) → ts ≡ spelled i ∷ us → st.key_lefts (nested n) j ts ≡ and_then (ex.suffixes (nested n) (behind_first ts)) (λ ss. KeyLefts n (keyed j (g.left i ss) ∷ []))
unfolding st.key_lefts nr.named choose
key_goes n j ts us i is = subst (λ z. st.key_lefts (nested n) j z ≡ and_then (ex.suffixes (nested n) (behind_first z)) (λ ss. KeyLefts n (keyed j (g.left i ss) ∷ []))) (sym is) refl

pub key_step_goes : (n : ℕ) (j : Identifier) (all : List (Keyed Left)) (ts us : List Token) (i : Identifier) → ts ≡ spelled i ∷ us → (nr.named >>= (λ i. ex.suffixes (nested n) >>= (λ ss. pure (all ++ keyed j (g.left i ss) ∷ [])))) ts ≡ and_then (ex.suffixes (nested n) (behind_first ts)) (λ ss. pure (all ++ keyed j (g.left i ss) ∷ []))
unfolding nr.named choose
key_step_goes n j all ts us i is = subst (λ z. (nr.named >>= (λ i. ex.suffixes (nested n) >>= (λ ss. pure (all ++ keyed j (g.left i ss) ∷ [])))) z ≡ and_then (ex.suffixes (nested n) (behind_first z)) (λ ss. pure (all ++ keyed j (g.left i ss) ∷ []))) (sym is) refl

-- ---- what each first token leads to

pub type_integer : (q : Nested) (p : Place) (us : List Token) → ex.type_exp q None (w.word IntegerWord p ∷ us) ≡ ex.after_base q (OfInteger p) (t.Integer p) us
unfolding ex.type_exp choose
type_integer q p us = refl

pub type_cardinal : (q : Nested) (p : Place) (us : List Token) → ex.type_exp q None (w.word CardinalWord p ∷ us) ≡ ex.after_base q (OfCardinal p) (t.Cardinal p) us
unfolding ex.type_exp choose
type_cardinal q p us = refl

pub type_long_integer : (q : Nested) (p r : Place) (us : List Token) → ex.type_exp q None (w.word LongWord p ∷ w.word IntegerWord r ∷ us) ≡ pure (t.LongInteger p) us
unfolding ex.type_exp ex.long_type choose
type_long_integer q p r us = refl

pub type_long_cardinal : (q : Nested) (p r : Place) (us : List Token) → ex.type_exp q None (w.word LongWord p ∷ w.word CardinalWord r ∷ us) ≡ pure (t.LongCardinal p) us
unfolding ex.type_exp ex.long_type choose need
type_long_cardinal q p r us = refl

pub type_character : (q : Nested) (p : Place) (us : List Token) → ex.type_exp q None (w.word CharacterWord p ∷ us) ≡ ex.after_base q (OfCharacter p) (t.Character p) us
unfolding ex.type_exp choose
type_character q p us = refl

pub type_boolean : (q : Nested) (p : Place) (us : List Token) → ex.type_exp q None (w.word BooleanWord p ∷ us) ≡ pure (t.Boolean p) us
unfolding ex.type_exp choose
type_boolean q p us = refl

pub type_string : (q : Nested) (p : Place) (us : List Token) → ex.type_exp q None (w.word StringWord p ∷ us) ≡ pure (t.String p) us
unfolding ex.type_exp choose
type_string q p us = refl

pub type_enumeration : (q : Nested) (p : Place) (us : List Token) → ex.type_exp q None (mark LeftBrace p ∷ us) ≡ ex.enumeration q p us
unfolding ex.type_exp choose
type_enumeration q p us = refl

pub type_array : (q : Nested) (p : Place) (us : List Token) → ex.type_exp q None (w.word ArrayWord p ∷ us) ≡ ex.array q p us
unfolding ex.type_exp choose
type_array q p us = refl

pub type_record : (q : Nested) (p : Place) (us : List Token) → ex.type_exp q None (w.word RecordWord p ∷ us) ≡ ex.a_record q p us
unfolding ex.type_exp choose
type_record q p us = refl

pub primary_number : (q : Nested) (m : ℕ) (p : Place) (us : List Token) → ex.primary q None (token (k.Number m) p ∷ us) ≡ pure (ev.NumberLiteral p m) us
unfolding ex.primary ex.literal choose
primary_number q m p us = refl

pub primary_char : (q : Nested) (m : ℕ) (p : Place) (us : List Token) → ex.primary q None (token (k.Char m) p ∷ us) ≡ pure (ev.CharacterLiteral p m) us
unfolding ex.primary ex.literal choose
primary_char q m p us = refl

pub primary_text : (q : Nested) (m : List ℕ) (p : Place) (us : List Token) → ex.primary q None (token (k.Text m) p ∷ us) ≡ pure (ev.StringLiteral p m) us
unfolding ex.primary ex.literal choose
primary_text q m p us = refl

pub primary_true : (q : Nested) (p : Place) (us : List Token) → ex.primary q None (w.word TrueWord p ∷ us) ≡ pure (ev.Truth p true) us
unfolding ex.primary ex.literal choose
primary_true q p us = refl

pub primary_false : (q : Nested) (p : Place) (us : List Token) → ex.primary q None (w.word FalseWord p ∷ us) ≡ pure (ev.Truth p false) us
unfolding ex.primary ex.literal choose
primary_false q p us = refl

pub primary_parens : (q : Nested) (p : Place) (us : List Token) → ex.primary q None (mark LeftParenthesis p ∷ us) ≡ ex.parens q p us
unfolding ex.primary ex.literal choose
primary_parens q p us = refl

pub primary_list : (q : Nested) (p : Place) (us : List Token) → ex.primary q None (mark LeftBracket p ∷ us) ≡ (ex.list q p >>= (λ x. pure (ev.Constructor x))) us
unfolding ex.primary ex.literal choose
primary_list q p us = refl

pub stmt_null : (q : Nested) (p : Place) (us : List Token) → st.statement q None (w.word NullWord p ∷ us) ≡ pure (s.Null p) us
unfolding st.statement st.jump choose
stmt_null q p us = refl

pub stmt_begin : (q : Nested) (p : Place) (us : List Token) → st.statement q None (w.word BeginWord p ∷ us) ≡ (st.block q (k.Word EndWord) p >>= (λ b. pure (s.Nested b))) us
unfolding st.statement st.jump choose
stmt_begin q p us = refl

pub stmt_brace : (q : Nested) (p : Place) (us : List Token) → st.statement q None (mark LeftBrace p ∷ us) ≡ (st.block q (k.Mark RightBrace) p >>= (λ b. pure (s.Nested b))) us
unfolding st.statement st.jump choose
stmt_brace q p us = refl

pub stmt_extract : (q : Nested) (p : Place) (us : List Token) → st.statement q None (mark LeftBracket p ∷ us) ≡ st.extract q p us
unfolding st.statement st.jump choose
stmt_extract q p us = refl

pub stmt_if : (q : Nested) (p : Place) (us : List Token) → st.statement q None (w.word IfWord p ∷ us) ≡ st.conditional q p us
unfolding st.statement st.jump choose
stmt_if q p us = refl

pub stmt_select : (q : Nested) (p : Place) (us : List Token) → st.statement q None (w.word SelectWord p ∷ us) ≡ st.select q p us
unfolding st.statement st.jump choose
stmt_select q p us = refl

pub stmt_exit : (q : Nested) (p : Place) (us : List Token) → st.statement q None (w.word ExitWord p ∷ us) ≡ pure (s.ExitLoop p) us
unfolding st.statement st.jump choose
stmt_exit q p us = refl

pub stmt_next : (q : Nested) (p : Place) (us : List Token) → st.statement q None (w.word LoopWord p ∷ us) ≡ pure (s.NextTurn p) us
unfolding st.statement st.jump choose
stmt_next q p us = refl

pub stmt_goto : (q : Nested) (p : Place) (us : List Token) → st.statement q None (w.word GotoWord p ∷ us) ≡ (nr.named >>= (λ i. pure (s.Goto p i))) us
unfolding st.statement st.jump choose
stmt_goto q p us = refl

pub stmt_go : (q : Nested) (p : Place) (us : List Token) → st.statement q None (w.word GoWord p ∷ us) ≡ st.go_to q p us
unfolding st.statement st.jump choose
stmt_go q p us = refl

pub stmt_return : (q : Nested) (p : Place) (us : List Token) → st.statement q None (w.word ReturnWord p ∷ us) ≡ (ex.list_option q >>= (λ x. pure (s.Return p x))) us
unfolding st.statement st.jump choose
stmt_return q p us = refl

pub stmt_resume : (q : Nested) (p : Place) (us : List Token) → st.statement q None (w.word ResumeWord p ∷ us) ≡ (ex.list_option q >>= (λ x. pure (s.Resume p x))) us
unfolding st.statement st.jump choose
stmt_resume q p us = refl

pub stmt_reject : (q : Nested) (p : Place) (us : List Token) → st.statement q None (w.word RejectWord p ∷ us) ≡ pure (s.Reject p) us
unfolding st.statement st.jump choose
stmt_reject q p us = refl

pub stmt_retry : (q : Nested) (p : Place) (us : List Token) → st.statement q None (w.word RetryWord p ∷ us) ≡ pure (s.Retry p) us
unfolding st.statement st.jump choose
stmt_retry q p us = refl

pub stmt_continue : (q : Nested) (p : Place) (us : List Token) → st.statement q None (w.word ContinueWord p ∷ us) ≡ pure (s.Continue p) us
unfolding st.statement st.jump choose
stmt_continue q p us = refl

-- the suffixes end
pub left_end : (n : ℕ) (us : List Token) {ts rest : List Token} {ss : List Suffix} {o : Option (List Token)} → Leads ts ss rest o (Suffixes n) (ex.suffixes (nested n) us) → Free (finds suffixing) rest → Leads ts ss rest o (λ y. pure y) (ex.suffixes (nested n) us)
left_end n us {rest = rest} {ss = ss} h f = finish ss rest (λ y. pure y) h (many_end suffixing (ex.suffixes_step (nested n)) (suffixes_eats n) ss rest f) (omega arith)

pub in_brackets : (n : ℕ) {ts us rest : List Token} {x : Entries Expr} {c : Option (Placed (List Arm))} {o o' : Option (List Token)} {r : Place} (p : Place) → Leads ts x us o (λ y. pure y) (ex.args (nested n) ts) → Leads us c (mark RightBracket r ∷ rest) o' (λ y. pure y) (ex.catch (nested n) us) → Leads ts (g.brackets p x c) rest (first o (first o' None)) (λ y. pure y) (ex.brackets (nested n) p ts)
unfolding need choose ex.brackets
in_brackets n p h i = comp (onto _ h) (comp (onto _ i) (ahead _ (stand _ _ (λ y. pure y))))

pub exits_tail_of : {ts rest : List Token} {x : List Exit} {r : Place} (end : Kind) → among ends end ≡ true → g.IsExitPart ts x (token end r ∷ rest) → Begins (among tails) ts
exits_tail_of {r = r} end h d = fo.exits_tail end r (ends_tail end h) d

-- a block behind its first word or brace
pub inside : (n : ℕ) (end : Kind) (p : Place) → exactly end end ≡ Some tt → {ts us vs ws rest : List Token} {e : Option (Placed (List Arm))} {ls : List Local} {ss : List Statement} {xs : List Exit} {r : Place} {o1 o2 o3 o4 : Option (List Token)}
    → Leads ts e us o1 (λ y. pure y) (st.enabling (nested n) ts) → Leads us ls vs o2 (repeat (st.head_turn (nested n))) (repeat (st.head_turn (nested n)) [] us) → Second declares vs → Leads vs ss ws o3 (λ y. pure y) (st.body (nested n) vs) → Leads ws xs (token end r ∷ rest) o4 (λ y. pure y) (st.exit_part (nested n) ws)
    → Leads ts (g.block p e ls ss xs) rest (first o1 (first o2 (first o3 (first o4 None)))) (λ y. pure y) (st.block (nested n) end p ts)
unfolding st.block
inside n end p same {vs = vs} {ws = ws} {rest = rest} {e = e} {ls = ls} {ss = ss} {xs = xs} {r = r} a b second c i =
    comp (onto _ a) (comp (under _ b) (comp (onto _ (via (go.head_last n ls vs second) (finish (ls, ss) ws (λ y. pure y) (onto (λ ss. pure (ls, ss)) c) refl (omega arith))))
    (comp (onto _ i) (via (ap (λ out. and_then out (λ _. pure (g.block p e ls ss xs))) (need_goes end r rest same)) (ahead (token end r) (stand rest (g.block p e ls ss xs) (λ y. pure y)))))))

-- ---- one clause for each row of the grammar

-- ---- a sum before a relation

pub not_relating : {us vs : List Token} {b : Bool} {kind : Kind} {p : Place} {r : Relation} → g.IsNot us b (token kind p ∷ vs) → relating kind ≡ Some r → Free more_sum us
not_relating {kind = kind} {r = r} g.affirmed h = (fo.relating_ends kind r h).0
not_relating (g.negated {kind = kind} i) h = (fo.negating_ends kind i).0

pub not_in : {us vs : List Token} {b : Bool} {p : Place} → g.IsNot us b (w.word InWord p ∷ vs) → Free more_sum us
not_in g.affirmed = refl
not_in (g.negated {kind = kind} i) = (fo.negating_ends kind i).0
