-- Further steps of the proof that a reading leads the parser: what looks at the parser alone.
use Rattle.std.proofs.Common.{◌≡◌, ℕ, zero, suc, Bool, true, false, ◌||◌, List, [], ◌∷◌, ◌++◌, Option, Some, None, ◌⊎◌, inl, inr, refl, sym, ap, subst, ◌∙◌, arith}
use Rattle.mesa_base.specs.declared.place.Place.{Place}
use Rattle.mesa_lexer.specs.declared.token.Token.{Token}
use Rattle.mesa_lexer.specs.declared.token.Kind.{Kind}
use Rattle.mesa_lexer.specs.declared.token.Kind.TheVariants as k
use Rattle.mesa_lexer.specs.declared.word.Word.TheVariants.{InWord}
use Rattle.mesa_lexer.specs.declared.mark.Mark.TheVariants.{Colon, Dot, LeftBracket, LeftParenthesis}
use Rattle.token_cursor.specs.Parsing.{token, word, mark, Out, Got, Stop, Parser, and_then, ◌>>=◌, ◌>>◌, pure, refuse, only, exactly, found, finds, among, a_name, choose, option, need, when, too_deep, Turned, Again, Done, go_on, repeat}
use Rattle.token_cursor.proofs.Exact.{Free}
use Rattle.token_cursor.proofs.Branches.{among_every, chosen, passed, when_false}
use Rattle.token_cursor.proofs.Loops.{unroll}
use Rattle.token_cursor.proofs.Leading.{Leads, finish, onto, ahead, at_once, via, Begins, when_begins, stops_deep}
use Rattle.mesa_base.specs.declared.identifier.Identifier.{Identifier}
use Rattle.syntax_trees.specs.declared.syntax.Entries.{Entries}
use Rattle.syntax_trees.specs.declared.syntax.TypeBase.{TypeBase}
use Rattle.syntax_trees.specs.declared.syntax.TypeBase.TheVariants.{Unsaid, OfName}
use Rattle.mesa_base.specs.declared.relation.Relation.{Relation}
use Rattle.syntax_trees.specs.declared.syntax.Interval.{Interval}
use Rattle.syntax_trees.specs.declared.syntax.TypeExp.{TypeExp}
use Rattle.syntax_trees.specs.declared.syntax.TypeExp.TheVariants as t
use Rattle.syntax_trees.specs.declared.syntax.Expr.{Expr}
use Rattle.syntax_trees.specs.declared.syntax.Expr.TheVariants as e
use Rattle.syntax_trees.specs.declared.syntax.Operation.{Operation}
use Rattle.syntax_trees.specs.declared.syntax.Suffix.{Suffix}
use Rattle.syntax_trees.specs.declared.syntax.Brackets.{Brackets}
use Rattle.syntax_trees.specs.declared.syntax.Raise.TheVariants.{ErrorRaise, UnnamedError}
use Rattle.syntax_trees.specs.declared.syntax.Statement.{Statement}
use Rattle.syntax_trees.specs.declared.syntax.Statement.TheVariants as s
use Rattle.syntax_trees.specs.declared.syntax.Test.{Test as TestTree}
use Rattle.syntax_trees.specs.declared.syntax.Test.TheVariants.{Value, Compared, Inside}
use Rattle.grammar_rules.specs.WordsAndMarks.{spelled, relating, negating, opening, closing}
use Rattle.grammar_rules.specs.Grammar as g
use Rattle.grammar_rules.specs.ReadNested.{Fresh, AtNot, Nested, loop_starts, raise_starts, begins_expr, begins_stmt, identifier}
use Rattle.grammar_rules.specs.ReadNested as nr
use Rattle.grammar_rules.specs.ReadExpressions as ex
use Rattle.grammar_rules.specs.ReadExpressions.{suffixing}
use Rattle.grammar_rules.specs.ReadStatements as st
use Rattle.grammar_rules.specs.ReadStatements.{nested, Local, Head}
use Rattle.grammar_rules.proofs.KeepStatements as ks
use Rattle.grammar_rules.proofs.Levels.{all_of}
use Rattle.grammar_rules.proofs.Follows.{Named, Starts, more_sum, more_rel, declares, loops, free_left, free_right, free_only, rel_starts, relating_ends, negating_ends, opening_starts}
use Rattle.grammar_rules.proofs.Turns.{dot, named_or_not, expr_not}
use Rattle.grammar_rules.proofs.Seconds.{behind_first, Second, excludes}

-- ---- types

pub record Opens (ts : List Token) : Type 0 where
  pub kind : Kind
  pub place : Place
  pub back : List Token
  pub open_end : Bool
  pub is : ts ≡ token kind place ∷ back
  pub opens : opening kind ≡ Some open_end

pub interval_opens : {ts rest : List Token} {x : Interval} → g.IsInterval ts x rest → Opens ts
interval_opens (g.bounds h d f c) = record { kind = _; place = _; back = _; open_end = _; is = refl; opens = h }

pub base_bare : (q : Nested) (b : TypeBase) (x : TypeExp) (ts : List Token) → Free (finds opening) ts → ex.after_base q b x ts ≡ Got x ts
unfolding ex.after_base
base_bare q b x ts f = when_false (finds opening) (ex.interval q >>= (λ i. pure (t.Subrange b i))) (pure x) ts f

pub base_bounded : (q : Nested) (b : TypeBase) (x : TypeExp) (ts : List Token) → Opens ts → ex.after_base q b x ts ≡ and_then (ex.interval q ts) (λ i. pure (t.Subrange b i))
unfolding ex.after_base
base_bounded q b x ts o = when_begins (finds opening) (ex.interval q >>= (λ i. pure (t.Subrange b i))) (pure x) ts (record { token = token o.kind o.place; back = o.back; is = o.is; begins = ap found o.opens })

pub type_goes : (q : Nested) (ts : List Token) → Named ts → ex.type_exp q None ts ≡ and_then (nr.qname ts) (λ x. ex.after_base q (OfName x) (t.Called x))
unfolding ex.type_exp ex.type_from nr.qname nr.named choose
type_goes q ts i = subst (λ z. ex.type_exp q None z ≡ and_then (nr.qname z) (λ x. ex.after_base q (OfName x) (t.Called x))) (sym i.is) refl

unsaid_kind : (q : Nested) (kind : Kind) (a : Bool) (p : Place) (us : List Token) → opening kind ≡ Some a → ex.type_exp q None (token kind p ∷ us) ≡ and_then (ex.interval q (token kind p ∷ us)) (λ i. pure (t.Subrange Unsaid i))
unfolding ex.type_exp choose
unsaid_kind q (k.Mark LeftBracket) a p us h = refl
unsaid_kind q (k.Mark LeftParenthesis) a p us h = refl
unsaid_kind q _ a p us h = absurd (cc)

pub type_unsaid : (q : Nested) (ts : List Token) → Opens ts → ex.type_exp q None ts ≡ and_then (ex.interval q ts) (λ i. pure (t.Subrange Unsaid i))
type_unsaid q ts o = subst (λ z. ex.type_exp q None z ≡ and_then (ex.interval q z) (λ i. pure (t.Subrange Unsaid i))) (sym o.is) (unsaid_kind q o.kind o.open_end o.place o.back o.opens)

pub opens_dot : (ts : List Token) → Opens ts → Free (finds dot) ts
opens_dot ts o = subst (Free (finds dot)) (sym o.is) (opening_starts o.kind o.open_end o.opens).2

pub opens_declares : (ts : List Token) → Opens ts → Free declares ts
opens_declares ts o = subst (Free declares) (sym o.is) (opening_starts o.kind o.open_end o.opens).3

pub closed_goes : (kind : Kind) (b : Bool) (p : Place) (rest : List Token) → closing kind ≡ Some b → ex.closed (token kind p ∷ rest) ≡ Got b rest
unfolding ex.closed
closed_goes kind b p rest h = chosen closing (λ b _. pure b) refuse b (token kind p) rest h

-- ---- names with what follows them

pub suffix_dot : (ts : List Token) → Free (finds suffixing) ts → Free (finds dot) ts
suffix_dot ts f = excludes (finds suffixing) (k.Mark Dot) refl ts f

pub suffix_bracket : (ts : List Token) → Free (finds suffixing) ts → Free (finds (exactly (k.Mark LeftBracket))) ts
suffix_bracket ts f = excludes (finds suffixing) (k.Mark LeftBracket) refl ts f

pub left_head : {ts rest : List Token} {i : Identifier} {ss : List Suffix} → g.IsLeft ts i ss rest → ts ≡ spelled i ∷ behind_first ts
left_head g.named = refl
left_head (g.field d) = left_head d
left_head (g.applied d f) = left_head d

pub primary_goes : (q : Nested) (ts us : List Token) (i : Identifier) → ts ≡ spelled i ∷ us → ex.primary q None ts ≡ ex.reference q i (behind_first ts)
unfolding ex.primary ex.literal choose
primary_goes q ts us i is = subst (λ z. ex.primary q None z ≡ ex.reference q i (behind_first z)) (sym is) refl

pub stmt_goes : (q : Nested) (ts us : List Token) (i : Identifier) → ts ≡ spelled i ∷ us → st.statement q None ts ≡ st.assigned q i (behind_first ts)
unfolding st.statement choose
stmt_goes q ts us i is = subst (λ z. st.statement q None z ≡ st.assigned q i (behind_first z)) (sym is) refl

pub brackets_dot : {ts rest : List Token} {b : Option Brackets} → g.IsBracketsOption ts b rest → Free (finds dot) rest → Free (finds dot) ts
brackets_dot g.no_brackets f = f
brackets_dot (g.some_brackets (g.bracketed d h)) f = refl

pub error_goes : (q : Nested) (p : Place) (ts : List Token) → Named ts → choose a_name (λ n r. ex.error_raise q p (identifier n r)) (pure (UnnamedError p)) ts ≡ and_then (nr.qname ts) (λ x. ex.brackets_option q >>= (λ b. pure (ErrorRaise p x b)))
unfolding ex.error_raise nr.qname nr.named choose
error_goes q p ts i = subst (λ z. choose a_name (λ n r. ex.error_raise q p (identifier n r)) (pure (UnnamedError p)) z ≡ and_then (nr.qname z) (λ x. ex.brackets_option q >>= (λ b. pure (ErrorRaise p x b)))) (sym i.is) refl

pub primary_raise : (q : Nested) (ts : List Token) → Begins (among raise_starts) ts → ex.primary q None ts ≡ and_then (ex.raise q ts) (λ x. pure (e.Raised x))
unfolding ex.primary ex.literal choose
primary_raise q ts b = subst (λ z. ex.primary q None z ≡ and_then (ex.raise q z) (λ x. pure (e.Raised x))) (sym b.is)
    (among_every (λ kind. ex.primary q None (token kind b.token.place ∷ b.back) ≡ and_then (ex.raise q (token kind b.token.place ∷ b.back)) (λ x. pure (e.Raised x))) raise_starts (refl, (refl, tt)) b.token.kind b.begins)

pub stmt_raise : (q : Nested) (ts : List Token) → Begins (among raise_starts) ts → st.statement q None ts ≡ and_then (ex.raise q ts) (λ x. pure (s.RaiseStatement x))
unfolding st.statement st.jump choose when
stmt_raise q ts b = subst (λ z. st.statement q None z ≡ and_then (ex.raise q z) (λ x. pure (s.RaiseStatement x))) (sym b.is)
    (among_every (λ kind. st.statement q None (token kind b.token.place ∷ b.back) ≡ and_then (ex.raise q (token kind b.token.place ∷ b.back)) (λ x. pure (s.RaiseStatement x))) raise_starts (refl, (refl, tt)) b.token.kind b.begins)

pub stmt_loop : (q : Nested) (ts : List Token) → Begins loops ts → st.statement q None ts ≡ st.loop q ts
unfolding st.statement st.jump choose when
stmt_loop q ts b = subst (λ z. st.statement q None z ≡ st.loop q z) (sym b.is)
    (among_every (λ kind. st.statement q None (token kind b.token.place ∷ b.back) ≡ st.loop q (token kind b.token.place ∷ b.back)) loop_starts (refl, (refl, (refl, (refl, (refl, tt))))) b.token.kind b.begins)

-- ---- relations

pub related_bare : (q : Nested) (x : Expr) (ts : List Token) → Free more_rel ts → ex.related q x ts ≡ Got x ts
unfolding ex.related ex.relation
related_bare q x ts f =
    let f1 = free_right (finds relating) (λ kind. only (k.Word InWord) kind || (finds negating kind || more_sum kind)) ts f in
    let f2 = free_right (only (k.Word InWord)) (λ kind. finds negating kind || more_sum kind) ts f1 in
    passed negating (λ _ _. ex.relation q x true refuse) (ex.relation q x false (pure x)) ts (free_left (finds negating) more_sum ts f2)
    ∙ (passed relating (λ r p. ex.sum q None >>= (λ y. pure (e.Compare x false r p y))) (option (k.Word InWord) (λ p. ex.interval q >>= (λ i. pure (e.Within x false p i))) (pure x)) ts (free_left (finds relating) (λ kind. only (k.Word InWord) kind || (finds negating kind || more_sum kind)) ts f)
    ∙ passed (exactly (k.Word InWord)) (λ _ p. ex.interval q >>= (λ i. pure (e.Within x false p i))) (pure x) ts (free_only (k.Word InWord) ts (free_left (only (k.Word InWord)) (λ kind. finds negating kind || more_sum kind) ts f1)))

relation_goes : (q : Nested) (x : Expr) (b : Bool) (other : Parser Expr) (kind : Kind) (r : Relation) (p : Place) (ts : List Token) → relating kind ≡ Some r → ex.relation q x b other (token kind p ∷ ts) ≡ and_then (ex.sum q None ts) (λ y. pure (e.Compare x b r p y))
unfolding ex.relation
relation_goes q x b other kind r p ts h = chosen relating (λ r p. ex.sum q None >>= (λ y. pure (e.Compare x b r p y))) (option (k.Word InWord) (λ p. ex.interval q >>= (λ i. pure (e.Within x b p i))) other) r (token kind p) ts h

pub related_compare : (q : Nested) (x : Expr) (kind : Kind) (r : Relation) (p : Place) (ts : List Token) → relating kind ≡ Some r → ex.related q x (token kind p ∷ ts) ≡ and_then (ex.sum q None ts) (λ y. pure (e.Compare x false r p y))
unfolding ex.related
related_compare q x kind r p ts h = passed negating (λ _ _. ex.relation q x true refuse) (ex.relation q x false (pure x)) (token kind p ∷ ts) (relating_ends kind r h).1 ∙ relation_goes q x false (pure x) kind r p ts h

pub related_not : (q : Nested) (x : Expr) (kind : Kind) (p : Place) (ts : List Token) → negating kind ≡ Some tt → ex.related q x (token kind p ∷ ts) ≡ ex.relation q x true refuse ts
unfolding ex.related
related_not q x kind p ts h = chosen negating (λ _ _. ex.relation q x true refuse) (ex.relation q x false (pure x)) tt (token kind p) ts h

pub related_not_compare : (q : Nested) (x : Expr) (k2 : Kind) (p2 : Place) (kind : Kind) (r : Relation) (p : Place) (ts : List Token) → negating k2 ≡ Some tt → relating kind ≡ Some r → ex.related q x (token k2 p2 ∷ token kind p ∷ ts) ≡ and_then (ex.sum q None ts) (λ y. pure (e.Compare x true r p y))
related_not_compare q x k2 p2 kind r p ts h f = related_not q x k2 p2 (token kind p ∷ ts) h ∙ relation_goes q x true refuse kind r p ts f

-- ---- arguments by keys

pub key_args : {Y : Type 0} (n : ℕ) (i : Identifier) (p : Place) (us rest : List Token) (x : Y) (o : Option (List Token)) (K : Y → Parser (Entries Expr)) → Leads us x rest o K (ex.by_key (nested n) i us)
    → Leads (spelled i ∷ mark Colon p ∷ us) x rest o K (ex.args (nested n) (spelled i ∷ mark Colon p ∷ us))
unfolding ex.args ex.unkeyed ex.in_order ex.after_name nested choose when too_deep
key_args zero i p us rest x o K h = let g : Leads (spelled i ∷ mark Colon p ∷ us) x rest o K (ex.by_key (nested zero) i us) = ahead (spelled i) (ahead (mark Colon p) h) in at_once refl g.size g.within
key_args (suc n) i p us rest x o K h = ahead (spelled i) (ahead (mark Colon p) h)

-- ---- tests

abbrev a_value : (n : ℕ) → Parser TestTree
a_value n = (nested n).expr Fresh >>= (λ x. pure (Value x))

unnegated_goes : (n : ℕ) (ts : List Token) → Free (finds relating) ts → Free (finds (exactly (k.Word InWord))) ts → st.unnegated (nested n) ts ≡ a_value n ts
unfolding st.unnegated
unnegated_goes n ts f h = passed relating (λ r s. ex.sum (nested n) None >>= (λ x. pure (Compared false r s x))) (option (k.Word InWord) (λ s. ex.interval (nested n) >>= (λ i. pure (Inside false s i))) ((nested n).expr Fresh >>= (λ x. pure (Value x)))) ts f
    ∙ passed (exactly (k.Word InWord)) (λ _ s. ex.interval (nested n) >>= (λ i. pure (Inside false s i))) ((nested n).expr Fresh >>= (λ x. pure (Value x))) ts h

test_plain : (n : ℕ) (ts : List Token) → Starts ts → st.test (nested n) ts ≡ a_value n ts
unfolding st.test nested
test_plain zero ts b = unnegated_goes zero ts (subst (Free (finds relating)) (sym b.is) b.unrelated) (free_only (k.Word InWord) ts (subst (Free (only (k.Word InWord))) (sym b.is) b.not_in))
test_plain (suc m) ts b = passed negating (λ _ p. st.after_not (nested (suc m)) p) (st.unnegated (nested (suc m))) ts (subst (Free (finds negating)) (sym b.is) b.positive)
    ∙ unnegated_goes (suc m) ts (subst (Free (finds relating)) (sym b.is) b.unrelated) (free_only (k.Word InWord) ts (subst (Free (only (k.Word InWord))) (sym b.is) b.not_in))

test_not : (n : ℕ) (kind : Kind) (p : Place) (ts : List Token) → negating kind ≡ Some tt → Starts ts → st.test (nested n) (token kind p ∷ ts) ≡ a_value n (token kind p ∷ ts)
unfolding st.test nested st.after_not
test_not zero kind p ts h b = unnegated_goes zero (token kind p ∷ ts) (negating_ends kind h).2 (negating_ends kind h).3
test_not (suc m) kind p ts h b = chosen negating (λ _ p. st.after_not (nested (suc m)) p) (st.unnegated (nested (suc m))) tt (token kind p) ts h
    ∙ (passed relating (λ r s. ex.sum (nested (suc m)) None >>= (λ x. pure (Compared true r s x))) (option (k.Word InWord) (λ s. ex.interval (nested (suc m)) >>= (λ i. pure (Inside true s i))) ((nested (suc m)).expr (AtNot p) >>= (λ x. pure (Value x)))) ts (subst (Free (finds relating)) (sym b.is) b.unrelated)
    ∙ (passed (exactly (k.Word InWord)) (λ _ s. ex.interval (nested (suc m)) >>= (λ i. pure (Inside true s i))) ((nested (suc m)).expr (AtNot p) >>= (λ x. pure (Value x))) ts (free_only (k.Word InWord) ts (subst (Free (only (k.Word InWord))) (sym b.is) b.not_in))
    ∙ ap (λ out. and_then out (λ x. pure (Value x))) (sym (expr_not m p kind ts h))))

-- NOT and a relation, or a relation
pub record Positive (ts : List Token) : Type 0 where
  pub goes : (n : ℕ) → st.test (nested n) ts ≡ a_value n ts

neg_positive : {ts rest : List Token} {x : Expr} → g.IsNeg ts x rest → Positive ts
neg_positive {ts} (g.rel d) = record { goes = λ n. test_plain n ts (rel_starts d) }
neg_positive (g.not {kind = kind} {p = p} h d) = record { goes = λ n. test_not n kind p _ h (rel_starts d) }

ands_positive : {ts rest : List Token} {x : Expr} {ss : List Operation} → g.IsAnds ts x ss rest → Positive ts
ands_positive (g.conjunct d) = neg_positive d
ands_positive (g.ands d e f) = ands_positive d

conj_positive : {ts rest : List Token} {x : Expr} → g.IsConj ts x rest → Positive ts
conj_positive (g.conj d) = ands_positive d

ors_positive : {ts rest : List Token} {x : Expr} {ss : List Operation} → g.IsOrs ts x ss rest → Positive ts
ors_positive (g.disjunct d) = conj_positive d
ors_positive (g.ors d e f) = ors_positive d

pub test_value : {ts rest : List Token} {x : Expr} → g.IsExpr ts x rest → Positive ts
test_value (g.expr d) = ors_positive d

-- a relation without a value before it
pub test_compared : (n : ℕ) (kind : Kind) (r : Relation) (p : Place) (ts : List Token) → relating kind ≡ Some r → st.test (nested n) (token kind p ∷ ts) ≡ and_then (ex.sum (nested n) None ts) (λ x. pure (Compared false r p x))
unfolding st.test nested st.unnegated
test_compared zero kind r p ts h = chosen relating (λ r s. ex.sum (nested zero) None >>= (λ x. pure (Compared false r s x))) (option (k.Word InWord) (λ s. ex.interval (nested zero) >>= (λ i. pure (Inside false s i))) ((nested zero).expr Fresh >>= (λ x. pure (Value x)))) r (token kind p) ts h
test_compared (suc m) kind r p ts h = passed negating (λ _ p. st.after_not (nested (suc m)) p) (st.unnegated (nested (suc m))) (token kind p ∷ ts) (relating_ends kind r h).1
    ∙ chosen relating (λ r s. ex.sum (nested (suc m)) None >>= (λ x. pure (Compared false r s x))) (option (k.Word InWord) (λ s. ex.interval (nested (suc m)) >>= (λ i. pure (Inside false s i))) ((nested (suc m)).expr Fresh >>= (λ x. pure (Value x)))) r (token kind p) ts h

pub test_inside : (n : ℕ) (p : Place) (ts : List Token) → st.test (nested n) (word InWord p ∷ ts) ≡ and_then (ex.interval (nested n) ts) (λ i. pure (Inside false p i))
unfolding st.test nested st.unnegated choose
test_inside zero p ts = refl
test_inside (suc m) p ts = refl

-- a test with NOT that is no value: at the last level it is too deep
pub not_test : {Y : Type 0} (n : ℕ) (k2 : Kind) (p2 : Place) (us rest : List Token) (x : Y) (o : Option (List Token)) (K : Y → Parser TestTree) → negating k2 ≡ Some tt → Leads us x rest o K (st.after_not (nested n) p2 us)
    → Leads (token k2 p2 ∷ us) x rest o K (st.test (nested n) (token k2 p2 ∷ us))
unfolding st.test nested
not_test zero k2 p2 us rest x o K h g =
    let f : Leads (token k2 p2 ∷ us) x rest o K (st.after_not (nested zero) p2 us) = ahead (token k2 p2) g in
    at_once (unnegated_goes zero (token k2 p2 ∷ us) (negating_ends k2 h).2 (negating_ends k2 h).3 ∙ ap (λ out. and_then out (λ x. pure (Value x))) (stops_deep begins_expr (token k2 p2 ∷ us) (record { token = token k2 p2; back = us; is = refl; begins = (negating_ends k2 h).1 }))) f.size f.within
not_test (suc m) k2 p2 us rest x o K h g = via (chosen negating (λ _ p. st.after_not (nested (suc m)) p) (st.unnegated (nested (suc m))) tt (token k2 p2) us h) (ahead (token k2 p2) g)

pub after_not_compared : (q : Nested) (p2 : Place) (kind : Kind) (r : Relation) (p : Place) (ts : List Token) → relating kind ≡ Some r → st.after_not q p2 (token kind p ∷ ts) ≡ and_then (ex.sum q None ts) (λ x. pure (Compared true r p x))
unfolding st.after_not
after_not_compared q p2 kind r p ts h = chosen relating (λ r s. ex.sum q None >>= (λ x. pure (Compared true r s x))) (option (k.Word InWord) (λ s. ex.interval q >>= (λ i. pure (Inside true s i))) (q.expr (AtNot p2) >>= (λ x. pure (Value x)))) r (token kind p) ts h

-- ---- heads of blocks

abbrev goes_local : ℕ → List Local → Identifier → Parser (Turned (List Local) (Head Local))
goes_local m ls i = st.local (nested (suc m)) i >>= (λ l. pure (Again (ls ++ l ∷ [])))

head_named : (m : ℕ) (ls : List Local) (i : Identifier) (us : List Token) → Free declares us → st.head_turn (nested (suc m)) ls (spelled i ∷ us) ≡ st.head_end (nested (suc m)) ls (spelled i ∷ us)
unfolding st.head_turn st.head_from st.head_end st.body st.stmts nested st.statement choose
head_named m ls i us f = when_false declares (goes_local m ls i) (st.stmts (nested (suc m)) (Some i) >>= (λ ss. pure (Done (ls, ss)))) us f
    ∙ sym (ap (λ out. and_then out (λ ss. pure (Done (ls, ss)))) (when_begins begins_stmt (st.stmts (nested (suc m)) None) (pure []) (spelled i ∷ us) (record { token = spelled i; back = us; is = refl; begins = refl })))

-- where no declaration begins, the statements do
pub head_rest : (n : ℕ) (ls : List Local) (ts : List Token) → Second declares ts → st.head_turn (nested n) ls ts ≡ st.head_end (nested n) ls ts
unfolding st.head_turn nested
head_rest zero ls ts h = refl
head_rest (suc m) ls [] h = passed a_name (λ n p. st.head_from (nested (suc m)) ls (identifier n p)) (st.head_end (nested (suc m)) ls) [] tt
head_rest (suc m) ls (t ∷ us) h = go (named_or_not t)
  where
    go : ((i : Identifier) × (t ≡ spelled i)) ⊎ (found (a_name t.kind) ≡ false) → st.head_turn (nested (suc m)) ls (t ∷ us) ≡ st.head_end (nested (suc m)) ls (t ∷ us)
    go (inl p) = subst (λ z. st.head_turn (nested (suc m)) ls (z ∷ us) ≡ st.head_end (nested (suc m)) ls (z ∷ us)) (sym p.1) (head_named m ls p.0 us (h p.0 us (ap (λ z. z ∷ us) p.1)))
    go (inr e) = passed a_name (λ n p. st.head_from (nested (suc m)) ls (identifier n p)) (st.head_end (nested (suc m)) ls) (t ∷ us) e

-- a declaration; at the last level its first name is too deep, since it may begin a statement
pub local_turn : {Y : Type 0} (n : ℕ) (ls : List Local) (i : Identifier) (us rest : List Token) (x : Y) (o : Option (List Token)) (K : Y → Parser (Turned (List Local) (Head Local))) → Begins declares us
    → Leads (spelled i ∷ us) x rest o K (and_then (st.local (nested n) i us) (λ l. pure (Again (ls ++ l ∷ []))))
    → Leads (spelled i ∷ us) x rest o K (st.head_turn (nested n) ls (spelled i ∷ us))
unfolding st.head_turn st.head_from st.head_end st.body st.stmts nested choose when too_deep
local_turn zero ls i us rest x o K b h = at_once refl h.size h.within
local_turn (suc m) ls i us rest x o K b h = via (when_begins declares (goes_local m ls i) (st.stmts (nested (suc m)) (Some i) >>= (λ ss. pure (Done (ls, ss)))) us b) h

-- the statements behind the declarations, and the head as a whole
head_pair : {A : Type 0} (out : Out (List Statement)) (ls : List Local) (g : A → Parser (Head Local)) → and_then (and_then out (λ ss. pure {A = Turned A (Head Local)} (Done (ls, ss)))) (go_on g) ≡ and_then out (λ ss. pure (ls, ss))
head_pair (Got ss rest) ls g = refl
head_pair (Stop why rest) ls g = refl

pub head_last : (n : ℕ) (ls : List Local) (ts : List Token) → Second declares ts → repeat (st.head_turn (nested n)) ls ts ≡ and_then (st.body (nested n) ts) (λ ss. pure (ls, ss))
unfolding st.head_end
head_last n ls ts h = unroll (st.head_turn (nested n)) (ks.head_eats n (nested n) (all_of n)) ls ts ∙ (ap (λ out. and_then out (go_on (repeat (st.head_turn (nested n))))) (head_rest n ls ts h) ∙ head_pair (st.body (nested n) ts) ls (repeat (st.head_turn (nested n))))

-- what follows the names of a declaration
abbrev pub declared : (n : ℕ) → List Identifier → Parser Local
declared n ns = need (k.Mark Colon) >> (st.plain (nested n) >>= (λ x. need st.semicolon >> pure (g.labeled ns x)))

local_goes : (n : ℕ) (i : Identifier) (us : List Token) → st.local (nested n) i us ≡ and_then (nr.names (spelled i ∷ us)) (declared n)
unfolding st.local nr.names nr.named choose
local_goes n i us = refl

pub local_step : (n : ℕ) (ls : List Local) (us rest : List Token) (x : Local) (o : Option (List Token)) → (i : Named us) → Begins declares (behind_first us) → Leads us x rest o (λ y. pure y) (and_then (nr.names us) (declared n)) → Leads us (Again (ls ++ x ∷ [])) rest o (λ y. pure y) (st.head_turn (nested n) ls us)
local_step n ls us rest x o i b h = subst (λ z. Leads z (Again (ls ++ x ∷ [])) rest o (λ y. pure y) (st.head_turn (nested n) ls z)) (sym i.is)
    (local_turn n ls i.name i.back rest (Again (ls ++ x ∷ [])) o (λ y. pure y) (subst (Begins declares) (ap behind_first i.is) b)
    (via (ap (λ out. and_then out (λ l. pure (Again (ls ++ l ∷ [])))) (local_goes n i.name i.back))
    (finish (Again (ls ++ x ∷ [])) rest (λ y. pure y) (onto (λ l. pure (Again (ls ++ l ∷ []))) (subst (λ z. Leads z x rest o (λ y. pure y) (and_then (nr.names z) (declared n))) i.is h)) refl (omega arith))))

pub related_within : (q : Nested) (x : Expr) (p : Place) (ts : List Token) → ex.related q x (word InWord p ∷ ts) ≡ and_then (ex.interval q ts) (λ i. pure (e.Within x false p i))
unfolding ex.related ex.relation choose
related_within q x p ts = refl

pub after_not_inside : (q : Nested) (p2 p : Place) (ts : List Token) → st.after_not q p2 (word InWord p ∷ ts) ≡ and_then (ex.interval q ts) (λ i. pure (Inside true p i))
unfolding st.after_not choose
after_not_inside q p2 p ts = refl
