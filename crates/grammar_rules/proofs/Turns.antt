-- Steps of the proof that a reading leads the parser: what looks at the parser alone.
use Rattle.std.proofs.Common.{◌≡◌, ℕ, zero, suc, false, List, [], ◌∷◌, Option, Some, None, ◌⊎◌, inl, inr, refl, sym, ap, subst, ◌∙◌}
use Rattle.mesa_base.specs.declared.place.Place.{Place}
use Rattle.mesa_lexer.specs.declared.token.Token.{Token}
use Rattle.mesa_lexer.specs.declared.token.Kind.{Kind}
use Rattle.mesa_lexer.specs.declared.token.Kind.TheVariants as k
use Rattle.mesa_lexer.specs.declared.mark.Mark.TheVariants.{Colon, Comma, Dot}
use Rattle.token_cursor.specs.Parsing.{token, mark, Got, Parser, and_then, ◌>>=◌, pure, exactly, found, finds, a_name, choose, many}
use Rattle.token_cursor.proofs.Exact.{Free}
use Rattle.token_cursor.proofs.Branches.{chosen, passed, when_false}
use Rattle.token_cursor.proofs.Leading.{Leads, stand, onto, comp, last, ahead, via, many_more, many_end, Begins, when_begins}
use Rattle.mesa_base.specs.declared.identifier.Identifier.{Identifier}
use Rattle.syntax_trees.specs.declared.syntax.QualifiedName.{QualifiedName}
use Rattle.syntax_trees.specs.declared.syntax.Entries.TheVariants.{Nothing, InOrder}
use Rattle.syntax_trees.specs.declared.syntax.Labels.{Labels}
use Rattle.syntax_trees.specs.declared.syntax.Labels.TheVariants.{Signals}
use Rattle.syntax_trees.specs.declared.syntax.RepeatLabels.{RepeatLabels}
use Rattle.syntax_trees.specs.declared.syntax.RepeatLabels.TheVariants.{Named as WithLabels}
use Rattle.grammar_rules.specs.WordsAndMarks.{spelled, disjoining, conjoining, negating}
use Rattle.grammar_rules.specs.Grammar as g
use Rattle.grammar_rules.specs.Grammar.{qualified}
use Rattle.grammar_rules.specs.ReadNested.{Fresh, AtName, AtNot, Nested, begins_expr, identifier, comma}
use Rattle.grammar_rules.specs.ReadNested as nr
use Rattle.grammar_rules.specs.ReadExpressions as ex
use Rattle.grammar_rules.specs.ReadStatements as st
use Rattle.grammar_rules.specs.ReadStatements.{nested}
use Rattle.grammar_rules.proofs.Names as nm
use Rattle.grammar_rules.proofs.Follows.{Named, names_named, qnames_named}

-- ---- names

abbrev Names : List Identifier → Parser (List Identifier)
Names = many comma nr.names_step

pub names_c : {ts rest : List Token} {all : List Identifier} → g.IsNames ts all rest → Leads ts all rest None Names (nr.names ts)
unfolding nr.names nr.named nr.names_from choose
names_c g.name = ahead _ (stand _ _ Names)
names_c (g.names {p = p} d) = comp (names_c d) (many_more comma nr.names_step nm.names_eats tt (mark Comma p) refl (ahead _ (stand _ _ (λ y. pure y))))

pub names_end : (all : List Identifier) (ts : List Token) → Free (finds comma) ts → Names all ts ≡ Got all ts
names_end all ts f = many_end comma nr.names_step nm.names_eats all ts f

pub names_all : {ts rest : List Token} {all : List Identifier} → g.IsNames ts all rest → Free (finds comma) rest → Leads ts all rest None (λ y. pure y) (nr.names ts)
names_all {rest = rest} {all = all} d f = comp (names_c d) (via (names_end all rest f) (stand rest all (λ y. pure y)))

abbrev pub dot : Kind → Option (Unit {0})
dot = exactly (k.Mark Dot)

pub qname_c : {ts rest : List Token} {x : QualifiedName} → g.IsQName ts x rest → Free (finds dot) rest → Leads ts x rest None (λ y. pure y) (nr.qname ts)
unfolding nr.qname nr.qname_from nr.named choose
qname_c {rest = rest} (g.bare {i = i}) f = ahead _ (via (passed dot (λ _ _. nr.named >>= (λ j. pure (qualified i (Some j)))) (pure (qualified i None)) rest f) (stand _ _ (λ y. pure y)))
qname_c g.dotted f = ahead _ (ahead _ (ahead _ (stand _ _ (λ y. pure y))))

abbrev QNames : List QualifiedName → Parser (List QualifiedName)
QNames = many comma nr.qnames_step

qnames_c : {ts rest : List Token} {all : List QualifiedName} → g.IsQNames ts all rest → Free (finds dot) rest → Leads ts all rest None QNames (nr.qnames ts)
unfolding nr.qnames
qnames_c (g.qname d) f = comp (onto (λ x. QNames (x ∷ [])) (qname_c d f)) (stand _ _ QNames)
qnames_c (g.qnames {p = p} d h) f = comp (qnames_c d refl) (many_more comma nr.qnames_step nm.qnames_eats tt (mark Comma p) refl (last _ (qname_c h f)))

pub labels_c : {ts rest : List Token} {x : Labels} → g.IsLabels ts x rest → Free (finds dot) rest → Free (finds comma) rest → Leads ts x rest None (λ y. pure y) (nr.labels ts)
unfolding nr.labels choose
labels_c g.any f h = ahead _ (stand _ _ (λ y. pure y))
labels_c g.unwind f h = ahead _ (stand _ _ (λ y. pure y))
labels_c {ts} {rest} (g.signals {all = all} d) f h = go (qnames_named d) (comp (qnames_c d f) (via (many_end comma nr.qnames_step nm.qnames_eats all rest h) (stand rest all (λ y. pure y))))
  where
    go : Named ts → Leads ts all rest None (λ y. pure y) (nr.qnames ts) → Leads ts (Signals all) rest None (λ y. pure y) (nr.labels ts)
    go i h = subst (λ z. Leads z (Signals all) rest None (λ y. pure y) (nr.labels z)) (sym i.is) (last Signals (subst (λ z. Leads z all rest None (λ y. pure y) (nr.qnames z)) i.is h))

pub repeat_labels_c : {ts rest : List Token} {x : RepeatLabels} → g.IsRepeatLabels ts x rest → Free (finds comma) rest → Leads ts x rest None (λ y. pure y) (nr.repeat_labels ts)
unfolding nr.repeat_labels choose
repeat_labels_c {ts} {rest} (g.labels {all = all} d) f = go (names_named d) (names_all d f)
  where
    go : Named ts → Leads ts all rest None (λ y. pure y) (nr.names ts) → Leads ts (WithLabels all) rest None (λ y. pure y) (nr.repeat_labels ts)
    go i h = subst (λ z. Leads z (WithLabels all) rest None (λ y. pure y) (nr.repeat_labels z)) (sym i.is) (last WithLabels (subst (λ z. Leads z all rest None (λ y. pure y) (nr.names z)) i.is h))
repeat_labels_c g.finished f = ahead _ (stand _ _ (λ y. pure y))

-- ---- what was begun by its first token goes on as if it was not

pub expr_name : (m : ℕ) (i : Identifier) (z : List Token) → (nested (suc m)).expr Fresh (spelled i ∷ z) ≡ (nested (suc m)).expr (AtName i) z
unfolding nested ex.expr ex.conj ex.neg ex.rel ex.sum ex.product ex.factor ex.primary ex.literal choose
expr_name m i z = refl

pub type_name : (m : ℕ) (i : Identifier) (z : List Token) → (nested (suc m)).type None (spelled i ∷ z) ≡ (nested (suc m)).type (Some i) z
unfolding nested ex.type_exp choose
type_name m i z = refl

pub stmt_name : (m : ℕ) (i : Identifier) (z : List Token) → (nested (suc m)).stmt None (spelled i ∷ z) ≡ (nested (suc m)).stmt (Some i) z
unfolding nested st.statement choose
stmt_name m i z = refl

pub expr_not : (m : ℕ) (p : Place) (kind : Kind) (z : List Token) → negating kind ≡ Some tt → (nested (suc m)).expr Fresh (token kind p ∷ z) ≡ (nested (suc m)).expr (AtNot p) z
unfolding nested ex.expr ex.conj ex.neg
expr_not m p kind z h = ap (λ out. and_then (and_then out (λ x. many conjoining (ex.ands_step (nested m)) [] >>= (λ ss. pure (g.run x ss)))) (λ x. many disjoining (ex.ors_step (nested m)) [] >>= (λ ss. pure (g.run x ss)))) (chosen negating (λ _ p. ex.negation (nested m) p) (ex.rel (nested m) None) tt (token kind p) z h)

-- ---- arguments

-- a name that begins them is no key
abbrev pub NotKeyed : List Token → Type 0
NotKeyed ts = (i : Identifier) (us : List Token) → ts ≡ spelled i ∷ us → Free (finds (exactly (k.Mark Colon))) us

unkeyed_goes : (q : Nested) (ts : List Token) → Begins begins_expr ts → ex.unkeyed q ts ≡ ex.in_order q Fresh ts
unfolding ex.unkeyed
unkeyed_goes q ts b = when_begins begins_expr (ex.in_order q Fresh) (pure Nothing) ts b

pub named_or_not : (t : Token) → ((i : Identifier) × (t ≡ spelled i)) ⊎ (found (a_name t.kind) ≡ false)
named_or_not t = go t.kind t.place
  where
    go : (kind : Kind) (p : Place) → ((i : Identifier) × (token kind p ≡ spelled i)) ⊎ (found (a_name kind) ≡ false)
    go (k.Name n) p = inl (identifier n p, refl)
    go (k.Word w) p = inr refl
    go (k.Number w) p = inr refl
    go (k.Char w) p = inr refl
    go (k.Text w) p = inr refl
    go (k.Mark w) p = inr refl

pub args_goes : (n : ℕ) (ts : List Token) → Begins begins_expr ts → NotKeyed ts → ex.args (nested n) ts ≡ ex.in_order (nested n) Fresh ts
unfolding ex.args nested ex.after_name ex.in_order choose
args_goes zero ts b not_keyed = unkeyed_goes (nested zero) ts b
args_goes (suc m) ts b not_keyed = go (named_or_not b.token)
  where
    go : ((i : Identifier) × (b.token ≡ spelled i)) ⊎ (found (a_name b.token.kind) ≡ false) → ex.args (nested (suc m)) ts ≡ ex.in_order (nested (suc m)) Fresh ts
    go (inl p) = let is : ts ≡ spelled p.0 ∷ b.back = b.is ∙ ap (λ z. z ∷ b.back) p.1 in
        subst (λ z. ex.args (nested (suc m)) z ≡ ex.in_order (nested (suc m)) Fresh z) (sym is)
        (passed (exactly (k.Mark Colon)) (λ _ _. ex.by_key (nested (suc m)) p.0) (ex.in_order (nested (suc m)) (AtName p.0)) b.back (not_keyed p.0 b.back is)
        ∙ ap (λ out. and_then out (λ x. many comma (ex.exprs_step (nested (suc m))) (x ∷ []) >>= (λ all. pure (InOrder all)))) (sym (expr_name m p.0 b.back)))
    go (inr e) = passed a_name (λ n p. ex.after_name (nested (suc m)) (identifier n p)) (ex.unkeyed (nested (suc m))) ts (subst (Free (finds a_name)) (sym b.is) e) ∙ unkeyed_goes (nested (suc m)) ts b

pub args_none : (n : ℕ) (ts : List Token) → Free begins_expr ts → Free (finds a_name) ts → ex.args (nested n) ts ≡ Got Nothing ts
unfolding ex.args nested ex.unkeyed
args_none zero ts f h = when_false begins_expr (ex.in_order (nested zero) Fresh) (pure Nothing) ts f
args_none (suc m) ts f h = passed a_name (λ n p. ex.after_name (nested (suc m)) (identifier n p)) (ex.unkeyed (nested (suc m))) ts h ∙ when_false begins_expr (ex.in_order (nested (suc m)) Fresh) (pure Nothing) ts f
