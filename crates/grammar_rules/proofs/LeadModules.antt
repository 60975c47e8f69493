-- What a reading of a module says, the parser finds, or it stops before what is too deep.
use Rattle.std.proofs.Common.{◌≡◌, ℕ, zero, suc, arith, Bool, true, false, ◌||◌, List, [], ◌∷◌, ◌++◌, Option, Some, None, ◌⊎◌, inl, inr, refl, sym, ap, subst, ◌∙◌}
use Rattle.mesa_base.specs.declared.place.Place.{Place}
use Rattle.mesa_lexer.specs.declared.token.Token.{Token}
use Rattle.mesa_lexer.specs.declared.token.Kind.{Kind}
use Rattle.mesa_lexer.specs.declared.token.Kind.TheVariants as k
use Rattle.mesa_lexer.specs.declared.word.Word.{Word}
use Rattle.mesa_lexer.specs.declared.word.Word.TheVariants.{DirectoryWord, EnableWord, EndWord, ErrorWord, ExportsWord, ImportsWord, OpenWord, ProcWord, ProcedureWord, ReturnsWord, SignalWord, TypeWord, UsingWord}
use Rattle.mesa_lexer.specs.declared.mark.Mark.TheVariants.{Semicolon, Colon, Comma, LeftBracket, RightBracket, RightBrace, Equal}
use Rattle.token_cursor.specs.Parsing.{token, mark, Out, Got, Stop, Parser, and_then, ◌>>=◌, ◌>>◌, pure, first, exactly, found, finds, among, a_name, choose, option, need, when, Turned, Again, Done, go_on, repeat, many_turn, many}
use Rattle.token_cursor.specs.Parsing as w
use Rattle.token_cursor.proofs.Exact.{Free, first_none}
use Rattle.token_cursor.proofs.Branches.{or_true, among_every, passed, when_false, chosen}
use Rattle.token_cursor.proofs.Loops.{Eats, unroll}
use Rattle.token_cursor.proofs.Leading.{Leads, stand, finish, onto, under, comp, last, ahead, via, placed, at_once, turn_leads, many_more, many_end, Begins, when_begins}
use Rattle.mesa_base.specs.declared.identifier.Identifier.{Identifier}
use Rattle.syntax_trees.specs.declared.syntax.Labeled.{Labeled}
use Rattle.syntax_trees.specs.declared.syntax.FieldList.{FieldList}
use Rattle.syntax_trees.specs.declared.syntax.TypeExp.{TypeExp}
use Rattle.syntax_trees.specs.declared.syntax.Expr.{Expr}
use Rattle.syntax_trees.specs.declared.syntax.Statement.{Statement}
use Rattle.syntax_trees.specs.declared.syntax.Block.{Block}
use Rattle.syntax_trees.specs.declared.syntax.PlainItem.{PlainItem}
use Rattle.syntax_trees.specs.declared.syntax.Access.{Access}
use Rattle.syntax_trees.specs.declared.syntax.Head.{Head}
use Rattle.syntax_trees.specs.declared.syntax.Declared.{Declared}
use Rattle.syntax_trees.specs.declared.syntax.Declared.TheVariants.{Data}
use Rattle.syntax_trees.specs.declared.syntax.Declaration.{Declaration}
use Rattle.syntax_trees.specs.declared.syntax.Inner.{Inner}
use Rattle.syntax_trees.specs.declared.syntax.Defined.{Defined}
use Rattle.syntax_trees.specs.declared.syntax.Defined.TheVariants.{ProcedureItem, SignalItem, ErrorItem}
use Rattle.syntax_trees.specs.declared.syntax.ModuleKind.{ModuleKind}
use Rattle.syntax_trees.specs.declared.syntax.DirectoryItem.{DirectoryItem}
use Rattle.syntax_trees.specs.declared.syntax.Module.{Module}
use Rattle.grammar_rules.specs.WordsAndMarks.{spelled, procedure_word, accessing}
use Rattle.grammar_rules.specs.Grammar as g
use Rattle.grammar_rules.specs.Grammar.{labeled}
use Rattle.grammar_rules.specs.Depth as dp
use Rattle.grammar_rules.specs.Modules as m
use Rattle.grammar_rules.specs.ReadNested.{Fresh, identifier, comma, begins_stmt, begins_type, type_starts, stmt_starts}
use Rattle.grammar_rules.specs.ReadNested as nr
use Rattle.grammar_rules.specs.ReadExpressions as ex
use Rattle.grammar_rules.specs.ReadStatements as st
use Rattle.grammar_rules.specs.ReadStatements.{nested, semicolon}
use Rattle.grammar_rules.specs.ReadModules as r
use Rattle.grammar_rules.specs.ReadModules.{Front}
use Rattle.grammar_rules.proofs.Levels.{all_of}
use Rattle.grammar_rules.proofs.Follows as fo
use Rattle.grammar_rules.proofs.Follows.{Named, more_plain, more_expr, more_type, declares, tails, apart, apart_kinds}
use Rattle.grammar_rules.proofs.Turns.{names_all, named_or_not}
use Rattle.grammar_rules.proofs.Seconds.{behind_first, Second, body_second, names_second}
use Rattle.grammar_rules.proofs.Sealed as sd
use Rattle.grammar_rules.proofs.Parts.{lift_fields, lift_type, lift_expr, fields_begin, enables, exits_tail_of, inside}
use Rattle.grammar_rules.proofs.Leads as l
use Rattle.grammar_rules.proofs.KeepModules as km

-- ---- lists of names

opened_c : {ts rest : List Token} {x : List Identifier} (d : m.IsOpen ts x rest) → Free (finds (exactly (k.Word OpenWord))) rest → Leads ts x rest None (λ y. pure y) (r.opened ts)
unfolding r.opened need choose
opened_c {rest = rest} m.no_open f = via (passed (exactly (k.Word OpenWord)) (λ _ _. nr.names >>= (λ ns. need semicolon >> pure ns)) (pure []) rest f) (stand _ _ (λ y. pure y))
opened_c (m.opened d) f = ahead _ (comp (onto _ (names_all d refl)) (ahead _ (stand _ _ (λ y. pure y))))

listed_c : (v : Word) → exactly (k.Word v) (k.Word v) ≡ Some tt → {ts rest : List Token} {x : List Identifier} (d : m.IsListed v ts x rest) → Free (finds (exactly (k.Word v))) rest → Free (finds comma) rest → Leads ts x rest None (λ y. pure y) (r.listed v ts)
unfolding r.listed
listed_c v e {rest = rest} m.unlisted f h = via (passed (exactly (k.Word v)) (λ _ _. nr.names) (pure []) rest f) (stand _ _ (λ y. pure y))
listed_c v e (m.listed {p = p} d) f h = via (chosen (exactly (k.Word v)) (λ _ _. nr.names) (pure []) tt (w.word v p) _ e) (ahead _ (names_all d h))

using_c : {ts rest : List Token} {x : Option (List Identifier)} (d : m.IsUsing ts x rest) → Free (finds (exactly (k.Word UsingWord))) rest → Leads ts x rest None (λ y. pure y) (r.using ts)
unfolding r.using r.using_names need choose
using_c {rest = rest} m.no_using f = via (passed (exactly (k.Word UsingWord)) (λ _ _. need (k.Mark LeftBracket) >> r.using_names) (pure None) rest f) (stand _ _ (λ y. pure y))
using_c m.using_none f = ahead _ (ahead _ (ahead _ (stand _ _ (λ y. pure y))))
using_c (m.using {ts = ts} d) f = ahead _ (ahead _ (via (passed (exactly (k.Mark RightBracket)) (λ _ _. pure (Some [])) (nr.names >>= (λ ns. need (k.Mark RightBracket) >> pure (Some ns))) ts (let i = fo.names_named d in subst (Free (finds (exactly (k.Mark RightBracket)))) (sym i.is) refl)) (comp (onto _ (names_all d refl)) (ahead _ (stand _ _ (λ y. pure y))))))

item_c : {ts rest : List Token} {x : DirectoryItem} (d : m.IsItem ts x rest) → Free (finds (exactly (k.Word UsingWord))) rest → Leads ts x rest None (λ y. pure y) (r.item ts)
unfolding r.item r.file nr.named need choose
item_c (m.item d) f = ahead _ (ahead _ (ahead _ (ahead _ (last _ (using_c d f)))))

abbrev Items : List DirectoryItem → Parser (List DirectoryItem)
Items all = many comma r.items_step all >>= (λ all. need semicolon >> pure all)

items_c : {ts rest : List Token} {x : List DirectoryItem} (d : m.IsItems ts x rest) → Free (finds (exactly (k.Word UsingWord))) rest → Leads ts x rest None Items (r.items ts)
unfolding r.items
items_c (m.an_item d) f = comp (onto (λ x. Items (x ∷ [])) (item_c d f)) (stand _ _ Items)
items_c (m.items {p = p} d h) f = comp (items_c d refl) (under _ (many_more comma r.items_step km.items_eats tt (mark Comma p) refl (last _ (item_c h f))))

directory_c : {ts rest : List Token} {x : List DirectoryItem} (d : m.IsDirectory ts x rest) → Free (finds (exactly (k.Word DirectoryWord))) rest → Leads ts x rest None (λ y. pure y) (r.directory ts)
unfolding r.directory need choose
directory_c {rest = rest} m.no_directory f = via (passed (exactly (k.Word DirectoryWord)) (λ _ _. r.items) (pure []) rest f) (stand _ _ (λ y. pure y))
directory_c {rest = rest} (m.directory {all = all} {q = q} d) f = ahead _ (comp (items_c d refl) (via (ap (λ out. and_then out (λ all. need semicolon >> pure all)) (many_end comma r.items_step km.items_eats all (mark Semicolon q ∷ rest) refl)) (ahead _ (stand _ _ (λ y. pure y)))))

-- ---- heads

abbrev bracket : Kind → Bool
bracket = finds (exactly (k.Mark LeftBracket))

abbrev returning : Kind → Bool
returning = finds (exactly (k.Word ReturnsWord))

fields_c : (n : ℕ) {ts rest : List Token} {x : FieldList} {p : Place} (d : g.IsFields ts x (mark RightBracket p ∷ rest)) → Leads ts x (mark RightBracket p ∷ rest) (dp.deep_fields n d) (λ y. pure y) (ex.field_list (nested n) ts)
fields_c n d = placed (sd.seal_at_fields n d) (lift_fields n d (λ j. l.fields_c j d refl))

in_params : (n : ℕ) {ts rest : List Token} {x : FieldList} {p : Place} (d : g.IsFields ts x (mark RightBracket p ∷ rest)) → Leads ts (Some x) rest (first (dp.deep_fields n d) None) (λ y. pure y) (r.in_params (nested n) ts)
unfolding r.in_params need choose
in_params n {ts} d = via (passed (exactly (k.Mark RightBracket)) (λ _ _. pure None) (ex.field_list (nested n) >>= (λ x. need (k.Mark RightBracket) >> pure (Some x))) ts (apart (finds (exactly (k.Mark RightBracket))) type_starts (refl, (refl, (refl, (refl, (refl, (refl, (refl, (refl, (refl, (refl, (refl, tt))))))))))) (λ name. refl) ts (fields_begin d)))
    (comp (onto _ (fields_c n d)) (ahead _ (stand _ _ (λ y. pure y))))

params_c : (n : ℕ) {ts rest : List Token} {x : Option FieldList} (d : m.IsParams ts x rest) → Free bracket rest → Leads ts x rest (m.deep_params n d) (λ y. pure y) (r.params (nested n) ts)
unfolding r.params r.in_params choose
params_c n {rest = rest} m.no_params f = via (passed (exactly (k.Mark LeftBracket)) (λ _ _. r.in_params (nested n)) (pure None) rest f) (stand _ _ (λ y. pure y))
params_c n m.empty_params f = ahead _ (ahead _ (stand _ _ (λ y. pure y)))
params_c n (m.params d) f = ahead _ (in_params n d)

returns_c : (n : ℕ) {ts rest : List Token} {x : Option FieldList} (d : m.IsReturns ts x rest) → Free returning rest → Leads ts x rest (m.deep_returns n d) (λ y. pure y) (r.returns (nested n) ts)
unfolding r.returns r.in_params need choose
returns_c n {rest = rest} m.no_returns f = via (passed (exactly (k.Word ReturnsWord)) (λ _ _. need (k.Mark LeftBracket) >> r.in_params (nested n)) (pure None) rest f) (stand _ _ (λ y. pure y))
returns_c n m.empty_returns f = ahead _ (ahead _ (ahead _ (stand _ _ (λ y. pure y))))
returns_c n (m.returns d) f = ahead _ (ahead _ (in_params n d))

returns_bracket : {ts rest : List Token} {x : Option FieldList} → m.IsReturns ts x rest → Free bracket rest → Free bracket ts
returns_bracket m.no_returns f = f
returns_bracket m.empty_returns f = refl
returns_bracket (m.returns d) f = refl

head_c : (n : ℕ) {ts rest : List Token} {x : Head} (d : m.IsHead ts x rest) → Free bracket rest → Free returning rest → Leads ts x rest (m.deep_head n d) (λ y. pure y) (r.head (nested n) ts)
unfolding r.head
head_c n (m.head_of d f) h i = comp (onto _ (params_c n d (returns_bracket f h))) (last _ (returns_c n f i))

block_c : (n : ℕ) {ts rest : List Token} {x : Block} (d : g.IsBlock ts x rest) → Leads ts x rest (dp.deep_block n d) (λ y. pure y) (r.block (nested n) ts)
unfolding r.block choose
block_c n (g.begin_end a b c e) = ahead _ (inside n (k.Word EndWord) _ refl (placed (sd.seal_at_enabling n a) (l.enabling_c n a (enables b c (exits_tail_of (k.Word EndWord) refl e)))) (placed (sd.seal_at_locals n b) (l.locals_c n b)) (body_second c (exits_tail_of (k.Word EndWord) refl e)) (placed (sd.seal_at_body n c) (l.body_c n c (exits_tail_of (k.Word EndWord) refl e))) (placed (sd.seal_at_exit_part n e) (l.exit_part_c n (k.Word EndWord) _ refl e)))
block_c n (g.braces a b c e) = ahead _ (inside n (k.Mark RightBrace) _ refl (placed (sd.seal_at_enabling n a) (l.enabling_c n a (enables b c (exits_tail_of (k.Mark RightBrace) refl e)))) (placed (sd.seal_at_locals n b) (l.locals_c n b)) (body_second c (exits_tail_of (k.Mark RightBrace) refl e)) (placed (sd.seal_at_body n c) (l.body_c n c (exits_tail_of (k.Mark RightBrace) refl e))) (placed (sd.seal_at_exit_part n e) (l.exit_part_c n (k.Mark RightBrace) _ refl e)))

-- ---- declarations

abbrev plain_starts : List Kind
plain_starts = k.Word TypeWord ∷ type_starts

type_plain : (kind : Kind) → begins_type kind ≡ true → (finds a_name kind || among plain_starts kind) ≡ true
type_plain kind h = go (or_true (finds a_name kind) (among type_starts kind) h)
  where
    go : (finds a_name kind ≡ true) ⊎ (among type_starts kind ≡ true) → (finds a_name kind || among plain_starts kind) ≡ true
    go (inl e) = ap (λ z. z || among plain_starts kind) e
    go (inr e) = among_every (λ kind. (finds a_name kind || among plain_starts kind) ≡ true) type_starts (refl, (refl, (refl, (refl, (refl, (refl, (refl, (refl, (refl, (refl, (refl, tt))))))))))) kind e

plain_begins : {ts rest : List Token} {x : PlainItem} → g.IsPlain ts x rest → Begins (λ kind. finds a_name kind || among plain_starts kind) ts
plain_begins (g.type_is d) = record { token = _; back = _; is = refl; begins = refl }
plain_begins (g.variable d) = fo.begins_with type_plain (fo.type_begins d)
plain_begins (g.initial d f) = fo.begins_with type_plain (fo.type_begins d)
plain_begins (g.constant d f) = fo.begins_with type_plain (fo.type_begins d)

declared_plain : (n : ℕ) {ts rest : List Token} {x : PlainItem} → g.IsPlain ts x rest → r.declared (nested n) ts ≡ and_then (st.plain (nested n) ts) (λ x. pure (Data x))
unfolding r.declared
declared_plain n {ts} d = passed procedure_word (λ _ _. r.procedure (nested n)) (option (k.Word SignalWord) (λ _. r.signal (nested n)) (option (k.Word ErrorWord) (λ _. r.error (nested n)) (st.plain (nested n) >>= (λ x. pure (Data x))))) ts (apart (finds procedure_word) plain_starts (refl, (refl, (refl, (refl, (refl, (refl, (refl, (refl, (refl, (refl, (refl, (refl, tt)))))))))))) (λ name. refl) ts (plain_begins d))
    ∙ (passed (exactly (k.Word SignalWord)) (λ _ _. r.signal (nested n)) (option (k.Word ErrorWord) (λ _. r.error (nested n)) (st.plain (nested n) >>= (λ x. pure (Data x)))) ts (apart (finds (exactly (k.Word SignalWord))) plain_starts (refl, (refl, (refl, (refl, (refl, (refl, (refl, (refl, (refl, (refl, (refl, (refl, tt)))))))))))) (λ name. refl) ts (plain_begins d))
    ∙ passed (exactly (k.Word ErrorWord)) (λ _ _. r.error (nested n)) (st.plain (nested n) >>= (λ x. pure (Data x))) ts (apart (finds (exactly (k.Word ErrorWord))) plain_starts (refl, (refl, (refl, (refl, (refl, (refl, (refl, (refl, (refl, (refl, (refl, (refl, tt)))))))))))) (λ name. refl) ts (plain_begins d)))

declared_procedure : (n : ℕ) (kind : Kind) (p : Place) (ts : List Token) → procedure_word kind ≡ Some tt → r.declared (nested n) (token kind p ∷ ts) ≡ r.procedure (nested n) ts
unfolding r.declared
declared_procedure n kind p ts h = chosen procedure_word (λ _ _. r.procedure (nested n)) (option (k.Word SignalWord) (λ _. r.signal (nested n)) (option (k.Word ErrorWord) (λ _. r.error (nested n)) (st.plain (nested n) >>= (λ x. pure (Data x))))) tt (token kind p) ts h

declared_signal : (n : ℕ) (p : Place) (ts : List Token) → r.declared (nested n) (w.word SignalWord p ∷ ts) ≡ r.signal (nested n) ts
unfolding r.declared choose
declared_signal n p ts = refl

declared_error : (n : ℕ) (p : Place) (ts : List Token) → r.declared (nested n) (w.word ErrorWord p ∷ ts) ≡ r.error (nested n) ts
unfolding r.declared choose
declared_error n p ts = refl

declared_c : (n : ℕ) {ts rest : List Token} {x : Declared} (d : m.IsDeclared ts x rest) → Free more_plain rest → Leads ts x rest (m.deep_declared n d) (λ y. pure y) (r.declared (nested n) ts)
unfolding r.procedure r.signal r.error need choose
declared_c n (m.procedure {kind = kind} {p = p} e d h) f = via (declared_procedure n kind p _ e) (ahead _ (comp (onto _ (head_c n d refl refl)) (ahead _ (last _ (block_c n h)))))
declared_c n (m.signal d) f = via (declared_signal n _ _) (ahead _ (comp (onto _ (head_c n d refl refl)) (ahead _ (ahead _ (stand _ _ (λ y. pure y))))))
declared_c n (m.error d) f = via (declared_error n _ _) (ahead _ (comp (onto _ (params_c n d refl)) (ahead _ (ahead _ (stand _ _ (λ y. pure y))))))
declared_c n (m.plainly d) f = via (declared_plain n d) (last _ (placed (sd.seal_at_plain n d) (l.plain_c n d f)))

procedure_unnamed : (kind : Kind) → procedure_word kind ≡ Some tt → (found (accessing kind) ≡ false)
procedure_unnamed (k.Word ProcWord) e = refl
procedure_unnamed (k.Word ProcedureWord) e = refl
procedure_unnamed _ e = absurd (cc)

declared_access : {ts rest : List Token} {x : Declared} → m.IsDeclared ts x rest → Free (finds accessing) ts
declared_access (m.procedure {kind = kind} e d h) = procedure_unnamed kind e
declared_access (m.signal d) = refl
declared_access (m.error d) = refl
declared_access {ts} (m.plainly d) = apart (finds accessing) plain_starts (refl, (refl, (refl, (refl, (refl, (refl, (refl, (refl, (refl, (refl, (refl, (refl, tt)))))))))))) (λ name. refl) ts (plain_begins d)

access_c : {ts rest : List Token} {x : Option Access} (d : m.IsAccess ts x rest) → Free (finds accessing) rest → Leads ts x rest None (λ y. pure y) (r.access ts)
unfolding r.access
access_c {rest = rest} m.no_access f = via (passed accessing (λ a _. pure (Some a)) (pure None) rest f) (stand _ _ (λ y. pure y))
access_c {rest = rest} (m.access {a = a} {p = p} e) f = via (chosen accessing (λ a _. pure (Some a)) (pure None) a (token _ p) rest e) (ahead _ (stand _ _ (λ y. pure y)))

-- ---- declarations and the statements behind them

abbrev OfFront : Type 0
OfFront = Turned (List Declaration) Front

front_eats : (n : ℕ) → Eats (r.front_turn (nested n))
front_eats n = km.front_eats n (nested n) (all_of n)

abbrev goes_on : ℕ → List Declaration → Identifier → Parser OfFront
goes_on m ds i = r.declaration (nested (suc m)) i >>= (λ x. pure (Again (ds ++ x ∷ [])))

front_named : (m : ℕ) (ds : List Declaration) (i : Identifier) (us : List Token) → Free declares us → r.front_turn (nested (suc m)) ds (spelled i ∷ us) ≡ r.front_end (nested (suc m)) ds (spelled i ∷ us)
unfolding r.front_turn r.front_from r.front_end st.body st.stmts nested st.statement choose
front_named m ds i us f = when_false declares (goes_on m ds i) (st.stmts (nested (suc m)) (Some i) >>= (λ ss. pure (Done (ds, ss)))) us f
    ∙ sym (ap (λ out. and_then out (λ ss. pure (Done (ds, ss)))) (when_begins begins_stmt (st.stmts (nested (suc m)) None) (pure []) (spelled i ∷ us) (record { token = spelled i; back = us; is = refl; begins = refl })))

front_rest : (n : ℕ) (ds : List Declaration) (ts : List Token) → Second declares ts → r.front_turn (nested n) ds ts ≡ r.front_end (nested n) ds ts
unfolding r.front_turn nested
front_rest zero ds ts h = refl
front_rest (suc m) ds [] h = passed a_name (λ n p. r.front_from (nested (suc m)) ds (identifier n p)) (r.front_end (nested (suc m)) ds) [] tt
front_rest (suc m) ds (t ∷ us) h = go (named_or_not t)
  where
    go : ((i : Identifier) × (t ≡ spelled i)) ⊎ (found (a_name t.kind) ≡ false) → r.front_turn (nested (suc m)) ds (t ∷ us) ≡ r.front_end (nested (suc m)) ds (t ∷ us)
    go (inl p) = subst (λ z. r.front_turn (nested (suc m)) ds (z ∷ us) ≡ r.front_end (nested (suc m)) ds (z ∷ us)) (sym p.1) (front_named m ds p.0 us (h p.0 us (ap (λ z. z ∷ us) p.1)))
    go (inr e) = passed a_name (λ n p. r.front_from (nested (suc m)) ds (identifier n p)) (r.front_end (nested (suc m)) ds) (t ∷ us) e

front_local : {Y : Type 0} (n : ℕ) (ds : List Declaration) (i : Identifier) (us rest : List Token) (x : Y) (o : Option (List Token)) (K : Y → Parser OfFront) → Begins declares us
    → Leads (spelled i ∷ us) x rest o K (and_then (r.declaration (nested n) i us) (λ x. pure (Again (ds ++ x ∷ [])))) → Leads (spelled i ∷ us) x rest o K (r.front_turn (nested n) ds (spelled i ∷ us))
unfolding r.front_turn r.front_from r.front_end st.body st.stmts nested choose when w.too_deep
front_local zero ds i us rest x o K b h = at_once refl h.size h.within
front_local (suc m) ds i us rest x o K b h = via (when_begins declares (goes_on m ds i) (st.stmts (nested (suc m)) (Some i) >>= (λ ss. pure (Done (ds, ss)))) us b) h

front_pair : {A : Type 0} (out : Out (List Statement)) (ds : List Declaration) (g : A → Parser Front) → and_then (and_then out (λ ss. pure {A = Turned A Front} (Done (ds, ss)))) (go_on g) ≡ and_then out (λ ss. pure (ds, ss))
front_pair (Got ss rest) ds g = refl
front_pair (Stop why rest) ds g = refl

front_last : (n : ℕ) (ds : List Declaration) (ts : List Token) → Second declares ts → repeat (r.front_turn (nested n)) ds ts ≡ and_then (st.body (nested n) ts) (λ ss. pure (ds, ss))
unfolding r.front_end
front_last n ds ts h = unroll (r.front_turn (nested n)) (front_eats n) ds ts ∙ (ap (λ out. and_then out (go_on (repeat (r.front_turn (nested n))))) (front_rest n ds ts h) ∙ front_pair (st.body (nested n) ts) ds (repeat (r.front_turn (nested n))))

abbrev after_names : ℕ → List Identifier → Parser Declaration
after_names n ns = need (k.Mark Colon) >> (r.access >>= (λ a. r.declared (nested n) >>= (λ x. need semicolon >> pure (m.declaration ns a x))))

declaration_goes : (n : ℕ) (i : Identifier) (us : List Token) → r.declaration (nested n) i us ≡ and_then (nr.names (spelled i ∷ us)) (after_names n)
unfolding r.declaration nr.names nr.named choose
declaration_goes n i us = refl

front_step : (n : ℕ) (ds : List Declaration) (us rest : List Token) (x : Declaration) (o : Option (List Token)) → (i : Named us) → Begins declares (behind_first us) → Leads us x rest o (λ y. pure y) (and_then (nr.names us) (after_names n)) → Leads us (Again (ds ++ x ∷ [])) rest o (λ y. pure y) (r.front_turn (nested n) ds us)
front_step n ds us rest x o i b h = subst (λ z. Leads z (Again (ds ++ x ∷ [])) rest o (λ y. pure y) (r.front_turn (nested n) ds z)) (sym i.is)
    (front_local n ds i.name i.back rest (Again (ds ++ x ∷ [])) o (λ y. pure y) (subst (Begins declares) (ap behind_first i.is) b)
    (via (ap (λ out. and_then out (λ x. pure (Again (ds ++ x ∷ [])))) (declaration_goes n i.name i.back))
    (finish (Again (ds ++ x ∷ [])) rest (λ y. pure y) (onto (λ x. pure (Again (ds ++ x ∷ []))) (subst (λ z. Leads z x rest o (λ y. pure y) (and_then (nr.names z) (after_names n))) i.is h)) refl (omega arith))))

declaration_c : (n : ℕ) (ds : List Declaration) {ts rest : List Token} {x : Declaration} {p : Place} (d : m.IsDeclaration ts x (mark Semicolon p ∷ rest)) → Leads {X = OfFront} ts (Again (ds ++ x ∷ [])) rest (m.deep_declaration n d) (λ y. pure y) (r.front_turn (nested n) ds ts)
unfolding need choose
declaration_c n ds (m.declared a b c) = front_step n ds _ _ _ _ (fo.names_named a) (names_second a (record { token = _; back = _; is = refl; begins = refl }))
    (comp (onto (after_names n) (names_all a refl)) (ahead _ (comp (onto _ (access_c b (declared_access c))) (comp (onto _ (declared_c n c refl)) (ahead _ (stand _ _ (λ y. pure y)))))))

declarations_c : (n : ℕ) {ts rest : List Token} {x : List Declaration} (d : m.IsDeclarations ts x rest) → Leads ts x rest (m.deep_declarations n d) (repeat (r.front_turn (nested n))) (repeat (r.front_turn (nested n)) [] ts)
declarations_c n m.no_declarations = stand _ [] (repeat (r.front_turn (nested n)))
declarations_c n (m.declarations {all = all} d h) = comp (declarations_c n d) (placed (sym (first_none _)) (turn_leads (r.front_turn (nested n)) (front_eats n) all _ _ _ _ (declaration_c n all h)))

declaration_named : {ts rest : List Token} {x : Declaration} → m.IsDeclaration ts x rest → Named ts
declaration_named (m.declared a b c) = fo.names_named a

joined_named : {ts us : List Token} → (ts ≡ us) ⊎ Named ts → Named us → Named ts
joined_named (inl e) h = record { name = h.name; back = h.back; is = e ∙ h.is }
joined_named (inr h) f = h

declarations_first : {ts rest : List Token} {x : List Declaration} → m.IsDeclarations ts x rest → (ts ≡ rest) ⊎ Named ts
declarations_first m.no_declarations = inl refl
declarations_first (m.declarations d f) = inr (joined_named (declarations_first d) (declaration_named f))

-- the inside of a module begins neither with ENABLE behind its phrase nor with OPEN
first_free : (v : Word) → finds (exactly (k.Word v)) (k.Name []) ≡ false → {us vs : List Token} {x : List Declaration} → m.IsDeclarations us x vs → Free (finds (exactly (k.Word v))) vs → Free (finds (exactly (k.Word v))) us
first_free v e {us} {vs} d f = by (declarations_first d)
  where
    by : (us ≡ vs) ⊎ Named us → Free (finds (exactly (k.Word v))) us
    by (inl e) = subst (Free (finds (exactly (k.Word v)))) (sym e) f
    by (inr i) = subst (Free (finds (exactly (k.Word v)))) (sym i.is) refl

body_opens : {ts rest : List Token} {x : List Statement} → g.IsBody ts x rest → Begins (among tails) rest → Free (finds (exactly (k.Word OpenWord))) ts
body_opens {rest = rest} g.no_stmts b = apart_kinds (finds (exactly (k.Word OpenWord))) tails (refl, (refl, (refl, (refl, (refl, tt))))) rest b
body_opens {ts} (g.open_stmts d) b = apart (finds (exactly (k.Word OpenWord))) stmt_starts (refl, (refl, (refl, (refl, (refl, (refl, (refl, (refl, (refl, (refl, (refl, (refl, (refl, (refl, (refl, (refl, (refl, (refl, (refl, (refl, (refl, (refl, tt)))))))))))))))))))))) (λ n. refl) ts (fo.stmts_begin d)
body_opens {ts} (g.closed_stmts d) b = apart (finds (exactly (k.Word OpenWord))) stmt_starts (refl, (refl, (refl, (refl, (refl, (refl, (refl, (refl, (refl, (refl, (refl, (refl, (refl, (refl, (refl, (refl, (refl, (refl, (refl, (refl, (refl, (refl, tt)))))))))))))))))))))) (λ n. refl) ts (fo.stmts_begin d)

inner_opens : {ts rest : List Token} {x : Inner} {p : Place} → m.IsInner ts x (w.word EndWord p ∷ rest) → Free (finds (exactly (k.Word OpenWord))) ts
inner_opens (m.inside g.no_enable d c i) = first_free OpenWord refl d (body_opens c (exits_tail_of (k.Word EndWord) refl i))
inner_opens (m.inside (g.enable_one a) d c i) = refl
inner_opens (m.inside (g.enable_many a) d c i) = refl

inner_c : (n : ℕ) {ts rest : List Token} {x : Inner} {p : Place} (d : m.IsInner ts x (w.word EndWord p ∷ rest)) → Leads ts x (w.word EndWord p ∷ rest) (m.deep_inner n d) (λ y. pure y) (r.inner (nested n) ts)
unfolding r.inner
inner_c n {p = p} (m.inside {vs = vs} {ws = ws} {ds = ds} {ss = ss} a b c i) =
    let tail = exits_tail_of (k.Word EndWord) refl i in
    comp (onto _ (placed (sd.seal_at_enabling n a) (l.enabling_c n a (first_free EnableWord refl b (fo.body_enables c tail))))) (comp (under _ (declarations_c n b))
    (comp (onto _ (via (front_last n ds vs (body_second c tail)) (finish (ds, ss) ws (λ y. pure y) (onto (λ ss. pure (ds, ss)) (placed (sd.seal_at_body n c) (l.body_c n c tail))) refl (omega arith))))
    (last _ (placed (sd.seal_at_exit_part n i) (l.exit_part_c n (k.Word EndWord) p refl i)))))

-- ---- interfaces

defined_constant : (n : ℕ) (ts : List Token) → Begins begins_type ts → r.defined (nested n) ts ≡ r.constant (nested n) ts
unfolding r.defined
defined_constant n ts b = passed procedure_word (λ _ _. r.head (nested n) >>= (λ h. pure (ProcedureItem h))) (option (k.Word SignalWord) (λ _. r.head (nested n) >>= (λ h. pure (SignalItem h))) (option (k.Word ErrorWord) (λ _. r.params (nested n) >>= (λ a. pure (ErrorItem a))) (option (k.Word TypeWord) (λ _. r.type_item (nested n)) (r.constant (nested n))))) ts (apart (finds procedure_word) type_starts (refl, (refl, (refl, (refl, (refl, (refl, (refl, (refl, (refl, (refl, (refl, tt))))))))))) (λ name. refl) ts b)
    ∙ (passed (exactly (k.Word SignalWord)) (λ _ _. r.head (nested n) >>= (λ h. pure (SignalItem h))) (option (k.Word ErrorWord) (λ _. r.params (nested n) >>= (λ a. pure (ErrorItem a))) (option (k.Word TypeWord) (λ _. r.type_item (nested n)) (r.constant (nested n)))) ts (apart (finds (exactly (k.Word SignalWord))) type_starts (refl, (refl, (refl, (refl, (refl, (refl, (refl, (refl, (refl, (refl, (refl, tt))))))))))) (λ name. refl) ts b)
    ∙ (passed (exactly (k.Word ErrorWord)) (λ _ _. r.params (nested n) >>= (λ a. pure (ErrorItem a))) (option (k.Word TypeWord) (λ _. r.type_item (nested n)) (r.constant (nested n))) ts (apart (finds (exactly (k.Word ErrorWord))) type_starts (refl, (refl, (refl, (refl, (refl, (refl, (refl, (refl, (refl, (refl, (refl, tt))))))))))) (λ name. refl) ts b)
    ∙ passed (exactly (k.Word TypeWord)) (λ _ _. r.type_item (nested n)) (r.constant (nested n)) ts (apart (finds (exactly (k.Word TypeWord))) type_starts (refl, (refl, (refl, (refl, (refl, (refl, (refl, (refl, (refl, (refl, (refl, tt))))))))))) (λ name. refl) ts b)))

defined_procedure : (n : ℕ) (kind : Kind) (p : Place) (ts : List Token) → procedure_word kind ≡ Some tt → r.defined (nested n) (token kind p ∷ ts) ≡ and_then (r.head (nested n) ts) (λ h. pure (ProcedureItem h))
unfolding r.defined
defined_procedure n kind p ts e = chosen procedure_word (λ _ _. r.head (nested n) >>= (λ h. pure (ProcedureItem h))) (option (k.Word SignalWord) (λ _. r.head (nested n) >>= (λ h. pure (SignalItem h))) (option (k.Word ErrorWord) (λ _. r.params (nested n) >>= (λ a. pure (ErrorItem a))) (option (k.Word TypeWord) (λ _. r.type_item (nested n)) (r.constant (nested n))))) tt (token kind p) ts e

type_lead : (n : ℕ) {ts rest : List Token} {x : TypeExp} (d : g.IsType ts x rest) → Free more_type rest → Leads ts x rest (dp.deep_type n d) (λ y. pure y) ((nested n).type None ts)
type_lead n d f = placed (sd.seal_at_type n d) (lift_type n d (λ j. l.type_c j d f))

expr_lead : (n : ℕ) {ts rest : List Token} {x : Expr} (d : g.IsExpr ts x rest) → Free more_expr rest → Leads ts x rest (dp.deep_expr n d) (λ y. pure y) ((nested n).expr Fresh ts)
expr_lead n d f = placed (sd.seal_at_expr n d) (lift_expr n d (λ j. l.expr_c j d f))

defined_c : (n : ℕ) {ts rest : List Token} {x : Defined} {p : Place} (d : m.IsDefined ts x (mark Semicolon p ∷ rest)) → Leads ts x (mark Semicolon p ∷ rest) (m.deep_defined n d) (λ y. pure y) (r.defined (nested n) ts)
unfolding r.defined r.type_item r.constant need choose
defined_c n (m.procedure_item {kind = kind} {p = p} e d) = via (defined_procedure n kind p _ e) (ahead _ (last _ (head_c n d refl refl)))
defined_c n (m.signal_item d) = ahead _ (last _ (head_c n d refl refl))
defined_c n (m.error_item d) = ahead _ (last _ (params_c n d refl))
defined_c n (m.type_item d) = ahead _ (ahead _ (last _ (type_lead n d refl)))
defined_c n (m.constant_item d f) = via (defined_constant n _ (fo.type_begins d)) (comp (onto _ (type_lead n d refl)) (ahead _ (last _ (expr_lead n f refl))))

abbrev Definitions : ℕ → List (Labeled (List Identifier) Defined) → Parser (List (Labeled (List Identifier) Defined))
Definitions n = many a_name (r.definitions_step (nested n))

definitions_eats : (n : ℕ) → Eats (many_turn a_name (r.definitions_step (nested n)))
definitions_eats n = km.definitions_eats n (nested n) (all_of n)

abbrev defined_rest : ℕ → List (Labeled (List Identifier) Defined) → List Identifier → Parser (List (Labeled (List Identifier) Defined))
defined_rest n all ns = need (k.Mark Colon) >> (r.defined (nested n) >>= (λ x. need semicolon >> pure (all ++ labeled ns x ∷ [])))

definition_goes : (n : ℕ) (all : List (Labeled (List Identifier) Defined)) (us : List Token) → Named us → many_turn a_name (r.definitions_step (nested n)) all us ≡ and_then (and_then (nr.names us) (defined_rest n all)) (λ x. pure (Again x))
unfolding many_turn r.definitions_step nr.names nr.named choose
definition_goes n all us i = subst (λ z. many_turn a_name (r.definitions_step (nested n)) all z ≡ and_then (and_then (nr.names z) (defined_rest n all)) (λ x. pure (Again x))) (sym i.is) refl

definitions_c : (n : ℕ) {ts rest : List Token} {x : List (Labeled (List Identifier) Defined)} (d : m.IsDefinitions ts x rest) → Leads ts x rest (m.deep_definitions n d) (Definitions n) (Definitions n [] ts)
unfolding need choose
definitions_c n m.no_definitions = stand _ [] (Definitions n)
definitions_c n (m.definitions {all = all} d a b) = comp (definitions_c n d) (turn_leads (many_turn a_name (r.definitions_step (nested n))) (definitions_eats n) all _ _ _ _ (via (definition_goes n all _ (fo.names_named a))
    (finish _ _ (λ y. pure y) (onto (λ x. pure (Again x)) (comp (onto (defined_rest n all) (names_all a refl)) (ahead _ (comp (onto _ (defined_c n b)) (ahead _ (stand _ _ (λ y. pure y))))))) refl (omega arith))))

definitions_open : {ts rest : List Token} {x : List (Labeled (List Identifier) Defined)} {p : Place} → m.IsDefinitions ts x (w.word EndWord p ∷ rest) → Free (finds (exactly (k.Word OpenWord))) ts
definitions_open d = by (first d)
  where
    first : {ts rest : List Token} {x : List (Labeled (List Identifier) Defined)} → m.IsDefinitions ts x rest → (ts ≡ rest) ⊎ Named ts
    first m.no_definitions = inl refl
    first (m.definitions d a b) = inr (joined_named (first d) (fo.names_named a))

    by : {ts rest : List Token} {p : Place} → (ts ≡ w.word EndWord p ∷ rest) ⊎ Named ts → Free (finds (exactly (k.Word OpenWord))) ts
    by (inl e) = subst (Free (finds (exactly (k.Word OpenWord)))) (sym e) refl
    by (inr i) = subst (Free (finds (exactly (k.Word OpenWord)))) (sym i.is) refl

-- ---- modules

listed_imports : {ts rest : List Token} {x : List Identifier} {p : Place} → m.IsListed ExportsWord ts x (mark Equal p ∷ rest) → Free (finds (exactly (k.Word ImportsWord))) ts × Free (finds comma) ts
listed_imports m.unlisted = (refl, refl)
listed_imports (m.listed d) = (refl, refl)

kind_c : (n : ℕ) {ts rest : List Token} {x : ModuleKind} (d : m.IsKind ts x rest) → Leads ts x rest (m.deep_kind n d) (λ y. pure y) (r.kind (nested n) ts)
unfolding r.kind r.program r.interface r.definitions need choose
kind_c n (m.program a b c d) = let f = listed_imports b in ahead _ (comp (onto _ (listed_c ImportsWord refl a f.0 f.1)) (comp (onto _ (listed_c ExportsWord refl b refl refl)) (ahead _ (ahead _ (comp (onto _ (opened_c c (inner_opens d))) (comp (onto _ (inner_c n d)) (ahead _ (stand _ _ (λ y. pure y)))))))))
kind_c n (m.interface {rest = rest} {all = all} {s = s} a d) = ahead _ (ahead _ (ahead _ (comp (onto _ (opened_c a (definitions_open d))) (comp (onto _ (finish all (w.word EndWord s ∷ rest) (λ y. pure y) (definitions_c n d) (many_end a_name (r.definitions_step (nested n)) (definitions_eats n) all (w.word EndWord s ∷ rest) refl) (omega arith))) (ahead _ (stand _ _ (λ y. pure y)))))))

pub module_c : (n : ℕ) {ts rest : List Token} {x : Module} (d : m.IsModule ts x rest) → Leads ts x rest (m.deep_module n d) (λ y. pure y) (r.module_text (nested n) ts)
unfolding r.module_text nr.named need choose
module_c n (m.a_module d f) = comp (onto _ (directory_c d refl)) (ahead _ (ahead _ (comp (onto _ (kind_c n f)) (ahead _ (stand _ _ (λ y. pure y))))))
