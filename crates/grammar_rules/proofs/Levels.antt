-- Where nothing more may nest, and all levels: the parsers of each keep to the grammar.
use Rattle.std.proofs.Common.{◌≡◌, ℕ, zero, suc, Bool, true, false, ◌||◌, List, [], ◌∷◌, ◌++◌, Some, None, ◌⊎◌, inl, inr, refl}
use Rattle.mesa_base.specs.declared.place.Place.{Place}
use Rattle.mesa_lexer.specs.declared.token.Token.{Token}
use Rattle.mesa_lexer.specs.declared.token.Kind.{Kind}
use Rattle.mesa_lexer.specs.declared.token.Kind.TheVariants as k
use Rattle.mesa_lexer.specs.declared.word.Word.{Word}
use Rattle.mesa_lexer.specs.declared.mark.Mark.{Mark}
use Rattle.mesa_lexer.specs.declared.word.Word.TheVariants.{DoWord, EndWord, EndcaseWord, EndloopWord, FromWord, InWord, IntegerWord, NullWord, OfWord, ThenWord, ToWord}
use Rattle.mesa_lexer.specs.declared.mark.Mark.TheVariants.{Arrow, DotDot, LeftBracket, RightBracket, RightParenthesis, RightBrace}
use Rattle.token_cursor.specs.Parsing.{token, word, mark, found, finds, a_name, among}
use Rattle.token_cursor.proofs.Branches.{somewhere, Deep, deep_keeps, Every, or_true, among_every, named_every}
use Rattle.mesa_base.specs.declared.identifier.Identifier.{Identifier}
use Rattle.syntax_trees.specs.declared.syntax.Entries.TheVariants.{Nothing}
use Rattle.syntax_trees.specs.declared.syntax.TypeBase.TheVariants.{Unsaid}
use Rattle.syntax_trees.specs.declared.syntax.Sign.TheVariants.{Positive, Negative}
use Rattle.syntax_trees.specs.declared.syntax.TypeExp.TheVariants as t
use Rattle.syntax_trees.specs.declared.syntax.FieldList.TheVariants.{Unnamed}
use Rattle.syntax_trees.specs.declared.syntax.Interval.{Interval}
use Rattle.syntax_trees.specs.declared.syntax.Control.{Control}
use Rattle.syntax_trees.specs.declared.syntax.Expr.{Expr}
use Rattle.syntax_trees.specs.declared.syntax.Expr.TheVariants as e
use Rattle.syntax_trees.specs.declared.syntax.Raise.TheVariants.{SignalRaise, UnnamedError}
use Rattle.syntax_trees.specs.declared.syntax.Statement.TheVariants as s
use Rattle.syntax_trees.specs.declared.syntax.Count.TheVariants.{For, Through}
use Rattle.syntax_trees.specs.declared.syntax.Condition.TheVariants.{While, Until}
use Rattle.grammar_rules.specs.WordsAndMarks.{spelled, opening}
use Rattle.grammar_rules.specs.Grammar as g
use Rattle.grammar_rules.specs.Grammar.{placed, qualified}
use Rattle.grammar_rules.specs.ReadNested.{a_number, a_char, a_text, type_starts, begins_type, expr_starts, begins_expr, stmt_starts, begins_stmt, identifier}
use Rattle.grammar_rules.specs.ReadStatements.{nested}
use Rattle.grammar_rules.proofs.Readings.{cut, Inner, Stmt_at, Expr_at, Type_at}
use Rattle.grammar_rules.proofs.KeepExpressions as ke
use Rattle.grammar_rules.proofs.KeepTypes as kt
use Rattle.grammar_rules.proofs.KeepStatements as ks

-- ---- the shortest examples

abbrev pub an_x : Identifier
an_x = identifier [] somewhere

abbrev pub at_word : Word → Token
at_word w = word w somewhere

abbrev pub at_mark : Mark → Token
at_mark m = mark m somewhere

abbrev name_expr : Identifier → Expr
name_expr i = e.Reference (g.left i [])

of_primary : {ts rest : List Token} {x : Expr} → g.IsPrimary ts x rest → g.IsExpr ts x rest
of_primary d = g.expr (g.disjunct (g.conj (g.conjunct (g.rel (g.alone (g.sum (g.summand (g.product (g.factor (g.primary d))))))))))

pub name_is : (i : Identifier) (ws : List Token) → g.IsExpr (spelled i ∷ ws) (name_expr i) ws
name_is i ws = of_primary (g.reference g.named)

abbrev shortest : Bool → Place → Interval
shortest a p = g.interval p a (name_expr an_x) (name_expr an_x) false

bounds_of : (kind : Kind) (a : Bool) (p : Place) (ws : List Token) → opening kind ≡ Some a → g.IsInterval (token kind p ∷ spelled an_x ∷ at_mark DotDot ∷ spelled an_x ∷ at_mark RightBracket ∷ ws) (shortest a p) ws
bounds_of kind a p ws h = g.bounds h (name_is an_x _) (name_is an_x _) refl

abbrev no_control : Control
no_control = g.control None None

-- ---- statements

deep_stmts : Every (Deep cut (Stmt_at zero)) stmt_starts
deep_stmts = (
  record { end = []; made = λ p. s.Null p; reads = λ p ws f. (g.null, refl) },
  (
    record { end = at_word EndWord ∷ []; made = λ p. s.Nested (g.block p None [] [] []); reads = λ p ws f. (g.nested (g.begin_end g.no_enable g.no_locals g.no_stmts g.no_exits), refl) },
    (
      record { end = at_mark RightBrace ∷ []; made = λ p. s.Nested (g.block p None [] [] []); reads = λ p ws f. (g.nested (g.braces g.no_enable g.no_locals g.no_stmts g.no_exits), refl) },
      (
        record { end = at_mark RightBracket ∷ at_mark Arrow ∷ spelled an_x ∷ []; made = λ p. s.Extract p Nothing (name_expr an_x); reads = λ p ws f. (g.extract g.no_targets (name_is an_x ws), refl) },
        (
          record { end = spelled an_x ∷ []; made = λ p. s.RaiseStatement (SignalRaise p (qualified an_x None) None); reads = λ p ws f. (g.raise (g.signal g.bare g.no_brackets), refl) },
          (
            record { end = []; made = λ p. s.RaiseStatement (UnnamedError p); reads = λ p ws f. (g.raise g.unnamed_error, refl) },
            (
              record { end = spelled an_x ∷ at_word ThenWord ∷ at_word NullWord ∷ []; made = λ p. s.If p (name_expr an_x) (s.Null somewhere) None; reads = λ p ws f. (g.if_then (name_is an_x _) g.null (ks.no_else_free ws f), refl) },
              (
                record { end = spelled an_x ∷ at_word FromWord ∷ at_word EndcaseWord ∷ []; made = λ p. s.Select p (name_expr an_x) [] None; reads = λ p ws f. (g.select (name_is an_x _) g.no_cases g.no_otherwise, refl) },
                (
                  record {
                    end = spelled an_x ∷ at_word InWord ∷ at_mark LeftBracket ∷ spelled an_x ∷ at_mark DotDot ∷ spelled an_x ∷ at_mark RightBracket ∷ at_word DoWord ∷ at_word EndloopWord ∷ [];
                    made = λ p. s.Loop (g.control (Some (For p an_x false (shortest false somewhere))) None) somewhere None [] [];
                    reads = λ p ws f. (g.loop (g.controlled (g.for g.rising (bounds_of (k.Mark LeftBracket) false somewhere _ refl)) g.no_condition) g.no_enable g.no_stmts g.no_repeats, refl);
                  },
                  (
                    record {
                      end = at_mark LeftBracket ∷ spelled an_x ∷ at_mark DotDot ∷ spelled an_x ∷ at_mark RightBracket ∷ at_word DoWord ∷ at_word EndloopWord ∷ [];
                      made = λ p. s.Loop (g.control (Some (Through p (shortest false somewhere))) None) somewhere None [] [];
                      reads = λ p ws f. (g.loop (g.controlled (g.through (bounds_of (k.Mark LeftBracket) false somewhere _ refl)) g.no_condition) g.no_enable g.no_stmts g.no_repeats, refl);
                    },
                    (
                      record { end = spelled an_x ∷ at_word DoWord ∷ at_word EndloopWord ∷ []; made = λ p. s.Loop (g.control None (Some (While p (name_expr an_x)))) somewhere None [] []; reads = λ p ws f. (g.loop (g.controlled g.no_count (g.while (name_is an_x _))) g.no_enable g.no_stmts g.no_repeats, refl) },
                      (
                        record { end = spelled an_x ∷ at_word DoWord ∷ at_word EndloopWord ∷ []; made = λ p. s.Loop (g.control None (Some (Until p (name_expr an_x)))) somewhere None [] []; reads = λ p ws f. (g.loop (g.controlled g.no_count (g.until (name_is an_x _))) g.no_enable g.no_stmts g.no_repeats, refl) },
                        (
                          record { end = at_word EndloopWord ∷ []; made = λ p. s.Loop no_control p None [] []; reads = λ p ws f. (g.loop (g.controlled g.no_count g.no_condition) g.no_enable g.no_stmts g.no_repeats, refl) },
                          (
                            record { end = []; made = λ p. s.ExitLoop p; reads = λ p ws f. (g.exit_loop, refl) },
                            (
                              record { end = []; made = λ p. s.NextTurn p; reads = λ p ws f. (g.next_turn, refl) },
                              (
                                record { end = spelled an_x ∷ []; made = λ p. s.Goto p an_x; reads = λ p ws f. (g.goto, refl) },
                                (
                                  record { end = at_word ToWord ∷ spelled an_x ∷ []; made = λ p. s.Goto p an_x; reads = λ p ws f. (g.go_to, refl) },
                                  (
                                    record { end = []; made = λ p. s.Return p None; reads = λ p ws f. (g.return g.no_list, refl) },
                                    (
                                      record { end = []; made = λ p. s.Resume p None; reads = λ p ws f. (g.resume g.no_list, refl) },
                                      (
                                        record { end = []; made = λ p. s.Reject p; reads = λ p ws f. (g.reject, refl) },
                                        (
                                          record { end = []; made = λ p. s.Retry p; reads = λ p ws f. (g.retry, refl) },
                                          (
                                            record { end = []; made = λ p. s.Continue p; reads = λ p ws f. (g.continue, refl) },
                                            tt,
                                          ),
                                        ),
                                      ),
                                    ),
                                  ),
                                ),
                              ),
                            ),
                          ),
                        ),
                      ),
                    ),
                  ),
                ),
              ),
            ),
          ),
        ),
      ),
    ),
  ),
)

deep_stmt : (kind : Kind) → begins_stmt kind ≡ true → Deep cut (Stmt_at zero) kind
deep_stmt kind h = go (or_true (finds a_name kind) (among stmt_starts kind) h)
  where
    go : (found (a_name kind) ≡ true) ⊎ (among stmt_starts kind ≡ true) → Deep cut (Stmt_at zero) kind
    go (inl e) = named_every (Deep cut (Stmt_at zero)) (λ n. record { end = []; made = λ p. s.Call (g.left (identifier n p) []); reads = λ p ws f. (g.call g.named, refl) }) kind e
    go (inr e) = among_every (Deep cut (Stmt_at zero)) stmt_starts deep_stmts kind e

-- ---- expressions

-- an expression that is one primary
one : (kind : Kind) (end : List Token) (made : Place → Expr) → ((p : Place) (ws : List Token) → g.IsPrimary (token kind p ∷ end ++ ws) (made p) ws) → Deep cut (Expr_at zero) kind
one kind end made row = record { end = end; made = made; reads = λ p ws f. (of_primary (row p ws), refl) }

of_factor : {ts rest : List Token} {x : Expr} → g.IsFactor ts x rest → g.IsExpr ts x rest
of_factor d = g.expr (g.disjunct (g.conj (g.conjunct (g.rel (g.alone (g.sum (g.summand (g.product (g.factor d)))))))))

x_rel : (ws : List Token) → g.IsRel (spelled an_x ∷ ws) (name_expr an_x) ws
x_rel ws = g.alone (g.sum (g.summand (g.product (g.factor (g.primary (g.reference g.named))))))

deep_exprs : Every (Deep cut (Expr_at zero)) expr_starts
deep_exprs = (
  one _ [] (λ p. e.Truth p true) (λ p ws. g.true_word),
  (
    one _ [] (λ p. e.Truth p false) (λ p ws. g.false_word),
    (
      one _ (spelled an_x ∷ at_mark RightParenthesis ∷ []) (λ p. e.Parenthesis p (name_expr an_x)) (λ p ws. g.parens (name_is an_x _)),
      (
        one _ (at_mark RightBracket ∷ []) (λ p. e.Constructor (placed p Nothing)) (λ p ws. g.constructor (g.list g.no_args)),
        (
          one _ (spelled an_x ∷ []) (λ p. e.Raised (SignalRaise p (qualified an_x None) None)) (λ p ws. g.raised (g.signal g.bare g.no_brackets)),
          (
            one _ [] (λ p. e.Raised (UnnamedError p)) (λ p ws. g.raised g.unnamed_error),
            (
              record { end = spelled an_x ∷ []; made = λ p. e.Signed Positive p (name_expr an_x); reads = λ p ws f. (of_factor (g.signed refl (g.reference g.named)), refl) },
              (
                record { end = spelled an_x ∷ []; made = λ p. e.Signed Negative p (name_expr an_x); reads = λ p ws f. (of_factor (g.signed refl (g.reference g.named)), refl) },
                (
                  record { end = spelled an_x ∷ []; made = λ p. e.Not p (name_expr an_x); reads = λ p ws f. (g.expr (g.disjunct (g.conj (g.conjunct (g.not refl (x_rel ws))))), refl) },
                  (
                    record { end = spelled an_x ∷ []; made = λ p. e.Not p (name_expr an_x); reads = λ p ws f. (g.expr (g.disjunct (g.conj (g.conjunct (g.not refl (x_rel ws))))), refl) },
                    tt,
                  ),
                ),
              ),
            ),
          ),
        ),
      ),
    ),
  ),
)

number_deep : (kind : Kind) → found (a_number kind) ≡ true → Deep cut (Expr_at zero) kind
number_deep (k.Number n) h = one _ [] (λ p. e.NumberLiteral p n) (λ p ws. g.number)
number_deep _ h = absurd (cc)

char_deep : (kind : Kind) → found (a_char kind) ≡ true → Deep cut (Expr_at zero) kind
char_deep (k.Char n) h = one _ [] (λ p. e.CharacterLiteral p n) (λ p ws. g.char)
char_deep _ h = absurd (cc)

text_deep : (kind : Kind) → found (a_text kind) ≡ true → Deep cut (Expr_at zero) kind
text_deep (k.Text n) h = one _ [] (λ p. e.StringLiteral p n) (λ p ws. g.text)
text_deep _ h = absurd (cc)

deep_expr : (kind : Kind) → begins_expr kind ≡ true → Deep cut (Expr_at zero) kind
deep_expr kind h = go1 (or_true (finds a_name kind) (finds a_number kind || (finds a_char kind || (finds a_text kind || among expr_starts kind))) h)
  where
    go4 : (found (a_text kind) ≡ true) ⊎ (among expr_starts kind ≡ true) → Deep cut (Expr_at zero) kind
    go4 (inl e) = text_deep kind e
    go4 (inr e) = among_every (Deep cut (Expr_at zero)) expr_starts deep_exprs kind e

    go3 : (found (a_char kind) ≡ true) ⊎ ((finds a_text kind || among expr_starts kind) ≡ true) → Deep cut (Expr_at zero) kind
    go3 (inl e) = char_deep kind e
    go3 (inr e) = go4 (or_true (finds a_text kind) (among expr_starts kind) e)

    go2 : (found (a_number kind) ≡ true) ⊎ ((finds a_char kind || (finds a_text kind || among expr_starts kind)) ≡ true) → Deep cut (Expr_at zero) kind
    go2 (inl e) = number_deep kind e
    go2 (inr e) = go3 (or_true (finds a_char kind) (finds a_text kind || among expr_starts kind) e)

    go1 : (found (a_name kind) ≡ true) ⊎ ((finds a_number kind || (finds a_char kind || (finds a_text kind || among expr_starts kind))) ≡ true) → Deep cut (Expr_at zero) kind
    go1 (inl e) = named_every (Deep cut (Expr_at zero)) (λ n. record { end = []; made = λ p. name_expr (identifier n p); reads = λ p ws f. (name_is (identifier n p) ws, refl) }) kind e
    go1 (inr e) = go2 (or_true (finds a_number kind) (finds a_char kind || (finds a_text kind || among expr_starts kind)) e)

-- ---- types

interval_deep : (kind : Kind) (a : Bool) → opening kind ≡ Some a → Deep cut (Type_at zero) kind
interval_deep kind a h = record { end = spelled an_x ∷ at_mark DotDot ∷ spelled an_x ∷ at_mark RightBracket ∷ []; made = λ p. t.Subrange Unsaid (shortest a p); reads = λ p ws f. (g.subrange g.unsaid (bounds_of kind a p ws h), refl) }

deep_types : Every (Deep cut (Type_at zero)) type_starts
deep_types = (
  record { end = []; made = λ p. t.Integer p; reads = λ p ws f. (g.integer, refl) },
  (
    record { end = []; made = λ p. t.Cardinal p; reads = λ p ws f. (g.cardinal, refl) },
    (
      record { end = at_word IntegerWord ∷ []; made = λ p. t.LongInteger p; reads = λ p ws f. (g.long_integer, refl) },
      (
        record { end = []; made = λ p. t.Character p; reads = λ p ws f. (g.character, refl) },
        (
          record { end = []; made = λ p. t.Boolean p; reads = λ p ws f. (g.boolean, refl) },
          (
            record { end = []; made = λ p. t.String p; reads = λ p ws f. (g.string, refl) },
            (
              record { end = spelled an_x ∷ at_mark RightBrace ∷ []; made = λ p. t.Enumeration p (an_x ∷ []); reads = λ p ws f. (g.enumeration g.name, refl) },
              (
                record { end = at_word IntegerWord ∷ at_word OfWord ∷ at_word IntegerWord ∷ []; made = λ p. t.Array p (t.Integer somewhere) (t.Integer somewhere); reads = λ p ws f. (g.array g.integer g.integer, refl) },
                (
                  record { end = at_mark LeftBracket ∷ at_word IntegerWord ∷ at_mark RightBracket ∷ []; made = λ p. t.Record p (Unnamed (t.Integer somewhere ∷ [])); reads = λ p ws f. (g.a_record (g.unnamed (g.a_type g.integer)), refl) },
                  (
                    interval_deep _ false refl,
                    (
                      interval_deep _ true refl,
                      tt,
                    ),
                  ),
                ),
              ),
            ),
          ),
        ),
      ),
    ),
  ),
)

deep_type : (kind : Kind) → begins_type kind ≡ true → Deep cut (Type_at zero) kind
deep_type kind h = go (or_true (finds a_name kind) (among type_starts kind) h)
  where
    go : (found (a_name kind) ≡ true) ⊎ (among type_starts kind ≡ true) → Deep cut (Type_at zero) kind
    go (inl e) = named_every (Deep cut (Type_at zero)) (λ n. record { end = []; made = λ p. t.Called (qualified (identifier n p) None); reads = λ p ws f. (g.called g.bare, refl) }) kind e
    go (inr e) = among_every (Deep cut (Type_at zero)) type_starts deep_types kind e

-- ---- all levels

pub all_of : (n : ℕ) → Inner n (nested n)
unfolding nested
all_of zero = record {
  a_stmt = deep_keeps begins_stmt (k.Word NullWord) refl refl deep_stmt;
  stmt_from = λ h i. absurd (cc);
  an_expr = deep_keeps begins_expr (k.Name []) refl refl deep_expr;
  expr_from = λ h i. absurd (cc);
  expr_not = λ h p kind e. absurd (cc);
  a_type = deep_keeps begins_type (k.Word IntegerWord) refl refl deep_type;
  type_from = λ h i. absurd (cc);
  top = λ h. absurd (cc);
}
all_of (suc n) = let inner : Inner n (nested n) = all_of n in record {
  a_stmt = ks.statement n (nested n) inner;
  stmt_from = λ h i. ks.statement_from n (nested n) inner i;
  an_expr = ke.expr n (nested n) inner;
  expr_from = λ h i. ke.expr_from n (nested n) inner i;
  expr_not = λ h p kind e. ke.expr_not n (nested n) inner p kind e;
  a_type = kt.type_exp n (nested n) inner;
  type_from = λ h i. kt.type_begun n (nested n) inner i;
  top = λ h. (n, refl);
}
