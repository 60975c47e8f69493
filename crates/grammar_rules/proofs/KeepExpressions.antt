-- The parsers of expressions keep to the grammar.
use Rattle.std.proofs.Common.{◌≡◌, ℕ, suc, Bool, true, false, List, [], ◌∷◌, ◌++◌, Option, Some, None, refl, sym, ap, subst}
use Rattle.mesa_base.specs.declared.place.Place.{Place}
use Rattle.mesa_lexer.specs.declared.token.Token.{Token}
use Rattle.mesa_lexer.specs.declared.token.Kind.{Kind}
use Rattle.mesa_lexer.specs.declared.token.Kind.TheVariants as k
use Rattle.mesa_lexer.specs.declared.word.Word.TheVariants.{ErrorWord, FalseWord, InWord, SignalWord, TrueWord}
use Rattle.mesa_lexer.specs.declared.mark.Mark.TheVariants.{Semicolon, Colon, Comma, Dot, DotDot, LeftBracket, RightBracket, LeftParenthesis, RightParenthesis, Bang, DoubleArrow}
use Rattle.token_cursor.specs.Parsing.{token, mark, Parser, ◌>>=◌, ◌>>◌, pure, refuse, a_name, choose, option, many_turn, ended_turn}
use Rattle.token_cursor.specs.Parsing as w
use Rattle.token_cursor.proofs.Exact.{Rel, Keeps, Took, Then, Pre, bind, done, imply, Plainly, bind_plain, alone, single, both, either}
use Rattle.token_cursor.proofs.Branches.{somewhere, choose_or, choose_must, option_or, option_must, word, when_keeps, of_kind}
use Rattle.token_cursor.proofs.Loops.{Eats, many_eats, many_keeps, ended_eats, ended_keeps, listed, series}
use Rattle.mesa_base.specs.declared.identifier.Identifier.{Identifier}
use Rattle.syntax_trees.specs.declared.syntax.Keyed.{Keyed}
use Rattle.syntax_trees.specs.declared.syntax.Entries.TheVariants.{Nothing, InOrder, ByKey}
use Rattle.syntax_trees.specs.declared.syntax.Operator.{Operator}
use Rattle.syntax_trees.specs.declared.syntax.Expr.{Expr}
use Rattle.syntax_trees.specs.declared.syntax.Expr.TheVariants as e
use Rattle.syntax_trees.specs.declared.syntax.Operation.{Operation}
use Rattle.syntax_trees.specs.declared.syntax.Suffix.{Suffix}
use Rattle.syntax_trees.specs.declared.syntax.Suffix.TheVariants.{Field, Applied}
use Rattle.syntax_trees.specs.declared.syntax.Raise.TheVariants.{SignalRaise, ErrorRaise, UnnamedError}
use Rattle.syntax_trees.specs.declared.syntax.Arm.{Arm}
use Rattle.grammar_rules.specs.WordsAndMarks.{spelled, disjoining, conjoining, adding, multiplying, relating, negating, opening, closing}
use Rattle.grammar_rules.specs.Grammar as g
use Rattle.grammar_rules.specs.Grammar.{run, placed, keyed}
use Rattle.grammar_rules.specs.ReadNested.{Begun, Fresh, AtName, AtNot, Nested, a_number, a_char, a_text, begins_expr, begins_arm, identifier, comma}
use Rattle.grammar_rules.specs.ReadExpressions as r
use Rattle.grammar_rules.specs.ReadExpressions.{suffixing}
use Rattle.grammar_rules.proofs.Readings.{cut, Inner, Interval_at, Expr_at, Ors_at, Conj_at, Ands_at, Neg_at, Rel_at, Sum_at, Sums_at, Product_at, Products_at, Factor_at, Primary_at, List_at, ListOption_at, Left_at, Brackets_at, BracketsOption_at, Args_at, Exprs_at, Keys_at, Catch_at, ArmList_at, Arms_at, Arm_at, Raise_at}
use Rattle.grammar_rules.proofs.Names as nm

-- ---- kinds

number_is : (kind : Kind) (m : ℕ) → a_number kind ≡ Some m → kind ≡ k.Number m
number_is (k.Number j) m h = let same : j ≡ m = cc in ap k.Number same
number_is _ m h = absurd (cc)

char_is : (kind : Kind) (m : ℕ) → a_char kind ≡ Some m → kind ≡ k.Char m
char_is (k.Char j) m h = let same : j ≡ m = cc in ap k.Char same
char_is _ m h = absurd (cc)

text_is : (kind : Kind) (m : List ℕ) → a_text kind ≡ Some m → kind ≡ k.Text m
text_is (k.Text j) m h = let same : j ≡ m = cc in ap k.Text same
text_is _ m h = absurd (cc)

dot_is : (kind : Kind) → suffixing kind ≡ Some false → kind ≡ k.Mark Dot
dot_is (k.Mark Dot) h = refl
dot_is _ h = absurd (cc)

bracket_is : (kind : Kind) → suffixing kind ≡ Some true → kind ≡ k.Mark LeftBracket
bracket_is (k.Mark LeftBracket) h = refl
bracket_is _ h = absurd (cc)

-- a token that closes an interval
abbrev pub Closes : List Token → Bool → List Token → Type 0
Closes ts b rest = (kind : Kind) × (p : Place) × (closing kind ≡ Some b) × (ts ≡ token kind p ∷ rest)

pub closed : Keeps cut cut (Plainly Closes) r.closed
unfolding r.closed
closed = choose_must {l = cut} (k.Mark RightBracket) false refl refl (λ b p kind h. done b (λ ws. ((kind, p, h, refl), refl)))

module _ (n : ℕ) (q : Nested) (inner : Inner n q) where
  -- ---- intervals

  bounds : (a : Bool) (p : Place) (kind : Kind) → opening kind ≡ Some a → Keeps cut cut (Took (token kind p) (Interval_at n)) (r.bounds q a p)
  unfolding r.bounds
  bounds a p kind h = bind inner.an_expr (λ x. word (k.Mark DotDot) refl refl (λ s. bind inner.an_expr (λ y. bind_plain closed (λ b. done (g.interval p a x y b)
      (λ ws us c us1 o1 d1 us0 o0 d0. let d2 = subst (λ z. Expr_at n us1 y z o1) c.3 d1 in (g.bounds h d0.0 d2.0 c.2, both d0.1 d2.1))))))

  pub interval : Keeps cut cut (Interval_at n) (r.interval q)
  unfolding r.interval
  interval = choose_must {l = cut} (k.Mark LeftBracket) false refl refl bounds

  -- ---- arms

  pub arm : Keeps cut cut (Arm_at n) (r.arm q)
  unfolding r.arm
  arm = bind_plain nm.labels (λ l. word (k.Mark DoubleArrow) refl refl (λ p. bind inner.a_stmt (λ x. done (g.arm l x) (λ ws us o d us1 d1. (g.an_arm_of d1 d.0, alone d.1)))))

  pub arms_step : (all : List Arm) (p : Place) → Keeps cut cut (Took (mark Semicolon p) (Then (Arms_at n) (Arms_at n) all)) (r.arms_step q all)
  arms_step all p = bind arm (λ x. done (all ++ x ∷ []) (λ ws us o d us1 o1 d1. (g.arms d1.0 d.0, both d1.1 d.1)))

  pub arms_eats : Eats (ended_turn (k.Mark Semicolon) begins_arm (r.arms_step q))
  arms_eats = ended_eats (λ all. Took (mark Semicolon somewhere) (Then (Arms_at n) (Arms_at n) all)) (k.Mark Semicolon) begins_arm (r.arms_step q) (λ all. arms_step all somewhere)

  pub arm_list : Keeps cut cut (ArmList_at n) (r.arm_list q)
  unfolding r.arm_list
  arm_list = listed {I = Arm_at n} (Arms_at n) (ArmList_at n) (λ z. z) (λ x. x ∷ []) (λ us rest x o d. (g.an_arm d.0, single d.1)) arm
      (ended_keeps (Arms_at n) (ArmList_at n) (k.Mark Semicolon) begins_arm (r.arms_step q) arms_step (λ all ws us o d. (g.open_arms d.0, alone d.1)) (λ all p ws us o d. (g.closed_arms d.0, alone d.1)))

  catch : Keeps cut cut (Catch_at n) (r.catch q)
  unfolding r.catch
  catch = option_or (k.Mark Bang) (λ p. bind arm_list (λ all. done (Some (placed p all)) (λ ws us o d. (g.catch d.0, alone d.1)))) (done None (λ ws. (g.no_catch, refl)))

  -- ---- bracket lists

  pub exprs_step : (all : List Expr) (o : Unit {0}) (p : Place) (kind : Kind) → comma kind ≡ Some o → Keeps cut cut (Took (token kind p) (Then (Exprs_at n) (Exprs_at n) all)) (r.exprs_step q all o p)
  exprs_step all = of_kind cut cut (Then (Exprs_at n) (Exprs_at n) all) (r.exprs_step q all tt) (k.Mark Comma) (λ p. bind inner.an_expr (λ x. done (all ++ x ∷ []) (λ ws us o d us1 o1 d1. (g.exprs d1.0 d.0, both d1.1 d.1))))

  pub exprs_eats : Eats (many_turn comma (r.exprs_step q))
  exprs_eats = many_eats (λ all t. Took t (Then (Exprs_at n) (Exprs_at n) all)) comma (r.exprs_step q) exprs_step

  in_order : (pre : List Token → List Token) (b : Begun) → Keeps cut cut (Pre pre (Expr_at n)) (q.expr b) → Keeps cut cut (Pre pre (Args_at n)) (r.in_order q b)
  unfolding r.in_order
  in_order pre b item = series {I = Pre pre (Expr_at n)} (λ x. Exprs_at n) (Args_at n) pre (λ x. x ∷ []) (λ x all. InOrder all) (λ us rest x o d. (g.an_expr d.0, single d.1)) (λ us rest x all o d. (g.in_order d.0, single d.1)) item
      (λ x. many_keeps (Exprs_at n) comma (r.exprs_step q) exprs_step (x ∷ []))

  pub keys_step : (all : List (Keyed Expr)) (o : Unit {0}) (p : Place) (kind : Kind) → comma kind ≡ Some o → Keeps cut cut (Took (token kind p) (Then (Keys_at n) (Keys_at n) all)) (r.keys_step q all o p)
  keys_step all = of_kind cut cut (Then (Keys_at n) (Keys_at n) all) (r.keys_step q all tt) (k.Mark Comma) (λ p. nm.by_name (λ i. word (k.Mark Colon) refl refl (λ s. bind inner.an_expr (λ x. done (all ++ keyed i x ∷ []) (λ ws us o d us1 o1 d1. (g.keys d1.0 d.0, both d1.1 d.1))))))

  pub keys_eats : Eats (many_turn comma (r.keys_step q))
  keys_eats = many_eats (λ all t. Took t (Then (Keys_at n) (Keys_at n) all)) comma (r.keys_step q) keys_step

  by_key : (i : Identifier) (p : Place) → Keeps cut cut (Took (mark Colon p) (Took (spelled i) (Args_at n))) (r.by_key q i)
  unfolding r.by_key
  by_key i p = series {I = Expr_at n} (λ x. Keys_at n) (Args_at n) (λ z. spelled i ∷ mark Colon p ∷ z) (λ x. keyed i x ∷ []) (λ x all. ByKey all) (λ us rest x o d. (g.key d.0, single d.1)) (λ us rest x all o d. (g.by_key d.0, single d.1)) inner.an_expr
      (λ x. many_keeps (Keys_at n) comma (r.keys_step q) keys_step (keyed i x ∷ []))

  after_name : q.can ≡ true → (i : Identifier) → Keeps cut cut (Took (spelled i) (Args_at n)) (r.after_name q i)
  unfolding r.after_name
  after_name may i = option_or (k.Mark Colon) (λ p. by_key i p) (in_order (λ z. spelled i ∷ z) (AtName i) (inner.expr_from may i))

  unkeyed : Keeps cut cut (Args_at n) (r.unkeyed q)
  unfolding r.unkeyed
  unkeyed = when_keeps begins_expr (in_order (λ z. z) Fresh inner.an_expr) (done Nothing (λ ws. (g.no_args, refl)))

  args : Keeps cut cut (Args_at n) (r.args q)
  unfolding r.args
  args = either q.can (λ may. nm.name_or (after_name may) unkeyed) unkeyed

  pub list : (p : Place) → Keeps cut cut (Took (mark LeftBracket p) (List_at n)) (r.list q p)
  unfolding r.list
  list p = bind args (λ x. word (k.Mark RightBracket) refl refl (λ s. done (placed p x) (λ ws us o d. (g.list d.0, alone d.1))))

  pub list_option : Keeps cut cut (ListOption_at n) (r.list_option q)
  unfolding r.list_option
  list_option = option_or (k.Mark LeftBracket) (λ p. bind (list p) (λ x. done (Some x) (λ ws us o d. (g.a_list d.0, alone d.1)))) (done None (λ ws. (g.no_list, refl)))

  brackets : (p : Place) → Keeps cut cut (Took (mark LeftBracket p) (Brackets_at n)) (r.brackets q p)
  unfolding r.brackets
  brackets p = bind args (λ x. bind catch (λ c. word (k.Mark RightBracket) refl refl (λ s. done (g.brackets p x c) (λ ws us o d us1 o1 d1. (g.bracketed d1.0 d.0, both d1.1 d.1)))))

  brackets_option : Keeps cut cut (BracketsOption_at n) (r.brackets_option q)
  unfolding r.brackets_option
  brackets_option = option_or (k.Mark LeftBracket) (λ p. bind (brackets p) (λ x. done (Some x) (λ ws us o d. (g.some_brackets d.0, alone d.1)))) (done None (λ ws. (g.no_brackets, refl)))

  -- ---- names with what follows them

  suffix : (i : Identifier) (ss : List Suffix) (b : Bool) (p : Place) (kind : Kind) → suffixing kind ≡ Some b → Keeps cut cut (Took (token kind p) (Then (Left_at n i) (Left_at n i) ss)) (r.suffixes_step q ss b p)
  unfolding r.suffixes_step
  suffix i ss false p kind h = subst (λ z. Keeps cut cut (Took (token z p) (Then (Left_at n i) (Left_at n i) ss)) (r.suffixes_step q ss false p)) (sym (dot_is kind h))
      (nm.by_name (λ j. done (ss ++ Field j ∷ []) (λ ws us o d. (g.field d.0, alone d.1))))
  suffix i ss true p kind h = subst (λ z. Keeps cut cut (Took (token z p) (Then (Left_at n i) (Left_at n i) ss)) (r.suffixes_step q ss true p)) (sym (bracket_is kind h))
      (bind (brackets p) (λ b. done (ss ++ Applied b ∷ []) (λ ws us o d us1 o1 d1. (g.applied d1.0 d.0, both d1.1 d.1))))

  pub suffixes_eats : Eats (many_turn suffixing (r.suffixes_step q))
  suffixes_eats = let i : Identifier = identifier [] somewhere in many_eats (λ ss t. Took t (Then (Left_at n i) (Left_at n i) ss)) suffixing (r.suffixes_step q) (suffix i)

  pub left : (i : Identifier) → Keeps cut cut (Took (spelled i) (Left_at n i)) (r.suffixes q)
  unfolding r.suffixes
  left i = imply (λ ts ss rest o d. d (spelled i ∷ ts) None (g.named, refl)) (many_keeps (Left_at n i) suffixing (r.suffixes_step q) (suffix i) [])

  signal_raise : (p : Place) → Keeps cut cut (Took (w.word SignalWord p) (Raise_at n)) (r.signal_raise q p)
  unfolding r.signal_raise
  signal_raise p = bind_plain nm.qname (λ x. bind brackets_option (λ b. done (SignalRaise p x b) (λ ws us o d us1 d1. (g.signal d1 d.0, alone d.1))))

  error_raise : (p : Place) (i : Identifier) → Keeps cut cut (Took (spelled i) (Took (w.word ErrorWord p) (Raise_at n))) (r.error_raise q p i)
  unfolding r.error_raise
  error_raise p i = bind_plain {P = λ ts x rest. g.IsQName (spelled i ∷ ts) x rest} (nm.qname_from i) (λ x. bind brackets_option (λ b. done (ErrorRaise p x b) (λ ws us o d us1 d1. (g.error d1 d.0, alone d.1))))

  pub raise : Keeps cut cut (Raise_at n) (r.raise q)
  unfolding r.raise
  raise = option_or (k.Word SignalWord) signal_raise (option_must {l = cut} (k.Word ErrorWord) refl refl (λ p. nm.name_or (error_raise p) (done (UnnamedError p) (λ ws. (g.unnamed_error, refl)))))

  -- ---- expressions

  reference : (i : Identifier) → Keeps cut cut (Took (spelled i) (Primary_at n)) (r.reference q i)
  unfolding r.reference
  reference i = bind (left i) (λ ss. done (e.Reference (g.left i ss)) (λ ws us o d. (g.reference d.0, alone d.1)))

  parens : (p : Place) → Keeps cut cut (Took (mark LeftParenthesis p) (Primary_at n)) (r.parens q p)
  unfolding r.parens
  parens p = bind inner.an_expr (λ x. word (k.Mark RightParenthesis) refl refl (λ s. done (e.Parenthesis p x) (λ ws us o d. (g.parens d.0, alone d.1))))

  literal : (other : Parser Expr) → Keeps cut cut (Primary_at n) other → Keeps cut cut (Primary_at n) (r.literal q other)
  unfolding r.literal
  literal other h =
      choose_or {l = cut} (λ m p kind f. done (e.NumberLiteral p m) (λ ws. subst (λ z. Primary_at n (token z p ∷ ws) (e.NumberLiteral p m) ws None) (sym (number_is kind m f)) (g.number, refl)))
      (choose_or {l = cut} (λ m p kind f. done (e.CharacterLiteral p m) (λ ws. subst (λ z. Primary_at n (token z p ∷ ws) (e.CharacterLiteral p m) ws None) (sym (char_is kind m f)) (g.char, refl)))
      (choose_or {l = cut} (λ m p kind f. done (e.StringLiteral p m) (λ ws. subst (λ z. Primary_at n (token z p ∷ ws) (e.StringLiteral p m) ws None) (sym (text_is kind m f)) (g.text, refl)))
      (option_or {l = cut} (k.Word TrueWord) (λ p. done (e.Truth p true) (λ ws. (g.true_word, refl))) (option_or {l = cut} (k.Word FalseWord) (λ p. done (e.Truth p false) (λ ws. (g.false_word, refl))) h))))

  primary : Keeps cut cut (Primary_at n) (r.primary q None)
  unfolding r.primary
  primary = literal (choose a_name (λ n p. r.reference q (identifier n p)) (option (k.Mark LeftParenthesis) (r.parens q) (option (k.Mark LeftBracket) (λ p. r.list q p >>= (λ x. pure (e.Constructor x))) (r.raise q >>= (λ x. pure (e.Raised x))))))
      (nm.name_or reference (option_or (k.Mark LeftParenthesis) parens (option_or (k.Mark LeftBracket) (λ p. bind (list p) (λ x. done (e.Constructor x) (λ ws us o d. (g.constructor d.0, alone d.1))))
      (bind raise (λ x. done (e.Raised x) (λ ws us o d. (g.raised d.0, alone d.1)))))))

  primary_from : (i : Identifier) → Keeps cut cut (Took (spelled i) (Primary_at n)) (r.primary q (Some i))
  unfolding r.primary
  primary_from i = reference i

  factor : Keeps cut cut (Factor_at n) (r.factor q None)
  unfolding r.factor
  factor = choose_or (λ s p kind h. bind primary (λ x. done (e.Signed s p x) (λ ws us o d. (g.signed h d.0, alone d.1)))) (imply (λ ts x rest o d. (g.primary d.0, single d.1)) primary)

  factor_from : (i : Identifier) → Keeps cut cut (Took (spelled i) (Factor_at n)) (r.factor q (Some i))
  unfolding r.factor
  factor_from i = imply (λ ts x rest o d. (g.primary d.0, single d.1)) (primary_from i)

  pub products_step : (x : Expr) (ss : List Operation) (o : Operator) (p : Place) (kind : Kind) → multiplying kind ≡ Some o → Keeps cut cut (Took (token kind p) (Then (Products_at n x) (Products_at n x) ss)) (r.products_step q ss o p)
  products_step x ss o p kind h = bind factor (λ y. done (ss ++ g.step o p y ∷ []) (λ ws us o1 d us1 o2 d1. (g.products d1.0 h d.0, both d1.1 d.1)))

  product : (pre : List Token → List Token) (b : Option Identifier) → Keeps cut cut (Pre pre (Factor_at n)) (r.factor q b) → Keeps cut cut (Pre pre (Product_at n)) (r.product q b)
  unfolding r.product
  product pre b item = series {I = Pre pre (Factor_at n)} (λ x. Products_at n x) (Product_at n) pre (λ x. []) run (λ us rest x o d. (g.factor d.0, single d.1)) (λ us rest x ss o d. (g.product d.0, single d.1)) item
      (λ x. many_keeps (Products_at n x) multiplying (r.products_step q) (products_step x) [])

  pub sums_step : (x : Expr) (ss : List Operation) (o : Operator) (p : Place) (kind : Kind) → adding kind ≡ Some o → Keeps cut cut (Took (token kind p) (Then (Sums_at n x) (Sums_at n x) ss)) (r.sums_step q ss o p)
  sums_step x ss o p kind h = bind (product (λ z. z) None factor) (λ y. done (ss ++ g.step o p y ∷ []) (λ ws us o1 d us1 o2 d1. (g.sums d1.0 h d.0, both d1.1 d.1)))

  sum_of : (pre : List Token → List Token) (b : Option Identifier) → Keeps cut cut (Pre pre (Factor_at n)) (r.factor q b) → Keeps cut cut (Pre pre (Sum_at n)) (r.sum q b)
  unfolding r.sum
  sum_of pre b item = series {I = Pre pre (Product_at n)} (λ x. Sums_at n x) (Sum_at n) pre (λ x. []) run (λ us rest x o d. (g.summand d.0, single d.1)) (λ us rest x ss o d. (g.sum d.0, single d.1)) (product pre b item)
      (λ x. many_keeps (Sums_at n x) adding (r.sums_step q) (sums_step x) [])

  pub sum : Keeps cut cut (Sum_at n) (r.sum q None)
  sum = sum_of (λ z. z) None factor

  -- after a sum that makes one of R with what follows, NOT included
  module _ (pre mid : List Token → List Token) (x : Expr) (b : Bool) (nots : (ts : List Token) → g.IsNot (mid ts) b ts) where
    abbrev After : Rel Expr
    After = Pre mid (Then (Pre pre (Sum_at n)) (Pre pre (Rel_at n)) x)

    related_by : (o : _) (p : Place) (kind : Kind) → relating kind ≡ Some o → Keeps cut cut (Took (token kind p) After) (r.sum q None >>= (λ y. pure (e.Compare x b o p y)))
    related_by o p kind h = bind sum (λ y. done (e.Compare x b o p y) (λ ws us o1 d us0 o0 d0. (g.compare d0.0 (nots (token kind p ∷ us)) h d.0, both d0.1 d.1)))

    within : (p : Place) → Keeps cut cut (Took (w.word InWord p) After) (r.interval q >>= (λ i. pure (e.Within x b p i)))
    within p = bind interval (λ i. done (e.Within x b p i) (λ ws us o1 d us0 o0 d0. (g.within d0.0 (nots (w.word InWord p ∷ us)) d.0, both d0.1 d.1)))

    relation_or : (other : Parser Expr) → Keeps cut cut After other → Keeps cut cut After (r.relation q x b other)
    unfolding r.relation
    relation_or other h = choose_or related_by (option_or (k.Word InWord) within h)

    relation_must : Keeps cut cut After (r.relation q x b refuse)
    unfolding r.relation
    relation_must = choose_or related_by (option_must {l = cut} (k.Word InWord) refl refl within)

  related : (pre : List Token → List Token) (x : Expr) → Keeps cut cut (Then (Pre pre (Sum_at n)) (Pre pre (Rel_at n)) x) (r.related q x)
  unfolding r.related
  related pre x = choose_or (λ o p kind h. relation_must pre (λ z. token kind p ∷ z) x true (λ ts. g.negated h)) (relation_or pre (λ z. z) x false (λ ts. g.affirmed) (pure x) (done x (λ ws us0 o0 d0. (g.alone d0.0, alone d0.1))))

  rel_of : (pre : List Token → List Token) (b : Option Identifier) → Keeps cut cut (Pre pre (Factor_at n)) (r.factor q b) → Keeps cut cut (Pre pre (Rel_at n)) (r.rel q b)
  unfolding r.rel
  rel_of pre b item = bind (sum_of pre b item) (related pre)

  rel : Keeps cut cut (Rel_at n) (r.rel q None)
  rel = rel_of (λ z. z) None factor

  negation : (p : Place) (kind : Kind) → negating kind ≡ Some tt → Keeps cut cut (Took (token kind p) (Neg_at n)) (r.negation q p)
  unfolding r.negation
  negation p kind h = bind rel (λ x. done (e.Not p x) (λ ws us o d. (g.not h d.0, alone d.1)))

  neg : Keeps cut cut (Neg_at n) (r.neg q Fresh)
  unfolding r.neg
  neg = choose_or (λ o p kind h. negation p kind h) (imply (λ ts x rest o d. (g.rel d.0, single d.1)) rel)

  neg_from : (i : Identifier) → Keeps cut cut (Took (spelled i) (Neg_at n)) (r.neg q (AtName i))
  unfolding r.neg
  neg_from i = imply (λ ts x rest o d. (g.rel d.0, single d.1)) (rel_of (λ z. spelled i ∷ z) (Some i) (factor_from i))

  neg_not : (p : Place) (kind : Kind) → negating kind ≡ Some tt → Keeps cut cut (Took (token kind p) (Neg_at n)) (r.neg q (AtNot p))
  unfolding r.neg
  neg_not p kind h = negation p kind h

  pub ands_step : (x : Expr) (ss : List Operation) (o : Operator) (p : Place) (kind : Kind) → conjoining kind ≡ Some o → Keeps cut cut (Took (token kind p) (Then (Ands_at n x) (Ands_at n x) ss)) (r.ands_step q ss o p)
  ands_step x ss o p kind h = bind neg (λ y. done (ss ++ g.step o p y ∷ []) (λ ws us o1 d us1 o2 d1. (g.ands d1.0 h d.0, both d1.1 d.1)))

  conj : (pre : List Token → List Token) (b : Begun) → Keeps cut cut (Pre pre (Neg_at n)) (r.neg q b) → Keeps cut cut (Pre pre (Conj_at n)) (r.conj q b)
  unfolding r.conj
  conj pre b item = series {I = Pre pre (Neg_at n)} (λ x. Ands_at n x) (Conj_at n) pre (λ x. []) run (λ us rest x o d. (g.conjunct d.0, single d.1)) (λ us rest x ss o d. (g.conj d.0, single d.1)) item
      (λ x. many_keeps (Ands_at n x) conjoining (r.ands_step q) (ands_step x) [])

  pub ors_step : (x : Expr) (ss : List Operation) (o : Operator) (p : Place) (kind : Kind) → disjoining kind ≡ Some o → Keeps cut cut (Took (token kind p) (Then (Ors_at n x) (Ors_at n x) ss)) (r.ors_step q ss o p)
  ors_step x ss o p kind h = bind (conj (λ z. z) Fresh neg) (λ y. done (ss ++ g.step o p y ∷ []) (λ ws us o1 d us1 o2 d1. (g.ors d1.0 h d.0, both d1.1 d.1)))

  expr_of : (pre : List Token → List Token) (b : Begun) → Keeps cut cut (Pre pre (Neg_at n)) (r.neg q b) → Keeps cut cut (Pre pre (Expr_at (suc n))) (r.expr q b)
  unfolding r.expr
  expr_of pre b item = series {I = Pre pre (Conj_at n)} (λ x. Ors_at n x) (Expr_at (suc n)) pre (λ x. []) run (λ us rest x o d. (g.disjunct d.0, single d.1)) (λ us rest x ss o d. (g.expr d.0, single d.1)) (conj pre b item)
      (λ x. many_keeps (Ors_at n x) disjoining (r.ors_step q) (ors_step x) [])

  pub expr : Keeps cut cut (Expr_at (suc n)) (r.expr q Fresh)
  expr = expr_of (λ z. z) Fresh neg

  pub expr_from : (i : Identifier) → Keeps cut cut (Took (spelled i) (Expr_at (suc n))) (r.expr q (AtName i))
  expr_from i = expr_of (λ z. spelled i ∷ z) (AtName i) (neg_from i)

  pub expr_not : (p : Place) (kind : Kind) → negating kind ≡ Some tt → Keeps cut cut (Took (token kind p) (Expr_at (suc n))) (r.expr q (AtNot p))
  expr_not p kind h = expr_of (λ z. token kind p ∷ z) (AtNot p) (neg_not p kind h)
