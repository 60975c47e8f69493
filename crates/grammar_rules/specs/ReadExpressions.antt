-- What the parser functions of expressions and types compute.
use Rattle.std.specs.Prelude.{Bool, true, false, if◌then◌else◌, List, [], ◌∷◌, ◌++◌, map, Option, Some, None}
use Rattle.mesa_base.specs.declared.place.Place.{Place}
use Rattle.mesa_lexer.specs.declared.token.Kind.{Kind}
use Rattle.mesa_lexer.specs.declared.token.Kind.TheVariants as k
use Rattle.mesa_lexer.specs.declared.word.Word.TheVariants.{ArrayWord, BooleanWord, CardinalWord, CharacterWord, ErrorWord, FalseWord, InWord, IntegerWord, LongWord}
use Rattle.mesa_lexer.specs.declared.word.Word.TheVariants.{OfWord, RecordWord, SignalWord, StringWord, TrueWord}
use Rattle.mesa_lexer.specs.declared.mark.Mark.TheVariants.{Semicolon, Colon, Comma, Dot, DotDot, LeftBracket, RightBracket, LeftParenthesis}
use Rattle.mesa_lexer.specs.declared.mark.Mark.TheVariants.{RightParenthesis, LeftBrace, RightBrace, Bang, DoubleArrow}
use Rattle.token_cursor.specs.Parsing.{Parser, ◌>>=◌, ◌>>◌, pure, refuse, finds, a_name, choose, option, need, when, Turned, Again, Done, repeat, many, ended}
use Rattle.mesa_base.specs.declared.identifier.Identifier.{Identifier}
use Rattle.mesa_base.specs.declared.placed.Placed.{Placed}
use Rattle.syntax_trees.specs.declared.syntax.Keyed.{Keyed}
use Rattle.syntax_trees.specs.declared.syntax.Labeled.{Labeled}
use Rattle.syntax_trees.specs.declared.syntax.Entries.{Entries}
use Rattle.syntax_trees.specs.declared.syntax.Entries.TheVariants.{Nothing, InOrder, ByKey}
use Rattle.syntax_trees.specs.declared.syntax.TypeBase.{TypeBase}
use Rattle.syntax_trees.specs.declared.syntax.TypeBase.TheVariants.{Unsaid, OfInteger, OfCardinal, OfCharacter, OfName}
use Rattle.syntax_trees.specs.declared.syntax.Operator.{Operator}
use Rattle.syntax_trees.specs.declared.syntax.TypeExp.{TypeExp}
use Rattle.syntax_trees.specs.declared.syntax.TypeExp.TheVariants as t
use Rattle.syntax_trees.specs.declared.syntax.FieldList.{FieldList}
use Rattle.syntax_trees.specs.declared.syntax.FieldList.TheVariants.{WithNames, Unnamed}
use Rattle.syntax_trees.specs.declared.syntax.Interval.{Interval}
use Rattle.syntax_trees.specs.declared.syntax.Expr.{Expr}
use Rattle.syntax_trees.specs.declared.syntax.Expr.TheVariants as e
use Rattle.syntax_trees.specs.declared.syntax.Operation.{Operation}
use Rattle.syntax_trees.specs.declared.syntax.Suffix.{Suffix}
use Rattle.syntax_trees.specs.declared.syntax.Suffix.TheVariants.{Field, Applied}
use Rattle.syntax_trees.specs.declared.syntax.Brackets.{Brackets}
use Rattle.syntax_trees.specs.declared.syntax.Raise.{Raise}
use Rattle.syntax_trees.specs.declared.syntax.Raise.TheVariants.{SignalRaise, ErrorRaise, UnnamedError}
use Rattle.syntax_trees.specs.declared.syntax.Arm.{Arm}
use Rattle.grammar_rules.specs.WordsAndMarks.{disjoining, conjoining, adding, multiplying, signing, relating, negating, opening, closing}
use Rattle.grammar_rules.specs.Grammar as g
use Rattle.grammar_rules.specs.Grammar.{run, placed, keyed, labeled, qualified}
use Rattle.grammar_rules.specs.ReadNested.{Begun, Fresh, AtName, AtNot, Nested, a_number, a_char, a_text, begins_expr, begins_arm, identifier, comma}
use Rattle.grammar_rules.specs.ReadNested.{named, names, qname, qname_from, labels}

-- the names, taken for types
unfoldable pub called : List Identifier → List TypeExp
called ns = map (λ i. t.Called (qualified i None)) ns

-- names of fields or of types, one of which came last
pub record Undecided : Type 0 where
  pub before : List Identifier
  pub last : Identifier

abbrev pub all_names : Undecided → List Identifier
all_names u = u.before ++ u.last ∷ []

-- how a name goes on: a field, or brackets
abbrev pub suffixing : Kind → Option Bool
suffixing (k.Mark Dot) = Some false
suffixing (k.Mark LeftBracket) = Some true
suffixing _ = None

unfoldable pub closed : Parser Bool
closed = choose closing (λ b _. pure b) refuse

module _ (q : Nested) where
  -- ---- intervals

  unfoldable pub bounds : Bool → Place → Parser Interval
  bounds a p = do
    x ← q.expr Fresh
    need (k.Mark DotDot)
    y ← q.expr Fresh
    b ← closed
    pure (g.interval p a x y b)

  unfoldable pub interval : Parser Interval
  interval = choose opening bounds refuse

  -- ---- arms

  unfoldable pub arm : Parser Arm
  arm = do
    l ← labels
    need (k.Mark DoubleArrow)
    x ← q.stmt None
    pure (g.arm l x)

  abbrev pub arms_step : List Arm → Parser (List Arm)
  arms_step all = do
    x ← arm
    pure (all ++ x ∷ [])

  unfoldable pub arm_list : Parser (List Arm)
  arm_list = do
    x ← arm
    ended (k.Mark Semicolon) begins_arm arms_step (x ∷ [])

  unfoldable pub catch : Parser (Option (Placed (List Arm)))
  catch = option (k.Mark Bang) (λ p. do all ← arm_list; pure (Some (placed p all))) (pure None)

  -- ---- bracket lists

  abbrev pub exprs_step : List Expr → Unit {0} → Place → Parser (List Expr)
  exprs_step all _ _ = do
    x ← q.expr Fresh
    pure (all ++ x ∷ [])

  unfoldable pub in_order : Begun → Parser (Entries Expr)
  in_order b = do
    x ← q.expr b
    all ← many comma exprs_step (x ∷ [])
    pure (InOrder all)

  abbrev pub keys_step : List (Keyed Expr) → Unit {0} → Place → Parser (List (Keyed Expr))
  keys_step all _ _ = do
    i ← named
    need (k.Mark Colon)
    x ← q.expr Fresh
    pure (all ++ keyed i x ∷ [])

  unfoldable pub by_key : Identifier → Parser (Entries Expr)
  by_key i = do
    x ← q.expr Fresh
    all ← many comma keys_step (keyed i x ∷ [])
    pure (ByKey all)

  unfoldable pub after_name : Identifier → Parser (Entries Expr)
  after_name i = option (k.Mark Colon) (λ _. by_key i) (in_order (AtName i))

  unfoldable pub unkeyed : Parser (Entries Expr)
  unkeyed = when begins_expr (in_order Fresh) (pure Nothing)

  unfoldable pub args : Parser (Entries Expr)
  args = if q.can then choose a_name (λ n p. after_name (identifier n p)) unkeyed else unkeyed

  -- after its bracket
  unfoldable pub list : Place → Parser (Placed (Entries Expr))
  list p = do
    x ← args
    need (k.Mark RightBracket)
    pure (placed p x)

  unfoldable pub list_option : Parser (Option (Placed (Entries Expr)))
  list_option = option (k.Mark LeftBracket) (λ p. do x ← list p; pure (Some x)) (pure None)

  unfoldable pub brackets : Place → Parser Brackets
  brackets p = do
    x ← args
    c ← catch
    need (k.Mark RightBracket)
    pure (g.brackets p x c)

  unfoldable pub brackets_option : Parser (Option Brackets)
  brackets_option = option (k.Mark LeftBracket) (λ p. do x ← brackets p; pure (Some x)) (pure None)

  -- ---- names with what follows them

  unfoldable pub suffixes_step : List Suffix → Bool → Place → Parser (List Suffix)
  suffixes_step ss false p = do
    j ← named
    pure (ss ++ Field j ∷ [])
  suffixes_step ss true p = do
    b ← brackets p
    pure (ss ++ Applied b ∷ [])

  unfoldable pub suffixes : Parser (List Suffix)
  suffixes = many suffixing suffixes_step []

  unfoldable pub error_raise : Place → Identifier → Parser Raise
  error_raise p i = do
    x ← qname_from i
    b ← brackets_option
    pure (ErrorRaise p x b)

  unfoldable pub signal_raise : Place → Parser Raise
  signal_raise p = do
    x ← qname
    b ← brackets_option
    pure (SignalRaise p x b)

  unfoldable pub raise : Parser Raise
  raise = option (k.Word SignalWord) signal_raise
      (option (k.Word ErrorWord) (λ p. choose a_name (λ n r. error_raise p (identifier n r)) (pure (UnnamedError p))) refuse)

  -- ---- expressions

  unfoldable pub reference : Identifier → Parser Expr
  reference i = do
    ss ← suffixes
    pure (e.Reference (g.left i ss))

  unfoldable pub parens : Place → Parser Expr
  parens p = do
    x ← q.expr Fresh
    need (k.Mark RightParenthesis)
    pure (e.Parenthesis p x)

  unfoldable pub literal : Parser Expr → Parser Expr
  literal other = choose a_number (λ n p. pure (e.NumberLiteral p n))
      (choose a_char (λ n p. pure (e.CharacterLiteral p n)) (choose a_text (λ bytes p. pure (e.StringLiteral p bytes))
      (option (k.Word TrueWord) (λ p. pure (e.Truth p true)) (option (k.Word FalseWord) (λ p. pure (e.Truth p false)) other))))

  unfoldable pub primary : Option Identifier → Parser Expr
  primary None = literal (choose a_name (λ n p. reference (identifier n p)) (option (k.Mark LeftParenthesis) parens
      (option (k.Mark LeftBracket) (λ p. do x ← list p; pure (e.Constructor x)) (do x ← raise; pure (e.Raised x)))))
  primary (Some i) = reference i

  unfoldable pub factor : Option Identifier → Parser Expr
  factor None = choose signing (λ s p. do x ← primary None; pure (e.Signed s p x)) (primary None)
  factor (Some i) = primary (Some i)

  abbrev pub products_step : List Operation → Operator → Place → Parser (List Operation)
  products_step ss o p = do
    y ← factor None
    pure (ss ++ g.step o p y ∷ [])

  unfoldable pub product : Option Identifier → Parser Expr
  product b = do
    x ← factor b
    ss ← many multiplying products_step []
    pure (run x ss)

  abbrev pub sums_step : List Operation → Operator → Place → Parser (List Operation)
  sums_step ss o p = do
    y ← product None
    pure (ss ++ g.step o p y ∷ [])

  unfoldable pub sum : Option Identifier → Parser Expr
  sum b = do
    x ← product b
    ss ← many adding sums_step []
    pure (run x ss)

  -- after the sum, and after NOT where that came
  unfoldable pub relation : Expr → Bool → Parser Expr → Parser Expr
  relation x b other = choose relating (λ r p. do y ← sum None; pure (e.Compare x b r p y))
      (option (k.Word InWord) (λ p. do i ← interval; pure (e.Within x b p i)) other)

  unfoldable pub related : Expr → Parser Expr
  related x = choose negating (λ _ _. relation x true refuse) (relation x false (pure x))

  unfoldable pub rel : Option Identifier → Parser Expr
  rel b = do
    x ← sum b
    related x

  unfoldable pub negation : Place → Parser Expr
  negation p = do
    x ← rel None
    pure (e.Not p x)

  unfoldable pub neg : Begun → Parser Expr
  neg Fresh = choose negating (λ _ p. negation p) (rel None)
  neg (AtName i) = rel (Some i)
  neg (AtNot p) = negation p

  abbrev pub ands_step : List Operation → Operator → Place → Parser (List Operation)
  ands_step ss o p = do
    y ← neg Fresh
    pure (ss ++ g.step o p y ∷ [])

  unfoldable pub conj : Begun → Parser Expr
  conj b = do
    x ← neg b
    ss ← many conjoining ands_step []
    pure (run x ss)

  abbrev pub ors_step : List Operation → Operator → Place → Parser (List Operation)
  ors_step ss o p = do
    y ← conj Fresh
    pure (ss ++ g.step o p y ∷ [])

  unfoldable pub expr : Begun → Parser Expr
  expr b = do
    x ← conj b
    ss ← many disjoining ors_step []
    pure (run x ss)

  -- ---- types

  -- the base, or the type that it is where no interval follows
  unfoldable pub after_base : TypeBase → TypeExp → Parser TypeExp
  after_base b x = when (finds opening) (do i ← interval; pure (t.Subrange b i)) (pure x)

  unfoldable pub type_from : Identifier → Parser TypeExp
  type_from i = do
    x ← qname_from i
    after_base (OfName x) (t.Called x)

  unfoldable pub enumeration : Place → Parser TypeExp
  enumeration p = do
    all ← names
    need (k.Mark RightBrace)
    pure (t.Enumeration p all)

  unfoldable pub array : Place → Parser TypeExp
  array p = do
    x ← q.type None
    need (k.Word OfWord)
    y ← q.type None
    pure (t.Array p x y)

  abbrev pub types_step : List TypeExp → Unit {0} → Place → Parser (List TypeExp)
  types_step all _ _ = do
    x ← q.type None
    pure (all ++ x ∷ [])

  -- types without names, after these
  unfoldable pub more_types : List TypeExp → Parser FieldList
  more_types before = do
    all ← many comma types_step before
    pure (Unnamed all)

  unfoldable pub unnamed : List TypeExp → Parser FieldList
  unnamed before = do
    x ← q.type None
    more_types (before ++ x ∷ [])

  abbrev pub groups_step : List (Labeled (List Identifier) TypeExp) → Unit {0} → Place → Parser (List (Labeled (List Identifier) TypeExp))
  groups_step all _ _ = do
    ns ← names
    need (k.Mark Colon)
    x ← q.type None
    pure (all ++ labeled ns x ∷ [])

  -- after the first names and their colon
  unfoldable pub with_names : List Identifier → Parser FieldList
  with_names ns = do
    x ← q.type None
    all ← many comma groups_step (labeled ns x ∷ [])
    pure (WithNames all)

  -- the last name begins a type
  unfoldable pub types_from : Undecided → Parser FieldList
  types_from u = do
    x ← q.type (Some u.last)
    more_types (called u.before ++ x ∷ [])

  unfoldable pub after_comma : List Identifier → Parser (Turned Undecided FieldList)
  after_comma all = choose a_name (λ n p. pure (Again (record { before = all; last = identifier n p }))) (do x ← unnamed (called all); pure (Done x))

  unfoldable pub undecided_turn : Undecided → Parser (Turned Undecided FieldList)
  undecided_turn u = option (k.Mark Comma) (λ _. after_comma (all_names u))
      (option (k.Mark Colon) (λ _. do x ← with_names (all_names u); pure (Done x)) (do x ← types_from u; pure (Done x)))

  unfoldable pub field_list : Parser FieldList
  field_list = if q.can then choose a_name (λ n p. repeat undecided_turn (record { before = []; last = identifier n p })) (unnamed []) else unnamed []

  unfoldable pub a_record : Place → Parser TypeExp
  a_record p = do
    need (k.Mark LeftBracket)
    x ← field_list
    need (k.Mark RightBracket)
    pure (t.Record p x)

  unfoldable pub long_type : Place → Parser TypeExp
  long_type p = option (k.Word IntegerWord) (λ _. pure (t.LongInteger p)) (do
    need (k.Word CardinalWord)
    pure (t.LongCardinal p))

  unfoldable pub type_exp : Option Identifier → Parser TypeExp
  type_exp None = choose a_name (λ n p. type_from (identifier n p))
      (option (k.Word IntegerWord) (λ p. after_base (OfInteger p) (t.Integer p)) (option (k.Word CardinalWord) (λ p. after_base (OfCardinal p) (t.Cardinal p))
      (option (k.Word LongWord) long_type
      (option (k.Word CharacterWord) (λ p. after_base (OfCharacter p) (t.Character p))
      (option (k.Word BooleanWord) (λ p. pure (t.Boolean p)) (option (k.Word StringWord) (λ p. pure (t.String p))
      (option (k.Mark LeftBrace) enumeration
      (option (k.Word ArrayWord) array (option (k.Word RecordWord) a_record (do i ← interval; pure (t.Subrange Unsaid i)))))))))))
  type_exp (Some i) = type_from i
