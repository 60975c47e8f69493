-- What the parser functions of statements and blocks compute.
use Rattle.std.specs.Prelude.{ℕ, zero, suc, Bool, true, false, if◌then◌else◌, List, [], ◌∷◌, ◌++◌, Option, Some, None}
use Rattle.mesa_base.specs.declared.place.Place.{Place}
use Rattle.mesa_lexer.specs.declared.token.Kind.{Kind}
use Rattle.mesa_lexer.specs.declared.token.Kind.TheVariants as k
use Rattle.mesa_lexer.specs.declared.word.Word.TheVariants.{BeginWord, ContinueWord, DecreasingWord, DoWord, ElseWord, EnableWord, EndWord, EndcaseWord}
use Rattle.mesa_lexer.specs.declared.word.Word.TheVariants.{EndloopWord, ExitWord, ExitsWord, ForWord, FromWord, GoWord, GotoWord, IfWord, InWord, LoopWord}
use Rattle.mesa_lexer.specs.declared.word.Word.TheVariants.{NullWord, RejectWord, RepeatWord, ResumeWord, RetryWord, ReturnWord, SelectWord, ThenWord}
use Rattle.mesa_lexer.specs.declared.word.Word.TheVariants.{ThroughWord, ToWord, TypeWord, UntilWord, WhileWord}
use Rattle.mesa_lexer.specs.declared.mark.Mark.TheVariants.{Arrow, Semicolon, Colon, Comma, LeftBracket, RightBracket, LeftBrace, RightBrace, Equal}
use Rattle.mesa_lexer.specs.declared.mark.Mark.TheVariants.{DoubleArrow}
use Rattle.token_cursor.specs.Parsing.{Parser, ◌>>=◌, ◌>>◌, pure, among, finds, a_name, choose, option, need, when, Turned, Again, Done, repeat, many, ended}
use Rattle.token_cursor.specs.Parsing.{too_deep}
use Rattle.mesa_base.specs.declared.identifier.Identifier.{Identifier}
use Rattle.mesa_base.specs.declared.placed.Placed.{Placed}
use Rattle.syntax_trees.specs.declared.syntax.Keyed.{Keyed}
use Rattle.syntax_trees.specs.declared.syntax.Labeled.{Labeled}
use Rattle.syntax_trees.specs.declared.syntax.Entries.{Entries}
use Rattle.syntax_trees.specs.declared.syntax.Entries.TheVariants.{Nothing, InOrder, ByKey}
use Rattle.syntax_trees.specs.declared.syntax.RepeatLabels.{RepeatLabels}
use Rattle.syntax_trees.specs.declared.syntax.TypeExp.{TypeExp}
use Rattle.syntax_trees.specs.declared.syntax.Expr.{Expr}
use Rattle.syntax_trees.specs.declared.syntax.Left.{Left}
use Rattle.syntax_trees.specs.declared.syntax.Arm.{Arm}
use Rattle.syntax_trees.specs.declared.syntax.Statement.{Statement}
use Rattle.syntax_trees.specs.declared.syntax.Statement.TheVariants as s
use Rattle.syntax_trees.specs.declared.syntax.Control.{Control}
use Rattle.syntax_trees.specs.declared.syntax.Count.{Count}
use Rattle.syntax_trees.specs.declared.syntax.Count.TheVariants.{For, Through}
use Rattle.syntax_trees.specs.declared.syntax.Condition.{Condition}
use Rattle.syntax_trees.specs.declared.syntax.Condition.TheVariants.{While, Until}
use Rattle.syntax_trees.specs.declared.syntax.Case.{Case}
use Rattle.syntax_trees.specs.declared.syntax.Test.{Test}
use Rattle.syntax_trees.specs.declared.syntax.Test.TheVariants.{Value, Compared, Inside}
use Rattle.syntax_trees.specs.declared.syntax.Block.{Block}
use Rattle.syntax_trees.specs.declared.syntax.PlainItem.{PlainItem}
use Rattle.syntax_trees.specs.declared.syntax.PlainItem.TheVariants.{TypeIs, Variable, Initial, Constant}
use Rattle.grammar_rules.specs.WordsAndMarks.{relating, negating}
use Rattle.grammar_rules.specs.Grammar as g
use Rattle.grammar_rules.specs.Grammar.{placed, keyed, labeled}
use Rattle.grammar_rules.specs.ReadNested.{Fresh, AtNot, Nested, raise_starts, begins_type, begins_expr, begins_stmt, begins_test, begins_repeat}
use Rattle.grammar_rules.specs.ReadNested.{identifier, comma, named, names, names_from, repeat_labels}
use Rattle.grammar_rules.specs.ReadExpressions as x

abbrev pub Local : Type 0
Local = Labeled (List Identifier) PlainItem

abbrev pub Exit : Type 0
Exit = Labeled (List Identifier) Statement

abbrev pub Repeat : Type 0
Repeat = Labeled RepeatLabels Statement

-- declarations and the statements behind them
abbrev pub Head : Type 0 → Type 0
Head D = List D × List Statement

abbrev pub begins_label : Kind → Bool
begins_label = finds a_name

abbrev pub semicolon : Kind
semicolon = k.Mark Semicolon

-- ---- what stands before a loop's DO

unfoldable pub decreasing : Parser Bool
decreasing = option (k.Word DecreasingWord) (λ _. pure true) (pure false)

module _ (q : Nested) where
  unfoldable pub for : Place → Parser (Option Count)
  for p = do
    i ← named
    b ← decreasing
    need (k.Word InWord)
    x ← x.interval q
    pure (Some (For p i b x))

  unfoldable pub through : Place → Parser (Option Count)
  through p = do
    x ← x.interval q
    pure (Some (Through p x))

  unfoldable pub count : Parser (Option Count)
  count = option (k.Word ForWord) for (option (k.Word ThroughWord) through (pure None))

  unfoldable pub condition : Parser (Option Condition)
  condition = option (k.Word WhileWord) (λ p. do x ← q.expr Fresh; pure (Some (While p x)))
      (option (k.Word UntilWord) (λ p. do x ← q.expr Fresh; pure (Some (Until p x))) (pure None))

  unfoldable pub control : Parser Control
  control = do
    a ← count
    b ← condition
    pure (g.control a b)

  -- ---- lists of statements

  abbrev pub stmts_step : List Statement → Parser (List Statement)
  stmts_step all = do
    x ← q.stmt None
    pure (all ++ x ∷ [])

  -- statements, where of the first a name was taken or nothing
  unfoldable pub stmts : Option Identifier → Parser (List Statement)
  stmts b = do
    x ← q.stmt b
    ended semicolon begins_stmt stmts_step (x ∷ [])

  unfoldable pub body : Parser (List Statement)
  body = when begins_stmt (stmts None) (pure [])

  unfoldable pub exit : Parser Exit
  exit = do
    ns ← names
    need (k.Mark DoubleArrow)
    x ← q.stmt None
    pure (labeled ns x)

  abbrev pub exits_step : List Exit → Parser (List Exit)
  exits_step all = do
    x ← exit
    pure (all ++ x ∷ [])

  unfoldable pub exits : Parser (List Exit)
  exits = do
    x ← exit
    ended semicolon begins_label exits_step (x ∷ [])

  unfoldable pub exit_part : Parser (List Exit)
  exit_part = option (k.Word ExitsWord) (λ _. exits) (pure [])

  unfoldable pub an_end : Parser Repeat
  an_end = do
    l ← repeat_labels
    need (k.Mark DoubleArrow)
    x ← q.stmt None
    pure (labeled l x)

  abbrev pub repeats_step : List Repeat → Parser (List Repeat)
  repeats_step all = do
    x ← an_end
    pure (all ++ x ∷ [])

  unfoldable pub repeats : Parser (List Repeat)
  repeats = do
    x ← an_end
    ended semicolon begins_repeat repeats_step (x ∷ [])

  unfoldable pub repeat_part : Parser (List Repeat)
  repeat_part = option (k.Word RepeatWord) (λ _. repeats) (pure [])

  unfoldable pub enable_many : Place → Parser (Option (Placed (List Arm)))
  enable_many p = do
    all ← x.arm_list q
    need (k.Word EndWord)
    need semicolon
    pure (Some (placed p all))

  unfoldable pub enable_one : Place → Parser (Option (Placed (List Arm)))
  enable_one p = do
    a ← x.arm q
    need semicolon
    pure (Some (placed p (a ∷ [])))

  unfoldable pub enabling : Parser (Option (Placed (List Arm)))
  enabling = option (k.Word EnableWord) (λ p. option (k.Word BeginWord) (λ _. enable_many p) (enable_one p)) (pure None)

  -- ---- blocks

  unfoldable pub valued : TypeExp → Parser PlainItem
  valued x = option (k.Mark Arrow) (λ _. do y ← q.expr Fresh; pure (Initial x y))
      (option (k.Mark Equal) (λ _. do y ← q.expr Fresh; pure (Constant x y)) (pure (Variable x)))

  unfoldable pub type_is : Parser PlainItem
  type_is = do
    need (k.Mark Equal)
    x ← q.type None
    pure (TypeIs x)

  unfoldable pub typed : Parser PlainItem
  typed = do
    x ← q.type None
    valued x

  unfoldable pub plain : Parser PlainItem
  plain = option (k.Word TypeWord) (λ _. type_is) typed

  abbrev pub declares : Kind → Bool
  declares = among (k.Mark Comma ∷ k.Mark Colon ∷ [])

  -- a declaration, whose first name was taken
  unfoldable pub local : Identifier → Parser Local
  local i = do
    ns ← names_from i
    need (k.Mark Colon)
    x ← plain
    need semicolon
    pure (labeled ns x)

  -- the statements behind these declarations
  unfoldable pub head_end : List Local → Parser (Turned (List Local) (Head Local))
  head_end ls = do
    ss ← body
    pure (Done (ls, ss))

  unfoldable pub head_from : List Local → Identifier → Parser (Turned (List Local) (Head Local))
  head_from ls i = when declares (do l ← local i; pure (Again (ls ++ l ∷ []))) (do ss ← stmts (Some i); pure (Done (ls, ss)))

  unfoldable pub head_turn : List Local → Parser (Turned (List Local) (Head Local))
  head_turn ls = if q.can then choose a_name (λ n p. head_from ls (identifier n p)) (head_end ls) else head_end ls

  -- a block, whose first word or brace was taken, up to its last
  unfoldable pub block : Kind → Place → Parser Block
  block last p = do
    e ← enabling
    h ← repeat head_turn []
    xs ← exit_part
    need last
    pure (g.block p e h.0 h.1 xs)

  -- ---- SELECT

  unfoldable pub after_not : Place → Parser Test
  after_not p = choose relating (λ r s. do x ← x.sum q None; pure (Compared true r s x))
      (option (k.Word InWord) (λ s. do i ← x.interval q; pure (Inside true s i)) (do x ← q.expr (AtNot p); pure (Value x)))

  unfoldable pub unnegated : Parser Test
  unnegated = choose relating (λ r s. do x ← x.sum q None; pure (Compared false r s x))
      (option (k.Word InWord) (λ s. do i ← x.interval q; pure (Inside false s i)) (do x ← q.expr Fresh; pure (Value x)))

  unfoldable pub test : Parser Test
  test = if q.can then choose negating (λ _ p. after_not p) unnegated else unnegated

  abbrev pub tests_step : List Test → Unit {0} → Place → Parser (List Test)
  tests_step all _ _ = do
    x ← test
    pure (all ++ x ∷ [])

  unfoldable pub case : Parser Case
  case = do
    t ← test
    all ← many comma tests_step (t ∷ [])
    need (k.Mark DoubleArrow)
    x ← q.stmt None
    pure (g.case all x)

  abbrev pub cases_step : List Case → Parser (List Case)
  cases_step all = do
    x ← case
    pure (all ++ x ∷ [])

  unfoldable pub cases : Parser (List Case)
  cases = do
    x ← case
    ended semicolon begins_test cases_step (x ∷ [])

  unfoldable pub case_list : Parser (List Case)
  case_list = when begins_test cases (pure [])

  unfoldable pub otherwise : Parser (Option Statement)
  otherwise = option (k.Mark DoubleArrow) (λ _. do x ← q.stmt None; pure (Some x)) (pure None)

  unfoldable pub select : Place → Parser Statement
  select p = do
    x ← q.expr Fresh
    need (k.Word FromWord)
    cs ← case_list
    need (k.Word EndcaseWord)
    y ← otherwise
    pure (s.Select p x cs y)

  -- ---- targets

  abbrev pub lefts_step : List Left → Unit {0} → Place → Parser (List Left)
  lefts_step all _ _ = do
    i ← named
    ss ← x.suffixes q
    pure (all ++ g.left i ss ∷ [])

  unfoldable pub lefts : Identifier → Parser (Entries Left)
  lefts i = do
    ss ← x.suffixes q
    all ← many comma lefts_step (g.left i ss ∷ [])
    pure (InOrder all)

  abbrev pub key_lefts_step : List (Keyed Left) → Unit {0} → Place → Parser (List (Keyed Left))
  key_lefts_step all _ _ = do
    j ← named
    need (k.Mark Colon)
    i ← named
    ss ← x.suffixes q
    pure (all ++ keyed j (g.left i ss) ∷ [])

  unfoldable pub key_lefts : Identifier → Parser (Entries Left)
  key_lefts j = do
    i ← named
    ss ← x.suffixes q
    all ← many comma key_lefts_step (keyed j (g.left i ss) ∷ [])
    pure (ByKey all)

  unfoldable pub targets_from : Identifier → Parser (Entries Left)
  targets_from i = option (k.Mark Colon) (λ _. key_lefts i) (lefts i)

  unfoldable pub targets : Parser (Entries Left)
  targets = choose a_name (λ n p. targets_from (identifier n p)) (pure Nothing)

  unfoldable pub extract : Place → Parser Statement
  extract p = do
    x ← targets
    need (k.Mark RightBracket)
    need (k.Mark Arrow)
    y ← q.expr Fresh
    pure (s.Extract p x y)

  unfoldable pub assigned : Identifier → Parser Statement
  assigned i = do
    ss ← x.suffixes q
    option (k.Mark Arrow) (λ _. do x ← q.expr Fresh; pure (s.Assign (g.left i ss) x)) (pure (s.Call (g.left i ss)))

  -- ---- statements

  unfoldable pub else_part : Place → Expr → Statement → Parser Statement
  else_part p c x = option (k.Word ElseWord) (λ _. do y ← q.stmt None; pure (s.If p c x (Some y))) (pure (s.If p c x None))

  unfoldable pub conditional : Place → Parser Statement
  conditional p = do
    c ← q.expr Fresh
    need (k.Word ThenWord)
    x ← q.stmt None
    else_part p c x

  unfoldable pub loop : Parser Statement
  loop = do
    c ← control
    p ← need (k.Word DoWord)
    e ← enabling
    ss ← body
    rs ← repeat_part
    need (k.Word EndloopWord)
    pure (s.Loop c p e ss rs)

  unfoldable pub go_to : Place → Parser Statement
  go_to p = do
    need (k.Word ToWord)
    i ← named
    pure (s.Goto p i)

  -- the statements of one word, and those with a label or list behind it
  unfoldable pub jump : Parser Statement → Parser Statement
  jump other = option (k.Word ExitWord) (λ p. pure (s.ExitLoop p))
      (option (k.Word LoopWord) (λ p. pure (s.NextTurn p)) (option (k.Word GotoWord) (λ p. do i ← named; pure (s.Goto p i)) (option (k.Word GoWord) go_to
      (option (k.Word ReturnWord) (λ p. do x ← x.list_option q; pure (s.Return p x))
      (option (k.Word ResumeWord) (λ p. do x ← x.list_option q; pure (s.Resume p x))
      (option (k.Word RejectWord) (λ p. pure (s.Reject p))
      (option (k.Word RetryWord) (λ p. pure (s.Retry p)) (option (k.Word ContinueWord) (λ p. pure (s.Continue p)) other))))))))

  unfoldable pub statement : Option Identifier → Parser Statement
  statement None = choose a_name (λ n p. assigned (identifier n p))
      (option (k.Word NullWord) (λ p. pure (s.Null p))
      (option (k.Word BeginWord) (λ p. do b ← block (k.Word EndWord) p; pure (s.Nested b))
      (option (k.Mark LeftBrace) (λ p. do b ← block (k.Mark RightBrace) p; pure (s.Nested b))
      (option (k.Mark LeftBracket) extract
      (option (k.Word IfWord) conditional
      (option (k.Word SelectWord) select (jump (when (among raise_starts) (do x ← x.raise q; pure (s.RaiseStatement x)) loop))))))))
  statement (Some i) = assigned i

-- ---- levels

-- so many may stand inside one another from here on
unfoldable pub nested : ℕ → Nested
nested zero = record { can = false; stmt = λ _. too_deep begins_stmt; expr = λ _. too_deep begins_expr; type = λ _. too_deep begins_type }
nested (suc n) = record { can = true; stmt = statement (nested n); expr = x.expr (nested n); type = x.type_exp (nested n) }
