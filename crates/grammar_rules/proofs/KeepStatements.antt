-- The parsers of statements and blocks keep to the grammar.
use Rattle.std.proofs.Common.{◌≡◌, ℕ, suc, true, false, List, [], ◌∷◌, ◌++◌, Option, Some, None, inl, inr, refl, sym, ap, subst, ◌∙◌}
use Rattle.mesa_base.specs.declared.place.Place.{Place}
use Rattle.mesa_lexer.specs.declared.token.Token.{Token}
use Rattle.mesa_lexer.specs.declared.token.Kind.{Kind}
use Rattle.mesa_lexer.specs.declared.token.Kind.TheVariants as k
use Rattle.mesa_lexer.specs.declared.word.Word.TheVariants.{BeginWord, ContinueWord, DecreasingWord, DoWord, ElseWord, EnableWord, EndWord, EndcaseWord, EndloopWord, ExitWord, ExitsWord, ForWord, FromWord, GoWord, GotoWord, IfWord, InWord, LoopWord, NullWord, RejectWord, RepeatWord, ResumeWord, RetryWord, ReturnWord, SelectWord, ThenWord, ThroughWord, ToWord, TypeWord, UntilWord, WhileWord}
use Rattle.mesa_lexer.specs.declared.mark.Mark.TheVariants.{Arrow, Semicolon, Colon, Comma, LeftBracket, RightBracket, LeftBrace, RightBrace, Equal, DoubleArrow}
use Rattle.token_cursor.specs.Parsing.{token, mark, Parser, first, exactly, found, among, finds, Again, Done, repeat, many_turn, ended_turn}
use Rattle.token_cursor.specs.Parsing as w
use Rattle.token_cursor.proofs.Exact.{Rel, first_none, first_assoc, Free, After, Sample, Keeps, Took, Then, Pre, bind, done, ready, imply, Plainly, bind_plain, alone, single, both, three, four, either}
use Rattle.token_cursor.proofs.Branches.{somewhere, choose_or, option_or, option_at, word, when_keeps, of_kind}
use Rattle.token_cursor.proofs.Loops.{Steps, Eats, growing, many_eats, many_keeps, ended_eats, ended_keeps, listed, series, eats_by, less_done, less_choose, less_either, no_more_done, no_more_goes, no_more_when}
use Rattle.mesa_base.specs.declared.identifier.Identifier.{Identifier}
use Rattle.mesa_base.specs.declared.placed.Placed.{Placed}
use Rattle.syntax_trees.specs.declared.syntax.Keyed.{Keyed}
use Rattle.syntax_trees.specs.declared.syntax.Entries.TheVariants.{Nothing, InOrder, ByKey}
use Rattle.syntax_trees.specs.declared.syntax.TypeExp.{TypeExp}
use Rattle.syntax_trees.specs.declared.syntax.Expr.{Expr}
use Rattle.syntax_trees.specs.declared.syntax.Left.{Left}
use Rattle.syntax_trees.specs.declared.syntax.Arm.{Arm}
use Rattle.syntax_trees.specs.declared.syntax.Statement.{Statement}
use Rattle.syntax_trees.specs.declared.syntax.Statement.TheVariants as s
use Rattle.syntax_trees.specs.declared.syntax.Count.TheVariants.{For, Through}
use Rattle.syntax_trees.specs.declared.syntax.Condition.TheVariants.{While, Until}
use Rattle.syntax_trees.specs.declared.syntax.Case.{Case}
use Rattle.syntax_trees.specs.declared.syntax.Test.{Test as TestTree}
use Rattle.syntax_trees.specs.declared.syntax.Test.TheVariants.{Value, Compared, Inside}
use Rattle.syntax_trees.specs.declared.syntax.Block.{Block}
use Rattle.syntax_trees.specs.declared.syntax.PlainItem.TheVariants.{TypeIs, Variable, Initial, Constant}
use Rattle.grammar_rules.specs.WordsAndMarks.{spelled, negating}
use Rattle.grammar_rules.specs.Grammar as g
use Rattle.grammar_rules.specs.Grammar.{NoElse, placed, keyed, labeled}
use Rattle.grammar_rules.specs.ReadNested.{Nested, raise_starts, begins_stmt, begins_test, begins_repeat, identifier, comma}
use Rattle.grammar_rules.specs.ReadStatements as r
use Rattle.grammar_rules.specs.ReadStatements.{Local, Exit, Repeat, Head, begins_label, semicolon}
use Rattle.grammar_rules.proofs.Readings.{cut, Inner, Stmt_at, Expr_at, Type_at, Left_at, Targets_at, Lefts_at, KeyLefts_at, Otherwise_at, CaseList_at, Cases_at, Case_at, Tests_at, Test_at, Control_at, Count_at, Condition_at, Body_at, Stmts_at, RepeatPart_at, Repeats_at, Repeat_at, ExitPart_at, Exits_at, Exit_at, Enabling_at, Block_at, Locals_at, Local_at, Plain_at}
use Rattle.grammar_rules.proofs.Names as nm
use Rattle.grammar_rules.proofs.KeepExpressions as ke

pub decreasing : Keeps cut cut (Plainly g.IsDecreasing) r.decreasing
unfolding r.decreasing
decreasing = option_or {l = cut} (k.Word DecreasingWord) (λ p. done true (λ ws. (g.falling, refl))) (done false (λ ws. (g.rising, refl)))

-- ---- ELSE

pub free_else : (t : Token) (rest : List Token) → cut t.kind ≡ false → NoElse (t ∷ rest)
free_else t rest h e = absurd (cc (h, ap cut e))

pub no_else_free : (ws : List Token) → Free cut ws → NoElse ws
no_else_free [] h = tt
no_else_free (u ∷ us) h = free_else u us h

no_else : (ts ws : List Token) → Free (finds (exactly (k.Word ElseWord))) ts → After cut ts ws → NoElse ws
no_else ts [] h f = tt
no_else [] (u ∷ us) h (inl f) = absurd f
no_else (t ∷ ts) (u ∷ us) h (inl f) = λ e. let here : found (exactly (k.Word ElseWord) u.kind) ≡ false = subst (λ z. found (exactly (k.Word ElseWord) z.kind) ≡ false) f h in absurd (cc (here, e))
no_else ts (u ∷ us) h (inr f) = free_else u us f

module _ (n : ℕ) (q : Nested) (inner : Inner n q) where
  -- ---- what stands before a loop's DO

  for : (p : Place) → Keeps cut cut (Took (w.word ForWord p) (Count_at n)) (r.for q p)
  unfolding r.for
  for p = nm.by_name (λ i. bind_plain decreasing (λ b. word (k.Word InWord) refl refl (λ s. bind (ke.interval n q inner) (λ x. done (Some (For p i b x)) (λ ws us o d us1 d1. (g.for d1 d.0, alone d.1))))))

  through : (p : Place) → Keeps cut cut (Took (w.word ThroughWord p) (Count_at n)) (r.through q p)
  unfolding r.through
  through p = bind (ke.interval n q inner) (λ x. done (Some (Through p x)) (λ ws us o d. (g.through d.0, alone d.1)))

  count : Keeps cut cut (Count_at n) (r.count q)
  unfolding r.count
  count = option_or (k.Word ForWord) for (option_or (k.Word ThroughWord) through (done None (λ ws. (g.no_count, refl))))

  condition : Keeps cut cut (Condition_at n) (r.condition q)
  unfolding r.condition
  condition = option_or (k.Word WhileWord) (λ p. bind inner.an_expr (λ x. done (Some (While p x)) (λ ws us o d. (g.while d.0, alone d.1))))
      (option_or (k.Word UntilWord) (λ p. bind inner.an_expr (λ x. done (Some (Until p x)) (λ ws us o d. (g.until d.0, alone d.1)))) (done None (λ ws. (g.no_condition, refl))))

  control : Keeps cut cut (Control_at n) (r.control q)
  unfolding r.control
  control = bind count (λ a. bind condition (λ b. done (g.control a b) (λ ws us o d us1 o1 d1. (g.controlled d1.0 d.0, both d1.1 d.1))))

  -- ---- lists of statements

  pub stmts_step : (all : List Statement) (p : Place) → Keeps cut cut (Took (mark Semicolon p) (Then (Stmts_at n) (Stmts_at n) all)) (r.stmts_step q all)
  stmts_step all p = bind inner.a_stmt (λ x. done (all ++ x ∷ []) (λ ws us o d us1 o1 d1. (g.stmts d1.0 d.0, both d1.1 d.1)))

  pub stmts_eats : Eats (ended_turn semicolon begins_stmt (r.stmts_step q))
  stmts_eats = ended_eats (λ all. Took (mark Semicolon somewhere) (Then (Stmts_at n) (Stmts_at n) all)) semicolon begins_stmt (r.stmts_step q) (λ all. stmts_step all somewhere)

  pub stmts : (pre : List Token → List Token) (b : Option Identifier) → Keeps cut cut (Pre pre (Stmt_at n)) (q.stmt b) → Keeps cut cut (Pre pre (Body_at n)) (r.stmts q b)
  unfolding r.stmts
  stmts pre b item = listed {I = Pre pre (Stmt_at n)} (Stmts_at n) (Body_at n) pre (λ x. x ∷ []) (λ us rest x o d. (g.a_stmt d.0, single d.1)) item
      (ended_keeps (Stmts_at n) (Body_at n) semicolon begins_stmt (r.stmts_step q) stmts_step (λ all ws us o d. (g.open_stmts d.0, alone d.1)) (λ all p ws us o d. (g.closed_stmts d.0, alone d.1)))

  pub body : Keeps cut cut (Body_at n) (r.body q)
  unfolding r.body
  body = when_keeps begins_stmt (stmts (λ z. z) None inner.a_stmt) (done [] (λ ws. (g.no_stmts, refl)))

  exit : Keeps cut cut (Exit_at n) (r.exit q)
  unfolding r.exit
  exit = bind_plain nm.names (λ ns. word (k.Mark DoubleArrow) refl refl (λ p. bind inner.a_stmt (λ x. done (labeled ns x) (λ ws us o d us1 d1. (g.exit_of d1 d.0, alone d.1)))))

  pub exits_step : (all : List Exit) (p : Place) → Keeps cut cut (Took (mark Semicolon p) (Then (Exits_at n) (Exits_at n) all)) (r.exits_step q all)
  exits_step all p = bind exit (λ x. done (all ++ x ∷ []) (λ ws us o d us1 o1 d1. (g.exits d1.0 d.0, both d1.1 d.1)))

  pub exits_eats : Eats (ended_turn semicolon begins_label (r.exits_step q))
  exits_eats = ended_eats (λ all. Took (mark Semicolon somewhere) (Then (Exits_at n) (Exits_at n) all)) semicolon begins_label (r.exits_step q) (λ all. exits_step all somewhere)

  exits : (p : Place) → Keeps cut cut (Took (w.word ExitsWord p) (ExitPart_at n)) (r.exits q)
  unfolding r.exits
  exits p = listed {I = Exit_at n} (Exits_at n) (Took (w.word ExitsWord p) (ExitPart_at n)) (λ z. z) (λ x. x ∷ []) (λ us rest x o d. (g.an_exit d.0, single d.1)) exit
      (ended_keeps (Exits_at n) (Took (w.word ExitsWord p) (ExitPart_at n)) semicolon begins_label (r.exits_step q) exits_step (λ all ws us o d. (g.open_exits d.0, alone d.1)) (λ all s ws us o d. (g.closed_exits d.0, alone d.1)))

  pub exit_part : Keeps cut cut (ExitPart_at n) (r.exit_part q)
  unfolding r.exit_part
  exit_part = option_or (k.Word ExitsWord) exits (done [] (λ ws. (g.no_exits, refl)))

  an_end : Keeps cut cut (Repeat_at n) (r.an_end q)
  unfolding r.an_end
  an_end = bind_plain nm.repeat_labels (λ l. word (k.Mark DoubleArrow) refl refl (λ p. bind inner.a_stmt (λ x. done (labeled l x) (λ ws us o d us1 d1. (g.repeat_of d1 d.0, alone d.1)))))

  pub repeats_step : (all : List Repeat) (p : Place) → Keeps cut cut (Took (mark Semicolon p) (Then (Repeats_at n) (Repeats_at n) all)) (r.repeats_step q all)
  repeats_step all p = bind an_end (λ x. done (all ++ x ∷ []) (λ ws us o d us1 o1 d1. (g.repeats d1.0 d.0, both d1.1 d.1)))

  pub repeats_eats : Eats (ended_turn semicolon begins_repeat (r.repeats_step q))
  repeats_eats = ended_eats (λ all. Took (mark Semicolon somewhere) (Then (Repeats_at n) (Repeats_at n) all)) semicolon begins_repeat (r.repeats_step q) (λ all. repeats_step all somewhere)

  repeats : (p : Place) → Keeps cut cut (Took (w.word RepeatWord p) (RepeatPart_at n)) (r.repeats q)
  unfolding r.repeats
  repeats p = listed {I = Repeat_at n} (Repeats_at n) (Took (w.word RepeatWord p) (RepeatPart_at n)) (λ z. z) (λ x. x ∷ []) (λ us rest x o d. (g.a_repeat d.0, single d.1)) an_end
      (ended_keeps (Repeats_at n) (Took (w.word RepeatWord p) (RepeatPart_at n)) semicolon begins_repeat (r.repeats_step q) repeats_step (λ all ws us o d. (g.open_repeats d.0, alone d.1)) (λ all s ws us o d. (g.closed_repeats d.0, alone d.1)))

  repeat_part : Keeps cut cut (RepeatPart_at n) (r.repeat_part q)
  unfolding r.repeat_part
  repeat_part = option_or (k.Word RepeatWord) repeats (done [] (λ ws. (g.no_repeats, refl)))

  enable_many : (p s : Place) → Keeps cut cut (Took (w.word BeginWord s) (Took (w.word EnableWord p) (Enabling_at n))) (r.enable_many q p)
  unfolding r.enable_many
  enable_many p s = bind (ke.arm_list n q inner) (λ all. word (k.Word EndWord) refl refl (λ u. word semicolon refl refl (λ v. done (Some (placed p all)) (λ ws us o d. (g.enable_many d.0, alone d.1)))))

  enable_one : (p : Place) → Keeps cut cut (Took (w.word EnableWord p) (Enabling_at n)) (r.enable_one q p)
  unfolding r.enable_one
  enable_one p = bind (ke.arm n q inner) (λ a. word semicolon refl refl (λ v. done (Some (placed p (a ∷ []))) (λ ws us o d. (g.enable_one d.0, alone d.1))))

  pub enabling : Keeps cut cut (Enabling_at n) (r.enabling q)
  unfolding r.enabling
  enabling = option_or (k.Word EnableWord) (λ p. option_or (k.Word BeginWord) (enable_many p) (enable_one p)) (done None (λ ws. (g.no_enable, refl)))

  -- ---- blocks

  valued : (x : TypeExp) → Keeps cut cut (Then (Type_at n) (Plain_at n) x) (r.valued q x)
  unfolding r.valued
  valued x = option_or (k.Mark Arrow) (λ p. bind inner.an_expr (λ y. done (Initial x y) (λ ws us o d us1 o1 d1. (g.initial d1.0 d.0, both d1.1 d.1))))
      (option_or (k.Mark Equal) (λ p. bind inner.an_expr (λ y. done (Constant x y) (λ ws us o d us1 o1 d1. (g.constant d1.0 d.0, both d1.1 d.1)))) (done (Variable x) (λ ws us1 o1 d1. (g.variable d1.0, alone d1.1))))

  type_is : (p : Place) → Keeps cut cut (Took (w.word TypeWord p) (Plain_at n)) (r.type_is q)
  unfolding r.type_is
  type_is p = word (k.Mark Equal) refl refl (λ s. bind inner.a_type (λ x. done (TypeIs x) (λ ws us o d. (g.type_is d.0, alone d.1))))

  typed : Keeps cut cut (Plain_at n) (r.typed q)
  unfolding r.typed
  typed = bind inner.a_type valued

  pub plain : Keeps cut cut (Plain_at n) (r.plain q)
  unfolding r.plain
  plain = option_or (k.Word TypeWord) type_is typed

  -- with the semicolon behind it
  abbrev pub Closed : {X : Type 0} → Rel X → Rel X
  Closed I ts x rest o = (p : Place) × I ts x (mark Semicolon p ∷ rest) o

  local : (i : Identifier) → Keeps cut cut (Took (spelled i) (Closed (Local_at n))) (r.local q i)
  unfolding r.local
  local i = bind_plain {P = λ ts ns rest. g.IsNames (spelled i ∷ ts) ns rest} (nm.names_from i) (λ ns. word (k.Mark Colon) refl refl (λ p. bind plain (λ x. word semicolon refl refl (λ s. done (labeled ns x) (λ ws us o d us1 d1. (s, (g.local_of d1 d.0, alone d.1)))))))

  -- declarations, and the statements behind them
  pub record HeadIs (ts : List Token) (h : Head Local) (rest : List Token) (o : Option (List Token)) : Type 0 where
    pub mid : List Token
    pub o1 : Option (List Token)
    pub o2 : Option (List Token)
    pub locals : Locals_at n ts h.0 mid o1
    pub body : Body_at n mid h.1 rest o2
    pub is : o ≡ first o1 o2

  head_end : (ls : List Local) → Keeps cut cut (Steps (Locals_at n) HeadIs ls) (r.head_end q ls)
  unfolding r.head_end
  head_end ls = bind body (λ ss. done (Done (ls, ss)) (λ ws us o d us0 o0 d0. record { mid = us; o1 = o0; o2 = o; locals = d0; body = d; is = ap (λ z. first o0 z) (first_none o) }))

  head_from : q.can ≡ true → (ls : List Local) (i : Identifier) → Keeps cut cut (Took (spelled i) (Steps (Locals_at n) HeadIs ls)) (r.head_from q ls i)
  unfolding r.head_from
  head_from may ls i = when_keeps (r.declares q) (bind (local i) (λ l. done (Again (ls ++ l ∷ [])) (λ ws us o d us0 o0 d0. (g.locals d0.0 d.1.0, both d0.1 d.1.1))))
      (bind (stmts (λ z. spelled i ∷ z) (Some i) (inner.stmt_from may i)) (λ ss. done (Done (ls, ss)) (λ ws us o d us0 o0 d0. record { mid = spelled i ∷ us; o1 = o0; o2 = o; locals = d0; body = d; is = ap (λ z. first o0 z) (first_none o) })))

  head_turn : (ls : List Local) → Keeps cut cut (Steps (Locals_at n) HeadIs ls) (r.head_turn q ls)
  unfolding r.head_turn
  head_turn ls = either q.can (λ may. nm.name_or (head_from may ls) (head_end ls)) (head_end ls)

  head_stops : (ls : List Local) → Sample cut cut (Then (Locals_at n) HeadIs ls)
  head_stops ls = record { text = []; made = (ls, []); viable = λ ws e. (None, (λ us o d. record { mid = ws; o1 = o; o2 = None; locals = d; body = (g.no_stmts, refl); is = refl }), e) }

  pub head_eats : Eats (r.head_turn q)
  unfolding r.head_turn r.head_from r.head_end
  head_eats = eats_by (λ ls. less_either q.can (less_choose _ _ _ (λ name p. no_more_when _ _ _ (no_more_goes (λ l. ls ++ l ∷ []) (local (identifier name p))) (no_more_done (r.stmts q (Some (identifier name p))) (λ ss. (ls, ss)))) (less_done (r.body q) (λ ss. (ls, ss)))) (less_done (r.body q) (λ ss. (ls, ss))))

  pub head : Keeps cut cut HeadIs (repeat (r.head_turn q) [])
  head = imply (λ ts h rest o d. d ts None (g.no_locals, refl)) (growing (Locals_at n) HeadIs (r.head_turn q) head_eats head_turn head_stops [])

  -- a block that ends in this kind of token
  pub block : (last : Kind) (p : Place) (R : Rel Block) → exactly last last ≡ Some tt → cut last ≡ false
      → ((ts us vs ws rest : List Token) (e : Option (Placed (List Arm))) (ls : List Local) (ss : List Statement) (xs : List Exit) (s : Place) (o1 o2 o3 o4 : Option (List Token)) → Enabling_at n ts e us o1 → Locals_at n us ls vs o2 → Body_at n vs ss ws o3 → ExitPart_at n ws xs (token last s ∷ rest) o4 → R ts (g.block p e ls ss xs) rest (first o1 (first o2 (first o3 (first o4 None)))))
      → Keeps cut cut R (r.block q last p)
  unfolding r.block
  block last p R same free row = bind enabling (λ e. bind head (λ h. bind exit_part (λ xs. word last same free (λ s. done (g.block p e h.0 h.1 xs) (λ ws us o d us1 o1 d1 us0 o0 d0.
      subst (λ z. R us0 (g.block p e h.0 h.1 xs) ws (first o0 z)) (sym (first_assoc d1.o1 d1.o2 (first o None)) ∙ sym (ap (λ z. first z (first o None)) d1.is))
      (row us0 us1 d1.mid us ws e h.0 h.1 xs s o0 d1.o1 d1.o2 o d0 d1.locals d1.body d))))))

  pub begin_block : (p : Place) → Keeps cut cut (Took (w.word BeginWord p) (Block_at n)) (r.block q (k.Word EndWord) p)
  begin_block p = block (k.Word EndWord) p (Took (w.word BeginWord p) (Block_at n)) refl refl (λ ts us vs ws rest e ls ss xs s o1 o2 o3 o4 a b c d. (g.begin_end a.0 b.0 c.0 d.0, four a.1 b.1 c.1 d.1))

  pub brace_block : (p : Place) → Keeps cut cut (Took (mark LeftBrace p) (Block_at n)) (r.block q (k.Mark RightBrace) p)
  brace_block p = block (k.Mark RightBrace) p (Took (mark LeftBrace p) (Block_at n)) refl refl (λ ts us vs ws rest e ls ss xs s o1 o2 o3 o4 a b c d. (g.braces a.0 b.0 c.0 d.0, four a.1 b.1 c.1 d.1))

  -- ---- SELECT

  after_not : q.can ≡ true → (p : Place) (kind : Kind) → negating kind ≡ Some tt → Keeps cut cut (Took (token kind p) (Test_at n)) (r.after_not q p)
  unfolding r.after_not
  after_not may p kind h = choose_or (λ v s other f. bind (ke.sum n q inner) (λ x. done (Compared true v s x) (λ ws us o d. (g.compared (g.negated h) f d.0, alone d.1))))
      (option_or (k.Word InWord) (λ s. bind (ke.interval n q inner) (λ i. done (Inside true s i) (λ ws us o d. (g.inside (g.negated h) d.0, alone d.1))))
      (bind (inner.expr_not may p kind h) (λ x. done (Value x) (λ ws us o d. (g.value d.0, alone d.1)))))

  unnegated : Keeps cut cut (Test_at n) (r.unnegated q)
  unfolding r.unnegated
  unnegated = choose_or (λ v s other f. bind (ke.sum n q inner) (λ x. done (Compared false v s x) (λ ws us o d. (g.compared g.affirmed f d.0, alone d.1))))
      (option_or (k.Word InWord) (λ s. bind (ke.interval n q inner) (λ i. done (Inside false s i) (λ ws us o d. (g.inside g.affirmed d.0, alone d.1))))
      (bind inner.an_expr (λ x. done (Value x) (λ ws us o d. (g.value d.0, alone d.1)))))

  test : Keeps cut cut (Test_at n) (r.test q)
  unfolding r.test
  test = either q.can (λ may. choose_or (λ o p kind h. after_not may p kind h) unnegated) unnegated

  pub tests_step : (all : List TestTree) (o : Unit {0}) (p : Place) (kind : Kind) → comma kind ≡ Some o → Keeps cut cut (Took (token kind p) (Then (Tests_at n) (Tests_at n) all)) (r.tests_step q all o p)
  tests_step all = of_kind cut cut (Then (Tests_at n) (Tests_at n) all) (r.tests_step q all tt) (k.Mark Comma) (λ p. bind test (λ x. done (all ++ x ∷ []) (λ ws us o d us1 o1 d1. (g.tests d1.0 d.0, both d1.1 d.1))))

  pub tests_eats : Eats (many_turn comma (r.tests_step q))
  tests_eats = many_eats (λ all t. Took t (Then (Tests_at n) (Tests_at n) all)) comma (r.tests_step q) tests_step

  case : Keeps cut cut (Case_at n) (r.case q)
  unfolding r.case
  case = bind test (λ t. bind (many_keeps (Tests_at n) comma (r.tests_step q) tests_step (t ∷ [])) (λ all. word (k.Mark DoubleArrow) refl refl (λ p. bind inner.a_stmt (λ x. done (g.case all x)
      (λ ws us o d us1 o1 d1 us0 o0 d0. let h = d1 us0 o0 (g.a_test d0.0, single d0.1) in (g.case_of h.0 d.0, both h.1 d.1 ∙ first_assoc o0 o1 (first o None)))))))

  pub cases_step : (all : List Case) (p : Place) → Keeps cut cut (Took (mark Semicolon p) (Then (Cases_at n) (Cases_at n) all)) (r.cases_step q all)
  cases_step all p = bind case (λ x. done (all ++ x ∷ []) (λ ws us o d us1 o1 d1. (g.cases d1.0 d.0, both d1.1 d.1)))

  pub cases_eats : Eats (ended_turn semicolon begins_test (r.cases_step q))
  cases_eats = ended_eats (λ all. Took (mark Semicolon somewhere) (Then (Cases_at n) (Cases_at n) all)) semicolon begins_test (r.cases_step q) (λ all. cases_step all somewhere)

  cases : Keeps cut cut (CaseList_at n) (r.cases q)
  unfolding r.cases
  cases = listed {I = Case_at n} (Cases_at n) (CaseList_at n) (λ z. z) (λ x. x ∷ []) (λ us rest x o d. (g.a_case d.0, single d.1)) case
      (ended_keeps (Cases_at n) (CaseList_at n) semicolon begins_test (r.cases_step q) cases_step (λ all ws us o d. (g.open_cases d.0, alone d.1)) (λ all p ws us o d. (g.closed_cases d.0, alone d.1)))

  case_list : Keeps cut cut (CaseList_at n) (r.case_list q)
  unfolding r.case_list
  case_list = when_keeps begins_test cases (done [] (λ ws. (g.no_cases, refl)))

  otherwise : Keeps cut cut (Otherwise_at n) (r.otherwise q)
  unfolding r.otherwise
  otherwise = option_or (k.Mark DoubleArrow) (λ p. bind inner.a_stmt (λ x. done (Some x) (λ ws us o d. (g.otherwise d.0, alone d.1)))) (done None (λ ws. (g.no_otherwise, refl)))

  select : (p : Place) → Keeps cut cut (Took (w.word SelectWord p) (Stmt_at (suc n))) (r.select q p)
  unfolding r.select
  select p = bind inner.an_expr (λ x. word (k.Word FromWord) refl refl (λ a. bind case_list (λ cs. word (k.Word EndcaseWord) refl refl (λ b. bind otherwise (λ y. done (s.Select p x cs y)
      (λ ws us o d us1 o1 d1 us0 o0 d0. (g.select d0.0 d1.0 d.0, three d0.1 d1.1 d.1)))))))

  -- ---- targets

  pub lefts_step : (all : List Left) (o : Unit {0}) (p : Place) (kind : Kind) → comma kind ≡ Some o → Keeps cut cut (Took (token kind p) (Then (Lefts_at n) (Lefts_at n) all)) (r.lefts_step q all o p)
  lefts_step all = of_kind cut cut (Then (Lefts_at n) (Lefts_at n) all) (r.lefts_step q all tt) (k.Mark Comma) (λ p. nm.by_name (λ i. bind (ke.left n q inner i) (λ ss. done (all ++ g.left i ss ∷ []) (λ ws us o d us1 o1 d1. (g.lefts d1.0 d.0, both d1.1 d.1)))))

  pub lefts_eats : Eats (many_turn comma (r.lefts_step q))
  lefts_eats = many_eats (λ all t. Took t (Then (Lefts_at n) (Lefts_at n) all)) comma (r.lefts_step q) lefts_step

  lefts : (i : Identifier) → Keeps cut cut (Took (spelled i) (Targets_at n)) (r.lefts q i)
  unfolding r.lefts
  lefts i = series {I = Took (spelled i) (Left_at n i)} (λ ss. Lefts_at n) (Targets_at n) (λ z. spelled i ∷ z) (λ ss. g.left i ss ∷ []) (λ ss all. InOrder all) (λ us rest ss o d. (g.a_left d.0, single d.1)) (λ us rest ss all o d. (g.targets d.0, single d.1)) (ke.left n q inner i)
      (λ ss. many_keeps (Lefts_at n) comma (r.lefts_step q) lefts_step (g.left i ss ∷ []))

  pub key_lefts_step : (all : List (Keyed Left)) (o : Unit {0}) (p : Place) (kind : Kind) → comma kind ≡ Some o → Keeps cut cut (Took (token kind p) (Then (KeyLefts_at n) (KeyLefts_at n) all)) (r.key_lefts_step q all o p)
  key_lefts_step all = of_kind cut cut (Then (KeyLefts_at n) (KeyLefts_at n) all) (r.key_lefts_step q all tt) (k.Mark Comma) (λ p. nm.by_name (λ j. word (k.Mark Colon) refl refl (λ s. nm.by_name (λ i. bind (ke.left n q inner i) (λ ss. done (all ++ keyed j (g.left i ss) ∷ [])
      (λ ws us o d us1 o1 d1. (g.key_lefts d1.0 d.0, both d1.1 d.1)))))))

  pub key_lefts_eats : Eats (many_turn comma (r.key_lefts_step q))
  key_lefts_eats = many_eats (λ all t. Took t (Then (KeyLefts_at n) (KeyLefts_at n) all)) comma (r.key_lefts_step q) key_lefts_step

  key_lefts : (j : Identifier) (p : Place) → Keeps cut cut (Took (mark Colon p) (Took (spelled j) (Targets_at n))) (r.key_lefts q j)
  unfolding r.key_lefts
  key_lefts j p = nm.by_name (λ i. series {I = Took (spelled i) (Left_at n i)} (λ ss. KeyLefts_at n) (Targets_at n) (λ z. spelled j ∷ mark Colon p ∷ spelled i ∷ z) (λ ss. keyed j (g.left i ss) ∷ []) (λ ss all. ByKey all) (λ us rest ss o d. (g.key_left d.0, single d.1)) (λ us rest ss all o d. (g.key_targets d.0, single d.1)) (ke.left n q inner i)
      (λ ss. many_keeps (KeyLefts_at n) comma (r.key_lefts_step q) key_lefts_step (keyed j (g.left i ss) ∷ [])))

  targets_from : (i : Identifier) → Keeps cut cut (Took (spelled i) (Targets_at n)) (r.targets_from q i)
  unfolding r.targets_from
  targets_from i = option_or (k.Mark Colon) (key_lefts i) (lefts i)

  targets : Keeps cut cut (Targets_at n) (r.targets q)
  unfolding r.targets
  targets = nm.name_or targets_from (done Nothing (λ ws. (g.no_targets, refl)))

  extract : (p : Place) → Keeps cut cut (Took (mark LeftBracket p) (Stmt_at (suc n))) (r.extract q p)
  unfolding r.extract
  extract p = bind targets (λ x. word (k.Mark RightBracket) refl refl (λ u. word (k.Mark Arrow) refl refl (λ v. bind inner.an_expr (λ y. done (s.Extract p x y) (λ ws us o d us1 o1 d1. (g.extract d1.0 d.0, both d1.1 d.1))))))

  pub assigned : (i : Identifier) → Keeps cut cut (Took (spelled i) (Stmt_at (suc n))) (r.assigned q i)
  unfolding r.assigned
  assigned i = bind (ke.left n q inner i) (λ ss. option_or (k.Mark Arrow) (λ p. bind inner.an_expr (λ x. done (s.Assign (g.left i ss) x) (λ ws us o d us1 o1 d1. (g.assign d1.0 d.0, both d1.1 d.1))))
      (done (s.Call (g.left i ss)) (λ ws us1 o1 d1. (g.call d1.0, alone d1.1))))

  -- ---- statements

  -- after IF, the condition, THEN and the first statement
  abbrev After_then : Place → Place → Expr → Statement → Rel Statement
  After_then p v c x = Then (Stmt_at n) (Took (w.word ThenWord v) (Then (Expr_at n) (Took (w.word IfWord p) (Stmt_at (suc n))) c)) x

  alone_then : (p v : Place) (c : Expr) (x : Statement) (ws : List Token) → NoElse ws → After_then p v c x ws (s.If p c x None) ws None
  alone_then p v c x ws h us o d us1 o1 d1 = (g.if_then d1.0 d.0 h, both d1.1 d.1)

  else_part : (p v : Place) (c : Expr) (x : Statement) → Keeps cut cut (After_then p v c x) (r.else_part q p c x)
  unfolding r.else_part
  else_part p v c x = option_at (k.Word ElseWord) (record { text = []; made = s.If p c x None; viable = λ ws f. (None, alone_then p v c x ws (no_else_free ws f), f) })
      (λ u. bind inner.a_stmt (λ y. done (s.If p c x (Some y)) (λ ws us2 o2 d2 us o d us1 o1 d1. (g.if_else d1.0 d.0 d2.0, three d1.1 d.1 d2.1))))
      (λ ts free. ready (s.If p c x None) ts (λ ws f. f) (λ ws f. alone_then p v c x ws (no_else ts ws free f)))

  conditional : (p : Place) → Keeps cut cut (Took (w.word IfWord p) (Stmt_at (suc n))) (r.conditional q p)
  unfolding r.conditional
  conditional p = bind inner.an_expr (λ c. word (k.Word ThenWord) refl refl (λ v. bind inner.a_stmt (λ x. else_part p v c x)))

  loop : Keeps cut cut (Stmt_at (suc n)) (r.loop q)
  unfolding r.loop
  loop = bind control (λ c. word (k.Word DoWord) refl refl (λ p. bind enabling (λ e. bind body (λ ss. bind repeat_part (λ rs. word (k.Word EndloopWord) refl refl (λ v. done (s.Loop c p e ss rs)
      (λ ws us3 o3 d3 us2 o2 d2 us1 o1 d1 us0 o0 d0. (g.loop d0.0 d1.0 d2.0 d3.0, four d0.1 d1.1 d2.1 d3.1))))))))

  go_to : (p : Place) → Keeps cut cut (Took (w.word GoWord p) (Stmt_at (suc n))) (r.go_to q p)
  unfolding r.go_to
  go_to p = word (k.Word ToWord) refl refl (λ v. nm.by_name (λ i. done (s.Goto p i) (λ ws. (g.go_to, refl))))

  jump : (other : Parser Statement) → Keeps cut cut (Stmt_at (suc n)) other → Keeps cut cut (Stmt_at (suc n)) (r.jump q other)
  unfolding r.jump
  jump other h =
      option_or {l = cut} (k.Word ExitWord) (λ p. done (s.ExitLoop p) (λ ws. (g.exit_loop, refl))) (option_or {l = cut} (k.Word LoopWord) (λ p. done (s.NextTurn p) (λ ws. (g.next_turn, refl)))
      (option_or (k.Word GotoWord) (λ p. nm.by_name (λ i. done (s.Goto p i) (λ ws. (g.goto, refl)))) (option_or (k.Word GoWord) go_to
      (option_or (k.Word ReturnWord) (λ p. bind (ke.list_option n q inner) (λ x. done (s.Return p x) (λ ws us o d. (g.return d.0, alone d.1)))) (option_or (k.Word ResumeWord) (λ p. bind (ke.list_option n q inner) (λ x. done (s.Resume p x) (λ ws us o d. (g.resume d.0, alone d.1))))
      (option_or {l = cut} (k.Word RejectWord) (λ p. done (s.Reject p) (λ ws. (g.reject, refl))) (option_or {l = cut} (k.Word RetryWord) (λ p. done (s.Retry p) (λ ws. (g.retry, refl))) (option_or {l = cut} (k.Word ContinueWord) (λ p. done (s.Continue p) (λ ws. (g.continue, refl))) h))))))))

  pub statement : Keeps cut cut (Stmt_at (suc n)) (r.statement q None)
  unfolding r.statement
  statement = nm.name_or assigned (option_or {l = cut} (k.Word NullWord) (λ p. done (s.Null p) (λ ws. (g.null, refl)))
      (option_or (k.Word BeginWord) (λ p. bind (begin_block p) (λ b. done (s.Nested b) (λ ws us o d. (g.nested d.0, alone d.1)))) (option_or (k.Mark LeftBrace) (λ p. bind (brace_block p) (λ b. done (s.Nested b) (λ ws us o d. (g.nested d.0, alone d.1))))
      (option_or (k.Mark LeftBracket) extract (option_or (k.Word IfWord) conditional (option_or (k.Word SelectWord) select
      (jump _ (when_keeps (among raise_starts) (bind (ke.raise n q inner) (λ x. done (s.RaiseStatement x) (λ ws us o d. (g.raise d.0, alone d.1)))) loop))))))))

  pub statement_from : (i : Identifier) → Keeps cut cut (Took (spelled i) (Stmt_at (suc n))) (r.statement q (Some i))
  unfolding r.statement
  statement_from i = assigned i
