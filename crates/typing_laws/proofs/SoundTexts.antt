-- The string literals of a text: no two are equal, and each keeps its limit where the text does.
use Rattle.std.proofs.Common.{◌≡◌, ℕ, zero, suc, List, [], ◌∷◌, ◌++◌, length, refl, sym, ◌∙◌, subst, arith, inl, inr, ◌⊎◌}
use Rattle.std.specs.Prelude.{◌≤◌, Bool, true, false, ◌||◌, Option, Some, None, All, Contains, bytes_eq, take, if◌then◌else◌}
use Rattle.std.proofs.lemmas.List.Elements.{All-nil, All-cons, All-take, All-head, All-tail}
use Rattle.mesa_base.specs.declared.limits.TheConstants.{DISTINCT_STRINGS, STRING_BYTES}
use Rattle.syntax_trees.specs.Syntax as s
use Rattle.mesa_types.specs.Sound as sound
use Rattle.check_rules.specs.Scopes.{has}
use Rattle.check_rules.specs.Mentions.{Mention, Text, Made, of_type, of_fields, of_named, of_types, of_interval, of_expr, of_steps, of_left, of_suffixes, of_brackets, of_items, of_exprs, of_keyed, of_raise, of_maybe, of_phrase, of_arms, of_stmt, of_other, of_values, of_targets, of_lefts, of_keyed_lefts, of_stmts, of_control, of_count, of_condition, of_cases, of_tests, of_block, of_locals, of_plain, of_exits, of_repeats, of_maybe_fields, of_head, of_declared, of_declarations, texts}
use Rattle.check_rules.specs.Written.{TypeWritten, FieldsWritten, NamedWritten, TypesWritten, IntervalWritten, ExprWritten, StepsWritten, LeftWritten, SuffixesWritten, BracketsWritten, ItemsWritten, ExprsWritten, KeyedWritten, RaiseWritten, MaybeWritten, PhraseWritten, ArmsWritten, StatementWritten, OtherWritten, ValuesWritten, TargetsWritten, LeftsWritten, KeyedLeftsWritten, StatementsWritten, ControlWritten, CountWritten, ConditionWritten, CasesWritten, TestsWritten, BlockWritten, LocalsWritten, ItemWritten, ExitsWritten, RepeatsWritten, MaybeFieldsWritten, HeadWritten, DeclaredWritten, DeclarationWritten, InnerWritten}
use Rattle.check_rules.proofs.SoundTypes.{no_truth}
use Rattle.check_rules.proofs.SoundSame.{bytes_itself}

-- ---- each literal keeps its limit
unfoldable pub EachShort : List Mention → Type 0
EachShort [] = Unit {0}
EachShort (Text x ∷ ms) = (length x ≤ STRING_BYTES) × EachShort ms
EachShort (Made n ∷ ms) = EachShort ms

both_short : (xs ys : List Mention) → EachShort xs → EachShort ys → EachShort (xs ++ ys)
unfolding EachShort
both_short [] ys h k = k
both_short (Text x ∷ xs) ys h k = (h.0, both_short xs ys h.1 k)
both_short (Made n ∷ xs) ys h k = both_short xs ys h k

mutual
  unfolding EachShort of_type TypeWritten

  short_type : (y : s.TypeExp) → TypeWritten y → EachShort (of_type y)
  short_type (s.Enumeration p xs) h = tt
  short_type (s.Subrange b i) h = short_interval i h
  short_type (s.Array p i e) h = both_short (of_type i) (of_type e) (short_type i h.0) (short_type e h.1)
  short_type (s.Record p fs) h = short_fields fs h.1
  short_type (s.Integer p) h = tt
  short_type (s.Cardinal p) h = tt
  short_type (s.LongInteger p) h = tt
  short_type (s.LongCardinal p) h = tt
  short_type (s.Boolean p) h = tt
  short_type (s.Character p) h = tt
  short_type (s.String p) h = tt
  short_type (s.Called q) h = tt

  short_fields : (y : s.FieldList) → FieldsWritten y → EachShort (of_fields y)
  short_fields (s.WithNames fs) h = short_named fs h
  short_fields (s.Unnamed ts) h = short_types ts h

  short_named : (y : s.NamedFields) → NamedWritten y → EachShort (of_named y)
  short_named s.NoFields h = tt
  short_named (s.AndFields xs e fs) h = both_short (of_type e) (of_named fs) (short_type e h.1) (short_named fs h.2)

  short_types : (y : s.TypeExps) → TypesWritten y → EachShort (of_types y)
  short_types s.NoTypes h = tt
  short_types (s.AndType e es) h = both_short (of_type e) (of_types es) (short_type e h.0) (short_types es h.1)

  short_interval : (y : s.Interval) → IntervalWritten y → EachShort (of_interval y)
  short_interval (s.Between p x low high y) h = both_short (of_expr low) (of_expr high) (short_expr low h.0) (short_expr high h.1)

  short_expr : (y : s.Expr) → ExprWritten y → EachShort (of_expr y)
  short_expr (s.Run e ss) h = both_short (of_expr e) (of_steps ss) (short_expr e h.0) (short_steps ss h.1)
  short_expr (s.Not p e) h = short_expr e h
  short_expr (s.Compare d b o p e) h = both_short (of_expr d) (of_expr e) (short_expr d h.0) (short_expr e h.1)
  short_expr (s.Within e b p i) h = both_short (of_expr e) (of_interval i) (short_expr e h.0) (short_interval i h.1)
  short_expr (s.Signed x p e) h = short_expr e h
  short_expr (s.StringLiteral p bytes) h = (h, tt)
  short_expr (s.Parenthesis p e) h = short_expr e h
  short_expr (s.Reference l) h = short_left l h
  short_expr (s.Constructor p items) h = short_items items h
  short_expr (s.Raised r) h = short_raise r h
  short_expr (s.NumberLiteral p n) h = tt
  short_expr (s.CharacterLiteral p n) h = tt
  short_expr (s.Truth p b) h = tt

  short_steps : (y : s.Operations) → StepsWritten y → EachShort (of_steps y)
  short_steps s.NoOperation h = tt
  short_steps (s.AndOperation o p e ss) h = both_short (of_expr e) (of_steps ss) (short_expr e h.0) (short_steps ss h.1)

  short_left : (y : s.Left) → LeftWritten y → EachShort (of_left y)
  short_left (s.LeftOf x ss) h = short_suffixes ss h

  short_suffixes : (y : s.Suffixes) → SuffixesWritten y → EachShort (of_suffixes y)
  short_suffixes s.NoSuffix h = tt
  short_suffixes (s.Field x ss) h = short_suffixes ss h
  short_suffixes (s.Applied b ss) h = both_short (of_brackets b) (of_suffixes ss) (short_brackets b h.0) (short_suffixes ss h.1)

  short_brackets : (y : s.Brackets) → BracketsWritten y → EachShort (of_brackets y)
  short_brackets (s.BracketsOf p items ph) h = both_short (of_items items) (of_phrase ph) (short_items items h.0) (short_phrase ph h.1)

  short_items : (y : s.Items) → ItemsWritten y → EachShort (of_items y)
  short_items s.Nothing h = tt
  short_items (s.InOrder es) h = short_exprs es h
  short_items (s.ByKey es) h = short_keyed es h

  short_exprs : (y : s.Exprs) → ExprsWritten y → EachShort (of_exprs y)
  short_exprs s.NoExprs h = tt
  short_exprs (s.AndExpr e es) h = both_short (of_expr e) (of_exprs es) (short_expr e h.0) (short_exprs es h.1)

  short_keyed : (y : s.KeyedExprs) → KeyedWritten y → EachShort (of_keyed y)
  short_keyed s.NoKeyedExprs h = tt
  short_keyed (s.AndKeyedExpr x e es) h = both_short (of_expr e) (of_keyed es) (short_expr e h.0) (short_keyed es h.1)

  short_raise : (y : s.Raise) → RaiseWritten y → EachShort (of_raise y)
  short_raise (s.SignalRaise p q b) h = short_maybe b h
  short_raise (s.ErrorRaise p q b) h = short_maybe b h
  short_raise (s.UnnamedError p) h = tt

  short_maybe : (y : s.MaybeBrackets) → MaybeWritten y → EachShort (of_maybe y)
  short_maybe s.NoBrackets h = tt
  short_maybe (s.WithBrackets b) h = short_brackets b h

  short_phrase : (y : s.Phrase) → PhraseWritten y → EachShort (of_phrase y)
  short_phrase s.NoPhrase h = tt
  short_phrase (s.Catch p arms) h = short_arms arms h.1

  short_arms : (y : s.Arms) → ArmsWritten y → EachShort (of_arms y)
  short_arms s.NoArms h = tt
  short_arms (s.AndArm ls body arms) h = both_short (of_stmt body) (of_arms arms) (short_stmt body h.1) (short_arms arms h.2)

  short_stmt : (y : s.Statement) → StatementWritten y → EachShort (of_stmt y)
  short_stmt (s.Nested b) h = short_block b h
  short_stmt (s.Assign l e) h = both_short (of_left l) (of_expr e) (short_left l h.0) (short_expr e h.1)
  short_stmt (s.Extract p ts e) h = both_short (of_targets ts) (of_expr e) (short_targets ts h.0) (short_expr e h.1)
  short_stmt (s.Call l) h = short_left l h
  short_stmt (s.RaiseStatement r) h = short_raise r h
  short_stmt (s.If p e body other) h = both_short (of_expr e) (of_stmt body ++ (of_other other)) (short_expr e h.0) (both_short (of_stmt body) (of_other other) (short_stmt body h.1) (short_other other h.2))
  short_stmt (s.Select p e cs other) h = both_short (of_expr e) (of_cases cs ++ (of_other other)) (short_expr e h.0) (both_short (of_cases cs) (of_other other) (short_cases cs h.1) (short_other other h.2))
  short_stmt (s.Loop c p ph ss rs) h = both_short (of_control c) (of_phrase ph ++ (of_stmts ss ++ (of_repeats rs))) (short_control c h.0) (both_short (of_phrase ph) (of_stmts ss ++ (of_repeats rs)) (short_phrase ph h.1) (both_short (of_stmts ss) (of_repeats rs) (short_stmts ss h.2) (short_repeats rs h.3)))
  short_stmt (s.Return p items) h = short_values items h
  short_stmt (s.Resume p items) h = short_values items h
  short_stmt (s.Null p) h = tt
  short_stmt (s.ExitLoop p) h = tt
  short_stmt (s.NextTurn p) h = tt
  short_stmt (s.Goto p x) h = tt
  short_stmt (s.Reject p) h = tt
  short_stmt (s.Retry p) h = tt
  short_stmt (s.Continue p) h = tt

  short_other : (y : s.MaybeStatement) → OtherWritten y → EachShort (of_other y)
  short_other s.NoStatement h = tt
  short_other (s.OneStatement body) h = short_stmt body h

  short_values : (y : s.MaybeItems) → ValuesWritten y → EachShort (of_values y)
  short_values s.NoItems h = tt
  short_values (s.WithItems p items) h = short_items items h

  short_targets : (y : s.Targets) → TargetsWritten y → EachShort (of_targets y)
  short_targets s.NoTarget h = tt
  short_targets (s.TargetsInOrder ls) h = short_lefts ls h
  short_targets (s.TargetsByKey ls) h = short_keyed_lefts ls h

  short_lefts : (y : s.Lefts) → LeftsWritten y → EachShort (of_lefts y)
  short_lefts s.NoLefts h = tt
  short_lefts (s.AndLeft l ls) h = both_short (of_left l) (of_lefts ls) (short_left l h.0) (short_lefts ls h.1)

  short_keyed_lefts : (y : s.KeyedLefts) → KeyedLeftsWritten y → EachShort (of_keyed_lefts y)
  short_keyed_lefts s.NoKeyedLefts h = tt
  short_keyed_lefts (s.AndKeyedLeft x l ls) h = both_short (of_left l) (of_keyed_lefts ls) (short_left l h.0) (short_keyed_lefts ls h.1)

  short_stmts : (y : s.Statements) → StatementsWritten y → EachShort (of_stmts y)
  short_stmts s.NoStatements h = tt
  short_stmts (s.AndStatement body ss) h = both_short (of_stmt body) (of_stmts ss) (short_stmt body h.0) (short_stmts ss h.1)

  short_control : (y : s.Control) → ControlWritten y → EachShort (of_control y)
  short_control (s.ControlOf n c) h = both_short (of_count n) (of_condition c) (short_count n h.0) (short_condition c h.1)

  short_count : (y : s.Count) → CountWritten y → EachShort (of_count y)
  short_count s.NoCount h = tt
  short_count (s.For p x down i) h = short_interval i h
  short_count (s.Through p i) h = short_interval i h

  short_condition : (y : s.Condition) → ConditionWritten y → EachShort (of_condition y)
  short_condition s.Always h = tt
  short_condition (s.While p e) h = short_expr e h
  short_condition (s.Until p e) h = short_expr e h

  short_cases : (y : s.Cases) → CasesWritten y → EachShort (of_cases y)
  short_cases s.NoCases h = tt
  short_cases (s.AndCase ts body cs) h = both_short (of_tests ts) (of_stmt body ++ (of_cases cs)) (short_tests ts h.1) (both_short (of_stmt body) (of_cases cs) (short_stmt body h.2) (short_cases cs h.3))

  short_tests : (y : s.Tests) → TestsWritten y → EachShort (of_tests y)
  short_tests s.NoTests h = tt
  short_tests (s.Value e ts) h = both_short (of_expr e) (of_tests ts) (short_expr e h.0) (short_tests ts h.1)
  short_tests (s.Compared b o p e ts) h = both_short (of_expr e) (of_tests ts) (short_expr e h.0) (short_tests ts h.1)
  short_tests (s.Inside b p i ts) h = both_short (of_interval i) (of_tests ts) (short_interval i h.0) (short_tests ts h.1)

  short_block : (y : s.Block) → BlockWritten y → EachShort (of_block y)
  short_block (s.BlockOf p ph locals ss es) h = both_short (of_phrase ph) (of_locals locals ++ (of_stmts ss ++ (of_exits es))) (short_phrase ph h.0) (both_short (of_locals locals) (of_stmts ss ++ (of_exits es)) (short_locals locals h.1) (both_short (of_stmts ss) (of_exits es) (short_stmts ss h.2) (short_exits es h.3)))

  short_locals : (y : s.Locals) → LocalsWritten y → EachShort (of_locals y)
  short_locals s.NoLocals h = tt
  short_locals (s.AndLocal xs d rest) h = both_short (of_plain d) (of_locals rest) (short_plain d h.1) (short_locals rest h.2)

  short_plain : (y : s.PlainItem) → ItemWritten y → EachShort (of_plain y)
  short_plain (s.TypeIs e) h = short_type e h
  short_plain (s.Variable e) h = short_type e h
  short_plain (s.Initial e x) h = both_short (of_type e) (of_expr x) (short_type e h.0) (short_expr x h.1)
  short_plain (s.Constant e x) h = both_short (of_type e) (of_expr x) (short_type e h.0) (short_expr x h.1)

  short_exits : (y : s.Exits) → ExitsWritten y → EachShort (of_exits y)
  short_exits s.NoExits h = tt
  short_exits (s.AndExit xs body es) h = both_short (of_stmt body) (of_exits es) (short_stmt body h.1) (short_exits es h.2)

  short_repeats : (y : s.Repeats) → RepeatsWritten y → EachShort (of_repeats y)
  short_repeats s.NoRepeats h = tt
  short_repeats (s.AndRepeat ls body rs) h = both_short (of_stmt body) (of_repeats rs) (short_stmt body h.1) (short_repeats rs h.2)

maybe_short : (fs : Option s.FieldList) → MaybeFieldsWritten fs → EachShort (of_maybe_fields fs)
unfolding MaybeFieldsWritten EachShort
maybe_short None h = tt
maybe_short (Some fs) h = short_fields fs h

head_short : (hd : s.Head) → HeadWritten hd → EachShort (of_head hd)
unfolding HeadWritten
head_short hd h = both_short (of_maybe_fields hd.takes) (of_maybe_fields hd.gives) (maybe_short hd.takes h.0) (maybe_short hd.gives h.1)

declared_short : (d : s.Declared) → DeclaredWritten d → EachShort (of_declared d)
unfolding DeclaredWritten
declared_short (s.Procedure hd b) h = both_short (of_head hd) (of_block b) (head_short hd h.0) (short_block b h.1)
declared_short (s.Signal hd) h = head_short hd h
declared_short (s.Error takes) h = maybe_short takes h
declared_short (s.Data d) h = short_plain d h

declarations_short : (ds : List s.Declaration) → All DeclarationWritten ds → EachShort (of_declarations ds)
unfolding of_declarations DeclarationWritten EachShort
declarations_short [] h = tt
declarations_short (d ∷ ds) h = both_short (of_declared d.declared) (of_declarations ds)
    (declared_short d.declared (All-head DeclarationWritten d ds h).1) (declarations_short ds (All-tail DeclarationWritten d ds h))

pub program_short : (inner : s.Inner) → InnerWritten inner
    → EachShort (of_phrase inner.enable ++ (of_declarations inner.declarations ++ (of_stmts inner.statements ++ of_exits inner.exits)))
unfolding InnerWritten
program_short inner h = both_short (of_phrase inner.enable) _ (short_phrase inner.enable h.0) (both_short (of_declarations inner.declarations) _
    (declarations_short inner.declarations h.1) (both_short (of_stmts inner.statements) (of_exits inner.exits) (short_stmts inner.statements h.2)
    (short_exits inner.exits h.3)))

abbrev pub IsShort : List ℕ → Type 0
IsShort x = length x ≤ STRING_BYTES

pub texts_short : (before : List (List ℕ)) (ms : List Mention) → EachShort ms → All IsShort (texts before ms)
unfolding texts EachShort
texts_short before [] h = All-nil IsShort
texts_short before (Made n ∷ ms) h = texts_short before ms h
texts_short before (Text x ∷ ms) h = by (has x before) (texts_short before ms h.1) (texts_short (x ∷ before) ms h.1)
  where
    by : (b : Bool) → All IsShort (texts before ms) → All IsShort (texts (x ∷ before) ms)
        → All IsShort (if b then texts before ms else x ∷ texts (x ∷ before) ms)
    by true k l = k
    by false k l = All-cons IsShort x (texts (x ∷ before) ms) h.0 l

-- ---- no two literals are equal
abbrev NotAmong : List (List ℕ) → List ℕ → Type 0
NotAmong before x = has x before ≡ false

unfoldable Distinct : List (List ℕ) → List (List ℕ) → Type 0
Distinct before [] = Unit {0}
Distinct before (x ∷ xs) = NotAmong before x × Distinct (x ∷ before) xs

texts_distinct : (before : List (List ℕ)) (ms : List Mention) → Distinct before (texts before ms)
unfolding texts Distinct
texts_distinct before [] = tt
texts_distinct before (Made n ∷ ms) = texts_distinct before ms
texts_distinct before (Text x ∷ ms) = by (has x before) refl (texts_distinct before ms) (texts_distinct (x ∷ before) ms)
  where
    by : (b : Bool) → has x before ≡ b → Distinct before (texts before ms) → Distinct (x ∷ before) (texts (x ∷ before) ms)
        → Distinct before (if b then texts before ms else x ∷ texts (x ∷ before) ms)
    by true e k l = k
    by false e k l = (e, l)

-- among the first so many too
fewer_distinct : (n : ℕ) (before xs : List (List ℕ)) → Distinct before xs → Distinct before (take n xs)
unfolding Distinct
fewer_distinct zero before xs h = tt
fewer_distinct (suc n) before [] h = tt
fewer_distinct (suc n) before (x ∷ xs) h = (h.0, fewer_distinct n (x ∷ before) xs h.1)

cons_member : {A : Type 0} (y : A) (ys : List A) (x : A) → Contains (y ∷ ys) x → (y ≡ x) ⊎ Contains ys x
cons_member y ys x (zero, small, e) = inl e
cons_member y ys x (suc k, small, e) = inr (k, omega (arith, small), e)

neither_right : (a b : Bool) → (a || b) ≡ false → b ≡ false
neither_right true b e = no_truth (sym e)
neither_right false b e = e

neither_left : (a b : Bool) → (a || b) ≡ false → a ≡ false
neither_left true b e = e
neither_left false b e = refl

not_among : (before xs : List (List ℕ)) (x : List ℕ) → Distinct before xs → Contains xs x → has x before ≡ false
unfolding Distinct has
not_among before [] x h c = absurd (omega (arith, c.1))
not_among before (y ∷ xs) x h c = by (cons_member y xs x c) (not_among (y ∷ before) xs x h.1)
  where
    by : (y ≡ x) ⊎ Contains xs x → (Contains xs x → (bytes_eq x y || has x before) ≡ false) → has x before ≡ false
    by (inl e) more = subst (NotAmong before) e h.0
    by (inr d) more = neither_right (bytes_eq x y) (has x before) (more d)

all_differ : (before xs : List (List ℕ)) → Distinct before xs → sound.AllDiffer xs
unfolding Distinct sound.AllDiffer has
all_differ before [] h = tt
all_differ before (x ∷ xs) h = (λ c. itself (neither_left (bytes_eq x x) (has x before) (not_among (x ∷ before) xs x h.1 c)), all_differ (x ∷ before) xs h.1)
  where
    itself : bytes_eq x x ≡ false → ⊥
    itself e = no_truth (sym e ∙ bytes_itself x)

pub literals_differ : (ms : List Mention) → sound.AllDiffer (take DISTINCT_STRINGS (texts [] ms))
literals_differ ms = all_differ [] (take DISTINCT_STRINGS (texts [] ms)) (fewer_distinct DISTINCT_STRINGS [] (texts [] ms) (texts_distinct [] ms))

pub literals_short : (ms : List Mention) → EachShort ms → All IsShort (take DISTINCT_STRINGS (texts [] ms))
literals_short ms h = All-take IsShort DISTINCT_STRINGS (texts [] ms) (texts_short [] ms h)

pub few_literals : (xs : List (List ℕ)) (n : ℕ) → length (take n xs) ≤ n
few_literals xs zero = omega arith
few_literals [] (suc n) = omega arith
few_literals (x ∷ xs) (suc n) = omega (arith, few_literals xs n)
