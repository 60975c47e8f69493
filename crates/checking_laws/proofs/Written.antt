-- The string literals of a text, and the names that it declares, weigh no more than what stands in its tree.
use Rattle.std.specs.Prelude.{ℕ, zero, suc, ◌≡◌, ◌+◌, ◌≤◌, Bool, true, false, List, [], ◌∷◌, ◌++◌, Option, Some, None, length, take, if◌then◌else◌}
use Rattle.std.proofs.Common.{arith}
use Rattle.syntax_trees.specs.Syntax as s
use Rattle.check_rules.specs.Scopes.{has}
use Rattle.check_rules.specs.Mentions as text
use Rattle.check_rules.specs.Mentions.{Mention, Text, Made, texts}
use Rattle.checking_laws.specs.Sizes.{literal_bytes}
use Rattle.checking_laws.specs.Weights as tree
use Rattle.checking_laws.specs.Weights.{in_bytes}

unfoldable pub mention_bytes : List Mention → ℕ
mention_bytes [] = 0
mention_bytes (Text x ∷ ms) = length x + mention_bytes ms
mention_bytes (Made n ∷ ms) = mention_bytes ms

joined : (a b : List Mention) → mention_bytes (a ++ b) ≡ mention_bytes a + mention_bytes b
unfolding mention_bytes
joined [] b = omega arith
joined (Text x ∷ a) b = omega (arith, joined a b)
joined (Made n ∷ a) b = joined a b

-- a literal that stands twice is one of the module's
once_if : (b : Bool) (x : List ℕ) (xs ys : List (List ℕ)) (n : ℕ) → literal_bytes xs ≤ n → literal_bytes ys ≤ n
    → literal_bytes (if b then xs else (x ∷ ys)) ≤ length x + n
unfolding literal_bytes
once_if true x xs ys n h k = omega arith
once_if false x xs ys n h k = omega arith

texts_bytes : (before : List (List ℕ)) (ms : List Mention) → literal_bytes (texts before ms) ≤ mention_bytes ms
unfolding literal_bytes texts mention_bytes
texts_bytes before [] = omega arith
texts_bytes before (Text x ∷ ms) =
    once_if (has x before) x (texts before ms) (texts (x ∷ before) ms) (mention_bytes ms) (texts_bytes before ms) (texts_bytes (x ∷ before) ms)
texts_bytes before (Made n ∷ ms) = texts_bytes before ms

taken_bytes : (n : ℕ) (xs : List (List ℕ)) → literal_bytes (take n xs) ≤ literal_bytes xs
unfolding literal_bytes
taken_bytes zero xs = omega arith
taken_bytes (suc n) [] = omega arith
taken_bytes (suc n) (x ∷ xs) = let h : literal_bytes (take n xs) ≤ literal_bytes xs = taken_bytes n xs in omega arith

pub literals_written : (n : ℕ) (ms : List Mention) → literal_bytes (take n (texts [] ms)) ≤ mention_bytes ms
literals_written n ms = omega (arith, taken_bytes n (texts [] ms), texts_bytes [] ms)

mutual
  unfolding mention_bytes text.of_type tree.type_weight

  in_type : (e : s.TypeExp) → mention_bytes (text.of_type e) ≤ tree.type_weight in_bytes e
  in_type (s.Enumeration p xs) = omega arith
  in_type (s.Subrange b i) = omega (arith, in_interval i)
  in_type (s.Array p i e) = omega (arith, joined (text.of_type i) (text.of_type e), in_type i, in_type e)
  in_type (s.Record p fs) = in_fields fs
  in_type (s.Integer p) = omega arith
  in_type (s.Cardinal p) = omega arith
  in_type (s.LongInteger p) = omega arith
  in_type (s.LongCardinal p) = omega arith
  in_type (s.Boolean p) = omega arith
  in_type (s.Character p) = omega arith
  in_type (s.String p) = omega arith
  in_type (s.Called q) = omega arith

  in_fields : (fs : s.FieldList) → mention_bytes (text.of_fields fs) ≤ tree.field_list_weight in_bytes fs
  in_fields (s.WithNames fs) = in_named fs
  in_fields (s.Unnamed ts) = in_types ts

  in_named : (fs : s.NamedFields) → mention_bytes (text.of_named fs) ≤ tree.named_fields_weight in_bytes fs
  in_named s.NoFields = omega arith
  in_named (s.AndFields xs e fs) = omega (arith, joined (text.of_type e) (text.of_named fs), in_type e, in_named fs)

  in_types : (ts : s.TypeExps) → mention_bytes (text.of_types ts) ≤ tree.types_weight in_bytes ts
  in_types s.NoTypes = omega arith
  in_types (s.AndType e es) = omega (arith, joined (text.of_type e) (text.of_types es), in_type e, in_types es)

  in_interval : (i : s.Interval) → mention_bytes (text.of_interval i) ≤ tree.interval_weight in_bytes i
  in_interval (s.Between p x low high y) = omega (arith, joined (text.of_expr low) (text.of_expr high), in_expr low, in_expr high)

  in_expr : (e : s.Expr) → mention_bytes (text.of_expr e) ≤ tree.expr_weight in_bytes e
  in_expr (s.Run e ss) = omega (arith, joined (text.of_expr e) (text.of_steps ss), in_expr e, in_steps ss)
  in_expr (s.Not p e) = in_expr e
  in_expr (s.Compare d b o p e) = omega (arith, joined (text.of_expr d) (text.of_expr e), in_expr d, in_expr e)
  in_expr (s.Within e b p i) = omega (arith, joined (text.of_expr e) (text.of_interval i), in_expr e, in_interval i)
  in_expr (s.Signed x p e) = in_expr e
  in_expr (s.NumberLiteral p n) = omega arith
  in_expr (s.CharacterLiteral p n) = omega arith
  in_expr (s.StringLiteral p bytes) = omega arith
  in_expr (s.Truth p b) = omega arith
  in_expr (s.Parenthesis p e) = in_expr e
  in_expr (s.Reference l) = in_left l
  in_expr (s.Constructor p items) = in_items items
  in_expr (s.Raised r) = in_raise r

  in_steps : (ss : s.Operations) → mention_bytes (text.of_steps ss) ≤ tree.steps_weight in_bytes ss
  in_steps s.NoOperation = omega arith
  in_steps (s.AndOperation o p e ss) = omega (arith, joined (text.of_expr e) (text.of_steps ss), in_expr e, in_steps ss)

  in_left : (l : s.Left) → mention_bytes (text.of_left l) ≤ tree.left_weight in_bytes l
  in_left (s.LeftOf x ss) = omega (arith, in_suffixes ss)

  in_suffixes : (ss : s.Suffixes) → mention_bytes (text.of_suffixes ss) ≤ tree.suffixes_weight in_bytes ss
  in_suffixes s.NoSuffix = omega arith
  in_suffixes (s.Field x ss) = omega (arith, in_suffixes ss)
  in_suffixes (s.Applied b ss) = omega (arith, joined (text.of_brackets b) (text.of_suffixes ss), in_brackets b, in_suffixes ss)

  in_brackets : (b : s.Brackets) → mention_bytes (text.of_brackets b) ≤ tree.brackets_weight in_bytes b
  in_brackets (s.BracketsOf p items ph) = omega (arith, joined (text.of_items items) (text.of_phrase ph), in_items items, in_phrase ph)

  in_items : (items : s.Items) → mention_bytes (text.of_items items) ≤ tree.items_weight in_bytes items
  in_items s.Nothing = omega arith
  in_items (s.InOrder es) = in_exprs es
  in_items (s.ByKey es) = in_keyed es

  in_exprs : (es : s.Exprs) → mention_bytes (text.of_exprs es) ≤ tree.exprs_weight in_bytes es
  in_exprs s.NoExprs = omega arith
  in_exprs (s.AndExpr e es) = omega (arith, joined (text.of_expr e) (text.of_exprs es), in_expr e, in_exprs es)

  in_keyed : (es : s.KeyedExprs) → mention_bytes (text.of_keyed es) ≤ tree.keyed_weight in_bytes es
  in_keyed s.NoKeyedExprs = omega arith
  in_keyed (s.AndKeyedExpr x e es) = omega (arith, joined (text.of_expr e) (text.of_keyed es), in_expr e, in_keyed es)

  in_raise : (r : s.Raise) → mention_bytes (text.of_raise r) ≤ tree.raise_weight in_bytes r
  in_raise (s.SignalRaise p q b) = omega (arith, in_maybe b)
  in_raise (s.ErrorRaise p q b) = omega (arith, in_maybe b)
  in_raise (s.UnnamedError p) = omega arith

  in_maybe : (b : s.MaybeBrackets) → mention_bytes (text.of_maybe b) ≤ tree.maybe_brackets_weight in_bytes b
  in_maybe s.NoBrackets = omega arith
  in_maybe (s.WithBrackets b) = in_brackets b

  pub in_phrase : (ph : s.Phrase) → mention_bytes (text.of_phrase ph) ≤ tree.phrase_weight in_bytes ph
  in_phrase s.NoPhrase = omega arith
  in_phrase (s.Catch p arms) = in_arms arms

  in_arms : (xs : s.Arms) → mention_bytes (text.of_arms xs) ≤ tree.arms_weight in_bytes xs
  in_arms s.NoArms = omega arith
  in_arms (s.AndArm ls body arms) = omega (arith, joined (text.of_stmt body) (text.of_arms arms), in_stmt body, in_arms arms)

  in_stmt : (x : s.Statement) → mention_bytes (text.of_stmt x) ≤ tree.statement_weight in_bytes x
  in_stmt (s.Nested b) = in_block b
  in_stmt (s.Assign l e) = omega (arith, joined (text.of_left l) (text.of_expr e), in_left l, in_expr e)
  in_stmt (s.Extract p ts e) = omega (arith, joined (text.of_targets ts) (text.of_expr e), in_targets ts, in_expr e)
  in_stmt (s.Call l) = in_left l
  in_stmt (s.RaiseStatement r) = in_raise r
  in_stmt (s.If p e body other) = omega (
    arith,
    joined (text.of_expr e) (text.of_stmt body ++ text.of_other other),
    joined (text.of_stmt body) (text.of_other other),
    in_expr e,
    in_stmt body,
    in_other other,
  )
  in_stmt (s.Select p e cs other) = omega (
    arith,
    joined (text.of_expr e) (text.of_cases cs ++ text.of_other other),
    joined (text.of_cases cs) (text.of_other other),
    in_expr e,
    in_cases cs,
    in_other other,
  )
  in_stmt (s.Loop c p ph ss rs) = omega (
    arith,
    joined (text.of_control c) (text.of_phrase ph ++ (text.of_stmts ss ++ text.of_repeats rs)),
    joined (text.of_phrase ph) (text.of_stmts ss ++ text.of_repeats rs),
    joined (text.of_stmts ss) (text.of_repeats rs),
    in_control c,
    in_phrase ph,
    in_stmts ss,
    in_repeats rs,
  )
  in_stmt (s.Return p items) = in_values items
  in_stmt (s.Resume p items) = in_values items
  in_stmt (s.Null p) = omega arith
  in_stmt (s.ExitLoop p) = omega arith
  in_stmt (s.NextTurn p) = omega arith
  in_stmt (s.Goto p x) = omega arith
  in_stmt (s.Reject p) = omega arith
  in_stmt (s.Retry p) = omega arith
  in_stmt (s.Continue p) = omega arith

  in_other : (x : s.MaybeStatement) → mention_bytes (text.of_other x) ≤ tree.other_weight in_bytes x
  in_other s.NoStatement = omega arith
  in_other (s.OneStatement body) = in_stmt body

  in_values : (x : s.MaybeItems) → mention_bytes (text.of_values x) ≤ tree.maybe_items_weight in_bytes x
  in_values s.NoItems = omega arith
  in_values (s.WithItems p items) = in_items items

  in_targets : (ts : s.Targets) → mention_bytes (text.of_targets ts) ≤ tree.targets_weight in_bytes ts
  in_targets s.NoTarget = omega arith
  in_targets (s.TargetsInOrder ls) = in_lefts ls
  in_targets (s.TargetsByKey ls) = in_keyed_lefts ls

  in_lefts : (ls : s.Lefts) → mention_bytes (text.of_lefts ls) ≤ tree.lefts_weight in_bytes ls
  in_lefts s.NoLefts = omega arith
  in_lefts (s.AndLeft l ls) = omega (arith, joined (text.of_left l) (text.of_lefts ls), in_left l, in_lefts ls)

  in_keyed_lefts : (ls : s.KeyedLefts) → mention_bytes (text.of_keyed_lefts ls) ≤ tree.keyed_lefts_weight in_bytes ls
  in_keyed_lefts s.NoKeyedLefts = omega arith
  in_keyed_lefts (s.AndKeyedLeft x l ls) = omega (arith, joined (text.of_left l) (text.of_keyed_lefts ls), in_left l, in_keyed_lefts ls)

  pub in_stmts : (xs : s.Statements) → mention_bytes (text.of_stmts xs) ≤ tree.statements_weight in_bytes xs
  in_stmts s.NoStatements = omega arith
  in_stmts (s.AndStatement body ss) = omega (arith, joined (text.of_stmt body) (text.of_stmts ss), in_stmt body, in_stmts ss)

  in_control : (c : s.Control) → mention_bytes (text.of_control c) ≤ tree.control_weight in_bytes c
  in_control (s.ControlOf n c) = omega (arith, joined (text.of_count n) (text.of_condition c), in_count n, in_condition c)

  in_count : (n : s.Count) → mention_bytes (text.of_count n) ≤ tree.count_weight in_bytes n
  in_count s.NoCount = omega arith
  in_count (s.For p x down i) = omega (arith, in_interval i)
  in_count (s.Through p i) = in_interval i

  in_condition : (c : s.Condition) → mention_bytes (text.of_condition c) ≤ tree.condition_weight in_bytes c
  in_condition s.Always = omega arith
  in_condition (s.While p e) = in_expr e
  in_condition (s.Until p e) = in_expr e

  in_cases : (cs : s.Cases) → mention_bytes (text.of_cases cs) ≤ tree.cases_weight in_bytes cs
  in_cases s.NoCases = omega arith
  in_cases (s.AndCase ts body cs) = omega (
    arith,
    joined (text.of_tests ts) (text.of_stmt body ++ text.of_cases cs),
    joined (text.of_stmt body) (text.of_cases cs),
    in_tests ts,
    in_stmt body,
    in_cases cs,
  )

  in_tests : (ts : s.Tests) → mention_bytes (text.of_tests ts) ≤ tree.tests_weight in_bytes ts
  in_tests s.NoTests = omega arith
  in_tests (s.Value e ts) = omega (arith, joined (text.of_expr e) (text.of_tests ts), in_expr e, in_tests ts)
  in_tests (s.Compared b o p e ts) = omega (arith, joined (text.of_expr e) (text.of_tests ts), in_expr e, in_tests ts)
  in_tests (s.Inside b p i ts) = omega (arith, joined (text.of_interval i) (text.of_tests ts), in_interval i, in_tests ts)

  in_block : (b : s.Block) → mention_bytes (text.of_block b) ≤ tree.block_weight in_bytes b
  in_block (s.BlockOf p ph locals ss es) = omega (
    arith,
    joined (text.of_phrase ph) (text.of_locals locals ++ (text.of_stmts ss ++ text.of_exits es)),
    joined (text.of_locals locals) (text.of_stmts ss ++ text.of_exits es),
    joined (text.of_stmts ss) (text.of_exits es),
    in_phrase ph,
    in_locals locals,
    in_stmts ss,
    in_exits es,
  )

  in_locals : (ls : s.Locals) → mention_bytes (text.of_locals ls) ≤ tree.locals_weight in_bytes ls
  in_locals s.NoLocals = omega arith
  in_locals (s.AndLocal xs d rest) = omega (arith, joined (text.of_plain d) (text.of_locals rest), in_plain d, in_locals rest)

  in_plain : (d : s.PlainItem) → mention_bytes (text.of_plain d) ≤ tree.plain_item_weight in_bytes d
  in_plain (s.TypeIs e) = in_type e
  in_plain (s.Variable e) = in_type e
  in_plain (s.Initial e x) = omega (arith, joined (text.of_type e) (text.of_expr x), in_type e, in_expr x)
  in_plain (s.Constant e x) = omega (arith, joined (text.of_type e) (text.of_expr x), in_type e, in_expr x)

  pub in_exits : (es : s.Exits) → mention_bytes (text.of_exits es) ≤ tree.exits_weight in_bytes es
  in_exits s.NoExits = omega arith
  in_exits (s.AndExit xs body es) = omega (arith, joined (text.of_stmt body) (text.of_exits es), in_stmt body, in_exits es)

  in_repeats : (rs : s.Repeats) → mention_bytes (text.of_repeats rs) ≤ tree.repeats_weight in_bytes rs
  in_repeats s.NoRepeats = omega arith
  in_repeats (s.AndRepeat ls body rs) = omega (arith, joined (text.of_stmt body) (text.of_repeats rs), in_stmt body, in_repeats rs)

in_maybe_fields : (fs : Option s.FieldList) → mention_bytes (text.of_maybe_fields fs) ≤ tree.maybe_fields_weight in_bytes fs
unfolding mention_bytes tree.maybe_fields_weight
in_maybe_fields None = omega arith
in_maybe_fields (Some fs) = in_fields fs

in_head : (h : s.Head) → mention_bytes (text.of_head h) ≤ tree.head_weight in_bytes h
unfolding tree.head_weight
in_head h = omega (arith, joined (text.of_maybe_fields h.takes) (text.of_maybe_fields h.gives), in_maybe_fields h.takes, in_maybe_fields h.gives)

in_declared : (d : s.Declared) → mention_bytes (text.of_declared d) ≤ tree.declared_weight in_bytes d
unfolding tree.declared_weight
in_declared (s.Procedure h b) = omega (arith, joined (text.of_head h) (text.of_block b), in_head h, in_block b)
in_declared (s.Signal h) = in_head h
in_declared (s.Error fs) = in_maybe_fields fs
in_declared (s.Data d) = in_plain d

-- the names that declarations declare
unfoldable pub declared_bytes : List s.Declaration → ℕ
declared_bytes [] = 0
declared_bytes (d ∷ ds) = tree.each_name in_bytes d.names + declared_bytes ds

in_declarations : (ds : List s.Declaration) → declared_bytes ds + mention_bytes (text.of_declarations ds) ≤ tree.declarations_weight in_bytes ds
unfolding declared_bytes mention_bytes text.of_declarations tree.declarations_weight
in_declarations [] = omega arith
in_declarations (d ∷ ds) =
    let h : declared_bytes ds + mention_bytes (text.of_declarations ds) ≤ tree.declarations_weight in_bytes ds = in_declarations ds in
    omega (arith, joined (text.of_declared d.declared) (text.of_declarations ds), in_declared d.declared)

pub in_inner : (x : s.Inner)
    → declared_bytes x.declarations
    + mention_bytes (text.of_phrase x.enable ++ (text.of_declarations x.declarations ++ (text.of_stmts x.statements ++ text.of_exits x.exits)))
    ≤ tree.inner_weight in_bytes x
unfolding tree.inner_weight
in_inner x = omega (
  arith,
  joined (text.of_phrase x.enable) (text.of_declarations x.declarations ++ (text.of_stmts x.statements ++ text.of_exits x.exits)),
  joined (text.of_declarations x.declarations) (text.of_stmts x.statements ++ text.of_exits x.exits),
  joined (text.of_stmts x.statements) (text.of_exits x.exits),
  in_phrase x.enable,
  in_declarations x.declarations,
  in_stmts x.statements,
  in_exits x.exits,
)
