-- At most one record or enumeration begins at each node of a syntax tree.
use Rattle.std.specs.Prelude.{ℕ, ◌≡◌, ◌+◌, ◌≤◌, Option, Some, None, List, [], ◌∷◌, ◌++◌, length}
use Rattle.std.proofs.Common.{arith}
use Rattle.syntax_trees.specs.Syntax as s
use Rattle.syntax_trees.specs.SyntaxNodes.{type_nodes, field_list_nodes, named_fields_nodes, types_nodes, interval_nodes, expr_nodes, operations_nodes, left_nodes, suffixes_nodes, brackets_nodes, items_nodes, exprs_nodes, keyed_exprs_nodes, raise_nodes, maybe_brackets_nodes, phrase_nodes, arms_nodes, statement_nodes, maybe_statement_nodes, maybe_items_nodes, targets_nodes, lefts_nodes, keyed_lefts_nodes, statements_nodes, control_nodes, count_nodes, condition_nodes, cases_nodes, tests_nodes, block_nodes, locals_nodes, plain_item_nodes, exits_nodes, repeats_nodes, maybe_fields_nodes, head_nodes, declared_nodes, declaration_nodes, declarations_nodes, inner_nodes, defined_nodes, definition_nodes, definitions_nodes, kind_nodes}
use Rattle.check_rules.specs.Mentions.{Mention, Text, Made, origins, of_type, of_fields, of_named, of_types, of_interval, of_expr, of_steps, of_left, of_suffixes, of_brackets, of_items, of_exprs, of_keyed, of_raise, of_maybe, of_phrase, of_arms, of_stmt, of_other, of_values, of_targets, of_lefts, of_keyed_lefts, of_stmts, of_control, of_count, of_condition, of_cases, of_tests, of_block, of_locals, of_plain, of_exits, of_repeats, of_maybe_fields, of_head, of_declared, of_declarations, of_defined, of_definitions, of_kind}

abbrev many : List Mention → ℕ
many ms = length (origins ms)

both : (ms ns : List Mention) → many (ms ++ ns) ≡ many ms + many ns
unfolding origins
both [] ns = omega arith
both (Text x ∷ ms) ns = both ms ns
both (Made n ∷ ms) ns = omega (arith, both ms ns)

mutual
  unfolding of_type type_nodes origins

  type_many : (x : s.TypeExp) → many (of_type x) ≤ type_nodes x
  type_many (s.Integer p) = omega arith
  type_many (s.Cardinal p) = omega arith
  type_many (s.LongInteger p) = omega arith
  type_many (s.LongCardinal p) = omega arith
  type_many (s.Boolean p) = omega arith
  type_many (s.Character p) = omega arith
  type_many (s.String p) = omega arith
  type_many (s.Called q) = omega arith
  type_many (s.Enumeration p xs) = omega arith
  type_many (s.Subrange b i) = omega (arith, interval_many i)
  type_many (s.Array p i e) = omega (arith, type_many i, type_many e, both (of_type i) (of_type e))
  type_many (s.Record p fs) = omega (arith, fields_many fs)

  fields_many : (x : s.FieldList) → many (of_fields x) ≤ field_list_nodes x
  fields_many (s.WithNames fs) = omega (arith, named_many fs)
  fields_many (s.Unnamed es) = omega (arith, types_many es)

  named_many : (x : s.NamedFields) → many (of_named x) ≤ named_fields_nodes x
  named_many s.NoFields = omega arith
  named_many (s.AndFields xs e fs) = omega (arith, type_many e, named_many fs, both (of_type e) (of_named fs))

  types_many : (x : s.TypeExps) → many (of_types x) ≤ types_nodes x
  types_many s.NoTypes = omega arith
  types_many (s.AndType e es) = omega (arith, type_many e, types_many es, both (of_type e) (of_types es))

  interval_many : (x : s.Interval) → many (of_interval x) ≤ interval_nodes x
  interval_many (s.Between p x low high y) = omega (arith, expr_many low, expr_many high, both (of_expr low) (of_expr high))

  expr_many : (x : s.Expr) → many (of_expr x) ≤ expr_nodes x
  expr_many (s.Run e ss) = omega (arith, expr_many e, steps_many ss, both (of_expr e) (of_steps ss))
  expr_many (s.Not p e) = omega (arith, expr_many e)
  expr_many (s.Compare d b o p e) = omega (arith, expr_many d, expr_many e, both (of_expr d) (of_expr e))
  expr_many (s.Within e b p i) = omega (arith, expr_many e, interval_many i, both (of_expr e) (of_interval i))
  expr_many (s.Signed x p e) = omega (arith, expr_many e)
  expr_many (s.NumberLiteral p n) = omega arith
  expr_many (s.CharacterLiteral p n) = omega arith
  expr_many (s.StringLiteral p bytes) = omega arith
  expr_many (s.Truth p b) = omega arith
  expr_many (s.Parenthesis p e) = omega (arith, expr_many e)
  expr_many (s.Reference l) = omega (arith, left_many l)
  expr_many (s.Constructor p items) = omega (arith, items_many items)
  expr_many (s.Raised r) = omega (arith, raise_many r)

  steps_many : (x : s.Operations) → many (of_steps x) ≤ operations_nodes x
  steps_many s.NoOperation = omega arith
  steps_many (s.AndOperation o p e ss) = omega (arith, expr_many e, steps_many ss, both (of_expr e) (of_steps ss))

  left_many : (x : s.Left) → many (of_left x) ≤ left_nodes x
  left_many (s.LeftOf x ss) = omega (arith, suffixes_many ss)

  suffixes_many : (x : s.Suffixes) → many (of_suffixes x) ≤ suffixes_nodes x
  suffixes_many s.NoSuffix = omega arith
  suffixes_many (s.Field x ss) = omega (arith, suffixes_many ss)
  suffixes_many (s.Applied b ss) = omega (arith, brackets_many b, suffixes_many ss, both (of_brackets b) (of_suffixes ss))

  brackets_many : (x : s.Brackets) → many (of_brackets x) ≤ brackets_nodes x
  brackets_many (s.BracketsOf p items ph) = omega (arith, items_many items, phrase_many ph, both (of_items items) (of_phrase ph))

  items_many : (x : s.Items) → many (of_items x) ≤ items_nodes x
  items_many s.Nothing = omega arith
  items_many (s.InOrder es) = omega (arith, exprs_many es)
  items_many (s.ByKey es) = omega (arith, keyed_many es)

  exprs_many : (x : s.Exprs) → many (of_exprs x) ≤ exprs_nodes x
  exprs_many s.NoExprs = omega arith
  exprs_many (s.AndExpr e es) = omega (arith, expr_many e, exprs_many es, both (of_expr e) (of_exprs es))

  keyed_many : (x : s.KeyedExprs) → many (of_keyed x) ≤ keyed_exprs_nodes x
  keyed_many s.NoKeyedExprs = omega arith
  keyed_many (s.AndKeyedExpr x e es) = omega (arith, expr_many e, keyed_many es, both (of_expr e) (of_keyed es))

  raise_many : (x : s.Raise) → many (of_raise x) ≤ raise_nodes x
  raise_many (s.SignalRaise p q b) = omega (arith, maybe_many b)
  raise_many (s.ErrorRaise p q b) = omega (arith, maybe_many b)
  raise_many (s.UnnamedError p) = omega arith

  maybe_many : (x : s.MaybeBrackets) → many (of_maybe x) ≤ maybe_brackets_nodes x
  maybe_many s.NoBrackets = omega arith
  maybe_many (s.WithBrackets b) = omega (arith, brackets_many b)

  phrase_many : (x : s.Phrase) → many (of_phrase x) ≤ phrase_nodes x
  phrase_many s.NoPhrase = omega arith
  phrase_many (s.Catch p xs) = omega (arith, arms_many xs)

  arms_many : (x : s.Arms) → many (of_arms x) ≤ arms_nodes x
  arms_many s.NoArms = omega arith
  arms_many (s.AndArm ls body rest) = omega (arith, stmt_many body, arms_many rest, both (of_stmt body) (of_arms rest))

  stmt_many : (x : s.Statement) → many (of_stmt x) ≤ statement_nodes x
  stmt_many (s.Null p) = omega arith
  stmt_many (s.Nested b) = omega (arith, block_many b)
  stmt_many (s.Assign l e) = omega (arith, left_many l, expr_many e, both (of_left l) (of_expr e))
  stmt_many (s.Extract p ts e) = omega (arith, targets_many ts, expr_many e, both (of_targets ts) (of_expr e))
  stmt_many (s.Call l) = omega (arith, left_many l)
  stmt_many (s.RaiseStatement r) = omega (arith, raise_many r)
  stmt_many (s.If p e body other) = omega (arith, expr_many e, stmt_many body, other_many other, both (of_expr e) (of_stmt body ++ (of_other other)), both (of_stmt body) (of_other other))
  stmt_many (s.Select p e cs other) = omega (arith, expr_many e, cases_many cs, other_many other, both (of_expr e) (of_cases cs ++ (of_other other)), both (of_cases cs) (of_other other))
  stmt_many (s.Loop c p ph ss rs) = omega (arith, control_many c, phrase_many ph, stmts_many ss, repeats_many rs, both (of_control c) (of_phrase ph ++ (of_stmts ss ++ (of_repeats rs))), both (of_phrase ph) (of_stmts ss ++ (of_repeats rs)), both (of_stmts ss) (of_repeats rs))
  stmt_many (s.ExitLoop p) = omega arith
  stmt_many (s.NextTurn p) = omega arith
  stmt_many (s.Goto p x) = omega arith
  stmt_many (s.Return p items) = omega (arith, values_many items)
  stmt_many (s.Resume p items) = omega (arith, values_many items)
  stmt_many (s.Reject p) = omega arith
  stmt_many (s.Retry p) = omega arith
  stmt_many (s.Continue p) = omega arith

  other_many : (x : s.MaybeStatement) → many (of_other x) ≤ maybe_statement_nodes x
  other_many s.NoStatement = omega arith
  other_many (s.OneStatement body) = omega (arith, stmt_many body)

  values_many : (x : s.MaybeItems) → many (of_values x) ≤ maybe_items_nodes x
  values_many s.NoItems = omega arith
  values_many (s.WithItems p items) = omega (arith, items_many items)

  targets_many : (x : s.Targets) → many (of_targets x) ≤ targets_nodes x
  targets_many s.NoTarget = omega arith
  targets_many (s.TargetsInOrder ls) = omega (arith, lefts_many ls)
  targets_many (s.TargetsByKey ls) = omega (arith, keyed_lefts_many ls)

  lefts_many : (x : s.Lefts) → many (of_lefts x) ≤ lefts_nodes x
  lefts_many s.NoLefts = omega arith
  lefts_many (s.AndLeft l ls) = omega (arith, left_many l, lefts_many ls, both (of_left l) (of_lefts ls))

  keyed_lefts_many : (x : s.KeyedLefts) → many (of_keyed_lefts x) ≤ keyed_lefts_nodes x
  keyed_lefts_many s.NoKeyedLefts = omega arith
  keyed_lefts_many (s.AndKeyedLeft x l ls) = omega (arith, left_many l, keyed_lefts_many ls, both (of_left l) (of_keyed_lefts ls))

  stmts_many : (x : s.Statements) → many (of_stmts x) ≤ statements_nodes x
  stmts_many s.NoStatements = omega arith
  stmts_many (s.AndStatement body ss) = omega (arith, stmt_many body, stmts_many ss, both (of_stmt body) (of_stmts ss))

  control_many : (x : s.Control) → many (of_control x) ≤ control_nodes x
  control_many (s.ControlOf n c) = omega (arith, count_many n, condition_many c, both (of_count n) (of_condition c))

  count_many : (x : s.Count) → many (of_count x) ≤ count_nodes x
  count_many s.NoCount = omega arith
  count_many (s.For p x down i) = omega (arith, interval_many i)
  count_many (s.Through p i) = omega (arith, interval_many i)

  condition_many : (x : s.Condition) → many (of_condition x) ≤ condition_nodes x
  condition_many s.Always = omega arith
  condition_many (s.While p e) = omega (arith, expr_many e)
  condition_many (s.Until p e) = omega (arith, expr_many e)

  cases_many : (x : s.Cases) → many (of_cases x) ≤ cases_nodes x
  cases_many s.NoCases = omega arith
  cases_many (s.AndCase ts body cs) = omega (arith, tests_many ts, stmt_many body, cases_many cs, both (of_tests ts) (of_stmt body ++ (of_cases cs)), both (of_stmt body) (of_cases cs))

  tests_many : (x : s.Tests) → many (of_tests x) ≤ tests_nodes x
  tests_many s.NoTests = omega arith
  tests_many (s.Value e ts) = omega (arith, expr_many e, tests_many ts, both (of_expr e) (of_tests ts))
  tests_many (s.Compared b o p e ts) = omega (arith, expr_many e, tests_many ts, both (of_expr e) (of_tests ts))
  tests_many (s.Inside b p i ts) = omega (arith, interval_many i, tests_many ts, both (of_interval i) (of_tests ts))

  block_many : (x : s.Block) → many (of_block x) ≤ block_nodes x
  block_many (s.BlockOf p ph locals ss es) = omega (arith, phrase_many ph, locals_many locals, stmts_many ss, exits_many es, both (of_phrase ph) (of_locals locals ++ (of_stmts ss ++ (of_exits es))), both (of_locals locals) (of_stmts ss ++ (of_exits es)), both (of_stmts ss) (of_exits es))

  locals_many : (x : s.Locals) → many (of_locals x) ≤ locals_nodes x
  locals_many s.NoLocals = omega arith
  locals_many (s.AndLocal xs d rest) = omega (arith, plain_many d, locals_many rest, both (of_plain d) (of_locals rest))

  plain_many : (x : s.PlainItem) → many (of_plain x) ≤ plain_item_nodes x
  plain_many (s.TypeIs e) = omega (arith, type_many e)
  plain_many (s.Variable e) = omega (arith, type_many e)
  plain_many (s.Initial e x) = omega (arith, type_many e, expr_many x, both (of_type e) (of_expr x))
  plain_many (s.Constant e x) = omega (arith, type_many e, expr_many x, both (of_type e) (of_expr x))

  exits_many : (x : s.Exits) → many (of_exits x) ≤ exits_nodes x
  exits_many s.NoExits = omega arith
  exits_many (s.AndExit xs body es) = omega (arith, stmt_many body, exits_many es, both (of_stmt body) (of_exits es))

  repeats_many : (x : s.Repeats) → many (of_repeats x) ≤ repeats_nodes x
  repeats_many s.NoRepeats = omega arith
  repeats_many (s.AndRepeat ls body rs) = omega (arith, stmt_many body, repeats_many rs, both (of_stmt body) (of_repeats rs))

maybe_fields_many : (fs : Option s.FieldList) → many (of_maybe_fields fs) ≤ maybe_fields_nodes fs
unfolding maybe_fields_nodes origins
maybe_fields_many None = omega arith
maybe_fields_many (Some fs) = fields_many fs

head_many : (h : s.Head) → many (of_head h) ≤ head_nodes h
unfolding head_nodes
head_many h = omega (arith, maybe_fields_many h.takes, maybe_fields_many h.gives, both (of_maybe_fields h.takes) (of_maybe_fields h.gives))

defined_many : (x : s.Defined) → many (of_defined x) ≤ defined_nodes x
unfolding defined_nodes
defined_many (s.ProcedureItem h) = head_many h
defined_many (s.SignalItem h) = head_many h
defined_many (s.ErrorItem takes) = omega (arith, maybe_fields_many takes)
defined_many (s.TypeItem e) = type_many e
defined_many (s.ConstantItem e x) = omega (arith, type_many e, expr_many x, both (of_type e) (of_expr x))

definitions_many : (ds : List s.Definition) → many (of_definitions ds) ≤ definitions_nodes ds
unfolding of_definitions definitions_nodes definition_nodes origins
definitions_many [] = omega arith
definitions_many (d ∷ ds) = omega (arith, defined_many d.defined, definitions_many ds, both (of_defined d.defined) (of_definitions ds))

declared_many : (x : s.Declared) → many (of_declared x) ≤ declared_nodes x
unfolding declared_nodes
declared_many (s.Procedure h b) = omega (arith, head_many h, block_many b, both (of_head h) (of_block b))
declared_many (s.Signal h) = head_many h
declared_many (s.Error takes) = omega (arith, maybe_fields_many takes)
declared_many (s.Data d) = plain_many d

declarations_many : (ds : List s.Declaration) → many (of_declarations ds) ≤ declarations_nodes ds
unfolding of_declarations declarations_nodes declaration_nodes origins
declarations_many [] = omega arith
declarations_many (d ∷ ds) = omega (arith, declared_many d.declared, declarations_many ds, both (of_declared d.declared) (of_declarations ds))

pub kind_many : (k : s.ModuleKind) → length (origins (of_kind k)) ≤ kind_nodes k
unfolding of_kind kind_nodes inner_nodes
kind_many (s.Program p imports exports opens inner) = omega (
  arith,
  phrase_many inner.enable,
  declarations_many inner.declarations,
  stmts_many inner.statements,
  exits_many inner.exits,
  both (of_phrase inner.enable) (of_declarations inner.declarations ++ (of_stmts inner.statements ++ of_exits inner.exits)),
  both (of_declarations inner.declarations) (of_stmts inner.statements ++ of_exits inner.exits),
  both (of_stmts inner.statements) (of_exits inner.exits),
)
kind_many (s.Interface p opens ds) = definitions_many ds
