-- What depends on the order of the text and not on that of checking: the string literals, by their first mention, and the
-- records and enumerations, by the token at which each begins (rule of this project).
use Rattle.std.specs.Prelude.{ℕ, List, [], ◌∷◌, ◌++◌, Option, Some, None, if◌then◌else◌}
use Rattle.mesa_base.specs.declared.place.Place.{Place}
use Rattle.syntax_trees.specs.Syntax as s
use Rattle.check_rules.specs.Scopes.{has}

pub data Mention : Type 0 where
  Text : List ℕ → Mention
  Made : ℕ → Mention

abbrev pub made : Place → Mention
made p = Made p.token

unfoldable mutual
  pub of_type : s.TypeExp → List Mention
  of_type (s.Enumeration p xs) = made p ∷ []
  of_type (s.Subrange b i) = of_interval i
  of_type (s.Array p i e) = of_type i ++ of_type e
  of_type (s.Record p fs) = made p ∷ of_fields fs
  of_type _ = []

  pub of_fields : s.FieldList → List Mention
  of_fields (s.WithNames fs) = of_named fs
  of_fields (s.Unnamed ts) = of_types ts

  pub of_named : s.NamedFields → List Mention
  of_named s.NoFields = []
  of_named (s.AndFields xs e fs) = of_type e ++ of_named fs

  pub of_types : s.TypeExps → List Mention
  of_types s.NoTypes = []
  of_types (s.AndType e es) = of_type e ++ of_types es

  pub of_interval : s.Interval → List Mention
  of_interval (s.Between p x low high y) = of_expr low ++ of_expr high

  pub of_expr : s.Expr → List Mention
  of_expr (s.Run e ss) = of_expr e ++ of_steps ss
  of_expr (s.Not p e) = of_expr e
  of_expr (s.Compare d b o p e) = of_expr d ++ of_expr e
  of_expr (s.Within e b p i) = of_expr e ++ of_interval i
  of_expr (s.Signed x p e) = of_expr e
  of_expr (s.StringLiteral p bytes) = Text bytes ∷ []
  of_expr (s.Parenthesis p e) = of_expr e
  of_expr (s.Reference l) = of_left l
  of_expr (s.Constructor p items) = of_items items
  of_expr (s.Raised r) = of_raise r
  of_expr _ = []

  pub of_steps : s.Operations → List Mention
  of_steps s.NoOperation = []
  of_steps (s.AndOperation o p e ss) = of_expr e ++ of_steps ss

  pub of_left : s.Left → List Mention
  of_left (s.LeftOf x ss) = of_suffixes ss

  pub of_suffixes : s.Suffixes → List Mention
  of_suffixes s.NoSuffix = []
  of_suffixes (s.Field x ss) = of_suffixes ss
  of_suffixes (s.Applied b ss) = of_brackets b ++ of_suffixes ss

  pub of_brackets : s.Brackets → List Mention
  of_brackets (s.BracketsOf p items ph) = of_items items ++ of_phrase ph

  pub of_items : s.Items → List Mention
  of_items s.Nothing = []
  of_items (s.InOrder es) = of_exprs es
  of_items (s.ByKey es) = of_keyed es

  pub of_exprs : s.Exprs → List Mention
  of_exprs s.NoExprs = []
  of_exprs (s.AndExpr e es) = of_expr e ++ of_exprs es

  pub of_keyed : s.KeyedExprs → List Mention
  of_keyed s.NoKeyedExprs = []
  of_keyed (s.AndKeyedExpr x e es) = of_expr e ++ of_keyed es

  pub of_raise : s.Raise → List Mention
  of_raise (s.SignalRaise p q b) = of_maybe b
  of_raise (s.ErrorRaise p q b) = of_maybe b
  of_raise (s.UnnamedError p) = []

  pub of_maybe : s.MaybeBrackets → List Mention
  of_maybe s.NoBrackets = []
  of_maybe (s.WithBrackets b) = of_brackets b

  pub of_phrase : s.Phrase → List Mention
  of_phrase s.NoPhrase = []
  of_phrase (s.Catch p arms) = of_arms arms

  pub of_arms : s.Arms → List Mention
  of_arms s.NoArms = []
  of_arms (s.AndArm ls body arms) = of_stmt body ++ of_arms arms

  pub of_stmt : s.Statement → List Mention
  of_stmt (s.Nested b) = of_block b
  of_stmt (s.Assign l e) = of_left l ++ of_expr e
  of_stmt (s.Extract p ts e) = of_targets ts ++ of_expr e
  of_stmt (s.Call l) = of_left l
  of_stmt (s.RaiseStatement r) = of_raise r
  of_stmt (s.If p e body other) = of_expr e ++ (of_stmt body ++ of_other other)
  of_stmt (s.Select p e cs other) = of_expr e ++ (of_cases cs ++ of_other other)
  of_stmt (s.Loop c p ph ss rs) = of_control c ++ (of_phrase ph ++ (of_stmts ss ++ of_repeats rs))
  of_stmt (s.Return p items) = of_values items
  of_stmt (s.Resume p items) = of_values items
  of_stmt _ = []

  pub of_other : s.MaybeStatement → List Mention
  of_other s.NoStatement = []
  of_other (s.OneStatement body) = of_stmt body

  pub of_values : s.MaybeItems → List Mention
  of_values s.NoItems = []
  of_values (s.WithItems p items) = of_items items

  pub of_targets : s.Targets → List Mention
  of_targets s.NoTarget = []
  of_targets (s.TargetsInOrder ls) = of_lefts ls
  of_targets (s.TargetsByKey ls) = of_keyed_lefts ls

  pub of_lefts : s.Lefts → List Mention
  of_lefts s.NoLefts = []
  of_lefts (s.AndLeft l ls) = of_left l ++ of_lefts ls

  pub of_keyed_lefts : s.KeyedLefts → List Mention
  of_keyed_lefts s.NoKeyedLefts = []
  of_keyed_lefts (s.AndKeyedLeft x l ls) = of_left l ++ of_keyed_lefts ls

  pub of_stmts : s.Statements → List Mention
  of_stmts s.NoStatements = []
  of_stmts (s.AndStatement body ss) = of_stmt body ++ of_stmts ss

  pub of_control : s.Control → List Mention
  of_control (s.ControlOf n c) = of_count n ++ of_condition c

  pub of_count : s.Count → List Mention
  of_count s.NoCount = []
  of_count (s.For p x down i) = of_interval i
  of_count (s.Through p i) = of_interval i

  pub of_condition : s.Condition → List Mention
  of_condition s.Always = []
  of_condition (s.While p e) = of_expr e
  of_condition (s.Until p e) = of_expr e

  pub of_cases : s.Cases → List Mention
  of_cases s.NoCases = []
  of_cases (s.AndCase ts body cs) = of_tests ts ++ (of_stmt body ++ of_cases cs)

  pub of_tests : s.Tests → List Mention
  of_tests s.NoTests = []
  of_tests (s.Value e ts) = of_expr e ++ of_tests ts
  of_tests (s.Compared b o p e ts) = of_expr e ++ of_tests ts
  of_tests (s.Inside b p i ts) = of_interval i ++ of_tests ts

  pub of_block : s.Block → List Mention
  of_block (s.BlockOf p ph locals ss es) = of_phrase ph ++ (of_locals locals ++ (of_stmts ss ++ of_exits es))

  pub of_locals : s.Locals → List Mention
  of_locals s.NoLocals = []
  of_locals (s.AndLocal xs d rest) = of_plain d ++ of_locals rest

  pub of_plain : s.PlainItem → List Mention
  of_plain (s.TypeIs e) = of_type e
  of_plain (s.Variable e) = of_type e
  of_plain (s.Initial e x) = of_type e ++ of_expr x
  of_plain (s.Constant e x) = of_type e ++ of_expr x

  pub of_exits : s.Exits → List Mention
  of_exits s.NoExits = []
  of_exits (s.AndExit xs body es) = of_stmt body ++ of_exits es

  pub of_repeats : s.Repeats → List Mention
  of_repeats s.NoRepeats = []
  of_repeats (s.AndRepeat ls body rs) = of_stmt body ++ of_repeats rs

abbrev pub of_maybe_fields : Option s.FieldList → List Mention
of_maybe_fields None = []
of_maybe_fields (Some fs) = of_fields fs

abbrev pub of_head : s.Head → List Mention
of_head h = of_maybe_fields h.takes ++ of_maybe_fields h.gives

abbrev pub of_declared : s.Declared → List Mention
of_declared (s.Procedure h b) = of_head h ++ of_block b
of_declared (s.Signal h) = of_head h
of_declared (s.Error fs) = of_maybe_fields fs
of_declared (s.Data d) = of_plain d

unfoldable pub of_declarations : List s.Declaration → List Mention
of_declarations [] = []
of_declarations (d ∷ rest) = of_declared d.declared ++ of_declarations rest

abbrev pub of_defined : s.Defined → List Mention
of_defined (s.ProcedureItem h) = of_head h
of_defined (s.SignalItem h) = of_head h
of_defined (s.ErrorItem fs) = of_maybe_fields fs
of_defined (s.TypeItem e) = of_type e
of_defined (s.ConstantItem e x) = of_type e ++ of_expr x

unfoldable pub of_definitions : List s.Definition → List Mention
of_definitions [] = []
of_definitions (d ∷ rest) = of_defined d.defined ++ of_definitions rest

unfoldable pub of_kind : s.ModuleKind → List Mention
of_kind (s.Program p imports exports opens inner) =
    of_phrase inner.enable ++ (of_declarations inner.declarations ++ (of_stmts inner.statements ++ of_exits inner.exits))
of_kind (s.Interface p opens defs) = of_definitions defs

-- each literal once, where it stands first
unfoldable pub texts : List (List ℕ) → List Mention → List (List ℕ)
texts before [] = []
texts before (Text x ∷ ms) = if has x before then texts before ms else x ∷ texts (x ∷ before) ms
texts before (Made n ∷ ms) = texts before ms

unfoldable pub origins : List Mention → List ℕ
origins [] = []
origins (Text x ∷ ms) = origins ms
origins (Made n ∷ ms) = n ∷ origins ms
