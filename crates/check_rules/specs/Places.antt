-- The places that stand in the tree of a text: those of its tokens that the tree keeps (rule of this project).
use Rattle.std.specs.Prelude.{List, [], ◌∷◌, ◌++◌, map, Option, Some, None}
use Rattle.mesa_base.specs.declared.place.Place.{Place}
use Rattle.syntax_trees.specs.Syntax as s
use Rattle.mesa_base.specs.declared.identifier.Identifier.{Identifier}
use Rattle.syntax_trees.specs.declared.syntax.QualifiedName.{QualifiedName}
use Rattle.syntax_trees.specs.declared.syntax.Labels.{Labels}
use Rattle.syntax_trees.specs.declared.syntax.Labels.TheVariants.{Any, Unwind, Signals}
use Rattle.syntax_trees.specs.declared.syntax.RepeatLabels.{RepeatLabels}
use Rattle.syntax_trees.specs.declared.syntax.RepeatLabels.TheVariants as repeat
use Rattle.syntax_trees.specs.declared.syntax.TypeBase.{TypeBase}
use Rattle.syntax_trees.specs.declared.syntax.TypeBase.TheVariants.{Unsaid, OfInteger, OfCardinal, OfCharacter, OfName}
use Rattle.syntax_trees.specs.declared.syntax.DirectoryItem.{DirectoryItem}
use Rattle.check_rules.specs.Parts.{first_name}

abbrev pub of_identifiers : List Identifier → List Place
of_identifiers = map (λ (x : Identifier). x.place)

-- the names of a declaration, which has one at least: without any it would stand where the text begins
abbrev pub of_declared_names : List Identifier → List Place
of_declared_names [] = first_name [] ∷ []
of_declared_names (x ∷ xs) = x.place ∷ of_identifiers xs

abbrev pub of_second : Option Identifier → List Place
of_second None = []
of_second (Some x) = x.place ∷ []

abbrev pub of_name : QualifiedName → List Place
of_name q = q.first.place ∷ of_second q.second

unfoldable pub of_names : List QualifiedName → List Place
of_names [] = []
of_names (q ∷ qs) = of_name q ++ of_names qs

abbrev pub of_labels : Labels → List Place
of_labels (Any p) = p ∷ []
of_labels (Unwind p) = p ∷ []
of_labels (Signals qs) = of_names qs

abbrev pub of_repeat_labels : RepeatLabels → List Place
of_repeat_labels (repeat.Named xs) = of_identifiers xs
of_repeat_labels (repeat.Finished p) = p ∷ []

abbrev pub of_base : TypeBase → List Place
of_base Unsaid = []
of_base (OfInteger p) = p ∷ []
of_base (OfCardinal p) = p ∷ []
of_base (OfCharacter p) = p ∷ []
of_base (OfName q) = of_name q

unfoldable mutual
  pub of_type : s.TypeExp → List Place
  of_type (s.Integer p) = p ∷ []
  of_type (s.Cardinal p) = p ∷ []
  of_type (s.LongInteger p) = p ∷ []
  of_type (s.LongCardinal p) = p ∷ []
  of_type (s.Boolean p) = p ∷ []
  of_type (s.Character p) = p ∷ []
  of_type (s.String p) = p ∷ []
  of_type (s.Called q) = of_name q
  of_type (s.Enumeration p xs) = p ∷ of_identifiers xs
  of_type (s.Subrange b i) = of_base b ++ of_interval i
  of_type (s.Array p i e) = p ∷ (of_type i ++ of_type e)
  of_type (s.Record p fs) = p ∷ of_fields fs

  pub of_fields : s.FieldList → List Place
  of_fields (s.WithNames fs) = of_named fs
  of_fields (s.Unnamed ts) = of_types ts

  pub of_named : s.NamedFields → List Place
  of_named s.NoFields = []
  of_named (s.AndFields xs e fs) = of_identifiers xs ++ (of_type e ++ of_named fs)

  pub of_types : s.TypeExps → List Place
  of_types s.NoTypes = []
  of_types (s.AndType e es) = of_type e ++ of_types es

  pub of_interval : s.Interval → List Place
  of_interval (s.Between p x low high y) = p ∷ (of_expr low ++ of_expr high)

  pub of_expr : s.Expr → List Place
  of_expr (s.Run e ss) = of_expr e ++ of_steps ss
  of_expr (s.Not p e) = p ∷ of_expr e
  of_expr (s.Compare d b o p e) = of_expr d ++ (p ∷ of_expr e)
  of_expr (s.Within e b p i) = of_expr e ++ (p ∷ of_interval i)
  of_expr (s.Signed x p e) = p ∷ of_expr e
  of_expr (s.NumberLiteral p n) = p ∷ []
  of_expr (s.CharacterLiteral p n) = p ∷ []
  of_expr (s.StringLiteral p bytes) = p ∷ []
  of_expr (s.Truth p b) = p ∷ []
  of_expr (s.Parenthesis p e) = p ∷ of_expr e
  of_expr (s.Reference l) = of_left l
  of_expr (s.Constructor p items) = p ∷ of_items items
  of_expr (s.Raised r) = of_raise r

  pub of_steps : s.Operations → List Place
  of_steps s.NoOperation = []
  of_steps (s.AndOperation o p e ss) = p ∷ (of_expr e ++ of_steps ss)

  pub of_left : s.Left → List Place
  of_left (s.LeftOf x ss) = x.place ∷ of_suffixes ss

  pub of_suffixes : s.Suffixes → List Place
  of_suffixes s.NoSuffix = []
  of_suffixes (s.Field x ss) = x.place ∷ of_suffixes ss
  of_suffixes (s.Applied b ss) = of_brackets b ++ of_suffixes ss

  pub of_brackets : s.Brackets → List Place
  of_brackets (s.BracketsOf p items ph) = p ∷ (of_items items ++ of_phrase ph)

  pub of_items : s.Items → List Place
  of_items s.Nothing = []
  of_items (s.InOrder es) = of_exprs es
  of_items (s.ByKey es) = of_keyed es

  pub of_exprs : s.Exprs → List Place
  of_exprs s.NoExprs = []
  of_exprs (s.AndExpr e es) = of_expr e ++ of_exprs es

  pub of_keyed : s.KeyedExprs → List Place
  of_keyed s.NoKeyedExprs = []
  of_keyed (s.AndKeyedExpr x e es) = x.place ∷ (of_expr e ++ of_keyed es)

  pub of_raise : s.Raise → List Place
  of_raise (s.SignalRaise p q b) = p ∷ (of_name q ++ of_maybe b)
  of_raise (s.ErrorRaise p q b) = p ∷ (of_name q ++ of_maybe b)
  of_raise (s.UnnamedError p) = p ∷ []

  pub of_maybe : s.MaybeBrackets → List Place
  of_maybe s.NoBrackets = []
  of_maybe (s.WithBrackets b) = of_brackets b

  pub of_phrase : s.Phrase → List Place
  of_phrase s.NoPhrase = []
  of_phrase (s.Catch p arms) = p ∷ of_arms arms

  pub of_arms : s.Arms → List Place
  of_arms s.NoArms = []
  of_arms (s.AndArm ls body arms) = of_labels ls ++ (of_stmt body ++ of_arms arms)

  pub of_stmt : s.Statement → List Place
  of_stmt (s.Null p) = p ∷ []
  of_stmt (s.Nested b) = of_block b
  of_stmt (s.Assign l e) = of_left l ++ of_expr e
  of_stmt (s.Extract p ts e) = p ∷ (of_targets ts ++ of_expr e)
  of_stmt (s.Call l) = of_left l
  of_stmt (s.RaiseStatement r) = of_raise r
  of_stmt (s.If p e body other) = p ∷ (of_expr e ++ (of_stmt body ++ of_other other))
  of_stmt (s.Select p e cs other) = p ∷ (of_expr e ++ (of_cases cs ++ of_other other))
  of_stmt (s.Loop c p ph ss rs) = of_control c ++ (p ∷ (of_phrase ph ++ (of_stmts ss ++ of_repeats rs)))
  of_stmt (s.ExitLoop p) = p ∷ []
  of_stmt (s.NextTurn p) = p ∷ []
  of_stmt (s.Goto p x) = p ∷ (x.place ∷ [])
  of_stmt (s.Return p items) = p ∷ of_values items
  of_stmt (s.Resume p items) = p ∷ of_values items
  of_stmt (s.Reject p) = p ∷ []
  of_stmt (s.Retry p) = p ∷ []
  of_stmt (s.Continue p) = p ∷ []

  pub of_other : s.MaybeStatement → List Place
  of_other s.NoStatement = []
  of_other (s.OneStatement body) = of_stmt body

  pub of_values : s.MaybeItems → List Place
  of_values s.NoItems = []
  of_values (s.WithItems p items) = p ∷ of_items items

  pub of_targets : s.Targets → List Place
  of_targets s.NoTarget = []
  of_targets (s.TargetsInOrder ls) = of_lefts ls
  of_targets (s.TargetsByKey ls) = of_keyed_lefts ls

  pub of_lefts : s.Lefts → List Place
  of_lefts s.NoLefts = []
  of_lefts (s.AndLeft l ls) = of_left l ++ of_lefts ls

  pub of_keyed_lefts : s.KeyedLefts → List Place
  of_keyed_lefts s.NoKeyedLefts = []
  of_keyed_lefts (s.AndKeyedLeft x l ls) = x.place ∷ (of_left l ++ of_keyed_lefts ls)

  pub of_stmts : s.Statements → List Place
  of_stmts s.NoStatements = []
  of_stmts (s.AndStatement body ss) = of_stmt body ++ of_stmts ss

  pub of_control : s.Control → List Place
  of_control (s.ControlOf n c) = of_count n ++ of_condition c

  pub of_count : s.Count → List Place
  of_count s.NoCount = []
  of_count (s.For p x down i) = p ∷ (x.place ∷ of_interval i)
  of_count (s.Through p i) = p ∷ of_interval i

  pub of_condition : s.Condition → List Place
  of_condition s.Always = []
  of_condition (s.While p e) = p ∷ of_expr e
  of_condition (s.Until p e) = p ∷ of_expr e

  pub of_cases : s.Cases → List Place
  of_cases s.NoCases = []
  of_cases (s.AndCase ts body cs) = of_tests ts ++ (of_stmt body ++ of_cases cs)

  pub of_tests : s.Tests → List Place
  of_tests s.NoTests = []
  of_tests (s.Value e ts) = of_expr e ++ of_tests ts
  of_tests (s.Compared b o p e ts) = p ∷ (of_expr e ++ of_tests ts)
  of_tests (s.Inside b p i ts) = p ∷ (of_interval i ++ of_tests ts)

  pub of_block : s.Block → List Place
  of_block (s.BlockOf p ph locals ss es) = p ∷ (of_phrase ph ++ (of_locals locals ++ (of_stmts ss ++ of_exits es)))

  pub of_locals : s.Locals → List Place
  of_locals s.NoLocals = []
  of_locals (s.AndLocal xs d rest) = of_declared_names xs ++ (of_plain d ++ of_locals rest)

  pub of_plain : s.PlainItem → List Place
  of_plain (s.TypeIs e) = of_type e
  of_plain (s.Variable e) = of_type e
  of_plain (s.Initial e x) = of_type e ++ of_expr x
  of_plain (s.Constant e x) = of_type e ++ of_expr x

  pub of_exits : s.Exits → List Place
  of_exits s.NoExits = []
  of_exits (s.AndExit xs body es) = of_identifiers xs ++ (of_stmt body ++ of_exits es)

  pub of_repeats : s.Repeats → List Place
  of_repeats s.NoRepeats = []
  of_repeats (s.AndRepeat ls body rs) = of_repeat_labels ls ++ (of_stmt body ++ of_repeats rs)

abbrev pub of_maybe_fields : Option s.FieldList → List Place
of_maybe_fields None = []
of_maybe_fields (Some fs) = of_fields fs

abbrev pub of_head : s.Head → List Place
of_head h = of_maybe_fields h.takes ++ of_maybe_fields h.gives

abbrev pub of_declared : s.Declared → List Place
of_declared (s.Procedure h b) = of_head h ++ of_block b
of_declared (s.Signal h) = of_head h
of_declared (s.Error fs) = of_maybe_fields fs
of_declared (s.Data d) = of_plain d

unfoldable pub of_declarations : List s.Declaration → List Place
of_declarations [] = []
of_declarations (d ∷ rest) = of_declared_names d.names ++ (of_declared d.declared ++ of_declarations rest)

abbrev pub of_defined : s.Defined → List Place
of_defined (s.ProcedureItem h) = of_head h
of_defined (s.SignalItem h) = of_head h
of_defined (s.ErrorItem fs) = of_maybe_fields fs
of_defined (s.TypeItem e) = of_type e
of_defined (s.ConstantItem e x) = of_type e ++ of_expr x

unfoldable pub of_definitions : List s.Definition → List Place
of_definitions [] = []
of_definitions (d ∷ rest) = of_declared_names d.names ++ (of_defined d.defined ++ of_definitions rest)

abbrev pub of_inner : s.Inner → List Place
of_inner inner = of_phrase inner.enable ++ (of_declarations inner.declarations ++ (of_stmts inner.statements ++ of_exits inner.exits))

abbrev pub of_kind : s.ModuleKind → List Place
of_kind (s.Program p imports exports opens inner) =
    p ∷ (of_identifiers imports ++ (of_identifiers exports ++ (of_identifiers opens ++ of_inner inner)))
of_kind (s.Interface p opens defs) = p ∷ (of_identifiers opens ++ of_definitions defs)

abbrev pub of_used : Option (List Identifier) → List Place
of_used None = []
of_used (Some xs) = of_identifiers xs

unfoldable pub of_directory : List DirectoryItem → List Place
of_directory [] = []
of_directory (d ∷ ds) = d.name.place ∷ (d.file_place ∷ (of_used d.used ++ of_directory ds))

unfoldable pub places_in : s.Module → List Place
places_in m = of_directory m.directory ++ (m.name.place ∷ of_kind m.kind)
