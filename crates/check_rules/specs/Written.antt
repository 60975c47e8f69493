-- What the grammar leaves no choice about and the tree does not show: lists that have a part, and string literals within
-- their limit (Language Manual, appendix on syntax; the limit is a rule of this project). Each tree of a text is so.
use Rattle.std.specs.Prelude.{◌≢◌, ◌≤◌, [], length, Option, Some, None, All}
use Rattle.mesa_base.specs.declared.limits.TheConstants.{STRING_BYTES}
use Rattle.syntax_trees.specs.declared.syntax.Labels.{Labels}
use Rattle.syntax_trees.specs.declared.syntax.Labels.TheVariants.{Any, Unwind, Signals}
use Rattle.syntax_trees.specs.declared.syntax.RepeatLabels.{RepeatLabels}
use Rattle.syntax_trees.specs.declared.syntax.RepeatLabels.TheVariants as repeat
use Rattle.syntax_trees.specs.Syntax as s

unfoldable pub LabelsWritten : Labels → Type 0
LabelsWritten (Any p) = Unit {0}
LabelsWritten (Unwind p) = Unit {0}
LabelsWritten (Signals qs) = qs ≢ []

unfoldable pub RepeatWritten : RepeatLabels → Type 0
RepeatWritten (repeat.Named xs) = xs ≢ []
RepeatWritten (repeat.Finished p) = Unit {0}

unfoldable pub HasArm : s.Arms → Type 0
HasArm s.NoArms = ⊥
HasArm (s.AndArm ls body rest) = Unit {0}

unfoldable pub HasTest : s.Tests → Type 0
HasTest s.NoTests = ⊥
HasTest _ = Unit {0}

unfoldable pub HasField : s.FieldList → Type 0
HasField (s.WithNames s.NoFields) = ⊥
HasField (s.WithNames (s.AndFields xs e fs)) = Unit {0}
HasField (s.Unnamed s.NoTypes) = ⊥
HasField (s.Unnamed (s.AndType e es)) = Unit {0}

unfoldable mutual
  pub TypeWritten : s.TypeExp → Type 0
  TypeWritten (s.Enumeration p xs) = xs ≢ []
  TypeWritten (s.Subrange b i) = IntervalWritten i
  TypeWritten (s.Array p i e) = TypeWritten i × TypeWritten e
  TypeWritten (s.Record p fs) = HasField fs × FieldsWritten fs
  TypeWritten _ = Unit {0}

  pub FieldsWritten : s.FieldList → Type 0
  FieldsWritten (s.WithNames fs) = NamedWritten fs
  FieldsWritten (s.Unnamed es) = TypesWritten es

  pub NamedWritten : s.NamedFields → Type 0
  NamedWritten s.NoFields = Unit {0}
  NamedWritten (s.AndFields xs e fs) = (xs ≢ []) × TypeWritten e × NamedWritten fs

  pub TypesWritten : s.TypeExps → Type 0
  TypesWritten s.NoTypes = Unit {0}
  TypesWritten (s.AndType e es) = TypeWritten e × TypesWritten es

  pub IntervalWritten : s.Interval → Type 0
  IntervalWritten (s.Between p x low high y) = ExprWritten low × ExprWritten high

  pub ExprWritten : s.Expr → Type 0
  ExprWritten (s.Run e ss) = ExprWritten e × StepsWritten ss
  ExprWritten (s.Not p e) = ExprWritten e
  ExprWritten (s.Compare d b o p e) = ExprWritten d × ExprWritten e
  ExprWritten (s.Within e b p i) = ExprWritten e × IntervalWritten i
  ExprWritten (s.Signed x p e) = ExprWritten e
  ExprWritten (s.NumberLiteral p n) = Unit {0}
  ExprWritten (s.CharacterLiteral p n) = Unit {0}
  ExprWritten (s.StringLiteral p bytes) = length bytes ≤ STRING_BYTES
  ExprWritten (s.Truth p b) = Unit {0}
  ExprWritten (s.Parenthesis p e) = ExprWritten e
  ExprWritten (s.Reference l) = LeftWritten l
  ExprWritten (s.Constructor p items) = ItemsWritten items
  ExprWritten (s.Raised r) = RaiseWritten r

  pub StepsWritten : s.Operations → Type 0
  StepsWritten s.NoOperation = Unit {0}
  StepsWritten (s.AndOperation o p e ss) = ExprWritten e × StepsWritten ss

  pub LeftWritten : s.Left → Type 0
  LeftWritten (s.LeftOf x ss) = SuffixesWritten ss

  pub SuffixesWritten : s.Suffixes → Type 0
  SuffixesWritten s.NoSuffix = Unit {0}
  SuffixesWritten (s.Field x ss) = SuffixesWritten ss
  SuffixesWritten (s.Applied b ss) = BracketsWritten b × SuffixesWritten ss

  pub BracketsWritten : s.Brackets → Type 0
  BracketsWritten (s.BracketsOf p items ph) = ItemsWritten items × PhraseWritten ph

  pub ItemsWritten : s.Items → Type 0
  ItemsWritten s.Nothing = Unit {0}
  ItemsWritten (s.InOrder es) = ExprsWritten es
  ItemsWritten (s.ByKey es) = KeyedWritten es

  pub ExprsWritten : s.Exprs → Type 0
  ExprsWritten s.NoExprs = Unit {0}
  ExprsWritten (s.AndExpr e es) = ExprWritten e × ExprsWritten es

  pub KeyedWritten : s.KeyedExprs → Type 0
  KeyedWritten s.NoKeyedExprs = Unit {0}
  KeyedWritten (s.AndKeyedExpr x e es) = ExprWritten e × KeyedWritten es

  pub RaiseWritten : s.Raise → Type 0
  RaiseWritten (s.SignalRaise p q b) = MaybeWritten b
  RaiseWritten (s.ErrorRaise p q b) = MaybeWritten b
  RaiseWritten (s.UnnamedError p) = Unit {0}

  pub MaybeWritten : s.MaybeBrackets → Type 0
  MaybeWritten s.NoBrackets = Unit {0}
  MaybeWritten (s.WithBrackets b) = BracketsWritten b

  pub PhraseWritten : s.Phrase → Type 0
  PhraseWritten s.NoPhrase = Unit {0}
  PhraseWritten (s.Catch p xs) = HasArm xs × ArmsWritten xs

  pub ArmsWritten : s.Arms → Type 0
  ArmsWritten s.NoArms = Unit {0}
  ArmsWritten (s.AndArm ls body rest) = LabelsWritten ls × StatementWritten body × ArmsWritten rest

  pub StatementWritten : s.Statement → Type 0
  StatementWritten (s.Nested b) = BlockWritten b
  StatementWritten (s.Assign l e) = LeftWritten l × ExprWritten e
  StatementWritten (s.Extract p ts e) = TargetsWritten ts × ExprWritten e
  StatementWritten (s.Call l) = LeftWritten l
  StatementWritten (s.RaiseStatement r) = RaiseWritten r
  StatementWritten (s.If p e body other) = ExprWritten e × StatementWritten body × OtherWritten other
  StatementWritten (s.Select p e cs other) = ExprWritten e × CasesWritten cs × OtherWritten other
  StatementWritten (s.Loop c p ph ss rs) = ControlWritten c × PhraseWritten ph × StatementsWritten ss × RepeatsWritten rs
  StatementWritten (s.Return p items) = ValuesWritten items
  StatementWritten (s.Resume p items) = ValuesWritten items
  StatementWritten _ = Unit {0}

  pub OtherWritten : s.MaybeStatement → Type 0
  OtherWritten s.NoStatement = Unit {0}
  OtherWritten (s.OneStatement body) = StatementWritten body

  pub ValuesWritten : s.MaybeItems → Type 0
  ValuesWritten s.NoItems = Unit {0}
  ValuesWritten (s.WithItems p items) = ItemsWritten items

  pub TargetsWritten : s.Targets → Type 0
  TargetsWritten s.NoTarget = Unit {0}
  TargetsWritten (s.TargetsInOrder ls) = LeftsWritten ls
  TargetsWritten (s.TargetsByKey ls) = KeyedLeftsWritten ls

  pub LeftsWritten : s.Lefts → Type 0
  LeftsWritten s.NoLefts = Unit {0}
  LeftsWritten (s.AndLeft l ls) = LeftWritten l × LeftsWritten ls

  pub KeyedLeftsWritten : s.KeyedLefts → Type 0
  KeyedLeftsWritten s.NoKeyedLefts = Unit {0}
  KeyedLeftsWritten (s.AndKeyedLeft x l ls) = LeftWritten l × KeyedLeftsWritten ls

  pub StatementsWritten : s.Statements → Type 0
  StatementsWritten s.NoStatements = Unit {0}
  StatementsWritten (s.AndStatement body ss) = StatementWritten body × StatementsWritten ss

  pub ControlWritten : s.Control → Type 0
  ControlWritten (s.ControlOf n c) = CountWritten n × ConditionWritten c

  pub CountWritten : s.Count → Type 0
  CountWritten s.NoCount = Unit {0}
  CountWritten (s.For p x down i) = IntervalWritten i
  CountWritten (s.Through p i) = IntervalWritten i

  pub ConditionWritten : s.Condition → Type 0
  ConditionWritten s.Always = Unit {0}
  ConditionWritten (s.While p e) = ExprWritten e
  ConditionWritten (s.Until p e) = ExprWritten e

  pub CasesWritten : s.Cases → Type 0
  CasesWritten s.NoCases = Unit {0}
  CasesWritten (s.AndCase ts body cs) = HasTest ts × TestsWritten ts × StatementWritten body × CasesWritten cs

  pub TestsWritten : s.Tests → Type 0
  TestsWritten s.NoTests = Unit {0}
  TestsWritten (s.Value e ts) = ExprWritten e × TestsWritten ts
  TestsWritten (s.Compared b o p e ts) = ExprWritten e × TestsWritten ts
  TestsWritten (s.Inside b p i ts) = IntervalWritten i × TestsWritten ts

  pub BlockWritten : s.Block → Type 0
  BlockWritten (s.BlockOf p ph locals ss es) = PhraseWritten ph × LocalsWritten locals × StatementsWritten ss × ExitsWritten es

  pub LocalsWritten : s.Locals → Type 0
  LocalsWritten s.NoLocals = Unit {0}
  LocalsWritten (s.AndLocal xs d rest) = (xs ≢ []) × ItemWritten d × LocalsWritten rest

  pub ItemWritten : s.PlainItem → Type 0
  ItemWritten (s.TypeIs e) = TypeWritten e
  ItemWritten (s.Variable e) = TypeWritten e
  ItemWritten (s.Initial e x) = TypeWritten e × ExprWritten x
  ItemWritten (s.Constant e x) = TypeWritten e × ExprWritten x

  pub ExitsWritten : s.Exits → Type 0
  ExitsWritten s.NoExits = Unit {0}
  ExitsWritten (s.AndExit xs body es) = (xs ≢ []) × StatementWritten body × ExitsWritten es

  pub RepeatsWritten : s.Repeats → Type 0
  RepeatsWritten s.NoRepeats = Unit {0}
  RepeatsWritten (s.AndRepeat ls body rs) = RepeatWritten ls × StatementWritten body × RepeatsWritten rs

-- parameters or results that are written at all
unfoldable pub MaybeFieldsWritten : Option s.FieldList → Type 0
MaybeFieldsWritten None = Unit {0}
MaybeFieldsWritten (Some fs) = FieldsWritten fs

unfoldable pub HeadWritten : s.Head → Type 0
HeadWritten h = MaybeFieldsWritten h.takes × MaybeFieldsWritten h.gives

unfoldable pub DeclaredWritten : s.Declared → Type 0
DeclaredWritten (s.Procedure h b) = HeadWritten h × BlockWritten b
DeclaredWritten (s.Signal h) = HeadWritten h
DeclaredWritten (s.Error takes) = MaybeFieldsWritten takes
DeclaredWritten (s.Data d) = ItemWritten d

unfoldable pub DeclarationWritten : s.Declaration → Type 0
DeclarationWritten d = (d.names ≢ []) × DeclaredWritten d.declared

unfoldable pub InnerWritten : s.Inner → Type 0
InnerWritten inner = PhraseWritten inner.enable × All DeclarationWritten inner.declarations × StatementsWritten inner.statements × ExitsWritten inner.exits

unfoldable pub DefinedWritten : s.Defined → Type 0
DefinedWritten (s.ProcedureItem h) = HeadWritten h
DefinedWritten (s.SignalItem h) = HeadWritten h
DefinedWritten (s.ErrorItem takes) = MaybeFieldsWritten takes
DefinedWritten (s.TypeItem e) = TypeWritten e
DefinedWritten (s.ConstantItem e x) = TypeWritten e × ExprWritten x

unfoldable pub DefinitionWritten : s.Definition → Type 0
DefinitionWritten d = (d.names ≢ []) × DefinedWritten d.defined

unfoldable pub ModuleWritten : s.ModuleKind → Type 0
ModuleWritten (s.Program p imports exports opens inner) = InnerWritten inner
ModuleWritten (s.Interface p opens defs) = All DefinitionWritten defs
