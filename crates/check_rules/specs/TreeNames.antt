-- Each name that stands in a syntax tree is one: 1 to 255 letters and digits with a letter first (Language Manual, chapter 2;
-- the limit is a rule of this project). Each tree of a text is so.
use Rattle.std.specs.Prelude.{List, Option, Some, None}
use Rattle.std.specs.List.{All}
use Rattle.mesa_base.specs.Name.{IsName}
use Rattle.mesa_base.specs.declared.identifier.Identifier.{Identifier}
use Rattle.syntax_trees.specs.declared.syntax.QualifiedName.{QualifiedName}
use Rattle.syntax_trees.specs.declared.syntax.Labels.{Labels}
use Rattle.syntax_trees.specs.declared.syntax.Labels.TheVariants.{Any, Unwind, Signals}
use Rattle.syntax_trees.specs.declared.syntax.RepeatLabels.{RepeatLabels}
use Rattle.syntax_trees.specs.declared.syntax.RepeatLabels.TheVariants as repeat
use Rattle.syntax_trees.specs.declared.syntax.TypeBase.{TypeBase}
use Rattle.syntax_trees.specs.declared.syntax.TypeBase.TheVariants.{Unsaid, OfInteger, OfCardinal, OfCharacter, OfName}
use Rattle.syntax_trees.specs.declared.syntax.DirectoryItem.{DirectoryItem}
use Rattle.syntax_trees.specs.Syntax as s

abbrev pub Named : Identifier → Type 0
Named x = IsName x.name

abbrev pub AllNames : List Identifier → Type 0
AllNames xs = All Named xs

abbrev pub SecondNamed : Option Identifier → Type 0
SecondNamed None = Unit {0}
SecondNamed (Some x) = Named x

unfoldable pub QualifiedNamed : QualifiedName → Type 0
QualifiedNamed q = Named q.first × SecondNamed q.second

unfoldable pub LabelsNamed : Labels → Type 0
LabelsNamed (Any p) = Unit {0}
LabelsNamed (Unwind p) = Unit {0}
LabelsNamed (Signals qs) = All QualifiedNamed qs

unfoldable pub RepeatNamed : RepeatLabels → Type 0
RepeatNamed (repeat.Named xs) = AllNames xs
RepeatNamed (repeat.Finished p) = Unit {0}

unfoldable pub BaseNamed : TypeBase → Type 0
BaseNamed Unsaid = Unit {0}
BaseNamed (OfInteger p) = Unit {0}
BaseNamed (OfCardinal p) = Unit {0}
BaseNamed (OfCharacter p) = Unit {0}
BaseNamed (OfName q) = QualifiedNamed q

unfoldable mutual
  pub TypeNamed : s.TypeExp → Type 0
  TypeNamed (s.Called q) = QualifiedNamed q
  TypeNamed (s.Enumeration p xs) = AllNames xs
  TypeNamed (s.Subrange b i) = BaseNamed b × IntervalNamed i
  TypeNamed (s.Array p i e) = TypeNamed i × TypeNamed e
  TypeNamed (s.Record p fs) = FieldsNamed fs
  TypeNamed _ = Unit {0}

  pub FieldsNamed : s.FieldList → Type 0
  FieldsNamed (s.WithNames fs) = LabeledNamed fs
  FieldsNamed (s.Unnamed es) = TypesNamed es

  pub LabeledNamed : s.NamedFields → Type 0
  LabeledNamed s.NoFields = Unit {0}
  LabeledNamed (s.AndFields xs e fs) = AllNames xs × TypeNamed e × LabeledNamed fs

  pub TypesNamed : s.TypeExps → Type 0
  TypesNamed s.NoTypes = Unit {0}
  TypesNamed (s.AndType e es) = TypeNamed e × TypesNamed es

  pub IntervalNamed : s.Interval → Type 0
  IntervalNamed (s.Between p x low high y) = ExprNamed low × ExprNamed high

  pub ExprNamed : s.Expr → Type 0
  ExprNamed (s.Run e ss) = ExprNamed e × StepsNamed ss
  ExprNamed (s.Not p e) = ExprNamed e
  ExprNamed (s.Compare d b o p e) = ExprNamed d × ExprNamed e
  ExprNamed (s.Within e b p i) = ExprNamed e × IntervalNamed i
  ExprNamed (s.Signed x p e) = ExprNamed e
  ExprNamed (s.NumberLiteral p n) = Unit {0}
  ExprNamed (s.CharacterLiteral p n) = Unit {0}
  ExprNamed (s.StringLiteral p bytes) = Unit {0}
  ExprNamed (s.Truth p b) = Unit {0}
  ExprNamed (s.Parenthesis p e) = ExprNamed e
  ExprNamed (s.Reference l) = LeftNamed l
  ExprNamed (s.Constructor p items) = ItemsNamed items
  ExprNamed (s.Raised r) = RaiseNamed r

  pub StepsNamed : s.Operations → Type 0
  StepsNamed s.NoOperation = Unit {0}
  StepsNamed (s.AndOperation o p e ss) = ExprNamed e × StepsNamed ss

  pub LeftNamed : s.Left → Type 0
  LeftNamed (s.LeftOf x ss) = Named x × SuffixesNamed ss

  pub SuffixesNamed : s.Suffixes → Type 0
  SuffixesNamed s.NoSuffix = Unit {0}
  SuffixesNamed (s.Field x ss) = Named x × SuffixesNamed ss
  SuffixesNamed (s.Applied b ss) = BracketsNamed b × SuffixesNamed ss

  pub BracketsNamed : s.Brackets → Type 0
  BracketsNamed (s.BracketsOf p items ph) = ItemsNamed items × PhraseNamed ph

  pub ItemsNamed : s.Items → Type 0
  ItemsNamed s.Nothing = Unit {0}
  ItemsNamed (s.InOrder es) = ExprsNamed es
  ItemsNamed (s.ByKey es) = KeyedNamed es

  pub ExprsNamed : s.Exprs → Type 0
  ExprsNamed s.NoExprs = Unit {0}
  ExprsNamed (s.AndExpr e es) = ExprNamed e × ExprsNamed es

  pub KeyedNamed : s.KeyedExprs → Type 0
  KeyedNamed s.NoKeyedExprs = Unit {0}
  KeyedNamed (s.AndKeyedExpr x e es) = Named x × ExprNamed e × KeyedNamed es

  pub RaiseNamed : s.Raise → Type 0
  RaiseNamed (s.SignalRaise p q b) = QualifiedNamed q × MaybeNamed b
  RaiseNamed (s.ErrorRaise p q b) = QualifiedNamed q × MaybeNamed b
  RaiseNamed (s.UnnamedError p) = Unit {0}

  pub MaybeNamed : s.MaybeBrackets → Type 0
  MaybeNamed s.NoBrackets = Unit {0}
  MaybeNamed (s.WithBrackets b) = BracketsNamed b

  pub PhraseNamed : s.Phrase → Type 0
  PhraseNamed s.NoPhrase = Unit {0}
  PhraseNamed (s.Catch p xs) = ArmsNamed xs

  pub ArmsNamed : s.Arms → Type 0
  ArmsNamed s.NoArms = Unit {0}
  ArmsNamed (s.AndArm ls body rest) = LabelsNamed ls × StatementNamed body × ArmsNamed rest

  pub StatementNamed : s.Statement → Type 0
  StatementNamed (s.Nested b) = BlockNamed b
  StatementNamed (s.Assign l e) = LeftNamed l × ExprNamed e
  StatementNamed (s.Extract p ts e) = TargetsNamed ts × ExprNamed e
  StatementNamed (s.Call l) = LeftNamed l
  StatementNamed (s.RaiseStatement r) = RaiseNamed r
  StatementNamed (s.If p e body other) = ExprNamed e × StatementNamed body × OtherNamed other
  StatementNamed (s.Select p e cs other) = ExprNamed e × CasesNamed cs × OtherNamed other
  StatementNamed (s.Loop c p ph ss rs) = ControlNamed c × PhraseNamed ph × StatementsNamed ss × RepeatsNamed rs
  StatementNamed (s.Goto p x) = Named x
  StatementNamed (s.Return p items) = ValuesNamed items
  StatementNamed (s.Resume p items) = ValuesNamed items
  StatementNamed _ = Unit {0}

  pub OtherNamed : s.MaybeStatement → Type 0
  OtherNamed s.NoStatement = Unit {0}
  OtherNamed (s.OneStatement body) = StatementNamed body

  pub ValuesNamed : s.MaybeItems → Type 0
  ValuesNamed s.NoItems = Unit {0}
  ValuesNamed (s.WithItems p items) = ItemsNamed items

  pub TargetsNamed : s.Targets → Type 0
  TargetsNamed s.NoTarget = Unit {0}
  TargetsNamed (s.TargetsInOrder ls) = LeftsNamed ls
  TargetsNamed (s.TargetsByKey ls) = KeyedLeftsNamed ls

  pub LeftsNamed : s.Lefts → Type 0
  LeftsNamed s.NoLefts = Unit {0}
  LeftsNamed (s.AndLeft l ls) = LeftNamed l × LeftsNamed ls

  pub KeyedLeftsNamed : s.KeyedLefts → Type 0
  KeyedLeftsNamed s.NoKeyedLefts = Unit {0}
  KeyedLeftsNamed (s.AndKeyedLeft x l ls) = Named x × LeftNamed l × KeyedLeftsNamed ls

  pub StatementsNamed : s.Statements → Type 0
  StatementsNamed s.NoStatements = Unit {0}
  StatementsNamed (s.AndStatement body ss) = StatementNamed body × StatementsNamed ss

  pub ControlNamed : s.Control → Type 0
  ControlNamed (s.ControlOf n c) = CountNamed n × ConditionNamed c

  pub CountNamed : s.Count → Type 0
  CountNamed s.NoCount = Unit {0}
  CountNamed (s.For p x down i) = Named x × IntervalNamed i
  CountNamed (s.Through p i) = IntervalNamed i

  pub ConditionNamed : s.Condition → Type 0
  ConditionNamed s.Always = Unit {0}
  ConditionNamed (s.While p e) = ExprNamed e
  ConditionNamed (s.Until p e) = ExprNamed e

  pub CasesNamed : s.Cases → Type 0
  CasesNamed s.NoCases = Unit {0}
  CasesNamed (s.AndCase ts body cs) = TestsNamed ts × StatementNamed body × CasesNamed cs

  pub TestsNamed : s.Tests → Type 0
  TestsNamed s.NoTests = Unit {0}
  TestsNamed (s.Value e ts) = ExprNamed e × TestsNamed ts
  TestsNamed (s.Compared b o p e ts) = ExprNamed e × TestsNamed ts
  TestsNamed (s.Inside b p i ts) = IntervalNamed i × TestsNamed ts

  pub BlockNamed : s.Block → Type 0
  BlockNamed (s.BlockOf p ph locals ss es) = PhraseNamed ph × LocalsNamed locals × StatementsNamed ss × ExitsNamed es

  pub LocalsNamed : s.Locals → Type 0
  LocalsNamed s.NoLocals = Unit {0}
  LocalsNamed (s.AndLocal xs d rest) = AllNames xs × ItemNamed d × LocalsNamed rest

  pub ItemNamed : s.PlainItem → Type 0
  ItemNamed (s.TypeIs e) = TypeNamed e
  ItemNamed (s.Variable e) = TypeNamed e
  ItemNamed (s.Initial e x) = TypeNamed e × ExprNamed x
  ItemNamed (s.Constant e x) = TypeNamed e × ExprNamed x

  pub ExitsNamed : s.Exits → Type 0
  ExitsNamed s.NoExits = Unit {0}
  ExitsNamed (s.AndExit xs body es) = AllNames xs × StatementNamed body × ExitsNamed es

  pub RepeatsNamed : s.Repeats → Type 0
  RepeatsNamed s.NoRepeats = Unit {0}
  RepeatsNamed (s.AndRepeat ls body rs) = RepeatNamed ls × StatementNamed body × RepeatsNamed rs

-- parameters or results that are written at all
unfoldable pub MaybeFieldsNamed : Option s.FieldList → Type 0
MaybeFieldsNamed None = Unit {0}
MaybeFieldsNamed (Some fs) = FieldsNamed fs

unfoldable pub HeadNamed : s.Head → Type 0
HeadNamed h = MaybeFieldsNamed h.takes × MaybeFieldsNamed h.gives

unfoldable pub DeclaredNamed : s.Declared → Type 0
DeclaredNamed (s.Procedure h b) = HeadNamed h × BlockNamed b
DeclaredNamed (s.Signal h) = HeadNamed h
DeclaredNamed (s.Error takes) = MaybeFieldsNamed takes
DeclaredNamed (s.Data d) = ItemNamed d

unfoldable pub DeclarationNamed : s.Declaration → Type 0
DeclarationNamed d = AllNames d.names × DeclaredNamed d.declared

unfoldable pub InnerNamed : s.Inner → Type 0
InnerNamed inner = PhraseNamed inner.enable × All DeclarationNamed inner.declarations × StatementsNamed inner.statements × ExitsNamed inner.exits

unfoldable pub DefinedNamed : s.Defined → Type 0
DefinedNamed (s.ProcedureItem h) = HeadNamed h
DefinedNamed (s.SignalItem h) = HeadNamed h
DefinedNamed (s.ErrorItem takes) = MaybeFieldsNamed takes
DefinedNamed (s.TypeItem e) = TypeNamed e
DefinedNamed (s.ConstantItem e x) = TypeNamed e × ExprNamed x

unfoldable pub DefinitionNamed : s.Definition → Type 0
DefinitionNamed d = AllNames d.names × DefinedNamed d.defined

unfoldable pub KindNamed : s.ModuleKind → Type 0
KindNamed (s.Program p imports exports opens inner) = AllNames imports × AllNames exports × AllNames opens × InnerNamed inner
KindNamed (s.Interface p opens defs) = AllNames opens × All DefinitionNamed defs

-- an item of the DIRECTORY, with the names of its USING list
abbrev pub UsedNamed : Option (List Identifier) → Type 0
UsedNamed None = Unit {0}
UsedNamed (Some xs) = AllNames xs

unfoldable pub DirectoryItemNamed : DirectoryItem → Type 0
DirectoryItemNamed d = Named d.name × UsedNamed d.used

unfoldable pub HasNames : s.Module → Type 0
HasNames m = All DirectoryItemNamed m.directory × Named m.name × KindNamed m.kind
