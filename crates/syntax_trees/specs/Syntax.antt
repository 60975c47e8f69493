-- The syntax tree of a module as a person reads it: one constructor for each production of the grammar in docs/LANGUAGE.md
-- (Language Manual, appendix on syntax), and each list a form of its own. A Bool before a relation or IN says that NOT stands
-- there; one beside a bound of an interval, that the end there is open.
use Rattle.std.specs.Prelude.{ℕ, Bool, List, Option}
pub use Rattle.held_trees.specs.mesa_base.specs.declared.place.Place.{Place}
-- names, labels, operators and the items of DIRECTORY are those of the code, plain data already
pub use Rattle.held_trees.specs.mesa_base.specs.declared.identifier.Identifier.{Identifier}
pub use Rattle.syntax_trees.specs.declared.syntax.QualifiedName.{QualifiedName}
pub use Rattle.syntax_trees.specs.declared.syntax.Labels.{Labels}
pub use Rattle.syntax_trees.specs.declared.syntax.Labels.TheVariants.{Any, Unwind, Signals}
pub use Rattle.syntax_trees.specs.declared.syntax.RepeatLabels.{RepeatLabels}
pub use Rattle.syntax_trees.specs.declared.syntax.RepeatLabels.TheVariants.{Named, Finished}
pub use Rattle.syntax_trees.specs.declared.syntax.TypeBase.{TypeBase}
pub use Rattle.syntax_trees.specs.declared.syntax.TypeBase.TheVariants.{Unsaid, OfInteger, OfCardinal, OfCharacter, OfName}
pub use Rattle.syntax_trees.specs.declared.syntax.Operator.{Operator}
pub use Rattle.syntax_trees.specs.declared.syntax.Operator.TheVariants.{Or, And, Add, Subtract, Multiply, Divide, Modulo}
pub use Rattle.syntax_trees.specs.declared.syntax.Sign.{Sign}
pub use Rattle.syntax_trees.specs.declared.syntax.Sign.TheVariants.{Positive, Negative}
pub use Rattle.held_trees.specs.mesa_base.specs.declared.relation.Relation.{Relation}
pub use Rattle.held_trees.specs.mesa_base.specs.declared.relation.Relation.TheVariants.{Equal, NotEqual, Less, AtMost, Greater, AtLeast}
pub use Rattle.syntax_trees.specs.declared.syntax.Access.{Access}
pub use Rattle.syntax_trees.specs.declared.syntax.Access.TheVariants.{Public, Private}
pub use Rattle.syntax_trees.specs.declared.syntax.DirectoryItem.{DirectoryItem}

mutual
  -- a type as it is written
  pub data TypeExp : Type 0 where
    Integer : Place → TypeExp
    Cardinal : Place → TypeExp
    -- at the word LONG
    LongInteger : Place → TypeExp
    LongCardinal : Place → TypeExp
    Boolean : Place → TypeExp
    Character : Place → TypeExp
    String : Place → TypeExp
    Called : QualifiedName → TypeExp
    Enumeration : Place → List Identifier → TypeExp
    Subrange : TypeBase → Interval → TypeExp
    Array : Place → (index element : TypeExp) → TypeExp
    Record : Place → FieldList → TypeExp

  -- the fields of a record, or the parameters or results of a procedure
  pub data FieldList : Type 0 where
    WithNames : NamedFields → FieldList
    Unnamed : TypeExps → FieldList

  pub data NamedFields : Type 0 where
    NoFields : NamedFields
    AndFields : List Identifier → TypeExp → NamedFields → NamedFields

  pub data TypeExps : Type 0 where
    NoTypes : TypeExps
    AndType : TypeExp → TypeExps → TypeExps

  -- from one bound to another, at its bracket
  pub data Interval : Type 0 where
    Between : Place → (open_below : Bool) → (low high : Expr) → (open_above : Bool) → Interval

  -- a run has one operator or more, all of one level; a comparison stands at its relation, and IN at its word
  pub data Expr : Type 0 where
    Run : Expr → Operations → Expr
    Not : Place → Expr → Expr
    Compare : Expr → (negated : Bool) → Relation → Place → Expr → Expr
    Within : Expr → (negated : Bool) → Place → Interval → Expr
    Signed : Sign → Place → Expr → Expr
    NumberLiteral : Place → ℕ → Expr
    CharacterLiteral : Place → ℕ → Expr
    StringLiteral : Place → List ℕ → Expr
    Truth : Place → Bool → Expr
    Parenthesis : Place → Expr → Expr
    Reference : Left → Expr
    Constructor : Place → Items → Expr
    Raised : Raise → Expr

  -- an operator, where it stands, and the operand to its right
  pub data Operations : Type 0 where
    NoOperation : Operations
    AndOperation : Operator → Place → Expr → Operations → Operations

  -- a name with what follows it: fields, and brackets that index, call or construct
  pub data Left : Type 0 where
    LeftOf : Identifier → Suffixes → Left

  pub data Suffixes : Type 0 where
    NoSuffix : Suffixes
    Field : Identifier → Suffixes → Suffixes
    Applied : Brackets → Suffixes → Suffixes

  -- values in brackets with a catch phrase, at the bracket
  pub data Brackets : Type 0 where
    BracketsOf : Place → Items → Phrase → Brackets

  -- the items of a bracket list, in order or each with its key
  pub data Items : Type 0 where
    Nothing : Items
    InOrder : Exprs → Items
    ByKey : KeyedExprs → Items

  pub data Exprs : Type 0 where
    NoExprs : Exprs
    AndExpr : Expr → Exprs → Exprs

  pub data KeyedExprs : Type 0 where
    NoKeyedExprs : KeyedExprs
    AndKeyedExpr : (key : Identifier) → Expr → KeyedExprs → KeyedExprs

  -- at its word; only ERROR may stand without a name
  pub data Raise : Type 0 where
    SignalRaise : Place → QualifiedName → MaybeBrackets → Raise
    ErrorRaise : Place → QualifiedName → MaybeBrackets → Raise
    UnnamedError : Place → Raise

  pub data MaybeBrackets : Type 0 where
    NoBrackets : MaybeBrackets
    WithBrackets : Brackets → MaybeBrackets

  -- a catch phrase, at its `!` or ENABLE
  pub data Phrase : Type 0 where
    NoPhrase : Phrase
    Catch : Place → Arms → Phrase

  pub data Arms : Type 0 where
    NoArms : Arms
    AndArm : Labels → Statement → Arms → Arms

  -- the place is that of the first token, but a loop's is that of its DO; `first_place` below is the first token's for each
  pub data Statement : Type 0 where
    Null : Place → Statement
    Nested : Block → Statement
    Assign : Left → Expr → Statement
    Extract : Place → Targets → Expr → Statement
    Call : Left → Statement
    RaiseStatement : Raise → Statement
    If : Place → Expr → Statement → MaybeStatement → Statement
    Select : Place → Expr → Cases → MaybeStatement → Statement
    Loop : Control → Place → Phrase → Statements → Repeats → Statement
    ExitLoop : Place → Statement
    NextTurn : Place → Statement
    Goto : Place → Identifier → Statement
    Return : Place → MaybeItems → Statement
    Resume : Place → MaybeItems → Statement
    Reject : Place → Statement
    Retry : Place → Statement
    Continue : Place → Statement

  pub data MaybeStatement : Type 0 where
    NoStatement : MaybeStatement
    OneStatement : Statement → MaybeStatement

  -- values in brackets, at the bracket
  pub data MaybeItems : Type 0 where
    NoItems : MaybeItems
    WithItems : Place → Items → MaybeItems

  -- what an extractor gives to
  pub data Targets : Type 0 where
    NoTarget : Targets
    TargetsInOrder : Lefts → Targets
    TargetsByKey : KeyedLefts → Targets

  pub data Lefts : Type 0 where
    NoLefts : Lefts
    AndLeft : Left → Lefts → Lefts

  pub data KeyedLefts : Type 0 where
    NoKeyedLefts : KeyedLefts
    AndKeyedLeft : (key : Identifier) → Left → KeyedLefts → KeyedLefts

  pub data Statements : Type 0 where
    NoStatements : Statements
    AndStatement : Statement → Statements → Statements

  -- what stands before a loop's DO
  pub data Control : Type 0 where
    ControlOf : Count → Condition → Control

  pub data Count : Type 0 where
    NoCount : Count
    For : Place → Identifier → (decreasing : Bool) → Interval → Count
    Through : Place → Interval → Count

  pub data Condition : Type 0 where
    Always : Condition
    While : Place → Expr → Condition
    Until : Place → Expr → Condition

  pub data Cases : Type 0 where
    NoCases : Cases
    AndCase : Tests → Statement → Cases → Cases

  pub data Tests : Type 0 where
    NoTests : Tests
    Value : Expr → Tests → Tests
    Compared : (negated : Bool) → Relation → Place → Expr → Tests → Tests
    Inside : (negated : Bool) → Place → Interval → Tests → Tests

  -- at its BEGIN or brace
  pub data Block : Type 0 where
    BlockOf : Place → (enable : Phrase) → Locals → Statements → Exits → Block

  pub data Locals : Type 0 where
    NoLocals : Locals
    AndLocal : List Identifier → PlainItem → Locals → Locals

  -- a type, variable or constant as it is declared
  pub data PlainItem : Type 0 where
    TypeIs : TypeExp → PlainItem
    Variable : TypeExp → PlainItem
    Initial : TypeExp → Expr → PlainItem
    Constant : TypeExp → Expr → PlainItem

  pub data Exits : Type 0 where
    NoExits : Exits
    AndExit : (labels : List Identifier) → Statement → Exits → Exits

  pub data Repeats : Type 0 where
    NoRepeats : Repeats
    AndRepeat : RepeatLabels → Statement → Repeats → Repeats

-- parameters and results of a procedure or signal; None for none, with or without brackets
pub record Head : Type 0 where
  pub takes : Option FieldList
  pub gives : Option FieldList

pub data Declared : Type 0 where
  Procedure : Head → Block → Declared
  Signal : Head → Declared
  Error : (takes : Option FieldList) → Declared
  Data : PlainItem → Declared

pub record Declaration : Type 0 where
  pub names : List Identifier
  pub access : Option Access
  pub declared : Declared

-- what stands between the BEGIN and END of a program, behind OPEN
pub record Inner : Type 0 where
  pub enable : Phrase
  pub declarations : List Declaration
  pub statements : Statements
  pub exits : Exits

pub data Defined : Type 0 where
  ProcedureItem : Head → Defined
  SignalItem : Head → Defined
  ErrorItem : (takes : Option FieldList) → Defined
  TypeItem : TypeExp → Defined
  ConstantItem : TypeExp → Expr → Defined

pub record Definition : Type 0 where
  pub names : List Identifier
  pub defined : Defined

-- at its word
pub data ModuleKind : Type 0 where
  Program : Place → (imports exports opens : List Identifier) → Inner → ModuleKind
  Interface : Place → (opens : List Identifier) → List Definition → ModuleKind

pub record Module : Type 0 where
  pub directory : List DirectoryItem
  pub name : Identifier
  pub kind : ModuleKind

-- ---- where a statement begins

abbrev pub left_place : Left → Place
left_place (LeftOf name xs) = name.place

abbrev pub raise_place : Raise → Place
raise_place (SignalRaise p name b) = p
raise_place (ErrorRaise p name b) = p
raise_place (UnnamedError p) = p

abbrev pub block_place : Block → Place
block_place (BlockOf p enable ls xs es) = p

-- a control begins with its count, or else with its condition; a loop without either begins at its DO
abbrev pub condition_place : Condition → (at_do : Place) → Place
condition_place Always at_do = at_do
condition_place (While p e) at_do = p
condition_place (Until p e) at_do = p

abbrev pub control_place : Control → (at_do : Place) → Place
control_place (ControlOf NoCount c) at_do = condition_place c at_do
control_place (ControlOf (For p variable decreasing i) c) at_do = p
control_place (ControlOf (Through p i) c) at_do = p

-- the place of a statement's first token
abbrev pub first_place : Statement → Place
first_place (Null p) = p
first_place (Nested b) = block_place b
first_place (Assign l e) = left_place l
first_place (Extract p ts e) = p
first_place (Call l) = left_place l
first_place (RaiseStatement r) = raise_place r
first_place (If p e x y) = p
first_place (Select p e cs y) = p
first_place (Loop c p enable xs rs) = control_place c p
first_place (ExitLoop p) = p
first_place (NextTurn p) = p
first_place (Goto p label) = p
first_place (Return p x) = p
first_place (Resume p x) = p
first_place (Reject p) = p
first_place (Retry p) = p
first_place (Continue p) = p
