-- The words of the typed tree, gathered.
pub use Rattle.mesa_types.specs.Typed.{Kind, Ordinal, Longs, Texts, Array, Record, Kinds, NoKinds, AndKind, Expr, Number, LongNumber, Literal, Variable, FieldOf, LengthOf, ByteOf, Checked, Converted, Operate, OperateLong, Negate, NegateLong, Relate, RelateLong, Within, WithinLong, Not, AllOf, SomeOf, Construct, Call, Raise, Exprs, NoExprs, AndExpr, Suffixes, NoSuffix, Field, Index, Operations, NoOperation, Then, Interval, Between, Phrase, NoPhrase, Catch, Arms, NoArms, AndArm, Stmt, Null, Marked, Declare, DeclareAs, Assign, Extract, Perform, If, Select, SelectLong, Block, Repeat, For, Jump, ReturnWith, Resume, Reject, Retry, Continue, Stmts, NoStmts, AndStmt, Targets, NoTargets, AndTarget, AndConverted, Cases, Otherwise, AndCase, Tests, NoTests, IfRelated, IfWithin, IfRelatedLong, IfWithinLong, Exits, NoExits, AndExit, Loop, LoopOf, Finish, NoFinish, Finished, Condition, Always, While, Until, Body, Procedure, Module, Endless}
pub use Rattle.mesa_types.specs.declared.typed_parts.Home.{Home}
pub use Rattle.mesa_types.specs.declared.typed_parts.Home.TheVariants.{Global, Local}
pub use Rattle.mesa_types.specs.declared.typed_parts.Base.{Base}
pub use Rattle.mesa_types.specs.declared.typed_parts.Base.TheVariants.{Signed, Unsigned}
pub use Rattle.mesa_types.specs.declared.typed_parts.Bases.{Bases}
pub use Rattle.mesa_types.specs.declared.typed_parts.Part.{Part}
pub use Rattle.mesa_types.specs.declared.typed_parts.Range.{Range}
pub use Rattle.mesa_types.specs.declared.typed_parts.Range.TheVariants.{Every, From}
pub use Rattle.mesa_types.specs.declared.typed_parts.Conversion.{Conversion}
pub use Rattle.mesa_types.specs.declared.typed_parts.Conversion.TheVariants.{Kept, Widened, Narrowed, InCommon}
pub use Rattle.mesa_types.specs.declared.typed_parts.Operator.{Operator}
pub use Rattle.mesa_types.specs.declared.typed_parts.Operator.TheVariants.{Add, Subtract, Multiply, Divide, Modulo, AddToCharacter, SubtractFromCharacter}
pub use Rattle.mesa_base.specs.declared.relation.Relation.{Relation}
pub use Rattle.mesa_base.specs.declared.relation.Relation.TheVariants.{Equal, NotEqual, Less, AtMost, Greater, AtLeast}
pub use Rattle.mesa_types.specs.declared.typed_parts.Goal.{Goal}
pub use Rattle.mesa_types.specs.declared.typed_parts.Goal.TheVariants.{PastStatement, ToLabel, ToReturn}
pub use Rattle.mesa_types.specs.declared.typed_parts.Callee.{Callee}
pub use Rattle.mesa_types.specs.declared.typed_parts.Callee.TheVariants.{OwnProcedure, LinkedProcedure}
pub use Rattle.mesa_types.specs.declared.typed_parts.Raised.{Raised}
pub use Rattle.mesa_types.specs.declared.typed_parts.Raised.TheVariants.{OwnSignal, LinkedSignal, TheBoundsFault, TheZeroDivisor, TheUnnamed}
pub use Rattle.mesa_types.specs.declared.typed_parts.Label.{Label}
pub use Rattle.mesa_types.specs.declared.typed_parts.Label.TheVariants.{OnAny, OnUnwind, OnOwn, OnLinked, OnBounds, OnZero}
pub use Rattle.mesa_types.specs.declared.typed_parts.Given.{Given}
pub use Rattle.mesa_types.specs.declared.typed_parts.Given.TheVariants.{NoVariable, GivenTo}
