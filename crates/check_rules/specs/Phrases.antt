-- Whether a catch phrase of a call or raise stands in a part of a text, outside of the statements in it: the statement or
-- declaration that holds it has a number (rule of this project).
use Rattle.std.specs.Prelude.{Bool, true, false, ◌||◌}
use Rattle.syntax_trees.specs.Syntax.{Expr, Run, Not, Compare, Within, Signed, Parenthesis, Reference, Constructor, Raised, Operations, NoOperation, AndOperation, Left, LeftOf, Suffixes, NoSuffix, Field, Applied, Brackets, BracketsOf, Items, Nothing, InOrder, ByKey, Exprs, NoExprs, AndExpr, KeyedExprs, NoKeyedExprs, AndKeyedExpr, Raise, SignalRaise, ErrorRaise, UnnamedError, MaybeBrackets, NoBrackets, WithBrackets, Phrase, NoPhrase, Catch, Interval, Between, Targets, NoTarget, TargetsInOrder, TargetsByKey, Lefts, NoLefts, AndLeft, KeyedLefts, NoKeyedLefts, AndKeyedLeft, Cases, NoCases, AndCase, Tests, NoTests, Value, Compared, Inside, MaybeItems, NoItems, WithItems}

abbrev pub is_catch : Phrase → Bool
is_catch NoPhrase = false
is_catch (Catch p arms) = true

unfoldable mutual
  pub holds : Expr → Bool
  holds (Run e ss) = holds e || in_steps ss
  holds (Not p e) = holds e
  holds (Compare d b o p e) = holds d || holds e
  holds (Within e b p i) = holds e || in_interval i
  holds (Signed x p e) = holds e
  holds (Parenthesis p e) = holds e
  holds (Reference l) = in_left l
  holds (Constructor p items) = in_items items
  holds (Raised r) = in_raise r
  holds _ = false

  pub in_steps : Operations → Bool
  in_steps NoOperation = false
  in_steps (AndOperation o p e ss) = holds e || in_steps ss

  pub in_interval : Interval → Bool
  in_interval (Between p x low high y) = holds low || holds high

  pub in_left : Left → Bool
  in_left (LeftOf x ss) = in_suffixes ss

  pub in_suffixes : Suffixes → Bool
  in_suffixes NoSuffix = false
  in_suffixes (Field x ss) = in_suffixes ss
  in_suffixes (Applied b ss) = in_brackets b || in_suffixes ss

  pub in_brackets : Brackets → Bool
  in_brackets (BracketsOf p items ph) = is_catch ph || in_items items

  pub in_items : Items → Bool
  in_items Nothing = false
  in_items (InOrder es) = in_exprs es
  in_items (ByKey es) = in_keyed es

  pub in_exprs : Exprs → Bool
  in_exprs NoExprs = false
  in_exprs (AndExpr e es) = holds e || in_exprs es

  pub in_keyed : KeyedExprs → Bool
  in_keyed NoKeyedExprs = false
  in_keyed (AndKeyedExpr x e es) = holds e || in_keyed es

  pub in_raise : Raise → Bool
  in_raise (SignalRaise p q b) = in_maybe b
  in_raise (ErrorRaise p q b) = in_maybe b
  in_raise (UnnamedError p) = false

  pub in_maybe : MaybeBrackets → Bool
  in_maybe NoBrackets = false
  in_maybe (WithBrackets b) = in_brackets b

unfoldable pub in_lefts : Lefts → Bool
in_lefts NoLefts = false
in_lefts (AndLeft l ls) = in_left l || in_lefts ls

unfoldable pub in_keyed_lefts : KeyedLefts → Bool
in_keyed_lefts NoKeyedLefts = false
in_keyed_lefts (AndKeyedLeft x l ls) = in_left l || in_keyed_lefts ls

unfoldable pub in_targets : Targets → Bool
in_targets NoTarget = false
in_targets (TargetsInOrder ls) = in_lefts ls
in_targets (TargetsByKey ls) = in_keyed_lefts ls

unfoldable pub in_tests : Tests → Bool
in_tests NoTests = false
in_tests (Value e ts) = holds e || in_tests ts
in_tests (Compared b o p e ts) = holds e || in_tests ts
in_tests (Inside b p i ts) = in_interval i || in_tests ts

unfoldable pub in_cases : Cases → Bool
in_cases NoCases = false
in_cases (AndCase ts body cs) = in_tests ts || in_cases cs

unfoldable pub in_values : MaybeItems → Bool
in_values NoItems = false
in_values (WithItems p items) = in_items items
