-- The grammar inside a module: a relation for each row and each optional or repeated part, with a constructor for each alternative.
-- `IsStmt ts x rest` says that the tokens ts begin with the statement x, after which rest remains (Language Manual, appendix on syntax,
-- as far as this project takes it; docs/LANGUAGE.md).
use Rattle.std.specs.Prelude.{◌≡◌, ℕ, Bool, true, false, List, [], ◌∷◌, ◌++◌, Option, Some, None}
use Rattle.mesa_base.specs.declared.place.Place.{Place}
use Rattle.mesa_lexer.specs.declared.token.Token.{Token}
use Rattle.mesa_lexer.specs.declared.token.Kind.{Kind}
use Rattle.mesa_lexer.specs.declared.token.Kind.TheVariants as k
use Rattle.mesa_lexer.specs.declared.word.Word.TheVariants.{AnyWord, ArrayWord, BeginWord, BooleanWord, CardinalWord, CharacterWord, ContinueWord}
use Rattle.mesa_lexer.specs.declared.word.Word.TheVariants.{DecreasingWord, DoWord, ElseWord, EnableWord, EndWord, EndcaseWord, EndloopWord, ErrorWord}
use Rattle.mesa_lexer.specs.declared.word.Word.TheVariants.{ExitWord, ExitsWord, FalseWord, FinishedWord, ForWord, FromWord, GoWord, GotoWord, IfWord, InWord}
use Rattle.mesa_lexer.specs.declared.word.Word.TheVariants.{IntegerWord, LongWord, LoopWord, NullWord, OfWord, RecordWord, RejectWord, RepeatWord, ResumeWord}
use Rattle.mesa_lexer.specs.declared.word.Word.TheVariants.{RetryWord, ReturnWord, SelectWord, SignalWord, StringWord, ThenWord, ThroughWord, ToWord}
use Rattle.mesa_lexer.specs.declared.word.Word.TheVariants.{TrueWord, TypeWord, UntilWord, UnwindWord, WhileWord}
use Rattle.mesa_lexer.specs.declared.mark.Mark.TheVariants.{Arrow, Semicolon, Colon, Comma, Dot, DotDot, LeftBracket, RightBracket, LeftParenthesis}
use Rattle.mesa_lexer.specs.declared.mark.Mark.TheVariants.{RightParenthesis, LeftBrace, RightBrace, Equal, Bang, DoubleArrow}
use Rattle.token_cursor.specs.Grammars.{token, word, mark}
pub use Rattle.token_cursor.specs.Names.{IsNames, name, names}
use Rattle.mesa_base.specs.declared.identifier.Identifier.{Identifier}
use Rattle.syntax_trees.specs.declared.syntax.QualifiedName.{QualifiedName}
use Rattle.mesa_base.specs.declared.placed.Placed.{Placed}
use Rattle.syntax_trees.specs.declared.syntax.Keyed.{Keyed}
use Rattle.syntax_trees.specs.declared.syntax.Labeled.{Labeled}
use Rattle.syntax_trees.specs.declared.syntax.Entries.{Entries}
use Rattle.syntax_trees.specs.declared.syntax.Entries.TheVariants.{Nothing, InOrder, ByKey}
use Rattle.syntax_trees.specs.declared.syntax.Labels.{Labels}
use Rattle.syntax_trees.specs.declared.syntax.Labels.TheVariants.{Any, Unwind, Signals}
use Rattle.syntax_trees.specs.declared.syntax.RepeatLabels.{RepeatLabels}
use Rattle.syntax_trees.specs.declared.syntax.RepeatLabels.TheVariants.{Named, Finished}
use Rattle.syntax_trees.specs.declared.syntax.TypeBase.{TypeBase}
use Rattle.syntax_trees.specs.declared.syntax.TypeBase.TheVariants.{Unsaid, OfInteger, OfCardinal, OfCharacter, OfName}
use Rattle.syntax_trees.specs.declared.syntax.Operator.{Operator}
use Rattle.mesa_base.specs.declared.relation.Relation.{Relation}
use Rattle.syntax_trees.specs.declared.syntax.Sign.{Sign}
use Rattle.syntax_trees.specs.declared.syntax.TypeExp.{TypeExp}
use Rattle.syntax_trees.specs.declared.syntax.TypeExp.TheVariants as t
use Rattle.syntax_trees.specs.declared.syntax.FieldList.{FieldList}
use Rattle.syntax_trees.specs.declared.syntax.FieldList.TheVariants.{WithNames, Unnamed}
use Rattle.syntax_trees.specs.declared.syntax.Interval.{Interval, roll-Interval}
use Rattle.syntax_trees.specs.declared.syntax.Expr.{Expr}
use Rattle.syntax_trees.specs.declared.syntax.Expr.TheVariants as e
use Rattle.syntax_trees.specs.declared.syntax.Operation.{Operation, roll-Operation}
use Rattle.syntax_trees.specs.declared.syntax.Left.{Left, roll-Left}
use Rattle.syntax_trees.specs.declared.syntax.Suffix.{Suffix}
use Rattle.syntax_trees.specs.declared.syntax.Suffix.TheVariants.{Field, Applied}
use Rattle.syntax_trees.specs.declared.syntax.Brackets.{Brackets, roll-Brackets}
use Rattle.syntax_trees.specs.declared.syntax.Raise.{Raise}
use Rattle.syntax_trees.specs.declared.syntax.Raise.TheVariants.{SignalRaise, ErrorRaise, UnnamedError}
use Rattle.syntax_trees.specs.declared.syntax.Arm.{Arm, roll-Arm}
use Rattle.syntax_trees.specs.declared.syntax.Statement.{Statement}
use Rattle.syntax_trees.specs.declared.syntax.Statement.TheVariants as s
use Rattle.syntax_trees.specs.declared.syntax.Control.{Control, roll-Control}
use Rattle.syntax_trees.specs.declared.syntax.Count.{Count}
use Rattle.syntax_trees.specs.declared.syntax.Count.TheVariants.{For, Through}
use Rattle.syntax_trees.specs.declared.syntax.Condition.{Condition}
use Rattle.syntax_trees.specs.declared.syntax.Condition.TheVariants.{While, Until}
use Rattle.syntax_trees.specs.declared.syntax.Case.{Case, roll-Case}
use Rattle.syntax_trees.specs.declared.syntax.Test.{Test}
use Rattle.syntax_trees.specs.declared.syntax.Test.TheVariants.{Value, Compared, Inside}
use Rattle.syntax_trees.specs.declared.syntax.Block.{Block, roll-Block}
use Rattle.syntax_trees.specs.declared.syntax.PlainItem.{PlainItem}
use Rattle.syntax_trees.specs.declared.syntax.PlainItem.TheVariants.{TypeIs, Variable, Initial, Constant}
use Rattle.grammar_rules.specs.WordsAndMarks.{spelled, disjoining, conjoining, adding, multiplying, signing, relating, negating, opening, closing}

-- ---- trees by their parts

-- a run without operators is its first operand
abbrev pub run : Expr → List Operation → Expr
run x [] = x
run x (s ∷ ss) = e.Run x (s ∷ ss)

abbrev pub step : Operator → Place → Expr → Operation
step o p x = roll-Operation (record { operator = o; place = p; right = x })

abbrev pub interval : Place → Bool → Expr → Expr → Bool → Interval
interval p a x y b = roll-Interval (record { place = p; is_open_below = a; low = x; high = y; is_open_above = b })

abbrev pub left : Identifier → List Suffix → Left
left i ss = roll-Left (record { name = i; suffixes = ss })

abbrev pub brackets : Place → Entries Expr → Option (Placed (List Arm)) → Brackets
brackets p items catch = roll-Brackets (record { place = p; items = items; catch = catch })

abbrev pub placed : {X : Type 0} → Place → X → Placed X
placed p x = record { place = p; item = x }

abbrev pub keyed : {X : Type 0} → Identifier → X → Keyed X
keyed i x = record { key = i; item = x }

abbrev pub labeled : {L X : Type 0} → L → X → Labeled L X
labeled l x = record { labels = l; item = x }

abbrev pub qualified : Identifier → Option Identifier → QualifiedName
qualified i j = record { first = i; second = j }

abbrev pub arm : Labels → Statement → Arm
arm l x = roll-Arm (record { labels = l; body = x })

abbrev pub case : List Test → Statement → Case
case tests x = roll-Case (record { tests = tests; body = x })

abbrev pub control : Option Count → Option Condition → Control
control a b = roll-Control (record { count = a; condition = b })

abbrev pub block : Place → Option (Placed (List Arm)) → List (Labeled (List Identifier) PlainItem) → List Statement
    → List (Labeled (List Identifier) Statement) → Block
block p e ls ss xs = roll-Block (record { place = p; enable = e; locals = ls; statements = ss; exits = xs })

-- ---- names

-- QName = Name ["." Name]
pub data IsQName : List Token → QualifiedName → List Token → Type 0 where
  bare : {rest : List Token} {i : Identifier} → IsQName (spelled i ∷ rest) (qualified i None) rest
  dotted : {rest : List Token} {i j : Identifier} {p : Place} → IsQName (spelled i ∷ mark Dot p ∷ spelled j ∷ rest) (qualified i (Some j)) rest

-- QName {"," QName}
pub data IsQNames : List Token → List QualifiedName → List Token → Type 0 where
  qname : {ts rest : List Token} {x : QualifiedName} → IsQName ts x rest → IsQNames ts (x ∷ []) rest
  qnames : {ts us rest : List Token} {all : List QualifiedName} {x : QualifiedName} {p : Place} → IsQNames ts all (mark Comma p ∷ us) → IsQName us x rest
      → IsQNames ts (all ++ x ∷ []) rest

-- ANY | UNWIND | QName {"," QName}
pub data IsLabels : List Token → Labels → List Token → Type 0 where
  any : {rest : List Token} {p : Place} → IsLabels (word AnyWord p ∷ rest) (Any p) rest
  unwind : {rest : List Token} {p : Place} → IsLabels (word UnwindWord p ∷ rest) (Unwind p) rest
  signals : {ts rest : List Token} {all : List QualifiedName} → IsQNames ts all rest → IsLabels ts (Signals all) rest

-- Names | FINISHED
pub data IsRepeatLabels : List Token → RepeatLabels → List Token → Type 0 where
  labels : {ts rest : List Token} {all : List Identifier} → IsNames ts all rest → IsRepeatLabels ts (Named all) rest
  finished : {rest : List Token} {p : Place} → IsRepeatLabels (word FinishedWord p ∷ rest) (Finished p) rest

-- [INTEGER | CARDINAL | CHARACTER | QName]
pub data IsBase : List Token → TypeBase → List Token → Type 0 where
  unsaid : {rest : List Token} → IsBase rest Unsaid rest
  of_integer : {rest : List Token} {p : Place} → IsBase (word IntegerWord p ∷ rest) (OfInteger p) rest
  of_cardinal : {rest : List Token} {p : Place} → IsBase (word CardinalWord p ∷ rest) (OfCardinal p) rest
  of_character : {rest : List Token} {p : Place} → IsBase (word CharacterWord p ∷ rest) (OfCharacter p) rest
  of_name : {ts rest : List Token} {x : QualifiedName} → IsQName ts x rest → IsBase ts (OfName x) rest

-- [NotWord]
pub data IsNot : List Token → Bool → List Token → Type 0 where
  affirmed : {rest : List Token} → IsNot rest false rest
  negated : {rest : List Token} {kind : Kind} {p : Place} → negating kind ≡ Some tt → IsNot (token kind p ∷ rest) true rest

-- [DECREASING]
pub data IsDecreasing : List Token → Bool → List Token → Type 0 where
  rising : {rest : List Token} → IsDecreasing rest false rest
  falling : {rest : List Token} {p : Place} → IsDecreasing (word DecreasingWord p ∷ rest) true rest

-- ELSE belongs to the nearest IF: a statement that has none is not followed by one.
abbrev pub NoElse : List Token → Type 0
NoElse (t ∷ rest) = t.kind ≡ k.Word ElseWord → ⊥
NoElse [] = Unit {0}

mutual
  -- TypeExp = INTEGER | CARDINAL | LONG (INTEGER | CARDINAL) | BOOLEAN | CHARACTER | STRING | QName | "{" Names "}"
  -- | [INTEGER | CARDINAL | CHARACTER | QName] Interval | ARRAY TypeExp OF TypeExp | RECORD "[" FieldList "]"
  pub data IsType : List Token → TypeExp → List Token → Type 0 where
    integer : {rest : List Token} {p : Place} → IsType (word IntegerWord p ∷ rest) (t.Integer p) rest
    cardinal : {rest : List Token} {p : Place} → IsType (word CardinalWord p ∷ rest) (t.Cardinal p) rest
    long_integer : {rest : List Token} {p q : Place} → IsType (word LongWord p ∷ word IntegerWord q ∷ rest) (t.LongInteger p) rest
    long_cardinal : {rest : List Token} {p q : Place} → IsType (word LongWord p ∷ word CardinalWord q ∷ rest) (t.LongCardinal p) rest
    boolean : {rest : List Token} {p : Place} → IsType (word BooleanWord p ∷ rest) (t.Boolean p) rest
    character : {rest : List Token} {p : Place} → IsType (word CharacterWord p ∷ rest) (t.Character p) rest
    string : {rest : List Token} {p : Place} → IsType (word StringWord p ∷ rest) (t.String p) rest
    called : {ts rest : List Token} {x : QualifiedName} → IsQName ts x rest → IsType ts (t.Called x) rest
    enumeration : {ts rest : List Token} {all : List Identifier} {p q : Place} → IsNames ts all (mark RightBrace q ∷ rest)
        → IsType (mark LeftBrace p ∷ ts) (t.Enumeration p all) rest
    subrange : {ts us rest : List Token} {b : TypeBase} {x : Interval} → IsBase ts b us → IsInterval us x rest → IsType ts (t.Subrange b x) rest
    array : {ts us rest : List Token} {x y : TypeExp} {p q : Place} → IsType ts x (word OfWord q ∷ us) → IsType us y rest
        → IsType (word ArrayWord p ∷ ts) (t.Array p x y) rest
    a_record : {ts rest : List Token} {x : FieldList} {p q r : Place} → IsFields ts x (mark RightBracket r ∷ rest)
        → IsType (word RecordWord p ∷ mark LeftBracket q ∷ ts) (t.Record p x) rest

  -- FieldList = Names ":" TypeExp {"," Names ":" TypeExp} | TypeExp {"," TypeExp}
  pub data IsFields : List Token → FieldList → List Token → Type 0 where
    with_names : {ts rest : List Token} {all : List (Labeled (List Identifier) TypeExp)} → IsGroups ts all rest → IsFields ts (WithNames all) rest
    unnamed : {ts rest : List Token} {all : List TypeExp} → IsTypes ts all rest → IsFields ts (Unnamed all) rest

  pub data IsTypes : List Token → List TypeExp → List Token → Type 0 where
    a_type : {ts rest : List Token} {x : TypeExp} → IsType ts x rest → IsTypes ts (x ∷ []) rest
    types : {ts us rest : List Token} {all : List TypeExp} {x : TypeExp} {p : Place} → IsTypes ts all (mark Comma p ∷ us) → IsType us x rest
        → IsTypes ts (all ++ x ∷ []) rest

  pub data IsGroups : List Token → List (Labeled (List Identifier) TypeExp) → List Token → Type 0 where
    group : {ts us rest : List Token} {ns : List Identifier} {x : TypeExp} {p : Place} → IsNames ts ns (mark Colon p ∷ us) → IsType us x rest
        → IsGroups ts (labeled ns x ∷ []) rest
    groups : {ts us vs rest : List Token} {all : List (Labeled (List Identifier) TypeExp)} {ns : List Identifier} {x : TypeExp} {p q : Place}
        → IsGroups ts all (mark Comma p ∷ us) → IsNames us ns (mark Colon q ∷ vs) → IsType vs x rest → IsGroups ts (all ++ labeled ns x ∷ []) rest

  -- Interval = ("[" | "(") Expr ".." Expr ("]" | ")")
  pub data IsInterval : List Token → Interval → List Token → Type 0 where
    bounds : {ts us rest : List Token} {kind kind' : Kind} {a b : Bool} {x y : Expr} {p q r : Place} → opening kind ≡ Some a
        → IsExpr ts x (mark DotDot q ∷ us) → IsExpr us y (token kind' r ∷ rest) → closing kind' ≡ Some b
        → IsInterval (token kind p ∷ ts) (interval p a x y b) rest

  -- Expr = Conj {OR Conj}
  pub data IsExpr : List Token → Expr → List Token → Type 0 where
    expr : {ts rest : List Token} {x : Expr} {ss : List Operation} → IsOrs ts x ss rest → IsExpr ts (run x ss) rest

  -- the first operand, and the operators with the others
  pub data IsOrs : List Token → Expr → List Operation → List Token → Type 0 where
    disjunct : {ts rest : List Token} {x : Expr} → IsConj ts x rest → IsOrs ts x [] rest
    ors : {ts us rest : List Token} {x y : Expr} {ss : List Operation} {kind : Kind} {o : Operator} {p : Place} → IsOrs ts x ss (token kind p ∷ us)
        → disjoining kind ≡ Some o → IsConj us y rest → IsOrs ts x (ss ++ step o p y ∷ []) rest

  -- Conj = Neg {AND Neg}
  pub data IsConj : List Token → Expr → List Token → Type 0 where
    conj : {ts rest : List Token} {x : Expr} {ss : List Operation} → IsAnds ts x ss rest → IsConj ts (run x ss) rest

  pub data IsAnds : List Token → Expr → List Operation → List Token → Type 0 where
    conjunct : {ts rest : List Token} {x : Expr} → IsNeg ts x rest → IsAnds ts x [] rest
    ands : {ts us rest : List Token} {x y : Expr} {ss : List Operation} {kind : Kind} {o : Operator} {p : Place} → IsAnds ts x ss (token kind p ∷ us)
        → conjoining kind ≡ Some o → IsNeg us y rest → IsAnds ts x (ss ++ step o p y ∷ []) rest

  -- Neg = [NotWord] Rel
  pub data IsNeg : List Token → Expr → List Token → Type 0 where
    rel : {ts rest : List Token} {x : Expr} → IsRel ts x rest → IsNeg ts x rest
    not : {ts rest : List Token} {x : Expr} {kind : Kind} {p : Place} → negating kind ≡ Some tt → IsRel ts x rest → IsNeg (token kind p ∷ ts) (e.Not p x) rest

  -- Rel = Sum [[NotWord] RelOp Sum | [NotWord] IN Interval]
  pub data IsRel : List Token → Expr → List Token → Type 0 where
    alone : {ts rest : List Token} {x : Expr} → IsSum ts x rest → IsRel ts x rest
    compare : {ts us vs rest : List Token} {x y : Expr} {b : Bool} {kind : Kind} {r : Relation} {p : Place} → IsSum ts x us → IsNot us b (token kind p ∷ vs)
        → relating kind ≡ Some r → IsSum vs y rest → IsRel ts (e.Compare x b r p y) rest
    within : {ts us vs rest : List Token} {x : Expr} {b : Bool} {i : Interval} {p : Place} → IsSum ts x us → IsNot us b (word InWord p ∷ vs)
        → IsInterval vs i rest → IsRel ts (e.Within x b p i) rest

  -- Sum = Product {("+" | "-") Product}
  pub data IsSum : List Token → Expr → List Token → Type 0 where
    sum : {ts rest : List Token} {x : Expr} {ss : List Operation} → IsSums ts x ss rest → IsSum ts (run x ss) rest

  pub data IsSums : List Token → Expr → List Operation → List Token → Type 0 where
    summand : {ts rest : List Token} {x : Expr} → IsProduct ts x rest → IsSums ts x [] rest
    sums : {ts us rest : List Token} {x y : Expr} {ss : List Operation} {kind : Kind} {o : Operator} {p : Place} → IsSums ts x ss (token kind p ∷ us)
        → adding kind ≡ Some o → IsProduct us y rest → IsSums ts x (ss ++ step o p y ∷ []) rest

  -- Product = Factor {("*" | "/" | MOD) Factor}
  pub data IsProduct : List Token → Expr → List Token → Type 0 where
    product : {ts rest : List Token} {x : Expr} {ss : List Operation} → IsProducts ts x ss rest → IsProduct ts (run x ss) rest

  pub data IsProducts : List Token → Expr → List Operation → List Token → Type 0 where
    factor : {ts rest : List Token} {x : Expr} → IsFactor ts x rest → IsProducts ts x [] rest
    products : {ts us rest : List Token} {x y : Expr} {ss : List Operation} {kind : Kind} {o : Operator} {p : Place} → IsProducts ts x ss (token kind p ∷ us)
        → multiplying kind ≡ Some o → IsFactor us y rest → IsProducts ts x (ss ++ step o p y ∷ []) rest

  -- Factor = ["-" | "+"] Primary
  pub data IsFactor : List Token → Expr → List Token → Type 0 where
    primary : {ts rest : List Token} {x : Expr} → IsPrimary ts x rest → IsFactor ts x rest
    signed : {ts rest : List Token} {x : Expr} {kind : Kind} {s : Sign} {p : Place} → signing kind ≡ Some s → IsPrimary ts x rest
        → IsFactor (token kind p ∷ ts) (e.Signed s p x) rest

  -- Primary = Number | Char | String | TRUE | FALSE | "(" Expr ")" | Left | List | Raise
  pub data IsPrimary : List Token → Expr → List Token → Type 0 where
    number : {rest : List Token} {n : ℕ} {p : Place} → IsPrimary (token (k.Number n) p ∷ rest) (e.NumberLiteral p n) rest
    char : {rest : List Token} {n : ℕ} {p : Place} → IsPrimary (token (k.Char n) p ∷ rest) (e.CharacterLiteral p n) rest
    text : {rest : List Token} {bytes : List ℕ} {p : Place} → IsPrimary (token (k.Text bytes) p ∷ rest) (e.StringLiteral p bytes) rest
    true_word : {rest : List Token} {p : Place} → IsPrimary (word TrueWord p ∷ rest) (e.Truth p true) rest
    false_word : {rest : List Token} {p : Place} → IsPrimary (word FalseWord p ∷ rest) (e.Truth p false) rest
    parens : {ts rest : List Token} {x : Expr} {p q : Place} → IsExpr ts x (mark RightParenthesis q ∷ rest)
        → IsPrimary (mark LeftParenthesis p ∷ ts) (e.Parenthesis p x) rest
    reference : {ts rest : List Token} {i : Identifier} {ss : List Suffix} → IsLeft ts i ss rest → IsPrimary ts (e.Reference (left i ss)) rest
    constructor : {ts rest : List Token} {x : Placed (Entries Expr)} → IsList ts x rest → IsPrimary ts (e.Constructor x) rest
    raised : {ts rest : List Token} {x : Raise} → IsRaise ts x rest → IsPrimary ts (e.Raised x) rest

  -- List = "[" [Args] "]"
  pub data IsList : List Token → Placed (Entries Expr) → List Token → Type 0 where
    list : {ts rest : List Token} {x : Entries Expr} {p q : Place} → IsArgs ts x (mark RightBracket q ∷ rest)
        → IsList (mark LeftBracket p ∷ ts) (placed p x) rest

  -- [List]
  pub data IsListOption : List Token → Option (Placed (Entries Expr)) → List Token → Type 0 where
    no_list : {rest : List Token} → IsListOption rest None rest
    a_list : {ts rest : List Token} {x : Placed (Entries Expr)} → IsList ts x rest → IsListOption ts (Some x) rest

  -- Left = Name {"." Name | Brackets}
  pub data IsLeft : List Token → Identifier → List Suffix → List Token → Type 0 where
    named : {rest : List Token} {i : Identifier} → IsLeft (spelled i ∷ rest) i [] rest
    field : {ts rest : List Token} {i j : Identifier} {ss : List Suffix} {p : Place} → IsLeft ts i ss (mark Dot p ∷ spelled j ∷ rest)
        → IsLeft ts i (ss ++ Field j ∷ []) rest
    applied : {ts us rest : List Token} {i : Identifier} {ss : List Suffix} {b : Brackets} → IsLeft ts i ss us → IsBrackets us b rest
        → IsLeft ts i (ss ++ Applied b ∷ []) rest

  -- Brackets = "[" [Args] ["!" Arms] "]"
  pub data IsBrackets : List Token → Brackets → List Token → Type 0 where
    bracketed : {ts us rest : List Token} {x : Entries Expr} {c : Option (Placed (List Arm))} {p q : Place} → IsArgs ts x us
        → IsCatch us c (mark RightBracket q ∷ rest) → IsBrackets (mark LeftBracket p ∷ ts) (brackets p x c) rest

  -- [Brackets]
  pub data IsBracketsOption : List Token → Option Brackets → List Token → Type 0 where
    no_brackets : {rest : List Token} → IsBracketsOption rest None rest
    some_brackets : {ts rest : List Token} {b : Brackets} → IsBrackets ts b rest → IsBracketsOption ts (Some b) rest

  -- [Args], where Args = Expr {"," Expr} | Name ":" Expr {"," Name ":" Expr}
  pub data IsArgs : List Token → Entries Expr → List Token → Type 0 where
    no_args : {rest : List Token} → IsArgs rest Nothing rest
    in_order : {ts rest : List Token} {all : List Expr} → IsExprs ts all rest → IsArgs ts (InOrder all) rest
    by_key : {ts rest : List Token} {all : List (Keyed Expr)} → IsKeys ts all rest → IsArgs ts (ByKey all) rest

  pub data IsExprs : List Token → List Expr → List Token → Type 0 where
    an_expr : {ts rest : List Token} {x : Expr} → IsExpr ts x rest → IsExprs ts (x ∷ []) rest
    exprs : {ts us rest : List Token} {all : List Expr} {x : Expr} {p : Place} → IsExprs ts all (mark Comma p ∷ us) → IsExpr us x rest
        → IsExprs ts (all ++ x ∷ []) rest

  pub data IsKeys : List Token → List (Keyed Expr) → List Token → Type 0 where
    key : {ts rest : List Token} {i : Identifier} {x : Expr} {p : Place} → IsExpr ts x rest → IsKeys (spelled i ∷ mark Colon p ∷ ts) (keyed i x ∷ []) rest
    keys : {ts us rest : List Token} {all : List (Keyed Expr)} {i : Identifier} {x : Expr} {p q : Place}
        → IsKeys ts all (mark Comma p ∷ spelled i ∷ mark Colon q ∷ us) → IsExpr us x rest → IsKeys ts (all ++ keyed i x ∷ []) rest

  -- ["!" Arms]
  pub data IsCatch : List Token → Option (Placed (List Arm)) → List Token → Type 0 where
    no_catch : {rest : List Token} → IsCatch rest None rest
    catch : {ts rest : List Token} {all : List Arm} {p : Place} → IsArmList ts all rest → IsCatch (mark Bang p ∷ ts) (Some (placed p all)) rest

  -- Arms = Arm {";" Arm} [";"]
  pub data IsArmList : List Token → List Arm → List Token → Type 0 where
    open_arms : {ts rest : List Token} {all : List Arm} → IsArms ts all rest → IsArmList ts all rest
    closed_arms : {ts rest : List Token} {all : List Arm} {p : Place} → IsArms ts all (mark Semicolon p ∷ rest) → IsArmList ts all rest

  pub data IsArms : List Token → List Arm → List Token → Type 0 where
    an_arm : {ts rest : List Token} {x : Arm} → IsArm ts x rest → IsArms ts (x ∷ []) rest
    arms : {ts us rest : List Token} {all : List Arm} {x : Arm} {p : Place} → IsArms ts all (mark Semicolon p ∷ us) → IsArm us x rest
        → IsArms ts (all ++ x ∷ []) rest

  -- Arm = (ANY | UNWIND | QName {"," QName}) "=>" Stmt
  pub data IsArm : List Token → Arm → List Token → Type 0 where
    an_arm_of : {ts us rest : List Token} {l : Labels} {x : Statement} {p : Place} → IsLabels ts l (mark DoubleArrow p ∷ us) → IsStmt us x rest
        → IsArm ts (arm l x) rest

  -- Raise = SIGNAL QName [Brackets] | ERROR [QName [Brackets]]
  pub data IsRaise : List Token → Raise → List Token → Type 0 where
    signal : {ts us rest : List Token} {x : QualifiedName} {b : Option Brackets} {p : Place} → IsQName ts x us → IsBracketsOption us b rest
        → IsRaise (word SignalWord p ∷ ts) (SignalRaise p x b) rest
    error : {ts us rest : List Token} {x : QualifiedName} {b : Option Brackets} {p : Place} → IsQName ts x us → IsBracketsOption us b rest
        → IsRaise (word ErrorWord p ∷ ts) (ErrorRaise p x b) rest
    unnamed_error : {rest : List Token} {p : Place} → IsRaise (word ErrorWord p ∷ rest) (UnnamedError p) rest

  -- Stmt = NULL | Block | Left "←" Expr | Extract "←" Expr | Left | Raise | IF Expr THEN Stmt [ELSE Stmt] | SELECT Expr FROM [Cases] ENDCASE ["=>" Stmt]
  --   | [Control] DO [Enable] [Stmts] [REPEAT Repeats] ENDLOOP | EXIT | LOOP | GOTO Name | RETURN [List] | RESUME [List] | REJECT | RETRY | CONTINUE
  pub data IsStmt : List Token → Statement → List Token → Type 0 where
    null : {rest : List Token} {p : Place} → IsStmt (word NullWord p ∷ rest) (s.Null p) rest
    nested : {ts rest : List Token} {x : Block} → IsBlock ts x rest → IsStmt ts (s.Nested x) rest
    assign : {ts us rest : List Token} {i : Identifier} {ss : List Suffix} {x : Expr} {p : Place} → IsLeft ts i ss (mark Arrow p ∷ us) → IsExpr us x rest
        → IsStmt ts (s.Assign (left i ss) x) rest
    extract : {ts us rest : List Token} {x : Entries Left} {y : Expr} {p q r : Place} → IsTargets ts x (mark RightBracket q ∷ mark Arrow r ∷ us)
        → IsExpr us y rest → IsStmt (mark LeftBracket p ∷ ts) (s.Extract p x y) rest
    call : {ts rest : List Token} {i : Identifier} {ss : List Suffix} → IsLeft ts i ss rest → IsStmt ts (s.Call (left i ss)) rest
    raise : {ts rest : List Token} {x : Raise} → IsRaise ts x rest → IsStmt ts (s.RaiseStatement x) rest
    if_then : {ts us rest : List Token} {c : Expr} {x : Statement} {p q : Place} → IsExpr ts c (word ThenWord q ∷ us) → IsStmt us x rest → NoElse rest
        → IsStmt (word IfWord p ∷ ts) (s.If p c x None) rest
    if_else : {ts us vs rest : List Token} {c : Expr} {x y : Statement} {p q r : Place} → IsExpr ts c (word ThenWord q ∷ us)
        → IsStmt us x (word ElseWord r ∷ vs) → IsStmt vs y rest → IsStmt (word IfWord p ∷ ts) (s.If p c x (Some y)) rest
    select : {ts us vs rest : List Token} {x : Expr} {cs : List Case} {y : Option Statement} {p q r : Place} → IsExpr ts x (word FromWord q ∷ us)
        → IsCaseList us cs (word EndcaseWord r ∷ vs) → IsOtherwise vs y rest → IsStmt (word SelectWord p ∷ ts) (s.Select p x cs y) rest
    loop : {ts us vs ws rest : List Token} {c : Control} {e : Option (Placed (List Arm))} {body : List Statement}
        {rs : List (Labeled RepeatLabels Statement)} {p q : Place} → IsControl ts c (word DoWord p ∷ us) → IsEnabling us e vs → IsBody vs body ws
        → IsRepeatPart ws rs (word EndloopWord q ∷ rest) → IsStmt ts (s.Loop c p e body rs) rest
    exit_loop : {rest : List Token} {p : Place} → IsStmt (word ExitWord p ∷ rest) (s.ExitLoop p) rest
    next_turn : {rest : List Token} {p : Place} → IsStmt (word LoopWord p ∷ rest) (s.NextTurn p) rest
    goto : {rest : List Token} {i : Identifier} {p : Place} → IsStmt (word GotoWord p ∷ spelled i ∷ rest) (s.Goto p i) rest
    go_to : {rest : List Token} {i : Identifier} {p q : Place} → IsStmt (word GoWord p ∷ word ToWord q ∷ spelled i ∷ rest) (s.Goto p i) rest
    return : {ts rest : List Token} {x : Option (Placed (Entries Expr))} {p : Place} → IsListOption ts x rest
        → IsStmt (word ReturnWord p ∷ ts) (s.Return p x) rest
    resume : {ts rest : List Token} {x : Option (Placed (Entries Expr))} {p : Place} → IsListOption ts x rest
        → IsStmt (word ResumeWord p ∷ ts) (s.Resume p x) rest
    reject : {rest : List Token} {p : Place} → IsStmt (word RejectWord p ∷ rest) (s.Reject p) rest
    retry : {rest : List Token} {p : Place} → IsStmt (word RetryWord p ∷ rest) (s.Retry p) rest
    continue : {rest : List Token} {p : Place} → IsStmt (word ContinueWord p ∷ rest) (s.Continue p) rest

  -- Extract = "[" [Left {"," Left} | Name ":" Left {"," Name ":" Left}] "]", without its brackets
  pub data IsTargets : List Token → Entries Left → List Token → Type 0 where
    no_targets : {rest : List Token} → IsTargets rest Nothing rest
    targets : {ts rest : List Token} {all : List Left} → IsLefts ts all rest → IsTargets ts (InOrder all) rest
    key_targets : {ts rest : List Token} {all : List (Keyed Left)} → IsKeyLefts ts all rest → IsTargets ts (ByKey all) rest

  pub data IsLefts : List Token → List Left → List Token → Type 0 where
    a_left : {ts rest : List Token} {i : Identifier} {ss : List Suffix} → IsLeft ts i ss rest → IsLefts ts (left i ss ∷ []) rest
    lefts : {ts us rest : List Token} {all : List Left} {i : Identifier} {ss : List Suffix} {p : Place} → IsLefts ts all (mark Comma p ∷ us)
        → IsLeft us i ss rest → IsLefts ts (all ++ left i ss ∷ []) rest

  pub data IsKeyLefts : List Token → List (Keyed Left) → List Token → Type 0 where
    key_left : {ts rest : List Token} {i j : Identifier} {ss : List Suffix} {p : Place} → IsLeft ts i ss rest
        → IsKeyLefts (spelled j ∷ mark Colon p ∷ ts) (keyed j (left i ss) ∷ []) rest
    key_lefts : {ts us rest : List Token} {all : List (Keyed Left)} {i j : Identifier} {ss : List Suffix} {p q : Place}
        → IsKeyLefts ts all (mark Comma p ∷ spelled j ∷ mark Colon q ∷ us) → IsLeft us i ss rest → IsKeyLefts ts (all ++ keyed j (left i ss) ∷ []) rest

  -- ["=>" Stmt]
  pub data IsOtherwise : List Token → Option Statement → List Token → Type 0 where
    no_otherwise : {rest : List Token} → IsOtherwise rest None rest
    otherwise : {ts rest : List Token} {x : Statement} {p : Place} → IsStmt ts x rest → IsOtherwise (mark DoubleArrow p ∷ ts) (Some x) rest

  -- [Cases], where Cases = Case {";" Case} [";"]
  pub data IsCaseList : List Token → List Case → List Token → Type 0 where
    no_cases : {rest : List Token} → IsCaseList rest [] rest
    open_cases : {ts rest : List Token} {all : List Case} → IsCases ts all rest → IsCaseList ts all rest
    closed_cases : {ts rest : List Token} {all : List Case} {p : Place} → IsCases ts all (mark Semicolon p ∷ rest) → IsCaseList ts all rest

  pub data IsCases : List Token → List Case → List Token → Type 0 where
    a_case : {ts rest : List Token} {x : Case} → IsCase ts x rest → IsCases ts (x ∷ []) rest
    cases : {ts us rest : List Token} {all : List Case} {x : Case} {p : Place} → IsCases ts all (mark Semicolon p ∷ us) → IsCase us x rest
        → IsCases ts (all ++ x ∷ []) rest

  -- Case = Test {"," Test} "=>" Stmt
  pub data IsCase : List Token → Case → List Token → Type 0 where
    case_of : {ts us rest : List Token} {all : List Test} {x : Statement} {p : Place} → IsTests ts all (mark DoubleArrow p ∷ us) → IsStmt us x rest
        → IsCase ts (case all x) rest

  pub data IsTests : List Token → List Test → List Token → Type 0 where
    a_test : {ts rest : List Token} {x : Test} → IsTest ts x rest → IsTests ts (x ∷ []) rest
    tests : {ts us rest : List Token} {all : List Test} {x : Test} {p : Place} → IsTests ts all (mark Comma p ∷ us) → IsTest us x rest
        → IsTests ts (all ++ x ∷ []) rest

  -- Test = Expr | [NotWord] RelOp Sum | [NotWord] IN Interval
  pub data IsTest : List Token → Test → List Token → Type 0 where
    value : {ts rest : List Token} {x : Expr} → IsExpr ts x rest → IsTest ts (Value x) rest
    compared : {ts us rest : List Token} {b : Bool} {x : Expr} {kind : Kind} {r : Relation} {p : Place} → IsNot ts b (token kind p ∷ us)
        → relating kind ≡ Some r → IsSum us x rest → IsTest ts (Compared b r p x) rest
    inside : {ts us rest : List Token} {b : Bool} {i : Interval} {p : Place} → IsNot ts b (word InWord p ∷ us) → IsInterval us i rest
        → IsTest ts (Inside b p i) rest

  -- Control = [Count] [(WHILE | UNTIL) Expr]
  pub data IsControl : List Token → Control → List Token → Type 0 where
    controlled : {ts us rest : List Token} {a : Option Count} {b : Option Condition} → IsCount ts a us → IsCondition us b rest → IsControl ts (control a b) rest

  -- [Count], where Count = FOR Name [DECREASING] IN Interval | THROUGH Interval
  pub data IsCount : List Token → Option Count → List Token → Type 0 where
    no_count : {rest : List Token} → IsCount rest None rest
    for : {ts us rest : List Token} {i : Identifier} {b : Bool} {x : Interval} {p q : Place} → IsDecreasing ts b (word InWord q ∷ us) → IsInterval us x rest
        → IsCount (word ForWord p ∷ spelled i ∷ ts) (Some (For p i b x)) rest
    through : {ts rest : List Token} {x : Interval} {p : Place} → IsInterval ts x rest → IsCount (word ThroughWord p ∷ ts) (Some (Through p x)) rest

  -- [(WHILE | UNTIL) Expr]
  pub data IsCondition : List Token → Option Condition → List Token → Type 0 where
    no_condition : {rest : List Token} → IsCondition rest None rest
    while : {ts rest : List Token} {x : Expr} {p : Place} → IsExpr ts x rest → IsCondition (word WhileWord p ∷ ts) (Some (While p x)) rest
    until : {ts rest : List Token} {x : Expr} {p : Place} → IsExpr ts x rest → IsCondition (word UntilWord p ∷ ts) (Some (Until p x)) rest

  -- [Stmts], where Stmts = Stmt {";" Stmt} [";"]
  pub data IsBody : List Token → List Statement → List Token → Type 0 where
    no_stmts : {rest : List Token} → IsBody rest [] rest
    open_stmts : {ts rest : List Token} {all : List Statement} → IsStmts ts all rest → IsBody ts all rest
    closed_stmts : {ts rest : List Token} {all : List Statement} {p : Place} → IsStmts ts all (mark Semicolon p ∷ rest) → IsBody ts all rest

  pub data IsStmts : List Token → List Statement → List Token → Type 0 where
    a_stmt : {ts rest : List Token} {x : Statement} → IsStmt ts x rest → IsStmts ts (x ∷ []) rest
    stmts : {ts us rest : List Token} {all : List Statement} {x : Statement} {p : Place} → IsStmts ts all (mark Semicolon p ∷ us) → IsStmt us x rest
        → IsStmts ts (all ++ x ∷ []) rest

  -- [REPEAT Repeats], where Repeats = Rep {";" Rep} [";"]
  pub data IsRepeatPart : List Token → List (Labeled RepeatLabels Statement) → List Token → Type 0 where
    no_repeats : {rest : List Token} → IsRepeatPart rest [] rest
    open_repeats : {ts rest : List Token} {all : List (Labeled RepeatLabels Statement)} {p : Place} → IsRepeats ts all rest
        → IsRepeatPart (word RepeatWord p ∷ ts) all rest
    closed_repeats : {ts rest : List Token} {all : List (Labeled RepeatLabels Statement)} {p q : Place} → IsRepeats ts all (mark Semicolon q ∷ rest)
        → IsRepeatPart (word RepeatWord p ∷ ts) all rest

  pub data IsRepeats : List Token → List (Labeled RepeatLabels Statement) → List Token → Type 0 where
    a_repeat : {ts rest : List Token} {x : Labeled RepeatLabels Statement} → IsRepeat ts x rest → IsRepeats ts (x ∷ []) rest
    repeats : {ts us rest : List Token} {all : List (Labeled RepeatLabels Statement)} {x : Labeled RepeatLabels Statement} {p : Place}
        → IsRepeats ts all (mark Semicolon p ∷ us) → IsRepeat us x rest → IsRepeats ts (all ++ x ∷ []) rest

  -- Rep = (Names | FINISHED) "=>" Stmt
  pub data IsRepeat : List Token → Labeled RepeatLabels Statement → List Token → Type 0 where
    repeat_of : {ts us rest : List Token} {l : RepeatLabels} {x : Statement} {p : Place} → IsRepeatLabels ts l (mark DoubleArrow p ∷ us) → IsStmt us x rest
        → IsRepeat ts (labeled l x) rest

  -- [EXITS Exits], where Exits = Exit {";" Exit} [";"]
  pub data IsExitPart : List Token → List (Labeled (List Identifier) Statement) → List Token → Type 0 where
    no_exits : {rest : List Token} → IsExitPart rest [] rest
    open_exits : {ts rest : List Token} {all : List (Labeled (List Identifier) Statement)} {p : Place} → IsExits ts all rest
        → IsExitPart (word ExitsWord p ∷ ts) all rest
    closed_exits : {ts rest : List Token} {all : List (Labeled (List Identifier) Statement)} {p q : Place} → IsExits ts all (mark Semicolon q ∷ rest)
        → IsExitPart (word ExitsWord p ∷ ts) all rest

  pub data IsExits : List Token → List (Labeled (List Identifier) Statement) → List Token → Type 0 where
    an_exit : {ts rest : List Token} {x : Labeled (List Identifier) Statement} → IsExit ts x rest → IsExits ts (x ∷ []) rest
    exits : {ts us rest : List Token} {all : List (Labeled (List Identifier) Statement)} {x : Labeled (List Identifier) Statement} {p : Place}
        → IsExits ts all (mark Semicolon p ∷ us) → IsExit us x rest → IsExits ts (all ++ x ∷ []) rest

  -- Exit = Names "=>" Stmt
  pub data IsExit : List Token → Labeled (List Identifier) Statement → List Token → Type 0 where
    exit_of : {ts us rest : List Token} {ns : List Identifier} {x : Statement} {p : Place} → IsNames ts ns (mark DoubleArrow p ∷ us) → IsStmt us x rest
        → IsExit ts (labeled ns x) rest

  -- [Enable], where Enable = ENABLE (Arm | BEGIN Arms END) ";"
  pub data IsEnabling : List Token → Option (Placed (List Arm)) → List Token → Type 0 where
    no_enable : {rest : List Token} → IsEnabling rest None rest
    enable_one : {ts rest : List Token} {x : Arm} {p q : Place} → IsArm ts x (mark Semicolon q ∷ rest)
        → IsEnabling (word EnableWord p ∷ ts) (Some (placed p (x ∷ []))) rest
    enable_many : {ts rest : List Token} {all : List Arm} {p q r s : Place} → IsArmList ts all (word EndWord r ∷ mark Semicolon s ∷ rest)
        → IsEnabling (word EnableWord p ∷ word BeginWord q ∷ ts) (Some (placed p all)) rest

  -- Block = BEGIN [Enable] {Local ";"} [Stmts] [EXITS Exits] END, or in braces
  pub data IsBlock : List Token → Block → List Token → Type 0 where
    begin_end : {ts us vs ws rest : List Token} {e : Option (Placed (List Arm))} {ls : List (Labeled (List Identifier) PlainItem)} {ss : List Statement}
        {xs : List (Labeled (List Identifier) Statement)} {p q : Place} → IsEnabling ts e us → IsLocals us ls vs → IsBody vs ss ws
        → IsExitPart ws xs (word EndWord q ∷ rest) → IsBlock (word BeginWord p ∷ ts) (block p e ls ss xs) rest
    braces : {ts us vs ws rest : List Token} {e : Option (Placed (List Arm))} {ls : List (Labeled (List Identifier) PlainItem)} {ss : List Statement}
        {xs : List (Labeled (List Identifier) Statement)} {p q : Place} → IsEnabling ts e us → IsLocals us ls vs → IsBody vs ss ws
        → IsExitPart ws xs (mark RightBrace q ∷ rest) → IsBlock (mark LeftBrace p ∷ ts) (block p e ls ss xs) rest

  -- {Local ";"}
  pub data IsLocals : List Token → List (Labeled (List Identifier) PlainItem) → List Token → Type 0 where
    no_locals : {rest : List Token} → IsLocals rest [] rest
    locals : {ts us rest : List Token} {all : List (Labeled (List Identifier) PlainItem)} {x : Labeled (List Identifier) PlainItem} {p : Place}
        → IsLocals ts all us → IsLocal us x (mark Semicolon p ∷ rest) → IsLocals ts (all ++ x ∷ []) rest

  -- Local = Names ":" Plain
  pub data IsLocal : List Token → Labeled (List Identifier) PlainItem → List Token → Type 0 where
    local_of : {ts us rest : List Token} {ns : List Identifier} {x : PlainItem} {p : Place} → IsNames ts ns (mark Colon p ∷ us) → IsPlain us x rest
        → IsLocal ts (labeled ns x) rest

  -- Plain = TYPE "=" TypeExp | TypeExp ["←" Expr | "=" Expr]
  pub data IsPlain : List Token → PlainItem → List Token → Type 0 where
    type_is : {ts rest : List Token} {x : TypeExp} {p q : Place} → IsType ts x rest → IsPlain (word TypeWord p ∷ mark Equal q ∷ ts) (TypeIs x) rest
    variable : {ts rest : List Token} {x : TypeExp} → IsType ts x rest → IsPlain ts (Variable x) rest
    initial : {ts us rest : List Token} {x : TypeExp} {y : Expr} {p : Place} → IsType ts x (mark Arrow p ∷ us) → IsExpr us y rest
        → IsPlain ts (Initial x y) rest
    constant : {ts us rest : List Token} {x : TypeExp} {y : Expr} {p : Place} → IsType ts x (mark Equal p ∷ us) → IsExpr us y rest
        → IsPlain ts (Constant x y) rest
