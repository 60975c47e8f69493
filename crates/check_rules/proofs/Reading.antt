-- A small reader of texts for the examples: the plain syntax tree of a text that is one of the grammar.
use Rattle.std.specs.Prelude.{ℕ, zero, suc, Bool, true, false, not, ◌&&◌, ◌||◌, List, [], ◌∷◌, Option, Some, None, bytes_eq, codes}
use Rattle.mesa_base.specs.declared.place.Place.{Place}
use Rattle.syntax_trees.specs.Syntax as s
use Rattle.mesa_base.specs.declared.identifier.Identifier.{Identifier}
use Rattle.syntax_trees.specs.declared.syntax.QualifiedName.{QualifiedName}
use Rattle.syntax_trees.specs.declared.syntax.DirectoryItem.{DirectoryItem}
use Rattle.syntax_trees.specs.declared.syntax.Labels.{Labels}
use Rattle.syntax_trees.specs.declared.syntax.Labels.TheVariants.{Any, Unwind, Signals}
use Rattle.syntax_trees.specs.declared.syntax.RepeatLabels.{RepeatLabels}
use Rattle.syntax_trees.specs.declared.syntax.RepeatLabels.TheVariants as repeat
use Rattle.syntax_trees.specs.declared.syntax.TypeBase.{TypeBase}
use Rattle.syntax_trees.specs.declared.syntax.TypeBase.TheVariants as base
use Rattle.syntax_trees.specs.declared.syntax.Operator.{Operator}
use Rattle.syntax_trees.specs.declared.syntax.Operator.TheVariants as op
use Rattle.syntax_trees.specs.declared.syntax.Sign.TheVariants.{Positive, Negative}
use Rattle.syntax_trees.specs.declared.syntax.Access.{Access}
use Rattle.syntax_trees.specs.declared.syntax.Access.TheVariants.{Public, Private}
use Rattle.mesa_base.specs.declared.relation.Relation.{Relation}
use Rattle.mesa_base.specs.declared.relation.Relation.TheVariants.{Equal, NotEqual, Less, AtMost, Greater, AtLeast}
use Rattle.check_rules.proofs.Lexing.{Token, Kind, Word, Number, Letter, Text, tokens}

abbrev pub Read : Type 0 → Type 0
Read A = List Token → Option (A × List Token)

abbrev pub step : {A B : Type 0} → Option (A × List Token) → (A → Read B) → Option (B × List Token)
step (Some r) f = f r.0 r.1
step None f = None

infixl 10 ◌>>=◌
abbrev pub ◌>>=◌ : {A B : Type 0} → Read A → (A → Read B) → Read B
p >>= f = λ ts. step (p ts) f

abbrev pub pure : {A : Type 0} → A → Read A
pure a = λ ts. Some (a, ts)

abbrev pub fail : {A : Type 0} → Read A
fail = λ ts. None

abbrev pub nowhere : Place
nowhere = record { token = 0; line = 0; column = 0 }

abbrev pub first_text : List Token → List ℕ
first_text [] = []
first_text (t ∷ ts) = t.text

abbrev pub place_of : List Token → Place
place_of [] = nowhere
place_of (t ∷ ts) = t.place

abbrev pub rest_of : List Token → List Token
rest_of [] = []
rest_of (t ∷ ts) = ts

abbrev pub at : List ℕ → List Token → Bool
at x ts = bytes_eq x (first_text ts)

abbrev pub here : Read Place
here = λ ts. Some (place_of ts, ts)

abbrev pub branch : {A : Type 0} → Bool → Read A → Read A → Read A
branch true p q ts = p ts
branch false p q ts = q ts

-- where the next token is this word or mark, it is taken
abbrev pub on : {A : Type 0} → List ℕ → (Place → Read A) → Read A → Read A
on x p q = λ ts. branch (at x ts) (λ us. p (place_of us) (rest_of us)) q ts

abbrev pub take : List ℕ → Read Place
take x = on x pure fail

abbrev pub skip : List ℕ → Read (Unit {0})
skip x = on x (λ p. pure tt) (pure tt)

abbrev pub peek : {A : Type 0} → List ℕ → Read A → Read A → Read A
peek x p q = λ ts. branch (at x ts) p q ts

-- the second token
abbrev pub peek_second : {A : Type 0} → List ℕ → Read A → Read A → Read A
peek_second x p q = λ ts. branch (at x (rest_of ts)) p q ts

abbrev pub identifier_of : List Token → Option (Identifier × List Token)
identifier_of [] = None
identifier_of (t ∷ ts) = Some (record { name = t.text; place = t.place }, ts)

abbrev pub identifier : Read Identifier
identifier = identifier_of

unfoldable pub names : ℕ → Read (List Identifier)
names zero = fail
names (suc n) = identifier >>= (λ x. on (codes ",") (λ p. names n >>= (λ xs. pure (x ∷ xs))) (pure (x ∷ [])))

abbrev pub qualified : Read QualifiedName
qualified = identifier >>= (λ x.
    on (codes ".") (λ p. identifier >>= (λ y. pure (record { first = x; second = Some y }))) (pure (record { first = x; second = None })))

unfoldable pub qualifieds : ℕ → Read (List QualifiedName)
qualifieds zero = fail
qualifieds (suc n) = qualified >>= (λ x. on (codes ",") (λ p. qualifieds n >>= (λ xs. pure (x ∷ xs))) (pure (x ∷ [])))

-- names with commas between, and a colon behind them
unfoldable pub are_keys : ℕ → List Token → Bool
are_keys zero ts = false
are_keys (suc n) ts = at (codes ":") (rest_of ts) || (at (codes ",") (rest_of ts) && are_keys n (rest_of (rest_of ts)))

abbrev pub if_keys : {A : Type 0} → Read A → Read A → Read A
if_keys p q = λ ts. branch (are_keys 20 ts) p q ts

abbrev pub any_of : List (List ℕ) → List Token → Bool
any_of [] ts = false
any_of (x ∷ xs) ts = at x ts || any_of xs ts

abbrev pub peek_any : {A : Type 0} → List (List ℕ) → Read A → Read A → Read A
peek_any xs p q = λ ts. branch (any_of xs ts) p q ts

abbrev pub ends : List (List ℕ)
ends = codes "END" ∷ codes "}" ∷ codes "ENDLOOP" ∷ codes "ENDCASE" ∷ codes "EXITS" ∷ codes "REPEAT" ∷ codes "]" ∷ codes "." ∷ []

abbrev pub literal_of : List Token → Option (s.Expr × List Token)
literal_of [] = None
literal_of (t ∷ ts) = of_kind t.kind
  where
    of_kind : Kind → Option (s.Expr × List Token)
    of_kind (Number n) = Some (s.NumberLiteral t.place n, ts)
    of_kind (Letter n) = Some (s.CharacterLiteral t.place n, ts)
    of_kind (Text x) = Some (s.StringLiteral t.place x, ts)
    of_kind _ = None

abbrev pub is_literal : List Token → Bool
is_literal [] = false
is_literal (t ∷ ts) = of_kind t.kind
  where
    of_kind : Kind → Bool
    of_kind (Number n) = true
    of_kind (Letter n) = true
    of_kind (Text x) = true
    of_kind _ = false

abbrev pub words : List (List ℕ)
words = codes "END" ∷ codes "ELSE" ∷ codes "ENDLOOP" ∷ codes "ENDCASE" ∷ codes "EXITS" ∷ codes "REPEAT"
    ∷ codes "THEN" ∷ codes "DO" ∷ codes "AND" ∷ codes "OR" ∷ codes "FROM" ∷ []

abbrev pub is_word : List Token → Bool
is_word [] = false
is_word (t ∷ ts) = of_kind t.kind
  where
    of_kind : Kind → Bool
    of_kind Word = true
    of_kind _ = false

abbrev pub is_name : List Token → Bool
is_name ts = is_word ts && not (any_of words ts)

abbrev pub relation : {A : Type 0} → (Relation → Place → Read A) → Read A → Read A
relation f q =
    on (codes "=") (f Equal) (on (codes "#") (f NotEqual) (on (codes "<") (f Less) (on (codes "<=") (f AtMost)
    (on (codes ">") (f Greater) (on (codes ">=") (f AtLeast) q)))))

abbrev pub negation : {A : Type 0} → (Bool → Read A) → Read A
negation f = on (codes "~") (λ p. f true) (on (codes "NOT") (λ p. f true) (f false))

-- a run of operators of one level
abbrev pub run : s.Expr → s.Operations → s.Expr
run e s.NoOperation = e
run e (s.AndOperation o p x ss) = s.Run e (s.AndOperation o p x ss)

-- each level of expressions, types, statements and blocks; the number bounds how deep they go
unfoldable mutual
  pub expr : ℕ → Read s.Expr
  expr zero = fail
  expr (suc n) = conj n >>= (λ e. or_steps n >>= (λ ss. pure (run e ss)))

  pub or_steps : ℕ → Read s.Operations
  or_steps zero = fail
  or_steps (suc n) = on (codes "OR") (λ p. conj n >>= (λ e. or_steps n >>= (λ ss. pure (s.AndOperation op.Or p e ss)))) (pure s.NoOperation)

  pub conj : ℕ → Read s.Expr
  conj zero = fail
  conj (suc n) = neg n >>= (λ e. and_steps n >>= (λ ss. pure (run e ss)))

  pub and_steps : ℕ → Read s.Operations
  and_steps zero = fail
  and_steps (suc n) = on (codes "AND") (λ p. neg n >>= (λ e. and_steps n >>= (λ ss. pure (s.AndOperation op.And p e ss)))) (pure s.NoOperation)

  pub neg : ℕ → Read s.Expr
  neg zero = fail
  neg (suc n) = on (codes "NOT") (λ p. rel n >>= (λ e. pure (s.Not p e))) (on (codes "~") (λ p. rel n >>= (λ e. pure (s.Not p e))) (rel n))

  pub rel : ℕ → Read s.Expr
  rel zero = fail
  rel (suc n) = sum n >>= (λ d. negation (λ b.
      relation (λ o p. sum n >>= (λ e. pure (s.Compare d b o p e)))
      (on (codes "IN") (λ p. interval n >>= (λ i. pure (s.Within d b p i))) (pure d))))

  pub sum : ℕ → Read s.Expr
  sum zero = fail
  sum (suc n) = product n >>= (λ e. sum_steps n >>= (λ ss. pure (run e ss)))

  pub sum_steps : ℕ → Read s.Operations
  sum_steps zero = fail
  sum_steps (suc n) = on (codes "+") (more_sum n op.Add) (on (codes "-") (more_sum n op.Subtract) (pure s.NoOperation))

  pub more_sum : ℕ → Operator → Place → Read s.Operations
  more_sum zero o p = fail
  more_sum (suc n) o p = product n >>= (λ e. sum_steps n >>= (λ ss. pure (s.AndOperation o p e ss)))

  pub product : ℕ → Read s.Expr
  product zero = fail
  product (suc n) = factor n >>= (λ e. product_steps n >>= (λ ss. pure (run e ss)))

  pub product_steps : ℕ → Read s.Operations
  product_steps zero = fail
  product_steps (suc n) =
      on (codes "*") (more_product n op.Multiply) (on (codes "/") (more_product n op.Divide)
      (on (codes "MOD") (more_product n op.Modulo) (pure s.NoOperation)))

  pub more_product : ℕ → Operator → Place → Read s.Operations
  more_product zero o p = fail
  more_product (suc n) o p = factor n >>= (λ e. product_steps n >>= (λ ss. pure (s.AndOperation o p e ss)))

  pub factor : ℕ → Read s.Expr
  factor zero = fail
  factor (suc n) =
      on (codes "-") (λ p. primary n >>= (λ e. pure (s.Signed Negative p e)))
      (on (codes "+") (λ p. primary n >>= (λ e. pure (s.Signed Positive p e))) (primary n))

  pub primary : ℕ → Read s.Expr
  primary zero = fail
  primary (suc n) = λ ts. branch (is_literal ts) literal_of
      (on (codes "TRUE") (λ p. pure (s.Truth p true))
      (on (codes "FALSE") (λ p. pure (s.Truth p false))
      (on (codes "(") (λ p. expr n >>= (λ e. take (codes ")") >>= (λ q. pure (s.Parenthesis p e))))
      (on (codes "[") (λ p. items n >>= (λ x. take (codes "]") >>= (λ q. pure (s.Constructor p x))))
      (peek_any (codes "SIGNAL" ∷ codes "ERROR" ∷ []) (raise n >>= (λ r. pure (s.Raised r)))
      (left n >>= (λ l. pure (s.Reference l)))))))) ts

  pub interval : ℕ → Read s.Interval
  interval zero = fail
  interval (suc n) = on (codes "[") (bounds n false) (on (codes "(") (bounds n true) fail)

  pub bounds : ℕ → Bool → Place → Read s.Interval
  bounds zero b p = fail
  bounds (suc n) b p = expr n >>= (λ d. take (codes "..") >>= (λ q. expr n >>= (λ e.
      on (codes "]") (λ q. pure (s.Between p b d e false)) (on (codes ")") (λ q. pure (s.Between p b d e true)) fail))))

  pub left : ℕ → Read s.Left
  left zero = fail
  left (suc n) = identifier >>= (λ x. suffixes n >>= (λ ss. pure (s.LeftOf x ss)))

  pub suffixes : ℕ → Read s.Suffixes
  suffixes zero = fail
  suffixes (suc n) =
      on (codes ".") (λ p. identifier >>= (λ x. suffixes n >>= (λ ss. pure (s.Field x ss))))
      (peek (codes "[") (brackets n >>= (λ b. suffixes n >>= (λ ss. pure (s.Applied b ss)))) (pure s.NoSuffix))

  pub brackets : ℕ → Read s.Brackets
  brackets zero = fail
  brackets (suc n) = take (codes "[") >>= (λ p. items n >>= (λ x.
      on (codes "!") (λ q. arms n >>= (λ ys. take (codes "]") >>= (λ r. pure (s.BracketsOf p x (s.Catch q ys)))))
      (take (codes "]") >>= (λ r. pure (s.BracketsOf p x s.NoPhrase)))))

  pub items : ℕ → Read s.Items
  items zero = fail
  items (suc n) = peek (codes "]") (pure s.Nothing) (peek (codes "!") (pure s.Nothing)
      (peek_second (codes ":") (keyed n >>= (λ es. pure (s.ByKey es))) (exprs n >>= (λ es. pure (s.InOrder es)))))

  pub exprs : ℕ → Read s.Exprs
  exprs zero = fail
  exprs (suc n) = expr n >>= (λ e. on (codes ",") (λ p. exprs n >>= (λ es. pure (s.AndExpr e es))) (pure (s.AndExpr e s.NoExprs)))

  pub keyed : ℕ → Read s.KeyedExprs
  keyed zero = fail
  keyed (suc n) = identifier >>= (λ x. take (codes ":") >>= (λ p. expr n >>= (λ e.
      on (codes ",") (λ q. keyed n >>= (λ es. pure (s.AndKeyedExpr x e es))) (pure (s.AndKeyedExpr x e s.NoKeyedExprs)))))

  pub raise : ℕ → Read s.Raise
  raise zero = fail
  raise (suc n) =
      on (codes "SIGNAL") (λ p. qualified >>= (λ q. raise_brackets n >>= (λ b. pure (s.SignalRaise p q b))))
      (on (codes "ERROR") (λ p. λ ts. branch (is_name ts)
      (qualified >>= (λ q. raise_brackets n >>= (λ b. pure (s.ErrorRaise p q b)))) (pure (s.UnnamedError p)) ts) fail)

  pub raise_brackets : ℕ → Read s.MaybeBrackets
  raise_brackets zero = fail
  raise_brackets (suc n) = peek (codes "[") (brackets n >>= (λ b. pure (s.WithBrackets b))) (pure s.NoBrackets)

  pub arms : ℕ → Read s.Arms
  arms zero = fail
  arms (suc n) = peek_any ends (pure s.NoArms) (labels n >>= (λ ls. take (codes "=>") >>= (λ p. statement n >>= (λ b.
      on (codes ";") (λ q. arms n >>= (λ ys. pure (s.AndArm ls b ys))) (pure (s.AndArm ls b s.NoArms))))))

  pub labels : ℕ → Read Labels
  labels zero = fail
  labels (suc n) = on (codes "ANY") (λ p. pure (Any p)) (on (codes "UNWIND") (λ p. pure (Unwind p)) (qualifieds 20 >>= (λ qs. pure (Signals qs))))

  pub statement : ℕ → Read s.Statement
  statement zero = fail
  statement (suc n) =
      on (codes "NULL") (λ p. pure (s.Null p))
      (peek_any (codes "BEGIN" ∷ codes "{" ∷ []) (block n >>= (λ b. pure (s.Nested b)))
      (on (codes "[") (λ p. targets n >>= (λ ts. take (codes "]") >>= (λ q. take (codes "_") >>= (λ r. expr n >>= (λ e. pure (s.Extract p ts e))))))
      (on (codes "IF") (λ p. expr n >>= (λ e. take (codes "THEN") >>= (λ q. statement n >>= (λ b. other n (codes "ELSE") >>= (λ o. pure (s.If p e b o))))))
      (on (codes "SELECT") (λ p. expr n >>= (λ e. take (codes "FROM") >>= (λ q. cases n >>= (λ cs. take (codes "ENDCASE") >>= (λ r.
      other n (codes "=>") >>= (λ o. pure (s.Select p e cs o)))))))
      (peek_any (codes "FOR" ∷ codes "THROUGH" ∷ codes "WHILE" ∷ codes "UNTIL" ∷ codes "DO" ∷ []) (loop n)
      (on (codes "EXIT") (λ p. pure (s.ExitLoop p))
      (on (codes "LOOP") (λ p. pure (s.NextTurn p))
      (on (codes "GOTO") (λ p. identifier >>= (λ x. pure (s.Goto p x)))
      (on (codes "RETURN") (λ p. list n >>= (λ x. pure (s.Return p x)))
      (on (codes "RESUME") (λ p. list n >>= (λ x. pure (s.Resume p x)))
      (on (codes "REJECT") (λ p. pure (s.Reject p))
      (on (codes "RETRY") (λ p. pure (s.Retry p))
      (on (codes "CONTINUE") (λ p. pure (s.Continue p))
      (peek_any (codes "SIGNAL" ∷ codes "ERROR" ∷ []) (raise n >>= (λ r. pure (s.RaiseStatement r)))
      (left n >>= (λ l. on (codes "_") (λ p. expr n >>= (λ e. pure (s.Assign l e))) (pure (s.Call l))))))))))))))))))

  pub other : ℕ → List ℕ → Read s.MaybeStatement
  other zero x = fail
  other (suc n) x = on x (λ p. statement n >>= (λ b. pure (s.OneStatement b))) (pure s.NoStatement)

  pub list : ℕ → Read s.MaybeItems
  list zero = fail
  list (suc n) = on (codes "[") (λ p. items n >>= (λ x. take (codes "]") >>= (λ q. pure (s.WithItems p x)))) (pure s.NoItems)

  pub targets : ℕ → Read s.Targets
  targets zero = fail
  targets (suc n) = peek (codes "]") (pure s.NoTarget)
      (peek_second (codes ":") (keyed_lefts n >>= (λ ls. pure (s.TargetsByKey ls))) (lefts n >>= (λ ls. pure (s.TargetsInOrder ls))))

  pub lefts : ℕ → Read s.Lefts
  lefts zero = fail
  lefts (suc n) = left n >>= (λ l. on (codes ",") (λ p. lefts n >>= (λ ls. pure (s.AndLeft l ls))) (pure (s.AndLeft l s.NoLefts)))

  pub keyed_lefts : ℕ → Read s.KeyedLefts
  keyed_lefts zero = fail
  keyed_lefts (suc n) = identifier >>= (λ x. take (codes ":") >>= (λ p. left n >>= (λ l.
      on (codes ",") (λ q. keyed_lefts n >>= (λ ls. pure (s.AndKeyedLeft x l ls))) (pure (s.AndKeyedLeft x l s.NoKeyedLefts)))))

  pub statements : ℕ → Read s.Statements
  statements zero = fail
  statements (suc n) = peek_any ends (pure s.NoStatements) (statement n >>= (λ b.
      on (codes ";") (λ p. statements n >>= (λ bs. pure (s.AndStatement b bs))) (pure (s.AndStatement b s.NoStatements))))

  pub cases : ℕ → Read s.Cases
  cases zero = fail
  cases (suc n) = peek_any ends (pure s.NoCases) (tests n >>= (λ ts. take (codes "=>") >>= (λ p. statement n >>= (λ b.
      on (codes ";") (λ q. cases n >>= (λ cs. pure (s.AndCase ts b cs))) (pure (s.AndCase ts b s.NoCases))))))

  pub tests : ℕ → Read s.Tests
  tests zero = fail
  tests (suc n) = test n >>= (λ put. on (codes ",") (λ p. tests n >>= (λ ts. pure (put ts))) (pure (put s.NoTests)))

  pub test : ℕ → Read (s.Tests → s.Tests)
  test zero = fail
  test (suc n) = peek_any (codes "=" ∷ codes "#" ∷ codes "<" ∷ codes "<=" ∷ codes ">" ∷ codes ">=" ∷ codes "IN" ∷ codes "~" ∷ codes "NOT" ∷ [])
      (negation (λ b. relation (λ o p. sum n >>= (λ e. pure (s.Compared b o p e)))
      (on (codes "IN") (λ p. interval n >>= (λ i. pure (s.Inside b p i))) fail)))
      (expr n >>= (λ e. pure (s.Value e)))

  pub loop : ℕ → Read s.Statement
  loop zero = fail
  loop (suc n) = count n >>= (λ c. condition n >>= (λ d. take (codes "DO") >>= (λ p. enable n >>= (λ ph. statements n >>= (λ ss.
      on (codes "REPEAT") (λ q. repeats n >>= (λ rs. take (codes "ENDLOOP") >>= (λ r. pure (s.Loop (s.ControlOf c d) p ph ss rs))))
      (take (codes "ENDLOOP") >>= (λ r. pure (s.Loop (s.ControlOf c d) p ph ss s.NoRepeats))))))))

  pub count : ℕ → Read s.Count
  count zero = fail
  count (suc n) =
      on (codes "FOR") (λ p. identifier >>= (λ x. on (codes "DECREASING")
      (λ q. take (codes "IN") >>= (λ r. interval n >>= (λ i. pure (s.For p x true i))))
      (take (codes "IN") >>= (λ r. interval n >>= (λ i. pure (s.For p x false i))))))
      (on (codes "THROUGH") (λ p. interval n >>= (λ i. pure (s.Through p i))) (pure s.NoCount))

  pub condition : ℕ → Read s.Condition
  condition zero = fail
  condition (suc n) =
      on (codes "WHILE") (λ p. expr n >>= (λ e. pure (s.While p e))) (on (codes "UNTIL") (λ p. expr n >>= (λ e. pure (s.Until p e))) (pure s.Always))

  pub repeats : ℕ → Read s.Repeats
  repeats zero = fail
  repeats (suc n) = peek_any ends (pure s.NoRepeats) (repeat_labels n >>= (λ ls. take (codes "=>") >>= (λ p. statement n >>= (λ b.
      on (codes ";") (λ q. repeats n >>= (λ rs. pure (s.AndRepeat ls b rs))) (pure (s.AndRepeat ls b s.NoRepeats))))))

  pub repeat_labels : ℕ → Read RepeatLabels
  repeat_labels zero = fail
  repeat_labels (suc n) = on (codes "FINISHED") (λ p. pure (repeat.Finished p)) (names 20 >>= (λ xs. pure (repeat.Named xs)))

  pub enable : ℕ → Read s.Phrase
  enable zero = fail
  enable (suc n) = on (codes "ENABLE") (λ p. on (codes "BEGIN")
      (λ q. arms n >>= (λ ys. take (codes "END") >>= (λ r. take (codes ";") >>= (λ u. pure (s.Catch p ys)))))
      (one_arm n >>= (λ ys. take (codes ";") >>= (λ u. pure (s.Catch p ys))))) (pure s.NoPhrase)

  pub one_arm : ℕ → Read s.Arms
  one_arm zero = fail
  one_arm (suc n) = labels n >>= (λ ls. take (codes "=>") >>= (λ p. statement n >>= (λ b. pure (s.AndArm ls b s.NoArms))))

  pub block : ℕ → Read s.Block
  block zero = fail
  block (suc n) = here >>= (λ p. λ ts. (enable n >>= (λ ph. locals n >>= (λ ls. statements n >>= (λ ss. exits n >>= (λ es.
      peek_any (codes "END" ∷ codes "}" ∷ []) (λ us. Some (s.BlockOf p ph ls ss es, rest_of us)) fail))))) (rest_of ts))

  pub exits : ℕ → Read s.Exits
  exits zero = fail
  exits (suc n) = on (codes "EXITS") (λ p. more_exits n) (pure s.NoExits)

  pub more_exits : ℕ → Read s.Exits
  more_exits zero = fail
  more_exits (suc n) = peek_any ends (pure s.NoExits) (names 20 >>= (λ xs. take (codes "=>") >>= (λ p. statement n >>= (λ b.
      on (codes ";") (λ q. more_exits n >>= (λ es. pure (s.AndExit xs b es))) (pure (s.AndExit xs b s.NoExits))))))

  pub locals : ℕ → Read s.Locals
  locals zero = fail
  locals (suc n) = if_keys (names 20 >>= (λ xs. take (codes ":") >>= (λ p. plain n >>= (λ d. take (codes ";") >>= (λ q.
      locals n >>= (λ ls. pure (s.AndLocal xs d ls))))))) (pure s.NoLocals)

  pub plain : ℕ → Read s.PlainItem
  plain zero = fail
  plain (suc n) = on (codes "TYPE") (λ p. take (codes "=") >>= (λ q. type_exp n >>= (λ e. pure (s.TypeIs e))))
      (type_exp n >>= (λ k. on (codes "_") (λ p. expr n >>= (λ e. pure (s.Initial k e)))
      (on (codes "=") (λ p. expr n >>= (λ e. pure (s.Constant k e))) (pure (s.Variable k)))))

  pub type_exp : ℕ → Read s.TypeExp
  type_exp zero = fail
  type_exp (suc n) =
      on (codes "INTEGER") (λ p. of_base n (base.OfInteger p) (s.Integer p))
      (on (codes "CARDINAL") (λ p. of_base n (base.OfCardinal p) (s.Cardinal p))
      (on (codes "LONG") (λ p. on (codes "INTEGER") (λ q. pure (s.LongInteger p)) (take (codes "CARDINAL") >>= (λ q. pure (s.LongCardinal p))))
      (on (codes "CHARACTER") (λ p. of_base n (base.OfCharacter p) (s.Character p))
      (on (codes "BOOLEAN") (λ p. pure (s.Boolean p))
      (on (codes "STRING") (λ p. pure (s.String p))
      (on (codes "{") (λ p. names 20 >>= (λ xs. take (codes "}") >>= (λ q. pure (s.Enumeration p xs))))
      (peek_any (codes "[" ∷ codes "(" ∷ []) (interval n >>= (λ i. pure (s.Subrange base.Unsaid i)))
      (on (codes "ARRAY") (λ p. type_exp n >>= (λ i. take (codes "OF") >>= (λ q. type_exp n >>= (λ e. pure (s.Array p i e)))))
      (on (codes "RECORD") (λ p. take (codes "[") >>= (λ q. fields n >>= (λ fs. take (codes "]") >>= (λ r. pure (s.Record p fs)))))
      (qualified >>= (λ q. of_base n (base.OfName q) (s.Called q))))))))))))

  pub of_base : ℕ → TypeBase → s.TypeExp → Read s.TypeExp
  of_base zero b e = fail
  of_base (suc n) b e = peek_any (codes "[" ∷ codes "(" ∷ []) (interval n >>= (λ i. pure (s.Subrange b i))) (pure e)

  pub fields : ℕ → Read s.FieldList
  fields zero = fail
  fields (suc n) = if_keys (named_fields n >>= (λ fs. pure (s.WithNames fs))) (types n >>= (λ es. pure (s.Unnamed es)))

  pub named_fields : ℕ → Read s.NamedFields
  named_fields zero = fail
  named_fields (suc n) = names 20 >>= (λ xs. take (codes ":") >>= (λ p. type_exp n >>= (λ e.
      on (codes ",") (λ q. named_fields n >>= (λ fs. pure (s.AndFields xs e fs))) (pure (s.AndFields xs e s.NoFields)))))

  pub types : ℕ → Read s.TypeExps
  types zero = fail
  types (suc n) = type_exp n >>= (λ e. on (codes ",") (λ p. types n >>= (λ es. pure (s.AndType e es))) (pure (s.AndType e s.NoTypes)))

abbrev pub parameters : ℕ → Read (Option s.FieldList)
parameters n = on (codes "[") (λ p. on (codes "]") (λ q. pure None) (fields n >>= (λ fs. take (codes "]") >>= (λ q. pure (Some fs))))) (pure None)

abbrev pub results : ℕ → Read (Option s.FieldList)
results n = on (codes "RETURNS") (λ p. parameters n) (pure None)

abbrev pub head : ℕ → Read s.Head
head n = parameters n >>= (λ x. results n >>= (λ y. pure (record { takes = x; gives = y })))

abbrev pub is_code : Read Place
is_code = take (codes "=") >>= (λ p. take (codes "CODE"))

abbrev pub access : Read (Option Access)
access = on (codes "PUBLIC") (λ p. pure (Some Public)) (on (codes "PRIVATE") (λ p. pure (Some Private)) (pure None))

abbrev pub declared : ℕ → Read s.Declared
declared n =
    on (codes "PROCEDURE") (λ p. head n >>= (λ h. take (codes "=") >>= (λ q. block n >>= (λ b. pure (s.Procedure h b)))))
    (on (codes "SIGNAL") (λ p. head n >>= (λ h. is_code >>= (λ q. pure (s.Signal h))))
    (on (codes "ERROR") (λ p. parameters n >>= (λ x. is_code >>= (λ q. pure (s.Error x))))
    (plain n >>= (λ d. pure (s.Data d)))))

unfoldable pub declarations : ℕ → ℕ → Read (List s.Declaration)
declarations n zero = fail
declarations n (suc k) = if_keys (names 20 >>= (λ xs. take (codes ":") >>= (λ p. access >>= (λ a. declared n >>= (λ d. take (codes ";") >>= (λ q.
    declarations n k >>= (λ ds. pure (record { names = xs; access = a; declared = d } ∷ ds)))))))) (pure [])

abbrev pub defined : ℕ → Read s.Defined
defined n =
    on (codes "PROCEDURE") (λ p. head n >>= (λ h. pure (s.ProcedureItem h)))
    (on (codes "SIGNAL") (λ p. head n >>= (λ h. pure (s.SignalItem h)))
    (on (codes "ERROR") (λ p. parameters n >>= (λ x. pure (s.ErrorItem x)))
    (on (codes "TYPE") (λ p. take (codes "=") >>= (λ q. type_exp n >>= (λ e. pure (s.TypeItem e))))
    (type_exp n >>= (λ k. take (codes "=") >>= (λ q. expr n >>= (λ e. pure (s.ConstantItem k e))))))))

unfoldable pub definitions : ℕ → ℕ → Read (List s.Definition)
definitions n zero = fail
definitions n (suc k) = if_keys (names 20 >>= (λ xs. take (codes ":") >>= (λ p. defined n >>= (λ d. take (codes ";") >>= (λ q.
    definitions n k >>= (λ ds. pure (record { names = xs; defined = d } ∷ ds))))))) (pure [])

abbrev pub name_list : List ℕ → Read (List Identifier)
name_list x = on x (λ p. names 20) (pure [])

abbrev pub open_list : Read (List Identifier)
open_list = on (codes "OPEN") (λ p. names 20 >>= (λ xs. take (codes ";") >>= (λ q. pure xs))) (pure [])

abbrev pub using_list : Read (Option (List Identifier))
using_list = on (codes "USING") (λ p. take (codes "[") >>= (λ q.
    on (codes "]") (λ r. pure (Some [])) (names 20 >>= (λ xs. take (codes "]") >>= (λ r. pure (Some xs)))))) (pure None)

abbrev pub file_of : List Token → Option (List ℕ × List Token)
file_of [] = None
file_of (t ∷ ts) = of_kind t.kind
  where
    of_kind : Kind → Option (List ℕ × List Token)
    of_kind (Text x) = Some (x, ts)
    of_kind _ = None

abbrev pub directory_item : Read DirectoryItem
directory_item = identifier >>= (λ x. take (codes ":") >>= (λ p. take (codes "FROM") >>= (λ q. here >>= (λ r. file_of >>= (λ f. using_list >>= (λ u.
    pure (record { name = x; file_place = r; file = f; used = u })))))))

unfoldable pub directory_items : ℕ → Read (List DirectoryItem)
directory_items zero = fail
directory_items (suc k) = directory_item >>= (λ d. on (codes ",") (λ p. directory_items k >>= (λ ds. pure (d ∷ ds)))
    (take (codes ";") >>= (λ p. pure (d ∷ []))))

abbrev pub directory : Read (List DirectoryItem)
directory = on (codes "DIRECTORY") (λ p. directory_items 20) (pure [])

abbrev pub inner : ℕ → Read s.Inner
inner n = enable n >>= (λ ph. declarations n 40 >>= (λ ds. statements n >>= (λ ss. exits n >>= (λ es.
    pure (record { enable = ph; declarations = ds; statements = ss; exits = es })))))

abbrev pub kind_of : ℕ → Read s.ModuleKind
kind_of n =
    on (codes "PROGRAM") (λ p. name_list (codes "IMPORTS") >>= (λ is. name_list (codes "EXPORTS") >>= (λ es.
    take (codes "=") >>= (λ q. take (codes "BEGIN") >>= (λ r.
    open_list >>= (λ os. inner n >>= (λ i. pure (s.Program p is es os i))))))))
    (on (codes "DEFINITIONS") (λ p. take (codes "=") >>= (λ q. take (codes "BEGIN") >>= (λ r. open_list >>= (λ os.
    definitions n 40 >>= (λ ds. pure (s.Interface p os ds)))))) fail)

abbrev pub read_module : Read s.Module
read_module = directory >>= (λ ds. identifier >>= (λ x. take (codes ":") >>= (λ p. kind_of 60 >>= (λ k.
    take (codes "END") >>= (λ q. take (codes ".") >>= (λ r. pure (record { directory = ds; name = x; kind = k })))))))

abbrev pub read : List ℕ → Option (s.Module × List Token)
read cs = read_module (tokens cs)
