-- Checking: each part of a text in the order of checking, with its first fault (Language Manual, chapters 2 to 8). Operands
-- come before their operator, from left to right; the heads of a block's declarations before all else in it.
use Rattle.std.specs.Prelude.{ℕ, ◌+◌, Bool, true, false, ◌||◌, List, [], ◌∷◌, ◌++◌, length, map, Option, None, nat_eq, not}
use Rattle.syntax_trees.specs.Syntax as s
use Rattle.mesa_types.specs.Operators as words
use Rattle.mesa_base.specs.declared.place.Place.{Place}
use Rattle.check_rules.specs.Typed as t
use Rattle.interface_records.specs.PlainTypes as v
use Rattle.mesa_types.specs.declared.faces.ItemKind.TheVariants as item
use Rattle.mesa_base.specs.declared.identifier.Identifier.{Identifier}
use Rattle.check_rules.specs.Scopes.{has, nothing}
use Rattle.check_rules.specs.Meanings.{TypeName, Procedure}
use Rattle.check_rules.specs.Steps.{Check, ◌>>=◌, pure, fail, or_refuse, ensure, lift, spend, hide, in_scope, seeing, measured, within_operands}
use Rattle.check_rules.specs.Around.{Around, inside, in_constant, with_labels, in_round, in_arm, exit_loop, next_round, go_to, return, retry, continue, reject, resumed, label_of}
use Rattle.check_rules.specs.Names.{named, qualified, type_named, word_base, arm_labels, announce, settle}
use Rattle.check_rules.specs.Parts.{first, first_of_interval, first_of_type, first_name, last_of, names_of, distinct, field_named, kinds, kind_by, places_of, each_of, count, keys, count_lefts, keys_of_lefts, are_fields, complete}
use Rattle.check_rules.specs.Ranges.{Typed, Aim, Free, Into, Several, Arguments, finish}
use Rattle.check_rules.specs.Values.{number, letter, truth, string, is_truth, not_of, signed, compared, within, by_level, level_of, Sum, Begun, closed, step, summed, truth_operand, no_phrase, by_shape, by_aim, construct_shape, has_parts, in_fields, by_keys, bound_of, in_order, Raises, raises_by, raised}
use Rattle.check_rules.specs.Operators.{sort_of, longer}
use Rattle.check_rules.specs.Reached.{Reached, Named, Value, Variable, Results, Use, Read, Store, Perform, reached, settled, value, field, indexed, text_at, at_index, may_apply, shape_of, Target, stored, performed}
use Rattle.check_rules.specs.TypeRules.{origin, limited, elements, few, is_index, bound, subrange, interval_base}
use Rattle.check_rules.specs.Statements.{whole, held, numbered, returned, declare, given_initial, Ends, tested, tested_inside, rounds, counter, given, Counted, NotCounted, By, Controlled, looped, source, extracted, selected, held_words, longer_number, longer_bounds, enter_arm, Headed, Nothing, Variables, constant_meaning, labels_of_exits, labels_of_repeats, numbers_from, Left, also_left, new_labels, is_finished, labels_of}
use Rattle.check_rules.specs.Phrases.{holds, in_left, in_raise, in_targets, in_cases, in_items, is_catch}
use Rattle.check_rules.specs.declared.fault.Cause.TheVariants.{TypeMismatch, WrongCount, TwiceDeclared}
use Rattle.interface_records.specs.PlainTypes.{PlainField, PlainItem, PlainType, kind_of, parts_of, words_of, words_of_fields}

unfoldable mutual
  -- Expressions.
  pub check : Around → Aim → s.Expr → Check Typed
  check a aim (s.Run e ss) = do
    x ← check a (Free (first e)) e
    r ← by_level (level_of ss) (pure x)
        (sums a (first e) (Begun x.value) x.kind x.literal ss >>= (λ r. pure (summed r)))
        (truths a (is_truth x.kind) ss >>= (λ es. pure (truth (t.AllOf (t.AndExpr x.value es)))))
        (truths a (is_truth x.kind) ss >>= (λ es. pure (truth (t.SomeOf (t.AndExpr x.value es)))))
    lift (finish aim r)
  check a aim (s.Not p e) = do
    x ← check a (Free (first e)) e
    r ← lift (not_of p x)
    lift (finish aim r)
  check a aim (s.Compare d b o p e) = do
    x ← check a (Free (first d)) d
    y ← check a (Free (first e)) e
    r ← lift (compared b o p (first d) x (first e) y)
    _ ← spend (longer (sort_of x.kind) x.literal (sort_of y.kind) y.literal)
    lift (finish aim r)
  check a aim (s.Within e b p i) = do
    x ← check a (Free (first e)) e
    ends ← interval a i
    r ← lift (within b p (first e) x ends)
    _ ← spend (longer_number x ends + longer_bounds x ends)
    lift (finish aim r)
  check a aim (s.Signed sign p e) = do
    x ← check a (Free (first e)) e
    r ← lift (signed sign p x)
    lift (finish aim r)
  check a aim (s.NumberLiteral p n) = spend (words_of (number n).kind) >>= (λ _. lift (finish aim (number n)))
  check a aim (s.CharacterLiteral p n) = spend 1 >>= (λ _. lift (finish aim (letter n)))
  check a aim (s.StringLiteral p bytes) = do
    x ← lift (string a.known.strings p bytes)
    _ ← spend 2
    lift (finish aim x)
  check a aim (s.Truth p b) = spend 1 >>= (λ _. lift (finish aim (truth (t.Number (words.truth b)))))
  check a aim (s.Parenthesis p e) = check a aim e
  check a aim (s.Reference (s.LeftOf x ss)) = do
    m ← named a x
    r ← walk a Read x.place (reached m) ss
    x ← value aim r.0 r.1
    lift (finish aim x)
  check a aim (s.Constructor p items) = by_aim aim (fail TypeMismatch) (λ k q. construct a k q p items)
  check a aim (s.Raised r) = do
    x ← raise a r
    x ← value aim x.0 x.1
    lift (finish aim x)

  -- the operators of a run that begins at l, behind those that are done, and the type of it all
  pub sums : Around → Place → Sum → PlainType → Bool → s.Operations → Check (t.Expr × PlainType)
  sums a l done kind literal s.NoOperation = pure (closed done, kind)
  sums a l done kind literal (s.AndOperation o p e ss) = do
    r ← check a (Free (first e)) e
    x ← lift (step o p l done kind literal (first e) r)
    _ ← spend (longer (sort_of kind) literal (sort_of r.kind) r.literal)
    sums a l x.done x.kind false ss

  -- the operands of AND or OR behind the first
  pub truths : Around → Bool → s.Operations → Check t.Exprs
  truths a fits s.NoOperation = pure t.NoExprs
  truths a fits (s.AndOperation o p e ss) = do
    r ← check a (Free (first e)) e
    x ← lift (truth_operand fits p r)
    es ← truths a true ss
    pure (t.AndExpr x es)

  pub interval : Around → s.Interval → Check Ends
  interval a (s.Between p open_low low high open_high) = do
    x ← check a (Free (first low)) low
    y ← check a (Free (first high)) high
    pure (record { open_low = open_low; low_place = first low; low = x; high_place = first high; high = y; open_high = open_high })

  -- where the suffixes of a name lead, and the place of the last name
  pub walk : Around → Use → Place → Reached → s.Suffixes → Check (Place × Reached)
  walk a way last r s.NoSuffix = pure (last, r)
  walk a way last r (s.Field x ss) = do
    next ← field a last (settled r) x
    walk a way x.place next ss
  walk a way last r (s.Applied b ss) = do
    _ ← ensure (may_apply way r) TypeMismatch last
    next ← apply a last (settled r) b
    walk a way last next ss

  -- an index, a call or a constructor, at its bracket
  pub apply : Around → Place → Reached → s.Brackets → Check Reached
  apply a last (Variable h ss k) (s.BracketsOf p items ph) = do
    x ← lift (indexed last h ss k)
    _ ← lift (no_phrase ph)
    i ← one a p items
    lift (at_index x i.0 i.1)
  apply a last (Value n e k) (s.BracketsOf p items ph) = do
    x ← lift (text_at last k n e)
    _ ← lift (no_phrase ph)
    i ← one a p items
    lift (at_index x i.0 i.1)
  apply a last (Named (Procedure c callee)) (s.BracketsOf p items ph) = do
    _ ← spend (words_of_fields callee.gives)
    x ← arguments a callee.takes p items
    w ← phrase a ph
    pure (Results (t.Call c x.places x.values (words_of_fields callee.gives) w) callee.gives)
  apply a last (Named (TypeName k)) (s.BracketsOf p items ph) = do
    _ ← lift (has_parts k last)
    _ ← lift (no_phrase ph)
    x ← construct a k last p items
    pure (Value 0 x.value k)
  apply a last r b = fail TypeMismatch last

  -- one item in order, where it begins and what it is
  pub one : Around → Place → s.Items → Check (Place × Typed)
  one a p (s.InOrder (s.AndExpr e s.NoExprs)) = check a (Free (first e)) e >>= (λ x. pure (first e, x))
  one a p items = fail WrongCount p

  -- a record of all its fields or an array of all its elements; any other type is refused at q
  pub construct : Around → PlainType → Place → Place → s.Items → Check Typed
  construct a k q p s.Nothing = construct_shape k q (fail WrongCount p)
  construct a k q p (s.InOrder es) = by_shape (shape_of k)
      (λ fs. in_fields k p (count es) (length fs) (values a (kinds fs) es))
      (λ n j. in_fields k p (count es) n (alike a j es))
      (fail TypeMismatch q)
  construct a k q p (s.ByKey es) = by_shape (shape_of k)
      (λ fs. by_keys k p fs (keys es) (keyed a fs es))
      (λ n j. fail WrongCount p)
      (fail TypeMismatch q)

  -- the values of parameters, results or fields, at the bracket p
  pub arguments : Around → List PlainField → Place → s.Items → Check Arguments
  arguments a fs p s.Nothing = do
    _ ← ensure (nat_eq 0 (length fs)) WrongCount p
    pure (in_order t.NoExprs)
  arguments a fs p (s.InOrder es) = do
    _ ← ensure (nat_eq (count es) (length fs)) WrongCount p
    vs ← values a (kinds fs) es
    pure (in_order vs)
  arguments a fs p (s.ByKey es) = do
    _ ← ensure (complete fs (keys es)) WrongCount p
    vs ← keyed a fs es
    pure (record { places = places_of fs (keys es); values = vs })

  pub values : Around → List PlainType → s.Exprs → Check t.Exprs
  values a (k ∷ ks) (s.AndExpr e es) = do
    x ← check a (Into k (first e)) e
    vs ← values a ks es
    pure (t.AndExpr x.value vs)
  values a _ _ = pure t.NoExprs

  pub alike : Around → PlainType → s.Exprs → Check t.Exprs
  alike a k s.NoExprs = pure t.NoExprs
  alike a k (s.AndExpr e es) = do
    x ← check a (Into k (first e)) e
    vs ← alike a k es
    pure (t.AndExpr x.value vs)

  pub keyed : Around → List PlainField → s.KeyedExprs → Check t.Exprs
  keyed a fs s.NoKeyedExprs = pure t.NoExprs
  keyed a fs (s.AndKeyedExpr x e es) = do
    y ← check a (Into (kind_by (field_named fs x)) (first e)) e
    vs ← keyed a fs es
    pure (t.AndExpr y.value vs)

  -- where a raise begins, and what it gave
  pub raise : Around → s.Raise → Check (Place × Reached)
  raise a (s.SignalRaise p q b) = do
    m ← qualified a q
    r ← lift (raises_by item.Signal (last_of q).place m)
    x ← with_brackets a p r b
    pure (p, x)
  raise a (s.ErrorRaise p q b) = do
    m ← qualified a q
    r ← lift (raises_by item.Error (last_of q).place m)
    x ← with_brackets a p r b
    pure (p, x)
  raise a (s.UnnamedError p) = pure (p, Results (t.Raise t.TheUnnamed [] t.NoExprs 0 t.NoPhrase) [])

  pub with_brackets : Around → Place → Raises → s.MaybeBrackets → Check Reached
  with_brackets a p r s.NoBrackets = do
    _ ← ensure (nat_eq 0 (length r.head.takes)) WrongCount p
    _ ← spend (words_of_fields r.head.gives)
    pure (raised r (in_order t.NoExprs) t.NoPhrase)
  with_brackets a p r (s.WithBrackets (s.BracketsOf q items ph)) = do
    _ ← spend (words_of_fields r.head.gives)
    x ← arguments a r.head.takes q items
    w ← phrase a ph
    pure (raised r x w)

  -- Catch phrases.
  pub phrase : Around → s.Phrase → Check t.Phrase
  phrase a s.NoPhrase = pure t.NoPhrase
  phrase a (s.Catch p xs) = arms a xs >>= (λ ys. pure (t.Catch a.statement ys))

  pub arms : Around → s.Arms → Check t.Arms
  arms a s.NoArms = pure t.NoArms
  arms a (s.AndArm labels body rest) = do
    ls ← arm_labels a labels
    x ← enter_arm a ls
    b ← in_scope x.scope (statement (in_arm ls a) body)
    more ← arms a rest
    pure (t.AndArm (map label_of ls) x.first x.count b more)

  -- Types.
  pub type_exp : Around → s.TypeExp → Check PlainType
  type_exp a (s.Integer p) = pure v.Integer
  type_exp a (s.Cardinal p) = pure v.Cardinal
  type_exp a (s.LongInteger p) = pure v.LongInteger
  type_exp a (s.LongCardinal p) = pure v.LongCardinal
  type_exp a (s.Boolean p) = pure v.Boolean
  type_exp a (s.Character p) = pure v.Character
  type_exp a (s.String p) = pure v.String
  type_exp a (s.Called q) = type_named a q
  type_exp a (s.Enumeration p xs) = do
    _ ← elements a (v.Enumeration (origin a.known p) (names_of xs)) 0 xs
    _ ← lift (few p xs)
    pure (v.Enumeration (origin a.known p) (names_of xs))
  type_exp a (s.Subrange b i) = do
    base ← word_base a b
    of_interval a base i
  type_exp a (s.Array p i e) = do
    j ← type_exp a i
    _ ← ensure (is_index j) TypeMismatch (first_of_type i)
    k ← type_exp a e
    lift (limited p (v.Array j k))
  type_exp a (s.Record p fs) = do
    x ← fields_of a fs
    lift (limited p (v.Record (origin a.known p) (parts_of x)))

  pub fields_of : Around → s.FieldList → Check (List PlainField)
  fields_of a (s.WithNames fs) = named_fields a [] fs
  fields_of a (s.Unnamed ts) = unnamed_fields a ts

  pub named_fields : Around → List (List ℕ) → s.NamedFields → Check (List PlainField)
  named_fields a before s.NoFields = pure []
  named_fields a before (s.AndFields xs e rest) = do
    _ ← lift (distinct before xs)
    k ← type_exp a e
    fs ← named_fields a (before ++ names_of xs) rest
    pure (each_of k xs ++ fs)

  pub unnamed_fields : Around → s.TypeExps → Check (List PlainField)
  unnamed_fields a s.NoTypes = pure []
  unnamed_fields a (s.AndType e es) = do
    k ← type_exp a e
    fs ← unnamed_fields a es
    pure (record { name = None; kind = k } ∷ fs)

  pub of_interval : Around → Option PlainType → s.Interval → Check PlainType
  of_interval a base (s.Between p open_low low high open_high) = do
    i ← check (in_constant (first low) a) (Free (first low)) low
    x ← lift (bound_of base (first low) i)
    m ← lift (bound (first low) x)
    j ← check (in_constant (first high) a) (Free (first high)) high
    y ← lift (bound_of base (first high) j)
    n ← lift (bound (first high) y)
    k ← lift (or_refuse (interval_base base x.kind m y.kind n) TypeMismatch p)
    lift (subrange p k open_low m n open_high)

  -- Statements.
  pub statement : Around → s.Statement → Check t.Stmt
  statement a (s.Null p) = pure t.Null
  statement a (s.Nested b) = block a b
  statement a (s.Assign l e) = whole a (s.left_place l) (in_left l || holds e) (λ a. do
    x ← target a l
    y ← check a (Into x.kind (first e)) e
    pure (t.Assign x.home x.suffixes y.value))
  statement a (s.Extract p ts e) = whole a p (in_targets ts || holds e) (λ a. do
    x ← check a (Several (first e)) e
    from ← lift (source (first e) x)
    ts ← targets a p (first e) from.fields ts
    pure (t.Extract from.of_record ts from.value))
  statement a (s.Call (s.LeftOf x ss)) = whole a x.place (in_left (s.LeftOf x ss)) (λ a. do
    m ← named a x
    r ← walk a Perform x.place (reached m) ss
    e ← performed x.place r.0 r.1
    pure (t.Perform e))
  statement a (s.RaiseStatement r) = whole a (s.raise_place r) (in_raise r) (λ a. do
    x ← raise a r
    e ← performed x.0 x.0 x.1
    pure (t.Perform e))
  statement a (s.If p e body other) = whole a p (holds e) (λ a. do
    x ← check a (Into v.Boolean (first e)) e
    b ← statement a body
    o ← otherwise a other
    pure (t.If x.value b o))
  statement a (s.Select p e cs other) = whole a p (holds e || in_cases cs) (λ a. do
    x ← check a (Free (first e)) e
    _ ← hide (held_words x)
    cs ← cases a (first e) x cs
    o ← otherwise a other
    pure (selected x (cs (t.Otherwise o))))
  statement a (s.Loop c p ph ss rs) = whole a (s.control_place c p) true (λ a. do
    x ← control a c
    w ← phrase (in_round (labels_of_repeats rs) a) ph
    bs ← statements (in_round (labels_of_repeats rs) a) ss
    l ← repeats a a.labelled [] false rs
    pure (looped x.count (t.LoopOf x.condition (t.Marked a.marked (t.Block w bs t.NoExits)) l.exits l.finished)))
  statement a (s.ExitLoop p) = lift (exit_loop a p)
  statement a (s.NextTurn p) = lift (next_round a p)
  statement a (s.Goto p x) = lift (go_to a p x)
  statement a (s.Return p s.NoItems) = lift (return a p)
  statement a (s.Return p (s.WithItems q items)) = whole a p (in_items items) (λ a. do
    j ← lift (return a p)
    x ← arguments a a.gives q items
    pure (returned a j x))
  statement a (s.Resume p s.NoItems) = do
    fs ← lift (resumed a p)
    _ ← ensure (nat_eq 0 (length fs)) WrongCount p
    pure (t.Resume [] t.NoExprs)
  statement a (s.Resume p (s.WithItems q items)) = whole a p (in_items items) (λ a. do
    fs ← lift (resumed a p)
    x ← arguments a fs q items
    pure (t.Resume x.places x.values))
  statement a (s.Reject p) = lift (reject a p)
  statement a (s.Retry p) = lift (retry a p)
  statement a (s.Continue p) = lift (continue a p)

  pub otherwise : Around → s.MaybeStatement → Check t.Stmt
  otherwise a s.NoStatement = pure t.Null
  otherwise a (s.OneStatement body) = statement a body

  pub statements : Around → s.Statements → Check t.Stmts
  statements a s.NoStatements = pure t.NoStmts
  statements a (s.AndStatement body rest) = do
    b ← statement a body
    bs ← statements a rest
    pure (t.AndStmt b bs)

  -- a variable into which is stored
  pub target : Around → s.Left → Check Target
  target a (s.LeftOf x ss) = do
    m ← named a x
    r ← walk a Store x.place (reached m) ss
    stored r.0 r.1

  -- the targets of an extractor at the bracket p, whose right side begins at q
  pub targets : Around → Place → Place → List PlainField → s.Targets → Check t.Targets
  targets a p q fs s.NoTarget = pure t.NoTargets
  targets a p q fs (s.TargetsInOrder ls) = do
    _ ← ensure (nat_eq (count_lefts ls) (length fs)) WrongCount p
    targets_in_order a q 0 0 fs ls
  targets a p q fs (s.TargetsByKey ls) = do
    _ ← ensure (are_fields fs (keys_of_lefts ls)) WrongCount p
    targets_by_key a q fs [] ls

  pub targets_in_order : Around → Place → ℕ → ℕ → List PlainField → s.Lefts → Check t.Targets
  targets_in_order a q n offset (f ∷ fs) (s.AndLeft l ls) = do
    x ← target a l
    put ← lift (extracted q (record { number = n; offset = offset; kind = f.kind }) x)
    ts ← targets_in_order a q (n + 1) (offset + words_of f.kind) fs ls
    pure (put ts)
  targets_in_order a q n offset _ _ = pure t.NoTargets

  pub targets_by_key : Around → Place → List PlainField → List (List ℕ) → s.KeyedLefts → Check t.Targets
  targets_by_key a q fs taken s.NoKeyedLefts = pure t.NoTargets
  targets_by_key a q fs taken (s.AndKeyedLeft key l ls) = do
    _ ← ensure (not (has key.name taken)) TwiceDeclared key.place
    f ← lift (or_refuse (field_named fs key) WrongCount key.place)
    x ← target a l
    put ← lift (extracted q f x)
    ts ← targets_by_key a q fs (key.name ∷ taken) ls
    pure (put ts)

  -- of a selector that begins at l
  pub cases : Around → Place → Typed → s.Cases → Check (t.Cases → t.Cases)
  cases a l x s.NoCases = pure (λ cs. cs)
  cases a l x (s.AndCase ts body rest) = do
    ts ← tests a l x ts
    b ← statement a body
    more ← cases a l x rest
    pure (λ cs. t.AndCase ts b (more cs))

  -- the selector is no literal of a test; the right side may be one that takes its type
  pub tests : Around → Place → Typed → s.Tests → Check t.Tests
  tests a l x s.NoTests = pure t.NoTests
  tests a l x (s.Value e ts) = do
    y ← check a (Free (first e)) e
    put ← lift (tested false t.Equal (first e) l x (first e) y)
    _ ← spend (longer (sort_of x.kind) false (sort_of y.kind) y.literal)
    ts ← tests a l x ts
    pure (put ts)
  tests a l x (s.Compared b o p e ts) = do
    y ← check a (Free (first e)) e
    put ← lift (tested b o p l x (first e) y)
    _ ← spend (longer (sort_of x.kind) false (sort_of y.kind) y.literal)
    ts ← tests a l x ts
    pure (put ts)
  tests a l x (s.Inside b p i ts) = do
    ends ← interval a i
    put ← lift (tested_inside b p l x ends)
    _ ← spend (longer_bounds x ends)
    ts ← tests a l x ts
    pure (put ts)

  -- Loops: the control stands outside the loop's ENABLE, and does not see its labels.
  pub control : Around → s.Control → Check Controlled
  control a (s.ControlOf n c) = do
    x ← counted a n
    y ← condition a c
    pure (record { count = x; condition = y })

  pub counted : Around → s.Count → Check Counted
  counted a s.NoCount = pure NotCounted
  counted a (s.For p x down i) = do
    m ← named a x
    c ← lift (counter x.place m)
    ends ← interval a i
    r ← lift (rounds (first_of_interval i) ends)
    g ← lift (given (first_of_interval i) c r)
    _ ← hide 3
    pure (By g down r)
  counted a (s.Through p i) = do
    ends ← interval a i
    r ← lift (rounds (first_of_interval i) ends)
    _ ← hide 3
    pure (By t.NoVariable false r)

  pub condition : Around → s.Condition → Check t.Condition
  condition a s.Always = pure t.Always
  condition a (s.While p e) = check a (Into v.Boolean (first e)) e >>= (λ x. pure (t.While x.value))
  condition a (s.Until p e) = check a (Into v.Boolean (first e)) e >>= (λ x. pure (t.Until x.value))

  pub repeats : Around → ℕ → List (List ℕ) → Bool → s.Repeats → Check Left
  repeats a n taken finished s.NoRepeats = pure (record { exits = t.NoExits; finished = t.NoFinish })
  repeats a n taken finished (s.AndRepeat ls body rs) = do
    _ ← lift (new_labels taken finished ls)
    b ← statement a body
    l ← repeats a (n + length (labels_of ls)) (taken ++ names_of (labels_of ls)) (finished || is_finished ls) rs
    pure (also_left ls n b l)

  pub exits : Around → ℕ → List (List ℕ) → s.Exits → Check t.Exits
  exits a n taken s.NoExits = pure t.NoExits
  exits a n taken (s.AndExit xs body es) = do
    _ ← lift (distinct taken xs)
    b ← statement a body
    es ← exits a (n + length xs) (taken ++ names_of xs) es
    pure (t.AndExit (numbers_from n xs) b es)

  -- Blocks: the names of a block are not visible in its EXITS, and its labels neither.
  pub block : Around → s.Block → Check t.Stmt
  block a (s.BlockOf p ph locals ss es) = numbered a (is_catch ph) (λ a. do
    x ← in_scope nothing (do
      hs ← heads (with_labels (labels_of_exits es) (inside a)) locals
      w ← phrase (with_labels (labels_of_exits es) (inside a)) ph
      ds ← initials (with_labels (labels_of_exits es) (inside a)) locals hs
      bs ← statements (with_labels (labels_of_exits es) (inside a)) ss
      pure (held w ds bs))
    es ← exits a a.labelled [] es
    pure (t.Block x.phrase x.statements es))

  pub heads : Around → s.Locals → Check (List Headed)
  heads a s.NoLocals = pure []
  heads a (s.AndLocal xs d rest) = do
    h ← head a xs d
    hs ← heads a rest
    pure (h ∷ hs)

  -- the head of a declaration of a type, variables or a constant
  pub head : Around → List Identifier → s.PlainItem → Check Headed
  head a xs (s.TypeIs e) = within_operands 0 (first_name xs) (do
    _ ← announce xs
    k ← type_exp a e
    _ ← settle xs (map (λ x. TypeName k) xs)
    pure Nothing)
  head a xs (s.Variable e) = within_operands 0 (first_name xs) (do
    _ ← announce xs
    k ← type_exp a e
    declare a xs k 0)
  head a xs (s.Initial e x) = do
    _ ← announce xs
    k ← measured (type_exp a e)
    declare a xs k.0 k.1
  head a xs (s.Constant e x) = within_operands 0 (first_name xs) (do
    _ ← announce xs
    k ← type_exp a e
    y ← check (in_constant (first x) a) (Into k (first x)) x
    m ← lift (constant_meaning a k x (first x) y.value)
    _ ← settle xs (map (λ x. m) xs)
    pure Nothing)

  -- what the declarations do when they are reached
  pub initials : Around → s.Locals → List Headed → Check t.Stmts
  initials a (s.AndLocal xs d rest) (h ∷ hs) = do
    put ← initial a xs d h
    ss ← initials a rest hs
    pure (put ss)
  initials a _ _ = pure t.NoStmts

  pub initial : Around → List Identifier → s.PlainItem → Headed → Check (t.Stmts → t.Stmts)
  initial a xs (s.Variable e) (Variables homes k seen words) = pure (t.AndStmt (t.Declare homes (kind_of k)))
  initial a xs (s.Initial e x) (Variables homes k seen words) = seeing seen (given_initial a xs words (holds x) (λ a. do
    y ← check a (Into k (first x)) x
    pure (t.DeclareAs homes (kind_of k) y.value)))
  initial a xs d h = pure (λ ss. ss)
