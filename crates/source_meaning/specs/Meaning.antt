-- What each construct means, one row for each (Language Manual, chapters 2 to 5 and 8; turns are a rule of this project).
-- A further round of a loop, a statement that is run again, a called body and an arm are run through `next`.
use Rattle.std.specs.Prelude.{ℕ, zero, suc, ◌+◌, ◌-◌, List, [], ◌∷◌, map, Bool, true, false, not, ◌||◌, nat_eq, length}
use Rattle.mesa_types.specs.Typed.{point_of, At, Leave, Count, Endless, Counting, Expr, Number, LongNumber, Literal, Variable, FieldOf, LengthOf, ByteOf, Checked, Converted, Operate, OperateLong, Negate, NegateLong, Relate, RelateLong, Within, WithinLong, Not, AllOf, SomeOf, Construct, Call, Raise, Exprs, NoExprs, AndExpr, Suffixes, NoSuffix, Field, Index, Operations, NoOperation, Then, Between, Stmt, Null, Marked, Declare, DeclareAs, Assign, Extract, Perform, If, Select, SelectLong, Block, Repeat, For, Jump, ReturnWith, Resume, Reject, Retry, Continue, Stmts, NoStmts, AndStmt, Targets, NoTargets, AndTarget, AndConverted, Cases, Otherwise, AndCase, Tests, NoTests, IfRelated, IfWithin, IfRelatedLong, IfWithinLong, Exits, NoExits, AndExit, Loop, LoopOf, Finish, NoFinish, Finished, Condition, Always, While, Until}
use Rattle.mesa_types.specs.declared.typed_parts.Part.{Part}
use Rattle.mesa_types.specs.declared.typed_parts.Conversion.{Conversion}
use Rattle.mesa_types.specs.declared.typed_parts.Conversion.TheVariants.{Kept, Widened, Narrowed, InCommon}
use Rattle.mesa_types.specs.declared.typed_parts.Given.{Given}
use Rattle.mesa_types.specs.declared.typed_parts.Given.TheVariants.{NoVariable, GivenTo}
use Rattle.source_meaning.specs.Value.{Value, Word, Long, Text, Many, Values, NoValues, AndValue, word, long, bytes, parts, nth, zero_of, part_at, path_of, arrange}
use Rattle.mesa_types.specs.Operators.{wrap, unshifted, opposite, differ, related, first_of, beyond, lies_in, truth, is_true, checked, tried, indexed, byte_at}
use Rattle.mesa_types.specs.Longs.{opposite_long, related_long, lies_in_long, tried_long, converted}
use Rattle.source_meaning.specs.Program.{Program, string_of, callee_of, raised_of}
use Rattle.source_meaning.specs.State.{Normal, Gives, Go, Resumed, Rejected, Retried, Continued, Spent, Run, give, give_value, give_word, give_long, look, change, spend, branch, on_values, on_value, on_word, on_long, on_normal, dropped, marked, labelled}
use Rattle.source_meaning.specs.Variables.{Where, fetch, store, store_part, store_all, store_from}
use Rattle.source_meaning.specs.Signals.{Next, catching, raise, on_tried, through}
use Rattle.source_meaning.specs.Calls.{call}

unfoldable pub has_label : ℕ → List ℕ → Bool
has_label l [] = false
has_label l (x ∷ xs) = nat_eq l x || has_label l xs

unfoldable pub fields_in : List Part → List ℕ
fields_in ps = map (λ (p : Part). p.field) ps

-- Conversions: the number that one takes of a value, and the value that it gives.

unfoldable pub number_for : Conversion → Value → ℕ
number_for Kept v = long v
number_for (Widened from to) v = word v
number_for (Narrowed from to r) v = long v
number_for InCommon v = long v

unfoldable pub value_by : Conversion → ℕ → Value
value_by Kept n = Long n
value_by (Widened from to) n = Long n
value_by (Narrowed from to r) n = Word n
value_by InCommon n = Long n

-- Counts of loops.

-- a round is left: its number is checked and given to the variable
unfoldable pub counted : Program → Next → Where → Count → Run → Run → Run
counted P next w Endless goes_on ended = goes_on
counted P next w (Counting g down zero n) goes_on ended = ended
counted P next w (Counting NoVariable down (suc left) n) goes_on ended = goes_on
counted P next w (Counting (GivenTo h r) down (suc left) n) goes_on ended =
    on_tried P next w (checked r n) λ x. change (store w h (Word x)) goes_on

unfoldable pub one_round_less : Count → Count
one_round_less Endless = Endless
one_round_less (Counting g down zero n) = Counting g down zero n
one_round_less (Counting g true (suc left) n) = Counting g true left (wrap (n + 65535))
one_round_less (Counting g false (suc left) n) = Counting g false left (wrap (n + 1))

-- from the first number of an interval, and the one past its last, both plus 32768
unfoldable pub rounds_of : Given → (down : Bool) → (first past : ℕ) → Count
rounds_of g true first past = Counting g true (past - first) (unshifted (past - 1))
rounds_of g false first past = Counting g false (past - first) (unshifted first)

unfoldable mutual
  pub value : Program → Next → Expr → Where → Run
  value P next (Number n) w = give_word n
  value P next (LongNumber n) w = give_long n
  value P next (Literal k) w = give_value (Text (string_of P w.instance k))
  value P next (Variable h s words) w = on_values (path P next s w) λ p. look λ st. give_value (part_at (path_of p) (fetch w h st))
  value P next (FieldOf e ps) w = on_value (value P next e w) λ v. give_value (part_at (fields_in ps) v)
  value P next (LengthOf e) w = on_value (value P next e w) λ v. give_word (length (bytes v))
  value P next (ByteOf e i) w =
      on_value (value P next e w) λ v. on_word (value P next i w) λ n. on_tried P next w (byte_at (bytes v) n) λ b. give_word b
  value P next (Checked r e) w = on_word (value P next e w) λ x. on_tried P next w (checked r x) λ y. give_word y
  value P next (Converted c e) w =
      on_value (value P next e w) λ v. on_tried P next w (converted c (number_for c v)) λ x. give_value (value_by c x)
  value P next (Operate e os) w = on_word (value P next e w) λ x. operations P next os w x
  value P next (OperateLong e os) w = on_long (value P next e w) λ x. long_operations P next os w x
  value P next (Negate e) w = on_word (value P next e w) λ x. give_word (opposite x)
  value P next (NegateLong e) w = on_long (value P next e w) λ x. give_long (opposite_long x)
  value P next (Relate b r d e) w =
      on_word (value P next d w) λ x. on_word (value P next e w) λ y. give_word (truth (related r b x y))
  value P next (RelateLong b r d e) w =
      on_long (value P next d w) λ x. on_long (value P next e w) λ y. give_word (truth (related_long r b x y))
  value P next (Within bs e (Between c p d q)) w =
      on_word (value P next e w) λ x. on_word (value P next c w) λ y. on_word (value P next d w) λ z.
      give_word (truth (lies_in bs x p y q z))
  value P next (WithinLong bs e (Between c p d q)) w =
      on_long (value P next e w) λ x. on_long (value P next c w) λ y. on_long (value P next d w) λ z.
      give_word (truth (lies_in_long bs x p y q z))
  value P next (Not e) w = on_word (value P next e w) λ x. give_word (truth (not (is_true x)))
  value P next (AllOf es) w = all_of P next es w
  value P next (SomeOf es) w = some_of P next es w
  value P next (Construct places es) w = on_values (values P next es w) λ vs. give_value (Many (arrange places vs))
  value P next (Call c places es words ph) w =
      on_values (values P next es w) λ vs.
      through next w ph (call P next (catching ph w) (callee_of P w.instance c) (arrange places vs))
  value P next (Raise r places es words ph) w =
      on_values (values P next es w) λ vs.
      through next w ph (raise P next (catching ph w) (raised_of P w.instance r) (arrange places vs))

  -- from left to right
  pub values : Program → Next → Exprs → Where → Run
  values P next NoExprs w = give (Gives NoValues)
  values P next (AndExpr e es) w =
      on_value (value P next e w) λ v. on_values (values P next es w) λ vs. give (Gives (AndValue v vs))

  -- AND and OR, by need
  pub all_of : Program → Next → Exprs → Where → Run
  all_of P next NoExprs w = give_word (truth true)
  all_of P next (AndExpr e es) w =
      on_word (value P next e w) λ x. branch (is_true x) (all_of P next es w) (give_word (truth false))

  pub some_of : Program → Next → Exprs → Where → Run
  some_of P next NoExprs w = give_word (truth false)
  some_of P next (AndExpr e es) w =
      on_word (value P next e w) λ x. branch (is_true x) (give_word (truth true)) (some_of P next es w)

  -- the places of the parts that the suffixes name; an index is checked when it has been evaluated
  pub path : Program → Next → Suffixes → Where → Run
  path P next NoSuffix w = give (Gives NoValues)
  path P next (Field n offset s) w = on_values (path P next s w) λ p. give (Gives (AndValue (Word n) p))
  path P next (Index r first n words e s) w =
      on_word (value P next e w) λ i. on_tried P next w (indexed r first n i) λ j.
      on_values (path P next s w) λ p. give (Gives (AndValue (Word j) p))

  -- the left operand is checked before the right one is evaluated
  pub operations : Program → Next → Operations → Where → ℕ → Run
  operations P next NoOperation w x = give_word x
  operations P next (Then r o e os) w x =
      on_tried P next w (checked r x) λ left. on_word (value P next e w) λ right.
      on_tried P next w (tried o left right) λ y. operations P next os w y

  -- over LONG numbers, in which nothing is checked
  pub long_operations : Program → Next → Operations → Where → ℕ → Run
  long_operations P next NoOperation w x = give_long x
  long_operations P next (Then r o e os) w x =
      on_long (value P next e w) λ right. on_tried P next w (tried_long o x right) λ y. long_operations P next os w y

-- each target is evaluated, its value checked or converted and stored, before the next
unfoldable pub targets : Program → Next → Targets → Where → Values → Run
targets P next NoTargets w vs = give Normal
targets P next (AndTarget part h s r ts) w vs =
    on_values (path P next s w) λ p. on_tried P next w (checked r (word (nth vs part.field))) λ x.
    change (store_part w h (path_of p) (nth vs part.field)) (targets P next ts w vs)
targets P next (AndConverted part h s c ts) w vs =
    on_values (path P next s w) λ p. on_tried P next w (converted c (number_for c (nth vs part.field))) λ x.
    change (store_part w h (path_of p) (value_by c x)) (targets P next ts w vs)

-- whether a test fits x, which is checked or made LONG when the test is reached
unfoldable pub tests : Program → Next → Tests → Where → ℕ → Run
tests P next NoTests w x = give_word (truth false)
tests P next (IfRelated r b o e ts) w x =
    on_tried P next w (checked r x) λ left. on_word (value P next e w) λ right.
    branch (related o b left right) (give_word (truth true)) (tests P next ts w x)
tests P next (IfWithin negated bs (Between c p d q) ts) w x =
    on_word (value P next c w) λ y. on_word (value P next d w) λ z.
    branch (differ negated (lies_in bs x p y q z)) (give_word (truth true)) (tests P next ts w x)
tests P next (IfRelatedLong c b o e ts) w x =
    on_tried P next w (converted c x) λ left. on_long (value P next e w) λ right.
    branch (related_long o b left right) (give_word (truth true)) (tests P next ts w x)
tests P next (IfWithinLong negated conversion bs (Between c p d q) ts) w x =
    on_tried P next w (converted conversion x) λ left. on_long (value P next c w) λ y. on_long (value P next d w) λ z.
    branch (differ negated (lies_in_long bs left p y q z)) (give_word (truth true)) (tests P next ts w x)

unfoldable pub condition : Program → Next → Condition → Where → Run
condition P next Always w = give_word (truth true)
condition P next (While e) w = value P next e w
condition P next (Until e) w = on_word (value P next e w) λ x. give_word (truth (not (is_true x)))

unfoldable mutual
  pub does : Program → Next → Stmt → Where → Run
  does P next Null w = give Normal
  does P next (Marked n s) w = marked w.frame n (does P next s w) (λ σ. next (Marked n s) w σ)
  does P next (Declare hs k) w = change (store_all w hs (zero_of k)) (give Normal)
  does P next (DeclareAs hs k e) w =
      change (store_all w hs (zero_of k)) (on_value (value P next e w) λ v. change (store_all w hs v) (give Normal))
  does P next (Assign h s e) w =
      on_values (path P next s w) λ p. on_value (value P next e w) λ v. change (store_part w h (path_of p) v) (give Normal)
  does P next (Extract true ts e) w = on_value (value P next e w) λ v. targets P next ts w (parts v)
  does P next (Extract false ts e) w = on_values (value P next e w) λ vs. targets P next ts w vs
  does P next (Perform e) w = dropped (value P next e w)
  does P next (If e s t) w = on_word (value P next e w) λ x. branch (is_true x) (does P next s w) (does P next t w)
  does P next (Select e cs) w = on_word (value P next e w) λ x. cases P next cs w x
  does P next (SelectLong e cs) w = on_long (value P next e w) λ x. cases P next cs w x
  does P next (Block ph ss es) w =
      labelled w.frame (through next w ph (sequence P next ss (catching ph w))) λ l. exits P next es w l
  does P next (Repeat c l) w = loop P next l w c
  does P next (For g down b (Between c p d q) l) w =
      on_word (value P next c w) λ x. on_word (value P next d w) λ y.
      loop P next l w (rounds_of g down (first_of b p x) (beyond b q y))
  does P next (Jump arms goal) w = give (Go w.frame (point_of goal))
  does P next (ReturnWith arms first places es) w =
      on_values (values P next es w) λ vs. change (store_from w first (arrange places vs)) (give (Go w.frame Leave))
  does P next (Resume places es) w = on_values (values P next es w) λ vs. give (Resumed (arrange places vs))
  does P next Reject w = give Rejected
  does P next (Retry n) w = give (Retried n)
  does P next (Continue n) w = give (Continued n)

  pub sequence : Program → Next → Stmts → Where → Run
  sequence P next NoStmts w = give Normal
  sequence P next (AndStmt s ss) w = on_normal (does P next s w) (sequence P next ss w)

  -- the first case with a test that fits x
  pub cases : Program → Next → Cases → Where → ℕ → Run
  cases P next (Otherwise s) w x = does P next s w
  cases P next (AndCase ts s cs) w x =
      on_word (tests P next ts w x) λ b. branch (is_true b) (does P next s w) (cases P next cs w x)

  -- the statement of a label
  pub exits : Program → Next → Exits → Where → ℕ → Run
  exits P next NoExits w l = give (Go w.frame (At l))
  exits P next (AndExit ls s es) w l = branch (has_label l ls) (does P next s w) (exits P next es w l)

  -- a round of a loop: the count, the condition, the body; then a turn is spent for the next round
  pub loop : Program → Next → Loop → Where → Count → Run
  loop P next (LoopOf c s es fin) w n =
      labelled w.frame
      (counted P next w n
      (on_word (condition P next c w) λ b. branch (is_true b)
      (on_normal (does P next s w) (spend (λ σ. next (Repeat (one_round_less n) (LoopOf c s es fin)) w σ)))
      (finish P next fin w))
      (finish P next fin w))
      λ l. exits P next es w l

  -- where the control has ended the loop
  pub finish : Program → Next → Finish → Where → Run
  finish P next NoFinish w = give Normal
  finish P next (Finished s) w = does P next s w

-- with so much fuel, which above the number of turns never shows
unfoldable pub meaning : Program → ℕ → Next
meaning P zero s w σ = give Spent σ
meaning P (suc n) s w σ = does P (meaning P n) s w σ
