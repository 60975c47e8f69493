-- The block of each construct of the typed tree (rule of this project). P is the procedure, of which only what its module imports, the
-- globals and its own variables are used; z is the slot of the first hidden word. A comparison, AND, OR or NOT that is a
-- condition jumps at once; what is a value has no jump but those of AND and OR. Control falls into what follows, where nothing stands
-- between.
use Rattle.std.specs.Prelude.{ℕ, suc, ◌+◌, ◌-◌, List, [], ◌∷◌, ◌++◌, Bool, true, false, not, map, if◌then◌else◌}
use Rattle.mesa_types.specs.declared.faces.Import.{Import}
use Rattle.mesa_types.specs.declared.typed_parts.Base.{Base}
use Rattle.mesa_types.specs.declared.typed_parts.Bases.{Bases}
use Rattle.mesa_types.specs.declared.typed_parts.Part.{Part}
use Rattle.mesa_base.specs.declared.relation.Relation.{Relation}
use Rattle.mesa_types.specs.Typed.{Kinds, Start, After, Leave, point_of, Expr, Number, LongNumber, Literal, Variable, FieldOf, LengthOf, ByteOf, Checked, Converted, Operate, OperateLong, Negate, NegateLong, Relate, RelateLong, Within, WithinLong, Not, AllOf, SomeOf, Construct, Call, Raise, Exprs, NoExprs, AndExpr, Suffixes, NoSuffix, Field, Index, Operations, NoOperation, Then, Interval, Between, Phrase, NoPhrase, Catch, Arms, NoArms, AndArm, Stmt, Null, Marked, Declare, DeclareAs, Assign, Extract, Perform, If, Select, SelectLong, Block, Repeat, For, Jump, ReturnWith, Resume, Reject, Retry, Continue, Stmts, NoStmts, AndStmt, Targets, NoTargets, AndTarget, AndConverted, Cases, Otherwise, AndCase, Tests, NoTests, IfRelated, IfWithin, IfRelatedLong, IfWithinLong, Exits, NoExits, AndExit, Loop, LoopOf, Finish, NoFinish, Finished, Condition, Always, While, Until}
use Rattle.mesa_types.specs.Operators.{differ}
use Rattle.mesa_types.specs.Shapes.{words_in}
use Rattle.mesa_types.specs.Counts.{hidden, hidden_expr, hidden_exprs, hidden_suffixes, hidden_interval, hidden_phrase, hidden_stmts, hidden_targets, hidden_tests, hidden_exits, hidden_condition, words_of, words_given, last_words, words_before, words_after}
use Rattle.code_forms.specs.declared.instruction.Instruction.{Instruction}
use Rattle.code_forms.specs.declared.instruction.Instruction.TheVariants as i
use Rattle.code_rules.specs.CodeFor.{words_before_last, words_taken, words_over}
use Rattle.code_rules.specs.Links.{call_code, raise_code, label_code}
use Rattle.code_rules.specs.Loops.{Counter, NoCounter, CountedIn, start_code, give_code, next_slot, step_code}
use Rattle.code_rules.specs.OwnCode.{pop_code, lift_code, field_code, long_code, check_code, conversion_code, index_code, comparison, long_comparison, is_opposite, relation_code, long_relation_code, operator_code, long_operator_code, within_code, long_within_code, arrange_code}
use Rattle.code_rules.specs.Reading.{Coded, scratch}
use Rattle.code_rules.specs.Slots.{words_from, local_slot, load, store, load_within, store_within, fields_of, zero_code, spread_code, sizes}
use Rattle.code_blocks.specs.Blocks as tree
use Rattle.code_blocks.specs.Own.{alone}
use Rattle.code_blocks.specs.Blocks.{Statement, Labels, Here, Anyhow, Where, Does, Calls, Ends, Out, Goes, Rounds, Enables, ArmBlocks, NoArmBlock, AndArmBlock, nothing, ◌▹◌}

-- a procedure whose code is not said
abbrev pub without_code : List Import → (globals locals : Kinds) → Coded
without_code imports globals locals = record { imports = imports; globals = globals; locals = locals; routine = alone; entries = [] }

-- an expression's value, and the jump to the end of a part around by whether it is true or not
pub record Forms : Type 0 where
  pub value : tree.Block
  pub jump : (sense : Bool) → (part : ℕ) → tree.Block

abbrev pub by_value : tree.Block → Forms
by_value block = record { value = block; jump = λ sense part. block ▹ Out (Where sense) part }

-- jumps that lead to the end of a part; or, turned, past them, and what comes past them not goes there
abbrev pub turned : Bool → (ℕ → tree.Block) → ℕ → tree.Block
turned false jumps part = jumps part
turned true jumps part = Ends (Here 0) (jumps 0 ▹ Out Anyhow (suc part))

-- the value of jumps: the second word where they lead past the first
abbrev pub answer : tree.Block → (word jumped : ℕ) → tree.Block
answer jumps word jumped = Ends (Here 1) (Ends (Here 0) (jumps ▹ Does (i.Lit word ∷ []) ▹ Out Anyhow 1) ▹ Does (i.Lit jumped ∷ []))

abbrev pub has_index : Suffixes → Bool
has_index NoSuffix = false
has_index (Field n offset s) = has_index s
has_index (Index r first n words e s) = true

-- with an index the offset is on the operand stack first
abbrev pub at_element : Suffixes → (path : tree.Block) → tree.Block
at_element s path = Does (i.Lit (fields_of s) ∷ []) ▹ path

abbrev pub within_of : (t : ℕ) → Bases → Interval → List Instruction
within_of t bases (Between x p y q) = within_code t bases p q

abbrev pub long_within_of : (t : ℕ) → Bases → Interval → List Instruction
long_within_of t bases (Between x p y q) = long_within_code t bases p q

abbrev pub start_of : (z : ℕ) → Base → Interval → List Instruction
start_of z base (Between x p y q) = start_code z base p q

-- out to the end of a part where a relation holds, or where it does not
abbrev pub where_related : Base → Relation → Bool → (part : ℕ) → tree.Block
where_related base o sense part = Does (comparison base o) ▹ Out (Where (differ (is_opposite o) sense)) part

abbrev pub where_long_related : Base → Relation → Bool → (part : ℕ) → tree.Block
where_long_related base o sense part = Does (long_comparison base o) ▹ Out (Where (differ (is_opposite o) sense)) part

abbrev pub head_code : Counter → tree.Block
head_code NoCounter = nothing
head_code (CountedIn z g down) = Does (i.LoadL (z + 2) 1 ∷ []) ▹ Out (Where false) 0

abbrev pub gives_next : Coded → Counter → tree.Block
gives_next P NoCounter = nothing
gives_next P (CountedIn z g down) = Does (give_code P g (next_slot z down))

-- Where nothing follows up to the end, control falls there.

abbrev pub past_else : Stmt → (part : ℕ) → tree.Block
past_else Null part = nothing
past_else _ part = Out Anyhow part

abbrev pub past_cases : Cases → (part : ℕ) → tree.Block
past_cases (Otherwise s) part = past_else s part
past_cases (AndCase ts s cs) part = Out Anyhow part

abbrev pub past_exits : Exits → (part : ℕ) → tree.Block
past_exits NoExits part = nothing
past_exits (AndExit ls s es) part = Out Anyhow part

abbrev pub enabled : ArmBlocks → tree.Block → tree.Block
enabled NoArmBlock block = block
enabled (AndArmBlock labels slot words arm arms) block = Enables (AndArmBlock labels slot words arm arms) block

-- a test that is the last one leads past the case where it fails, each other one to the case where it fits
abbrev pub is_last : Tests → Bool
is_last NoTests = true
is_last (IfRelated r base o e ts) = false
is_last (IfWithin negated bases range ts) = false
is_last (IfRelatedLong conversion base o e ts) = false
is_last (IfWithinLong negated conversion bases range ts) = false

abbrev pub if_last : Tests → ℕ
if_last ts = if is_last ts then 1 else 0

-- the tests of a case, where part 0 ends before its statement, and that, where part 0 ends behind it
abbrev pub a_case : (tests statement past : tree.Block) → tree.Block
a_case tests statement past = Ends (Here 0) (Ends (Here 0) tests ▹ statement ▹ past)

-- what an endless loop without a count would do at its end is never done
abbrev pub is_endless : Counter → Condition → Bool
is_endless NoCounter Always = true
is_endless _ _ = false

abbrev pub unless : Bool → tree.Block → tree.Block
unless true block = nothing
unless false block = block

abbrev mutual
  pub forms : Coded → (z : ℕ) → Expr → Forms
  forms P z (Number n) = by_value (Does (i.Lit n ∷ []))
  forms P z (LongNumber n) = by_value (Does (long_code n))
  forms P z (Literal k) = by_value (Does (i.Str (suc k) ∷ []))
  forms P z (Variable h s words) = by_value (
      if has_index s then at_element s (path P z s ▹ Does (load_within P h words ∷ [])) else Does (load P h (fields_of s) words ∷ []))
  forms P z (FieldOf e parts) = by_value (
      (forms P z e).value
      ▹ Does (field_code (words_before_last parts) (last_words parts) (words_of e - (words_before_last parts + last_words parts))))
  forms P z (LengthOf e) = by_value ((forms P z e).value ▹ Does (i.StrLen ∷ []))
  forms P z (ByteOf e index) = by_value ((forms P z e).value ▹ (forms P (z + hidden_expr e) index).value ▹ Does (i.StrAt ∷ []))
  forms P z (Checked r e) = by_value ((forms P z e).value ▹ Does (check_code r))
  forms P z (Converted conversion e) = by_value ((forms P z e).value ▹ Does (conversion_code conversion))
  forms P z (Operate e os) = by_value ((forms P z e).value ▹ operations P (z + hidden_expr e) os)
  forms P z (OperateLong e os) = by_value ((forms P z e).value ▹ long_operations P (z + hidden_expr e) os)
  forms P z (Negate e) = by_value ((forms P z e).value ▹ Does (i.Neg ∷ []))
  forms P z (NegateLong e) = by_value ((forms P z e).value ▹ Does (i.NegD ∷ []))
  forms P z (Relate base o d e) = record {
    value = (forms P z d).value ▹ (forms P (z + hidden_expr d) e).value ▹ Does (relation_code base o);
    jump = λ sense part. (forms P z d).value ▹ (forms P (z + hidden_expr d) e).value ▹ where_related base o sense part;
  }
  forms P z (RelateLong base o d e) = record {
    value = (forms P z d).value ▹ (forms P (z + hidden_expr d) e).value ▹ Does (long_relation_code base o);
    jump = λ sense part. (forms P z d).value ▹ (forms P (z + hidden_expr d) e).value ▹ where_long_related base o sense part;
  }
  forms P z (WithinLong bases e range) = by_value (
      (forms P z e).value ▹ bounds P (z + hidden_expr e) range ▹ Does (long_within_of (scratch P) bases range))
  forms P z (Within bases e range) = by_value (
      (forms P z e).value ▹ bounds P (z + hidden_expr e) range ▹ Does (within_of (scratch P) bases range))
  forms P z (Not e) = record {
    value = (forms P z e).value ▹ Does (i.Not ∷ []);
    jump = λ sense part. (forms P z e).jump (not sense) part;
  }
  forms P z (AllOf es) = record {
    value = answer (operands P z es false 0) 1 0;
    jump = λ sense part. turned sense (operands P z es false) part;
  }
  forms P z (SomeOf es) = record {
    value = answer (operands P z es true 0) 0 1;
    jump = λ sense part. turned (not sense) (operands P z es true) part;
  }
  forms P z (Construct places es) = by_value (values P z es ▹ Does (arrange_code places (sizes es)))
  forms P z (Call callee places es words ph) = by_value (
      values P z es ▹ Does (arrange_code places (sizes es))
      ▹ Calls (call_code P.imports callee) (words_given es) words (caught_by P (z + hidden_exprs es) ph))
  forms P z (Raise raised places es words ph) = by_value (
      values P z es ▹ Does (arrange_code places (sizes es))
      ▹ Calls (raise_code P.imports raised) (words_given es) words (caught_by P (z + hidden_exprs es) ph))

  pub values : Coded → (z : ℕ) → Exprs → tree.Block
  values P z NoExprs = nothing
  values P z (AndExpr e es) = (forms P z e).value ▹ values P (z + hidden_expr e) es

  -- out to the end of a part from the first operand that is true, or that is not
  pub operands : Coded → (z : ℕ) → Exprs → Bool → (part : ℕ) → tree.Block
  operands P z NoExprs sense part = nothing
  operands P z (AndExpr e es) sense part = (forms P z e).jump sense part ▹ operands P (z + hidden_expr e) es sense part

  pub bounds : Coded → (z : ℕ) → Interval → tree.Block
  bounds P z (Between x p y q) = (forms P z x).value ▹ (forms P (z + hidden_expr x) y).value

  pub operations : Coded → (z : ℕ) → Operations → tree.Block
  operations P z NoOperation = nothing
  operations P z (Then r o e os) =
      Does (check_code r) ▹ (forms P z e).value ▹ Does (operator_code (scratch P) o) ▹ operations P (z + hidden_expr e) os

  pub long_operations : Coded → (z : ℕ) → Operations → tree.Block
  long_operations P z NoOperation = nothing
  long_operations P z (Then r o e os) = (forms P z e).value ▹ Does (long_operator_code o) ▹ long_operations P (z + hidden_expr e) os

  pub path : Coded → (z : ℕ) → Suffixes → tree.Block
  path P z NoSuffix = nothing
  path P z (Field n offset s) = path P z s
  path P z (Index r first n words e s) = (forms P z e).value ▹ Does (index_code r first n words) ▹ path P (z + hidden_expr e) s

  pub caught_by : Coded → (z : ℕ) → Phrase → ArmBlocks
  caught_by P z NoPhrase = NoArmBlock
  caught_by P z (Catch statement arms) = arm_blocks P z arms

  pub arm_blocks : Coded → (z : ℕ) → Arms → ArmBlocks
  arm_blocks P z NoArms = NoArmBlock
  arm_blocks P z (AndArm labels first count s arms) =
      AndArmBlock (map (label_code P.imports) labels) (local_slot P first) (words_from P.locals first count) (block P z s)
      (arm_blocks P (z + hidden s) arms)

  pub block : Coded → (z : ℕ) → Stmt → tree.Block
  block P z Null = nothing
  block P z (Marked n s) = Ends (Statement n) (block P z s)
  block P z (Declare hs k) = Does (zero_code P hs (words_in k))
  block P z (DeclareAs hs k e) = Does (zero_code P hs (words_in k)) ▹ (forms P z e).value ▹ Does (spread_code P hs (words_in k))
  block P z (Assign h s e) =
      if has_index s
      then at_element s (path P z s ▹ (forms P (z + hidden_suffixes s) e).value ▹ Does (store_within P h (words_of e) ∷ []))
      else ((forms P z e).value ▹ Does (store P h (fields_of s) (words_of e) ∷ []))
  block P z (Extract of_record ts e) = (forms P (z + hidden_targets ts) e).value ▹ targets P z (words_of e) [] ts
  block P z (Perform e) = (forms P z e).value ▹ Does (pop_code (words_of e))
  block P z (If e s t) = Ends (Here 0) (
      Ends (Here 0) ((forms P z e).jump false 0 ▹ block P (z + hidden_expr e) s ▹ past_else t 1)
      ▹ block P (z + (hidden_expr e + hidden s)) t)
  block P z (Select e cs) = (forms P (z + 1) e).value ▹ selected P (z + (1 + hidden_expr e)) z 1 (words_of e) cs
  block P z (SelectLong e cs) = (forms P (z + 2) e).value ▹ selected P (z + (2 + hidden_expr e)) z 2 (words_of e) cs
  block P z (Block ph ss es) = Ends (Here 0) (
      exits P (z + (hidden_phrase ph + hidden_stmts ss)) es (
      enabled (caught_by P z ph) (blocks P (z + hidden_phrase ph) ss) ▹ past_exits es 0))
  block P z (Repeat c l) = loop P z NoCounter l
  block P z (For g down base range l) =
      bounds P (z + 3) range ▹ Does (start_of z base range) ▹ loop P (z + (3 + hidden_interval range)) (CountedIn z g down) l
  block P z (Jump arms goal) = Goes arms (point_of goal)
  block P z (ReturnWith arms first places es) =
      values P z es ▹ Does (arrange_code places (sizes es) ++ i.StoreL (local_slot P first) (words_given es) ∷ []) ▹ Goes arms Leave
  block P z (Resume places es) = values P z es ▹ Does (arrange_code places (sizes es) ++ i.Resume (words_given es) ∷ [])
  block P z Reject = Does (i.ArmEnd ∷ [])
  block P z (Retry n) = Goes 1 (Start n)
  block P z (Continue n) = Goes 1 (After n)

  pub blocks : Coded → (z : ℕ) → Stmts → tree.Block
  blocks P z NoStmts = nothing
  blocks P z (AndStmt s ss) = block P z s ▹ blocks P (z + hidden s) ss

  pub targets : Coded → (z all : ℕ) → (taken : List Part) → Targets → tree.Block
  targets P z all taken NoTargets = Does (pop_code (all - words_taken taken))
  targets P z all taken (AndTarget p h s r ts) =
      if has_index s
      then at_element s (
      path P z s ▹ Does (lift_code p.words (suc (words_over all taken p)) ++ (check_code r ++ store_within P h p.words ∷ []))
      ▹ targets P (z + hidden_suffixes s) all (p ∷ taken) ts)
      else (
      Does (lift_code p.words (words_over all taken p) ++ (check_code r ++ store P h (fields_of s) p.words ∷ []))
      ▹ targets P z all (p ∷ taken) ts)
  targets P z all taken (AndConverted p h s conversion ts) =
      if has_index s
      then at_element s (
      path P z s
      ▹ Does (lift_code p.words (suc (words_over all taken p)) ++ (conversion_code conversion ++ store_within P h (words_after conversion) ∷ []))
      ▹ targets P (z + hidden_suffixes s) all (p ∷ taken) ts)
      else (
      Does (lift_code p.words (words_over all taken p) ++ (conversion_code conversion ++ store P h (fields_of s) (words_after conversion) ∷ []))
      ▹ targets P z all (p ∷ taken) ts)

  -- a selector of so many words is on the operand stack; where it is tested it is held in slots from x on, so many
  pub selected : Coded → (z x held words : ℕ) → Cases → tree.Block
  selected P z x held words (Otherwise s) = Does (pop_code words) ▹ block P z s
  selected P z x held words (AndCase ts s cs) =
      Does (i.StoreL x held ∷ [])
      ▹ Ends (Here 0) (
      a_case (tests P z x ts) (block P (z + hidden_tests ts) s) (past_cases cs 1) ▹ cases P (z + (hidden_tests ts + hidden s)) x cs)

  -- the innermost part around ends behind the last case
  pub cases : Coded → (z x : ℕ) → Cases → tree.Block
  cases P z x (Otherwise s) = block P z s
  cases P z x (AndCase ts s cs) =
      a_case (tests P z x ts) (block P (z + hidden_tests ts) s) (past_cases cs 1) ▹ cases P (z + (hidden_tests ts + hidden s)) x cs

  -- a test that fits leads to the end of part 0; where none does, control goes to that of part 1
  pub tests : Coded → (z x : ℕ) → Tests → tree.Block
  tests P z x NoTests = Out Anyhow 1
  tests P z x (IfRelated r base o e ts) =
      (Does (i.LoadL x 1 ∷ check_code r) ▹ (forms P z e).value ▹ where_related base o (not (is_last ts)) (if_last ts))
      ▹ unless (is_last ts) (tests P (z + hidden_expr e) x ts)
  tests P z x (IfWithin negated bases range ts) =
      (Does (i.LoadL x 1 ∷ []) ▹ bounds P z range ▹ Does (within_of (scratch P) bases range)
      ▹ Out (Where (differ negated (not (is_last ts)))) (if_last ts))
      ▹ unless (is_last ts) (tests P (z + hidden_interval range) x ts)
  tests P z x (IfRelatedLong conversion base o e ts) =
      (Does (i.LoadL x (words_before conversion) ∷ conversion_code conversion) ▹ (forms P z e).value
      ▹ where_long_related base o (not (is_last ts)) (if_last ts))
      ▹ unless (is_last ts) (tests P (z + hidden_expr e) x ts)
  tests P z x (IfWithinLong negated conversion bases range ts) =
      (Does (i.LoadL x (words_before conversion) ∷ conversion_code conversion) ▹ bounds P z range ▹ Does (long_within_of (scratch P) bases range)
      ▹ Out (Where (differ negated (not (is_last ts)))) (if_last ts))
      ▹ unless (is_last ts) (tests P (z + hidden_interval range) x ts)

  -- what stands before the statements of labels, and they behind it; the innermost part around ends behind the last
  pub exits : Coded → (z : ℕ) → Exits → (before : tree.Block) → tree.Block
  exits P z NoExits before = before
  exits P z (AndExit ls s es) before = exits P (z + hidden s) es (Ends (Labels ls) before ▹ block P z s ▹ past_exits es 0)

  pub loop : Coded → (z : ℕ) → Counter → Loop → tree.Block
  loop P z k (LoopOf cond s es fin) = Ends (Here 0) (
      exits P (z + (hidden_condition cond + hidden s)) es (
      Ends (Here 0) (Rounds (head_code k ▹ gives_next P k ▹ condition P z cond ▹ block P (z + hidden_condition cond) s ▹ Does (step_code k)))
      ▹ unless (is_endless k cond) (finish P (z + (hidden_condition cond + hidden s + hidden_exits es)) es fin)))

  -- out to the end of part 0 where the loop is done
  pub condition : Coded → (z : ℕ) → Condition → tree.Block
  condition P z Always = nothing
  condition P z (While e) = (forms P z e).jump false 0
  condition P z (Until e) = (forms P z e).jump true 0

  pub finish : Coded → (z : ℕ) → Exits → Finish → tree.Block
  finish P z es NoFinish = past_exits es 0
  finish P z es (Finished s) = block P z s ▹ past_exits es 0
