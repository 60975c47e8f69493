-- The block of a sound construct comes to at most 32 bytes for each node.
use Rattle.std.proofs.Common.{◌≡◌, refl, ap, ◌∙◌, ℕ, zero, suc, ◌+◌, ◌-◌, ◌*◌, ◌≤◌, List, [], ◌∷◌, ◌++◌, length, map, Bool, true, false, not, if◌then◌else◌, arith}
use Rattle.mesa_types.specs.declared.typed_parts.Base.{Base}
use Rattle.mesa_types.specs.declared.typed_parts.Bases.{Bases}
use Rattle.mesa_types.specs.declared.typed_parts.Callee.{Callee}
use Rattle.mesa_types.specs.declared.typed_parts.Callee.TheVariants.{OwnProcedure, LinkedProcedure}
use Rattle.mesa_types.specs.declared.typed_parts.Conversion.{Conversion}
use Rattle.mesa_types.specs.declared.typed_parts.Conversion.TheVariants.{Kept, Widened, Narrowed, InCommon}
use Rattle.mesa_types.specs.declared.typed_parts.Home.{Home}
use Rattle.mesa_types.specs.declared.typed_parts.Raised.{Raised}
use Rattle.mesa_types.specs.declared.typed_parts.Raised.TheVariants.{OwnSignal, LinkedSignal, TheBoundsFault, TheZeroDivisor, TheUnnamed}
use Rattle.mesa_types.specs.Plain.{kinds_of}
use Rattle.mesa_types.specs.declared.typed_parts.Label as l
use Rattle.mesa_types.specs.declared.typed_parts.Label.TheVariants.{OnAny, OnUnwind, OnOwn, OnLinked, OnBounds, OnZero}
use Rattle.mesa_types.specs.declared.typed_parts.Part.{Part}
use Rattle.mesa_types.specs.declared.typed_parts.Base.TheVariants.{Signed, Unsigned}
use Rattle.mesa_types.specs.declared.typed_parts.Range.{Range}
use Rattle.mesa_types.specs.declared.typed_parts.Range.TheVariants.{Every, From}
use Rattle.mesa_types.specs.declared.faces.Import.{Import}
use Rattle.mesa_types.specs.Typed.{Point, Start, After, At, Leave, point_of, Kind, Record, Kinds, NoKinds, AndKind, Expr, Number, LongNumber, Literal, Variable, FieldOf, LengthOf, ByteOf, Checked, Converted, Operate, OperateLong, Negate, NegateLong, Relate, RelateLong, Within, WithinLong, Not, AllOf, SomeOf, Construct, Call, Raise, Exprs, NoExprs, AndExpr, Suffixes, NoSuffix, Field, Index, Operations, NoOperation, Then, Interval, Between, Phrase, NoPhrase, Catch, Arms, NoArms, AndArm, Stmt, Null, Marked, Declare, DeclareAs, Assign, Extract, Perform, If, Select, SelectLong, Block, Repeat, For, Jump, ReturnWith, Resume, Reject, Retry, Continue, Stmts, NoStmts, AndStmt, Targets, NoTargets, AndTarget, AndConverted, Cases, Otherwise, AndCase, Tests, NoTests, IfRelated, IfWithin, IfRelatedLong, IfWithinLong, Exits, NoExits, AndExit, Loop, LoopOf, Finish, NoFinish, Finished, Condition, Always, While, Until, Texts}
use Rattle.mesa_types.specs.Counts.{hidden, hidden_expr, hidden_exprs, hidden_suffixes, hidden_interval, hidden_phrase, hidden_stmts, hidden_targets, hidden_tests, hidden_exits, hidden_condition, words_of, words_given, words_after, last_words}
use Rattle.mesa_types.specs.Nodes.{check_nodes, conversion_nodes, given_nodes, count_of, expr_nodes, exprs_nodes, suffixes_nodes, operations_nodes, interval_nodes, phrase_nodes, arms_nodes, stmt_nodes, stmts_nodes, targets_nodes, cases_nodes, tests_nodes, exits_nodes, loop_nodes, finish_nodes, condition_nodes}
use Rattle.mesa_types.specs.Operators.{differ}
use Rattle.mesa_types.specs.Shapes.{words_in, one, count_in}
use Rattle.mesa_types.specs.Sound as sound
use Rattle.mesa_types.specs.Sound.{Scope, a_word, a_long, HasTest, Placed, Arranged, ExprIn, ExprsIn, WordsIn, SuffixesIn, OperationsIn, LongOperationsIn, IntervalIn, LongIntervalIn, PhraseIn, ArmsIn, StmtIn, StmtsIn, TargetsIn, CasesIn, TestsIn, ExitsIn, LoopIn, FinishIn, ConditionIn}
use Rattle.code_forms.specs.declared.instruction.Instruction.{Instruction}
use Rattle.code_forms.specs.declared.instruction.Instruction.TheVariants as i
use Rattle.code_forms.specs.Instructions.{bytes_of}
use Rattle.code_rules.specs.CodeFor.{words_before_last, words_taken, words_over}
use Rattle.code_rules.specs.Links.{call_code, raise_code, label_code}
use Rattle.code_rules.specs.Loops.{Counter, NoCounter, CountedIn, next_slot, step_code}
use Rattle.code_rules.specs.OwnCode.{lift_code, check_code, conversion_code, is_opposite, arrange_code}
use Rattle.code_rules.specs.Reading.{Coded, scratch}
use Rattle.code_rules.specs.Slots.{local_slot, load, store, load_within, store_within, fields_of, sizes}
use Rattle.code_blocks.specs.Blocks as tree
use Rattle.code_blocks.specs.Blocks.{Where, Does, ArmBlocks, ◌▹◌}
use Rattle.code_blocks.specs.Heaviness.{weight, caught_weight, arms_weight}
use Rattle.code_blocks.specs.Own.{bytes_in}
use Rattle.code_blocks.specs.Sizes.{goes_to, leap_to}
use Rattle.code_blocks.specs.Translation.{has_index, at_element, within_of, long_within_of, start_of, head_code, gives_next, past_else, past_cases, past_exits, enabled, is_last, is_endless, unless, turned, forms, values, operands, bounds, operations, long_operations, path, caught_by, arm_blocks, block, blocks, selected, targets, cases, tests, exits, loop, condition, finish}
use Rattle.code_blocks.specs.Weights.{label_bytes, labels_bytes}
use Rattle.code_blocks.proofs.Bytes.{in_joined}
use Rattle.code_blocks.proofs.OwnBytes.{pop_bytes, lift_bytes, field_bytes, check_bytes, conversion_bytes, index_bytes, comparison_bytes, long_comparison_bytes, relation_bytes, long_relation_bytes, operator_bytes, long_operator_bytes, within_bytes, long_within_bytes, arrange_bytes, load_bytes, store_bytes, load_within_bytes, store_within_bytes, zero_bytes, spread_bytes, start_bytes, give_bytes, step_bytes}

-- a keyed list has no more places than values

placed_many : (places : List ℕ) (js all : Kinds) → Placed places js all → length places ≡ count_in js
unfolding Placed count_in
placed_many [] NoKinds all h = refl
placed_many [] (AndKind j js) all h = absurd h
placed_many (p ∷ ps) NoKinds all h = absurd h
placed_many (p ∷ ps) (AndKind j js) all h = omega (arith, placed_many ps js all h.1)

arranged_few : (places : List ℕ) (js all : Kinds) → Arranged places js all → length places ≤ count_in js
unfolding Arranged
arranged_few [] js all h = omega arith
arranged_few (p ∷ ps) js all h = omega (arith, placed_many (p ∷ ps) js all h.0)

values_many : (Γ : Scope) (es : Exprs) (ks : Kinds) → ExprsIn Γ es ks → count_in ks ≡ count_of es
unfolding ExprsIn count_in count_of
values_many Γ NoExprs ks h = ap count_in h
values_many Γ (AndExpr e es) ks h = ap count_in h.4 ∙ omega (arith, values_many Γ es h.1 h.3)

-- small parts

label_few : (imports : List Import) (x : l.Label) → label_bytes (label_code imports x) ≤ 5
label_few imports OnAny = omega arith
label_few imports OnUnwind = omega arith
label_few imports (OnOwn n) = omega arith
label_few imports (OnLinked k n) = omega arith
label_few imports OnBounds = omega arith
label_few imports OnZero = omega arith

labels_few : (imports : List Import) (ls : List l.Label) → labels_bytes (map (label_code imports) ls) ≤ 5 * length ls
labels_few imports [] = omega arith
labels_few imports (x ∷ ls) = omega (arith, label_few imports x, labels_few imports ls)

goes_few : (arms : ℕ) (p : Point) → bytes_of (goes_to arms p 0) ≤ 7
goes_few zero (Start n) = omega arith
goes_few zero (After n) = omega arith
goes_few zero (At k) = omega arith
goes_few zero Leave = omega arith
goes_few (suc k) (Start n) = omega arith
goes_few (suc k) (After n) = omega arith
goes_few (suc k) (At j) = omega arith
goes_few (suc k) Leave = omega arith

else_few : (t : Stmt) (part : ℕ) → weight (past_else t part) ≤ 5
else_few Null part = omega arith
else_few _ part = omega arith

exits_few : (es : Exits) (part : ℕ) → weight (past_exits es part) ≤ 5
exits_few NoExits part = omega arith
exits_few (AndExit ls s es) part = omega arith

cases_few : (cs : Cases) (part : ℕ) → weight (past_cases cs part) ≤ 5
cases_few (Otherwise s) part = else_few s part
cases_few (AndCase ts s cs) part = omega arith

turned_few : (b : Bool) (jumps : ℕ → tree.Block) (part n : ℕ) → ((p : ℕ) → weight (jumps p) ≤ n) → weight (turned b jumps part) ≤ n + 5
turned_few false jumps part n h = omega (arith, h part)
turned_few true jumps part n h = omega (arith, h 0)

head_few : (k : Counter) → weight (head_code k) ≤ 10
head_few NoCounter = omega arith
head_few (CountedIn z g down) = omega arith

unless_few : (b : Bool) (x : tree.Block) (n : ℕ) → weight x ≤ n → weight (unless b x) ≤ n
unless_few true x n h = omega arith
unless_few false x n h = h

enabled_few : (arms : ArmBlocks) (b : tree.Block) → weight (enabled arms b) ≤ caught_weight arms + weight b
enabled_few tree.NoArmBlock b = omega arith
enabled_few (tree.AndArmBlock labels slot words arm arms) b = omega arith

within_few : (t : ℕ) (bases : Bases) (range : Interval) → bytes_in (within_of t bases range) ≤ 56
within_few t bases (Between x p y q) = within_bytes t bases p q

long_within_few : (t : ℕ) (bases : Bases) (range : Interval) → bytes_in (long_within_of t bases range) ≤ 62
long_within_few t bases (Between x p y q) = long_within_bytes t bases p q

start_few : (z : ℕ) (base : Base) (range : Interval) → bytes_in (start_of z base range) ≤ 61
start_few z base (Between x p y q) = start_bytes z base p q

call_few : (imports : List Import) (c : Callee) → bytes_of (call_code imports c) ≤ 5
call_few imports (OwnProcedure q) = omega arith
call_few imports (LinkedProcedure k n) = omega arith

raise_few : (imports : List Import) (x : Raised) → bytes_of (raise_code imports x) ≤ 5
raise_few imports (OwnSignal n) = omega arith
raise_few imports (LinkedSignal k n) = omega arith
raise_few imports TheBoundsFault = omega arith
raise_few imports TheZeroDivisor = omega arith
raise_few imports TheUnnamed = omega arith

some_homes : (hs : List Home) → (hs ≡ [] → ⊥) → 1 ≤ length hs
some_homes [] h = absurd (h refl)
some_homes (x ∷ hs) h = omega arith

leap_few : (leap : tree.Leap) → bytes_of (leap_to leap 0) ≡ 5
leap_few tree.Anyhow = refl
leap_few (Where true) = refl
leap_few (Where false) = refl

one_check : (r : Range) → bytes_in (check_code r) ≤ 5
one_check Every = omega arith
one_check (From Signed first last) = omega arith
one_check (From Unsigned first last) = omega arith

few_check : (r : Range) → bytes_in (check_code r) ≤ 5 * check_nodes r
few_check r = check_bytes r

brought_few : (over words : ℕ) (r : Range) (x : Instruction) (n : ℕ) → bytes_of x ≡ n
    → bytes_in (lift_code words over ++ (check_code r ++ x ∷ [])) ≤ 5 + (5 * check_nodes r + n)
brought_few over words r x n e =
    omega (arith, in_joined (lift_code words over) (check_code r ++ x ∷ []), in_joined (check_code r) (x ∷ []), lift_bytes words over, check_bytes r, e)

few_conversion : (c : Conversion) → bytes_in (conversion_code c) ≤ 7 * conversion_nodes c
unfolding conversion_nodes
few_conversion Kept = omega arith
few_conversion (Widened a b) = conversion_bytes (Widened a b)
few_conversion (Narrowed a b r) = conversion_bytes (Narrowed a b r)
few_conversion InCommon = conversion_bytes InCommon

converted_few : (over words : ℕ) (c : Conversion) (x : Instruction) (n : ℕ) → bytes_of x ≡ n
    → bytes_in (lift_code words over ++ (conversion_code c ++ x ∷ [])) ≤ 5 + (7 * conversion_nodes c + n)
converted_few over words c x n e =
    omega (arith, in_joined (lift_code words over) (conversion_code c ++ x ∷ []), in_joined (conversion_code c) (x ∷ []), lift_bytes words over, few_conversion c, e)

module _ (U : Coded) where
  variable_few : (h : Home) (s : Suffixes) (words z : ℕ) (b : Bool)
      → weight (if b then at_element s (path U z s ▹ Does (load_within U h words ∷ [])) else Does (load U h (fields_of s) words ∷ [])) ≤ 10 + weight (path U z s)
  variable_few h s words z true = omega (arith, load_within_bytes U h words)
  variable_few h s words z false = omega (arith, load_bytes U h (fields_of s) words)

  stored : (v : Home) (s : Suffixes) (e : Expr) (z : ℕ) (b : Bool) → weight (path U z s) ≤ 32 * suffixes_nodes s
      → weight (forms U z e).value + 22 ≤ 32 * expr_nodes e → weight (forms U (z + hidden_suffixes s) e).value + 22 ≤ 32 * expr_nodes e
      → weight (
      if b
      then at_element s (path U z s ▹ (forms U (z + hidden_suffixes s) e).value ▹ Does (store_within U v (words_of e) ∷ []))
      else ((forms U z e).value ▹ Does (store U v (fields_of s) (words_of e) ∷ []))) + 5 ≤ 32 * (2 + suffixes_nodes s + expr_nodes e)
  stored v s e z true p x y = omega (arith, p, y, store_within_bytes U v (words_of e))
  stored v s e z false p x y = omega (arith, x, store_bytes U v (fields_of s) (words_of e))

  target_few : (p : Part) (v : Home) (s : Suffixes) (r : Range) (ts : Targets) (z all : ℕ) (taken : List Part) (b : Bool)
      → weight (path U z s) ≤ 32 * suffixes_nodes s
      → weight (targets U (z + hidden_suffixes s) all (p ∷ taken) ts) ≤ 32 * targets_nodes ts + 3
      → weight (targets U z all (p ∷ taken) ts) ≤ 32 * targets_nodes ts + 3
      → weight (
      if b
      then at_element s (
      path U z s ▹ Does (lift_code p.words (suc (words_over all taken p)) ++ (check_code r ++ store_within U v p.words ∷ []))
      ▹ targets U (z + hidden_suffixes s) all (p ∷ taken) ts)
      else (
      Does (lift_code p.words (words_over all taken p) ++ (check_code r ++ store U v (fields_of s) p.words ∷ []))
      ▹ targets U z all (p ∷ taken) ts)) ≤ 32 * (1 + suffixes_nodes s + check_nodes r + targets_nodes ts) + 3
  target_few p v s r ts z all taken true q x y =
      omega (arith, q, x, brought_few (suc (words_over all taken p)) p.words r (store_within U v p.words) 7 (store_within_bytes U v p.words))
  target_few p v s r ts z all taken false q x y =
      omega (arith, y, brought_few (words_over all taken p) p.words r (store U v (fields_of s) p.words) 5 (store_bytes U v (fields_of s) p.words))

  converted_target_few : (p : Part) (v : Home) (s : Suffixes) (c : Conversion) (ts : Targets) (z all : ℕ) (taken : List Part) (b : Bool)
      → weight (path U z s) ≤ 32 * suffixes_nodes s
      → weight (targets U (z + hidden_suffixes s) all (p ∷ taken) ts) ≤ 32 * targets_nodes ts + 3
      → weight (targets U z all (p ∷ taken) ts) ≤ 32 * targets_nodes ts + 3
      → weight (
      if b
      then at_element s (
      path U z s
      ▹ Does (lift_code p.words (suc (words_over all taken p)) ++ (conversion_code c ++ store_within U v (words_after c) ∷ []))
      ▹ targets U (z + hidden_suffixes s) all (p ∷ taken) ts)
      else (
      Does (lift_code p.words (words_over all taken p) ++ (conversion_code c ++ store U v (fields_of s) (words_after c) ∷ []))
      ▹ targets U z all (p ∷ taken) ts)) ≤ 32 * (1 + suffixes_nodes s + conversion_nodes c + targets_nodes ts) + 3
  converted_target_few p v s c ts z all taken true q x y =
      omega (arith, q, x, converted_few (suc (words_over all taken p)) p.words c (store_within U v (words_after c)) 7 (store_within_bytes U v (words_after c)))
  converted_target_few p v s c ts z all taken false q x y =
      omega (arith, y, converted_few (words_over all taken p) p.words c (store U v (fields_of s) (words_after c)) 5 (store_bytes U v (fields_of s) (words_after c)))

  tests_few : (ts : Tests) → HasTest ts → (z x : ℕ) → weight (unless (is_last ts) (tests U z x ts)) ≤ 32 * tests_nodes ts
      → weight (tests U z x ts) ≤ 32 * tests_nodes ts
  unfolding HasTest
  tests_few NoTests some z x h = absurd some
  tests_few (IfRelated r base o e ts) some z x h = h
  tests_few (IfWithin negated bases range ts) some z x h = h
  tests_few (IfRelatedLong c base o e ts) some z x h = h
  tests_few (IfWithinLong negated c bases range ts) some z x h = h

  -- a value, and a jump by it
  record Light (e : Expr) (z : ℕ) : Type 0 where
    value : weight (forms U z e).value + 22 ≤ 32 * expr_nodes e
    jump : (sense : Bool) (part : ℕ) → weight ((forms U z e).jump sense part) + 12 ≤ 32 * expr_nodes e

  by_value_few : (x : tree.Block) (n : ℕ) → weight x + 22 ≤ n → (sense : Bool) (part : ℕ) → weight (x ▹ tree.Out (Where sense) part) + 12 ≤ n
  by_value_few x n h sense part = omega (arith, h, leap_few (Where sense))

  mutual
    unfolding ExprIn ExprsIn WordsIn SuffixesIn OperationsIn LongOperationsIn IntervalIn LongIntervalIn PhraseIn ArmsIn StmtIn StmtsIn TargetsIn CasesIn TestsIn ExitsIn LoopIn FinishIn ConditionIn expr_nodes given_nodes count_of HasTest

    light : (Γ : Scope) (e : Expr) (ks : Kinds) → ExprIn Γ e ks → (z : ℕ) → Light e z
    light Γ (Number n) ks h z =
        let small : weight (forms U z (Number n)).value + 22 ≤ 32 * expr_nodes (Number n) = omega (arith) in
        record { value = small; jump = by_value_few (forms U z (Number n)).value (32 * expr_nodes (Number n)) small }
    light Γ (LongNumber n) ks h z =
        let small : weight (forms U z (LongNumber n)).value + 22 ≤ 32 * expr_nodes (LongNumber n) = omega
        (arith) in
        record { value = small; jump = by_value_few (forms U z (LongNumber n)).value (32 * expr_nodes (LongNumber n)) small }
    light Γ (Literal k) ks h z =
        let small : weight (forms U z (Literal k)).value + 22 ≤ 32 * expr_nodes (Literal k) = omega (arith) in
        record { value = small; jump = by_value_few (forms U z (Literal k)).value (32 * expr_nodes (Literal k)) small }
    light Γ (Variable v s words) ks h z =
        let small : weight (forms U z (Variable v s words)).value + 22 ≤ 32 * expr_nodes (Variable v s words) = omega
        (arith, variable_few v s words z (has_index s), path_light Γ s h.0 h.1 h.3 z) in
        record { value = small; jump = by_value_few (forms U z (Variable v s words)).value (32 * expr_nodes (Variable v s words)) small }
    light Γ (FieldOf e parts) ks h z =
        let small : weight (forms U z (FieldOf e parts)).value + 22 ≤ 32 * expr_nodes (FieldOf e parts) = omega (
          arith,
          (light Γ e (one h.1) h.3 z).value,
          field_bytes (words_before_last parts) (last_words parts)
              (words_of e - (words_before_last parts + last_words parts)),
        ) in
        record { value = small; jump = by_value_few (forms U z (FieldOf e parts)).value (32 * expr_nodes (FieldOf e parts)) small }
    light Γ (LengthOf e) ks h z =
        let small : weight (forms U z (LengthOf e)).value + 22 ≤ 32 * expr_nodes (LengthOf e) = omega (arith, (light Γ e (one Texts) h.0 z).value) in
        record { value = small; jump = by_value_few (forms U z (LengthOf e)).value (32 * expr_nodes (LengthOf e)) small }
    light Γ (ByteOf e x) ks h z =
        let small : weight (forms U z (ByteOf e x)).value + 22 ≤ 32 * expr_nodes (ByteOf e x) = omega
        (arith, (light Γ e (one Texts) h.0 z).value, (light Γ x a_word h.1 (z + hidden_expr e)).value) in
        record { value = small; jump = by_value_few (forms U z (ByteOf e x)).value (32 * expr_nodes (ByteOf e x)) small }
    light Γ (Checked r e) ks h z =
        let small : weight (forms U z (Checked r e)).value + 22 ≤ 32 * expr_nodes (Checked r e) = omega (arith, (light Γ e a_word h.1 z).value, one_check r) in
        record { value = small; jump = by_value_few (forms U z (Checked r e)).value (32 * expr_nodes (Checked r e)) small }
    light Γ (Converted c e) ks h z =
        let small : weight (forms U z (Converted c e)).value + 22 ≤ 32 * expr_nodes (Converted c e) = omega
        (arith, (light Γ e (one h.1) h.4 z).value, conversion_bytes c) in
        record { value = small; jump = by_value_few (forms U z (Converted c e)).value (32 * expr_nodes (Converted c e)) small }
    light Γ (Operate e os) ks h z =
        let small : weight (forms U z (Operate e os)).value + 22 ≤ 32 * expr_nodes (Operate e os) = omega
        (arith, (light Γ e a_word h.0 z).value, run_light Γ os h.1 (z + hidden_expr e)) in
        record { value = small; jump = by_value_few (forms U z (Operate e os)).value (32 * expr_nodes (Operate e os)) small }
    light Γ (OperateLong e os) ks h z =
        let small : weight (forms U z (OperateLong e os)).value + 22 ≤ 32 * expr_nodes (OperateLong e os) = omega
        (arith, (light Γ e a_long h.0 z).value, long_run_light Γ os h.1 (z + hidden_expr e)) in
        record { value = small; jump = by_value_few (forms U z (OperateLong e os)).value (32 * expr_nodes (OperateLong e os)) small }
    light Γ (NegateLong e) ks h z =
        let small : weight (forms U z (NegateLong e)).value + 22 ≤ 32 * expr_nodes (NegateLong e) = omega
        (arith, (light Γ e a_long h.0 z).value) in
        record { value = small; jump = by_value_few (forms U z (NegateLong e)).value (32 * expr_nodes (NegateLong e)) small }
    light Γ (Negate e) ks h z =
        let small : weight (forms U z (Negate e)).value + 22 ≤ 32 * expr_nodes (Negate e) = omega (arith, (light Γ e a_word h.0 z).value) in
        record { value = small; jump = by_value_few (forms U z (Negate e)).value (32 * expr_nodes (Negate e)) small }
    light Γ (Relate b o d e) ks h z =
        let x = (light Γ d a_word h.0 z).value in
        let y = (light Γ e a_word h.1 (z + hidden_expr d)).value in
        record {
          value = omega (arith, x, y, relation_bytes b o);
          jump = λ sense part. omega (arith, x, y, comparison_bytes b o, leap_few (Where (differ (is_opposite o) sense)));
        }
    light Γ (Within bases e range) ks h z =
        let small : weight (forms U z (Within bases e range)).value + 22 ≤ 32 * expr_nodes (Within bases e range) = omega
        (arith, (light Γ e a_word h.0 z).value, bounds_light Γ range h.1 (z + hidden_expr e), within_few (scratch U) bases range) in
        record { value = small; jump = by_value_few (forms U z (Within bases e range)).value (32 * expr_nodes (Within bases e range)) small }
    light Γ (RelateLong b o d e) ks h z =
        let x = (light Γ d a_long h.0 z).value in
        let y = (light Γ e a_long h.1 (z + hidden_expr d)).value in
        record {
          value = omega (arith, x, y, long_relation_bytes b o);
          jump = λ sense part. omega (arith, x, y, long_comparison_bytes b o, leap_few (Where (differ (is_opposite o) sense)));
        }
    light Γ (WithinLong bases e range) ks h z =
        let small : weight (forms U z (WithinLong bases e range)).value + 22 ≤ 32 * expr_nodes (WithinLong bases e range) = omega
        (arith, (light Γ e a_long h.0 z).value, long_bounds_light Γ range h.1 (z + hidden_expr e), long_within_few (scratch U) bases range) in
        record { value = small; jump = by_value_few (forms U z (WithinLong bases e range)).value (32 * expr_nodes (WithinLong bases e range)) small }
    light Γ (Not e) ks h z =
        let x = light Γ e a_word h.0 z in
        record { value = omega (arith, x.value); jump = λ sense part. omega (arith, x.jump (not sense) part) }
    light Γ (AllOf es) ks h z = record {
      value = omega (arith, h.0, operands_light Γ es h.1 false 0 z);
      jump = λ sense part. omega (
        arith,
        h.0,
        turned_few sense (operands U z es false) part (32 * exprs_nodes es - 12 * count_of es)
            (λ k. omega (arith, operands_light Γ es h.1 false k z)),
        operands_light Γ es h.1 false 0 z,
      );
    }
    light Γ (SomeOf es) ks h z = record {
      value = omega (arith, h.0, operands_light Γ es h.1 true 0 z);
      jump = λ sense part. omega (
        arith,
        h.0,
        turned_few (not sense) (operands U z es true) part (32 * exprs_nodes es - 12 * count_of es)
            (λ k. omega (arith, operands_light Γ es h.1 true k z)),
        operands_light Γ es h.1 true 0 z,
      );
    }
    light Γ (Construct places es) ks h z =
        let small : weight (forms U z (Construct places es)).value + 22 ≤ 32 * expr_nodes (Construct places es) = omega
        (arith, values_light Γ es h.1 h.5 z, arrange_bytes places (sizes es), arranged_few places h.1 h.2 h.6, values_many Γ es h.1 h.5) in
        record { value = small; jump = by_value_few (forms U z (Construct places es)).value (32 * expr_nodes (Construct places es)) small }
    light Γ (Call c places es words ph) ks h z =
        let small : weight (forms U z (Call c places es words ph)).value + 22 ≤ 32 * expr_nodes (Call c places es words ph) = omega (
          arith,
          values_light Γ es h.1 h.3 z,
          arrange_bytes places (sizes es),
          arranged_few places h.1 (kinds_of (h.0).takes) h.4,
          values_many Γ es h.1
              h.3,
          call_few U.imports c,
          phrase_light Γ ph h.7 (z + hidden_exprs es),
        ) in
        record { value = small; jump = by_value_few (forms U z (Call c places es words ph)).value (32 * expr_nodes (Call c places es words ph)) small }
    light Γ (Raise x places es words ph) ks h z =
        let small : weight (forms U z (Raise x places es words ph)).value + 22 ≤ 32 * expr_nodes (Raise x places es words ph) = omega (
          arith,
          values_light Γ es h.1 h.3 z,
          arrange_bytes places (sizes es),
          arranged_few places h.1 h.0 h.4,
          values_many Γ es h.1 h.3,
          raise_few
              U.imports x,
          phrase_light Γ ph h.6 (z + hidden_exprs es),
        ) in
        record { value = small; jump = by_value_few (forms U z (Raise x places es words ph)).value (32 * expr_nodes (Raise x places es words ph)) small }

    values_light : (Γ : Scope) (es : Exprs) (ks : Kinds) → ExprsIn Γ es ks → (z : ℕ) → weight (values U z es) + 22 * count_of es ≤ 32 * exprs_nodes es
    values_light Γ NoExprs ks h z = omega arith
    values_light Γ (AndExpr e es) ks h z = omega (arith, (light Γ e (one h.0) h.2 z).value, values_light Γ es h.1 h.3 (z + hidden_expr e))

    operands_light : (Γ : Scope) (es : Exprs) → WordsIn Γ es → (sense : Bool) (part z : ℕ)
        → weight (operands U z es sense part) + 12 * count_of es ≤ 32 * exprs_nodes es
    operands_light Γ NoExprs h sense part z = omega arith
    operands_light Γ (AndExpr e es) h sense part z =
        omega (arith, (light Γ e a_word h.0 z).jump sense part, operands_light Γ es h.1 sense part (z + hidden_expr e))

    bounds_light : (Γ : Scope) (range : Interval) → IntervalIn Γ range → (z : ℕ) → weight (bounds U z range) + 76 ≤ 32 * interval_nodes range
    bounds_light Γ (Between x p y q) h z = omega (arith, (light Γ x a_word h.0 z).value, (light Γ y a_word h.1 (z + hidden_expr x)).value)

    long_bounds_light : (Γ : Scope) (range : Interval) → LongIntervalIn Γ range → (z : ℕ) → weight (bounds U z range) + 76 ≤ 32 * interval_nodes range
    long_bounds_light Γ (Between x p y q) h z = omega (arith, (light Γ x a_long h.0 z).value, (light Γ y a_long h.1 (z + hidden_expr x)).value)

    long_run_light : (Γ : Scope) (os : Operations) → LongOperationsIn Γ os → (z : ℕ) → weight (long_operations U z os) ≤ 32 * operations_nodes os
    long_run_light Γ NoOperation h z = omega arith
    long_run_light Γ (Then r o e os) h z =
        omega (arith, (light Γ e a_long h.2 z).value, long_operator_bytes o, long_run_light Γ os h.3 (z + hidden_expr e))

    run_light : (Γ : Scope) (os : Operations) → OperationsIn Γ os → (z : ℕ) → weight (operations U z os) ≤ 32 * operations_nodes os
    run_light Γ NoOperation h z = omega arith
    run_light Γ (Then r o e os) h z =
        omega (arith, few_check r, (light Γ e a_word h.1 z).value, operator_bytes (scratch U) o, run_light Γ os h.2 (z + hidden_expr e))

    path_light : (Γ : Scope) (s : Suffixes) (j k : Kind) → SuffixesIn Γ s j k → (z : ℕ) → weight (path U z s) ≤ 32 * suffixes_nodes s
    path_light Γ NoSuffix j k h z = omega arith
    path_light Γ (Field n offset s) j k h z = path_light Γ s h.1 k h.4 z
    path_light Γ (Index r first n words e s) j k h z =
        omega (arith, (light Γ e a_word h.6 z).value, index_bytes r first n words, path_light Γ s h.0 k h.7 (z + hidden_expr e))

    phrase_light : (Γ : Scope) (ph : Phrase) → PhraseIn Γ ph → (z : ℕ) → caught_weight (caught_by U z ph) ≤ 32 * phrase_nodes ph
    phrase_light Γ NoPhrase h z = omega arith
    phrase_light Γ (Catch n arms) h z = (arms_light Γ n arms h.3 z).1

    arms_light : (Γ : Scope) (n : ℕ) (arms : Arms) → ArmsIn Γ n arms → (z : ℕ)
        → (arms_weight (arm_blocks U z arms) ≤ 32 * arms_nodes arms) × (caught_weight (arm_blocks U z arms) ≤ 32 * arms_nodes arms)
    arms_light Γ n NoArms h z = (omega arith, omega arith)
    arms_light Γ n (AndArm labels first count s arms) h z =
        let x = stmt_light (sound.in_arm n labels Γ) s h.5 z in
        let y = (arms_light Γ n arms h.6 (z + hidden s)).0 in
        let ls = labels_few U.imports labels in
        (omega (arith, x, y, ls), omega (arith, x, y, ls))

    stmt_light : (Γ : Scope) (s : Stmt) → StmtIn Γ s → (z : ℕ) → weight (block U z s) + 5 ≤ 32 * stmt_nodes s
    stmt_light Γ Null h z = omega arith
    stmt_light Γ (Marked n s) h z = stmt_light (sound.in_marked n Γ) s h.1 z
    stmt_light Γ (Declare hs k) h z = omega (arith, zero_bytes U hs (words_in k), some_homes hs h.0)
    stmt_light Γ (DeclareAs hs k e) h z =
        omega (arith, zero_bytes U hs (words_in k), spread_bytes U hs (words_in k), (light Γ e (one k) h.3 z).value)
    stmt_light Γ (Assign v s e) h z =
        stored v s e z (has_index s) (path_light Γ s h.1 h.2 h.4 z) (light Γ e (one h.2) h.5 z).value (light Γ e (one h.2) h.5 (z + hidden_suffixes s)).value
    stmt_light Γ (Extract true ts e) h z =
        omega (arith, (light Γ e (one (Record h.2)) h.3 (z + hidden_targets ts)).value, targets_light Γ ts h.2 h.4 z (words_of e) [])
    stmt_light Γ (Extract false ts e) h z =
        omega (arith, (light Γ e h.3 h.4 (z + hidden_targets ts)).value, targets_light Γ ts h.3 h.5 z (words_of e) [])
    stmt_light Γ (Perform e) h z = omega (arith, (light Γ e h.2 h.3 z).value, pop_bytes (words_of e))
    stmt_light Γ (If e s t) h z =
        omega (
          arith,
          (light Γ e a_word h.1 z).jump false 0,
          stmt_light Γ s h.2 (z + hidden_expr e),
          stmt_light Γ t h.3
              (z + (hidden_expr e + hidden s)),
          else_few t 1,
        )
    stmt_light Γ (Select e cs) h z =
        omega (arith, (light Γ e (one h.0) h.2 (z + 1)).value, selected_light Γ cs h.4 (z + (1 + hidden_expr e)) z 1 (words_of e))
    stmt_light Γ (SelectLong e cs) h z =
        omega (arith, (light Γ e a_long h.1 (z + 2)).value, selected_light Γ cs h.3 (z + (2 + hidden_expr e)) z 2 (words_of e))
    stmt_light Γ (Block ph ss es) h z =
        let Γ1 = sound.in_labelled h.0 es Γ in
        let A = caught_by U z ph in
        let B = blocks U (z + hidden_phrase ph) ss in
        omega (
          arith,
          phrase_light Γ1 ph h.2 z,
          all_light Γ1 ss h.3 (z + hidden_phrase ph),
          enabled_few A B,
          exits_few es 0,
          exits_light Γ es h.4 (z + (hidden_phrase ph + hidden_stmts ss)) (enabled A B ▹ past_exits es 0),
        )
    stmt_light Γ (Repeat c l) h z = omega (arith, loop_light Γ NoCounter l h.2 z)
    stmt_light Γ (For v down base range l) h z =
        omega (
          arith,
          bounds_light Γ range h.2 (z + 3),
          start_few z base range,
          loop_light Γ (CountedIn z v down) l h.3 (z + (3 + hidden_interval range)),
          give_bytes U v (next_slot z down),
          step_bytes (CountedIn z v down),
        )
    stmt_light Γ (Jump arms goal) h z = omega (arith, goes_few arms (point_of goal))
    stmt_light Γ (ReturnWith arms first places es) h z =
        omega (
          arith,
          values_light Γ es h.2 h.5 z,
          arrange_bytes places (sizes es),
          arranged_few places h.2 Γ.gives h.6,
          values_many Γ es h.2 h.5,
          goes_few arms Leave,
          in_joined (arrange_code places (sizes es)) (i.StoreL (local_slot U first) (words_given es) ∷ []),
        )
    stmt_light Γ (Resume places es) h z =
        omega (
          arith,
          values_light Γ es h.1 h.5 z,
          arrange_bytes places (sizes es),
          arranged_few places h.1 h.2 h.6,
          values_many Γ es h.1 h.5,
          in_joined (arrange_code places (sizes es)) (i.Resume (words_given es) ∷ []),
        )
    stmt_light Γ Reject h z = omega arith
    stmt_light Γ (Retry n) h z = omega (arith, goes_few 1 (Start n))
    stmt_light Γ (Continue n) h z = omega (arith, goes_few 1 (After n))

    all_light : (Γ : Scope) (ss : Stmts) → StmtsIn Γ ss → (z : ℕ) → weight (blocks U z ss) ≤ 32 * stmts_nodes ss
    all_light Γ NoStmts h z = omega arith
    all_light Γ (AndStmt s ss) h z = omega (arith, stmt_light Γ s h.0 z, all_light Γ ss h.1 (z + hidden s))

    targets_light : (Γ : Scope) (ts : Targets) (ks : Kinds) → TargetsIn Γ ts ks → (z all : ℕ) (taken : List Part)
        → weight (targets U z all taken ts) ≤ 32 * targets_nodes ts + 3
    targets_light Γ NoTargets ks h z all taken = pop_bytes (all - words_taken taken)
    targets_light Γ (AndTarget p v s r ts) ks h z all taken =
        target_few p v s r ts z all taken (has_index s) (path_light Γ s h.1 h.0 h.5 z) (targets_light Γ ts ks h.7 (z + hidden_suffixes s) all (p ∷ taken))
        (targets_light Γ ts ks h.7 z all (p ∷ taken))
    targets_light Γ (AndConverted p v s c ts) ks h z all taken =
        converted_target_few p v s c ts z all taken (has_index s) (path_light Γ s h.2 h.1 h.8 z)
        (targets_light Γ ts ks h.9 (z + hidden_suffixes s) all (p ∷ taken)) (targets_light Γ ts ks h.9 z all (p ∷ taken))

    selected_light : (Γ : Scope) (cs : Cases) → CasesIn Γ cs → (z x held words : ℕ) → weight (selected U z x held words cs) ≤ 32 * cases_nodes cs
    selected_light Γ (Otherwise s) h z x held words = omega (arith, stmt_light Γ s h z, pop_bytes words)
    selected_light Γ (AndCase ts s cs) h z x held words =
        omega (
          arith,
          tests_few ts h.0 z x (more_light Γ ts h.1 z x),
          stmt_light Γ s h.2 (z + hidden_tests ts),
          cases_few cs 1,
          cases_light Γ cs h.3 (z + (hidden_tests ts + hidden s)) x,
        )

    cases_light : (Γ : Scope) (cs : Cases) → CasesIn Γ cs → (z x : ℕ) → weight (cases U z x cs) + 5 ≤ 32 * cases_nodes cs
    cases_light Γ (Otherwise s) h z x = stmt_light Γ s h z
    cases_light Γ (AndCase ts s cs) h z x =
        omega (
          arith,
          tests_few ts h.0 z x (more_light Γ ts h.1 z x),
          stmt_light Γ s h.2 (z + hidden_tests ts),
          cases_few cs 1,
          cases_light Γ cs h.3 (z + (hidden_tests ts + hidden s)) x,
        )

    more_light : (Γ : Scope) (ts : Tests) → TestsIn Γ ts → (z x : ℕ) → weight (unless (is_last ts) (tests U z x ts)) ≤ 32 * tests_nodes ts
    more_light Γ NoTests h z x = omega arith
    more_light Γ (IfRelated r base o e ts) h z x =
        omega (
          arith,
          few_check r,
          (light Γ e a_word h.1 z).value,
          comparison_bytes base o,
          leap_few (Where (differ (is_opposite o) (not (is_last ts)))),
          more_light Γ ts h.2 (z + hidden_expr e) x,
        )
    more_light Γ (IfWithin negated bases range ts) h z x =
        omega (
          arith,
          bounds_light Γ range h.0 z,
          within_few (scratch U) bases range,
          leap_few (Where (differ negated (not (is_last ts)))),
          more_light Γ ts h.1 (z + hidden_interval range) x,
        )
    more_light Γ (IfRelatedLong c base o e ts) h z x =
        omega (
          arith,
          few_conversion c,
          (light Γ e a_long h.0 z).value,
          long_comparison_bytes base o,
          leap_few (Where (differ (is_opposite o) (not (is_last ts)))),
          more_light Γ ts h.1 (z + hidden_expr e) x,
        )
    more_light Γ (IfWithinLong negated c bases range ts) h z x =
        omega (
          arith,
          few_conversion c,
          long_bounds_light Γ range h.0 z,
          long_within_few (scratch U) bases range,
          leap_few (Where (differ negated (not (is_last ts)))),
          more_light Γ ts h.1 (z + hidden_interval range) x,
        )

    exits_light : (Γ : Scope) (es : Exits) → ExitsIn Γ es → (z : ℕ) (before : tree.Block) → weight (exits U z es before) ≤ weight before + 32 * exits_nodes es
    exits_light Γ NoExits h z before = omega arith
    exits_light Γ (AndExit ls s es) h z before =
        omega (
          arith,
          stmt_light Γ s h.1 z,
          exits_few es 0,
          exits_light Γ es h.2 (z + hidden s) (tree.Ends (tree.Labels ls) before ▹ block U z s ▹ past_exits es 0),
        )

    loop_light : (Γ : Scope) (k : Counter) (l : Loop) → LoopIn Γ l → (z : ℕ)
        → weight (loop U z k l) ≤ 32 * loop_nodes l + (weight (head_code k) + weight (gives_next U k) + bytes_in (step_code k) + 5)
    loop_light Γ k (LoopOf cond s es fin) h z =
        let ending = finish U (z + (hidden_condition cond + hidden s + hidden_exits es)) es fin in
        let C = condition U z cond in
        let B = block U (z + hidden_condition cond) s in
        let R = head_code k ▹ gives_next U k ▹ C ▹ B ▹ Does (step_code k) in
        let few = unless_few (is_endless k cond) ending (weight ending) (omega arith) in
        omega (
          arith,
          few,
          condition_light Γ cond h.2 z,
          stmt_light (sound.in_labelled h.0 es Γ) s h.3 (z + hidden_condition cond),
          finish_light Γ es fin h.5 (z + (hidden_condition cond + hidden s + hidden_exits es)),
          exits_light Γ es h.4 (z + (hidden_condition cond + hidden s)) (tree.Ends (tree.Here 0) (tree.Rounds R) ▹ unless (is_endless k cond) ending),
        )

    condition_light : (Γ : Scope) (cond : Condition) → ConditionIn Γ cond → (z : ℕ) → weight (condition U z cond) ≤ 32 * condition_nodes cond
    condition_light Γ Always h z = omega arith
    condition_light Γ (While e) h z = omega (arith, (light Γ e a_word h z).jump false 0)
    condition_light Γ (Until e) h z = omega (arith, (light Γ e a_word h z).jump true 0)

    finish_light : (Γ : Scope) (es : Exits) (fin : Finish) → FinishIn Γ fin → (z : ℕ) → weight (finish U z es fin) ≤ 32 * finish_nodes fin + 5
    finish_light Γ es NoFinish h z = omega (arith, exits_few es 0)
    finish_light Γ es (Finished s) h z = omega (arith, stmt_light Γ s h z, exits_few es 0)

  pub statement_weight : (Γ : Scope) (s : Stmt) → StmtIn Γ s → (z : ℕ) → weight (block U z s) + 5 ≤ 32 * stmt_nodes s
  statement_weight Γ s h z = stmt_light Γ s h z
