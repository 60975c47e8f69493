-- The blocks of a sound body never have more words on the operand stack than there is room for: at most three for each operand of a
-- statement, and a few.
use Rattle.std.proofs.Common.{◌≡◌, refl, ap, ◌∙◌, ℕ, zero, suc, ◌+◌, ◌-◌, ◌*◌, ◌<◌, ◌≤◌, List, [], ◌∷◌, ◌++◌, Bool, true, false, not, arith}
use Rattle.mesa_base.specs.declared.limits.TheConstants.{OPERAND_WORDS}
use Rattle.mesa_types.specs.declared.typed_parts.Given.{Given}
use Rattle.mesa_types.specs.declared.typed_parts.Given.TheVariants.{NoVariable, GivenTo}
use Rattle.mesa_types.specs.declared.typed_parts.Conversion.{Conversion}
use Rattle.mesa_types.specs.declared.typed_parts.Conversion.TheVariants.{Kept, Widened, Narrowed, InCommon}
use Rattle.mesa_types.specs.declared.typed_parts.Home.{Home}
use Rattle.mesa_types.specs.declared.typed_parts.Home.TheVariants.{Global, Local}
use Rattle.mesa_types.specs.declared.typed_parts.Part.{Part}
use Rattle.mesa_types.specs.declared.typed_parts.Base.{Base}
use Rattle.mesa_types.specs.declared.typed_parts.Base.TheVariants.{Signed, Unsigned}
use Rattle.mesa_types.specs.declared.typed_parts.Range.{Range}
use Rattle.mesa_types.specs.declared.typed_parts.Range.TheVariants.{Every, From}
use Rattle.mesa_types.specs.Typed.{Kind, Record, Longs, Ordinal, Kinds, Expr, Number, LongNumber, Literal, Variable, FieldOf, LengthOf, ByteOf, Checked, Converted, Operate, OperateLong, Negate, NegateLong, Relate, RelateLong, Within, WithinLong, Not, AllOf, SomeOf, Construct, Call, Raise, Exprs, NoExprs, AndExpr, Suffixes, NoSuffix, Field, Index, Operations, NoOperation, Then, Interval, Between, Phrase, NoPhrase, Catch, Arms, NoArms, AndArm, Stmt, Null, Marked, Declare, DeclareAs, Assign, Extract, Perform, If, Select, SelectLong, Block, Repeat, Endless, Counting, For, Jump, ReturnWith, Resume, Reject, Retry, Continue, Stmts, NoStmts, AndStmt, Targets, NoTargets, AndTarget, AndConverted, Cases, Otherwise, AndCase, Tests, NoTests, IfRelated, IfWithin, IfRelatedLong, IfWithinLong, Exits, NoExits, AndExit, Loop, LoopOf, Finish, NoFinish, Finished, Condition, Always, While, Until, Texts}
use Rattle.mesa_types.specs.Counts.{hidden, hidden_expr, hidden_exprs, hidden_suffixes, hidden_interval, hidden_phrase, hidden_stmts, hidden_targets, hidden_tests, hidden_exits, hidden_condition, words_of, words_given, words_before, words_after, last_words, unnamed, operands, operands_of, operands_in, operands_of_run, operands_of_interval, operands_of_targets, operands_of_tests, operands_of_cases, operands_of_condition, operands_of_loop, operands_of_stmt}
use Rattle.mesa_types.specs.Shapes.{words_in, words_in_all, one}
use Rattle.mesa_types.specs.Sound as sound
use Rattle.mesa_types.specs.Sound.{Scope, a_word, a_long, Fits, CountIn, TestsTake, CasesTake, Selects, VariableIn, ExprIn, ExprsIn, WordsIn, SuffixesIn, OperationsIn, LongOperationsIn, IntervalIn, LongIntervalIn, PhraseIn, ArmsIn, StmtIn, StmtsIn, TargetsIn, CasesIn, TestsIn, ExitsIn, LoopIn, FinishIn, ConditionIn}
use Rattle.mesa_types.proofs.WordSizes.{sizes_agree, values_have_words}
use Rattle.code_forms.specs.declared.instruction.Instruction.{Instruction}
use Rattle.code_forms.specs.declared.instruction.Instruction.TheVariants as i
use Rattle.code_rules.specs.CodeFor.{words_before_last, words_taken, words_over}
use Rattle.code_rules.specs.Loops.{Counter, NoCounter, CountedIn, next_slot, give_code, step_code}
use Rattle.code_rules.specs.OwnCode.{pop_code, lift_code, field_code, check_code, narrow_code, conversion_code, index_code, comparison, long_comparison, relation_code, long_relation_code, operator_code, long_operator_code, arrange_code}
use Rattle.code_rules.specs.Reading.{Coded, scratch}
use Rattle.code_rules.specs.Slots.{local_slot, store, store_within, load, zero_code, spread_code, fields_of, sizes}
use Rattle.code_rules.proofs.Depths.{own_code_keeps_words}
use Rattle.code_blocks.specs.Blocks as tree
use Rattle.code_blocks.specs.Blocks.{ArmBlocks, NoArmBlock, AndArmBlock, ◌▹◌}
use Rattle.code_blocks.specs.Own.{left_of}
use Rattle.code_blocks.specs.Sizes.{depth_behind}
use Rattle.code_blocks.specs.Translation.{Forms, by_value, has_index, within_of, long_within_of, start_of, turned, head_code, gives_next, past_else, past_cases, past_exits, enabled, a_case, is_last, is_endless, forms, values, operands as operand_jumps, bounds, operations, long_operations, path, caught_by, arm_blocks, block, blocks, targets, cases, tests, exits, loop, condition, finish}
use Rattle.code_blocks.proofs.ExtractRows.{HaveWords, variable_has, part_has, check_left}
use Rattle.code_blocks.proofs.Keeping.{record_words, ordinal_word, keeps, keeps_all}
use Rattle.code_blocks.proofs.NamedWords.{unnamed_few, still_named, words_named, words_converted_few, values_named, word_named, long_named}
use Rattle.code_blocks.proofs.NamesFit.{kind_lies}
use Rattle.code_blocks.proofs.Own.{left_both}
use Rattle.code_blocks.proofs.OwnShallow.{lift_shallow, pop_puts, field_shallow, check_puts, conversion_puts, index_puts, comparison_puts, long_comparison_puts, relation_puts, long_relation_puts, operator_puts, long_operator_puts, within_of_puts, long_within_of_puts, start_of_puts, give_puts, step_puts, zero_puts, spread_shallow, arrange_shallow}
use Rattle.code_blocks.proofs.Shallow.{OwnShallow, Shallow, ArmsShallow, shallow_to, own_to, own_both, if_shallow, unless_shallow, enabled_shallow, rises}
use Rattle.code_blocks.proofs.StatementDepths.{pop_left, start_left, zero_left, store_left, arranged_taken}
use Rattle.code_blocks.proofs.Values.{none, one_is, word_is, long_is, text_is, words_converted, makes_long, fields_fit, total_given, own_left, behind, arranged, within_left, long_within_left, comparison_left, long_comparison_left, value_depth, values_depth, bounds_depth, long_bounds_depth, path_depth, two_values, two_longs, jump_depth, operands_depth}

module _ (U : Coded) (most : ℕ) (limit : 3 * OPERAND_WORDS + 48 ≤ most) where
  abbrev S : tree.Block → ℕ → Type 0
  S b d = Shallow b d most

  to : (b : tree.Block) (m n : ℕ) → m ≡ n → S b n → S b m
  to b m n e h = shallow_to b m n most e h

  turned_shallow : (x : Bool) (jumps : ℕ → tree.Block) (part d : ℕ) → ((k : ℕ) → S (jumps k) d) → ((k : ℕ) → depth_behind (jumps k) d ≡ d) → d ≤ most
      → S (turned x jumps part) d
  turned_shallow false jumps part d h e le = h part
  turned_shallow true jumps part d h e le = (h 0, omega (arith, le, e 0))

  one_load : (h : Home) (offset words d : ℕ) → d ≤ most → OwnShallow (load U h offset words ∷ []) d most
  one_load h offset words d le = (le, tt)

  -- one word of a sound expression comes behind the words before it, or the two of a LONG one
  module _ (Γ : Scope) (g : HaveWords Γ) where
    word_behind : (e : Expr) → ExprIn Γ e a_word → (z d : ℕ) → depth_behind (forms U z e).value d ≡ d + 1
    word_behind e h z d = value_depth U Γ e a_word h z d ∙ ap (λ n. d + n) (word_is Γ e h)

    long_behind : (e : Expr) → ExprIn Γ e a_long → (z d : ℕ) → depth_behind (forms U z e).value d ≡ d + 2
    long_behind e h z d = value_depth U Γ e a_long h z d ∙ ap (λ n. d + n) (long_is Γ e h)

    named_words : (v : Home) (s : Suffixes) (j k : Kind) (words : ℕ) → VariableIn Γ v j → SuffixesIn Γ s j k → words ≡ words_in k → 0 < words
    named_words v s j k words at h e = omega (arith, e, values_have_words.of_kind k (part_has Γ s j k (variable_has Γ v j g at) h))

  -- what only jumps

  past_else_shallow : (s : Stmt) (part d : ℕ) → d ≤ most → S (past_else s part) d
  past_else_shallow Null part d le = tt
  past_else_shallow (Marked k s) part d le = le
  past_else_shallow (Declare hs k) part d le = le
  past_else_shallow (DeclareAs hs k e) part d le = le
  past_else_shallow (Assign h s e) part d le = le
  past_else_shallow (Extract b ts e) part d le = le
  past_else_shallow (Perform e) part d le = le
  past_else_shallow (If e s t) part d le = le
  past_else_shallow (Select e cs) part d le = le
  past_else_shallow (SelectLong e cs) part d le = le
  past_else_shallow (Block ph ss es) part d le = le
  past_else_shallow (Repeat c l) part d le = le
  past_else_shallow (For v down base range l) part d le = le
  past_else_shallow (Jump arms goal) part d le = le
  past_else_shallow (ReturnWith arms first places es) part d le = le
  past_else_shallow (Resume places es) part d le = le
  past_else_shallow Reject part d le = le
  past_else_shallow (Retry k) part d le = le
  past_else_shallow (Continue k) part d le = le

  past_cases_shallow : (cs : Cases) (part d : ℕ) → d ≤ most → S (past_cases cs part) d
  past_cases_shallow (Otherwise s) part d le = past_else_shallow s part d le
  past_cases_shallow (AndCase ts s cs) part d le = le

  past_exits_shallow : (es : Exits) (part d : ℕ) → d ≤ most → S (past_exits es part) d
  past_exits_shallow NoExits part d le = tt
  past_exits_shallow (AndExit ls s es) part d le = le

  enabled_depth : (arms : ArmBlocks) (b : tree.Block) (d : ℕ) → depth_behind (enabled arms b) d ≡ depth_behind b d
  enabled_depth NoArmBlock b d = refl
  enabled_depth (AndArmBlock labels slot words arm arms) b d = refl

  -- counted loops

  head_shallow : (k : Counter) → S (head_code k) 0
  head_shallow NoCounter = tt
  head_shallow (CountedIn z v down) = ((omega arith, tt), omega (arith, limit))

  head_left : (k : Counter) → depth_behind (head_code k) 0 ≡ 0
  head_left NoCounter = refl
  head_left (CountedIn z v down) = omega arith

  gives_shallow : (k : Counter) → S (gives_next U k) 0
  gives_shallow NoCounter = tt
  gives_shallow (CountedIn z v down) = rises (give_code U v (next_slot z down)) 0 most (omega (arith, give_puts U v (next_slot z down), limit))

  given_left : (v : Given) (slot : ℕ) → left_of (give_code U v slot) 0 ≡ 0
  given_left NoVariable slot = refl
  given_left (GivenTo h range) slot =
      left_both (check_code range) (store U h 0 1 ∷ []) (0 - 0 + 1)
      ∙ (ap (left_of (store U h 0 1 ∷ [])) (check_left range (0 - 0 + 1) (omega arith) ∙ omega arith) ∙ store_left U h 0 1 0)

  gives_left : (k : Counter) → depth_behind (gives_next U k) 0 ≡ 0
  gives_left NoCounter = refl
  gives_left (CountedIn z v down) = given_left v (next_slot z down)

  stepped : (k : Counter) (d : ℕ) → d ≡ 0 → left_of (step_code k) d ≡ 0
  stepped NoCounter d e = e
  stepped (CountedIn z v false) d e = omega (arith, e)
  stepped (CountedIn z v true) d e = omega (arith, e)

  -- a part of a value that is taken

  lifted : (n k m all : ℕ) → m ≤ all → n + k ≤ all → left_of (lift_code n k) m ≤ all
  lifted n zero m all le fits = omega (arith, le)
  lifted n (suc k) m all le fits = omega (arith, le, fits)

  checked : (range : Range) (m all : ℕ) → m ≤ all → 0 < all → left_of (check_code range) m ≤ all
  checked Every m all le some = omega (arith, le)
  checked (From Signed first last) m all le some = omega (arith, le, some)
  checked (From Unsigned first last) m all le some = omega (arith, le, some)

  taken_shallow : (n k : ℕ) (range : Range) (x : Instruction) (m all : ℕ) → m ≤ all → n + k ≤ all → 0 < all → all + 1 ≤ most
      → OwnShallow (lift_code n k ++ (check_code range ++ x ∷ [])) m most
  taken_shallow n k range x m all here fits some le =
      let l = lifted n k m all here fits in
      own_both (lift_code n k) _ m most (lift_shallow n k m most (omega (arith, here, le)))
      (own_both (check_code range) (x ∷ []) _ most (rises (check_code range) _ most (omega (arith, l, check_puts range, le)))
      (omega (arith, checked range _ all l some, le), tt))

  taken_left : (n k : ℕ) (range : Range) (x : Instruction) (m : ℕ)
      → left_of (lift_code n k ++ (check_code range ++ x ∷ [])) m ≡ left_of (x ∷ []) (left_of (check_code range) (left_of (lift_code n k) m))
  taken_left n k range x m =
      left_both (lift_code n k) (check_code range ++ x ∷ []) m ∙ left_both (check_code range) (x ∷ []) (left_of (lift_code n k) m)

  stored : (h : Home) (offset words m : ℕ) → left_of (store U h offset words ∷ []) m ≤ m
  stored (Local n) offset words m = omega arith
  stored (Global n) offset words m = omega arith

  stored_within : (h : Home) (words m : ℕ) → left_of (store_within U h words ∷ []) m ≤ m - 1
  stored_within (Local n) words m = omega arith
  stored_within (Global n) words m = omega arith

  plain_left : (h : Home) (offset words k : ℕ) (range : Range) (m all : ℕ) → m ≤ all → words + k ≤ all → 0 < all
      → left_of (lift_code words k ++ (check_code range ++ store U h offset words ∷ [])) m ≤ all
  plain_left h offset words k range m all here fits some =
      omega (
        arith,
        taken_left words k range (store U h offset words) m,
        stored h offset words (left_of (check_code range) (left_of (lift_code words k) m)),
        checked range (left_of (lift_code words k) m) all (lifted words k m all here fits) some,
      )

  within_taken : (h : Home) (words k : ℕ) (range : Range) (m all : ℕ) → m ≤ all + 1 → words + k ≤ all + 1
      → left_of (lift_code words k ++ (check_code range ++ store_within U h words ∷ [])) m ≤ all
  within_taken h words k range m all here fits =
      omega (
        arith,
        taken_left words k range (store_within U h words) m,
        stored_within h words (left_of (check_code range) (left_of (lift_code words k) m)),
        checked range (left_of (lift_code words k) m) (all + 1) (lifted words k m (all + 1) here fits) (omega arith),
      )

  -- a part that is converted

  narrowed : (a b : Base) (m : ℕ) → left_of (narrow_code a b) m ≡ m - 2 + 1
  narrowed Signed Signed m = omega arith
  narrowed Signed Unsigned m = omega arith
  narrowed Unsigned Signed m = omega arith
  narrowed Unsigned Unsigned m = omega arith

  converted : (c : Conversion) (m all : ℕ) → m ≤ all → words_before c ≤ all → left_of (conversion_code c) m ≤ all - words_before c + words_after c
  unfolding words_before words_after
  converted Kept m all le some = omega (arith, le, some)
  converted (Widened Signed Signed) m all le some = omega (arith, le, some)
  converted (Widened Signed Unsigned) m all le some = omega (arith, le, some)
  converted (Widened Unsigned Signed) m all le some = omega (arith, le, some)
  converted (Widened Unsigned Unsigned) m all le some = omega (arith, le, some)
  converted (Narrowed a b range) m all le some =
      omega (
        arith,
        left_both (narrow_code a b) (check_code range) m,
        checked range (left_of (narrow_code a b) m) (all - 2 + 1) (omega (arith, le, some, narrowed a b m)) (omega arith),
      )
  converted InCommon m all le some = omega (arith, le, some)

  converted_shallow : (n k : ℕ) (c : Conversion) (x : Instruction) (m all : ℕ) → m ≤ all → n + k ≤ all → words_before c ≤ all → all + 4 ≤ most
      → OwnShallow (lift_code n k ++ (conversion_code c ++ x ∷ [])) m most
  converted_shallow n k c x m all here fits some le =
      let l = lifted n k m all here fits in
      own_both (lift_code n k) _ m most (lift_shallow n k m most (omega (arith, here, le)))
      (own_both (conversion_code c) (x ∷ []) _ most (rises (conversion_code c) _ most (omega (arith, l, conversion_puts c, le)))
      (omega (arith, converted c _ all l some, (words_converted_few c).2, le), tt))

  converted_left : (n k : ℕ) (c : Conversion) (x : Instruction) (m : ℕ)
      → left_of (lift_code n k ++ (conversion_code c ++ x ∷ [])) m ≡ left_of (x ∷ []) (left_of (conversion_code c) (left_of (lift_code n k) m))
  converted_left n k c x m =
      left_both (lift_code n k) (conversion_code c ++ x ∷ []) m ∙ left_both (conversion_code c) (x ∷ []) (left_of (lift_code n k) m)

  stored_words : (h : Home) (offset words m : ℕ) → left_of (store U h offset words ∷ []) m ≤ m - words
  stored_words (Local n) offset words m = omega arith
  stored_words (Global n) offset words m = omega arith

  stored_words_within : (h : Home) (words m : ℕ) → left_of (store_within U h words ∷ []) m ≤ m - (words + 1)
  stored_words_within (Local n) words m = omega arith
  stored_words_within (Global n) words m = omega arith

  plain_converted : (h : Home) (offset n k : ℕ) (c : Conversion) (m all : ℕ) → m ≤ all → n + k ≤ all → words_before c ≤ all
      → left_of (lift_code n k ++ (conversion_code c ++ store U h offset (words_after c) ∷ [])) m ≤ all
  plain_converted h offset n k c m all here fits some =
      omega (
        arith,
        converted_left n k c (store U h offset (words_after c)) m,
        stored_words h offset (words_after c) (left_of (conversion_code c) (left_of (lift_code n k) m)),
        converted c (left_of (lift_code n k) m) all (lifted n k m all here fits) some,
      )

  within_converted : (h : Home) (n k : ℕ) (c : Conversion) (m all : ℕ) → m ≤ all + 1 → n + k ≤ all + 1 → words_before c ≤ all + 1
      → left_of (lift_code n k ++ (conversion_code c ++ store_within U h (words_after c) ∷ [])) m ≤ all
  within_converted h n k c m all here fits some =
      omega (
        arith,
        converted_left n k c (store_within U h (words_after c)) m,
        stored_words_within h (words_after c) (left_of (conversion_code c) (left_of (lift_code n k) m)),
        converted c (left_of (lift_code n k) m) (all + 1) (lifted n k m (all + 1) here fits) some,
      )

  -- behind a name one operand may be not counted; three words of room are left over for it, where it has two words or more
  record Both (f : Forms) (n words few : ℕ) : Type 0 where
    value : (d b : ℕ) → d + 3 * n + 32 ≤ most + b → b ≤ 3 * few → b ≤ 3 * (words - 1) → S f.value d
    jump : (sense : Bool) (part d : ℕ) → d + 3 * n + 32 ≤ most → S (f.jump sense part) d

  by_value_both : (b : tree.Block) (n words few : ℕ) → ((d : ℕ) → depth_behind b d ≡ d + words) → words ≤ 2 * n
      → ((d m : ℕ) → d + 3 * n + 32 ≤ most + m → m ≤ 3 * few → m ≤ 3 * (words - 1) → S b d) → Both (by_value b) n words few
  by_value_both b n words few behind_it named v = record {
    value = v;
    jump = λ sense part d le. (v d 0 (omega (arith, le)) (omega arith) (omega arith), omega (arith, behind_it d, named, le));
  }

  module _ (Γ : Scope) (g : HaveWords Γ) where
    arranged_shallow : (z d : ℕ) (places : List ℕ) (es : Exprs) (ks : Kinds) → ExprsIn Γ es ks → d + words_given es ≤ most
        → OwnShallow (arrange_code places (sizes es)) (depth_behind (values U z es) d) most
    arranged_shallow z d places es ks h le =
        let here = values_depth U Γ es ks h z d in
        arrange_shallow places (sizes es) _ most (omega (arith, here, total_given es)) (omega (arith, here, le))

    pair_shallow : (z d : ℕ) (x y : Expr) → ExprIn Γ x a_word → ExprIn Γ y a_word → Both (forms U z x) (operands x) (words_of x) (unnamed x)
        → Both (forms U (z + hidden_expr x) y) (operands y) (words_of y) (unnamed y) → d + 3 * (operands x + operands y) + 32 ≤ most
        → S (forms U z x).value d × S (forms U (z + hidden_expr x) y).value (depth_behind (forms U z x).value d)
    pair_shallow z d x y h k bx by le = (
      bx.value d 0 (omega (arith, le)) (omega arith) (omega arith),
      to (forms U (z + hidden_expr x) y).value _ (d + 1) (word_behind Γ g x h z d)
          (by.value (d + 1) 0 (omega (arith, le, word_named Γ x h)) (omega arith) (omega arith)),
    )

    long_pair_shallow : (z d : ℕ) (x y : Expr) → ExprIn Γ x a_long → ExprIn Γ y a_long → Both (forms U z x) (operands x) (words_of x) (unnamed x)
        → Both (forms U (z + hidden_expr x) y) (operands y) (words_of y) (unnamed y) → d + 3 * (operands x + operands y) + 32 ≤ most
        → S (forms U z x).value d × S (forms U (z + hidden_expr x) y).value (depth_behind (forms U z x).value d)
    long_pair_shallow z d x y h k bx by le = (
      bx.value d 0 (omega (arith, le)) (omega arith) (omega arith),
      to (forms U (z + hidden_expr x) y).value _ (d + 2) (long_behind Γ g x h z d)
          (by.value (d + 2) 0 (omega (arith, le, long_named Γ x h)) (omega arith) (omega arith)),
    )

    long_bounds_named : (range : Interval) → LongIntervalIn Γ range → 2 ≤ operands_of_interval range
    unfolding LongIntervalIn operands_of_interval
    long_bounds_named (Between x p y q) h = omega (arith, long_named Γ x h.0, long_named Γ y h.1)

    asked_left : (z : ℕ) (c : Condition) → ConditionIn Γ c → depth_behind (condition U z c) 0 ≡ 0
    unfolding ConditionIn
    asked_left z Always h = refl
    asked_left z (While e) h = jump_depth U Γ e h false 0 z 0
    asked_left z (Until e) h = jump_depth U Γ e h true 0 z 0

  mutual
    unfolding ExprIn ExprsIn WordsIn SuffixesIn OperationsIn LongOperationsIn IntervalIn LongIntervalIn PhraseIn ArmsIn StmtIn StmtsIn TargetsIn CasesIn TestsIn ExitsIn LoopIn FinishIn ConditionIn CountIn Selects CasesTake TestsTake Fits a_word a_long sound.in_arm sound.in_marked sound.in_labelled words_of words_given unnamed operands operands_of operands_in operands_of_run operands_of_interval operands_of_targets operands_of_tests operands_of_cases operands_of_condition operands_of_loop operands_of_stmt

    forms_shallow : (Γ : Scope) → HaveWords Γ → (z : ℕ) (e : Expr) (ks : Kinds) → ExprIn Γ e ks → Both (forms U z e) (operands e) (words_of e) (unnamed e)
    forms_shallow Γ g z (Number n) ks h =
        by_value_both _ (operands (Number n)) (words_of (Number n)) (unnamed (Number n)) (λ d. value_depth U Γ (Number n) ks h z d) (words_named Γ (Number n) ks h) (λ d b le few least.
        (omega (arith, le, least), tt))
    forms_shallow Γ g z (LongNumber n) ks h =
        by_value_both _ (operands (LongNumber n)) (words_of (LongNumber n)) (unnamed (LongNumber n)) (λ d. value_depth U Γ (LongNumber n) ks h z d) (words_named Γ (LongNumber n) ks h) (λ d b le few least.
        (omega (arith, le, few), (omega (arith, le, few), tt)))
    forms_shallow Γ g z (Literal k) ks h =
        by_value_both _ (operands (Literal k)) (words_of (Literal k)) (unnamed (Literal k)) (λ d. value_depth U Γ (Literal k) ks h z d) (words_named Γ (Literal k) ks h) (λ d b le few least.
        (omega (arith, le, few), tt))
    forms_shallow Γ g z (Variable v s words) ks h =
        by_value_both _ (operands (Variable v s words)) (words_of (Variable v s words)) (unnamed (Variable v s words)) (λ d. value_depth U Γ (Variable v s words) ks h z d) (words_named Γ (Variable v s words) ks h) (λ d b le few least.
        let some = named_words Γ g v s h.0 h.1 words h.2 h.3 h.4 in
        if_shallow (has_index s) _ _ d most
        (λ is. (
          (omega (arith, le, few), tt),
          (
            to (path U z s) _ (d + 1) (omega arith) (path_shallow Γ g z d s h.0 h.1 h.3 (omega (arith, le, least, some))),
            (omega (arith, le, few, behind (path U z s) {m = d - 0 + 1} {n = d + 1} (omega arith) (path_depth U Γ s h.0 h.1 h.3 z d)), tt),
          ),
        ))
        (λ none. (omega (arith, le, few), tt)))
    forms_shallow Γ g z (FieldOf e parts) ks h =
        by_value_both _ (operands (FieldOf e parts)) (words_of (FieldOf e parts)) (unnamed (FieldOf e parts)) (λ d. value_depth U Γ (FieldOf e parts) ks h z d) (words_named Γ (FieldOf e parts) ks h) (λ d b le few least.
        let fit = fields_fit parts h.1 h.2 h.4 in
        let whole = one_is Γ e h.1 h.3 in
        let named = words_named Γ e (one h.1) h.3 in
        let before = words_before_last parts in
        let last = last_words parts in
        let after = words_of e - (before + last) in (
          (forms_shallow Γ g z e (one h.1) h.3).value d 0 (omega (arith, le, few)) (omega arith) (omega arith),
          own_to (field_code before last after) _ (d + before + last + after) most (value_depth U Γ e (one h.1) h.3 z d ∙ omega (arith, fit, whole))
              (field_shallow before last after d most (omega (arith, fit, whole, named, le, few))),
        ))
    forms_shallow Γ g z (LengthOf e) ks h =
        by_value_both _ (operands (LengthOf e)) (words_of (LengthOf e)) (unnamed (LengthOf e)) (λ d. value_depth U Γ (LengthOf e) ks h z d) (words_named Γ (LengthOf e) ks h) (λ d b le few least.
        let two = text_is Γ e h.0 in
        let named = still_named e two (words_named Γ e (one Texts) h.0) in (
          (forms_shallow Γ g z e (one Texts) h.0).value d (3 * unnamed e) (omega (arith, le, few)) (omega arith) (omega (arith, two, unnamed_few e)),
          (omega (arith, value_depth U Γ e (one Texts) h.0 z d, two, named, le, least, unnamed_few e), tt),
        ))
    forms_shallow Γ g z (ByteOf e index) ks h =
        by_value_both _ (operands (ByteOf e index)) (words_of (ByteOf e index)) (unnamed (ByteOf e index)) (λ d. value_depth U Γ (ByteOf e index) ks h z d) (words_named Γ (ByteOf e index) ks h) (λ d b le few least.
        let two = text_is Γ e h.0 in
        let named = still_named e two (words_named Γ e (one Texts) h.0) in
        let here : depth_behind (forms U z e).value d ≡ d + 2 = value_depth U Γ e (one Texts) h.0 z d ∙ ap (λ n. d + n) two in
        let there : depth_behind (forms U (z + hidden_expr e) index).value (depth_behind (forms U z e).value d) ≡ d + 2 + 1 =
        behind (forms U (z + hidden_expr e) index).value here (word_behind Γ g index h.1 (z + hidden_expr e) (d + 2)) in (
          (forms_shallow Γ g z e (one Texts) h.0).value d (3 * unnamed e) (omega (arith, le, few)) (omega arith) (omega (arith, two, unnamed_few e)),
          (
            to (forms U (z + hidden_expr e) index).value _ (d + 2) here
                ((forms_shallow Γ g (z + hidden_expr e) index a_word h.1).value (d + 2) 0 (omega (arith, le, least, unnamed_few e, two, named)) (omega arith) (omega arith)),
            (omega (arith, there, le, least, unnamed_few e, two, named), tt),
          ),
        ))
    forms_shallow Γ g z (Checked range e) ks h =
        by_value_both _ (operands (Checked range e)) (words_of (Checked range e)) (unnamed (Checked range e)) (λ d. value_depth U Γ (Checked range e) ks h z d) (words_named Γ (Checked range e) ks h) (λ d b le few least. (
          (forms_shallow Γ g z e a_word h.1).value d 0 (omega (arith, le, least)) (omega arith) (omega arith),
          rises (check_code range) _ most (omega (arith, word_behind Γ g e h.1 z d, check_puts range, le, least)),
        ))
    forms_shallow Γ g z (Converted c e) ks h =
        by_value_both _ (operands (Converted c e)) (words_of (Converted c e)) (unnamed (Converted c e)) (λ d. value_depth U Γ (Converted c e) ks h z d) (words_named Γ (Converted c e) ks h) (λ d b le few least. (
          (forms_shallow Γ g z e (one h.1) h.4).value d 0 (omega (arith, le, few)) (omega arith) (omega arith),
          rises (conversion_code c) _ most
              (omega (
                arith,
                value_depth U Γ e (one h.1) h.4 z d,
                one_is Γ e h.1 h.4,
                (words_converted c h.1 h.2 h.3).0,
                (words_converted_few c).1,
                conversion_puts c,
                le,
                few,
              )),
        ))
    forms_shallow Γ g z (Operate e os) ks h =
        by_value_both _ (operands (Operate e os)) (words_of (Operate e os)) (unnamed (Operate e os)) (λ d. value_depth U Γ (Operate e os) ks h z d) (words_named Γ (Operate e os) ks h) (λ d b le few least.
        let some = word_named Γ e h.0 in (
          (forms_shallow Γ g z e a_word h.0).value d 0 (omega (arith, le, least)) (omega arith) (omega arith),
          to (operations U (z + hidden_expr e) os) _ (d + 1) (word_behind Γ g e h.0 z d)
              (run_shallow Γ g (z + hidden_expr e) d os h.1 (omega (arith, le, least, some))),
        ))
    forms_shallow Γ g z (OperateLong e os) ks h =
        by_value_both _ (operands (OperateLong e os)) (words_of (OperateLong e os)) (unnamed (OperateLong e os)) (λ d. value_depth U Γ (OperateLong e os) ks h z d) (words_named Γ (OperateLong e os) ks h) (λ d b le few least.
        let some = long_named Γ e h.0 in (
          (forms_shallow Γ g z e a_long h.0).value d 0 (omega (arith, le, few)) (omega arith) (omega arith),
          to (long_operations U (z + hidden_expr e) os) _ (d + 2) (long_behind Γ g e h.0 z d)
              (long_run_shallow Γ g (z + hidden_expr e) d os h.1 (omega (arith, le, few, some))),
        ))
    forms_shallow Γ g z (NegateLong e) ks h =
        by_value_both _ (operands (NegateLong e)) (words_of (NegateLong e)) (unnamed (NegateLong e)) (λ d. value_depth U Γ (NegateLong e) ks h z d) (words_named Γ (NegateLong e) ks h) (λ d b le few least. (
          (forms_shallow Γ g z e a_long h.0).value d 0 (omega (arith, le, few)) (omega arith) (omega arith),
          (omega (arith, long_behind Γ g e h.0 z d, le, few), tt),
        ))
    forms_shallow Γ g z (Negate e) ks h =
        by_value_both _ (operands (Negate e)) (words_of (Negate e)) (unnamed (Negate e)) (λ d. value_depth U Γ (Negate e) ks h z d) (words_named Γ (Negate e) ks h) (λ d b le few least. (
          (forms_shallow Γ g z e a_word h.0).value d 0 (omega (arith, le, least)) (omega arith) (omega arith),
          (omega (arith, word_behind Γ g e h.0 z d, le, least), tt),
        ))
    forms_shallow Γ g z (Within bases e range) ks h =
        by_value_both _ (operands (Within bases e range)) (words_of (Within bases e range)) (unnamed (Within bases e range)) (λ d. value_depth U Γ (Within bases e range) ks h z d) (words_named Γ (Within bases e range) ks h) (λ d b le few least.
        let some = word_named Γ e h.0 in
        let here = word_behind Γ g e h.0 z d in
        let there : depth_behind (bounds U (z + hidden_expr e) range) (depth_behind (forms U z e).value d) ≡ d + 1 + 2 =
        behind (bounds U (z + hidden_expr e) range) here (bounds_depth U Γ range h.1 (z + hidden_expr e) (d + 1)) in (
          (forms_shallow Γ g z e a_word h.0).value d 0 (omega (arith, le, least)) (omega arith) (omega arith),
          (
            to (bounds U (z + hidden_expr e) range) _ (d + 1) here
                (bounds_shallow Γ g (z + hidden_expr e) (d + 1) range h.1 (omega (arith, le, least, some))),
            rises (within_of (scratch U) bases range) _ most (omega (arith, there, within_of_puts (scratch U) bases range, le, least)),
          ),
        ))
    forms_shallow Γ g z (WithinLong bases e range) ks h =
        by_value_both _ (operands (WithinLong bases e range)) (words_of (WithinLong bases e range)) (unnamed (WithinLong bases e range)) (λ d. value_depth U Γ (WithinLong bases e range) ks h z d) (words_named Γ (WithinLong bases e range) ks h) (λ d b le few least.
        let some = long_named Γ e h.0 in
        let more = long_bounds_named Γ g range h.1 in
        let here = long_behind Γ g e h.0 z d in
        let there : depth_behind (bounds U (z + hidden_expr e) range) (depth_behind (forms U z e).value d) ≡ d + 2 + 4 =
        behind (bounds U (z + hidden_expr e) range) here (long_bounds_depth U Γ range h.1 (z + hidden_expr e) (d + 2)) in (
          (forms_shallow Γ g z e a_long h.0).value d 0 (omega (arith, le, few)) (omega arith) (omega arith),
          (
            to (bounds U (z + hidden_expr e) range) _ (d + 2) here
                (long_bounds_shallow Γ g (z + hidden_expr e) (d + 2) range h.1 (omega (arith, le, few, some))),
            rises (long_within_of (scratch U) bases range) _ most
                (omega (arith, there, long_within_of_puts (scratch U) bases range, le, few, some, more)),
          ),
        ))
    forms_shallow Γ g z (Construct places es) ks h =
        by_value_both _ (operands (Construct places es)) (words_of (Construct places es)) (unnamed (Construct places es)) (λ d. value_depth U Γ (Construct places es) ks h z d) (words_named Γ (Construct places es) ks h) (λ d b le few least.
        let named = values_named Γ es h.1 h.5 in (
          values_shallow Γ g z d es h.1 h.5 (omega (arith, le, least, few)),
          arranged_shallow Γ g z d places es h.1 h.5 (omega (arith, named, le, few)),
        ))
    forms_shallow Γ g z (Call callee places es words ph) ks h =
        by_value_both _ (operands (Call callee places es words ph)) (words_of (Call callee places es words ph)) (unnamed (Call callee places es words ph)) (λ d. value_depth U Γ (Call callee places es words ph) ks h z d) (words_named Γ (Call callee places es words ph) ks h) (λ d b le few least.
        let named = values_named Γ es h.1 h.3 in (
          values_shallow Γ g z d es h.1 h.3 (omega (arith, le, least, few)),
          (
            arranged_shallow Γ g z d places es h.1 h.3 (omega (arith, named, le, least, few)),
            (
              omega (arith, arranged U places es _ d (values_depth U Γ es h.1 h.3 z d), named, le, least, few),
              caught_shallow Γ g (z + hidden_exprs es) ph h.7,
            ),
          ),
        ))
    forms_shallow Γ g z (Raise raised places es words ph) ks h =
        by_value_both _ (operands (Raise raised places es words ph)) (words_of (Raise raised places es words ph)) (unnamed (Raise raised places es words ph)) (λ d. value_depth U Γ (Raise raised places es words ph) ks h z d) (words_named Γ (Raise raised places es words ph) ks h) (λ d b le few least.
        let named = values_named Γ es h.1 h.3 in (
          values_shallow Γ g z d es h.1 h.3 (omega (arith, le, least, few)),
          (
            arranged_shallow Γ g z d places es h.1 h.3 (omega (arith, named, le, least, few)),
            (
              omega (arith, arranged U places es _ d (values_depth U Γ es h.1 h.3 z d), named, le, least, few),
              caught_shallow Γ g (z + hidden_exprs es) ph h.6,
            ),
          ),
        ))
    forms_shallow Γ g z (Relate base o x y) ks h =
        let bx = forms_shallow Γ g z x a_word h.0 in
        let by = forms_shallow Γ g (z + hidden_expr x) y a_word h.1 in
        record {
          value = λ d b le few least.
              let both = pair_shallow Γ g z d x y h.0 h.1 bx by (omega (arith, le, least)) in (
                both.0,
                (both.1, rises (relation_code base o) _ most (omega (arith, two_values U Γ x y h.0 h.1 z d, relation_puts base o, le, least))),
              );
          jump = λ sense part d le.
              let both = pair_shallow Γ g z d x y h.0 h.1 bx by le in
              let here = two_values U Γ x y h.0 h.1 z d in (
                both.0,
                (
                  both.1,
                  (
                    rises (comparison base o) _ most (omega (arith, here, comparison_puts base o, le)),
                    omega (arith, ap (left_of (comparison base o)) here ∙ comparison_left U base o d, le),
                  ),
                ),
              );
        }
    forms_shallow Γ g z (RelateLong base o x y) ks h =
        let bx = forms_shallow Γ g z x a_long h.0 in
        let by = forms_shallow Γ g (z + hidden_expr x) y a_long h.1 in
        record {
          value = λ d b le few least.
              let both = long_pair_shallow Γ g z d x y h.0 h.1 bx by (omega (arith, le, few)) in (
                both.0,
                (both.1, rises (long_relation_code base o) _ most (omega (arith, two_longs U Γ x y h.0 h.1 z d, long_relation_puts base o, le, few))),
              );
          jump = λ sense part d le.
              let both = long_pair_shallow Γ g z d x y h.0 h.1 bx by le in
              let here = two_longs U Γ x y h.0 h.1 z d in (
                both.0,
                (
                  both.1,
                  (
                    rises (long_comparison base o) _ most (omega (arith, here, long_comparison_puts base o, le)),
                    omega (arith, ap (left_of (long_comparison base o)) here ∙ long_comparison_left U base o d, le),
                  ),
                ),
              );
        }
    forms_shallow Γ g z (Not e) ks h =
        let f = forms_shallow Γ g z e a_word h.0 in
        record {
          value = λ d b le few least.
              (f.value d 0 (omega (arith, le, least)) (omega arith) (omega arith), (omega (arith, word_behind Γ g e h.0 z d, le, least), tt));
          jump = λ sense part d le. f.jump (not sense) part d le;
        }
    forms_shallow Γ g z (AllOf es) ks h = record {
      value = λ d b le few least.
          let kept = operands_depth U Γ es h.1 false 0 z d in (
            (
              operands_shallow Γ g z d es false 0 h.1 (omega (arith, le, least)),
              ((omega (arith, kept, le, least), tt), omega (arith, kept, le, least)),
            ),
            (omega (arith, le, least), tt),
          );
      jump = λ sense part d le.
          turned_shallow sense (operand_jumps U z es false) part d (λ k. operands_shallow Γ g z d es false k h.1 le)
          (λ k. operands_depth U Γ es h.1 false k z d) (omega (arith, le));
    }
    forms_shallow Γ g z (SomeOf es) ks h = record {
      value = λ d b le few least.
          let kept = operands_depth U Γ es h.1 true 0 z d in (
            (
              operands_shallow Γ g z d es true 0 h.1 (omega (arith, le, least)),
              ((omega (arith, kept, le, least), tt), omega (arith, kept, le, least)),
            ),
            (omega (arith, le, least), tt),
          );
      jump = λ sense part d le.
          turned_shallow (not sense) (operand_jumps U z es true) part d (λ k. operands_shallow Γ g z d es true k h.1 le)
          (λ k. operands_depth U Γ es h.1 true k z d) (omega (arith, le));
    }

    values_shallow : (Γ : Scope) → HaveWords Γ → (z d : ℕ) (es : Exprs) (ks : Kinds) → ExprsIn Γ es ks → d + 3 * operands_of es + 32 ≤ most
        → S (values U z es) d
    values_shallow Γ g z d NoExprs ks h le = tt
    values_shallow Γ g z d (AndExpr e es) ks h le = (
      (forms_shallow Γ g z e (one h.0) h.2).value d 0 (omega (arith, le)) (omega arith) (omega arith),
      to (values U (z + hidden_expr e) es) _ (d + words_of e) (value_depth U Γ e (one h.0) h.2 z d)
          (values_shallow Γ g (z + hidden_expr e) (d + words_of e) es h.1 h.3 (omega (arith, le, words_named Γ e (one h.0) h.2))),
    )

    operands_shallow : (Γ : Scope) → HaveWords Γ → (z d : ℕ) (es : Exprs) (sense : Bool) (part : ℕ) → WordsIn Γ es → d + 3 * operands_of es + 32 ≤ most
        → S (operand_jumps U z es sense part) d
    operands_shallow Γ g z d NoExprs sense part h le = tt
    operands_shallow Γ g z d (AndExpr e es) sense part h le = (
      (forms_shallow Γ g z e a_word h.0).jump sense part d (omega (arith, le)),
      to (operand_jumps U (z + hidden_expr e) es sense part) _ d (jump_depth U Γ e h.0 sense part z d)
          (operands_shallow Γ g (z + hidden_expr e) d es sense part h.1 (omega (arith, le))),
    )

    bounds_shallow : (Γ : Scope) → HaveWords Γ → (z d : ℕ) (range : Interval) → IntervalIn Γ range → d + 3 * operands_of_interval range + 32 ≤ most
        → S (bounds U z range) d
    bounds_shallow Γ g z d (Between x p y q) h le =
        let both = pair_shallow Γ g z d x y h.0 h.1 (forms_shallow Γ g z x a_word h.0) (forms_shallow Γ g (z + hidden_expr x) y a_word h.1) le in
        (both.0, both.1)

    long_bounds_shallow : (Γ : Scope) → HaveWords Γ → (z d : ℕ) (range : Interval) → LongIntervalIn Γ range → d + 3 * operands_of_interval range + 32 ≤ most
        → S (bounds U z range) d
    long_bounds_shallow Γ g z d (Between x p y q) h le =
        let both = long_pair_shallow Γ g z d x y h.0 h.1 (forms_shallow Γ g z x a_long h.0) (forms_shallow Γ g (z + hidden_expr x) y a_long h.1) le in
        (both.0, both.1)

    -- what stands to the left is on the operand stack
    run_shallow : (Γ : Scope) → HaveWords Γ → (z d : ℕ) (os : Operations) → OperationsIn Γ os → d + 1 + 3 * operands_of_run os + 32 ≤ most
        → S (operations U z os) (d + 1)
    run_shallow Γ g z d NoOperation h le = tt
    run_shallow Γ g z d (Then range o e os) h le =
        let here : left_of (check_code range) (d + 1) ≡ d + 1 = check_left range (d + 1) (omega arith) in
        let there : depth_behind (forms U z e).value (left_of (check_code range) (d + 1)) ≡ d + 2 =
        behind (forms U z e).value here (word_behind Γ g e h.1 z (d + 1) ∙ omega arith) in (
          rises (check_code range) (d + 1) most (omega (arith, check_puts range, le)),
          (
            to (forms U z e).value _ (d + 1) here ((forms_shallow Γ g z e a_word h.1).value (d + 1) 0 (omega (arith, le)) (omega arith) (omega arith)),
            (
              rises (operator_code (scratch U) o) _ most (omega (arith, there, operator_puts (scratch U) o, le)),
              to (operations U (z + hidden_expr e) os) _ (d + 1)
                  (own_left (operator_code (scratch U) o) there (own_code_keeps_words.operator none (scratch U) o d))
                  (run_shallow Γ g (z + hidden_expr e) d os h.2 (omega (arith, le))),
            ),
          ),
        )

    long_run_shallow : (Γ : Scope) → HaveWords Γ → (z d : ℕ) (os : Operations) → LongOperationsIn Γ os → d + 2 + 3 * operands_of_run os + 32 ≤ most
        → S (long_operations U z os) (d + 2)
    long_run_shallow Γ g z d NoOperation h le = tt
    long_run_shallow Γ g z d (Then range o e os) h le =
        let there : depth_behind (forms U z e).value (d + 2) ≡ d + 4 = long_behind Γ g e h.2 z (d + 2) ∙ omega arith in (
          (forms_shallow Γ g z e a_long h.2).value (d + 2) 0 (omega (arith, le)) (omega arith) (omega arith),
          (
            rises (long_operator_code o) _ most (omega (arith, there, long_operator_puts o, le)),
            to (long_operations U (z + hidden_expr e) os) _ (d + 2) (own_left (long_operator_code o) there (own_code_keeps_words.long_operator none o d))
                (long_run_shallow Γ g (z + hidden_expr e) d os h.3 (omega (arith, le))),
          ),
        )

    path_shallow : (Γ : Scope) → HaveWords Γ → (z d : ℕ) (s : Suffixes) (j k : Kind) → SuffixesIn Γ s j k → d + 1 + 3 * operands_in s + 32 ≤ most
        → S (path U z s) (d + 1)
    path_shallow Γ g z d NoSuffix j k h le = tt
    path_shallow Γ g z d (Field n offset s) j k h le = path_shallow Γ g z d s h.1 k h.4 le
    path_shallow Γ g z d (Index range first n words e s) j k h le =
        let here : depth_behind (forms U z e).value (d + 1) ≡ d + 2 = word_behind Γ g e h.6 z (d + 1) ∙ omega arith in (
          (forms_shallow Γ g z e a_word h.6).value (d + 1) 0 (omega (arith, le)) (omega arith) (omega arith),
          (
            rises (index_code range first n words) _ most (omega (arith, here, index_puts range first n words, le)),
            to (path U (z + hidden_expr e) s) _ (d + 1) (own_left (index_code range first n words) here (own_code_keeps_words.index none range first n words d))
                (path_shallow Γ g (z + hidden_expr e) d s h.0 k h.7 (omega (arith, le))),
          ),
        )

    caught_shallow : (Γ : Scope) → HaveWords Γ → (z : ℕ) (ph : Phrase) → PhraseIn Γ ph → ArmsShallow (caught_by U z ph) most
    caught_shallow Γ g z NoPhrase h = tt
    caught_shallow Γ g z (Catch n arms) h = arms_shallow Γ g z n arms h.3

    arms_shallow : (Γ : Scope) → HaveWords Γ → (z n : ℕ) (arms : Arms) → ArmsIn Γ n arms → ArmsShallow (arm_blocks U z arms) most
    arms_shallow Γ g z n NoArms h = tt
    arms_shallow Γ g z n (AndArm labels first count s arms) h =
        let Γ1 = sound.in_arm n labels Γ in (
          block_shallow Γ1 g z s h.5,
          omega (arith, keeps U Γ1 g s h.5 z 0),
          arms_shallow Γ g (z + hidden s) n arms h.6,
        )

    pub block_shallow : (Γ : Scope) → HaveWords Γ → (z : ℕ) (s : Stmt) → StmtIn Γ s → S (block U z s) 0
    block_shallow Γ g z Null h = tt
    block_shallow Γ g z (Marked n s) h = block_shallow (sound.in_marked n Γ) g z s h.1
    block_shallow Γ g z (Declare hs k) h = rises (zero_code U hs (words_in k)) 0 most (omega (arith, zero_puts U hs (words_in k)))
    block_shallow Γ g z (DeclareAs hs k e) h =
        let none = zero_left U hs (words_in k) 0 in
        let words = one_is Γ e k h.3 in
        let named = words_named Γ e (one k) h.3 in (
          rises (zero_code U hs (words_in k)) 0 most (omega (arith, zero_puts U hs (words_in k))),
          (
            to (forms U z e).value _ 0 none ((forms_shallow Γ g z e (one k) h.3).value 0 0 (omega (arith, h.0, limit)) (omega arith) (omega arith)),
            own_to (spread_code U hs (words_in k)) _ (0 + words_in k) most
                (behind (forms U z e).value none (value_depth U Γ e (one k) h.3 z 0) ∙ ap (λ n. 0 + n) words)
                (spread_shallow U hs (words_in k) 0 most (omega (arith, h.0, words, named, limit))),
          ),
        )
    block_shallow Γ g z (Assign v s e) h =
        let named = words_named Γ e (one h.2) h.5 in
        if_shallow (has_index s) _ _ 0 most
        (λ is.
        let here : depth_behind (path U z s) (0 - 0 + 1) ≡ 0 + 1 =
        behind (path U z s) {m = 0 - 0 + 1} {n = 0 + 1} (omega arith) (path_depth U Γ s h.1 h.2 h.4 z 0) in (
          (omega arith, tt),
          (
            to (path U z s) _ (0 + 1) (omega arith) (path_shallow Γ g z 0 s h.1 h.2 h.4 (omega (arith, h.0, limit, named_words Γ g v s h.1 h.2 (words_of e) h.3 h.4 (one_is Γ e h.2 h.5)))),
            (
              to (forms U (z + hidden_suffixes s) e).value _ (0 + 1) here
                  ((forms_shallow Γ g (z + hidden_suffixes s) e (one h.2) h.5).value (0 + 1) 0 (omega (arith, h.0, limit, named_words Γ g v s h.1 h.2 (words_of e) h.3 h.4 (one_is Γ e h.2 h.5))) (omega arith) (omega arith)),
              (
                omega (
                  arith,
                  behind (forms U (z + hidden_suffixes s) e).value here (value_depth U Γ e (one h.2) h.5 (z + hidden_suffixes s) (0 + 1)),
                  h.0,
                  limit,
                  named,
                  named_words Γ g v s h.1 h.2 (words_of e) h.3 h.4 (one_is Γ e h.2 h.5),
                ),
                tt,
              ),
            ),
          ),
        ))
        (λ none. (
          (forms_shallow Γ g z e (one h.2) h.5).value 0 0 (omega (arith, h.0, limit)) (omega arith) (omega arith),
          (omega (arith, value_depth U Γ e (one h.2) h.5 z 0, h.0, limit, named), tt),
        ))
    block_shallow Γ g z (Extract true ts e) h =
        let named = words_named Γ e (one (Record h.2)) h.3 in (
          (forms_shallow Γ g (z + hidden_targets ts) e (one (Record h.2)) h.3).value 0 0 (omega (arith, h.0, limit)) (omega arith) (omega arith),
          to (targets U z (words_of e) [] ts) _ (words_of e) (value_depth U Γ e (one (Record h.2)) h.3 (z + hidden_targets ts) 0 ∙ omega arith)
              (targets_shallow Γ g z (words_of e) (words_of e) [] ts h.2 (omega arith) (omega (arith, record_words U Γ e h.2 h.3))
              (omega (arith, h.0, limit, named)) h.4),
        )
    block_shallow Γ g z (Extract false ts e) h =
        let named = words_named Γ e h.3 h.4 in (
          (forms_shallow Γ g (z + hidden_targets ts) e h.3 h.4).value 0 0 (omega (arith, h.0, limit)) (omega arith) (omega arith),
          to (targets U z (words_of e) [] ts) _ (words_of e) (value_depth U Γ e h.3 h.4 (z + hidden_targets ts) 0 ∙ omega arith)
              (targets_shallow Γ g z (words_of e) (words_of e) [] ts h.3 (omega arith) (omega (arith, sizes_agree.of_expression Γ e h.3 h.4))
              (omega (arith, h.0, limit, named)) h.5),
        )
    block_shallow Γ g z (Perform e) h = (
      (forms_shallow Γ g z e h.2 h.3).value 0 0 (omega (arith, h.0, limit)) (omega arith) (omega arith),
      rises (pop_code (words_of e)) _ most (omega (arith, value_depth U Γ e h.2 h.3 z 0, pop_puts (words_of e), words_named Γ e h.2 h.3, h.0, limit)),
    )
    block_shallow Γ g z (If e s t) h =
        let B = block U (z + hidden_expr e) s in
        let here = jump_depth U Γ e h.1 false 0 z 0 in
        let there = behind B here (keeps U Γ g s h.2 (z + hidden_expr e) 0) in (
          (
            (forms_shallow Γ g z e a_word h.1).jump false 0 0 (omega (arith, h.0, limit)),
            (
              to B _ 0 here (block_shallow Γ g (z + hidden_expr e) s h.2),
              past_else_shallow t 1 _ (omega (arith, there)),
            ),
          ),
          block_shallow Γ g (z + (hidden_expr e + hidden s)) t h.3,
        )
    block_shallow Γ g z (Select e (Otherwise s)) h =
        let named = words_named Γ e (one h.0) h.2 in
        let here = value_depth U Γ e (one h.0) h.2 (z + 1) 0 in (
          (forms_shallow Γ g (z + 1) e (one h.0) h.2).value 0 0 (omega (arith, h.1, limit)) (omega arith) (omega arith),
          (
            rises (pop_code (words_of e)) _ most (omega (arith, here, pop_puts (words_of e), named, h.1, limit)),
            to (block U (z + (1 + hidden_expr e)) s) _ 0 (ap (left_of (pop_code (words_of e))) here ∙ pop_left (words_of e) 0)
                (block_shallow Γ g (z + (1 + hidden_expr e)) s h.4),
          ),
        )
    block_shallow Γ g z (Select e (AndCase ts s cs)) h =
        let one_word : words_of e ≡ 1 = ordinal_word U Γ e h.0 h.2 (h.3).0 in
        let here = value_depth U Γ e (one h.0) h.2 (z + 1) 0 in
        let none : left_of (i.StoreL z 1 ∷ []) (depth_behind (forms U (z + 1) e).value 0) ≡ 0 = omega (arith, here, one_word) in
        let z1 = z + (1 + hidden_expr e) in
        let rest = a_case (tests U z1 z ts) (block U (z1 + hidden_tests ts) s) (past_cases cs 1) ▹ cases U (z1 + (hidden_tests ts + hidden s)) z cs in (
          (forms_shallow Γ g (z + 1) e (one h.0) h.2).value 0 0 (omega (arith, h.1, limit)) (omega arith) (omega arith),
          (
            (omega (arith, here, one_word, limit), tt),
            to rest _ 0 none (
              (
                tests_shallow Γ g z1 z Ordinal ts (omega (arith, h.1)) ((h.3).1).0 (h.4).1,
                (
                  block_shallow Γ g (z1 + hidden_tests ts) s (h.4).2,
                  past_cases_shallow cs 1 _ (omega (arith, keeps U Γ g s (h.4).2 (z1 + hidden_tests ts) 0)),
                ),
              ),
              cases_shallow Γ g (z1 + (hidden_tests ts + hidden s)) z Ordinal cs (omega (arith, h.1)) ((h.3).1).1 (h.4).3,
            ),
          ),
        )
    block_shallow Γ g z (SelectLong e (Otherwise s)) h =
        let here = long_behind Γ g e h.1 (z + 2) 0 in
        let two = long_is Γ e h.1 in (
          (forms_shallow Γ g (z + 2) e a_long h.1).value 0 0 (omega (arith, h.0, limit)) (omega arith) (omega arith),
          (
            rises (pop_code (words_of e)) _ most (omega (arith, here, pop_puts (words_of e), limit)),
            to (block U (z + (2 + hidden_expr e)) s) _ 0
                (ap (left_of (pop_code (words_of e))) (value_depth U Γ e a_long h.1 (z + 2) 0) ∙ pop_left (words_of e) 0)
                (block_shallow Γ g (z + (2 + hidden_expr e)) s h.3),
          ),
        )
    block_shallow Γ g z (SelectLong e (AndCase ts s cs)) h =
        let here = long_behind Γ g e h.1 (z + 2) 0 in
        let none : left_of (i.StoreL z 2 ∷ []) (depth_behind (forms U (z + 2) e).value 0) ≡ 0 = omega (arith, here) in
        let z1 = z + (2 + hidden_expr e) in
        let rest = a_case (tests U z1 z ts) (block U (z1 + hidden_tests ts) s) (past_cases cs 1) ▹ cases U (z1 + (hidden_tests ts + hidden s)) z cs in (
          (forms_shallow Γ g (z + 2) e a_long h.1).value 0 0 (omega (arith, h.0, limit)) (omega arith) (omega arith),
          (
            (omega (arith, here, limit), tt),
            to rest _ 0 none (
              (
                tests_shallow Γ g z1 z Longs ts (omega (arith, h.0)) (h.2).0 (h.3).1,
                (
                  block_shallow Γ g (z1 + hidden_tests ts) s (h.3).2,
                  past_cases_shallow cs 1 _ (omega (arith, keeps U Γ g s (h.3).2 (z1 + hidden_tests ts) 0)),
                ),
              ),
              cases_shallow Γ g (z1 + (hidden_tests ts + hidden s)) z Longs cs (omega (arith, h.0)) (h.2).1 (h.3).3,
            ),
          ),
        )
    block_shallow Γ g z (Block ph ss es) h =
        let Γ1 = sound.in_labelled h.0 es Γ in
        let z1 = z + hidden_phrase ph in
        exits_shallow Γ g (z + (hidden_phrase ph + hidden_stmts ss)) es _ h.4 (
          enabled_shallow (caught_by U z ph) (blocks U z1 ss) 0 most (caught_shallow Γ1 g z ph h.2) (blocks_shallow Γ1 g z1 ss h.3),
          past_exits_shallow es 0 _ (omega (arith, enabled_depth (caught_by U z ph) (blocks U z1 ss) 0, keeps_all U Γ1 g ss h.3 z1 0)),
        )
    block_shallow Γ g z (Repeat Endless l) h = loop_shallow Γ g z NoCounter l (omega (arith, h.0)) h.2
    block_shallow Γ g z (Repeat (Counting v down left next) l) h = absurd h.1
    block_shallow Γ g z (For v down base range l) h =
        let here = bounds_depth U Γ range h.2 (z + 3) 0 in (
          bounds_shallow Γ g (z + 3) 0 range h.2 (omega (arith, h.0, limit)),
          (
            rises (start_of z base range) _ most (omega (arith, here, start_of_puts z base range, limit)),
            to (loop U (z + (3 + hidden_interval range)) (CountedIn z v down) l) _ 0 (ap (left_of (start_of z base range)) here ∙ start_left z base range 0)
                (loop_shallow Γ g (z + (3 + hidden_interval range)) (CountedIn z v down) l (omega (arith, h.0)) h.3),
          ),
        )
    block_shallow Γ g z (Jump arms goal) h = omega arith
    block_shallow Γ g z (ReturnWith arms first places es) h =
        let named = values_named Γ es h.2 h.5 in
        let here = values_depth U Γ es h.2 h.5 z 0 in
        let last = i.StoreL (local_slot U first) (words_given es) in (
          values_shallow Γ g z 0 es h.2 h.5 (omega (arith, h.0, limit)),
          (
            own_both (arrange_code places (sizes es)) (last ∷ []) _ most (arranged_shallow Γ g z 0 places es h.2 h.5 (omega (arith, named, h.0, limit)))
                (omega (arith, arranged U places es _ 0 here, named, h.0, limit), tt),
            omega (arith, ap (left_of (arrange_code places (sizes es) ++ last ∷ [])) here, arranged_taken U places es last 0 (omega arith)),
          ),
        )
    block_shallow Γ g z (Resume places es) h =
        let named = values_named Γ es h.1 h.5 in (
          values_shallow Γ g z 0 es h.1 h.5 (omega (arith, h.0, limit)),
          own_both (arrange_code places (sizes es)) _ _ most (arranged_shallow Γ g z 0 places es h.1 h.5 (omega (arith, named, h.0, limit)))
              (omega (arith, arranged U places es _ 0 (values_depth U Γ es h.1 h.5 z 0), named, h.0, limit), tt),
        )
    block_shallow Γ g z Reject h = (omega arith, tt)
    block_shallow Γ g z (Retry n) h = omega arith
    block_shallow Γ g z (Continue n) h = omega arith

    blocks_shallow : (Γ : Scope) → HaveWords Γ → (z : ℕ) (ss : Stmts) → StmtsIn Γ ss → S (blocks U z ss) 0
    blocks_shallow Γ g z NoStmts h = tt
    blocks_shallow Γ g z (AndStmt s ss) h =
        (block_shallow Γ g z s h.0, to (blocks U (z + hidden s) ss) _ 0 (keeps U Γ g s h.0 z 0) (blocks_shallow Γ g (z + hidden s) ss h.1))

    -- at most all words of the value are there
    targets_shallow : (Γ : Scope) → HaveWords Γ → (z all m : ℕ) (taken : List Part) (ts : Targets) (ks : Kinds) → m ≤ all → words_in_all ks ≤ all
        → all + 1 + 3 * operands_of_targets ts + 32 ≤ most → TargetsIn Γ ts ks → S (targets U z all taken ts) m
    targets_shallow Γ g z all m taken NoTargets ks here whole le h =
        rises (pop_code (all - words_taken taken)) m most (omega (arith, pop_puts (all - words_taken taken), here, le))
    targets_shallow Γ g z all m taken (AndTarget p v s range ts) ks here whole le h =
        let part = (kind_lies ks p.field h.0 (h.2).is_there).1 in
        let over = words_over all taken p in
        let some = named_words Γ g v s h.1 h.0 p.words h.4 h.5 h.3 in
        if_shallow (has_index s) _ _ m most
        (λ is.
        let above : depth_behind (path U z s) (m - 0 + 1) ≡ m + 1 =
        behind (path U z s) {m = m - 0 + 1} {n = m + 1} (omega arith) (path_depth U Γ s h.1 h.0 h.5 z m) in (
          (omega (arith, here, le), tt),
          (
            to (path U z s) _ (m + 1) (omega arith) (path_shallow Γ g z m s h.1 h.0 h.5 (omega (arith, here, le))),
            (
              taken_shallow p.words (suc over) range (store_within U v p.words) _ (all + 1) (omega (arith, above, here)) (omega (arith, part, whole, h.3)) (omega arith)
                  (omega (arith, le)),
              targets_shallow Γ g (z + hidden_suffixes s) all _ (p ∷ taken) ts ks
                  (within_taken v p.words (suc over) range _ all (omega (arith, above, here)) (omega (arith, part, whole, h.3))) whole (omega (arith, le)) h.7,
            ),
          ),
        ))
        (λ none. (
          taken_shallow p.words over range (store U v (fields_of s) p.words) m all here (omega (arith, part, whole, h.3)) (omega (arith, some, part, whole, h.3))
              (omega (arith, le)),
          targets_shallow Γ g z all _ (p ∷ taken) ts ks
              (plain_left v (fields_of s) p.words over range m all here (omega (arith, part, whole, h.3)) (omega (arith, some, part, whole, h.3))) whole
              (omega (arith, le)) h.7,
        ))
    targets_shallow Γ g z all m taken (AndConverted p v s c ts) ks here whole le h =
        let part = (kind_lies ks p.field h.0 (h.3).is_there).1 in
        let over = words_over all taken p in
        let before = (words_converted c h.0 h.1 h.6).0 in
        if_shallow (has_index s) _ _ m most
        (λ is.
        let above : depth_behind (path U z s) (m - 0 + 1) ≡ m + 1 =
        behind (path U z s) {m = m - 0 + 1} {n = m + 1} (omega arith) (path_depth U Γ s h.2 h.1 h.8 z m) in (
          (omega (arith, here, le), tt),
          (
            to (path U z s) _ (m + 1) (omega arith) (path_shallow Γ g z m s h.2 h.1 h.8 (omega (arith, here, le))),
            (
              converted_shallow p.words (suc over) c (store_within U v (words_after c)) _ (all + 1) (omega (arith, above, here)) (omega (arith, part, whole, h.4))
                  (omega (arith, before, part, whole)) (omega (arith, le)),
              targets_shallow Γ g (z + hidden_suffixes s) all _ (p ∷ taken) ts ks
                  (within_converted v p.words (suc over) c _ all (omega (arith, above, here)) (omega (arith, part, whole, h.4)) (omega (arith, before, part, whole))) whole
                  (omega (arith, le)) h.9,
            ),
          ),
        ))
        (λ none. (
          converted_shallow p.words over c (store U v (fields_of s) (words_after c)) m all here (omega (arith, part, whole, h.4)) (omega (arith, before, part, whole))
              (omega (arith, le)),
          targets_shallow Γ g z all _ (p ∷ taken) ts ks
              (plain_converted v (fields_of s) p.words over c m all here (omega (arith, part, whole, h.4)) (omega (arith, before, part, whole))) whole
              (omega (arith, le)) h.9,
        ))

    cases_shallow : (Γ : Scope) → HaveWords Γ → (z x : ℕ) (k : Kind) (cs : Cases) → operands_of_cases cs ≤ OPERAND_WORDS → CasesTake k cs → CasesIn Γ cs → S (cases U z x cs) 0
    cases_shallow Γ g z x k (Otherwise s) le take h = block_shallow Γ g z s h
    cases_shallow Γ g z x k (AndCase ts s cs) le take h = (
      (
        tests_shallow Γ g z x k ts (omega (arith, le)) take.0 h.1,
        (
          block_shallow Γ g (z + hidden_tests ts) s h.2,
          past_cases_shallow cs 1 _ (omega (arith, keeps U Γ g s h.2 (z + hidden_tests ts) 0)),
        ),
      ),
      cases_shallow Γ g (z + (hidden_tests ts + hidden s)) x k cs (omega (arith, le)) take.1 h.3,
    )

    tests_shallow : (Γ : Scope) → HaveWords Γ → (z x : ℕ) (k : Kind) (ts : Tests) → operands_of_tests ts ≤ OPERAND_WORDS → TestsTake k ts → TestsIn Γ ts
        → S (tests U z x ts) 0
    tests_shallow Γ g z x k NoTests le take h = omega arith
    tests_shallow Γ g z x k (IfRelated range base o e ts) le take h =
        let E = (forms U z e).value in
        let some = word_named Γ e h.1 in
        let one_more : left_of (check_code range) (0 - 0 + 1) ≡ 0 + 1 = check_left range (0 - 0 + 1) (omega arith) ∙ omega arith in
        let two : depth_behind E (left_of (check_code range) (0 - 0 + 1)) ≡ 0 + 2 = behind E one_more (word_behind Γ g e h.1 z (0 + 1) ∙ omega arith) in
        let after = ap (left_of (comparison base o)) two ∙ comparison_left U base o 0 in (
          (
            rises (i.LoadL x 1 ∷ check_code range) 0 most (omega (arith, check_puts range, limit)),
            (
              to E _ (0 + 1) one_more ((forms_shallow Γ g z e a_word h.1).value (0 + 1) 0 (omega (arith, le, limit)) (omega arith) (omega arith)),
              (
                rises (comparison base o) _ most (omega (arith, two, comparison_puts base o, limit)),
                omega (arith, after, limit),
              ),
            ),
          ),
          unless_shallow (is_last ts) _ _ most
              (to (tests U (z + hidden_expr e) x ts) _ 0 (omega (arith, after)) (tests_shallow Γ g (z + hidden_expr e) x k ts (omega (arith, le)) take.1 h.2)),
        )
    tests_shallow Γ g z x k (IfWithin negated bases range ts) le take h =
        let bounds_there : depth_behind (bounds U z range) (0 - 0 + 1) ≡ 0 + 3 =
        behind (bounds U z range) {m = 0 - 0 + 1} {n = 0 + 1} (omega arith) (bounds_depth U Γ range h.0 z (0 + 1) ∙ omega arith) in
        let after = within_left U bases range _ 0 bounds_there in (
          (
            (omega arith, tt),
            (
              to (bounds U z range) _ (0 + 1) (omega arith) (bounds_shallow Γ g z (0 + 1) range h.0 (omega (arith, le, limit))),
              (
                rises (within_of (scratch U) bases range) _ most (omega (arith, bounds_there, within_of_puts (scratch U) bases range, limit)),
                omega (arith, after, limit),
              ),
            ),
          ),
          unless_shallow (is_last ts) _ _ most
              (to (tests U (z + hidden_interval range) x ts) _ 0 (omega (arith, after)) (tests_shallow Γ g (z + hidden_interval range) x k ts (omega (arith, le)) take.1 h.1)),
        )
    tests_shallow Γ g z x k (IfRelatedLong c base o e ts) le take h =
        let E = (forms U z e).value in
        let two_more : left_of (conversion_code c) (0 - 0 + words_before c) ≡ 0 + 2 =
        own_left (conversion_code c) {n = 0 + words_before c} (omega arith) (own_code_keeps_words.conversion none c 0)
        ∙ ap (λ n. 0 + n) (makes_long c k take.0) in
        let four : depth_behind E (left_of (conversion_code c) (0 - 0 + words_before c)) ≡ 0 + 4 = behind E two_more (long_behind Γ g e h.0 z (0 + 2) ∙ omega arith) in
        let after = ap (left_of (long_comparison base o)) four ∙ long_comparison_left U base o 0 in (
          (
            rises (i.LoadL x (words_before c) ∷ conversion_code c) 0 most (omega (arith, conversion_puts c, (words_converted_few c).1, limit)),
            (
              to E _ (0 + 2) two_more ((forms_shallow Γ g z e a_long h.0).value (0 + 2) 0 (omega (arith, le, limit)) (omega arith) (omega arith)),
              (
                rises (long_comparison base o) _ most (omega (arith, four, long_comparison_puts base o, limit)),
                omega (arith, after, limit),
              ),
            ),
          ),
          unless_shallow (is_last ts) _ _ most
              (to (tests U (z + hidden_expr e) x ts) _ 0 (omega (arith, after)) (tests_shallow Γ g (z + hidden_expr e) x k ts (omega (arith, le)) take.1 h.1)),
        )
    tests_shallow Γ g z x k (IfWithinLong negated c bases range ts) le take h =
        let two_more : left_of (conversion_code c) (0 - 0 + words_before c) ≡ 0 + 2 =
        own_left (conversion_code c) {n = 0 + words_before c} (omega arith) (own_code_keeps_words.conversion none c 0)
        ∙ ap (λ n. 0 + n) (makes_long c k take.0) in
        let bounds_there : depth_behind (bounds U z range) (left_of (conversion_code c) (0 - 0 + words_before c)) ≡ 0 + 6 =
        behind (bounds U z range) two_more (long_bounds_depth U Γ range h.0 z (0 + 2) ∙ omega arith) in
        let after = long_within_left U bases range _ 0 bounds_there in (
          (
            rises (i.LoadL x (words_before c) ∷ conversion_code c) 0 most (omega (arith, conversion_puts c, (words_converted_few c).1, limit)),
            (
              to (bounds U z range) _ (0 + 2) two_more (long_bounds_shallow Γ g z (0 + 2) range h.0 (omega (arith, le, limit))),
              (
                rises (long_within_of (scratch U) bases range) _ most (omega (arith, bounds_there, long_within_of_puts (scratch U) bases range, limit)),
                omega (arith, after, limit),
              ),
            ),
          ),
          unless_shallow (is_last ts) _ _ most
              (to (tests U (z + hidden_interval range) x ts) _ 0 (omega (arith, after)) (tests_shallow Γ g (z + hidden_interval range) x k ts (omega (arith, le)) take.1 h.1)),
        )

    exits_shallow : (Γ : Scope) → HaveWords Γ → (z : ℕ) (es : Exits) (before : tree.Block) → ExitsIn Γ es → S before 0 → S (exits U z es before) 0
    exits_shallow Γ g z NoExits before h k = k
    exits_shallow Γ g z (AndExit ls s es) before h k =
        exits_shallow Γ g (z + hidden s) es _ h.2
        (k, (block_shallow Γ g z s h.1, past_exits_shallow es 0 _ (omega (arith, keeps U Γ g s h.1 z 0))))

    loop_shallow : (Γ : Scope) → HaveWords Γ → (z : ℕ) (k : Counter) (l : Loop) → operands_of_loop l ≤ OPERAND_WORDS → LoopIn Γ l → S (loop U z k l) 0
    loop_shallow Γ g z k (LoopOf cond s es fin) le h =
        let Γ1 = sound.in_labelled h.0 es Γ in
        let C = condition U z cond in
        let B = block U (z + hidden_condition cond) s in
        let one_is_none = head_left k in
        let given = behind (gives_next U k) one_is_none (gives_left k) in
        let asked = behind C given (asked_left Γ g z cond h.2) in
        let done = behind B asked (keeps U Γ1 g s h.3 (z + hidden_condition cond) 0) in
        exits_shallow Γ g (z + (hidden_condition cond + hidden s)) es _ h.4 (
          (
            (
              head_shallow k,
              (
                to (gives_next U k) _ 0 one_is_none (gives_shallow k),
                (
                  to C _ 0 given (condition_shallow Γ g z cond le h.2),
                  (
                    to B _ 0 asked (block_shallow Γ1 g (z + hidden_condition cond) s h.3),
                    rises (step_code k) _ most (omega (arith, done, step_puts k, limit)),
                  ),
                ),
              ),
            ),
            omega (arith, stepped k _ done),
          ),
          unless_shallow (is_endless k cond) _ _ most
              (finish_shallow Γ g (z + (hidden_condition cond + hidden s + hidden_exits es)) es fin h.5),
        )

    condition_shallow : (Γ : Scope) → HaveWords Γ → (z : ℕ) (c : Condition) → operands_of_condition c ≤ OPERAND_WORDS → ConditionIn Γ c
        → S (condition U z c) 0
    condition_shallow Γ g z Always le h = tt
    condition_shallow Γ g z (While e) le h = (forms_shallow Γ g z e a_word h).jump false 0 0 (omega (arith, le, limit))
    condition_shallow Γ g z (Until e) le h = (forms_shallow Γ g z e a_word h).jump true 0 0 (omega (arith, le, limit))

    finish_shallow : (Γ : Scope) → HaveWords Γ → (z : ℕ) (es : Exits) (fin : Finish) → FinishIn Γ fin → S (finish U z es fin) 0
    finish_shallow Γ g z es NoFinish h = past_exits_shallow es 0 0 (omega arith)
    finish_shallow Γ g z es (Finished s) h =
        (block_shallow Γ g z s h, past_exits_shallow es 0 _ (omega (arith, keeps U Γ g s h z 0)))
