-- The code of the block of a sound construct stands for the construct.
use Rattle.std.proofs.Common.{◌≡◌, refl, sym, subst, ℕ, ◌+◌, List, [], ◌∷◌, true, false, arith}
use Rattle.mesa_types.specs.declared.typed_parts.Label.{Label}
use Rattle.mesa_types.specs.Typed.{Kind, Ordinal, Longs, Record, Kinds, Start, After, Expr, Number, LongNumber, Literal, Variable, FieldOf, LengthOf, ByteOf, Checked, Converted, Operate, OperateLong, Negate, NegateLong, Relate, RelateLong, Within, WithinLong, Not, AllOf, SomeOf, Construct, Call, Raise, Exprs, NoExprs, AndExpr, Suffixes, NoSuffix, Field, Index, Operations, NoOperation, Then, Between, Phrase, NoPhrase, Catch, Arms, NoArms, AndArm, Stmt, Null, Marked, Declare, DeclareAs, Assign, Extract, Perform, If, Select, SelectLong, Block, Repeat, Endless, Counting, For, Jump, ReturnWith, Resume, Reject, Retry, Continue, Stmts, NoStmts, AndStmt, Targets, NoTargets, AndTarget, AndConverted, Cases, Otherwise, AndCase, Tests, NoTests, IfRelated, IfWithin, IfRelatedLong, IfWithinLong, Exits, NoExits, AndExit, Loop, LoopOf, Finish, NoFinish, Finished, Condition, Always, While, Until, Texts}
use Rattle.mesa_types.specs.Counts.{hidden}
use Rattle.mesa_types.specs.Shapes.{one}
use Rattle.mesa_types.specs.Sound as sound
use Rattle.mesa_types.specs.Sound.{Scope, a_word, a_long, CountIn, TestsTake, CasesTake, Selects, Reaches, ExprIn, ExprsIn, WordsIn, SuffixesIn, OperationsIn, LongOperationsIn, IntervalIn, LongIntervalIn, PhraseIn, ArmsIn, StmtIn, StmtsIn, TargetsIn, CasesIn, TestsIn, ExitsIn, LoopIn, FinishIn, ConditionIn}
use Rattle.code_forms.specs.declared.instruction.Instruction.TheVariants as i
use Rattle.code_rules.specs.CodeFor.{no_arms, and_arm}
use Rattle.code_rules.specs.Loops.{Counter, NoCounter, CountedIn}
use Rattle.code_rules.specs.Reading.{Coded, beyond, in_region}
use Rattle.code_blocks.specs.Blocks.{Does}
use Rattle.code_blocks.specs.Sizes.{size, depth_behind}
use Rattle.code_blocks.specs.Translation.{block}
use Rattle.code_blocks.specs.Writing.{in_arms, region}
use Rattle.mesa_types.proofs.WordSizes.{sizes_agree}
use Rattle.code_blocks.proofs.ExtractRows.{HaveWords, Paths, extract_row}
use Rattle.code_blocks.proofs.Keeping.{record_words, keeps, keeps_all}
use Rattle.code_blocks.proofs.Known.{known_in_arm}
use Rattle.code_blocks.proofs.Lying.{Laid, laid, own_lies}
use Rattle.code_blocks.proofs.Values.{makes_long}
use Rattle.code_blocks.proofs.ExpressionRows.{next, Value, Jumped, Values, Operands, Run, LongRun, Path, number_row, long_number_row, literal_row, length_row, byte_row, checked_row, converted_row, negate_row, negate_long_row, negation_row, relate_row, relate_long_row, variable_row, field_row, operate_row, operate_long_row, no_operation_row, operation_row, no_long_operation_row, long_operation_row, here_row, field_path_row, index_row, within_row, within_long_row, no_values_row, and_value_row, construct_row}
use Rattle.code_blocks.proofs.ConditionRows.{on_value_row, on_relation_row, on_long_relation_row, on_negation_row, no_operands_row, and_operand_row, all_jump_row, some_jump_row, all_of_row, some_of_row}
use Rattle.code_blocks.proofs.CallRows.{Held, Armed, Phrased, call_row, raise_row}
use Rattle.code_blocks.proofs.StatementRows.{Stands, AllStand, marked_row, null_row, declare_row, declare_as_row, perform_row, assign_row, if_row, jump_row, retry_row, continue_row, reject_row, resume_row, return_row, no_statements_row, and_statement_row}
use Rattle.code_blocks.proofs.CaseRows.{Tested, Cased, no_test_row, related_row, lies_row, long_related_row, long_lies_row, otherwise_row, and_case_row, select_row, select_none_row, select_long_row, select_long_none_row}
use Rattle.code_blocks.proofs.LabelRows.{ExitsStand}
use Rattle.code_blocks.proofs.BlockRows.{block_row}
use Rattle.code_blocks.proofs.LoopRows.{Asked, Done, Looped, rounds_row, loop_row, for_row}

module _ (S : Laid) (held : Held S) where
  abbrev pub U : Coded
  U = S.names

  abbrev pub P : Coded
  P = laid S

  -- a value stands, and its jump
  pub record Both (Γ : Scope) (e : Expr) : Type 0 where
    pub value : Value S Γ e
    pub jump : Jumped S Γ e

  arm_row : (Γ : Scope) (n : ℕ) (labels : List Label) (first count : ℕ) (s : Stmt) (arms : Arms) → Reaches Γ 0 (Start n) → Reaches Γ 0 (After n)
      → ((z d : ℕ) → depth_behind (block U z s) d ≡ d) → Stands S (sound.in_arm n labels Γ) s → Armed S held Γ arms
      → Armed S held Γ (AndArm labels first count s arms)
  arm_row Γ n labels first count s arms start after kept stands rest E w known at lie =
      let B = block U w.slot s in
      let v = in_region w in
      let x = next S B (Does (i.ArmEnd ∷ [])) (in_arms E) v at 0 lie.0 (kept w.slot 0) in
      let c = at + size B in
      let b = at + size (region B) in
      and_arm at c b (stands (in_arms E) v (known_in_arm Γ E.points w.points known n labels start after) at c x.0 refl)
      (own_lies S v (i.ArmEnd ∷ []) (in_arms E) c b (tt, tt) x.1 (omega arith))
      (rest E (beyond (hidden s) w) known b lie.1)

  mutual
    unfolding ExprIn ExprsIn WordsIn SuffixesIn OperationsIn LongOperationsIn IntervalIn LongIntervalIn PhraseIn ArmsIn StmtIn StmtsIn TargetsIn CasesIn TestsIn ExitsIn LoopIn FinishIn ConditionIn CountIn Selects CasesTake TestsTake a_word sound.in_arm sound.in_marked sound.in_labelled

    pub forms_stand : (Γ : Scope) → HaveWords Γ → (e : Expr) (ks : Kinds) → ExprIn Γ e ks → Both Γ e
    forms_stand Γ g (Number n) ks h = let v = number_row S Γ n in record { value = v; jump = on_value_row S Γ (Number n) ks h v }
    forms_stand Γ g (LongNumber n) ks h = let v = long_number_row S Γ n in record { value = v; jump = on_value_row S Γ (LongNumber n) ks h v }
    forms_stand Γ g (Literal k) ks h = let v = literal_row S Γ k in record { value = v; jump = on_value_row S Γ (Literal k) ks h v }
    forms_stand Γ g (Variable v s words) ks h =
        let u = variable_row S Γ v s words h.0 h.1 h.3 (path_stands Γ g s h.0 h.1 h.3) in
        record { value = u; jump = on_value_row S Γ (Variable v s words) ks h u }
    forms_stand Γ g (FieldOf e parts) ks h =
        let v = field_row S Γ e parts h.1 h.2 h.3 h.4 (forms_stand Γ g e (one h.1) h.3).value in
        record { value = v; jump = on_value_row S Γ (FieldOf e parts) ks h v }
    forms_stand Γ g (LengthOf e) ks h =
        let v = length_row S Γ e h.0 (forms_stand Γ g e (one Texts) h.0).value in
        record { value = v; jump = on_value_row S Γ (LengthOf e) ks h v }
    forms_stand Γ g (ByteOf e index) ks h =
        let v = byte_row S Γ e index h.0 h.1 (forms_stand Γ g e (one Texts) h.0).value (forms_stand Γ g index a_word h.1).value in
        record { value = v; jump = on_value_row S Γ (ByteOf e index) ks h v }
    forms_stand Γ g (Checked r e) ks h =
        let v = checked_row S Γ r e h.1 (forms_stand Γ g e a_word h.1).value in
        record { value = v; jump = on_value_row S Γ (Checked r e) ks h v }
    forms_stand Γ g (Converted c e) ks h =
        let v = converted_row S Γ c e (one h.1) h.4 (forms_stand Γ g e (one h.1) h.4).value in
        record { value = v; jump = on_value_row S Γ (Converted c e) ks h v }
    forms_stand Γ g (Operate e os) ks h =
        let v = operate_row S Γ e os h.0 (forms_stand Γ g e a_word h.0).value (run_stands Γ g os h.1) in
        record { value = v; jump = on_value_row S Γ (Operate e os) ks h v }
    forms_stand Γ g (OperateLong e os) ks h =
        let v = operate_long_row S Γ e os h.0 (forms_stand Γ g e a_long h.0).value (long_run_stands Γ g os h.1) in
        record { value = v; jump = on_value_row S Γ (OperateLong e os) ks h v }
    forms_stand Γ g (Negate e) ks h =
        let v = negate_row S Γ e h.0 (forms_stand Γ g e a_word h.0).value in
        record { value = v; jump = on_value_row S Γ (Negate e) ks h v }
    forms_stand Γ g (NegateLong e) ks h =
        let v = negate_long_row S Γ e h.0 (forms_stand Γ g e a_long h.0).value in
        record { value = v; jump = on_value_row S Γ (NegateLong e) ks h v }
    forms_stand Γ g (Relate b o d e) ks h =
        let v = (forms_stand Γ g d a_word h.0).value in
        let u = (forms_stand Γ g e a_word h.1).value in
        record { value = relate_row S Γ b o d e h.0 h.1 v u; jump = on_relation_row S Γ b o d e h.0 h.1 v u }
    forms_stand Γ g (RelateLong b o d e) ks h =
        let v = (forms_stand Γ g d a_long h.0).value in
        let u = (forms_stand Γ g e a_long h.1).value in
        record { value = relate_long_row S Γ b o d e h.0 h.1 v u; jump = on_long_relation_row S Γ b o d e h.0 h.1 v u }
    forms_stand Γ g (Within bases e (Between x p y q)) ks h =
        let v = within_row S Γ bases e x y p q h.0 (h.1).0 (h.1).1 (forms_stand Γ g e a_word h.0).value (forms_stand Γ g x a_word (h.1).0).value
        (forms_stand Γ g y a_word (h.1).1).value in
        record { value = v; jump = on_value_row S Γ (Within bases e (Between x p y q)) ks h v }
    forms_stand Γ g (WithinLong bases e (Between x p y q)) ks h =
        let v = within_long_row S Γ bases e x y p q h.0 (h.1).0 (h.1).1 (forms_stand Γ g e a_long h.0).value (forms_stand Γ g x a_long (h.1).0).value
        (forms_stand Γ g y a_long (h.1).1).value in
        record { value = v; jump = on_value_row S Γ (WithinLong bases e (Between x p y q)) ks h v }
    forms_stand Γ g (Not e) ks h =
        let f = forms_stand Γ g e a_word h.0 in
        record { value = negation_row S Γ e h.0 f.value; jump = on_negation_row S Γ e f.jump }
    forms_stand Γ g (AllOf es) ks h =
        let o = operands_stand Γ g es h.1 in
        record { value = all_of_row S Γ es h.1 o; jump = all_jump_row S Γ es h.1 o }
    forms_stand Γ g (SomeOf es) ks h =
        let o = operands_stand Γ g es h.1 in
        record { value = some_of_row S Γ es h.1 o; jump = some_jump_row S Γ es h.1 o }
    forms_stand Γ g (Construct places es) ks h =
        let v = construct_row S Γ places es h.1 h.5 (values_stand Γ g es h.1 h.5) in
        record { value = v; jump = on_value_row S Γ (Construct places es) ks h v }
    forms_stand Γ g (Call callee places es words ph) ks h =
        let v = call_row S held Γ callee places es words ph h.1 h.3 (values_stand Γ g es h.1 h.3) (phrase_stands Γ g ph h.7) in
        record { value = v; jump = on_value_row S Γ (Call callee places es words ph) ks h v }
    forms_stand Γ g (Raise raised places es words ph) ks h =
        let v = raise_row S held Γ raised places es words ph h.1 h.3 (values_stand Γ g es h.1 h.3) (phrase_stands Γ g ph h.6) in
        record { value = v; jump = on_value_row S Γ (Raise raised places es words ph) ks h v }

    pub values_stand : (Γ : Scope) → HaveWords Γ → (es : Exprs) (ks : Kinds) → ExprsIn Γ es ks → Values S Γ es
    values_stand Γ g NoExprs ks h = no_values_row S Γ
    values_stand Γ g (AndExpr e es) ks h = and_value_row S Γ e es h.0 h.2 (forms_stand Γ g e (one h.0) h.2).value (values_stand Γ g es h.1 h.3)

    pub operands_stand : (Γ : Scope) → HaveWords Γ → (es : Exprs) → WordsIn Γ es → Operands S Γ es
    operands_stand Γ g NoExprs h = no_operands_row S Γ
    operands_stand Γ g (AndExpr e es) h = and_operand_row S Γ e es h.0 (forms_stand Γ g e a_word h.0).jump (operands_stand Γ g es h.1)

    pub run_stands : (Γ : Scope) → HaveWords Γ → (os : Operations) → OperationsIn Γ os → Run S Γ os
    run_stands Γ g NoOperation h = no_operation_row S Γ
    run_stands Γ g (Then r o e os) h = operation_row S Γ r o e os h.1 (forms_stand Γ g e a_word h.1).value (run_stands Γ g os h.2)

    long_run_stands : (Γ : Scope) → HaveWords Γ → (os : Operations) → LongOperationsIn Γ os → LongRun S Γ os
    long_run_stands Γ g NoOperation h = no_long_operation_row S Γ
    long_run_stands Γ g (Then r o e os) h = long_operation_row S Γ r o e os h.2 (forms_stand Γ g e a_long h.2).value (long_run_stands Γ g os h.3)

    pub path_stands : (Γ : Scope) → HaveWords Γ → (s : Suffixes) (j k : Kind) → SuffixesIn Γ s j k → Path S Γ s
    path_stands Γ g NoSuffix j k h = here_row S Γ
    path_stands Γ g (Field n offset s) j k h = field_path_row S Γ n offset s (path_stands Γ g s h.1 k h.4)
    path_stands Γ g (Index r first n words e s) j k h =
        index_row S Γ r first n words e s h.6 (forms_stand Γ g e a_word h.6).value (path_stands Γ g s h.0 k h.7)

    pub phrase_stands : (Γ : Scope) → HaveWords Γ → (ph : Phrase) → PhraseIn Γ ph → Phrased S held Γ ph
    phrase_stands Γ g NoPhrase h = tt
    phrase_stands Γ g (Catch n arms) h = (h.0, arms_stand Γ g n arms h.1 h.2 h.3)

    pub arms_stand : (Γ : Scope) → HaveWords Γ → (n : ℕ) (arms : Arms) → Reaches Γ 0 (Start n) → Reaches Γ 0 (After n) → ArmsIn Γ n arms → Armed S held Γ arms
    arms_stand Γ g n NoArms start after h = λ E w known at lie. no_arms
    arms_stand Γ g n (AndArm labels first count s arms) start after h =
        arm_row Γ n labels first count s arms start after (keeps U (sound.in_arm n labels Γ) g s h.5) (stands (sound.in_arm n labels Γ) g s h.5)
        (arms_stand Γ g n arms start after h.6)

    pub stands : (Γ : Scope) → HaveWords Γ → (s : Stmt) → StmtIn Γ s → Stands S Γ s
    stands Γ g Null h = null_row S Γ
    stands Γ g (Marked n s) h = marked_row S Γ n s h.0 (stands (sound.in_marked n Γ) g s h.1)
    stands Γ g (Declare hs k) h = declare_row S Γ hs k
    stands Γ g (DeclareAs hs k e) h = declare_as_row S Γ hs k e h.3 (forms_stand Γ g e (one k) h.3).value
    stands Γ g (Assign v s e) h =
        assign_row S Γ v s e h.1 h.2 h.4 h.5 (path_stands Γ g s h.1 h.2 h.4) (forms_stand Γ g e (one h.2) h.5).value
    stands Γ g (Extract true ts e) h =
        extract_row S Γ g true ts e h.2 (one (Record h.2)) (record_words U Γ e h.2 h.3) h.1 h.3 h.4 (forms_stand Γ g e (one (Record h.2)) h.3).value
        (paths_stand Γ g ts h.2 h.4)
    stands Γ g (Extract false ts e) h =
        extract_row S Γ g false ts e h.3 h.3 (sizes_agree.of_expression Γ e h.3 h.4) h.1 h.4 h.5 (forms_stand Γ g e h.3 h.4).value (paths_stand Γ g ts h.3 h.5)
    stands Γ g (Perform e) h = perform_row S Γ e h.2 h.3 (forms_stand Γ g e h.2 h.3).value
    stands Γ g (If e s t) h = if_row S Γ e s t h.1 (forms_stand Γ g e a_word h.1).jump (keeps U Γ g s h.2) (stands Γ g s h.2) (stands Γ g t h.3)
    stands Γ g (Select e (Otherwise s)) h = select_none_row S Γ e (one h.0) s h.2 (forms_stand Γ g e (one h.0) h.2).value (stands Γ g s h.4)
    stands Γ g (Select e (AndCase ts s cs)) h =
        select_row S Γ e ts s cs (subst (λ k. ExprIn Γ e (one k)) (h.3).0 h.2) (forms_stand Γ g e (one h.0) h.2).value
        (and_case_row S Γ ts s cs (tests_stand Γ g Ordinal ts (h.4).1 (h.3).1.0) (keeps U Γ g s (h.4).2) (stands Γ g s (h.4).2) (cases_stand Γ g Ordinal cs (h.4).3 (h.3).1.1))
    stands Γ g (SelectLong e (Otherwise s)) h = select_long_none_row S Γ e a_long s h.1 (forms_stand Γ g e a_long h.1).value (stands Γ g s h.3)
    stands Γ g (SelectLong e (AndCase ts s cs)) h =
        select_long_row S Γ e ts s cs h.1 (forms_stand Γ g e a_long h.1).value
        (and_case_row S Γ ts s cs (tests_stand Γ g Longs ts (h.3).1 (h.2).0) (keeps U Γ g s (h.3).2) (stands Γ g s (h.3).2) (cases_stand Γ g Longs cs (h.3).3 (h.2).1))
    stands Γ g (Block ph ss es) h =
        let Γ1 = sound.in_labelled h.0 es Γ in
        block_row S held Γ ph ss es h.0 h.1 (phrase_stands Γ1 g ph h.2) (all_stand Γ1 g ss h.3) (keeps_all U Γ1 g ss h.3) (exits_stand Γ g es h.4)
    stands Γ g (Repeat Endless l) h = loop_row S Γ l (looped Γ g NoCounter l h.2)
    stands Γ g (Repeat (Counting v down left next) l) h = absurd h.1
    stands Γ g (For v down base (Between x p y q) l) h =
        for_row S Γ v down base x y p q l (h.2).0 (h.2).1 (forms_stand Γ g x a_word (h.2).0).value (forms_stand Γ g y a_word (h.2).1).value
        (λ z. looped Γ g (CountedIn z v down) l h.3)
    stands Γ g (Jump arms goal) h = jump_row S Γ arms goal h
    stands Γ g (ReturnWith arms first places es) h = return_row S Γ arms first places es h.2 h.3 h.5 (values_stand Γ g es h.2 h.5)
    stands Γ g (Resume places es) h = resume_row S Γ places es h.1 h.5 (values_stand Γ g es h.1 h.5)
    stands Γ g Reject h = reject_row S Γ
    stands Γ g (Retry n) h = λ E w known a b l eq. retry_row S Γ n (subst (λ m. Reaches Γ 1 (Start m)) (sym h.1) (known.retry h.0)) E w known a b l eq
    stands Γ g (Continue n) h = λ E w known a b l eq. continue_row S Γ n (subst (λ m. Reaches Γ 1 (After m)) (sym h.1) (known.continue h.0)) E w known a b l eq

    pub all_stand : (Γ : Scope) → HaveWords Γ → (ss : Stmts) → StmtsIn Γ ss → AllStand S Γ ss
    all_stand Γ g NoStmts h = no_statements_row S Γ
    all_stand Γ g (AndStmt s ss) h = and_statement_row S Γ s ss (keeps U Γ g s h.0) (stands Γ g s h.0) (all_stand Γ g ss h.1)

    paths_stand : (Γ : Scope) (g : HaveWords Γ) → (ts : Targets) (ks : Kinds) → TargetsIn Γ ts ks → Paths S Γ g ks ts
    paths_stand Γ g NoTargets ks h = tt
    paths_stand Γ g (AndTarget p v s r ts) ks h = (path_stands Γ g s h.1 h.0 h.5, paths_stand Γ g ts ks h.7)
    paths_stand Γ g (AndConverted p v s c ts) ks h = (path_stands Γ g s h.2 h.1 h.8, paths_stand Γ g ts ks h.9)

    cases_stand : (Γ : Scope) → HaveWords Γ → (k : Kind) (cs : Cases) → CasesIn Γ cs → CasesTake k cs → Cased S Γ cs
    cases_stand Γ g k (Otherwise s) h take = otherwise_row S Γ s (stands Γ g s h)
    cases_stand Γ g k (AndCase ts s cs) h take =
        and_case_row S Γ ts s cs (tests_stand Γ g k ts h.1 take.0) (keeps U Γ g s h.2) (stands Γ g s h.2) (cases_stand Γ g k cs h.3 take.1)

    tests_stand : (Γ : Scope) → HaveWords Γ → (k : Kind) (ts : Tests) → TestsIn Γ ts → TestsTake k ts → Tested S Γ ts
    tests_stand Γ g k NoTests h take = no_test_row S Γ
    tests_stand Γ g k (IfRelated r base o e ts) h take = related_row S Γ r base o e ts h.1 (forms_stand Γ g e a_word h.1).value (tests_stand Γ g k ts h.2 take.1)
    tests_stand Γ g k (IfWithin negated bases (Between x p y q) ts) h take =
        lies_row S Γ negated bases x y p q ts (h.0).0 (h.0).1 (forms_stand Γ g x a_word (h.0).0).value (forms_stand Γ g y a_word (h.0).1).value
        (tests_stand Γ g k ts h.1 take.1)
    tests_stand Γ g k (IfRelatedLong c base o e ts) h take =
        long_related_row S Γ c base o e ts (makes_long c k take.0) h.0 (forms_stand Γ g e a_long h.0).value (tests_stand Γ g k ts h.1 take.1)
    tests_stand Γ g k (IfWithinLong negated c bases (Between x p y q) ts) h take =
        long_lies_row S Γ negated c bases x y p q ts (makes_long c k take.0) (h.0).0 (h.0).1 (forms_stand Γ g x a_long (h.0).0).value (forms_stand Γ g y a_long (h.0).1).value
        (tests_stand Γ g k ts h.1 take.1)

    exits_stand : (Γ : Scope) → HaveWords Γ → (es : Exits) → ExitsIn Γ es → ExitsStand S Γ es
    exits_stand Γ g NoExits h = tt
    exits_stand Γ g (AndExit ls s es) h = (keeps U Γ g s h.1, stands Γ g s h.1, exits_stand Γ g es h.2)

    looped : (Γ : Scope) → HaveWords Γ → (k : Counter) (l : Loop) → LoopIn Γ l → Looped S Γ k l
    looped Γ g k (LoopOf cond s es fin) h =
        let Γ1 = sound.in_labelled h.0 es Γ in
        rounds_row S Γ k cond s es fin h.0 h.1 (asked Γ g cond h.2) (keeps U Γ1 g s h.3) (stands Γ1 g s h.3) (exits_stand Γ g es h.4) (doing Γ g fin h.5)

    asked : (Γ : Scope) → HaveWords Γ → (cond : Condition) → ConditionIn Γ cond → Asked S Γ cond
    asked Γ g Always h = tt
    asked Γ g (While e) h = (h, (forms_stand Γ g e a_word h).jump)
    asked Γ g (Until e) h = (h, (forms_stand Γ g e a_word h).jump)

    doing : (Γ : Scope) → HaveWords Γ → (fin : Finish) → FinishIn Γ fin → Done S Γ fin
    doing Γ g NoFinish h = tt
    doing Γ g (Finished s) h = (keeps U Γ g s h, stands Γ g s h)
