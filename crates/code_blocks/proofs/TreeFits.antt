-- The blocks of a sound body fit its procedure: they name what is there, and their jumps lead to points around them.
use Rattle.std.proofs.Common.{◌≡◌, sym, ap, ◌∙◌, subst, ℕ, suc, ◌+◌, ◌-◌, ◌≤◌, List, [], ◌∷◌, All, Bool, true, false, not, arith}
use Rattle.mesa_types.specs.declared.typed_parts.Conversion.{Conversion}
use Rattle.mesa_types.specs.declared.typed_parts.Given.TheVariants.{NoVariable, GivenTo}
use Rattle.mesa_types.specs.declared.typed_parts.Goal.{Goal}
use Rattle.mesa_types.specs.declared.typed_parts.Goal.TheVariants.{PastStatement, ToLabel, ToReturn}
use Rattle.mesa_types.specs.declared.typed_parts.Home.{Home}
use Rattle.mesa_types.specs.declared.typed_parts.Part.{Part}
use Rattle.mesa_types.specs.Typed.{Kind, Ordinal, Longs, Record, Kinds, Start, After, Leave, point_of, Expr, Number, LongNumber, Literal, Variable, FieldOf, LengthOf, ByteOf, Checked, Converted, Operate, OperateLong, Negate, NegateLong, Relate, RelateLong, Within, WithinLong, Not, AllOf, SomeOf, Construct, Call, Raise, Exprs, NoExprs, AndExpr, Suffixes, NoSuffix, Field, Index, Operations, NoOperation, Then, Interval, Between, Phrase, NoPhrase, Catch, Arms, NoArms, AndArm, Stmt, Null, Marked, Declare, DeclareAs, Assign, Extract, Perform, If, Select, SelectLong, Block, Repeat, Endless, Counting, For, Jump, ReturnWith, Resume, Reject, Retry, Continue, Stmts, NoStmts, AndStmt, Targets, NoTargets, AndTarget, AndConverted, Cases, Otherwise, AndCase, Tests, NoTests, IfRelated, IfWithin, IfRelatedLong, IfWithinLong, Exits, NoExits, AndExit, Loop, LoopOf, Finish, NoFinish, Finished, Condition, Always, While, Until, Texts}
use Rattle.mesa_types.specs.Counts.{hidden, hidden_expr, hidden_exprs, hidden_suffixes, hidden_operations, hidden_interval, hidden_phrase, hidden_arms, hidden_stmts, hidden_targets, hidden_cases, hidden_tests, hidden_exits, hidden_loop, hidden_finish, hidden_condition, words_of, words_given}
use Rattle.mesa_types.specs.Counts as counts
use Rattle.mesa_types.specs.Shapes.{words_in, words_before, one}
use Rattle.mesa_types.specs.Sound as sound
use Rattle.mesa_types.specs.Sound.{Scope, a_word, a_long, VariableIn, Reaches, LabelsIn, GivenIn, CountIn, Converts, TestsTake, CasesTake, ExprIn, ExprsIn, WordsIn, SuffixesIn, OperationsIn, LongOperationsIn, IntervalIn, LongIntervalIn, PhraseIn, ArmsIn, StmtIn, StmtsIn, TargetsIn, CasesIn, TestsIn, ExitsIn, LoopIn, FinishIn, ConditionIn}
use Rattle.mesa_types.proofs.Arranged.{arranged_words}
use Rattle.mesa_types.proofs.WordSizes.{sizes_agree}
use Rattle.code_forms.specs.Routine.{Routine}
use Rattle.code_rules.specs.CodeFor.{words_taken, words_over}
use Rattle.code_rules.specs.Loops.{Counter, NoCounter, CountedIn, next_slot}
use Rattle.code_rules.specs.OwnCode.{lift_code, check_code, conversion_code, arrange_code}
use Rattle.code_rules.specs.Points.{in_marked, in_arm}
use Rattle.code_rules.specs.Reading.{Coded, scratch}
use Rattle.code_rules.specs.Slots.{local_slot, zero_code, copy_code, spread_code, fields_of, sizes}
use Rattle.code_blocks.specs.Blocks as tree
use Rattle.code_blocks.specs.Blocks.{◌▹◌}
use Rattle.code_blocks.specs.Translation.{has_index, head_code, gives_next, past_else, past_cases, past_exits, is_last, is_endless, forms, values, operands, bounds, operations, long_operations, path, caught_by, arm_blocks, block, blocks, targets, selected, cases, tests, exits, loop, condition, finish}
use Rattle.code_blocks.proofs.ExtractRows.{variable_has}
use Rattle.code_blocks.proofs.Fits.{Ways, NotBack, AllFit, Fits, ArmsFit, all_fit_both, FormsFit, by_value_fits, if_fits, unless_fits, turned_fits, enabled_fits}
use Rattle.code_blocks.proofs.Keeping.{selects_take}
use Rattle.code_blocks.proofs.Meeting.{Meets, AreNew, seen_all, comes, is_in_arm, meets_marked, meets_arm, meets_still, meets_labelled, are_new, new_behind}
use Rattle.code_blocks.proofs.NamesFit.{Names, part_within, fields_within, scratch_there, load_fits, store_fits, clear_fits, load_within_fits, store_within_fits, call_fits, raise_fits, arm_fine}
use Rattle.code_blocks.proofs.OwnFits.{any, pop_fits, lift_fits, field_fits, check_fits, conversion_fits, index_fits, comparison_fits, long_comparison_fits, relation_fits, long_relation_fits, arrange_fits, operator_fits, long_operator_fits, within_of_fits, long_within_of_fits, start_of_fits, HasRoom, step_fits}
use Rattle.code_blocks.proofs.Values.{one_is, words_converted}

goal_not_back : (goal : Goal) (arms : ℕ) → NotBack (point_of goal) arms
unfolding point_of
goal_not_back (PastStatement n) arms = tt
goal_not_back (ToLabel l) arms = tt
goal_not_back ToReturn arms = tt

all_behind : {X : Type 0} (Q : X → Type 0) (x : X) (xs : List X) → All Q (x ∷ xs) → All Q xs
all_behind Q x xs h n d lt = h (suc n) d (omega (arith, lt))

-- the words of a selector, by its kind, are held in slots from x on

word_held : (x : ℕ) {n : ℕ} → x + 1 ≤ n → x + words_in Ordinal ≤ n
unfolding words_in
word_held x h = h

long_held : (x : ℕ) {n : ℕ} → x + 2 ≤ n → x + words_in Longs ≤ n
unfolding words_in
long_held x h = h

held_word : (x : ℕ) {n : ℕ} (k : Kind) → k ≡ Ordinal → x + words_in k ≤ n → x + 1 ≤ n
unfolding words_in
held_word x k is h = omega (arith, h, ap words_in is)

held_converted : (x : ℕ) {n : ℕ} (k : Kind) (c : Conversion) → Converts c k Longs → x + words_in k ≤ n → x + counts.words_before c ≤ n
held_converted x k c is h = omega (arith, h, (words_converted c k Longs is).0)

-- what only jumps fits anywhere
past_else_fits : (r : Routine) (depth : ℕ) (ways : Ways) (s : Stmt) (part : ℕ) → Fits r (past_else s part) depth ways
past_else_fits r depth ways Null part = tt
past_else_fits r depth ways (Marked k s) part = tt
past_else_fits r depth ways (Declare hs k) part = tt
past_else_fits r depth ways (DeclareAs hs k e) part = tt
past_else_fits r depth ways (Assign h s e) part = tt
past_else_fits r depth ways (Extract b ts e) part = tt
past_else_fits r depth ways (Perform e) part = tt
past_else_fits r depth ways (If e s t) part = tt
past_else_fits r depth ways (Select e cs) part = tt
past_else_fits r depth ways (SelectLong e cs) part = tt
past_else_fits r depth ways (Block ph ss es) part = tt
past_else_fits r depth ways (Repeat c l) part = tt
past_else_fits r depth ways (For g down base range l) part = tt
past_else_fits r depth ways (Jump arms goal) part = tt
past_else_fits r depth ways (ReturnWith arms first places es) part = tt
past_else_fits r depth ways (Resume places es) part = tt
past_else_fits r depth ways Reject part = tt
past_else_fits r depth ways (Retry k) part = tt
past_else_fits r depth ways (Continue k) part = tt

past_cases_fits : (r : Routine) (depth : ℕ) (ways : Ways) (cs : Cases) (part : ℕ) → Fits r (past_cases cs part) depth ways
past_cases_fits r depth ways (Otherwise s) part = past_else_fits r depth ways s part
past_cases_fits r depth ways (AndCase ts s cs) part = tt

past_exits_fits : (r : Routine) (depth : ℕ) (ways : Ways) (es : Exits) (part : ℕ) → Fits r (past_exits es part) depth ways
past_exits_fits r depth ways NoExits part = tt
past_exits_fits r depth ways (AndExit ls s es) part = tt

module _ (P : Coded) (r : Routine) where
  -- what is known at a construct
  pub record Here (Γ : Scope) (ways : Ways) : Type 0 where
    pub names : Names P r Γ
    pub meets : Meets Γ ways

  here_marked : (Γ : Scope) (ways : Ways) (n : ℕ) → Γ.statements ≤ n → Here Γ ways
      → Here (sound.in_marked n Γ) (in_marked n tt tt ways)
  unfolding sound.in_marked
  here_marked Γ ways n le h = record { names = h.names; meets = meets_marked Γ ways n le h.meets }

  here_arm : (Γ : Scope) (ways : Ways) (n : ℕ) (labels : _) → Reaches Γ 0 (Start n) → Reaches Γ 0 (After n) → Here Γ ways
      → Here (sound.in_arm n labels Γ) (in_arm ways)
  unfolding sound.in_arm
  here_arm Γ ways n labels start after h = record { names = h.names; meets = meets_arm Γ ways n labels start after h.meets }

  here_still : (Γ : Scope) (ways : Ways) (es : Exits) → AreNew Γ es → Here Γ ways → Here Γ (seen_all es ways)
  here_still Γ ways es new h = record { names = h.names; meets = meets_still Γ ways es new h.meets }

  here_labelled : (Γ : Scope) (ways : Ways) (past : ℕ) (es : Exits) → LabelsIn Γ past es → Here Γ ways
      → Here (sound.in_labelled past es Γ) (seen_all es ways)
  unfolding sound.in_labelled
  here_labelled Γ ways past es new h = record { names = h.names; meets = meets_labelled Γ ways past es new h.meets }

  -- Variables.

  module _ (Γ : Scope) (ways : Ways) (here : Here Γ ways) where
    abbrev D : ℕ
    D = Γ.depth

    names : Names P r Γ
    names = here.names

    within : (v : Home) (s : Suffixes) (j k : Kind) (words : ℕ) → VariableIn Γ v j → SuffixesIn Γ s j k → words ≡ words_in k → words ≤ words_in j
    within v s j k words at h e = omega (arith, e, part_within Γ s j k (variable_has Γ v j names.have_words at) h)

    apart : (s : Suffixes) (j k : Kind) (words : ℕ) → has_index s ≡ false → SuffixesIn Γ s j k → words ≡ words_in k → fields_of s + words ≤ words_in j
    apart s j k words none h e = omega (arith, e, fields_within Γ s j k none h)

    cleared : (hs : List Home) (k : Kind) → All (λ v. VariableIn Γ v k) hs → AllFit r D (zero_code P hs (words_in k))
    cleared [] k h = tt
    cleared (v ∷ hs) k h =
        (clear_fits P r Γ names D v k (words_in k) (h 0 v (omega arith)) (omega arith), cleared hs k (all_behind (λ x. VariableIn Γ x k) v hs h))

    copied : (v : Home) (hs : List Home) (k : Kind) → VariableIn Γ v k → All (λ x. VariableIn Γ x k) hs → AllFit r D (copy_code P v hs (words_in k))
    copied v [] k at h = tt
    copied v (x ∷ hs) k at h = (
      load_fits P r Γ names D v k 0 (words_in k) at (omega arith),
      (
        store_fits P r Γ names D x k 0 (words_in k) (h 0 x (omega arith)) (omega arith),
        copied v hs k at (all_behind (λ y. VariableIn Γ y k) x hs h),
      ),
    )

    spread : (hs : List Home) (k : Kind) → All (λ v. VariableIn Γ v k) hs → AllFit r D (spread_code P hs (words_in k))
    spread [] k h = pop_fits r D (words_in k)
    spread (v ∷ hs) k h = (
      store_fits P r Γ names D v k 0 (words_in k) (h 0 v (omega arith)) (omega arith),
      copied v hs k (h 0 v (omega arith)) (all_behind (λ y. VariableIn Γ y k) v hs h),
    )

    -- the words that a procedure gives back
    returned : (first : ℕ) (places : List ℕ) (es : Exprs) (js : Kinds) → first ≡ Γ.takes → ExprsIn Γ es js → sound.Arranged places js Γ.gives
        → local_slot P first + words_given es ≤ r.frame
    returned first places es js same h arranged =
        let slot : local_slot P first ≡ words_before Γ.locals Γ.takes =
        ap (λ ks. words_before ks first) names.same_locals ∙ ap (λ n. words_before Γ.locals n) same in
        omega (arith, slot, names.results, names.room, sizes_agree.of_values Γ es js h, arranged_words places js Γ.gives arranged)

    head_fits : (k : Counter) → HasRoom r D k → Fits r (head_code k) D ways
    head_fits NoCounter room = tt
    head_fits (CountedIn z g down) room = ((λ x some. omega (arith, room), tt), tt)

    next_there : (z : ℕ) (down : Bool) → z + 3 ≤ r.frame → next_slot z down + 1 ≤ r.frame
    next_there z false room = omega (arith, room)
    next_there z true room = omega (arith, room)

    abbrev GivesTo : Counter → Type 0
    GivesTo NoCounter = Unit {0}
    GivesTo (CountedIn z g down) = GivenIn Γ g

    gives_fits : (k : Counter) → HasRoom r D k → GivesTo k → Fits r (gives_next P k) D ways
    unfolding GivenIn words_in
    gives_fits NoCounter room given = tt
    gives_fits (CountedIn z NoVariable down) room given = tt
    gives_fits (CountedIn z (GivenTo v range) down) room given = (
      λ x some. next_there z down room,
      all_fit_both r D (check_code range) _ (check_fits r D range) (store_fits P r Γ names D v Ordinal 0 1 given.0 (omega arith), tt),
    )

  mutual
    unfolding ExprIn ExprsIn WordsIn SuffixesIn OperationsIn LongOperationsIn IntervalIn LongIntervalIn PhraseIn ArmsIn StmtIn StmtsIn TargetsIn CasesIn TestsIn ExitsIn LoopIn FinishIn ConditionIn CountIn CasesTake TestsTake a_word a_long sound.in_arm sound.in_marked sound.in_labelled hidden hidden_expr hidden_exprs hidden_suffixes hidden_operations hidden_interval hidden_phrase hidden_arms hidden_stmts hidden_targets hidden_cases hidden_tests hidden_exits hidden_loop hidden_finish hidden_condition

    forms_fit : (Γ : Scope) (ways : Ways) → Here Γ ways → (z : ℕ) (e : Expr) (ks : Kinds) → z + hidden_expr e ≤ r.frame → ExprIn Γ e ks
        → FormsFit r Γ.depth ways (forms P z e)
    forms_fit Γ ways here z (Number n) ks room h = by_value_fits r Γ.depth ways _ (any r Γ.depth, tt)
    forms_fit Γ ways here z (LongNumber n) ks room h = by_value_fits r Γ.depth ways _ (any r Γ.depth, (any r Γ.depth, tt))
    forms_fit Γ ways here z (Literal k) ks room h =
        by_value_fits r Γ.depth ways _ (λ g some. (omega arith, omega (arith, h.0, (names Γ ways here).all_strings)), tt)
    forms_fit Γ ways here z (Variable v s words) ks room h = by_value_fits r Γ.depth ways _ (
        if_fits r Γ.depth ways (has_index s) _ _
        (λ is. (
          (any r Γ.depth, tt),
          (
            path_fits Γ ways here z s h.0 h.1 room h.3,
            (load_within_fits P r Γ (names Γ ways here) Γ.depth v h.0 words h.2 (within Γ ways here v s h.0 h.1 words h.2 h.3 h.4), tt),
          ),
        ))
        (λ none. (load_fits P r Γ (names Γ ways here) Γ.depth v h.0 (fields_of s) words h.2 (apart Γ ways here s h.0 h.1 words none h.3 h.4), tt)))
    forms_fit Γ ways here z (FieldOf e parts) ks room h =
        by_value_fits r Γ.depth ways _ ((forms_fit Γ ways here z e (one h.1) room h.3).value, field_fits r Γ.depth _ _ _)
    forms_fit Γ ways here z (LengthOf e) ks room h =
        by_value_fits r Γ.depth ways _ ((forms_fit Γ ways here z e (one Texts) room h.0).value, (any r Γ.depth, tt))
    forms_fit Γ ways here z (ByteOf e index) ks room h = by_value_fits r Γ.depth ways _ (
      (forms_fit Γ ways here z e (one Texts) (omega (arith, room)) h.0).value,
      ((forms_fit Γ ways here (z + hidden_expr e) index a_word (omega (arith, room)) h.1).value, (any r Γ.depth, tt)),
    )
    forms_fit Γ ways here z (Checked range e) ks room h =
        by_value_fits r Γ.depth ways _ ((forms_fit Γ ways here z e a_word room h.1).value, check_fits r Γ.depth range)
    forms_fit Γ ways here z (Converted c e) ks room h =
        by_value_fits r Γ.depth ways _ ((forms_fit Γ ways here z e (one h.1) room h.4).value, conversion_fits r Γ.depth c)
    forms_fit Γ ways here z (Operate e os) ks room h = by_value_fits r Γ.depth ways _ (
      (forms_fit Γ ways here z e a_word (omega (arith, room)) h.0).value,
      run_fits Γ ways here (z + hidden_expr e) os (omega (arith, room)) h.1,
    )
    forms_fit Γ ways here z (OperateLong e os) ks room h = by_value_fits r Γ.depth ways _ (
      (forms_fit Γ ways here z e a_long (omega (arith, room)) h.0).value,
      long_run_fits Γ ways here (z + hidden_expr e) os (omega (arith, room)) h.1,
    )
    forms_fit Γ ways here z (NegateLong e) ks room h =
        by_value_fits r Γ.depth ways _ ((forms_fit Γ ways here z e a_long room h.0).value, (any r Γ.depth, tt))
    forms_fit Γ ways here z (Negate e) ks room h =
        by_value_fits r Γ.depth ways _ ((forms_fit Γ ways here z e a_word room h.0).value, (any r Γ.depth, tt))
    forms_fit Γ ways here z (Relate base o d e) ks room h =
        let x = (forms_fit Γ ways here z d a_word (omega (arith, room)) h.0).value in
        let y = (forms_fit Γ ways here (z + hidden_expr d) e a_word (omega (arith, room)) h.1).value in
        record {
          value = (x, (y, relation_fits r Γ.depth base o));
          jump = λ sense part. (x, (y, (comparison_fits r Γ.depth base o, tt)));
        }
    forms_fit Γ ways here z (Within bases e range) ks room h = by_value_fits r Γ.depth ways _ (
      (forms_fit Γ ways here z e a_word (omega (arith, room)) h.0).value,
      (
        bounds_fit Γ ways here (z + hidden_expr e) range (omega (arith, room)) h.1,
        within_of_fits r Γ.depth (scratch P) bases range (scratch_there P r Γ (names Γ ways here) Γ.depth),
      ),
    )
    forms_fit Γ ways here z (RelateLong base o d e) ks room h =
        let x = (forms_fit Γ ways here z d a_long (omega (arith, room)) h.0).value in
        let y = (forms_fit Γ ways here (z + hidden_expr d) e a_long (omega (arith, room)) h.1).value in
        record {
          value = (x, (y, long_relation_fits r Γ.depth base o));
          jump = λ sense part. (x, (y, (long_comparison_fits r Γ.depth base o, tt)));
        }
    forms_fit Γ ways here z (WithinLong bases e range) ks room h = by_value_fits r Γ.depth ways _ (
      (forms_fit Γ ways here z e a_long (omega (arith, room)) h.0).value,
      (
        long_bounds_fit Γ ways here (z + hidden_expr e) range (omega (arith, room)) h.1,
        long_within_of_fits r Γ.depth (scratch P) bases range (scratch_there P r Γ (names Γ ways here) Γ.depth),
      ),
    )
    forms_fit Γ ways here z (Not e) ks room h =
        let f = forms_fit Γ ways here z e a_word room h.0 in
        record { value = (f.value, (any r Γ.depth, tt)); jump = λ sense part. f.jump (not sense) part }
    forms_fit Γ ways here z (AllOf es) ks room h = record {
      value = ((operands_fit Γ ways here z es false 0 room h.1, ((any r Γ.depth, tt), tt)), (any r Γ.depth, tt));
      jump = λ sense part. turned_fits r Γ.depth ways sense (operands P z es false) (λ k. operands_fit Γ ways here z es false k room h.1) part;
    }
    forms_fit Γ ways here z (SomeOf es) ks room h = record {
      value = ((operands_fit Γ ways here z es true 0 room h.1, ((any r Γ.depth, tt), tt)), (any r Γ.depth, tt));
      jump = λ sense part. turned_fits r Γ.depth ways (not sense) (operands P z es true) (λ k. operands_fit Γ ways here z es true k room h.1) part;
    }
    forms_fit Γ ways here z (Construct places es) ks room h =
        by_value_fits r Γ.depth ways _ (values_fit Γ ways here z es h.1 room h.5, arrange_fits r Γ.depth places (sizes es))
    forms_fit Γ ways here z (Call callee places es words ph) ks room h = by_value_fits r Γ.depth ways _ (
      values_fit Γ ways here z es h.1 (omega (arith, room)) h.3,
      (
        arrange_fits r Γ.depth places (sizes es),
        (
          call_fits P r Γ (names Γ ways here) Γ.depth callee h.0 h.2,
          caught_fits Γ ways here (z + hidden_exprs es) ph (omega (arith, room)) h.7,
        ),
      ),
    )
    forms_fit Γ ways here z (Raise raised places es words ph) ks room h = by_value_fits r Γ.depth ways _ (
      values_fit Γ ways here z es h.1 (omega (arith, room)) h.3,
      (
        arrange_fits r Γ.depth places (sizes es),
        (
          raise_fits P r Γ (names Γ ways here) Γ.depth raised h.0 ks h.2,
          caught_fits Γ ways here (z + hidden_exprs es) ph (omega (arith, room)) h.6,
        ),
      ),
    )

    values_fit : (Γ : Scope) (ways : Ways) → Here Γ ways → (z : ℕ) (es : Exprs) (ks : Kinds) → z + hidden_exprs es ≤ r.frame → ExprsIn Γ es ks
        → Fits r (values P z es) Γ.depth ways
    values_fit Γ ways here z NoExprs ks room h = tt
    values_fit Γ ways here z (AndExpr e es) ks room h = (
      (forms_fit Γ ways here z e (one h.0) (omega (arith, room)) h.2).value,
      values_fit Γ ways here (z + hidden_expr e) es h.1 (omega (arith, room)) h.3,
    )

    operands_fit : (Γ : Scope) (ways : Ways) → Here Γ ways → (z : ℕ) (es : Exprs) (sense : Bool) (part : ℕ) → z + hidden_exprs es ≤ r.frame → WordsIn Γ es
        → Fits r (operands P z es sense part) Γ.depth ways
    operands_fit Γ ways here z NoExprs sense part room h = tt
    operands_fit Γ ways here z (AndExpr e es) sense part room h = (
      (forms_fit Γ ways here z e a_word (omega (arith, room)) h.0).jump sense part,
      operands_fit Γ ways here (z + hidden_expr e) es sense part (omega (arith, room)) h.1,
    )

    bounds_fit : (Γ : Scope) (ways : Ways) → Here Γ ways → (z : ℕ) (range : Interval) → z + hidden_interval range ≤ r.frame → IntervalIn Γ range
        → Fits r (bounds P z range) Γ.depth ways
    bounds_fit Γ ways here z (Between x p y q) room h = (
      (forms_fit Γ ways here z x a_word (omega (arith, room)) h.0).value,
      (forms_fit Γ ways here (z + hidden_expr x) y a_word (omega (arith, room)) h.1).value,
    )

    long_bounds_fit : (Γ : Scope) (ways : Ways) → Here Γ ways → (z : ℕ) (range : Interval) → z + hidden_interval range ≤ r.frame → LongIntervalIn Γ range
        → Fits r (bounds P z range) Γ.depth ways
    long_bounds_fit Γ ways here z (Between x p y q) room h = (
      (forms_fit Γ ways here z x a_long (omega (arith, room)) h.0).value,
      (forms_fit Γ ways here (z + hidden_expr x) y a_long (omega (arith, room)) h.1).value,
    )

    long_run_fits : (Γ : Scope) (ways : Ways) → Here Γ ways → (z : ℕ) (os : Operations) → z + hidden_operations os ≤ r.frame → LongOperationsIn Γ os
        → Fits r (long_operations P z os) Γ.depth ways
    long_run_fits Γ ways here z NoOperation room h = tt
    long_run_fits Γ ways here z (Then range o e os) room h = (
      (forms_fit Γ ways here z e a_long (omega (arith, room)) h.2).value,
      (long_operator_fits r Γ.depth o, long_run_fits Γ ways here (z + hidden_expr e) os (omega (arith, room)) h.3),
    )

    run_fits : (Γ : Scope) (ways : Ways) → Here Γ ways → (z : ℕ) (os : Operations) → z + hidden_operations os ≤ r.frame → OperationsIn Γ os
        → Fits r (operations P z os) Γ.depth ways
    run_fits Γ ways here z NoOperation room h = tt
    run_fits Γ ways here z (Then range o e os) room h = (
      check_fits r Γ.depth range,
      (
        (forms_fit Γ ways here z e a_word (omega (arith, room)) h.1).value,
        (
          operator_fits r Γ.depth (scratch P) o (scratch_there P r Γ (names Γ ways here) Γ.depth),
          run_fits Γ ways here (z + hidden_expr e) os (omega (arith, room)) h.2,
        ),
      ),
    )

    path_fits : (Γ : Scope) (ways : Ways) → Here Γ ways → (z : ℕ) (s : Suffixes) (j k : Kind) → z + hidden_suffixes s ≤ r.frame → SuffixesIn Γ s j k
        → Fits r (path P z s) Γ.depth ways
    path_fits Γ ways here z NoSuffix j k room h = tt
    path_fits Γ ways here z (Field n offset s) j k room h = path_fits Γ ways here z s h.1 k room h.4
    path_fits Γ ways here z (Index range first n words e s) j k room h = (
      (forms_fit Γ ways here z e a_word (omega (arith, room)) h.6).value,
      (index_fits r Γ.depth range first n words, path_fits Γ ways here (z + hidden_expr e) s h.0 k (omega (arith, room)) h.7),
    )

    caught_fits : (Γ : Scope) (ways : Ways) → Here Γ ways → (z : ℕ) (ph : Phrase) → z + hidden_phrase ph ≤ r.frame → PhraseIn Γ ph
        → ArmsFit r (caught_by P z ph) (suc Γ.depth) (in_arm ways)
    caught_fits Γ ways here z NoPhrase room h = tt
    caught_fits Γ ways here z (Catch n arms) room h = arms_fit Γ ways here z n arms h.1 h.2 room h.3

    arms_fit : (Γ : Scope) (ways : Ways) → Here Γ ways → (z n : ℕ) (arms : Arms) → Reaches Γ 0 (Start n) → Reaches Γ 0 (After n)
        → z + hidden_arms arms ≤ r.frame → ArmsIn Γ n arms → ArmsFit r (arm_blocks P z arms) (suc Γ.depth) (in_arm ways)
    arms_fit Γ ways here z n NoArms start after room h = tt
    arms_fit Γ ways here z n (AndArm labels first count s arms) start after room h = (
      arm_fine P r Γ (names Γ ways here) labels first count h.1 h.0 h.2 h.3 h.4,
      block_fits (sound.in_arm n labels Γ) (in_arm ways) (here_arm Γ ways n labels start after here) z s (omega (arith, room)) h.5,
      arms_fit Γ ways here (z + hidden s) n arms start after (omega (arith, room)) h.6,
    )

    pub block_fits : (Γ : Scope) (ways : Ways) → Here Γ ways → (z : ℕ) (s : Stmt) → z + hidden s ≤ r.frame → StmtIn Γ s → Fits r (block P z s) Γ.depth ways
    block_fits Γ ways here z Null room h = tt
    block_fits Γ ways here z (Marked n s) room h =
        block_fits (sound.in_marked n Γ) (in_marked n tt tt ways) (here_marked Γ ways n h.0 here) z s room h.1
    block_fits Γ ways here z (Declare hs k) room h = cleared Γ ways here hs k h.1
    block_fits Γ ways here z (DeclareAs hs k e) room h =
        (cleared Γ ways here hs k h.2, ((forms_fit Γ ways here z e (one k) room h.3).value, spread Γ ways here hs k h.2))
    block_fits Γ ways here z (Assign v s e) room h =
        let words = one_is Γ e h.2 h.5 in
        if_fits r Γ.depth ways (has_index s) _ _
        (λ is. (
          (any r Γ.depth, tt),
          (
            path_fits Γ ways here z s h.1 h.2 (omega (arith, room)) h.4,
            (
              (forms_fit Γ ways here (z + hidden_suffixes s) e (one h.2) (omega (arith, room)) h.5).value,
              (store_within_fits P r Γ (names Γ ways here) Γ.depth v h.1 (words_of e) h.3 (within Γ ways here v s h.1 h.2 (words_of e) h.3 h.4 words), tt),
            ),
          ),
        ))
        (λ none. (
          (forms_fit Γ ways here z e (one h.2) (omega (arith, room)) h.5).value,
          (store_fits P r Γ (names Γ ways here) Γ.depth v h.1 (fields_of s) (words_of e) h.3 (apart Γ ways here s h.1 h.2 (words_of e) none h.4 words), tt),
        ))
    block_fits Γ ways here z (Extract true ts e) room h = (
      (forms_fit Γ ways here (z + hidden_targets ts) e (one (Record h.2)) (omega (arith, room)) h.3).value,
      targets_fit Γ ways here z (words_of e) [] ts h.2 (omega (arith, room)) h.4,
    )
    block_fits Γ ways here z (Extract false ts e) room h = (
      (forms_fit Γ ways here (z + hidden_targets ts) e h.3 (omega (arith, room)) h.4).value,
      targets_fit Γ ways here z (words_of e) [] ts h.3 (omega (arith, room)) h.5,
    )
    block_fits Γ ways here z (Perform e) room h = ((forms_fit Γ ways here z e h.2 room h.3).value, pop_fits r Γ.depth (words_of e))
    block_fits Γ ways here z (If e s t) room h = (
      (
        (forms_fit Γ ways here z e a_word (omega (arith, room)) h.1).jump false 0,
        (block_fits Γ ways here (z + hidden_expr e) s (omega (arith, room)) h.2, past_else_fits r Γ.depth ways t 1),
      ),
      block_fits Γ ways here (z + (hidden_expr e + hidden s)) t (omega (arith, room)) h.3,
    )
    block_fits Γ ways here z (Select e cs) room h = (
      (forms_fit Γ ways here (z + 1) e (one h.0) (omega (arith, room)) h.2).value,
      selected_fits Γ ways here (z + (1 + hidden_expr e)) z 1 (words_of e) Ordinal cs (omega (arith, room)) (word_held z (omega (arith, room)))
          (omega (arith, room)) (selects_take h.0 cs h.3) h.4,
    )
    block_fits Γ ways here z (SelectLong e cs) room h = (
      (forms_fit Γ ways here (z + 2) e a_long (omega (arith, room)) h.1).value,
      selected_fits Γ ways here (z + (2 + hidden_expr e)) z 2 (words_of e) Longs cs (omega (arith, room)) (long_held z (omega (arith, room)))
          (omega (arith, room)) h.2 h.3,
    )
    block_fits Γ ways here z (Block ph ss es) room h =
        let Γ1 = sound.in_labelled h.0 es Γ in
        let inner = seen_all es ways in
        let known = here_labelled Γ ways h.0 es h.1 here in
        exits_fit Γ ways here (z + (hidden_phrase ph + hidden_stmts ss)) es _ (are_new Γ h.0 es h.1) (omega (arith, room)) h.4 (
          enabled_fits r Γ.depth inner (caught_by P z ph) _ (caught_fits Γ1 inner known z ph (omega (arith, room)) h.2)
              (blocks_fit Γ1 inner known (z + hidden_phrase ph) ss (omega (arith, room)) h.3),
          past_exits_fits r Γ.depth inner es 0,
        )
    block_fits Γ ways here z (Repeat Endless l) room h = loop_fits Γ ways here z NoCounter l room tt tt h.2
    block_fits Γ ways here z (Repeat (Counting v down left next) l) room h = absurd h.1
    block_fits Γ ways here z (For g down base range l) room h = (
      bounds_fit Γ ways here (z + 3) range (omega (arith, room)) h.2,
      (
        start_of_fits r Γ.depth z base range (omega (arith, room)),
        loop_fits Γ ways here (z + (3 + hidden_interval range)) (CountedIn z g down) l (omega (arith, room)) (omega (arith, room)) h.1 h.3,
      ),
    )
    block_fits Γ ways here z (Jump arms goal) room h = (comes Γ ways arms (point_of goal) here.meets h, goal_not_back goal arms)
    block_fits Γ ways here z (ReturnWith arms first places es) room h = (
      values_fit Γ ways here z es h.2 room h.5,
      (
        all_fit_both r Γ.depth (arrange_code places (sizes es)) _ (arrange_fits r Γ.depth places (sizes es))
            (λ g some. returned Γ ways here first places es h.2 h.4 h.5 h.6, tt),
        (comes Γ ways arms Leave here.meets h.3, tt),
      ),
    )
    block_fits Γ ways here z (Resume places es) room h = (
      values_fit Γ ways here z es h.1 room h.5,
      all_fit_both r Γ.depth (arrange_code places (sizes es)) _ (arrange_fits r Γ.depth places (sizes es))
          (λ g some. some (is_in_arm Γ ways here.meets h.3), tt),
    )
    block_fits Γ ways here z Reject room h = (λ g some. some h, tt)
    block_fits Γ ways here z (Retry n) room h =
        (comes Γ ways 1 (Start n) here.meets (subst (λ m. Reaches Γ 1 (Start m)) (sym h.1) ((here.meets).retry h.0)), tt)
    block_fits Γ ways here z (Continue n) room h =
        (comes Γ ways 1 (After n) here.meets (subst (λ m. Reaches Γ 1 (After m)) (sym h.1) ((here.meets).continue h.0)), tt)

    blocks_fit : (Γ : Scope) (ways : Ways) → Here Γ ways → (z : ℕ) (ss : Stmts) → z + hidden_stmts ss ≤ r.frame → StmtsIn Γ ss
        → Fits r (blocks P z ss) Γ.depth ways
    blocks_fit Γ ways here z NoStmts room h = tt
    blocks_fit Γ ways here z (AndStmt s ss) room h =
        (block_fits Γ ways here z s (omega (arith, room)) h.0, blocks_fit Γ ways here (z + hidden s) ss (omega (arith, room)) h.1)

    targets_fit : (Γ : Scope) (ways : Ways) → Here Γ ways → (z all : ℕ) (taken : List Part) (ts : Targets) (ks : Kinds) → z + hidden_targets ts ≤ r.frame
        → TargetsIn Γ ts ks → Fits r (targets P z all taken ts) Γ.depth ways
    targets_fit Γ ways here z all taken NoTargets ks room h = pop_fits r Γ.depth (all - words_taken taken)
    targets_fit Γ ways here z all taken (AndTarget p v s range ts) ks room h =
        if_fits r Γ.depth ways (has_index s) _ _
        (λ is. (
          (any r Γ.depth, tt),
          (
            path_fits Γ ways here z s h.1 h.0 (omega (arith, room)) h.5,
            (
              all_fit_both r Γ.depth (lift_code p.words (suc (words_over all taken p))) _ (lift_fits r Γ.depth p.words (suc (words_over all taken p)))
                  (all_fit_both r Γ.depth (check_code range) _ (check_fits r Γ.depth range)
                  (store_within_fits P r Γ (names Γ ways here) Γ.depth v h.1 p.words h.4 (within Γ ways here v s h.1 h.0 p.words h.4 h.5 h.3), tt)),
              targets_fit Γ ways here (z + hidden_suffixes s) all (p ∷ taken) ts ks (omega (arith, room)) h.7,
            ),
          ),
        ))
        (λ none. (
          all_fit_both r Γ.depth (lift_code p.words (words_over all taken p)) _ (lift_fits r Γ.depth p.words (words_over all taken p))
              (all_fit_both r Γ.depth (check_code range) _ (check_fits r Γ.depth range)
              (store_fits P r Γ (names Γ ways here) Γ.depth v h.1 (fields_of s) p.words h.4 (apart Γ ways here s h.1 h.0 p.words none h.5 h.3), tt)),
          targets_fit Γ ways here z all (p ∷ taken) ts ks (omega (arith, room)) h.7,
        ))
    targets_fit Γ ways here z all taken (AndConverted p v s c ts) ks room h =
        let words : counts.words_after c ≡ words_in h.1 = sym (words_converted c h.0 h.1 h.6).1 in
        if_fits r Γ.depth ways (has_index s) _ _
        (λ is. (
          (any r Γ.depth, tt),
          (
            path_fits Γ ways here z s h.2 h.1 (omega (arith, room)) h.8,
            (
              all_fit_both r Γ.depth (lift_code p.words (suc (words_over all taken p))) _ (lift_fits r Γ.depth p.words (suc (words_over all taken p)))
                  (all_fit_both r Γ.depth (conversion_code c) _ (conversion_fits r Γ.depth c) (
                    store_within_fits P r Γ (names Γ ways here) Γ.depth v h.2 (counts.words_after c) h.7
                        (within Γ ways here v s h.2 h.1 (counts.words_after c) h.7 h.8 words),
                    tt,
                  )),
              targets_fit Γ ways here (z + hidden_suffixes s) all (p ∷ taken) ts ks (omega (arith, room)) h.9,
            ),
          ),
        ))
        (λ none. (
          all_fit_both r Γ.depth (lift_code p.words (words_over all taken p)) _ (lift_fits r Γ.depth p.words (words_over all taken p))
              (all_fit_both r Γ.depth (conversion_code c) _ (conversion_fits r Γ.depth c) (
                store_fits P r Γ (names Γ ways here) Γ.depth v h.2 (fields_of s) (counts.words_after c) h.7
                    (apart Γ ways here s h.2 h.1 (counts.words_after c) none h.8 words),
                tt,
              )),
          targets_fit Γ ways here z all (p ∷ taken) ts ks (omega (arith, room)) h.9,
        ))

    selected_fits : (Γ : Scope) (ways : Ways) → Here Γ ways → (z x held words : ℕ) (k : Kind) (cs : Cases) → x + held ≤ r.frame → x + words_in k ≤ r.frame
        → z + hidden_cases cs ≤ r.frame → CasesTake k cs → CasesIn Γ cs → Fits r (selected P z x held words cs) Γ.depth ways
    selected_fits Γ ways here z x held words k (Otherwise s) stored there room take h = (pop_fits r Γ.depth words, block_fits Γ ways here z s room h)
    selected_fits Γ ways here z x held words k (AndCase ts s cs) stored there room take h = (
      (λ g some. stored, tt),
      (
        (
          tests_fit Γ ways here z x k ts there (omega (arith, room)) take.0 h.1,
          (block_fits Γ ways here (z + hidden_tests ts) s (omega (arith, room)) h.2, past_cases_fits r Γ.depth ways cs 1),
        ),
        cases_fit Γ ways here (z + (hidden_tests ts + hidden s)) x k cs there (omega (arith, room)) take.1 h.3,
      ),
    )

    cases_fit : (Γ : Scope) (ways : Ways) → Here Γ ways → (z x : ℕ) (k : Kind) (cs : Cases) → x + words_in k ≤ r.frame → z + hidden_cases cs ≤ r.frame
        → CasesTake k cs → CasesIn Γ cs → Fits r (cases P z x cs) Γ.depth ways
    cases_fit Γ ways here z x k (Otherwise s) there room take h = block_fits Γ ways here z s room h
    cases_fit Γ ways here z x k (AndCase ts s cs) there room take h = (
      (
        tests_fit Γ ways here z x k ts there (omega (arith, room)) take.0 h.1,
        (block_fits Γ ways here (z + hidden_tests ts) s (omega (arith, room)) h.2, past_cases_fits r Γ.depth ways cs 1),
      ),
      cases_fit Γ ways here (z + (hidden_tests ts + hidden s)) x k cs there (omega (arith, room)) take.1 h.3,
    )

    tests_fit : (Γ : Scope) (ways : Ways) → Here Γ ways → (z x : ℕ) (k : Kind) (ts : Tests) → x + words_in k ≤ r.frame → z + hidden_tests ts ≤ r.frame
        → TestsTake k ts → TestsIn Γ ts → Fits r (tests P z x ts) Γ.depth ways
    tests_fit Γ ways here z x k NoTests there room take h = tt
    tests_fit Γ ways here z x k (IfRelated range base o e ts) there room take h = (
      (
        (λ g some. held_word x k take.0 there, check_fits r Γ.depth range),
        ((forms_fit Γ ways here z e a_word (omega (arith, room)) h.1).value, (comparison_fits r Γ.depth base o, tt)),
      ),
      unless_fits r Γ.depth ways (is_last ts) _ (tests_fit Γ ways here (z + hidden_expr e) x k ts there (omega (arith, room)) take.1 h.2),
    )
    tests_fit Γ ways here z x k (IfWithin negated bases range ts) there room take h = (
      (
        (λ g some. held_word x k take.0 there, tt),
        (
          bounds_fit Γ ways here z range (omega (arith, room)) h.0,
          (within_of_fits r Γ.depth (scratch P) bases range (scratch_there P r Γ (names Γ ways here) Γ.depth), tt),
        ),
      ),
      unless_fits r Γ.depth ways (is_last ts) _ (tests_fit Γ ways here (z + hidden_interval range) x k ts there (omega (arith, room)) take.1 h.1),
    )
    tests_fit Γ ways here z x k (IfRelatedLong c base o e ts) there room take h = (
      (
        (λ g some. held_converted x k c take.0 there, conversion_fits r Γ.depth c),
        ((forms_fit Γ ways here z e a_long (omega (arith, room)) h.0).value, (long_comparison_fits r Γ.depth base o, tt)),
      ),
      unless_fits r Γ.depth ways (is_last ts) _ (tests_fit Γ ways here (z + hidden_expr e) x k ts there (omega (arith, room)) take.1 h.1),
    )
    tests_fit Γ ways here z x k (IfWithinLong negated c bases range ts) there room take h = (
      (
        (λ g some. held_converted x k c take.0 there, conversion_fits r Γ.depth c),
        (
          long_bounds_fit Γ ways here z range (omega (arith, room)) h.0,
          (long_within_of_fits r Γ.depth (scratch P) bases range (scratch_there P r Γ (names Γ ways here) Γ.depth), tt),
        ),
      ),
      unless_fits r Γ.depth ways (is_last ts) _ (tests_fit Γ ways here (z + hidden_interval range) x k ts there (omega (arith, room)) take.1 h.1),
    )

    exits_fit : (Γ : Scope) (ways : Ways) → Here Γ ways → (z : ℕ) (es : Exits) (before : tree.Block) → AreNew Γ es → z + hidden_exits es ≤ r.frame → ExitsIn Γ es
        → Fits r before Γ.depth (seen_all es ways) → Fits r (exits P z es before) Γ.depth ways
    exits_fit Γ ways here z NoExits before new room h g = g
    exits_fit Γ ways here z (AndExit ls s es) before new room h g =
        let rest = new_behind Γ ls s es new in
        exits_fit Γ ways here (z + hidden s) es _ rest (omega (arith, room)) h.2 (
          g,
          (
            block_fits Γ (seen_all es ways) (here_still Γ ways es rest here) z s (omega (arith, room)) h.1,
            past_exits_fits r Γ.depth (seen_all es ways) es 0,
          ),
        )

    loop_fits : (Γ : Scope) (ways : Ways) (here : Here Γ ways) (z : ℕ) (k : Counter) (l : Loop) → z + hidden_loop l ≤ r.frame → HasRoom r Γ.depth k
        → GivesTo Γ ways here k → LoopIn Γ l → Fits r (loop P z k l) Γ.depth ways
    loop_fits Γ ways here z k (LoopOf cond s es fin) room counted given h =
        let inner = seen_all es ways in
        let new = are_new Γ h.0 es h.1 in
        let still = here_still Γ ways es new here in
        exits_fit Γ ways here (z + (hidden_condition cond + hidden s)) es _ new (omega (arith, room)) h.4 (
          (
            head_fits Γ inner still k counted,
            (
              gives_fits Γ inner still k counted given,
              (
                condition_fits Γ inner still z cond (omega (arith, room)) h.2,
                (
                  block_fits (sound.in_labelled h.0 es Γ) inner (here_labelled Γ ways h.0 es h.1 here) (z + hidden_condition cond) s (omega (arith, room)) h.3,
                  step_fits r Γ.depth k counted,
                ),
              ),
            ),
          ),
          unless_fits r Γ.depth inner (is_endless k cond) _
              (finish_fits Γ inner still (z + (hidden_condition cond + hidden s + hidden_exits es)) es fin (omega (arith, room)) h.5),
        )

    condition_fits : (Γ : Scope) (ways : Ways) → Here Γ ways → (z : ℕ) (c : Condition) → z + hidden_condition c ≤ r.frame → ConditionIn Γ c
        → Fits r (condition P z c) Γ.depth ways
    condition_fits Γ ways here z Always room h = tt
    condition_fits Γ ways here z (While e) room h = (forms_fit Γ ways here z e a_word room h).jump false 0
    condition_fits Γ ways here z (Until e) room h = (forms_fit Γ ways here z e a_word room h).jump true 0

    finish_fits : (Γ : Scope) (ways : Ways) → Here Γ ways → (z : ℕ) (es : Exits) (fin : Finish) → z + hidden_finish fin ≤ r.frame → FinishIn Γ fin
        → Fits r (finish P z es fin) Γ.depth ways
    finish_fits Γ ways here z es NoFinish room h = past_exits_fits r Γ.depth ways es 0
    finish_fits Γ ways here z es (Finished s) room h = (block_fits Γ ways here z s room h, past_exits_fits r Γ.depth ways es 0)
