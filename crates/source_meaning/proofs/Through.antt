-- The whole meaning keeps what its parts keep: where what is run through `next` is a loose pair, what a construct does is
-- a tight one.
use Rattle.std.specs.Prelude.{ℕ, zero, suc, List, [], ◌∷◌, Bool, true, false}
use Rattle.mesa_types.specs.Typed.{Number, LongNumber, Literal, Variable, FieldOf, LengthOf, ByteOf, Checked, Converted, Operate, OperateLong, Negate, NegateLong, Relate, RelateLong, Within, WithinLong, Not, AllOf, SomeOf, Construct, Call, Raise, Expr, Exprs, NoExprs, AndExpr, Suffixes, NoSuffix, Field, Index, Operations, NoOperation, Then, Between, Stmt, Null, Marked, Declare, DeclareAs, Assign, Extract, Perform, If, Select, SelectLong, Block, Repeat, For, Jump, ReturnWith, Resume, Reject, Retry, Continue, Stmts, NoStmts, AndStmt, Targets, NoTargets, AndTarget, AndConverted, Cases, Otherwise, AndCase, Tests, NoTests, IfRelated, IfWithin, IfRelatedLong, IfWithinLong, Exits, NoExits, AndExit, Loop, LoopOf, Finish, NoFinish, Finished, Condition, Always, While, Until, Count, Endless, Counting, Phrase, Procedure, Point, Start, After, At, Leave, point_of}
use Rattle.mesa_types.specs.declared.typed_parts.Goal.{Goal}
use Rattle.mesa_types.specs.declared.typed_parts.Goal.TheVariants.{PastStatement, ToLabel, ToReturn}
use Rattle.mesa_types.specs.declared.typed_parts.Given.TheVariants.{NoVariable, GivenTo}
use Rattle.source_meaning.specs.Value.{Values, NoValues}
use Rattle.mesa_types.specs.Operators.{Tried, Fine, Faulty}
use Rattle.source_meaning.specs.Program.{Program, Host, WriteChar, WriteString, WriteDecimal, ReadChar, EndOfInput, Signal, Target, ToProcedure, ToHost, ToSignal}
use Rattle.source_meaning.specs.State.{ProcedureId, Answer, Normal, Gives, Go, Resumed, Rejected, Retried, Continued, Spent, Broken, Run, give, branch}
use Rattle.source_meaning.specs.Variables.{Enabled, Where, in_frame}
use Rattle.source_meaning.specs.Signals.{Next, Arm, NoArm, TheArm, arm_answer, arm_body, run_arm, run_unwind_arm, asked, ask_arm, ask, raise, on_tried, unwound, unwind, through_of, through}
use Rattle.source_meaning.specs.Calls.{run_procedure, start, start_first, results, host, call_to, call}
use Rattle.source_meaning.specs.Meaning.{counted, value, values, all_of, some_of, path, operations, long_operations, does, sequence, targets, cases, tests, exits, loop, finish, condition}
use Rattle.source_meaning.specs.Means.{control}
use Rattle.source_meaning.proofs.Mild.{store_mild, store_part_mild, store_all_mild, store_from_mild, put_parameters_mild, mark_started_mild, add_frame_mild}
use Rattle.source_meaning.proofs.Kept.{Pairs, Kept, IsCalm, Follows, Passes, give_quits, branch_kept, pass, value_kept as given_kept, word_kept, long_kept, on_values_kept, on_value_kept, on_word_kept, on_long_kept, on_normal_kept, dropped_kept, marked_kept, labelled_kept, loose_word, loose_on_normal, loose_body_end}

arm_answer_passes : (f : ℕ) → Passes (arm_answer f)
unfolding arm_answer
arm_answer_passes f = record { spent = give_quits Spent; broken = give_quits Broken }

asked_passes : (P : Program) (sig : Signal) (o : Run) → Passes (asked P sig o)
unfolding asked
asked_passes P sig o = record { spent = give_quits Spent; broken = give_quits Broken }

unwound_passes : (jump : Answer) → Passes (unwound jump)
unfolding unwound
unwound_passes jump = record { spent = give_quits Spent; broken = give_quits Broken }

through_of_passes : (next : Next) (w : Where) (ph : Phrase) → Passes (through_of next w ph)
unfolding through_of
through_of_passes next w ph = record { spent = give_quits Spent; broken = give_quits Broken }

module _ (L T : Pairs) (kept : Kept L T) (P : Program) (next next' : Next) (later : (s : Stmt) (w : Where) → L (next s w) (next' s w)) where
  -- Arms and raises.

  arm_answer_kept : (f : ℕ) (a : Answer) → L (arm_answer f a) (arm_answer f a)
  unfolding arm_answer
  arm_answer_kept f (Retried n) = kept.loose.its_give _
  arm_answer_kept f (Continued n) = kept.loose.its_give _
  arm_answer_kept f a = kept.loose.its_give a

  arm_body_kept : (l : Enabled) (c : List Enabled) (s : Stmt) → L (arm_body next l c s) (arm_body next' l c s)
  unfolding arm_body
  arm_body_kept l c s = kept.loose.its_after (later s _) (arm_answer_passes l.owner) (arm_answer_kept l.owner)

  run_arm_kept : (l : Enabled) (c : List Enabled) (first count : ℕ) (s : Stmt) (vs : Values) → L (run_arm next l c first count s vs) (run_arm next' l c first count s vs)
  unfolding run_arm
  run_arm_kept l c first count s vs = kept.loose.its_spend (kept.loose.its_enter (kept.loose.its_change _ (put_parameters_mild l first count vs) (arm_body_kept l c s)))

  asked_kept : (sig : Signal) {o o' : Run} → L o o' → (a : Answer) → L (asked P sig o a) (asked P sig o' a)
  unfolding asked
  asked_kept sig h Normal = h
  asked_kept sig h Rejected = h
  asked_kept sig h (Resumed vs) = branch_kept L _ (kept.loose.its_give _) h
  asked_kept sig h a = kept.loose.its_give a

  ask_arm_kept : (sig : Signal) {o o' : Run} → (a : Arm) (l : Enabled) (c : List Enabled) (vs : Values) → L o o' → L (ask_arm P next sig a l c vs o) (ask_arm P next' sig a l c vs o')
  unfolding ask_arm
  ask_arm_kept sig NoArm l c vs h = h
  ask_arm_kept sig (TheArm first count s) l c vs h = kept.loose.its_after (run_arm_kept l c first count s vs) (asked_passes P sig _) (asked_kept sig h)

  ask_kept : (sig : Signal) (vs : Values) (c : List Enabled) → L (ask P next sig vs c) (ask P next' sig vs c)
  unfolding ask
  ask_kept sig vs [] = kept.loose.its_give _
  ask_kept sig vs (l ∷ c) = ask_arm_kept sig _ l c vs (ask_kept sig vs c)

  pub raise_kept : (w : Where) (sig : Signal) (vs : Values) → T (raise P next w sig vs) (raise P next' w sig vs)
  unfolding raise
  raise_kept w sig vs = kept.tight_spend (ask_kept sig vs w.chain)

  loose_raise : (w : Where) (sig : Signal) (vs : Values) → L (raise P next w sig vs) (raise P next' w sig vs)
  unfolding raise
  loose_raise w sig vs = kept.loose.its_spend (ask_kept sig vs w.chain)

  on_tried_kept : {k k' : ℕ → Run} → (w : Where) (t : Tried) → ((n : ℕ) → T (k n) (k' n)) → T (on_tried P next w t k) (on_tried P next' w t k')
  unfolding on_tried
  on_tried_kept w (Fine n) h = h n
  on_tried_kept w (Faulty f) h = raise_kept w _ _

  -- Jumps out of a phrase.

  loose_unwound : (jump a : Answer) → L (unwound jump a) (unwound jump a)
  unfolding unwound
  loose_unwound jump Normal = kept.loose.its_give _
  loose_unwound jump Rejected = kept.loose.its_give _
  loose_unwound jump (Resumed vs) = kept.loose.its_give _
  loose_unwound jump (Gives vs) = kept.loose.its_give _
  loose_unwound jump a = kept.loose.its_give a

  loose_unwind_arm : (l : Enabled) (c : List Enabled) (s : Stmt) → L (run_unwind_arm next l c s) (run_unwind_arm next' l c s)
  unfolding run_unwind_arm
  loose_unwind_arm l c s = kept.loose.its_spend (kept.loose.its_enter (arm_body_kept l c s))

  unwind_arm_kept : (l : Enabled) (c : List Enabled) (s : Stmt) → T (run_unwind_arm next l c s) (run_unwind_arm next' l c s)
  unfolding run_unwind_arm
  unwind_arm_kept l c s = kept.tight_spend (kept.loose.its_enter (arm_body_kept l c s))

  unwound_kept : (jump : Answer) → IsCalm jump → (a : Answer) → Follows L T a (unwound jump a) (unwound jump a)
  unfolding unwound
  unwound_kept jump h Normal = kept.tight_give jump h
  unwound_kept jump h Rejected = kept.tight_give jump h
  unwound_kept jump h (Resumed vs) = kept.tight_give jump h
  unwound_kept jump h (Gives vs) = kept.tight_give jump h
  unwound_kept jump h a = pass L T kept a

  -- before a jump to a start a turn has been spent; any other jump stays as it is
  unwind_kept : (w : Where) (ph : Phrase) (a : Arm) (f : ℕ) (p : Point) → Follows L T (Go f p) (unwind next w ph a (Go f p)) (unwind next' w ph a (Go f p))
  unfolding unwind
  unwind_kept w ph NoArm f p = pass L T kept (Go f p)
  unwind_kept w ph (TheArm first count s) f (Start n) = kept.loose.its_after (loose_unwind_arm _ _ s) (unwound_passes _) (loose_unwound (Go f (Start n)))
  unwind_kept w ph (TheArm first count s) f (After n) = kept.tight_after (unwind_arm_kept _ _ s) (unwound_passes _) (unwound_kept (Go f (After n)) tt)
  unwind_kept w ph (TheArm first count s) f (At n) = kept.tight_after (unwind_arm_kept _ _ s) (unwound_passes _) (unwound_kept (Go f (At n)) tt)
  unwind_kept w ph (TheArm first count s) f Leave = kept.tight_after (unwind_arm_kept _ _ s) (unwound_passes _) (unwound_kept (Go f Leave) tt)

  through_go_kept : (w : Where) (ph : Phrase) (b : Bool) (a : Arm) (f : ℕ) (p : Point) →
      Follows L T (Go f p) (branch b (give (Go f p)) (unwind next w ph a (Go f p))) (branch b (give (Go f p)) (unwind next' w ph a (Go f p)))
  unfolding branch
  through_go_kept w ph true a f p = pass L T kept (Go f p)
  through_go_kept w ph false a f p = unwind_kept w ph a f p

  through_of_kept : (w : Where) (ph : Phrase) (a : Answer) → Follows L T a (through_of next w ph a) (through_of next' w ph a)
  unfolding through_of
  through_of_kept w ph (Go f p) = through_go_kept w ph _ _ f p
  through_of_kept w ph a = pass L T kept a

  pub through_kept : {m m' : Run} → (w : Where) (ph : Phrase) → T m m' → T (through next w ph m) (through next' w ph m')
  unfolding through
  through_kept w ph h = kept.tight_after h (through_of_passes next w ph) (through_of_kept w ph)

  -- Calls.

  in_frame_kept : {k k' : ℕ → Run} → (p : ProcedureId) (vs : Values) → ((h : ℕ) → L (k h) (k' h)) → L (in_frame p vs k) (in_frame p vs k')
  unfolding in_frame
  in_frame_kept p vs g = kept.loose.its_look λ s. kept.loose.its_change _ (add_frame_mild p vs) (g _)

  run_procedure_kept : {end end' : ℕ → Run} → (j q : ℕ) (c : List Enabled) (vs : Values) → ((h : ℕ) → L (end h) (end' h)) →
      L (run_procedure P next j q c vs end) (run_procedure P next' j q c vs end')
  unfolding run_procedure
  run_procedure_kept j q c vs g = kept.loose.its_enter (in_frame_kept _ _ λ h. loose_body_end L kept.loose h (later _ _) (g h))

  loose_start : (j : ℕ) (c : List Enabled) → L (start P next j c) (start P next' j c)
  unfolding start
  loose_start j c = kept.loose.its_change _ (mark_started_mild j) (kept.loose.its_spend (run_procedure_kept j 0 c NoValues λ h. kept.loose.its_give _))

  pub start_kept : (j : ℕ) (c : List Enabled) → T (start P next j c) (start P next' j c)
  unfolding start
  start_kept j c = kept.tight_change _ (mark_started_mild j) (kept.tight_spend (run_procedure_kept j 0 c NoValues λ h. kept.loose.its_give _))

  start_first_kept : {m m' : Run} → (i j : ℕ) (c : List Enabled) → L m m' → L (start_first P next i j c m) (start_first P next' i j c m')
  unfolding start_first
  start_first_kept i j c h = kept.loose.its_look λ s. branch_kept L _ h (loose_on_normal L kept.loose (loose_start j c) h)

  results_kept : (p : Procedure) (h : ℕ) → L (results p h) (results p h)
  unfolding results
  results_kept p h = kept.loose.its_look λ s. kept.loose.its_give _

  host_kept : (w : Where) (h : Host) (vs : Values) → L (host P next w h vs) (host P next' w h vs)
  unfolding host
  host_kept w WriteChar vs = kept.loose.its_put _ (kept.loose.its_give _)
  host_kept w WriteString vs = kept.loose.its_put _ (kept.loose.its_give _)
  host_kept w WriteDecimal vs = kept.loose.its_put _ (kept.loose.its_give _)
  host_kept w ReadChar vs = kept.loose.its_read (λ b. loose_word L kept.loose b) (loose_raise w _ _)
  host_kept w EndOfInput vs = kept.loose.its_peek λ b. loose_word L kept.loose _

  call_to_kept : (w : Where) (t : Target) (vs : Values) → L (call_to P next w t vs) (call_to P next' w t vs)
  unfolding call_to
  call_to_kept w (ToProcedure j q) vs = start_first_kept _ j _ (run_procedure_kept j q _ vs (results_kept _))
  call_to_kept w (ToHost h) vs = host_kept w h vs
  call_to_kept w (ToSignal s) vs = kept.loose.its_give _

  pub call_kept : (w : Where) (t : Target) (vs : Values) → T (call P next w t vs) (call P next' w t vs)
  unfolding call
  call_kept w t vs = kept.tight_spend (call_to_kept w t vs)

  counted_kept : {m m' n n' : Run} → (w : Where) (c : Count) → T m m' → T n n' → T (counted P next w c m n) (counted P next' w c m' n')
  unfolding counted
  counted_kept w Endless h g = h
  counted_kept w (Counting v down zero n) h g = g
  counted_kept w (Counting NoVariable down (suc left) n) h g = h
  counted_kept w (Counting (GivenTo x r) down (suc left) n) h g = on_tried_kept w _ λ y. kept.tight_change _ (store_mild w x _) h

  -- The rows.

  mutual
    unfolding value

    pub value_kept : (e : Expr) (w : Where) → T (value P next e w) (value P next' e w)
    value_kept (Number n) w = word_kept L T kept _
    value_kept (LongNumber n) w = long_kept L T kept _
    value_kept (Literal k) w = given_kept L T kept _
    value_kept (Variable h s words) w = on_values_kept L T kept (path_kept s w) λ p. kept.tight_look λ st. given_kept L T kept _
    value_kept (FieldOf e ps) w = on_value_kept L T kept (value_kept e w) λ v. given_kept L T kept _
    value_kept (LengthOf e) w = on_value_kept L T kept (value_kept e w) λ v. word_kept L T kept _
    value_kept (ByteOf e i) w = on_value_kept L T kept (value_kept e w) λ v. on_word_kept L T kept (value_kept i w) λ n. on_tried_kept w _ λ b. word_kept L T kept b
    value_kept (Checked r e) w = on_word_kept L T kept (value_kept e w) λ x. on_tried_kept w _ λ y. word_kept L T kept y
    value_kept (Converted c e) w = on_value_kept L T kept (value_kept e w) λ v. on_tried_kept w _ λ x. given_kept L T kept _
    value_kept (Operate e os) w = on_word_kept L T kept (value_kept e w) λ x. operations_kept os w x
    value_kept (OperateLong e os) w = on_long_kept L T kept (value_kept e w) λ x. long_operations_kept os w x
    value_kept (Negate e) w = on_word_kept L T kept (value_kept e w) λ x. word_kept L T kept _
    value_kept (NegateLong e) w = on_long_kept L T kept (value_kept e w) λ x. long_kept L T kept _
    value_kept (Relate b r d e) w = on_word_kept L T kept (value_kept d w) λ x. on_word_kept L T kept (value_kept e w) λ y. word_kept L T kept _
    value_kept (RelateLong b r d e) w = on_long_kept L T kept (value_kept d w) λ x. on_long_kept L T kept (value_kept e w) λ y. word_kept L T kept _
    value_kept (Within bs e (Between c p d q)) w =
        on_word_kept L T kept (value_kept e w) λ x. on_word_kept L T kept (value_kept c w) λ y. on_word_kept L T kept (value_kept d w) λ z. word_kept L T kept _
    value_kept (WithinLong bs e (Between c p d q)) w =
        on_long_kept L T kept (value_kept e w) λ x. on_long_kept L T kept (value_kept c w) λ y. on_long_kept L T kept (value_kept d w) λ z. word_kept L T kept _
    value_kept (Not e) w = on_word_kept L T kept (value_kept e w) λ x. word_kept L T kept _
    value_kept (AllOf es) w = all_of_kept es w
    value_kept (SomeOf es) w = some_of_kept es w
    value_kept (Construct places es) w = on_values_kept L T kept (values_kept es w) λ vs. given_kept L T kept _
    value_kept (Call c places es words ph) w = on_values_kept L T kept (values_kept es w) λ vs. through_kept w ph (call_kept _ _ _)
    value_kept (Raise r places es words ph) w = on_values_kept L T kept (values_kept es w) λ vs. through_kept w ph (raise_kept _ _ _)

    values_kept : (es : Exprs) (w : Where) → T (values P next es w) (values P next' es w)
    values_kept NoExprs w = kept.tight_give _ tt
    values_kept (AndExpr e es) w = on_value_kept L T kept (value_kept e w) λ v. on_values_kept L T kept (values_kept es w) λ vs. kept.tight_give _ tt

    all_of_kept : (es : Exprs) (w : Where) → T (all_of P next es w) (all_of P next' es w)
    all_of_kept NoExprs w = word_kept L T kept _
    all_of_kept (AndExpr e es) w = on_word_kept L T kept (value_kept e w) λ x. branch_kept T _ (all_of_kept es w) (word_kept L T kept _)

    some_of_kept : (es : Exprs) (w : Where) → T (some_of P next es w) (some_of P next' es w)
    some_of_kept NoExprs w = word_kept L T kept _
    some_of_kept (AndExpr e es) w = on_word_kept L T kept (value_kept e w) λ x. branch_kept T _ (word_kept L T kept _) (some_of_kept es w)

    path_kept : (s : Suffixes) (w : Where) → T (path P next s w) (path P next' s w)
    path_kept NoSuffix w = kept.tight_give _ tt
    path_kept (Field n offset s) w = on_values_kept L T kept (path_kept s w) λ p. kept.tight_give _ tt
    path_kept (Index r first n words e s) w =
        on_word_kept L T kept (value_kept e w) λ i. on_tried_kept w _ λ j. on_values_kept L T kept (path_kept s w) λ p. kept.tight_give _ tt

    operations_kept : (os : Operations) (w : Where) (x : ℕ) → T (operations P next os w x) (operations P next' os w x)
    operations_kept NoOperation w x = word_kept L T kept _
    operations_kept (Then r o e os) w x =
        on_tried_kept w _ λ left. on_word_kept L T kept (value_kept e w) λ right. on_tried_kept w _ λ y. operations_kept os w y

    long_operations_kept : (os : Operations) (w : Where) (x : ℕ) → T (long_operations P next os w x) (long_operations P next' os w x)
    long_operations_kept NoOperation w x = long_kept L T kept _
    long_operations_kept (Then r o e os) w x = on_long_kept L T kept (value_kept e w) λ right. on_tried_kept w _ λ y. long_operations_kept os w y

  targets_kept : (ts : Targets) (w : Where) (vs : Values) → T (targets P next ts w vs) (targets P next' ts w vs)
  unfolding targets
  targets_kept NoTargets w vs = kept.tight_give _ tt
  targets_kept (AndTarget part h s r ts) w vs =
      on_values_kept L T kept (path_kept s w) λ p. on_tried_kept w _ λ x. kept.tight_change _ (store_part_mild w h _ _) (targets_kept ts w vs)
  targets_kept (AndConverted part h s c ts) w vs =
      on_values_kept L T kept (path_kept s w) λ p. on_tried_kept w _ λ x. kept.tight_change _ (store_part_mild w h _ _) (targets_kept ts w vs)

  tests_kept : (ts : Tests) (w : Where) (x : ℕ) → T (tests P next ts w x) (tests P next' ts w x)
  unfolding tests
  tests_kept NoTests w x = word_kept L T kept _
  tests_kept (IfRelated r b o e ts) w x =
      on_tried_kept w _ λ left. on_word_kept L T kept (value_kept e w) λ right. branch_kept T _ (word_kept L T kept _) (tests_kept ts w x)
  tests_kept (IfWithin negated bs (Between c p d q) ts) w x =
      on_word_kept L T kept (value_kept c w) λ y. on_word_kept L T kept (value_kept d w) λ z. branch_kept T _ (word_kept L T kept _) (tests_kept ts w x)
  tests_kept (IfRelatedLong c b o e ts) w x =
      on_tried_kept w _ λ left. on_long_kept L T kept (value_kept e w) λ right. branch_kept T _ (word_kept L T kept _) (tests_kept ts w x)
  tests_kept (IfWithinLong negated conversion bs (Between c p d q) ts) w x =
      on_tried_kept w _ λ left. on_long_kept L T kept (value_kept c w) λ y. on_long_kept L T kept (value_kept d w) λ z. branch_kept T _ (word_kept L T kept _) (tests_kept ts w x)

  condition_kept : (c : Condition) (w : Where) → T (condition P next c w) (condition P next' c w)
  unfolding condition
  condition_kept Always w = word_kept L T kept _
  condition_kept (While e) w = value_kept e w
  condition_kept (Until e) w = on_word_kept L T kept (value_kept e w) λ x. word_kept L T kept _

  jump_kept : (f : ℕ) (g : Goal) → T (give (Go f (point_of g))) (give (Go f (point_of g)))
  unfolding point_of
  jump_kept f (PastStatement n) = kept.tight_give _ tt
  jump_kept f (ToLabel n) = kept.tight_give _ tt
  jump_kept f ToReturn = kept.tight_give _ tt

  mutual
    unfolding does

    pub does_kept : (s : Stmt) (w : Where) → T (does P next s w) (does P next' s w)
    does_kept Null w = kept.tight_give _ tt
    does_kept (Marked n s) w = marked_kept L T kept _ n (does_kept s w) (later (Marked n s) w)
    does_kept (Declare hs k) w = kept.tight_change _ (store_all_mild w hs _) (kept.tight_give _ tt)
    does_kept (DeclareAs hs k e) w = kept.tight_change _ (store_all_mild w hs _) (on_value_kept L T kept (value_kept e w) λ v. kept.tight_change _ (store_all_mild w hs v) (kept.tight_give _ tt))
    does_kept (Assign h s e) w =
        on_values_kept L T kept (path_kept s w) λ p. on_value_kept L T kept (value_kept e w) λ v. kept.tight_change _ (store_part_mild w h _ v) (kept.tight_give _ tt)
    does_kept (Extract true ts e) w = on_value_kept L T kept (value_kept e w) λ v. targets_kept ts w _
    does_kept (Extract false ts e) w = on_values_kept L T kept (value_kept e w) λ vs. targets_kept ts w _
    does_kept (Perform e) w = dropped_kept L T kept (value_kept e w)
    does_kept (If e s t) w = on_word_kept L T kept (value_kept e w) λ x. branch_kept T _ (does_kept s w) (does_kept t w)
    does_kept (Select e cs) w = on_word_kept L T kept (value_kept e w) λ x. cases_kept cs w x
    does_kept (SelectLong e cs) w = on_long_kept L T kept (value_kept e w) λ x. cases_kept cs w x
    does_kept (Block ph ss es) w = labelled_kept L T kept _ (through_kept w ph (sequence_kept ss _)) λ l. exits_kept es w l
    does_kept (Repeat c l) w = loop_kept l w c
    does_kept (For g down b (Between c p d q) l) w =
        on_word_kept L T kept (value_kept c w) λ x. on_word_kept L T kept (value_kept d w) λ y. loop_kept l w _
    does_kept (Jump arms goal) w = jump_kept _ goal
    does_kept (ReturnWith arms first places es) w = on_values_kept L T kept (values_kept es w) λ vs. kept.tight_change _ (store_from_mild w first _) (kept.tight_give _ tt)
    does_kept (Resume places es) w = on_values_kept L T kept (values_kept es w) λ vs. kept.tight_give _ tt
    does_kept Reject w = kept.tight_give _ tt
    does_kept (Retry n) w = kept.tight_give _ tt
    does_kept (Continue n) w = kept.tight_give _ tt

    sequence_kept : (ss : Stmts) (w : Where) → T (sequence P next ss w) (sequence P next' ss w)
    sequence_kept NoStmts w = kept.tight_give _ tt
    sequence_kept (AndStmt s ss) w = on_normal_kept L T kept (does_kept s w) (sequence_kept ss w)

    cases_kept : (cs : Cases) (w : Where) (x : ℕ) → T (cases P next cs w x) (cases P next' cs w x)
    cases_kept (Otherwise s) w x = does_kept s w
    cases_kept (AndCase ts s cs) w x = on_word_kept L T kept (tests_kept ts w x) λ b. branch_kept T _ (does_kept s w) (cases_kept cs w x)

    exits_kept : (es : Exits) (w : Where) (l : ℕ) → T (exits P next es w l) (exits P next' es w l)
    exits_kept NoExits w l = kept.tight_give _ tt
    exits_kept (AndExit ls s es) w l = branch_kept T _ (does_kept s w) (exits_kept es w l)

    loop_kept : (l : Loop) (w : Where) (n : Count) → T (loop P next l w n) (loop P next' l w n)
    loop_kept (LoopOf c s es fin) w n =
        labelled_kept L T kept _
        (counted_kept w n
        (on_word_kept L T kept (condition_kept c w) λ b. branch_kept T _
        (on_normal_kept L T kept (does_kept s w) (kept.tight_spend (later (Repeat _ (LoopOf c s es fin)) w)))
        (finish_kept fin w))
        (finish_kept fin w))
        λ l. exits_kept es w l

    finish_kept : (fin : Finish) (w : Where) → T (finish P next fin w) (finish P next' fin w)
    finish_kept NoFinish w = kept.tight_give _ tt
    finish_kept (Finished s) w = does_kept s w

  -- A whole program.

  pub control_kept : (js : List ℕ) → L (control P next js) (control P next' js)
  unfolding control
  control_kept [] = kept.loose.its_give _
  control_kept (j ∷ js) = kept.loose.its_look λ s. branch_kept L _ (control_kept js) (loose_on_normal L kept.loose (loose_start j []) (control_kept js))
