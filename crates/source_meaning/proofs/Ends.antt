-- A lawful program comes to an end: no jump leads out of it, no value is left over, and nothing of an arm is left.
use Rattle.std.specs.Prelude.{◌≡◌, refl, ℕ, zero, suc, List, [], ◌∷◌, true, false}
use mathlib.Core.Path.{sym, subst}
use Rattle.std.proofs.Common.{inr}
use Rattle.mesa_types.specs.Typed.{Number, LongNumber, Literal, Variable, FieldOf, LengthOf, ByteOf, Checked, Converted, Operate, OperateLong, Negate, NegateLong, Relate, RelateLong, Within, WithinLong, Not, AllOf, SomeOf, Construct, Call, Raise, Expr, Exprs, NoExprs, AndExpr, Suffixes, NoSuffix, Field, Index, Operations, NoOperation, Then, Between, Stmt, Null, Marked, Declare, DeclareAs, Assign, Extract, Perform, If, Select, SelectLong, Block, Repeat, For, Jump, ReturnWith, Resume, Reject, Retry, Continue, Stmts, NoStmts, AndStmt, Targets, NoTargets, AndTarget, AndConverted, Cases, Otherwise, AndCase, Tests, NoTests, IfRelated, IfWithin, IfRelatedLong, IfWithinLong, Exits, NoExits, AndExit, Loop, LoopOf, Finish, NoFinish, Finished, Condition, Always, While, Until, Count, Endless, Counting, Phrase, Point, At, Leave, point_of, Kind, Kinds, Procedure}
use Rattle.mesa_types.specs.declared.typed_parts.Given.TheVariants.{NoVariable, GivenTo}
use Rattle.mesa_types.specs.Sound.{Seen, Scope, labels_in, in_marked, in_labelled, in_arm, ExprIn, ExprsIn, WordsIn, SuffixesIn, OperationsIn, LongOperationsIn, PhraseIn, StmtIn, StmtsIn, TargetsIn, CasesIn, TestsIn, ExitsIn, LoopIn, FinishIn, ConditionIn}
use Rattle.source_meaning.specs.Value.{Values, NoValues}
use Rattle.mesa_types.specs.Operators.{WordFault, OutOfBounds, DividedByZero, Tried, Fine, Faulty}
use Rattle.source_meaning.specs.Program.{Program, Host, WriteChar, WriteString, WriteDecimal, ReadChar, EndOfInput, Signal, NoInput, Target, ToProcedure, ToHost, ToSignal, procedure_of, resumes}
use Rattle.source_meaning.specs.Lawful.{Lawful}
use Rattle.source_meaning.specs.State.{Ending, Answer, Normal, Gives, Go, Resumed, Rejected, Retried, Continued, Uncaught, Spent, FrameLimit, Broken, Run, give_word, give_long}
use Rattle.source_meaning.specs.Variables.{Enabled, Where}
use Rattle.source_meaning.specs.Signals.{Next, Arm, NoArm, TheArm, catching, arm_body, run_arm, run_unwind_arm, ask_arm, ask, raise, raised_for, on_tried, unwind, through_of, through}
use Rattle.source_meaning.specs.Calls.{run_procedure, start, start_first, results, host, call_to, call}
use Rattle.source_meaning.specs.Meaning.{has_label, counted, value, values, all_of, some_of, path, operations, long_operations, does, sequence, targets, cases, tests, exits, loop, finish, condition, meaning}
use Rattle.source_meaning.specs.Means.{control, outcome, first_state}
use Rattle.source_meaning.specs.Laws.{IsEnd, AlwaysEnds}
use Rattle.source_meaning.proofs.Only.{Answers, Allow, Only, only_give, only_wider, only_after, only_look, only_change, only_spend, only_enter, only_put, only_read, only_peek, only_branch, only_frame, only_values, only_value, only_word, only_long, only_result, only_number, only_long_number, only_normal, only_dropped}
use Rattle.source_meaning.proofs.Points.{among_of, Jumps, Beyond, Here, ChainIn, chain_scopes, caught_chain, beyond_caught, here_caught, beyond_here, true≢false, label_points, here_labels, not_these}
use Rattle.source_meaning.proofs.Bodies.{bodies}
use Rattle.source_meaning.proofs.Outward.{of_statement, of_expression, of_start, of_arm, more_statement, more_expression, choice, ArmFits, first_arm_fits, arm_points, arm_answer_only, asked_only, unwound_only, marked_only, labelled_only, go_only, body_end_only}

-- what is run through `next`: a sound statement, or a further round of a sound loop
abbrev RunIn : Scope → Stmt → Type 0
RunIn Γ (Repeat c l) = LoopIn Γ l
RunIn Γ s = StmtIn Γ s

run_of : (Γ : Scope) (s : Stmt) → StmtIn Γ s → RunIn Γ s
unfolding StmtIn
run_of Γ (Repeat c l) h = h.2
run_of Γ s h = h

module _ (e : Ending) (P : Program) (lawful : Lawful P) (next : Next)
    (later : (s : Stmt) (w : Where) (Γ : Scope) (cs : List Scope) → RunIn Γ s → ChainIn w.chain cs → Only (of_statement e Γ (Here Γ.points w cs)) (next s w)) where
  -- Arms and raises.

  arm_body_only : (l : Enabled) (c : List Enabled) (Γ : Scope) (cs : List Scope) (first count : ℕ) (s : Stmt) → ArmFits Γ (TheArm first count s) → ChainIn c cs →
      Only (of_arm e (Beyond (l ∷ c) (Γ ∷ cs))) (arm_body next l c s)
  unfolding arm_body ArmFits
  arm_body_only l c Γ cs first count s h g =
      let n = h.0 in
      let ls = h.1 in
      let w : Where = record { frame = l.owner; instance = l.instance; chain = c } in
      only_after refl (more_statement e (in_arm n ls Γ) (arm_points l c Γ cs n ls) (later s w (in_arm n ls Γ) cs (run_of _ s (h.4)) g))
      (arm_answer_only e l c Γ cs n ls h.2 h.3)

  ask_arm_only : (A : Answers) (sig : Signal) → A.ending ≡ e → ((n : ℕ) → resumes P sig n ≡ true → A.gives) → (a : Arm) (l : Enabled) (c : List Enabled) (Γ : Scope) (cs : List Scope) (vs : Values) {o : Run} →
      ((f : ℕ) (p : Point) → Beyond (l ∷ c) (Γ ∷ cs) f p → A.jumps f p) → ArmFits Γ a → ChainIn c cs → Only A o → Only A (ask_arm P next sig a l c vs o)
  unfolding ask_arm run_arm
  ask_arm_only A sig same ok NoArm l c Γ cs vs out f g o = o
  ask_arm_only A sig same ok (TheArm first count s) l c Γ cs vs out f g o =
      only_after refl
      (only_wider (record { ending = sym same; normal = λ x. x; gives = λ x. x; resumed = λ x. x; rejected = λ x. x; again = λ n x. x; jumps = out })
      (only_spend (only_enter (only_change _ (arm_body_only l c Γ cs first count s f g)))))
      (asked_only A P sig ok o)

  deeper : (l : Enabled) (c : List Enabled) (Γ : Scope) (cs : List Scope) (f : ℕ) (p : Point) → Beyond c cs f p → Beyond (l ∷ c) (Γ ∷ cs) f p
  unfolding Beyond
  deeper l c Γ cs f p h = inr h

  ask_only : (A : Answers) (sig : Signal) → A.ending ≡ e → ((n : ℕ) → resumes P sig n ≡ true → A.gives) → (vs : Values) (c : List Enabled) (cs : List Scope) →
      ((f : ℕ) (p : Point) → Beyond c cs f p → A.jumps f p) → ChainIn c cs → Only A (ask P next sig vs c)
  unfolding ask Allow
  ask_only A sig same ok vs [] cs out h = only_give A (Uncaught sig) tt
  ask_only A sig same ok vs (l ∷ c) [] out h = absurd h
  ask_only A sig same ok vs (l ∷ c) (Γ ∷ cs) out h =
      ask_arm_only A sig same ok _ l c Γ cs vs out (first_arm_fits Γ _ l.phrase h.0) h.1
      (ask_only A sig same ok vs c cs (λ f p x. out f p (deeper l c Γ cs f p x)) h.1)

  raise_only : (w : Where) (sig : Signal) (vs : Values) (cs : List Scope) → ChainIn w.chain cs → Only (of_expression e (Beyond w.chain cs)) (raise P next w sig vs)
  unfolding raise
  raise_only w sig vs cs h = only_spend (ask_only (of_expression e (Beyond w.chain cs)) sig refl (λ n t. tt) vs w.chain cs (λ f p x. x) h)

  -- nothing is given back to a fault
  no_resume : (f : WordFault) (n : ℕ) → resumes P (raised_for f) n ≡ true → ⊥
  unfolding resumes raised_for
  no_resume OutOfBounds n t = absurd (true≢false (sym t))
  no_resume DividedByZero n t = absurd (true≢false (sym t))

  fault_only : (A : Answers) (w : Where) (f : WordFault) (pts : List Seen) (cs : List Scope) → A.ending ≡ e → ((g : ℕ) (p : Point) → Here pts w cs g p → A.jumps g p) → ChainIn w.chain cs →
      Only A (raise P next w (raised_for f) NoValues)
  unfolding raise
  fault_only A w f pts cs same out h =
      only_spend (ask_only A (raised_for f) same (λ n t. absurd (no_resume f n t)) NoValues w.chain cs (λ g p x. out g p (beyond_here w pts cs g p x)) h)

  tried_only : (A : Answers) (w : Where) (t : Tried) (pts : List Seen) (cs : List Scope) {k : ℕ → Run} → A.ending ≡ e → ((g : ℕ) (p : Point) → Here pts w cs g p → A.jumps g p) → ChainIn w.chain cs →
      ((n : ℕ) → Only A (k n)) → Only A (on_tried P next w t k)
  unfolding on_tried
  tried_only A w (Fine n) pts cs same out h k = k n
  tried_only A w (Faulty f) pts cs same out h k = fault_only A w f pts cs same out h

  -- in an expression, and in a statement
  tried_value : (w : Where) (t : Tried) (pts : List Seen) (cs : List Scope) {k : ℕ → Run} → ChainIn w.chain cs → ((n : ℕ) → Only (of_expression e (Here pts w cs)) (k n)) → Only (of_expression e (Here pts w cs)) (on_tried P next w t k)
  tried_value w t pts cs h k = tried_only (of_expression e (Here pts w cs)) w t pts cs refl (λ g p x. x) h k

  tried_statement : (Γ : Scope) (w : Where) (t : Tried) (pts : List Seen) (cs : List Scope) {k : ℕ → Run} → ChainIn w.chain cs → ((n : ℕ) → Only (of_statement e Γ (Here pts w cs)) (k n)) → Only (of_statement e Γ (Here pts w cs)) (on_tried P next w t k)
  tried_statement Γ w t pts cs h k = tried_only (of_statement e Γ (Here pts w cs)) w t pts cs refl (λ g p x. x) h k

  -- Jumps out of a phrase.

  own_points : (w : Where) (ph : Phrase) (Γ : Scope) (cs : List Scope) (f : ℕ) (p : Point) → Beyond (record { owner = w.frame; instance = w.instance; phrase = ph } ∷ w.chain) (Γ ∷ cs) f p → Here Γ.points w cs f p
  unfolding Beyond Here
  own_points w ph Γ cs f p h = h

  unwind_only : (A : Answers) (w : Where) (ph : Phrase) (a : Arm) (Γ : Scope) (cs : List Scope) (f : ℕ) (p : Point) → A.ending ≡ e → ((g : ℕ) (q : Point) → Here Γ.points w cs g q → A.jumps g q) → ArmFits Γ a → ChainIn w.chain cs →
      A.jumps f p → Only A (unwind next w ph a (Go f p))
  unfolding unwind run_unwind_arm Allow
  unwind_only A w ph NoArm Γ cs f p same out h g j = only_give A (Go f p) j
  unwind_only A w ph (TheArm first count s) Γ cs f p same out h g j =
      let l : Enabled = record { owner = w.frame; instance = w.instance; phrase = ph } in
      only_after refl
      (only_wider (record { ending = sym same; normal = λ x. x; gives = λ x. x; resumed = λ x. x; rejected = λ x. x; again = λ n x. x; jumps = λ x q i. out x q (own_points w ph Γ cs x q i) })
      (only_spend (only_enter (arm_body_only l w.chain Γ cs first count s h g))))
      (unwound_only A A.jumps (λ x q i. i) f p j)

  through_of_only : (A : Answers) (w : Where) (ph : Phrase) (Γ : Scope) (cs : List Scope) → A.ending ≡ e → ((g : ℕ) (q : Point) → Here Γ.points w cs g q → A.jumps g q) → PhraseIn Γ ph → ChainIn w.chain cs →
      (a : Answer) → Allow A a → Only A (through_of next w ph a)
  unfolding through_of Allow
  through_of_only A w ph Γ cs same out h g (Go f p) x = only_branch _ (only_give A (Go f p) x) (unwind_only A w ph _ Γ cs f p same out (first_arm_fits Γ _ ph h) g x)
  through_of_only A w ph Γ cs same out h g Normal x = only_give A Normal x
  through_of_only A w ph Γ cs same out h g (Gives vs) x = only_give A (Gives vs) x
  through_of_only A w ph Γ cs same out h g (Resumed vs) x = only_give A (Resumed vs) x
  through_of_only A w ph Γ cs same out h g Rejected x = only_give A Rejected x
  through_of_only A w ph Γ cs same out h g (Retried n) x = only_give A (Retried n) x
  through_of_only A w ph Γ cs same out h g (Continued n) x = only_give A (Continued n) x
  through_of_only A w ph Γ cs same out h g (Uncaught s) x = only_give A (Uncaught s) tt
  through_of_only A w ph Γ cs same out h g Spent x = only_give A Spent tt
  through_of_only A w ph Γ cs same out h g FrameLimit x = only_give A FrameLimit tt
  through_of_only A w ph Γ cs same out h g Broken x = only_give A Broken x

  through_only : (A : Answers) (w : Where) (ph : Phrase) (Γ : Scope) (cs : List Scope) {m : Run} → A.ending ≡ e → ((g : ℕ) (q : Point) → Here Γ.points w cs g q → A.jumps g q) → PhraseIn Γ ph → ChainIn w.chain cs →
      Only A m → Only A (through next w ph m)
  unfolding through
  through_only A w ph Γ cs same out h g k = only_after refl k (through_of_only A w ph Γ cs same out h g)

  -- Calls.

  run_procedure_only : (A : Answers) (j q : ℕ) (c : List Enabled) (cs : List Scope) (vs : Values) {end : ℕ → Run} → A.ending ≡ e → ((f : ℕ) (p : Point) → Beyond c cs f p → A.jumps f p) → ChainIn c cs →
      ((h : ℕ) → Only A (end h)) → Only A (run_procedure P next j q c vs end)
  unfolding run_procedure
  run_procedure_only A j q c cs vs same out g k =
      let b = bodies P lawful j q in
      only_enter (only_frame _ _ λ h.
      body_end_only A b.scope b.only_return b.no_arm b.outermost h j c cs out
      (subst (λ x. Only (of_statement x b.scope (Here b.scope.points (record { frame = h; instance = j; chain = c }) cs)) (λ σ. next (procedure_of P j q).body.does (record { frame = h; instance = j; chain = c }) σ)) (sym same)
      (later _ (record { frame = h; instance = j; chain = c }) b.scope cs (run_of b.scope _ b.does) g)) (k h))

  start_only : (j : ℕ) (c : List Enabled) (cs : List Scope) → ChainIn c cs → Only (of_start e (Beyond c cs)) (start P next j c)
  unfolding start Allow
  start_only j c cs g = only_change _ (only_spend (run_procedure_only (of_start e (Beyond c cs)) j 0 c cs NoValues refl (λ f p x. x) g λ h. only_give (of_start e (Beyond c cs)) Normal tt))

  start_first_only : (i j : ℕ) (c : List Enabled) (cs : List Scope) {m : Run} → ChainIn c cs → Only (of_expression e (Beyond c cs)) m → Only (of_expression e (Beyond c cs)) (start_first P next i j c m)
  unfolding start_first
  start_first_only i j c cs g k = only_look λ s. only_branch _ k (only_normal (of_expression e (Beyond c cs)) (start_only j c cs g) k)

  results_only : (p : Procedure) (h : ℕ) (J : Jumps) → Only (of_expression e J) (results p h)
  unfolding results Allow
  results_only p h J = only_look λ s. only_give (of_expression e J) _ tt

  host_only : (w : Where) (h : Host) (vs : Values) (cs : List Scope) → ChainIn w.chain cs → Only (of_expression e (Beyond w.chain cs)) (host P next w h vs)
  unfolding host Allow
  host_only w WriteChar vs cs g = only_put _ (only_give (of_expression e (Beyond w.chain cs)) _ tt)
  host_only w WriteString vs cs g = only_put _ (only_give (of_expression e (Beyond w.chain cs)) _ tt)
  host_only w WriteDecimal vs cs g = only_put _ (only_give (of_expression e (Beyond w.chain cs)) _ tt)
  host_only w ReadChar vs cs g = only_read (λ b. only_number (of_expression e (Beyond w.chain cs)) tt b) (raise_only w NoInput NoValues cs g)
  host_only w EndOfInput vs cs g = only_peek λ b. only_number (of_expression e (Beyond w.chain cs)) tt _

  call_to_only : (w : Where) (t : Target) (vs : Values) (cs : List Scope) → ChainIn w.chain cs → Only (of_expression e (Beyond w.chain cs)) (call_to P next w t vs)
  unfolding call_to Allow
  call_to_only w (ToProcedure j q) vs cs g =
      start_first_only _ j _ cs g (run_procedure_only (of_expression e (Beyond w.chain cs)) j q w.chain cs vs refl (λ f p x. x) g λ h. results_only _ h _)
  call_to_only w (ToHost h) vs cs g = host_only w h vs cs g
  call_to_only w (ToSignal s) vs cs g = only_give (of_expression e (Beyond w.chain cs)) _ tt

  call_only : (w : Where) (t : Target) (vs : Values) (cs : List Scope) → ChainIn w.chain cs → Only (of_expression e (Beyond w.chain cs)) (call P next w t vs)
  unfolding call
  call_only w t vs cs g = only_spend (call_to_only w t vs cs g)

  -- a call or a raise, with its phrase
  under_only : (w : Where) (ph : Phrase) (Γ : Scope) (cs : List Scope) {m : Run} → PhraseIn Γ ph → ChainIn w.chain cs → Only (of_expression e (Beyond (catching ph w).chain (chain_scopes ph Γ cs))) m →
      Only (of_expression e (Here Γ.points w cs)) (through next w ph m)
  under_only w ph Γ cs h g k = through_only (of_expression e (Here Γ.points w cs)) w ph Γ cs refl (λ f p x. x) h g (more_expression e (beyond_caught ph w Γ cs) k)

  number : (J : Jumps) (n : ℕ) → Only (of_expression e J) (give_word n)
  number J n = only_number (of_expression e J) tt n

  long_number : (J : Jumps) (n : ℕ) → Only (of_expression e J) (give_long n)
  long_number J n = only_long_number (of_expression e J) tt n

  counted_only : (Γ : Scope) (w : Where) (c : Count) (pts : List Seen) (cs : List Scope) {m n : Run} → ChainIn w.chain cs →
      Only (of_statement e Γ (Here pts w cs)) m → Only (of_statement e Γ (Here pts w cs)) n → Only (of_statement e Γ (Here pts w cs)) (counted P next w c m n)
  unfolding counted
  counted_only Γ w Endless pts cs g x y = x
  counted_only Γ w (Counting k d zero n) pts cs g x y = y
  counted_only Γ w (Counting NoVariable d (suc left) n) pts cs g x y = x
  counted_only Γ w (Counting (GivenTo h r) d (suc left) n) pts cs g x y = tried_statement Γ w _ pts cs g λ i. only_change _ x

  -- The rows.

  mutual
    unfolding value StmtIn Allow

    value_only : (t : Expr) (w : Where) (Γ : Scope) (cs : List Scope) (ks : Kinds) → ExprIn Γ t ks → ChainIn w.chain cs → Only (of_expression e (Here Γ.points w cs)) (value P next t w)
    value_only (Number n) w Γ cs ks h g = number _ _
    value_only (LongNumber n) w Γ cs ks h g = long_number _ _
    value_only (Literal k) w Γ cs ks h g = only_result (of_expression e _) tt _
    value_only (Variable x s words) w Γ cs ks h g = only_values (of_expression e _) (path_only s w Γ cs _ _ h.3 g) λ p. only_look λ st. only_result (of_expression e _) tt _
    value_only (FieldOf t ps) w Γ cs ks h g = only_value (of_expression e _) (value_only t w Γ cs _ h.3 g) λ x. only_result (of_expression e _) tt _
    value_only (LengthOf t) w Γ cs ks h g = only_value (of_expression e _) (value_only t w Γ cs _ h.0 g) λ x. number _ _
    value_only (ByteOf t i) w Γ cs ks h g =
        only_value (of_expression e _) (value_only t w Γ cs _ h.0 g) λ x. only_word (of_expression e _) (value_only i w Γ cs _ h.1 g) λ n. tried_value w _ Γ.points cs g λ b. number _ _
    value_only (Checked r t) w Γ cs ks h g = only_word (of_expression e _) (value_only t w Γ cs _ h.1 g) λ x. tried_value w _ Γ.points cs g λ y. number _ _
    value_only (Converted c t) w Γ cs ks h g = only_value (of_expression e _) (value_only t w Γ cs _ h.4 g) λ x. tried_value w _ Γ.points cs g λ y. only_result (of_expression e _) tt _
    value_only (Operate t os) w Γ cs ks h g = only_word (of_expression e _) (value_only t w Γ cs _ h.0 g) λ x. operations_only os w x Γ cs h.1 g
    value_only (OperateLong t os) w Γ cs ks h g = only_long (of_expression e _) (value_only t w Γ cs _ h.0 g) λ x. long_operations_only os w x Γ cs h.1 g
    value_only (Negate t) w Γ cs ks h g = only_word (of_expression e _) (value_only t w Γ cs _ h.0 g) λ x. number _ _
    value_only (NegateLong t) w Γ cs ks h g = only_long (of_expression e _) (value_only t w Γ cs _ h.0 g) λ x. long_number _ _
    value_only (Relate b r d t) w Γ cs ks h g =
        only_word (of_expression e _) (value_only d w Γ cs _ h.0 g) λ x. only_word (of_expression e _) (value_only t w Γ cs _ h.1 g) λ y. number _ _
    value_only (RelateLong b r d t) w Γ cs ks h g =
        only_long (of_expression e _) (value_only d w Γ cs _ h.0 g) λ x. only_long (of_expression e _) (value_only t w Γ cs _ h.1 g) λ y. number _ _
    value_only (Within bs t (Between c p d q)) w Γ cs ks h g =
        only_word (of_expression e _) (value_only t w Γ cs _ h.0 g) λ x. only_word (of_expression e _) (value_only c w Γ cs _ (h.1).0 g) λ y.
        only_word (of_expression e _) (value_only d w Γ cs _ (h.1).1 g) λ z. number _ _
    value_only (WithinLong bs t (Between c p d q)) w Γ cs ks h g =
        only_long (of_expression e _) (value_only t w Γ cs _ h.0 g) λ x. only_long (of_expression e _) (value_only c w Γ cs _ (h.1).0 g) λ y.
        only_long (of_expression e _) (value_only d w Γ cs _ (h.1).1 g) λ z. number _ _
    value_only (Not t) w Γ cs ks h g = only_word (of_expression e _) (value_only t w Γ cs _ h.0 g) λ x. number _ _
    value_only (AllOf es) w Γ cs ks h g = all_of_only es w Γ cs h.1 g
    value_only (SomeOf es) w Γ cs ks h g = some_of_only es w Γ cs h.1 g
    value_only (Construct places es) w Γ cs ks h g = only_values (of_expression e _) (values_only es w Γ cs _ h.5 g) λ vs. only_result (of_expression e _) tt _
    value_only (Call c places es words ph) w Γ cs ks h g =
        only_values (of_expression e _) (values_only es w Γ cs _ h.3 g) λ vs. under_only w ph Γ cs h.7 g (call_only _ _ _ _ (caught_chain ph w Γ cs h.7 g))
    value_only (Raise r places es words ph) w Γ cs ks h g =
        only_values (of_expression e _) (values_only es w Γ cs _ h.3 g) λ vs. under_only w ph Γ cs h.6 g (raise_only _ _ _ _ (caught_chain ph w Γ cs h.6 g))

    values_only : (es : Exprs) (w : Where) (Γ : Scope) (cs : List Scope) (ks : Kinds) → ExprsIn Γ es ks → ChainIn w.chain cs → Only (of_expression e (Here Γ.points w cs)) (values P next es w)
    values_only NoExprs w Γ cs ks h g = only_give (of_expression e _) _ tt
    values_only (AndExpr t es) w Γ cs ks h g =
        only_value (of_expression e _) (value_only t w Γ cs _ h.2 g) λ x. only_values (of_expression e _) (values_only es w Γ cs _ h.3 g) λ vs. only_give (of_expression e _) _ tt

    all_of_only : (es : Exprs) (w : Where) (Γ : Scope) (cs : List Scope) → WordsIn Γ es → ChainIn w.chain cs → Only (of_expression e (Here Γ.points w cs)) (all_of P next es w)
    all_of_only NoExprs w Γ cs h g = number _ _
    all_of_only (AndExpr t es) w Γ cs h g = only_word (of_expression e _) (value_only t w Γ cs _ h.0 g) λ x. only_branch _ (all_of_only es w Γ cs h.1 g) (number _ _)

    some_of_only : (es : Exprs) (w : Where) (Γ : Scope) (cs : List Scope) → WordsIn Γ es → ChainIn w.chain cs → Only (of_expression e (Here Γ.points w cs)) (some_of P next es w)
    some_of_only NoExprs w Γ cs h g = number _ _
    some_of_only (AndExpr t es) w Γ cs h g = only_word (of_expression e _) (value_only t w Γ cs _ h.0 g) λ x. only_branch _ (number _ _) (some_of_only es w Γ cs h.1 g)

    path_only : (s : Suffixes) (w : Where) (Γ : Scope) (cs : List Scope) (j k : Kind) → SuffixesIn Γ s j k → ChainIn w.chain cs → Only (of_expression e (Here Γ.points w cs)) (path P next s w)
    path_only NoSuffix w Γ cs j k h g = only_give (of_expression e _) _ tt
    path_only (Field n offset s) w Γ cs j k h g = only_values (of_expression e _) (path_only s w Γ cs _ _ h.4 g) λ p. only_give (of_expression e _) _ tt
    path_only (Index r first n words t s) w Γ cs j k h g =
        only_word (of_expression e _) (value_only t w Γ cs _ h.6 g) λ i. tried_value w _ Γ.points cs g λ x.
        only_values (of_expression e _) (path_only s w Γ cs _ _ h.7 g) λ p. only_give (of_expression e _) _ tt

    operations_only : (os : Operations) (w : Where) (x : ℕ) (Γ : Scope) (cs : List Scope) → OperationsIn Γ os → ChainIn w.chain cs → Only (of_expression e (Here Γ.points w cs)) (operations P next os w x)
    operations_only NoOperation w x Γ cs h g = number _ _
    operations_only (Then r o t os) w x Γ cs h g =
        tried_value w _ Γ.points cs g λ left. only_word (of_expression e _) (value_only t w Γ cs _ h.1 g) λ right.
        tried_value w _ Γ.points cs g λ y. operations_only os w y Γ cs h.2 g

    long_operations_only : (os : Operations) (w : Where) (x : ℕ) (Γ : Scope) (cs : List Scope) → LongOperationsIn Γ os → ChainIn w.chain cs → Only (of_expression e (Here Γ.points w cs)) (long_operations P next os w x)
    long_operations_only NoOperation w x Γ cs h g = long_number _ _
    long_operations_only (Then r o t os) w x Γ cs h g =
        only_long (of_expression e _) (value_only t w Γ cs _ h.2 g) λ right. tried_value w _ Γ.points cs g λ y. long_operations_only os w y Γ cs h.3 g

  targets_only : (ts : Targets) (w : Where) (vs : Values) (Γ : Scope) (cs : List Scope) (ks : Kinds) → TargetsIn Γ ts ks → ChainIn w.chain cs → Only (of_statement e Γ (Here Γ.points w cs)) (targets P next ts w vs)
  unfolding targets StmtIn Allow
  targets_only NoTargets w vs Γ cs ks h g = only_give (of_statement e Γ _) Normal tt
  targets_only (AndTarget part x s r ts) w vs Γ cs ks h g =
      only_values (of_statement e Γ _) (path_only s w Γ cs _ _ h.5 g) λ p. tried_statement Γ w _ Γ.points cs g λ y. only_change _ (targets_only ts w vs Γ cs ks h.7 g)
  targets_only (AndConverted part x s c ts) w vs Γ cs ks h g =
      only_values (of_statement e Γ _) (path_only s w Γ cs _ _ h.8 g) λ p. tried_statement Γ w _ Γ.points cs g λ y. only_change _ (targets_only ts w vs Γ cs ks h.9 g)

  tests_only : (ts : Tests) (w : Where) (x : ℕ) (Γ : Scope) (cs : List Scope) → TestsIn Γ ts → ChainIn w.chain cs → Only (of_expression e (Here Γ.points w cs)) (tests P next ts w x)
  unfolding tests StmtIn
  tests_only NoTests w x Γ cs h g = number _ _
  tests_only (IfRelated r b o t ts) w x Γ cs h g =
      tried_value w _ Γ.points cs g λ left. only_word (of_expression e _) (value_only t w Γ cs _ h.1 g) λ right. only_branch _ (number _ _) (tests_only ts w x Γ cs h.2 g)
  tests_only (IfWithin negated bs (Between c p d q) ts) w x Γ cs h g =
      only_word (of_expression e _) (value_only c w Γ cs _ (h.0).0 g) λ y. only_word (of_expression e _) (value_only d w Γ cs _ (h.0).1 g) λ z. only_branch _ (number _ _) (tests_only ts w x Γ cs h.1 g)
  tests_only (IfRelatedLong c b o t ts) w x Γ cs h g =
      tried_value w _ Γ.points cs g λ left. only_long (of_expression e _) (value_only t w Γ cs _ h.0 g) λ right. only_branch _ (number _ _) (tests_only ts w x Γ cs h.1 g)
  tests_only (IfWithinLong negated conversion bs (Between c p d q) ts) w x Γ cs h g =
      tried_value w _ Γ.points cs g λ left. only_long (of_expression e _) (value_only c w Γ cs _ (h.0).0 g) λ y. only_long (of_expression e _) (value_only d w Γ cs _ (h.0).1 g) λ z.
      only_branch _ (number _ _) (tests_only ts w x Γ cs h.1 g)

  condition_only : (c : Condition) (w : Where) (Γ : Scope) (cs : List Scope) → ConditionIn Γ c → ChainIn w.chain cs → Only (of_expression e (Here Γ.points w cs)) (condition P next c w)
  unfolding condition StmtIn
  condition_only Always w Γ cs h g = number _ _
  condition_only (While t) w Γ cs h g = value_only t w Γ cs _ h g
  condition_only (Until t) w Γ cs h g = only_word (of_expression e _) (value_only t w Γ cs _ h g) λ x. number _ _

  -- a construct within the labels of a statement is one of the statement's scope, with more jumps

  mutual
    unfolding does StmtIn in_marked in_labelled labels_in Allow

    does_only : (s : Stmt) (w : Where) (Γ : Scope) (cs : List Scope) → StmtIn Γ s → ChainIn w.chain cs → Only (of_statement e Γ (Here Γ.points w cs)) (does P next s w)
    does_only Null w Γ cs h g = only_give (of_statement e Γ _) Normal tt
    does_only (Marked n s) w Γ cs h g = marked_only e Γ w cs n Γ.depth (does_only s w (in_marked n Γ) cs h.1 g) (later (Marked n s) w Γ cs h g)
    does_only (Declare hs k) w Γ cs h g = only_change _ (only_give (of_statement e Γ _) Normal tt)
    does_only (DeclareAs hs k t) w Γ cs h g = only_change _ (only_value (of_statement e Γ _) (value_only t w Γ cs _ h.3 g) λ x. only_change _ (only_give (of_statement e Γ _) Normal tt))
    does_only (Assign x s t) w Γ cs h g =
        only_values (of_statement e Γ _) (path_only s w Γ cs _ _ h.4 g) λ p. only_value (of_statement e Γ _) (value_only t w Γ cs _ h.5 g) λ y. only_change _ (only_give (of_statement e Γ _) Normal tt)
    does_only (Extract true ts t) w Γ cs h g = only_value (of_statement e Γ _) (value_only t w Γ cs _ h.3 g) λ x. targets_only ts w _ Γ cs _ h.4 g
    does_only (Extract false ts t) w Γ cs h g = only_values (of_statement e Γ _) (value_only t w Γ cs _ h.4 g) λ vs. targets_only ts w _ Γ cs _ h.5 g
    does_only (Perform t) w Γ cs h g = only_dropped (of_statement e Γ _) tt (value_only t w Γ cs _ h.3 g)
    does_only (If t s u) w Γ cs h g = only_word (of_statement e Γ _) (value_only t w Γ cs _ h.1 g) λ x. only_branch _ (does_only s w Γ cs h.2 g) (does_only u w Γ cs h.3 g)
    does_only (Select t ks) w Γ cs h g = only_word (of_statement e Γ _) (value_only t w Γ cs _ h.2 g) λ x. cases_only ks w x Γ cs h.4 g
    does_only (SelectLong t ks) w Γ cs h g = only_long (of_statement e Γ _) (value_only t w Γ cs _ h.1 g) λ x. cases_only ks w x Γ cs h.3 g
    does_only (Block ph ss es) w Γ cs h g =
        let Δ = in_labelled h.0 es Γ in
        labelled_only e Γ w cs (labels_in es) Γ.depth
        (through_only (of_statement e Γ (Here Δ.points w cs)) w ph Δ cs refl (λ f p x. x) h.2 g
        (more_statement e Γ (here_caught ph w Δ cs)
        (sequence_only ss (catching ph w) Δ (chain_scopes ph Δ cs) h.3 (caught_chain ph w Δ cs h.2 g))))
        λ l x. exits_only es w l Γ cs h.4 g x
    does_only (Repeat c l) w Γ cs h g = loop_only l w c Γ cs h.2 g
    does_only (For k d b (Between c p t q) l) w Γ cs h g =
        only_word (of_statement e Γ _) (value_only c w Γ cs _ (h.2).0 g) λ x. only_word (of_statement e Γ _) (value_only t w Γ cs _ (h.2).1 g) λ y. loop_only l w _ Γ cs h.3 g
    does_only (Jump arms goal) w Γ cs h g = go_only e Γ w cs (point_of goal) (among_of Γ arms (point_of goal) h)
    does_only (ReturnWith arms first places es) w Γ cs h g =
        only_values (of_statement e Γ _) (values_only es w Γ cs _ h.5 g) λ vs. only_change _ (go_only e Γ w cs Leave (among_of Γ arms Leave h.3))
    does_only (Resume places es) w Γ cs h g = only_values (of_statement e Γ _) (values_only es w Γ cs _ h.5 g) λ vs. only_give (of_statement e Γ _) _ h.3
    does_only Reject w Γ cs h g = only_give (of_statement e Γ _) Rejected h
    does_only (Retry n) w Γ cs h g = only_give (of_statement e Γ _) (Retried n) h
    does_only (Continue n) w Γ cs h g = only_give (of_statement e Γ _) (Continued n) h

    sequence_only : (ss : Stmts) (w : Where) (Γ : Scope) (cs : List Scope) → StmtsIn Γ ss → ChainIn w.chain cs → Only (of_statement e Γ (Here Γ.points w cs)) (sequence P next ss w)
    sequence_only NoStmts w Γ cs h g = only_give (of_statement e Γ _) Normal tt
    sequence_only (AndStmt s ss) w Γ cs h g = only_normal (of_statement e Γ _) (does_only s w Γ cs h.0 g) (sequence_only ss w Γ cs h.1 g)

    cases_only : (ks : Cases) (w : Where) (x : ℕ) (Γ : Scope) (cs : List Scope) → CasesIn Γ ks → ChainIn w.chain cs → Only (of_statement e Γ (Here Γ.points w cs)) (cases P next ks w x)
    cases_only (Otherwise s) w x Γ cs h g = does_only s w Γ cs h g
    cases_only (AndCase ts s ks) w x Γ cs h g =
        only_word (of_statement e Γ _) (tests_only ts w x Γ cs h.1 g) λ y. only_branch _ (does_only s w Γ cs h.2 g) (cases_only ks w x Γ cs h.3 g)

    exits_only : (es : Exits) (w : Where) (l : ℕ) (Γ : Scope) (cs : List Scope) → ExitsIn Γ es → ChainIn w.chain cs → Here (label_points (labels_in es) Γ.depth Γ.points) w cs w.frame (At l) →
        Only (of_statement e Γ (Here Γ.points w cs)) (exits P next es w l)
    exits_only NoExits w l Γ cs h g x = only_give (of_statement e Γ _) (Go w.frame (At l)) x
    exits_only (AndExit ls s es) w l Γ cs h g x =
        choice (has_label l ls) (λ t. does_only s w Γ cs h.1 g) λ t. exits_only es w l Γ cs h.2 g (not_these w ls (labels_in es) Γ.depth Γ.points cs l t x)

    loop_only : (l : Loop) (w : Where) (n : Count) (Γ : Scope) (cs : List Scope) → LoopIn Γ l → ChainIn w.chain cs → Only (of_statement e Γ (Here Γ.points w cs)) (loop P next l w n)
    loop_only (LoopOf c s es fin) w n Γ cs h g =
        let Δ = in_labelled h.0 es Γ in
        labelled_only e Γ w cs (labels_in es) Γ.depth
        (counted_only Γ w n Δ.points cs g
        (only_word (of_statement e Γ (Here Δ.points w cs)) (more_expression e (here_labels w (labels_in es) Γ.depth Γ.points cs) (condition_only c w Γ cs h.2 g)) λ x. only_branch _
        (only_normal (of_statement e Γ (Here Δ.points w cs)) (does_only s w Δ cs h.3 g)
        (more_statement e Γ (here_labels w (labels_in es) Γ.depth Γ.points cs) (only_spend (later (Repeat _ (LoopOf c s es fin)) w Γ cs h g))))
        (more_statement e Γ (here_labels w (labels_in es) Γ.depth Γ.points cs) (finish_only fin w Γ cs h.5 g)))
        (more_statement e Γ (here_labels w (labels_in es) Γ.depth Γ.points cs) (finish_only fin w Γ cs h.5 g)))
        λ l x. exits_only es w l Γ cs h.4 g x

    finish_only : (fin : Finish) (w : Where) (Γ : Scope) (cs : List Scope) → FinishIn Γ fin → ChainIn w.chain cs → Only (of_statement e Γ (Here Γ.points w cs)) (finish P next fin w)
    finish_only NoFinish w Γ cs h g = only_give (of_statement e Γ _) Normal tt
    finish_only (Finished s) w Γ cs h g = does_only s w Γ cs h g

  run_only : (s : Stmt) (w : Where) (Γ : Scope) (cs : List Scope) → RunIn Γ s → ChainIn w.chain cs → Only (of_statement e Γ (Here Γ.points w cs)) (does P next s w)
  unfolding does
  run_only (Repeat c l) w Γ cs h g = loop_only l w c Γ cs h g
  run_only s w Γ cs h g = does_only s w Γ cs h g

  control_only : (js : List ℕ) → Only (of_start e (Beyond [] [])) (control P next js)
  unfolding control Allow
  control_only [] = only_give (of_start e (Beyond [] [])) Normal tt
  control_only (j ∷ js) = only_look λ s. only_branch _ (control_only js) (only_normal (of_start e (Beyond [] [])) (start_only j [] [] tt) (control_only js))

meaning_only : (e : Ending) (P : Program) → Lawful P → (n : ℕ) (s : Stmt) (w : Where) (Γ : Scope) (cs : List Scope) → RunIn Γ s → ChainIn w.chain cs →
    Only (of_statement e Γ (Here Γ.points w cs)) (meaning P n s w)
unfolding meaning Allow
meaning_only e P lawful zero s w Γ cs h g = only_give (of_statement e Γ (Here Γ.points w cs)) Spent tt
meaning_only e P lawful (suc n) s w Γ cs h g = run_only e P lawful (meaning P n) (meaning_only e P lawful n) s w Γ cs h g

end_of : (e : Ending) (a : Answer) → Allow (of_start e (Beyond [] [])) a → IsEnd e a
unfolding Allow Beyond IsEnd
end_of e Normal h = tt
end_of e (Gives vs) h = absurd h
end_of e (Go f p) h = absurd h
end_of e (Resumed vs) h = absurd h
end_of e Rejected h = absurd h
end_of e (Retried n) h = absurd h
end_of e (Continued n) h = absurd h
end_of e (Uncaught s) h = tt
end_of e Spent h = tt
end_of e FrameLimit h = tt
end_of e Broken h = h

pub always_ends : AlwaysEnds
unfolding outcome first_state
always_ends P lawful input e turns =
    end_of e _ ((control_only e P lawful (meaning P (suc turns)) (meaning_only e P lawful (suc turns)) P.control).its (first_state P input e turns) refl)
