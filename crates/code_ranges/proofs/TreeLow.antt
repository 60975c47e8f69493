-- The blocks of a sound body are low: the numbers of its tree are words, and a statement has few operands.
use Rattle.std.proofs.Common.{◌≡◌, ap, subst, ℕ, zero, suc, ◌+◌, ◌-◌, ◌*◌, ◌<◌, ◌≤◌, List, [], ◌∷◌, Bool, true, false, not, arith}
use Rattle.mesa_base.specs.declared.limits.TheConstants.{OPERAND_WORDS}
use Rattle.mesa_types.specs.declared.typed_parts.Home.{Home}
use Rattle.mesa_types.specs.declared.typed_parts.Home.TheVariants.{Global, Local}
use Rattle.mesa_types.specs.declared.typed_parts.Part.{Part}
use Rattle.mesa_types.specs.Typed.{Kind, Array, Record, Ordinal, Longs, Kinds, Expr, Number, LongNumber, Literal, Variable, FieldOf, LengthOf, ByteOf, Checked, Converted, Operate, OperateLong, Negate, NegateLong, Relate, RelateLong, Within, WithinLong, Not, AllOf, SomeOf, Construct, Call, Raise, Exprs, NoExprs, AndExpr, Suffixes, NoSuffix, Field, Index, Operations, NoOperation, Then, Interval, Between, Phrase, NoPhrase, Catch, Arms, NoArms, AndArm, Stmt, Null, Marked, Declare, DeclareAs, Assign, Extract, Perform, If, Select, SelectLong, Block, Repeat, Endless, Counting, For, Jump, ReturnWith, Resume, Reject, Retry, Continue, Stmts, NoStmts, AndStmt, Targets, NoTargets, AndTarget, AndConverted, Cases, Otherwise, AndCase, Tests, NoTests, IfRelated, IfWithin, IfRelatedLong, IfWithinLong, Exits, NoExits, AndExit, Loop, LoopOf, Finish, NoFinish, Finished, Condition, Always, While, Until, Texts}
use Rattle.mesa_types.specs.Counts.{hidden, hidden_expr, hidden_exprs, hidden_suffixes, hidden_interval, hidden_phrase, hidden_stmts, hidden_targets, hidden_tests, hidden_exits, hidden_condition, words_of, words_given, words_after, last_words, unnamed, operands, operands_of, operands_in, operands_of_run, operands_of_interval, operands_of_targets, operands_of_tests, operands_of_cases, operands_of_condition, operands_of_loop, operands_of_stmt}
use Rattle.mesa_types.specs.Shapes.{words_in, words_in_all, one, HasWords, KindAt}
use Rattle.mesa_types.specs.Sound as sound
use Rattle.mesa_types.specs.Sound.{Scope, a_word, a_long, Fits, VariableIn, GivenIn, CountIn, CasesTake, TestsTake, ExprIn, ExprsIn, WordsIn, SuffixesIn, OperationsIn, LongOperationsIn, IntervalIn, LongIntervalIn, PhraseIn, ArmsIn, StmtIn, StmtsIn, TargetsIn, CasesIn, TestsIn, ExitsIn, LoopIn, FinishIn, ConditionIn}
use Rattle.mesa_types.proofs.WordSizes.{values_have_words}
use Rattle.code_rules.specs.CodeFor.{words_before_last, words_taken, words_over}
use Rattle.code_rules.specs.Loops.{Counter, NoCounter, CountedIn, next_slot}
use Rattle.code_rules.specs.OwnCode.{lift_code, check_code, conversion_code, arrange_code}
use Rattle.code_rules.specs.Reading.{Coded, scratch}
use Rattle.code_rules.specs.Slots.{fields_of, sizes}
use Rattle.code_blocks.specs.Blocks as tree
use Rattle.code_blocks.specs.Translation.{has_index, head_code, gives_next, past_else, past_cases, past_exits, if_last, is_last, is_endless, forms, values, operands as operand_jumps, bounds, operations, long_operations, path, caught_by, arm_blocks, block, blocks, targets, selected, cases, tests, exits, loop, condition, finish}
use Rattle.code_blocks.proofs.ExtractRows.{HaveWords, kind_has, fields_have, variable_has, part_has}
use Rattle.code_blocks.proofs.Keeping.{selects_take}
use Rattle.code_blocks.proofs.NamedWords.{words_named, words_converted_few, values_named}
use Rattle.code_blocks.proofs.NamesFit.{kind_lies}
use Rattle.code_blocks.proofs.Values.{one_is, words_converted, fields_fit, total_given}
use Rattle.code_ranges.proofs.Low.{AllLow, Low, ArmsLow, all_low_both, FormsLow, by_value_low, if_low, unless_low, turned_low, enabled_low}
use Rattle.code_ranges.proofs.OwnLow.{pop_low, long_low, lift_low, field_low, check_low, conversion_low, range_is, range_of, index_low, comparison_low, long_comparison_low, relation_low, long_relation_low, arrange_low, operator_low, long_operator_low, within_of_low, long_within_of_low, start_of_low, step_low, load_low, store_low, load_within_low, store_within_low, zero_low, spread_low, give_low, call_low, raise_low}

-- the variables of a scope have words, and few

abbrev pub Roomy : Scope → Type 0
Roomy Γ = HaveWords Γ × (words_in_all Γ.globals ≤ 65535) × (words_in_all Γ.locals ≤ 65535)

variable_few : (Γ : Scope) → Roomy Γ → (v : Home) (k : Kind) → VariableIn Γ v k → words_in k ≤ 65535
unfolding VariableIn
variable_few Γ g (Local n) k at = omega (arith, (kind_lies Γ.locals n k at).1, g.2)
variable_few Γ g (Global n) k at = omega (arith, (kind_lies Γ.globals n k at).1, g.1)

-- an array has room for each of its elements
element_few : (n w : ℕ) → 0 < n → w ≤ n * w
element_few zero w some = absurd (omega (arith, some))
element_few (suc n) w some = let e : suc n * w ≡ w + n * w = grind arith in omega (arith, e)

-- a part, with the fields before it, lies in the whole
fields_few : (Γ : Scope) (s : Suffixes) (j k : Kind) → HasWords j → SuffixesIn Γ s j k → fields_of s + words_in k ≤ words_in j
unfolding SuffixesIn HasWords words_in
fields_few Γ NoSuffix j k has h = omega (arith, ap words_in h)
fields_few Γ (Field n offset s) j k has h =
    let inner = fields_few Γ s h.1 k (kind_has h.0 n h.1 (fields_have h.0 (subst HasWords h.2 has)) (h.3).is_there) h.4 in
    omega (arith, inner, ap words_in h.2, (h.3).lies, (kind_lies h.0 n h.1 (h.3).is_there).1)
fields_few Γ (Index range first n words e s) j k has h =
    let array : HasWords (Array n h.0) = subst HasWords h.1 has in
    omega (arith, fields_few Γ s h.0 k array.1 h.7, ap words_in h.1, element_few n (words_in h.0) array.0)

-- of a kind with few words, a field and an element are such too

part_of : (ks : Kinds) (n : ℕ) (k j : Kind) → j ≡ Record ks → HasWords j → KindAt ks n k → HasWords k
part_of ks n k j e has at = kind_has ks n k (fields_have ks (subst HasWords e has)) at

part_small : (ks : Kinds) (n : ℕ) (k j : Kind) → j ≡ Record ks → words_in j ≤ 65535 → KindAt ks n k → words_in k ≤ 65535
unfolding words_in
part_small ks n k j e small at = omega (arith, ap words_in e, small, (kind_lies ks n k at).1)

element_of : (n : ℕ) (k j : Kind) → j ≡ Array n k → HasWords j → words_in j ≤ 65535 → HasWords k × (words_in k ≤ 65535)
unfolding HasWords words_in
element_of n k j e has small =
    let array : HasWords (Array n k) = subst HasWords e has in
    (array.1, omega (arith, ap words_in e, small, element_few n (words_in k) array.0))

module _ (Γ : Scope) (g : Roomy Γ) (v : Home) (s : Suffixes) (j k : Kind) (at : VariableIn Γ v j) (h : SuffixesIn Γ s j k) where
  -- what is named has words
  some_words : (words : ℕ) → words ≡ words_in k → 1 ≤ words
  some_words words e = omega (arith, e, values_have_words.of_kind k (part_has Γ s j k (variable_has Γ v j g.0 at) h))

  fields_are : fields_of s ≤ 65535
  fields_are = omega (arith, fields_few Γ s j k (variable_has Γ v j g.0 at) h, variable_few Γ g v j at)

-- what only jumps

past_else_low : (s : Stmt) (part : ℕ) → part ≤ 65535 → Low (past_else s part)
past_else_low Null part le = tt
past_else_low (Marked k s) part le = le
past_else_low (Declare hs k) part le = le
past_else_low (DeclareAs hs k e) part le = le
past_else_low (Assign h s e) part le = le
past_else_low (Extract b ts e) part le = le
past_else_low (Perform e) part le = le
past_else_low (If e s t) part le = le
past_else_low (Select e cs) part le = le
past_else_low (SelectLong e cs) part le = le
past_else_low (Block ph ss es) part le = le
past_else_low (Repeat c l) part le = le
past_else_low (For g down base range l) part le = le
past_else_low (Jump arms goal) part le = le
past_else_low (ReturnWith arms first places es) part le = le
past_else_low (Resume places es) part le = le
past_else_low Reject part le = le
past_else_low (Retry k) part le = le
past_else_low (Continue k) part le = le

past_cases_low : (cs : Cases) (part : ℕ) → part ≤ 65535 → Low (past_cases cs part)
past_cases_low (Otherwise s) part le = past_else_low s part le
past_cases_low (AndCase ts s cs) part le = le

past_exits_low : (es : Exits) (part : ℕ) → part ≤ 65535 → Low (past_exits es part)
past_exits_low NoExits part le = tt
past_exits_low (AndExit ls s es) part le = le

if_last_few : (ts : Tests) → if_last ts ≤ 65535
if_last_few NoTests = omega arith
if_last_few (IfRelated r base o e ts) = omega arith
if_last_few (IfWithin negated bases range ts) = omega arith
if_last_few (IfRelatedLong c base o e ts) = omega arith
if_last_few (IfWithinLong negated c bases range ts) = omega arith

head_low : (k : Counter) → Low (head_code k)
head_low NoCounter = tt
head_low (CountedIn z g down) = ((tt, tt), omega arith)

abbrev GivesTo : Scope → Counter → Type 0
GivesTo Γ NoCounter = Unit {0}
GivesTo Γ (CountedIn z g down) = GivenIn Γ g

gives_low : (P : Coded) (Γ : Scope) (k : Counter) → GivesTo Γ k → Low (gives_next P k)
gives_low P Γ NoCounter h = tt
gives_low P Γ (CountedIn z g down) h = give_low P Γ g (next_slot z down) h

module _ (P : Coded) where
  arranged_low : (places : List ℕ) (es : Exprs) → words_given es ≤ 65535 → AllLow (arrange_code places (sizes es))
  arranged_low places es le = arrange_low places (sizes es) (omega (arith, total_given es, le))

  mutual
    unfolding ExprIn ExprsIn WordsIn SuffixesIn OperationsIn LongOperationsIn IntervalIn LongIntervalIn PhraseIn ArmsIn StmtIn StmtsIn TargetsIn CasesIn TestsIn ExitsIn LoopIn FinishIn ConditionIn CountIn CasesTake TestsTake Fits a_word a_long sound.in_arm sound.in_marked sound.in_labelled words_of words_given unnamed operands operands_of operands_in operands_of_run operands_of_interval operands_of_targets operands_of_tests operands_of_cases operands_of_condition operands_of_loop operands_of_stmt

    forms_low : (Γ : Scope) → Roomy Γ → (z : ℕ) (e : Expr) (ks : Kinds) → operands e ≤ OPERAND_WORDS + unnamed e → ExprIn Γ e ks → FormsLow (forms P z e)
    forms_low Γ g z (Number n) ks few h = by_value_low _ (omega (arith, h.0), tt)
    forms_low Γ g z (LongNumber n) ks few h = by_value_low _ (long_low n h.0)
    forms_low Γ g z (Literal k) ks few h = by_value_low _ (tt, tt)
    forms_low Γ g z (Variable v s words) ks few h =
        by_value_low _ (
        if_low (has_index s) _ _
        (λ is. (
          (fields_are Γ g v s h.0 h.1 h.2 h.3, tt),
          (
            path_low Γ g z s h.0 h.1 (variable_has Γ v h.0 g.0 h.2) (variable_few Γ g v h.0 h.2)
                (omega (arith, few, some_words Γ g v s h.0 h.1 h.2 h.3 words h.4)) h.3,
            (load_within_low P v words, tt),
          ),
        ))
        (λ none. (load_low P v (fields_of s) words, tt)))
    forms_low Γ g z (FieldOf e parts) ks few h =
        let fit = fields_fit parts h.1 h.2 h.4 in
        let whole = one_is Γ e h.1 h.3 in
        let named = words_named Γ e (one h.1) h.3 in
        by_value_low _ (
          (forms_low Γ g z e (one h.1) (omega (arith, few)) h.3).value,
          field_low (words_before_last parts) (last_words parts) (words_of e - (words_before_last parts + last_words parts))
              (omega (arith, few, fit, whole, named)) (omega (arith, few, fit, whole, named)) (omega (arith, few, named)),
        )
    forms_low Γ g z (LengthOf e) ks few h = by_value_low _ ((forms_low Γ g z e (one Texts) (omega (arith, few)) h.0).value, (tt, tt))
    forms_low Γ g z (ByteOf e index) ks few h =
        by_value_low _ (
          (forms_low Γ g z e (one Texts) (omega (arith, few)) h.0).value,
          ((forms_low Γ g (z + hidden_expr e) index a_word (omega (arith, few)) h.1).value, (tt, tt)),
        )
    forms_low Γ g z (Checked range e) ks few h =
        by_value_low _ ((forms_low Γ g z e a_word (omega (arith, few)) h.1).value, check_low range (range_is range h.0))
    forms_low Γ g z (Converted c e) ks few h =
        by_value_low _ ((forms_low Γ g z e (one h.1) (omega (arith, few)) h.4).value, conversion_low c h.1 h.2 h.3)
    forms_low Γ g z (Operate e os) ks few h =
        by_value_low _ ((forms_low Γ g z e a_word (omega (arith, few)) h.0).value, run_low Γ g (z + hidden_expr e) os (omega (arith, few)) h.1)
    forms_low Γ g z (OperateLong e os) ks few h =
        by_value_low _ ((forms_low Γ g z e a_long (omega (arith, few)) h.0).value, long_run_low Γ g (z + hidden_expr e) os (omega (arith, few)) h.1)
    forms_low Γ g z (NegateLong e) ks few h = by_value_low _ ((forms_low Γ g z e a_long (omega (arith, few)) h.0).value, (tt, tt))
    forms_low Γ g z (Negate e) ks few h = by_value_low _ ((forms_low Γ g z e a_word (omega (arith, few)) h.0).value, (tt, tt))
    forms_low Γ g z (Relate base o d e) ks few h =
        let x = (forms_low Γ g z d a_word (omega (arith, few)) h.0).value in
        let y = (forms_low Γ g (z + hidden_expr d) e a_word (omega (arith, few)) h.1).value in
        record {
          value = (x, (y, relation_low base o));
          jump = λ sense part le. (x, (y, (comparison_low base o, omega (arith, le))));
        }
    forms_low Γ g z (Within bases e range) ks few h =
        by_value_low _ (
          (forms_low Γ g z e a_word (omega (arith, few)) h.0).value,
          (bounds_low Γ g (z + hidden_expr e) range (omega (arith, few)) h.1, within_of_low (scratch P) bases range),
        )
    forms_low Γ g z (RelateLong base o d e) ks few h =
        let x = (forms_low Γ g z d a_long (omega (arith, few)) h.0).value in
        let y = (forms_low Γ g (z + hidden_expr d) e a_long (omega (arith, few)) h.1).value in
        record {
          value = (x, (y, long_relation_low base o));
          jump = λ sense part le. (x, (y, (long_comparison_low base o, omega (arith, le))));
        }
    forms_low Γ g z (WithinLong bases e range) ks few h =
        by_value_low _ (
          (forms_low Γ g z e a_long (omega (arith, few)) h.0).value,
          (long_bounds_low Γ g (z + hidden_expr e) range (omega (arith, few)) h.1, long_within_of_low (scratch P) bases range),
        )
    forms_low Γ g z (Not e) ks few h =
        let x = forms_low Γ g z e a_word (omega (arith, few)) h.0 in
        record { value = (x.value, (tt, tt)); jump = λ sense part le. x.jump (not sense) part le }
    forms_low Γ g z (AllOf es) ks few h = record {
      value = (
        (operands_low Γ g z es false 0 (omega arith) (omega (arith, few)) h.1, ((omega arith, tt), omega arith)),
        (omega arith, tt),
      );
      jump = λ sense part le. turned_low sense (operand_jumps P z es false) (λ k few_parts. operands_low Γ g z es false k few_parts (omega (arith, few)) h.1) part le;
    }
    forms_low Γ g z (SomeOf es) ks few h = record {
      value = (
        (operands_low Γ g z es true 0 (omega arith) (omega (arith, few)) h.1, ((omega arith, tt), omega arith)),
        (omega arith, tt),
      );
      jump = λ sense part le. turned_low (not sense) (operand_jumps P z es true) (λ k few_parts. operands_low Γ g z es true k few_parts (omega (arith, few)) h.1) part le;
    }
    forms_low Γ g z (Construct places es) ks few h =
        by_value_low _ (values_low Γ g z es h.1 (omega (arith, few)) h.5, arranged_low places es (omega (arith, few)))
    forms_low Γ g z (Call callee places es words ph) ks few h =
        let named = values_named Γ es h.1 h.3 in
        by_value_low _ (
          values_low Γ g z es h.1 (omega (arith, few)) h.3,
          (
            arranged_low places es (omega (arith, few, named)),
            (
              call_low P.imports callee,
              omega (arith, few, named),
              omega (arith, few),
              caught_low Γ g (z + hidden_exprs es) ph h.7,
            ),
          ),
        )
    forms_low Γ g z (Raise raised places es words ph) ks few h =
        let named = values_named Γ es h.1 h.3 in
        by_value_low _ (
          values_low Γ g z es h.1 (omega (arith, few)) h.3,
          (
            arranged_low places es (omega (arith, few, named)),
            (
              raise_low P.imports raised,
              omega (arith, few, named),
              omega (arith, few),
              caught_low Γ g (z + hidden_exprs es) ph h.6,
            ),
          ),
        )

    values_low : (Γ : Scope) → Roomy Γ → (z : ℕ) (es : Exprs) (ks : Kinds) → operands_of es ≤ OPERAND_WORDS → ExprsIn Γ es ks → Low (values P z es)
    values_low Γ g z NoExprs ks few h = tt
    values_low Γ g z (AndExpr e es) ks few h = (
      (forms_low Γ g z e (one h.0) (omega (arith, few)) h.2).value,
      values_low Γ g (z + hidden_expr e) es h.1 (omega (arith, few)) h.3,
    )

    operands_low : (Γ : Scope) → Roomy Γ → (z : ℕ) (es : Exprs) (sense : Bool) (part : ℕ) → part ≤ 65534 → operands_of es ≤ OPERAND_WORDS → WordsIn Γ es
        → Low (operand_jumps P z es sense part)
    operands_low Γ g z NoExprs sense part le few h = tt
    operands_low Γ g z (AndExpr e es) sense part le few h = (
      (forms_low Γ g z e a_word (omega (arith, few)) h.0).jump sense part le,
      operands_low Γ g (z + hidden_expr e) es sense part le (omega (arith, few)) h.1,
    )

    bounds_low : (Γ : Scope) → Roomy Γ → (z : ℕ) (range : Interval) → operands_of_interval range ≤ OPERAND_WORDS → IntervalIn Γ range → Low (bounds P z range)
    bounds_low Γ g z (Between x p y q) few h = (
      (forms_low Γ g z x a_word (omega (arith, few)) h.0).value,
      (forms_low Γ g (z + hidden_expr x) y a_word (omega (arith, few)) h.1).value,
    )

    long_bounds_low : (Γ : Scope) → Roomy Γ → (z : ℕ) (range : Interval) → operands_of_interval range ≤ OPERAND_WORDS → LongIntervalIn Γ range
        → Low (bounds P z range)
    long_bounds_low Γ g z (Between x p y q) few h = (
      (forms_low Γ g z x a_long (omega (arith, few)) h.0).value,
      (forms_low Γ g (z + hidden_expr x) y a_long (omega (arith, few)) h.1).value,
    )

    long_run_low : (Γ : Scope) → Roomy Γ → (z : ℕ) (os : Operations) → operands_of_run os ≤ OPERAND_WORDS → LongOperationsIn Γ os
        → Low (long_operations P z os)
    long_run_low Γ g z NoOperation few h = tt
    long_run_low Γ g z (Then range o e os) few h = (
      (forms_low Γ g z e a_long (omega (arith, few)) h.2).value,
      (long_operator_low o, long_run_low Γ g (z + hidden_expr e) os (omega (arith, few)) h.3),
    )

    run_low : (Γ : Scope) → Roomy Γ → (z : ℕ) (os : Operations) → operands_of_run os ≤ OPERAND_WORDS → OperationsIn Γ os → Low (operations P z os)
    run_low Γ g z NoOperation few h = tt
    run_low Γ g z (Then range o e os) few h = (
      check_low range h.0,
      (
        (forms_low Γ g z e a_word (omega (arith, few)) h.1).value,
        (operator_low (scratch P) o, run_low Γ g (z + hidden_expr e) os (omega (arith, few)) h.2),
      ),
    )

    path_low : (Γ : Scope) → Roomy Γ → (z : ℕ) (s : Suffixes) (j k : Kind) → HasWords j → words_in j ≤ 65535 → operands_in s ≤ OPERAND_WORDS
        → SuffixesIn Γ s j k → Low (path P z s)
    path_low Γ g z NoSuffix j k has small few h = tt
    path_low Γ g z (Field n offset s) j k has small few h = path_low Γ g z s h.1 k (part_of h.0 n h.1 j h.2 has (h.3).is_there) (part_small h.0 n h.1 j h.2 small (h.3).is_there) few h.4
    path_low Γ g z (Index range first n words e s) j k has small few h =
        let element = element_of n h.0 j h.1 has small in (
          (forms_low Γ g z e a_word (omega (arith, few)) h.6).value,
          (
            index_low range first n words h.5 (omega (arith, h.3)) (omega (arith, h.4)) (omega (arith, h.2, element.1)),
            path_low Γ g (z + hidden_expr e) s h.0 k element.0 element.1 (omega (arith, few)) h.7,
          ),
        )

    caught_low : (Γ : Scope) → Roomy Γ → (z : ℕ) (ph : Phrase) → PhraseIn Γ ph → ArmsLow (caught_by P z ph)
    caught_low Γ g z NoPhrase h = tt
    caught_low Γ g z (Catch n arms) h = arms_low Γ g z n arms h.3

    arms_low : (Γ : Scope) → Roomy Γ → (z n : ℕ) (arms : Arms) → ArmsIn Γ n arms → ArmsLow (arm_blocks P z arms)
    arms_low Γ g z n NoArms h = tt
    arms_low Γ g z n (AndArm labels first count s arms) h =
        (block_low (sound.in_arm n labels Γ) g z s h.5, arms_low Γ g (z + hidden s) n arms h.6)

    pub block_low : (Γ : Scope) → Roomy Γ → (z : ℕ) (s : Stmt) → StmtIn Γ s → Low (block P z s)
    block_low Γ g z Null h = tt
    block_low Γ g z (Marked n s) h = block_low (sound.in_marked n Γ) g z s h.1
    block_low Γ g z (Declare hs k) h = zero_low P hs (words_in k)
    block_low Γ g z (DeclareAs hs k e) h = (
      zero_low P hs (words_in k),
      (
        (forms_low Γ g z e (one k) (omega (arith, h.0)) h.3).value,
        spread_low P hs (words_in k) (omega (arith, h.0, one_is Γ e k h.3, words_named Γ e (one k) h.3)),
      ),
    )
    block_low Γ g z (Assign v s e) h =
        if_low (has_index s) _ _
        (λ is. (
          (fields_are Γ g v s h.1 h.2 h.3 h.4, tt),
          (
            path_low Γ g z s h.1 h.2 (variable_has Γ v h.1 g.0 h.3) (variable_few Γ g v h.1 h.3) (omega (arith, h.0)) h.4,
            (
              (forms_low Γ g (z + hidden_suffixes s) e (one h.2) (omega (arith, h.0)) h.5).value,
              (store_within_low P v (words_of e), tt),
            ),
          ),
        ))
        (λ none. ((forms_low Γ g z e (one h.2) (omega (arith, h.0)) h.5).value, (store_low P v (fields_of s) (words_of e), tt)))
    block_low Γ g z (Extract true ts e) h =
        let named = words_named Γ e (one (Record h.2)) h.3 in (
          (forms_low Γ g (z + hidden_targets ts) e (one (Record h.2)) (omega (arith, h.0)) h.3).value,
          targets_low Γ g z (words_of e) [] ts h.2 (omega (arith, h.0, named)) (omega (arith, h.0)) h.4,
        )
    block_low Γ g z (Extract false ts e) h =
        let named = words_named Γ e h.3 h.4 in (
          (forms_low Γ g (z + hidden_targets ts) e h.3 (omega (arith, h.0)) h.4).value,
          targets_low Γ g z (words_of e) [] ts h.3 (omega (arith, h.0, named)) (omega (arith, h.0)) h.5,
        )
    block_low Γ g z (Perform e) h = (
      (forms_low Γ g z e h.2 (omega (arith, h.0)) h.3).value,
      pop_low (words_of e) (omega (arith, h.0, words_named Γ e h.2 h.3)),
    )
    block_low Γ g z (If e s t) h = (
      (
        (forms_low Γ g z e a_word (omega (arith, h.0)) h.1).jump false 0 (omega arith),
        (block_low Γ g (z + hidden_expr e) s h.2, past_else_low t 1 (omega arith)),
      ),
      block_low Γ g (z + (hidden_expr e + hidden s)) t h.3,
    )
    block_low Γ g z (Select e cs) h = (
      (forms_low Γ g (z + 1) e (one h.0) (omega (arith, h.1)) h.2).value,
      selected_low Γ g (z + (1 + hidden_expr e)) z 1 (words_of e) Ordinal cs (omega (arith, h.1, words_named Γ e (one h.0) h.2)) (omega (arith, h.1))
          (selects_take h.0 cs h.3) h.4,
    )
    block_low Γ g z (SelectLong e cs) h = (
      (forms_low Γ g (z + 2) e a_long (omega (arith, h.0)) h.1).value,
      selected_low Γ g (z + (2 + hidden_expr e)) z 2 (words_of e) Longs cs (omega (arith, h.0, words_named Γ e a_long h.1)) (omega (arith, h.0)) h.2 h.3,
    )
    block_low Γ g z (Block ph ss es) h =
        exits_low Γ g (z + (hidden_phrase ph + hidden_stmts ss)) es _ h.4 (
          enabled_low (caught_by P z ph) _ (caught_low (sound.in_labelled h.0 es Γ) g z ph h.2)
              (blocks_low (sound.in_labelled h.0 es Γ) g (z + hidden_phrase ph) ss h.3),
          past_exits_low es 0 (omega arith),
        )
    block_low Γ g z (Repeat Endless l) h = loop_low Γ g z NoCounter l tt (omega (arith, h.0)) h.2
    block_low Γ g z (Repeat (Counting v down left next) l) h = absurd h.1
    block_low Γ g z (For v down base range l) h = (
      bounds_low Γ g (z + 3) range (omega (arith, h.0)) h.2,
      (
        start_of_low z base range,
        loop_low Γ g (z + (3 + hidden_interval range)) (CountedIn z v down) l h.1 (omega (arith, h.0)) h.3,
      ),
    )
    block_low Γ g z (Jump arms goal) h = tt
    block_low Γ g z (ReturnWith arms first places es) h = (
      values_low Γ g z es h.2 (omega (arith, h.0)) h.5,
      (
        all_low_both (arrange_code places (sizes es)) _ (arranged_low places es (omega (arith, h.0, values_named Γ es h.2 h.5))) (tt, tt),
        tt,
      ),
    )
    block_low Γ g z (Resume places es) h =
        let named = values_named Γ es h.1 h.5 in (
          values_low Γ g z es h.1 (omega (arith, h.0)) h.5,
          all_low_both (arrange_code places (sizes es)) _ (arranged_low places es (omega (arith, h.0, named))) (omega (arith, h.0, named), tt),
        )
    block_low Γ g z Reject h = (tt, tt)
    block_low Γ g z (Retry n) h = tt
    block_low Γ g z (Continue n) h = tt

    blocks_low : (Γ : Scope) → Roomy Γ → (z : ℕ) (ss : Stmts) → StmtsIn Γ ss → Low (blocks P z ss)
    blocks_low Γ g z NoStmts h = tt
    blocks_low Γ g z (AndStmt s ss) h = (block_low Γ g z s h.0, blocks_low Γ g (z + hidden s) ss h.1)

    -- a value of so many words is taken apart
    targets_low : (Γ : Scope) → Roomy Γ → (z all : ℕ) (taken : List Part) (ts : Targets) (ks : Kinds) → all ≤ 65534 → operands_of_targets ts ≤ OPERAND_WORDS
        → TargetsIn Γ ts ks → Low (targets P z all taken ts)
    targets_low Γ g z all taken NoTargets ks le few h = pop_low (all - words_taken taken) (omega (arith, le))
    targets_low Γ g z all taken (AndTarget p v s range ts) ks le few h =
        let checked = check_low range (range_of range h.0 h.6) in
        if_low (has_index s) _ _
        (λ is. (
          (fields_are Γ g v s h.1 h.0 h.4 h.5, tt),
          (
            path_low Γ g z s h.1 h.0 (variable_has Γ v h.1 g.0 h.4) (variable_few Γ g v h.1 h.4) (omega (arith, few)) h.5,
            (
              all_low_both (lift_code p.words (suc (words_over all taken p))) _
                  (lift_low p.words (suc (words_over all taken p)) (omega (arith, few)) (omega (arith, le)))
                  (all_low_both (check_code range) _ checked (store_within_low P v p.words, tt)),
              targets_low Γ g (z + hidden_suffixes s) all (p ∷ taken) ts ks le (omega (arith, few)) h.7,
            ),
          ),
        ))
        (λ none. (
          all_low_both (lift_code p.words (words_over all taken p)) _ (lift_low p.words (words_over all taken p) (omega (arith, few)) (omega (arith, le)))
              (all_low_both (check_code range) _ checked (store_low P v (fields_of s) p.words, tt)),
          targets_low Γ g z all (p ∷ taken) ts ks le (omega (arith, few)) h.7,
        ))
    targets_low Γ g z all taken (AndConverted p v s c ts) ks le few h =
        let converted = conversion_low c h.0 h.1 h.6 in
        let words : p.words ≤ 65535 = omega (arith, h.4, (words_converted c h.0 h.1 h.6).0, (words_converted_few c).1) in
        if_low (has_index s) _ _
        (λ is. (
          (fields_are Γ g v s h.2 h.1 h.7 h.8, tt),
          (
            path_low Γ g z s h.2 h.1 (variable_has Γ v h.2 g.0 h.7) (variable_few Γ g v h.2 h.7) (omega (arith, few)) h.8,
            (
              all_low_both (lift_code p.words (suc (words_over all taken p))) _ (lift_low p.words (suc (words_over all taken p)) words (omega (arith, le)))
                  (all_low_both (conversion_code c) _ converted (store_within_low P v (words_after c), tt)),
              targets_low Γ g (z + hidden_suffixes s) all (p ∷ taken) ts ks le (omega (arith, few)) h.9,
            ),
          ),
        ))
        (λ none. (
          all_low_both (lift_code p.words (words_over all taken p)) _ (lift_low p.words (words_over all taken p) words (omega (arith, le)))
              (all_low_both (conversion_code c) _ converted (store_low P v (fields_of s) (words_after c), tt)),
          targets_low Γ g z all (p ∷ taken) ts ks le (omega (arith, few)) h.9,
        ))

    selected_low : (Γ : Scope) → Roomy Γ → (z x held words : ℕ) (k : Kind) (cs : Cases) → words ≤ 65535 → operands_of_cases cs ≤ OPERAND_WORDS
        → CasesTake k cs → CasesIn Γ cs → Low (selected P z x held words cs)
    selected_low Γ g z x held words k (Otherwise s) le few take h = (pop_low words le, block_low Γ g z s h)
    selected_low Γ g z x held words k (AndCase ts s cs) le few take h = (
      (tt, tt),
      (
        (
          tests_low Γ g z x k ts (omega (arith, few)) take.0 h.1,
          (block_low Γ g (z + hidden_tests ts) s h.2, past_cases_low cs 1 (omega arith)),
        ),
        cases_low Γ g (z + (hidden_tests ts + hidden s)) x k cs (omega (arith, few)) take.1 h.3,
      ),
    )

    cases_low : (Γ : Scope) → Roomy Γ → (z x : ℕ) (k : Kind) (cs : Cases) → operands_of_cases cs ≤ OPERAND_WORDS → CasesTake k cs → CasesIn Γ cs
        → Low (cases P z x cs)
    cases_low Γ g z x k (Otherwise s) few take h = block_low Γ g z s h
    cases_low Γ g z x k (AndCase ts s cs) few take h = (
      (
        tests_low Γ g z x k ts (omega (arith, few)) take.0 h.1,
        (block_low Γ g (z + hidden_tests ts) s h.2, past_cases_low cs 1 (omega arith)),
      ),
      cases_low Γ g (z + (hidden_tests ts + hidden s)) x k cs (omega (arith, few)) take.1 h.3,
    )

    tests_low : (Γ : Scope) → Roomy Γ → (z x : ℕ) (k : Kind) (ts : Tests) → operands_of_tests ts ≤ OPERAND_WORDS → TestsTake k ts → TestsIn Γ ts
        → Low (tests P z x ts)
    tests_low Γ g z x k NoTests few take h = omega arith
    tests_low Γ g z x k (IfRelated range base o e ts) few take h = (
      (
        (tt, check_low range h.0),
        ((forms_low Γ g z e a_word (omega (arith, few)) h.1).value, (comparison_low base o, if_last_few ts)),
      ),
      unless_low (is_last ts) _ (tests_low Γ g (z + hidden_expr e) x k ts (omega (arith, few)) take.1 h.2),
    )
    tests_low Γ g z x k (IfWithin negated bases range ts) few take h = (
      (
        (tt, tt),
        (bounds_low Γ g z range (omega (arith, few)) h.0, (within_of_low (scratch P) bases range, if_last_few ts)),
      ),
      unless_low (is_last ts) _ (tests_low Γ g (z + hidden_interval range) x k ts (omega (arith, few)) take.1 h.1),
    )
    tests_low Γ g z x k (IfRelatedLong c base o e ts) few take h = (
      (
        (tt, conversion_low c k Longs take.0),
        ((forms_low Γ g z e a_long (omega (arith, few)) h.0).value, (long_comparison_low base o, if_last_few ts)),
      ),
      unless_low (is_last ts) _ (tests_low Γ g (z + hidden_expr e) x k ts (omega (arith, few)) take.1 h.1),
    )
    tests_low Γ g z x k (IfWithinLong negated c bases range ts) few take h = (
      (
        (tt, conversion_low c k Longs take.0),
        (long_bounds_low Γ g z range (omega (arith, few)) h.0, (long_within_of_low (scratch P) bases range, if_last_few ts)),
      ),
      unless_low (is_last ts) _ (tests_low Γ g (z + hidden_interval range) x k ts (omega (arith, few)) take.1 h.1),
    )

    exits_low : (Γ : Scope) → Roomy Γ → (z : ℕ) (es : Exits) (before : tree.Block) → ExitsIn Γ es → Low before → Low (exits P z es before)
    exits_low Γ g z NoExits before h l = l
    exits_low Γ g z (AndExit ls s es) before h l =
        exits_low Γ g (z + hidden s) es _ h.2 (l, (block_low Γ g z s h.1, past_exits_low es 0 (omega arith)))

    loop_low : (Γ : Scope) → Roomy Γ → (z : ℕ) (k : Counter) (l : Loop) → GivesTo Γ k → operands_of_loop l ≤ OPERAND_WORDS → LoopIn Γ l → Low (loop P z k l)
    loop_low Γ g z k (LoopOf cond s es fin) given few h =
        exits_low Γ g (z + (hidden_condition cond + hidden s)) es _ h.4 (
          (
            head_low k,
            (
              gives_low P Γ k given,
              (
                condition_low Γ g z cond (omega (arith, few)) h.2,
                (block_low (sound.in_labelled h.0 es Γ) g (z + hidden_condition cond) s h.3, step_low k),
              ),
            ),
          ),
          unless_low (is_endless k cond) _ (finish_low Γ g (z + (hidden_condition cond + hidden s + hidden_exits es)) es fin h.5),
        )

    condition_low : (Γ : Scope) → Roomy Γ → (z : ℕ) (c : Condition) → operands_of_condition c ≤ OPERAND_WORDS → ConditionIn Γ c → Low (condition P z c)
    condition_low Γ g z Always few h = tt
    condition_low Γ g z (While e) few h = (forms_low Γ g z e a_word (omega (arith, few)) h).jump false 0 (omega arith)
    condition_low Γ g z (Until e) few h = (forms_low Γ g z e a_word (omega (arith, few)) h).jump true 0 (omega arith)

    finish_low : (Γ : Scope) → Roomy Γ → (z : ℕ) (es : Exits) (fin : Finish) → FinishIn Γ fin → Low (finish P z es fin)
    finish_low Γ g z es NoFinish h = past_exits_low es 0 (omega arith)
    finish_low Γ g z es (Finished s) h = (block_low Γ g z s h, past_exits_low es 0 (omega arith))
