-- The jumps of the blocks of a typed tree lead to the ends of parts around them; what is no jump of theirs jumps nowhere.
use Rattle.std.proofs.Common.{ℕ, suc, ◌+◌, ◌-◌, ◌<◌, List, [], ◌∷◌, Bool, true, false, not, if◌then◌else◌, arith}
use Rattle.mesa_types.specs.declared.typed_parts.Base.{Base}
use Rattle.mesa_types.specs.declared.typed_parts.Bases.{Bases}
use Rattle.mesa_types.specs.declared.typed_parts.Part.{Part}
use Rattle.mesa_types.specs.declared.typed_parts.Callee.{Callee}
use Rattle.mesa_types.specs.declared.typed_parts.Callee.TheVariants.{OwnProcedure, LinkedProcedure}
use Rattle.mesa_types.specs.declared.typed_parts.Raised.{Raised}
use Rattle.mesa_types.specs.declared.typed_parts.Raised.TheVariants.{OwnSignal, LinkedSignal, TheBoundsFault, TheZeroDivisor, TheUnnamed}
use Rattle.mesa_types.specs.Typed.{Expr, Number, LongNumber, Literal, Variable, FieldOf, LengthOf, ByteOf, Checked, Converted, Operate, OperateLong, Negate, NegateLong, Relate, RelateLong, Within, WithinLong, Not, AllOf, SomeOf, Construct, Call, Raise, Exprs, NoExprs, AndExpr, Suffixes, NoSuffix, Field, Index, Operations, NoOperation, Then, Interval, Between, Phrase, NoPhrase, Catch, Arms, NoArms, AndArm, Stmt, Null, Marked, Declare, DeclareAs, Assign, Extract, Perform, If, Select, SelectLong, Block, Repeat, For, Jump, ReturnWith, Resume, Reject, Retry, Continue, Stmts, NoStmts, AndStmt, Targets, NoTargets, AndTarget, AndConverted, Cases, Otherwise, AndCase, Tests, NoTests, IfRelated, IfWithin, IfRelatedLong, IfWithinLong, Exits, NoExits, AndExit, Loop, LoopOf, Finish, NoFinish, Finished, Condition, Always, While, Until}
use Rattle.mesa_types.specs.Counts.{hidden, hidden_expr, hidden_exprs, hidden_suffixes, hidden_interval, hidden_phrase, hidden_stmts, hidden_targets, hidden_tests, hidden_exits, hidden_condition, words_of, words_after}
use Rattle.mesa_types.specs.Shapes.{words_in}
use Rattle.mesa_types.specs.declared.faces.Import.{Import}
use Rattle.code_forms.specs.Jumps.{JumpsRightly}
use Rattle.code_forms.specs.Routine.{Routine}
use Rattle.code_rules.specs.CodeFor.{words_taken, words_over}
use Rattle.code_rules.specs.Links.{call_code, raise_code}
use Rattle.code_rules.specs.Loops.{Counter, NoCounter, CountedIn, next_slot}
use Rattle.code_rules.specs.OwnCode.{lift_code, check_code, conversion_code, arrange_code}
use Rattle.code_rules.specs.Reading.{Coded, scratch}
use Rattle.code_rules.specs.Slots.{fields_of, sizes}
use Rattle.code_blocks.specs.Blocks as tree
use Rattle.code_blocks.specs.Blocks.{Statement, Labels, Here, Does, Calls, Both, Ends, Out, Goes, Rounds, Enables, ArmBlocks, NoArmBlock, AndArmBlock, ◌▹◌}
use Rattle.code_blocks.specs.Own.{AreOwn}
use Rattle.code_blocks.specs.Translation.{Forms, by_value, turned, answer, has_index, within_of, long_within_of, start_of, head_code, gives_next, past_else, past_cases, past_exits, enabled, is_last, is_endless, unless, forms, values, operands, bounds, operations, long_operations, path, caught_by, arm_blocks, block, blocks, targets, selected, cases, tests, exits, loop, condition, finish}
use Rattle.code_blocks.proofs.Own.{own_both, pop_own, lift_own, field_own, check_own, conversion_own, index_own, comparison_own, long_comparison_own, relation_own, long_relation_own, operator_own, long_operator_own, within_own, long_within_own, arrange_own, load_own, store_own, load_within_own, store_within_own, zero_own, spread_own, start_own, give_own, step_own}

-- with so many parts around
abbrev mutual
  pub Closed : tree.Block → (parts : ℕ) → Type 0
  Closed (Does is) parts = AreOwn is
  Closed (Calls call takes puts arms) parts = ((r : Routine) (at : ℕ) → JumpsRightly r at call) × ArmsClosed arms
  Closed (Both b c) parts = Closed b parts × Closed c parts
  Closed (Ends (Statement n) b) parts = Closed b parts
  Closed (Ends (Labels ls) b) parts = Closed b parts
  Closed (Ends (Here words) b) parts = Closed b (suc parts)
  Closed (Out leap part) parts = part < parts
  Closed (Goes arms p) parts = Unit {0}
  Closed (Rounds b) parts = Closed b parts
  Closed (Enables arms b) parts = ArmsClosed arms × Closed b parts

  pub ArmsClosed : ArmBlocks → Type 0
  ArmsClosed NoArmBlock = Unit {0}
  ArmsClosed (AndArmBlock labels slot words b arms) = Closed b 0 × ArmsClosed arms

record FormsClosed (f : Forms) : Type 0 where
  value : (n : ℕ) → Closed f.value n
  jump : (sense : Bool) (part n : ℕ) → part < n → Closed (f.jump sense part) n

by_value_closed : (b : tree.Block) → ((n : ℕ) → Closed b n) → FormsClosed (by_value b)
by_value_closed b h = record { value = h; jump = λ sense part n lt. (h n, lt) }

if_closed : (x : Bool) (b c : tree.Block) (n : ℕ) → Closed b n → Closed c n → Closed (if x then b else c) n
if_closed true b c n g h = g
if_closed false b c n g h = h

unless_closed : (x : Bool) (b : tree.Block) (n : ℕ) → Closed b n → Closed (unless x b) n
unless_closed true b n h = tt
unless_closed false b n h = h

turned_closed : (x : Bool) (jumps : ℕ → tree.Block) → ((part n : ℕ) → part < n → Closed (jumps part) n) → (part n : ℕ) → part < n
    → Closed (turned x jumps part) n
turned_closed false jumps h part n lt = h part n lt
turned_closed true jumps h part n lt = (h 0 (suc n) (omega arith), omega (arith, lt))

answer_closed : (jumps : tree.Block) (word jumped n : ℕ) → Closed jumps (suc (suc n)) → Closed (answer jumps word jumped) n
answer_closed jumps word jumped n h = ((h, ((tt, tt), omega arith)), (tt, tt))

within_of_own : (t : ℕ) (bases : Bases) (range : Interval) → AreOwn (within_of t bases range)
within_of_own t bases (Between x p y q) = within_own t bases p q

long_within_of_own : (t : ℕ) (bases : Bases) (range : Interval) → AreOwn (long_within_of t bases range)
long_within_of_own t bases (Between x p y q) = long_within_own t bases p q

start_of_own : (z : ℕ) (b : Base) (range : Interval) → AreOwn (start_of z b range)
start_of_own z b (Between x p y q) = start_own z b p q

head_closed : (k : Counter) (n : ℕ) → 0 < n → Closed (head_code k) n
head_closed NoCounter n lt = tt
head_closed (CountedIn z g down) n lt = ((tt, tt), lt)

gives_closed : (P : Coded) (k : Counter) (n : ℕ) → Closed (gives_next P k) n
gives_closed P NoCounter n = tt
gives_closed P (CountedIn z g down) n = give_own P g (next_slot z down)

past_else_closed : (s : Stmt) (part n : ℕ) → part < n → Closed (past_else s part) n
past_else_closed Null part n lt = tt
past_else_closed (Marked k s) part n lt = lt
past_else_closed (Declare hs k) part n lt = lt
past_else_closed (DeclareAs hs k e) part n lt = lt
past_else_closed (Assign h s e) part n lt = lt
past_else_closed (Extract b ts e) part n lt = lt
past_else_closed (Perform e) part n lt = lt
past_else_closed (If e s t) part n lt = lt
past_else_closed (Select e cs) part n lt = lt
past_else_closed (SelectLong e cs) part n lt = lt
past_else_closed (Block ph ss es) part n lt = lt
past_else_closed (Repeat c l) part n lt = lt
past_else_closed (For g down base range l) part n lt = lt
past_else_closed (Jump arms goal) part n lt = lt
past_else_closed (ReturnWith arms first places es) part n lt = lt
past_else_closed (Resume places es) part n lt = lt
past_else_closed Reject part n lt = lt
past_else_closed (Retry k) part n lt = lt
past_else_closed (Continue k) part n lt = lt

past_cases_closed : (cs : Cases) (part n : ℕ) → part < n → Closed (past_cases cs part) n
past_cases_closed (Otherwise s) part n lt = past_else_closed s part n lt
past_cases_closed (AndCase ts s cs) part n lt = lt

past_exits_closed : (es : Exits) (part n : ℕ) → part < n → Closed (past_exits es part) n
past_exits_closed NoExits part n lt = tt
past_exits_closed (AndExit ls s es) part n lt = lt

enabled_closed : (arms : ArmBlocks) (b : tree.Block) (n : ℕ) → ArmsClosed arms → Closed b n → Closed (enabled arms b) n
enabled_closed NoArmBlock b n g h = h
enabled_closed (AndArmBlock labels slot words arm arms) b n g h = (g, h)

last_part : (x : Bool) (n : ℕ) → 1 < n → (if x then 1 else 0) < n
last_part true n lt = lt
last_part false n lt = omega (arith, lt)

call_right : (imports : List Import) (callee : Callee) (r : Routine) (at : ℕ) → JumpsRightly r at (call_code imports callee)
call_right imports (OwnProcedure q) r at = tt
call_right imports (LinkedProcedure k n) r at = tt

raise_right : (imports : List Import) (raised : Raised) (r : Routine) (at : ℕ) → JumpsRightly r at (raise_code imports raised)
raise_right imports (OwnSignal n) r at = tt
raise_right imports (LinkedSignal k n) r at = tt
raise_right imports TheBoundsFault r at = tt
raise_right imports TheZeroDivisor r at = tt
raise_right imports TheUnnamed r at = tt

module _ (P : Coded) where
  mutual
    forms_closed : (z : ℕ) (e : Expr) → FormsClosed (forms P z e)
    forms_closed z (Number n) = by_value_closed _ (λ m. (tt, tt))
    forms_closed z (LongNumber n) = by_value_closed _ (λ m. (tt, (tt, tt)))
    forms_closed z (Literal k) = by_value_closed _ (λ m. (tt, tt))
    forms_closed z (Variable h s words) =
        by_value_closed _ (λ m. if_closed (has_index s) _ _ m ((tt, tt), (path_closed z s m, (load_within_own P h words, tt))) (load_own P h (fields_of s) words, tt))
    forms_closed z (FieldOf e parts) = by_value_closed _ (λ m. ((forms_closed z e).value m, field_own _ _ _))
    forms_closed z (LengthOf e) = by_value_closed _ (λ m. ((forms_closed z e).value m, (tt, tt)))
    forms_closed z (ByteOf e index) =
        by_value_closed _ (λ m. ((forms_closed z e).value m, ((forms_closed (z + hidden_expr e) index).value m, (tt, tt))))
    forms_closed z (Checked r e) = by_value_closed _ (λ m. ((forms_closed z e).value m, check_own r))
    forms_closed z (Converted c e) = by_value_closed _ (λ m. ((forms_closed z e).value m, conversion_own c))
    forms_closed z (Operate e os) = by_value_closed _ (λ m. ((forms_closed z e).value m, operations_closed (z + hidden_expr e) os m))
    forms_closed z (OperateLong e os) = by_value_closed _ (λ m. ((forms_closed z e).value m, long_operations_closed (z + hidden_expr e) os m))
    forms_closed z (Negate e) = by_value_closed _ (λ m. ((forms_closed z e).value m, (tt, tt)))
    forms_closed z (NegateLong e) = by_value_closed _ (λ m. ((forms_closed z e).value m, (tt, tt)))
    forms_closed z (Relate base o d e) = record {
      value = λ m. ((forms_closed z d).value m, ((forms_closed (z + hidden_expr d) e).value m, relation_own base o));
      jump = λ sense part m lt. ((forms_closed z d).value m, ((forms_closed (z + hidden_expr d) e).value m, (comparison_own base o, lt)));
    }
    forms_closed z (RelateLong base o d e) = record {
      value = λ m. ((forms_closed z d).value m, ((forms_closed (z + hidden_expr d) e).value m, long_relation_own base o));
      jump = λ sense part m lt. ((forms_closed z d).value m, ((forms_closed (z + hidden_expr d) e).value m, (long_comparison_own base o, lt)));
    }
    forms_closed z (WithinLong bases e range) = by_value_closed _ (λ m.
        ((forms_closed z e).value m, (bounds_closed (z + hidden_expr e) range m, long_within_of_own (scratch P) bases range)))
    forms_closed z (Within bases e range) = by_value_closed _ (λ m.
        ((forms_closed z e).value m, (bounds_closed (z + hidden_expr e) range m, within_of_own (scratch P) bases range)))
    forms_closed z (Not e) = record {
      value = λ m. ((forms_closed z e).value m, (tt, tt));
      jump = λ sense part m lt. (forms_closed z e).jump (not sense) part m lt;
    }
    forms_closed z (AllOf es) = record {
      value = λ m. answer_closed (operands P z es false 0) 1 0 m (operands_closed z es false 0 (suc (suc m)) (omega arith));
      jump = λ sense part m lt. turned_closed sense (operands P z es false) (λ p k l. operands_closed z es false p k l) part m lt;
    }
    forms_closed z (SomeOf es) = record {
      value = λ m. answer_closed (operands P z es true 0) 0 1 m (operands_closed z es true 0 (suc (suc m)) (omega arith));
      jump = λ sense part m lt. turned_closed (not sense) (operands P z es true) (λ p k l. operands_closed z es true p k l) part m lt;
    }
    forms_closed z (Construct places es) = by_value_closed _ (λ m. (values_closed z es m, arrange_own places (sizes es)))
    forms_closed z (Call callee places es words ph) = by_value_closed _ (λ m.
        (values_closed z es m, (arrange_own places (sizes es), (call_right P.imports callee, caught_closed (z + hidden_exprs es) ph))))
    forms_closed z (Raise raised places es words ph) = by_value_closed _ (λ m.
        (values_closed z es m, (arrange_own places (sizes es), (raise_right P.imports raised, caught_closed (z + hidden_exprs es) ph))))

    values_closed : (z : ℕ) (es : Exprs) (m : ℕ) → Closed (values P z es) m
    values_closed z NoExprs m = tt
    values_closed z (AndExpr e es) m = ((forms_closed z e).value m, values_closed (z + hidden_expr e) es m)

    operands_closed : (z : ℕ) (es : Exprs) (sense : Bool) (part m : ℕ) → part < m → Closed (operands P z es sense part) m
    operands_closed z NoExprs sense part m lt = tt
    operands_closed z (AndExpr e es) sense part m lt =
        ((forms_closed z e).jump sense part m lt, operands_closed (z + hidden_expr e) es sense part m lt)

    bounds_closed : (z : ℕ) (range : Interval) (m : ℕ) → Closed (bounds P z range) m
    bounds_closed z (Between x p y q) m = ((forms_closed z x).value m, (forms_closed (z + hidden_expr x) y).value m)

    operations_closed : (z : ℕ) (os : Operations) (m : ℕ) → Closed (operations P z os) m
    operations_closed z NoOperation m = tt
    operations_closed z (Then r o e os) m =
        (check_own r, ((forms_closed z e).value m, (operator_own (scratch P) o, operations_closed (z + hidden_expr e) os m)))

    long_operations_closed : (z : ℕ) (os : Operations) (m : ℕ) → Closed (long_operations P z os) m
    long_operations_closed z NoOperation m = tt
    long_operations_closed z (Then r o e os) m =
        ((forms_closed z e).value m, (long_operator_own o, long_operations_closed (z + hidden_expr e) os m))

    path_closed : (z : ℕ) (s : Suffixes) (m : ℕ) → Closed (path P z s) m
    path_closed z NoSuffix m = tt
    path_closed z (Field n offset s) m = path_closed z s m
    path_closed z (Index r first n words e s) m =
        ((forms_closed z e).value m, (index_own r first n words, path_closed (z + hidden_expr e) s m))

    caught_closed : (z : ℕ) (ph : Phrase) → ArmsClosed (caught_by P z ph)
    caught_closed z NoPhrase = tt
    caught_closed z (Catch statement arms) = arms_closed z arms

    arms_closed : (z : ℕ) (arms : Arms) → ArmsClosed (arm_blocks P z arms)
    arms_closed z NoArms = tt
    arms_closed z (AndArm labels first count s arms) = (block_closed z s 0, arms_closed (z + hidden s) arms)

    pub block_closed : (z : ℕ) (s : Stmt) (m : ℕ) → Closed (block P z s) m
    block_closed z Null m = tt
    block_closed z (Marked n s) m = block_closed z s m
    block_closed z (Declare hs k) m = zero_own P hs (words_in k)
    block_closed z (DeclareAs hs k e) m = (zero_own P hs (words_in k), ((forms_closed z e).value m, spread_own P hs (words_in k)))
    block_closed z (Assign h s e) m =
        if_closed (has_index s) _ _ m
        ((tt, tt), (path_closed z s m, ((forms_closed (z + hidden_suffixes s) e).value m, (store_within_own P h (words_of e), tt))))
        ((forms_closed z e).value m, (store_own P h (fields_of s) (words_of e), tt))
    block_closed z (Extract of_record ts e) m = ((forms_closed (z + hidden_targets ts) e).value m, targets_closed z (words_of e) [] ts m)
    block_closed z (Perform e) m = ((forms_closed z e).value m, pop_own (words_of e))
    block_closed z (If e s t) m = (
      (
        (forms_closed z e).jump false 0 (suc (suc m)) (omega arith),
        (block_closed (z + hidden_expr e) s (suc (suc m)), past_else_closed t 1 (suc (suc m)) (omega arith)),
      ),
      block_closed (z + (hidden_expr e + hidden s)) t (suc m),
    )
    block_closed z (Select e cs) m = ((forms_closed (z + 1) e).value m, selected_closed (z + (1 + hidden_expr e)) z 1 (words_of e) cs m)
    block_closed z (SelectLong e cs) m = ((forms_closed (z + 2) e).value m, selected_closed (z + (2 + hidden_expr e)) z 2 (words_of e) cs m)
    block_closed z (Block ph ss es) m =
        exits_closed (z + (hidden_phrase ph + hidden_stmts ss)) es _ (suc m) (omega arith) (
          enabled_closed (caught_by P z ph) _ (suc m) (caught_closed z ph) (blocks_closed (z + hidden_phrase ph) ss (suc m)),
          past_exits_closed es 0 (suc m) (omega arith),
        )
    block_closed z (Repeat c l) m = loop_closed z NoCounter l m
    block_closed z (For g down base range l) m = (
      bounds_closed (z + 3) range m,
      (start_of_own z base range, loop_closed (z + (3 + hidden_interval range)) (CountedIn z g down) l m),
    )
    block_closed z (Jump arms goal) m = tt
    block_closed z (ReturnWith arms first places es) m =
        (values_closed z es m, (own_both (arrange_code places (sizes es)) _ (arrange_own places (sizes es)) (tt, tt), tt))
    block_closed z (Resume places es) m =
        (values_closed z es m, own_both (arrange_code places (sizes es)) _ (arrange_own places (sizes es)) (tt, tt))
    block_closed z Reject m = (tt, tt)
    block_closed z (Retry n) m = tt
    block_closed z (Continue n) m = tt

    blocks_closed : (z : ℕ) (ss : Stmts) (m : ℕ) → Closed (blocks P z ss) m
    blocks_closed z NoStmts m = tt
    blocks_closed z (AndStmt s ss) m = (block_closed z s m, blocks_closed (z + hidden s) ss m)

    targets_closed : (z all : ℕ) (taken : List Part) (ts : Targets) (m : ℕ) → Closed (targets P z all taken ts) m
    targets_closed z all taken NoTargets m = pop_own (all - words_taken taken)
    targets_closed z all taken (AndTarget p h s r ts) m =
        if_closed (has_index s) _ _ m (
          (tt, tt),
          (
            path_closed z s m,
            (
              own_both (lift_code p.words (suc (words_over all taken p))) _ (lift_own p.words (suc (words_over all taken p)))
                  (own_both (check_code r) _ (check_own r) (store_within_own P h p.words, tt)),
              targets_closed (z + hidden_suffixes s) all (p ∷ taken) ts m,
            ),
          ),
        ) (
          own_both (lift_code p.words (words_over all taken p)) _ (lift_own p.words (words_over all taken p))
              (own_both (check_code r) _ (check_own r) (store_own P h (fields_of s) p.words, tt)),
          targets_closed z all (p ∷ taken) ts m,
        )
    targets_closed z all taken (AndConverted p h s c ts) m =
        if_closed (has_index s) _ _ m (
          (tt, tt),
          (
            path_closed z s m,
            (
              own_both (lift_code p.words (suc (words_over all taken p))) _ (lift_own p.words (suc (words_over all taken p)))
                  (own_both (conversion_code c) _ (conversion_own c) (store_within_own P h (words_after c), tt)),
              targets_closed (z + hidden_suffixes s) all (p ∷ taken) ts m,
            ),
          ),
        ) (
          own_both (lift_code p.words (words_over all taken p)) _ (lift_own p.words (words_over all taken p))
              (own_both (conversion_code c) _ (conversion_own c) (store_own P h (fields_of s) (words_after c), tt)),
          targets_closed z all (p ∷ taken) ts m,
        )

    selected_closed : (z x held words : ℕ) (cs : Cases) (m : ℕ) → Closed (selected P z x held words cs) m
    selected_closed z x held words (Otherwise s) m = (pop_own words, block_closed z s m)
    selected_closed z x held words (AndCase ts s cs) m = (
      (tt, tt),
      (
        ((
          tests_closed z x ts (suc (suc (suc m))) (omega arith),
          (block_closed (z + hidden_tests ts) s (suc (suc m)), past_cases_closed cs 1 (suc (suc m)) (omega arith)),
        )),
        cases_closed (z + (hidden_tests ts + hidden s)) x cs (suc m) (omega arith),
      ),
    )

    cases_closed : (z x : ℕ) (cs : Cases) (m : ℕ) → 0 < m → Closed (cases P z x cs) m
    cases_closed z x (Otherwise s) m lt = block_closed z s m
    cases_closed z x (AndCase ts s cs) m lt = (
      (
        tests_closed z x ts (suc (suc m)) (omega arith),
        (block_closed (z + hidden_tests ts) s (suc m), past_cases_closed cs 1 (suc m) (omega (arith, lt))),
      ),
      cases_closed (z + (hidden_tests ts + hidden s)) x cs m lt,
    )

    tests_closed : (z x : ℕ) (ts : Tests) (m : ℕ) → 1 < m → Closed (tests P z x ts) m
    tests_closed z x NoTests m lt = lt
    tests_closed z x (IfRelated r base o e ts) m lt = (
      ((tt, check_own r), ((forms_closed z e).value m, (comparison_own base o, last_part (is_last ts) m lt))),
      unless_closed (is_last ts) _ m (tests_closed (z + hidden_expr e) x ts m lt),
    )
    tests_closed z x (IfWithin negated bases range ts) m lt = (
      ((tt, tt), (bounds_closed z range m, (within_of_own (scratch P) bases range, last_part (is_last ts) m lt))),
      unless_closed (is_last ts) _ m (tests_closed (z + hidden_interval range) x ts m lt),
    )
    tests_closed z x (IfRelatedLong c base o e ts) m lt = (
      ((tt, conversion_own c), ((forms_closed z e).value m, (long_comparison_own base o, last_part (is_last ts) m lt))),
      unless_closed (is_last ts) _ m (tests_closed (z + hidden_expr e) x ts m lt),
    )
    tests_closed z x (IfWithinLong negated c bases range ts) m lt = (
      ((tt, conversion_own c), (bounds_closed z range m, (long_within_of_own (scratch P) bases range, last_part (is_last ts) m lt))),
      unless_closed (is_last ts) _ m (tests_closed (z + hidden_interval range) x ts m lt),
    )

    exits_closed : (z : ℕ) (es : Exits) (before : tree.Block) (m : ℕ) → 0 < m → Closed before m → Closed (exits P z es before) m
    exits_closed z NoExits before m lt h = h
    exits_closed z (AndExit ls s es) before m lt h =
        exits_closed (z + hidden s) es _ m lt (h, (block_closed z s m, past_exits_closed es 0 m lt))

    loop_closed : (z : ℕ) (k : Counter) (l : Loop) (m : ℕ) → Closed (loop P z k l) m
    loop_closed z k (LoopOf cond s es fin) m =
        exits_closed (z + (hidden_condition cond + hidden s)) es _ (suc m) (omega arith) (
          (
            head_closed k (suc (suc m)) (omega arith),
            (
              gives_closed P k (suc (suc m)),
              (
                condition_closed z cond (suc (suc m)) (omega arith),
                (block_closed (z + hidden_condition cond) s (suc (suc m)), step_own k),
              ),
            ),
          ),
          unless_closed (is_endless k cond) _ (suc m)
              (finish_closed (z + (hidden_condition cond + hidden s + hidden_exits es)) es fin (suc m) (omega arith)),
        )

    condition_closed : (z : ℕ) (c : Condition) (m : ℕ) → 0 < m → Closed (condition P z c) m
    condition_closed z Always m lt = tt
    condition_closed z (While e) m lt = (forms_closed z e).jump false 0 m lt
    condition_closed z (Until e) m lt = (forms_closed z e).jump true 0 m lt

    finish_closed : (z : ℕ) (es : Exits) (fin : Finish) (m : ℕ) → 0 < m → Closed (finish P z es fin) m
    finish_closed z es NoFinish m lt = past_exits_closed es 0 m lt
    finish_closed z es (Finished s) m lt = (block_closed z s m, past_exits_closed es 0 m lt)
