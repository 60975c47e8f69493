-- The code of calls, raises, catch phrases, arms and jumps out of arms, each with its offsets, ranges, regions and slots.
use Rattle.std.specs.Prelude.{[], refl, ◌∷◌}
use Rattle.code_rules.proofs.Made.{arm, at, exprs, import, kinds, local, phrase, plain_block, procedure, stmts, with_imports, ◌&◌}
use Rattle.code_rules.specs.CodeFor.{always, and_arm, and_case, and_exit, and_statement, and_value, assign, block, call, catch, continue, falls, jump, jumps, literal, loop, marked, no_arms, no_exits, no_finish, no_phrase, no_range, no_statements, no_values, null, number, otherwise, perform, raise, reject, related_last, relates, resume, retry, return_with, rounds, select, variable}
use Rattle.code_rules.specs.Modules.{BodyCode}
use Rattle.code_rules.specs.Reading.{Caller, Coded, Offset, no_more}
use Rattle.mesa_types.specs.Counts.{hidden, hidden_arms, hidden_cases, hidden_condition, hidden_exits, hidden_expr, hidden_exprs, hidden_finish, hidden_interval, hidden_loop, hidden_operations, hidden_phrase, hidden_stmts, hidden_suffixes, hidden_targets, hidden_tests, last_words, words_given, words_of}
use Rattle.mesa_types.specs.Operators.{differ}
use Rattle.mesa_types.specs.Shapes.{join, words_before, words_in, words_in_all}
use Rattle.mesa_types.specs.Typed.{Always, AndArm, AndCase, AndExit, Assign, Block, Call, Catch, Continue, Endless, IfRelated, Jump, Literal, LoopOf, Marked, NoArms, NoExits, NoExprs, NoFinish, NoPhrase, NoSuffix, NoTests, Null, Number, Ordinal, Otherwise, Perform, Raise, Reject, Repeat, Resume, Retry, ReturnWith, Select, Texts, point_of}
use Rattle.mesa_base.specs.declared.relation.Relation.TheVariants.{Equal}
use Rattle.mesa_types.specs.declared.typed_parts.Base.TheVariants.{Signed}
use Rattle.mesa_types.specs.declared.typed_parts.Callee.TheVariants.{LinkedProcedure, OwnProcedure}
use Rattle.mesa_types.specs.declared.typed_parts.Goal.TheVariants.{PastStatement, ToLabel, ToReturn}
use Rattle.mesa_types.specs.declared.typed_parts.Home.TheVariants.{Local}
use Rattle.mesa_types.specs.declared.typed_parts.Label.TheVariants.{OnAny, OnBounds, OnLinked, OnOwn, OnUnwind, OnZero}
use Rattle.mesa_types.specs.declared.typed_parts.Raised.TheVariants.{LinkedSignal, OwnSignal, TheBoundsFault, TheUnnamed, TheZeroDivisor}
use Rattle.mesa_types.specs.declared.typed_parts.Range.TheVariants.{Every}
use Rattle.std.proofs.Common.{arith}
use Rattle.code_forms.specs.declared.instruction.Instruction.TheVariants as i
use Rattle.code_forms.specs.declared.module_code.Label.TheVariants as l

-- x ← G[x ! Odd => RESUME[n]; UNWIND => NULL]: the range of the phrase is the one Call; n is variable 1
abbrev resumed : Coded
resumed = procedure (kinds []) (kinds (Ordinal ∷ Ordinal ∷ [])) (
    at 0 0 (i.LoadL 0 1)
    ∷ at 5 1 (i.Call 1)
    ∷ at 10 1 (i.StoreL 0 1)
    ∷ at 15 0 i.Return
    ∷ at 16 0 (i.LoadL 1 1)
    ∷ at 21 1 (i.Resume 1)
    ∷ at 24 0 i.ArmEnd
    ∷ at 25 0 i.ArmEnd
    ∷ []) (phrase 5 10 (arm (l.Own 0 ∷ []) 1 1 16 25 ∷ arm (l.Unwind ∷ []) 0 0 25 26 ∷ []) ∷ [])

resumed_stands : BodyCode resumed (
    Marked 0 (Assign (Local 0) NoSuffix (Call (OwnProcedure 1) [] (exprs (local 0 ∷ [])) 1
    (Catch 0 (AndArm (OnOwn 0 ∷ []) 1 1 (Resume [] (exprs (local 1 ∷ []))) (AndArm (OnUnwind ∷ []) 0 0 Null NoArms))))))
unfolding differ words_in words_in_all words_before join point_of hidden hidden_expr hidden_exprs hidden_suffixes hidden_operations hidden_interval hidden_phrase hidden_arms hidden_stmts hidden_targets hidden_cases hidden_tests hidden_exits hidden_loop hidden_finish hidden_condition words_of words_given last_words
resumed_stands = record {
  end = 15;
  does = marked (assign 10 tt
      (call 5 5 (and_value 5 (variable tt (refl & no_more)) no_values) no_more
      (catch 0 _ refl refl
      (and_arm 16 24 25 (resume 21 (and_value 21 (variable tt (refl & no_more)) no_values) (refl & no_more)) (refl & no_more)
      (and_arm 25 25 26 null (refl & no_more) no_arms)))
      (refl & no_more)) (refl & no_more));
  returns = (refl & no_more);
  room = omega arith;
}

-- DO SIGNAL Odd[x ! Odd => G[1 ! BoundsFault => EXIT; ZeroDivisor => RETRY; ANY => RETURN]] ENDLOOP
-- EXIT and RETURN leave two arms, RETRY leaves one, to the start of the call of the outer arm
abbrev arms_in_arms : Coded
arms_in_arms = procedure (kinds []) (kinds (Ordinal ∷ Ordinal ∷ [])) (
    at 0 0 (i.LoadL 0 1)
    ∷ at 5 1 (i.Raise 0)
    ∷ at 10 1 (i.Pop 1)
    ∷ at 13 0 (i.JumpBack 0)
    ∷ at 18 0 i.Return
    ∷ at 19 0 (i.Lit 1)
    ∷ at 22 1 (i.Call 1)
    ∷ at 27 1 (i.Pop 1)
    ∷ at 30 0 i.ArmEnd
    ∷ at 31 0 (i.Leave 2 18)
    ∷ at 38 0 i.ArmEnd
    ∷ at 39 0 (i.Leave 1 19)
    ∷ at 46 0 i.ArmEnd
    ∷ at 47 0 (i.LeaveReturn 2)
    ∷ at 50 0 i.ArmEnd
    ∷ []) (phrase 5 10 (arm (l.Own 0 ∷ []) 1 1 19 31 ∷ [])
    ∷ phrase 22 27 (arm (l.BoundsFault ∷ []) 0 0 31 39 ∷ arm (l.ZeroDivisor ∷ []) 0 0 39 47 ∷ arm (l.Any ∷ []) 0 0 47 51 ∷ []) ∷ [])

arms_in_arms_stands : BodyCode arms_in_arms (
    Marked 0 (Repeat Endless (LoopOf Always (Marked 1 (plain_block (Marked 2 (Perform (Raise (OwnSignal 0) [] (exprs (local 0 ∷ [])) 1
    (Catch 2 (AndArm (OnOwn 0 ∷ []) 1 1 (Marked 3 (Perform (Call (OwnProcedure 1) [] (exprs (Number 1 ∷ [])) 1 (Catch 3
    (AndArm (OnBounds ∷ []) 0 0 (Jump 2 (PastStatement 0)) (AndArm (OnZero ∷ []) 0 0 (Retry 3) (AndArm (OnAny ∷ []) 0 0
    (Jump 2 ToReturn) NoArms))))))) NoArms)))) ∷ []))) NoExits NoFinish)))
unfolding differ words_in words_in_all words_before join point_of hidden hidden_expr hidden_exprs hidden_suffixes hidden_operations hidden_interval hidden_phrase hidden_arms hidden_stmts hidden_targets hidden_cases hidden_tests hidden_exits hidden_loop hidden_finish hidden_condition words_of words_given last_words
arms_in_arms_stands = record {
  end = 18;
  does = marked (loop (rounds [] 0 0 13 18 18 no_more always
      (marked (block [] 13 13 no_phrase
      (and_statement 13 (marked (perform 10
      (raise 5 5 (and_value 5 (variable tt (refl & no_more)) no_values) no_more
      (catch 0 _ refl refl
      (and_arm 19 30 31 (marked (perform 27
      (call 22 22 (and_value 22 (number (refl & no_more)) no_values) no_more
      (catch 1 _ refl refl
      (and_arm 31 38 39 (jump (Offset 18) refl (refl & no_more)) (refl & no_more)
      (and_arm 39 46 47 (retry (Offset 19) refl (refl & no_more)) (refl & no_more)
      (and_arm 47 50 51 (jump Caller refl (refl & no_more)) (refl & no_more) no_arms))))
      (refl & no_more)) (refl & no_more))) (refl & no_more) no_arms))
      (refl & no_more)) (refl & no_more)))
      no_statements)
      falls no_exits))
      (refl & no_more) (no_finish falls) no_exits));
  returns = (refl & no_more);
  room = omega arith;
}

-- BEGIN ENABLE ANY => x ← 1; NULL; END; x ← 2: the phrase has no range, and its arm no code
abbrev enabled_over_nothing : Coded
enabled_over_nothing = procedure (kinds []) (kinds (Ordinal ∷ Ordinal ∷ [])) (
    at 0 0 (i.Lit 2)
    ∷ at 3 1 (i.StoreL 0 1)
    ∷ at 8 0 i.Return
    ∷ []) []

enabled_over_nothing_stands : BodyCode enabled_over_nothing (
    plain_block (Marked 0 (Block (Catch 0 (AndArm (OnAny ∷ []) 0 0 (Assign (Local 0) NoSuffix (Number 1)) NoArms)) (stmts (Null ∷ [])) NoExits)
    ∷ Assign (Local 0) NoSuffix (Number 2) ∷ []))
unfolding differ words_in words_in_all words_before join point_of hidden hidden_expr hidden_exprs hidden_suffixes hidden_operations hidden_interval hidden_phrase hidden_arms hidden_stmts hidden_targets hidden_cases hidden_tests hidden_exits hidden_loop hidden_finish hidden_condition words_of words_given last_words
enabled_over_nothing_stands = record {
  end = 8;
  does = block [] 8 8 no_phrase
      (and_statement 0 (marked (block [] 0 0 no_range (and_statement 0 null no_statements) falls no_exits))
      (and_statement 8 (assign 3 tt (number (refl & no_more)) (refl & no_more)) no_statements))
      falls no_exits;
  returns = (refl & no_more);
  room = omega arith;
}

-- BEGIN ENABLE {Odd => GOTO l; BoundsFault => CONTINUE; ANY => REJECT}; G[x]; ERROR EXITS l => x ← 1 END
-- the range ends before the statement of the label, and before the jump over it
abbrev enabled : Coded
enabled = procedure (kinds []) (kinds (Ordinal ∷ Ordinal ∷ [])) (
    at 0 0 (i.LoadL 0 1)
    ∷ at 5 1 (i.Call 1)
    ∷ at 10 1 (i.Pop 1)
    ∷ at 13 0 (i.RaiseHost 2)
    ∷ at 15 0 (i.Jump 28)
    ∷ at 20 0 (i.Lit 1)
    ∷ at 23 1 (i.StoreL 0 1)
    ∷ at 28 0 i.Return
    ∷ at 29 0 (i.Leave 1 20)
    ∷ at 36 0 i.ArmEnd
    ∷ at 37 0 (i.Leave 1 28)
    ∷ at 44 0 i.ArmEnd
    ∷ at 45 0 i.ArmEnd
    ∷ at 46 0 i.ArmEnd
    ∷ []) (phrase 0 15 (arm (l.Own 0 ∷ []) 0 0 29 37 ∷ arm (l.BoundsFault ∷ []) 0 0 37 45 ∷ arm (l.Any ∷ []) 0 0 45 47 ∷ []) ∷ [])

enabled_stands : BodyCode enabled (
    Marked 0 (Block (Catch 0 (AndArm (OnOwn 0 ∷ []) 0 0 (Jump 1 (ToLabel 0)) (AndArm (OnBounds ∷ []) 0 0 (Continue 0) (AndArm (OnAny
    ∷ []) 0 0 Reject NoArms))))
    (stmts (Perform (Call (OwnProcedure 1) [] (exprs (local 0 ∷ [])) 1 NoPhrase) ∷ Perform (Raise TheUnnamed [] NoExprs 0 NoPhrase) ∷ []))
    (AndExit (0 ∷ []) (Assign (Local 0) NoSuffix (Number 1)) NoExits)))
unfolding differ words_in words_in_all words_before join point_of hidden hidden_expr hidden_exprs hidden_suffixes hidden_operations hidden_interval hidden_phrase hidden_arms hidden_stmts hidden_targets hidden_cases hidden_tests hidden_exits hidden_loop hidden_finish hidden_condition words_of words_given last_words
enabled_stands = record {
  end = 28;
  does = marked (block (20 ∷ []) 15 20
      (catch 0 _ refl refl
      (and_arm 29 36 37 (jump (Offset 20) refl (refl & no_more)) (refl & no_more)
      (and_arm 37 44 45 (continue (Offset 28) refl (refl & no_more)) (refl & no_more)
      (and_arm 45 46 47 (reject (refl & no_more)) (refl & no_more) no_arms))))
      (and_statement 13 (perform 10 (call 5 5 (and_value 5 (variable tt (refl & no_more)) no_values) no_more no_phrase (refl & no_more))
      (refl & no_more))
      (and_statement 15 (perform 15 (raise 13 13 no_values no_more no_phrase (refl & no_more)) no_more) no_statements))
      (jumps (refl & no_more))
      (and_exit 28 28 (assign 23 tt (number (refl & no_more)) (refl & no_more)) falls no_exits));
  returns = (refl & no_more);
  room = omega arith;
}

-- BEGIN ENABLE UNWIND => y ← 1; BEGIN ENABLE ANY => NULL; y ← G[x ! Odd => NULL] END END
-- three phrases are around the Call, two around what stands beside it
abbrev enabled_inside : Coded
enabled_inside = procedure (kinds []) (kinds (Ordinal ∷ Ordinal ∷ [])) (
    at 0 0 (i.LoadL 0 1)
    ∷ at 5 1 (i.Call 1)
    ∷ at 10 1 (i.StoreL 1 1)
    ∷ at 15 0 i.Return
    ∷ at 16 0 (i.Lit 1)
    ∷ at 19 1 (i.StoreL 1 1)
    ∷ at 24 0 i.ArmEnd
    ∷ at 25 0 i.ArmEnd
    ∷ at 26 0 i.ArmEnd
    ∷ []) (phrase 0 15 (arm (l.Unwind ∷ []) 0 0 16 25 ∷ []) ∷ phrase 0 15 (arm (l.Any ∷ []) 0 0 25 26 ∷ [])
    ∷ phrase 5 10 (arm (l.Own 0 ∷ []) 0 0 26 27 ∷ []) ∷ [])

enabled_inside_stands : BodyCode enabled_inside (
    Marked 0 (Block (Catch 0 (AndArm (OnUnwind ∷ []) 0 0 (Assign (Local 1) NoSuffix (Number 1)) NoArms)) (stmts (Marked 1 (Block
    (Catch 1 (AndArm (OnAny ∷ []) 0 0 Null NoArms)) (stmts (Marked 2 (Assign (Local 1) NoSuffix (Call (OwnProcedure 1) [] (exprs (local 0 ∷ [])) 1
    (Catch 2 (AndArm (OnOwn 0 ∷ []) 0 0 Null NoArms)))) ∷ [])) NoExits) ∷ [])) NoExits))
unfolding differ words_in words_in_all words_before join point_of hidden hidden_expr hidden_exprs hidden_suffixes hidden_operations hidden_interval hidden_phrase hidden_arms hidden_stmts hidden_targets hidden_cases hidden_tests hidden_exits hidden_loop hidden_finish hidden_condition words_of words_given last_words
enabled_inside_stands = record {
  end = 15;
  does = marked (block [] 15 15
      (catch 0 _ refl refl (and_arm 16 24 25 (assign 19 tt (number (refl & no_more)) (refl & no_more)) (refl & no_more) no_arms))
      (and_statement 15
      (marked (block [] 15 15
      (catch 1 _ refl refl (and_arm 25 25 26 null (refl & no_more) no_arms))
      (and_statement 15
      (marked (assign 10 tt
      (call 5 5 (and_value 5 (variable tt (refl & no_more)) no_values) no_more (catch 2 _ refl refl (and_arm 26 26 27 null
      (refl & no_more) no_arms)) (refl & no_more))
      (refl & no_more)))
      no_statements)
      falls no_exits))
      no_statements)
      falls no_exits);
  returns = (refl & no_more);
  room = omega arith;
}

-- in a procedure of x with results n and s: x ← G[x ! BoundsFault => RETURN[s: "..", n: 5]]; RETURN[x, ".."]
-- n is in slot 1, s in slots 2 and 3; out of the arm it is LeaveReturn
abbrev returned : Coded
returned = procedure (kinds []) (kinds (Ordinal ∷ Ordinal ∷ Texts ∷ [])) (
    at 0 0 (i.LoadL 0 1)
    ∷ at 5 1 (i.Call 1)
    ∷ at 10 1 (i.StoreL 0 1)
    ∷ at 15 0 (i.LoadL 0 1)
    ∷ at 20 1 (i.Str 1)
    ∷ at 23 3 (i.StoreL 1 3)
    ∷ at 28 0 i.Return
    ∷ at 29 0 i.Return
    ∷ at 30 0 (i.Str 1)
    ∷ at 33 2 (i.Lit 5)
    ∷ at 36 3 (i.Roll 2 1)
    ∷ at 41 3 (i.StoreL 1 3)
    ∷ at 46 0 (i.LeaveReturn 1)
    ∷ at 49 0 i.ArmEnd
    ∷ []) (phrase 5 10 (arm (l.BoundsFault ∷ []) 0 0 30 50 ∷ []) ∷ [])

returned_stands : BodyCode returned (
    plain_block (Marked 0 (Assign (Local 0) NoSuffix (Call (OwnProcedure 1) [] (exprs (local 0 ∷ [])) 1
    (Catch 0 (AndArm (OnBounds ∷ []) 0 0 (ReturnWith 1 1 (1 ∷ 0 ∷ []) (exprs (Literal 0 ∷ Number 5 ∷ []))) NoArms))))
    ∷ ReturnWith 0 1 [] (exprs (local 0 ∷ Literal 0 ∷ [])) ∷ []))
unfolding differ words_in words_in_all words_before join point_of hidden hidden_expr hidden_exprs hidden_suffixes hidden_operations hidden_interval hidden_phrase hidden_arms hidden_stmts hidden_targets hidden_cases hidden_tests hidden_exits hidden_loop hidden_finish hidden_condition words_of words_given last_words
returned_stands = record {
  end = 29;
  does = block [] 29 29 no_phrase
      (and_statement 15 (marked (assign 10 tt
      (call 5 5 (and_value 5 (variable tt (refl & no_more)) no_values) no_more
      (catch 0 _ refl refl
      (and_arm 30 49 50 (return_with 36 Caller (and_value 33 (literal (refl & no_more)) (and_value 36 (number (refl & no_more)) no_values)) refl
      (refl & refl & refl & no_more)) (refl & no_more) no_arms))
      (refl & no_more)) (refl & no_more)))
      (and_statement 29 (return_with 23 Caller (and_value 20 (variable tt (refl & no_more)) (and_value 23 (literal
      (refl & no_more)) no_values)) refl (refl & refl & no_more))
      no_statements))
      falls no_exits;
  returns = (refl & no_more);
  room = omega arith;
}

-- I.F[3]; x ← SIGNAL J.S[4 ! J.S => NULL]; ERROR Bad; ERROR BoundsFault; ERROR ZeroDivisor
-- item 3 of import 0 is link 0; item 1 of import 1 is link 1
abbrev through_links : Coded
through_links = with_imports (import (3 ∷ []) ∷ import (1 ∷ []) ∷ []) (kinds []) (kinds (Ordinal ∷ Ordinal ∷ [])) (
    at 0 0 (i.Lit 3)
    ∷ at 3 1 (i.CallLink 0)
    ∷ at 8 0 (i.Lit 4)
    ∷ at 11 1 (i.RaiseLink 1)
    ∷ at 16 1 (i.StoreL 0 1)
    ∷ at 21 0 (i.Raise 1)
    ∷ at 26 0 (i.RaiseHost 0)
    ∷ at 28 0 (i.RaiseHost 1)
    ∷ at 30 0 i.Return
    ∷ at 31 0 i.ArmEnd
    ∷ []) (phrase 11 16 (arm (l.Link 1 ∷ []) 0 0 31 32 ∷ []) ∷ [])

through_links_stands : BodyCode through_links (
    plain_block (Perform (Call (LinkedProcedure 0 3) [] (exprs (Number 3 ∷ [])) 0 NoPhrase)
    ∷ Marked 0 (Assign (Local 0) NoSuffix (Raise (LinkedSignal 1 1) [] (exprs (Number 4 ∷ [])) 1 (Catch 0 (AndArm (OnLinked 1 1
    ∷ []) 0 0 Null NoArms))))
    ∷ Perform (Raise (OwnSignal 1) [] NoExprs 0 NoPhrase) ∷ Perform (Raise TheBoundsFault [] NoExprs 0 NoPhrase)
    ∷ Perform (Raise TheZeroDivisor [] NoExprs 0 NoPhrase) ∷ []))
unfolding differ words_in words_in_all words_before join point_of hidden hidden_expr hidden_exprs hidden_suffixes hidden_operations hidden_interval hidden_phrase hidden_arms hidden_stmts hidden_targets hidden_cases hidden_tests hidden_exits hidden_loop hidden_finish hidden_condition words_of words_given last_words
through_links_stands = record {
  end = 30;
  does = block [] 30 30 no_phrase
      (and_statement 8 (perform 8 (call 3 3 (and_value 3 (number (refl & no_more)) no_values) no_more no_phrase (refl & no_more)) no_more)
      (and_statement 21 (marked (assign 16 tt
      (raise 11 11 (and_value 11 (number (refl & no_more)) no_values) no_more (catch 0 _ refl refl (and_arm 31 31 32 null (refl & no_more) no_arms))
      (refl & no_more)) (refl & no_more)))
      (and_statement 26 (perform 26 (raise 21 21 no_values no_more no_phrase (refl & no_more)) no_more)
      (and_statement 28 (perform 28 (raise 26 26 no_values no_more no_phrase (refl & no_more)) no_more)
      (and_statement 30 (perform 30 (raise 28 28 no_values no_more no_phrase (refl & no_more)) no_more) no_statements)))))
      falls no_exits;
  returns = (refl & no_more);
  room = omega arith;
}

-- SELECT G[x ! ANY => SELECT y FROM 1 => NULL ENDCASE] FROM 2 => NULL ENDCASE
-- the SELECT of the arm holds its selector in a slot of its own, and so its raiser can go on
abbrev held_in_an_arm : Coded
held_in_an_arm = procedure (kinds []) (kinds (Ordinal ∷ Ordinal ∷ [])) (
    at 0 0 (i.LoadL 0 1)
    ∷ at 5 1 (i.Call 1)
    ∷ at 10 1 (i.StoreL 18 1)
    ∷ at 15 0 (i.LoadL 18 1)
    ∷ at 20 1 (i.Lit 2)
    ∷ at 23 2 i.Eq
    ∷ at 24 1 (i.JumpIfNot 29)
    ∷ at 29 0 i.Return
    ∷ at 30 0 (i.LoadL 1 1)
    ∷ at 35 1 (i.StoreL 19 1)
    ∷ at 40 0 (i.LoadL 19 1)
    ∷ at 45 1 (i.Lit 1)
    ∷ at 48 2 i.Eq
    ∷ at 49 1 (i.JumpIfNot 54)
    ∷ at 54 0 i.ArmEnd
    ∷ []) (phrase 5 10 (arm (l.Any ∷ []) 0 0 30 55 ∷ []) ∷ [])

held_in_an_arm_stands : BodyCode held_in_an_arm (
    Marked 0 (Select (Call (OwnProcedure 1) [] (exprs (local 0 ∷ [])) 1 (Catch 0 (AndArm (OnAny ∷ []) 0 0
    (Select (local 1) (AndCase (IfRelated Every Signed Equal (Number 1) NoTests) Null (Otherwise Null))) NoArms)))
    (AndCase (IfRelated Every Signed Equal (Number 2) NoTests) Null (Otherwise Null))))
unfolding differ words_in words_in_all words_before join point_of hidden hidden_expr hidden_exprs hidden_suffixes hidden_operations hidden_interval hidden_phrase hidden_arms hidden_stmts hidden_targets hidden_cases hidden_tests hidden_exits hidden_loop hidden_finish hidden_condition words_of words_given last_words
held_in_an_arm_stands = record {
  end = 29;
  does = marked (select 10 15
      (call 5 5 (and_value 5 (variable tt (refl & no_more)) no_values) no_more
      (catch 0 _ refl refl
      (and_arm 30 54 55
      (select 35 40 (variable tt (refl & no_more)) (refl & no_more)
      (and_case 54 54 54 (related_last (relates 45 48 (refl & no_more) (number (refl & no_more)) (refl & refl & no_more))) null falls
      (otherwise null)))
      (refl & no_more) no_arms))
      (refl & no_more)) (refl & no_more)
      (and_case 29 29 29 (related_last (relates 20 23 (refl & no_more) (number (refl & no_more)) (refl & refl & no_more))) null falls
      (otherwise null)));
  returns = (refl & no_more);
  room = omega arith;
}
