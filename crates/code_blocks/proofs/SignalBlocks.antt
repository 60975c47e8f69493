-- The code, the phrases and the regions that are written of calls, raises, catch phrases, arms and jumps out of arms.
use Rattle.std.specs.Prelude.{◌≡◌, [], refl, ◌∷◌}
use Rattle.code_rules.proofs.Made.{arm, at, exprs, import, kinds, local, phrase, plain_block, procedure, stmts, with_imports}
use Rattle.mesa_types.specs.Counts.{hidden, hidden_arms, hidden_cases, hidden_condition, hidden_exits, hidden_expr, hidden_exprs, hidden_finish, hidden_interval, hidden_loop, hidden_operations, hidden_phrase, hidden_stmts, hidden_suffixes, hidden_targets, hidden_tests, last_words, words_given, words_of}
use Rattle.mesa_types.specs.Operators.{differ}
use Rattle.mesa_types.specs.Shapes.{join, words_before, words_in, words_in_all}
use Rattle.mesa_types.specs.Typed.{Always, AndArm, AndCase, AndExit, Assign, Block, Call, Catch, Continue, Endless, IfRelated, Jump, Literal, LoopOf, Marked, NoArms, NoExits, NoExprs, NoFinish, NoPhrase, NoSuffix, NoTests, Null, Number, Ordinal, Otherwise, Perform, Raise, Reject, Repeat, Resume, Retry, ReturnWith, Select, Texts, point_of}
use Rattle.mesa_base.specs.declared.relation.Relation.TheVariants.{Equal}
use Rattle.mesa_types.specs.declared.typed_parts.Base.TheVariants.{Signed}
use Rattle.mesa_types.specs.declared.typed_parts.Callee.TheVariants.{LinkedProcedure, OwnProcedure}
use Rattle.mesa_types.specs.declared.typed_parts.Goal.TheVariants.{PastStatement, ToLabel, ToReturn}
use Rattle.mesa_types.specs.declared.typed_parts.Home.TheVariants.{Local}
use Rattle.mesa_types.specs.declared.typed_parts.Label.TheVariants.{OnAny, OnBounds, OnLinked, OnOwn, OnUnwind, OnZero}
use Rattle.mesa_types.specs.declared.typed_parts.Raised.TheVariants.{LinkedSignal, OwnSignal, TheBoundsFault, TheUnnamed, TheZeroDivisor}
use Rattle.mesa_types.specs.declared.typed_parts.Range.TheVariants.{Every}
use Rattle.code_forms.specs.declared.instruction.Instruction.TheVariants as i
use Rattle.code_forms.specs.declared.module_code.Label.TheVariants as l
use Rattle.code_blocks.specs.Regions.{Written}
use Rattle.code_blocks.proofs.Written.{written_of}

-- x ← G[x ! Odd => RESUME[n]; UNWIND => NULL]: the range of the phrase is the one Call; n is variable 1
abbrev resumed : Written
resumed = written_of (procedure (kinds []) (kinds (Ordinal ∷ Ordinal ∷ [])) [] []) (
    Marked 0 (Assign (Local 0) NoSuffix (Call (OwnProcedure 1) [] (exprs (local 0 ∷ [])) 1
    (Catch 0 (AndArm (OnOwn 0 ∷ []) 1 1 (Resume [] (exprs (local 1 ∷ []))) (AndArm (OnUnwind ∷ []) 0 0 Null NoArms))))))

resumed_code : resumed.code ≡
    at 0 0 (i.LoadL 0 1)
    ∷ at 5 1 (i.Call 1)
    ∷ at 10 1 (i.StoreL 0 1)
    ∷ at 15 0 i.Return
    ∷ at 16 0 (i.LoadL 1 1)
    ∷ at 21 1 (i.Resume 1)
    ∷ at 24 0 i.ArmEnd
    ∷ at 25 0 i.ArmEnd
    ∷ []
unfolding differ words_in words_in_all words_before join point_of hidden hidden_expr hidden_exprs hidden_suffixes hidden_operations hidden_interval hidden_phrase hidden_arms hidden_stmts hidden_targets hidden_cases hidden_tests hidden_exits hidden_loop hidden_finish hidden_condition words_of words_given last_words
resumed_code = refl

resumed_phrases : resumed.done ≡ (phrase 5 10 (arm (l.Own 0 ∷ []) 1 1 16 25 ∷ arm (l.Unwind ∷ []) 0 0 25 26 ∷ []) ∷ [])
unfolding differ words_in words_in_all words_before join point_of hidden hidden_expr hidden_exprs hidden_suffixes hidden_operations hidden_interval hidden_phrase hidden_arms hidden_stmts hidden_targets hidden_cases hidden_tests hidden_exits hidden_loop hidden_finish hidden_condition words_of words_given last_words
resumed_phrases = refl

-- DO SIGNAL Odd[x ! Odd => G[1 ! BoundsFault => EXIT; ZeroDivisor => RETRY; ANY => RETURN]] ENDLOOP
-- EXIT and RETURN leave two arms, RETRY leaves one, to the start of the call of the outer arm
abbrev arms_in_arms : Written
arms_in_arms = written_of (procedure (kinds []) (kinds (Ordinal ∷ Ordinal ∷ [])) [] []) (
    Marked 0 (Repeat Endless (LoopOf Always (Marked 1 (plain_block (Marked 2 (Perform (Raise (OwnSignal 0) [] (exprs (local 0 ∷ [])) 1
    (Catch 2 (AndArm (OnOwn 0 ∷ []) 1 1 (Marked 3 (Perform (Call (OwnProcedure 1) [] (exprs (Number 1 ∷ [])) 1 (Catch 3
    (AndArm (OnBounds ∷ []) 0 0 (Jump 2 (PastStatement 0)) (AndArm (OnZero ∷ []) 0 0 (Retry 3) (AndArm (OnAny ∷ []) 0 0
    (Jump 2 ToReturn) NoArms))))))) NoArms)))) ∷ []))) NoExits NoFinish)))

arms_in_arms_code : arms_in_arms.code ≡
    at 0 0 (i.LoadL 0 1)
    ∷ at 5 1 (i.Raise 0)
    ∷ at 10 1 (i.Pop 1)
    ∷ at 13 0 (i.JumpBack 0)
    ∷ at 18 0 i.Return
    ∷ at 19 0 (i.Lit 1)
    ∷ at 22 1 (i.Call 1)
    ∷ at 27 1 (i.Pop 1)
    ∷ at 30 0 i.ArmEnd
    ∷ at 31 0 (i.Leave 2 18)
    ∷ at 38 0 i.ArmEnd
    ∷ at 39 0 (i.Leave 1 19)
    ∷ at 46 0 i.ArmEnd
    ∷ at 47 0 (i.LeaveReturn 2)
    ∷ at 50 0 i.ArmEnd
    ∷ []
unfolding differ words_in words_in_all words_before join point_of hidden hidden_expr hidden_exprs hidden_suffixes hidden_operations hidden_interval hidden_phrase hidden_arms hidden_stmts hidden_targets hidden_cases hidden_tests hidden_exits hidden_loop hidden_finish hidden_condition words_of words_given last_words
arms_in_arms_code = refl

arms_in_arms_phrases : arms_in_arms.done ≡ (phrase 5 10 (arm (l.Own 0 ∷ []) 1 1 19 31 ∷ [])
    ∷ phrase 22 27 (arm (l.BoundsFault ∷ []) 0 0 31 39 ∷ arm (l.ZeroDivisor ∷ []) 0 0 39 47 ∷ arm (l.Any ∷ []) 0 0 47 51 ∷ []) ∷ [])
unfolding differ words_in words_in_all words_before join point_of hidden hidden_expr hidden_exprs hidden_suffixes hidden_operations hidden_interval hidden_phrase hidden_arms hidden_stmts hidden_targets hidden_cases hidden_tests hidden_exits hidden_loop hidden_finish hidden_condition words_of words_given last_words
arms_in_arms_phrases = refl

-- BEGIN ENABLE ANY => x ← 1; NULL; END; x ← 2: the phrase has no range, and its arm no code
abbrev enabled_over_nothing : Written
enabled_over_nothing = written_of (procedure (kinds []) (kinds (Ordinal ∷ Ordinal ∷ [])) [] []) (
    plain_block (Marked 0 (Block (Catch 0 (AndArm (OnAny ∷ []) 0 0 (Assign (Local 0) NoSuffix (Number 1)) NoArms)) (stmts (Null ∷ [])) NoExits)
    ∷ Assign (Local 0) NoSuffix (Number 2) ∷ []))

enabled_over_nothing_code : enabled_over_nothing.code ≡
    at 0 0 (i.Lit 2)
    ∷ at 3 1 (i.StoreL 0 1)
    ∷ at 8 0 i.Return
    ∷ []
unfolding differ words_in words_in_all words_before join point_of hidden hidden_expr hidden_exprs hidden_suffixes hidden_operations hidden_interval hidden_phrase hidden_arms hidden_stmts hidden_targets hidden_cases hidden_tests hidden_exits hidden_loop hidden_finish hidden_condition words_of words_given last_words
enabled_over_nothing_code = refl

enabled_over_nothing_phrases : enabled_over_nothing.done ≡ []
unfolding differ words_in words_in_all words_before join point_of hidden hidden_expr hidden_exprs hidden_suffixes hidden_operations hidden_interval hidden_phrase hidden_arms hidden_stmts hidden_targets hidden_cases hidden_tests hidden_exits hidden_loop hidden_finish hidden_condition words_of words_given last_words
enabled_over_nothing_phrases = refl

-- BEGIN ENABLE {Odd => GOTO l; BoundsFault => CONTINUE; ANY => REJECT}; G[x]; ERROR EXITS l => x ← 1 END
-- the range ends before the statement of the label, and before the jump over it
abbrev enabled : Written
enabled = written_of (procedure (kinds []) (kinds (Ordinal ∷ Ordinal ∷ [])) [] []) (
    Marked 0 (Block (Catch 0 (AndArm (OnOwn 0 ∷ []) 0 0 (Jump 1 (ToLabel 0)) (AndArm (OnBounds ∷ []) 0 0 (Continue 0) (AndArm (OnAny
    ∷ []) 0 0 Reject NoArms))))
    (stmts (Perform (Call (OwnProcedure 1) [] (exprs (local 0 ∷ [])) 1 NoPhrase) ∷ Perform (Raise TheUnnamed [] NoExprs 0 NoPhrase) ∷ []))
    (AndExit (0 ∷ []) (Assign (Local 0) NoSuffix (Number 1)) NoExits)))

enabled_code : enabled.code ≡
    at 0 0 (i.LoadL 0 1)
    ∷ at 5 1 (i.Call 1)
    ∷ at 10 1 (i.Pop 1)
    ∷ at 13 0 (i.RaiseHost 2)
    ∷ at 15 0 (i.Jump 28)
    ∷ at 20 0 (i.Lit 1)
    ∷ at 23 1 (i.StoreL 0 1)
    ∷ at 28 0 i.Return
    ∷ at 29 0 (i.Leave 1 20)
    ∷ at 36 0 i.ArmEnd
    ∷ at 37 0 (i.Leave 1 28)
    ∷ at 44 0 i.ArmEnd
    ∷ at 45 0 i.ArmEnd
    ∷ at 46 0 i.ArmEnd
    ∷ []
unfolding differ words_in words_in_all words_before join point_of hidden hidden_expr hidden_exprs hidden_suffixes hidden_operations hidden_interval hidden_phrase hidden_arms hidden_stmts hidden_targets hidden_cases hidden_tests hidden_exits hidden_loop hidden_finish hidden_condition words_of words_given last_words
enabled_code = refl

enabled_phrases : enabled.done ≡ (phrase 0 15 (arm (l.Own 0 ∷ []) 0 0 29 37 ∷ arm (l.BoundsFault ∷ []) 0 0 37 45 ∷ arm (l.Any ∷ []) 0 0 45 47 ∷ []) ∷ [])
unfolding differ words_in words_in_all words_before join point_of hidden hidden_expr hidden_exprs hidden_suffixes hidden_operations hidden_interval hidden_phrase hidden_arms hidden_stmts hidden_targets hidden_cases hidden_tests hidden_exits hidden_loop hidden_finish hidden_condition words_of words_given last_words
enabled_phrases = refl

-- BEGIN ENABLE UNWIND => y ← 1; BEGIN ENABLE ANY => NULL; y ← G[x ! Odd => NULL] END END
-- three phrases are around the Call, two around what stands beside it
abbrev enabled_inside : Written
enabled_inside = written_of (procedure (kinds []) (kinds (Ordinal ∷ Ordinal ∷ [])) [] []) (
    Marked 0 (Block (Catch 0 (AndArm (OnUnwind ∷ []) 0 0 (Assign (Local 1) NoSuffix (Number 1)) NoArms)) (stmts (Marked 1 (Block
    (Catch 1 (AndArm (OnAny ∷ []) 0 0 Null NoArms)) (stmts (Marked 2 (Assign (Local 1) NoSuffix (Call (OwnProcedure 1) [] (exprs (local 0 ∷ [])) 1
    (Catch 2 (AndArm (OnOwn 0 ∷ []) 0 0 Null NoArms)))) ∷ [])) NoExits) ∷ [])) NoExits))

enabled_inside_code : enabled_inside.code ≡
    at 0 0 (i.LoadL 0 1)
    ∷ at 5 1 (i.Call 1)
    ∷ at 10 1 (i.StoreL 1 1)
    ∷ at 15 0 i.Return
    ∷ at 16 0 (i.Lit 1)
    ∷ at 19 1 (i.StoreL 1 1)
    ∷ at 24 0 i.ArmEnd
    ∷ at 25 0 i.ArmEnd
    ∷ at 26 0 i.ArmEnd
    ∷ []
unfolding differ words_in words_in_all words_before join point_of hidden hidden_expr hidden_exprs hidden_suffixes hidden_operations hidden_interval hidden_phrase hidden_arms hidden_stmts hidden_targets hidden_cases hidden_tests hidden_exits hidden_loop hidden_finish hidden_condition words_of words_given last_words
enabled_inside_code = refl

enabled_inside_phrases : enabled_inside.done ≡ (phrase 0 15 (arm (l.Unwind ∷ []) 0 0 16 25 ∷ []) ∷ phrase 0 15 (arm (l.Any ∷ []) 0 0 25 26 ∷ [])
    ∷ phrase 5 10 (arm (l.Own 0 ∷ []) 0 0 26 27 ∷ []) ∷ [])
unfolding differ words_in words_in_all words_before join point_of hidden hidden_expr hidden_exprs hidden_suffixes hidden_operations hidden_interval hidden_phrase hidden_arms hidden_stmts hidden_targets hidden_cases hidden_tests hidden_exits hidden_loop hidden_finish hidden_condition words_of words_given last_words
enabled_inside_phrases = refl

-- in a procedure of x with results n and s: x ← G[x ! BoundsFault => RETURN[s: "..", n: 5]]; RETURN[x, ".."]
-- n is in slot 1, s in slots 2 and 3; out of the arm it is LeaveReturn
abbrev returned : Written
returned = written_of (procedure (kinds []) (kinds (Ordinal ∷ Ordinal ∷ Texts ∷ [])) [] []) (
    plain_block (Marked 0 (Assign (Local 0) NoSuffix (Call (OwnProcedure 1) [] (exprs (local 0 ∷ [])) 1
    (Catch 0 (AndArm (OnBounds ∷ []) 0 0 (ReturnWith 1 1 (1 ∷ 0 ∷ []) (exprs (Literal 0 ∷ Number 5 ∷ []))) NoArms))))
    ∷ ReturnWith 0 1 [] (exprs (local 0 ∷ Literal 0 ∷ [])) ∷ []))

returned_code : returned.code ≡
    at 0 0 (i.LoadL 0 1)
    ∷ at 5 1 (i.Call 1)
    ∷ at 10 1 (i.StoreL 0 1)
    ∷ at 15 0 (i.LoadL 0 1)
    ∷ at 20 1 (i.Str 1)
    ∷ at 23 3 (i.StoreL 1 3)
    ∷ at 28 0 i.Return
    ∷ at 29 0 i.Return
    ∷ at 30 0 (i.Str 1)
    ∷ at 33 2 (i.Lit 5)
    ∷ at 36 3 (i.Roll 2 1)
    ∷ at 41 3 (i.StoreL 1 3)
    ∷ at 46 0 (i.LeaveReturn 1)
    ∷ at 49 0 i.ArmEnd
    ∷ []
unfolding differ words_in words_in_all words_before join point_of hidden hidden_expr hidden_exprs hidden_suffixes hidden_operations hidden_interval hidden_phrase hidden_arms hidden_stmts hidden_targets hidden_cases hidden_tests hidden_exits hidden_loop hidden_finish hidden_condition words_of words_given last_words
returned_code = refl

returned_phrases : returned.done ≡ (phrase 5 10 (arm (l.BoundsFault ∷ []) 0 0 30 50 ∷ []) ∷ [])
unfolding differ words_in words_in_all words_before join point_of hidden hidden_expr hidden_exprs hidden_suffixes hidden_operations hidden_interval hidden_phrase hidden_arms hidden_stmts hidden_targets hidden_cases hidden_tests hidden_exits hidden_loop hidden_finish hidden_condition words_of words_given last_words
returned_phrases = refl

-- I.F[3]; x ← SIGNAL J.S[4 ! J.S => NULL]; ERROR Bad; ERROR BoundsFault; ERROR ZeroDivisor
-- item 3 of import 0 is link 0; item 1 of import 1 is link 1
abbrev through_links : Written
through_links = written_of (with_imports (import (3 ∷ []) ∷ import (1 ∷ []) ∷ []) (kinds []) (kinds (Ordinal ∷ Ordinal ∷ [])) [] []) (
    plain_block (Perform (Call (LinkedProcedure 0 3) [] (exprs (Number 3 ∷ [])) 0 NoPhrase)
    ∷ Marked 0 (Assign (Local 0) NoSuffix (Raise (LinkedSignal 1 1) [] (exprs (Number 4 ∷ [])) 1 (Catch 0 (AndArm (OnLinked 1 1
    ∷ []) 0 0 Null NoArms))))
    ∷ Perform (Raise (OwnSignal 1) [] NoExprs 0 NoPhrase) ∷ Perform (Raise TheBoundsFault [] NoExprs 0 NoPhrase)
    ∷ Perform (Raise TheZeroDivisor [] NoExprs 0 NoPhrase) ∷ []))

through_links_code : through_links.code ≡
    at 0 0 (i.Lit 3)
    ∷ at 3 1 (i.CallLink 0)
    ∷ at 8 0 (i.Lit 4)
    ∷ at 11 1 (i.RaiseLink 1)
    ∷ at 16 1 (i.StoreL 0 1)
    ∷ at 21 0 (i.Raise 1)
    ∷ at 26 0 (i.RaiseHost 0)
    ∷ at 28 0 (i.RaiseHost 1)
    ∷ at 30 0 i.Return
    ∷ at 31 0 i.ArmEnd
    ∷ []
unfolding differ words_in words_in_all words_before join point_of hidden hidden_expr hidden_exprs hidden_suffixes hidden_operations hidden_interval hidden_phrase hidden_arms hidden_stmts hidden_targets hidden_cases hidden_tests hidden_exits hidden_loop hidden_finish hidden_condition words_of words_given last_words
through_links_code = refl

through_links_phrases : through_links.done ≡ (phrase 11 16 (arm (l.Link 1 ∷ []) 0 0 31 32 ∷ []) ∷ [])
unfolding differ words_in words_in_all words_before join point_of hidden hidden_expr hidden_exprs hidden_suffixes hidden_operations hidden_interval hidden_phrase hidden_arms hidden_stmts hidden_targets hidden_cases hidden_tests hidden_exits hidden_loop hidden_finish hidden_condition words_of words_given last_words
through_links_phrases = refl

-- SELECT G[x ! ANY => SELECT y FROM 1 => NULL ENDCASE] FROM 2 => NULL ENDCASE
-- the SELECT of the arm holds its selector in a slot of its own, and so its raiser can go on
abbrev held_in_an_arm : Written
held_in_an_arm = written_of (procedure (kinds []) (kinds (Ordinal ∷ Ordinal ∷ [])) [] []) (
    Marked 0 (Select (Call (OwnProcedure 1) [] (exprs (local 0 ∷ [])) 1 (Catch 0 (AndArm (OnAny ∷ []) 0 0
    (Select (local 1) (AndCase (IfRelated Every Signed Equal (Number 1) NoTests) Null (Otherwise Null))) NoArms)))
    (AndCase (IfRelated Every Signed Equal (Number 2) NoTests) Null (Otherwise Null))))

held_in_an_arm_code : held_in_an_arm.code ≡
    at 0 0 (i.LoadL 0 1)
    ∷ at 5 1 (i.Call 1)
    ∷ at 10 1 (i.StoreL 18 1)
    ∷ at 15 0 (i.LoadL 18 1)
    ∷ at 20 1 (i.Lit 2)
    ∷ at 23 2 i.Eq
    ∷ at 24 1 (i.JumpIfNot 29)
    ∷ at 29 0 i.Return
    ∷ at 30 0 (i.LoadL 1 1)
    ∷ at 35 1 (i.StoreL 19 1)
    ∷ at 40 0 (i.LoadL 19 1)
    ∷ at 45 1 (i.Lit 1)
    ∷ at 48 2 i.Eq
    ∷ at 49 1 (i.JumpIfNot 54)
    ∷ at 54 0 i.ArmEnd
    ∷ []
unfolding differ words_in words_in_all words_before join point_of hidden hidden_expr hidden_exprs hidden_suffixes hidden_operations hidden_interval hidden_phrase hidden_arms hidden_stmts hidden_targets hidden_cases hidden_tests hidden_exits hidden_loop hidden_finish hidden_condition words_of words_given last_words
held_in_an_arm_code = refl

held_in_an_arm_phrases : held_in_an_arm.done ≡ (phrase 5 10 (arm (l.Any ∷ []) 0 0 30 55 ∷ []) ∷ [])
unfolding differ words_in words_in_all words_before join point_of hidden hidden_expr hidden_exprs hidden_suffixes hidden_operations hidden_interval hidden_phrase hidden_arms hidden_stmts hidden_targets hidden_cases hidden_tests hidden_exits hidden_loop hidden_finish hidden_condition words_of words_given last_words
held_in_an_arm_phrases = refl
