-- The code that is written of loops, labels and cases.
use Rattle.std.specs.Prelude.{◌≡◌, [], false, refl, true, ◌∷◌}
use Rattle.code_rules.proofs.Made.{at, bases, global, kinds, local, plain_block, procedure, stmts}
use Rattle.mesa_types.specs.Counts.{hidden, hidden_arms, hidden_cases, hidden_condition, hidden_exits, hidden_expr, hidden_exprs, hidden_finish, hidden_interval, hidden_loop, hidden_operations, hidden_phrase, hidden_stmts, hidden_suffixes, hidden_targets, hidden_tests, last_words, words_given, words_of}
use Rattle.mesa_types.specs.Operators.{differ}
use Rattle.mesa_types.specs.Shapes.{join, words_before, words_in, words_in_all}
use Rattle.mesa_types.specs.Typed.{Always, AndCase, AndExit, Assign, Between, Block, Endless, Finished, For, If, IfRelated, IfWithin, Jump, LoopOf, Marked, NoExits, NoFinish, NoPhrase, NoSuffix, NoTests, Null, Number, Ordinal, Otherwise, Relate, Repeat, Select, Texts, Until, Variable, While, point_of}
use Rattle.mesa_base.specs.declared.relation.Relation.TheVariants.{Equal, Less, NotEqual}
use Rattle.mesa_types.specs.declared.typed_parts.Base.TheVariants.{Signed, Unsigned}
use Rattle.mesa_types.specs.declared.typed_parts.Given.TheVariants.{GivenTo, NoVariable}
use Rattle.mesa_types.specs.declared.typed_parts.Goal.TheVariants.{PastStatement, ToLabel}
use Rattle.mesa_types.specs.declared.typed_parts.Home.TheVariants.{Local}
use Rattle.mesa_types.specs.declared.typed_parts.Range.TheVariants.{Every, From}
use Rattle.code_forms.specs.declared.instruction.Instruction.TheVariants as i
use Rattle.code_blocks.specs.Regions.{Written}
use Rattle.code_blocks.proofs.Written.{written_of}

-- WHILE a < b DO IF g THEN EXIT ELSE LOOP; a ← 1 ENDLOOP: the loop is statement 0, its body statement 1
abbrev repeated : Written
repeated = written_of (procedure (kinds (Ordinal ∷ [])) (kinds (Ordinal ∷ Ordinal ∷ [])) [] []) (
    Marked 0 (Repeat Endless (LoopOf (While (Relate Signed Less (local 0) (local 1)))
    (Marked 1 (plain_block (If (global 0) (Jump 0 (PastStatement 0)) (Jump 0 (PastStatement 1)) ∷ Assign (Local 0) NoSuffix (Number 1)
    ∷ []))) NoExits NoFinish)))

repeated_code : repeated.code ≡
    at 0 0 (i.LoadL 0 1)
    ∷ at 5 1 (i.LoadL 1 1)
    ∷ at 10 2 i.LessI
    ∷ at 11 1 (i.JumpIfNot 54)
    ∷ at 16 0 (i.LoadG 0 1)
    ∷ at 21 1 (i.JumpIfNot 36)
    ∷ at 26 0 (i.Jump 54)
    ∷ at 31 0 (i.Jump 41)
    ∷ at 36 0 (i.Jump 49)
    ∷ at 41 0 (i.Lit 1)
    ∷ at 44 1 (i.StoreL 0 1)
    ∷ at 49 0 (i.JumpBack 0)
    ∷ at 54 0 i.Return
    ∷ []
unfolding differ words_in words_in_all words_before join point_of hidden hidden_expr hidden_exprs hidden_suffixes hidden_operations hidden_interval hidden_phrase hidden_arms hidden_stmts hidden_targets hidden_cases hidden_tests hidden_exits hidden_loop hidden_finish hidden_condition words_of words_given last_words
repeated_code = refl

-- UNTIL b DO GOTO l REPEAT l => a ← 1; FINISHED => a ← 2 ENDLOOP
abbrev labelled : Written
labelled = written_of (procedure (kinds []) (kinds (Ordinal ∷ Ordinal ∷ [])) [] []) (
    Marked 0 (Repeat Endless (LoopOf (Until (local 1)) (Marked 1 (plain_block (Jump 0 (ToLabel 0) ∷ [])))
    (AndExit (0 ∷ []) (Assign (Local 0) NoSuffix (Number 1)) NoExits) (Finished (Assign (Local 0) NoSuffix (Number 2))))))

labelled_code : labelled.code ≡
    at 0 0 (i.LoadL 1 1)
    ∷ at 5 1 (i.JumpIf 20)
    ∷ at 10 0 (i.Jump 33)
    ∷ at 15 0 (i.JumpBack 0)
    ∷ at 20 0 (i.Lit 2)
    ∷ at 23 1 (i.StoreL 0 1)
    ∷ at 28 0 (i.Jump 41)
    ∷ at 33 0 (i.Lit 1)
    ∷ at 36 1 (i.StoreL 0 1)
    ∷ at 41 0 i.Return
    ∷ []
unfolding differ words_in words_in_all words_before join point_of hidden hidden_expr hidden_exprs hidden_suffixes hidden_operations hidden_interval hidden_phrase hidden_arms hidden_stmts hidden_targets hidden_cases hidden_tests hidden_exits hidden_loop hidden_finish hidden_condition words_of words_given last_words
labelled_code = refl

-- DO GOTO l REPEAT l => NULL; FINISHED => a ← 2 ENDLOOP: the control never ends it, so there is no code for its FINISHED
abbrev endless : Written
endless = written_of (procedure (kinds []) (kinds (Ordinal ∷ Ordinal ∷ [])) [] []) (
    Marked 0 (Repeat Endless (LoopOf Always (Marked 1 (plain_block (Jump 0 (ToLabel 0) ∷ []))) (AndExit (0 ∷ []) Null NoExits)
    (Finished (Assign (Local 0) NoSuffix (Number 2))))))

endless_code : endless.code ≡
    at 0 0 (i.Jump 10)
    ∷ at 5 0 (i.JumpBack 0)
    ∷ at 10 0 i.Return
    ∷ []
unfolding differ words_in words_in_all words_before join point_of hidden hidden_expr hidden_exprs hidden_suffixes hidden_operations hidden_interval hidden_phrase hidden_arms hidden_stmts hidden_targets hidden_cases hidden_tests hidden_exits hidden_loop hidden_finish hidden_condition words_of words_given last_words
endless_code = refl

-- FOR i IN [0..65535] DO ENDLOOP, over all of CARDINAL: its hidden words are in slots 17 to 19
abbrev over_all : Written
over_all = written_of (procedure (kinds []) (kinds (Ordinal ∷ [])) [] []) (
    Marked 0 (For (GivenTo (Local 0) Every) false Unsigned (Between (Number 0) false (Number 65535) false)
    (LoopOf Always (Marked 1 (plain_block [])) NoExits NoFinish)))

over_all_code : over_all.code ≡
    at 0 0 (i.Lit 0)
    ∷ at 3 1 (i.Lit 65535)
    ∷ at 6 2 (i.StoreL 17 2)
    ∷ at 11 0 (i.LoadL 18 1)
    ∷ at 16 1 (i.LoadL 17 1)
    ∷ at 21 2 i.LessC
    ∷ at 22 1 i.Not
    ∷ at 23 1 (i.StoreL 19 1)
    ∷ at 28 0 (i.LoadL 19 1)
    ∷ at 33 1 (i.JumpIfNot 79)
    ∷ at 38 0 (i.LoadL 17 1)
    ∷ at 43 1 (i.StoreL 0 1)
    ∷ at 48 0 (i.LoadL 17 2)
    ∷ at 53 2 i.Eq
    ∷ at 54 1 i.Not
    ∷ at 55 1 (i.StoreL 19 1)
    ∷ at 60 0 (i.LoadL 17 1)
    ∷ at 65 1 (i.Lit 1)
    ∷ at 68 2 i.Add
    ∷ at 69 1 (i.StoreL 17 1)
    ∷ at 74 0 (i.JumpBack 28)
    ∷ at 79 0 i.Return
    ∷ []
unfolding differ words_in words_in_all words_before join point_of hidden hidden_expr hidden_exprs hidden_suffixes hidden_operations hidden_interval hidden_phrase hidden_arms hidden_stmts hidden_targets hidden_cases hidden_tests hidden_exits hidden_loop hidden_finish hidden_condition words_of words_given last_words
over_all_code = refl

-- FOR i DECREASING IN (1..a) WHILE b DO THROUGH [0..3) DO a ← i ENDLOOP ENDLOOP: the inner loop has three further slots
abbrev downward : Written
downward = written_of (procedure (kinds []) (kinds (Ordinal ∷ Ordinal ∷ Ordinal ∷ [])) [] []) (
    Marked 0 (For (GivenTo (Local 0) (From Signed 0 9)) true Signed (Between (Number 1) true (local 1) true) (LoopOf (While (local 2))
    (Marked 1 (plain_block (Marked 2 (For NoVariable false Signed (Between (Number 0) false (Number 3) true) (LoopOf Always
    (Marked 3 (plain_block (Assign (Local 1) NoSuffix (local 0) ∷ []))) NoExits NoFinish)) ∷ []))) NoExits NoFinish)))

downward_code : downward.code ≡
    at 0 0 (i.Lit 1)
    ∷ at 3 1 (i.LoadL 1 1)
    ∷ at 8 2 (i.StoreL 19 2)
    ∷ at 13 0 (i.LoadL 19 2)
    ∷ at 18 2 i.LessI
    ∷ at 19 1 (i.LoadL 20 1)
    ∷ at 24 2 (i.LoadL 19 1)
    ∷ at 29 3 i.Sub
    ∷ at 30 2 (i.Lit 1)
    ∷ at 33 3 i.Eq
    ∷ at 34 2 i.Not
    ∷ at 35 2 i.Mul
    ∷ at 36 1 (i.StoreL 21 1)
    ∷ at 41 0 (i.LoadL 19 1)
    ∷ at 46 1 (i.Lit 1)
    ∷ at 49 2 i.Add
    ∷ at 50 1 (i.StoreL 19 1)
    ∷ at 55 0 (i.LoadL 20 1)
    ∷ at 60 1 (i.Lit 1)
    ∷ at 63 2 i.Sub
    ∷ at 64 1 (i.StoreL 20 1)
    ∷ at 69 0 (i.LoadL 21 1)
    ∷ at 74 1 (i.JumpIfNot 222)
    ∷ at 79 0 (i.LoadL 20 1)
    ∷ at 84 1 (i.CheckI 0 9)
    ∷ at 89 1 (i.StoreL 0 1)
    ∷ at 94 0 (i.LoadL 2 1)
    ∷ at 99 1 (i.JumpIfNot 222)
    ∷ at 104 0 (i.Lit 0)
    ∷ at 107 1 (i.Lit 3)
    ∷ at 110 2 (i.StoreL 22 2)
    ∷ at 115 0 (i.LoadL 22 2)
    ∷ at 120 2 i.LessI
    ∷ at 121 1 (i.StoreL 24 1)
    ∷ at 126 0 (i.LoadL 23 1)
    ∷ at 131 1 (i.Lit 1)
    ∷ at 134 2 i.Sub
    ∷ at 135 1 (i.StoreL 23 1)
    ∷ at 140 0 (i.LoadL 24 1)
    ∷ at 145 1 (i.JumpIfNot 191)
    ∷ at 150 0 (i.LoadL 0 1)
    ∷ at 155 1 (i.StoreL 1 1)
    ∷ at 160 0 (i.LoadL 22 2)
    ∷ at 165 2 i.Eq
    ∷ at 166 1 i.Not
    ∷ at 167 1 (i.StoreL 24 1)
    ∷ at 172 0 (i.LoadL 22 1)
    ∷ at 177 1 (i.Lit 1)
    ∷ at 180 2 i.Add
    ∷ at 181 1 (i.StoreL 22 1)
    ∷ at 186 0 (i.JumpBack 140)
    ∷ at 191 0 (i.LoadL 19 2)
    ∷ at 196 2 i.Eq
    ∷ at 197 1 i.Not
    ∷ at 198 1 (i.StoreL 21 1)
    ∷ at 203 0 (i.LoadL 20 1)
    ∷ at 208 1 (i.Lit 1)
    ∷ at 211 2 i.Sub
    ∷ at 212 1 (i.StoreL 20 1)
    ∷ at 217 0 (i.JumpBack 69)
    ∷ at 222 0 i.Return
    ∷ []
unfolding differ words_in words_in_all words_before join point_of hidden hidden_expr hidden_exprs hidden_suffixes hidden_operations hidden_interval hidden_phrase hidden_arms hidden_stmts hidden_targets hidden_cases hidden_tests hidden_exits hidden_loop hidden_finish hidden_condition words_of words_given last_words
downward_code = refl

-- BEGIN IF a THEN GOTO l; b ← 1; EXITS l, k => b ← 2; h => b ← 3 END
abbrev left_by_a_label : Written
left_by_a_label = written_of (procedure (kinds []) (kinds (Ordinal ∷ Ordinal ∷ [])) [] []) (
    Block NoPhrase (stmts (If (local 0) (Jump 0 (ToLabel 4)) Null ∷ Assign (Local 1) NoSuffix (Number 1) ∷ []))
    (AndExit (4 ∷ 5 ∷ []) (Assign (Local 1) NoSuffix (Number 2)) (AndExit (6 ∷ []) (Assign (Local 1) NoSuffix (Number 3)) NoExits)))

left_by_a_label_code : left_by_a_label.code ≡
    at 0 0 (i.LoadL 0 1)
    ∷ at 5 1 (i.JumpIfNot 15)
    ∷ at 10 0 (i.Jump 28)
    ∷ at 15 0 (i.Lit 1)
    ∷ at 18 1 (i.StoreL 1 1)
    ∷ at 23 0 (i.Jump 49)
    ∷ at 28 0 (i.Lit 2)
    ∷ at 31 1 (i.StoreL 1 1)
    ∷ at 36 0 (i.Jump 49)
    ∷ at 41 0 (i.Lit 3)
    ∷ at 44 1 (i.StoreL 1 1)
    ∷ at 49 0 i.Return
    ∷ []
unfolding differ words_in words_in_all words_before join point_of hidden hidden_expr hidden_exprs hidden_suffixes hidden_operations hidden_interval hidden_phrase hidden_arms hidden_stmts hidden_targets hidden_cases hidden_tests hidden_exits hidden_loop hidden_finish hidden_condition words_of words_given last_words
left_by_a_label_code = refl

-- SELECT a FROM 1, IN [5..7) => b ← 1; < 3 => b ← 2 ENDCASE => b ← 3: the selector is held in slot 18, and checked in a test
abbrev cases : Written
cases = written_of (procedure (kinds []) (kinds (Ordinal ∷ Ordinal ∷ [])) [] []) (
    Select (local 0) (AndCase (IfRelated Every Signed Equal (Number 1) (IfWithin false (bases Signed Signed Signed) (Between (Number 5) false
    (Number 7) true) NoTests))
    (Assign (Local 1) NoSuffix (Number 1)) (AndCase (IfRelated (From Signed 0 9) Signed Less (Number 3) NoTests) (Assign (Local 1) NoSuffix
    (Number 2))
    (Otherwise (Assign (Local 1) NoSuffix (Number 3))))))

cases_code : cases.code ≡
    at 0 0 (i.LoadL 0 1)
    ∷ at 5 1 (i.StoreL 18 1)
    ∷ at 10 0 (i.LoadL 18 1)
    ∷ at 15 1 (i.Lit 1)
    ∷ at 18 2 i.Eq
    ∷ at 19 1 (i.JumpIf 69)
    ∷ at 24 0 (i.LoadL 18 1)
    ∷ at 29 1 (i.Lit 5)
    ∷ at 32 2 (i.Lit 7)
    ∷ at 35 3 (i.StoreL 2 3)
    ∷ at 40 0 (i.LoadL 2 1)
    ∷ at 45 1 (i.LoadL 3 1)
    ∷ at 50 2 i.LessI
    ∷ at 51 1 i.Not
    ∷ at 52 1 (i.LoadL 2 1)
    ∷ at 57 2 (i.LoadL 4 1)
    ∷ at 62 3 i.LessI
    ∷ at 63 2 i.Mul
    ∷ at 64 1 (i.JumpIfNot 82)
    ∷ at 69 0 (i.Lit 1)
    ∷ at 72 1 (i.StoreL 1 1)
    ∷ at 77 0 (i.Jump 122)
    ∷ at 82 0 (i.LoadL 18 1)
    ∷ at 87 1 (i.CheckI 0 9)
    ∷ at 92 1 (i.Lit 3)
    ∷ at 95 2 i.LessI
    ∷ at 96 1 (i.JumpIfNot 114)
    ∷ at 101 0 (i.Lit 2)
    ∷ at 104 1 (i.StoreL 1 1)
    ∷ at 109 0 (i.Jump 122)
    ∷ at 114 0 (i.Lit 3)
    ∷ at 117 1 (i.StoreL 1 1)
    ∷ at 122 0 i.Return
    ∷ []
unfolding differ words_in words_in_all words_before join point_of hidden hidden_expr hidden_exprs hidden_suffixes hidden_operations hidden_interval hidden_phrase hidden_arms hidden_stmts hidden_targets hidden_cases hidden_tests hidden_exits hidden_loop hidden_finish hidden_condition words_of words_given last_words
cases_code = refl

-- SELECT s FROM ENDCASE => a ← 1, for a STRING s that nothing tests; SELECT a FROM # 2 => a ← 1; NOT IN (1..3] => NULL ENDCASE
abbrev no_case : Written
no_case = written_of (procedure (kinds []) (kinds (Texts ∷ Ordinal ∷ [])) [] []) (
    plain_block (Select (Variable (Local 0) NoSuffix 2) (Otherwise (Assign (Local 1) NoSuffix (Number 1)))
    ∷ Select (local 1) (AndCase (IfRelated Every Signed NotEqual (Number 2) NoTests) (Assign (Local 1) NoSuffix (Number 1))
    (AndCase (IfWithin true (bases Signed Signed Signed) (Between (Number 1) true (Number 3) false) NoTests) Null (Otherwise Null))) ∷ []))

no_case_code : no_case.code ≡
    at 0 0 (i.LoadL 0 2)
    ∷ at 5 2 (i.Pop 2)
    ∷ at 8 0 (i.Lit 1)
    ∷ at 11 1 (i.StoreL 2 1)
    ∷ at 16 0 (i.LoadL 2 1)
    ∷ at 21 1 (i.StoreL 20 1)
    ∷ at 26 0 (i.LoadL 20 1)
    ∷ at 31 1 (i.Lit 2)
    ∷ at 34 2 i.Eq
    ∷ at 35 1 (i.JumpIf 53)
    ∷ at 40 0 (i.Lit 1)
    ∷ at 43 1 (i.StoreL 2 1)
    ∷ at 48 0 (i.Jump 98)
    ∷ at 53 0 (i.LoadL 20 1)
    ∷ at 58 1 (i.Lit 1)
    ∷ at 61 2 (i.Lit 3)
    ∷ at 64 3 (i.StoreL 3 3)
    ∷ at 69 0 (i.LoadL 4 1)
    ∷ at 74 1 (i.LoadL 3 1)
    ∷ at 79 2 i.LessI
    ∷ at 80 1 (i.LoadL 5 1)
    ∷ at 85 2 (i.LoadL 3 1)
    ∷ at 90 3 i.LessI
    ∷ at 91 2 i.Not
    ∷ at 92 2 i.Mul
    ∷ at 93 1 (i.JumpIf 98)
    ∷ at 98 0 i.Return
    ∷ []
unfolding differ words_in words_in_all words_before join point_of hidden hidden_expr hidden_exprs hidden_suffixes hidden_operations hidden_interval hidden_phrase hidden_arms hidden_stmts hidden_targets hidden_cases hidden_tests hidden_exits hidden_loop hidden_finish hidden_condition words_of words_given last_words
no_case_code = refl
