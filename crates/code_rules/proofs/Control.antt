-- The code of loops, labels and cases, each with its offsets, slots and depths.
use Rattle.std.specs.Prelude.{[], false, refl, true, ◌∷◌}
use Rattle.code_rules.proofs.Made.{at, bases, global, kinds, local, plain_block, procedure, stmts, ◌&◌}
use Rattle.code_rules.specs.CodeFor.{StmtCode, always, and_case, and_exit, and_statement, assign, block, bounds, count, falls, finished, if_else, jump, jumps, lies_last, lies_within, loop, marked, never, no_exits, no_finish, no_phrase, no_statements, no_test, null, number, on_relation, on_value, otherwise, related, related_last, relates, rounds, select, select_none, until, variable, while}
use Rattle.code_rules.specs.Reading.{Coded, Offset, at_body, no_more}
use Rattle.mesa_types.specs.Counts.{hidden, hidden_arms, hidden_cases, hidden_condition, hidden_exits, hidden_expr, hidden_exprs, hidden_finish, hidden_interval, hidden_loop, hidden_operations, hidden_phrase, hidden_stmts, hidden_suffixes, hidden_targets, hidden_tests, last_words, words_given, words_of}
use Rattle.mesa_types.specs.Operators.{differ}
use Rattle.mesa_types.specs.Shapes.{join, words_before, words_in, words_in_all}
use Rattle.mesa_types.specs.Typed.{Always, AndCase, AndExit, Assign, Between, Block, Endless, Finished, For, If, IfRelated, IfWithin, Jump, LoopOf, Marked, NoExits, NoFinish, NoPhrase, NoSuffix, NoTests, Null, Number, Ordinal, Otherwise, Relate, Repeat, Select, Texts, Until, Variable, While, point_of}
use Rattle.mesa_base.specs.declared.relation.Relation.TheVariants.{Equal, Less, NotEqual}
use Rattle.mesa_types.specs.declared.typed_parts.Base.TheVariants.{Signed, Unsigned}
use Rattle.mesa_types.specs.declared.typed_parts.Given.TheVariants.{GivenTo, NoVariable}
use Rattle.mesa_types.specs.declared.typed_parts.Goal.TheVariants.{PastStatement, ToLabel}
use Rattle.mesa_types.specs.declared.typed_parts.Home.TheVariants.{Local}
use Rattle.mesa_types.specs.declared.typed_parts.Range.TheVariants.{Every, From}
use Rattle.code_forms.specs.declared.instruction.Instruction.TheVariants as i

-- WHILE a < b DO IF g THEN EXIT ELSE LOOP; a ← 1 ENDLOOP: the loop is statement 0, its body statement 1
abbrev repeated : Coded
repeated = procedure (kinds (Ordinal ∷ [])) (kinds (Ordinal ∷ Ordinal ∷ [])) (
    at 0 0 (i.LoadL 0 1)
    ∷ at 5 1 (i.LoadL 1 1)
    ∷ at 10 2 i.LessI
    ∷ at 11 1 (i.JumpIfNot 54)
    ∷ at 16 0 (i.LoadG 0 1)
    ∷ at 21 1 (i.JumpIfNot 36)
    ∷ at 26 0 (i.Jump 54)
    ∷ at 31 0 (i.Jump 41)
    ∷ at 36 0 (i.Jump 49)
    ∷ at 41 0 (i.Lit 1)
    ∷ at 44 1 (i.StoreL 0 1)
    ∷ at 49 0 (i.JumpBack 0)
    ∷ at 54 0 i.Return
    ∷ []) []

repeated_stands : StmtCode repeated (at_body repeated) (
    Marked 0 (Repeat Endless (LoopOf (While (Relate Signed Less (local 0) (local 1)))
    (Marked 1 (plain_block (If (global 0) (Jump 0 (PastStatement 0)) (Jump 0 (PastStatement 1)) ∷ Assign (Local 0) NoSuffix (Number 1)
    ∷ []))) NoExits NoFinish))) 0 54
unfolding differ words_in words_in_all words_before join point_of hidden hidden_expr hidden_exprs hidden_suffixes hidden_operations hidden_interval hidden_phrase hidden_arms hidden_stmts hidden_targets hidden_cases hidden_tests hidden_exits hidden_loop hidden_finish hidden_condition words_of words_given last_words
repeated_stands =
    marked (loop (rounds [] 0 16 49 54 54 no_more
    (while (on_relation 5 10 (variable tt (refl & no_more)) (variable tt (refl & no_more)) (refl & refl & no_more)))
    (marked (block [] 49 49 no_phrase
    (and_statement 41
    (if_else 26 31 36 (on_value 21 (variable tt (refl & no_more)) (refl & no_more)) (jump (Offset 54) refl (refl & no_more)) (jumps
    (refl & no_more)) (jump (Offset 49) refl (refl & no_more)))
    (and_statement 49 (assign 44 tt (number (refl & no_more)) (refl & no_more)) no_statements))
    falls no_exits))
    (refl & no_more) (no_finish falls) no_exits))

-- UNTIL b DO GOTO l REPEAT l => a ← 1; FINISHED => a ← 2 ENDLOOP
abbrev labelled : Coded
labelled = procedure (kinds []) (kinds (Ordinal ∷ Ordinal ∷ [])) (
    at 0 0 (i.LoadL 1 1)
    ∷ at 5 1 (i.JumpIf 20)
    ∷ at 10 0 (i.Jump 33)
    ∷ at 15 0 (i.JumpBack 0)
    ∷ at 20 0 (i.Lit 2)
    ∷ at 23 1 (i.StoreL 0 1)
    ∷ at 28 0 (i.Jump 41)
    ∷ at 33 0 (i.Lit 1)
    ∷ at 36 1 (i.StoreL 0 1)
    ∷ at 41 0 i.Return
    ∷ []) []

labelled_stands : StmtCode labelled (at_body labelled) (
    Marked 0 (Repeat Endless (LoopOf (Until (local 1)) (Marked 1 (plain_block (Jump 0 (ToLabel 0) ∷ [])))
    (AndExit (0 ∷ []) (Assign (Local 0) NoSuffix (Number 1)) NoExits) (Finished (Assign (Local 0) NoSuffix (Number 2)))))) 0 41
unfolding differ words_in words_in_all words_before join point_of hidden hidden_expr hidden_exprs hidden_suffixes hidden_operations hidden_interval hidden_phrase hidden_arms hidden_stmts hidden_targets hidden_cases hidden_tests hidden_exits hidden_loop hidden_finish hidden_condition words_of words_given last_words
labelled_stands =
    marked (loop (rounds (33 ∷ []) 0 10 15 20 33 no_more
    (until (on_value 5 (variable tt (refl & no_more)) (refl & no_more)))
    (marked (block [] 15 15 no_phrase (and_statement 15 (jump (Offset 33) refl (refl & no_more)) no_statements) falls no_exits))
    (refl & no_more)
    (finished 28 (assign 23 tt (number (refl & no_more)) (refl & no_more)) (jumps (refl & no_more)))
    (and_exit 41 41 (assign 36 tt (number (refl & no_more)) (refl & no_more)) falls no_exits)))

-- DO GOTO l REPEAT l => NULL; FINISHED => a ← 2 ENDLOOP: the control never ends it, so there is no code for its FINISHED
abbrev endless : Coded
endless = procedure (kinds []) (kinds (Ordinal ∷ Ordinal ∷ [])) (
    at 0 0 (i.Jump 10)
    ∷ at 5 0 (i.JumpBack 0)
    ∷ at 10 0 i.Return
    ∷ []) []

endless_stands : StmtCode endless (at_body endless) (
    Marked 0 (Repeat Endless (LoopOf Always (Marked 1 (plain_block (Jump 0 (ToLabel 0) ∷ []))) (AndExit (0 ∷ []) Null NoExits)
    (Finished (Assign (Local 0) NoSuffix (Number 2)))))) 0 10
unfolding differ words_in words_in_all words_before join point_of hidden hidden_expr hidden_exprs hidden_suffixes hidden_operations hidden_interval hidden_phrase hidden_arms hidden_stmts hidden_targets hidden_cases hidden_tests hidden_exits hidden_loop hidden_finish hidden_condition words_of words_given last_words
endless_stands =
    marked (loop (rounds (10 ∷ []) 0 0 5 10 10 no_more always
    (marked (block [] 5 5 no_phrase (and_statement 5 (jump (Offset 10) refl (refl & no_more)) no_statements) falls no_exits))
    (refl & no_more) never (and_exit 10 10 null falls no_exits)))

-- FOR i IN [0..65535] DO ENDLOOP, over all of CARDINAL: its hidden words are in slots 17 to 19
abbrev over_all : Coded
over_all = procedure (kinds []) (kinds (Ordinal ∷ [])) (
    at 0 0 (i.Lit 0)
    ∷ at 3 1 (i.Lit 65535)
    ∷ at 6 2 (i.StoreL 17 2)
    ∷ at 11 0 (i.LoadL 18 1)
    ∷ at 16 1 (i.LoadL 17 1)
    ∷ at 21 2 i.LessC
    ∷ at 22 1 i.Not
    ∷ at 23 1 (i.StoreL 19 1)
    ∷ at 28 0 (i.LoadL 19 1)
    ∷ at 33 1 (i.JumpIfNot 79)
    ∷ at 38 0 (i.LoadL 17 1)
    ∷ at 43 1 (i.StoreL 0 1)
    ∷ at 48 0 (i.LoadL 17 2)
    ∷ at 53 2 i.Eq
    ∷ at 54 1 i.Not
    ∷ at 55 1 (i.StoreL 19 1)
    ∷ at 60 0 (i.LoadL 17 1)
    ∷ at 65 1 (i.Lit 1)
    ∷ at 68 2 i.Add
    ∷ at 69 1 (i.StoreL 17 1)
    ∷ at 74 0 (i.JumpBack 28)
    ∷ at 79 0 i.Return
    ∷ []) []

over_all_stands : StmtCode over_all (at_body over_all) (
    Marked 0 (For (GivenTo (Local 0) Every) false Unsigned (Between (Number 0) false (Number 65535) false)
    (LoopOf Always (Marked 1 (plain_block [])) NoExits NoFinish))) 0 79
unfolding differ words_in words_in_all words_before join point_of hidden hidden_expr hidden_exprs hidden_suffixes hidden_operations hidden_interval hidden_phrase hidden_arms hidden_stmts hidden_targets hidden_cases hidden_tests hidden_exits hidden_loop hidden_finish hidden_condition words_of words_given last_words
over_all_stands =
    marked (count 6 28 (bounds 3 (number (refl & no_more)) (number (refl & no_more))) (refl & refl & refl & refl & refl & refl & no_more)
    (rounds [] 48 48 48 79 79 (refl & refl & refl & refl & no_more) always (marked (block [] 48 48 no_phrase no_statements falls no_exits))
    (refl & refl & refl & refl & refl & refl & refl & refl & refl & no_more)
    (no_finish falls) no_exits))

-- FOR i DECREASING IN (1..a) WHILE b DO THROUGH [0..3) DO a ← i ENDLOOP ENDLOOP: the inner loop has three further slots
abbrev downward : Coded
downward = procedure (kinds []) (kinds (Ordinal ∷ Ordinal ∷ Ordinal ∷ [])) (
    at 0 0 (i.Lit 1)
    ∷ at 3 1 (i.LoadL 1 1)
    ∷ at 8 2 (i.StoreL 19 2)
    ∷ at 13 0 (i.LoadL 19 2)
    ∷ at 18 2 i.LessI
    ∷ at 19 1 (i.LoadL 20 1)
    ∷ at 24 2 (i.LoadL 19 1)
    ∷ at 29 3 i.Sub
    ∷ at 30 2 (i.Lit 1)
    ∷ at 33 3 i.Eq
    ∷ at 34 2 i.Not
    ∷ at 35 2 i.Mul
    ∷ at 36 1 (i.StoreL 21 1)
    ∷ at 41 0 (i.LoadL 19 1)
    ∷ at 46 1 (i.Lit 1)
    ∷ at 49 2 i.Add
    ∷ at 50 1 (i.StoreL 19 1)
    ∷ at 55 0 (i.LoadL 20 1)
    ∷ at 60 1 (i.Lit 1)
    ∷ at 63 2 i.Sub
    ∷ at 64 1 (i.StoreL 20 1)
    ∷ at 69 0 (i.LoadL 21 1)
    ∷ at 74 1 (i.JumpIfNot 222)
    ∷ at 79 0 (i.LoadL 20 1)
    ∷ at 84 1 (i.CheckI 0 9)
    ∷ at 89 1 (i.StoreL 0 1)
    ∷ at 94 0 (i.LoadL 2 1)
    ∷ at 99 1 (i.JumpIfNot 222)
    ∷ at 104 0 (i.Lit 0)
    ∷ at 107 1 (i.Lit 3)
    ∷ at 110 2 (i.StoreL 22 2)
    ∷ at 115 0 (i.LoadL 22 2)
    ∷ at 120 2 i.LessI
    ∷ at 121 1 (i.StoreL 24 1)
    ∷ at 126 0 (i.LoadL 23 1)
    ∷ at 131 1 (i.Lit 1)
    ∷ at 134 2 i.Sub
    ∷ at 135 1 (i.StoreL 23 1)
    ∷ at 140 0 (i.LoadL 24 1)
    ∷ at 145 1 (i.JumpIfNot 191)
    ∷ at 150 0 (i.LoadL 0 1)
    ∷ at 155 1 (i.StoreL 1 1)
    ∷ at 160 0 (i.LoadL 22 2)
    ∷ at 165 2 i.Eq
    ∷ at 166 1 i.Not
    ∷ at 167 1 (i.StoreL 24 1)
    ∷ at 172 0 (i.LoadL 22 1)
    ∷ at 177 1 (i.Lit 1)
    ∷ at 180 2 i.Add
    ∷ at 181 1 (i.StoreL 22 1)
    ∷ at 186 0 (i.JumpBack 140)
    ∷ at 191 0 (i.LoadL 19 2)
    ∷ at 196 2 i.Eq
    ∷ at 197 1 i.Not
    ∷ at 198 1 (i.StoreL 21 1)
    ∷ at 203 0 (i.LoadL 20 1)
    ∷ at 208 1 (i.Lit 1)
    ∷ at 211 2 i.Sub
    ∷ at 212 1 (i.StoreL 20 1)
    ∷ at 217 0 (i.JumpBack 69)
    ∷ at 222 0 i.Return
    ∷ []) []

downward_stands : StmtCode downward (at_body downward) (
    Marked 0 (For (GivenTo (Local 0) (From Signed 0 9)) true Signed (Between (Number 1) true (local 1) true) (LoopOf (While (local 2))
    (Marked 1 (plain_block (Marked 2 (For NoVariable false Signed (Between (Number 0) false (Number 3) true) (LoopOf Always
    (Marked 3 (plain_block (Assign (Local 1) NoSuffix (local 0) ∷ []))) NoExits NoFinish)) ∷ []))) NoExits NoFinish))) 0 222
unfolding differ words_in words_in_all words_before join point_of hidden hidden_expr hidden_exprs hidden_suffixes hidden_operations hidden_interval hidden_phrase hidden_arms hidden_stmts hidden_targets hidden_cases hidden_tests hidden_exits hidden_loop hidden_finish hidden_condition words_of words_given last_words
downward_stands =
    marked (count 8 69 (bounds 3 (number (refl & no_more)) (variable tt (refl & no_more)))
    (refl & refl & refl & refl & refl & refl & refl & refl & refl & refl & refl & refl & refl & refl & refl & refl & refl & refl & refl & no_more)
    (rounds [] 94 104 191 222 222 (refl & refl & refl & refl & refl & no_more) (while (on_value 99 (variable tt (refl & no_more)) (refl & no_more)))
    (marked (block [] 191 191 no_phrase
    (and_statement 191
    (marked (count 110 140 (bounds 107 (number (refl & no_more)) (number (refl & no_more)))
    (refl & refl & refl & refl & refl & refl & refl & refl & no_more)
    (rounds [] 150 150 160 191 191 (refl & refl & no_more) always
    (marked (block [] 160 160 no_phrase (and_statement 160 (assign 155 tt (variable tt (refl & no_more))
    (refl & no_more)) no_statements) falls no_exits))
    (refl & refl & refl & refl & refl & refl & refl & refl & refl & no_more) (no_finish falls) no_exits)))
    no_statements)
    falls no_exits))
    (refl & refl & refl & refl & refl & refl & refl & refl & refl & no_more) (no_finish falls) no_exits))

-- BEGIN IF a THEN GOTO l; b ← 1; EXITS l, k => b ← 2; h => b ← 3 END
abbrev left_by_a_label : Coded
left_by_a_label = procedure (kinds []) (kinds (Ordinal ∷ Ordinal ∷ [])) (
    at 0 0 (i.LoadL 0 1)
    ∷ at 5 1 (i.JumpIfNot 15)
    ∷ at 10 0 (i.Jump 28)
    ∷ at 15 0 (i.Lit 1)
    ∷ at 18 1 (i.StoreL 1 1)
    ∷ at 23 0 (i.Jump 49)
    ∷ at 28 0 (i.Lit 2)
    ∷ at 31 1 (i.StoreL 1 1)
    ∷ at 36 0 (i.Jump 49)
    ∷ at 41 0 (i.Lit 3)
    ∷ at 44 1 (i.StoreL 1 1)
    ∷ at 49 0 i.Return
    ∷ []) []

left_by_a_label_stands : StmtCode left_by_a_label (at_body left_by_a_label) (
    Block NoPhrase (stmts (If (local 0) (Jump 0 (ToLabel 4)) Null ∷ Assign (Local 1) NoSuffix (Number 1) ∷ []))
    (AndExit (4 ∷ 5 ∷ []) (Assign (Local 1) NoSuffix (Number 2)) (AndExit (6 ∷ []) (Assign (Local 1) NoSuffix (Number 3)) NoExits))) 0 49
unfolding differ words_in words_in_all words_before join point_of hidden hidden_expr hidden_exprs hidden_suffixes hidden_operations hidden_interval hidden_phrase hidden_arms hidden_stmts hidden_targets hidden_cases hidden_tests hidden_exits hidden_loop hidden_finish hidden_condition words_of words_given last_words
left_by_a_label_stands =
    block (28 ∷ 41 ∷ []) 23 28 no_phrase
    (and_statement 15 (if_else 10 15 15 (on_value 5 (variable tt (refl & no_more)) (refl & no_more)) (jump (Offset 28) refl
    (refl & no_more)) falls null)
    (and_statement 23 (assign 18 tt (number (refl & no_more)) (refl & no_more)) no_statements))
    (jumps (refl & no_more))
    (and_exit 36 41 (assign 31 tt (number (refl & no_more)) (refl & no_more)) (jumps (refl & no_more))
    (and_exit 49 49 (assign 44 tt (number (refl & no_more)) (refl & no_more)) falls no_exits))

-- SELECT a FROM 1, IN [5..7) => b ← 1; < 3 => b ← 2 ENDCASE => b ← 3: the selector is held in slot 18, and checked in a test
abbrev cases : Coded
cases = procedure (kinds []) (kinds (Ordinal ∷ Ordinal ∷ [])) (
    at 0 0 (i.LoadL 0 1)
    ∷ at 5 1 (i.StoreL 18 1)
    ∷ at 10 0 (i.LoadL 18 1)
    ∷ at 15 1 (i.Lit 1)
    ∷ at 18 2 i.Eq
    ∷ at 19 1 (i.JumpIf 69)
    ∷ at 24 0 (i.LoadL 18 1)
    ∷ at 29 1 (i.Lit 5)
    ∷ at 32 2 (i.Lit 7)
    ∷ at 35 3 (i.StoreL 2 3)
    ∷ at 40 0 (i.LoadL 2 1)
    ∷ at 45 1 (i.LoadL 3 1)
    ∷ at 50 2 i.LessI
    ∷ at 51 1 i.Not
    ∷ at 52 1 (i.LoadL 2 1)
    ∷ at 57 2 (i.LoadL 4 1)
    ∷ at 62 3 i.LessI
    ∷ at 63 2 i.Mul
    ∷ at 64 1 (i.JumpIfNot 82)
    ∷ at 69 0 (i.Lit 1)
    ∷ at 72 1 (i.StoreL 1 1)
    ∷ at 77 0 (i.Jump 127)
    ∷ at 82 0 (i.LoadL 18 1)
    ∷ at 87 1 (i.CheckI 0 9)
    ∷ at 92 1 (i.Lit 3)
    ∷ at 95 2 i.LessI
    ∷ at 96 1 (i.JumpIf 106)
    ∷ at 101 0 (i.Jump 119)
    ∷ at 106 0 (i.Lit 2)
    ∷ at 109 1 (i.StoreL 1 1)
    ∷ at 114 0 (i.Jump 127)
    ∷ at 119 0 (i.Lit 3)
    ∷ at 122 1 (i.StoreL 1 1)
    ∷ at 127 0 i.Return
    ∷ []) []

cases_stands : StmtCode cases (at_body cases) (
    Select (local 0) (AndCase (IfRelated Every Signed Equal (Number 1) (IfWithin false (bases Signed Signed Signed) (Between (Number 5) false
    (Number 7) true) NoTests))
    (Assign (Local 1) NoSuffix (Number 1)) (AndCase (IfRelated (From Signed 0 9) Signed Less (Number 3) NoTests) (Assign (Local 1) NoSuffix
    (Number 2))
    (Otherwise (Assign (Local 1) NoSuffix (Number 3)))))) 0 127
unfolding differ words_in words_in_all words_before join point_of hidden hidden_expr hidden_exprs hidden_suffixes hidden_operations hidden_interval hidden_phrase hidden_arms hidden_stmts hidden_targets hidden_cases hidden_tests hidden_exits hidden_loop hidden_finish hidden_condition words_of words_given last_words
cases_stands =
    select 5 10 (variable tt (refl & no_more)) (refl & no_more)
    (and_case 69 77 82
    (related 24 (relates 15 18 (refl & no_more) (number (refl & no_more)) (refl & refl & no_more)) (lies_last (lies_within 29 35 (refl & no_more)
    (bounds 32 (number (refl & no_more)) (number (refl & no_more))) (refl & refl & refl & refl & refl & refl & refl & refl & refl & refl & no_more))))
    (assign 72 tt (number (refl & no_more)) (refl & no_more)) (jumps (refl & no_more))
    (and_case 106 114 119 (related 101 (relates 92 95 (refl & refl & no_more) (number (refl & no_more)) (refl & refl & no_more)) (no_test
    (refl & no_more)))
    (assign 109 tt (number (refl & no_more)) (refl & no_more)) (jumps (refl & no_more))
    (otherwise (assign 122 tt (number (refl & no_more)) (refl & no_more)))))

-- SELECT s FROM ENDCASE => a ← 1, for a STRING s that nothing tests; SELECT a FROM # 2 => a ← 1; NOT IN (1..3] => NULL ENDCASE
abbrev no_case : Coded
no_case = procedure (kinds []) (kinds (Texts ∷ Ordinal ∷ [])) (
    at 0 0 (i.LoadL 0 2)
    ∷ at 5 2 (i.Pop 2)
    ∷ at 8 0 (i.Lit 1)
    ∷ at 11 1 (i.StoreL 2 1)
    ∷ at 16 0 (i.LoadL 2 1)
    ∷ at 21 1 (i.StoreL 20 1)
    ∷ at 26 0 (i.LoadL 20 1)
    ∷ at 31 1 (i.Lit 2)
    ∷ at 34 2 i.Eq
    ∷ at 35 1 (i.JumpIf 53)
    ∷ at 40 0 (i.Lit 1)
    ∷ at 43 1 (i.StoreL 2 1)
    ∷ at 48 0 (i.Jump 98)
    ∷ at 53 0 (i.LoadL 20 1)
    ∷ at 58 1 (i.Lit 1)
    ∷ at 61 2 (i.Lit 3)
    ∷ at 64 3 (i.StoreL 3 3)
    ∷ at 69 0 (i.LoadL 4 1)
    ∷ at 74 1 (i.LoadL 3 1)
    ∷ at 79 2 i.LessI
    ∷ at 80 1 (i.LoadL 5 1)
    ∷ at 85 2 (i.LoadL 3 1)
    ∷ at 90 3 i.LessI
    ∷ at 91 2 i.Not
    ∷ at 92 2 i.Mul
    ∷ at 93 1 (i.JumpIf 98)
    ∷ at 98 0 i.Return
    ∷ []) []

no_case_stands : StmtCode no_case (at_body no_case) (
    plain_block (Select (Variable (Local 0) NoSuffix 2) (Otherwise (Assign (Local 1) NoSuffix (Number 1)))
    ∷ Select (local 1) (AndCase (IfRelated Every Signed NotEqual (Number 2) NoTests) (Assign (Local 1) NoSuffix (Number 1))
    (AndCase (IfWithin true (bases Signed Signed Signed) (Between (Number 1) true (Number 3) false) NoTests) Null (Otherwise Null))) ∷ [])) 0 98
unfolding differ words_in words_in_all words_before join point_of hidden hidden_expr hidden_exprs hidden_suffixes hidden_operations hidden_interval hidden_phrase hidden_arms hidden_stmts hidden_targets hidden_cases hidden_tests hidden_exits hidden_loop hidden_finish hidden_condition words_of words_given last_words
no_case_stands =
    block [] 98 98 no_phrase
    (and_statement 16 (select_none 5 8 (variable tt (refl & no_more)) (refl & no_more) (assign 11 tt (number (refl & no_more)) (refl & no_more)))
    (and_statement 98
    (select 21 26 (variable tt (refl & no_more)) (refl & no_more)
    (and_case 40 48 53 (related_last (relates 31 34 (refl & no_more) (number (refl & no_more)) (refl & refl & no_more))) (assign 43 tt (number
    (refl & no_more)) (refl & no_more)) (jumps (refl & no_more))
    (and_case 98 98 98 (lies_last (lies_within 58 64 (refl & no_more) (bounds 61 (number (refl & no_more)) (number (refl & no_more)))
    (refl & refl & refl & refl & refl & refl & refl & refl & refl & refl & no_more)))
    null falls (otherwise null))))
    no_statements))
    falls no_exits
