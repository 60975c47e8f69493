-- The code of leaves, operators, conditions, variables with suffixes and constructors, each with its offsets and depths.
use Rattle.std.specs.Prelude.{[], false, refl, true, ◌∷◌}
use Rattle.code_rules.proofs.Made.{at, bases, exprs, global, kinds, local, part, plain_block, procedure, ◌&◌}
use Rattle.code_rules.specs.CodeFor.{StmtCode, all_of, and_element, and_operand, and_statement, and_target, and_value, assign, assign_element, block, bounds, byte_of, call, checked, construct, declare, declare_as, element, extract, falls, field, field_of, here, if_all, if_else, if_some, index, jumps, length_of, literal, negate, negation, no_exits, no_operands, no_operation, no_phrase, no_statements, no_targets, no_values, null, number, on_negation, on_relation, on_value, operate, operation, perform, relate, some_of, unless_all, unless_some, variable, within}
use Rattle.code_rules.specs.Reading.{Coded, at_body, no_more}
use Rattle.mesa_types.specs.Counts.{hidden, hidden_arms, hidden_cases, hidden_condition, hidden_exits, hidden_expr, hidden_exprs, hidden_finish, hidden_interval, hidden_loop, hidden_operations, hidden_phrase, hidden_stmts, hidden_suffixes, hidden_targets, hidden_tests, last_words, words_given, words_of}
use Rattle.mesa_types.specs.Operators.{differ}
use Rattle.mesa_types.specs.Shapes.{join, words_before, words_in, words_in_all}
use Rattle.mesa_types.specs.Typed.{AllOf, AndTarget, Array, Assign, Between, ByteOf, Call, Checked, Construct, Declare, DeclareAs, Extract, Field, FieldOf, If, Index, LengthOf, Literal, Negate, NoOperation, NoPhrase, NoSuffix, NoTargets, Not, Null, Number, Operate, Ordinal, Perform, Record, Relate, SomeOf, Texts, Then, Variable, Within, point_of}
use Rattle.mesa_base.specs.declared.relation.Relation.TheVariants.{AtMost, NotEqual}
use Rattle.mesa_types.specs.declared.typed_parts.Base.TheVariants.{Signed, Unsigned}
use Rattle.mesa_types.specs.declared.typed_parts.Callee.TheVariants.{OwnProcedure}
use Rattle.mesa_types.specs.declared.typed_parts.Home.TheVariants.{Global, Local}
use Rattle.mesa_types.specs.declared.typed_parts.Range.TheVariants.{Every, From}
use Rattle.code_forms.specs.declared.instruction.Instruction.TheVariants as i
use Rattle.mesa_types.specs.declared.typed_parts.Operator.TheVariants as operator

-- IF a <= b THEN a ← 7 ELSE b ← 8: the relation jumps at once
abbrev chosen : Coded
chosen = procedure (kinds []) (kinds (Ordinal ∷ Ordinal ∷ [])) (
    at 0 0 (i.LoadL 0 1)
    ∷ at 5 1 (i.LoadL 1 1)
    ∷ at 10 2 (i.Roll 1 1)
    ∷ at 15 2 i.LessI
    ∷ at 16 1 (i.JumpIf 34)
    ∷ at 21 0 (i.Lit 7)
    ∷ at 24 1 (i.StoreL 0 1)
    ∷ at 29 0 (i.Jump 42)
    ∷ at 34 0 (i.Lit 8)
    ∷ at 37 1 (i.StoreL 1 1)
    ∷ at 42 0 i.Return
    ∷ []) []

chosen_stands : StmtCode chosen (at_body chosen) (
    If (Relate Signed AtMost (local 0) (local 1)) (Assign (Local 0) NoSuffix (Number 7)) (Assign (Local 1) NoSuffix (Number 8))) 0 42
unfolding differ words_in words_in_all words_before join point_of hidden hidden_expr hidden_exprs hidden_suffixes hidden_operations hidden_interval hidden_phrase hidden_arms hidden_stmts hidden_targets hidden_cases hidden_tests hidden_exits hidden_loop hidden_finish hidden_condition words_of words_given last_words
chosen_stands =
    if_else 21 29 34 (on_relation 5 10 (variable tt (refl & no_more)) (variable tt (refl & no_more)) (refl & refl & refl & no_more))
    (assign 24 tt (number (refl & no_more)) (refl & no_more))
    (jumps (refl & no_more))
    (assign 37 tt (number (refl & no_more)) (refl & no_more))

-- IF NOT (a OR b) THEN g ← a: without ELSE no jump is needed
abbrev chosen_or_nothing : Coded
chosen_or_nothing = procedure (kinds (Ordinal ∷ [])) (kinds (Ordinal ∷ Ordinal ∷ [])) (
    at 0 0 (i.LoadL 0 1)
    ∷ at 5 1 (i.JumpIf 30)
    ∷ at 10 0 (i.LoadL 1 1)
    ∷ at 15 1 (i.JumpIf 30)
    ∷ at 20 0 (i.LoadL 0 1)
    ∷ at 25 1 (i.StoreG 0 1)
    ∷ at 30 0 i.Return
    ∷ []) []

chosen_or_nothing_stands : StmtCode chosen_or_nothing (at_body chosen_or_nothing) (
    If (Not (SomeOf (exprs (local 0 ∷ local 1 ∷ [])))) (Assign (Global 0) NoSuffix (local 0)) Null) 0 30
unfolding differ words_in words_in_all words_before join point_of hidden hidden_expr hidden_exprs hidden_suffixes hidden_operations hidden_interval hidden_phrase hidden_arms hidden_stmts hidden_targets hidden_cases hidden_tests hidden_exits hidden_loop hidden_finish hidden_condition words_of words_given last_words
chosen_or_nothing_stands =
    if_else 20 30 30 (on_negation (if_some (and_operand 10 (on_value 5 (variable tt (refl & no_more)) (refl & no_more)) (and_operand 20 (on_value 15
    (variable tt (refl & no_more)) (refl & no_more)) no_operands))))
    (assign 25 tt (variable tt (refl & no_more)) (refl & no_more)) falls null

-- a ← -(a * b MOD 3) + g: the right operand of MOD is checked to be none of the negative ones
abbrev worked_out : Coded
worked_out = procedure (kinds (Ordinal ∷ [])) (kinds (Ordinal ∷ Ordinal ∷ [])) (
    at 0 0 (i.LoadL 0 1)
    ∷ at 5 1 (i.LoadL 1 1)
    ∷ at 10 2 i.Mul
    ∷ at 11 1 (i.Lit 3)
    ∷ at 14 2 (i.CheckI 0 32767)
    ∷ at 19 2 i.ModI
    ∷ at 20 1 i.Neg
    ∷ at 21 1 (i.LoadG 0 1)
    ∷ at 26 2 i.Add
    ∷ at 27 1 (i.StoreL 0 1)
    ∷ at 32 0 i.Return
    ∷ []) []

worked_out_stands : StmtCode worked_out (at_body worked_out) (
    Assign (Local 0) NoSuffix (Operate (Negate (Operate (local 0) (Then Every operator.Multiply (local 1) (Then Every (operator.Modulo Signed)
    (Checked (From Signed 0 32767) (Number 3)) NoOperation)))) (Then Every operator.Add (global 0) NoOperation))) 0 32
unfolding differ words_in words_in_all words_before join point_of hidden hidden_expr hidden_exprs hidden_suffixes hidden_operations hidden_interval hidden_phrase hidden_arms hidden_stmts hidden_targets hidden_cases hidden_tests hidden_exits hidden_loop hidden_finish hidden_condition words_of words_given last_words
worked_out_stands =
    assign 27 tt
    (operate 21 (negate 20 (operate 5 (variable tt (refl & no_more))
    (operation 5 10 11 no_more (variable tt (refl & no_more)) (refl & no_more) (operation 11 19 20 no_more (checked 14 (number (refl & no_more))
    (refl & no_more)) (refl & no_more) no_operation))) (refl & no_more))
    (operation 21 26 27 no_more (variable tt (refl & no_more)) (refl & no_more) no_operation))
    (refl & no_more)

-- a ← 'x + a - n, for n a CARDINAL: the second operator uses two scratch words, behind the two variables
abbrev characters : Coded
characters = procedure (kinds []) (kinds (Ordinal ∷ Ordinal ∷ [])) (
    at 0 0 (i.Lit 120)
    ∷ at 3 1 (i.LoadL 0 1)
    ∷ at 8 2 (i.CheckI 32768 255)
    ∷ at 13 2 (i.Roll 1 1)
    ∷ at 18 2 (i.CheckC 0 33023)
    ∷ at 23 2 i.Add
    ∷ at 24 1 (i.CheckC 0 255)
    ∷ at 29 1 (i.LoadL 1 1)
    ∷ at 34 2 (i.StoreL 2 2)
    ∷ at 39 0 (i.LoadL 2 2)
    ∷ at 44 2 i.LessC
    ∷ at 45 1 (i.CheckC 0 0)
    ∷ at 50 1 (i.Pop 1)
    ∷ at 53 0 (i.LoadL 2 2)
    ∷ at 58 2 i.Sub
    ∷ at 59 1 (i.CheckC 0 255)
    ∷ at 64 1 (i.StoreL 0 1)
    ∷ at 69 0 i.Return
    ∷ []) []

characters_stands : StmtCode characters (at_body characters) (
    Assign (Local 0) NoSuffix (Operate (Number 120) (Then Every (operator.AddToCharacter Signed) (local 0)
    (Then Every (operator.SubtractFromCharacter Unsigned) (local 1) NoOperation)))) 0 69
unfolding differ words_in words_in_all words_before join point_of hidden hidden_expr hidden_exprs hidden_suffixes hidden_operations hidden_interval hidden_phrase hidden_arms hidden_stmts hidden_targets hidden_cases hidden_tests hidden_exits hidden_loop hidden_finish hidden_condition words_of words_given last_words
characters_stands =
    assign 64 tt
    (operate 3 (number (refl & no_more)) (operation 3 8 29 no_more (variable tt (refl & no_more)) (refl & refl & refl & refl & refl & no_more)
    (operation 29 34 64 no_more (variable tt (refl & no_more)) (refl & refl & refl & refl & refl & refl & refl & refl & no_more) no_operation)))
    (refl & no_more)

-- b ← a IN [1..5): three scratch words hold the number and the bounds
abbrev lies_inside : Coded
lies_inside = procedure (kinds []) (kinds (Ordinal ∷ Ordinal ∷ [])) (
    at 0 0 (i.LoadL 0 1)
    ∷ at 5 1 (i.Lit 1)
    ∷ at 8 2 (i.Lit 5)
    ∷ at 11 3 (i.StoreL 2 3)
    ∷ at 16 0 (i.LoadL 2 1)
    ∷ at 21 1 (i.LoadL 3 1)
    ∷ at 26 2 i.LessI
    ∷ at 27 1 i.Not
    ∷ at 28 1 (i.LoadL 2 1)
    ∷ at 33 2 (i.LoadL 4 1)
    ∷ at 38 3 i.LessI
    ∷ at 39 2 i.Mul
    ∷ at 40 1 (i.StoreL 1 1)
    ∷ at 45 0 i.Return
    ∷ []) []

lies_inside_stands : StmtCode lies_inside (at_body lies_inside) (
    Assign (Local 1) NoSuffix (Within (bases Signed Signed Signed) (local 0) (Between (Number 1) false (Number 5) true))) 0 45
unfolding differ words_in words_in_all words_before join point_of hidden hidden_expr hidden_exprs hidden_suffixes hidden_operations hidden_interval hidden_phrase hidden_arms hidden_stmts hidden_targets hidden_cases hidden_tests hidden_exits hidden_loop hidden_finish hidden_condition words_of words_given last_words
lies_inside_stands =
    assign 40 tt (within 5 11 (variable tt (refl & no_more)) (bounds 8 (number (refl & no_more)) (number (refl & no_more)))
    (refl & refl & refl & refl & refl & refl & refl & refl & refl & no_more)) (refl & no_more)

-- b ← a # b, as a value
abbrev compared : Coded
compared = procedure (kinds []) (kinds (Ordinal ∷ Ordinal ∷ [])) (
    at 0 0 (i.LoadL 0 1)
    ∷ at 5 1 (i.LoadL 1 1)
    ∷ at 10 2 i.Eq
    ∷ at 11 1 i.Not
    ∷ at 12 1 (i.StoreL 1 1)
    ∷ at 17 0 i.Return
    ∷ []) []

compared_stands : StmtCode compared (at_body compared) (
    Assign (Local 1) NoSuffix (Relate Signed NotEqual (local 0) (local 1))) 0 17
unfolding differ words_in words_in_all words_before join point_of hidden hidden_expr hidden_exprs hidden_suffixes hidden_operations hidden_interval hidden_phrase hidden_arms hidden_stmts hidden_targets hidden_cases hidden_tests hidden_exits hidden_loop hidden_finish hidden_condition words_of words_given last_words
compared_stands =
    assign 12 tt (relate 5 10 (variable tt (refl & no_more)) (variable tt (refl & no_more)) (refl & refl & no_more)) (refl & no_more)

-- a ← a AND NOT b; b ← a OR b: as values
abbrev truths : Coded
truths = procedure (kinds []) (kinds (Ordinal ∷ Ordinal ∷ [])) (
    at 0 0 (i.LoadL 0 1)
    ∷ at 5 1 (i.JumpIfNot 28)
    ∷ at 10 0 (i.LoadL 1 1)
    ∷ at 15 1 (i.JumpIf 28)
    ∷ at 20 0 (i.Lit 1)
    ∷ at 23 1 (i.Jump 31)
    ∷ at 28 0 (i.Lit 0)
    ∷ at 31 1 (i.StoreL 0 1)
    ∷ at 36 0 (i.LoadL 0 1)
    ∷ at 41 1 (i.JumpIf 64)
    ∷ at 46 0 (i.LoadL 1 1)
    ∷ at 51 1 (i.JumpIf 64)
    ∷ at 56 0 (i.Lit 0)
    ∷ at 59 1 (i.Jump 67)
    ∷ at 64 0 (i.Lit 1)
    ∷ at 67 1 (i.StoreL 1 1)
    ∷ at 72 0 i.Return
    ∷ []) []

truths_stands : StmtCode truths (at_body truths) (
    plain_block (Assign (Local 0) NoSuffix (AllOf (exprs (local 0 ∷ Not (local 1) ∷ []))) ∷ Assign (Local 1) NoSuffix (SomeOf (exprs (local 0 ∷ local 1
    ∷ []))) ∷ [])) 0 72
unfolding differ words_in words_in_all words_before join point_of hidden hidden_expr hidden_exprs hidden_suffixes hidden_operations hidden_interval hidden_phrase hidden_arms hidden_stmts hidden_targets hidden_cases hidden_tests hidden_exits hidden_loop hidden_finish hidden_condition words_of words_given last_words
truths_stands =
    block [] 72 72 no_phrase
    (and_statement 36
    (assign 31 tt (all_of 20 28 (and_operand 10 (on_value 5 (variable tt (refl & no_more)) (refl & no_more))
    (and_operand 20 (on_negation (on_value 15 (variable tt (refl & no_more)) (refl & no_more))) no_operands)) (refl & refl & no_more)
    (refl & no_more)) (refl & no_more))
    (and_statement 72
    (assign 67 tt (some_of 56 64 (and_operand 46 (on_value 41 (variable tt (refl & no_more)) (refl & no_more))
    (and_operand 56 (on_value 51 (variable tt (refl & no_more)) (refl & no_more)) no_operands)) (refl & refl & no_more) (refl & no_more))
    (refl & no_more))
    no_statements))
    falls no_exits

-- b ← NOT a; IF NOT (a AND b) THEN a ← 1; IF a OR b THEN a ← 2: an OR that is jumped by where it is false
abbrev inverted : Coded
inverted = procedure (kinds []) (kinds (Ordinal ∷ Ordinal ∷ [])) (
    at 0 0 (i.LoadL 0 1)
    ∷ at 5 1 i.Not
    ∷ at 6 1 (i.StoreL 1 1)
    ∷ at 11 0 (i.LoadL 0 1)
    ∷ at 16 1 (i.JumpIfNot 36)
    ∷ at 21 0 (i.LoadL 1 1)
    ∷ at 26 1 (i.JumpIfNot 36)
    ∷ at 31 0 (i.Jump 44)
    ∷ at 36 0 (i.Lit 1)
    ∷ at 39 1 (i.StoreL 0 1)
    ∷ at 44 0 (i.LoadL 0 1)
    ∷ at 49 1 (i.JumpIf 69)
    ∷ at 54 0 (i.LoadL 1 1)
    ∷ at 59 1 (i.JumpIf 69)
    ∷ at 64 0 (i.Jump 77)
    ∷ at 69 0 (i.Lit 2)
    ∷ at 72 1 (i.StoreL 0 1)
    ∷ at 77 0 i.Return
    ∷ []) []

inverted_stands : StmtCode inverted (at_body inverted) (
    plain_block (Assign (Local 1) NoSuffix (Not (local 0)) ∷ If (Not (AllOf (exprs (local 0 ∷ local 1 ∷ [])))) (Assign (Local 0) NoSuffix (Number 1)) Null
    ∷ If (SomeOf (exprs (local 0 ∷ local 1 ∷ []))) (Assign (Local 0) NoSuffix (Number 2)) Null ∷ [])) 0 77
unfolding differ words_in words_in_all words_before join point_of hidden hidden_expr hidden_exprs hidden_suffixes hidden_operations hidden_interval hidden_phrase hidden_arms hidden_stmts hidden_targets hidden_cases hidden_tests hidden_exits hidden_loop hidden_finish hidden_condition words_of words_given last_words
inverted_stands =
    block [] 77 77 no_phrase
    (and_statement 11 (assign 6 tt (negation 5 (variable tt (refl & no_more)) (refl & no_more)) (refl & no_more))
    (and_statement 44
    (if_else 36 44 44 (on_negation (if_all 31 (and_operand 21 (on_value 16 (variable tt (refl & no_more)) (refl & no_more))
    (and_operand 31 (on_value 26 (variable tt (refl & no_more)) (refl & no_more)) no_operands)) (refl & no_more))) (assign 39 tt (number
    (refl & no_more)) (refl & no_more)) falls null)
    (and_statement 77
    (if_else 69 77 77 (unless_some 64 (and_operand 54 (on_value 49 (variable tt (refl & no_more)) (refl & no_more))
    (and_operand 64 (on_value 59 (variable tt (refl & no_more)) (refl & no_more)) no_operands)) (refl & no_more)) (assign 72 tt (number
    (refl & no_more)) (refl & no_more)) falls null)
    no_statements)))
    falls no_exits

-- IF a AND b THEN a ← 1
abbrev unless : Coded
unless = procedure (kinds []) (kinds (Ordinal ∷ Ordinal ∷ [])) (
    at 0 0 (i.LoadL 0 1)
    ∷ at 5 1 (i.JumpIfNot 28)
    ∷ at 10 0 (i.LoadL 1 1)
    ∷ at 15 1 (i.JumpIfNot 28)
    ∷ at 20 0 (i.Lit 1)
    ∷ at 23 1 (i.StoreL 0 1)
    ∷ at 28 0 i.Return
    ∷ []) []

unless_stands : StmtCode unless (at_body unless) (
    If (AllOf (exprs (local 0 ∷ local 1 ∷ []))) (Assign (Local 0) NoSuffix (Number 1)) Null) 0 28
unfolding differ words_in words_in_all words_before join point_of hidden hidden_expr hidden_exprs hidden_suffixes hidden_operations hidden_interval hidden_phrase hidden_arms hidden_stmts hidden_targets hidden_cases hidden_tests hidden_exits hidden_loop hidden_finish hidden_condition words_of words_given last_words
unless_stands =
    if_else 20 28 28 (unless_all (and_operand 10 (on_value 5 (variable tt (refl & no_more)) (refl & no_more))
    (and_operand 20 (on_value 15 (variable tt (refl & no_more)) (refl & no_more)) no_operands))) (assign 23 tt (number (refl & no_more))
    (refl & no_more)) falls null

-- s ← "the second literal"; n ← s.length; n ← s[n]: s has two words
abbrev strings : Coded
strings = procedure (kinds []) (kinds (Texts ∷ Ordinal ∷ [])) (
    at 0 0 (i.Str 2)
    ∷ at 3 2 (i.StoreL 0 2)
    ∷ at 8 0 (i.LoadL 0 2)
    ∷ at 13 2 i.StrLen
    ∷ at 14 1 (i.StoreL 2 1)
    ∷ at 19 0 (i.LoadL 0 2)
    ∷ at 24 2 (i.LoadL 2 1)
    ∷ at 29 3 i.StrAt
    ∷ at 30 1 (i.StoreL 2 1)
    ∷ at 35 0 i.Return
    ∷ []) []

strings_stands : StmtCode strings (at_body strings) (
    plain_block (Assign (Local 0) NoSuffix (Literal 1) ∷ Assign (Local 1) NoSuffix (LengthOf (Variable (Local 0) NoSuffix 2))
    ∷ Assign (Local 1) NoSuffix (ByteOf (Variable (Local 0) NoSuffix 2) (local 1)) ∷ [])) 0 35
unfolding differ words_in words_in_all words_before join point_of hidden hidden_expr hidden_exprs hidden_suffixes hidden_operations hidden_interval hidden_phrase hidden_arms hidden_stmts hidden_targets hidden_cases hidden_tests hidden_exits hidden_loop hidden_finish hidden_condition words_of words_given last_words
strings_stands =
    block [] 35 35 no_phrase
    (and_statement 8 (assign 3 tt (literal (refl & no_more)) (refl & no_more))
    (and_statement 19 (assign 14 tt (length_of 13 (variable tt (refl & no_more)) (refl & no_more)) (refl & no_more))
    (and_statement 35 (assign 30 tt (byte_of 24 29 (variable tt (refl & no_more)) (variable tt (refl & no_more)) (refl & no_more)) (refl & no_more))
    no_statements)))
    falls no_exits

-- x ← t[i].y; t[x - 2].y ← x, for t an ARRAY [2..5] of records of a STRING and y: an element has three words, y lies two words in
abbrev elements : Coded
elements = procedure (kinds []) (kinds (Array 4 (Record (kinds (Texts ∷ Ordinal ∷ []))) ∷ Ordinal ∷ Ordinal ∷ [])) (
    at 0 0 (i.Lit 2)
    ∷ at 3 1 (i.LoadL 12 1)
    ∷ at 8 2 (i.Lit 2)
    ∷ at 11 3 i.Sub
    ∷ at 12 2 (i.Index 4 3)
    ∷ at 17 1 (i.LoadLX 0 12 1)
    ∷ at 24 1 (i.StoreL 13 1)
    ∷ at 29 0 (i.Lit 2)
    ∷ at 32 1 (i.LoadL 13 1)
    ∷ at 37 2 (i.Lit 2)
    ∷ at 40 3 i.Sub
    ∷ at 41 2 (i.CheckC 0 32767)
    ∷ at 46 2 (i.Lit 2)
    ∷ at 49 3 i.Sub
    ∷ at 50 2 (i.Index 4 3)
    ∷ at 55 1 (i.LoadL 13 1)
    ∷ at 60 2 (i.StoreLX 0 12 1)
    ∷ at 67 0 i.Return
    ∷ []) []

elements_stands : StmtCode elements (at_body elements) (
    plain_block (Assign (Local 2) NoSuffix (Variable (Local 0) (Index Every 2 4 3 (local 1) (Field 1 2 NoSuffix)) 1)
    ∷ Assign (Local 0) (Index (From Unsigned 0 32767) 2 4 3 (Operate (local 2) (Then Every operator.Subtract (Number 2) NoOperation))
    (Field 1 2 NoSuffix)) (local 2) ∷ [])) 0 67
unfolding differ words_in words_in_all words_before join point_of hidden hidden_expr hidden_exprs hidden_suffixes hidden_operations hidden_interval hidden_phrase hidden_arms hidden_stmts hidden_targets hidden_cases hidden_tests hidden_exits hidden_loop hidden_finish hidden_condition words_of words_given last_words
elements_stands =
    block [] 67 67 no_phrase
    (and_statement 29 (assign 24 tt (element 3 17 tt (refl & no_more) (index 8 17 (variable tt (refl & no_more)) (refl & refl & refl & no_more)
    (field here)) (refl & no_more)) (refl & no_more))
    (and_statement 67
    (assign_element 32 55 60 tt (refl & no_more)
    (index 41 55 (operate 37 (variable tt (refl & no_more)) (operation 37 40 41 no_more (number (refl & no_more)) (refl & no_more) no_operation))
    (refl & refl & refl & refl & no_more) (field here))
    (variable tt (refl & no_more)) (refl & no_more))
    no_statements))
    falls no_exits

-- g[i] ← h.b, for globals g an ARRAY [0..2], whose index type begins at 0, and h a record of two words
abbrev globals_too : Coded
globals_too = procedure (kinds (Array 3 Ordinal ∷ Record (kinds (Ordinal ∷ Ordinal ∷ [])) ∷ [])) (kinds (Ordinal ∷ [])) (
    at 0 0 (i.Lit 0)
    ∷ at 3 1 (i.LoadL 0 1)
    ∷ at 8 2 (i.Index 3 1)
    ∷ at 13 1 (i.LoadG 4 1)
    ∷ at 18 2 (i.StoreGX 0 3 1)
    ∷ at 25 0 i.Return
    ∷ []) []

globals_too_stands : StmtCode globals_too (at_body globals_too) (
    Assign (Global 0) (Index Every 0 3 1 (local 0) NoSuffix) (Variable (Global 1) (Field 1 1 NoSuffix) 1)) 0 25
unfolding differ words_in words_in_all words_before join point_of hidden hidden_expr hidden_exprs hidden_suffixes hidden_operations hidden_interval hidden_phrase hidden_arms hidden_stmts hidden_targets hidden_cases hidden_tests hidden_exits hidden_loop hidden_finish hidden_condition words_of words_given last_words
globals_too_stands =
    assign_element 3 13 18 tt (refl & no_more) (index 8 13 (variable tt (refl & no_more)) (refl & no_more) here) (variable tt (refl & no_more))
    (refl & no_more)

-- r ← [s: "..", n: 5], where the record has n first; it has three words, and the string comes over n: x ← that record's s
abbrev made : Coded
made = procedure (kinds []) (kinds (Record (kinds (Ordinal ∷ Texts ∷ [])) ∷ Texts ∷ [])) (
    at 0 0 (i.Str 1)
    ∷ at 3 2 (i.Lit 5)
    ∷ at 6 3 (i.Roll 2 1)
    ∷ at 11 3 (i.StoreL 0 3)
    ∷ at 16 0 (i.Lit 5)
    ∷ at 19 1 (i.Str 1)
    ∷ at 22 3 (i.Roll 1 2)
    ∷ at 27 3 (i.Pop 1)
    ∷ at 30 2 (i.StoreL 3 2)
    ∷ at 35 0 i.Return
    ∷ []) []

made_stands : StmtCode made (at_body made) (
    plain_block (Assign (Local 0) NoSuffix (Construct (1 ∷ 0 ∷ []) (exprs (Literal 0 ∷ Number 5 ∷ [])))
    ∷ Assign (Local 1) NoSuffix (FieldOf (Construct [] (exprs (Number 5 ∷ Literal 0 ∷ []))) (part 1 1 2 ∷ [])) ∷ [])) 0 35
unfolding differ words_in words_in_all words_before join point_of hidden hidden_expr hidden_exprs hidden_suffixes hidden_operations hidden_interval hidden_phrase hidden_arms hidden_stmts hidden_targets hidden_cases hidden_tests hidden_exits hidden_loop hidden_finish hidden_condition words_of words_given last_words
made_stands =
    block [] 35 35 no_phrase
    (and_statement 16 (assign 11 tt (construct 6 (and_value 3 (literal (refl & no_more)) (and_value 6 (number (refl & no_more)) no_values))
    (refl & no_more)) (refl & no_more))
    (and_statement 35
    (assign 30 tt (field_of 22 0 (construct 22 (and_value 19 (number (refl & no_more)) (and_value 22 (literal
    (refl & no_more)) no_values)) no_more) refl (refl & refl & no_more)) (refl & no_more))
    no_statements))
    falls no_exits

-- a, b: INTEGER; c, d: STRING ← "..": each is set to zero first, and a copy is made of the first
abbrev declared : Coded
declared = procedure (kinds []) (kinds (Ordinal ∷ Ordinal ∷ Texts ∷ Texts ∷ [])) (
    at 0 0 (i.ZeroL 0 1)
    ∷ at 5 0 (i.ZeroL 1 1)
    ∷ at 10 0 (i.ZeroL 2 2)
    ∷ at 15 0 (i.ZeroL 4 2)
    ∷ at 20 0 (i.Str 1)
    ∷ at 23 2 (i.StoreL 2 2)
    ∷ at 28 0 (i.LoadL 2 2)
    ∷ at 33 2 (i.StoreL 4 2)
    ∷ at 38 0 i.Return
    ∷ []) []

declared_stands : StmtCode declared (at_body declared) (
    plain_block (Declare (Local 0 ∷ Local 1 ∷ []) Ordinal ∷ DeclareAs (Local 2 ∷ Local 3 ∷ []) Texts (Literal 0) ∷ [])) 0 38
unfolding differ words_in words_in_all words_before join point_of hidden hidden_expr hidden_exprs hidden_suffixes hidden_operations hidden_interval hidden_phrase hidden_arms hidden_stmts hidden_targets hidden_cases hidden_tests hidden_exits hidden_loop hidden_finish hidden_condition words_of words_given last_words
declared_stands =
    block [] 38 38 no_phrase
    (and_statement 10 (declare (refl & refl & no_more)) (and_statement 38 (declare_as 20 23 (refl & refl & no_more) (literal (refl & no_more))
    (refl & refl & refl & no_more)) no_statements))
    falls no_exits

-- [t[i], s] ← [7, 8, ".."], by keys: the first field to an element, the last to s; the second is dropped
abbrev extracted : Coded
extracted = procedure (kinds []) (kinds (Array 3 Ordinal ∷ Ordinal ∷ Texts ∷ [])) (
    at 0 0 (i.Lit 7)
    ∷ at 3 1 (i.Lit 8)
    ∷ at 6 2 (i.Str 1)
    ∷ at 9 4 (i.Lit 0)
    ∷ at 12 5 (i.LoadL 3 1)
    ∷ at 17 6 (i.Index 3 1)
    ∷ at 22 5 (i.Roll 1 4)
    ∷ at 27 5 (i.CheckI 0 9)
    ∷ at 32 5 (i.StoreLX 0 3 1)
    ∷ at 39 3 (i.StoreL 4 2)
    ∷ at 44 1 (i.Pop 1)
    ∷ at 47 0 i.Return
    ∷ []) []

extracted_stands : StmtCode extracted (at_body extracted) (
    Extract true (AndTarget (part 0 0 1) (Local 0) (Index Every 0 3 1 (local 1) NoSuffix) (From Signed 0 9) (AndTarget (part 2 2 2)
    (Local 2) NoSuffix Every NoTargets))
    (Construct [] (exprs (Number 7 ∷ Number 8 ∷ Literal 0 ∷ [])))) 0 47
unfolding differ words_in words_in_all words_before join point_of hidden hidden_expr hidden_exprs hidden_suffixes hidden_operations hidden_interval hidden_phrase hidden_arms hidden_stmts hidden_targets hidden_cases hidden_tests hidden_exits hidden_loop hidden_finish hidden_condition words_of words_given last_words
extracted_stands =
    extract 9
    (construct 9 (and_value 3 (number (refl & no_more)) (and_value 6 (number (refl & no_more)) (and_value 9 (literal
    (refl & no_more)) no_values))) no_more)
    (and_element 12 22 39 tt (refl & no_more) (index 17 22 (variable tt (refl & no_more)) (refl & no_more) here) (refl & refl & refl & no_more)
    (and_target 44 tt (refl & no_more) (no_targets (refl & no_more))))

-- F[s: "..", n: x] and G[x], dropped, for F: PROCEDURE [n: INTEGER, s: STRING] with two words of results
abbrev called : Coded
called = procedure (kinds []) (kinds (Ordinal ∷ [])) (
    at 0 0 (i.Str 1)
    ∷ at 3 2 (i.LoadL 0 1)
    ∷ at 8 3 (i.Roll 2 1)
    ∷ at 13 3 (i.Call 2)
    ∷ at 18 2 (i.Pop 2)
    ∷ at 21 0 (i.LoadL 0 1)
    ∷ at 26 1 (i.Call 1)
    ∷ at 31 1 (i.Pop 1)
    ∷ at 34 0 i.Return
    ∷ []) []

called_stands : StmtCode called (at_body called) (
    plain_block (Perform (Call (OwnProcedure 2) (1 ∷ 0 ∷ []) (exprs (Literal 0 ∷ local 0 ∷ [])) 2 NoPhrase)
    ∷ Perform (Call (OwnProcedure 1) [] (exprs (local 0 ∷ [])) 1 NoPhrase) ∷ [])) 0 34
unfolding differ words_in words_in_all words_before join point_of hidden hidden_expr hidden_exprs hidden_suffixes hidden_operations hidden_interval hidden_phrase hidden_arms hidden_stmts hidden_targets hidden_cases hidden_tests hidden_exits hidden_loop hidden_finish hidden_condition words_of words_given last_words
called_stands =
    block [] 34 34 no_phrase
    (and_statement 21 (perform 18 (call 8 13 (and_value 3 (literal (refl & no_more)) (and_value 8 (variable tt (refl & no_more)) no_values))
    (refl & no_more) no_phrase (refl & no_more)) (refl & no_more))
    (and_statement 34 (perform 31 (call 26 26 (and_value 26 (variable tt (refl & no_more)) no_values) no_more no_phrase (refl & no_more))
    (refl & no_more))
    no_statements))
    falls no_exits
