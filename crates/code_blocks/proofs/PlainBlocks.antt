-- The code that is written of leaves, operators, conditions, variables with suffixes and constructors.
use Rattle.std.specs.Prelude.{◌≡◌, [], false, refl, true, ◌∷◌}
use Rattle.code_rules.proofs.Made.{at, bases, exprs, global, kinds, local, part, plain_block, procedure}
use Rattle.mesa_types.specs.Counts.{hidden, hidden_arms, hidden_cases, hidden_condition, hidden_exits, hidden_expr, hidden_exprs, hidden_finish, hidden_interval, hidden_loop, hidden_operations, hidden_phrase, hidden_stmts, hidden_suffixes, hidden_targets, hidden_tests, last_words, words_given, words_of}
use Rattle.mesa_types.specs.Operators.{differ}
use Rattle.mesa_types.specs.Shapes.{join, words_before, words_in, words_in_all}
use Rattle.mesa_types.specs.Typed.{AllOf, AndTarget, Array, Assign, Between, ByteOf, Call, Checked, Construct, Declare, DeclareAs, Extract, Field, FieldOf, If, Index, LengthOf, Literal, Negate, NoOperation, NoPhrase, NoSuffix, NoTargets, Not, Null, Number, Operate, Ordinal, Perform, Record, Relate, SomeOf, Texts, Then, Variable, Within, point_of}
use Rattle.mesa_base.specs.declared.relation.Relation.TheVariants.{AtMost, NotEqual}
use Rattle.mesa_types.specs.declared.typed_parts.Base.TheVariants.{Signed, Unsigned}
use Rattle.mesa_types.specs.declared.typed_parts.Callee.TheVariants.{OwnProcedure}
use Rattle.mesa_types.specs.declared.typed_parts.Home.TheVariants.{Global, Local}
use Rattle.mesa_types.specs.declared.typed_parts.Range.TheVariants.{Every, From}
use Rattle.code_forms.specs.declared.instruction.Instruction.TheVariants as i
use Rattle.mesa_types.specs.declared.typed_parts.Operator.TheVariants as operator
use Rattle.code_blocks.specs.Regions.{Written}
use Rattle.code_blocks.proofs.Written.{written_of}

-- IF a <= b THEN a ← 7 ELSE b ← 8: the relation jumps at once
abbrev chosen : Written
chosen = written_of (procedure (kinds []) (kinds (Ordinal ∷ Ordinal ∷ [])) [] []) (
    If (Relate Signed AtMost (local 0) (local 1)) (Assign (Local 0) NoSuffix (Number 7)) (Assign (Local 1) NoSuffix (Number 8)))

chosen_code : chosen.code ≡
    at 0 0 (i.LoadL 0 1)
    ∷ at 5 1 (i.LoadL 1 1)
    ∷ at 10 2 (i.Roll 1 1)
    ∷ at 15 2 i.LessI
    ∷ at 16 1 (i.JumpIf 34)
    ∷ at 21 0 (i.Lit 7)
    ∷ at 24 1 (i.StoreL 0 1)
    ∷ at 29 0 (i.Jump 42)
    ∷ at 34 0 (i.Lit 8)
    ∷ at 37 1 (i.StoreL 1 1)
    ∷ at 42 0 i.Return
    ∷ []
unfolding differ words_in words_in_all words_before join point_of hidden hidden_expr hidden_exprs hidden_suffixes hidden_operations hidden_interval hidden_phrase hidden_arms hidden_stmts hidden_targets hidden_cases hidden_tests hidden_exits hidden_loop hidden_finish hidden_condition words_of words_given last_words
chosen_code = refl

-- IF NOT (a OR b) THEN g ← a: without ELSE no jump is needed
abbrev chosen_or_nothing : Written
chosen_or_nothing = written_of (procedure (kinds (Ordinal ∷ [])) (kinds (Ordinal ∷ Ordinal ∷ [])) [] []) (
    If (Not (SomeOf (exprs (local 0 ∷ local 1 ∷ [])))) (Assign (Global 0) NoSuffix (local 0)) Null)

chosen_or_nothing_code : chosen_or_nothing.code ≡
    at 0 0 (i.LoadL 0 1)
    ∷ at 5 1 (i.JumpIf 30)
    ∷ at 10 0 (i.LoadL 1 1)
    ∷ at 15 1 (i.JumpIf 30)
    ∷ at 20 0 (i.LoadL 0 1)
    ∷ at 25 1 (i.StoreG 0 1)
    ∷ at 30 0 i.Return
    ∷ []
unfolding differ words_in words_in_all words_before join point_of hidden hidden_expr hidden_exprs hidden_suffixes hidden_operations hidden_interval hidden_phrase hidden_arms hidden_stmts hidden_targets hidden_cases hidden_tests hidden_exits hidden_loop hidden_finish hidden_condition words_of words_given last_words
chosen_or_nothing_code = refl

-- a ← -(a * b MOD 3) + g: the right operand of MOD is checked to be none of the negative ones
abbrev worked_out : Written
worked_out = written_of (procedure (kinds (Ordinal ∷ [])) (kinds (Ordinal ∷ Ordinal ∷ [])) [] []) (
    Assign (Local 0) NoSuffix (Operate (Negate (Operate (local 0) (Then Every operator.Multiply (local 1) (Then Every (operator.Modulo Signed)
    (Checked (From Signed 0 32767) (Number 3)) NoOperation)))) (Then Every operator.Add (global 0) NoOperation)))

worked_out_code : worked_out.code ≡
    at 0 0 (i.LoadL 0 1)
    ∷ at 5 1 (i.LoadL 1 1)
    ∷ at 10 2 i.Mul
    ∷ at 11 1 (i.Lit 3)
    ∷ at 14 2 (i.CheckI 0 32767)
    ∷ at 19 2 i.ModI
    ∷ at 20 1 i.Neg
    ∷ at 21 1 (i.LoadG 0 1)
    ∷ at 26 2 i.Add
    ∷ at 27 1 (i.StoreL 0 1)
    ∷ at 32 0 i.Return
    ∷ []
unfolding differ words_in words_in_all words_before join point_of hidden hidden_expr hidden_exprs hidden_suffixes hidden_operations hidden_interval hidden_phrase hidden_arms hidden_stmts hidden_targets hidden_cases hidden_tests hidden_exits hidden_loop hidden_finish hidden_condition words_of words_given last_words
worked_out_code = refl

-- a ← 'x + a - n, for n a CARDINAL: the second operator uses two scratch words, behind the two variables
abbrev characters : Written
characters = written_of (procedure (kinds []) (kinds (Ordinal ∷ Ordinal ∷ [])) [] []) (
    Assign (Local 0) NoSuffix (Operate (Number 120) (Then Every (operator.AddToCharacter Signed) (local 0)
    (Then Every (operator.SubtractFromCharacter Unsigned) (local 1) NoOperation))))

characters_code : characters.code ≡
    at 0 0 (i.Lit 120)
    ∷ at 3 1 (i.LoadL 0 1)
    ∷ at 8 2 (i.CheckI 32768 255)
    ∷ at 13 2 (i.Roll 1 1)
    ∷ at 18 2 (i.CheckC 0 33023)
    ∷ at 23 2 i.Add
    ∷ at 24 1 (i.CheckC 0 255)
    ∷ at 29 1 (i.LoadL 1 1)
    ∷ at 34 2 (i.StoreL 2 2)
    ∷ at 39 0 (i.LoadL 2 2)
    ∷ at 44 2 i.LessC
    ∷ at 45 1 (i.CheckC 0 0)
    ∷ at 50 1 (i.Pop 1)
    ∷ at 53 0 (i.LoadL 2 2)
    ∷ at 58 2 i.Sub
    ∷ at 59 1 (i.CheckC 0 255)
    ∷ at 64 1 (i.StoreL 0 1)
    ∷ at 69 0 i.Return
    ∷ []
unfolding differ words_in words_in_all words_before join point_of hidden hidden_expr hidden_exprs hidden_suffixes hidden_operations hidden_interval hidden_phrase hidden_arms hidden_stmts hidden_targets hidden_cases hidden_tests hidden_exits hidden_loop hidden_finish hidden_condition words_of words_given last_words
characters_code = refl

-- b ← a IN [1..5): three scratch words hold the number and the bounds
abbrev lies_inside : Written
lies_inside = written_of (procedure (kinds []) (kinds (Ordinal ∷ Ordinal ∷ [])) [] []) (
    Assign (Local 1) NoSuffix (Within (bases Signed Signed Signed) (local 0) (Between (Number 1) false (Number 5) true)))

lies_inside_code : lies_inside.code ≡
    at 0 0 (i.LoadL 0 1)
    ∷ at 5 1 (i.Lit 1)
    ∷ at 8 2 (i.Lit 5)
    ∷ at 11 3 (i.StoreL 2 3)
    ∷ at 16 0 (i.LoadL 2 1)
    ∷ at 21 1 (i.LoadL 3 1)
    ∷ at 26 2 i.LessI
    ∷ at 27 1 i.Not
    ∷ at 28 1 (i.LoadL 2 1)
    ∷ at 33 2 (i.LoadL 4 1)
    ∷ at 38 3 i.LessI
    ∷ at 39 2 i.Mul
    ∷ at 40 1 (i.StoreL 1 1)
    ∷ at 45 0 i.Return
    ∷ []
unfolding differ words_in words_in_all words_before join point_of hidden hidden_expr hidden_exprs hidden_suffixes hidden_operations hidden_interval hidden_phrase hidden_arms hidden_stmts hidden_targets hidden_cases hidden_tests hidden_exits hidden_loop hidden_finish hidden_condition words_of words_given last_words
lies_inside_code = refl

-- b ← a # b, as a value
abbrev compared : Written
compared = written_of (procedure (kinds []) (kinds (Ordinal ∷ Ordinal ∷ [])) [] []) (
    Assign (Local 1) NoSuffix (Relate Signed NotEqual (local 0) (local 1)))

compared_code : compared.code ≡
    at 0 0 (i.LoadL 0 1)
    ∷ at 5 1 (i.LoadL 1 1)
    ∷ at 10 2 i.Eq
    ∷ at 11 1 i.Not
    ∷ at 12 1 (i.StoreL 1 1)
    ∷ at 17 0 i.Return
    ∷ []
unfolding differ words_in words_in_all words_before join point_of hidden hidden_expr hidden_exprs hidden_suffixes hidden_operations hidden_interval hidden_phrase hidden_arms hidden_stmts hidden_targets hidden_cases hidden_tests hidden_exits hidden_loop hidden_finish hidden_condition words_of words_given last_words
compared_code = refl

-- a ← a AND NOT b; b ← a OR b: as values
abbrev truths : Written
truths = written_of (procedure (kinds []) (kinds (Ordinal ∷ Ordinal ∷ [])) [] []) (
    plain_block (Assign (Local 0) NoSuffix (AllOf (exprs (local 0 ∷ Not (local 1) ∷ []))) ∷ Assign (Local 1) NoSuffix (SomeOf (exprs (local 0 ∷ local 1
    ∷ []))) ∷ []))

truths_code : truths.code ≡
    at 0 0 (i.LoadL 0 1)
    ∷ at 5 1 (i.JumpIfNot 28)
    ∷ at 10 0 (i.LoadL 1 1)
    ∷ at 15 1 (i.JumpIf 28)
    ∷ at 20 0 (i.Lit 1)
    ∷ at 23 1 (i.Jump 31)
    ∷ at 28 0 (i.Lit 0)
    ∷ at 31 1 (i.StoreL 0 1)
    ∷ at 36 0 (i.LoadL 0 1)
    ∷ at 41 1 (i.JumpIf 64)
    ∷ at 46 0 (i.LoadL 1 1)
    ∷ at 51 1 (i.JumpIf 64)
    ∷ at 56 0 (i.Lit 0)
    ∷ at 59 1 (i.Jump 67)
    ∷ at 64 0 (i.Lit 1)
    ∷ at 67 1 (i.StoreL 1 1)
    ∷ at 72 0 i.Return
    ∷ []
unfolding differ words_in words_in_all words_before join point_of hidden hidden_expr hidden_exprs hidden_suffixes hidden_operations hidden_interval hidden_phrase hidden_arms hidden_stmts hidden_targets hidden_cases hidden_tests hidden_exits hidden_loop hidden_finish hidden_condition words_of words_given last_words
truths_code = refl

-- b ← NOT a; IF NOT (a AND b) THEN a ← 1; IF a OR b THEN a ← 2: an OR that is jumped by where it is false
abbrev inverted : Written
inverted = written_of (procedure (kinds []) (kinds (Ordinal ∷ Ordinal ∷ [])) [] []) (
    plain_block (Assign (Local 1) NoSuffix (Not (local 0)) ∷ If (Not (AllOf (exprs (local 0 ∷ local 1 ∷ [])))) (Assign (Local 0) NoSuffix (Number 1)) Null
    ∷ If (SomeOf (exprs (local 0 ∷ local 1 ∷ []))) (Assign (Local 0) NoSuffix (Number 2)) Null ∷ []))

inverted_code : inverted.code ≡
    at 0 0 (i.LoadL 0 1)
    ∷ at 5 1 i.Not
    ∷ at 6 1 (i.StoreL 1 1)
    ∷ at 11 0 (i.LoadL 0 1)
    ∷ at 16 1 (i.JumpIfNot 36)
    ∷ at 21 0 (i.LoadL 1 1)
    ∷ at 26 1 (i.JumpIfNot 36)
    ∷ at 31 0 (i.Jump 44)
    ∷ at 36 0 (i.Lit 1)
    ∷ at 39 1 (i.StoreL 0 1)
    ∷ at 44 0 (i.LoadL 0 1)
    ∷ at 49 1 (i.JumpIf 69)
    ∷ at 54 0 (i.LoadL 1 1)
    ∷ at 59 1 (i.JumpIf 69)
    ∷ at 64 0 (i.Jump 77)
    ∷ at 69 0 (i.Lit 2)
    ∷ at 72 1 (i.StoreL 0 1)
    ∷ at 77 0 i.Return
    ∷ []
unfolding differ words_in words_in_all words_before join point_of hidden hidden_expr hidden_exprs hidden_suffixes hidden_operations hidden_interval hidden_phrase hidden_arms hidden_stmts hidden_targets hidden_cases hidden_tests hidden_exits hidden_loop hidden_finish hidden_condition words_of words_given last_words
inverted_code = refl

-- IF a AND b THEN a ← 1
abbrev unless : Written
unless = written_of (procedure (kinds []) (kinds (Ordinal ∷ Ordinal ∷ [])) [] []) (
    If (AllOf (exprs (local 0 ∷ local 1 ∷ []))) (Assign (Local 0) NoSuffix (Number 1)) Null)

unless_code : unless.code ≡
    at 0 0 (i.LoadL 0 1)
    ∷ at 5 1 (i.JumpIfNot 28)
    ∷ at 10 0 (i.LoadL 1 1)
    ∷ at 15 1 (i.JumpIfNot 28)
    ∷ at 20 0 (i.Lit 1)
    ∷ at 23 1 (i.StoreL 0 1)
    ∷ at 28 0 i.Return
    ∷ []
unfolding differ words_in words_in_all words_before join point_of hidden hidden_expr hidden_exprs hidden_suffixes hidden_operations hidden_interval hidden_phrase hidden_arms hidden_stmts hidden_targets hidden_cases hidden_tests hidden_exits hidden_loop hidden_finish hidden_condition words_of words_given last_words
unless_code = refl

-- s ← "the second literal"; n ← s.length; n ← s[n]: s has two words
abbrev strings : Written
strings = written_of (procedure (kinds []) (kinds (Texts ∷ Ordinal ∷ [])) [] []) (
    plain_block (Assign (Local 0) NoSuffix (Literal 1) ∷ Assign (Local 1) NoSuffix (LengthOf (Variable (Local 0) NoSuffix 2))
    ∷ Assign (Local 1) NoSuffix (ByteOf (Variable (Local 0) NoSuffix 2) (local 1)) ∷ []))

strings_code : strings.code ≡
    at 0 0 (i.Str 2)
    ∷ at 3 2 (i.StoreL 0 2)
    ∷ at 8 0 (i.LoadL 0 2)
    ∷ at 13 2 i.StrLen
    ∷ at 14 1 (i.StoreL 2 1)
    ∷ at 19 0 (i.LoadL 0 2)
    ∷ at 24 2 (i.LoadL 2 1)
    ∷ at 29 3 i.StrAt
    ∷ at 30 1 (i.StoreL 2 1)
    ∷ at 35 0 i.Return
    ∷ []
unfolding differ words_in words_in_all words_before join point_of hidden hidden_expr hidden_exprs hidden_suffixes hidden_operations hidden_interval hidden_phrase hidden_arms hidden_stmts hidden_targets hidden_cases hidden_tests hidden_exits hidden_loop hidden_finish hidden_condition words_of words_given last_words
strings_code = refl

-- x ← t[i].y; t[x - 2].y ← x, for t an ARRAY [2..5] of records of a STRING and y: an element has three words, y lies two words in
abbrev elements : Written
elements = written_of (procedure (kinds []) (kinds (Array 4 (Record (kinds (Texts ∷ Ordinal ∷ []))) ∷ Ordinal ∷ Ordinal ∷ [])) [] []) (
    plain_block (Assign (Local 2) NoSuffix (Variable (Local 0) (Index Every 2 4 3 (local 1) (Field 1 2 NoSuffix)) 1)
    ∷ Assign (Local 0) (Index (From Unsigned 0 32767) 2 4 3 (Operate (local 2) (Then Every operator.Subtract (Number 2) NoOperation))
    (Field 1 2 NoSuffix)) (local 2) ∷ []))

elements_code : elements.code ≡
    at 0 0 (i.Lit 2)
    ∷ at 3 1 (i.LoadL 12 1)
    ∷ at 8 2 (i.Lit 2)
    ∷ at 11 3 i.Sub
    ∷ at 12 2 (i.Index 4 3)
    ∷ at 17 1 (i.LoadLX 0 12 1)
    ∷ at 24 1 (i.StoreL 13 1)
    ∷ at 29 0 (i.Lit 2)
    ∷ at 32 1 (i.LoadL 13 1)
    ∷ at 37 2 (i.Lit 2)
    ∷ at 40 3 i.Sub
    ∷ at 41 2 (i.CheckC 0 32767)
    ∷ at 46 2 (i.Lit 2)
    ∷ at 49 3 i.Sub
    ∷ at 50 2 (i.Index 4 3)
    ∷ at 55 1 (i.LoadL 13 1)
    ∷ at 60 2 (i.StoreLX 0 12 1)
    ∷ at 67 0 i.Return
    ∷ []
unfolding differ words_in words_in_all words_before join point_of hidden hidden_expr hidden_exprs hidden_suffixes hidden_operations hidden_interval hidden_phrase hidden_arms hidden_stmts hidden_targets hidden_cases hidden_tests hidden_exits hidden_loop hidden_finish hidden_condition words_of words_given last_words
elements_code = refl

-- g[i] ← h.b, for globals g an ARRAY [0..2], whose index type begins at 0, and h a record of two words
abbrev globals_too : Written
globals_too = written_of (procedure (kinds (Array 3 Ordinal ∷ Record (kinds (Ordinal ∷ Ordinal ∷ [])) ∷ [])) (kinds (Ordinal ∷ [])) [] []) (
    Assign (Global 0) (Index Every 0 3 1 (local 0) NoSuffix) (Variable (Global 1) (Field 1 1 NoSuffix) 1))

globals_too_code : globals_too.code ≡
    at 0 0 (i.Lit 0)
    ∷ at 3 1 (i.LoadL 0 1)
    ∷ at 8 2 (i.Index 3 1)
    ∷ at 13 1 (i.LoadG 4 1)
    ∷ at 18 2 (i.StoreGX 0 3 1)
    ∷ at 25 0 i.Return
    ∷ []
unfolding differ words_in words_in_all words_before join point_of hidden hidden_expr hidden_exprs hidden_suffixes hidden_operations hidden_interval hidden_phrase hidden_arms hidden_stmts hidden_targets hidden_cases hidden_tests hidden_exits hidden_loop hidden_finish hidden_condition words_of words_given last_words
globals_too_code = refl

-- r ← [s: "..", n: 5], where the record has n first; it has three words, and the string comes over n: x ← that record's s
abbrev made : Written
made = written_of (procedure (kinds []) (kinds (Record (kinds (Ordinal ∷ Texts ∷ [])) ∷ Texts ∷ [])) [] []) (
    plain_block (Assign (Local 0) NoSuffix (Construct (1 ∷ 0 ∷ []) (exprs (Literal 0 ∷ Number 5 ∷ [])))
    ∷ Assign (Local 1) NoSuffix (FieldOf (Construct [] (exprs (Number 5 ∷ Literal 0 ∷ []))) (part 1 1 2 ∷ [])) ∷ []))

made_code : made.code ≡
    at 0 0 (i.Str 1)
    ∷ at 3 2 (i.Lit 5)
    ∷ at 6 3 (i.Roll 2 1)
    ∷ at 11 3 (i.StoreL 0 3)
    ∷ at 16 0 (i.Lit 5)
    ∷ at 19 1 (i.Str 1)
    ∷ at 22 3 (i.Roll 1 2)
    ∷ at 27 3 (i.Pop 1)
    ∷ at 30 2 (i.StoreL 3 2)
    ∷ at 35 0 i.Return
    ∷ []
unfolding differ words_in words_in_all words_before join point_of hidden hidden_expr hidden_exprs hidden_suffixes hidden_operations hidden_interval hidden_phrase hidden_arms hidden_stmts hidden_targets hidden_cases hidden_tests hidden_exits hidden_loop hidden_finish hidden_condition words_of words_given last_words
made_code = refl

-- a, b: INTEGER; c, d: STRING ← "..": each is set to zero first, and a copy is made of the first
abbrev declared : Written
declared = written_of (procedure (kinds []) (kinds (Ordinal ∷ Ordinal ∷ Texts ∷ Texts ∷ [])) [] []) (
    plain_block (Declare (Local 0 ∷ Local 1 ∷ []) Ordinal ∷ DeclareAs (Local 2 ∷ Local 3 ∷ []) Texts (Literal 0) ∷ []))

declared_code : declared.code ≡
    at 0 0 (i.ZeroL 0 1)
    ∷ at 5 0 (i.ZeroL 1 1)
    ∷ at 10 0 (i.ZeroL 2 2)
    ∷ at 15 0 (i.ZeroL 4 2)
    ∷ at 20 0 (i.Str 1)
    ∷ at 23 2 (i.StoreL 2 2)
    ∷ at 28 0 (i.LoadL 2 2)
    ∷ at 33 2 (i.StoreL 4 2)
    ∷ at 38 0 i.Return
    ∷ []
unfolding differ words_in words_in_all words_before join point_of hidden hidden_expr hidden_exprs hidden_suffixes hidden_operations hidden_interval hidden_phrase hidden_arms hidden_stmts hidden_targets hidden_cases hidden_tests hidden_exits hidden_loop hidden_finish hidden_condition words_of words_given last_words
declared_code = refl

-- [t[i], s] ← [7, 8, ".."], by keys: the first field to an element, the last to s; the second is dropped
abbrev extracted : Written
extracted = written_of (procedure (kinds []) (kinds (Array 3 Ordinal ∷ Ordinal ∷ Texts ∷ [])) [] []) (
    Extract true (AndTarget (part 0 0 1) (Local 0) (Index Every 0 3 1 (local 1) NoSuffix) (From Signed 0 9) (AndTarget (part 2 2 2)
    (Local 2) NoSuffix Every NoTargets))
    (Construct [] (exprs (Number 7 ∷ Number 8 ∷ Literal 0 ∷ []))))

extracted_code : extracted.code ≡
    at 0 0 (i.Lit 7)
    ∷ at 3 1 (i.Lit 8)
    ∷ at 6 2 (i.Str 1)
    ∷ at 9 4 (i.Lit 0)
    ∷ at 12 5 (i.LoadL 3 1)
    ∷ at 17 6 (i.Index 3 1)
    ∷ at 22 5 (i.Roll 1 4)
    ∷ at 27 5 (i.CheckI 0 9)
    ∷ at 32 5 (i.StoreLX 0 3 1)
    ∷ at 39 3 (i.StoreL 4 2)
    ∷ at 44 1 (i.Pop 1)
    ∷ at 47 0 i.Return
    ∷ []
unfolding differ words_in words_in_all words_before join point_of hidden hidden_expr hidden_exprs hidden_suffixes hidden_operations hidden_interval hidden_phrase hidden_arms hidden_stmts hidden_targets hidden_cases hidden_tests hidden_exits hidden_loop hidden_finish hidden_condition words_of words_given last_words
extracted_code = refl

-- F[s: "..", n: x] and G[x], dropped, for F: PROCEDURE [n: INTEGER, s: STRING] with two words of results
abbrev called : Written
called = written_of (procedure (kinds []) (kinds (Ordinal ∷ [])) [] []) (
    plain_block (Perform (Call (OwnProcedure 2) (1 ∷ 0 ∷ []) (exprs (Literal 0 ∷ local 0 ∷ [])) 2 NoPhrase)
    ∷ Perform (Call (OwnProcedure 1) [] (exprs (local 0 ∷ [])) 1 NoPhrase) ∷ []))

called_code : called.code ≡
    at 0 0 (i.Str 1)
    ∷ at 3 2 (i.LoadL 0 1)
    ∷ at 8 3 (i.Roll 2 1)
    ∷ at 13 3 (i.Call 2)
    ∷ at 18 2 (i.Pop 2)
    ∷ at 21 0 (i.LoadL 0 1)
    ∷ at 26 1 (i.Call 1)
    ∷ at 31 1 (i.Pop 1)
    ∷ at 34 0 i.Return
    ∷ []
unfolding differ words_in words_in_all words_before join point_of hidden hidden_expr hidden_exprs hidden_suffixes hidden_operations hidden_interval hidden_phrase hidden_arms hidden_stmts hidden_targets hidden_cases hidden_tests hidden_exits hidden_loop hidden_finish hidden_condition words_of words_given last_words
called_code = refl
