-- Codes that do not stand for their construct: in each one thing is wrong.
use Rattle.std.proofs.Common.{List, ◌≡◌, refl, ap, ℕ, zero, suc, ◌+◌, [], ◌∷◌, Option, Some, None, arith}
use Rattle.mesa_types.specs.declared.typed_parts.Base.TheVariants.{Signed}
use Rattle.mesa_types.specs.declared.typed_parts.Callee.TheVariants.{OwnProcedure}
use Rattle.mesa_types.specs.declared.typed_parts.Goal.TheVariants.{ToReturn}
use Rattle.mesa_types.specs.declared.typed_parts.Home.TheVariants.{Local}
use Rattle.mesa_types.specs.declared.typed_parts.Label.TheVariants.{OnAny, OnBounds}
use Rattle.mesa_types.specs.declared.typed_parts.Range.TheVariants.{Every, From}
use Rattle.mesa_base.specs.declared.relation.Relation.TheVariants.{Equal}
use Rattle.mesa_types.specs.Typed.{Ordinal, Texts, Number, Literal, Checked, Construct, Call, Phrase, Catch, NoArms, AndArm, NoSuffix, Null, Assign, Perform, Select, Block, Repeat, Endless, Jump, Otherwise, AndCase, NoTests, IfRelated, NoExits, AndExit, LoopOf, NoFinish, While, point_of}
use Rattle.mesa_types.specs.Shapes.{words_in, words_in_all, words_before}
use Rattle.mesa_types.specs.Counts.{hidden_expr, hidden_exprs, hidden_suffixes, words_of, words_given}
use Rattle.code_forms.specs.declared.instruction.Instruction.{Instruction}
use Rattle.code_forms.specs.declared.instruction.Instruction.TheVariants as i
use Rattle.code_forms.specs.declared.module_code.Label.TheVariants as l
use Rattle.code_forms.specs.declared.module_code.Arm as code_arm
use Rattle.code_forms.specs.declared.module_code.Label as code_label
use Rattle.code_forms.specs.declared.module_code.Phrase as code
use Rattle.code_forms.specs.Instructions.{bytes_of, number_of}
use Rattle.code_rules.specs.CodeFor.{StmtCode, PhraseCode, variable, element, number, literal, checked, call, construct, and_value, no_values, on_value, no_range, catch, and_arm, perform, assign, assign_element, select, block, loop, rounds, while, null, jump, and_statement, no_statements}
use Rattle.code_rules.specs.Reading.{Coded, Place, Offset, Caller, Own, no_more, one_more, Read, at_body, in_region, beyond}
use Rattle.code_rules.proofs.Made.{at, kinds, procedure, local, exprs, stmts, arm, phrase}

-- what is read tells the instruction's number and its first operand

abbrev first_operand : Instruction → ℕ
first_operand (i.StoreL slot words) = slot
first_operand (i.LeaveReturn arms) = arms
first_operand (i.Roll words over) = words
first_operand (i.Leave arms target) = arms
first_operand _ = 0

abbrev number_read : Option Read → ℕ
number_read None = 0
number_read (Some r) = number_of r.instruction

abbrev operand_read : Option Read → ℕ
operand_read None = 0
operand_read (Some r) = first_operand r.instruction

-- b ← 8 into the slot of a
abbrev shared_slot : Coded
shared_slot = procedure (kinds []) (kinds (Ordinal ∷ Ordinal ∷ [])) (
    at 0 0 (i.Lit 8)
    ∷ at 3 1 (i.StoreL 0 1)
    ∷ at 8 0 i.Return
    ∷ []) []

shared_slot_refused : StmtCode shared_slot (at_body shared_slot) (Assign (Local 1) NoSuffix (Number 8)) 0 8 → ⊥
unfolding words_in words_in_all words_before words_of hidden_expr
shared_slot_refused (assign c static (number (one_more r no_more)) (one_more q rest)) = omega (ap operand_read q, arith)
shared_slot_refused (assign_element c d f dynamic o p e q) = absurd dynamic

-- a ← b, where b was to be checked to lie in [0..9], and is not
abbrev unchecked : Coded
unchecked = procedure (kinds []) (kinds (Ordinal ∷ Ordinal ∷ [])) (
    at 0 0 (i.LoadL 1 1)
    ∷ at 5 1 (i.StoreL 0 1)
    ∷ at 10 0 i.Return
    ∷ []) []

unchecked_refused : StmtCode unchecked (at_body unchecked) (Assign (Local 0) NoSuffix (Checked (From Signed 0 9) (local 1))) 0 10 → ⊥
unfolding words_in words_in_all words_before words_of hidden_expr
unchecked_refused (assign c static (checked d (variable still (one_more r no_more)) (one_more q no_more)) rest) =
    omega (ap number_read q, arith)
unchecked_refused (assign c static (checked d (element f g dynamic o p q) x) rest) = absurd dynamic
unchecked_refused (assign_element c d f dynamic o p e q) = absurd dynamic

-- a ← [s: "..", n: 5], where the record has n first: the string was to come over n, and stays under it
abbrev out_of_order : Coded
out_of_order = procedure (kinds []) (kinds (Ordinal ∷ Texts ∷ [])) (
    at 0 0 (i.Str 1)
    ∷ at 3 2 (i.Lit 5)
    ∷ at 6 3 (i.StoreL 0 3)
    ∷ at 11 0 i.Return
    ∷ []) []

out_of_order_refused : StmtCode out_of_order (at_body out_of_order)
    (Assign (Local 0) NoSuffix (Construct (1 ∷ 0 ∷ []) (exprs (Literal 0 ∷ Number 5 ∷ [])))) 0 11 → ⊥
unfolding words_in words_in_all words_before words_of words_given hidden_expr hidden_exprs
out_of_order_refused (assign c static (construct d (and_value f (literal (one_more r no_more)) (and_value g (number (one_more q no_more)) no_values))
    (one_more x no_more)) rest) = omega (ap number_read x, arith)
out_of_order_refused (assign_element c d f dynamic o p e q) = absurd dynamic

-- the same, where the string comes over n by its second word alone
abbrev by_one_word : Coded
by_one_word = procedure (kinds []) (kinds (Ordinal ∷ Texts ∷ [])) (
    at 0 0 (i.Str 1)
    ∷ at 3 2 (i.Lit 5)
    ∷ at 6 3 (i.Roll 1 1)
    ∷ at 11 3 (i.StoreL 0 3)
    ∷ at 16 0 i.Return
    ∷ []) []

by_one_word_refused : StmtCode by_one_word (at_body by_one_word)
    (Assign (Local 0) NoSuffix (Construct (1 ∷ 0 ∷ []) (exprs (Literal 0 ∷ Number 5 ∷ [])))) 0 16 → ⊥
unfolding words_in words_in_all words_before words_of words_given hidden_expr hidden_exprs
by_one_word_refused (assign c static (construct d (and_value f (literal (one_more r no_more)) (and_value g (number (one_more q no_more)) no_values))
    (one_more x no_more)) rest) = omega (ap operand_read x, arith)
by_one_word_refused (assign_element c d f dynamic o p e q) = absurd dynamic

-- SELECT a FROM 1 => NULL ENDCASE inside another SELECT, whose hidden word is in slot 17: its own was to be in slot 18
abbrev shared_word : Coded
shared_word = procedure (kinds []) (kinds (Ordinal ∷ [])) (
    at 0 0 (i.LoadL 0 1)
    ∷ at 5 1 (i.StoreL 17 1)
    ∷ at 10 0 (i.LoadL 17 1)
    ∷ at 15 1 (i.Lit 1)
    ∷ at 18 2 i.Eq
    ∷ at 19 1 (i.JumpIfNot 24)
    ∷ at 24 0 i.Return
    ∷ []) []

shared_word_refused : StmtCode shared_word (beyond 1 (at_body shared_word))
    (Select (local 0) (AndCase (IfRelated Every Signed Equal (Number 1) NoTests) Null (Otherwise Null))) 0 24 → ⊥
unfolding words_in words_in_all words_before words_of hidden_expr hidden_suffixes
shared_word_refused (select c d (variable still (one_more r no_more)) (one_more q no_more) cs) = omega (ap operand_read q, arith)
shared_word_refused (select c d (element f g dynamic o p q) x cs) = absurd dynamic

-- WHILE a DO ENDLOOP without the jump back, so that no turn is spent
abbrev unspent : Coded
unspent = procedure (kinds []) (kinds (Ordinal ∷ [])) (
    at 0 0 (i.LoadL 0 1)
    ∷ at 5 1 (i.JumpIfNot 10)
    ∷ at 10 0 i.Return
    ∷ []) []

unspent_refused : StmtCode unspent (at_body unspent) (Repeat Endless (LoopOf (While (local 0)) Null NoExits NoFinish)) 0 10 → ⊥
unfolding words_in words_in_all words_before words_of hidden_expr hidden_suffixes
unspent_refused (loop (rounds offsets c d f g h no_more (while (on_value x (variable still (one_more r no_more)) (one_more q no_more))) null
    (one_more p rest) fin es)) = omega (ap number_read p, arith)
unspent_refused (loop (rounds offsets c d f g h no_more (while (on_value x (element y z dynamic o p q) r)) s rest fin es)) = absurd dynamic

-- RETURN out of two arms: one is left too few
abbrev one_arm_too_few : Coded
one_arm_too_few = procedure (kinds []) (kinds []) (
    at 0 0 (i.LeaveReturn 1)
    ∷ []) []

one_arm_too_few_refused : StmtCode one_arm_too_few (in_region (in_region (at_body one_arm_too_few))) (Jump 2 ToReturn) 0 3 → ⊥
unfolding point_of
one_arm_too_few_refused (jump (Offset target) is (one_more r rest)) = omega (ap operand_read r, arith)
one_arm_too_few_refused (jump Caller is (one_more r rest)) = omega (ap operand_read r, arith)

-- x ← G[x ! ANY => NULL], where the range goes one instruction too far, over the store
abbrev too_far : Coded
too_far = procedure (kinds []) (kinds (Ordinal ∷ [])) (
    at 0 0 (i.LoadL 0 1)
    ∷ at 5 1 (i.Call 1)
    ∷ at 10 1 (i.StoreL 0 1)
    ∷ at 15 0 i.Return
    ∷ at 16 0 i.ArmEnd
    ∷ []) (phrase 5 15 (arm (l.Any ∷ []) 0 0 16 17 ∷ []) ∷ [])

abbrev any_arm : Phrase
any_arm = Catch 0 (AndArm (OnAny ∷ []) 0 0 Null NoArms)

-- one instruction is as long as its bytes
ended : {P : Coded} {w : Place} {a b : ℕ} → Own P w [] a b → a ≡ b
ended no_more = refl

long : {P : Coded} {w : Place} {i : Instruction} {a b : ℕ} → Own P w (i ∷ []) a b → a + bytes_of i ≡ b
long (one_more r rest) = ended rest

abbrev first_of : Option code.Phrase → ℕ
first_of None = 0
first_of (Some p) = p.from

abbrev end_of : Option code.Phrase → ℕ
end_of None = 0
end_of (Some p) = p.to

-- of the one phrase of the table
phrase_is_long : {w v : Place} {a b : ℕ} → PhraseCode too_far w any_arm a b v → a + 5 ≡ b → ⊥
phrase_is_long no_range e = omega (e, arith)
phrase_is_long (catch zero regions longer is arms) e = omega (ap first_of is, ap end_of is, e, arith)
phrase_is_long (catch (suc j) regions longer is arms) e = omega (ap end_of is, e, arith)

too_far_refused : StmtCode too_far (at_body too_far) (Assign (Local 0) NoSuffix (Call (OwnProcedure 1) [] (exprs (local 0 ∷ [])) 1 any_arm)) 0 15 → ⊥
too_far_refused (assign c static (call d f es o ph q) rest) = phrase_is_long ph (long q)
too_far_refused (assign_element c d f dynamic o p e q) = absurd dynamic

-- BEGIN ENABLE ANY => NULL; a ← 1 EXITS l => a ← 2 END, where the range goes over the statement of the label
abbrev over_exits : Coded
over_exits = procedure (kinds []) (kinds (Ordinal ∷ [])) (
    at 0 0 (i.Lit 1)
    ∷ at 3 1 (i.StoreL 0 1)
    ∷ at 8 0 (i.Jump 21)
    ∷ at 13 0 (i.Lit 2)
    ∷ at 16 1 (i.StoreL 0 1)
    ∷ at 21 0 i.Return
    ∷ at 22 0 i.ArmEnd
    ∷ []) (phrase 0 21 (arm (l.Any ∷ []) 0 0 22 23 ∷ []) ∷ [])

phrase_is_over : {w v : Place} → PhraseCode over_exits w any_arm 0 8 v → ⊥
phrase_is_over (catch zero regions longer is arms) = omega (ap end_of is, arith)
phrase_is_over (catch (suc j) regions longer is arms) = omega (ap end_of is, arith)

over_exits_refused : StmtCode over_exits (at_body over_exits)
    (Block any_arm (stmts (Assign (Local 0) NoSuffix (Number 1) ∷ [])) (AndExit (0 ∷ []) (Assign (Local 0) NoSuffix (Number 2)) NoExits)) 0 21 → ⊥
unfolding words_in words_in_all words_before words_of hidden_expr
over_exits_refused (block offsets c d ph (and_statement f (assign g static (number (one_more r no_more)) (one_more q no_more)) no_statements) o es) =
    phrase_is_over ph
over_exits_refused (block offsets c d ph (and_statement f (assign_element g h x dynamic y z e q) no_statements) o es) = absurd dynamic

-- the same, where the range ends before the store, which is then outside of it
abbrev too_short : Coded
too_short = procedure (kinds []) (kinds (Ordinal ∷ [])) (
    at 0 0 (i.Lit 1)
    ∷ at 3 1 (i.StoreL 0 1)
    ∷ at 8 0 i.Return
    ∷ at 9 0 i.ArmEnd
    ∷ []) (phrase 0 3 (arm (l.Any ∷ []) 0 0 9 10 ∷ []) ∷ [])

phrase_is_short : {w v : Place} → PhraseCode too_short w any_arm 0 8 v → ⊥
phrase_is_short (catch zero regions longer is arms) = omega (ap end_of is, arith)
phrase_is_short (catch (suc j) regions longer is arms) = omega (ap end_of is, arith)

too_short_refused : StmtCode too_short (at_body too_short) (Block any_arm (stmts (Assign (Local 0) NoSuffix (Number 1) ∷ [])) NoExits) 0 8 → ⊥
unfolding words_in words_in_all words_before words_of hidden_expr
too_short_refused (block offsets c d ph (and_statement f (assign g static (number (one_more r no_more)) (one_more q no_more)) no_statements) o es) =
    phrase_is_short ph
too_short_refused (block offsets c d ph (and_statement f (assign_element g h x dynamic y z e q) no_statements) o es) = absurd dynamic

-- G[x ! BoundsFault => NULL; ANY => NULL], where the regions are in the other order, so that ANY would be asked first
abbrev swapped : Coded
swapped = procedure (kinds []) (kinds (Ordinal ∷ [])) (
    at 0 0 (i.LoadL 0 1)
    ∷ at 5 1 (i.Call 1)
    ∷ at 10 1 (i.Pop 1)
    ∷ at 13 0 i.Return
    ∷ at 14 0 i.ArmEnd
    ∷ at 15 0 i.ArmEnd
    ∷ []) (phrase 5 10 (arm (l.Any ∷ []) 0 0 14 15 ∷ arm (l.BoundsFault ∷ []) 0 0 15 16 ∷ []) ∷ [])

abbrev label_number : List code_label.Label → ℕ
label_number (l.Any ∷ ls) = 1
label_number (l.BoundsFault ∷ ls) = 2
label_number _ = 0

abbrev arms_number : List code_arm.Arm → ℕ
arms_number [] = 0
arms_number (a ∷ arms) = label_number a.labels

abbrev phrase_number : Option code.Phrase → ℕ
phrase_number None = 0
phrase_number (Some p) = arms_number p.arms

phrase_is_swapped : {w v : Place} {a b : ℕ}
    → PhraseCode swapped w (Catch 0 (AndArm (OnBounds ∷ []) 0 0 Null (AndArm (OnAny ∷ []) 0 0 Null NoArms))) a b v → a + 5 ≡ b → ⊥
phrase_is_swapped no_range e = omega (e, arith)
phrase_is_swapped (catch zero regions longer is (and_arm a c b s p arms)) e = omega (ap phrase_number is, arith)
phrase_is_swapped (catch (suc j) regions longer is (and_arm a c b s p arms)) e = omega (ap phrase_number is, arith)

swapped_refused : StmtCode swapped (at_body swapped)
    (Perform (Call (OwnProcedure 1) [] (exprs (local 0 ∷ [])) 1
    (Catch 0 (AndArm (OnBounds ∷ []) 0 0 Null (AndArm (OnAny ∷ []) 0 0 Null NoArms))))) 0 13 → ⊥
swapped_refused (perform c (call d f es o ph q) rest) = phrase_is_swapped ph (long q)
