-- Programs with arms, jumps out of them and UNWIND, each with the least turns with which its end is reached and with one less.
use Rattle.std.specs.Prelude.{◌≡◌, refl, ℕ, [], ◌∷◌, codes}
use Rattle.mesa_types.specs.Typed.{Number, Operate, Relate, Raise, NoSuffix, Index, NoOperation, Then, NoPhrase, Catch, NoArms, AndArm, Stmt, Marked, Assign, Perform, If, Block, Jump, ReturnWith, Resume, Reject, Retry, Continue, NoExits, AndExit, Always, NoFinish}
use Rattle.mesa_types.specs.declared.typed_parts.Home.TheVariants.{Local, Global}
use Rattle.mesa_types.specs.declared.typed_parts.Base.TheVariants.{Signed}
use Rattle.mesa_types.specs.declared.typed_parts.Range.TheVariants.{Every}
use Rattle.mesa_types.specs.declared.typed_parts.Operator.TheVariants.{Divide}
use Rattle.mesa_base.specs.declared.relation.Relation.TheVariants.{Less}
use Rattle.mesa_types.specs.declared.typed_parts.Goal.TheVariants.{PastStatement, ToLabel}
use Rattle.mesa_types.specs.declared.typed_parts.Raised.TheVariants.{OwnSignal, TheUnnamed}
use Rattle.mesa_types.specs.declared.typed_parts.Label.TheVariants.{OnAny, OnUnwind, OnOwn, OnBounds, OnZero, OnLinked}
use Rattle.source_meaning.specs.Program.{Unnamed, Program, single}
use Rattle.source_meaning.specs.State.{Normal, Uncaught, Spent}
use Rattle.source_meaning.proofs.Made.{Saw, seen, exprs, stmts, words, block, global, local, declare_as, assign, plus, calls, perform, caught, arm, one_arm, enabling, raises, looping, signal, error, procedure, write_char, write_decimal, read_char, module_with, alone_with}

abbrev says : ℕ → ℕ → Stmt
says ch n = block (write_char ch ∷ Continue n ∷ [])

-- E: ERROR; P: WriteChar['p]; ERROR E; P[! E => BEGIN k ← k + 1; IF k < 4 THEN RETRY ELSE CONTINUE END]; WriteDecimal[k];
abbrev retried : Program
retried = alone_with 1 (error ∷ []) (procedure 0 0 0 (block (write_char 112 ∷ raises (OwnSignal 0) ∷ [])) ∷ []) (
    declare_as 0 (Number 0)
    ∷ caught 0 1 (one_arm (OnOwn 0) (block (assign 0 (plus (global 0) (Number 1)) ∷ If (Relate Signed Less (global 0) (Number 4)) (Retry 0) (Continue 0) ∷ [])))
    ∷ write_decimal (global 0)
    ∷ [])

retried_18 : seen retried 18 ≡ Saw (codes "pppp4") Normal 0
unfolding seen
retried_18 = refl

retried_17 : seen retried 17 ≡ Saw (codes "pppp") Spent 0
unfolding seen
retried_17 = refl

-- E, T: ERROR; D: ERROR T; C: ENABLE UNWIND => D[]; ERROR E; B: C[! T => BEGIN WriteChar['t]; CONTINUE END]; WriteChar['b];
-- A: B[! E => BEGIN WriteChar['a]; CONTINUE END]; WriteChar['d]; A[]; the jump to B replaces the jump to A
abbrev replaced : Program
replaced = alone_with 0 (error ∷ error ∷ []) (
    procedure 0 0 0 (raises (OwnSignal 1))
    ∷ procedure 0 0 0 (enabling 0 (one_arm OnUnwind (perform 1 NoPhrase)) (raises (OwnSignal 0) ∷ []))
    ∷ procedure 0 0 0 (block (caught 0 2 (one_arm (OnOwn 1) (says 116 0)) ∷ write_char 98 ∷ []))
    ∷ procedure 0 0 0 (block (caught 0 3 (one_arm (OnOwn 0) (says 97 0)) ∷ write_char 100 ∷ []))
    ∷ []) (perform 4 NoPhrase ∷ [])

replaced_14 : seen replaced 14 ≡ Saw (codes "atbd") Normal 0
unfolding seen
replaced_14 = refl

replaced_13 : seen replaced 13 ≡ Saw (codes "atb") Spent 0
unfolding seen
replaced_13 = refl

-- E, T: ERROR; D: ERROR T; C: ENABLE UNWIND => WriteChar['c]; ERROR E; B: ENABLE UNWIND => WriteChar['b]; C[! E => D[]];
-- A: B[! T => BEGIN WriteChar['t]; CONTINUE END]; WriteChar['d]; A[]; the arm of B is given up first
abbrev out_of_an_arm : Program
out_of_an_arm = alone_with 0 (error ∷ error ∷ []) (
    procedure 0 0 0 (raises (OwnSignal 1))
    ∷ procedure 0 0 0 (enabling 0 (one_arm OnUnwind (write_char 99)) (raises (OwnSignal 0) ∷ []))
    ∷ procedure 0 0 0 (enabling 0 (one_arm OnUnwind (write_char 98)) (caught 1 2 (one_arm (OnOwn 0) (perform 1 NoPhrase)) ∷ []))
    ∷ procedure 0 0 0 (block (caught 0 3 (one_arm (OnOwn 1) (says 116 0)) ∷ write_char 100 ∷ []))
    ∷ []) (perform 4 NoPhrase ∷ [])

out_of_an_arm_15 : seen out_of_an_arm 15 ≡ Saw (codes "tcbd") Normal 0
unfolding seen
out_of_an_arm_15 = refl

out_of_an_arm_14 : seen out_of_an_arm 14 ≡ Saw (codes "tcb") Spent 0
unfolding seen
out_of_an_arm_14 = refl

-- E: ERROR; Q: ERROR E; P: PROCEDURE RETURNS [r: INTEGER] = Q[! E => RETURN[3]]; r ← 9; WriteDecimal[P[]];
-- DO Q[! E => EXIT]; WriteChar['n] ENDLOOP; WriteChar['x];
abbrev left : Program
left = alone_with 0 (error ∷ []) (
    procedure 0 0 0 (raises (OwnSignal 0))
    ∷ procedure 0 1 0 (block (caught 0 1 (one_arm (OnOwn 0) (ReturnWith 1 0 [] (exprs (Number 3 ∷ [])))) ∷ Assign (Local 0) NoSuffix (Number 9) ∷ []))
    ∷ []) (
    write_decimal (calls 2 [] NoPhrase)
    ∷ looping 0 Always (caught 2 1 (one_arm (OnOwn 0) (Jump 1 (PastStatement 0))) ∷ write_char 110 ∷ []) NoFinish
    ∷ write_char 120
    ∷ [])

left_10 : seen left 10 ≡ Saw (codes "3x") Normal 0
unfolding seen
left_10 = refl

left_9 : seen left 9 ≡ Saw (codes "3") Spent 0
unfolding seen
left_9 = refl

-- Q: ERROR; Q[! ANY => CONTINUE]; ERROR;
abbrev any : Program
any = alone_with 0 [] (procedure 0 0 0 (raises TheUnnamed) ∷ []) (caught 0 1 (one_arm OnAny (Continue 0)) ∷ raises TheUnnamed ∷ [])

any_5 : seen any 5 ≡ Saw [] (Uncaught Unnamed) 0
unfolding seen
any_5 = refl

any_4 : seen any 4 ≡ Saw [] Spent 0
unfolding seen
any_4 = refl

-- S: SIGNAL [x: INTEGER] RETURNS [INTEGER]; WriteDecimal[SIGNAL S[4 ! S => RESUME[x + 1]]]; x is a variable of the body
abbrev resumed : Program
resumed = single (module_with (words 0) (signal 1 1 ∷ []) [] [] 1 (block (
    Marked 0 (write_decimal (Raise (OwnSignal 0) [] (exprs (Number 4 ∷ [])) 1 (Catch 0 (AndArm (OnOwn 0 ∷ []) 0 1 (Resume [] (exprs (plus (local 0) (Number 1) ∷ []))) NoArms))))
    ∷ [])))

resumed_4 : seen resumed 4 ≡ Saw (codes "5") Normal 0
unfolding seen
resumed_4 = refl

resumed_3 : seen resumed 3 ≡ Saw [] Spent 0
unfolding seen
resumed_3 = refl

-- E: ERROR; P: ERROR E; R: P[! E => REJECT]; R[! E => BEGIN WriteChar['o]; CONTINUE END]; WriteChar['e];
abbrev rejected : Program
rejected = alone_with 0 (error ∷ []) (
    procedure 0 0 0 (raises (OwnSignal 0))
    ∷ procedure 0 0 0 (caught 0 1 (one_arm (OnOwn 0) Reject))
    ∷ []) (caught 0 2 (one_arm (OnOwn 0) (says 111 0)) ∷ write_char 101 ∷ [])

rejected_8 : seen rejected 8 ≡ Saw (codes "oe") Normal 0
unfolding seen
rejected_8 = refl

rejected_7 : seen rejected 7 ≡ Saw (codes "o") Spent 0
unfolding seen
rejected_7 = refl

-- the same where the inner arm comes to its end without a word, and where it has another signal first: the first that fits
-- is run, and no other of its phrase
abbrev first_fits : Program
first_fits = alone_with 0 (error ∷ error ∷ []) (
    procedure 0 0 0 (raises (OwnSignal 0))
    ∷ procedure 0 0 0 (caught 0 1 (arm (OnOwn 1) (write_char 49) (arm (OnOwn 0) (write_char 50) (one_arm OnAny (write_char 51)))))
    ∷ []) (caught 0 2 (one_arm OnAny (says 111 0)) ∷ [])

first_fits_8 : seen first_fits 8 ≡ Saw (codes "2o") Normal 0
unfolding seen
first_fits_8 = refl

first_fits_7 : seen first_fits 7 ≡ Saw (codes "2") Spent 0
unfolding seen
first_fits_7 = refl

-- E, T: ERROR; P: ENABLE UNWIND => BEGIN Q[! T => WriteChar['t]]; WriteChar['u] END; ERROR E; Q: ERROR T;
-- P[! E => CONTINUE, T => BEGIN WriteChar['x]; CONTINUE END]; WriteChar['d];
-- what is raised in an UNWIND arm is offered to the phrases beyond it, here to that of the call of P
abbrev raised_unwinding : Program
raised_unwinding = alone_with 0 (error ∷ error ∷ []) (
    procedure 0 0 0 (enabling 0 (one_arm OnUnwind (block (caught 1 2 (one_arm (OnOwn 1) (write_char 116)) ∷ write_char 117 ∷ []))) (raises (OwnSignal 0) ∷ []))
    ∷ procedure 0 0 0 (raises (OwnSignal 1))
    ∷ []) (caught 0 1 (arm (OnOwn 0) (Continue 0) (one_arm (OnOwn 1) (says 120 0))) ∷ write_char 100 ∷ [])

raised_unwinding_12 : seen raised_unwinding 12 ≡ Saw (codes "txd") Normal 0
unfolding seen
raised_unwinding_12 = refl

raised_unwinding_11 : seen raised_unwinding 11 ≡ Saw (codes "tx") Spent 0
unfolding seen
raised_unwinding_11 = refl

-- E: ERROR; P: ERROR E; BEGIN P[! E => GOTO out]; WriteChar['n] EXITS out => WriteChar['x] END; WriteChar['e];
abbrev to_a_label : Program
to_a_label = alone_with 0 (error ∷ []) (procedure 0 0 0 (raises (OwnSignal 0)) ∷ []) (
    Block NoPhrase (stmts (caught 0 1 (one_arm (OnOwn 0) (Jump 1 (ToLabel 0))) ∷ write_char 110 ∷ [])) (AndExit (1 ∷ []) (write_char 119) (AndExit (0 ∷ []) (write_char 120) NoExits))
    ∷ write_char 101
    ∷ [])

to_a_label_6 : seen to_a_label 6 ≡ Saw (codes "xe") Normal 0
unfolding seen
to_a_label_6 = refl

to_a_label_5 : seen to_a_label 5 ≡ Saw (codes "x") Spent 0
unfolding seen
to_a_label_5 = refl

-- predeclared errors: a[3] ← 1 caught by BoundsFault, 1 / 0 by ZeroDivisor, ReadChar at the end by IODefs.NoInput
abbrev predeclared : Program
predeclared = alone_with 1 [] (
    procedure 0 0 0 (Assign (Global 0) (Index Every 0 3 1 (Number 3) NoSuffix) (Number 1))
    ∷ procedure 0 0 0 (assign 0 (Operate (Number 1) (Then Every (Divide Signed) (Number 0) NoOperation)))
    ∷ procedure 0 0 0 (Perform read_char)
    ∷ []) (
    caught 0 1 (arm (OnZero) (says 122 0) (one_arm OnBounds (says 98 0)))
    ∷ caught 0 2 (arm (OnBounds) (says 98 0) (one_arm OnZero (says 122 0)))
    ∷ caught 0 3 (one_arm (OnLinked 0 5) (says 110 0))
    ∷ [])

predeclared_14 : seen predeclared 14 ≡ Saw (codes "bzn") Normal 0
unfolding seen
predeclared_14 = refl

predeclared_13 : seen predeclared 13 ≡ Saw (codes "bz") Spent 0
unfolding seen
predeclared_13 = refl
