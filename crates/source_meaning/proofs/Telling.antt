-- The programs of which a wrong definition of signals, jumps, loops or instances says something else, each with the least
-- turns with which its end is reached.
use Rattle.std.specs.Prelude.{◌≡◌, refl, ℕ, List, [], ◌∷◌, map, codes, false}
use Rattle.mesa_types.specs.Typed.{Number, Perform, Call, If, For, Between, Relate, Resume, Retry, Continue, Jump, ReturnWith, NoExprs, NoPhrase, Catch, NoExits, LoopOf, NoFinish, Finished, Always, Null, Marked, Stmt, While, Procedure, Module}
use Rattle.mesa_types.specs.declared.typed_parts.Base.TheVariants.{Signed}
use Rattle.mesa_base.specs.declared.relation.Relation.TheVariants.{Less, Greater}
use Rattle.mesa_types.specs.declared.typed_parts.Goal.TheVariants.{PastStatement}
use Rattle.mesa_types.specs.declared.typed_parts.Callee.TheVariants.{LinkedProcedure}
use Rattle.mesa_types.specs.declared.typed_parts.Raised.TheVariants.{OwnSignal}
use Rattle.mesa_types.specs.declared.typed_parts.Label.TheVariants.{OnUnwind, OnOwn, OnLinked}
use Rattle.mesa_types.specs.declared.typed_parts.Given.TheVariants.{NoVariable}
use Rattle.source_meaning.specs.Program.{WriteChar, WriteDecimal, WriteString, SignalOf, ToProcedure, ToHost, ToSignal, Target, Program}
use Rattle.source_meaning.specs.State.{End, Normal, Uncaught, Spent, FrameLimit}
use Rattle.source_meaning.proofs.Made.{Saw, seen, seen_among, exprs, words, block, global, local, declare_as, assign, plus, minus, calls, perform, caught, one_arm, enabling, raises, looping, signal, error, procedure, write_char, write_decimal, module_with, alone_with, instance}

-- E: ERROR; C: ENABLE UNWIND => WriteChar['c]; ERROR E; B: ENABLE UNWIND => WriteChar['b]; C[];
abbrev c : Procedure
c = procedure 0 0 0 (enabling 0 (one_arm OnUnwind (write_char 99)) (raises (OwnSignal 0) ∷ []))

abbrev b : Procedure
b = procedure 0 0 0 (enabling 0 (one_arm OnUnwind (write_char 98)) (perform 1 NoPhrase ∷ []))

-- A: B[! E => BEGIN WriteChar['a]; CONTINUE END]; WriteChar['d]; and the module's A[];
abbrev unwinding : Program
unwinding = alone_with 0 (error ∷ []) (
    c ∷ b ∷ procedure 0 0 0 (block (caught 0 2 (one_arm (OnOwn 0) (block (write_char 97 ∷ Continue 0 ∷ []))) ∷ write_char 100 ∷ []))
    ∷ []) (perform 3 NoPhrase ∷ [])

-- turn by turn: the arm is run before what it leaves is unwound, from the innermost outward
unwinding_0_to_12 : map (seen unwinding) (0 ∷ 6 ∷ 7 ∷ 8 ∷ 9 ∷ 10 ∷ 11 ∷ 12 ∷ []) ≡
    Saw [] Spent 0 ∷ Saw [] Spent 0 ∷ Saw (codes "a") Spent 0 ∷ Saw (codes "a") Spent 0 ∷ Saw (codes "ac") Spent 0 ∷ Saw (codes "ac") Spent 0
    ∷ Saw (codes "acb") Spent 0 ∷ Saw (codes "acbd") Normal 0 ∷ []
unfolding seen
unwinding_0_to_12 = refl

-- A: ENABLE E => BEGIN WriteChar['a]; CONTINUE END; BEGIN ENABLE UNWIND => WriteChar['x]; B[] END; the module's A[]; WriteChar['d];
abbrev own_frame : Program
own_frame = alone_with 0 (error ∷ []) (
    c ∷ b ∷ procedure 0 0 0 (enabling 0 (one_arm (OnOwn 0) (block (write_char 97 ∷ Continue 0 ∷ []))) (enabling 1 (one_arm OnUnwind (write_char 120)) (perform 2 NoPhrase ∷ []) ∷ []))
    ∷ []) (perform 3 NoPhrase ∷ write_char 100 ∷ [])

own_frame_12 : seen own_frame 12 ≡ Saw (codes "acbd") Normal 0
unfolding seen
own_frame_12 = refl

-- S: SIGNAL; R: SIGNAL S; Q: R[! S => BEGIN WriteChar['i]; SIGNAL S; WriteChar['j]; RESUME END];
-- Q[! S => BEGIN WriteChar['o]; RESUME END]; WriteChar['e];
abbrev raised_in_an_arm : Program
raised_in_an_arm = alone_with 0 (signal 0 0 ∷ []) (
    procedure 0 0 0 (raises (OwnSignal 0))
    ∷ procedure 0 0 0 (caught 0 1 (one_arm (OnOwn 0) (block (write_char 105 ∷ raises (OwnSignal 0) ∷ write_char 106 ∷ Resume [] NoExprs ∷ []))))
    ∷ []) (caught 0 2 (one_arm (OnOwn 0) (block (write_char 111 ∷ Resume [] NoExprs ∷ []))) ∷ write_char 101 ∷ [])

raised_in_an_arm_11 : seen raised_in_an_arm 11 ≡ Saw (codes "ioje") Normal 0
unfolding seen
raised_in_an_arm_11 = refl

raised_in_an_arm_10 : seen raised_in_an_arm 10 ≡ Saw (codes "ioj") Spent 0
unfolding seen
raised_in_an_arm_10 = refl

-- S: SIGNAL; R: ENABLE UNWIND => WriteChar['u]; SIGNAL S; WriteChar['r]; R[! S => RESUME]; SIGNAL S;
-- neither what is resumed nor what nothing catches is unwound
abbrev not_unwound : Program
not_unwound = alone_with 0 (signal 0 0 ∷ []) (
    procedure 0 0 0 (enabling 0 (one_arm OnUnwind (write_char 117)) (raises (OwnSignal 0) ∷ write_char 114 ∷ []))
    ∷ []) (caught 0 1 (one_arm (OnOwn 0) (Resume [] NoExprs)) ∷ perform 1 NoPhrase ∷ [])

not_unwound_7 : seen not_unwound 7 ≡ Saw (codes "r") (Uncaught (SignalOf 0 0)) 0
unfolding seen
not_unwound_7 = refl

-- E: ERROR; Q: ERROR E; DO EXIT REPEAT FINISHED => WriteChar['f] ENDLOOP;
-- WHILE k < 1 DO Q[! E => CONTINUE]; k ← k + 1 REPEAT FINISHED => WriteChar['g] ENDLOOP;
abbrev finished : Program
finished = alone_with 1 (error ∷ []) (procedure 0 0 0 (raises (OwnSignal 0)) ∷ []) (
    looping 0 Always (Jump 0 (PastStatement 0) ∷ []) (Finished (write_char 102))
    ∷ looping 0 (While (Relate Signed Less (global 0) (Number 1)))
    (caught 2 1 (one_arm (OnOwn 0) (Continue 2)) ∷ assign 0 (plus (global 0) (Number 1)) ∷ []) (Finished (write_char 103))
    ∷ [])

finished_6 : seen finished 6 ≡ Saw (codes "g") Normal 0
unfolding seen
finished_6 = refl

-- E: ERROR; n: INTEGER ← 0; BEGIN ENABLE E => IF n < 2 THEN RETRY ELSE CONTINUE; k: INTEGER ← n; WriteDecimal[k]; k ← 7;
-- n ← n + 1; ERROR E END; WriteDecimal[n];
abbrev declared_again : Program
declared_again = alone_with 2 (error ∷ []) [] (
    declare_as 0 (Number 0)
    ∷ enabling 0 (one_arm (OnOwn 0) (If (Relate Signed Less (global 0) (Number 2)) (Retry 0) (Continue 0)))
    (declare_as 1 (global 0) ∷ write_decimal (global 1) ∷ assign 1 (Number 7) ∷ assign 0 (plus (global 0) (Number 1)) ∷ raises (OwnSignal 0) ∷ [])
    ∷ write_decimal (global 0)
    ∷ [])

declared_again_8 : seen declared_again 8 ≡ Saw (codes "012") Normal 0
unfolding seen
declared_again_8 = refl

declared_again_7 : seen declared_again 7 ≡ Saw (codes "01") Spent 0
unfolding seen
declared_again_7 = refl

-- Counter: n: INTEGER ← 0; Full: PUBLIC ERROR; Next: PUBLIC PROCEDURE RETURNS [INTEGER] = n ← n + 1; IF n > 2 THEN ERROR Full;
-- RETURN[n]; Other: Go: PUBLIC PROCEDURE = THROUGH [1..3] DO WriteDecimal[CounterDefs.Next[]] ENDLOOP; Main:
-- WriteDecimal[CounterDefs.Next[]]; OtherDefs.Go[! CounterDefs.Full => BEGIN WriteChar['x]; CONTINUE END];
-- Main has the counter b, Other the counter a
abbrev counter : Module
counter = module_with (words 1) (error ∷ []) [] (
    procedure 0 1 0 (block (
    assign 0 (plus (global 0) (Number 1))
    ∷ If (Relate Signed Greater (global 0) (Number 2)) (raises (OwnSignal 0)) Null
    ∷ ReturnWith 0 0 [] (exprs (global 0 ∷ []))
    ∷ []))
    ∷ []) 0 (block (declare_as 0 (Number 0) ∷ []))

abbrev next_of : Stmt
next_of = write_decimal (Call (LinkedProcedure 1 0) [] NoExprs 1 NoPhrase)

abbrev the_host : List Target
the_host = ToHost WriteChar ∷ ToHost WriteString ∷ ToHost WriteDecimal ∷ []

abbrev one_more : Module
one_more = module_with (words 1) [] [] [] 0 (block (assign 0 (plus (global 0) (Number 1)) ∷ write_decimal (global 0) ∷ []))

abbrev two_counters : Program
two_counters = record {
  instances =
      instance (codes "a") counter []
      ∷ instance (codes "b") counter []
      ∷ instance (codes "Other") (module_with (words 0) [] [] (procedure 0 0 0 (Marked 0 (For NoVariable false Signed (Between (Number 1) false (Number 3) false) (LoopOf Always (Marked 1 (block (next_of ∷ []))) NoExits NoFinish))) ∷ []) 0 (block []))
      (the_host ∷ (ToProcedure 0 1 ∷ ToSignal (SignalOf 0 0) ∷ []) ∷ [])
      ∷ instance (codes "Main") (module_with (words 0) [] [] [] 0 (block (
      next_of
      ∷ Marked 0 (Perform (Call (LinkedProcedure 2 0) [] NoExprs 0 (Catch 0 (one_arm (OnLinked 1 1) (block (write_char 120 ∷ Continue 0 ∷ []))))))
      ∷ [])))
      (the_host ∷ (ToProcedure 1 1 ∷ ToSignal (SignalOf 1 0) ∷ []) ∷ (ToProcedure 2 1 ∷ []) ∷ [])
      ∷ [];
  control = 3 ∷ [];
}

two_counters_15 : seen two_counters 15 ≡ Saw (codes "112") (Uncaught (SignalOf 0 0)) 0
unfolding seen
two_counters_15 = refl

two_counters_14 : seen two_counters 14 ≡ Saw (codes "112") Spent 0
unfolding seen
two_counters_14 = refl

-- P: PROCEDURE [n: INTEGER] = IF n > 1 THEN P[n - 1]; P[2]; and P[3]; where 8,189 activations stand already
abbrev deep : ℕ → Program
deep n = alone_with 0 [] (
    procedure 1 0 0 (If (Relate Signed Greater (local 0) (Number 1)) (Perform (calls 1 (minus (local 0) (Number 1) ∷ []) NoPhrase)) Null)
    ∷ []) (Perform (calls 1 (Number n ∷ []) NoPhrase) ∷ [])

deep_2 : seen_among 8189 (deep 2) [] End 3 ≡ Saw [] Normal 0
unfolding seen_among
deep_2 = refl

deep_3 : seen_among 8189 (deep 3) [] End 4 ≡ Saw [] FrameLimit 0
unfolding seen_among
deep_3 = refl

deep_3_3 : seen_among 8189 (deep 3) [] End 3 ≡ Saw [] Spent 0
unfolding seen_among
deep_3_3 = refl

-- n: INTEGER; n ← n + 1; WriteDecimal[n]; in two instances: each has its own n
abbrev own_variables : Program
own_variables = record {
  instances = instance (codes "a") one_more (the_host ∷ []) ∷ instance (codes "b") one_more (the_host ∷ []) ∷ [];
  control = 0 ∷ 1 ∷ [];
}

own_variables_4 : seen own_variables 4 ≡ Saw (codes "11") Normal 0
unfolding seen
own_variables_4 = refl
