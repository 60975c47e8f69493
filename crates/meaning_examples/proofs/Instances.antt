-- Programs of several instances, each with the least turns with which its end is reached and with one less.
use Rattle.std.specs.Prelude.{◌≡◌, refl, ℕ, List, [], ◌∷◌, codes}
use Rattle.mesa_types.specs.Typed.{Ordinal, Number, Call, Raise, NoExprs, NoSuffix, NoPhrase, Catch, NoArms, AndArm, Marked, Declare, DeclareAs, Assign, Perform, ReturnWith, Resume, Continue, Procedure, Module}
use Rattle.mesa_types.specs.declared.typed_parts.Home.TheVariants.{Local}
use Rattle.mesa_types.specs.declared.typed_parts.Operator.TheVariants.{Multiply}
use Rattle.mesa_types.specs.declared.typed_parts.Callee.TheVariants.{LinkedProcedure}
use Rattle.mesa_types.specs.declared.typed_parts.Raised.TheVariants.{OwnSignal}
use Rattle.mesa_types.specs.declared.typed_parts.Label.TheVariants.{OnLinked}
use Rattle.source_meaning.specs.Program.{WriteChar, WriteString, WriteDecimal, SignalOf, ToProcedure, ToHost, ToSignal, Target, Program}
use Rattle.source_meaning.specs.State.{Normal, Spent}
use Rattle.source_meaning.proofs.Made.{Saw, seen, exprs, words, block, global, local, assign, plus, operated, one_arm, signal, error, procedure, write_char, write_decimal, write_string, module_with, instance, raises}

abbrev the_host : List Target
the_host = ToHost WriteChar ∷ ToHost WriteString ∷ ToHost WriteDecimal ∷ []

-- Server: S: PUBLIC SIGNAL [x: INTEGER] RETURNS [INTEGER]; Ask: PUBLIC PROCEDURE [x: INTEGER] RETURNS [INTEGER] =
-- k: INTEGER ← 9; r: INTEGER; r ← SIGNAL S[x]; RETURN[r * 10 + k]; Main: WriteDecimal[AskDefs.Ask[4 ! AskDefs.S => RESUME[x + 1]]];
abbrev asked : Program
asked = record {
  instances =
      instance (codes "Server") (module_with (words 0) (signal 1 1 ∷ []) [] (
      procedure 1 1 2 (block (
      DeclareAs (Local 2 ∷ []) Ordinal (Number 9)
      ∷ Declare (Local 3 ∷ []) Ordinal
      ∷ Assign (Local 3) NoSuffix (Raise (OwnSignal 0) [] (exprs (local 0 ∷ [])) 1 NoPhrase)
      ∷ ReturnWith 0 1 [] (exprs (plus (operated Multiply (local 3) (Number 10)) (local 2) ∷ []))
      ∷ []))
      ∷ []) 0 (block [])) []
      ∷ instance (codes "Main") (module_with (words 0) [] [] [] 1 (block (
      Marked 0 (write_decimal (Call (LinkedProcedure 1 0) [] (exprs (Number 4 ∷ [])) 1
      (Catch 0 (AndArm (OnLinked 1 1 ∷ []) 0 1 (Resume [] (exprs (plus (local 0) (Number 1) ∷ []))) NoArms))))
      ∷ [])))
      (the_host ∷ (ToProcedure 0 1 ∷ ToSignal (SignalOf 0 0) ∷ []) ∷ [])
      ∷ [];
  control = 1 ∷ [];
}

asked_6 : seen asked 6 ≡ Saw (codes "59") Normal 0
unfolding seen
asked_6 = refl

asked_5 : seen asked 5 ≡ Saw [] Spent 0
unfolding seen
asked_5 = refl

-- Logger: Put: PUBLIC PROCEDURE [c: CHARACTER] = WriteChar[c]; Store: Save: PUBLIC PROCEDURE [c: CHARACTER] = LogDefs.Put[c];
-- Main: StoreDefs.Save['q];
abbrev passed_on : ℕ → Procedure
passed_on k = procedure 1 0 0 (Perform (Call (LinkedProcedure k 0) [] (exprs (local 0 ∷ [])) 0 NoPhrase))

abbrev nested : Program
nested = record {
  instances =
      instance (codes "Store") (module_with (words 0) [] [] (passed_on 0 ∷ []) 0 (block [])) ((ToProcedure 1 1 ∷ []) ∷ [])
      ∷ instance (codes "Logger") (module_with (words 0) [] [] (passed_on 0 ∷ []) 0 (block [])) (the_host ∷ [])
      ∷ instance (codes "Main") (module_with (words 0) [] [] [] 0 (block (Perform (Call (LinkedProcedure 0 0) [] (exprs (Number 113 ∷ [])) 0 NoPhrase) ∷ []))) ((ToProcedure 0 1 ∷ []) ∷ [])
      ∷ [];
  control = 2 ∷ [];
}

nested_6 : seen nested 6 ≡ Saw (codes "q") Normal 0
unfolding seen
nested_6 = refl

nested_5 : seen nested 5 ≡ Saw [] Spent 0
unfolding seen
nested_5 = refl

-- each instance has its own variables and strings; one that is started is passed over without a turn, also one that a call
-- has started
abbrev writing : List ℕ → Module
writing text = module_with (words 1) [] (text ∷ []) (procedure 0 0 0 (write_string 0) ∷ []) 0 (block (assign 0 (plus (global 0) (Number 1)) ∷ write_decimal (global 0) ∷ []))

abbrev in_order : Program
in_order = record {
  instances =
      instance (codes "a") (writing (codes "aa")) (the_host ∷ [])
      ∷ instance (codes "b") (writing (codes "b")) (the_host ∷ [])
      ∷ instance (codes "Main") (module_with (words 0) [] [] [] 0 (block (Perform (Call (LinkedProcedure 0 0) [] NoExprs 0 NoPhrase) ∷ []))) ((ToProcedure 0 1 ∷ []) ∷ [])
      ∷ [];
  control = 2 ∷ 1 ∷ 0 ∷ 1 ∷ [];
}

in_order_7 : seen in_order 7 ≡ Saw (codes "1aa1") Normal 0
unfolding seen
in_order_7 = refl

in_order_6 : seen in_order 6 ≡ Saw (codes "1aa") Spent 0
unfolding seen
in_order_6 = refl

-- an instance whose start is left by a jump stays started: Server: E: PUBLIC ERROR; WriteChar['s]; ERROR E; Get: PUBLIC PROCEDURE =
-- WriteChar['g]; Main: Get[! E => CONTINUE]; Get[];
abbrev left_start : Program
left_start = record {
  instances =
      instance (codes "Server") (module_with (words 0) (error ∷ []) [] (procedure 0 0 0 (write_char 103) ∷ []) 0 (block (write_char 115 ∷ raises (OwnSignal 0) ∷ []))) (the_host ∷ [])
      ∷ instance (codes "Main") (module_with (words 0) [] [] [] 0 (block (
      Marked 0 (Perform (Call (LinkedProcedure 0 0) [] NoExprs 0 (Catch 0 (one_arm (OnLinked 0 1) (Continue 0)))))
      ∷ Perform (Call (LinkedProcedure 0 0) [] NoExprs 0 NoPhrase)
      ∷ []))) ((ToProcedure 0 1 ∷ ToSignal (SignalOf 0 0) ∷ []) ∷ [])
      ∷ [];
  control = 1 ∷ [];
}

left_start_8 : seen left_start 8 ≡ Saw (codes "sg") Normal 0
unfolding seen
left_start_8 = refl

left_start_7 : seen left_start 7 ≡ Saw (codes "s") Spent 0
unfolding seen
left_start_7 = refl

-- CONTROL names nothing
abbrev idle : Program
idle = record { instances = instance (codes "Nothing") (module_with (words 0) [] [] [] 0 (block [])) [] ∷ []; control = [] }

idle_0 : seen idle 0 ≡ Saw [] Normal 0
unfolding seen
idle_0 = refl
