-- The order of evaluation, seen by procedures that print; and values of several words. Each with the least turns with which
-- its end is reached and with one less.
use Rattle.std.specs.Prelude.{◌≡◌, refl, ℕ, List, [], ◌∷◌, codes, true, false}
use Rattle.mesa_types.specs.Typed.{Array, Record, Texts, NoKinds, AndKind, Ordinal, Expr, Number, Literal, Variable, FieldOf, LengthOf, ByteOf, Relate, Within, AllOf, SomeOf, Construct, Call, NoExprs, NoSuffix, Field, Index, Between, NoPhrase, Null, Declare, DeclareAs, Assign, Extract, Perform, If, ReturnWith, NoTargets, AndTarget, Kind, Marked, Catch, Procedure}
use Rattle.mesa_types.specs.declared.typed_parts.Home.TheVariants.{Global, Local}
use Rattle.mesa_types.specs.declared.typed_parts.Base.TheVariants.{Signed}
use Rattle.mesa_types.specs.declared.typed_parts.Part.{Part}
use Rattle.mesa_types.specs.declared.typed_parts.Range.TheVariants.{Every, From}
use Rattle.mesa_base.specs.declared.relation.Relation.TheVariants.{Less}
use Rattle.mesa_types.specs.declared.typed_parts.Callee.TheVariants.{OwnProcedure}
use Rattle.mesa_types.specs.declared.typed_parts.Label.TheVariants.{OnBounds}
use Rattle.source_meaning.specs.Program.{BoundsFault, Program, single}
use Rattle.source_meaning.specs.State.{Normal, Uncaught, Spent}
use Rattle.source_meaning.proofs.Made.{Saw, seen, exprs, words, block, global, local, declare_as, minus, calls, one_arm, procedure, write_char, write_decimal, on_host, module_with, alone_with}

-- F prints f and gives 1, G prints g and gives 2
abbrev f_and_g : List Procedure
f_and_g =
    procedure 0 1 0 (block (write_char 102 ∷ ReturnWith 0 0 [] (exprs (Number 1 ∷ [])) ∷ []))
    ∷ procedure 0 1 0 (block (write_char 103 ∷ ReturnWith 0 0 [] (exprs (Number 2 ∷ [])) ∷ []))
    ∷ []

abbrev f : Expr
f = calls 1 [] NoPhrase

abbrev g : Expr
g = calls 2 [] NoPhrase

-- i: INTEGER ← F[] - G[]; IF F[] < G[] AND G[] < F[] AND F[] < G[] THEN NULL; WriteDecimal[i];
abbrev from_the_left : Program
from_the_left = alone_with 1 [] f_and_g (
    declare_as 0 (minus f g)
    ∷ If (AllOf (exprs (Relate Signed Less f g ∷ Relate Signed Less g f ∷ Relate Signed Less f g ∷ []))) Null Null
    ∷ write_decimal (global 0)
    ∷ [])

from_the_left_14 : seen from_the_left 14 ≡ Saw (codes "fgfggf-1") Normal 0
unfolding seen
from_the_left_14 = refl

from_the_left_13 : seen from_the_left 13 ≡ Saw (codes "fgfggf") Spent 0
unfolding seen
from_the_left_13 = refl

-- OR stops where it is known, and IN evaluates all: IF F[] < G[] OR G[] < F[] THEN IF G[] IN [F[]..F[]) THEN NULL ELSE WriteChar['n];
abbrev by_need : Program
by_need = alone_with 0 [] f_and_g (
    If (SomeOf (exprs (Relate Signed Less f g ∷ Relate Signed Less g f ∷ [])))
    (If (Within (record { number = Signed; first = Signed; last = Signed }) g (Between f false f true)) Null (write_char 110)) Null
    ∷ [])

by_need_12 : seen by_need 12 ≡ Saw (codes "fggffn") Normal 0
unfolding seen
by_need_12 = refl

by_need_11 : seen by_need 11 ≡ Saw (codes "fggff") Spent 0
unfolding seen
by_need_11 = refl

-- a: ARRAY [0..2] OF INTEGER; a[F[]] ← G[]; WriteDecimal[a[1]]; the index comes before the value
abbrev index_first : Program
index_first = single (module_with (AndKind (Array 3 Ordinal) NoKinds) [] [] f_and_g 0 (block (
    Declare (Global 0 ∷ []) (Array 3 Ordinal)
    ∷ Assign (Global 0) (Index Every 0 3 1 f NoSuffix) g
    ∷ write_decimal (Variable (Global 0) (Index Every 0 3 1 (Number 1) NoSuffix) 1)
    ∷ [])))

index_first_6 : seen index_first 6 ≡ Saw (codes "fg2") Normal 0
unfolding seen
index_first_6 = refl

index_first_5 : seen index_first 5 ≡ Saw (codes "fg") Spent 0
unfolding seen
index_first_5 = refl

-- Pair: TYPE = RECORD [x, y: INTEGER]; p: Pair ← [y: G[], x: F[]]; a, b: INTEGER; [a, b] ← p; WriteDecimal[a]; WriteDecimal[b];
-- in the order of the text, and stored by place
abbrev pair : Kind
pair = Record (words 2)

abbrev part : ℕ → Part
part n = record { field = n; offset = n; words = 1 }

abbrev by_place : Program
by_place = single (module_with (AndKind pair (words 2)) [] [] f_and_g 0 (block (
    DeclareAs (Global 0 ∷ []) pair (Construct (1 ∷ 0 ∷ []) (exprs (g ∷ f ∷ [])))
    ∷ Declare (Global 1 ∷ Global 2 ∷ []) Ordinal
    ∷ Extract true (AndTarget (part 0) (Global 1) NoSuffix Every (AndTarget (part 1) (Global 2) NoSuffix Every NoTargets)) (Variable (Global 0) NoSuffix 2)
    ∷ write_decimal (global 1)
    ∷ write_decimal (global 2)
    ∷ write_decimal (Variable (Global 0) (Field 1 1 NoSuffix) 1)
    ∷ [])))

by_place_8 : seen by_place 8 ≡ Saw (codes "gf122") Normal 0
unfolding seen
by_place_8 = refl

by_place_7 : seen by_place 7 ≡ Saw (codes "gf12") Spent 0
unfolding seen
by_place_7 = refl

-- P: PROCEDURE RETURNS [a, b: INTEGER] = a ← 1; b ← 2; RETURN[b, a]; [x, y] ← P[]; WriteDecimal[x]; WriteDecimal[y];
abbrev two_results : Program
two_results = alone_with 2 [] (
    procedure 0 2 0 (block (Assign (Local 0) NoSuffix (Number 1) ∷ Assign (Local 1) NoSuffix (Number 2) ∷ ReturnWith 0 0 [] (exprs (local 1 ∷ local 0 ∷ [])) ∷ []))
    ∷ []) (
    Extract false (AndTarget (part 0) (Global 0) NoSuffix Every (AndTarget (part 1) (Global 1) NoSuffix Every NoTargets)) (Call (OwnProcedure 1) [] NoExprs 2 NoPhrase)
    ∷ write_decimal (global 0)
    ∷ write_decimal (global 1)
    ∷ [])

two_results_4 : seen two_results 4 ≡ Saw (codes "21") Normal 0
unfolding seen
two_results_4 = refl

two_results_3 : seen two_results 3 ≡ Saw (codes "2") Spent 0
unfolding seen
two_results_3 = refl

-- [x, d] ← P[] where d: [0..0] does not take the second result: the first is stored before the second is checked
abbrev checked_in_order : Program
checked_in_order = alone_with 2 [] (
    procedure 0 2 0 (ReturnWith 0 0 [] (exprs (Number 5 ∷ Number 6 ∷ [])))
    ∷ procedure 0 0 0 (Extract false (AndTarget (part 0) (Global 0) NoSuffix Every (AndTarget (part 1) (Global 1) NoSuffix (From Signed 0 0) NoTargets)) (Call (OwnProcedure 1) [] NoExprs 2 NoPhrase))
    ∷ []) (
    Marked 0 (Perform (calls 2 [] (Catch 0 (one_arm OnBounds (block (write_decimal (global 0) ∷ write_decimal (global 1) ∷ []))))))
    ∷ [])

checked_in_order_7 : seen checked_in_order 7 ≡ Saw (codes "50") (Uncaught BoundsFault) 0
unfolding seen
checked_in_order_7 = refl

checked_in_order_6 : seen checked_in_order 6 ≡ Saw (codes "5") Spent 0
unfolding seen
checked_in_order_6 = refl

-- s: STRING ← "ab"; WriteString[s]; WriteDecimal[s.length]; WriteChar[s[1]]; t: STRING; WriteString[t]; WriteChar[s[2]];
abbrev strings : Program
strings = single (module_with (AndKind Texts (AndKind Texts NoKinds)) [] (codes "ab" ∷ []) [] 0 (block (
    DeclareAs (Global 0 ∷ []) Texts (Literal 0)
    ∷ Perform (on_host 1 (Variable (Global 0) NoSuffix 2 ∷ []))
    ∷ write_decimal (LengthOf (Variable (Global 0) NoSuffix 2))
    ∷ Perform (on_host 0 (ByteOf (Variable (Global 0) NoSuffix 2) (Number 1) ∷ []))
    ∷ Declare (Global 1 ∷ []) Texts
    ∷ Perform (on_host 1 (Variable (Global 1) NoSuffix 2 ∷ []))
    ∷ Perform (on_host 0 (ByteOf (Variable (Global 0) NoSuffix 2) (Number 2) ∷ []))
    ∷ [])))

strings_6 : seen strings 6 ≡ Saw (codes "ab2b") (Uncaught BoundsFault) 0
unfolding seen
strings_6 = refl

strings_5 : seen strings 5 ≡ Saw (codes "ab2b") Spent 0
unfolding seen
strings_5 = refl

-- a field of a field of what a call gives: P: PROCEDURE RETURNS [RECORD [a: INTEGER, p: Pair]] gives [3, [4, 5]]
abbrev fields : Program
fields = alone_with 0 [] (
    procedure 0 1 0 (ReturnWith 0 0 [] (exprs (Construct [] (exprs (Number 3 ∷ Construct [] (exprs (Number 4 ∷ Number 5 ∷ [])) ∷ [])) ∷ [])))
    ∷ []) (
    write_decimal (FieldOf (calls 1 [] NoPhrase) (record { field = 1; offset = 1; words = 2 } ∷ part 1 ∷ []))
    ∷ [])

fields_3 : seen fields 3 ≡ Saw (codes "5") Normal 0
unfolding seen
fields_3 = refl

fields_2 : seen fields 2 ≡ Saw [] Spent 0
unfolding seen
fields_2 = refl
