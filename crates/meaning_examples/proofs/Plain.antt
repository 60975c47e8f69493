-- Programs of one frame, each with the least turns with which it is done and with one less.
use Rattle.std.specs.Prelude.{◌≡◌, refl, [], ◌∷◌, codes, Bool, true, false}
use Rattle.mesa_types.specs.Typed.{Finish, Array, Ordinal, AndKind, Expr, Number, NoSuffix, Index, Stmt, Declare, Assign, For, Between, NoExits, LoopOf, NoFinish, Always, Until, Marked}
use Rattle.mesa_types.specs.declared.typed_parts.Home.TheVariants.{Global}
use Rattle.mesa_types.specs.declared.typed_parts.Base.{Base}
use Rattle.mesa_types.specs.declared.typed_parts.Base.TheVariants.{Signed}
use Rattle.mesa_types.specs.declared.typed_parts.Range.TheVariants.{Every}
use Rattle.mesa_types.specs.declared.typed_parts.Given.TheVariants.{GivenTo}
use Rattle.source_meaning.specs.Program.{BoundsFault, Program, single}
use Rattle.source_meaning.specs.State.{End, Fault, Normal, Uncaught, Spent, Broken}
use Rattle.source_meaning.proofs.Made.{Saw, seen, seen_over, words, block, global, declare_as, assign, plus, minus, looping, write_decimal, read_char, end_of_input, module_with, alone}

-- M: PROGRAM = BEGIN END.
abbrev nothing : Program
nothing = alone 0 []

nothing_1 : seen nothing 1 ≡ Saw [] Normal 0
unfolding seen
nothing_1 = refl

nothing_0 : seen nothing 0 ≡ Saw [] Spent 0
unfolding seen
nothing_0 = refl

-- turns that are not needed are left
nothing_5 : seen nothing 5 ≡ Saw [] Normal 4
unfolding seen
nothing_5 = refl

-- n: INTEGER ← 0; UNTIL EndOfInput[] DO n ← n + (ReadChar[] - '0) ENDLOOP; WriteDecimal[n];
abbrev sum : Program
sum = alone 1 (
    declare_as 0 (Number 0)
    ∷ looping 0 (Until end_of_input) (assign 0 (plus (global 0) (minus read_char (Number 48))) ∷ []) NoFinish
    ∷ write_decimal (global 0)
    ∷ [])

sum_18 : seen_over sum (codes "12345") End 18 ≡ Saw (codes "15") Normal 0
unfolding seen_over
sum_18 = refl

sum_17 : seen_over sum (codes "12345") End 17 ≡ Saw [] Spent 0
unfolding seen_over
sum_17 = refl

-- with a fault after the input it is broken off where it asks for more
sum_broken : seen_over sum (codes "12") Fault 18 ≡ Saw [] Broken 10
unfolding seen_over
sum_broken = refl

-- i: INTEGER ← 32767; i ← i + 1; WriteDecimal[i];
abbrev too_large : Program
too_large = alone 1 (declare_as 0 (Number 32767) ∷ assign 0 (plus (global 0) (Number 1)) ∷ write_decimal (global 0) ∷ [])

too_large_2 : seen too_large 2 ≡ Saw (codes "-32768") Normal 0
unfolding seen
too_large_2 = refl

too_large_1 : seen too_large 1 ≡ Saw [] Spent 0
unfolding seen
too_large_1 = refl

-- i: INTEGER; FOR i IN [3..3) DO WriteDecimal[i] ENDLOOP; FOR i DECREASING IN [1..3] DO WriteDecimal[i] ENDLOOP;
abbrev counting : Bool → Expr → Expr → Bool → Base → Stmt → Finish → Stmt
counting down c d q b s fin = Marked 0 (For (GivenTo (Global 0) Every) down b (Between c false d q) (LoopOf Always (Marked 1 (block (s ∷ []))) NoExits fin))

abbrev counts : Program
counts = alone 1 (
    Declare (Global 0 ∷ []) Ordinal
    ∷ counting false (Number 3) (Number 3) true Signed (write_decimal (global 0)) NoFinish
    ∷ counting true (Number 1) (Number 3) false Signed (write_decimal (global 0)) NoFinish
    ∷ [])

counts_7 : seen counts 7 ≡ Saw (codes "321") Normal 0
unfolding seen
counts_7 = refl

counts_6 : seen counts 6 ≡ Saw (codes "321") Spent 0
unfolding seen
counts_6 = refl

-- a: ARRAY [0..2] OF INTEGER; i: INTEGER ← 3; WriteDecimal[7]; a[i] ← 1; WriteDecimal[8];
abbrev outside : Program
outside = single (module_with (AndKind (Array 3 Ordinal) (words 1)) [] [] [] 0 (block (
    Declare (Global 0 ∷ []) (Array 3 Ordinal)
    ∷ declare_as 1 (Number 3)
    ∷ write_decimal (Number 7)
    ∷ Assign (Global 0) (Index Every 0 3 1 (global 1) NoSuffix) (Number 1)
    ∷ write_decimal (Number 8)
    ∷ [])))

outside_3 : seen outside 3 ≡ Saw (codes "7") (Uncaught BoundsFault) 0
unfolding seen
outside_3 = refl

outside_2 : seen outside 2 ≡ Saw (codes "7") Spent 0
unfolding seen
outside_2 = refl
