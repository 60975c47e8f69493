-- Loops, jumps that are not out of arms, and SELECT, each with the least turns with which its end is reached and with one less.
use Rattle.std.specs.Prelude.{◌≡◌, refl, ℕ, List, [], ◌∷◌, codes, Bool, true, false}
use Rattle.mesa_types.specs.Typed.{Finish, Expr, Number, Relate, Catch, Stmt, Null, Marked, Perform, If, Select, Block, For, Between, Jump, Continue, Retry, NoExits, AndExit, Otherwise, AndCase, Tests, NoTests, IfRelated, IfWithin, Counting, LoopOf, NoFinish, Finished, Always, While}
use Rattle.mesa_types.specs.declared.typed_parts.Home.TheVariants.{Global}
use Rattle.mesa_types.specs.declared.typed_parts.Base.{Base}
use Rattle.mesa_types.specs.declared.typed_parts.Base.TheVariants.{Signed, Unsigned}
use Rattle.mesa_types.specs.declared.typed_parts.Range.TheVariants.{Every, From}
use Rattle.mesa_base.specs.declared.relation.Relation.TheVariants.{Equal, Less}
use Rattle.mesa_types.specs.declared.typed_parts.Goal.TheVariants.{PastStatement, ToLabel}
use Rattle.mesa_types.specs.declared.typed_parts.Raised.TheVariants.{OwnSignal}
use Rattle.mesa_types.specs.declared.typed_parts.Label.TheVariants.{OnOwn}
use Rattle.mesa_types.specs.declared.typed_parts.Given.{Given}
use Rattle.mesa_types.specs.declared.typed_parts.Given.TheVariants.{NoVariable, GivenTo}
use Rattle.mesa_types.specs.Operators.{first_of, beyond, past, shifted, unshifted, wrap}
use Rattle.source_meaning.specs.Meaning.{rounds_of, one_round_less}
use Rattle.source_meaning.specs.Program.{BoundsFault, Program}
use Rattle.source_meaning.specs.State.{Normal, Uncaught, Spent}
use Rattle.source_meaning.proofs.Made.{Saw, seen, stmts, block, global, assign, one_arm, raises, error, write_char, write_decimal, on_host, alone, alone_with}

-- FOR the first variable, down or up, over an interval of a base; the loop has number 0, its body number 1
abbrev counting : Given → Bool → Base → Expr → Bool → Expr → Bool → List Stmt → Finish → Stmt
counting g down b c p d q ss fin = Marked 0 (For g down b (Between c p d q) (LoopOf Always (Marked 1 (block ss)) NoExits fin))

abbrev variable : Given
variable = GivenTo (Global 0) Every

-- the last rounds of a FOR over all of CARDINAL: FOR i IN [65533..65535] DO WriteChar['x] ENDLOOP; WriteDecimal[i];
abbrev to_the_last : Program
to_the_last = alone 1 (counting variable false Unsigned (Number 65533) false (Number 65535) false (write_char 120 ∷ []) NoFinish ∷ write_decimal (global 0) ∷ [])

to_the_last_8 : seen to_the_last 8 ≡ Saw (codes "xxx-1") Normal 0
unfolding seen
to_the_last_8 = refl

to_the_last_7 : seen to_the_last 7 ≡ Saw (codes "xxx") Spent 0
unfolding seen
to_the_last_7 = refl

-- over all of CARDINAL there are 65,536 rounds from 0 on, downward from 65,535 on; over all of INTEGER as many, from -32,768 on
all_cardinals : rounds_of variable false (first_of Unsigned false 0) (beyond Unsigned false 65535) ≡ Counting variable false 65536 0
unfolding rounds_of first_of beyond past shifted unshifted wrap
all_cardinals = refl

all_cardinals_downward : rounds_of variable true (first_of Unsigned false 0) (beyond Unsigned false 65535) ≡ Counting variable true 65536 65535
unfolding rounds_of first_of beyond past shifted unshifted wrap
all_cardinals_downward = refl

all_integers : rounds_of variable false (first_of Signed false 32768) (beyond Signed false 32767) ≡ Counting variable false 65536 32768
unfolding rounds_of first_of beyond past shifted unshifted wrap
all_integers = refl

-- nothing lies in [5..3] and (3..3], downward too
none_left : rounds_of variable true (first_of Signed false 5) (beyond Signed false 3) ≡ Counting variable true 0 3
unfolding rounds_of first_of beyond past shifted unshifted wrap
none_left = refl

none_between : rounds_of variable false (first_of Signed true 3) (beyond Signed false 3) ≡ Counting variable false 0 4
unfolding rounds_of first_of beyond past shifted unshifted wrap
none_between = refl

-- the round that begins is one of 65,536: after it there are 65,535, and the last number is followed by no other
after_one : one_round_less (Counting variable false 65536 0) ≡ Counting variable false 65535 1
unfolding one_round_less wrap
after_one = refl

after_the_last : one_round_less (Counting variable false 1 65535) ≡ Counting variable false 0 0
unfolding one_round_less wrap
after_the_last = refl

-- FOR c IN ['a..'e) DO WriteChar[c] ENDLOOP; and an enumeration of four, downward: FOR e DECREASING IN (e0..e3] DO ..
abbrev characters : Program
characters = alone 1 (
    counting variable false Unsigned (Number 97) false (Number 101) true (Perform (on_host 0 (global 0 ∷ [])) ∷ []) NoFinish
    ∷ counting variable true Unsigned (Number 0) true (Number 3) false (write_decimal (global 0) ∷ []) (Finished (write_char 46))
    ∷ [])

characters_16 : seen characters 16 ≡ Saw (codes "abcd321.") Normal 0
unfolding seen
characters_16 = refl

characters_15 : seen characters 15 ≡ Saw (codes "abcd321") Spent 0
unfolding seen
characters_15 = refl

-- FOR i IN [-1..1] DO WriteDecimal[i]; i ← 9 ENDLOOP; WriteDecimal[i]; the loop counts by itself
abbrev by_itself : Program
by_itself = alone 1 (counting variable false Signed (Number 65535) false (Number 1) false (write_decimal (global 0) ∷ assign 0 (Number 9) ∷ []) NoFinish ∷ write_decimal (global 0) ∷ [])

by_itself_8 : seen by_itself 8 ≡ Saw (codes "-1019") Normal 0
unfolding seen
by_itself_8 = refl

by_itself_7 : seen by_itself 7 ≡ Saw (codes "-101") Spent 0
unfolding seen
by_itself_7 = refl

-- d: [0..1]; FOR d IN [0..2] DO WriteDecimal[d] ENDLOOP; the number is checked when it is given
abbrev not_taken : Program
not_taken = alone 1 (counting (GivenTo (Global 0) (From Signed 0 1)) false Signed (Number 0) false (Number 2) false (write_decimal (global 0) ∷ []) NoFinish ∷ [])

not_taken_6 : seen not_taken 6 ≡ Saw (codes "01") (Uncaught BoundsFault) 0
unfolding seen
not_taken_6 = refl

not_taken_5 : seen not_taken 5 ≡ Saw (codes "01") Spent 0
unfolding seen
not_taken_5 = refl

-- FOR i IN [1..9] WHILE i < 3 DO IF i = 1 THEN LOOP; WriteDecimal[i] REPEAT FINISHED => WriteDecimal[i] ENDLOOP;
-- the variable is given before the condition is looked at, and LOOP goes to the end of the body
abbrev rounds : Program
rounds = alone 1 (
    Marked 0 (For variable false Signed (Between (Number 1) false (Number 9) false) (LoopOf (While (Relate Signed Less (global 0) (Number 3))) (Marked 1 (block (
    If (Relate Signed Equal (global 0) (Number 1)) (Jump 0 (PastStatement 1)) Null
    ∷ write_decimal (global 0)
    ∷ []))) NoExits (Finished (write_decimal (global 0)))))
    ∷ [])

rounds_5 : seen rounds 5 ≡ Saw (codes "23") Normal 0
unfolding seen
rounds_5 = refl

rounds_4 : seen rounds 4 ≡ Saw (codes "2") Spent 0
unfolding seen
rounds_4 = refl

-- THROUGH [1..2] DO THROUGH [1..9] DO GOTO out REPEAT out => WriteChar['o] ENDLOOP; WriteChar['i] ENDLOOP;
abbrev out_of_a_loop : Program
out_of_a_loop = alone 0 (
    Marked 0 (For NoVariable false Signed (Between (Number 1) false (Number 2) false) (LoopOf Always (Marked 1 (block (
    Marked 2 (For NoVariable false Signed (Between (Number 1) false (Number 9) false) (LoopOf Always (Marked 3 (block (Jump 0 (ToLabel 0) ∷ []))) (AndExit (0 ∷ []) (write_char 111) NoExits) (Finished (write_char 102))))
    ∷ write_char 105
    ∷ []))) NoExits NoFinish))
    ∷ [])

out_of_a_loop_7 : seen out_of_a_loop 7 ≡ Saw (codes "oioi") Normal 0
unfolding seen
out_of_a_loop_7 = refl

out_of_a_loop_6 : seen out_of_a_loop 6 ≡ Saw (codes "oioi") Spent 0
unfolding seen
out_of_a_loop_6 = refl

-- E: ERROR; FOR i IN [1..2] DO ENABLE E => CONTINUE; WriteDecimal[i]; ERROR E; WriteChar['n] ENDLOOP; WriteChar['x];
-- CONTINUE of a loop's ENABLE goes to the end of the body, and RETRY runs the body again with the variable as it is
abbrev enabled_in_a_loop : Program
enabled_in_a_loop = alone_with 1 (error ∷ []) [] (
    Marked 0 (For variable false Signed (Between (Number 1) false (Number 2) false) (LoopOf Always (Marked 1 (Block (Catch 1 (one_arm (OnOwn 0) (If (Relate Signed Equal (global 0) (Number 1)) (block (assign 0 (Number 7) ∷ Retry 1 ∷ [])) (Continue 1))))
    (stmts (write_decimal (global 0) ∷ raises (OwnSignal 0) ∷ write_char 110 ∷ [])) NoExits)) NoExits NoFinish))
    ∷ write_char 120
    ∷ [])

enabled_in_a_loop_13 : seen enabled_in_a_loop 13 ≡ Saw (codes "172x") Normal 0
unfolding seen
enabled_in_a_loop_13 = refl

enabled_in_a_loop_12 : seen enabled_in_a_loop 12 ≡ Saw (codes "172") Spent 0
unfolding seen
enabled_in_a_loop_12 = refl

-- SELECT i FROM 1, 5 => WriteChar['a]; IN [2..4) => WriteChar['b]; NOT IN [0..6] => WriteChar['c] ENDCASE => WriteChar['d], for
-- i from 1 to 7
abbrev over : Bool → ℕ → ℕ → Bool → Tests
over negated x y q = IfWithin negated (record { number = Signed; first = Signed; last = Signed }) (Between (Number x) false (Number y) q) NoTests

abbrev selected : Program
selected = alone 1 (
    counting variable false Signed (Number 1) false (Number 7) false (
    Select (global 0)
    (AndCase (IfRelated Every Signed Equal (Number 1) (IfRelated Every Signed Equal (Number 5) NoTests)) (write_char 97)
    (AndCase (over false 2 4 true) (write_char 98)
    (AndCase (over true 0 6 false) (write_char 99)
    (Otherwise (write_char 100)))))
    ∷ []) NoFinish
    ∷ [])

selected_15 : seen selected 15 ≡ Saw (codes "abbdadc") Normal 0
unfolding seen
selected_15 = refl

selected_14 : seen selected 14 ≡ Saw (codes "abbdadc") Spent 0
unfolding seen
selected_14 = refl
