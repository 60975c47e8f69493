-- Programs over LONG numbers, each with the least turns with which it is done and mostly with one less.
use Rattle.std.specs.Prelude.{◌≡◌, refl, ℕ, List, [], ◌∷◌, codes, true, false}
use Rattle.mesa_types.specs.Typed.{Kinds, NoKinds, AndKind, Ordinal, Longs, Record, Expr, Number, LongNumber, Variable, Converted, OperateLong, NegateLong, RelateLong, WithinLong, Between, NoSuffix, Field, NoOperation, Then, Stmt, Declare, DeclareAs, Assign, If, Null, SelectLong, Select, Extract, AndConverted, NoTargets, AndCase, Otherwise, IfRelatedLong, IfRelated, IfWithinLong, NoTests}
use Rattle.mesa_types.specs.declared.typed_parts.Home.TheVariants.{Global}
use Rattle.mesa_types.specs.declared.typed_parts.Base.TheVariants.{Signed, Unsigned}
use Rattle.mesa_types.specs.declared.typed_parts.Range.TheVariants.{Every}
use Rattle.mesa_types.specs.declared.typed_parts.Conversion.TheVariants.{Kept, Widened, Narrowed, InCommon}
use Rattle.mesa_types.specs.declared.typed_parts.Operator.{Operator}
use Rattle.mesa_types.specs.declared.typed_parts.Operator.TheVariants.{Add, Multiply, Divide, Modulo}
use Rattle.mesa_types.specs.declared.typed_parts.Part.{Part}
use Rattle.mesa_base.specs.declared.relation.Relation.TheVariants.{Equal}
use Rattle.source_meaning.specs.Program.{BoundsFault, ZeroDivisor, Program, single}
use Rattle.source_meaning.specs.State.{Normal, Uncaught, Spent}
use Rattle.source_meaning.proofs.Made.{Saw, seen, block, global, assign, write_char, write_decimal, module_with}

-- a module alone, with globals of these kinds
abbrev of_kinds : Kinds → List Stmt → Program
of_kinds ks ss = single (module_with ks [] [] [] 0 (block ss))

abbrev long : ℕ → Expr
long n = Variable (Global n) NoSuffix 2

abbrev declare_long : ℕ → Expr → Stmt
declare_long n e = DeclareAs (Global n ∷ []) Longs e

abbrev by : Operator → Expr → Expr → Expr
by o d e = OperateLong d (Then Every o e NoOperation)

abbrev narrow : Expr → Expr
narrow e = Converted (Narrowed Signed Signed Every) e

-- n: LONG INTEGER ← 65535; n ← n * n; WriteDecimal[n / 1000]; WriteDecimal[n MOD 1000];
abbrev squared : Program
squared = of_kinds (AndKind Longs NoKinds) (
    declare_long 0 (Converted (Widened Unsigned Signed) (Number 65535))
    ∷ assign 0 (by Multiply (long 0) (long 0))
    ∷ write_decimal (narrow (by (Divide Signed) (long 0) (LongNumber 1000)))
    ∷ write_decimal (narrow (by (Modulo Signed) (long 0) (LongNumber 1000)))
    ∷ [])

squared_3 : seen squared 3 ≡ Saw (codes "-131-71") Normal 0
unfolding seen
squared_3 = refl

squared_2 : seen squared 2 ≡ Saw (codes "-131") Spent 0
unfolding seen
squared_2 = refl

-- c: LONG CARDINAL ← 4294967295; i: LONG INTEGER; c ← c + 1; IF c = 0 THEN WriteChar['z]; c ← 2147483648; i ← c;
abbrev around : Program
around = of_kinds (AndKind Longs (AndKind Longs NoKinds)) (
    declare_long 0 (LongNumber 4294967295)
    ∷ Declare (Global 1 ∷ []) Longs
    ∷ assign 0 (by Add (long 0) (LongNumber 1))
    ∷ If (RelateLong Unsigned Equal (long 0) (LongNumber 0)) (write_char 122) Null
    ∷ assign 0 (LongNumber 2147483648)
    ∷ assign 1 (Converted InCommon (long 0))
    ∷ [])

around_3 : seen around 3 ≡ Saw (codes "z") (Uncaught BoundsFault) 0
unfolding seen
around_3 = refl

around_2 : seen around 2 ≡ Saw (codes "z") Spent 0
unfolding seen
around_2 = refl

-- x: INTEGER; n: LONG INTEGER ← 32768; x ← n;
abbrev too_long : Program
too_long = of_kinds (AndKind Ordinal (AndKind Longs NoKinds)) (
    Declare (Global 0 ∷ []) Ordinal
    ∷ declare_long 1 (Converted (Widened Unsigned Signed) (Number 32768))
    ∷ assign 0 (narrow (long 1))
    ∷ [])

too_long_2 : seen too_long 2 ≡ Saw [] (Uncaught BoundsFault) 0
unfolding seen
too_long_2 = refl

too_long_1 : seen too_long 1 ≡ Saw [] Spent 0
unfolding seen
too_long_1 = refl

-- n: LONG INTEGER; n is 0 at the beginning; n ← 1 / n;
abbrev by_zero : Program
by_zero = of_kinds (AndKind Longs NoKinds) (
    Declare (Global 0 ∷ []) Longs
    ∷ write_decimal (narrow (long 0))
    ∷ assign 0 (by (Divide Signed) (LongNumber 1) (long 0))
    ∷ [])

by_zero_3 : seen by_zero 3 ≡ Saw (codes "0") (Uncaught ZeroDivisor) 0
unfolding seen
by_zero_3 = refl

abbrev part : Part
part = record { field = 0; offset = 0; words = 2 }

abbrev next_part : Part
next_part = record { field = 1; offset = 2; words = 1 }

-- r: RECORD [x: LONG INTEGER, y: INTEGER]; n: LONG INTEGER; i: INTEGER; r.x ← 30000; r.y ← -2; [i, n] ← r; WriteDecimal[i]; WriteDecimal[n];
abbrev taken : Program
taken = of_kinds (AndKind (Record (AndKind Longs (AndKind Ordinal NoKinds))) (AndKind Longs (AndKind Ordinal NoKinds))) (
    Assign (Global 0) (Field 0 0 NoSuffix) (LongNumber 30000)
    ∷ Assign (Global 0) (Field 1 2 NoSuffix) (Number 65534)
    ∷ Extract true (AndConverted part (Global 2) NoSuffix (Narrowed Signed Signed Every) (AndConverted next_part (Global 1) NoSuffix (Widened Signed Signed) NoTargets))
    (Variable (Global 0) NoSuffix 3)
    ∷ write_decimal (global 2)
    ∷ write_decimal (narrow (long 1))
    ∷ [])

taken_3 : seen taken 3 ≡ Saw (codes "30000-2") Normal 0
unfolding seen
taken_3 = refl

-- n: LONG INTEGER ← -65536; SELECT n FROM 0 => WriteChar['a]; IN [-70000..70000] => WriteChar['b] ENDCASE => WriteChar['c];
abbrev selected : Program
selected = of_kinds (AndKind Longs NoKinds) (
    declare_long 0 (NegateLong (LongNumber 65536))
    ∷ SelectLong (long 0) (AndCase (IfRelatedLong Kept Signed Equal (LongNumber 0) NoTests) (write_char 97)
    (AndCase (IfWithinLong false Kept (record { number = Signed; first = Signed; last = Signed })
    (Between (NegateLong (LongNumber 70000)) false (LongNumber 70000) false) NoTests) (write_char 98)
    (Otherwise (write_char 99))))
    ∷ [])

selected_2 : seen selected 2 ≡ Saw (codes "b") Normal 0
unfolding seen
selected_2 = refl

-- i: INTEGER ← -1; c: LONG CARDINAL ← 4294967295; SELECT i FROM 3 => WriteChar['a]; c => WriteChar['b] ENDCASE; the test is one of
-- LONG INTEGER, which c is not
abbrev unequal : Program
unequal = of_kinds (AndKind Ordinal (AndKind Longs NoKinds)) (
    DeclareAs (Global 0 ∷ []) Ordinal (Number 65535)
    ∷ declare_long 1 (LongNumber 4294967295)
    ∷ Select (global 0) (AndCase (IfRelated Every Signed Equal (Number 3) NoTests) (write_char 97)
    (AndCase (IfRelatedLong (Widened Signed Signed) Signed Equal (Converted InCommon (long 1)) NoTests) (write_char 98) (Otherwise Null)))
    ∷ [])

unequal_2 : seen unequal 2 ≡ Saw [] (Uncaught BoundsFault) 0
unfolding seen
unequal_2 = refl

-- c: LONG CARDINAL ← 3000000000; i: INTEGER ← -1; IF c IN [i..4000000000] THEN WriteChar['y]; IN checks nothing
abbrev between : Program
between = of_kinds (AndKind Longs (AndKind Ordinal NoKinds)) (
    declare_long 0 (LongNumber 3000000000)
    ∷ DeclareAs (Global 1 ∷ []) Ordinal (Number 65535)
    ∷ If (WithinLong (record { number = Unsigned; first = Signed; last = Unsigned }) (long 0)
    (Between (Converted (Widened Signed Signed) (global 1)) false (LongNumber 4000000000) false)) (write_char 121) Null
    ∷ [])

between_2 : seen between 2 ≡ Saw (codes "y") Normal 0
unfolding seen
between_2 = refl
