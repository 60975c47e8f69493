-- The typed trees of statements over LONG numbers: of literals at each edge, of each mixed pair, of runs, relations, IN, SELECT and what
-- is given.
use Rattle.std.specs.Prelude.{◌≡◌, ℕ, true, false, List, [], ◌∷◌, ◌++◌, Option, Some, None, codes}
use Rattle.std.proofs.Common.{refl}
use Rattle.check_rules.specs.Typed as t
use Rattle.check_rules.proofs.Everything.{everything}
use Rattle.checker_examples.proofs.Trees.{body}

-- the last statement of a body that declares these variables
abbrev declared : List ℕ
declared = codes "i: INTEGER; k: CARDINAL; n: LONG INTEGER; c: LONG CARDINAL; b: BOOLEAN; s: INTEGER [0..9]; "

abbrev last_of : t.Stmt → t.Stmts → t.Stmt
last_of s t.NoStmts = s
last_of s (t.AndStmt u ss) = last_of u ss

abbrev last_in : t.Stmt → Option t.Stmt
last_in (t.Block ph ss es) = Some (last_of t.Null ss)
last_in _ = None

abbrev last_by : Option t.Body → Option t.Stmt
last_by None = None
last_by (Some b) = last_in b.does

abbrev statement : List ℕ → Option t.Stmt
statement text = last_by (body (declared ++ text))

-- what is assigned by it
abbrev value_in : Option t.Stmt → Option t.Expr
value_in (Some (t.Assign h s e)) = Some e
value_in _ = None

abbrev value : List ℕ → Option t.Expr
value text = value_in (statement text)

abbrev values : List (List ℕ) → List (Option t.Expr)
values [] = []
values (x ∷ xs) = value x ∷ values xs

abbrev all : List t.Expr → List (Option t.Expr)
all [] = []
all (e ∷ es) = Some e ∷ all es

abbrev i : t.Expr
i = t.Variable (t.Global 0) t.NoSuffix 1

abbrev k : t.Expr
k = t.Variable (t.Global 1) t.NoSuffix 1

abbrev n : t.Expr
n = t.Variable (t.Global 2) t.NoSuffix 2

abbrev c : t.Expr
c = t.Variable (t.Global 3) t.NoSuffix 2

abbrev s : t.Expr
s = t.Variable (t.Global 5) t.NoSuffix 1

-- an INTEGER, and a CARDINAL, as a LONG INTEGER; a CARDINAL as a LONG CARDINAL; one LONG type as the other
abbrev signed : t.Expr → t.Expr
signed e = t.Converted (t.Widened t.Signed t.Signed) e

abbrev unsigned : t.Expr → t.Expr
unsigned e = t.Converted (t.Widened t.Unsigned t.Signed) e

abbrev plain : t.Expr → t.Expr
plain e = t.Converted (t.Widened t.Unsigned t.Unsigned) e

abbrev crossed : t.Expr → t.Expr
crossed e = t.Converted t.InCommon e

abbrev run : t.Expr → t.Expr → t.Expr
run d e = t.OperateLong d (t.Then t.Every t.Add e t.NoOperation)

abbrev long : ℕ → t.Expr
long = t.LongNumber

-- a literal that is given, at each edge: it is INTEGER, CARDINAL, LONG INTEGER, LONG CARDINAL
given_literals : values (codes "n _ 32767" ∷ codes "n _ 32768" ∷ codes "n _ 65535" ∷ codes "n _ 65536" ∷ codes "n _ 2147483647" ∷ codes "n _ 2147483648"
    ∷ codes "c _ 32767" ∷ codes "c _ 32768" ∷ codes "c _ 65536" ∷ codes "c _ 4294967295" ∷ [])
    ≡ all (signed (t.Number 32767) ∷ unsigned (t.Number 32768) ∷ unsigned (t.Number 65535) ∷ long 65536 ∷ long 2147483647 ∷ crossed (long 2147483648)
    ∷ t.Converted (t.Widened t.Signed t.Unsigned) (t.Number 32767) ∷ plain (t.Number 32768) ∷ crossed (long 65536) ∷ long 4294967295 ∷ [])
unfolding everything
given_literals = refl

literals_given_to_words : values (codes "i _ 65536" ∷ codes "k _ 65536" ∷ codes "i _ 4294967295" ∷ codes "k _ 4294967295" ∷ codes "s _ 65536" ∷ [])
    ≡ all (t.Converted (t.Narrowed t.Signed t.Signed t.Every) (long 65536) ∷ t.Converted (t.Narrowed t.Signed t.Unsigned t.Every) (long 65536)
    ∷ t.Converted (t.Narrowed t.Unsigned t.Signed t.Every) (long 4294967295) ∷ t.Converted (t.Narrowed t.Unsigned t.Unsigned t.Every) (long 4294967295)
    ∷ t.Converted (t.Narrowed t.Signed t.Signed (t.From t.Signed 0 9)) (long 65536) ∷ [])
unfolding everything
literals_given_to_words = refl

-- a literal beside another operand, at each edge: beside a LONG INTEGER
literals_beside_long_integer : values (codes "n _ n + 32767" ∷ codes "n _ n + 32768" ∷ codes "n _ n + 65535" ∷ codes "n _ n + 65536" ∷ codes "n _ n + 2147483647"
    ∷ codes "n _ n + 2147483648" ∷ codes "n _ 5 + n" ∷ codes "n _ 40000 + n" ∷ codes "n _ 70000 + n" ∷ codes "n _ 3000000000 + n" ∷ [])
    ≡ all (run n (long 32767) ∷ run n (long 32768) ∷ run n (long 65535) ∷ run n (long 65536) ∷ run n (long 2147483647)
    ∷ run n (crossed (long 2147483648)) ∷ run (long 5) n ∷ run (long 40000) n ∷ run (long 70000) n ∷ run (crossed (long 3000000000)) n ∷ [])
unfolding everything
literals_beside_long_integer = refl

-- beside a LONG CARDINAL the operation is LONG CARDINAL
literals_beside_long_cardinal : values (codes "c _ c + 32767" ∷ codes "c _ c + 32768" ∷ codes "c _ c + 65536" ∷ codes "c _ c + 2147483647" ∷ codes "c _ c + 2147483648"
    ∷ codes "c _ 5 + c" ∷ codes "c _ 70000 + c" ∷ codes "c _ (5) + c" ∷ [])
    ≡ all (run c (long 32767) ∷ run c (long 32768) ∷ run c (long 65536) ∷ run c (long 2147483647) ∷ run c (long 2147483648)
    ∷ run (long 5) c ∷ run (long 70000) c ∷ run (long 5) c ∷ [])
unfolding everything
literals_beside_long_cardinal = refl

-- beside words: up to 65535 the operation is one over words, above it is LONG
literals_beside_words : values (codes "k _ k + 32767" ∷ codes "k _ k + 65535" ∷ codes "n _ i + 65536" ∷ codes "n _ k + 65536" ∷ codes "n _ 2147483647 + k" ∷ codes "c _ k + 2147483648"
    ∷ codes "n _ i + 2147483648" ∷ [])
    ≡ all (t.Operate k (t.Then t.Every t.Add (t.Number 32767) t.NoOperation) ∷ t.Operate k (t.Then t.Every t.Add (t.Number 65535) t.NoOperation)
    ∷ run (signed i) (long 65536) ∷ run (unsigned k) (long 65536) ∷ run (long 2147483647) (unsigned k) ∷ run (plain k) (long 2147483648)
    ∷ run (signed i) (crossed (long 2147483648)) ∷ [])
unfolding everything
literals_beside_words = refl

-- each of two literals counts for the other with the type that it has alone
two_literals : values (codes "n _ 5 + 65536" ∷ codes "n _ 65536 + 5" ∷ codes "n _ 40000 + 70000" ∷ codes "c _ 5 + 3000000000" ∷ codes "c _ 70000 + 3000000000" ∷ codes "c _ 3000000000 + 70000"
    ∷ codes "k _ 5 + 40000" ∷ [])
    ≡ all (run (long 5) (long 65536) ∷ run (long 65536) (long 5) ∷ run (long 40000) (long 70000) ∷ run (long 5) (long 3000000000) ∷ run (long 70000) (long 3000000000)
    ∷ run (long 3000000000) (long 70000) ∷ t.Operate (t.Number 5) (t.Then t.Every t.Add (t.Number 40000) t.NoOperation) ∷ [])
unfolding everything
two_literals = refl

-- a sign makes a literal an expression of its type
signs : values (codes "n _ -n" ∷ codes "c _ +c" ∷ codes "n _ -65536" ∷ codes "n _ n + -5" ∷ codes "n _ n + +5" ∷ [])
    ≡ all (t.NegateLong n ∷ c ∷ t.NegateLong (long 65536) ∷ run n (signed (t.Negate (t.Number 5))) ∷ run n (signed (t.Number 5)) ∷ [])
unfolding everything
signs = refl

-- each mixed pair, in both orders
mixed_pairs : values (codes "n _ i + n" ∷ codes "n _ n + i" ∷ codes "n _ k + n" ∷ codes "n _ n + k" ∷ codes "n _ i + c" ∷ codes "n _ c + i" ∷ codes "c _ k + c" ∷ codes "c _ c + k"
    ∷ codes "n _ n + c" ∷ codes "n _ c + n" ∷ codes "n _ n + n" ∷ codes "c _ c + c" ∷ [])
    ≡ all (run (signed i) n ∷ run n (signed i) ∷ run (unsigned k) n ∷ run n (unsigned k) ∷ run (signed i) (crossed c) ∷ run (crossed c) (signed i) ∷ run (plain k) c ∷ run c (plain k)
    ∷ run n (crossed c) ∷ run (crossed c) n ∷ run n n ∷ run c c ∷ [])
unfolding everything
mixed_pairs = refl

-- the operator is one of the operation's type
operators : values (codes "n _ n / i" ∷ codes "c _ c / k" ∷ codes "n _ c MOD i" ∷ codes "c _ c MOD 10" ∷ codes "n _ n * n" ∷ codes "n _ n - n" ∷ [])
    ≡ all (t.OperateLong n (t.Then t.Every (t.Divide t.Signed) (signed i) t.NoOperation) ∷ t.OperateLong c (t.Then t.Every (t.Divide t.Unsigned) (plain k) t.NoOperation)
    ∷ t.OperateLong (crossed c) (t.Then t.Every (t.Modulo t.Signed) (signed i) t.NoOperation) ∷ t.OperateLong c (t.Then t.Every (t.Modulo t.Unsigned) (long 10) t.NoOperation)
    ∷ t.OperateLong n (t.Then t.Every t.Multiply n t.NoOperation) ∷ t.OperateLong n (t.Then t.Every t.Subtract n t.NoOperation) ∷ [])
unfolding everything
operators = refl

-- What stands to the left of an operator is the run so far: a run over words is closed before a LONG operand, one of LONG CARDINAL before
-- an INTEGER or LONG INTEGER operand; a parenthesis has a run of its own
runs_so_far : values (codes "n _ i + k + n - 1" ∷ codes "n _ k + c + i + n" ∷ codes "n _ (n + 1) + 2" ∷ codes "n _ 1 + 2 + n" ∷ codes "n _ i * k + n" ∷ [])
    ≡ all (t.OperateLong (signed (t.Operate i (t.Then t.Every t.Add (t.Checked (t.From t.Unsigned 0 32767) k) t.NoOperation))) (t.Then t.Every t.Add n (t.Then t.Every t.Subtract (long 1) t.NoOperation))
    ∷ t.OperateLong (crossed (run (plain k) c)) (t.Then t.Every t.Add (signed i) (t.Then t.Every t.Add n t.NoOperation))
    ∷ run (run n (long 1)) (long 2)
    ∷ run (signed (t.Operate (t.Number 1) (t.Then t.Every t.Add (t.Number 2) t.NoOperation))) n
    ∷ run (signed (t.Operate i (t.Then t.Every t.Multiply (t.Checked (t.From t.Unsigned 0 32767) k) t.NoOperation))) n
    ∷ [])
unfolding everything
runs_so_far = refl

relations : values (codes "b _ n < i" ∷ codes "b _ c = k" ∷ codes "b _ 5 # c" ∷ codes "b _ c ~< i" ∷ codes "b _ n >= c" ∷ codes "b _ k < 65536" ∷ codes "b _ i = 65535" ∷ [])
    ≡ all (t.RelateLong t.Signed t.Less n (signed i) ∷ t.RelateLong t.Unsigned t.Equal c (plain k) ∷ t.RelateLong t.Unsigned t.NotEqual (long 5) c
    ∷ t.RelateLong t.Signed t.AtLeast (crossed c) (signed i) ∷ t.RelateLong t.Signed t.AtLeast n (crossed c) ∷ t.RelateLong t.Signed t.Less (unsigned k) (long 65536)
    ∷ t.Relate t.Signed t.Equal i (t.Checked (t.From t.Unsigned 0 32767) (t.Number 65535)) ∷ [])
unfolding everything
relations = refl

abbrev by : t.Base → t.Base → t.Base → t.Bases
by number first last = record { number = number; first = first; last = last }

-- IN checks nothing: each of the three is read by its own base
intervals : values (codes "b _ n IN [0..65536]" ∷ codes "b _ i IN [k..n)" ∷ codes "b _ c NOT IN (i..3000000000)" ∷ codes "b _ 5 IN [n..c]" ∷ codes "b _ i IN [0..k]" ∷ [])
    ≡ all (t.WithinLong (by t.Signed t.Signed t.Signed) n (t.Between (long 0) false (long 65536) false)
    ∷ t.WithinLong (by t.Signed t.Unsigned t.Signed) (signed i) (t.Between (plain k) false n true)
    ∷ t.Not (t.WithinLong (by t.Unsigned t.Signed t.Unsigned) c (t.Between (signed i) true (long 3000000000) true))
    ∷ t.WithinLong (by t.Signed t.Signed t.Unsigned) (long 5) (t.Between n false c false)
    ∷ t.Within (by t.Signed t.Signed t.Unsigned) i (t.Between (t.Number 0) false k false) ∷ [])
unfolding everything
intervals = refl

-- each number type to each target
given : values (codes "i _ n" ∷ codes "k _ n" ∷ codes "s _ n" ∷ codes "i _ c" ∷ codes "k _ c" ∷ codes "s _ c" ∷ codes "c _ n" ∷ codes "n _ c" ∷ codes "n _ i" ∷ codes "n _ k" ∷ codes "c _ i"
    ∷ codes "c _ k" ∷ codes "n _ s" ∷ codes "n _ n" ∷ codes "i _ k" ∷ [])
    ≡ all (t.Converted (t.Narrowed t.Signed t.Signed t.Every) n ∷ t.Converted (t.Narrowed t.Signed t.Unsigned t.Every) n ∷ t.Converted (t.Narrowed t.Signed t.Signed (t.From t.Signed 0 9)) n
    ∷ t.Converted (t.Narrowed t.Unsigned t.Signed t.Every) c ∷ t.Converted (t.Narrowed t.Unsigned t.Unsigned t.Every) c ∷ t.Converted (t.Narrowed t.Unsigned t.Signed (t.From t.Signed 0 9)) c
    ∷ crossed n ∷ crossed c ∷ signed i ∷ unsigned k ∷ t.Converted (t.Widened t.Signed t.Unsigned) i
    ∷ plain k ∷ signed s ∷ n ∷ t.Checked (t.From t.Unsigned 0 32767) k ∷ [])
unfolding everything
given = refl

-- a constant has its number in two words
a_constant : value (codes "Max: LONG CARDINAL = 100000; Few: LONG INTEGER = -1; c _ Max + Few;")
    ≡ Some (t.Converted t.InCommon (run (crossed (long 100000)) (long 4294967295)))
unfolding everything
a_constant = refl

-- the selector is LONG, and each test makes of it what it needs; or it is a word, which a test widens
selectors : statement (codes "SELECT n FROM 5 => NULL; < i => NULL; c => NULL; IN [0..i] => NULL ENDCASE;") ∷ statement (codes "SELECT c FROM i => NULL ENDCASE;")
    ∷ statement (codes "SELECT i FROM n => NULL; 3 => NULL; NOT IN [0..n] => NULL ENDCASE;") ∷ statement (codes "SELECT 5 FROM c => NULL ENDCASE;") ∷ []
    ≡ Some (t.SelectLong n (t.AndCase (t.IfRelatedLong t.Kept t.Signed t.Equal (long 5) t.NoTests) t.Null
    (t.AndCase (t.IfRelatedLong t.Kept t.Signed t.Less (signed i) t.NoTests) t.Null
    (t.AndCase (t.IfRelatedLong t.Kept t.Signed t.Equal (crossed c) t.NoTests) t.Null
    (t.AndCase (t.IfWithinLong false t.Kept (by t.Signed t.Signed t.Signed) (t.Between (long 0) false (signed i) false) t.NoTests) t.Null
    (t.Otherwise t.Null))))))
    ∷ Some (t.SelectLong c (t.AndCase (t.IfRelatedLong t.InCommon t.Signed t.Equal (signed i) t.NoTests) t.Null (t.Otherwise t.Null)))
    ∷ Some (t.Select i (t.AndCase (t.IfRelatedLong (t.Widened t.Signed t.Signed) t.Signed t.Equal n t.NoTests) t.Null
    (t.AndCase (t.IfRelated t.Every t.Signed t.Equal (t.Number 3) t.NoTests) t.Null
    (t.AndCase (t.IfWithinLong true (t.Widened t.Signed t.Signed) (by t.Signed t.Signed t.Signed) (t.Between (long 0) false n false) t.NoTests) t.Null
    (t.Otherwise t.Null)))))
    ∷ Some (t.Select (t.Number 5) (t.AndCase (t.IfRelatedLong (t.Widened t.Unsigned t.Unsigned) t.Unsigned t.Equal c t.NoTests) t.Null (t.Otherwise t.Null)))
    ∷ []
unfolding everything
selectors = refl

abbrev part : ℕ → ℕ → ℕ → t.Part
part field offset words = record { field = field; offset = offset; words = words }

-- targets of an extractor: n takes an INTEGER, i a LONG CARDINAL, s a CARDINAL, c a LONG CARDINAL
extractor : statement (codes "r: RECORD [w: INTEGER, x: LONG CARDINAL, y: CARDINAL, z: LONG CARDINAL]; [n, i, s, c] _ r;")
    ≡ Some (t.Extract true
    (t.AndConverted (part 0 0 1) (t.Global 2) t.NoSuffix (t.Widened t.Signed t.Signed)
    (t.AndConverted (part 1 1 2) (t.Global 0) t.NoSuffix (t.Narrowed t.Unsigned t.Signed t.Every)
    (t.AndTarget (part 2 3 1) (t.Global 5) t.NoSuffix (t.From t.Unsigned 0 9)
    (t.AndTarget (part 3 4 2) (t.Global 3) t.NoSuffix t.Every t.NoTargets))))
    (t.Variable (t.Global 6) t.NoSuffix 6))
unfolding everything
extractor = refl
