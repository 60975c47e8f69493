-- Expressions: operators, relations, records, arrays, calls, raises.
use Rattle.std.specs.Prelude.{◌≡◌, List, [], ◌∷◌, ◌++◌, codes}
use Rattle.std.proofs.Common.{refl}
use Rattle.check_rules.specs.declared.fault.Cause.TheVariants.{UnknownName, TwiceDeclared, TypeMismatch, WrongCount}
use Rattle.check_rules.proofs.Texts.{Row, good, wrong, mistakes}
use Rattle.check_rules.proofs.Everything.{everything}

abbrev operators : List Row
operators =
    wrong TypeMismatch (codes "x: INTEGER; x _ 1 ^+ 'a;")
    ∷ good (codes "c: CHARACTER; i: INTEGER; k: CARDINAL; c _ c + 1; c _ c - k; i _ c - c; i _ i + k * 3 MOD i / 2 - -1; k _ +k;")
    ∷ wrong TypeMismatch (codes "c: CHARACTER; c _ c ^* 2;")
    ∷ wrong TypeMismatch (codes "c: CHARACTER; c _ c ^+ c;")
    ∷ wrong TypeMismatch (codes "b: BOOLEAN; b _ b ^AND 1;")
    ∷ wrong UnknownName (codes "b: BOOLEAN; b _ 1 AND ^q;")
    ∷ wrong TypeMismatch (codes "b: BOOLEAN; b _ b AND b ^AND 1 AND q;")
    ∷ wrong TypeMismatch (codes "b: BOOLEAN; b _ b OR b ^OR 1 OR q;")
    ∷ wrong TypeMismatch (codes "b: BOOLEAN; b _ ^NOT 1;")
    ∷ wrong TypeMismatch (codes "i: INTEGER; i _ ^-'a;")
    ∷ wrong TypeMismatch (codes "i: INTEGER; i _ ^+TRUE;")
    ∷ wrong TypeMismatch (codes "b: BOOLEAN; b _ 1 ^= 'a;")
    ∷ wrong TypeMismatch (codes "b: BOOLEAN; b _ 1 NOT ^< TRUE;")
    ∷ wrong TypeMismatch (codes "s: STRING; b: BOOLEAN; b _ s ^= s;")
    ∷ wrong TypeMismatch (codes "b: BOOLEAN; b _ 1 ^IN ['a..'z];")
    ∷ wrong TypeMismatch (codes "b: BOOLEAN; b _ 1 NOT ^IN ['a..9];")
    ∷ good (codes "i: INTEGER; k: CARDINAL; b: BOOLEAN; b _ i IN [0..k) AND 'a NOT IN ['a..'z] OR ~ (1 = 2) AND i ~= k AND b > FALSE;")
    ∷ wrong TypeMismatch (codes "i: INTEGER; i _ ^TRUE;")
    ∷ wrong TypeMismatch (codes "c: {red, green}; d: {blue, white}; c _ ^blue;")
    ∷ wrong TypeMismatch (codes "c: {red, green}; d: {blue, white}; b: BOOLEAN _ red ^= blue;")
    ∷ good (codes "c: {red, green}; b: BOOLEAN _ c < green; i: INTEGER _ 32768; k: CARDINAL _ -1; s: [0..9] _ 12;")
    ∷ []

operands_before_operators : mistakes [] 0 operators ≡ []
unfolding everything
operands_before_operators = refl

abbrev parts : List Row
parts =
    good (codes "a: ARRAY [0..2] OF INTEGER; a[1] _ 2; a[a[0]] _ a[2];")
    ∷ wrong TypeMismatch (codes "a: ARRAY [0..2] OF INTEGER; a[^TRUE] _ 2;")
    ∷ wrong WrongCount (codes "a: ARRAY [0..2] OF INTEGER; a^[1, q] _ 3;")
    ∷ wrong WrongCount (codes "a: ARRAY [0..2] OF INTEGER; a^[x: 1] _ 3;")
    ∷ wrong UnknownName (codes "a: ARRAY [0..2] OF INTEGER; a[^q] _ 1;")
    ∷ wrong TypeMismatch (codes "i: INTEGER; ^i[q] _ 2;")
    ∷ wrong TypeMismatch (codes "s: STRING; ^s[q] _ 'a;")
    ∷ good (codes "s: STRING; c: CHARACTER; i: INTEGER; c _ s[0]; i _ s.length;")
    ∷ wrong UnknownName (codes "s: STRING; i: INTEGER; i _ s.^size;")
    ∷ wrong TypeMismatch (codes "i: INTEGER; i _ ^i.x;")
    ∷ wrong TypeMismatch (codes "a: ARRAY [0..2] OF INTEGER; i: INTEGER; i _ a[1 ^! ANY => NULL];")
    ∷ wrong TypeMismatch (codes "a: ARRAY [0..2] OF INTEGER; i: INTEGER; i _ a[1, q ^! ANY => NULL];")
    ∷ wrong UnknownName (codes "^q.x _ 1;")
    ∷ wrong TypeMismatch (codes "s: STRING; s.^length _ 1;")
    ∷ good (codes "R: TYPE = RECORD [x, y: INTEGER]; r: R _ [1, 2]; r _ [y: 2, x: 1]; r _ R[1, 2]; r.x _ r.y; r.x _ R[3, 4].x;")
    ∷ wrong WrongCount (codes "R: TYPE = RECORD [x, y: INTEGER]; r: R _ ^[q];")
    ∷ wrong WrongCount (codes "R: TYPE = RECORD [x, y: INTEGER]; r: R _ ^[x: 1, x: q];")
    ∷ wrong WrongCount (codes "R: TYPE = RECORD [x, y: INTEGER]; r: R _ ^[x: 1, z: q];")
    ∷ wrong TypeMismatch (codes "R: TYPE = RECORD [x, y: INTEGER]; r: R _ [1, ^TRUE];")
    ∷ wrong UnknownName (codes "R: TYPE = RECORD [x, y: INTEGER]; r: R; r.^z _ 1;")
    ∷ wrong TypeMismatch (codes "i: INTEGER _ ^[1];")
    ∷ wrong TypeMismatch (codes "i: INTEGER; i _ 1 + ^[1];")
    ∷ good (codes "A: TYPE = ARRAY [0..1] OF INTEGER; a: A _ [1, 2]; a _ A[3, 4];")
    ∷ wrong WrongCount (codes "A: TYPE = ARRAY [0..1] OF INTEGER; a: A _ ^[1];")
    ∷ wrong WrongCount (codes "A: TYPE = ARRAY [0..1] OF INTEGER; a: A _ ^[x: 1, y: 2];")
    ∷ wrong TypeMismatch (codes "T: TYPE = INTEGER; i: INTEGER _ ^T[1];")
    ∷ wrong TypeMismatch (codes "T: TYPE = INTEGER; i: INTEGER _ ^T[1 ! ANY => NULL];")
    ∷ wrong TypeMismatch (codes "A: TYPE = ARRAY [0..1] OF INTEGER; a: A _ A[1 ^! ANY => NULL];")
    ∷ wrong TypeMismatch (codes "i: INTEGER; i _ ^i[1 ! ANY => NULL];")
    ∷ wrong TypeMismatch (codes "R: TYPE = RECORD [x: INTEGER]; Q: TYPE = RECORD [x: INTEGER]; r: R; q: Q _ ^r;")
    ∷ []

parts_of_variables : mistakes [] 0 parts ≡ []
unfolding everything
parts_of_variables = refl

abbrev calls : List Row
calls =
    good (codes "P: PROCEDURE [n: INTEGER] = BEGIN END; P[1]; P[n: 2]; P[1 ! ANY => NULL];")
    ∷ wrong WrongCount (codes "P: PROCEDURE [n: INTEGER] = BEGIN END; P^[];")
    ∷ wrong WrongCount (codes "P: PROCEDURE [n: INTEGER] = BEGIN END; P^[1, q];")
    ∷ wrong WrongCount (codes "P: PROCEDURE [n: INTEGER] = BEGIN END; P^[m: q];")
    ∷ wrong WrongCount (codes "P: PROCEDURE [n: INTEGER] = BEGIN END; ^P;")
    ∷ wrong TypeMismatch (codes "P: PROCEDURE [n: INTEGER] = BEGIN END; P[^TRUE];")
    ∷ wrong TypeMismatch (codes "P: PROCEDURE [n: INTEGER] = BEGIN END; x: INTEGER; x _ ^P[1];")
    ∷ wrong TypeMismatch (codes "P: PROCEDURE [n: INTEGER] = BEGIN END; ^P _ 1;")
    ∷ wrong TypeMismatch (codes "x: INTEGER; ^x;")
    ∷ wrong TypeMismatch (codes "a: ARRAY [0..2] OF INTEGER; ^a[q];")
    ∷ good (codes "F: PROCEDURE RETURNS [a, b: INTEGER] = BEGIN END; x, y: INTEGER; [x, y] _ F[]; [b: x] _ (F[]); [] _ F[]; F[]; F;")
    ∷ wrong TypeMismatch (codes "F: PROCEDURE RETURNS [a, b: INTEGER] = BEGIN END; x: INTEGER; x _ ^F[];")
    ∷ wrong TypeMismatch (codes "F: PROCEDURE RETURNS [a, b: INTEGER] = BEGIN END; x: INTEGER; x _ ^F[] + 1;")
    ∷ wrong WrongCount (codes "F: PROCEDURE RETURNS [a, b: INTEGER] = BEGIN END; ^[q] _ F[];")
    ∷ wrong WrongCount (codes "F: PROCEDURE RETURNS [a, b: INTEGER] = BEGIN END; ^[c: q] _ F[];")
    ∷ wrong TwiceDeclared (codes "F: PROCEDURE RETURNS [a, b: INTEGER] = BEGIN END; x: INTEGER; [a: x, ^a: q] _ F[];")
    ∷ wrong UnknownName (codes "[x] _ ^F[];")
    ∷ wrong TypeMismatch (codes "F: PROCEDURE RETURNS [a, b: INTEGER] = BEGIN END; x: BOOLEAN; [x, q] _ ^F[];")
    ∷ wrong TypeMismatch (codes "x: INTEGER; [x] _ ^x;")
    ∷ wrong TypeMismatch (codes "x: INTEGER; [x] _ ^[1];")
    ∷ good (codes "R: TYPE = RECORD [x, y: INTEGER]; r: R; F: PROCEDURE RETURNS [R] = BEGIN END; G: PROCEDURE RETURNS [n: INTEGER] = BEGIN END; "
    ++ codes "x, y: INTEGER; [x, y] _ r; [y: x] _ F[]; [x] _ G[]; [n: x] _ G[]; x _ F[].y + G[];")
    ∷ wrong TypeMismatch (codes "F: PROCEDURE RETURNS [ARRAY [0..1] OF INTEGER] = BEGIN END; x: INTEGER; x _ ^F[][0];")
    ∷ good (codes "F: PROCEDURE RETURNS [STRING] = BEGIN END; c: CHARACTER; c _ F[][0];")
    ∷ []

calls_and_extractors : mistakes [] 0 calls ≡ []
unfolding everything
calls_and_extractors = refl

abbrev raises : List Row
raises =
    good (codes "S: SIGNAL [n: INTEGER] RETURNS [INTEGER] = CODE; E: ERROR = CODE; x: INTEGER; x _ SIGNAL S[1]; [x] _ SIGNAL S[n: 2]; ERROR E; ERROR; "
    ++ codes "ERROR BoundsFault; ERROR E[! ANY => NULL];")
    ∷ wrong WrongCount (codes "S: SIGNAL [n: INTEGER] RETURNS [INTEGER] = CODE; x: INTEGER; x _ SIGNAL S^[];")
    ∷ wrong WrongCount (codes "S: SIGNAL [n: INTEGER] RETURNS [INTEGER] = CODE; x: INTEGER; x _ ^SIGNAL S;")
    ∷ wrong TypeMismatch (codes "E: ERROR = CODE; SIGNAL ^E;")
    ∷ wrong TypeMismatch (codes "S: SIGNAL = CODE; ERROR ^S;")
    ∷ wrong TypeMismatch (codes "E: ERROR = CODE; x: INTEGER; x _ ^ERROR E;")
    ∷ wrong TypeMismatch (codes "x: INTEGER; SIGNAL ^x;")
    ∷ wrong UnknownName (codes "SIGNAL ^q;")
    ∷ wrong UnknownName (codes "SIGNAL q.^r;")
    ∷ []

raises_by_their_word : mistakes [] 0 raises ≡ []
unfolding everything
raises_by_their_word = refl
