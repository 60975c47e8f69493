-- Two faults in one text: the first in the order of checking is the one that is told. And the words of operands.
use Rattle.std.specs.Prelude.{◌≡◌, ℕ, List, [], ◌∷◌, ◌++◌, codes}
use Rattle.std.proofs.Common.{refl}
use Rattle.check_rules.specs.declared.fault.Cause.TheVariants.{UnknownName, TwiceDeclared, TypeMismatch, NotConstant, BadLabel, WrongCount, NotResumable, UnwindJumps, FrameTooLarge}
use Rattle.interface_records.specs.PlainTypes.{PlainInterface}
use Rattle.check_rules.proofs.Texts.{Row, good, wrong, fine, bad, mistakes, interface}
use Rattle.check_rules.proofs.Everything.{everything}

abbrev rows : List Row
rows =
    -- heads of all declarations before bodies and initial values
    wrong UnknownName (codes "P: PROCEDURE = BEGIN q1 _ 1 END; x: INTEGER _ q2; y: ^q3;")
    -- then ENABLE, initial values and bodies, statements, EXITS, in text order
    ∷ wrong UnknownName (codes "P: PROCEDURE = BEGIN ^q1 _ 1 END; x: INTEGER _ q2; q3 _ 1")
    ∷ wrong UnknownName (codes "x: INTEGER _ ^q2; P: PROCEDURE = BEGIN q1 _ 1 END;")
    ∷ wrong UnknownName (codes "GOTO L; ^q1 _ 1; EXITS L => q2 _ 1")
    -- a block is checked whole at its place, its heads first
    ∷ wrong UnknownName (codes "BEGIN ENABLE ANY => q1 _ 1; x: INTEGER _ q2; y: ^q3; END; q4 _ 1;")
    ∷ wrong UnknownName (codes "BEGIN ENABLE ANY => ^q1 _ 1; x: INTEGER _ q2; END;")
    -- names before the type of their declaration
    ∷ wrong TwiceDeclared (codes "x: INTEGER; ^x: q1;")
    ∷ wrong UnknownName (codes "x: ^q1; x: INTEGER;")
    -- operands before their operator, the left one first
    ∷ wrong UnknownName (codes "x: INTEGER; x _ TRUE + ^q1;")
    ∷ wrong TypeMismatch (codes "x: INTEGER; x _ TRUE ^+ 1 + q1;")
    ∷ wrong UnknownName (codes "^q1 _ q2;")
    ∷ wrong TypeMismatch (codes "a: ARRAY [0..2] OF INTEGER; a[^TRUE] _ q1;")
    ∷ wrong UnknownName (codes "x: INTEGER; [x, q1] _ ^q2;")
    -- the count of a list before its items, the name before the count
    ∷ wrong WrongCount (codes "P: PROCEDURE = BEGIN END; P^[q1];")
    ∷ wrong UnknownName (codes "^q1[1, 2];")
    ∷ wrong TypeMismatch (codes "x: INTEGER; x _ ^x[1, 2];")
    -- items before the phrase of their brackets
    ∷ wrong UnknownName (codes "P: PROCEDURE [n: INTEGER] = BEGIN END; P[^q1 ! q2 => NULL];")
    -- bounds from left to right, each a constant, then the interval
    ∷ wrong NotConstant (codes "y: INTEGER; x: [^y..q1];")
    ∷ wrong UnknownName (codes "x: ['a..^q1];")
    ∷ wrong UnknownName (codes "x: ARRAY ^q1 OF q2;")
    ∷ wrong TypeMismatch (codes "x: ARRAY ^INTEGER OF q2;")
    -- the value's type before that it is constant
    ∷ wrong TypeMismatch (codes "y: BOOLEAN; x: INTEGER = ^y;")
    -- at one RESUME
    ∷ wrong UnwindJumps (codes "BEGIN ENABLE UNWIND => ^RESUME[q1]; NULL END;")
    ∷ wrong NotResumable (codes "E: ERROR = CODE; S: SIGNAL = CODE; BEGIN ENABLE S, E => ^RESUME[q1]; NULL END;")
    ∷ wrong TypeMismatch (codes "T: SIGNAL RETURNS [INTEGER] = CODE; S: SIGNAL = CODE; BEGIN ENABLE S, T => ^RESUME[q1]; NULL END;")
    -- a word's label before the values behind it
    ∷ wrong BadLabel (codes "^RESUME[q1];")
    -- FOR: its name, its bounds, their meeting, the condition
    ∷ wrong UnknownName (codes "FOR ^q1 IN [q2..q3] WHILE q4 DO ENDLOOP;")
    ∷ wrong UnknownName (codes "i: INTEGER; FOR i IN [TRUE..^q3] WHILE q4 DO ENDLOOP;")
    ∷ wrong TypeMismatch (codes "i: INTEGER; FOR i IN ^[TRUE..FALSE] WHILE q4 DO ENDLOOP;")
    ∷ []

the_first_fault : mistakes [] 0 rows ≡ []
unfolding everything
the_first_fault = refl

abbrev operands : List Row
operands =
    -- an array counts its words each time it is named, and a constructor its own besides
    good (codes "a: ARRAY [0..8191] OF INTEGER; a _ a;")
    ∷ wrong FrameTooLarge (codes "R: TYPE = RECORD [x: ARRAY [0..8191] OF INTEGER]; r: R; ^r _ [r.x];")
    ∷ wrong FrameTooLarge (codes "R: TYPE = RECORD [x: ARRAY [0..8191] OF INTEGER]; r: R; IF TRUE THEN ^r _ [r.x];")
    ∷ wrong UnknownName (codes "R: TYPE = RECORD [x: ARRAY [0..8191] OF INTEGER]; r: R; r _ [r.^y];")
    ∷ good (codes "A: TYPE = ARRAY [0..8191] OF INTEGER; a: A; i: INTEGER _ 3; WHILE a[i] = a[i + 1] DO a _ a ENDLOOP;")
    ∷ []

words_of_operands : mistakes [] 0 operands ≡ []
unfolding everything
words_of_operands = refl

-- What an interface has may take and give more than a frame has: an array of 16,380 words, and four words more are 16,384.
abbrev taking : List PlainInterface
taking = interface 10 (codes "I: DEFINITIONS = BEGIN A: TYPE = ARRAY [0..16379] OF INTEGER; W: PROCEDURE RETURNS [A]; "
    ++ codes "P: PROCEDURE [a: A, w, x, y, z: INTEGER]; C: PROCEDURE [a: A, c: CHARACTER, x: INTEGER]; S: PROCEDURE [a: A, s: STRING, y, z: INTEGER]; "
    ++ codes "R: TYPE = RECORD [y, z: INTEGER]; Q: PROCEDURE [a: A, x: INTEGER, r: R]; G: PROCEDURE [a: A, w, x: INTEGER] RETURNS [INTEGER]; "
    ++ codes "E: SIGNAL [a: A, w, x: INTEGER] RETURNS [INTEGER]; F: PROCEDURE RETURNS [STRING]; H: SIGNAL RETURNS [INTEGER]; END.")

abbrev holding : List ℕ → List ℕ
holding text = codes "DIRECTORY I: FROM \"I\"; M: PROGRAM IMPORTS I = BEGIN OPEN I; s: STRING; k: STRING = \"ab\"; "
    ++ codes "n: INTEGER; r: R; v: ARRAY [0..3] OF INTEGER; "
    ++ (text ++ codes " END.")

abbrev fits : List ℕ → Row
fits text = fine (holding text)

abbrev above : List ℕ → Row
above text = bad FrameTooLarge (holding text)

abbrev values : List Row
values =
    fits (codes "P[W[], 1, n, -2, (3)];")
    ∷ above (codes "^P[W[], 1, n, -2, 3 + 4];")
    ∷ above (codes "^I.P[W[], 1, n, -2, 3 + 4];")
    -- a string has two words, a byte of one that is named and its length one
    ∷ fits (codes "S[W[], s, 1, 2]; S[W[], k, 1, 2]; S[W[], \"ab\", 1, 2];")
    ∷ above (codes "^S[W[], s, 1, 2 + 3];")
    ∷ above (codes "^S[W[], k, 1, 2 + 3];")
    ∷ fits (codes "C[W[], s[0], n + 1]; C[W[], k[0], n + 1]; P[W[], s.length, k.length, 1, 2];")
    ∷ above (codes "^C[W[], k[0], n + 1 + 2];")
    -- a call counts the string that it gives
    ∷ fits (codes "C[W[], F[][0], 1]; G[W[], F[].length, r.y];")
    ∷ []

abbrev parts : List Row
parts =
    -- an index counts besides
    above (codes "^P[W[], 1, 2, 3, v[3]];")
    -- a constructor counts its own size, and its fields besides
    ∷ fits (codes "Q[W[], 1 + 2, r];")
    ∷ above (codes "^Q[W[], 1, [2, 3]];")
    ∷ above (codes "^Q[W[], 1, R[2, 3]];")
    -- targets, tests, intervals; not what stands in inner statements, nor the variable of a FOR
    ∷ fits (codes "n _ G[W[], 1, 2]; [n] _ G[W[], 1, 2]; IF G[W[], 1, 2] = n THEN P[W[], 1, 2, 3, 4]; G[W[], 1, 2 + 3];")
    ∷ above (codes "^n _ G[W[], 1, 2 + 3];")
    ∷ above (codes "^v[0] _ G[W[], 1, 2];")
    ∷ above (codes "^[v[0]] _ G[W[], 1, 2];")
    ∷ above (codes "^IF G[W[], 1, 2] = n + 1 THEN NULL;")
    ∷ above (codes "^G[W[], 1, 2 + 3 + 4];")
    ∷ fits (codes "FOR n IN [1..G[W[], 1, 2]] DO P[W[], 1, 2, 3, 4] ENDLOOP; SELECT G[W[], 1, 2] FROM 1 => P[W[], 1, 2, 3, 4] ENDCASE;")
    ∷ above (codes "^FOR n IN [1..G[W[], 1, 2]] WHILE TRUE DO ENDLOOP;")
    ∷ above (codes "^THROUGH [1..G[W[], 1, 2]] UNTIL TRUE DO ENDLOOP;")
    ∷ above (codes "^SELECT G[W[], 1, 2] FROM 1 => NULL; IN [2..3] => NULL ENDCASE;")
    ∷ fits (codes "Z: PROCEDURE RETURNS [INTEGER] = BEGIN RETURN[G[W[], 1, 2 + 3]] END;")
    ∷ above (codes "Z: PROCEDURE RETURNS [INTEGER] = BEGIN ^RETURN[G[W[], 1, 2 + 3 + 4]] END;")
    ∷ fits (codes "BEGIN ENABLE H => RESUME[G[W[], 1, 2 + 3]]; n _ SIGNAL E[W[], 1, 2] END;")
    ∷ above (codes "BEGIN ENABLE H => ^RESUME[G[W[], 1, 2 + 3 + 4]]; NULL END;")
    ∷ above (codes "^SIGNAL E[W[], 1, 2 + 3 + 4];")
    -- a declaration counts its type and its initial value
    ∷ fits (codes "x: INTEGER _ G[W[], 1, 2 + 3];")
    ∷ above (codes "^x, y: INTEGER _ G[W[], 1, 2 + 3 + 4];")
    ∷ above (codes "^x: [0..9] _ G[W[], 1, 2];")
    ∷ above (codes "BEGIN ^x: [0..9] _ G[W[], 1, 2]; NULL END;")
    -- the faults of inner statements come first
    ∷ bad UnknownName (holding (codes "IF G[W[], 1, 2] = n + 1 THEN ^q _ 1;"))
    ∷ []

words_of_values : mistakes taking 0 values ≡ []
unfolding everything
words_of_values = refl

words_of_parts : mistakes taking 0 parts ≡ []
unfolding everything
words_of_parts = refl
