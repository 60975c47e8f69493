-- Forms in one another.
use Rattle.std.specs.Prelude.{◌≡◌, List, [], ◌∷◌, codes}
use Rattle.std.proofs.Common.{refl}
use Rattle.check_rules.specs.declared.fault.Cause.TheVariants.{UnknownName, TwiceDeclared, TypeMismatch, NotConstant, WrongCount, UnwindJumps}
use Rattle.check_rules.proofs.Texts.{Row, good, wrong, mistakes}
use Rattle.check_rules.proofs.Everything.{everything}

abbrev jumps : List Row
jumps =
    good (codes "i: INTEGER; FOR i IN [0..3] DO ENABLE ANY => LOOP; NULL ENDLOOP;")
    ∷ wrong UnwindJumps (codes "DO ENABLE UNWIND => ^LOOP; NULL ENDLOOP;")
    ∷ good (codes "DO ENABLE UNWIND => DO EXIT ENDLOOP; NULL ENDLOOP;")
    ∷ wrong UnwindJumps (codes "P: PROCEDURE = BEGIN BEGIN ENABLE UNWIND => ^GOTO L; NULL END; EXITS L => NULL END;")
    ∷ good (codes "P: PROCEDURE = BEGIN ENABLE ANY => GOTO L; NULL; EXITS L => NULL END;")
    ∷ good (codes "BEGIN ENABLE ANY => BEGIN x: INTEGER; x _ 1; CONTINUE END; NULL END;")
    ∷ good (codes "Q: PROCEDURE = BEGIN END; BEGIN ENABLE UNWIND => Q[! ANY => RETRY]; NULL END;")
    ∷ wrong UnwindJumps (codes "Q: PROCEDURE = BEGIN END; BEGIN ENABLE UNWIND => Q[! ANY => ^RETURN]; NULL END;")
    ∷ wrong TypeMismatch (codes "S: SIGNAL [x: BOOLEAN] = CODE; x: INTEGER; BEGIN ENABLE S => x _ ^1; NULL END;")
    ∷ good (codes "S: SIGNAL [x: BOOLEAN] = CODE; T: SIGNAL [y: BOOLEAN] = CODE; x: INTEGER; BEGIN ENABLE S, T => x _ 1; NULL END;")
    ∷ wrong UnknownName (codes "S: SIGNAL [x: BOOLEAN] = CODE; BEGIN ENABLE BEGIN S => NULL; ANY => ^x _ TRUE END; NULL END;")
    ∷ wrong WrongCount (codes "S: SIGNAL RETURNS [a, b: INTEGER] = CODE; BEGIN ENABLE S => RESUME^[1]; NULL END;")
    ∷ []

jumps_in_arms : mistakes [] 0 jumps ≡ []
unfolding everything
jumps_in_arms = refl

abbrev shapes : List Row
shapes =
    good (codes "T: TYPE = {a, b, c}; x: T [a..b] _ b; y: T _ x; x _ y; IF x IN [a..c) THEN NULL;")
    ∷ good (codes "A: TYPE = ARRAY {a, b} OF ARRAY ['x..'z] OF BOOLEAN; v: A; v[a]['y] _ TRUE; v _ [[TRUE, FALSE, TRUE], [TRUE, TRUE, FALSE]];")
    ∷ wrong TypeMismatch (codes "A: TYPE = ARRAY {a, b} OF BOOLEAN; v: A; v[^0] _ TRUE;")
    ∷ wrong WrongCount (codes "A: TYPE = ARRAY {a, b} OF ARRAY BOOLEAN OF INTEGER; v: A; v _ [[1, 2], ^[3]];")
    ∷ good (codes "P: PROCEDURE [r: RECORD [x: INTEGER]] = BEGIN END; P[[1]]; P[r: [x: 2]];")
    ∷ wrong TypeMismatch (codes "r: RECORD [x: INTEGER]; IF r = ^[1] THEN NULL;")
    ∷ wrong TypeMismatch (codes "r: RECORD [x: INTEGER]; IF r ^= r THEN NULL;")
    ∷ good (codes "c: CHARACTER = 'a; d: CHARACTER [c..'z]; e: CHARACTER [c..c + 3]; f: [c..'z);")
    ∷ wrong NotConstant (codes "d: CHARACTER ['a..^377C + 1];")
    ∷ wrong TypeMismatch (codes "d: CHARACTER ^['z..'a];")
    ∷ wrong TypeMismatch (codes "d: ^[TRUE..FALSE];")
    ∷ wrong TwiceDeclared (codes "x: INTEGER; T: TYPE = RECORD [c: {^x}];")
    ∷ good (codes "c: {a, b} _ b; d: {e, f} = e; g: BOOLEAN = d = f; h: [FALSE..g];")
    ∷ []

types_in_use : mistakes [] 0 shapes ≡ []
unfolding everything
types_in_use = refl

abbrev values : List Row
values =
    good (codes "x: INTEGER; c: INTEGER = 3; SELECT x FROM c => NULL; IN [1..c) => NULL; > c => NULL ENDCASE;")
    ∷ good (codes "S: SIGNAL RETURNS [a, b: INTEGER] = CODE; x, y: INTEGER; [x, y] _ SIGNAL S; SIGNAL S; [b: x] _ (SIGNAL S);")
    ∷ wrong TypeMismatch (codes "S: SIGNAL RETURNS [a, b: INTEGER] = CODE; x: INTEGER; x _ ^SIGNAL S;")
    ∷ good (codes "P: PROCEDURE RETURNS [STRING] = BEGIN RETURN[\"a\"] END; i: CARDINAL _ P[].length;")
    ∷ wrong UnknownName (codes "P: PROCEDURE RETURNS [STRING] = BEGIN END; i: CARDINAL _ P[].^size;")
    ∷ wrong TypeMismatch (codes "P: PROCEDURE RETURNS [INTEGER] = BEGIN END; i: CARDINAL _ ^P[].x;")
    ∷ wrong TypeMismatch (codes "R: TYPE = RECORD [x: INTEGER]; F: PROCEDURE RETURNS [R] = BEGIN END; F[].^x;")
    ∷ wrong TypeMismatch (codes "P: PROCEDURE = BEGIN END; ^P.x _ 1;")
    ∷ wrong UnknownName (codes "P: PROCEDURE [x: INTEGER] = BEGIN END; ^x _ 1;")
    ∷ good (codes "P: PROCEDURE = BEGIN P[] END; Q: PROCEDURE RETURNS [q: INTEGER] = BEGIN q _ Q[] END;")
    ∷ good (codes "x: INTEGER _ 3; b: BOOLEAN; x _ -x; x _ - (x) MOD 2; x _ x * -1; b _ ~ 1 = 1 AND NOT b;")
    ∷ wrong TypeMismatch (codes "x: INTEGER; x _ x ^MOD TRUE;")
    ∷ wrong NotConstant (codes "s: STRING = \"ab\"; x: [0..^s.length];")
    ∷ good (codes "s: STRING = \"ab\"; x: CARDINAL _ s.length; c: CHARACTER _ s[x - 1]; t: STRING _ s;")
    ∷ wrong TypeMismatch (codes "s: STRING = \"ab\"; ^s _ \"c\";")
    ∷ wrong TypeMismatch (codes "s: STRING = \"ab\"; ^s[0] _ 'c;")
    ∷ []

values_in_use : mistakes [] 0 values ≡ []
unfolding everything
values_in_use = refl
