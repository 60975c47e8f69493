-- Texts by which a wrong definition is noticed.
use Rattle.std.specs.Prelude.{◌≡◌, List, [], ◌∷◌, ◌++◌, codes}
use Rattle.std.proofs.Common.{refl}
use Rattle.check_rules.specs.declared.fault.Cause.TheVariants.{UnknownName, TwiceDeclared, TypeMismatch, NotConstant, BadLabel, WrongCount, NotResumable, UnwindJumps, FrameTooLarge}
use Rattle.interface_records.specs.PlainTypes.{PlainInterface}
use Rattle.check_rules.proofs.Texts.{Row, fine, bad, good, wrong, mistakes, interface}
use Rattle.check_rules.proofs.Everything.{everything}

abbrev rows : List Row
rows =
    good (codes "x: BOOLEAN; P: PROCEDURE = BEGIN x: INTEGER; x _ 1; END;")
    ∷ wrong UnknownName (codes "x: INTEGER _ ^y; y: INTEGER;")
    ∷ wrong UnknownName (codes "P: PROCEDURE = BEGIN y: INTEGER _ ^z; z: INTEGER; END;")
    ∷ wrong UnknownName (codes "P: PROCEDURE = BEGIN x: INTEGER; GOTO L; EXITS L => ^x _ 1 END;")
    ∷ good (codes "BEGIN ENABLE ANY => REJECT; NULL END;")
    ∷ wrong UnknownName (codes "P: PROCEDURE = BEGIN x: ARRAY [0..1024] OF INTEGER; ^y _ 1; END;")
    ∷ wrong FrameTooLarge (codes "^P: PROCEDURE = BEGIN x: ARRAY [0..1024] OF INTEGER; END;")
    ∷ wrong NotResumable (codes "E: ERROR = CODE; ERROR E[! E => ^RESUME]")
    ∷ wrong UnwindJumps (codes "DO ENABLE UNWIND => ^EXIT; NULL ENDLOOP;")
    ∷ wrong NotConstant (codes "x: INTEGER [^-32768..0];")
    ∷ wrong NotConstant (codes "c: CARDINAL = 40000; i: INTEGER = -1; b: BOOLEAN = ^i < c;")
    ∷ wrong WrongCount (codes "P: PROCEDURE [n: INTEGER] = BEGIN END; P^[1, q];")
    ∷ wrong TwiceDeclared (codes "c: {red, ^red};")
    ∷ wrong BadLabel (codes "DO NULL REPEAT FINISHED => ^EXIT ENDLOOP;")
    ∷ wrong UnknownName (codes "P: PROCEDURE [x: ARRAY [0..1024] OF INTEGER] = BEGIN ^y _ 1; END;")
    ∷ wrong WrongCount (codes "P: PROCEDURE [n, m: INTEGER] = BEGIN END; P^[m: 1];")
    ∷ wrong TypeMismatch (codes "x: INTEGER; x _ ^TRUE;")
    ∷ wrong TypeMismatch (codes "x: INTEGER; F: PROCEDURE = BEGIN END; x _ 2 + ^(F[]);")
    ∷ wrong TypeMismatch (codes "x: INTEGER; x _ ^([1]) + 2;")
    ∷ wrong TypeMismatch (codes "c: INTEGER = F[^TRUE]; F: PROCEDURE [n: INTEGER] RETURNS [INTEGER] = BEGIN RETURN[n] END;")
    ∷ []

-- two interfaces with one name, of which the first that is opened gives it; a third is not given
abbrev given : List PlainInterface
given = interface 10 (codes "I: DEFINITIONS = BEGIN Put: PROCEDURE [n: INTEGER]; END.")
    ++ interface 11 (codes "J: DEFINITIONS = BEGIN Put: PROCEDURE [c: CHARACTER]; END.")

abbrev opening : List Row
opening =
    fine (codes "DIRECTORY I: FROM \"I\", J: FROM \"J\"; M: PROGRAM IMPORTS I, J = BEGIN OPEN I, J; Put[1]; END.")
    ∷ fine (codes "DIRECTORY I: FROM \"I\", J: FROM \"J\"; M: PROGRAM IMPORTS I, J = BEGIN OPEN J, I; Put['a]; END.")
    ∷ bad UnknownName (codes "DIRECTORY I: FROM \"I\", J: FROM \"J\", ^K: FROM \"K\"; M: PROGRAM = BEGIN END.")
    ∷ []

first_opened : mistakes given 0 opening ≡ []
unfolding everything
first_opened = refl

noticed : mistakes [] 0 rows ≡ []
unfolding everything
noticed = refl
