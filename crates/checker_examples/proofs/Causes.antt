-- Each cause at each kind of place, where no other table has it.
use Rattle.std.specs.Prelude.{◌≡◌, ℕ, List, [], ◌∷◌, ◌++◌, codes}
use Rattle.std.proofs.Common.{refl}
use Rattle.interface_records.specs.PlainTypes.{PlainInterface}
use Rattle.check_rules.specs.declared.fault.Cause.{Cause}
use Rattle.check_rules.specs.declared.fault.Cause.TheVariants.{UnknownName, TwiceDeclared, TypeMismatch, NotConstant, BadLabel, WrongCount, ExportDiffers}
use Rattle.check_rules.proofs.Texts.{Row, fine, bad, good, wrong, mistakes, interface}
use Rattle.check_rules.proofs.Everything.{everything}

abbrev given : List PlainInterface
given = interface 10 (codes "I: DEFINITIONS = BEGIN Color: TYPE = {red, green}; Put: PROCEDURE [c: Color]; Full: ERROR; "
    ++ codes "Ask: SIGNAL [n: INTEGER] RETURNS [INTEGER]; Two: PROCEDURE RETURNS [a, b: INTEGER]; END.")

abbrev others : List PlainInterface
others = interface 11 (codes "J: DEFINITIONS = BEGIN Last: PROCEDURE [n: INTEGER] RETURNS [INTEGER]; First: PROCEDURE [n, m: INTEGER]; Odd: SIGNAL; END.")

-- in a module that imports I, and in one that does not
abbrev unsound : Cause → List ℕ → Row
unsound cause text = bad cause (codes "DIRECTORY I: FROM \"I\"; M: PROGRAM IMPORTS I = BEGIN v: INTEGER; " ++ (text ++ codes " END."))

abbrev apart : Cause → List ℕ → Row
apart cause text = bad cause (codes "DIRECTORY I: FROM \"I\"; M: PROGRAM = BEGIN v: INTEGER; " ++ (text ++ codes " END."))

abbrev unknown : List Row
unknown =
    wrong UnknownName (codes "x: ^q [0..3];")
    ∷ wrong UnknownName (codes "x: RECORD [a: ^q];")
    ∷ wrong UnknownName (codes "P: PROCEDURE [a: ^q] = BEGIN END;")
    ∷ wrong UnknownName (codes "P: PROCEDURE RETURNS [^q] = BEGIN END;")
    ∷ wrong UnknownName (codes "S: SIGNAL [^q] = CODE;")
    ∷ wrong UnknownName (codes "x: INTEGER; x _ ^q[1];")
    ∷ wrong UnknownName (codes "r: RECORD [x: INTEGER]; [^q] _ r;")
    ∷ wrong UnknownName (codes "r: RECORD [x: INTEGER]; [x: ^q] _ r;")
    ∷ wrong UnknownName (codes "x: INTEGER; SELECT x FROM ^q => NULL ENDCASE;")
    ∷ wrong UnknownName (codes "x: INTEGER; SELECT x FROM IN [^q..3] => NULL ENDCASE;")
    ∷ wrong UnknownName (codes "THROUGH [1..^q] DO ENDLOOP;")
    ∷ wrong UnknownName (codes "DO ENABLE ANY => ^q _ 1; NULL ENDLOOP;")
    ∷ wrong UnknownName (codes "DO REPEAT L => ^q _ 1 ENDLOOP;")
    ∷ wrong UnknownName (codes "DO REPEAT FINISHED => ^q _ 1 ENDLOOP;")
    ∷ wrong UnknownName (codes "BEGIN ENABLE q.^r => NULL; NULL END;")
    ∷ wrong UnknownName (codes "ERROR ^q;")
    ∷ wrong UnknownName (codes "x: q.^r [0..3];")
    ∷ []

unknown_names : mistakes [] 0 unknown ≡ []
unfolding everything
unknown_names = refl

abbrev of_interfaces : List Row
of_interfaces =
    unsound UnknownName (codes "x: I.^zz;")
    ∷ unsound UnknownName (codes "I.^zz[1];")
    ∷ unsound UnknownName (codes "v _ I.^zz;")
    ∷ unsound UnknownName (codes "SIGNAL I.^zz;")
    ∷ unsound UnknownName (codes "BEGIN ENABLE I.^zz => NULL; NULL END;")
    ∷ unsound UnknownName (codes "v _ ^red;")
    ∷ apart UnknownName (codes "ERROR I.^Full;")
    ∷ apart UnknownName (codes "v _ SIGNAL I.^Ask[q];")
    ∷ apart UnknownName (codes "BEGIN ENABLE I.^Full => NULL; NULL END;")
    ∷ apart UnknownName (codes "x: I.^Put;")
    ∷ unsound TypeMismatch (codes "x: I.^Put;")
    ∷ unsound TypeMismatch (codes "x: I.^red;")
    ∷ unsound TypeMismatch (codes "x: v.^T;")
    ∷ unsound TypeMismatch (codes "BEGIN ENABLE I.^Put => NULL; NULL END;")
    ∷ unsound TypeMismatch (codes "SIGNAL I.^Full;")
    ∷ unsound TypeMismatch (codes "ERROR I.^Ask;")
    ∷ unsound TypeMismatch (codes "I.^red _ v;")
    ∷ unsound TypeMismatch (codes "^I _ v;")
    ∷ unsound TypeMismatch (codes "^I[v];")
    ∷ unsound TypeMismatch (codes "I.^Color;")
    ∷ unsound TypeMismatch (codes "v _ ^I.Two[];")
    ∷ unsound WrongCount (codes "^I.Put;")
    ∷ unsound WrongCount (codes "I.Put^[];")
    ∷ unsound WrongCount (codes "v _ ^SIGNAL I.Ask;")
    ∷ fine (codes "DIRECTORY I: FROM \"I\"; M: PROGRAM IMPORTS I = BEGIN v: INTEGER; [a: v] _ I.Two[! I.Full => CONTINUE]; I.Two; v _ SIGNAL I.Ask[n: 1]; END.")
    ∷ []

names_of_interfaces : mistakes given 0 of_interfaces ≡ []
unfolding everything
names_of_interfaces = refl

abbrev twice : List Row
twice =
    bad TwiceDeclared (codes "DIRECTORY I: FROM \"I\", ^I: FROM \"I\"; M: PROGRAM = BEGIN END.")
    ∷ []

abbrev twice_listed : List Row
twice_listed =
    bad TwiceDeclared (codes "DIRECTORY I: FROM \"I\", J: FROM \"J\"; M: PROGRAM EXPORTS I, J, ^I = BEGIN END.")
    ∷ bad TwiceDeclared (codes "DIRECTORY I: FROM \"I\", J: FROM \"J\"; M: PROGRAM = BEGIN OPEN J, ^J; END.")
    ∷ bad TwiceDeclared (codes "DIRECTORY I: FROM \"I\", J: FROM \"J\"; M: PROGRAM IMPORTS J, ^J EXPORTS K = BEGIN OPEN L; END.")
    ∷ bad UnknownName (codes "DIRECTORY I: FROM \"I\", ^K: FROM \"J\" USING [Last, Last]; M: PROGRAM IMPORTS L = BEGIN END.")
    ∷ []

directories : mistakes (given ++ given) 0 twice ≡ []
unfolding everything
directories = refl

lists_of_interfaces : mistakes (given ++ others) 0 twice_listed ≡ []
unfolding everything
lists_of_interfaces = refl

abbrev twice_in_scopes : List Row
twice_in_scopes =
    wrong TwiceDeclared (codes "GOTO L; EXITS L, ^L => NULL")
    ∷ wrong TwiceDeclared (codes "P: PROCEDURE = BEGIN GOTO L; EXITS L => NULL; K, ^L => NULL END;")
    ∷ wrong TwiceDeclared (codes "DO REPEAT L => NULL; ^L => NULL ENDLOOP;")
    ∷ wrong TwiceDeclared (codes "P: PROCEDURE [red: INTEGER, c: {^red}] = BEGIN END;")
    ∷ wrong TwiceDeclared (codes "P: PROCEDURE [c: {red}] RETURNS [^red: INTEGER] = BEGIN END;")
    ∷ wrong TwiceDeclared (codes "P: PROCEDURE = BEGIN red: INTEGER; c: {^red}; END;")
    ∷ wrong TwiceDeclared (codes "P: PROCEDURE = BEGIN c, ^c: INTEGER; END;")
    ∷ wrong TwiceDeclared (codes "T: TYPE = INTEGER; ^T: PROCEDURE = BEGIN END;")
    ∷ wrong TwiceDeclared (codes "E: ERROR = CODE; ^E: SIGNAL = CODE;")
    ∷ wrong TwiceDeclared (codes "S: SIGNAL [x, ^x: INTEGER] = CODE;")
    ∷ wrong TwiceDeclared (codes "c: INTEGER = 1; d, ^c: INTEGER = 2;")
    ∷ good (codes "S: SIGNAL [c: {red}] = CODE; E: ERROR [c: {red}] = CODE; P: PROCEDURE [c: {red}] = BEGIN END; red: INTEGER;")
    ∷ good (codes "R: TYPE = RECORD [x: INTEGER]; x: INTEGER; P: PROCEDURE [P: INTEGER] = BEGIN x: R; x.x _ P END;")
    ∷ []

one_of_a_name : mistakes [] 0 twice_in_scopes ≡ []
unfolding everything
one_of_a_name = refl

abbrev values : List Row
values =
    wrong TypeMismatch (codes "P: PROCEDURE [n, m: INTEGER] = BEGIN END; P[m: 1, n: ^'a];")
    ∷ wrong TypeMismatch (codes "R: TYPE = RECORD [x, y: INTEGER]; r: R _ [y: 1, x: ^TRUE];")
    ∷ wrong TypeMismatch (codes "A: TYPE = ARRAY [0..1] OF INTEGER; a: A _ [1, ^'a];")
    ∷ wrong TypeMismatch (codes "S: SIGNAL [n: INTEGER] = CODE; SIGNAL S[^TRUE];")
    ∷ wrong TypeMismatch (codes "s: STRING; c: CHARACTER; c _ s[^'a];")
    ∷ wrong TypeMismatch (codes "s: STRING; s _ ^'a;")
    ∷ wrong TypeMismatch (codes "c: CHARACTER; c _ ^\"a\";")
    ∷ wrong TypeMismatch (codes "A: TYPE = ARRAY [0..1] OF INTEGER; B: TYPE = ARRAY [0..2] OF INTEGER; a: A; b: B; a _ ^b;")
    ∷ good (codes "a: ARRAY [0..1] OF INTEGER; b: ARRAY INTEGER [0..2) OF INTEGER; a _ b;")
    ∷ wrong TypeMismatch (codes "a: ARRAY [0..1] OF INTEGER; b: ARRAY [0..1] OF CARDINAL; a _ ^b;")
    ∷ wrong TypeMismatch (codes "R: TYPE = RECORD [INTEGER]; r: R; i: INTEGER; i _ ^r;")
    ∷ wrong TypeMismatch (codes "r: RECORD [x: INTEGER]; b: BOOLEAN; [b] _ ^r;")
    ∷ wrong TypeMismatch (codes "i: INTEGER; i _ ^i.x.y;")
    ∷ wrong TypeMismatch (codes "i: INTEGER; ^i.x _ 1;")
    ∷ wrong TypeMismatch (codes "E: ERROR = CODE; i: INTEGER; i _ ^E;")
    ∷ wrong TypeMismatch (codes "E: ERROR = CODE; ^E;")
    ∷ wrong TypeMismatch (codes "E: ERROR = CODE; ^E[];")
    ∷ wrong TypeMismatch (codes "T: TYPE = INTEGER; ^T _ 1;")
    ∷ wrong TypeMismatch (codes "T: TYPE = RECORD [x: INTEGER]; ^T[1];")
    ∷ wrong TypeMismatch (codes "c: INTEGER = 1; i: INTEGER; i _ ^c[1];")
    ∷ wrong TypeMismatch (codes "T: TYPE = INTEGER; FOR ^T IN [1..2] DO ENDLOOP;")
    ∷ wrong TypeMismatch (codes "R: TYPE = RECORD [x: INTEGER]; x: ARRAY ^R OF q;")
    ∷ wrong TypeMismatch (codes "x: ARRAY ^ARRAY BOOLEAN OF INTEGER OF q;")
    ∷ wrong TypeMismatch (codes "i: INTEGER; i _ ^ERROR;")
    ∷ wrong TypeMismatch (codes "b: BOOLEAN; b _ 1 IN [0..9] ^AND 3;")
    ∷ []

values_that_do_not_fit : mistakes [] 0 values ≡ []
unfolding everything
values_that_do_not_fit = refl

abbrev not_constant : List Row
not_constant =
    wrong NotConstant (codes "P: PROCEDURE [n: INTEGER] = BEGIN c: INTEGER = ^n; END;")
    ∷ wrong NotConstant (codes "P: PROCEDURE [n: INTEGER] = BEGIN x: [0..^n]; END;")
    ∷ wrong NotConstant (codes "v: INTEGER; P: PROCEDURE [n: [0..^v]] = BEGIN END;")
    ∷ wrong NotConstant (codes "v: INTEGER; R: TYPE = RECORD [n: CARDINAL [^v..3]];")
    ∷ wrong NotConstant (codes "v: INTEGER; x: ARRAY [0..^v] OF q;")
    ∷ wrong NotConstant (codes "s: STRING; x: [^s.length..3];")
    ∷ wrong NotConstant (codes "c: INTEGER = 3; x: [0..^c / (c - 3)];")
    ∷ []

constants_and_bounds : mistakes [] 0 not_constant ≡ []
unfolding everything
constants_and_bounds = refl

abbrev counts : List Row
counts =
    wrong WrongCount (codes "P: PROCEDURE [n, m: INTEGER] = BEGIN END; P^[m: q];")
    ∷ wrong WrongCount (codes "P: PROCEDURE [n, m: INTEGER] = BEGIN END; P^[n: q, n: q];")
    ∷ wrong WrongCount (codes "P: PROCEDURE [n, m: INTEGER] = BEGIN END; P^[n: q, m: q, k: q];")
    ∷ wrong WrongCount (codes "P: PROCEDURE [INTEGER] = BEGIN END; P^[n: q];")
    ∷ wrong WrongCount (codes "S: SIGNAL [n: INTEGER] = CODE; ^SIGNAL S;")
    ∷ wrong WrongCount (codes "E: ERROR [n: INTEGER] = CODE; ^ERROR E;")
    ∷ wrong WrongCount (codes "E: ERROR [n: INTEGER] = CODE; ERROR E^[m: q];")
    ∷ wrong WrongCount (codes "R: TYPE = RECORD [x, y: INTEGER]; r: R; r _ R^[];")
    ∷ wrong WrongCount (codes "A: TYPE = ARRAY [0..1] OF INTEGER; a: A; a _ A^[1, q, 3];")
    ∷ wrong WrongCount (codes "A: TYPE = ARRAY [0..1] OF INTEGER; a: A; a _ ^[];")
    ∷ wrong WrongCount (codes "P: PROCEDURE RETURNS [a: INTEGER] = BEGIN RETURN^[b: q] END;")
    ∷ wrong WrongCount (codes "S: SIGNAL RETURNS [a: INTEGER] = CODE; BEGIN ENABLE S => RESUME^[b: q]; NULL END;")
    ∷ wrong WrongCount (codes "r: RECORD [x, y: INTEGER]; ^[q] _ r;")
    ∷ wrong WrongCount (codes "r: RECORD [x, y: INTEGER]; ^[z: q] _ r;")
    ∷ wrong WrongCount (codes "s: STRING; c: CHARACTER; c _ s^[];")
    ∷ wrong WrongCount (codes "F: PROCEDURE RETURNS [INTEGER] = BEGIN END; v: INTEGER; ^[v, v] _ F[];")
    ∷ wrong BadLabel (codes "P: PROCEDURE = BEGIN ^EXIT END; DO P[] ENDLOOP;")
    ∷ wrong BadLabel (codes "P: PROCEDURE = BEGIN GOTO ^L END; P[]; EXITS L => NULL")
    ∷ wrong BadLabel (codes "S: SIGNAL = CODE; P: PROCEDURE = BEGIN ^RESUME END; P[! S => P[]];")
    ∷ []

counts_of_items : mistakes [] 0 counts ≡ []
unfolding everything
counts_of_items = refl

abbrev giving : List Row
giving =
    bad ExportDiffers (codes "DIRECTORY J: FROM \"J\"; M: PROGRAM EXPORTS J = BEGIN ^Last: PUBLIC PROCEDURE [n: INTEGER] RETURNS [CARDINAL] = BEGIN END; END.")
    ∷ bad ExportDiffers (codes "DIRECTORY J: FROM \"J\"; M: PROGRAM EXPORTS J = BEGIN ^First: PUBLIC PROCEDURE [n: INTEGER] = BEGIN END; END.")
    ∷ bad ExportDiffers (codes "DIRECTORY J: FROM \"J\"; M: PROGRAM EXPORTS J = BEGIN ^Odd: PUBLIC PROCEDURE = BEGIN END; END.")
    ∷ bad ExportDiffers (codes "DIRECTORY J: FROM \"J\"; M: PROGRAM EXPORTS J = BEGIN ^Last: PUBLIC SIGNAL [n: INTEGER] RETURNS [INTEGER] = CODE; END.")
    -- in the order of the items, not of the text
    ∷ bad ExportDiffers (codes "DIRECTORY J: FROM \"J\"; M: PROGRAM EXPORTS J = BEGIN First: PUBLIC ERROR = CODE; ^Last: PUBLIC ERROR = CODE; END.")
    ∷ fine (codes "DIRECTORY J: FROM \"J\"; M: PROGRAM EXPORTS J = BEGIN First: PUBLIC PROCEDURE [INTEGER, INTEGER] = BEGIN END; END.")
    ∷ []

exports_that_differ : mistakes others 0 giving ≡ []
unfolding everything
exports_that_differ = refl
