-- Interfaces: DIRECTORY, USING, IMPORTS, EXPORTS, OPEN, and DEFINITIONS.
use Rattle.std.specs.Prelude.{◌≡◌, List, [], ◌∷◌, ◌++◌, codes}
use Rattle.std.proofs.Common.{refl}
use Rattle.interface_records.specs.PlainTypes.{PlainInterface}
use Rattle.check_rules.specs.declared.fault.Cause.TheVariants.{UnknownName, TwiceDeclared, TypeMismatch, NotConstant, WrongCount, ExportDiffers, StampMissing, StampUnwanted}
use Rattle.check_rules.proofs.Texts.{Row, fine, bad, mistakes, mistakes_under, interface}
use Rattle.check_rules.proofs.Everything.{everything}

abbrev shapes : List PlainInterface
shapes = interface 10 (codes "I: DEFINITIONS = BEGIN Color: TYPE = {red, green}; Max: CARDINAL = 3; Put: PROCEDURE [c: Color]; Same: ERROR; "
    ++ codes "Mode: PROCEDURE [m: {on, off}]; END.")

abbrev others : List PlainInterface
others = interface 11 (codes "J: DEFINITIONS = BEGIN Put: PROCEDURE [n: INTEGER]; Same: SIGNAL; Max: INTEGER = 9; END.")

abbrev rows : List Row
rows =
    fine (codes "DIRECTORY I: FROM \"I\", J: FROM \"J\"; M: PROGRAM IMPORTS I, J = BEGIN OPEN I, J; c: Color _ green; i: INTEGER _ Max; Put[c]; J.Put[i]; "
    ++ codes "Put[I.red]; Mode[off]; END.")
    ∷ bad UnknownName (codes "DIRECTORY ^K: FROM \"I\", J: FROM \"J\"; M: PROGRAM = BEGIN END.")
    ∷ bad UnknownName (codes "DIRECTORY I: FROM \"I\", J: FROM \"J\", ^K: FROM \"K\"; M: PROGRAM = BEGIN END.")
    ∷ bad UnknownName (codes "DIRECTORY I: FROM \"I\" USING [Put, ^Get], J: FROM \"J\"; M: PROGRAM = BEGIN END.")
    ∷ bad TwiceDeclared (codes "DIRECTORY I: FROM \"I\" USING [Put, ^Put], J: FROM \"J\"; M: PROGRAM = BEGIN END.")
    ∷ fine (codes "DIRECTORY I: FROM \"I\" USING [Put, red, on], J: FROM \"J\"; M: PROGRAM IMPORTS I = BEGIN OPEN I; I.Put[red]; END.")
    ∷ bad UnknownName (codes "DIRECTORY I: FROM \"I\" USING [Put], J: FROM \"J\"; M: PROGRAM IMPORTS I = BEGIN OPEN I; c: ^Color; END.")
    ∷ bad UnknownName (codes "DIRECTORY I: FROM \"I\" USING [Put], J: FROM \"J\"; M: PROGRAM IMPORTS I = BEGIN c: I.^Color; END.")
    ∷ fine (codes "DIRECTORY I: FROM \"I\" USING [red], J: FROM \"J\"; M: PROGRAM IMPORTS I, J = BEGIN OPEN I, J; i: INTEGER _ Max; Put[i]; END.")
    ∷ bad UnknownName (codes "DIRECTORY I: FROM \"I\", J: FROM \"J\"; M: PROGRAM IMPORTS ^K = BEGIN END.")
    ∷ bad TwiceDeclared (codes "DIRECTORY I: FROM \"I\", J: FROM \"J\"; M: PROGRAM IMPORTS I, ^I = BEGIN END.")
    ∷ bad UnknownName (codes "DIRECTORY I: FROM \"I\", J: FROM \"J\"; M: PROGRAM IMPORTS I EXPORTS ^K = BEGIN END.")
    ∷ bad UnknownName (codes "DIRECTORY I: FROM \"I\", J: FROM \"J\"; M: PROGRAM IMPORTS I = BEGIN OPEN ^K; END.")
    ∷ bad UnknownName (codes "DIRECTORY I: FROM \"I\", J: FROM \"J\"; M: PROGRAM = BEGIN I.^Put[I.red]; END.")
    ∷ bad UnknownName (codes "DIRECTORY I: FROM \"I\", J: FROM \"J\"; M: PROGRAM IMPORTS J = BEGIN OPEN I, J; ^Put[q]; END.")
    ∷ bad TypeMismatch (codes "DIRECTORY I: FROM \"I\", J: FROM \"J\"; M: PROGRAM = BEGIN i: INTEGER _ ^I; END.")
    ∷ bad TypeMismatch (codes "DIRECTORY I: FROM \"I\", J: FROM \"J\"; M: PROGRAM = BEGIN i: INTEGER _ I.^Color; END.")
    ∷ bad TypeMismatch (codes "DIRECTORY I: FROM \"I\", J: FROM \"J\"; M: PROGRAM = BEGIN c: {red, green} _ ^I.red; END.")
    ∷ []

imports : mistakes (shapes ++ others) 0 rows ≡ []
unfolding everything
imports = refl

abbrev exported : List Row
exported =
    fine (codes "DIRECTORY J: FROM \"J\"; M: PROGRAM EXPORTS J = BEGIN Put: PUBLIC PROCEDURE [k: INTEGER] = BEGIN END; Same: PUBLIC SIGNAL = CODE; END.")
    ∷ bad ExportDiffers (codes "DIRECTORY J: FROM \"J\"; M: PROGRAM EXPORTS J = BEGIN Same: PUBLIC ERROR = CODE; "
    ++ codes "Get, ^Put: PUBLIC PROCEDURE [k: CARDINAL] = BEGIN END; END.")
    ∷ bad ExportDiffers (codes "DIRECTORY J: FROM \"J\"; M: PROGRAM EXPORTS J = BEGIN ^Same: PUBLIC ERROR = CODE; END.")
    ∷ fine (codes "DIRECTORY J: FROM \"J\"; M: PROGRAM EXPORTS J = BEGIN Put: PRIVATE PROCEDURE = BEGIN END; Same: ERROR = CODE; Max: PUBLIC INTEGER; END.")
    ∷ bad UnknownName (codes "DIRECTORY J: FROM \"J\"; M: PROGRAM EXPORTS J = BEGIN Put: PUBLIC PROCEDURE = BEGIN END; ^q _ 1; END.")
    ∷ []

abbrev exports_alone : List Row
exports_alone = bad StampMissing (codes "DIRECTORY K: FROM \"J\"; M: ^DEFINITIONS = BEGIN END.") ∷ []

exports : mistakes others 0 exported ≡ []
unfolding everything
exports = refl

the_stamp_comes_first : mistakes others 0 exports_alone ≡ []
unfolding everything
the_stamp_comes_first = refl

abbrev definitions : List Row
definitions =
    fine (codes "D: DEFINITIONS = BEGIN END.")
    ∷ bad StampUnwanted (codes "D: ^PROGRAM = BEGIN x _ 1 END.")
    ∷ bad UnknownName (codes "D: DEFINITIONS = BEGIN N: INTEGER = 3; T: TYPE = ARRAY [0..N) OF ^C; END.")
    ∷ fine (codes "D: DEFINITIONS = BEGIN C: TYPE = {red, green}; N: C = green; T: TYPE = ARRAY C OF [0..9]; P, Q: PROCEDURE [t: T] RETURNS [C]; "
    ++ codes "E: ERROR [n: INTEGER]; S: SIGNAL; D: ERROR; END.")
    ∷ bad UnknownName (codes "D: DEFINITIONS = BEGIN T: TYPE = ARRAY [0..^N) OF INTEGER; N: INTEGER = 3; END.")
    ∷ bad TwiceDeclared (codes "D: DEFINITIONS = BEGIN C: TYPE = {red, green}; ^red: ERROR; END.")
    ∷ bad TwiceDeclared (codes "D: DEFINITIONS = BEGIN P, ^P: PROCEDURE; END.")
    ∷ bad TwiceDeclared (codes "D: DEFINITIONS = BEGIN P: PROCEDURE [x: INTEGER] RETURNS [^x: INTEGER]; END.")
    ∷ bad NotConstant (codes "D: DEFINITIONS = BEGIN S: STRING = ^\"ab\"; END.")
    ∷ bad NotConstant (codes "D: DEFINITIONS = BEGIN F: PROCEDURE RETURNS [INTEGER]; N: INTEGER = ^F[]; END.")
    ∷ bad NotConstant (codes "D: DEFINITIONS = BEGIN N: INTEGER = ^F[]; F: PROCEDURE RETURNS [INTEGER]; END.")
    ∷ bad WrongCount (codes "D: DEFINITIONS = BEGIN N: INTEGER = F^[]; T: TYPE = INTEGER; F: PROCEDURE [n: T] RETURNS [INTEGER]; END.")
    ∷ bad NotConstant (codes "D: DEFINITIONS = BEGIN N: INTEGER = ^F[q]; F: PROCEDURE [n: T] RETURNS [INTEGER]; T: TYPE = INTEGER; END.")
    ∷ bad TypeMismatch (codes "D: DEFINITIONS = BEGIN T: TYPE = ^F; F: SIGNAL [n: q]; END.")
    ∷ bad UnknownName (codes "D: DEFINITIONS = BEGIN P: PROCEDURE [c: {on, off}]; N: BOOLEAN = 1 = ^on; END.")
    ∷ fine (codes "D: DEFINITIONS = BEGIN S: SIGNAL [a: ARRAY [0..2048] OF INTEGER]; END.")
    ∷ []

interfaces : mistakes_under 10 [] 0 definitions ≡ []
unfolding everything
interfaces = refl
