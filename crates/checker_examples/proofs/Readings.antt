-- Where the rules leave a choice: the reading that was taken, each with a text.
use Rattle.std.specs.Prelude.{◌≡◌, ℕ, List, [], ◌∷◌, ◌++◌, Option, Some, None, Ok, Err, codes}
use Rattle.std.proofs.Common.{refl}
use Rattle.mesa_types.specs.declared.faces.Item.{Item}
use Rattle.mesa_types.specs.declared.faces.Pair.{Pair}
use Rattle.mesa_types.specs.declared.faces.Export.{Export}
use Rattle.mesa_types.specs.declared.faces.ItemKind.TheVariants as item
use Rattle.mesa_types.specs.declared.types.Origin.{Origin}
use Rattle.syntax_trees.specs.Syntax as s
use Rattle.check_rules.specs.Typed as t
use Rattle.check_rules.specs.Steps.{Checked}
use Rattle.check_rules.specs.CheckedModule.{program_by}
use Rattle.interface_records.specs.PlainTypes as v
use Rattle.interface_records.specs.PlainTypes.{PlainInterface, item_of}
use Rattle.check_rules.specs.declared.fault.Cause.TheVariants.{UnknownName, TwiceDeclared, TypeMismatch, ExportDiffers}
use Rattle.check_rules.proofs.Lexing.{Token}
use Rattle.check_rules.proofs.Reading.{read}
use Rattle.check_rules.proofs.Texts.{Row, fine, bad, good, wrong, in_program, mistakes, mistakes_under, interface}
use Rattle.check_rules.proofs.Everything.{everything}

abbrev names : List Row
names =
    -- an outer name is found where the block's own is not yet visible
    wrong TypeMismatch (codes "red: BOOLEAN = TRUE; P: PROCEDURE = BEGIN c: {red, green} _ ^red; END;")
    ∷ good (codes "x: INTEGER; P: PROCEDURE = BEGIN x: INTEGER _ x; END;")
    ∷ good (codes "T: TYPE = INTEGER; P: PROCEDURE = BEGIN T: TYPE = ARRAY BOOLEAN OF T; x: T; x[TRUE] _ 1; END;")
    ∷ wrong UnknownName (codes "T: TYPE = ARRAY BOOLEAN OF ^T;")
    -- labels are apart from other names, those of one block or loop hide outer ones
    ∷ good (codes "x: INTEGER; GOTO x; EXITS x => x _ 1")
    ∷ good (codes "BEGIN GOTO L; EXITS L => GOTO L END; EXITS L => NULL")
    -- a signal twice among the labels of an arm
    ∷ good (codes "S: SIGNAL [n: INTEGER] = CODE; BEGIN ENABLE S, S => n _ 1; NULL END;")
    -- the predeclared errors are hidden by what is declared
    ∷ wrong TypeMismatch (codes "BoundsFault: INTEGER; ERROR ^BoundsFault;")
    ∷ wrong TypeMismatch (codes "SIGNAL ^ZeroDivisor;")
    -- parentheses change nothing
    ∷ good (codes "R: TYPE = RECORD [x, y: INTEGER]; r: R; r _ ([1, 2]); r _ (([y: 1, x: 2])); r.x _ ((3));")
    ∷ good (codes "c: CARDINAL = (1) + 40000; x: [0..(9)]; s: STRING = ((\"a\"));")
    -- the place of a relation with NOT
    ∷ wrong TypeMismatch (codes "b: BOOLEAN; b _ 1 ~ ^= 'a;")
    ∷ wrong TypeMismatch (codes "b: BOOLEAN; SELECT b FROM NOT ^= 1 => NULL ENDCASE;")
    ∷ []

names_and_places : mistakes [] 0 names ≡ []
unfolding everything
names_and_places = refl

abbrev given : List PlainInterface
given = interface 10 (codes "I: DEFINITIONS = BEGIN Color: TYPE = {red, green}; c: Color = green; Put: PROCEDURE [c: Color]; END.")

abbrev others : List PlainInterface
others = interface 11 (codes "J: DEFINITIONS = BEGIN Put: PROCEDURE [n: INTEGER]; Odd: SIGNAL; Get: PROCEDURE [n: INTEGER]; END.")

abbrev interfaces : List Row
interfaces =
    -- a later name of the module hides an opened one and one of the DIRECTORY
    bad UnknownName (codes "DIRECTORY I: FROM \"I\", J: FROM \"J\"; M: PROGRAM = BEGIN OPEN I; x: ^Color; Color: TYPE = INTEGER; END.")
    ∷ bad UnknownName (codes "DIRECTORY I: FROM \"I\", J: FROM \"J\"; M: PROGRAM = BEGIN x: I.^Color; I: TYPE = INTEGER; END.")
    ∷ fine (codes "DIRECTORY I: FROM \"I\", J: FROM \"J\"; M: PROGRAM = BEGIN OPEN I; red: INTEGER; x: Color _ I.red; red _ 1; x _ green; END.")
    -- an item that is not imported is not visible, as the first part of a name too
    ∷ bad UnknownName (codes "DIRECTORY I: FROM \"I\", J: FROM \"J\"; M: PROGRAM = BEGIN OPEN I; x: Put.^T; END.")
    ∷ bad UnknownName (codes "DIRECTORY I: FROM \"I\", J: FROM \"J\"; M: PROGRAM = BEGIN OPEN I; ^Put.x _ 1; END.")
    ∷ bad TypeMismatch (codes "DIRECTORY I: FROM \"I\", J: FROM \"J\"; M: PROGRAM IMPORTS I = BEGIN OPEN I; x: Put.^T; END.")
    -- a USING list does not restrict exports
    ∷ bad ExportDiffers (codes "DIRECTORY I: FROM \"I\", J: FROM \"J\" USING [Odd]; M: PROGRAM EXPORTS J = BEGIN ^Put: PUBLIC ERROR = CODE; END.")
    -- a constant of an interface, in bounds and tests
    ∷ fine (codes "DIRECTORY I: FROM \"I\", J: FROM \"J\"; M: PROGRAM = BEGIN OPEN I; x: Color [red..c]; a: ARRAY Color OF INTEGER; a[c] _ 1; END.")
    ∷ bad TypeMismatch (codes "DIRECTORY I: FROM \"I\", J: FROM \"J\"; M: PROGRAM = BEGIN OPEN I; d: {red, green} _ ^c; END.")
    ∷ []

abbrev two_of_a_name : List Row
two_of_a_name = bad UnknownName (codes "DIRECTORY I: FROM \"I\", ^I: FROM \"J\"; M: PROGRAM = BEGIN END.") ∷ []

names_of_interfaces : mistakes (given ++ others) 0 interfaces ≡ []
unfolding everything
names_of_interfaces = refl

another_interface_before_twice : mistakes (given ++ others) 0 two_of_a_name ≡ []
unfolding everything
another_interface_before_twice = refl

abbrev definitions : List Row
definitions =
    bad TwiceDeclared (codes "D: DEFINITIONS = BEGIN S: SIGNAL [x: INTEGER] RETURNS [^x: INTEGER]; END.")
    ∷ bad TwiceDeclared (codes "D: DEFINITIONS = BEGIN S: SIGNAL [red: INTEGER, c: {^red}]; END.")
    ∷ fine (codes "D: DEFINITIONS = BEGIN P: PROCEDURE [c: {on, off}]; on: ERROR; END.")
    ∷ []

scopes_of_definitions : mistakes_under 10 [] 0 definitions ≡ []
unfolding everything
scopes_of_definitions = refl

-- Origins are numbered from 0 as the records and enumerations begin in the text; the base of a subrange is that of its bounds.
abbrev own : ℕ → Origin
own n = record { «module» = codes "D"; stamp = Some 10; number = n }

numbers : interface 10 (codes "D: DEFINITIONS = BEGIN R: TYPE = RECORD [a: {x, y}, b: RECORD [CARDINAL]]; E: TYPE = {z}; "
    ++ codes "S: TYPE = [0..32768); T: TYPE = (-1..3]; END.") ≡ record {
      name = codes "D";
      stamp = 10;
      items = [];
      constants = [];
      types =
          record {
            name = codes "R";
            kind = v.Record (own 0) (
                v.AndPart (Some (codes "a")) (v.Enumeration (own 1) (codes "x" ∷ codes "y" ∷ []))
                (v.AndPart (Some (codes "b")) (v.Record (own 2) (v.AndPart None v.Cardinal v.NoPart)) v.NoPart));
          }
          ∷ record { name = codes "E"; kind = v.Enumeration (own 3) (codes "z" ∷ []) }
          ∷ record { name = codes "S"; kind = v.Subrange v.Cardinal 0 32767 }
          ∷ record { name = codes "T"; kind = v.Subrange v.Integer 0 3 } ∷ [];
    } ∷ []
unfolding everything
numbers = refl

abbrev signals_of : Checked t.Module → List Item
signals_of (Ok m) = m.signals
signals_of (Err f) = []

abbrev signals_for : Option (s.Module × List Token) → List Item
signals_for (Some r) = signals_of (program_by r.0 [] r.0.kind)
signals_for None = []

-- those of a procedure's block count where they stand, though the block is checked later
local_origins : signals_for (read (in_program (codes "P: PROCEDURE = BEGIN r: RECORD [x: INTEGER]; END; S: SIGNAL [a: {x}] = CODE;"))) ≡ item_of (record {
  kind = item.Signal;
  name = codes "S";
  takes = record { name = Some (codes "a"); kind = v.Enumeration (record { «module» = codes "M"; stamp = None; number = 1 }) (codes "x" ∷ []) } ∷ [];
  gives = [];
}) ∷ []
unfolding everything
local_origins = refl

abbrev pairs_in : List Export → List (List Pair)
pairs_in [] = []
pairs_in (e ∷ es) = e.given ∷ pairs_in es

abbrev pairs_of : Checked t.Module → List (List Pair)
pairs_of (Ok m) = pairs_in m.exports
pairs_of (Err f) = []

abbrev pairs_for : List PlainInterface → Option (s.Module × List Token) → List (List Pair)
pairs_for is (Some r) = pairs_of (program_by r.0 is r.0.kind)
pairs_for is None = []

-- one procedure under two names that both are items; signals are numbered by name
exported_pairs : pairs_for others (read (codes "DIRECTORY J: FROM \"J\"; M: PROGRAM EXPORTS J = BEGIN E, Odd: PUBLIC SIGNAL = CODE; "
    ++ codes "Get, Put: PUBLIC PROCEDURE [k: INTEGER] = BEGIN END; END."))
    ≡ (record { item = 0; number = 1 } ∷ record { item = 1; number = 1 } ∷ record { item = 2; number = 1 } ∷ []) ∷ []
unfolding everything
exported_pairs = refl
