-- Faces of interfaces, and the built-in interface (rules of this project).
use Rattle.std.specs.Prelude.{◌≡◌, ℕ, List, [], ◌∷◌, Some, None, codes}
use Rattle.typed_answers.specs.mesa_types.specs.Types.{types_in}
use Rattle.typed_answers.specs.mesa_types.specs.declared.types.TypeTree.{TypeTree}
use Rattle.typed_answers.specs.mesa_types.specs.declared.types.TypeTree.TheVariants.{Integer, Boolean, Character, String}
use Rattle.typed_answers.specs.mesa_types.specs.declared.types.FieldType.{FieldType, roll-FieldType}
use Rattle.typed_answers.specs.mesa_types.specs.declared.faces.ItemKind.TheVariants.{Procedure, Error}
use Rattle.typed_answers.specs.mesa_types.specs.declared.faces.Item.{Item}
use Rattle.typed_answers.specs.mesa_types.specs.declared.faces.Face.{Face}
use Rattle.interface_records.specs.declared.interface.Interface.{Interface}

-- two faces are the same where their names, stamps and items are equal: of each item the kind and the name, and the
-- names and types of what it takes and gives
abbrev pub SameFace : Face → Face → Type 0
SameFace a b = a ≡ b

-- two items have the same kind, and the same types of what they take and of what they give; the names are free
abbrev pub SameSignature : Item → Item → Type 0
SameSignature a b = (a.kind ≡ b.kind) × (types_in a.takes ≡ types_in b.takes) × (types_in a.gives ≡ types_in b.gives)

abbrev pub parameter : List ℕ → TypeTree → List FieldType
parameter name kind = roll-FieldType (record { name = Some name; kind = kind }) ∷ []

abbrev pub unnamed : TypeTree → List FieldType
unnamed kind = roll-FieldType (record { name = None; kind = kind }) ∷ []

abbrev pub procedure : List ℕ → List FieldType → List FieldType → Item
procedure name takes gives = record { kind = Procedure; name = name; takes = takes; gives = gives }

abbrev pub error : List ℕ → Item
error name = record { kind = Error; name = name; takes = []; gives = [] }

-- IODefs: DEFINITIONS = BEGIN
-- WriteChar: PROCEDURE [c: CHARACTER]; WriteString: PROCEDURE [s: STRING]; WriteDecimal: PROCEDURE [n: INTEGER];
-- ReadChar: PROCEDURE RETURNS [CHARACTER]; EndOfInput: PROCEDURE RETURNS [BOOLEAN]; NoInput: ERROR; END.
abbrev pub io_items : List Item
io_items =
    procedure (codes "WriteChar") (parameter (codes "c") Character) []
    ∷ procedure (codes "WriteString") (parameter (codes "s") String) []
    ∷ procedure (codes "WriteDecimal") (parameter (codes "n") Integer) []
    ∷ procedure (codes "ReadChar") [] (unnamed Character)
    ∷ procedure (codes "EndOfInput") [] (unnamed Boolean)
    ∷ error (codes "NoInput")
    ∷ []

-- its stamp is 000000000001
abbrev pub iodefs : Interface
iodefs = record {
  face = record { name = codes "IODefs"; stamp = 1; items = io_items };
  constants = [];
  types = [];
}
