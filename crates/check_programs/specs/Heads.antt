-- Heads under the names that they are declared with.
use Rattle.std.specs.Prelude.{List, [], ◌∷◌}
use Rattle.mesa_base.specs.declared.identifier.Identifier.{Identifier}
use Rattle.mesa_types.specs.declared.faces.ItemKind.{ItemKind}
use Rattle.interface_records.specs.PlainTypes.{PlainField, PlainItem}

-- under the first of several names
abbrev pub first_item : ItemKind → List PlainField → List PlainField → List Identifier → PlainItem
first_item kind takes gives [] = record { kind = kind; name = []; takes = takes; gives = gives }
first_item kind takes gives (x ∷ xs) = record { kind = kind; name = x.name; takes = takes; gives = gives }

-- the same head under another name
abbrev pub renamed : PlainItem → Identifier → PlainItem
renamed i x = record { kind = i.kind; name = x.name; takes = i.takes; gives = i.gives }
