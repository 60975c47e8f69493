-- The built-in interface is in order, as the law asks that what checking gives is sound.
use Rattle.std.specs.Prelude.{◌≡◌, ℕ, List, [], ◌∷◌, map, Option}
use Rattle.std.proofs.Common.{refl, sym, subst}
use Rattle.mesa_types.specs.declared.faces.ItemKind.TheVariants as item
use Rattle.mesa_types.specs.declared.types.FieldType.{roll-FieldType}
use Rattle.mesa_types.specs.declared.types.TypeTree.{TypeTree}
use Rattle.mesa_types.specs.declared.types.TypeTree.TheOpen.{TypeTree-F}
use Rattle.mesa_types.specs.declared.types.TypeTree.TheFolds.{fold-roll-TypeTree, fold-roll-FieldType}
use Rattle.mesa_types.specs.declared.types.TypeTree.TheVariants as tree
use Rattle.interface_records.specs.Faces.{iodefs}
use Rattle.interface_records.specs.PlainTypes.{PlainType, PlainField, plain, plain_field, plain_step, plain_field_step, plain_interface}
use Rattle.check_rules.specs.Interfaces.{InterfacesInOrder, ItemsInOrder, FieldsInOrder, TypeInOrder, ConstantsInOrder, NamesInOrder}

no_error : item.Procedure ≡ item.Error → ⊥
no_error e = cc

field : (name : Option (List ℕ)) (k : TypeTree) → TypeInOrder (plain k) → TypeInOrder (plain_field (roll-FieldType (record { name = name; kind = k }))).kind
unfolding plain plain_field
field name k h = subst (λ (f : PlainField). TypeInOrder f.kind)
    (sym (fold-roll-FieldType PlainType PlainField plain_step plain_field_step (record { name = name; kind = k }))) h

character : TypeInOrder (plain tree.Character)
unfolding plain TypeInOrder
character = subst (λ k. TypeInOrder (plain k)) tree.rolls-Character
    (subst TypeInOrder (sym (fold-roll-TypeTree PlainType PlainField plain_step plain_field_step TypeTree-F.Character)) tt)

boolean : TypeInOrder (plain tree.Boolean)
unfolding plain TypeInOrder
boolean = subst (λ k. TypeInOrder (plain k)) tree.rolls-Boolean
    (subst TypeInOrder (sym (fold-roll-TypeTree PlainType PlainField plain_step plain_field_step TypeTree-F.Boolean)) tt)

integer : TypeInOrder (plain tree.Integer)
unfolding plain TypeInOrder
integer = subst (λ k. TypeInOrder (plain k)) tree.rolls-Integer
    (subst TypeInOrder (sym (fold-roll-TypeTree PlainType PlainField plain_step plain_field_step TypeTree-F.Integer)) tt)

string : TypeInOrder (plain tree.String)
unfolding plain TypeInOrder
string = subst (λ k. TypeInOrder (plain k)) tree.rolls-String
    (subst TypeInOrder (sym (fold-roll-TypeTree PlainType PlainField plain_step plain_field_step TypeTree-F.String)) tt)

pub built_in : InterfacesInOrder (map plain_interface (iodefs ∷ []))
unfolding InterfacesInOrder ItemsInOrder FieldsInOrder ConstantsInOrder NamesInOrder
built_in = (
  record {
    items = (
      record { takes = (field _ _ character, tt); gives = tt; error = λ e. refl },
      (
        record { takes = (field _ _ string, tt); gives = tt; error = λ e. refl },
        (
          record { takes = (field _ _ integer, tt); gives = tt; error = λ e. refl },
          (
            record { takes = tt; gives = (field _ _ character, tt); error = λ e. absurd (no_error e) },
            (
              record { takes = tt; gives = (field _ _ boolean, tt); error = λ e. absurd (no_error e) },
              (record { takes = tt; gives = tt; error = λ e. refl }, tt),
            ),
          ),
        ),
      ),
    );
    constants = tt;
    types = tt;
  },
  tt,
)

pub none : InterfacesInOrder (map plain_interface [])
unfolding InterfacesInOrder
none = tt
