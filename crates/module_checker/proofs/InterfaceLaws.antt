-- What an interface of the code is made of comes back as it was.
use Rattle.std.proofs.Common.{◌≡◌, ℕ, List, [], ◌∷◌, map, refl, sym, ap, ◌∙◌}
use Rattle.interface_records.specs.declared.interface.Constant.{Constant}
use Rattle.interface_records.specs.declared.interface.NamedType.{NamedType}
use Rattle.syntax_trees.specs.Syntax as s
use Rattle.mesa_types.specs.declared.faces.Item.{Item}
use Rattle.mesa_types.specs.declared.types.FieldType.{FieldType, roll-FieldType, out-FieldType, roll-out-FieldType}
use Rattle.check_rules.specs.CheckedModule.{defined_as}
use Rattle.interface_records.specs.PlainTypes.{constant_of, field_of, interface_of, item_of, named_of, plain_constant, plain_field, plain_item, plain_name}
use Rattle.check_state.proofs.TypeBack.{back}
use Rattle.check_state.proofs.TypeForms.{parts_of_field}

all_back : {A B : Type 0} (f : A → B) (g : B → A) → ((x : A) → g (f x) ≡ x) → (xs : List A) → map g (map f xs) ≡ xs
all_back f g h [] = refl
all_back f g h (x ∷ xs) = ap (λ y. y ∷ map g (map f xs)) (h x) ∙ ap (λ ys. x ∷ ys) (all_back f g h xs)

part_back : (f : FieldType) → field_of (plain_field f) ≡ f
part_back f =
    ap field_of (parts_of_field f)
    ∙ ap (λ k. roll-FieldType (record { name = (out-FieldType f).name; kind = k })) (back (out-FieldType f).kind)
    ∙ roll-out-FieldType f

item_back : (i : Item) → item_of (plain_item i) ≡ i
item_back i =
    ap (λ fs. record i { takes = fs; gives = map field_of (map plain_field i.gives) }) (all_back plain_field field_of part_back i.takes)
    ∙ ap (λ fs. record i { gives = fs }) (all_back plain_field field_of part_back i.gives)

pub items_back : (is : List Item) → map item_of (map plain_item is) ≡ is
items_back is = all_back plain_item item_of item_back is

constant_back : (c : Constant) → constant_of (plain_constant c) ≡ c
constant_back c = ap (λ k. record c { kind = k }) (back c.kind)

name_back : (x : NamedType) → named_of (plain_name x) ≡ x
name_back x = ap (λ k. record x { kind = k }) (back x.kind)

pub interface_is : (m : s.Module) (stamp : ℕ) (name : List ℕ) (is : List Item) (cs : List Constant) (ts : List NamedType) → name ≡ m.name.name
    → record { face = record { name = name; stamp = stamp; items = is }; constants = cs; types = ts }
    ≡ interface_of (defined_as m stamp (record { items = map plain_item is; constants = map plain_constant cs; types = map plain_name ts }))
interface_is m stamp name is cs ts e = sym (λ i. record {
  face = record { name = sym e i; stamp = stamp; items = items_back is i };
  constants = all_back plain_constant constant_of constant_back cs i;
  types = all_back plain_name named_of name_back ts i;
})
