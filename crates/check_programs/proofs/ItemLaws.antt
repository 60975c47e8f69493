-- A head of the code comes back as it was; heads under their names.
use Rattle.std.proofs.Common.{◌≡◌, List, [], ◌∷◌, map, refl, ap, ◌∙◌}
use Rattle.mesa_base.specs.declared.identifier.Identifier.{Identifier}
use Rattle.mesa_types.specs.declared.faces.Item.{Item}
use Rattle.mesa_types.specs.declared.faces.ItemKind.{ItemKind}
use Rattle.mesa_types.specs.declared.faces.ItemKind.TheVariants as item
use Rattle.mesa_types.specs.declared.types.FieldType.{FieldType, roll-FieldType, out-FieldType, roll-out-FieldType}
use Rattle.interface_records.specs.PlainTypes.{field_of, item_of, plain_field, plain_item}
use Rattle.check_rules.specs.Programs as spec
use Rattle.check_rules.specs.Programs.{Heading, named_item}
use Rattle.check_state.proofs.TypeBack.{back}
use Rattle.check_state.proofs.TypeForms.{parts_of_field}
use Rattle.check_programs.specs.Heads.{first_item, renamed}

part_back : (f : FieldType) → field_of (plain_field f) ≡ f
part_back f =
    ap field_of (parts_of_field f)
    ∙ ap (λ k. roll-FieldType (record { name = (out-FieldType f).name; kind = k })) (back (out-FieldType f).kind)
    ∙ roll-out-FieldType f

parts_back : (fs : List FieldType) → map field_of (map plain_field fs) ≡ fs
parts_back [] = refl
parts_back (f ∷ fs) = ap (λ g. g ∷ map field_of (map plain_field fs)) (part_back f) ∙ ap (λ gs. f ∷ gs) (parts_back fs)

pub item_back : (i : Item) → item_of (plain_item i) ≡ i
item_back i =
    ap (λ fs. record i { takes = fs; gives = map field_of (map plain_field i.gives) }) (parts_back i.takes)
    ∙ ap (λ fs. record i { gives = fs }) (parts_back i.gives)

pub procedure_is : (h : Heading) (xs : List Identifier) → first_item item.Procedure h.takes h.gives xs ≡ spec.first_item h xs
procedure_is h [] = refl
procedure_is h (x ∷ xs) = refl

renamed_is : (kind : ItemKind) (h : Heading) (first : List Identifier) (x : Identifier) → renamed (first_item kind h.takes h.gives first) x ≡ named_item kind h x
renamed_is kind h [] x = refl
renamed_is kind h (y ∷ ys) x = refl

pub renamed_are : (kind : ItemKind) (h : Heading) (first xs : List Identifier)
    → map (renamed (first_item kind h.takes h.gives first)) xs ≡ map (named_item kind h) xs
renamed_are kind h first [] = refl
renamed_are kind h first (x ∷ xs) = ap (λ i. i ∷ map (renamed (first_item kind h.takes h.gives first)) xs) (renamed_is kind h first x)
    ∙ ap (λ is. named_item kind h x ∷ is) (renamed_are kind h first xs)
