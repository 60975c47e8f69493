-- What the code finds of two lists of fields is what is said of the plain ones.
use Rattle.std.proofs.Common.{◌≡◌, ◌↔◌, IsTrue, List, [], ◌∷◌, map, refl, sym, ap, ◌∙◌, arith}
use Rattle.std.specs.Prelude.{ℕ, Bool, true, false, ◌&&◌, Option, Some, None, bytes_eq, nat_eq}
use Rattle.mesa_types.specs.Types.{types_in}
use Rattle.mesa_types.specs.declared.types.TypeTree.{TypeTree}
use Rattle.mesa_types.specs.declared.types.FieldType.{FieldType, roll-FieldType, roll-out-FieldType}
use Rattle.interface_records.specs.PlainTypes.{PlainField, plain, plain_field, same, same_name, tree_of}
use Rattle.check_rules.specs.Parts.{same_types, same_fields}
use Rattle.check_rules.proofs.SoundTypes.{no_truth, both_left, both_right}
use Rattle.check_rules.proofs.SoundSame.{types_same, bytes_same}
use Rattle.check_state.proofs.TypeBack.{back}
use Rattle.check_state.proofs.TypeForms.{parts_of_field}
use Rattle.check_state.proofs.TypeLaws.{same_by}

bools : (b c : Bool) → (b ≡ true → c ≡ true) → (c ≡ true → b ≡ true) → b ≡ c
bools true c g h = sym (g refl)
bools false false g h = refl
bools false true g h = h refl

and_both : (a b : Bool) → a ≡ true → b ≡ true → (a && b) ≡ true
and_both a b h k = rw (h, k) refl

self : (k : TypeTree) → same (plain k) (plain k) ≡ true
self k = sym (same_by true k k (λ _. refl, λ _. refl))

one_type : (a b : TypeTree) → plain a ≡ plain b → a ≡ b
one_type a b e = sym (back a) ∙ ap tree_of e ∙ back b

pub kind_is : (f : FieldType) → (plain_field f).kind ≡ plain f.kind
kind_is f = ap (λ (g : PlainField). g.kind) (parts_of_field f)

heads : {A : Type 0} {x y : A} {xs ys : List A} → x ∷ xs ≡ y ∷ ys → x ≡ y
heads e = cc

tails : {A : Type 0} {x y : A} {xs ys : List A} → x ∷ xs ≡ y ∷ ys → xs ≡ ys
tails e = cc

one_kind : (f g : FieldType) → same (plain_field f).kind (plain_field g).kind ≡ true → f.kind ≡ g.kind
one_kind f g e = one_type f.kind g.kind (sym (kind_is f) ∙ types_same (plain_field f).kind (plain_field g).kind e ∙ kind_is g)

pub name_is : (f : FieldType) → (plain_field f).name ≡ f.name
name_is f = ap (λ (g : PlainField). g.name) (parts_of_field f)

made_of : (f : FieldType) → f ≡ roll-FieldType (record { name = f.name; kind = f.kind })
made_of f = sym (roll-out-FieldType f)

name_are : (x y : Option (List ℕ)) → same_name x y ≡ true → x ≡ y
name_are (Some x) (Some y) e = ap Some (bytes_same x y e)
name_are None None e = refl
name_are (Some x) None e = no_truth e
name_are None (Some y) e = no_truth e

one_field : (f g : FieldType) → same_name (plain_field f).name (plain_field g).name ≡ true → same (plain_field f).kind (plain_field g).kind ≡ true → f ≡ g
one_field f g n k =
    let names : f.name ≡ g.name = sym (name_is f) ∙ name_are (plain_field f).name (plain_field g).name n ∙ name_is g in
    made_of f ∙ rw (names, one_kind f g k) (sym (made_of g))

nat_self : (n : ℕ) → nat_eq n n ≡ true
nat_self n = grind arith

bytes_self : (xs : List ℕ) → bytes_eq xs xs ≡ true
bytes_self [] = refl
bytes_self (x ∷ xs) = and_both (nat_eq x x) (bytes_eq xs xs) (nat_self x) (bytes_self xs)

name_self : (x : Option (List ℕ)) → same_name x x ≡ true
name_self None = refl
name_self (Some x) = bytes_self x

types_yes : (fs gs : List FieldType) → types_in fs ≡ types_in gs → same_types (map plain_field fs) (map plain_field gs) ≡ true
unfolding same_types
types_yes [] [] e = refl
types_yes [] (g ∷ gs) e = absurd (apart (g.kind) (types_in gs) e)
  where
    apart : (k : TypeTree) (ks : List TypeTree) → [] ≡ k ∷ ks → ⊥
    apart k ks e = cc
types_yes (f ∷ fs) [] e = absurd (apart (f.kind) (types_in fs) e)
  where
    apart : (k : TypeTree) (ks : List TypeTree) → k ∷ ks ≡ [] → ⊥
    apart k ks e = cc
types_yes (f ∷ fs) (g ∷ gs) e =
    let first : f.kind ≡ g.kind = heads e in
    let rest : types_in fs ≡ types_in gs = tails e in
    and_both _ _ (rw (kind_is f, kind_is g, first) (self g.kind)) (types_yes fs gs rest)

types_are : (fs gs : List FieldType) → same_types (map plain_field fs) (map plain_field gs) ≡ true → types_in fs ≡ types_in gs
unfolding same_types
types_are [] [] e = refl
types_are [] (g ∷ gs) e = no_truth e
types_are (f ∷ fs) [] e = no_truth e
types_are (f ∷ fs) (g ∷ gs) e =
    let first : f.kind ≡ g.kind = one_kind f g (both_left (same (plain_field f).kind (plain_field g).kind) _ e) in
    let rest : types_in fs ≡ types_in gs = types_are fs gs (both_right (same (plain_field f).kind (plain_field g).kind) _ e) in
    cc

pub same_types_by : (r : Bool) (fs gs : List FieldType) → IsTrue r ↔ (types_in fs ≡ types_in gs) → r ≡ same_types (map plain_field fs) (map plain_field gs)
same_types_by r fs gs h = bools r (same_types (map plain_field fs) (map plain_field gs)) (λ t. types_yes fs gs (h.0 t)) (λ t. h.1 (types_are fs gs t))

fields_self : (fs : List FieldType) → same_fields (map plain_field fs) (map plain_field fs) ≡ true
unfolding same_fields
fields_self [] = refl
fields_self (f ∷ fs) = and_both _ _ (name_self (plain_field f).name) (and_both _ _ (rw (kind_is f) (self f.kind)) (fields_self fs))

fields_are : (fs gs : List FieldType) → same_fields (map plain_field fs) (map plain_field gs) ≡ true → fs ≡ gs
unfolding same_fields
fields_are [] [] e = refl
fields_are [] (g ∷ gs) e = no_truth e
fields_are (f ∷ fs) (g ∷ gs) e =
    let names = both_left (same_name (plain_field f).name (plain_field g).name) _ e in
    let r = both_right (same_name (plain_field f).name (plain_field g).name) _ e in
    let first : f ≡ g = one_field f g names (both_left (same (plain_field f).kind (plain_field g).kind) _ r) in
    let rest : fs ≡ gs = fields_are fs gs (both_right (same (plain_field f).kind (plain_field g).kind) _ r) in
    cc
fields_are (f ∷ fs) [] e = no_truth e

pub same_fields_by : (r : Bool) (fs gs : List FieldType) → IsTrue r ↔ (fs ≡ gs) → r ≡ same_fields (map plain_field fs) (map plain_field gs)
same_fields_by r fs gs h = bools r (same_fields (map plain_field fs) (map plain_field gs))
    (λ t. ap (λ hs. same_fields (map plain_field fs) (map plain_field hs)) (sym (h.0 t)) ∙ fields_self fs)
    (λ t. h.1 (fields_are fs gs t))
