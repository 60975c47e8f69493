-- What the code finds of a type is what is said of the plain one: sameness, elements, bases.
use Rattle.std.proofs.Common.{◌≡◌, ◌↔◌, IsTrue, ℕ, Bool, true, false, List, [], ◌∷◌, refl, sym, ap, ◌∙◌, arith}
use Rattle.std.specs.Prelude.{◌&&◌, Option, Some, None, option_map, nat_eq, bytes_eq}
use Rattle.mesa_types.specs.Types as c
use Rattle.mesa_types.specs.Types.{Measure, measure_of, measure_step, field_step, base_step}
use Rattle.mesa_types.specs.declared.types.TypeTree.{TypeTree, roll-TypeTree, out-TypeTree, roll-out-TypeTree}
use Rattle.mesa_types.specs.declared.types.TypeTree.TheVariants as tree
use Rattle.mesa_types.specs.declared.types.TypeTree.TheOpen.{TypeTree-F}
use Rattle.mesa_types.specs.declared.types.TypeTree.TheFolds.{fold-FieldType, fold-roll-TypeTree, map-TypeTree}
use Rattle.mesa_types.specs.declared.types.FieldType.{FieldType}
use Rattle.mesa_types.specs.declared.types.Origin.{Origin}
use Rattle.interface_records.specs.PlainTypes as v
use Rattle.interface_records.specs.PlainTypes.{PlainType, Parts, PlainField, base_of, same, same_parts, same_names, same_name, same_origin, same_stamp, elements_of, plain, plain_field, plain_step, tree_of, trees_of}
use Rattle.check_rules.proofs.SoundSame.{types_same}
use Rattle.check_state.proofs.TypeBack.{back}
use Rattle.check_state.proofs.TypeForms.{type_at, of_integer, of_cardinal, of_long_integer, of_long_cardinal, of_boolean, of_character, of_enumeration}

-- ---- sameness

and_both : (a b : Bool) → a ≡ true → b ≡ true → (a && b) ≡ true
and_both a b h k = rw (h, k) refl

nat_self : (n : ℕ) → nat_eq n n ≡ true
nat_self n = grind arith

bytes_self : (xs : List ℕ) → bytes_eq xs xs ≡ true
bytes_self [] = refl
bytes_self (x ∷ xs) = and_both (nat_eq x x) (bytes_eq xs xs) (nat_self x) (bytes_self xs)

stamp_self : (s : Option ℕ) → same_stamp s s ≡ true
stamp_self None = refl
stamp_self (Some n) = nat_self n

origin_self : (o : Origin) → same_origin o o ≡ true
origin_self o = and_both _ _ (bytes_self o.«module») (and_both _ _ (stamp_self o.stamp) (nat_self o.number))

names_self : (xs : List (List ℕ)) → same_names xs xs ≡ true
unfolding same_names
names_self [] = refl
names_self (x ∷ xs) = and_both _ _ (bytes_self x) (names_self xs)

name_self : (x : Option (List ℕ)) → same_name x x ≡ true
name_self None = refl
name_self (Some x) = bytes_self x

mutual
  unfolding same

  self : (k : PlainType) → same k k ≡ true
  self v.Integer = refl
  self v.Cardinal = refl
  self v.LongInteger = refl
  self v.LongCardinal = refl
  self v.Boolean = refl
  self v.Character = refl
  self v.String = refl
  self (v.Enumeration o xs) = and_both _ _ (origin_self o) (names_self xs)
  self (v.Subrange k m n) = and_both _ _ (self k) (and_both _ _ (nat_self m) (nat_self n))
  self (v.Array i e) = and_both _ _ (self i) (self e)
  self (v.Record o ps) = and_both _ _ (origin_self o) (parts_self ps)

  parts_self : (ps : Parts) → same_parts ps ps ≡ true
  parts_self v.NoPart = refl
  parts_self (v.AndPart x k ps) = and_both _ _ (name_self x) (and_both _ _ (self k) (parts_self ps))

one_type : (a b : TypeTree) → plain a ≡ plain b → a ≡ b
one_type a b e = sym (back a) ∙ ap tree_of e ∙ back b

bools : (b c : Bool) → (b ≡ true → c ≡ true) → (c ≡ true → b ≡ true) → b ≡ c
bools true c g h = sym (g refl)
bools false false g h = refl
bools false true g h = h refl

pub same_by : (r : Bool) (a b : TypeTree) → IsTrue r ↔ c.SameType a b → r ≡ same (plain a) (plain b)
same_by r a b h = bools r (same (plain a) (plain b))
    (λ t. ap (λ x. same (plain a) (plain x)) (sym (h.0 t)) ∙ self (plain a))
    (λ t. h.1 (one_type a b (types_same (plain a) (plain b) t)))

-- ---- elements

elements_in : (y : TypeTree-F TypeTree FieldType) → (measure_step (map-TypeTree TypeTree FieldType Measure ℕ measure_of (fold-FieldType Measure ℕ measure_step field_step) y)).elements
    ≡ elements_of (plain_step (map-TypeTree TypeTree FieldType PlainType PlainField plain plain_field y))
elements_in TypeTree-F.Integer = refl
elements_in TypeTree-F.Cardinal = refl
elements_in TypeTree-F.LongInteger = refl
elements_in TypeTree-F.LongCardinal = refl
elements_in TypeTree-F.Boolean = refl
elements_in TypeTree-F.Character = refl
elements_in TypeTree-F.String = refl
elements_in (TypeTree-F.Enumeration o xs) = refl
elements_in (TypeTree-F.Subrange k m n) = refl
elements_in (TypeTree-F.Array i e) = refl
elements_in (TypeTree-F.Record o fs) = refl

pub elements_plain : (t : TypeTree) → c.elements_of t ≡ elements_of (plain t)
elements_plain t =
    ap c.elements_of (sym (roll-out-TypeTree t)) ∙ ap (λ (m : Measure). m.elements) (fold-roll-TypeTree Measure ℕ measure_step field_step (out-TypeTree t))
    ∙ elements_in (out-TypeTree t) ∙ ap elements_of (sym (type_at (out-TypeTree t) (roll-out-TypeTree t)))

-- ---- bases

base_at : (y : TypeTree-F TypeTree FieldType) {x : TypeTree} → roll-TypeTree y ≡ x
    → c.base_of x ≡ base_step (map-TypeTree TypeTree FieldType (Option TypeTree) (Option TypeTree) c.base_of (fold-FieldType (Option TypeTree) (Option TypeTree) base_step (λ field. field.kind)) y)
base_at y h = ap c.base_of (sym h) ∙ fold-roll-TypeTree (Option TypeTree) (Option TypeTree) base_step (λ field. field.kind) y

bases : (k : PlainType) → option_map plain (c.base_of (tree_of k)) ≡ base_of k
unfolding tree_of base_of
bases v.Integer = ap (option_map plain) (base_at TypeTree-F.Integer tree.rolls-Integer) ∙ ap Some of_integer
bases v.Cardinal = ap (option_map plain) (base_at TypeTree-F.Cardinal tree.rolls-Cardinal) ∙ ap Some of_cardinal
bases v.LongInteger = ap (option_map plain) (base_at TypeTree-F.LongInteger tree.rolls-LongInteger) ∙ ap Some of_long_integer
bases v.LongCardinal = ap (option_map plain) (base_at TypeTree-F.LongCardinal tree.rolls-LongCardinal) ∙ ap Some of_long_cardinal
bases v.Boolean = ap (option_map plain) (base_at TypeTree-F.Boolean tree.rolls-Boolean) ∙ ap Some of_boolean
bases v.Character = ap (option_map plain) (base_at TypeTree-F.Character tree.rolls-Character) ∙ ap Some of_character
bases v.String = ap (option_map plain) (base_at TypeTree-F.String tree.rolls-String)
bases (v.Enumeration o xs) = ap (option_map plain) (base_at (TypeTree-F.Enumeration o xs) (tree.rolls-Enumeration o xs)) ∙ ap Some (of_enumeration o xs)
bases (v.Subrange k m n) = ap (option_map plain) (base_at (TypeTree-F.Subrange (tree_of k) m n) (tree.rolls-Subrange (tree_of k) m n)) ∙ bases k
bases (v.Array i e) = ap (option_map plain) (base_at (TypeTree-F.Array (tree_of i) (tree_of e)) (tree.rolls-Array (tree_of i) (tree_of e)))
bases (v.Record o ps) = ap (option_map plain) (base_at (TypeTree-F.Record o (trees_of ps)) (tree.rolls-Record o (trees_of ps)))

pub base_plain : (t : TypeTree) → option_map plain (c.base_of t) ≡ base_of (plain t)
base_plain t = ap (λ x. option_map plain (c.base_of x)) (sym (back t)) ∙ bases (plain t)
