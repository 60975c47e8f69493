-- Layers of types, their tags and parts.
use Rattle.std.proofs.Common.{◌≡◌, ℕ, zero, suc, ◌≤◌, List, Option, Some, None, refl, sym, ap, ◌∙◌, arith}
use Rattle.std.specs.Prelude.{◌≢◌, IsSomeAnd}
use Rattle.mesa_types.specs.declared.types.Origin.{Origin}
use Rattle.mesa_types.specs.declared.types.TypeTree.{TypeTree, roll-TypeTree, out-TypeTree, roll-out-TypeTree, out-roll-TypeTree}
use Rattle.mesa_types.specs.declared.types.TypeTree.TheVariants as v
use Rattle.mesa_types.specs.declared.types.TypeTree.TheOpen.{TypeTree-F}
use Rattle.mesa_types.specs.declared.types.FieldType.{FieldType}
use Rattle.face_rules.specs.Layers.{Layer, layer_tag, tag_of, of_enumeration, of_subrange, of_array, of_record}
use Rattle.face_rules.specs.TypeForms.{basic}

pub layer_at : (y : Layer) (t : TypeTree) → roll-TypeTree y ≡ t → out-TypeTree t ≡ y
layer_at y t e = ap out-TypeTree (sym e) ∙ out-roll-TypeTree y

pub tag_at : (y : Layer) (t : TypeTree) → roll-TypeTree y ≡ t → tag_of t ≡ layer_tag y
unfolding tag_of
tag_at y t e = ap layer_tag (layer_at y t e)

pub basic_tag : (tag : ℕ) → 1 ≤ tag → tag ≤ 11 → tag ≢ 6 → tag ≢ 7 → tag ≢ 8 → tag ≢ 9 → tag_of (basic tag) ≡ tag
basic_tag zero h few six seven eight nine = absurd (omega (arith, h))
basic_tag (suc zero) h few six seven eight nine = tag_at TypeTree-F.Integer v.Integer v.rolls-Integer
basic_tag (suc (suc zero)) h few six seven eight nine = tag_at TypeTree-F.Cardinal v.Cardinal v.rolls-Cardinal
basic_tag (suc (suc (suc zero))) h few six seven eight nine = tag_at TypeTree-F.Boolean v.Boolean v.rolls-Boolean
basic_tag (suc (suc (suc (suc zero)))) h few six seven eight nine = tag_at TypeTree-F.Character v.Character v.rolls-Character
basic_tag (suc (suc (suc (suc (suc zero))))) h few six seven eight nine = tag_at TypeTree-F.String v.String v.rolls-String
basic_tag (suc (suc (suc (suc (suc (suc zero)))))) h few six seven eight nine = absurd (six refl)
basic_tag (suc (suc (suc (suc (suc (suc (suc zero))))))) h few six seven eight nine = absurd (seven refl)
basic_tag (suc (suc (suc (suc (suc (suc (suc (suc zero)))))))) h few six seven eight nine = absurd (eight refl)
basic_tag (suc (suc (suc (suc (suc (suc (suc (suc (suc zero))))))))) h few six seven eight nine = absurd (nine refl)
basic_tag (suc (suc (suc (suc (suc (suc (suc (suc (suc (suc zero)))))))))) h few six seven eight nine = tag_at TypeTree-F.LongInteger v.LongInteger v.rolls-LongInteger
basic_tag (suc (suc (suc (suc (suc (suc (suc (suc (suc (suc (suc zero))))))))))) h few six seven eight nine = tag_at TypeTree-F.LongCardinal v.LongCardinal v.rolls-LongCardinal
basic_tag (suc (suc (suc (suc (suc (suc (suc (suc (suc (suc (suc (suc n)))))))))))) h few six seven eight nine = absurd (omega (arith, few))

pub enumeration_tag : (P : Origin × List (List ℕ) → Type 0) (y : Layer) → IsSomeAnd (of_enumeration y) P → layer_tag y ≡ 6
enumeration_tag P (TypeTree-F.Enumeration origin names) h = refl
enumeration_tag P _ h = absurd h

pub subrange_tag : (P : TypeTree × (ℕ × ℕ) → Type 0) (y : Layer) → IsSomeAnd (of_subrange y) P → layer_tag y ≡ 7
subrange_tag P (TypeTree-F.Subrange base first last) h = refl
subrange_tag P _ h = absurd h

pub array_tag : (P : TypeTree × TypeTree → Type 0) (y : Layer) → IsSomeAnd (of_array y) P → layer_tag y ≡ 8
array_tag P (TypeTree-F.Array index element) h = refl
array_tag P _ h = absurd h

pub record_tag : (P : Origin × List FieldType → Type 0) (y : Layer) → IsSomeAnd (of_record y) P → layer_tag y ≡ 9
record_tag P (TypeTree-F.Record origin fields) h = refl
record_tag P _ h = absurd h

-- ---- from the parts back to the type

some_is : {A : Type 0} (x y : A) → (let o : Option A = Some x in o) ≡ Some y → x ≡ y
some_is x y e = cc

none_is : {A P : Type 0} (y : A) → (let o : Option A = None in o) ≡ Some y → P
none_is y e = absurd cc

enumeration_layer : (y : Layer) (p : Origin × List (List ℕ)) → of_enumeration y ≡ Some p → y ≡ TypeTree-F.Enumeration p.0 p.1
enumeration_layer (TypeTree-F.Enumeration origin names) p e = ap (λ (q : Origin × List (List ℕ)). TypeTree-F.Enumeration q.0 q.1) (some_is (origin, names) p e)
enumeration_layer _ p e = none_is p e

subrange_layer : (y : Layer) (p : TypeTree × (ℕ × ℕ)) → of_subrange y ≡ Some p → y ≡ TypeTree-F.Subrange p.0 p.1.0 p.1.1
subrange_layer (TypeTree-F.Subrange base first last) p e = ap (λ (q : TypeTree × (ℕ × ℕ)). TypeTree-F.Subrange q.0 q.1.0 q.1.1) (some_is (base, (first, last)) p e)
subrange_layer _ p e = none_is p e

array_layer : (y : Layer) (p : TypeTree × TypeTree) → of_array y ≡ Some p → y ≡ TypeTree-F.Array p.0 p.1
array_layer (TypeTree-F.Array index element) p e = ap (λ (q : TypeTree × TypeTree). TypeTree-F.Array q.0 q.1) (some_is (index, element) p e)
array_layer _ p e = none_is p e

record_layer : (y : Layer) (p : Origin × List FieldType) → of_record y ≡ Some p → y ≡ TypeTree-F.Record p.0 p.1
record_layer (TypeTree-F.Record origin fields) p e = ap (λ (q : Origin × List FieldType). TypeTree-F.Record q.0 q.1) (some_is (origin, fields) p e)
record_layer _ p e = none_is p e

pub enumeration_forth : (t : TypeTree) (p : Origin × List (List ℕ)) → of_enumeration (out-TypeTree t) ≡ Some p → t ≡ v.Enumeration p.0 p.1
enumeration_forth t p e = sym (roll-out-TypeTree t) ∙ ap roll-TypeTree (enumeration_layer (out-TypeTree t) p e) ∙ v.rolls-Enumeration p.0 p.1

pub subrange_forth : (t : TypeTree) (p : TypeTree × (ℕ × ℕ)) → of_subrange (out-TypeTree t) ≡ Some p → t ≡ v.Subrange p.0 p.1.0 p.1.1
subrange_forth t p e = sym (roll-out-TypeTree t) ∙ ap roll-TypeTree (subrange_layer (out-TypeTree t) p e) ∙ v.rolls-Subrange p.0 p.1.0 p.1.1

pub array_forth : (t : TypeTree) (p : TypeTree × TypeTree) → of_array (out-TypeTree t) ≡ Some p → t ≡ v.Array p.0 p.1
array_forth t p e = sym (roll-out-TypeTree t) ∙ ap roll-TypeTree (array_layer (out-TypeTree t) p e) ∙ v.rolls-Array p.0 p.1

pub record_forth : (t : TypeTree) (p : Origin × List FieldType) → of_record (out-TypeTree t) ≡ Some p → t ≡ v.Record p.0 p.1
record_forth t p e = sym (roll-out-TypeTree t) ∙ ap roll-TypeTree (record_layer (out-TypeTree t) p e) ∙ v.rolls-Record p.0 p.1

pub enumeration_back : (p : Origin × List (List ℕ)) → of_enumeration (out-TypeTree (v.Enumeration p.0 p.1)) ≡ Some p
enumeration_back p = ap of_enumeration (layer_at (TypeTree-F.Enumeration p.0 p.1) (v.Enumeration p.0 p.1) (v.rolls-Enumeration p.0 p.1))

pub subrange_back : (p : TypeTree × (ℕ × ℕ)) → of_subrange (out-TypeTree (v.Subrange p.0 p.1.0 p.1.1)) ≡ Some p
subrange_back p = ap of_subrange (layer_at (TypeTree-F.Subrange p.0 p.1.0 p.1.1) (v.Subrange p.0 p.1.0 p.1.1) (v.rolls-Subrange p.0 p.1.0 p.1.1))

pub array_back : (p : TypeTree × TypeTree) → of_array (out-TypeTree (v.Array p.0 p.1)) ≡ Some p
array_back p = ap of_array (layer_at (TypeTree-F.Array p.0 p.1) (v.Array p.0 p.1) (v.rolls-Array p.0 p.1))

pub record_back : (p : Origin × List FieldType) → of_record (out-TypeTree (v.Record p.0 p.1)) ≡ Some p
record_back p = ap of_record (layer_at (TypeTree-F.Record p.0 p.1) (v.Record p.0 p.1) (v.rolls-Record p.0 p.1))
