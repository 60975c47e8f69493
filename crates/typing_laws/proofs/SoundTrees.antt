-- The code's types of the types of checking: their shapes, words and depth, and that they keep the limits.
use Rattle.std.proofs.Common.{◌≡◌, ℕ, ◌+◌, List, [], ◌∷◌, refl, sym, ◌∙◌, ap, subst, arith}
use Rattle.std.specs.Prelude.{◌≤◌, Option, map, max, All}
use Rattle.std.specs.List.{fold}
use Rattle.mesa_types.specs.Typed as t
use Rattle.mesa_types.specs.Plain as p
use Rattle.mesa_types.specs.Plain.{Shaped, shape_step, field_kind_step, field_kind}
use Rattle.mesa_types.specs.Shapes.{AllHaveWords, words_in}
use Rattle.mesa_types.specs.Types as types
use Rattle.mesa_types.specs.Types.{depth_step, field_depth_step, longest_step, field_longest_step, IsWithinLimits, types_in}
use Rattle.mesa_types.specs.declared.types.TypeTree.{TypeTree, roll-TypeTree}
use Rattle.mesa_types.specs.declared.types.TypeTree.TheVariants as tree
use Rattle.mesa_types.specs.declared.types.TypeTree.TheOpen.{TypeTree-F, FieldType-F}
use Rattle.mesa_types.specs.declared.types.TypeTree.TheFolds.{fold-TypeTree, fold-FieldType, fold-roll-TypeTree, fold-roll-FieldType, map-TypeTree}
use Rattle.mesa_types.specs.declared.types.FieldType.{FieldType, roll-FieldType, out-roll-FieldType}
use Rattle.interface_records.specs.PlainTypes as v
use Rattle.interface_records.specs.PlainTypes.{PlainType, Parts, PlainField, kind_of, kinds_of, kinds_of_parts, elements_of, words_of, depth_of, depth_of_parts, tree_of, trees_of, field_of}
use Rattle.check_rules.proofs.SoundTypes.{TypeIn, PartsIn, FieldsIn, words_agree, fields_have_words}
use Rattle.mesa_types.proofs.KindWords.{kind_words}
use Rattle.mesa_types.specs.Sound as sound
use Rattle.std.proofs.lemmas.List.Elements.{All-cons}

-- ---- a fold of a type's tree, by the type

module _ (S F : Type 0) (step : TypeTree-F S F → S) (field : FieldType-F S F → F) where
  folded : (y : TypeTree-F TypeTree FieldType) (x : TypeTree) → roll-TypeTree y ≡ x
      → fold-TypeTree S F step field x ≡ step (map-TypeTree TypeTree FieldType S F (fold-TypeTree S F step field) (fold-FieldType S F step field) y)
  folded y x e = ap (fold-TypeTree S F step field) (sym e) ∙ fold-roll-TypeTree S F step field y

  field_folded : (x : Option (List ℕ)) (k : TypeTree) → fold-FieldType S F step field (roll-FieldType (record { name = x; kind = k })) ≡ field
      (record { name = x; kind = fold-TypeTree S F step field k })
  field_folded x k = fold-roll-FieldType S F step field (record { name = x; kind = k })

shaped : TypeTree → Shaped
shaped = fold-TypeTree Shaped t.Kind shape_step field_kind_step

shape_at : (y : TypeTree-F TypeTree FieldType) (x : TypeTree) → roll-TypeTree y ≡ x
    → shaped x ≡ shape_step (map-TypeTree TypeTree FieldType Shaped t.Kind shaped field_kind y)
unfolding shaped
shape_at = folded Shaped t.Kind shape_step field_kind_step

abbrev shape_of : PlainType → Shaped
shape_of k = record { shape = kind_of k; elements = elements_of k }

mutual
  unfolding tree_of kind_of shaped

  shapes : (k : PlainType) → shaped (tree_of k) ≡ shape_of k
  shapes v.Integer = shape_at TypeTree-F.Integer tree.Integer tree.rolls-Integer
  shapes v.Cardinal = shape_at TypeTree-F.Cardinal tree.Cardinal tree.rolls-Cardinal
  shapes v.LongInteger = shape_at TypeTree-F.LongInteger tree.LongInteger tree.rolls-LongInteger
  shapes v.LongCardinal = shape_at TypeTree-F.LongCardinal tree.LongCardinal tree.rolls-LongCardinal
  shapes v.Boolean = shape_at TypeTree-F.Boolean tree.Boolean tree.rolls-Boolean
  shapes v.Character = shape_at TypeTree-F.Character tree.Character tree.rolls-Character
  shapes v.String = shape_at TypeTree-F.String tree.String tree.rolls-String
  shapes (v.Enumeration o xs) = shape_at (TypeTree-F.Enumeration o xs) (tree.Enumeration o xs) (tree.rolls-Enumeration o xs)
  shapes (v.Subrange k m n) = shape_at (TypeTree-F.Subrange (tree_of k) m n) (tree.Subrange (tree_of k) m n) (tree.rolls-Subrange (tree_of k) m n)
  shapes (v.Array i e) = shape_at (TypeTree-F.Array (tree_of i) (tree_of e)) (tree.Array (tree_of i) (tree_of e)) (tree.rolls-Array (tree_of i) (tree_of e))
      ∙ array_shape (shaped (tree_of i)) (shape_of i) (shaped (tree_of e)) (shape_of e) (shapes i) (shapes e)
    where
      array_shape : (a b c d : Shaped) → a ≡ b → c ≡ d → shape_step (TypeTree-F.Array a c) ≡ shape_step (TypeTree-F.Array b d)
      array_shape a b c d e f = rw (e, f) refl
  shapes (v.Record o ps) = shape_at (TypeTree-F.Record o (trees_of ps)) (tree.Record o (trees_of ps)) (tree.rolls-Record o (trees_of ps))
      ∙ ap (λ ks. p.other_shape (t.Record ks)) (part_shapes ps)

  part_shapes : (ps : Parts) → p.kinds (map field_kind (trees_of ps)) ≡ kinds_of_parts ps
  part_shapes v.NoPart = refl
  part_shapes (v.AndPart x k ps) = part_shape x k (p.kinds (map field_kind (trees_of ps))) (kinds_of_parts ps) (shapes k) (part_shapes ps)
    where
      part_shape : (x : Option (List ℕ)) (k : PlainType) (js ks : t.Kinds) → shaped (tree_of k) ≡ shape_of k → js ≡ ks
          → t.AndKind (field_kind (roll-FieldType (record { name = x; kind = tree_of k }))) js ≡ t.AndKind (kind_of k) ks
      part_shape x k js ks e d =
          let f : field_kind (roll-FieldType (record { name = x; kind = tree_of k })) ≡ kind_of k = field_folded Shaped t.Kind shape_step field_kind_step x
          (tree_of k) ∙ ap (λ (y : Shaped). y.shape) e in
          cc

pub tree_kind : (k : PlainType) → p.kind_of (tree_of k) ≡ kind_of k
unfolding shaped
tree_kind k = ap (λ (y : Shaped). y.shape) (shapes k)

field_shape : (f : PlainField) → field_kind (field_of f) ≡ kind_of f.kind
unfolding shaped
field_shape f = field_folded Shaped t.Kind shape_step field_kind_step f.name (tree_of f.kind) ∙ tree_kind f.kind

pub tree_kinds : (fs : List PlainField) → p.kinds_of (map field_of fs) ≡ kinds_of fs
unfolding kinds_of
tree_kinds [] = refl
tree_kinds (f ∷ fs) = let e = field_shape f in let d = tree_kinds fs in both (field_kind (field_of f)) (kind_of f.kind) (p.kinds_of (map field_of fs))
    (kinds_of fs) e d
  where
    both : (j k : t.Kind) (js ks : t.Kinds) → j ≡ k → js ≡ ks → t.AndKind j js ≡ t.AndKind k ks
    both j k js ks e d = cc

-- ---- limits

tree_words : (k : PlainType) → types.words_of (tree_of k) ≡ words_of k
tree_words k = sym (kind_words (tree_of k)) ∙ ap words_in (tree_kind k) ∙ sym (words_agree k)

deep : TypeTree → ℕ
deep = fold-TypeTree ℕ ℕ depth_step field_depth_step

field_deep : FieldType → ℕ
field_deep = fold-FieldType ℕ ℕ depth_step field_depth_step

depth_at : (y : TypeTree-F TypeTree FieldType) (x : TypeTree) → roll-TypeTree y ≡ x
    → deep x ≡ depth_step (map-TypeTree TypeTree FieldType ℕ ℕ deep field_deep y)
unfolding deep field_deep
depth_at = folded ℕ ℕ depth_step field_depth_step

mutual
  unfolding tree_of depth_of deep field_deep

  depths : (k : PlainType) → deep (tree_of k) ≡ depth_of k
  depths v.Integer = depth_at TypeTree-F.Integer tree.Integer tree.rolls-Integer
  depths v.Cardinal = depth_at TypeTree-F.Cardinal tree.Cardinal tree.rolls-Cardinal
  depths v.LongInteger = depth_at TypeTree-F.LongInteger tree.LongInteger tree.rolls-LongInteger
  depths v.LongCardinal = depth_at TypeTree-F.LongCardinal tree.LongCardinal tree.rolls-LongCardinal
  depths v.Boolean = depth_at TypeTree-F.Boolean tree.Boolean tree.rolls-Boolean
  depths v.Character = depth_at TypeTree-F.Character tree.Character tree.rolls-Character
  depths v.String = depth_at TypeTree-F.String tree.String tree.rolls-String
  depths (v.Enumeration o xs) = depth_at (TypeTree-F.Enumeration o xs) (tree.Enumeration o xs) (tree.rolls-Enumeration o xs)
  depths (v.Subrange k m n) = depth_at (TypeTree-F.Subrange (tree_of k) m n) (tree.Subrange (tree_of k) m n) (tree.rolls-Subrange (tree_of k) m n)
      ∙ ap (λ n. n + 1) (depths k)
  depths (v.Array i e) = depth_at (TypeTree-F.Array (tree_of i) (tree_of e)) (tree.Array (tree_of i) (tree_of e)) (tree.rolls-Array (tree_of i) (tree_of e))
      ∙ rw (depths i, depths e) refl
  depths (v.Record o ps) = depth_at (TypeTree-F.Record o (trees_of ps)) (tree.Record o (trees_of ps)) (tree.rolls-Record o (trees_of ps))
      ∙ ap (λ n. n + 1) (part_depths 0 ps ∙ none_before (depth_of_parts ps))
    where
      none_before : (n : ℕ) → max 0 n ≡ n
      none_before n = omega arith

  part_depths : (n : ℕ) (ps : Parts) → fold max n (map field_deep (trees_of ps)) ≡ max n (depth_of_parts ps)
  part_depths n v.NoPart = omega arith
  part_depths n (v.AndPart x k ps) =
      let here : field_deep (roll-FieldType (record { name = x; kind = tree_of k })) ≡ depth_of k = field_folded ℕ ℕ depth_step field_depth_step x (tree_of k)
      ∙ depths k in
      part_depths (max n (field_deep (roll-FieldType (record { name = x; kind = tree_of k })))) ps ∙ further n _ (depth_of k) (depth_of_parts ps) here
    where
      further : (n a b c : ℕ) → a ≡ b → max (max n a) c ≡ max n (max b c)
      further n a b c e = omega (arith, e)

long : TypeTree → ℕ
long = fold-TypeTree ℕ ℕ longest_step field_longest_step

field_long : FieldType → ℕ
field_long = fold-FieldType ℕ ℕ longest_step field_longest_step

long_at : (y : TypeTree-F TypeTree FieldType) (x : TypeTree) → roll-TypeTree y ≡ x
    → long x ≡ longest_step (map-TypeTree TypeTree FieldType ℕ ℕ long field_long y)
unfolding long field_long
long_at = folded ℕ ℕ longest_step field_longest_step

mutual
  unfolding tree_of TypeIn long field_long

  longest : (k : PlainType) → TypeIn k → long (tree_of k) ≤ 65536
  longest v.Integer h = omega (arith, long_at TypeTree-F.Integer tree.Integer tree.rolls-Integer)
  longest v.Cardinal h = omega (arith, long_at TypeTree-F.Cardinal tree.Cardinal tree.rolls-Cardinal)
  longest v.LongInteger h = omega (arith, long_at TypeTree-F.LongInteger tree.LongInteger tree.rolls-LongInteger)
  longest v.LongCardinal h = omega (arith, long_at TypeTree-F.LongCardinal tree.LongCardinal tree.rolls-LongCardinal)
  longest v.Boolean h = omega (arith, long_at TypeTree-F.Boolean tree.Boolean tree.rolls-Boolean)
  longest v.Character h = omega (arith, long_at TypeTree-F.Character tree.Character tree.rolls-Character)
  longest v.String h = omega (arith, long_at TypeTree-F.String tree.String tree.rolls-String)
  longest (v.Enumeration o xs) h = omega (arith, long_at (TypeTree-F.Enumeration o xs) (tree.Enumeration o xs) (tree.rolls-Enumeration o xs), h.1)
  longest (v.Subrange k m n) h = omega (
    arith,
    long_at (TypeTree-F.Subrange (tree_of k) m n) (tree.Subrange (tree_of k) m n)
        (tree.rolls-Subrange (tree_of k) m n),
    longest k h.0,
  )
  longest (v.Array i e) h = omega (
    arith,
    long_at (TypeTree-F.Array (tree_of i) (tree_of e)) (tree.Array (tree_of i) (tree_of e))
        (tree.rolls-Array (tree_of i) (tree_of e)),
    longest i h.0,
    longest e h.1,
  )
  longest (v.Record o ps) h = omega (
    arith,
    long_at (TypeTree-F.Record o (trees_of ps)) (tree.Record o (trees_of ps)) (tree.rolls-Record o (trees_of ps)),
    part_longest 0 ps (omega arith) h.0,
  )

  part_longest : (n : ℕ) (ps : Parts) → n ≤ 65536 → PartsIn ps → fold max n (map field_long (trees_of ps)) ≤ 65536
  part_longest n v.NoPart s h = s
  part_longest n (v.AndPart x k ps) s h =
      let here : field_long (roll-FieldType (record { name = x; kind = tree_of k })) ≡ long (tree_of k) = field_folded ℕ ℕ longest_step field_longest_step x
      (tree_of k) in
      part_longest (max n (field_long (roll-FieldType (record { name = x; kind = tree_of k })))) ps (omega (arith, here, s, longest k h.0)) h.1

few_words : (k : PlainType) → TypeIn k → words_of k ≤ 16384
unfolding TypeIn words_of
few_words v.Integer h = omega arith
few_words v.Cardinal h = omega arith
few_words v.LongInteger h = omega arith
few_words v.LongCardinal h = omega arith
few_words v.Boolean h = omega arith
few_words v.Character h = omega arith
few_words v.String h = omega arith
few_words (v.Enumeration o xs) h = omega arith
few_words (v.Subrange k m n) h = omega arith
few_words (v.Array i e) h = h.3
few_words (v.Record o ps) h = h.2

not_deep : (k : PlainType) → TypeIn k → depth_of k ≤ 64
unfolding TypeIn depth_of
not_deep v.Integer h = omega arith
not_deep v.Cardinal h = omega arith
not_deep v.LongInteger h = omega arith
not_deep v.LongCardinal h = omega arith
not_deep v.Boolean h = omega arith
not_deep v.Character h = omega arith
not_deep v.String h = omega arith
not_deep (v.Enumeration o xs) h = omega arith
not_deep (v.Subrange k m n) h = h.3
not_deep (v.Array i e) h = h.4
not_deep (v.Record o ps) h = h.3

pub within_limits : (k : PlainType) → TypeIn k → IsWithinLimits (tree_of k)
unfolding deep long
within_limits k h = (omega (arith, tree_words k, few_words k h), omega (arith, depths k, not_deep k h), longest k h)

-- ---- heads

tree_types : (fs : List PlainField) → FieldsIn fs → All IsWithinLimits (types_in (map field_of fs))
unfolding FieldsIn
tree_types [] h = λ k d small. absurd (omega (arith, small))
tree_types (f ∷ fs) h = All-cons IsWithinLimits (field_of f).kind (types_in (map field_of fs)) (subst IsWithinLimits (sym (kept f)) (within_limits f.kind h.0))
    (tree_types fs h.1)
  where
    kept : (f : PlainField) → (field_of f).kind ≡ tree_of f.kind
    kept f = ap (λ (f : FieldType-F TypeTree FieldType). f.kind) (out-roll-FieldType (record { name = f.name; kind = tree_of f.kind }))

pub fields_within : (fs : List PlainField) → FieldsIn fs → sound.FieldsWithin (map field_of fs)
unfolding sound.FieldsWithin
fields_within fs h = (tree_types fs h, subst AllHaveWords (sym (tree_kinds fs)) (fields_have_words fs h))
