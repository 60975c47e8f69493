-- The shapes and words of types, and of variables.
use Rattle.std.proofs.Common.{◌≡◌, ◌+◌, List, [], ◌∷◌, ◌++◌, None, length, map, refl, sym, ap, ◌∙◌, arith}
use Rattle.std.proofs.lemmas.List.{map-append}
use Rattle.mesa_types.specs.Typed as t
use Rattle.mesa_types.specs.Plain as c
use Rattle.mesa_types.specs.Types as types
use Rattle.mesa_types.proofs.KindWords.{shapes_take_their_words}
use Rattle.mesa_types.specs.Plain.{Shaped, kinds, field_kind, shape_step, field_kind_step}
use Rattle.mesa_types.specs.Shapes.{join, one, count_in, words_in, words_in_all}
use Rattle.mesa_types.specs.declared.types.TypeTree.{TypeTree, roll-TypeTree}
use Rattle.mesa_types.specs.declared.types.TypeTree.TheVariants as tree
use Rattle.mesa_types.specs.declared.types.TypeTree.TheOpen.{TypeTree-F, FieldType-F}
use Rattle.mesa_types.specs.declared.types.TypeTree.TheFolds.{fold-TypeTree, fold-FieldType, fold-roll-TypeTree, fold-roll-FieldType, map-TypeTree}
use Rattle.mesa_types.specs.declared.types.FieldType.{FieldType, roll-FieldType, out-FieldType, roll-out-FieldType}
use Rattle.interface_records.specs.PlainTypes as v
use Rattle.interface_records.specs.PlainTypes.{PlainType, PlainField, Parts, kind_of, kinds_of, kinds_of_parts, elements_of, words_of, words_of_fields, plain, plain_field, tree_of, trees_of}
use Rattle.check_rules.proofs.SoundTypes.{words_agree, field_words_agree}
use Rattle.check_state.proofs.TypeBack.{back}
use Rattle.check_state.proofs.TypeForms.{parts_of_field}

shape_at : (y : TypeTree-F TypeTree FieldType) {x : TypeTree} → roll-TypeTree y ≡ x
    → fold-TypeTree Shaped t.Kind shape_step field_kind_step x ≡ shape_step (map-TypeTree TypeTree FieldType Shaped t.Kind (fold-TypeTree Shaped t.Kind shape_step field_kind_step) (fold-FieldType Shaped t.Kind shape_step field_kind_step) y)
shape_at y h = ap (fold-TypeTree Shaped t.Kind shape_step field_kind_step) (sym h) ∙ fold-roll-TypeTree Shaped t.Kind shape_step field_kind_step y

mutual
  unfolding tree_of kind_of

  shapes : (k : PlainType) → fold-TypeTree Shaped t.Kind shape_step field_kind_step (tree_of k) ≡ record { shape = kind_of k; elements = elements_of k }
  shapes v.Integer = shape_at TypeTree-F.Integer tree.rolls-Integer
  shapes v.Cardinal = shape_at TypeTree-F.Cardinal tree.rolls-Cardinal
  shapes v.LongInteger = shape_at TypeTree-F.LongInteger tree.rolls-LongInteger
  shapes v.LongCardinal = shape_at TypeTree-F.LongCardinal tree.rolls-LongCardinal
  shapes v.Boolean = shape_at TypeTree-F.Boolean tree.rolls-Boolean
  shapes v.Character = shape_at TypeTree-F.Character tree.rolls-Character
  shapes v.String = shape_at TypeTree-F.String tree.rolls-String
  shapes (v.Enumeration o xs) = shape_at (TypeTree-F.Enumeration o xs) (tree.rolls-Enumeration o xs)
  shapes (v.Subrange k m n) = shape_at (TypeTree-F.Subrange (tree_of k) m n) (tree.rolls-Subrange (tree_of k) m n)
  shapes (v.Array i e) = shape_at (TypeTree-F.Array (tree_of i) (tree_of e)) (tree.rolls-Array (tree_of i) (tree_of e)) ∙ rw (shapes i, shapes e) refl
  shapes (v.Record o ps) = shape_at (TypeTree-F.Record o (trees_of ps)) (tree.rolls-Record o (trees_of ps)) ∙ ap (λ ks. c.other_shape (t.Record ks)) (part_shapes ps)

  part_shapes : (ps : Parts) → kinds (map (fold-FieldType Shaped t.Kind shape_step field_kind_step) (trees_of ps)) ≡ kinds_of_parts ps
  part_shapes v.NoPart = refl
  part_shapes (v.AndPart x k ps) =
      let first : fold-FieldType Shaped t.Kind shape_step field_kind_step (roll-FieldType (record { name = x; kind = tree_of k })) ≡ kind_of k =
      fold-roll-FieldType Shaped t.Kind shape_step field_kind_step (record { name = x; kind = tree_of k }) ∙ ap (λ (s : Shaped). s.shape) (shapes k) in
      rw (first, part_shapes ps) refl

pub kind_plain : (k : TypeTree) → c.kind_of k ≡ kind_of (plain k)
kind_plain k = ap c.kind_of (sym (back k)) ∙ ap (λ (s : Shaped). s.shape) (shapes (plain k))

kinds_push : (ks : List t.Kind) (k : t.Kind) → kinds (ks ++ k ∷ []) ≡ join (kinds ks) (one k)
unfolding join one
kinds_push [] k = refl
kinds_push (j ∷ ks) k = ap (t.AndKind j) (kinds_push ks k)

field_shape : (y : FieldType-F TypeTree FieldType) (f : FieldType) → roll-FieldType y ≡ f → field_kind f ≡ kind_of (plain y.kind)
field_shape y f h = ap field_kind (sym h) ∙ fold-roll-FieldType Shaped t.Kind shape_step field_kind_step y ∙ kind_plain y.kind

-- ---- words

pub words_plain : (t : TypeTree) → types.words_of t ≡ words_of (plain t)
words_plain t = sym (shapes_take_their_words.of_type t) ∙ ap words_in (kind_plain t) ∙ sym (words_agree (plain t))

field_shape_of : (f : FieldType) → field_kind f ≡ kind_of (plain_field f).kind
field_shape_of f = field_shape (out-FieldType f) f (roll-out-FieldType f) ∙ ap (λ (g : PlainField). kind_of g.kind) (sym (parts_of_field f))

kinds_plain : (fs : List FieldType) → c.kinds_of fs ≡ kinds_of (map plain_field fs)
unfolding kinds_of
kinds_plain [] = refl
kinds_plain (f ∷ fs) = rw (field_shape_of f, kinds_plain fs) refl

pub words_plain_fields : (fs : List FieldType) → types.words_of_fields fs ≡ words_of_fields (map plain_field fs)
words_plain_fields fs = sym (shapes_take_their_words.of_fields fs) ∙ ap words_in_all (kinds_plain fs) ∙ sym (field_words_agree (map plain_field fs))

-- ---- variables

one_more : (fs : List FieldType) (y : FieldType-F TypeTree FieldType) (f : FieldType) → roll-FieldType y ≡ f
    → c.kinds_of (fs ++ f ∷ []) ≡ join (c.kinds_of fs) (one (kind_of (plain y.kind)))
one_more fs y f h = ap kinds (map-append field_kind fs (f ∷ [])) ∙ kinds_push (map field_kind fs) (field_kind f) ∙ ap (λ k. join (c.kinds_of fs) (one k)) (field_shape y f h)

joined_words : (ks : t.Kinds) (k : t.Kind) → words_in_all (join ks (one k)) ≡ words_in_all ks + words_in k
unfolding join one words_in_all
joined_words t.NoKinds k = omega arith
joined_words (t.AndKind j ks) k = omega (arith, joined_words ks k)

pub words_more : (ks : t.Kinds) (k : PlainType) → words_in_all (join ks (one (kind_of k))) ≡ words_in_all ks + words_of k
words_more ks k = joined_words ks (kind_of k) ∙ ap (λ w. words_in_all ks + w) (sym (words_agree k))

counted : (ks : List t.Kind) → count_in (kinds ks) ≡ length ks
unfolding count_in
counted [] = refl
counted (k ∷ ks) = omega (arith, counted ks)

lengths : (fs : List FieldType) → length (map field_kind fs) ≡ length fs
lengths [] = refl
lengths (f ∷ fs) = omega (arith, lengths fs)

pub fields_counted : (fs : List FieldType) → count_in (c.kinds_of fs) ≡ length fs
fields_counted fs = counted (map field_kind fs) ∙ lengths fs

pub pushed : (fs new : List FieldType) (k j : TypeTree) → new ≡ fs ++ roll-FieldType (record { name = None; kind = j }) ∷ [] → j ≡ k
    → c.kinds_of new ≡ join (c.kinds_of fs) (one (kind_of (plain k)))
pushed fs new k j e h = ap c.kinds_of e ∙ one_more fs (record { name = None; kind = j }) _ refl ∙ ap (λ x. join (c.kinds_of fs) (one (kind_of (plain x)))) h
