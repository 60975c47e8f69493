-- What the code finds of the words and the depth of a type is what is said of the plain one.
use Rattle.std.proofs.Common.{◌≡◌, ◌<◌, ◌+◌, ℕ, map, refl, sym, ap, ◌∙◌, arith}
use Rattle.std.specs.List.{fold}
use Rattle.std.specs.Prelude.{max, min, nat_le}
use Rattle.mesa_base.specs.declared.limits.TheConstants.{TYPE_WORDS, TYPE_DEPTH}
use Rattle.mesa_types.specs.Types as types
use Rattle.mesa_types.specs.Types.{depth_step, field_depth_step}
use Rattle.mesa_types.specs.declared.types.TypeTree.{TypeTree, roll-TypeTree}
use Rattle.mesa_types.specs.declared.types.TypeTree.TheVariants as tree
use Rattle.mesa_types.specs.declared.types.TypeTree.TheOpen.{TypeTree-F}
use Rattle.mesa_types.specs.declared.types.TypeTree.TheFolds.{fold-FieldType, fold-roll-TypeTree, fold-roll-FieldType, map-TypeTree}
use Rattle.mesa_types.specs.declared.types.FieldType.{FieldType, roll-FieldType}
use Rattle.interface_records.specs.PlainTypes as v
use Rattle.interface_records.specs.PlainTypes.{PlainType, Parts, depth_of, depth_of_parts, plain, tree_of, trees_of, words_of}
use Rattle.check_state.proofs.KindLaws.{words_plain}
use Rattle.check_state.proofs.TypeBack.{back}

abbrev depth_of_field : FieldType → ℕ
depth_of_field = fold-FieldType ℕ ℕ depth_step field_depth_step

depth_at : (y : TypeTree-F TypeTree FieldType) {x : TypeTree} → roll-TypeTree y ≡ x
    → types.depth_of x ≡ depth_step (map-TypeTree TypeTree FieldType ℕ ℕ types.depth_of depth_of_field y)
depth_at y h = ap types.depth_of (sym h) ∙ fold-roll-TypeTree ℕ ℕ depth_step field_depth_step y

one_deeper : (n d m e : ℕ) → d ≡ m → max (max n d) e ≡ max n (max m e)
one_deeper n d m e h = omega (arith, h)

none_deeper : (n : ℕ) → n ≡ max n 0
none_deeper n = omega arith

from_none : (n m : ℕ) → n ≡ max 0 m → n + 1 ≡ m + 1
from_none n m h = omega (arith, h)

mutual
  unfolding tree_of depth_of

  depths : (k : PlainType) → types.depth_of (tree_of k) ≡ depth_of k
  depths v.Integer = depth_at TypeTree-F.Integer tree.rolls-Integer
  depths v.Cardinal = depth_at TypeTree-F.Cardinal tree.rolls-Cardinal
  depths v.LongInteger = depth_at TypeTree-F.LongInteger tree.rolls-LongInteger
  depths v.LongCardinal = depth_at TypeTree-F.LongCardinal tree.rolls-LongCardinal
  depths v.Boolean = depth_at TypeTree-F.Boolean tree.rolls-Boolean
  depths v.Character = depth_at TypeTree-F.Character tree.rolls-Character
  depths v.String = depth_at TypeTree-F.String tree.rolls-String
  depths (v.Enumeration o xs) = depth_at (TypeTree-F.Enumeration o xs) (tree.rolls-Enumeration o xs)
  depths (v.Subrange k m n) = depth_at (TypeTree-F.Subrange (tree_of k) m n) (tree.rolls-Subrange (tree_of k) m n) ∙ ap (λ d. d + 1) (depths k)
  depths (v.Array i e) = depth_at (TypeTree-F.Array (tree_of i) (tree_of e)) (tree.rolls-Array (tree_of i) (tree_of e)) ∙ rw (depths i, depths e) refl
  depths (v.Record o ps) = depth_at (TypeTree-F.Record o (trees_of ps)) (tree.rolls-Record o (trees_of ps)) ∙ from_none _ (depth_of_parts ps) (part_depths 0 ps)

  part_depths : (n : ℕ) (ps : Parts) → fold max n (map depth_of_field (trees_of ps)) ≡ max n (depth_of_parts ps)
  part_depths n v.NoPart = none_deeper n
  part_depths n (v.AndPart x k ps) =
      let first : depth_of_field (roll-FieldType (record { name = x; kind = tree_of k })) ≡ depth_of k =
      fold-roll-FieldType ℕ ℕ depth_step field_depth_step (record { name = x; kind = tree_of k }) ∙ depths k in
      part_depths (max n (depth_of_field (roll-FieldType (record { name = x; kind = tree_of k })))) ps ∙ one_deeper n _ (depth_of k) (depth_of_parts ps) first

depth_plain : (t : TypeTree) → types.depth_of t ≡ depth_of (plain t)
depth_plain t = ap types.depth_of (sym (back t)) ∙ depths (plain t)

clipped : (n m : ℕ) → m < 4294967295 → nat_le (min n 4294967295) m ≡ nat_le n m
clipped n m h = grind arith

pub few_words_by : (t : TypeTree) → nat_le (min (types.words_of t) 4294967295) TYPE_WORDS ≡ nat_le (words_of (plain t)) TYPE_WORDS
few_words_by t = clipped (types.words_of t) TYPE_WORDS (omega arith) ∙ ap (λ n. nat_le n TYPE_WORDS) (words_plain t)

pub is_flat_by : (t : TypeTree) → nat_le (min (types.depth_of t) 4294967295) TYPE_DEPTH ≡ nat_le (depth_of (plain t)) TYPE_DEPTH
is_flat_by t = clipped (types.depth_of t) TYPE_DEPTH (omega arith) ∙ ap (λ n. nat_le n TYPE_DEPTH) (depth_plain t)
