-- The element of a list that is walked next: where the rest of the list has room and fits, so does it.
use Rattle.std.proofs.Common.{◌≡◌, ℕ, ◌+◌, ◌<◌, ◌≤◌, List, length, get_or, drop, map, Bool, arith}
use Rattle.mesa_base.specs.Chain.{chain}
use Rattle.mesa_types.specs.Counts.{hidden_expr, hidden_exprs, hidden_operations, hidden_suffixes}
use Rattle.mesa_types.specs.Plain.{expr, exprs, operation, suffix}
use Rattle.mesa_types.specs.Typed as t
use Rattle.mesa_types.specs.declared.typed_parts.Extent.{Extent}
use Rattle.mesa_types.specs.declared.typed_tree.Operation.{Operation}
use Rattle.mesa_types.specs.declared.typed_tree.Suffix.{Suffix}
use Rattle.mesa_types.specs.declared.typed_tree.Suffix.TheVariants as v
use Rattle.mesa_types.specs.declared.typed_tree.TypedExpr.{TypedExpr}
use Rattle.code_rules.specs.Reading.{Coded}
use Rattle.code_blocks.specs.Translation as spec
use Rattle.code_trees.specs.Excess.{excess}
use Rattle.code_trees.proofs.Splits.{exprs_split, index_split, operations_split}
use Rattle.code_trees.proofs.Walks.{hidden_first, hidden_index, hidden_operation, long_operations_first, operands_first, operations_first, path_first, values_first}

module _ (P : Coded) (z : ℕ) (x : TypedExpr) (i : ℕ) (es : List TypedExpr) (lt : i < length es) (is : x ≡ get_or es i x) where
  pub value_fits : excess (spec.values P z (exprs (map expr (drop i es)))) ≡ 0 → excess ((spec.forms P z (expr x)).value) ≡ 0
  value_fits h = values_first P z 0 (expr x) (exprs (map expr (drop i es))) (exprs (map expr (drop (i + 1) es))) (exprs_split es i x lt is) h

  pub operand_fits : (sense : Bool) (part : ℕ) → excess (spec.operands P z (exprs (map expr (drop i es))) sense part) ≡ 0
      → excess ((spec.forms P z (expr x)).jump sense part) ≡ 0
  operand_fits sense part h = operands_first P z 0 (expr x) (exprs (map expr (drop i es))) (exprs (map expr (drop (i + 1) es)))
      (exprs_split es i x lt is) sense part h

  pub value_room : (whole : ℕ) → z + hidden_exprs (exprs (map expr (drop i es))) ≡ whole → whole ≤ 65535 → z + hidden_expr (expr x) ≤ 65535
  value_room whole h small =
      omega (
        arith,
        h,
        small,
        hidden_first P z 0 (expr x) (exprs (map expr (drop i es))) (exprs (map expr (drop (i + 1) es)))
            (exprs_split es i x lt is),
      )

module _ (P : Coded) (z : ℕ) (x : Operation) (i : ℕ) (os : List Operation) (lt : i < length os) (is : x ≡ get_or os i x) where
  pub right_fits : excess (spec.operations P z (chain (map operation (drop i os)) t.NoOperation)) ≡ 0 → excess ((spec.forms P z (expr x.right)).value)
      ≡ 0
  right_fits h =
      operations_first P z 0 x.check x.operator (expr x.right) (chain (map operation (drop i os)) t.NoOperation)
      (chain (map operation (drop (i + 1) os)) t.NoOperation) (operations_split os i x lt is) h

  pub long_right_fits : excess (spec.long_operations P z (chain (map operation (drop i os)) t.NoOperation)) ≡ 0
      → excess ((spec.forms P z (expr x.right)).value) ≡ 0
  long_right_fits h =
      long_operations_first P z 0 x.check x.operator (expr x.right) (chain (map operation (drop i os)) t.NoOperation)
      (chain (map operation (drop (i + 1) os)) t.NoOperation) (operations_split os i x lt is) h

  pub right_room : (whole : ℕ) → z + hidden_operations (chain (map operation (drop i os)) t.NoOperation) ≡ whole → whole ≤ 65535 → z + hidden_expr
      (expr x.right) ≤ 65535
  right_room whole h small =
      omega (
        arith,
        h,
        small,
        hidden_operation P z 0 x.check x.operator (expr x.right) (chain (map operation (drop i os)) t.NoOperation)
            (chain (map operation (drop (i + 1) os)) t.NoOperation) (operations_split os i x lt is),
      )

module _ (P : Coded) (z : ℕ) (e : TypedExpr) (i : ℕ) (ss : List Suffix) (s : Suffix) (x : Extent) (lt : i < length ss) (is : s ≡ get_or ss i s)
    (is_index : s ≡ v.Index x e) where
  pub index_fits : excess (spec.path P z (chain (map suffix (drop i ss)) t.NoSuffix)) ≡ 0 → excess ((spec.forms P z (expr e)).value) ≡ 0
  index_fits h =
      path_first P z 0 x.check x.first x.elements x.words (expr e) (chain (map suffix (drop i ss)) t.NoSuffix)
      (chain (map suffix (drop (i + 1) ss)) t.NoSuffix) (index_split ss i s lt is x e is_index) h

  pub index_room : (whole : ℕ) → z + hidden_suffixes (chain (map suffix (drop i ss)) t.NoSuffix) ≡ whole → whole ≤ 65535 → z + hidden_expr (expr e) ≤
      65535
  index_room whole h small =
      omega (
        arith,
        h,
        small,
        hidden_index P z 0 x.check x.first x.elements x.words (expr e) (chain (map suffix (drop i ss)) t.NoSuffix)
            (chain (map suffix (drop (i + 1) ss)) t.NoSuffix) (index_split ss i s lt is x e is_index),
      )
