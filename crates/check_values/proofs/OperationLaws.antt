-- Operations: one more behind those of a typed run, and the first.
use Rattle.std.proofs.Common.{◌≡◌, List, [], ◌∷◌, ◌++◌, map, refl, sym, ap, ◌∙◌}
use Rattle.check_rules.specs.mesa_types.specs.Plain as tree
use Rattle.check_rules.specs.mesa_types.specs.Typed as t
use Rattle.check_rules.specs.mesa_types.specs.declared.typed_tree.Operation.{Operation}
use Rattle.check_rules.specs.mesa_types.specs.declared.typed_tree.Condition.TheFolds.{fold_out-Operation, fold-roll-Operation}
use Rattle.check_rules.specs.mesa_types.specs.declared.typed_tree.Condition.TheViews.{roll-Operation}
use Rattle.check_rules.specs.mesa_types.specs.declared.typed_tree.TypedExpr.{TypedExpr}
use Rattle.check_rules.specs.mesa_types.specs.declared.typed_parts.Operator.{Operator}
use Rattle.check_rules.specs.mesa_types.specs.declared.typed_parts.Range.{Range}
use Rattle.check_rules.specs.Parts.{and_operation}
use Rattle.check_values.specs.Views.{typed_operations}

-- `f` as the view of an operation, which puts itself before others
chain_push : (xs : List Operation) (f : Operation → t.Operations → t.Operations) (y : Operation)
    → ((x : Operation) (rest : t.Operations) (g : t.Operations → t.Operations) → and_operation (f x rest) g ≡ f x (and_operation rest g))
    → tree.chain (map f (xs ++ y ∷ [])) t.NoOperation ≡ and_operation (tree.chain (map f xs) t.NoOperation) (f y)
unfolding and_operation
chain_push [] f y h = refl
chain_push (x ∷ xs) f y h = ap (f x) (chain_push xs f y h) ∙ sym (h x (tree.chain (map f xs) t.NoOperation) (f y))

operations_push : (xs : List Operation) (y : Operation) → typed_operations (xs ++ y ∷ []) ≡ and_operation (typed_operations xs) (tree.operation y)
unfolding typed_operations and_operation
operations_push xs y = chain_push xs tree.operation y (λ x rest g. rw fold_out-Operation refl)

pub operation_more : (xs : List Operation) (y : Operation) (check : Range) (o : Operator) (e : TypedExpr) → roll-Operation (record { check = check; operator = o; right = e }) ≡ y
    → typed_operations (xs ++ y ∷ []) ≡ and_operation (typed_operations xs) (t.Then check o (tree.expr e))
operation_more xs y check o e h = operations_push xs y ∙ ap (λ z. and_operation (typed_operations xs) (tree.operation z)) (sym h) ∙ rw fold-roll-Operation refl

pub operation_first : (y : Operation) (check : Range) (o : Operator) (e : TypedExpr) → roll-Operation (record { check = check; operator = o; right = e }) ≡ y
    → typed_operations (y ∷ []) ≡ t.Then check o (tree.expr e) t.NoOperation
unfolding and_operation typed_operations
operation_first y check o e h = operation_more [] y check o e h
