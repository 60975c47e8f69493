use Rattle.std.proofs.Common.{rules, ◌≡◌, ◌++◌, ◌∷◌, [], ap, ◌∙◌, refl}
use Rattle.check_rules.specs.mesa_types.specs.declared.typed_tree.Condition.TheViews.{roll-Operation}
use Rattle.check_values.specs.Views as view
use Rattle.check_values.proofs.OperationLaws.{operation_more}
use Rattle.check_values.proofs.sums.with_operation.Goals as goal

pub returns : goal.returns
returns c =
    let h : c.in_ok-longer.longer ≡ c.args.operations ++ roll-Operation (record { check = c.args.check; operator = c.args.operator; right = c.args.right }) ∷ [] = search rules in
    ap view.typed_operations h ∙ operation_more c.args.operations _ c.args.check c.args.operator c.args.right refl
