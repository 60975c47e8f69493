use Rattle.std.proofs.Common.{rules, ◌≡◌, refl}
use Rattle.check_rules.specs.Operators.{fitted}
use Rattle.check_rules.specs.Typed.{Every}
use Rattle.check_rules.specs.Values as spec
use Rattle.check_rules.specs.mesa_types.specs.Plain.{expr}
use Rattle.check_rules.specs.mesa_types.specs.Typed.{Then}
use Rattle.check_rules.specs.interface_records.specs.PlainTypes.{plain}
use Rattle.check_values.specs.Views as view
use Rattle.check_values.proofs.sums.done_in_longs.Goals as goal

pub returns : goal.returns
returns c =
    let right : expr c.in_ok-done.right ≡ fitted (view.fit c.args.applied.right) (expr c.args.right) = search rules in
    let kept : plain c.in_ok-kind.kind ≡ plain c.args.applied.kind = search rules in
    let grown : view.sum c.in_ok-kind.done ≡ spec.then_long (view.sum c.args.done) (view.fit c.args.applied.left) (Then Every c.args.applied.operator (expr c.in_ok-done.right)) = search rules in
    rw grown (rw right (rw kept refl))
