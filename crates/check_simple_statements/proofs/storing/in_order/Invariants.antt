use Rattle.std.proofs.Common.{◌≡◌, drop, map}
use Rattle.mesa_types.specs.Plain.{target}
use Rattle.syntax_trees.specs.PlainSyntax as plain
use Rattle.check_rules.specs.Checking as spec
use Rattle.interface_records.specs.PlainTypes.{plain_field}
use Rattle.check_state.specs.Views as words
use Rattle.check_simple_statements.proofs.Chains.{onto}
use Rattle.check_simple_statements.proofs.storing.in_order.Given as goal

abbrev pub invariant-loop-i : goal.invariant-loop-i
invariant-loop-i g l =
    spec.targets_in_order (words.around l.around) l.start 0 0 (map plain_field l.fields) (plain.lefts l.all) (words.state l.fn.state)
    ≡ onto (map target l.done)
    (spec.targets_in_order (words.around l.around) l.start l.i l.offset (map plain_field (drop l.i l.fields)) (plain.lefts (drop l.i l.all)) (words.state l.state))
