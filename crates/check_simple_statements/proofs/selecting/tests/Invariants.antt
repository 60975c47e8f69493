use Rattle.std.proofs.Common.{◌≡◌, drop, map}
use Rattle.mesa_types.specs.Plain.{test}
use Rattle.syntax_trees.specs.PlainSyntax as plain
use Rattle.check_rules.specs.Checking as spec
use Rattle.check_state.specs.Views as words
use Rattle.check_simple_statements.proofs.Chains.{onto}
use Rattle.check_simple_statements.proofs.selecting.tests.Given as goal

abbrev pub invariant-loop-one : goal.invariant-loop-one
invariant-loop-one g l =
    spec.tests (words.around l.around) l.start (words.typed l.selector) (plain.tests l.all) (words.state l.fn.state)
    ≡ onto (map test l.done) (spec.tests (words.around l.around) l.start (words.typed l.selector) (plain.tests (drop l.one-index l.all)) (words.state l.state))
