use Rattle.std.proofs.Common.{rules}
use Rattle.syntax_trees.specs.PlainSyntax as plain
use Rattle.check_jumps.proofs.ArmVariables.{names_nothing}
use Rattle.check_state.specs.Views as words
use Rattle.check_heads.specs.Views as view
use Rattle.check_heads.proofs.HeadingLaws.{at_gives, at_takes, headed}
use Rattle.check_heads.proofs.headings.heading.Goals as goal

pub returns-in_err-takes : goal.returns-in_err-takes
returns-in_err-takes g c =
    rw (at_takes (words.around c.args.around.now) (words.around c.inside-inner.result) (plain.maybe_fields c.args.takes.now) (plain.maybe_fields c.args.gives.now)
    (words.state c.args.state.now) (words.state c.enter.new.self) (words.names c.new.result) c.inside-inner.ensures (names_nothing c.new.result c.new.ensures)
    c.in_ok-outside.ensures.state) (search rules)

pub returns-in_err-takes-2 : goal.returns-in_err-takes-2
returns-in_err-takes-2 g c =
    rw (at_gives (words.around c.args.around.now) (words.around c.inside-inner.result) (plain.maybe_fields c.args.takes.now) (plain.maybe_fields c.args.gives.now)
    (words.state c.args.state.now) (words.state c.enter.new.self) (words.names c.new.result) c.inside-inner.ensures (names_nothing c.new.result c.new.ensures)
    c.in_ok-outside.ensures.state (words.fields c.in_ok-takes.takes) (words.state c.parameters.new.state) c.in_ok-takes.ensures) (search rules)

pub returns : goal.returns
returns g c =
    headed (words.around c.args.around.now) (words.around c.inside-inner.result) (plain.maybe_fields c.args.takes.now) (plain.maybe_fields c.args.gives.now)
    (words.state c.args.state.now) (words.state c.enter.new.self) (words.names c.new.result) c.inside-inner.ensures (names_nothing c.new.result c.new.ensures)
    c.in_ok-outside.ensures.state (words.fields c.in_ok-takes-2.takes) (words.state c.parameters.new.state) (search rules) (words.fields c.in_ok-takes-2.gives)
    (words.state c.parameters-2.new.state) (words.state c.leave-inside.new.state) (view.heading c.in_ok-made.field-0) (words.names c.leave-inside.result)
    (words.names c.in_ok-outside.outside) (search rules) c.in_ok-outside.ensures.coming c.leave-inside.ensures.names c.in_ok-made.ensures c.leave-inside.ensures.state
