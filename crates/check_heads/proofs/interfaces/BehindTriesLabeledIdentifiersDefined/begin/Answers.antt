use Rattle.std.proofs.Common.{sym, ◌∙◌}
use Rattle.syntax_trees.specs.PlainSyntax as plain
use Rattle.check_rules.specs.Definitions.{definition}
use Rattle.check_state.specs.Views as words
use Rattle.check_heads.specs.Views as view
use Rattle.check_heads.proofs.AgainLaws.{after_all, after_none, after_ok}
use Rattle.check_heads.proofs.interfaces.BehindTriesLabeledIdentifiersDefined.begin.Goals as goal

pub loop-one-init : goal.loop-one-init
loop-one-init g c = c.in_ok-state.ensures ∙ sym (after_none (definition (words.around c.args.self.now.around.now)) (g.S.Starts.begins c.args.self.now.start.now))

pub loop-one-preserved : goal.loop-one-preserved
loop-one-preserved g c =
    after_ok (definition (words.around c.args.self.now.around.now)) plain.definition c.args.self.now.done.now c.loop-one.one-index c.one-item.result
    (g.S.Starts.begins c.args.self.now.start.now) (words.state c.loop-one.state) (words.state c.definition.new.state) (view.defined c.in_ok-_made._made)
    c.loop-one-test.true c.one-item.is c.loop-one.invariant c.in_ok-_made.ensures

pub returns : goal.returns
returns g c =
    after_all (definition (words.around c.args.self.now.around.now)) plain.definition c.args.self.now.done.now c.loop-one.one-index
    (g.S.Starts.begins c.args.self.now.start.now) (words.state c.loop-one.state) c.loop-one-test.false c.loop-one.invariant
