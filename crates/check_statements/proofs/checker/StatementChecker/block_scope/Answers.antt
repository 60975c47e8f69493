use Rattle.std.proofs.Common.{subst, sym, ap, ◌∙◌}
use Rattle.syntax_trees.specs.PlainSyntax as plain
use Rattle.syntax_trees.proofs.PlainForms.{parts_of_block}
use Rattle.check_rules.specs.Around.{inside}
use Rattle.check_rules.specs.Scopes.{nothing}
use Rattle.check_rules.specs.Statements.{labels_of_exits}
use Rattle.check_rules.specs.Steps.{in_scope}
use Rattle.check_state.specs.Gives.{Gives}
use Rattle.check_state.specs.Views as view
use Rattle.check_statements.specs.Rules as rules
use Rattle.check_statements.specs.Views as views
use Rattle.check_statements.proofs.LabelLaws.{with_labels_is}
use Rattle.check_statements.proofs.checker.StatementChecker.block_scope.Goals as goal

pub returns : goal.returns
unfolding rules.block_scope
returns g c =
    let exits = ap (λ es. labels_of_exits (plain.exits es)) c.as_slice.ensures ∙ sym (ap (λ b. labels_of_exits (rules.exits_of b)) (parts_of_block c.args.one.now)) in
    subst (λ a. Gives views.held (in_scope nothing (rules.block_inside a (plain.block c.args.one.now)) (view.state c.args.state.now)) c.block_opened.result (view.state c.block_opened.new.state))
    (c.with_labels-inner.ensures ∙ with_labels_is (view.around c.inside-inside.result) (inside (view.around c.args.around.now)) (view.labels_in c.in_ok-labelled.labelled.labels) c.in_ok-labelled.labelled.labelled (labels_of_exits (plain.exits c.as_slice.result.now)) (labels_of_exits (rules.exits_of (plain.block c.args.one.now))) c.in_ok-labelled.ensures.labels c.in_ok-labelled.ensures.number c.inside-inside.ensures exits)
    c.block_opened.ensures
