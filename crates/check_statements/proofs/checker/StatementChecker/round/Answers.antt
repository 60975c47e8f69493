use Rattle.std.proofs.Common.{subst, ◌∙◌}
use Rattle.mesa_types.specs.Plain as tree
use Rattle.syntax_trees.specs.PlainSyntax as plain
use Rattle.check_rules.specs.Statements.{labels_of_repeats}
use Rattle.check_state.specs.Gives.{Gives}
use Rattle.check_state.specs.Views as view
use Rattle.check_statements.specs.Rules as rules
use Rattle.check_statements.proofs.LabelLaws.{in_round_is}
use Rattle.check_statements.proofs.checker.StatementChecker.round.Goals as goal

pub returns : goal.returns
unfolding rules.round view.around
returns g c =
    subst (λ a. Gives tree.stmt (rules.round_in a c.args.around.now.marked (plain.phrase c.args.enable.now) (plain.statements c.args.statements.now) (view.state c.args.state.now)) c.round_in.result (view.state c.round_in.new.state))
    (c.in_ok-inner.ensures ∙ in_round_is c.args.around.now (view.labels_in c.in_ok-labelled.labelled.labels) c.in_ok-labelled.labelled.labelled (labels_of_repeats (plain.repeats c.args.repeats.now)) c.in_ok-labelled.ensures.labels c.in_ok-labelled.ensures.number)
    c.round_in.ensures
