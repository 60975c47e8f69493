use Rattle.std.proofs.Common.{rules, arith, ◌∙◌, ap, length}
use Rattle.check_rules.specs.Statements.{labels_of}
use Rattle.check_state.specs.Views.{around, labels}
use Rattle.check_jumps.proofs.LabelLoops.{labels_turn, labels_counted, labels_done, labels_made, scope_out, repeats_at, repeats_out}
use Rattle.check_jumps.proofs.labels.labels_of_repeats.Goals as goal

pub loop-repeat-init : goal.loop-repeat-init
loop-repeat-init c = record {
  number = search rules;
  scope = rw c.new-names.ensures (search rules);
}

pub loop-repeat-preserved : goal.loop-repeat-preserved
loop-repeat-preserved c =
    let split = repeats_at c.args.repeats.now c.loop-repeat.repeat-index c.repeat-item.result (search rules) (search rules) in
    record {
      number = c.loop-repeat.invariant.number ∙ labels_counted _ _ (labels_of c.repeat-item.result.labels) _ _ split (search rules);
      scope = c.loop-repeat.invariant.scope ∙ labels_turn _ _ (labels_of c.repeat-item.result.labels) _ _ _ _ _ split (search rules) (search rules);
    }

pub returns-clause-labels : goal.returns-clause-labels
unfolding around
returns-clause-labels c =
    labels_made c.loop-repeat.names c.args.around.now.labels
    ∙ labels_done _ _ _ _ (labels c.args.around.now.labels) (c.loop-repeat.invariant.scope ∙ scope_out _ _ _ _ (repeats_out c.args.repeats.now c.loop-repeat.repeat-index (search rules)))

pub returns-clause-number : goal.returns-clause-number
unfolding around
returns-clause-number c = omega (arith, c.loop-repeat.invariant.number, ap length (repeats_out c.args.repeats.now c.loop-repeat.repeat-index (search rules)))
