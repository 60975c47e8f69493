use Rattle.std.proofs.Common.{rules, arith, ◌∙◌, ap, length}
use Rattle.check_state.specs.Views.{around, labels}
use Rattle.check_jumps.proofs.LabelLoops.{labels_turn, labels_counted, labels_done, labels_made, scope_out, exits_at, exits_out}
use Rattle.check_jumps.proofs.labels.labels_of_exits.Goals as goal

pub loop-exit-init : goal.loop-exit-init
loop-exit-init c = record {
  number = search rules;
  scope = rw c.new-names.ensures (search rules);
}

pub loop-exit-preserved : goal.loop-exit-preserved
loop-exit-preserved c =
    let split = exits_at c.args.exits.now c.loop-exit.exit-index c.exit-item.result (search rules) (search rules) in
    record {
      number = c.loop-exit.invariant.number ∙ labels_counted _ _ c.exit-item.result.labels _ _ split (search rules);
      scope = c.loop-exit.invariant.scope ∙ labels_turn _ _ c.exit-item.result.labels _ _ _ _ _ split (search rules) (search rules);
    }

pub returns-clause-labels : goal.returns-clause-labels
unfolding around
returns-clause-labels c =
    labels_made c.loop-exit.names c.args.around.now.labels
    ∙ labels_done _ _ _ _ (labels c.args.around.now.labels) (c.loop-exit.invariant.scope ∙ scope_out _ _ _ _ (exits_out c.args.exits.now c.loop-exit.exit-index (search rules)))

pub returns-clause-number : goal.returns-clause-number
unfolding around
returns-clause-number c = omega (arith, c.loop-exit.invariant.number, ap length (exits_out c.args.exits.now c.loop-exit.exit-index (search rules)))
