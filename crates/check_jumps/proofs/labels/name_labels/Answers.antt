use Rattle.std.proofs.Common.{rules, arith}
use Rattle.check_state.proofs.ScopeLaws.{with_name_as}
use Rattle.check_jumps.proofs.LabelLoops.{label_at, label_out}
use Rattle.check_jumps.proofs.labels.name_labels.Goals as goal

pub loop-name-preserved : goal.loop-name-preserved
loop-name-preserved c = record {
  number = omega (arith, c.loop-name.invariant.number, c.in_ok-number.ensures);
  scope = rw c.loop-name.invariant.scope (rw (label_at c.args.names.now c.loop-name.name-index c.name-item.result c.loop-name.number c.args.arms _ (search rules) (search rules)) (search (rules, with_name_as)));
}

pub returns-clause-scope : goal.returns-clause-scope
returns-clause-scope c = rw c.loop-name.invariant.scope (rw (label_out c.args.names.now c.loop-name.name-index c.loop-name.number c.args.arms _ (search rules)) (search rules))
