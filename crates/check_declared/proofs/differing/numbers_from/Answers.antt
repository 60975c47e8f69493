use Rattle.std.proofs.Common.{rules}
use Rattle.check_declared.proofs.VariableLoops.{numbers_at, numbers_out}
use Rattle.check_declared.proofs.differing.numbers_from.Goals as goal

pub loop-name-preserved : goal.loop-name-preserved
loop-name-preserved c = rw c.loop-name.invariant (rw (numbers_at _ c.loop-name.number c.args.names.now c.loop-name._name-index c._name-item.result (search rules) (search rules)) (search rules))

pub returns : goal.returns
returns c = rw c.loop-name.invariant (rw (numbers_out _ c.loop-name.number c.args.names.now c.loop-name._name-index (search rules)) (search rules))
