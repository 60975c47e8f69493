use Rattle.std.proofs.Common.{rules}
use Rattle.interface_records.specs.PlainTypes.{plain}
use Rattle.check_state.specs.Views.{around}
use Rattle.check_jumps.proofs.Gathering.{gathered_at, gathered_end}
use Rattle.check_declared.proofs.VariableLoops.{one_variable, variables_begin}
use Rattle.check_declared.proofs.variables.variables.Goals as goal

pub loop-name-init : goal.loop-name-init
loop-name-init c = rw c.new-homes.ensures (variables_begin _ _ _ _)

pub loop-name-preserved : goal.loop-name-preserved
loop-name-preserved c = rw c.loop-name.invariant (rw (gathered_at (one_variable (around c.args.around.now) (plain c.args.kind.now)) _ c.args.names.now c.loop-name._name-index c._name-item.result _ (search rules) (search rules)) (search rules))

pub returns : goal.returns
returns c = rw c.loop-name.invariant (gathered_end (one_variable (around c.args.around.now) (plain c.args.kind.now)) _ c.args.names.now c.loop-name._name-index _ (search rules))
