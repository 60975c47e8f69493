use Rattle.std.proofs.Common.{◌≡◌, drop}
use Rattle.interface_records.specs.PlainTypes.{plain}
use Rattle.check_rules.specs.Statements.{variables}
use Rattle.check_state.specs.Views.{around, state}
use Rattle.check_jumps.proofs.Gathering.{gathered, behind}
use Rattle.check_declared.proofs.VariableLoops.{one_variable}
use Rattle.check_declared.proofs.variables.variables.Given as goal

abbrev pub invariant-loop-name : goal.invariant-loop-name
invariant-loop-name l =
    variables (around l.around) (plain l.kind) l.names (state l.fn.state)
    ≡ behind l.homes (gathered (one_variable (around l.around) (plain l.kind)) (drop l._name-index l.names) (state l.state))
