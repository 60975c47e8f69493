use Rattle.std.proofs.Common.{◌≡◌, drop}
use Rattle.interface_records.specs.PlainTypes.{plain}
use Rattle.check_rules.specs.TypeRules.{elements}
use Rattle.check_state.specs.Views.{around, state}
use Rattle.check_types.proofs.elements.few_elements.Given as goal

abbrev pub invariant-loop-i : goal.invariant-loop-i
invariant-loop-i l = elements (around l.around) (plain l.kind) 0 l.names (state l.fn.state) ≡ elements (around l.around) (plain l.kind) l.i (drop l.i l.names) (state l.state)
