use Rattle.std.proofs.Common.{◌≡◌, drop, map}
use Rattle.check_rules.specs.Names.{each_means}
use Rattle.interface_records.specs.PlainTypes.{plain}
use Rattle.check_rules.specs.Statements.{meaning_of}
use Rattle.check_state.specs.Views.{state}
use Rattle.check_declared.proofs.variables.name_variables.Given as goal

abbrev pub invariant-loop-i : goal.invariant-loop-i
invariant-loop-i l =
    each_means l.names (map (meaning_of (plain l.kind)) l.homes) (state l.fn.state)
    ≡ each_means (drop l.i l.names) (map (meaning_of (plain l.kind)) (drop l.i l.homes)) (state l.state)
