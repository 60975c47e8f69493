use Rattle.std.proofs.Common.{◌≡◌, drop, map}
use Rattle.syntax_trees.specs.PlainSyntax as plain
use Rattle.check_state.specs.Views.{around, state}
use Rattle.check_programs.specs.Turns.{values_by}
use Rattle.check_programs.specs.Views as view
use Rattle.check_programs.proofs.ValueLaws.{rest}
use Rattle.check_programs.proofs.values.values_of.Given as goal

abbrev pub invariant-loop-one : goal.invariant-loop-one
invariant-loop-one l =
    values_by (around l.around) (map plain.declaration l.declarations) (map view.stated l.fn.heads.items) (state l.fn.state)
    ≡ rest (view.values l.done) (around l.around) (map plain.declaration (drop l.one-index l.declarations)) (map view.stated l.heads.items) (state l.state)
