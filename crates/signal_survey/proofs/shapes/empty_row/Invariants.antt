use Rattle.signal_survey.specs.Shapes.{IsEmptyRow}
use Rattle.signal_survey.proofs.shapes.empty_row.Given as goal

abbrev pub invariant-loop-cell : goal.invariant-loop-cell
invariant-loop-cell l = IsEmptyRow l.cell l.row.items
