-- What is done so far, and then the rest, is all.
use Rattle.std.proofs.Common.{◌≡◌, drop}
use Rattle.load_checks.specs.Choosing.{choices_shown}
use Rattle.load_checks.specs.Faces.{all_lowered, faces_shown}
use Rattle.load_checks.proofs.faces.lowered_by.Given as goal

abbrev pub invariant-loop-at : goal.invariant-loop-at
invariant-loop-at l =
    all_lowered (choices_shown l.chosen) l.least (drop l.at (faces_shown l.faces)) (drop l.at l.table) ≡ all_lowered (choices_shown l.chosen) l.initial.least (faces_shown l.faces) l.table
