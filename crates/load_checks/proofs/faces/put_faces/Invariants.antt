-- What is put so far, and then the rest, is all.
use Rattle.std.proofs.Common.{◌≡◌, ◌++◌, drop}
use Rattle.load_checks.specs.Faces.{faces_at, faces_shown}
use Rattle.load_checks.proofs.faces.put_faces.Given as goal

abbrev pub invariant-loop-number : goal.invariant-loop-number
invariant-loop-number l =
    faces_shown l.faces.items ++ faces_at l.import.face (drop l.number-index l.number-items) ≡ faces_shown l.initial.faces.items ++ faces_at l.import.face l.number-items
