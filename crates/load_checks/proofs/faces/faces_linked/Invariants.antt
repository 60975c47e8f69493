-- What is put so far, and then the rest, is all.
use Rattle.std.proofs.Common.{◌≡◌, ◌++◌, drop, flat_map}
use Rattle.load_checks.specs.Faces.{faces_shown, faces_of}
use Rattle.load_checks.proofs.faces.faces_linked.Given as goal

abbrev pub invariant-loop-import : goal.invariant-loop-import
invariant-loop-import l = faces_shown l.faces.items ++ flat_map faces_of (drop l.import-index l.import-items) ≡ flat_map faces_of l.import-items
