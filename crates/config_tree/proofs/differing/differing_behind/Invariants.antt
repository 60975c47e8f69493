use Rattle.std.proofs.Common.{take}
use Rattle.config_rules.specs.Tree.{all_faces}
use Rattle.config_tree.specs.Noted.{Notes}
use Rattle.config_tree.proofs.differing.differing_behind.Given as goal

abbrev pub invariant-loop-n : goal.invariant-loop-n
invariant-loop-n l = Notes (all_faces (take l.n l.shapes)) l.seen.entries
