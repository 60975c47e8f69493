use Rattle.std.proofs.Common.{true, map, take}
use Rattle.config_tree.specs.Noted.{Noted}
use Rattle.config_tree.proofs.differing.exports_agree.Given as goal

abbrev pub invariant-loop-export : goal.invariant-loop-export
invariant-loop-export l = Noted l.initial.seen.entries (map (λ x. x.face) (take l.export-index l.exports)) l.seen.entries true
