use Rattle.std.proofs.Common.{true, map, take}
use Rattle.config_tree.specs.Noted.{Noted}
use Rattle.config_tree.proofs.differing.imports_agree.Given as goal

abbrev pub invariant-loop-import : goal.invariant-loop-import
invariant-loop-import l = Noted l.initial.seen.entries (map (λ m. m.face) (take l.import-index l.imports)) l.seen.entries true
