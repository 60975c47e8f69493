use Rattle.std.proofs.Common.{◌≡◌, take}
use Rattle.link_tables.proofs.modules.copy_path.Given as goal

abbrev pub invariant-loop-name : goal.invariant-loop-name
invariant-loop-name l = l.copy ≡ take l.name-index l.name-items
