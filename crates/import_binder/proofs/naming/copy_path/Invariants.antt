use Rattle.std.proofs.Common.{◌≡◌, take}
use Rattle.import_binder.proofs.naming.copy_path.Given as goal

abbrev pub invariant-loop-name : goal.invariant-loop-name
invariant-loop-name l = l.copy ≡ take l.name-index l.name-items
