use Rattle.std.proofs.Common.{◌≡◌, ◌++◌, map, take}
use Rattle.image_loader.specs.Standing.{started_by}
use Rattle.image_loader.proofs.shifting.put_started.Given as goal

abbrev pub invariant-loop-number : goal.invariant-loop-number
invariant-loop-number l = l.all ≡ l.initial.all ++ map (started_by l.standing) (take l.number-index l.started)
