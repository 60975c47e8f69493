use Rattle.std.proofs.Common.{◌≡◌, drop}
use Rattle.std.proofs.Math.Seq.{paste}
use Rattle.machine_topmost.proofs.region.copy.Given as goal

abbrev pub invariant-loop-i : goal.invariant-loop-i
invariant-loop-i l = l.region ≡ paste l.fn.region l.to (drop l.from l.fn.region) l.i
