use Rattle.std.proofs.Common.{length}
use Rattle.signaller.specs.Sweep.{Sweeps}
use Rattle.signaller.proofs.sweep.close.Given as goal

abbrev pub invariant-closing : goal.invariant-closing
invariant-closing l = Sweeps l.table l.opened.items l.next l.at

abbrev pub decreases-closing : goal.decreases-closing
decreases-closing l = length l.opened.items
