use Rattle.std.proofs.Common.{◌-◌, length}
use Rattle.signaller.specs.Sweep.{Sweeps}
use Rattle.signaller.proofs.sweep.open_upto.Given as goal

abbrev pub invariant-opening : goal.invariant-opening
invariant-opening l = Sweeps l.table l.opened.items l.next l.at

abbrev pub decreases-opening : goal.decreases-opening
decreases-opening l = length l.table - l.next
