use Rattle.std.proofs.Common.{◌≡◌, ◌+◌, drop}
use Rattle.std.specs.List.{position_or_len}
use Rattle.signaller.specs.Sought.{fits}
use Rattle.signaller.proofs.outward.first_fitting.Given as goal

abbrev pub invariant-loop-i : goal.invariant-loop-i
invariant-loop-i l = l.i + position_or_len (fits l.sought) (drop l.i l.arms) ≡ position_or_len (fits l.sought) l.arms
