use Rattle.std.proofs.Common.{◌≡◌, drop}
use Rattle.std.specs.List.{list_any}
use Rattle.signaller.specs.Search.{label_fits}
use Rattle.signaller.proofs.outward.any_for_signal.Given as goal

abbrev pub invariant-loop-i : goal.invariant-loop-i
invariant-loop-i l = list_any (label_fits l.links l.signal) (drop l.i l.labels) ≡ list_any (label_fits l.links l.signal) l.labels
