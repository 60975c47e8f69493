use Rattle.std.proofs.Common.{◌≡◌, drop}
use Rattle.std.specs.List.{list_any}
use Rattle.signaller.specs.Search.{is_unwind}
use Rattle.signaller.proofs.outward.any_unwind.Given as goal

abbrev pub invariant-loop-i : goal.invariant-loop-i
invariant-loop-i l = list_any is_unwind (drop l.i l.labels) ≡ list_any is_unwind l.labels
