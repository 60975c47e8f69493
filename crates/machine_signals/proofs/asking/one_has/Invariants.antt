use Rattle.std.proofs.Common.{◌≡◌, drop}
use Rattle.std.specs.List.{list_any}
use Rattle.signaller.specs.Search.{has}
use Rattle.machine_signals.proofs.asking.one_has.Given as goal

abbrev pub invariant-loop-i : goal.invariant-loop-i
invariant-loop-i l = list_any (λ a. has a l.offset) (drop l.i l.arms) ≡ list_any (λ a. has a l.offset) l.arms
