use Rattle.std.proofs.Common.{◌≡◌, ◌-◌, length, true}
use Rattle.signaller.specs.Search.{around, first_of}
use Rattle.machine_signals.proofs.asking.first_around.Given as goal

abbrev pub invariant-loop-back : goal.invariant-loop-back
invariant-loop-back l = first_of (around true l.table (length l.table - l.back) l.about) ≡ first_of (around true l.table (length l.table) l.offset)
