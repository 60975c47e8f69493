use Rattle.std.proofs.Common.{◌≡◌, ◌-◌}
use Rattle.machine_signals.specs.Jumping.{place_in}
use Rattle.machine_signals.proofs.jumping.place_for.Given as goal

abbrev pub invariant-loop-back : goal.invariant-loop-back
invariant-loop-back l = place_in l.image l.stack.rows.items (l.count - l.back) l.owner l.offset ≡ place_in l.image l.stack.rows.items l.count l.owner l.offset
