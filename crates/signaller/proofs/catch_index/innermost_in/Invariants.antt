use Rattle.std.proofs.Common.{◌-◌, ◌<◌, ◌≤◌, length}
use Rattle.signaller.proofs.Halving.{Halved, start_at}
use Rattle.signaller.proofs.catch_index.innermost_in.Given as goal

abbrev pub invariant-halving : goal.invariant-halving
invariant-halving g l = record {
  order : l.low ≤ l.high;
  within : l.high ≤ length l.segments;
  counted : l.fn.steps ≤ l.steps;
  halved : Halved (length l.segments) (l.high - l.low) (l.steps - l.fn.steps);
  lower : 0 < l.low → start_at l.segments (l.low - 1) ≤ l.at;
  upper : l.high < length l.segments → l.at < start_at l.segments l.high;
}

abbrev pub decreases-halving : goal.decreases-halving
decreases-halving g l = l.high - l.low
