use Rattle.std.proofs.Common.{ℕ, ◌+◌, ◌<◌, ◌≤◌, length, get_or}
use Rattle.signaller.specs.Sweep.{IsSwept, HasStart}
use Rattle.signaller.proofs.sweep.segments_of.Given as goal

abbrev pub invariant-loop-i : goal.invariant-loop-i
invariant-loop-i l =
    IsSwept l.table l.sweep × ((j : ℕ) → j < l.i → HasStart l.sweep.segments.items (get_or l.edges.items j 0))
    × ((j : ℕ) → l.i ≤ j → j < length l.edges.items → l.sweep.at ≤ get_or l.edges.items j 0)
    × (length l.sweep.segments.items ≤ l.i + 1)
