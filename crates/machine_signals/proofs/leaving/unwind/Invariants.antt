use Rattle.std.proofs.Common.{ℕ, ◌≤◌, List}
use Rattle.machine_rules.specs.State.{Stepped, Store}
use Rattle.machine_activations.specs.Frames.{row_at}
use Rattle.machine_signals.specs.Indexed.{AskedOf}
use Rattle.machine_signals.specs.Leaving.{Leaving}
use Rattle.machine_signals.proofs.leaving.unwind.Given as goal

abbrev pub invariant-leaving : goal.invariant-leaving
invariant-leaving l = record {
  lower : l.place ≤ l.top;
  above : l.target.place ≤ l.place;
  asks : AskedOf l.image (row_at l.stack.rows.items l.place) l.search;
  leaves : (region : List ℕ) (s : Stepped) (m : Store) → Leaving l.image l.stack.layout region l.stack.rows.items l.top l.target l.fn.first s m
      → Leaving l.image l.stack.layout region l.stack.rows.items l.place l.target l.search s m;
}

abbrev pub decreases-leaving : goal.decreases-leaving
decreases-leaving l = l.place
