use Rattle.std.proofs.Common.{ℕ, ◌≤◌, ◌<◌, List, length}
use Rattle.machine_rules.specs.State.{Activations, Goes, Seeks, Store}
use Rattle.machine_activations.specs.Below.{Below, Over}
use Rattle.machine_activations.specs.Frames.{row_at}
use Rattle.machine_activations.specs.Reaching.{Reaches}
use Rattle.machine_signals.specs.Indexed.{AskedOf}
use Rattle.machine_signals.proofs.seeking.seek.Given as goal

abbrev pub invariant-seeking : goal.invariant-seeking
invariant-seeking l = record {
  lower : l.place ≤ l.from;
  asks : AskedOf l.image (row_at l.stack.rows.items l.place) l.search;
  reaches : (region : List ℕ) (x : Over) (S : Activations) (args : List ℕ) (m : Store) → Below l.image l.stack.layout region l.stack.rows.items x S → l.from < length S
      → Reaches l.image (Goes (Seeks l.signal args l.from l.fn.first S m)) (Goes (Seeks l.signal args l.place l.search S m));
}

abbrev pub decreases-seeking : goal.decreases-seeking
decreases-seeking l = l.place
