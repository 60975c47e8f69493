-- A stack with room for the places up to one has room for those up to a lower one.
use Rattle.std.proofs.Common.{ℕ, ◌≤◌, refl, arith}
use Rattle.machine_activations.specs.declared.stack.Stack.{Stack}
use Rattle.machine_activations.specs.Stacks.{HasRoom}
use Rattle.machine_activations.proofs.Grown.{ample_below}

pub room_lower : (s : Stack) (top q : ℕ) → q ≤ top → HasRoom s top → HasRoom s q
room_lower s top q low room = record {
  ample = ample_below s.layout s.region.items s.region.items s.rows.items s.rows.items top q low (omega arith) refl room.ample;
  reserved = room.reserved;
}
