-- The numbers so far, and the next one.
use Rattle.std.proofs.Common.{◌≡◌, ℕ, ◌<◌, ◌≤◌, length, slice_index}
use Rattle.link_tables.specs.Modules.{marked_before}
use Rattle.link_tables.proofs.modules.numbers_of.Given as goal

abbrev pub invariant-loop-mark : goal.invariant-loop-mark
invariant-loop-mark l = record {
  length_is : length l.numbers.items ≡ l.mark-index;
  next : l.number ≡ marked_before l.marks l.mark-index;
  small : l.number ≤ l.mark-index;
  each : (c : ℕ) → c < l.mark-index → slice_index l.numbers.items c ≡ marked_before l.marks c;
}
