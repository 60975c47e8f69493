-- The index has the exporters of the entries so far.
use Rattle.std.proofs.Common.{take}
use Rattle.link_tables.specs.Gathered.{Gathers}
use Rattle.link_tables.proofs.offers.gathered.Given as goal

abbrev pub invariant-loop-entry : goal.invariant-loop-entry
invariant-loop-entry l = Gathers l.index (take l.entry-index l.entries)
