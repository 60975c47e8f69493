-- The marks tell of the instances so far.
use Rattle.std.proofs.Common.{take}
use Rattle.link_tables.specs.Modules.{AreMarks}
use Rattle.link_tables.proofs.modules.marks_of.Given as goal

abbrev pub invariant-loop-instance : goal.invariant-loop-instance
invariant-loop-instance l = AreMarks (take l.instance-index l.instances) 0 l.many l.marks.items
