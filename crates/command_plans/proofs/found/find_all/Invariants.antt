-- What was found of the texts so far.
use Rattle.std.proofs.Common.{take}
use Rattle.command_passes.specs.command_rules.specs.Worlds.{shelf}
use Rattle.command_plans.specs.Finding.{AreFound}
use Rattle.command_plans.proofs.found.find_all.Given as goal

abbrev pub invariant-loop-number : goal.invariant-loop-number
invariant-loop-number g l =
    AreFound (take l.number l.texts)
    (shelf (g.F.Folder.files l.initial.folder) (g.F.Folder.calls l.initial.folder) (g.F.Folder.faults l.initial.folder) (g.F.Folder.misses l.initial.folder))
    (shelf (g.F.Folder.files l.folder) (g.F.Folder.calls l.folder) (g.F.Folder.faults l.folder) (g.F.Folder.misses l.folder))
    l.found
