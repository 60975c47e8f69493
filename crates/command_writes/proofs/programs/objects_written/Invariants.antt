-- The files of the objects so far hold them, and no count of faults fell.
use Rattle.std.proofs.Common.{length}
use Rattle.command_passes.specs.command_rules.specs.Worlds.{shelf}
use Rattle.command_writes.proofs.Behind.{FaultsStay}
use Rattle.command_writes.proofs.Turns.{HasStored}
use Rattle.command_writes.proofs.programs.objects_written.Given as goal

abbrev pub invariant-objects : goal.invariant-objects
invariant-objects g l =
    let before = shelf (g.F.Folder.files l.initial.folder) (g.F.Folder.calls l.initial.folder) (g.F.Folder.faults l.initial.folder) (g.F.Folder.misses l.initial.folder) in
    let now = shelf (g.F.Folder.files l.folder) (g.F.Folder.calls l.folder) (g.F.Folder.faults l.folder) (g.F.Folder.misses l.folder) in
    HasStored l.bases l.objects (length l.yielded) before now × FaultsStay before now
