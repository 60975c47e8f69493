-- The objects of the components so far, in order.
use Rattle.std.proofs.Common.{All, take}
use Rattle.linked_objects.specs.Filed.{IsFiled}
use Rattle.command_passes.specs.command_rules.specs.Binding.{object_of}
use Rattle.command_passes.specs.command_rules.specs.Passes.{each}
use Rattle.command_passes.specs.command_rules.specs.Passing.{Gives}
use Rattle.command_passes.specs.command_rules.specs.Worlds.{shelf}
use Rattle.command_sources.specs.Objects.{parts_in}
use Rattle.command_sources.proofs.objects.put_objects.Given as goal

abbrev pub invariant-loop-component : goal.invariant-loop-component
invariant-loop-component g l =
    Gives (each object_of (take l.component-index l.components))
    (shelf (g.F.Folder.files l.initial.folder) (g.F.Folder.calls l.initial.folder) (g.F.Folder.faults l.initial.folder) (g.F.Folder.misses l.initial.folder))
    (shelf (g.F.Folder.files l.folder) (g.F.Folder.calls l.folder) (g.F.Folder.faults l.folder) (g.F.Folder.misses l.folder))
    (parts_in l.objects.items)
    × All IsFiled l.objects.items
