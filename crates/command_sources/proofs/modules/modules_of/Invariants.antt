-- The modules of the components so far, in order.
use Rattle.std.proofs.Common.{map, take}
use Rattle.mesa_types.specs.Plain.{plain}
use Rattle.command_passes.specs.command_rules.specs.Configurations.{component_in}
use Rattle.command_passes.specs.command_rules.specs.Passes.{each}
use Rattle.command_passes.specs.command_rules.specs.Passing.{Gives}
use Rattle.command_passes.specs.command_rules.specs.Worlds.{shelf}
use Rattle.command_sources.proofs.modules.modules_of.Given as goal

abbrev pub invariant-loop-component : goal.invariant-loop-component
invariant-loop-component g l =
    Gives (each component_in (take l.component-index l.components))
    (shelf (g.F.Folder.files l.initial.folder) (g.F.Folder.calls l.initial.folder) (g.F.Folder.faults l.initial.folder) (g.F.Folder.misses l.initial.folder))
    (shelf (g.F.Folder.files l.folder) (g.F.Folder.calls l.folder) (g.F.Folder.faults l.folder) (g.F.Folder.misses l.folder))
    (map plain l.modules)
