-- The bases of the components so far.
use Rattle.std.proofs.Common.{◌≡◌, map, take}
use Rattle.config_rules.specs.declared.tree.Component.{Component}
use Rattle.command_sources.proofs.bases.bases_of.Given as goal

abbrev pub invariant-loop-component : goal.invariant-loop-component
invariant-loop-component l = l.bases ≡ map (λ (x : Component). x.file) (take l.component-index l.components)
