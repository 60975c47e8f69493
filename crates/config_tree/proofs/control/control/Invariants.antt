use Rattle.std.proofs.Common.{◌≡◌, [], drop, flat_map}
use Rattle.mesa_base.specs.declared.identifier.Identifier.{Identifier}
use Rattle.config_tree.specs.Started.{AreStarted, added, started_at}
use Rattle.config_tree.proofs.control.control.Given as goal

abbrev pub invariant-loop-identifier : goal.invariant-loop-identifier
invariant-loop-identifier l =
    AreStarted l.starts l.done l.started.keys
    × (added l.started.keys (flat_map (λ (i : Identifier). started_at l.starts i.name) (drop l.identifier-index l.names)) ≡ added [] (flat_map (λ (i : Identifier). started_at l.starts i.name) l.names))
