use Rattle.std.proofs.Common.{◌≡◌}
use Rattle.code_trees.specs.Plain.{point_of}
use Rattle.code_blocks.specs.Writing.{offset_of as offset_at}
use Rattle.code_writer.specs.Scopes.{env_at}
use Rattle.code_writer.proofs.scope.offset_of.Given as goal

abbrev pub invariant-outward : goal.invariant-outward
invariant-outward l = offset_at ((env_at l.scopes l.at).points (point_of l.point)) ≡ offset_at ((env_at l.scopes l.number).points (point_of l.point))

abbrev pub decreases-outward : goal.decreases-outward
decreases-outward l = l.at
