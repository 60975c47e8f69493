use Rattle.std.proofs.Common.{◌≡◌}
use Rattle.code_blocks.specs.Writing.{end_at}
use Rattle.code_writer.specs.Scopes.{env_at}
use Rattle.code_writer.proofs.scope.end_of.Given as goal

abbrev pub invariant-outward : goal.invariant-outward
invariant-outward l = end_at (env_at l.scopes l.at).ends l.left ≡ end_at (env_at l.scopes l.number).ends l.part

abbrev pub decreases-outward : goal.decreases-outward
decreases-outward l = l.at
