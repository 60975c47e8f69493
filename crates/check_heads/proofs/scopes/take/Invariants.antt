use Rattle.std.proofs.Common.{◌≡◌, drop}
use Rattle.check_faces.specs.Ahead.{later}
use Rattle.check_scopes.specs.Scopes.{over}
use Rattle.check_state.specs.Views.{names}
use Rattle.check_heads.proofs.scopes.take.Given as goal

abbrev pub invariant-loop-name : goal.invariant-loop-name
invariant-loop-name l = over (names l.fn.scope) (later l.names) ≡ over (names l.scope) (later (drop l.name-index l.names))
