use Rattle.std.proofs.Common.{◌≡◌, drop}
use Rattle.check_scopes.specs.Scopes.{over}
use Rattle.check_state.specs.Views.{meaning, names}
use Rattle.check_faces.specs.Ahead.{all}
use Rattle.check_faces.proofs.declared_names.also.Given as goal

abbrev pub invariant-loop-name : goal.invariant-loop-name
invariant-loop-name l =
    over (names l.fn.scope) (all (meaning l.meaning) l.names) ≡ over (names l.scope) (all (meaning l.meaning) (drop l.name-index l.names))
