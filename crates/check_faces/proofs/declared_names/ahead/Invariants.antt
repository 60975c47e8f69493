use Rattle.std.proofs.Common.{◌≡◌, drop, map}
use Rattle.syntax_trees.specs.PlainSyntax.{declaration}
use Rattle.check_scopes.specs.Scopes.{over}
use Rattle.check_rules.specs.Programs.{ahead}
use Rattle.check_state.specs.Views.{names}
use Rattle.check_faces.proofs.declared_names.ahead.Given as goal

abbrev pub invariant-loop-declaration : goal.invariant-loop-declaration
invariant-loop-declaration l = ahead (map declaration l.declarations) ≡ over (names l.names) (ahead (map declaration (drop l.declaration-index l.declarations)))
