use Rattle.std.proofs.Common.{◌≡◌, drop, map}
use Rattle.syntax_trees.specs.PlainSyntax.{definition}
use Rattle.check_scopes.specs.Scopes.{over}
use Rattle.check_rules.specs.Definitions.{ahead}
use Rattle.check_state.specs.Views.{names}
use Rattle.check_faces.proofs.declared_names.ahead_in_interface.Given as goal

abbrev pub invariant-loop-definition : goal.invariant-loop-definition
invariant-loop-definition l = ahead (map definition l.definitions) ≡ over (names l.names) (ahead (map definition (drop l.definition-index l.definitions)))
