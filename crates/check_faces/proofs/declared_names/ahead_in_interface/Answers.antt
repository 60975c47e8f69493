use Rattle.std.proofs.Common.{rules, sym, ap, map}
use Rattle.syntax_trees.specs.PlainSyntax.{definition}
use Rattle.check_scopes.specs.Scopes.{over}
use Rattle.check_rules.specs.Definitions.{ahead}
use Rattle.check_state.specs.Views.{names}
use Rattle.check_directory.proofs.EntryLaws.{no_names}
use Rattle.check_faces.proofs.AheadLaws as laws
use Rattle.check_faces.proofs.declared_names.ahead_in_interface.Goals as goal

pub loop-definition-init : goal.loop-definition-init
loop-definition-init c = ap (λ s. over s (ahead (map definition c.args.definitions.now))) (sym (no_names c.new-names.result (search rules)))

pub loop-definition-preserved : goal.loop-definition-preserved
loop-definition-preserved c = rw c.loop-definition.invariant (rw (laws.defined_at (names c.loop-definition.names) c.loop-definition.definition-index c.args.definitions.now c.definition-item.result (search rules) (search rules)) (search rules))

pub returns : goal.returns
returns c = rw c.loop-definition.invariant (rw (laws.defined_out (names c.loop-definition.names) c.loop-definition.definition-index c.args.definitions.now (search rules)) (search rules))
