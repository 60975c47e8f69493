use Rattle.std.proofs.Common.{◌≡◌, ◌+◌, drop, length}
use Rattle.syntax_trees.specs.PlainSyntax.{exits}
use Rattle.check_scopes.specs.Scopes.{nothing}
use Rattle.check_scopes.specs.Shows.{means}
use Rattle.check_rules.specs.Around.{label_scope}
use Rattle.check_rules.specs.Statements.{labels_of_exits}
use Rattle.check_state.specs.Views.{seen, seen_as}
use Rattle.check_jumps.proofs.labels.labels_of_exits.Given as goal

abbrev pub invariant-loop-exit : goal.invariant-loop-exit
invariant-loop-exit l = record {
  number : l.around.labelled + length (labels_of_exits (exits l.exits)) ≡ l.labelled + length (labels_of_exits (exits (drop l.exit-index l.exits)));
  scope : label_scope (labels_of_exits (exits l.exits)) l.around.labelled l.around.arms nothing
      ≡ label_scope (labels_of_exits (exits (drop l.exit-index l.exits))) l.labelled l.around.arms (seen_as seen (means l.names));
}
