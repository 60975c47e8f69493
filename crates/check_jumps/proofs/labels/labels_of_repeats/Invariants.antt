use Rattle.std.proofs.Common.{◌≡◌, ◌+◌, drop, length}
use Rattle.syntax_trees.specs.PlainSyntax.{repeats}
use Rattle.check_scopes.specs.Scopes.{nothing}
use Rattle.check_scopes.specs.Shows.{means}
use Rattle.check_rules.specs.Around.{label_scope}
use Rattle.check_rules.specs.Statements.{labels_of_repeats}
use Rattle.check_state.specs.Views.{seen, seen_as}
use Rattle.check_jumps.proofs.labels.labels_of_repeats.Given as goal

abbrev pub invariant-loop-repeat : goal.invariant-loop-repeat
invariant-loop-repeat l = record {
  number : l.around.labelled + length (labels_of_repeats (repeats l.repeats)) ≡ l.labelled + length (labels_of_repeats (repeats (drop l.repeat-index l.repeats)));
  scope : label_scope (labels_of_repeats (repeats l.repeats)) l.around.labelled l.around.arms nothing
      ≡ label_scope (labels_of_repeats (repeats (drop l.repeat-index l.repeats))) l.labelled l.around.arms (seen_as seen (means l.names));
}
