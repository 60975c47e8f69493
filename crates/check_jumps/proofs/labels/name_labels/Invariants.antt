use Rattle.std.proofs.Common.{◌≡◌, ◌+◌, drop}
use Rattle.check_scopes.specs.Shows.{means}
use Rattle.check_rules.specs.Around.{label_scope}
use Rattle.check_state.specs.Views.{seen, seen_as}
use Rattle.check_jumps.proofs.labels.name_labels.Given as goal

abbrev pub invariant-loop-name : goal.invariant-loop-name
invariant-loop-name l = record {
  number : l.number ≡ l.first + l.name-index;
  scope : label_scope l.names l.first l.arms (seen_as seen (means l.fn.scope)) ≡ label_scope (drop l.name-index l.names) l.number l.arms (seen_as seen (means l.scope));
}
