use Rattle.std.proofs.Common.{◌≡◌, drop}
use Rattle.code_rules.specs.Points.{is_among}
use Rattle.code_writer.proofs.scope.has_label.Given as goal

abbrev pub invariant-loop-known : goal.invariant-loop-known
invariant-loop-known l = is_among l.label (drop l.known-index l.labels) ≡ is_among l.label l.labels
