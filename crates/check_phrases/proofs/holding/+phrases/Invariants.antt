use Rattle.std.proofs.Common.{◌≡◌, drop}
use Rattle.syntax_trees.specs.PlainSyntax.{exprs, keyed_exprs, operations, suffixes}
use Rattle.check_rules.specs.Phrases.{in_steps, in_suffixes, in_exprs, in_keyed}
use Rattle.check_phrases.proofs.holding.+phrases.Given as goal

abbrev pub invariant-operations_hold-loop-step : goal.invariant-operations_hold-loop-step
invariant-operations_hold-loop-step l = in_steps (operations l.steps) ≡ in_steps (operations (drop l.step-index l.steps))

abbrev pub invariant-suffixes_hold-loop-suffix : goal.invariant-suffixes_hold-loop-suffix
invariant-suffixes_hold-loop-suffix l = in_suffixes (suffixes l.suffixes) ≡ in_suffixes (suffixes (drop l.suffix-index l.suffixes))

abbrev pub invariant-values_hold-loop-value : goal.invariant-values_hold-loop-value
invariant-values_hold-loop-value l = in_exprs (exprs l.values) ≡ in_exprs (exprs (drop l.value-index l.values))

abbrev pub invariant-keyed_hold-loop-value : goal.invariant-keyed_hold-loop-value
invariant-keyed_hold-loop-value l = in_keyed (keyed_exprs l.values) ≡ in_keyed (keyed_exprs (drop l.value-index l.values))
