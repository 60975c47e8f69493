use Rattle.std.proofs.Common.{rules, sym, ◌∙◌}
use Rattle.check_phrases.proofs.PhraseLoops.{keyed_at, keyed_out, of_bounds, steps_at, steps_out, suffixes_out, values_at, values_out, within_holds}
use Rattle.check_phrases.proofs.holding.+phrases.Goals as goal

pub holds-returns-else-holds-3 : goal.holds-returns-else-holds-3
holds-returns-else-holds-3 t c = rw c.in-Within.is (rw within_holds (search rules))

pub interval_holds-returns-then-holds : goal.interval_holds-returns-then-holds
interval_holds-returns-then-holds t c = rw (of_bounds c.args.interval.now) (search rules)

pub interval_holds-returns-else-holds : goal.interval_holds-returns-else-holds
interval_holds-returns-else-holds t c = rw (of_bounds c.args.interval.now) (search rules)

pub operations_hold-returns-then-holds : goal.operations_hold-returns-then-holds
operations_hold-returns-then-holds t c =
    rw c.loop-step.invariant (rw (steps_at c.args.steps.now c.loop-step.step-index c.step-item.result (search rules) (search rules)) (search rules))

pub operations_hold-loop-step-preserved : goal.operations_hold-loop-step-preserved
operations_hold-loop-step-preserved t c =
    rw c.loop-step.invariant (rw (steps_at c.args.steps.now c.loop-step.step-index c.step-item.result (search rules) (search rules)) (search rules))

pub operations_hold-returns : goal.operations_hold-returns
operations_hold-returns t c = sym (c.loop-step.invariant ∙ steps_out c.args.steps.now c.loop-step.step-index (search rules))

pub suffixes_hold-returns : goal.suffixes_hold-returns
suffixes_hold-returns t c = sym (c.loop-suffix.invariant ∙ suffixes_out c.args.suffixes.now c.loop-suffix.suffix-index (search rules))

pub values_hold-returns-then-holds : goal.values_hold-returns-then-holds
values_hold-returns-then-holds t c =
    rw c.loop-value.invariant (rw (values_at c.args.values.now c.loop-value.value-index c.value-item.result (search rules) (search rules)) (search rules))

pub values_hold-loop-value-preserved : goal.values_hold-loop-value-preserved
values_hold-loop-value-preserved t c =
    rw c.loop-value.invariant (rw (values_at c.args.values.now c.loop-value.value-index c.value-item.result (search rules) (search rules)) (search rules))

pub values_hold-returns : goal.values_hold-returns
values_hold-returns t c = sym (c.loop-value.invariant ∙ values_out c.args.values.now c.loop-value.value-index (search rules))

pub keyed_hold-returns-then-holds : goal.keyed_hold-returns-then-holds
keyed_hold-returns-then-holds t c =
    rw c.loop-value.invariant (rw (keyed_at c.args.values.now c.loop-value.value-index c.value-item.result (search rules) (search rules)) (search rules))

pub keyed_hold-loop-value-preserved : goal.keyed_hold-loop-value-preserved
keyed_hold-loop-value-preserved t c =
    rw c.loop-value.invariant (rw (keyed_at c.args.values.now c.loop-value.value-index c.value-item.result (search rules) (search rules)) (search rules))

pub keyed_hold-returns : goal.keyed_hold-returns
keyed_hold-returns t c = sym (c.loop-value.invariant ∙ keyed_out c.args.values.now c.loop-value.value-index (search rules))
