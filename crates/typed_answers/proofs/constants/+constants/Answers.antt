use Rattle.std.proofs.Common.{rules}
use Rattle.typed_answers.proofs.ConstantLoops.{run_more, run_end, long_run_more, long_run_end, all_more, all_end, some_more, some_end}
use Rattle.typed_answers.proofs.constants.+constants.Goals as goal

pub constant_run-loop-step-preserved : goal.constant_run-loop-step-preserved
constant_run-loop-step-preserved n c = rw c.loop-step.invariant (rw (run_more c.args.rest.now c.loop-step.step-index _ c.step-item.result (search rules) (search rules)) (search rules))

pub constant_run-returns-in_err-word : goal.constant_run-returns-in_err-word
constant_run-returns-in_err-word n c = rw c.loop-step.invariant (rw (run_more c.args.rest.now c.loop-step.step-index _ c.step-item.result (search rules) (search rules)) (search rules))

pub constant_run-returns : goal.constant_run-returns
constant_run-returns n c = rw c.loop-step.invariant (rw (run_end c.args.rest.now c.loop-step.step-index _ (search rules)) (search rules))

pub constant_long_run-loop-step-preserved : goal.constant_long_run-loop-step-preserved
constant_long_run-loop-step-preserved n c = rw c.loop-step.invariant (rw (long_run_more c.args.rest.now c.loop-step.step-index _ c.step-item.result (search rules) (search rules)) (search rules))

pub constant_long_run-returns-in_err-number : goal.constant_long_run-returns-in_err-number
constant_long_run-returns-in_err-number n c = rw c.loop-step.invariant (rw (long_run_more c.args.rest.now c.loop-step.step-index _ c.step-item.result (search rules) (search rules)) (search rules))

pub constant_long_run-returns : goal.constant_long_run-returns
constant_long_run-returns n c = rw c.loop-step.invariant (rw (long_run_end c.args.rest.now c.loop-step.step-index _ (search rules)) (search rules))

pub all_true-loop-e-preserved : goal.all_true-loop-e-preserved
all_true-loop-e-preserved n c = rw c.loop-e.invariant (rw (all_more c.args.all.now c.loop-e.e-index c.loop-e.are_true c.e-item.result (search rules) (search rules)) (search rules))

pub all_true-returns-in_err-are_true : goal.all_true-returns-in_err-are_true
all_true-returns-in_err-are_true n c = rw c.loop-e.invariant (rw (all_more c.args.all.now c.loop-e.e-index c.loop-e.are_true c.e-item.result (search rules) (search rules)) (search rules))

pub all_true-returns : goal.all_true-returns
all_true-returns n c = rw c.loop-e.invariant (rw (all_end c.args.all.now c.loop-e.e-index c.loop-e.are_true (search rules)) (search rules))

pub some_true-loop-e-preserved : goal.some_true-loop-e-preserved
some_true-loop-e-preserved n c = rw c.loop-e.invariant (rw (some_more c.args.all.now c.loop-e.e-index c.loop-e.is_one_true c.e-item.result (search rules) (search rules)) (search rules))

pub some_true-returns-in_err-is_one_true : goal.some_true-returns-in_err-is_one_true
some_true-returns-in_err-is_one_true n c = rw c.loop-e.invariant (rw (some_more c.args.all.now c.loop-e.e-index c.loop-e.is_one_true c.e-item.result (search rules) (search rules)) (search rules))

pub some_true-returns : goal.some_true-returns
some_true-returns n c = rw c.loop-e.invariant (rw (some_end c.args.all.now c.loop-e.e-index c.loop-e.is_one_true (search rules)) (search rules))
