use Rattle.std.proofs.Common.{rules, sym, ◌∙◌}
use Rattle.check_simple_statements.proofs.HoldingLaws.{tests_at, tests_out}
use Rattle.check_simple_statements.proofs.holding.tests_hold.Goals as goal

pub loop-test-preserved : goal.loop-test-preserved
loop-test-preserved c = rw c.loop-test.invariant (rw (tests_at c.args.all.now c.loop-test.test-index c.test-item.result (search rules) (search rules)) (rw (c.test_holds.ensures _) (search rules)))

pub returns : goal.returns
returns c = sym (c.loop-test.invariant ∙ tests_out c.args.all.now c.loop-test.test-index (search rules))

pub returns-then-test_holds : goal.returns-then-test_holds
returns-then-test_holds c = rw c.loop-test.invariant (rw (tests_at c.args.all.now c.loop-test.test-index c.test-item.result (search rules) (search rules)) (rw (c.test_holds.ensures _) (search rules)))
