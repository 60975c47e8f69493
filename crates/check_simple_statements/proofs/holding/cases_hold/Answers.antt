use Rattle.std.proofs.Common.{rules, sym, ◌∙◌}
use Rattle.check_simple_statements.proofs.HoldingLaws.{cases_at, cases_out}
use Rattle.check_simple_statements.proofs.holding.cases_hold.Goals as goal

pub loop-case-preserved : goal.loop-case-preserved
loop-case-preserved c = rw c.loop-case.invariant (rw (cases_at c.args.all.now c.loop-case.case-index c.case-item.result (search rules) (search rules)) (search rules))

pub returns : goal.returns
returns c = sym (c.loop-case.invariant ∙ cases_out c.args.all.now c.loop-case.case-index (search rules))

pub returns-then-tests_hold : goal.returns-then-tests_hold
returns-then-tests_hold c = rw c.loop-case.invariant (rw (cases_at c.args.all.now c.loop-case.case-index c.case-item.result (search rules) (search rules)) (search rules))
