use Rattle.std.proofs.Common.{rules, sym, ◌∙◌}
use Rattle.check_simple_statements.proofs.HoldingLaws.{lefts_at, lefts_out}
use Rattle.check_simple_statements.proofs.holding.lefts_hold.Goals as goal

pub loop-left-preserved : goal.loop-left-preserved
loop-left-preserved c = rw c.loop-left.invariant (rw (lefts_at c.args.all.now c.loop-left.left-index c.left-item.result (search rules) (search rules)) (search rules))

pub returns : goal.returns
returns c = sym (c.loop-left.invariant ∙ lefts_out c.args.all.now c.loop-left.left-index (search rules))

pub returns-then-left_holds : goal.returns-then-left_holds
returns-then-left_holds c = rw c.loop-left.invariant (rw (lefts_at c.args.all.now c.loop-left.left-index c.left-item.result (search rules) (search rules)) (search rules))
