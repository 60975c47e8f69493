use Rattle.std.proofs.Common.{rules, sym, ◌∙◌}
use Rattle.check_simple_statements.proofs.HoldingLaws.{keyed_at, keyed_out}
use Rattle.check_simple_statements.proofs.holding.keyed_hold.Goals as goal

pub loop-one-preserved : goal.loop-one-preserved
loop-one-preserved c = rw c.loop-one.invariant (rw (keyed_at c.args.all.now c.loop-one.one-index c.one-item.result (search rules) (search rules)) (search rules))

pub returns : goal.returns
returns c = sym (c.loop-one.invariant ∙ keyed_out c.args.all.now c.loop-one.one-index (search rules))

pub returns-then-left_holds : goal.returns-then-left_holds
returns-then-left_holds c = rw c.loop-one.invariant (rw (keyed_at c.args.all.now c.loop-one.one-index c.one-item.result (search rules) (search rules)) (search rules))
