use Rattle.std.proofs.Common.{ap, drop, length, arith}
use Rattle.code_trees.proofs.LinkRanks.{as_many_ranks, rank_left, rank_put}
use Rattle.code_trees.proofs.linking.ranks.Goals as goal

pub set-requires : goal.set-requires
set-requires c =
    omega (arith, c.if-item-items.true, ap length c.loop-at.invariant, as_many_ranks c.loop-at.at 0 c.args.items (drop c.loop-at.at c.args.used.now))

pub loop-at-preserved-then-item-items : goal.loop-at-preserved-then-item-items
loop-at-preserved-then-item-items c =
    rank_put c.args.used.now c.args.items c.loop-at.at (omega (arith, c.loop-at-test.true)) (omega (arith, c.loop-at.auto.at)) c.loop-at.ranks c.set.new.self
    c.loop-at.invariant (omega (arith, c.if-item-items.true)) c.set.ensures

pub loop-at-preserved : goal.loop-at-preserved
loop-at-preserved c =
    rank_left c.args.used.now c.args.items c.loop-at.at (omega (arith, c.loop-at-test.true)) (omega (arith, c.loop-at.auto.at)) c.loop-at.ranks
    c.loop-at.invariant (λ h. omega (arith, c.if-item-items.false, h))
