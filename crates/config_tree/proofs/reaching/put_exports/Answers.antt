use Rattle.std.proofs.Common.{◌≡◌, arith}
use Rattle.config_tree.proofs.Outlets.{more_put, all_put, next_outlet, no_outlet}
use Rattle.config_tree.proofs.reaching.put_exports.Goals as goal

pub loop-at-preserved : goal.loop-at-preserved
loop-at-preserved c =
    let x = c.args.instance.now in
    more_put c.args.tree.now c.loop-at.entries c.put_export.new.entries _ _ _ _ (next_outlet c.args.number x.scope c.loop-at.at x.exports x.shape.exports) c.in_ok-put_export.ensures c.loop-at.invariant

pub returns : goal.returns
returns c =
    let x = c.args.instance.now in
    let end : c.in-Ok.count ≡ c.len.result = c.in-Ok.ensures.1 in
    all_put c.args.tree.now c.loop-at.entries _ _
    (no_outlet c.args.number x.scope c.loop-at.at x.exports x.shape.exports (omega (arith, c.loop-at-test.false, end, c.len.ensures))) c.loop-at.invariant
