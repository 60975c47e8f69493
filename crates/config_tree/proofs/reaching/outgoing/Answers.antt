use Rattle.std.proofs.Common.{◌≡◌, arith}
use Rattle.config_tree.proofs.Outlets.{more_put, all_put, next_instance, no_instance}
use Rattle.config_tree.proofs.reaching.outgoing.Goals as goal

pub loop-number-preserved : goal.loop-number-preserved
loop-number-preserved c =
    more_put c.args.tree.now c.loop-number.entries c.put_instance.new.entries _ _ _ _ (next_instance c.loop-number.number c.args.tree.now.instances) c.in_ok-put_instance.ensures c.loop-number.invariant

pub returns : goal.returns
returns c =
    let end : c.in-Ok.count ≡ c.len.result = c.in-Ok.ensures.1 in
    all_put c.args.tree.now c.loop-number.entries _ _
    (no_instance c.loop-number.number c.args.tree.now.instances (omega (arith, c.loop-number-test.false, end, c.len.ensures))) c.loop-number.invariant
