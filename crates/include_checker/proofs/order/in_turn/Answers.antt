use Rattle.include_checker.proofs.Taking.{nothing_taken, one_taken, fewer_to_take}
use Rattle.include_checker.proofs.order.in_turn.Goals as goal

pub turns-init : goal.turns-init
turns-init c = nothing_taken c.args.names.now c.new-taken.result c.new-taken.ensures

pub turns-smaller : goal.turns-smaller
turns-smaller c =
    fewer_to_take c.args.names.now c.turns.taken c.as_slice.result.now c.push.new.self c.in-Some.text c.as_slice.ensures c.in_ok-push.ensures.ok c.in-Some.ensures

pub turns-preserved : goal.turns-preserved
turns-preserved c =
    one_taken c.args.names.now c.turns.taken c.as_slice.result.now c.push.new.self c.in-Some.text c.as_slice.ensures c.in_ok-push.ensures.ok c.in-Some.ensures c.turns.invariant
