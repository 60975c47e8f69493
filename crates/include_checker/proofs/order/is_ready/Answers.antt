use Rattle.std.proofs.Common.{sym, ◌∙◌}
use Rattle.include_checker.proofs.Taking.{ready_where, not_ready}
use Rattle.include_checker.proofs.order.is_ready.Goals as goal

pub returns-then-is_left : goal.returns-then-is_left
returns-then-is_left c =
    ready_where c.args.names.now c.args.taken.now c.args.text c.first_left.result c.is_none.result c.requires (sym c.is_left.ensures ∙ c.if-is_left.true) c.first_left.ensures c.is_none.ensures

pub returns-else-is_left : goal.returns-else-is_left
returns-else-is_left c = not_ready c.args.names.now c.args.taken.now c.args.text c.is_left.result c.is_left.ensures c.if-is_left.false
