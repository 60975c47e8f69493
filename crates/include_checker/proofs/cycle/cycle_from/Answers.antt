use Rattle.std.proofs.Common.{sym, ◌∙◌}
use Rattle.std.proofs.lemmas.Result.{IfOk-weaker}
use Rattle.include_rules.specs.Order.{IsCycle}
use Rattle.include_checker.specs.Ways.{Ends}
use Rattle.include_checker.proofs.Walking.{begun, gone_on, next_is_left, fewer_to_walk, closes}
use Rattle.include_checker.proofs.cycle.cycle_from.Goals as goal

pub steps-init : goal.steps-init
steps-init c = begun c.args.names.now c.args.taken.now c.in_ok-way.way c.args.first c.onward-next.result c.requires.first c.in_ok-way.ensures c.onward-next.ensures

pub onward-next-requires-in-steps-clause-left : goal.onward-next-requires-in-steps-clause-left
onward-next-requires-in-steps-clause-left c = next_is_left c.args.names.now c.args.taken.now c.steps.way c.steps.next c.steps.invariant

pub steps-smaller : goal.steps-smaller
steps-smaller c =
    fewer_to_walk c.args.names.now c.args.taken.now c.steps.way c.as_slice.result.now c.push.new.self c.steps.next c.requires.graph c.as_slice.ensures (sym c.is_left.ensures ∙ c.steps-test.true)
    c.in_ok-push.ensures.ok c.steps.invariant

pub steps-preserved : goal.steps-preserved
steps-preserved c =
    gone_on c.args.names.now c.args.taken.now c.steps.way c.as_slice.result.now c.push.new.self c.steps.next c.onward-next-in-steps.result c.as_slice.ensures
    (sym c.is_left.ensures ∙ c.steps-test.true) c.in_ok-push.ensures.ok c.onward-next-in-steps.ensures c.steps.invariant

pub returns : goal.returns
returns c =
    let names = c.args.names.now in
    IfOk-weaker c.way_from.result (Ends c.as_slice-2.result.now c.steps.next) (IsCycle names)
    (λ cycle e. closes names c.args.taken.now c.steps.way c.as_slice-2.result.now cycle c.steps.next c.requires.stuck c.as_slice-2.ensures c.steps.invariant e) c.way_from.ensures
