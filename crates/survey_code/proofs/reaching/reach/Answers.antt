use Rattle.std.proofs.Common.{◌≡◌, ◌<◌, length, false, ◌∙◌, arith, rules}
use Rattle.std.proofs.Math.ListN.{replicate}
use Rattle.std.proofs.lemmas.Grind.{get_or_default_zero}
use Rattle.survey_code.proofs.Closing.{are_reached}
use Rattle.survey_code.proofs.Rows.{done_more}
use Rattle.survey_code.proofs.Starting.{begun}
use Rattle.survey_code.proofs.reaching.reach.Goals as goal

pub working-init : goal.working-init
working-init c =
    let none : c.in_ok-marks.marks.items ≡ replicate c.len.result false = search rules in
    begun c.args.graph.now c.len.result c.in_ok-marks.marks.items c.new-queue.result.items c.mark.new.marks.items c.mark.new.queue.items c.requires c.len.ensures none c.new-queue.ensures.items c.in_ok-mark.ensures

pub working-preserved : goal.working-preserved
working-preserved c =
    let w = c.working.invariant in
    let l : c.working.done < length c.working.queue.items = (let t = c.working-test.true in let e = c.len-in-working.ensures in omega (arith, t, e)) in
    let more = c.in_ok-mark_each.ensures.more in (
      c.in_ok-mark_each.ensures.reaches,
      done_more c.args.graph.now c.working.marks.items c.working.queue.items c.mark_each.new.marks.items c.mark_each.new.queue.items c.working.done c.index-node.result.now l
          (c.index-node.ensures ∙ get_or_default_zero c.working.queue.items c.working.done c.index-node.result.now l) w.1 more c.in_ok-mark_each.ensures.row,
      more.stay 0 w.2,
    )

pub returns : goal.returns
returns c =
    let w = c.working.invariant in
    are_reached c.args.graph.now c.working.marks.items c.working.queue.items c.working.done w.0 w.1 (let t = c.working-test.false in let e = c.len-in-working.ensures in omega (arith, t, e)) w.2
