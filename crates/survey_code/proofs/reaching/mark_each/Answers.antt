use Rattle.std.proofs.Common.{sym, ap, ◌∙◌}
use Rattle.std.specs.Option.{option_copied}
use Rattle.survey_code.proofs.Rows.{row_inside, one_more}
use Rattle.survey_code.proofs.reaching.mark_each.Goals as goal

pub mark-requires : goal.mark-requires
mark-requires c =
    row_inside c.args.graph.now c.args.node c.in-Some.row.now c.as_slice-next-items.result.now c.loop-next.next-index c.loop-next.marks.items c.loop-next.queue.items c.requires.graph
    (sym c.get.ensures ∙ ap option_copied c.in-Some.is) c.as_slice-next-items.ensures c.loop-next-test.true c.loop-next.invariant.0

pub loop-next-preserved : goal.loop-next-preserved
loop-next-preserved c =
    one_more c.args.graph.now c.args.node c.in-Some.row.now c.as_slice-next-items.result.now c.loop-next.next-index c.args.marks.now.items c.args.queue.now.items c.loop-next.marks.items
    c.loop-next.queue.items c.mark.new.marks.items c.mark.new.queue.items c.requires.graph c.requires.reaches c.requires.marked
    (sym c.get.ensures ∙ ap option_copied c.in-Some.is) c.as_slice-next-items.ensures c.loop-next-test.true c.loop-next.invariant c.in_ok-mark.ensures
