use Rattle.signal_survey.proofs.Raisers.{raisers_held}
use Rattle.signal_survey.proofs.raising.raisers_of.Goals as goal

pub happenings-requires : goal.happenings-requires
happenings-requires c = record { order = c.requires.order; surveyed = c.requires.surveyed }

pub fill-requires : goal.fill-requires
fill-requires c = c.in_ok-table.ensures.shape.empty

pub returns : goal.returns
returns c =
    raisers_held c.raises_by_event.ensures c.args.image.now c.in_ok-list.list c.as_slice.result.now c.in_ok-edges.edges c.as_slice-2.result.now c.in_ok-table.table c.fill.new.table
    c.requires.order c.in_ok-table.ensures.valid c.as_slice.ensures c.as_slice-2.ensures c.in_ok-list.ensures c.in_ok-edges.ensures c.in_ok-table.ensures.shape
    c.in_ok-fill.ensures.holds c.in_ok-fill.ensures.cells
