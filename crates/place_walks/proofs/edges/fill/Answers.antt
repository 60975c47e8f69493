use Rattle.place_walks.proofs.Cells.{fill_more, same_more, fill_none, same_cells}
use Rattle.place_walks.proofs.edges.fill.Goals as goal

pub loop-edge-init : goal.loop-edge-init
loop-edge-init c = record { holds = fill_none c.args.table.now c.requires; cells = same_cells c.args.table.now }

pub loop-edge-preserved : goal.loop-edge-preserved
loop-edge-preserved c = record {
  holds = fill_more c.loop-edge.table c.push.new.self c.args.edges.now c.loop-edge.edge-index _ c.loop-edge-test.true c.in_ok-push.ensures c.loop-edge.invariant.holds;
  cells = same_more c.args.table.now c.loop-edge.table c.push.new.self _ _ _ c.in_ok-push.ensures c.loop-edge.invariant.cells;
}
