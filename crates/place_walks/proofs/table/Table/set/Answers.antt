-- Where there is such a row it is the one that changes; where there is none the rows stay.
use Rattle.std.proofs.Common.{slice_set, ap, ◌∙◌}
use Rattle.place_walks.specs.Table.{cell, with_cell}
use Rattle.place_walks.specs.contracts.table.Table.{the_view}
use denote.Param.{param}
use Rattle.place_walks.proofs.Tables.{put_row, no_row}
use Rattle.place_walks.proofs.table.Table.set.Goals as goal
use Rattle.place_walks.proofs.table.Table.set.Goals.{in-Some, in_default}

pub returns : goal.returns
returns g c = elim c.match-get_mut.branch [
  | in-Some w ↦ ap (the_view (param 0 g.row.T)) w.self-inside-is
      ∙ put_row (λ xs. slice_set xs c.args.at c.args.item) c.self.inside.rows.items c.args.row c.args.column w.in-Some.cells.now w.set_in.new.row w.in-Some.ensures.value w.set_in.ensures
      ∙ ap (λ t. with_cell t c.args.row c.args.column (slice_set (cell t c.args.row c.args.column) c.args.at c.args.item)) c.self.view_is
  | in_default w ↦ ap (the_view (param 0 g.row.T)) w.self-inside-is
      ∙ no_row c.self.inside.rows.items c.args.row _ w.in_default.ensures.item.3
      ∙ ap (λ t. with_cell t c.args.row c.args.column (slice_set (cell t c.args.row c.args.column) c.args.at c.args.item)) c.self.view_is
]
