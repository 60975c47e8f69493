-- Where there is such a row it is the one that changes; where there is none the rows stay.
use Rattle.std.proofs.Common.{[], ◌∷◌, ◌++◌, ap, ◌∙◌}
use Rattle.place_walks.specs.Table.{cell, with_cell}
use Rattle.place_walks.specs.contracts.table.Table.{the_view}
use denote.Param.{param}
use Rattle.place_walks.proofs.Tables.{put_row, no_row}
use Rattle.place_walks.proofs.table.Table.push.Goals as goal
use Rattle.place_walks.proofs.table.Table.push.Goals.{in-Some+in_ok-push_in, in_default}

pub returns : goal.returns
returns g c = elim c.match-get_mut.branch [
  | in-Some+in_ok-push_in w ↦ ap (the_view (param 0 g.row.T)) w.self-inside-is
      ∙ put_row (λ xs. xs ++ c.args.item ∷ []) c.self.inside.rows.items c.args.row c.args.column w.in-Some.cells.now w.push_in.new.row w.in-Some.ensures.value w.in_ok-push_in.ensures
      ∙ ap (λ t. with_cell t c.args.row c.args.column (cell t c.args.row c.args.column ++ c.args.item ∷ [])) c.self.view_is
  | in_default w ↦ ap (the_view (param 0 g.row.T)) w.self-inside-is
      ∙ no_row c.self.inside.rows.items c.args.row _ w.in_default.ensures.item.3
      ∙ ap (λ t. with_cell t c.args.row c.args.column (cell t c.args.row c.args.column ++ c.args.item ∷ [])) c.self.view_is
]
