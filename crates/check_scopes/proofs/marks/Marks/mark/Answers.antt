-- Where there is such a row it is the one that changes; where there is none the rows stay.
use Rattle.std.proofs.Common.{ap, ◌∙◌}
use Rattle.check_scopes.specs.Marks.{with_mark}
use Rattle.check_scopes.specs.contracts.marks.Marks.{the_view}
use Rattle.check_scopes.proofs.Marking.{marked_row, no_row}
use Rattle.check_scopes.proofs.marks.Marks.mark.Goals as goal
use Rattle.check_scopes.proofs.marks.Marks.mark.Goals.{in-Some, in_default}

pub returns : goal.returns
returns c = elim c.match-get_mut.branch [
  | in-Some w ↦ ap the_view w.self-inside-is
      ∙ marked_row c.self.inside.rows.items c.args.import c.args.item w.in-Some.row.now w.set.new.row w.in-Some.ensures.value w.set.ensures
      ∙ ap (with_mark c.args.import c.args.item) c.self.view_is
  | in_default w ↦ ap the_view w.self-inside-is
      ∙ no_row c.self.inside.rows.items c.args.import _ w.in_default.ensures.item.3
      ∙ ap (with_mark c.args.import c.args.item) c.self.view_is
]
