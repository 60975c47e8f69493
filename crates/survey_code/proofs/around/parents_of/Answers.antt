use Rattle.std.proofs.Common.{get_or, sym, subst}
use Rattle.survey_code.specs.Around.{AreOver}
use Rattle.survey_code.proofs.Outward.{begun_before, over_before}
use Rattle.survey_code.proofs.around.parents_of.Goals as goal

pub open_from-parent-requires-clause-begun : goal.open_from-parent-requires-clause-begun
open_from-parent-requires-clause-begun c = begun_before c.args.table.now c.requires.sorted c.loop-number.number c.loop-number-test.true c.index-table-number.result

pub open_from-parent-requires-clause-over : goal.open_from-parent-requires-clause-over
open_from-parent-requires-clause-over c =
    let at = (get_or c.args.table.now c.loop-number.number c.index-table-number.result).from in
    subst (λ o. AreOver c.args.table.now c.loop-number.number at o) (sym c.phrase_before.ensures) (over_before c.args.table.now c.loop-number.number at)
