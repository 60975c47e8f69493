use Rattle.std.proofs.Common.{sym, ◌∙◌}
use Rattle.signaller.specs.Sought.{fits, goes_outward}
use Rattle.signaller.proofs.Asking.{asked_here, asked_further}
use Rattle.signaller.proofs.outward.place_from.Goals as goal

pub returns-in-Some : goal.returns-in-Some
returns-in-Some c =
    sym (asked_here (goes_outward c.args.sought) (fits c.args.sought) c.args.table.now c.args.number c.in-Some.arm c.index-table-number.result c.as_slice.result.now c.index-table-number.is c.requires c.as_slice.ensures
    (sym c.first_fitting.ensures ∙ c.in-Some.is))

pub returns-in-None : goal.returns-in-None
returns-in-None c =
    c.place_around.ensures
    ∙ sym (asked_further (goes_outward c.args.sought) (fits c.args.sought) c.args.table.now c.args.number c.index-table-number.result c.as_slice.result.now c.index-table-number.is c.requires c.as_slice.ensures
    (sym c.first_fitting.ensures ∙ c.in-None.is))
