use Rattle.std.proofs.Common.{Some, sym, ap, ◌∙◌}
use Rattle.signaller.specs.Search.{asked, first_place}
use Rattle.signaller.specs.Sought.{fits, goes_outward}
use Rattle.signaller.proofs.Asking.{asked_none, if_place}
use Rattle.signaller.proofs.outward.place_for.Goals as goal

pub returns-in-Some-clause-there : goal.returns-in-Some-clause-there
returns-in-Some-clause-there c =
    if_place (fits c.args.sought) c.args.table.now (asked (goes_outward c.args.sought) c.args.table.now (Some c.in-Some.number)) c.place_from.result
    (c.place_from.ensures ∙ ap (λ t. first_place (fits c.args.sought) t (asked (goes_outward c.args.sought) t (Some c.in-Some.number))) c.as_slice.ensures)

pub returns-in-None-clause-place : goal.returns-in-None-clause-place
returns-in-None-clause-place c =
    sym (ap (λ o. first_place (fits c.args.sought) c.args.table.now (asked (goes_outward c.args.sought) c.args.table.now o)) c.in-None.is
    ∙ asked_none (goes_outward c.args.sought) (fits c.args.sought) c.args.table.now)
