use Rattle.std.proofs.Common.{List, Bool, length, sym, ap, subst, ◌∙◌}
use Rattle.survey_code.specs.Endings.{TellReached}
use Rattle.survey_code.proofs.Listing.{surveyed}
use Rattle.survey_code.proofs.survey.survey_by.Goals as goal

pub sites_of-requires-clause-many_marks : goal.sites_of-requires-clause-many_marks
sites_of-requires-clause-many_marks c = ap length c.as_slice-marks.ensures.value ∙ c.in_ok-marked.ensures.count

pub passings_of-requires-clause-count : goal.passings_of-requires-clause-count
passings_of-requires-clause-count c = ap length c.as_slice-marks.ensures.value ∙ c.in_ok-marked.ensures.count

pub returns : goal.returns
returns c =
    let m = c.args.code.now in
    let p = c.args.procedure.now in
    surveyed m c.requires.valid p c.requires.own c.as_slice-marks.result.now c.in_ok-sites.sites c.in_ok-passings.passings
    (subst (λ (xs : List Bool). TellReached m p xs) (sym c.as_slice-marks.ensures.value) c.in_ok-marked.ensures) c.in_ok-sites.ensures c.in_ok-passings.ensures
