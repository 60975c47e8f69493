use Rattle.std.proofs.Common.{sym, subst, ◌∙◌}
use Rattle.signaller.specs.Search.{enabled_before}
use Rattle.survey_code.specs.Around.{IsHolder}
use Rattle.survey_code.proofs.Holding.{inner_some, outer_some, outer_none}
use Rattle.survey_code.proofs.around.outward_of.Goals as goal

pub returns-in-Some : goal.returns-in-Some
returns-in-Some c =
    let r = c.requires in
    let t = c.args.table.now in
    let h = subst (λ o. IsHolder t c.args.at o) c.in-Some.is c.holder_of.ensures in
    outer_some t r.fills (enabled_before t c.args.count c.args.at) c.args.at c.args.innermost r.innermost (sym c.is_some.ensures ∙ c.if-is_some.false) c.args.beyonds.now r.beyond c.in-Some.phrase
    h (r.held c.in-Some.phrase h)

pub returns-in-None : goal.returns-in-None
returns-in-None c =
    let r = c.requires in
    let t = c.args.table.now in
    outer_none t r.fills (enabled_before t c.args.count c.args.at) c.args.at c.args.innermost r.innermost (sym c.is_some.ensures ∙ c.if-is_some.false)
    (subst (λ o. IsHolder t c.args.at o) c.in-None.is c.holder_of.ensures)

pub returns-then-is_some : goal.returns-then-is_some
returns-then-is_some c =
    let t = c.args.table.now in
    inner_some (enabled_before t c.args.count c.args.at) _ c.args.innermost c.requires.innermost (sym c.is_some.ensures ∙ c.if-is_some.true)
