use Rattle.std.proofs.Common.{arith}
use Rattle.survey_code.proofs.Outward.{is_first, still_over, shorter, none_first}
use Rattle.survey_code.proofs.around.open_from.Goals as goal

pub returns-then-at-table : goal.returns-then-at-table
returns-then-at-table c =
    let r = c.requires in
    is_first c.args.table.now c.args.parents.now r.table r.sorted r.parents c.args.count c.args.at r.count r.begun c.outward.outer c.outward.invariant c.in-Some.number c.in-Some.is _ c.if-at-table.true

pub outward-smaller : goal.outward-smaller
outward-smaller c =
    let r = c.requires in
    shorter c.args.table.now c.args.parents.now r.table r.sorted r.parents c.args.count c.args.at r.count r.begun c.outward.outer c.outward.invariant c.in-Some.number c.in-Some.is

pub outward-preserved : goal.outward-preserved
outward-preserved c =
    let r = c.requires in
    still_over c.args.table.now c.args.parents.now r.table r.sorted r.parents c.args.count c.args.at r.count r.begun c.outward.outer c.outward.invariant c.in-Some.number c.in-Some.is
    c.index-table-number.result (let l = c.if-at-table.false in omega (arith, l))

pub returns : goal.returns
returns c =
    let r = c.requires in
    none_first c.args.table.now c.args.parents.now r.table r.sorted r.parents c.args.count c.args.at r.count r.begun c.outward.outer c.outward.invariant (λ q e. c.in_default.not-Some q e)
