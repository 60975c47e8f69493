use Rattle.std.proofs.Common.{◌≡◌, ◌+◌, ◌-◌, sym, ap, ◌∙◌, arith}
use Rattle.signaller.specs.declared.outward.Asked.TheVariants.{Fits, Before}
use Rattle.signaller.specs.Search.{around, first_place}
use Rattle.signaller.specs.Sought.{fits, goes_outward}
use Rattle.signaller.proofs.Asking.{place_answered, place_none}
use Rattle.signaller.proofs.outward.place_around.Goals as goal

pub returns-in-Fits : goal.returns-in-Fits
returns-in-Fits c =
    let t = c.loop-back-test.true in let r = c.requires in
    sym (place_answered (goes_outward c.args.sought) (fits c.args.sought) c.args.table.now (c.args.count - c.loop-back.back) (c.args.count - 1 - c.loop-back.back) c.index-table-number.result c.index-table-number.is (omega arith) (omega arith)
    c.loop-back.about (Fits c.in-Fits.arm) c.in-Fits.ensures) ∙ c.loop-back.invariant

pub loop-back-preserved : goal.loop-back-preserved
loop-back-preserved c =
    let t = c.loop-back-test.true in let r = c.requires in
    let e : c.args.count - (c.loop-back.back + 1) ≡ c.args.count - 1 - c.loop-back.back = omega arith in
    ap (λ k. first_place (fits c.args.sought) c.args.table.now (around (goes_outward c.args.sought) c.args.table.now k c.in-Before.offset)) e
    ∙ (sym (place_answered (goes_outward c.args.sought) (fits c.args.sought) c.args.table.now (c.args.count - c.loop-back.back) (c.args.count - 1 - c.loop-back.back) c.index-table-number.result c.index-table-number.is (omega arith) (omega arith)
    c.loop-back.about (Before c.in-Before.offset) c.in-Before.ensures) ∙ c.loop-back.invariant)

pub returns : goal.returns
returns c =
    sym (place_none (goes_outward c.args.sought) (fits c.args.sought) c.args.table.now (c.args.count - c.loop-back.back) c.loop-back.about (let t = c.loop-back-test.false in omega arith))
    ∙ c.loop-back.invariant
