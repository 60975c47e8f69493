use Rattle.std.proofs.Common.{◌≡◌, ◌+◌, ◌-◌, length, true, sym, ap, ◌∙◌, arith}
use Rattle.signaller.specs.Search.{around, first_of}
use Rattle.signaller.proofs.Asking.{around_here, around_more, around_none}
use Rattle.machine_signals.proofs.asking.first_around.Goals as goal

pub returns-then-covers : goal.returns-then-covers
returns-then-covers c =
    let t = c.loop-back-test.true in
    sym (ap first_of (around_here true c.args.table.now (length c.args.table.now - c.loop-back.back) (length c.args.table.now - 1 - c.loop-back.back) c.index-table-number.result c.index-table-number.is (omega arith) (omega arith) c.loop-back.about (sym c.if-covers.true ∙ c.covers.ensures))) ∙ c.loop-back.invariant

pub loop-back-preserved : goal.loop-back-preserved
loop-back-preserved c =
    let t = c.loop-back-test.true in
    let e : length c.args.table.now - (c.loop-back.back + 1) ≡ length c.args.table.now - 1 - c.loop-back.back = omega arith in
    ap (λ k. first_of (around true c.args.table.now k c.passed-about.result)) e
    ∙ (sym (ap first_of (around_more true c.args.table.now (length c.args.table.now - c.loop-back.back) (length c.args.table.now - 1 - c.loop-back.back) c.index-table-number.result c.index-table-number.is (omega arith) (omega arith) c.loop-back.about c.passed-about.result
    (sym c.if-covers.false ∙ c.covers.ensures) c.passed-about.ensures)) ∙ c.loop-back.invariant)

pub returns : goal.returns
returns c = sym (ap first_of (around_none true c.args.table.now (length c.args.table.now - c.loop-back.back) c.loop-back.about (let t = c.loop-back-test.false in omega arith))) ∙ c.loop-back.invariant
