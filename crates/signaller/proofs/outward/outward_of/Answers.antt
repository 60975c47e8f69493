use Rattle.std.proofs.Common.{◌≡◌, ◌+◌, ◌-◌, sym, ap, ◌∙◌, arith}
use Rattle.signaller.specs.Search.{around, first_of}
use Rattle.signaller.proofs.Asking.{around_here, around_more, around_none, beyond_read}
use Rattle.signaller.proofs.outward.outward_of.Goals as goal

pub loop-back-init : goal.loop-back-init
loop-back-init c =
    ap first_of (beyond_read c.args.outward c.args.table.now (c.args.phrase - 0) c.args.phrase c.index-table-phrase.result (omega arith) c.requires.there)

pub returns-then-covers : goal.returns-then-covers
returns-then-covers c =
    let t = c.loop-back-test.true in let r = c.requires.there in
    sym (ap first_of (around_here c.args.outward c.args.table.now (c.args.phrase - c.loop-back.back) (c.args.phrase - 1 - c.loop-back.back) c.index-table-number.result c.index-table-number.is (omega arith) (omega arith) c.loop-back.about (sym c.if-covers.true ∙ c.covers.ensures))) ∙ c.loop-back.invariant

pub loop-back-preserved : goal.loop-back-preserved
loop-back-preserved c =
    let t = c.loop-back-test.true in let r = c.requires.there in
    let e : c.args.phrase - (c.loop-back.back + 1) ≡ c.args.phrase - 1 - c.loop-back.back = omega arith in
    ap (λ k. first_of (around c.args.outward c.args.table.now k c.passed-about.result)) e
    ∙ (sym (ap first_of (around_more c.args.outward c.args.table.now (c.args.phrase - c.loop-back.back) (c.args.phrase - 1 - c.loop-back.back) c.index-table-number.result c.index-table-number.is (omega arith) (omega arith) c.loop-back.about c.passed-about.result
    (sym c.if-covers.false ∙ c.covers.ensures) c.passed-about.ensures)) ∙ c.loop-back.invariant)

pub returns : goal.returns
returns c = sym (ap first_of (around_none c.args.outward c.args.table.now (c.args.phrase - c.loop-back.back) c.loop-back.about (let t = c.loop-back-test.false in omega arith))) ∙ c.loop-back.invariant
