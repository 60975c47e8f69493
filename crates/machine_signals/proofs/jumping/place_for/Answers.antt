use Rattle.std.proofs.Common.{◌≡◌, ◌+◌, ◌-◌, suc, sym, ap, ◌∙◌, arith}
use Rattle.machine_signals.specs.Jumping.{place_in}
use Rattle.machine_signals.proofs.Jumped.{offset_told, place_found, place_more, place_low}
use Rattle.machine_signals.proofs.jumping.place_for.Goals as goal

pub returns-then-has_offset : goal.returns-then-has_offset
returns-then-has_offset c =
    sym (place_found c.args.image.now c.args.stack.now.rows.items (c.args.count - c.loop-back.back) (c.args.count - 1 - c.loop-back.back) c.args.owner c.args.offset
    (let t = c.loop-back-test.true in let e : c.args.count - c.loop-back.back ≡ suc (c.args.count - 1 - c.loop-back.back) = omega (arith, t) in e)
    (sym (offset_told c.args.image.now c.args.stack.now.rows.items (c.args.count - 1 - c.loop-back.back) c.args.owner c.args.offset (c.requires.rows (c.args.count - 1 - c.loop-back.back) (let t = c.loop-back-test.true in omega (arith, t)))
    c.row_of.result c.row_of.ensures c.has_offset.result c.has_offset.ensures) ∙ c.if-has_offset.true)) ∙ c.loop-back.invariant

pub loop-back-preserved : goal.loop-back-preserved
loop-back-preserved c =
    let e : c.args.count - (c.loop-back.back + 1) ≡ c.args.count - 1 - c.loop-back.back = omega arith in
    ap (λ k. place_in c.args.image.now c.args.stack.now.rows.items k c.args.owner c.args.offset) e
    ∙ place_more c.args.image.now c.args.stack.now.rows.items (c.args.count - c.loop-back.back) (c.args.count - 1 - c.loop-back.back) c.args.owner c.args.offset
    (let t = c.loop-back-test.true in let e : c.args.count - c.loop-back.back ≡ suc (c.args.count - 1 - c.loop-back.back) = omega (arith, t) in e)
    (sym (offset_told c.args.image.now c.args.stack.now.rows.items (c.args.count - 1 - c.loop-back.back) c.args.owner c.args.offset (c.requires.rows (c.args.count - 1 - c.loop-back.back) (let t = c.loop-back-test.true in omega (arith, t)))
    c.row_of.result c.row_of.ensures c.has_offset.result c.has_offset.ensures) ∙ c.if-has_offset.false) ∙ c.loop-back.invariant

pub returns : goal.returns
returns c =
    place_low c.args.image.now c.args.stack.now.rows.items (c.args.count - c.loop-back.back) c.args.owner c.args.offset (let t = c.loop-back-test.false in omega (arith, t))
    (λ q less. c.requires.rows q (omega (arith, less))) ∙ c.loop-back.invariant
