use Rattle.std.proofs.Common.{◌<◌, length, sym, ◌∙◌, arith}
use Rattle.code_forms.proofs.Whole.{same_count, all_read, valid_more, valid_at, depths_more, first_fault_of}
use Rattle.code_forms.proofs.validation.settle_procedures.Goals as goal

pub settle-requires-clause-there : goal.settle-requires-clause-there
settle-requires-clause-there c =
    let t = c.loop-number-test.true in let e = c.len-number-end.ensures in
    let n = same_count c.loop-number.procedures c.args.procedures.now c.loop-number.invariant.0 in omega (arith, t, e, n)

pub settle-requires-clause-ranges : goal.settle-requires-clause-ranges
settle-requires-clause-ranges c = all_read c.args.procedures.now c.loop-number.procedures (sym c.loop-number.invariant.0) c.requires.ranges

pub loop-number-preserved : goal.loop-number-preserved
loop-number-preserved c =
    let i = c.loop-number.invariant in let e = c.in-Ok.ensures in
    let t = c.loop-number-test.true in let b = c.len-number-end.ensures in
    let n = same_count c.loop-number.procedures c.args.procedures.now i.0 in
    let there : c.loop-number.number < length c.loop-number.procedures = omega (arith, t, b, n) in (
      e.same ∙ i.0,
      valid_more c.args.globals c.args.strings c.args.signals.now c.args.links.now c.args.procedures.now c.loop-number.number i.1
          (valid_at c.args.globals c.args.strings c.args.signals.now c.args.links.now c.args.procedures.now c.loop-number.procedures c.loop-number.number i.0 e.valid there),
      depths_more c.args.globals c.args.strings c.args.signals.now c.args.links.now c.loop-number.procedures c.settle.new.self c.loop-number.number e.same there e.others e.depths i.2,
    )

pub returns-in-Err-clause-err : goal.returns-in-Err-clause-err
returns-in-Err-clause-err c =
    let i = c.loop-number.invariant in
    let t = c.loop-number-test.true in let b = c.len-number-end.ensures in
    let n = same_count c.loop-number.procedures c.args.procedures.now i.0 in
    let there : c.loop-number.number < length c.loop-number.procedures = omega (arith, t, b, n) in
    first_fault_of c.args.globals c.args.strings c.args.signals.now c.args.links.now c.args.procedures.now c.loop-number.procedures c.loop-number.number c.in-Err.fault i.0 there i.1 c.in-Err.ensures.err

pub returns-clause-valid : goal.returns-clause-valid
returns-clause-valid c n p l e =
    let t = c.loop-number-test.false in let b = c.len-number-end.ensures in c.loop-number.invariant.1 n p (omega (arith, t, b, l)) e
