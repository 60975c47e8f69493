use Rattle.std.proofs.Common.{◌≤◌, length, arith}
use Rattle.code_forms.specs.Routine.{spots}
use Rattle.code_forms.proofs.PhraseOrder.{stand_rise, stand_sorted}
use Rattle.code_forms.proofs.catching.first_fallen.Goals as goal

pub stands-requires-clause-rise : goal.stands-requires-clause-rise
stands-requires-clause-rise c =
    let t = c.loop-number-test.true in
    let most : c.loop-number.number ≤ length c.args.phrases.now = omega arith in
    stand_rise (spots c.args.code.now) c.args.phrases.now c.loop-number.number c.requires.armed most c.loop-number.invariant

pub stands-requires-clause-sorted : goal.stands-requires-clause-sorted
stands-requires-clause-sorted c =
    let t = c.loop-number-test.true in
    let most : c.loop-number.number ≤ length c.args.phrases.now = omega arith in
    stand_sorted (spots c.args.code.now) c.args.phrases.now c.loop-number.number most c.loop-number.invariant
