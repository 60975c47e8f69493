use Rattle.std.proofs.Common.{◌≡◌, ◌+◌, ◌<◌, List, Some, length, refl, sym, subst, ◌∙◌, arith}
use Rattle.std.specs.Prelude.{slice_get}
use Rattle.code_forms.specs.Around.{routine_around}
use Rattle.code_forms.specs.Marks.{Marked}
use Rattle.code_forms.specs.Routine.{Spot, spots}
use Rattle.code_forms.specs.Valid.{SpotIsRight, FaultAt}
use Rattle.code_forms.proofs.Passing.{same_length, in_order_same, right_more, all_settled, first_fault}
use Rattle.code_forms.proofs.settling.settle_all.Goals as goal

pub settle_one-requires-clause-order : goal.settle_one-requires-clause-order
settle_one-requires-clause-order c = in_order_same c.args.code.now c.loop-number.code (sym c.loop-number.invariant.0) c.requires.order

pub returns-in-Err-clause-err : goal.returns-in-Err-clause-err
returns-in-Err-clause-err c =
    let i = c.loop-number.invariant in
    let t = c.loop-number-test.true in let e = c.len-number-end.ensures in
    let n = same_length c.unsettle.new.code c.args.code.now c.unsettle.ensures.same in
    let less : c.loop-number.number < length c.args.code.now = omega (arith, t, e, n) in
    first_fault (routine_around c.args.around.now (spots c.args.code.now)) c.args.code.now c.loop-number.number c.in-Err.fault refl less c.requires.fill i.1
    (subst (λ (s : List Spot). (spot : Spot) → slice_get s c.loop-number.number ≡ Some spot → FaultAt (routine_around c.args.around.now s) c.loop-number.number spot c.in-Err.fault) i.0 c.in-Err.ensures.err)

pub loop-number-preserved : goal.loop-number-preserved
loop-number-preserved c =
    let i = c.loop-number.invariant in let e = c.in-Ok.ensures in
    let r = routine_around c.args.around.now (spots c.args.code.now) in (
      e.same ∙ i.0,
      right_more r c.loop-number.number i.1
          (subst (λ (s : List Spot). (spot : Spot) → slice_get s c.loop-number.number ≡ Some spot → SpotIsRight (routine_around c.args.around.now s) c.loop-number.number spot) i.0 e.right),
      subst (λ (s : List Spot). Marked (routine_around c.args.around.now s) (c.loop-number.number + 1) (c.loop-number.number + 1) c.settle_one.new.code) i.0 e.marked,
    )

pub returns-clause-right : goal.returns-clause-right
returns-clause-right c j spot l h =
    let i = c.loop-number.invariant in
    let t = c.loop-number-test.false in let e = c.len-number-end.ensures in
    let n = same_length c.unsettle.new.code c.args.code.now c.unsettle.ensures.same in
    i.1 j spot (omega (arith, t, e, n, l)) h

pub returns-clause-depths : goal.returns-clause-depths
returns-clause-depths c =
    let i = c.loop-number.invariant in
    let t = c.loop-number-test.false in let e = c.len-number-end.ensures in let b = c.loop-number.auto.number-end in
    let n = same_length c.unsettle.new.code c.args.code.now c.unsettle.ensures.same in
    let m = same_length c.loop-number.code c.args.code.now i.0 in
    all_settled (routine_around c.args.around.now (spots c.args.code.now)) c.loop-number.code c.loop-number.number (omega (arith, t, e, b, n, m)) i.2
