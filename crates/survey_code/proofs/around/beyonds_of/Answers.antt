use Rattle.std.proofs.Common.{length, ap, ◌∙◌, arith, [], ◌∷◌, length-append}
use Rattle.survey_code.proofs.Holding.{held_earlier, one_beyond}
use Rattle.survey_code.proofs.around.beyonds_of.Goals as goal

pub outward_of-beyond-requires-clause-held : goal.outward_of-beyond-requires-clause-held
outward_of-beyond-requires-clause-held c q h =
    let e = held_earlier c.args.table.now c.requires.fills c.loop-number.number c.index-table-number.result c.loop-number-test.true q h in
    let v = ap length c.as_slice.ensures.value in
    let n = c.loop-number.invariant.0 in
    omega (arith, e, v, n)

pub loop-number-preserved : goal.loop-number-preserved
loop-number-preserved c =
    let w = c.loop-number.invariant in
    let n = w.0 in
    let long = ap length c.in_ok-push.ensures.items ∙ length-append c.loop-number.beyonds.items (c.outward_of-beyond.result ∷ []) in (
      omega (arith, long, n),
      one_beyond c.args.table.now c.requires.fills c.loop-number.beyonds.items c.push.new.self.items c.outward_of-beyond.result c.loop-number.number c.index-table-number.result n
          c.loop-number-test.true w.1 c.outward_of-beyond.ensures c.in_ok-push.ensures.items,
    )
