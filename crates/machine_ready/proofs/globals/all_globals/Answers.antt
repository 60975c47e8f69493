use Rattle.std.proofs.Common.{arith}
use Rattle.machine_ready.proofs.Each.{each_none, each_more}
use Rattle.machine_ready.proofs.Linked.{words_there}
use Rattle.machine_ready.proofs.globals.all_globals.Goals as goal

pub loop-number-init : goal.loop-number-init
loop-number-init c = each_none _ c.new-globals.result.items c.new-globals.ensures.items

pub loop-number-preserved : goal.loop-number-preserved
loop-number-preserved c =
    let words = words_there c.args.image.now c.loop-number.number c.code_of.result.now c.code_of.ensures in
    let long = c.in_ok-vec.ensures.len in let from = c.from-words.ensures in let ok = c.in_ok-vec.field-0.ok in
    each_more _ c.loop-number.number c.loop-number.globals.items c.push.new.self.items c.in_ok-vec.field-0 c.in_ok-push.ensures.items
    (omega (arith, words, long, from, ok)) c.loop-number.invariant

pub returns-clause-each : goal.returns-clause-each
returns-clause-each c j l = c.loop-number.invariant.each j (let t = c.loop-number-test.false in let e = c.len-number-end.ensures in omega (arith, t, e, l))
