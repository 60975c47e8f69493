use Rattle.code_forms.proofs.PhraseOrder.{crossing_more}
use Rattle.code_forms.proofs.catching.first_crossing.Goals as goal

pub loop-back-preserved : goal.loop-back-preserved
loop-back-preserved c =
    let e = c.first_crossing_of-limit.ensures in let i = c.loop-back.invariant in
    crossing_more c.args.phrases.now c.loop-back.back c.loop-back.limit c.first_crossing_of-limit.result c.loop-back-test.true i.0 e.bound i.1 i.2 e.nest e.crosses
