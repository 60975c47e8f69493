use Rattle.code_forms.proofs.PhraseOrder.{turn, nest_behind}
use Rattle.code_forms.proofs.catching.first_crossing_of.Goals as goal

pub loop-inner-preserved : goal.loop-inner-preserved
loop-inner-preserved c =
    let e = c.next_behind-inner.ensures in let r = c.requires in let i = c.loop-inner.invariant in
    turn c.args.phrases.now c.args.outer c.args.limit c.loop-inner.inner c.next_behind-inner.result _ _ _ r.sorted r.filled r.later i.0 c.loop-inner-test.true r.most
    c.if-phrases-outer.false e.before e.rest i.1

pub returns-else-phrases-inner-clause-nest : goal.returns-else-phrases-inner-clause-nest
returns-else-phrases-inner-clause-nest c =
    let r = c.requires in let i = c.loop-inner.invariant in
    nest_behind c.args.phrases.now c.args.outer c.args.limit c.loop-inner.inner _ _ r.sorted i.0 r.most (λ l. c.if-phrases-inner.false) i.1
