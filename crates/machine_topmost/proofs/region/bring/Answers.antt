use Rattle.std.proofs.Common.{◌+◌, List, ℕ, get_or, set, ap, ◌∙◌, arith, drop}
use Rattle.std.proofs.lemmas.List.Edits.{paste_none}
use Rattle.machine_topmost.proofs.Copied.{bring_more, brought}
use Rattle.machine_topmost.proofs.region.bring.Goals as goal

pub loop-i-init : goal.loop-i-init
loop-i-init c = paste_none c.args.region.now c.args.to (drop c.args.from c.args.words.now)

pub loop-i-preserved : goal.loop-i-preserved
loop-i-preserved c =
    ap (λ (w : List ℕ). set w (c.args.to + c.loop-i.i) (get_or c.args.words.now (c.args.from + c.loop-i.i) 0)) c.loop-i.invariant
    ∙ bring_more c.args.region.now c.args.words.now c.args.from c.args.to c.args.count c.loop-i.i c.requires.source c.requires.room c.loop-i-test.true

pub returns : goal.returns
returns c = c.loop-i.invariant ∙ brought c.args.region.now c.args.words.now c.args.from c.args.to c.args.count c.loop-i.i c.requires.source (omega arith)
