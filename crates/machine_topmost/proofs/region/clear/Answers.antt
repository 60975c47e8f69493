use Rattle.std.proofs.Common.{◌+◌, List, ℕ, set, ap, ◌∙◌, arith, replicate}
use Rattle.std.proofs.lemmas.List.Edits.{paste_none, fill_from_more}
use Rattle.machine_topmost.proofs.Copied.{cleared}
use Rattle.machine_topmost.proofs.region.clear.Goals as goal

pub loop-i-init : goal.loop-i-init
loop-i-init c = paste_none c.args.region.now c.args.at (replicate 0 0)

pub loop-i-preserved : goal.loop-i-preserved
loop-i-preserved c =
    let room = c.requires in
    let more = c.loop-i-test.true in
    ap (λ (w : List ℕ). set w (c.args.at + c.loop-i.i) 0) c.loop-i.invariant
    ∙ fill_from_more c.args.region.now c.args.at c.loop-i.i 0 (omega arith)

pub returns : goal.returns
returns c = c.loop-i.invariant ∙ cleared c.args.region.now c.args.at c.args.count c.loop-i.i (omega arith)
