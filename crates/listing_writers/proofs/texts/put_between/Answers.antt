use Rattle.std.proofs.Common.{arith}
use Rattle.listing_writers.proofs.Turns.{first_yet, between_more}
use Rattle.listing_writers.proofs.texts.put_between.Goals as goal

pub parts-init : goal.parts-init
parts-init g c = first_yet g.T.Listed.text c.args.mark.now c.args.out.now c.args.parts.now

pub parts-preserved : goal.parts-preserved
parts-preserved g c =
    between_more g.T.Listed.text c.args.mark.now c.args.out.now c.parts.out c.put_mark.new.out c.put.new.out c.args.parts.now c.parts.i c.index-parts-i.result (omega arith) c.index-parts-i.is
    c.parts.invariant c.in_ok-put_mark.ensures c.in_ok-put.ensures
