use Rattle.listing_writers.proofs.Turns.{none_yet, each_more}
use Rattle.listing_writers.proofs.texts.put_each.Goals as goal

pub parts-init : goal.parts-init
parts-init g c = none_yet g.T.Listed.text c.args.out.now c.args.parts.now

pub parts-preserved : goal.parts-preserved
parts-preserved g c =
    each_more g.T.Listed.text c.args.out.now c.parts.out c.put.new.out c.args.parts.now c.parts.part-index c.part-item.result c.parts-test.true c.part-item.is c.parts.invariant c.in_ok-put.ensures
