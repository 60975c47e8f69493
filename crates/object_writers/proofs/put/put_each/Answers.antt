use Rattle.std.proofs.Common.{◌≡◌, None, subst, sym}
use Rattle.object_writers.proofs.Loops.{none_yet, full_already, one_more}
use Rattle.object_writers.proofs.put.put_each.Goals as goal

pub parts-init : goal.parts-init
parts-init g c = none_yet g.T.Put.spelling c.args.out.now c.args.parts.now

pub returns-then-is_full : goal.returns-then-is_full
returns-then-is_full g c =
    let full : c.parts.out ≡ None = c.is_full.ensures.0 c.if-is_full.true in
    full_already g.T.Put.spelling c.args.out.now c.parts.out c.args.parts.now c.parts.part-index c.parts.invariant full

pub parts-preserved : goal.parts-preserved
parts-preserved g c =
    one_more g.T.Put.spelling c.args.out.now c.parts.out c.put.new.out c.args.parts.now c.parts.part-index c.part-item.result c.parts-test.true c.part-item.is c.parts.invariant c.in_ok-put.ensures

pub put-requires : goal.put-requires
put-requires g c = subst g.T.Put.can_put (sym c.part-item.is) (c.requires c.parts.part-index c.part-item.result c.parts-test.true)
